-- Linear arithmetic over ℤ by omega: each fact about integers is one about their parts `up` and `dn`, which are natural numbers.
-- `omega (ints, sum a b, diff c d, times k z)` proves an order or an equation of integers from the orders and equations in scope, with
-- `sum a b` for each sum a +ℤ b, `diff a b` for each difference a -ℤ b and `times k z` for each product pos k *ℤ z that stands in
-- them. The products k * up z and k * dn z are atoms to it. Assumes nothing.
use mathlib.Core.Path.{◌≡◌, refl, sym, ap, ◌∙◌, subst}
use mathlib.Core.Bool.{Bool, true, false, not, cond}
use Prim.Native.Nat.{ℕ, zero, suc, ◌+◌, ◌-◌, ◌*◌, ◌≤◌, ◌<◌, min}
use native.Mathlib.Omega.{arith}
use native.Mathlib.Nat.{lt_of_not-le, le_of_suc-le-suc}
use lib.Dec.{T, ltb, leb→le, le→leb, ltb→lt, lt→ltb, nltb→le}
use lib.IntN.{ℤ, pos, negsuc, neg_ℤ, sub_ℕ, ◌+ℤ◌, ◌-ℤ◌, ◌*ℤ◌}
use lib.Signed.{mag, le_z, lt_z, ◌≤ℤ◌, ◌<ℤ◌}
use Rattle.integers.specs.Parts.{up, dn}

-- ---- the order
pub le_parts : {a b : ℤ} → a ≤ℤ b → up a + dn b ≤ up b + dn a
le_parts {a} {b} h = go a b h.le
  where
    go : (a b : ℤ) → T (le_z a b) → up a + dn b ≤ up b + dn a
    go (pos a) (pos b) t = omega (arith, leb→le a b t)
    go (pos a) (negsuc b) t = absurd t
    go (negsuc a) (pos b) t = omega arith
    go (negsuc a) (negsuc b) t = omega (arith, leb→le b a t)

pub parts_le : {a b : ℤ} → up a + dn b ≤ up b + dn a → a ≤ℤ b
parts_le {a} {b} h = record { le = go a b h }
  where
    go : (a b : ℤ) → up a + dn b ≤ up b + dn a → T (le_z a b)
    go (pos a) (pos b) h = le→leb a b (omega arith)
    go (pos a) (negsuc b) h = absurd (omega arith)
    go (negsuc a) (pos b) h = tt
    go (negsuc a) (negsuc b) h = le→leb b a (omega arith)

pub lt_parts : {a b : ℤ} → a <ℤ b → up a + dn b < up b + dn a
lt_parts {a} {b} h = go a b h.lt
  where
    go : (a b : ℤ) → T (lt_z a b) → up a + dn b < up b + dn a
    go (pos a) (pos b) t = omega (arith, ltb→lt a b t)
    go (pos a) (negsuc b) t = absurd t
    go (negsuc a) (pos b) t = omega arith
    go (negsuc a) (negsuc b) t = omega (arith, ltb→lt b a t)

pub parts_lt : {a b : ℤ} → up a + dn b < up b + dn a → a <ℤ b
parts_lt {a} {b} h = record { lt = go a b h }
  where
    go : (a b : ℤ) → up a + dn b < up b + dn a → T (lt_z a b)
    go (pos a) (pos b) h = lt→ltb a b (omega arith)
    go (pos a) (negsuc b) h = absurd (omega arith)
    go (negsuc a) (pos b) h = tt
    go (negsuc a) (negsuc b) h = lt→ltb b a (omega arith)

pub eq_parts : {a b : ℤ} → a ≡ b → up a + dn b ≡ up b + dn a
eq_parts {a} {b} e = ap (λ (z : ℤ). up a + dn z) (sym e) ∙ ap (λ (z : ℤ). up z + dn a) e

pub parts_eq : {a b : ℤ} → up a + dn b ≡ up b + dn a → a ≡ b
parts_eq {a} {b} e = go a b e
  where
    go : (a b : ℤ) → up a + dn b ≡ up b + dn a → a ≡ b
    go (pos a) (pos b) e = ap pos (omega arith)
    go (pos a) (negsuc b) e = absurd (omega arith)
    go (negsuc a) (pos b) e = absurd (omega arith)
    go (negsuc a) (negsuc b) e = ap negsuc (omega arith)

-- ---- the tests, as a branch of the code leaves them and as a definition has them
is_true : (b : Bool) → T b → b ≡ true
is_true true t = refl
is_true false t = absurd t

to_T : {b : Bool} → b ≡ true → T b
to_T e = subst T (sym e) tt

pub le_z_true : (a b : ℤ) → le_z a b ≡ true → up a + dn b ≤ up b + dn a
le_z_true a b e = le_parts {a = a} {b = b} (record { le = to_T e })

pub true_le_z : (a b : ℤ) → up a + dn b ≤ up b + dn a → le_z a b ≡ true
true_le_z a b h = is_true (le_z a b) (parts_le {a = a} {b = b} h).le

pub lt_z_true : (a b : ℤ) → lt_z a b ≡ true → up a + dn b < up b + dn a
lt_z_true a b e = lt_parts {a = a} {b = b} (record { lt = to_T e })

pub true_lt_z : (a b : ℤ) → up a + dn b < up b + dn a → lt_z a b ≡ true
true_lt_z a b h = is_true (lt_z a b) (parts_lt {a = a} {b = b} h).lt

both : {b : Bool} → b ≡ true → b ≡ false → ⊥
both p q = subst T q (to_T p)

is_false : (b : Bool) → (b ≡ true → ⊥) → b ≡ false
is_false true n = absurd (n refl)
is_false false n = refl

pub le_z_false : (a b : ℤ) → le_z a b ≡ false → up b + dn a < up a + dn b
le_z_false a b e = lt_of_not-le (λ h. both (true_le_z a b h) e)

pub false_le_z : (a b : ℤ) → up b + dn a < up a + dn b → le_z a b ≡ false
false_le_z a b h = is_false (le_z a b) (λ e. omega (arith, le_z_true a b e))

pub lt_z_false : (a b : ℤ) → lt_z a b ≡ false → up b + dn a ≤ up a + dn b
lt_z_false a b e = le_of_suc-le-suc (lt_of_not-le (λ h. both (true_lt_z a b h) e))

pub false_lt_z : (a b : ℤ) → up b + dn a ≤ up a + dn b → lt_z a b ≡ false
false_lt_z a b h = is_false (lt_z a b) (λ e. omega (arith, lt_z_true a b e))

-- ---- sums and differences
pub record Sum (a b s : ℤ) : Type 0 where
  pub whole : up s + (dn a + dn b) ≡ up a + up b + dn s
  pub above : up s ≤ up a + up b
  pub beneath : dn s ≤ dn a + dn b

cond_ind : (c : Bool) (x y : ℤ) (P : ℤ → Type 0) → (T c → P x) → (T (not c) → P y) → P (cond c x y)
cond_ind true x y P f g = f tt
cond_ind false x y P f g = g tt

sub_parts : (a b : ℕ) (s : ℤ) → sub_ℕ a b ≡ s → (up s + b ≡ a + dn s) × (up s ≤ a) × (dn s ≤ b)
sub_parts a b s e =
    subst (λ (z : ℤ). (up z + b ≡ a + dn z) × (up z ≤ a) × (dn z ≤ b)) e
    (cond_ind (ltb a b) (negsuc (b - suc a)) (pos (a - b)) (λ z. (up z + b ≡ a + dn z) × (up z ≤ a) × (dn z ≤ b))
    (λ t. omega (arith, ltb→lt a b t)) (λ t. omega (arith, nltb→le a b t)))

pub sum : (a b : ℤ) → Sum a b (a +ℤ b)
sum (pos a) (pos b) = omega arith
sum (pos a) (negsuc b) = let h = sub_parts a (suc b) (sub_ℕ a (suc b)) refl in omega arith
sum (negsuc a) (pos b) = let h = sub_parts b (suc a) (sub_ℕ b (suc a)) refl in omega arith
sum (negsuc a) (negsuc b) = omega arith

pub record Diff (a b s : ℤ) : Type 0 where
  pub whole : up s + (dn a + up b) ≡ up a + dn b + dn s
  pub above : up s ≤ up a + dn b
  pub beneath : dn s ≤ dn a + up b

neg_up : (a : ℤ) → up (neg_ℤ a) ≡ dn a
neg_up (pos zero) = refl
neg_up (pos (suc n)) = refl
neg_up (negsuc n) = refl

neg_dn : (a : ℤ) → dn (neg_ℤ a) ≡ up a
neg_dn (pos zero) = refl
neg_dn (pos (suc n)) = refl
neg_dn (negsuc n) = refl

pub diff : (a b : ℤ) → Diff a b (a -ℤ b)
diff a b = omega (arith, sum a (neg_ℤ b), neg_up b, neg_dn b)

-- ---- a product whose first factor is a natural number
pub times : (k : ℕ) (z : ℤ) → up (pos k *ℤ z) + k * dn z ≡ k * up z + dn (pos k *ℤ z)
times k (pos n) = omega arith
times k (negsuc n) = omega (arith, neg_up (pos (k * suc n)), neg_dn (pos (k * suc n)))

-- ---- the magnitude, and that one of the parts is 0
pub record Size (z : ℤ) : Type 0 where
  pub most : mag z ≤ up z + dn z
  pub up_least : up z ≤ mag z
  pub dn_least : dn z ≤ mag z + 1
  pub apart : min (up z) (dn z) ≡ 0

pub size : (z : ℤ) → Size z
size (pos n) = omega arith
size (negsuc n) = omega arith

pub ruleset ints = (arith, le_parts, parts_le, lt_parts, parts_lt, eq_parts, parts_eq, le_z_true, le_z_false, lt_z_true, lt_z_false, true_le_z, false_le_z, true_lt_z, false_lt_z)

-- the test and the order that it decides
pub le_z_le : (a b : ℤ) → le_z a b ≡ true → a ≤ℤ b
le_z_le a b e = omega ints
