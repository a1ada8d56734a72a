-- A list of rules refuses with its first broken rule at the lowest place, and passes exactly where each rule holds at each of its places.
-- So a pair of tables is accepted exactly where none of 201 to 209 is broken (`replies_exactly`). Assumes nothing.
use mathlib.Core.Path.{◌≡◌, refl, ◌∙◌, ap}
use mathlib.Core.Logic.{◌↔◌, ◌⊎◌, inl, inr, ⊎_elim}
use mathlib.Core.List.{List, [], ◌∷◌, ◌++◌, append_assoc}
use Rattle.std.specs.Prelude.{Option, Some, None}
use Prim.Native.Nat.{ℕ, ◌<◌}
use mathlib.Core.Bool.{Bool, true}
use native.Mathlib.Omega.{arith}
use Rattle.lists.specs.Search.{first_below}
use Rattle.lists.proofs.Search.{Lowest, not_found, none_found, found, found_lowest}
use Rattle.wcet.specs.Table.{Routine}
use Rattle.wcet.specs.Cycles.{undeclared_loop, ClosedWalk}
use Rattle.wcet.specs.Rules.{Reply, accepted, refused, Rule, refused_at, check, inequality_rule, undeclared_rule, structure_rules, table_rules, bound, table_reply}
use Rattle.wcet.specs.Claim.{Holds, AllHold, FirstBroken, RepliesExactly}
use Rattle.wcet.proofs.Nesting.{nested}
use Rattle.wcet.proofs.Cycles.{closed_exactly}

-- ---- one rule: how a checker comes to its reply. A rule that is broken decides, one that holds hands on.

module _ {A : Type 0} (r : Rule) (rs : List Rule) (passed : Reply A) where
  pub decides : (p : ℕ) → Lowest r.places r.broken p → check (r ∷ rs) passed ≡ refused r.number p
  unfolding check
  decides p l = rw (found r.places r.broken p l)

  pub hands_on : Holds r → check (r ∷ rs) passed ≡ check rs passed
  unfolding check
  hands_on h = rw (none_found r.places r.broken h)

-- ---- a list of rules

pub all_append : (rs qs : List Rule) → AllHold (rs ++ qs) → AllHold rs × AllHold qs
all_append [] qs h = (tt, h)
all_append (r ∷ rs) qs h = let q : AllHold rs × AllHold qs = all_append rs qs h.1 in ((h.0, q.0), q.1)

pub append_all : (rs qs : List Rule) → AllHold rs → AllHold qs → AllHold (rs ++ qs)
append_all [] qs h k = k
append_all (r ∷ rs) qs h k = (h.0, append_all rs qs h.1 k)

-- where these rules hold, the later ones decide
pub past_all : {A : Type 0} (rs qs : List Rule) (passed : Reply A) → AllHold rs → check (rs ++ qs) passed ≡ check qs passed
past_all [] qs passed h = refl
past_all (r ∷ rs) qs passed h = hands_on r (rs ++ qs) passed h.0 ∙ past_all rs qs passed h.1

unrefused : {A : Type 0} (n : ℕ) (o : Option ℕ) (rest : Reply A) (a : A) → refused_at n o rest ≡ accepted a → (o ≡ None) × (rest ≡ accepted a)
unrefused n None rest a e = (refl, e)
unrefused n (Some p) rest a e = absurd (let z : ◌≡◌ {A = ℕ} 0 1 = cc in omega arith)

pub passes : {A : Type 0} (rs : List Rule) (passed : Reply A) (a : A) → check rs passed ≡ accepted a → AllHold rs × (passed ≡ accepted a)
unfolding check
passes [] passed a e = (tt, e)
passes (r ∷ rs) passed a e =
    let q : (first_below r.places r.broken ≡ None) × (check rs passed ≡ accepted a) = unrefused r.number (first_below r.places r.broken) (check rs passed) a e in
    let rest : AllHold rs × (passed ≡ accepted a) = passes rs passed a q.1 in
    ((not_found r.places r.broken q.0, rest.0), rest.1)

pub all_pass : {A : Type 0} (rs : List Rule) (passed : Reply A) → AllHold rs → check rs passed ≡ passed
unfolding check
all_pass [] passed h = refl
all_pass (r ∷ rs) passed h = hands_on r rs passed h.0 ∙ all_pass rs passed h.1

-- a refusal is by a rule of the list, or by what comes after all of them
pub first_broken : {A : Type 0} (rs : List Rule) (passed : Reply A) (n p : ℕ) → check rs passed ≡ refused n p → FirstBroken rs n p ⊎ (passed ≡ refused n p)
unfolding check
first_broken [] passed n p e = inr e
first_broken (r ∷ rs) passed n p e = go (first_below r.places r.broken) refl e (first_broken rs passed n p)
  where
    go : (o : Option ℕ) → first_below r.places r.broken ≡ o → refused_at r.number o (check rs passed) ≡ refused n p
        → (check rs passed ≡ refused n p → FirstBroken rs n p ⊎ (passed ≡ refused n p)) → FirstBroken (r ∷ rs) n p ⊎ (passed ≡ refused n p)
    go (Some q) o e rest =
        let q≡p : q ≡ p = cc in
        let l : Lowest r.places r.broken p = found_lowest r.places r.broken p (o ∙ ap Some q≡p) in
        inl (record {
          before = [];
          rule = r;
          later = rs;
          order = refl;
          earlier = tt;
          named = cc;
          there = l.below;
          breaks = l.passes;
          lowest = l.lower;
        })
    go None o e rest =
        ⊎_elim (λ b. inl (record {
          before = r ∷ b.before;
          rule = b.rule;
          later = b.later;
          order = ap (λ (qs : List Rule). r ∷ qs) b.order;
          earlier = (not_found r.places r.broken o, b.earlier);
          named = b.named;
          there = b.there;
          breaks = b.breaks;
          lowest = b.lowest;
        })) (λ q. inr q) (rest e)

pub broken_refuses : {A : Type 0} (rs : List Rule) (passed : Reply A) (n p : ℕ) → FirstBroken rs n p → check rs passed ≡ refused n p
broken_refuses rs passed n p b =
    rw b.order
    (past_all b.before (b.rule ∷ b.later) passed b.earlier
    ∙ decides b.rule b.later passed p (record { below = b.there; passes = b.breaks; lower = b.lowest })
    ∙ ap (λ (k : ℕ). refused k p) b.named)

-- the rules in the words of `RepliesExactly`, where a list that none breaks is accepted with a
module _ {A : Type 0} (rs : List Rule) (a : A) where
  pub accepted_exactly : (b : A) → (check rs (accepted a) ≡ accepted b) ↔ (AllHold rs × (a ≡ b))
  accepted_exactly b = (
    λ e. let q : AllHold rs × (accepted a ≡ accepted b) = passes rs (accepted a) b e in (q.0, cc q.1),
    λ h. all_pass rs (accepted a) h.0 ∙ ap accepted h.1,
  )

  pub refused_exactly : (n p : ℕ) → (check rs (accepted a) ≡ refused n p) ↔ FirstBroken rs n p
  refused_exactly n p = (
    λ e. ⊎_elim (λ b. b) (λ q. absurd (let z : ◌≡◌ {A = ℕ} 0 1 = cc in omega arith)) (first_broken rs (accepted a) n p e),
    broken_refuses rs (accepted a) n p,
  )

-- a refusal stands whatever rules follow
pub refused_append : {A B : Type 0} (rs qs : List Rule) (a : A) (passed : Reply B) (n p : ℕ) → check rs (accepted a) ≡ refused n p → check (rs ++ qs) passed ≡ refused n p
refused_append rs qs a passed n p e = go ((refused_exactly rs a n p).0 e)
  where
    go : FirstBroken rs n p → check (rs ++ qs) passed ≡ refused n p
    go b = broken_refuses (rs ++ qs) passed n p (record {
      before = b.before;
      rule = b.rule;
      later = b.later ++ qs;
      order = ap (λ (xs : List Rule). xs ++ qs) b.order ∙ append_assoc b.before (b.rule ∷ b.later) qs;
      earlier = b.earlier;
      named = b.named;
      there = b.there;
      breaks = b.breaks;
      lowest = b.lowest;
    })

-- where two lists give one reply, they do behind the same rules
pub behind : {A : Type 0} (rs qs ps : List Rule) (passed : Reply A) → check qs passed ≡ check ps passed → check (rs ++ qs) passed ≡ check (rs ++ ps) passed
unfolding check
behind [] qs ps passed e = e
behind (r ∷ rs) qs ps passed e = ap (refused_at r.number (first_below r.places r.broken)) (behind rs qs ps passed e)

-- the order of two rules does not matter where one of them holds
pub exchanged : {A : Type 0} (r q : Rule) (rs : List Rule) (passed : Reply A) → Holds r → check (r ∷ q ∷ rs) passed ≡ check (q ∷ r ∷ rs) passed
unfolding check
exchanged r q rs passed h = rw (none_found r.places r.broken h)

-- a refusal with the number of one rule alone: the rules before it hold, and it is broken there and at no lower place
module _ (n : ℕ) where
  -- no rule has this number
  abbrev pub Unnumbered : List Rule → Type 0
  Unnumbered [] = Unit {0}
  Unnumbered (r ∷ rs) = (r.number ≡ n → ⊥) × Unnumbered rs

  other_number : {A : Type 0} (rs : List Rule) (a : A) (p : ℕ) → Unnumbered rs → check rs (accepted a) ≡ refused n p → ⊥
  unfolding check
  other_number [] a p u e = let z : ◌≡◌ {A = ℕ} 0 1 = cc in omega arith
  other_number {A} (r ∷ rs) a p u e = go (first_below r.places r.broken) e (other_number rs a p u.1)
    where
      go : (o : Option ℕ) → refused_at {A = A} r.number o (check rs (accepted a)) ≡ refused n p → (check rs (accepted a) ≡ refused n p → ⊥) → ⊥
      go (Some i) e rest = u.0 cc
      go None e rest = rest e

  pub numbered_broken : {A : Type 0} (rs : List Rule) (r : Rule) (qs : List Rule) (a : A) (p : ℕ) → Unnumbered rs → Unnumbered qs
      → check (rs ++ r ∷ qs) (accepted a) ≡ refused n p → AllHold rs × Lowest r.places r.broken p
  unfolding check
  numbered_broken {A} [] r qs a p u v e = (tt, go (first_below r.places r.broken) refl e)
    where
      go : (o : Option ℕ) → first_below r.places r.broken ≡ o → refused_at {A = A} r.number o (check qs (accepted a)) ≡ refused n p → Lowest r.places r.broken p
      go (Some q) f e = let there : q ≡ p = cc in found_lowest r.places r.broken p (f ∙ ap Some there)
      go None f e = absurd (other_number qs a p v e)
  numbered_broken {A} (q ∷ rs) r qs a p u v e = go (first_below q.places q.broken) refl e (numbered_broken rs r qs a p u.1 v)
    where
      go : (o : Option ℕ) → first_below q.places q.broken ≡ o → refused_at {A = A} q.number o (check (rs ++ r ∷ qs) (accepted a)) ≡ refused n p
          → (check (rs ++ r ∷ qs) (accepted a) ≡ refused n p → AllHold rs × Lowest r.places r.broken p) → (Holds q × AllHold rs) × Lowest r.places r.broken p
      go (Some i) f e rest = absurd (u.0 cc)
      go None f e rest = let s = rest e in ((not_found q.places q.broken f, s.0), s.1)

  -- and the rule has one place
  pub once_exactly : {A : Type 0} (rs : List Rule) (b : Bool) (qs : List Rule) (a : A) (p : ℕ) → Unnumbered rs → Unnumbered qs
      → (check (rs ++ record { number = n; places = 1; broken = λ _. b } ∷ qs) (accepted a) ≡ refused n p) ↔ ((p ≡ 0) × AllHold rs × (b ≡ true))
  once_exactly rs b qs a p u v = (
    λ e.
        let q = numbered_broken rs rule qs a p u v e in
        let l = q.1.below in
        (omega arith, q.0, q.1.passes),
    λ h.
        let z : p ≡ 0 = h.0 in
        rw z (past_all rs (rule ∷ qs) (accepted a) h.1 ∙ decides rule qs (accepted a) 0 (record { below = omega arith; passes = h.2; lower = λ j b. absurd (omega arith) })),
  )
    where
      rule : Rule
      rule = record { number = n; places = 1; broken = λ _. b }

-- ---- the two tables

module _ (t : Routine) where
  -- 201 to 207 are numbers below 208
  pub structure_unnumbered : (n : ℕ) → 207 < n → Unnumbered n (structure_rules t)
  unfolding structure_rules
  structure_unnumbered n h = (λ e. omega arith, (λ e. omega arith, (λ e. omega arith, (λ e. omega arith, (λ e. omega arith, (λ e. omega arith, (λ e. omega arith, tt)))))))

  -- the test of 209 is exact
  closed_walks : AllHold (structure_rules t) → (undeclared_loop t ≡ true) ↔ ClosedWalk t
  closed_walks h = closed_exactly t (nested t h).target

  -- 209 after 201 to 207, in the words of document 02: whatever rules follow
  pub undeclared_exactly : {A : Type 0} (qs : List Rule) (a : A) (p : ℕ) → Unnumbered 209 qs
      → (check (structure_rules t ++ undeclared_rule t ∷ qs) (accepted a) ≡ refused 209 p) ↔ ((p ≡ 0) × AllHold (structure_rules t) × ClosedWalk t)
  undeclared_exactly qs a p v =
      let once = once_exactly 209 (structure_rules t) (undeclared_loop t) qs a p (structure_unnumbered 209 (omega arith)) v in
      (λ e. let q = once.0 e in (q.0, q.1, (closed_walks q.1).0 q.2), λ h. once.1 (h.0, h.1, (closed_walks h.1).1 h.2))

pub replies_exactly : (t : Routine) → RepliesExactly t
unfolding table_reply table_rules
replies_exactly t = record {
  accepts = accepted_exactly (table_rules t) (bound t);
  refuses = refused_exactly (table_rules t) (bound t);
  closed = closed_walks t;
  undeclared = λ p. undeclared_exactly t (inequality_rule t ∷ []) (bound t) p (λ e. omega arith, tt);
}
