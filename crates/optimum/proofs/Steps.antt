-- Tails in steps. Followed for as many edges as the ranks allow they keep the equations (`enough_steps`): a block's tail reads only those of
-- the blocks that its forward edges lead to. Those of loop l read the multipliers of the loops inside l only, and not l's own
-- (`tails_inner`), so that the multipliers can be made from the highest loop down, or from the innermost loops out. Assumes nothing.
use mathlib.Core.Path.{◌≡◌, refl}
use mathlib.Core.Bool.{Bool, true, false, not, ◌&&◌}
use mathlib.Core.List.{List}
use mathlib.Core.Option.{Option, none, some}
use Prim.Native.Nat.{ℕ, zero, suc, ◌+◌, ◌*◌, ◌-◌, ◌<◌}
use native.Mathlib.Omega.{arith}
use lib.Dec.{eqb}
use borrow.Author.Tests.{eqb-true}
use lib.IntN.{ℤ}
use lib.ListN.{get_or}
use Rattle.lists.specs.Search.{when◌then◌else◌}
use Rattle.wcet.specs.Table.{Routine, block_count, loop_count, missing, cost, loop_of, first, second, header, limit, multiplier, edge, inside, is_header}
use Rattle.wcet.specs.Cycles.{back_edge, forward_edge}
use Rattle.wcet.proofs.Nesting.{Nested, first_edge, second_edge}
use Rattle.optimum.specs.Remade.{with_columns}
use Rattle.optimum.specs.Tails.{more, weight, via, tail_at, tail_by}
use Rattle.optimum.proofs.Local.{Tailed, Ranked}
use Rattle.optimum.proofs.Structure.{target_loop, enters_above}

-- two functions agree where x's tail of loop l reads them
abbrev pub Agree : {A : Type 0} → Routine → ℕ → ℕ → (ℕ → A) → (ℕ → A) → Type 0
Agree t l x f g = (v : ℕ) → edge t x v ≡ true → inside t v l ≡ true → back_edge t x v ≡ false → f v ≡ g v

-- and two tables that differ in figures and multipliers only
module _ (t : Routine) (fs : List ℤ) (ks : List ℕ) (l x : ℕ) (f g : ℕ → Option ℕ) (weights : Agree t l x (weight t) (weight (with_columns t fs ks)))
    (agree : Agree t l x f g) where
  via_same : (v : ℕ) → (eqb v missing ≡ false → edge t x v ≡ true) → via t l f x v ≡ via (with_columns t fs ks) l g x v
  unfolding via back_edge inside
  via_same v e = go (eqb v missing) (inside t v l) (back_edge t x v) e refl refl
    where
      go : (m i r : Bool) → (m ≡ false → edge t x v ≡ true) → inside t v l ≡ i → back_edge t x v ≡ r
          → (when m then none else when not i then none else when r then (when not (eqb l 0) && eqb v (header t l) then some (cost t v) else none) else more (weight t v) (f v))
          ≡ (when m then none else when not i then none else when r then (when not (eqb l 0) && eqb v (header t l) then some (cost t v) else none) else more (weight (with_columns t fs ks) v) (g v))
      go true i r e p q = refl
      go false false r e p q = refl
      go false true true e p q = refl
      go false true false e p q = rw (weights v (e refl) p q, agree v (e refl) p q)

  tail_same : tail_at t l f x ≡ tail_at (with_columns t fs ks) l g x
  unfolding tail_at
  tail_same = rw (via_same (first t x) (first_edge t x), via_same (second t x) (second_edge t x))

module _ (t : Routine) (N : Nested t) (l : ℕ) where
  -- steps that are not needed change nothing
  steps_same : (K : Ranked t) (d e x : ℕ) → K.rank x < d → K.rank x < e → x < block_count t → tail_by t d l x ≡ tail_by t e l x
  unfolding tail_by
  steps_same K zero e x h k b = absurd (omega arith)
  steps_same K (suc d) zero x h k b = absurd (omega arith)
  steps_same K (suc d) (suc e) x h k b =
      tail_same t t.figures t.multipliers l x (tail_by t d l) (tail_by t e l) (λ v q i r. refl)
      (λ v q i r. let f : K.rank v < K.rank x = K.falls x v b (unfold forward_edge in rw (q, r)) in steps_same K d e v (omega arith) (omega arith) (N.target x v b q))

  -- the multipliers that loop l's tails read are those of the loops inside l, but not l's own
  module _ (m : l < loop_count t) (fs : List ℤ) (ks : List ℕ) (inner : (k : ℕ) → k < loop_count t → inside t (header t k) l ≡ true → (k ≡ l → ⊥) → multiplier t k ≡ get_or ks k 0) where
    weight_inner : (x v : ℕ) → x < block_count t → inside t x l ≡ true → edge t x v ≡ true → inside t v l ≡ true → back_edge t x v ≡ false
        → weight t v ≡ weight (with_columns t fs ks) v
    unfolding weight
    weight_inner x v b i e j r = go (is_header t v) refl
      where
        k : ℕ
        k = loop_of t v

        go : (h : Bool) → is_header t v ≡ h
            → (when h then cost t v + multiplier t k * (limit t k - 1) else cost t v) ≡ (when h then cost t v + get_or ks k 0 * (limit t k - 1) else cost t v)
        go true h =
            let a : l < k = enters_above t N x v b e l m i j h r in
            rw (inner k (target_loop t N x v b e) (rw (eqb-true (header t k) v h) j) (λ q. omega arith))
        go false h = refl

    pub tails_inner : (d x : ℕ) → x < block_count t → inside t x l ≡ true → tail_by t d l x ≡ tail_by (with_columns t fs ks) d l x
    unfolding tail_by
    tails_inner zero x b i = refl
    tails_inner (suc d) x b i =
        tail_same t fs ks l x (tail_by t d l) (tail_by (with_columns t fs ks) d l) (λ v. weight_inner x v b i)
        (λ v e j r. tails_inner d v (N.target x v b e) j)

pub enough_steps : (t : Routine) → Nested t → (K : Ranked t) (n : ℕ) → ((x : ℕ) → x < block_count t → K.rank x < n) → Tailed t (tail_by t n)
unfolding tail_by
enough_steps t N K n h l x m b i = steps_same t N l K n (suc n) x (h x b) (omega (arith, h x b)) b
