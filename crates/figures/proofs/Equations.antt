-- The remade figures are figures by the slots: with the gates of the remade columns, the greater of the values in a block's slots is its remade
-- figure (`remade_equations`). Assumes nothing.
use Rattle.std.proofs.Common.{◌≡◌, refl, sym, ◌∙◌, ap, Bool, true, false, not, ◌&&◌, true≢false, List, ◌⊎◌, inl, inr, ℕ, ◌+◌, ◌*◌, ◌^◌, ◌≤◌, ◌<◌, arith, eqb, ltb, ℤ, pos, ◌+ℤ◌, get_or, ◌≤ℤ◌}
use native.Mathlib.Decide.{ℕ_discrete}
use borrow.Author.Tests.{eqb-true, not-true, lt-ltb, ltb-false, le-ltb}
use lib.Signed.{lt_z}
use Rattle.integers.proofs.Laws.{ints, sum}
use Rattle.limits.specs.Limits.{most_blocks, most_loops}
use Rattle.lists.proofs.Tests.{either, and-true}
use Rattle.lists.proofs.Search.{none_of}
use Rattle.wcet.specs.Table.{Routine, block_count, loop_count, exit, missing, loop_of, first, second, header, some_edge, edge, inside}
use Rattle.wcet.specs.Cycles.{back_edge, undeclared_loop}
use Rattle.wcet.specs.Rules.{structure_rules}
use Rattle.wcet.specs.Claim.{AllHold}
use Rattle.wcet.proofs.Nesting.{Nested, nested, first_edge, second_edge}
use Rattle.loopsets.specs.Sets.{sets_around}
use Rattle.nesting.specs.Columns.{Headed}
use Rattle.nesting.proofs.Stages.{headed}
use Rattle.order.specs.Ordering.{Topological}
use Rattle.optimum.specs.Remade.{AllPaths}
use Rattle.optimum.specs.Tails.{weight}
use Rattle.optimum.specs.Columns.{tails, remade_multipliers, remultiplied, remade_figures}
use Rattle.optimum.specs.Replies.{multiplier_over}
use Rattle.optimum.proofs.Structure.{target_loop, back_to}
use Rattle.optimum.proofs.Filled.{figure_least}
use Rattle.optimum.proofs.Remade.{remultiplied_nested, made_figure}
use Rattle.optimum.proofs.Edges.{asks, figure_exit, figure_most, figure_attained}
use Rattle.tails.specs.Words.{greater_of}
use Rattle.tails.specs.Slots.{nowhere, SlotsOf}
use Rattle.tails.proofs.Words.{greater_first, greater_second}
use Rattle.multipliers.specs.Columns.{MultipliedOf}
use Rattle.figures.specs.Figures.{no_figure}
use Rattle.figures.specs.Columns.{GatesOf, slot_value, Equations}
use Rattle.figures.proofs.Slots.{Slot, slot, slot_exit}

-- one of two that is not below the other is the greater
greatest : (f a b : ℤ) → a ≤ℤ f → b ≤ℤ f → (f ≡ a) ⊎ (f ≡ b) → f ≡ greater_of a b
greatest f a b p q (inl e) = rw e (greater_first a b (omega ints))
greatest f a b p q (inr e) = go (lt_z a b) refl
  where
    go : (l : Bool) → lt_z a b ≡ l → f ≡ greater_of a b
    go true l = e ∙ greater_second a b (omega ints)
    go false l = let d : f ≡ a = omega ints in d ∙ greater_first a b (omega ints)

module _ (t : Routine) (rules : AllHold (structure_rules t)) (declared : undeclared_loop t ≡ false) (paths : AllPaths t)
    (sets : List ℕ) (around-sets : sets ≡ sets_around t.parents) (order : List ℕ) (O : Topological t order)
    (made : List ℕ) (weights kept : List ℤ) (M : MultipliedOf t false made weights kept) (gates : List ℤ) (G : GatesOf t gates) where
  abbrev n : ℕ
  n = block_count t

  N : Nested t
  N = nested t rules

  H' : Headed t
  H' = headed t rules

  abbrev F : ℕ → ℤ
  F x = get_or (remade_figures t) x (pos 0)

  abbrev value : ℕ → ℤ
  value s = slot_value F n weights gates s

  few_blocks : n ≤ most_blocks
  few_blocks = H'.ranged.sized.few_blocks

  few_loops : loop_count t ≤ most_loops
  few_loops = H'.ranged.sized.few_loops

  -- a gate is no block
  at_gate : (s : ℕ) → most_blocks ≤ s → value s ≡ get_or gates s (pos 0)
  at_gate s h = rw (le-ltb s n (omega (arith, few_blocks)))

  at_nowhere : value nowhere ≡ no_figure
  at_nowhere = at_gate nowhere (omega arith) ∙ G.empty

  at_exit_gate : value most_blocks ≡ pos 0
  at_exit_gate = at_gate most_blocks (omega arith) ∙ G.exit_gate

  low : (l : ℕ) → l < loop_count t → get_or (remade_multipliers t) l 0 ≤ 2 ^ 40
  unfolding multiplier_over
  low l b = ltb-false (2 ^ 40) (get_or (remade_multipliers t) l 0) (none_of (loop_count t) (λ l. ltb (2 ^ 40) (get_or (remade_multipliers t) l 0)) (sym M.tested) l b)

  -- every figure is over a number that is none
  over_none : (x : ℕ) → x < n → no_figure ≤ℤ F x
  over_none x b =
      let p : pos 0 ≤ℤ (F x +ℤ pos (2 ^ 40 * loop_count t))
      = figure_least (remultiplied t) (remultiplied_nested t N declared) (tails (remultiplied t)) (2 ^ 40) low (loop_count t) x (F x) (omega arith) b (made_figure t N declared paths x b) in
      omega (ints, few_loops, sum (F x) (pos (2 ^ 40 * loop_count t)))

  -- ---- one edge

  module _ (x v : ℕ) (b : x < n) (e : edge t x v ≡ true) where
    c : v < n
    c = N.target x v b e

    asked_back : back_edge t x v ≡ true → value (most_blocks + loop_of t v) ≡ asks t x v
    unfolding asks
    asked_back r =
        let p : (0 < loop_of t v) × (header t (loop_of t v) ≡ v) × (inside t x (loop_of t v) ≡ true) = back_to t N x v b e r in
        let k : loop_of t v < loop_count t = target_loop t N x v b e in
        at_gate (most_blocks + loop_of t v) (omega arith) ∙ G.gate (loop_of t v) p.0 k ∙ rw (r, p.1)

    asked_on : back_edge t x v ≡ false → value v ≡ asks t x v
    unfolding asks
    asked_on r =
        let w : get_or weights v (pos 0) ≡ pos (weight (remultiplied t) v) = M.weighed refl v c in
        rw (lt-ltb v n c, r, w) (omega (ints, sum (F v) (pos (weight (remultiplied t) v)), sum (pos (weight (remultiplied t) v)) (F v)))

  -- ---- the slots of a column of successors

  module _ (next slots : List ℕ) (S : SlotsOf sets t.loops t.headers next slots)
      (edges : (x : ℕ) → eqb (get_or next x 0) missing ≡ false → edge t x (get_or next x 0) ≡ true) where
    slot_of : (x : ℕ) → x < n → (x ≡ exit t → ⊥) → Slot t x (get_or next x 0) (get_or slots x 0)
    slot_of = slot t rules sets around-sets order O next slots S edges

    slot_most : (x : ℕ) → x < n → (x ≡ exit t → ⊥) → value (get_or slots x 0) ≤ℤ F x
    slot_most x b ne = go (slot_of x b ne)
      where
        go : Slot t x (get_or next x 0) (get_or slots x 0) → value (get_or slots x 0) ≤ℤ F x
        go (inl p) = rw (p.1, at_nowhere) (over_none x b)
        go (inr (e, inl p)) = rw (p.1, asked_back x (get_or next x 0) b e p.0) (figure_most t N declared paths x (get_or next x 0) b e)
        go (inr (e, inr p)) = rw (p.1, asked_on x (get_or next x 0) b e p.0) (figure_most t N declared paths x (get_or next x 0) b e)

    slot_attained : (x : ℕ) → x < n → (x ≡ exit t → ⊥) → eqb (get_or next x 0) missing ≡ false → value (get_or slots x 0) ≡ asks t x (get_or next x 0)
    slot_attained x b ne there = go (slot_of x b ne)
      where
        go : Slot t x (get_or next x 0) (get_or slots x 0) → value (get_or slots x 0) ≡ asks t x (get_or next x 0)
        go (inl p) = absurd (true≢false (sym p.0 ∙ there))
        go (inr (e, inl p)) = rw p.1 (asked_back x (get_or next x 0) b e p.0)
        go (inr (e, inr p)) = rw p.1 (asked_on x (get_or next x 0) b e p.0)

  -- ---- both slots

  module _ (firstSlots secondSlots : List ℕ)
      (S₁ : SlotsOf sets t.loops t.headers t.firsts firstSlots) (S₂ : SlotsOf sets t.loops t.headers t.seconds secondSlots) where
    abbrev Attained : ℕ → Type 0
    Attained x = (F x ≡ value (get_or firstSlots x 0)) ⊎ (F x ≡ value (get_or secondSlots x 0))

    attained : (x v : ℕ) → x < n → (x ≡ exit t → ⊥) → edge t x v ≡ true → F x ≡ asks t x v → Attained x
    unfolding edge some_edge
    attained x v b ne e q = go (either (not (eqb (first t x) missing) && eqb (first t x) v) (not (eqb (second t x) missing) && eqb (second t x) v) e)
      where
        go : ((not (eqb (first t x) missing) && eqb (first t x) v) ≡ true) ⊎ ((not (eqb (second t x) missing) && eqb (second t x) v) ≡ true) → Attained x
        go (inl p) =
            let r = and-true (not (eqb (first t x) missing)) (eqb (first t x) v) p in
            inl (q ∙ ap (asks t x) (sym (eqb-true (first t x) v r.1)) ∙ sym (slot_attained t.firsts firstSlots S₁ (first_edge t) x b ne (not-true (eqb (first t x) missing) r.0)))
        go (inr p) =
            let r = and-true (not (eqb (second t x) missing)) (eqb (second t x) v) p in
            inr (q ∙ ap (asks t x) (sym (eqb-true (second t x) v r.1)) ∙ sym (slot_attained t.seconds secondSlots S₂ (second_edge t) x b ne (not-true (eqb (second t x) missing) r.0)))

    pub remade_equations : Equations (λ x. get_or (remade_figures t) x (pos 0)) (block_count t) weights firstSlots secondSlots gates
    remade_equations x b = at (ℕ_discrete x (exit t))
      where
        at : Dec (x ≡ exit t) → F x ≡ greater_of (value (get_or firstSlots x 0)) (value (get_or secondSlots x 0))
        at (yes q) =
            rw (q, slot_exit t rules sets around-sets order O t.firsts firstSlots S₁ (first_edge t), slot_exit t rules sets around-sets order O t.seconds secondSlots S₂ (second_edge t), at_exit_gate)
            (figure_exit t N declared paths ∙ greater_first (pos 0) (pos 0) (omega ints))
        at (no ne) =
            let f = figure_attained t N declared paths x b ne in
            greatest (F x) (value (get_or firstSlots x 0)) (value (get_or secondSlots x 0))
            (slot_most t.firsts firstSlots S₁ (first_edge t) x b ne) (slot_most t.seconds secondSlots S₂ (second_edge t) x b ne)
            (attained x f.0 b ne f.1 f.2)
