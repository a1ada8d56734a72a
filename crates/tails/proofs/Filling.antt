-- The pass over the blocks, from the last in a topological order to the first. A slot has what its edge gives to the tail of the loop of depth d
-- around its block, and none where there is no such loop (`slot_in`, `slot_out`). Assumes nothing.
use Rattle.std.proofs.Common.{◌≡◌, refl, sym, ◌∙◌, ap, Bool, true, false, not, ◌&&◌, true≢false, List, ℕ, suc, ◌+◌, ◌-◌, ◌≤◌, ◌<◌, min, arith, eqb, ltb, ℤ, pos, length, get_or, set}
use mathlib.Core.Bool.{and-false}
use mathlib.Core.Option.{Option, none, some}
use native.Mathlib.Decide.{ℕ_discrete, dec_le}
use borrow.Author.Tests.{eq-eqb, ne_eqb, lt-ltb, le-ltb}
use lib.Seq.{get_or-set_same, get_or-set_other}
use Rattle.limits.specs.Limits.{most_blocks}
use Rattle.lists.specs.Search.{when◌then◌else◌}
use Rattle.lists.proofs.Tests.{and-true}
use Rattle.wcet.specs.Table.{Routine, block_count, loop_count, exit, missing, cost, loop_of, first, second, header, edge, inside, is_header}
use Rattle.wcet.specs.Cycles.{back_edge, forward_edge}
use Rattle.wcet.proofs.Nesting.{Nested, first_edge, second_edge}
use Rattle.wcet.proofs.Around.{header_of}
use Rattle.loopsets.specs.Sets.{Parents}
use Rattle.order.specs.Ordering.{Topological}
use Rattle.levels.specs.Levels.{depth}
use Rattle.levels.proofs.Laws.{around_own, depth_root, depth_least, depth_one, depth_inner, deeper_above, at_depth}
use Rattle.optimum.specs.Tails.{best, more, weight, via, tail_at}
use Rattle.optimum.specs.Columns.{tails}
use Rattle.optimum.proofs.Local.{Tailed, Ranked}
use Rattle.optimum.proofs.Structure.{inside_whole, back_to, enters_above}
use Rattle.optimum.proofs.Steps.{enough_steps}
use Rattle.tails.specs.Words.{most_tail, word_of, greater_of, cap, more_capped}
use Rattle.tails.specs.Slots.{nowhere, slot_by_sets}
use Rattle.tails.specs.Passes.{closed, PassOf, tail_in, TailsIn}
use Rattle.tails.proofs.Words.{word_greater}
use Rattle.tails.proofs.Capped.{more_capped_lem, more_none, best_capped}
use Rattle.tails.proofs.Passes.{passed_nested, passed_parents, passed_loops, passed_few_blocks, passed_cost, back_same}

-- the value of block x after its weight is added, by its loop of depth d
abbrev value_at : Routine → (d l x : ℕ) → Option ℕ
value_at t d l x = when closed t d x then none else cap most_tail (more (weight t x) (tails t l x))

-- the value of block x is right
pub record Says (t : Routine) (d : ℕ) (values : List ℤ) (x : ℕ) : Type 0 where
  pub within : (l : ℕ) → l < loop_count t → inside t x l ≡ true → depth t.parents l ≡ d → word_of (get_or values x (pos 0)) ≡ value_at t d l x
  pub without : depth t.parents (loop_of t x) < d → word_of (get_or values x (pos 0)) ≡ none

-- the blocks from index i of the order up have their values
abbrev pub Done : Routine → (d : ℕ) → (order : List ℕ) (values : List ℤ) → ℕ → Type 0
Done t d order values i = (j : ℕ) → i ≤ j → j < block_count t → Says t d values (get_or order j 0)

-- for every routine and depth that the pass may be about, the blocks from place i of the order up have their values
abbrev pub Filling : (weights : List ℤ) (firstSlots secondSlots order : List ℕ) (n : ℕ) (old values : List ℤ) → ℕ → Type 0
Filling weights firstSlots secondSlots order n old values i =
    (t : Routine) (d : ℕ) (sets : List ℕ) → block_count t ≡ n → PassOf t d sets weights firstSlots secondSlots order old → 1 ≤ d → Done t d order values i

module _ (t : Routine) (d : ℕ) (sets : List ℕ) (weights : List ℤ) (firstSlots secondSlots order : List ℕ) (old : List ℤ) (Q : PassOf t d sets weights firstSlots secondSlots order old) where
  abbrev n : ℕ
  n = block_count t

  abbrev m : ℕ
  m = loop_count t

  abbrev depth_of : ℕ → ℕ
  depth_of l = depth t.parents l

  N : Nested t
  N = passed_nested t Q.passed

  P : Parents t.parents
  P = passed_parents t Q.passed

  O : Topological t order
  O = Q.ordered

  -- ---- depths

  -- a loop around block x is not deeper than its innermost
  depth_around : (x l : ℕ) → x < n → l < m → inside t x l ≡ true → depth_of l ≤ depth_of (loop_of t x)
  unfolding inside
  depth_around x l b h i = go (ℕ_discrete (loop_of t x) l)
    where
      go : Dec (loop_of t x ≡ l) → depth_of l ≤ depth_of (loop_of t x)
      go (yes e) = omega (arith, ap depth_of e)
      go (no ne) = omega (arith, depth_inner t.parents P (loop_of t x) l (N.innermost x b) h i ne)

  -- the loops around block x have different depths
  only_one : (x k l : ℕ) → x < n → inside t x k ≡ true → inside t x l ≡ true → depth_of k ≡ depth_of l → k ≡ l
  unfolding inside
  only_one x k l b i j e =
      omega (arith, deeper_above t.parents P (loop_of t x) k l (N.innermost x b) i j (omega arith), deeper_above t.parents P (loop_of t x) l k (N.innermost x b) j i (omega arith))

  own_inside : (x : ℕ) → inside t x (loop_of t x) ≡ true
  unfolding inside
  own_inside x = around_own t.parents m (loop_of t x)

  -- ---- the equations of the tails

  target : (u v : ℕ) → u < n → forward_edge t u v ≡ true → v < n
  unfolding forward_edge
  target u v b e = N.target u v b (and-true (edge t u v) (not (back_edge t u v)) e).0

  is_forward : (u v : ℕ) → edge t u v ≡ true → back_edge t u v ≡ false → forward_edge t u v ≡ true
  unfolding forward_edge
  is_forward u v e r = rw (e, r)

  by_order : Ranked t
  by_order = record {
    rank = λ u. n - 1 - O.position u;
    falls = λ u v b e. omega (arith, O.rises u v b e, O.within u b, O.within v (target u v b e));
  }

  tailed : Tailed t (tails t)
  unfolding by_order
  tailed = enough_steps t N by_order n (λ x b. omega (arith, O.within x b))

  -- ---- slots

  module _ (least : 1 ≤ d) (values : List ℤ) (same : (i : ℕ) → n ≤ i → get_or values i (pos 0) ≡ get_or old i (pos 0)) where
    gate_at_lem : (k : ℕ) → k < m → word_of (get_or values (most_blocks + k) (pos 0)) ≡ (when eqb (depth_of k) d then (when eqb k 0 then some 0 else some (cost t (header t k))) else none)
    gate_at_lem k h = ap word_of (same (most_blocks + k) (omega (arith, passed_few_blocks t Q.passed))) ∙ Q.gates.gate k h

    nothing : word_of (get_or values nowhere (pos 0)) ≡ none
    nothing = ap word_of (same nowhere (omega (arith, passed_few_blocks t Q.passed))) ∙ Q.gates.empty

    module _ (x v : ℕ) (b : x < n) (e : edge t x v ≡ true) where
      c : v < n
      c = N.target x v b e

      -- a forward edge within a loop of depth d leads to no closed block
      open_inside : (l : ℕ) → l < m → inside t x l ≡ true → inside t v l ≡ true → depth_of l ≡ d → back_edge t x v ≡ false → closed t d v ≡ false
      unfolding closed inside
      open_inside l h i j q r = go (is_header t v) refl
        where
          go : (y : Bool) → is_header t v ≡ y → (y && not (eqb (loop_of t v) 0) && not (ltb d (depth_of (loop_of t v)))) ≡ false
          go false y = refl
          go true y =
              let a : l < loop_of t v = enters_above t N x v b e l h i j y r in
              rw (lt-ltb d (depth_of (loop_of t v)) (omega (arith, q, depth_inner t.parents P (loop_of t v) l (N.innermost v c) h j (λ z. omega arith)))) (and-false (not (eqb (loop_of t v) 0)))

      -- one that enters a loop of depth d does
      closed_entered : (l : ℕ) → l < m → inside t v l ≡ true → inside t x l ≡ false → depth_of l ≡ d → closed t d v ≡ true
      unfolding closed
      closed_entered l h j i q =
          let a : header t l ≡ v = N.at_header x v l b e h j i in
          let k : l ≡ loop_of t v = header_of t N l v h a in
          let z : loop_of t v ≡ 0 → ⊥ = λ z. true≢false (sym (inside_whole t N x b) ∙ ap (inside t x) (sym (k ∙ z)) ∙ i) in
          rw (eq-eqb (header t (loop_of t v)) v (ap (header t) (sym k) ∙ a), ne_eqb (loop_of t v) 0 z, le-ltb d (depth_of (loop_of t v)) (omega (arith, q, ap depth_of k)))

      -- so no value comes from a loop of depth d that x is not inside of
      none_there : Says t d values v → ((l : ℕ) → l < m → inside t v l ≡ true → depth_of l ≡ d → inside t x l ≡ false) → word_of (get_or values v (pos 0)) ≡ none
      unfolding inside
      none_there S out = go (dec_le d (depth_of (loop_of t v)))
        where
          go : Dec (d ≤ depth_of (loop_of t v)) → word_of (get_or values v (pos 0)) ≡ none
          go (yes h) =
              let (l, low, j, q) = at_depth t.parents P (loop_of t v) d (N.innermost v c) least h in
              S.within l low j q ∙ rw (closed_entered l low j (out l low j q) q)
          go (no h) = S.without (omega arith)

    module _ (x v : ℕ) (b : x < n) (present : eqb v missing ≡ false → edge t x v ≡ true) (later : forward_edge t x v ≡ true → Says t d values v) where
      abbrev slot : Bool → Bool → ℕ
      slot gone r = when gone then nowhere else when r then most_blocks + loop_of t v else v

      slot_same : (gone : Bool) → eqb v missing ≡ gone → slot_by_sets sets t.loops t.headers x v ≡ slot gone (back_edge t x v)
      unfolding slot_by_sets
      slot_same true q = rw q
      slot_same false q = rw (q, back_same t Q.passed sets Q.sets_around_lem x v b (N.target x v b (present q)))

      -- what the edge gives to the loop of depth d around x
      pub slot_in : (l : ℕ) → l < m → inside t x l ≡ true → depth_of l ≡ d
          → word_of (get_or values (slot_by_sets sets t.loops t.headers x v) (pos 0)) ≡ cap most_tail (via t l (tails t l) x v)
      unfolding via cap
      slot_in l h i q = go (eqb v missing) refl (back_edge t x v) refl
        where
          back : edge t x v ≡ true → back_edge t x v ≡ true → Dec (depth_of (loop_of t v) ≡ d)
              → word_of (get_or values (most_blocks + loop_of t v) (pos 0))
              ≡ cap most_tail (when not (inside t v l) then none else when not (eqb l 0) && eqb v (header t l) then some (cost t v) else none)
          back e r (yes same-depth) =
              let (z, at, own) = back_to t N x v b e r in
              let k : loop_of t v ≡ l = only_one x (loop_of t v) l b own i (same-depth ∙ sym q) in
              let j : inside t v l ≡ true = ap (inside t v) (sym k) ∙ own_inside v in
              let low : min most_tail (cost t v) ≡ cost t v = omega (arith, passed_cost t Q.passed v (N.target x v b e)) in
              gate_at_lem (loop_of t v) (N.innermost v (N.target x v b e))
              ∙ rw (eq-eqb (depth_of (loop_of t v)) d same-depth, ne_eqb (loop_of t v) 0 (λ e. omega arith), at, j, ne_eqb l 0 (λ e. omega (arith, k)), eq-eqb v (header t l) (sym at ∙ ap (header t) k)) (ap some (sym low))
          back e r (no other) =
              gate_at_lem (loop_of t v) (N.innermost v (N.target x v b e))
              ∙ rw (ne_eqb (depth_of (loop_of t v)) d other, ne_eqb v (header t l) (λ at. other (ap depth_of (sym (header_of t N l v h (sym at))) ∙ q)), and-false (not (eqb l 0)))
              (both (inside t v l))
            where
              both : (y : Bool) → none ≡ cap most_tail (when not y then none else none)
              both true = refl
              both false = refl

          forward : edge t x v ≡ true → back_edge t x v ≡ false → (y : Bool) → inside t v l ≡ y → word_of (get_or values v (pos 0)) ≡ cap most_tail (when not y then none else more (weight t v) (tails t l v))
          forward e r true j = (later (is_forward x v e r)).within l h j q ∙ rw (open_inside x v b e l h i j q r)
          forward e r false j = none_there x v b e (later (is_forward x v e r)) (λ k low a p. out k a p (inside t x k) refl)
            where
              out : (k : ℕ) → inside t v k ≡ true → depth_of k ≡ d → (y : Bool) → inside t x k ≡ y → y ≡ false
              out k a p true w = absurd (true≢false (sym a ∙ ap (inside t v) (only_one x k l b w i (p ∙ sym q)) ∙ j))
              out k a p false w = refl

          go : (gone : Bool) → eqb v missing ≡ gone → (r : Bool) → back_edge t x v ≡ r
              → word_of (get_or values (slot_by_sets sets t.loops t.headers x v) (pos 0)) ≡ cap most_tail (via t l (tails t l) x v)
          go true gone r back_is = rw (slot_same true gone, gone) nothing
          go false gone true back_is = rw (slot_same false gone, gone, back_is) (back (present gone) back_is (ℕ_discrete (depth_of (loop_of t v)) d))
          go false gone false back_is = rw (slot_same false gone, gone, back_is) (forward (present gone) back_is (inside t v l) refl)

      -- nothing where there is no such loop
      pub slot_out : depth_of (loop_of t x) < d → word_of (get_or values (slot_by_sets sets t.loops t.headers x v) (pos 0)) ≡ none
      slot_out high = go (eqb v missing) refl (back_edge t x v) refl
        where
          out : (k : ℕ) → k < m → depth_of k ≡ d → (y : Bool) → inside t x k ≡ y → y ≡ false
          out k low p true w = absurd (omega (arith, depth_around x k b low w))
          out k low p false w = refl

          go : (gone : Bool) → eqb v missing ≡ gone → (r : Bool) → back_edge t x v ≡ r → word_of (get_or values (slot_by_sets sets t.loops t.headers x v) (pos 0)) ≡ none
          go true gone r back_is = rw (slot_same true gone) nothing
          go false gone true back_is =
              let e : edge t x v ≡ true = present gone in
              let k : loop_of t v < m = N.innermost v (N.target x v b e) in
              let ne : depth_of (loop_of t v) ≡ d → ⊥ = λ p. omega (arith, depth_around x (loop_of t v) b k (back_to t N x v b e back_is).2) in
              rw (slot_same false gone, back_is) (gate_at_lem (loop_of t v) k ∙ rw (ne_eqb (depth_of (loop_of t v)) d ne))
          go false gone false back_is =
              let e : edge t x v ≡ true = present gone in
              rw (slot_same false gone, back_is) (none_there x v b e (later (is_forward x v e back_is)) (λ k low a p. out k low p (inside t x k) refl))

    -- ---- the tail at block x

    module _ (x : ℕ) (b : x < n) (later : (v : ℕ) → forward_edge t x v ≡ true → Says t d values v) where
      abbrev one : ℤ
      one = get_or values (get_or firstSlots x 0) (pos 0)

      abbrev two : ℤ
      two = get_or values (get_or secondSlots x 0) (pos 0)

      exit_is : exit t ≡ length t.loops - 1
      exit_is = ap (λ (k : ℕ). k - 1) (sym (passed_loops t Q.passed))

      exit_gate : x ≡ exit t → (word_of one ≡ (when eqb 1 d then some 0 else none)) × (word_of two ≡ (when eqb 1 d then some 0 else none))
      exit_gate e =
          let g : word_of (get_or values most_blocks (pos 0)) ≡ (when eqb 1 d then some 0 else none) = rw (depth_root t.parents P) at (gate_at_lem 0 N.some_loop) in
          let f : get_or firstSlots x 0 ≡ most_blocks = ap (λ (k : ℕ). get_or firstSlots k 0) (e ∙ exit_is) ∙ Q.first_slots.at_exit in
          let s : get_or secondSlots x 0 ≡ most_blocks = ap (λ (k : ℕ). get_or secondSlots k 0) (e ∙ exit_is) ∙ Q.second_slots.at_exit in
          (rw f g, rw s g)

      first_slot : (x ≡ exit t → ⊥) → get_or firstSlots x 0 ≡ slot_by_sets sets t.loops t.headers x (first t x)
      first_slot ne = Q.first_slots.each x (omega (arith, passed_loops t Q.passed)) (λ q. ne (q ∙ sym exit_is))

      second_slot : (x ≡ exit t → ⊥) → get_or secondSlots x 0 ≡ slot_by_sets sets t.loops t.headers x (second t x)
      second_slot ne = Q.second_slots.each x (omega (arith, passed_loops t Q.passed)) (λ q. ne (q ∙ sym exit_is))

      -- no edge leads on from the exit
      via_exit : (l v : ℕ) → x ≡ exit t → (eqb v missing ≡ false → edge t x v ≡ true) → via t l (tails t l) x v ≡ none
      unfolding via
      via_exit l v e present = go (eqb v missing) refl
        where
          go : (gone : Bool) → eqb v missing ≡ gone → via t l (tails t l) x v ≡ none
          go true gone = rw gone
          go false gone = absurd (N.exit_ends v (rw e at (present gone)))

      pub tail_in_lem : (l : ℕ) → l < m → inside t x l ≡ true → depth_of l ≡ d → word_of (greater_of one two) ≡ cap most_tail (tails t l x)
      unfolding tail_at
      tail_in_lem l h i q = word_greater one two ∙ go (ℕ_discrete x (exit t)) (ℕ_discrete l 0) ∙ ap (cap most_tail) (sym (tailed l x h b i))
        where
          go : Dec (x ≡ exit t) → Dec (l ≡ 0) → best ltb (word_of one) (word_of two) ≡ cap most_tail (tail_at t l (tails t l) x)
          go (yes e) (yes z) =
              let p : 1 ≡ d = sym (depth_root t.parents P) ∙ ap depth_of (sym z) ∙ q in
              rw ((exit_gate e).0, (exit_gate e).1, eq-eqb 1 d p, eq-eqb l 0 z, eq-eqb x (exit t) e) (unfold best cap in refl)
          go (yes e) (no nz) =
              let p : 1 ≡ d → ⊥ = λ p. nz (depth_one t.parents P l h (q ∙ sym p)) in
              rw ((exit_gate e).0, (exit_gate e).1, ne_eqb 1 d p, ne_eqb l 0 nz, via_exit l (first t x) e (first_edge t x), via_exit l (second t x) e (second_edge t x)) (unfold best cap in refl)
          go (no ne) z =
              rw (first_slot ne, second_slot ne, ne_eqb x (exit t) ne, and-false (eqb l 0), slot_in x (first t x) b (first_edge t x) (later (first t x)) l h i q, slot_in x (second t x) b (second_edge t x) (later (second t x)) l h i q)
              (best_capped most_tail (via t l (tails t l) x (first t x)) (via t l (tails t l) x (second t x)))

      pub tail_out : depth_of (loop_of t x) < d → word_of (greater_of one two) ≡ none
      tail_out high = word_greater one two ∙ go (ℕ_discrete x (exit t))
        where
          go : Dec (x ≡ exit t) → best ltb (word_of one) (word_of two) ≡ none
          go (yes e) =
              let p : 1 ≡ d → ⊥ = λ p. omega (arith, depth_least t.parents P (loop_of t x)) in
              rw ((exit_gate e).0, (exit_gate e).1, ne_eqb 1 d p) (unfold best in refl)
          go (no ne) =
              rw (first_slot ne, second_slot ne, slot_out x (first t x) b (first_edge t x) (later (first t x)) high, slot_out x (second t x) b (second_edge t x) (later (second t x)) high)
              (unfold best in refl)

    -- ---- the pass

    -- the blocks that the forward edges of the block at place i lead to stand later
    later_says : (i : ℕ) → i < n → Done t d order values (suc i) → (v : ℕ) → forward_edge t (get_or order i 0) v ≡ true → Says t d values v
    later_says i h done v e =
        let y : get_or order i 0 < n = O.block i h in
        let w : v < n = target (get_or order i 0) v y e in
        rw (O.there v w) at (done (O.position v) (omega (arith, O.rises (get_or order i 0) v y e, O.index i h)) (O.within v w))

    pub done_set : n ≤ length values → (i : ℕ) → i < n → Done t d order values (suc i) → (v w : ℤ)
        → v ≡ tail_in firstSlots secondSlots values (get_or order i 0) → word_of w ≡ more_capped most_tail (word_of (get_or weights (get_or order i 0) (pos 0))) (word_of v)
        → Done t d order (set values (get_or order i 0) w) i
    done_set size i h done v w tail sum j a b = go (ℕ_discrete j i)
      where
        x : ℕ
        x = get_or order i 0

        here : x < n
        here = O.block i h

        e : word_of w ≡ more_capped most_tail (word_of (get_or weights x (pos 0))) (word_of (tail_in firstSlots secondSlots values x))
        e = rw tail at sum

        kept : get_or (set values x w) x (pos 0) ≡ w
        kept = get_or-set_same values x w (pos 0) (omega (arith, here))

        own : (l : ℕ) → l < m → inside t x l ≡ true → depth_of l ≡ d → (y : Bool) → closed t d x ≡ y
            → word_of w ≡ (when y then none else cap most_tail (more (weight t x) (tails t l x)))
        own l low k q true y = e ∙ rw (Q.weights_say.says x here, y) (unfold more_capped in refl)
        own l low k q false y =
            e ∙ rw (Q.weights_say.says x here, y, tail_in_lem x here (later_says i h done) l low k q) (more_capped_lem most_tail (weight t x) (tails t l x))

        said : Says t d (set values x w) x
        said = record {
          within = λ l low k q. ap word_of kept ∙ own l low k q (closed t d x) refl;
          without = λ high. ap word_of kept ∙ e ∙ rw (tail_out x here (later_says i h done) high) (more_none most_tail (word_of (get_or weights x (pos 0))));
        }

        go : Dec (j ≡ i) → Says t d (set values x w) (get_or order j 0)
        go (yes q) = rw q said
        go (no ne) =
            let apart : get_or order j 0 ≡ x → ⊥ = λ q. ne (sym (O.index j b) ∙ ap O.position q ∙ O.index i h) in
            let kept : get_or (set values x w) (get_or order j 0) (pos 0) ≡ get_or values (get_or order j 0) (pos 0) = get_or-set_other values x (get_or order j 0) w (pos 0) apart in
            let S : Says t d values (get_or order j 0) = done j (omega (arith, ne)) b in
            record { within = λ l low k q. ap word_of kept ∙ S.within l low k q; without = λ high. ap word_of kept ∙ S.without high }

    pub done_all : Done t d order values 0 → TailsIn t d firstSlots secondSlots values
    done_all done x l b low k q = tail_in_lem x b (λ v e. rw (O.there v (target x v b e)) at (done (O.position v) (omega arith) (O.within v (target x v b e)))) l low k q
