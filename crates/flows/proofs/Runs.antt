-- Every finished counted run is a solution of the program, at its own cost (`runs_are_flows`). Assumes nothing.
use mathlib.Core.Path.{◌≡◌, refl, sym, ◌∙◌, ap}
use mathlib.Core.Bool.{Bool, true, false, not, ◌&&◌, false≢true}
use mathlib.Core.List.{List, [], ◌∷◌}
use Prim.Native.Nat.{ℕ, ◌+◌, ◌-◌, ◌≤◌, ◌<◌}
use native.Mathlib.Omega.{arith}
use lib.Dec.{eqb}
use borrow.Author.Tests.{eqb-true, eq-eqb, ne_eqb}
use lib.IntN.{ℤ, pos, neg_ℤ, ◌+ℤ◌, ◌-ℤ◌, +ℤ_invr, neg_ℤ-+ℤ, neg_ℤ-neg_ℤ}
use lib.ListN.{length, get_or}
use lib.Signed.{◌≤ℤ◌}
use Rattle.lists.specs.Search.{when◌then◌else◌}
use Rattle.lists.proofs.Tests.{and-true}
use Rattle.integers.proofs.Laws.{ints, sum, diff, times}
use Rattle.wcet.specs.Table.{Routine, block_count, loop_count, exit, cost, header, limit, edge, inside}
use Rattle.wcet.specs.Run.{path, State, start, next_count, next, after, passes_limit, keeps_limits, counted_run, run_cost}
use Rattle.wcet.proofs.Nesting.{Nested, nested}
use Rattle.wcet.proofs.Entry.{inside_0}
use Rattle.wcet.proofs.Limits.{keeps_each, counted_parts}
use Rattle.wcet.proofs.Counts.{header_inside}
use Rattle.mps.specs.Program.{RowName, objective, block, loop, one, number, right_side, program_of}
use Rattle.flows.specs.Flow.{row_value, same_row, flow_cost, flow_of, RunIsFlow, RunsAreFlows}
use Rattle.flows.proofs.Rows.{RowOf, in_row, row_value_lem, right_block, Met, each_solution}
use Rattle.flows.proofs.Steps.{steps, sum_taken}

-- ---- the numbers of a row, added up along a path

-- COST: the cost of the blocks after the first, negated
cost_steps : (t : Routine) (w : List ℕ) (u : ℕ) → steps (in_row t objective) u w ≡ neg_ℤ (pos (run_cost t w))
unfolding steps number run_cost
cost_steps t [] u = refl
cost_steps t (v ∷ w) u = ap (λ (z : ℤ). neg_ℤ (pos (cost t v)) +ℤ z) (cost_steps t w v) ∙ sym (neg_ℤ-+ℤ (pos (cost t v)) (pos (run_cost t w)))

-- a block: the number of an edge from the first block of the path to the last
joined : (x y z : ℤ) → x -ℤ y +ℤ (y -ℤ z) ≡ x -ℤ z
joined x y z = omega (ints, diff x y, diff y z, diff x z, sum (x -ℤ y) (y -ℤ z))

block_steps : (t : Routine) (b : ℕ) (w : List ℕ) (u : ℕ) → steps (in_row t (block b)) u w ≡ in_row t (block b) u (get_or (u ∷ w) (length w) 0)
unfolding steps number
block_steps t b [] u = sym (+ℤ_invr (one (eqb u b)))
block_steps t b (v ∷ w) u =
    ap (λ (z : ℤ). in_row t (block b) u v +ℤ z) (block_steps t b w v) ∙ joined (one (eqb u b)) (one (eqb v b)) (one (eqb (get_or (v ∷ w) (length w) 0) b))

-- a loop: what is left of its limit b after c visits, where the path starts inside of it
abbrev left : Bool → ℕ → ℕ → ℤ
left i b c = when i then pos b -ℤ pos c else pos 0

left_most : (i : Bool) (b c : ℕ) → c ≤ b → pos 0 ≤ℤ left i b c
left_most true b c h = omega (ints, diff (pos b) (pos c))
left_most false b c h = omega ints

-- one step, by its tests: u and v inside the loop, v its header
loop_step_lem : (iu iv eh : Bool) (b c : ℕ) → (eh ≡ true → iv ≡ true) → (iv ≡ true → iu ≡ false → eh ≡ true) → c ≤ b
    → ((when not eh then pos 0 else when iu then pos 1 else pos 1 -ℤ pos b)
    +ℤ left iv b (when iu && not iv then 0 else when not eh then c else when iu then c + 1 else 1)) ≤ℤ left iu b c
loop_step_lem true true true b c p q h = omega (ints, diff (pos b) (pos (c + 1)), sum (pos 1) (pos b -ℤ pos (c + 1)), diff (pos b) (pos c))
loop_step_lem true true false b c p q h = omega (ints, sum (pos 0) (pos b -ℤ pos c))
loop_step_lem true false true b c p q h = absurd (false≢true (p refl))
loop_step_lem true false false b c p q h = omega (ints, diff (pos b) (pos c))
loop_step_lem false true true b c p q h = omega (ints, diff (pos 1) (pos b), diff (pos b) (pos 1), sum (pos 1 -ℤ pos b) (pos b -ℤ pos 1))
loop_step_lem false true false b c p q h = absurd (false≢true (q refl refl))
loop_step_lem false false true b c p q h = absurd (false≢true (p refl))
loop_step_lem false false false b c p q h = omega ints

-- a step, and those after it
chained : (a x y z : ℤ) → (a +ℤ y) ≤ℤ z → x ≤ℤ y → (a +ℤ x) ≤ℤ z
chained a x y z h k = omega (ints, sum a x, sum a y)

module _ (t : Routine) (N : Nested t) where
  module _ (l : ℕ) (m : l < loop_count t) where
    abbrev left_at : State → ℤ
    left_at s = left (inside t s.block l) (limit t l) (s.count l)

    -- 204: the header is inside; 207: the loop is entered there
    state_step : (s : State) (v : ℕ) → s.block < block_count t → edge t s.block v ≡ true → s.count l ≤ limit t l
        → (in_row t (loop l) s.block v +ℤ left_at (next t s v)) ≤ℤ left_at s
    unfolding number next next_count
    state_step s v b e =
        loop_step_lem (inside t s.block l) (inside t v l) (eqb (header t l) v) (limit t l) (s.count l)
        (λ q. rw (eqb-true (header t l) v q) at (header_inside t N l m)) (λ i o. eq-eqb (header t l) v (N.at_header s.block v l b e m i o))

    loop_steps : (w : List ℕ) (s : State) → s.block < block_count t → path t s.block w ≡ true → keeps_limits t s w ≡ true
        → steps (in_row t (loop l)) s.block w ≤ℤ left_at s
    unfolding steps path keeps_limits next after
    loop_steps [] s b h k = left_most (inside t s.block l) (limit t l) (s.count l) (keeps_each t [] s k 0 (omega arith) l m)
    loop_steps (v ∷ w) s b h k =
        let p : (edge t s.block v ≡ true) × (path t v w ≡ true) = and-true _ _ h in
        chained (in_row t (loop l) s.block v) (steps (in_row t (loop l)) v w) (left_at (next t s v)) (left_at s)
        (state_step s v b p.0 (keeps_each t (v ∷ w) s k 0 (omega arith) l m))
        (loop_steps w (next t s v) (N.target s.block v b p.0) p.1 (and-true (not (passes_limit t s)) _ k).1)

  -- ---- a finished run

  module _ (w : List ℕ) (edges : path t 0 w ≡ true) (limits : keeps_limits t start w ≡ true) (at_exit : get_or (0 ∷ w) (length w) 0 ≡ exit t) where
    abbrev flow : ℕ → ℕ
    flow = flow_of t (0 ∷ w)

    along : (r : RowName) → RowOf t r → row_value same_row (program_of t).columns flow r ≡ steps (in_row t r) 0 w
    unfolding flow_of
    along r h = row_value_lem t flow r h ∙ sum_taken t N (in_row t r) w 0 (omega (arith, N.two_blocks)) edges

    met : (r : RowName) → RowOf t r → Met t 1 flow r
    unfolding right_side start
    met objective h = tt
    met (block b) h =
        let e : row_value same_row (program_of t).columns flow (block b) ≡ right_side t (block b)
        = along (block b) h ∙ block_steps t b w 0 ∙ ap (in_row t (block b) 0) at_exit ∙ sym (right_block t b) in
        omega (ints, times 1 (right_side t (block b)))
    met (loop l) h =
        rw (along (loop l) h)
        (rw (inside_0 t N l, ne_eqb 0 l (λ e. omega (arith, h.0))) at (loop_steps l h.1 w start (omega (arith, N.two_blocks)) edges limits))

    run_flow : RunIsFlow t (0 ∷ w)
    unfolding flow_cost run_cost
    run_flow = record {
      solution = each_solution t 1 flow met;
      costs = rw (along objective tt, cost_steps t w 0, neg_ℤ-neg_ℤ (pos (run_cost t w))) (ap pos (omega arith));
    }

-- THEOREM: every finished counted run is a solution, at its own cost.
pub runs_are_flows : (t : Routine) → RunsAreFlows t
unfolding counted_run
runs_are_flows t h [] r = absurd (false≢true r.counted)
runs_are_flows t h (v ∷ w) r =
    let C = counted_parts t v w r.counted in
    let z = C.starts in
    let k : length (v ∷ w) - 1 ≡ length w = omega arith in
    rw z (run_flow t (nested t h) w (rw z at C.follows) C.keeps (rw (z, k) at r.at_exit))
