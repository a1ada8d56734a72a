-- What 201 to 207 ensure of a routine that passes them with some figures and multipliers. Assumes nothing.
use Rattle.std.proofs.Common.{◌≡◌, ap, Bool, ◌&&◌, List, ℕ, ◌≤◌, ◌<◌, arith, length}
use Rattle.limits.specs.Limits.{most_blocks, most_loops}
use Rattle.wcet.specs.Table.{Routine, block_count, loop_count, cost, loop_of, inside, is_header}
use Rattle.wcet.specs.Cycles.{back_edge}
use Rattle.wcet.proofs.Nesting.{Nested, nested}
use Rattle.loopsets.specs.Sets.{sets_around, Parents}
use Rattle.loopsets.proofs.Laws.{member_around}
use Rattle.nesting.specs.Columns.{Headed}
use Rattle.nesting.proofs.Stages.{headed}
use Rattle.order.specs.Edges.{back_by_sets}
use Rattle.optimum.specs.Remade.{with_columns}
use Rattle.optimum.proofs.Columns.{nested_too}
use Rattle.tails.specs.Passes.{Passed}

module _ (t : Routine) (P : Passed t) where
  abbrev given : Routine
  given = with_columns t P.figures P.multipliers

  H : Headed given
  H = headed given P.rules

  pub passed_nested : Nested t
  passed_nested = nested_too given t.figures t.multipliers (nested given P.rules) P.loop0_multiplier

  pub passed_parents : Parents t.parents
  passed_parents = H.ranged.parents

  pub passed_loops : length t.loops ≡ block_count t
  passed_loops = H.ranged.sized.loops

  pub passed_few_loops : loop_count t ≤ most_loops
  passed_few_loops = H.ranged.sized.few_loops

  pub passed_few_blocks : block_count t ≤ most_blocks
  passed_few_blocks = H.ranged.sized.few_blocks

  pub passed_cost : (u : ℕ) → u < block_count t → cost t u ≤ 1000000
  passed_cost u b = H.ranged.cost_most u b

  -- the back edges, read off the sets
  pub back_same : (sets : List ℕ) → sets ≡ sets_around t.parents → (u v : ℕ) → u < block_count t → v < block_count t
      → back_by_sets sets t.loops t.headers u v ≡ back_edge t u v
  unfolding back_by_sets back_edge inside
  back_same sets A u v b c = ap (λ (i : Bool). is_header t v && i) (member_around t.parents sets A passed_few_loops (loop_of t u) (loop_of t v) (passed_nested.innermost u b) (omega (arith, passed_nested.innermost v c, passed_few_loops)))
