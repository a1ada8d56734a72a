-- The marked cases of document 01, as document 02 has them, one recording (§7), one trimmed pair of tables (§9) and second certificates (§10),
-- by computation. Assumes nothing.
use mathlib.Core.List.{[], ◌∷◌}
use mathlib.Core.Path.{◌≡◌, refl}
use Prim.Native.Nat.{ℕ, zero, suc, ◌≤◌, ◌<◌}
use native.Mathlib.Omega.{arith}
use Rattle.lists.specs.Search.{any_below, count_below, first_below}
use Rattle.wcet.specs.Table.{cost, limit, some_edge, edge, around, inside}
use Rattle.wcet.specs.Cycles.{back_edge, forward_edge, reaches, undeclared_loop}
use Rattle.wcet.specs.Rules.{refused, check, sizes_wrong, loop_wrong, block_wrong, header_elsewhere, too_deep, entry_or_exit_edge, past_header, enters_past_header, inequality, edge_holds, inequality_broken, structure_rules, table_rules, bound, table_reply}
use Rattle.wcet.specs.Run.{start, next_count, next, passes_limit, run_cost}
use Rattle.wcet.specs.Walk.{walk_from, walk_blocks, walk_reply}
use Rattle.wcet.specs.Tally.{tally_reply}
use Rattle.wcet.specs.Stays.{all_inside, current_stay, visits}
use Rattle.wcet.specs.Shortest.{stay_ends, too_few_visits, keeps_least, inequality_by, low_edge_holds, low_bound, low_sizes_wrong, low_loop_wrong, low_figure_wrong, low_inequality_broken, shortest_rules, shortest_reply}
use Rattle.wcet.specs.Cases.{answer, A, marked_cases, MarkedCasesHold, trimmed_a, TrimmedCaseHolds, low_cases, LowCasesHold, LeastCasesHold}

pub marked_cases_hold : MarkedCasesHold
unfolding marked_cases answer any_below count_below first_below some_edge edge around inside back_edge forward_edge reaches undeclared_loop check sizes_wrong loop_wrong block_wrong header_elsewhere too_deep entry_or_exit_edge past_header enters_past_header inequality edge_holds inequality_broken structure_rules table_rules bound table_reply start next_count next passes_limit run_cost walk_from walk_blocks walk_reply
marked_cases_hold = refl

-- document 02, §7: 421 comes before 301. Routine A has two loops; the walk is empty, and one of the columns has one place.
pub columns_before_length : tally_reply A [] (0 ∷ []) (0 ∷ 0 ∷ []) ≡ refused 421 0
unfolding tally_reply any_below count_below first_below some_edge edge around inside check sizes_wrong loop_wrong block_wrong header_elsewhere too_deep entry_or_exit_edge past_header enters_past_header structure_rules
columns_before_length = refl

pub trimmed_case_holds : TrimmedCaseHolds
unfolding any_below count_below first_below some_edge edge around inside back_edge forward_edge reaches undeclared_loop check sizes_wrong loop_wrong block_wrong header_elsewhere too_deep entry_or_exit_edge past_header enters_past_header inequality edge_holds inequality_broken structure_rules table_rules bound table_reply
trimmed_case_holds = (
  record {
    others = refl;
    cost_count = refl;
    limit_count = refl;
    cheaper = λ u b. omega (arith, cheaper u b);
    tighter = λ l z b. (omega (arith, (tighter l z b).0), omega (arith, (tighter l z b).1));
    loop0_limit = omega arith;
  },
  refl,
)
  where
    cheaper : (u : ℕ) → u < 4 → cost trimmed_a u ≤ cost A u
    cheaper zero h = omega arith
    cheaper (suc zero) h = omega arith
    cheaper (suc (suc zero)) h = omega arith
    cheaper (suc (suc (suc zero))) h = omega arith
    cheaper (suc (suc (suc (suc u)))) h = absurd (omega arith)

    tighter : (l : ℕ) → 1 ≤ l → l < 2 → (1 ≤ limit trimmed_a l) × (limit trimmed_a l ≤ limit A l)
    tighter zero z h = absurd (omega arith)
    tighter (suc zero) z h = (omega arith, omega arith)
    tighter (suc (suc l)) z h = absurd (omega arith)

pub low_cases_hold : LowCasesHold
unfolding low_cases any_below count_below first_below some_edge edge around inside back_edge forward_edge reaches undeclared_loop check sizes_wrong loop_wrong block_wrong header_elsewhere too_deep entry_or_exit_edge past_header enters_past_header inequality_by structure_rules low_edge_holds low_bound low_sizes_wrong low_loop_wrong low_figure_wrong low_inequality_broken shortest_rules shortest_reply
low_cases_hold = refl

pub least_cases_hold : LeastCasesHold
unfolding any_below around inside all_inside current_stay visits stay_ends too_few_visits keeps_least
least_cases_hold = refl
