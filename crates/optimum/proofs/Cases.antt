-- The solver's cases, by computation. Assumes nothing.
use mathlib.Core.Path.{refl}
use Rattle.lists.specs.Search.{any_below, count_below, first_below, tabulate}
use Rattle.wcet.specs.Table.{some_edge, edge, around, inside}
use Rattle.wcet.specs.Cycles.{back_edge, forward_edge, reaches, undeclared_loop}
use Rattle.wcet.specs.Rules.{check, sizes_wrong, loop_wrong, block_wrong, header_elsewhere, too_deep, entry_or_exit_edge, past_header, enters_past_header, structure_rules, bound}
use Rattle.optimum.specs.Tails.{best, more, weight, via, tail_at, tail_by}
use Rattle.optimum.specs.Columns.{or_default, multipliers_down, remade_multipliers, from_exit, from_header, turn, figure_by, remade_figures, remade}
use Rattle.optimum.specs.Replies.{no_path, multiplier_over, figure_over, solve_rules, solve_reply}
use Rattle.optimum.specs.Cases.{answer, cases, CasesHold}

pub cases_hold : CasesHold
unfolding cases answer any_below count_below first_below tabulate some_edge edge around inside back_edge forward_edge reaches undeclared_loop check sizes_wrong loop_wrong block_wrong header_elsewhere too_deep entry_or_exit_edge past_header enters_past_header structure_rules bound best more weight via tail_at tail_by or_default multipliers_down remade_multipliers from_exit from_header turn figure_by remade_figures remade no_path multiplier_over figure_over solve_rules solve_reply
cases_hold = refl
