use Rattle.std.proofs.Common.{◌≡◌, ◌∙◌, drop}
use Rattle.lists.specs.Search.{first_below}
use Rattle.wcet.specs.Table.{block_count, loop_count}
use Rattle.wcet.specs.Rules.{accepted, check, too_deep, enters_past_header, structure_rules}
use Rattle.nesting.specs.Columns.{routine_of}
use Rattle.nesting.proofs.Entered.{deep_places, past_places}
use Rattle.nesting.proofs.Chain.{place_decides, place_clear, none_left, broken_checked}
use Rattle.nesting.proofs.check_nesting.Goals as goal

pub returns-in-Some : goal.returns-in-Some
unfolding structure_rules
returns-in-Some c =
    let t = routine_of c.args.tables.now in
    let deep : c.first_too_deep.result ≡ first_below (loop_count t) (too_deep t) = c.first_too_deep.ensures ∙ deep_places t _ c.requires c.sets_around-around.ensures in
    broken_checked _ _ _ (place_decides _ _ _ deep 205 _ _ _ c.in-Some.is)

pub returns-in-Some-first_entry_or_exit_edge : goal.returns-in-Some-first_entry_or_exit_edge
unfolding structure_rules
returns-in-Some-first_entry_or_exit_edge c =
    let t = routine_of c.args.tables.now in
    let deep : c.first_too_deep.result ≡ first_below (loop_count t) (too_deep t) = c.first_too_deep.ensures ∙ deep_places t _ c.requires c.sets_around-around.ensures in
    let after-205 : check (drop 5 (structure_rules t)) (accepted (tt {0})) ≡ check (drop 4 (structure_rules t)) (accepted tt) = place_clear _ _ _ deep 205 _ _ c.in_default.is in
    broken_checked _ _ _ (place_decides _ _ _ c.first_entry_or_exit_edge.ensures 206 _ _ _ c.in-Some-first_entry_or_exit_edge.is ∙ after-205)

pub returns-in-Some-first_past_header : goal.returns-in-Some-first_past_header
unfolding structure_rules
returns-in-Some-first_past_header c =
    let t = routine_of c.args.tables.now in
    let past : c.first_past_header.result ≡ first_below (block_count t) (enters_past_header t) = c.first_past_header.ensures ∙ past_places t _ c.requires c.sets_around-around.ensures in
    let deep : c.first_too_deep.result ≡ first_below (loop_count t) (too_deep t) = c.first_too_deep.ensures ∙ deep_places t _ c.requires c.sets_around-around.ensures in
    let after-205 : check (drop 5 (structure_rules t)) (accepted (tt {0})) ≡ check (drop 4 (structure_rules t)) (accepted tt) = place_clear _ _ _ deep 205 _ _ c.in_default.is in
    let after-206 : check (drop 6 (structure_rules t)) (accepted (tt {0})) ≡ check (drop 4 (structure_rules t)) (accepted tt) = place_clear _ _ _ c.first_entry_or_exit_edge.ensures 206 _ _ c.in_default-first_entry_or_exit_edge.is ∙ after-205 in
    broken_checked _ _ _ (place_decides _ _ _ past 207 _ _ _ c.in-Some-first_past_header.is ∙ after-206)

pub returns : goal.returns
unfolding structure_rules
returns c =
    let t = routine_of c.args.tables.now in
    let past : c.first_past_header.result ≡ first_below (block_count t) (enters_past_header t) = c.first_past_header.ensures ∙ past_places t _ c.requires c.sets_around-around.ensures in
    let deep : c.first_too_deep.result ≡ first_below (loop_count t) (too_deep t) = c.first_too_deep.ensures ∙ deep_places t _ c.requires c.sets_around-around.ensures in
    let after-205 : check (drop 5 (structure_rules t)) (accepted (tt {0})) ≡ check (drop 4 (structure_rules t)) (accepted tt) = place_clear _ _ _ deep 205 _ _ c.in_default.is in
    let after-206 : check (drop 6 (structure_rules t)) (accepted (tt {0})) ≡ check (drop 4 (structure_rules t)) (accepted tt) = place_clear _ _ _ c.first_entry_or_exit_edge.ensures 206 _ _ c.in_default-first_entry_or_exit_edge.is ∙ after-205 in
    record { replied = none_left (accepted tt) ∙ place_clear _ _ _ past 207 _ _ c.in_default-first_past_header.is ∙ after-206; sets = c.sets_around-around.ensures }
