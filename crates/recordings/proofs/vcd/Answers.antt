use Rattle.std.proofs.lemmas.Result.{err_from_is_err_and}
use Rattle.recordings.proofs.Replies.{vcd_structure, two_columns, few_successors, vcd_self, vcd_long, vcd_text}
use Rattle.nesting.specs.Columns.{routine_of}
use Rattle.recordings.proofs.vcd.Goals as goal

pub returns-in_err-check_structure : goal.returns-in_err-check_structure
returns-in_err-check_structure c = let p = err_from_is_err_and c.from_residual.result c.from_residual.ensures.1 in rw (p.1, p.2) (vcd_structure _ _ _ _ _ c.in_err-check_structure.ensures)

pub first_self_edge-requires : goal.first_self_edge-requires
first_self_edge-requires c = let t = routine_of c.args.tables.now in (two_columns t _ c.in_ok-check_structure.ensures, few_successors t _ c.in_ok-check_structure.ensures)

pub returns-in-Some : goal.returns-in-Some
returns-in-Some c = let t = routine_of c.args.tables.now in vcd_self t _ _ _ _ c.in_ok-check_structure.ensures _ c.first_self_edge.ensures _ c.in-Some.is

pub returns-then-text-gt-MOST_TEXT_BYTES : goal.returns-then-text-gt-MOST_TEXT_BYTES
returns-then-text-gt-MOST_TEXT_BYTES c =
    let t = routine_of c.args.tables.now in
    vcd_long t _ _ _ _ c.in_ok-check_structure.ensures _ c.first_self_edge.ensures c.in_default.is c.if-text-gt-MOST_TEXT_BYTES.true

pub returns : goal.returns
returns c =
    let t = routine_of c.args.tables.now in
    vcd_text t _ _ _ _ c.in_ok-check_structure.ensures _ c.first_self_edge.ensures c.in_default.is c.if-text-gt-MOST_TEXT_BYTES.false c.read_recording.ensures
