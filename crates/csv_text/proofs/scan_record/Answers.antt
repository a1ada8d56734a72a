use Rattle.csv_text.proofs.Splits.{comma_range, ends_range, scan_comma, scan_ends, scan_broken}
use Prim.Native.Nat.{◌≤◌, ◌<◌}
use native.Mathlib.Omega.{arith}
use lib.ListN.{length}
use Rattle.csv_text.proofs.scan_record.Goals as goal

pub overflow_add-count : goal.overflow_add-count
overflow_add-count c =
    let range : (c.loop-e.p ≤ c.in-Comma.e) × (c.in-Comma.e < length c.args.text.now) = comma_range c.args.text.now c.loop-e.p c.field_end.ensures c.in-Comma.e c.in-Comma.is in
    omega (arith, range)

pub overflow_add-p : goal.overflow_add-p
overflow_add-p c =
    let range : (c.loop-e.p ≤ c.in-Comma.e) × (c.in-Comma.e < length c.args.text.now) = comma_range c.args.text.now c.loop-e.p c.field_end.ensures c.in-Comma.e c.in-Comma.is in
    omega (arith, range)

pub loop-e-smaller : goal.loop-e-smaller
loop-e-smaller c =
    let range : (c.loop-e.p ≤ c.in-Comma.e) × (c.in-Comma.e < length c.args.text.now) = comma_range c.args.text.now c.loop-e.p c.field_end.ensures c.in-Comma.e c.in-Comma.is in
    omega (arith, range)

pub loop-e-preserved : goal.loop-e-preserved
loop-e-preserved c =
    let range : (c.loop-e.p ≤ c.in-Comma.e) × (c.in-Comma.e < length c.args.text.now) = comma_range c.args.text.now c.loop-e.p c.field_end.ensures c.in-Comma.e c.in-Comma.is in (
      omega (arith, range),
      omega (arith, range),
      omega (arith, range),
      scan_comma c.args.text.now c.loop-e.p c.field_end.ensures c.in-Comma.e c.in-Comma.is c.loop-e.starts c.loop-e.ends c.loop-e.count c.note_bounds.ensures.0 c.note_bounds.ensures.1 c.loop-e.invariant.3,
    )

pub overflow_add-result-in-Ends : goal.overflow_add-result-in-Ends
overflow_add-result-in-Ends c = let ranged = ends_range c.args.text.now c.loop-e.p c.field_end.ensures c.in-Ends.x c.in-Ends.e c.in-Ends.is c.width.result c.width.ensures in
    omega (arith, ranged)

pub returns-in-Ends : goal.returns-in-Ends
returns-in-Ends c = scan_ends c.args.text.now c.loop-e.p c.field_end.ensures c.in-Ends.x c.in-Ends.e c.in-Ends.is c.loop-e.starts c.loop-e.ends c.loop-e.count c.width.result c.note_bounds-in-Ends.ensures.0 c.note_bounds-in-Ends.ensures.1 c.width.ensures c.loop-e.invariant.3

pub returns-in-Broken : goal.returns-in-Broken
returns-in-Broken c = search scan_broken
