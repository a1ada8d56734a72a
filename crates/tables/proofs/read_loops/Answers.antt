use Rattle.std.proofs.Common.{◌≡◌, arith}
use Prim.Native.Nat.{min}
use Rattle.std.proofs.lemmas.Result.{err_from_is_err_and}
use Rattle.limits.specs.Limits.{most_loops}
use Rattle.tables.specs.Columns.{loops, shortest_loop}
use Rattle.tables.proofs.Whole.{loops_count, loops_places, loops_read, loops_refused}
use Rattle.tables.proofs.read_loops.Goals as goal

pub returns-in_err-rows : goal.returns-in_err-rows
returns-in_err-rows c =
    let room : c.min-3.result ≡ min (shortest_loop (loops c.args.parent.now c.args.header.now c.args.limit.now c.args.multiplier.now)) most_loops = omega (arith, c.min.ensures, c.min-2.ensures, c.min-places.ensures, c.min-3.ensures) in
    let p = err_from_is_err_and c.from_residual.result c.from_residual.ensures.1 in
    rw (p.1, p.2) (loops_refused c.args.text.now c.args.header_row (loops c.args.parent.now c.args.header.now c.args.limit.now c.args.multiplier.now) _ room c.gather_table.ensures c.in_err-rows.field-0.0 c.in_err-rows.was)

pub fill-requires : goal.fill-requires
fill-requires c =
    let room : c.min-3.result ≡ min (shortest_loop (loops c.args.parent.now c.args.header.now c.args.limit.now c.args.multiplier.now)) most_loops = omega (arith, c.min.ensures, c.min-2.ensures, c.min-places.ensures, c.min-3.ensures) in
    let count = loops_count c.args.text.now c.args.header_row (loops c.args.parent.now c.args.header.now c.args.limit.now c.args.multiplier.now) _ room c.gather_table.ensures c.in_ok-rows.rows c.in_ok-rows.was in
    let places = loops_places c.args.text.now c.args.header_row (loops c.args.parent.now c.args.header.now c.args.limit.now c.args.multiplier.now) _ room c.gather_table.ensures (record { parent = omega (arith, room); header = omega (arith, room); limit = omega (arith, room); multiplier = omega (arith, room) }) in
    (omega (arith, count, places.parent), omega (arith, count, room))

pub fill-requires-2 : goal.fill-requires-2
fill-requires-2 c =
    let room : c.min-3.result ≡ min (shortest_loop (loops c.args.parent.now c.args.header.now c.args.limit.now c.args.multiplier.now)) most_loops = omega (arith, c.min.ensures, c.min-2.ensures, c.min-places.ensures, c.min-3.ensures) in
    let count = loops_count c.args.text.now c.args.header_row (loops c.args.parent.now c.args.header.now c.args.limit.now c.args.multiplier.now) _ room c.gather_table.ensures c.in_ok-rows.rows c.in_ok-rows.was in
    let places = loops_places c.args.text.now c.args.header_row (loops c.args.parent.now c.args.header.now c.args.limit.now c.args.multiplier.now) _ room c.gather_table.ensures (record { parent = omega (arith, room); header = omega (arith, room); limit = omega (arith, room); multiplier = omega (arith, room) }) in
    (omega (arith, count, places.header), omega (arith, count, room))

pub fill-requires-3 : goal.fill-requires-3
fill-requires-3 c =
    let room : c.min-3.result ≡ min (shortest_loop (loops c.args.parent.now c.args.header.now c.args.limit.now c.args.multiplier.now)) most_loops = omega (arith, c.min.ensures, c.min-2.ensures, c.min-places.ensures, c.min-3.ensures) in
    let count = loops_count c.args.text.now c.args.header_row (loops c.args.parent.now c.args.header.now c.args.limit.now c.args.multiplier.now) _ room c.gather_table.ensures c.in_ok-rows.rows c.in_ok-rows.was in
    let places = loops_places c.args.text.now c.args.header_row (loops c.args.parent.now c.args.header.now c.args.limit.now c.args.multiplier.now) _ room c.gather_table.ensures (record { parent = omega (arith, room); header = omega (arith, room); limit = omega (arith, room); multiplier = omega (arith, room) }) in
    (omega (arith, count, places.limit), omega (arith, count, room))

pub fill-requires-4 : goal.fill-requires-4
fill-requires-4 c =
    let room : c.min-3.result ≡ min (shortest_loop (loops c.args.parent.now c.args.header.now c.args.limit.now c.args.multiplier.now)) most_loops = omega (arith, c.min.ensures, c.min-2.ensures, c.min-places.ensures, c.min-3.ensures) in
    let count = loops_count c.args.text.now c.args.header_row (loops c.args.parent.now c.args.header.now c.args.limit.now c.args.multiplier.now) _ room c.gather_table.ensures c.in_ok-rows.rows c.in_ok-rows.was in
    let places = loops_places c.args.text.now c.args.header_row (loops c.args.parent.now c.args.header.now c.args.limit.now c.args.multiplier.now) _ room c.gather_table.ensures (record { parent = omega (arith, room); header = omega (arith, room); limit = omega (arith, room); multiplier = omega (arith, room) }) in
    (omega (arith, count, places.multiplier), omega (arith, count, room))

pub returns : goal.returns
returns c =
    let room : c.min-3.result ≡ min (shortest_loop (loops c.args.parent.now c.args.header.now c.args.limit.now c.args.multiplier.now)) most_loops = omega (arith, c.min.ensures, c.min-2.ensures, c.min-places.ensures, c.min-3.ensures) in
    loops_read c.args.text.now c.args.header_row (loops c.args.parent.now c.args.header.now c.args.limit.now c.args.multiplier.now) _ room c.gather_table.ensures c.in_ok-rows.rows c.in_ok-rows.was (record { parent = omega (arith, room); header = omega (arith, room); limit = omega (arith, room); multiplier = omega (arith, room) }) (record { parent = c.fill.ensures; header = c.fill-2.ensures; limit = c.fill-3.ensures; multiplier = c.fill-4.ensures })
