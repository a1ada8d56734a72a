use Rattle.std.proofs.Common.{◌≡◌, length, arith}
use Prim.Native.Nat.{min}
use Rattle.std.proofs.lemmas.Result.{err_from_is_err_and}
use Rattle.limits.specs.Limits.{most_blocks}
use Rattle.tables.specs.Columns.{blocks, shortest_block}
use Rattle.tables.proofs.Whole.{block_room, blocks_count, blocks_places, blocks_read, blocks_refused}
use Rattle.tables.proofs.read_blocks.Goals as goal

pub returns-in_err-rows : goal.returns-in_err-rows
returns-in_err-rows c =
    let room : c.min-4.result ≡ min (shortest_block (blocks c.args.cost.now c.args.loops.now c.args.first.now c.args.second.now c.args.figure.now)) most_blocks = block_room (length c.args.cost.now) (length c.args.loops.now) (length c.args.first.now) (length c.args.second.now) (length c.args.figure.now) most_blocks c.min.ensures c.min-2.ensures c.min-3.ensures c.min-places.ensures c.min-4.ensures in
    let p = err_from_is_err_and c.from_residual.result c.from_residual.ensures.1 in
    rw (p.1, p.2) (blocks_refused c.args.text.now c.args.header_row (blocks c.args.cost.now c.args.loops.now c.args.first.now c.args.second.now c.args.figure.now) _ room c.gather_table.ensures c.in_err-rows.field-0.0 c.in_err-rows.was)

pub fill-requires : goal.fill-requires
fill-requires c =
    let room : c.min-4.result ≡ min (shortest_block (blocks c.args.cost.now c.args.loops.now c.args.first.now c.args.second.now c.args.figure.now)) most_blocks = block_room (length c.args.cost.now) (length c.args.loops.now) (length c.args.first.now) (length c.args.second.now) (length c.args.figure.now) most_blocks c.min.ensures c.min-2.ensures c.min-3.ensures c.min-places.ensures c.min-4.ensures in
    let count = blocks_count c.args.text.now c.args.header_row (blocks c.args.cost.now c.args.loops.now c.args.first.now c.args.second.now c.args.figure.now) _ room c.gather_table.ensures c.in_ok-rows.rows c.in_ok-rows.was in
    let places = blocks_places c.args.text.now c.args.header_row (blocks c.args.cost.now c.args.loops.now c.args.first.now c.args.second.now c.args.figure.now) _ room c.gather_table.ensures (record { cost = omega (arith, room); loops = omega (arith, room); first = omega (arith, room); second = omega (arith, room); figure = omega (arith, room) }) in
    (omega (arith, count, places.cost), omega (arith, count, room))

pub fill-requires-2 : goal.fill-requires-2
fill-requires-2 c =
    let room : c.min-4.result ≡ min (shortest_block (blocks c.args.cost.now c.args.loops.now c.args.first.now c.args.second.now c.args.figure.now)) most_blocks = block_room (length c.args.cost.now) (length c.args.loops.now) (length c.args.first.now) (length c.args.second.now) (length c.args.figure.now) most_blocks c.min.ensures c.min-2.ensures c.min-3.ensures c.min-places.ensures c.min-4.ensures in
    let count = blocks_count c.args.text.now c.args.header_row (blocks c.args.cost.now c.args.loops.now c.args.first.now c.args.second.now c.args.figure.now) _ room c.gather_table.ensures c.in_ok-rows.rows c.in_ok-rows.was in
    let places = blocks_places c.args.text.now c.args.header_row (blocks c.args.cost.now c.args.loops.now c.args.first.now c.args.second.now c.args.figure.now) _ room c.gather_table.ensures (record { cost = omega (arith, room); loops = omega (arith, room); first = omega (arith, room); second = omega (arith, room); figure = omega (arith, room) }) in
    (omega (arith, count, places.loops), omega (arith, count, room))

pub fill-requires-3 : goal.fill-requires-3
fill-requires-3 c =
    let room : c.min-4.result ≡ min (shortest_block (blocks c.args.cost.now c.args.loops.now c.args.first.now c.args.second.now c.args.figure.now)) most_blocks = block_room (length c.args.cost.now) (length c.args.loops.now) (length c.args.first.now) (length c.args.second.now) (length c.args.figure.now) most_blocks c.min.ensures c.min-2.ensures c.min-3.ensures c.min-places.ensures c.min-4.ensures in
    let count = blocks_count c.args.text.now c.args.header_row (blocks c.args.cost.now c.args.loops.now c.args.first.now c.args.second.now c.args.figure.now) _ room c.gather_table.ensures c.in_ok-rows.rows c.in_ok-rows.was in
    let places = blocks_places c.args.text.now c.args.header_row (blocks c.args.cost.now c.args.loops.now c.args.first.now c.args.second.now c.args.figure.now) _ room c.gather_table.ensures (record { cost = omega (arith, room); loops = omega (arith, room); first = omega (arith, room); second = omega (arith, room); figure = omega (arith, room) }) in
    (omega (arith, count, places.first), omega (arith, count, room))

pub fill-requires-4 : goal.fill-requires-4
fill-requires-4 c =
    let room : c.min-4.result ≡ min (shortest_block (blocks c.args.cost.now c.args.loops.now c.args.first.now c.args.second.now c.args.figure.now)) most_blocks = block_room (length c.args.cost.now) (length c.args.loops.now) (length c.args.first.now) (length c.args.second.now) (length c.args.figure.now) most_blocks c.min.ensures c.min-2.ensures c.min-3.ensures c.min-places.ensures c.min-4.ensures in
    let count = blocks_count c.args.text.now c.args.header_row (blocks c.args.cost.now c.args.loops.now c.args.first.now c.args.second.now c.args.figure.now) _ room c.gather_table.ensures c.in_ok-rows.rows c.in_ok-rows.was in
    let places = blocks_places c.args.text.now c.args.header_row (blocks c.args.cost.now c.args.loops.now c.args.first.now c.args.second.now c.args.figure.now) _ room c.gather_table.ensures (record { cost = omega (arith, room); loops = omega (arith, room); first = omega (arith, room); second = omega (arith, room); figure = omega (arith, room) }) in
    (omega (arith, count, places.second), omega (arith, count, room))

pub fill-requires-5 : goal.fill-requires-5
fill-requires-5 c =
    let room : c.min-4.result ≡ min (shortest_block (blocks c.args.cost.now c.args.loops.now c.args.first.now c.args.second.now c.args.figure.now)) most_blocks = block_room (length c.args.cost.now) (length c.args.loops.now) (length c.args.first.now) (length c.args.second.now) (length c.args.figure.now) most_blocks c.min.ensures c.min-2.ensures c.min-3.ensures c.min-places.ensures c.min-4.ensures in
    let count = blocks_count c.args.text.now c.args.header_row (blocks c.args.cost.now c.args.loops.now c.args.first.now c.args.second.now c.args.figure.now) _ room c.gather_table.ensures c.in_ok-rows.rows c.in_ok-rows.was in
    let places = blocks_places c.args.text.now c.args.header_row (blocks c.args.cost.now c.args.loops.now c.args.first.now c.args.second.now c.args.figure.now) _ room c.gather_table.ensures (record { cost = omega (arith, room); loops = omega (arith, room); first = omega (arith, room); second = omega (arith, room); figure = omega (arith, room) }) in
    (omega (arith, count, places.figure), omega (arith, count, room))

pub returns : goal.returns
returns c =
    let room : c.min-4.result ≡ min (shortest_block (blocks c.args.cost.now c.args.loops.now c.args.first.now c.args.second.now c.args.figure.now)) most_blocks = block_room (length c.args.cost.now) (length c.args.loops.now) (length c.args.first.now) (length c.args.second.now) (length c.args.figure.now) most_blocks c.min.ensures c.min-2.ensures c.min-3.ensures c.min-places.ensures c.min-4.ensures in
    blocks_read c.args.text.now c.args.header_row (blocks c.args.cost.now c.args.loops.now c.args.first.now c.args.second.now c.args.figure.now) _ room c.gather_table.ensures c.in_ok-rows.rows c.in_ok-rows.was (record { cost = omega (arith, room); loops = omega (arith, room); first = omega (arith, room); second = omega (arith, room); figure = omega (arith, room) }) (record { cost = c.fill.ensures; loops = c.fill-2.ensures; first = c.fill-3.ensures; second = c.fill-4.ensures; figure = c.fill-5.ensures })
