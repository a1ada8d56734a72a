use Prim.Native.Nat.{◌≤◌, ◌<◌}
use mathlib.Core.Path.{◌≡◌, refl}
use native.Mathlib.Omega.{arith}
use lib.ListN.{length, get_or}
use Rattle.limits.specs.Limits.{most_blocks}
use Rattle.nesting.specs.Columns.{routine}
use Rattle.order.proofs.Removal.{taken_start, block_low, first_removable, second_removable, both_removed}
use Rattle.order.proofs.Orders.{ordering}
use Rattle.order.proofs.order_of.Goals as goal

pub incoming_edges-counts-requires : goal.incoming_edges-counts-requires
incoming_edges-counts-requires c = c.requires

pub sources-count-requires : goal.sources-count-requires
sources-count-requires c = (c.requires.1.few, refl)

pub loop-i-init : goal.loop-i-init
loop-i-init c = taken_start _ _ _ _ _ c.sources-count.ensures.0 c.sources-count.ensures.1 c.incoming_edges-counts.ensures

pub offset_bounds-blocks-i : goal.offset_bounds-blocks-i
offset_bounds-blocks-i c =
    let few : (length c.args.tables.now.loops.now ≤ most_blocks) × (c.loop-i.count ≤ length c.args.tables.now.loops.now) = (c.requires.1.few, c.loop-i.invariant.queued.few) in
    omega (arith, few)

pub bounds-blocks-i : goal.bounds-blocks-i
bounds-blocks-i c =
    let few : (length c.args.tables.now.loops.now ≤ most_blocks) × (c.loop-i.count ≤ length c.args.tables.now.loops.now) = (c.requires.1.few, c.loop-i.invariant.queued.few) in
    omega (arith, few)

pub overflow_cast-u : goal.overflow_cast-u
overflow_cast-u c =
    let few : (length c.args.tables.now.loops.now ≤ most_blocks) × (c.loop-i.count ≤ length c.args.tables.now.loops.now) = (c.requires.1.few, c.loop-i.invariant.queued.few) in
    let low : get_or c.loop-i.blocks c.loop-i.i 0 < length c.args.tables.now.loops.now = let loop = c.loop-i in block_low _ _ _ _ _ c.requires.1 loop.i loop.counts loop.blocks loop.count (omega arith) loop.invariant in
    omega (arith, low, few)

pub remove_edge-count-requires : goal.remove_edge-count-requires
remove_edge-count-requires c =
    let low : get_or c.loop-i.blocks c.loop-i.i 0 < length c.args.tables.now.loops.now = let loop = c.loop-i in block_low _ _ _ _ _ c.requires.1 loop.i loop.counts loop.blocks loop.count (omega arith) loop.invariant in
    let loop = c.loop-i in
    let p = c.requires in
    let u = low in
    (p.0, u, p.1.first_names _ u, first_removable _ _ _ _ _ p.1 loop.i loop.counts loop.blocks loop.count (omega arith) loop.invariant)

pub remove_edge-count-requires-in-loop-i : goal.remove_edge-count-requires-in-loop-i
remove_edge-count-requires-in-loop-i c =
    let low : get_or c.loop-i.blocks c.loop-i.i 0 < length c.args.tables.now.loops.now = let loop = c.loop-i in block_low _ _ _ _ _ c.requires.1 loop.i loop.counts loop.blocks loop.count (omega arith) loop.invariant in
    let loop = c.loop-i in
    let p = c.requires in
    let u = low in
    (p.0, u, p.1.second_names _ u, second_removable _ _ _ _ _ p.1 loop.i loop.counts loop.blocks loop.count (omega arith) loop.invariant _ _ _ c.remove_edge-count.ensures)

pub overflow_add-i : goal.overflow_add-i
overflow_add-i c =
    let few : (length c.args.tables.now.loops.now ≤ most_blocks) × (c.loop-i.count ≤ length c.args.tables.now.loops.now) = (c.requires.1.few, c.loop-i.invariant.queued.few) in
    omega (arith, few)

pub loop-i-smaller : goal.loop-i-smaller
loop-i-smaller c =
    let few : (length c.args.tables.now.loops.now ≤ most_blocks) × (c.loop-i.count ≤ length c.args.tables.now.loops.now) = (c.requires.1.few, c.loop-i.invariant.queued.few) in
    omega (arith, few)

pub loop-i-preserved : goal.loop-i-preserved
loop-i-preserved c = let loop = c.loop-i in
    both_removed _ _ _ _ _ c.requires.1 loop.i loop.counts loop.blocks loop.count (omega arith) loop.invariant _ _ _ c.remove_edge-count.ensures _ _ _ c.remove_edge-count-in-loop-i.ensures

pub returns : goal.returns
returns c = λ costs figures parents limits multipliers holds S.
    let loop = c.loop-i in
    let a = c.args in
    let done : loop.i ≡ loop.count = omega (arith, loop.invariant.within) in
    ordering (routine costs a.tables.now.loops.now a.tables.now.first.now a.tables.now.second.now figures parents a.tables.now.header.now limits multipliers) holds a.around.now S loop.counts loop.blocks loop.count
    (rw done at loop.invariant)
