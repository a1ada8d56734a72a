use Prim.Native.Nat.{◌+◌, ◌*◌}
use mathlib.Core.Path.{◌≡◌}
use native.Mathlib.Omega.{arith}
use lib.ListN.{length}
use Rattle.order.specs.Edges.{edge_target, Counted}
use Rattle.order.proofs.Edges.{first_edge, second_edge}
use Rattle.order.proofs.Incoming.{counted_none, edge_countable, edge_counted}
use Rattle.order.proofs.incoming_edges.Goals as goal

pub loop-u-init : goal.loop-u-init
loop-u-init c = (omega arith, counted_none _ _ c.requires.1.few)

pub count_edge-requires : goal.count_edge-requires
count_edge-requires c = let loop = c.loop-u in
    let p = c.requires in
    (p.0, omega arith, p.1.first_names _ (omega arith), edge_countable _ _ _ _ _ p.1 loop.counts (2 * loop.u) (omega arith) loop.invariant.1 _ (first_edge _ _ _ _ _ loop.u))

pub count_edge-requires-in-loop-u : goal.count_edge-requires-in-loop-u
count_edge-requires-in-loop-u c =
    let once : let a = c.args in Counted (edge_target a.around.now a.tables.now.loops.now a.tables.now.first.now a.tables.now.second.now a.tables.now.header.now) (length a.tables.now.loops.now) c.count_edge.new.counts (2 * c.loop-u.u + 1) = let loop = c.loop-u in rw c.count_edge.ensures (edge_counted _ _ _ _ _ c.requires.1 loop.counts (2 * loop.u) (omega arith) loop.invariant.1 _ (first_edge _ _ _ _ _ loop.u)) in
    let u = c.loop-u.u in
    let p = c.requires in
    (p.0, omega arith, p.1.second_names _ (omega arith), edge_countable _ _ _ _ _ p.1 _ (2 * u + 1) (omega arith) (once) _ (second_edge _ _ _ _ _ u))

pub loop-u-preserved : goal.loop-u-preserved
loop-u-preserved c =
    let once : let a = c.args in Counted (edge_target a.around.now a.tables.now.loops.now a.tables.now.first.now a.tables.now.second.now a.tables.now.header.now) (length a.tables.now.loops.now) c.count_edge.new.counts (2 * c.loop-u.u + 1) = let loop = c.loop-u in rw c.count_edge.ensures (edge_counted _ _ _ _ _ c.requires.1 loop.counts (2 * loop.u) (omega arith) loop.invariant.1 _ (first_edge _ _ _ _ _ loop.u)) in
    let u = c.loop-u.u in
    let next : 2 * u + 1 + 1 ≡ 2 * (u + 1) = omega arith in
    (omega arith, rw (c.count_edge-in-loop-u.ensures, ← next) (edge_counted _ _ _ _ _ c.requires.1 _ (2 * u + 1) (omega arith) (once) _ (second_edge _ _ _ _ _ u)))

pub returns : goal.returns
returns c = let loop = c.loop-u in
    let done : loop.u ≡ length c.args.tables.now.loops.now = omega arith in
    rw done at loop.invariant.1
