use mathlib.Core.Path.{◌≡◌}
use native.Mathlib.Omega.{arith}
use Rattle.order.proofs.Queues.{queue_none}
use Rattle.order.proofs.sources.Goals as goal

pub loop-v-init : goal.loop-v-init
loop-v-init c = (omega arith, c.requires.1, queue_none _ _)

pub offset_bounds-blocks-count : goal.offset_bounds-blocks-count
offset_bounds-blocks-count c = omega (arith, c.loop-v.invariant.2.few)

pub bounds-blocks-count : goal.bounds-blocks-count
bounds-blocks-count c = omega (arith, c.loop-v.invariant.2.few)

pub overflow_add-count : goal.overflow_add-count
overflow_add-count c = omega (arith, c.loop-v.invariant.2.few)

pub returns : goal.returns
returns c = let done : c.loop-v.v ≡ c.args.n = omega arith in (c.loop-v.invariant.1, rw done at c.loop-v.invariant.2)
