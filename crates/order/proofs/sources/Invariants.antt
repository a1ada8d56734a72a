use Prim.Native.Nat.{◌≤◌}
use mathlib.Core.Path.{◌≡◌}
use lib.ListN.{length}
use Rattle.limits.specs.Limits.{most_blocks}
use Rattle.order.specs.Edges.{Queue}
use Rattle.order.proofs.sources.Given as goal

abbrev pub invariant-loop-v : goal.invariant-loop-v
invariant-loop-v l = (l.v ≤ l.n) × (length l.blocks ≡ most_blocks) × Queue l.counts l.blocks l.v l.count
