use Rattle.std.proofs.Common.{◌≤◌, ◌-◌, length}
use Rattle.streams.specs.Calls.{number}
use Rattle.streams.proofs.Laws.{WrittenSoFar}
use Rattle.streams.proofs.write_to.Given as goal

abbrev pub invariant-loop-done : goal.invariant-loop-done
invariant-loop-done l = (l.done ≤ length l.bytes) × WrittenSoFar (number l.to) l.bytes l.done

abbrev pub decreases-loop-done : goal.decreases-loop-done
decreases-loop-done l = length l.bytes - l.done
