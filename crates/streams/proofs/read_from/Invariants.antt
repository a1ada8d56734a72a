use Rattle.std.proofs.Common.{◌≡◌, ◌≤◌, ◌-◌, length}
use Rattle.streams.specs.Calls.{number}
use Rattle.streams.proofs.Laws.{ReadSoFar}
use Rattle.streams.proofs.read_from.Given as goal

abbrev pub invariant-loop-len : goal.invariant-loop-len
invariant-loop-len l =
    (l.len ≤ length l.buffer) × (length l.buffer ≡ length l.initial.buffer) × ReadSoFar (number l.from) (length l.initial.buffer) l.buffer l.len

abbrev pub decreases-loop-len : goal.decreases-loop-len
decreases-loop-len l = length l.buffer - l.len
