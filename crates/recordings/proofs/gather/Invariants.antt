use Rattle.std.proofs.Common.{◌-◌, length}
use Rattle.recordings.proofs.Gathering.{Turn, last_of}
use Rattle.recordings.proofs.gather.Given as goal

abbrev pub invariant-loop-to : goal.invariant-loop-to
invariant-loop-to l = Turn l.code l.text l.room l.found l.dump (last_of l.count l.found) l.count l.p

abbrev pub decreases-loop-to : goal.decreases-loop-to
decreases-loop-to l = length l.text - l.p
