use Rattle.std.proofs.Common.{◌≡◌, drop}
use Rattle.lists.specs.Bytes.{same}
use Rattle.words.proofs.same_bytes.Given as goal

abbrev pub invariant-loop-i : goal.invariant-loop-i
invariant-loop-i l = same l.a l.b ≡ same (drop l.i l.a) (drop l.i l.b)
