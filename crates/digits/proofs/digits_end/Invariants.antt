use Rattle.std.proofs.Common.{◌≡◌, ◌+◌, drop}
use Rattle.digits.specs.Run.{digit_count}
use Rattle.digits.proofs.digits_end.Given as goal

abbrev pub invariant-loop-i : goal.invariant-loop-i
invariant-loop-i l = l.at + digit_count (drop l.at l.text) ≡ l.i + digit_count (drop l.i l.text)
