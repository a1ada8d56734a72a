use Rattle.std.proofs.Common.{◌≡◌, ◌+◌, drop}
use Rattle.csv_text.specs.Grammar.{plain}
use Rattle.csv_text.proofs.plain_end.Given as goal

abbrev pub invariant-loop-i : goal.invariant-loop-i
invariant-loop-i l = l.at + plain (drop l.at l.text) ≡ l.i + plain (drop l.i l.text)
