use Rattle.std.proofs.Common.{◌≡◌, [], ◌++◌, ◌-◌, ◌≤◌, length, take, drop}
use Rattle.std.proofs.Math.Seq.{paste}
use Rattle.mps.specs.Text.{digits_in}
use Rattle.cards.proofs.with_digits.Given as goal

-- what is still to be written stands between what is in place
abbrev pub invariant-loop-i : goal.invariant-loop-i
invariant-loop-i g l = (l.at ≤ l.i) × (length l.line ≡ length l.fn.line) × (take l.at l.line ++ digits_in (l.i - l.at) l.n (drop l.i l.line) ≡ paste l.fn.line l.at (digits_in l.k l.fn.n []) l.k)
