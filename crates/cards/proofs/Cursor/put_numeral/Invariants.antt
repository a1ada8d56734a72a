use Rattle.std.proofs.Common.{◌≡◌, ◌++◌, ◌-◌, ◌≤◌, length, take, drop}
use Rattle.std.proofs.Math.Seq.{paste}
use Rattle.digits.specs.Decimal.{numeral_of}
use Rattle.mps.specs.Text.{digits_in}
use Rattle.cards.proofs.Cursor.put_numeral.Given as goal

-- what is still to be written stands between what is in place
abbrev pub invariant-loop-i : goal.invariant-loop-i
invariant-loop-i l =
    (l.i-start ≤ l.i) × (l.self.out.ghost_name ≡ l.fn.self.out.ghost_name) × (length l.self.out.now ≡ length l.fn.self.out.now)
    × (take l.i-start l.self.out.now ++ digits_in (l.i - l.i-start) l.rest (drop l.i l.self.out.now) ≡ paste l.fn.self.out.now l.i-start (numeral_of l.fn.n) (length (numeral_of l.fn.n)))
