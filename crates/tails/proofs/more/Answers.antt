use Rattle.std.proofs.Common.{rules, pos, ◌≤ℤ◌, ◌+ℤ◌, FitsSigned}
use mir.Syntax.{w64}
use mir.Facts.{to_z-of_z}
use Rattle.integers.proofs.Laws.{ints}
use Rattle.tails.proofs.Words.{word_fits, word_sum}
use Rattle.tails.proofs.more.Goals as goal

pub returns : goal.returns
returns c =
    let c1 = c.args.c in
    let w = c.args.w in
    let p : pos 0 ≤ℤ c1 = omega (ints, to_z-of_z c.ranges.c) in
    let q : pos 0 ≤ℤ w = omega (ints, to_z-of_z c.ranges.w) in
    let f : FitsSigned w64 (c1 +ℤ w) = word_fits c1 w p q c.requires.0 c.requires.1 in
    let g : FitsSigned w64 c.min.result = search rules in
    rw (to_z-of_z g) (word_sum c1 w p q c.requires.0 c.requires.1 c.min.result (rw (to_z-of_z c.ranges.c, to_z-of_z c.ranges.w, to_z-of_z f) at c.min.ensures.value))
