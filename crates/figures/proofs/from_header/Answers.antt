use Rattle.std.proofs.Common.{◌≡◌, ◌^◌, arith, pos, neg_ℤ, ◌+ℤ◌, ◌-ℤ◌, ◌≤ℤ◌, FitsSigned, to_z}
use mir.Syntax.{w64}
use mir.Facts.{to_z-of_z, to_z_pos}
use Rattle.integers.proofs.Laws.{ints}
use Rattle.figures.proofs.Signs.{taken_fits, given_fits, header_some}
use Rattle.figures.proofs.from_header.Goals as goal

pub returns : goal.returns
returns c =
    let a = c.args in
    let W = c.requires.1 in
    let K = c.requires.2 in
    let p : pos 0 ≤ℤ a.w = omega (ints, to_z-of_z c.ranges.w) in
    let q : neg_ℤ (pos (2 ^ 61)) ≤ℤ a.head = omega (ints, to_z-of_z c.ranges.head) in
    let k : to_z w64 a.k ≡ pos a.k = to_z_pos w64 {n = a.k} (omega (arith, c.requires.0)) in
    let less : FitsSigned w64 (a.w -ℤ pos a.k) = taken_fits a.k a.w p W c.requires.0 in
    let all : FitsSigned w64 (a.w -ℤ pos a.k +ℤ a.head) = given_fits a.k a.w p W c.requires.0 a.head K q in
    rw (to_z-of_z c.ranges.w, k, to_z-of_z less, to_z-of_z c.ranges.head, to_z-of_z all) (header_some a.k a.w p W c.requires.0 a.head K q)
