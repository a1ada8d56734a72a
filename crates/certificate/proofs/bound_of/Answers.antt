use native.Mathlib.Omega.{arith}
use lib.IntN.{pos, ◌+ℤ◌, ◌-ℤ◌}
use mir.Syntax.{w64}
use mir.Val.{SFits}
use mir.Facts.{to_z-of_z, to_z_pos}
use Rattle.certificate.proofs.Figures.{sum_fits, bound_fits}
use Rattle.certificate.proofs.bound_of.Goals as goal

pub overflow_add-result : goal.overflow_add-result
overflow_add-result c = rw (to_z_pos w64 {n = c.args.cost} (omega arith), to_z-of_z c.ranges.entry) (sum_fits _ _ c.requires.0 c.requires.1)

pub overflow_sub-result : goal.overflow_sub-result
overflow_sub-result c = let a = c.args in
    let more : SFits w64 (pos a.cost +ℤ a.entry) = sum_fits _ _ c.requires.0 c.requires.1 in
    rw (to_z_pos w64 {n = a.cost} (omega arith), to_z-of_z c.ranges.entry, to_z-of_z more, to_z-of_z c.ranges.exit) (bound_fits _ _ _ c.requires.0 c.requires.1 c.requires.2)

pub returns : goal.returns
returns c = let a = c.args in
    let more : SFits w64 (pos a.cost +ℤ a.entry) = sum_fits _ _ c.requires.0 c.requires.1 in
    let whole : SFits w64 (pos a.cost +ℤ a.entry -ℤ a.exit) = bound_fits _ _ _ c.requires.0 c.requires.1 c.requires.2 in
    rw (to_z_pos w64 {n = a.cost} (omega arith), to_z-of_z c.ranges.entry, to_z-of_z more, to_z-of_z c.ranges.exit, to_z-of_z whole)
