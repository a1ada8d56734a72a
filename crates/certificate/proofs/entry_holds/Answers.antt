use Rattle.std.proofs.Common.{◌-ℤ◌, arith, FitsSigned, w64}
use mir.Facts.{to_z-of_z, to_z_pos}
use Rattle.certificate.proofs.Figures.{diff_fits, less_fits, product_fits, product_sum_fits}
use Rattle.certificate.proofs.entry_holds.Goals as goal

pub returns : goal.returns
returns g c =
    let a = c.args in
    let less : FitsSigned w64 (a.from -ℤ a.to) = diff_fits _ _ c.requires.1 c.requires.2 in
    rw (to_z_pos w64 {n = a.cost} (omega arith), to_z_pos w64 {n = a.multiplier} (omega arith), to_z_pos w64 {n = a.visits} (omega arith), to_z-of_z c.ranges.from, to_z-of_z c.ranges.to, to_z-of_z less, to_z-of_z (less_fits a.visits 1 c.requires.4 (omega arith)), to_z-of_z (product_fits a.multiplier a.visits 1 c.requires.3 c.requires.4 (omega arith)), to_z-of_z (product_sum_fits a.cost a.multiplier a.visits 1 c.requires.0 c.requires.3 c.requires.4 (omega arith))) at c.compares.ensures
