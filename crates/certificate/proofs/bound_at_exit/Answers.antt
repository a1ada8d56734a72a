use mathlib.Core.Path.{◌∙◌}
use mir.Syntax.{w64}
use mir.Val.{SFits}
use mir.Facts.{to_z-of_z}
use Rattle.wcet.specs.Rules.{bound}
use Rattle.certificate.proofs.Figures.{figure_fits}
use Rattle.certificate.proofs.bound_at_exit.Goals as goal

pub returns : goal.returns
unfolding bound
returns c = let start = c in
    let fits : SFits w64 c.bound_of.result = record { sfits = c.bound_of.type_inv } in
    to_z-of_z fits ∙ rw (to_z-of_z (figure_fits _ start.requires.entry_range), to_z-of_z (figure_fits _ start.requires.exit_range)) at c.bound_of.ensures
