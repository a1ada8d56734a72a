use Rattle.exits.proofs.Places.{lost}
use Rattle.exits.proofs.first_lost.Goals as goal

pub returns : goal.returns
returns c = let a = c.args in
    lost a.first.now a.second.now c.mark_paths-marks.result c.mark_paths-marks.ensures c.first_unmarked.result c.first_unmarked.ensures
