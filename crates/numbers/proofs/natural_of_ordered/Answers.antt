use Rattle.numbers.proofs.Numbers.{natural_other, natural_whole}
use Rattle.numbers.proofs.natural_of_ordered.Goals as goal

pub returns-then-run-s : goal.returns-then-run-s
returns-then-run-s g c = search natural_other

pub returns : goal.returns
returns g c = let z = g.met.T.Unsigned.number_of in search natural_whole
