use Rattle.std.proofs.Common.{◌∙◌}
use Rattle.std.proofs.lemmas.Result.{err_from_is_err_and}
use Rattle.numbers.proofs.Numbers.{by_wide_bad, by_wide_number}
use Rattle.numbers.proofs.natural_by.Goals as goal

pub returns-in_err-natural_by_ordered : goal.returns-in_err-natural_by_ordered
returns-in_err-natural_by_ordered g c =
    let p = err_from_is_err_and c.from_residual.result c.from_residual.ensures.1 in
    rw (p.1, p.2) (by_wide_bad g.T.Unsigned.number c.args.greatest c.args.written.now c.args.value c.in_64_bits.ensures c.natural_by_ordered.ensures _ c.in_err-natural_by_ordered.was)

pub returns : goal.returns
returns g c = c.ok_or.ensures.value ∙ by_wide_number g.T.Unsigned.number c.args.greatest c.args.written.now c.args.value c.in_64_bits.ensures c.natural_by_ordered.ensures _ c.in_ok-natural_by_ordered.was
