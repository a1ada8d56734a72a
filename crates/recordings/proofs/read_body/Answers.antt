use Rattle.recordings.proofs.Gathering.{text_faulted}
use Rattle.std.proofs.lemmas.Result.{err_from_is_err_and}
use Rattle.recordings.proofs.read_body.Goals as goal

pub returns-in_err-count : goal.returns-in_err-count
returns-in_err-count c = let p = err_from_is_err_and c.from_residual.result c.from_residual.ensures.1 in rw (p.1, p.2) (text_faulted _ _ _ c.gather.new.found _ c.in_err-count.ensures)
