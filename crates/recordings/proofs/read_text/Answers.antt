use Rattle.std.proofs.lemmas.Result.{err_from_is_err_and}
use Rattle.recordings.proofs.Gathering.{body_begins, text_refused}
use Rattle.recordings.proofs.read_text.Goals as goal

pub returns-in_err-at : goal.returns-in_err-at
returns-in_err-at c = let p = err_from_is_err_and c.from_residual.result c.from_residual.ensures.1 in rw (p.1, p.2) (text_refused _ _ _ _ c.in_err-at.ensures)

pub read_body-requires : goal.read_body-requires
read_body-requires c = body_begins _ _ _ _ c.requires.0 c.requires.1 c.in_ok-at.ensures
