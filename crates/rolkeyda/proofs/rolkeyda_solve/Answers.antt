use Rattle.rolkeyda.proofs.Answers.{solve_fits, tables_solved}
use Rattle.rolkeyda.proofs.rolkeyda_solve.Goals as goal

pub solve_reply-requires : goal.solve_reply-requires
solve_reply-requires c = search solve_fits

pub returns : goal.returns
returns c = search tables_solved
