-- What the answers of the solver say: the paper's number, place and value of each case.
use Rattle.std.specs.Prelude.{ℤ, Result, Ok, Err}
use Rattle.wcet.specs.Rules.{Reply, accepted, refused}
use Rattle.nesting.specs.Answers.{refusal}
use Rattle.solver.specs.declared.SolveFault.{SolveFault}
use Rattle.solver.specs.declared.SolveFault.TheVariants.{Structure, UndeclaredLoop, NoPath, Multiplier, Figure}

abbrev pub solve_meaning : Result ℤ SolveFault → Reply ℤ
solve_meaning (Ok b) = accepted b
solve_meaning (Err (Structure f)) = refusal f
solve_meaning (Err UndeclaredLoop) = refused 209 0
solve_meaning (Err (NoPath u)) = refused 401 u
solve_meaning (Err Multiplier) = refused 402 0
solve_meaning (Err Figure) = refused 403 0
