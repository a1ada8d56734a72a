-- What the answers of the table checker say: the paper's number, place and value of each case.
use Rattle.std.specs.Prelude.{ℤ, Result, Ok, Err}
use Rattle.wcet.specs.Rules.{Reply, accepted, refused}
use Rattle.nesting.specs.Answers.{refusal}
use Rattle.certificate.specs.declared.TableFault.{TableFault}
use Rattle.certificate.specs.declared.TableFault.TheVariants.{Structure, Inequality, UndeclaredLoop}

abbrev pub table_meaning : Result ℤ TableFault → Reply ℤ
table_meaning (Ok b) = accepted b
table_meaning (Err (Structure f)) = refusal f
table_meaning (Err (Inequality u)) = refused 208 u
table_meaning (Err UndeclaredLoop) = refused 209 0
