-- What the answers of the writer say: the paper's number, place and value of each case.
use Rattle.std.specs.Prelude.{ℕ, Result, Ok, Err}
use Rattle.wcet.specs.Rules.{Reply, accepted, refused}
use Rattle.nesting.specs.Answers.{refusal}
use Rattle.writer.specs.declared.MpsFault.{MpsFault}
use Rattle.writer.specs.declared.MpsFault.TheVariants.{Structure, UndeclaredLoop, NoRoom}

abbrev pub mps_meaning : Result ℕ MpsFault → Reply ℕ
mps_meaning (Ok n) = accepted n
mps_meaning (Err (Structure f)) = refusal f
mps_meaning (Err UndeclaredLoop) = refused 209 0
mps_meaning (Err NoRoom) = refused 411 0
