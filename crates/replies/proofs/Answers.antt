-- A fault has the same fields in every reply. Assumes nothing.
use Rattle.std.proofs.Common.{◌≡◌, ℕ, ℤ, refl, sym, ◌∙◌, ap}
use Rattle.wcet.specs.Walk.{Walked}
use Rattle.nesting.specs.Answers.{refusal}
use Rattle.nesting.specs.declared.StructureFault.{StructureFault}
use Rattle.stepping.specs.Step.{run_refusal}
use Rattle.stepping.specs.declared.RunFault.{RunFault}
use Rattle.stepping.specs.declared.RunFault.TheVariants.{Length, NoBlock, NotEntry, AfterExit, NoEdge, Unfinished}
use Rattle.replies.specs.Fields.{of_tables, of_count, of_walk}

pub same_fault : (f : StructureFault) → of_tables (refusal f) ≡ of_walk (refusal f)
same_fault f = refl

pub same_count_fault : (f : StructureFault) → of_tables (refusal f) ≡ of_count (refusal f)
same_count_fault f = refl

pub same_run : (f : RunFault) → of_count (run_refusal f) ≡ of_walk (run_refusal f)
same_run Length = refl
same_run (NoBlock i) = refl
same_run NotEntry = refl
same_run (AfterExit i) = refl
same_run (NoEdge i) = refl
same_run (Unfinished n) = refl
