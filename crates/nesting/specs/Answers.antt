-- What the answers of the structure check say: the paper's number and place of each case.
use Rattle.std.specs.Prelude.{ℕ, ◌≡◌, List, drop, Result, Ok, Err}
use Rattle.wcet.specs.Table.{Routine}
use Rattle.wcet.specs.Rules.{Reply, accepted, refused, Rule, check, structure_rules}
use Rattle.loopsets.specs.Sets.{sets_around}
use Rattle.nesting.specs.declared.Refusal.{Refusal}
use Rattle.nesting.specs.declared.StructureFault.{StructureFault}
use Rattle.nesting.specs.declared.StructureFault.TheVariants.{Sizes, Loop, Block, Header, Depth, EntryOrExit, PastHeader}

-- the number and the place of each broken rule
abbrev pub refusal_of : StructureFault → Refusal
refusal_of Sizes = record { number = 201; place = 0 }
refusal_of (Loop l) = record { number = 202; place = l }
refusal_of (Block u) = record { number = 203; place = u }
refusal_of (Header l) = record { number = 204; place = l }
refusal_of (Depth l) = record { number = 205; place = l }
refusal_of (EntryOrExit u) = record { number = 206; place = u }
refusal_of (PastHeader u) = record { number = 207; place = u }

abbrev pub refusal : {A : Type 0} → StructureFault → Reply A
refusal f = refused (refusal_of f).number (refusal_of f).place

-- the reply that an answer of the structure check stands for: sets are given where the rules hold, and a refusal has none
abbrev pub structure_reply : Result (List ℕ) StructureFault → Reply Unit
structure_reply (Ok around) = accepted tt
structure_reply (Err f) = refusal f

-- the sets that are given are those of the loops around each loop
abbrev pub SetsGiven : (parents : List ℕ) → Result (List ℕ) StructureFault → Type 0
SetsGiven parents (Ok around) = around ≡ sets_around parents
SetsGiven parents (Err f) = Unit

-- a check of these rules: its answer is theirs, and the sets are the ones beside that answer
pub record RulesChecked (rules : List Rule) (parents : List ℕ) (r : Result (List ℕ) StructureFault) : Type 0 where
  pub replied : structure_reply r ≡ check rules (accepted tt)
  pub sets : SetsGiven parents r

-- what the structure check ensures
abbrev pub StructureChecked : Routine → Result (List ℕ) StructureFault → Type 0
StructureChecked t = RulesChecked (structure_rules t) t.parents

-- the same of 205 to 207, where 201 to 204 hold
abbrev pub NestingChecked : Routine → Result (List ℕ) StructureFault → Type 0
NestingChecked t = RulesChecked (drop 4 (structure_rules t)) t.parents
