-- What the answers of the reader of recordings say: the paper's number, place and value of each case; and what the functions below it require and ensure.
use Rattle.std.specs.Prelude.{ℕ, ◌≤◌, ◌≡◌, false, List, [], length, take, Option, Result, Ok, Err}
use Rattle.limits.specs.Limits.{most_text_bytes}
use Rattle.lists.specs.Search.{first_below}
use Rattle.wcet.specs.Table.{edge}
use Rattle.wcet.specs.Rules.{Reply, accepted, refused}
use Rattle.nesting.specs.Columns.{edge_columns}
use Rattle.nesting.specs.Answers.{refusal}
use Rattle.vcd.specs.Syntax.{command, reading_of}
use Rattle.vcd.specs.Recording.{recorded, counted, buffer_after, most_changes}
use Rattle.commands.specs.Reads.{reading_from}
use Rattle.recordings.specs.declared.VcdFault.{VcdFault}
use Rattle.recordings.specs.declared.VcdFault.TheVariants.{Structure, SelfEdge, TextLength, Word, NoPlace}

-- the number and the place of each refusal
abbrev pub fault_meaning : {A : Type 0} → VcdFault → Reply A
fault_meaning (Structure f) = refusal f
fault_meaning (SelfEdge u) = refused 431 u
fault_meaning TextLength = refused 101 0
fault_meaning (Word p) = refused 432 p
fault_meaning (NoPlace p) = refused 433 p

abbrev pub vcd_meaning : Result ℕ VcdFault → Reply ℕ
vcd_meaning (Ok n) = accepted n
vcd_meaning (Err f) = fault_meaning f

-- ---- for functions that are no public entry

-- 431, by the two columns of successors
unfoldable pub first_self_edge : (firsts seconds : List ℕ) → Option ℕ
first_self_edge firsts seconds = first_below (length firsts) (λ u. edge (edge_columns [] firsts seconds) u u)

-- the commands begin at this place of a text within its limit, and there is a place for each value
pub record Begins (named s : List ℕ) (at : ℕ) (found : List ℕ) : Type 0 where
  pub short : length s ≤ most_text_bytes
  pub roomy : length found ≡ most_changes
  pub reads : reading_of named s ≡ reading_from named s (command false) at

-- What is gathered of y, what the text says: the values are in the first places of `found`, or y is that refusal. No place is left only in a small buffer.
abbrev pub GatheredBy : (y : Reply (List ℕ)) (room : ℕ) (found : List ℕ) → Result ℕ VcdFault → Type 0
GatheredBy y room found (Ok k) = (y ≡ accepted (take k found)) × (k ≤ room) × (k ≤ length found)
GatheredBy y room found (Err f) = (y ≡ fault_meaning f) × (most_changes ≤ room → (place : ℕ) → y ≡ refused 433 place → ⊥)

-- the reply to a text within its limit, and the buffer after the call
pub record TextRecorded (s named before : List ℕ) (r : Reply ℕ) (after : List ℕ) : Type 0 where
  pub replied : r ≡ counted (recorded named (length before) s)
  pub buffer : after ≡ buffer_after before (recorded named (length before) s)
  pub roomy : most_changes ≤ length before → (place : ℕ) → r ≡ refused 433 place → ⊥
