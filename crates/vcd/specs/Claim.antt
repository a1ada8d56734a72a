-- What is claimed of the texts of Writing.antt, and proved in proofs/: what is written reads back, accepted walks too; no other text is read without a 432;
-- and every list of values up to 65,534 can be written.
use Rattle.std.specs.Prelude.{ℕ, ◌+◌, ◌*◌, ◌≤◌, ◌≡◌, ◌≢◌, true, List, [], ◌∷◌, ◌++◌, length}
use Rattle.std.proofs.Math.Option.{none}
use Rattle.limits.specs.Limits.{most_text_bytes}
use Rattle.wcet.specs.Table.{Routine}
use Rattle.wcet.specs.Rules.{accepted, structure_rules}
use Rattle.wcet.specs.Claim.{AllHold}
use Rattle.wcet.specs.Walk.{Walked, walk_reply}
use Rattle.vcd.specs.Syntax.{is_code, Reading, reading_of}
use Rattle.vcd.specs.Recording.{values_in, self_edge_rule, recording_reply}
use Rattle.vcd.specs.Writing.{Written}

-- no value twice in a row: each differs from the one before, the first of these from `last`
abbrev pub NoRepeatAfter : (last : ℕ) → List ℕ → Type 0
NoRepeatAfter last [] = Unit {0}
NoRepeatAfter last (v ∷ vs) = (v ≢ last) × NoRepeatAfter v vs

abbrev pub NoRepeat : List ℕ → Type 0
NoRepeat [] = Unit {0}
NoRepeat (v ∷ vs) = NoRepeatAfter v vs

-- the reading r has these values, repeated ones included, and no 432
pub record ReadAs (r : Reading) (vs : List ℕ) : Type 0 where
  pub values : values_in r.values ≡ vs
  pub whole : r.refusal ≡ none

-- What is written is read, value for value.
abbrev pub Reads : Type 0
Reads = (named vs s : List ℕ) → Written named vs s → ReadAs (reading_of named s) vs

-- Every text that is read without a 432 was written so, with these values.
abbrev pub ReadsOnlyWritten : Type 0
ReadsOnlyWritten = (named s : List ℕ) → (reading_of named s).refusal ≡ none → Written named (values_in (reading_of named s).values) s

-- the tables keep 201 to 207 and 431
abbrev pub Given : Routine → Type 0
Given t = AllHold (structure_rules t ++ self_edge_rule t ∷ [])

-- What is written with no value twice in a row, in a text within its limit, reads back as the values written, if the buffer has room for them.
abbrev pub ReadsBack : Type 0
ReadsBack =
    (t : Routine) (named vs s : List ℕ) (room : ℕ) → Given t → Written named vs s → NoRepeat vs → length s ≤ most_text_bytes → length vs ≤ room
    → recording_reply t s named room ≡ accepted vs

-- "A repeated value adds no block, so a table in which a block names itself is refused": over the others, every walk that `walk` accepts, written so,
-- reads back as exactly that walk.
abbrev pub WalksReadBack : Type 0
WalksReadBack =
    (t : Routine) (named w s : List ℕ) (room : ℕ) (x : Walked) → Given t → walk_reply t w ≡ accepted x → Written named w s → length s ≤ most_text_bytes
    → length w ≤ room → recording_reply t s named room ≡ accepted w

-- each number of the list is at most this
abbrev pub UpTo : ℕ → List ℕ → Type 0
UpTo most [] = Unit {0}
UpTo most (v ∷ vs) = (v ≤ most) × UpTo most vs

-- the text s gives the named vector these values, and is short: at most 40 bytes and the code, and for each value 19 and the code
abbrev pub Writes : (named vs s : List ℕ) → Type 0
Writes named vs s = Written named vs s × (length s ≤ 40 + length named + length vs * (19 + length named))

-- Every list of values up to 65,534 can be written, whatever the code of the named vector. With a code of one byte, 3,274 values are sure to fit a text
-- within its limit.
abbrev pub CanBeWritten : Type 0
CanBeWritten = (named vs : List ℕ) → is_code named ≡ true → UpTo 65534 vs → (s : List ℕ) × Writes named vs s

-- and so can every walk that `walk` accepts
abbrev pub WalksCanBeWritten : Type 0
WalksCanBeWritten = (t : Routine) (named w : List ℕ) (x : Walked) → walk_reply t w ≡ accepted x → is_code named ≡ true → (s : List ℕ) × Writes named w s
