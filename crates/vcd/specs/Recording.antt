-- Document 02, §8: what a recording says, the reply, and the buffer after the call.
use Rattle.std.specs.Prelude.{ℕ, ◌≤◌, ◌≡◌, List, [], ◌∷◌, ◌++◌, map, eqb, leb, ltb, length, drop}
use Rattle.std.proofs.Math.Option.{Option, none, some}
use Rattle.limits.specs.Limits.{most_text_bytes}
use Rattle.lists.specs.Search.{when◌then◌else◌}
use Rattle.wcet.specs.Table.{Routine, block_count, edge}
use Rattle.wcet.specs.Rules.{Reply, accepted, refused, Rule, check, structure_rules}
use Rattle.vcd.specs.Syntax.{Value, reading_of}

-- ---- the meaning of a text

-- "A repeated value adds no block": of these values, which come after the value `last`, those that differ from the one before
unfoldable pub changed : (last : ℕ) → List Value → List Value
changed last [] = []
changed last (v ∷ vs) = when eqb v.value last then changed last vs else v ∷ changed v.value vs

-- "The meaning of a file is the list of changed values, the first included, in order of the text."
unfoldable pub changes : List Value → List Value
changes [] = []
changes (v ∷ vs) = v ∷ changed v.value vs

abbrev pub values_in : List Value → List ℕ
values_in vs = map (λ v. v.value) vs

-- "the lowest byte decides between 432 and 433, and 432 wins at one byte". "433 is a changed value with no place left in the walk buffer, place as for a
-- refused change": of the changed values vs, `left` are those with no place left. `refusal` is the place of the 432. (The two are never at one byte: a
-- change that is refused has no value here, so there 432 has won already.)
abbrev pub decided : (vs left : List Value) (refusal : Option ℕ) → Reply (List ℕ)
decided vs [] none = accepted (values_in vs)
decided vs [] (some place) = refused 432 place
decided vs (v ∷ left) none = refused 433 v.place
decided vs (v ∷ left) (some place) = when leb place v.place then refused 432 place else refused 433 v.place

-- what the text s says of the vector `named`, with so many places in the buffer
unfoldable pub recorded : (named : List ℕ) (room : ℕ) → List ℕ → Reply (List ℕ)
recorded named room s = decided (changes (reading_of named s).values) (drop room (changes (reading_of named s).values)) (reading_of named s).refusal

-- ---- the reply

-- "A repeated value adds no block, so a table in which a block names itself is refused." 431: "a block with an edge to itself, place the lowest such block"
abbrev pub self_edge_rule : Routine → Rule
self_edge_rule t = record { number = 431; places = block_count t; broken = λ u. edge t u u }

-- "then 101": document 01, "text over 65,536 bytes", place 0
abbrev pub text_rule : List ℕ → Rule
text_rule s = record { number = 101; places = 1; broken = λ _. ltb most_text_bytes (length s) }

-- "Errors: the tables' 201 to 207; then 431 ..; then 101; then the lowest byte decides between 432 and 433"
unfoldable pub recording_reply : Routine → (s named : List ℕ) (room : ℕ) → Reply (List ℕ)
recording_reply t s named room = check (structure_rules t ++ self_edge_rule t ∷ text_rule s ∷ []) (recorded named room s)

-- "the places filled, whose count is the reply"
abbrev pub counted : Reply (List ℕ) → Reply ℕ
counted (accepted vs) = accepted (length vs)
counted (refused number place) = refused number place

-- "The buffer changes only on success, and then only in the places filled"
abbrev pub buffer_after : (before : List ℕ) → Reply (List ℕ) → List ℕ
buffer_after before (accepted vs) = vs ++ drop (length vs) before
buffer_after before (refused number place) = before

-- No text within its limit has more changed values: a change takes at least four bytes, as in `b0 !`, and one that parts it from the next. A buffer of so
-- many places gets no 433.
abbrev pub most_changes : ℕ
most_changes = 13107

-- What the reader ensures of its reply r to the tables t, the text s and the code `named`, and of the buffer, by what it was before: the reply, the buffer, and
-- that a buffer of `most_changes` places has room for any text.
pub record Recorded (t : Routine) (s named before : List ℕ) (r : Reply ℕ) (after : List ℕ) : Type 0 where
  pub replied : r ≡ counted (recording_reply t s named (length before))
  pub buffer : after ≡ buffer_after before (recording_reply t s named (length before))
  pub roomy : most_changes ≤ length before → (place : ℕ) → r ≡ refused 433 place → ⊥
