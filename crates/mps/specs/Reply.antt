-- Document 02, §5: the reply of the writer, and the buffer that it leaves.
use Rattle.std.specs.Prelude.{ℕ, ◌≤◌, ◌≡◌, List, [], ◌∷◌, ◌++◌, ltb, length, take, drop}
use Rattle.std.proofs.Math.Option.{some}
use Rattle.wcet.specs.Table.{Routine}
use Rattle.wcet.specs.Rules.{Reply, accepted, refused, Rule, check, structure_rules}
use Rattle.wcet.specs.Claim.{AllHold}
use Rattle.optimum.specs.Replies.{given_rules}
use Rattle.mps.specs.Program.{program_of}
use Rattle.mps.specs.Mps.{Bytes, read_mps}
use Rattle.mps.specs.Text.{mps_text}
use Rattle.mps.specs.Claim.{named, NamesApart}

-- "Errors: 201 to 207 and 209 as before, then 411 when the text does not fit, place 0", in a buffer of so many bytes
unfoldable pub mps_rules : Routine → ℕ → List Rule
mps_rules t room = given_rules t ++ record { number = 411; places = 1; broken = λ _. ltb room (length (mps_text t)) } ∷ []

-- "the reply is its length"
unfoldable pub mps_reply : Routine → ℕ → Reply ℕ
mps_reply t room = check (mps_rules t room) (accepted (length (mps_text t)))

-- "The text lands in a lent buffer .. and later bytes are untouched"; "no refusal writes a byte": the buffer is as before
abbrev pub buffer_after : Routine → Bytes → Reply ℕ → Bytes
buffer_after t before (accepted n) = mps_text t ++ drop n before
buffer_after t before (refused number place) = before

-- What the writer ensures of its reply r to t and of the buffer. "Read by a definition of MPS, the text must give exactly this program's rows,
-- columns and numbers": so does the beginning of the buffer that the reply gives the length of, and no two rows or columns share a name.
pub record Exported (t : Routine) (before : Bytes) (r : Reply ℕ) (after : Bytes) : Type 0 where
  pub replied : r ≡ mps_reply t (length before)
  pub buffer : after ≡ buffer_after t before r
  pub reads : (n : ℕ) → r ≡ accepted n → read_mps (take n after) ≡ some (named (program_of t))
  pub apart : (n : ℕ) → r ≡ accepted n → NamesApart t

-- No text is longer: a buffer of so many bytes is enough for every pair of tables that passes 201 to 207. tests/mps.rs has a table whose text is
-- as long.
abbrev pub longest_text : ℕ
longest_text = 250217

abbrev pub TextFits : Routine → Type 0
TextFits t = AllHold (structure_rules t) → length (mps_text t) ≤ longest_text
