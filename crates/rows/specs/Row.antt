-- The rows of the two tables: what the fields of a record say of a block and of a loop. Document 01, "The routine as two tables" and
-- "Reading the text".
-- Assumes nothing: these are definitions.
use Rattle.std.specs.Prelude.{ℕ, ◌-◌, ◌^◌, Bool, cond, List, eqb, ltb, ℤ, Result, Ok, Err}
use Rattle.cells.specs.Cell.{unsigned, signed}
use Rattle.digits.specs.declared.NotNumber.{NotNumber}
use Rattle.digits.specs.declared.NotNumber.TheVariants.{Missing, Bad}
use Rattle.rows.specs.Fault.{not_number}
use Rattle.rows.specs.declared.Fault.{Fault}
use Rattle.rows.specs.declared.Fault.TheVariants.{OutOfTurn, NoPlace, OtherEnding}
use Rattle.rows.specs.declared.BlockCells.{BlockCells}
use Rattle.rows.specs.declared.BlockRow.{BlockRow}
use Rattle.rows.specs.declared.LoopCells.{LoopCells}
use Rattle.rows.specs.declared.LoopRow.{LoopRow}

-- "The block table has six columns .. The loop table has five"
abbrev pub block_fields : ℕ
block_fields = 6

abbrev pub loop_fields : ℕ
loop_fields = 5

-- what a record says where a row is due: the row, or its first fault
abbrev pub Verdict : Type 0 → Type 0
Verdict A = Result A Fault

-- 104: "a field is no number of its width, or is empty and not a successor"
abbrev pub needed : {A B : Type 0} → Result A NotNumber → (A → Verdict B) → Verdict B
needed (Ok n) f = f n
needed (Err e) f = Err not_number

-- "In the columns a missing successor is 65,535"
abbrev pub or_missing : Result ℕ NotNumber → Result ℕ NotNumber
or_missing (Ok n) = Ok n
or_missing (Err Missing) = Ok 65535
or_missing (Err Bad) = Err Bad

-- 105: "row number out of turn", for row n, which is w, where row k is due; then 106, where only `room` rows have a place; then 108, where
-- `alike` is false. Document 02, §1: "108, place the record, when its line end is neither the first record's nor the end of the text, after 106"
unfoldable pub in_turn : {A : Type 0} → ℕ → ℕ → Bool → ℕ → A → Verdict A
in_turn room k alike n w = cond (eqb n k) (cond (ltb k room) (cond alike (Ok w) (Err OtherEnding)) (Err NoPlace)) (Err OutOfTurn)

-- "Widths: number, loop, parent and header up to 65,535; successor up to 65,534; cost and limit up to 2^32−1; multiplier up to
-- 2^64−1; figure from −2^63 to 2^63−1." Field i of the record is w i.
-- "number, cost, loop, first successor, second successor, figure"
abbrev pub block_cells : (ℕ → List ℕ) → BlockCells
block_cells w = record { number = unsigned 65535 (w 0); cost = unsigned (2 ^ 32 - 1) (w 1); innermost = unsigned 65535 (w 2); first = unsigned 65534 (w 3); second = unsigned 65534 (w 4); figure = signed (w 5) }

unfoldable pub block_row : ℕ → ℕ → Bool → BlockCells → Verdict BlockRow
block_row room k alike x =
    needed x.number λ n.
    needed x.cost λ c.
    needed x.innermost λ l.
    needed (or_missing x.first) λ a.
    needed (or_missing x.second) λ b.
    needed x.figure λ z.
    in_turn room k alike n (record { number = n; cost = c; innermost = l; first = a; second = b; figure = z })

-- "number, parent, header, limit, multiplier"
abbrev pub loop_cells : (ℕ → List ℕ) → LoopCells
loop_cells w = record { number = unsigned 65535 (w 0); parent = unsigned 65535 (w 1); header = unsigned 65535 (w 2); limit = unsigned (2 ^ 32 - 1) (w 3); multiplier = unsigned (2 ^ 64 - 1) (w 4) }

unfoldable pub loop_row : ℕ → ℕ → Bool → LoopCells → Verdict LoopRow
loop_row room k alike x =
    needed x.number λ n.
    needed x.parent λ p.
    needed x.header λ h.
    needed x.limit λ l.
    needed x.multiplier λ m.
    in_turn room k alike n (record { number = n; parent = p; header = h; limit = l; multiplier = m })

-- what a row puts into each column
abbrev pub cost_of : BlockRow → ℕ
cost_of w = w.cost

abbrev pub innermost_of : BlockRow → ℕ
innermost_of w = w.innermost

abbrev pub first_of : BlockRow → ℕ
first_of w = w.first

abbrev pub second_of : BlockRow → ℕ
second_of w = w.second

abbrev pub figure_of : BlockRow → ℤ
figure_of w = w.figure

abbrev pub parent_of : LoopRow → ℕ
parent_of w = w.parent

abbrev pub loop_header_of : LoopRow → ℕ
loop_header_of w = w.header

abbrev pub limit_of : LoopRow → ℕ
limit_of w = w.limit

abbrev pub multiplier_of : LoopRow → ℕ
multiplier_of w = w.multiplier
