-- Document 02, §5: "Read by a definition of MPS, the text must give exactly this program's rows, columns and numbers."
use Rattle.std.specs.Prelude.{ℕ, List, [], ◌∷◌, map, ◌≡◌, ◌⊎◌}
use Rattle.std.proofs.Math.Option.{some}
use Rattle.wcet.specs.Table.{Routine}
use Rattle.wcet.specs.Claim.{AllHold}
use Rattle.optimum.specs.Replies.{given_rules}
use Rattle.mps.specs.Program.{Row, Entry, Column, RowName, Program, rows_of, edges_of, program_of}
use Rattle.lists.specs.Bytes.{bytes}
use Rattle.mps.specs.Mps.{Bytes, Mps, read_mps}
use Rattle.mps.specs.Text.{row_name, edge_name, mps_text}

-- the program under the names that its text gives the rows and columns
unfoldable pub named_row : Row RowName → Row Bytes
named_row r = record { kind = r.kind; name = row_name r.name }

unfoldable pub named_entry : Entry RowName → Entry Bytes
named_entry x = record { row = row_name x.row; number = x.number }

unfoldable pub named_column : Column ℕ RowName → Column Bytes Bytes
named_column c = record { name = edge_name c.name; entries = map named_entry c.entries }

unfoldable pub named : Program → Mps
named p = record {
  title = [];
  rows = map named_row p.rows;
  columns = map named_column p.columns;
  rights = record { name = bytes "RHS"; entries = map named_entry p.right } ∷ [];
}

-- Of tables that pass 201 to 207 and 209. Without 209 an edge from a block to itself could have no number at all (cost 0, no header), and as
-- only numbers other than 0 are written, no card would name its column.
abbrev pub ReadsBack : Routine → Type 0
ReadsBack t = AllHold (given_rules t) → read_mps (mps_text t) ≡ some (named (program_of t))

-- x is one of the list
abbrev pub Among : {A : Type 0} → A → List A → Type 0
Among x [] = ⊥
Among x (y ∷ ys) = (y ≡ x) ⊎ Among x ys

-- different rows have different names, and so have different columns
pub record NamesApart (t : Routine) : Type 0 where
  pub rows : (r s : RowName) → Among r (rows_of t) → Among s (rows_of t) → row_name r ≡ row_name s → r ≡ s
  pub edges : (d e : ℕ) → Among d (edges_of t) → Among e (edges_of t) → edge_name d ≡ edge_name e → d ≡ e
