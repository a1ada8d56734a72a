-- What a reader leaves: its reply, and the final contents of every lent column.
-- Assumes nothing: these are definitions.
use Rattle.std.specs.Prelude.{ℕ, min, ◌≡◌, Bool, List, [], ◌∷◌, map, length, ℤ, Result, Ok, Err}
use Rattle.rows.specs.Row.{cost_of, innermost_of, first_of, second_of, figure_of, parent_of, loop_header_of, limit_of, multiplier_of}
use Rattle.rows.specs.declared.BlockRow.{BlockRow}
use Rattle.rows.specs.declared.LoopRow.{LoopRow}
use Rattle.tables.specs.Table.{End, all, refused, Reading, block_table, loop_table}
use Rattle.tables.specs.declared.Rows.{Rows}
use Rattle.tables.specs.declared.ReadFault.{ReadFault}

-- "On acceptance the reader gives the row count", and by document 02, §1, "the first record's line end beside the row count"; "Each refusal
-- is a number and a place"
abbrev pub reply_by : ℕ → End → Result Rows ReadFault
reply_by k (all ending) = Ok (record { count = k; ending = ending })
reply_by k (refused fault) = Err fault

abbrev pub reply_of : {A : Type 0} → Reading A → Result Rows ReadFault
reply_of x = reply_by (length x.rows) x.end

-- the rows of an accepted text; a refusal "changes no lent column"
abbrev pub accepted_by : {A : Type 0} → List A → End → List A
accepted_by ws (all ending) = ws
accepted_by ws (refused fault) = []

abbrev pub accepted : {A : Type 0} → Reading A → List A
accepted x = accepted_by x.rows x.end

-- a column that "fills the first k places .. later places keep their contents"
unfoldable pub over : {A : Type 0} → List A → List A → List A
over [] column = column
over (v ∷ vs) [] = []
over (v ∷ vs) (c ∷ column) = v ∷ over vs column

-- the lent columns of each table, and the places of the shortest
pub record BlockColumns : Type 0 where
  pub cost : List ℕ
  pub loops : List ℕ
  pub first : List ℕ
  pub second : List ℕ
  pub figure : List ℤ

abbrev pub blocks : List ℕ → List ℕ → List ℕ → List ℕ → List ℤ → BlockColumns
blocks c l a b z = record { cost = c; loops = l; first = a; second = b; figure = z }

abbrev pub shortest_block : BlockColumns → ℕ
shortest_block c = min (length c.cost) (min (length c.loops) (min (length c.first) (min (length c.second) (length c.figure))))

pub record LoopColumns : Type 0 where
  pub parent : List ℕ
  pub header : List ℕ
  pub limit : List ℕ
  pub multiplier : List ℕ

abbrev pub loops : List ℕ → List ℕ → List ℕ → List ℕ → LoopColumns
loops p h l m = record { parent = p; header = h; limit = l; multiplier = m }

abbrev pub shortest_loop : LoopColumns → ℕ
shortest_loop c = min (length c.parent) (min (length c.header) (min (length c.limit) (length c.multiplier)))

-- the reply and the columns after the reading x
pub record BlocksDone (x : Reading BlockRow) (old : BlockColumns) (r : Result Rows ReadFault) (new : BlockColumns) : Type 0 where
  pub reply : r ≡ reply_of x
  pub cost : new.cost ≡ over (map cost_of (accepted x)) old.cost
  pub loops : new.loops ≡ over (map innermost_of (accepted x)) old.loops
  pub first : new.first ≡ over (map first_of (accepted x)) old.first
  pub second : new.second ≡ over (map second_of (accepted x)) old.second
  pub figure : new.figure ≡ over (map figure_of (accepted x)) old.figure

pub record LoopsDone (x : Reading LoopRow) (old : LoopColumns) (r : Result Rows ReadFault) (new : LoopColumns) : Type 0 where
  pub reply : r ≡ reply_of x
  pub parent : new.parent ≡ over (map parent_of (accepted x)) old.parent
  pub header : new.header ≡ over (map loop_header_of (accepted x)) old.header
  pub limit : new.limit ≡ over (map limit_of (accepted x)) old.limit
  pub multiplier : new.multiplier ≡ over (map multiplier_of (accepted x)) old.multiplier

-- the promises of the two readers, of a text and the columns that were lent
abbrev pub BlocksRead : List ℕ → Bool → BlockColumns → Result Rows ReadFault → BlockColumns → Type 0
BlocksRead s headerRow old r new = BlocksDone (block_table (shortest_block old) headerRow s) old r new

abbrev pub LoopsRead : List ℕ → Bool → LoopColumns → Result Rows ReadFault → LoopColumns → Type 0
LoopsRead s headerRow old r new = LoopsDone (loop_table (shortest_loop old) headerRow s) old r new
