-- The text piece by piece, as the code writes it: proofs/Whole.antt shows that the pieces make up the text of a pair of tables.
use Rattle.std.specs.Prelude.{ℕ, ◌-◌, ◌*◌, ◌≤◌, ◌<◌, ◌≡◌, not, eqb, ltb, leb, length, drop, Bool, ℤ, pos, negsuc, neg_ℤ, ◌-ℤ◌, Option, Some, None, Result, Ok, Err}
use Prim.Native.String.{String}
use mathlib.Core.List.{List, [], ◌∷◌, ◌++◌, flat_map}
use Rattle.lists.specs.Search.{when◌then◌else◌}
use Rattle.lists.specs.Bytes.{bytes}
use Rattle.wcet.specs.Table.{Routine, block_count, missing, cost, loop_of, limit, is_header}
use Rattle.loopsets.specs.Sets.{member, set_at}
use Rattle.nesting.specs.Columns.{Innermost, Linked}
use Rattle.mps.specs.Program.{objective, block, loop, numbers_from, source, target}
use Rattle.mps.specs.Text.{row_name, edge_name}
use Rattle.cards.specs.Cards.{head, block_row, loop_row, card}
use Rattle.writer.specs.declared.MpsFault.{MpsFault}
use Rattle.writer.specs.declared.MpsFault.TheVariants.{NoRoom}
use Rattle.writer.specs.declared.Edge.{Edge}

-- ---- an edge

-- what 201 to 203 leave of the columns that the text is read off
pub record Readable (t : Routine) : Type 0 where
  pub innermost : Innermost t.loops t.headers
  pub linked : Linked (block_count t) t.firsts t.seconds
  pub loops : length t.loops ≡ block_count t
  pub limits : length t.limits ≡ length t.headers
  pub blocks : 1 < block_count t
  pub headers : 0 < length t.headers

-- the number of an edge from u to v in the row of v's loop, by the loop sets
unfoldable pub loop_number : (sets : List ℕ) → Routine → ℕ → ℕ → ℤ
loop_number sets t u v =
    when not (is_header t v) then pos 0 else
    when member (set_at sets (loop_of t u)) (loop_of t v) then pos 1 else
    pos 1 -ℤ pos (limit t (loop_of t v))

-- edge number e, where its target is v
unfoldable pub edge_to : (sets : List ℕ) → Routine → ℕ → ℕ → Edge
edge_to sets t e v = record { number = e; source = source e; target = v; cost = neg_ℤ (pos (cost t v)); headed = loop_of t v; coefficient = loop_number sets t (source e) v }

-- edge number e, where there is one
abbrev pub edge_of : (sets : List ℕ) → Routine → ℕ → Option Edge
edge_of sets t e = when eqb (target t e) missing then None else Some (edge_to sets t e (target t e))

-- ---- its lines

-- of its source and its target, the lower first
unfoldable pub ends_text : ℕ → (u v : ℕ) → List ℕ
ends_text e u v =
    when ltb u v then card (head (edge_name e) (row_name (block u))) (pos 1) ++ card (head (edge_name e) (row_name (block v))) (negsuc 0) else
    when ltb v u then card (head (edge_name e) (row_name (block v))) (negsuc 0) ++ card (head (edge_name e) (row_name (block u))) (pos 1) else
    []

unfoldable pub edge_text : Edge → List ℕ
edge_text x =
    card (head (edge_name x.number) (row_name objective)) x.cost
    ++ ends_text x.number x.source x.target
    ++ card (head (edge_name x.number) (row_name (loop x.headed))) x.coefficient

-- none, where there is no edge
abbrev pub lines_of : Option Edge → List ℕ
lines_of None = []
lines_of (Some x) = edge_text x

-- r is the length of an edge's lines
pub record EdgeLength (x : Edge) (r : ℕ) : Type 0 where
  pub exact : r ≡ length (edge_text x)
  pub most : r ≤ 200

-- ---- the whole

-- what f writes for each number from a up to below b
unfoldable pub span : (ℕ → List ℕ) → ℕ → ℕ → List ℕ
span f a b = flat_map f (numbers_from a (b - a))

abbrev pub line : String → List ℕ
line s = bytes s ++ 10 ∷ []

unfoldable pub rows_text : (n m : ℕ) → List ℕ
rows_text n m = (line "NAME" ++ line "ROWS" ++ line " N  COST") ++ span block_row 0 n ++ span loop_row 1 m

unfoldable pub edges_text : (sets : List ℕ) → Routine → List ℕ
edges_text sets t = span (λ e. lines_of (edge_of sets t e)) 0 (2 * block_count t)

-- r is the length of the lines of all edges
pub record EdgesLength (sets : List ℕ) (t : Routine) (r : ℕ) : Type 0 where
  pub exact : r ≡ length (edges_text sets t)
  pub most : r ≤ 400 * block_count t

unfoldable pub rights_text : ℕ → List ℕ
rights_text n = (line "RHS" ++ line "    RHS       B0000     1") ++ card (head (bytes "RHS") (row_name (block (n - 1)))) (negsuc 0) ++ line "ENDATA"

unfoldable pub whole_text : (sets : List ℕ) → Routine → List ℕ
whole_text sets t = rows_text (block_count t) (length t.headers) ++ (line "COLUMNS" ++ edges_text sets t) ++ rights_text (block_count t)

-- the reply of the writer of w, and the buffer: nothing is written where w does not fit
abbrev pub fits : List ℕ → List ℕ → Bool
fits w out = leb (length w) (length out)

pub record Landed (w before : List ℕ) (r : Result ℕ MpsFault) (after : List ℕ) : Type 0 where
  pub replied : r ≡ (when fits w before then Ok (length w) else Err NoRoom)
  pub held : after ≡ (when fits w before then w ++ drop (length w) before else before)
