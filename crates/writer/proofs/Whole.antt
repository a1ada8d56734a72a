-- The pieces that the code writes are the text. Assumes nothing.
use Rattle.std.proofs.Common.{◌≡◌, refl, sym, ◌∙◌, ap, Bool, true, false, cond, not, List, [], ◌∷◌, ◌++◌, map, append_assoc, append-nil, ℕ, zero, suc, ◌+◌, ◌-◌, ◌*◌, ◌<◌, ◌≤◌, arith, eqb, ltb, ℤ, pos, negsuc, neg_ℤ, length, replicate}
use mathlib.Core.List.{flat_map, flatten}
use Rattle.limits.specs.Limits.{most_loops}
use Rattle.lists.specs.Bytes.{bytes}
use Rattle.digits.specs.Decimal.{numeral_in, numeral_of, integer_of}
use Rattle.wcet.specs.Table.{Routine, block_count, loop_count, exit, missing, edge, cost, loop_of, inside}
use Rattle.wcet.specs.Rules.{structure_rules}
use Rattle.wcet.specs.Claim.{AllHold}
use Rattle.wcet.proofs.Nesting.{Nested, nested}
use Rattle.loopsets.specs.Sets.{sets_around}
use Rattle.loopsets.proofs.Laws.{member_around}
use Rattle.nesting.proofs.Stages.{headed}
use Rattle.mps.specs.Program.{Row, Entry, RowName, objective, block, loop, kind_of, numbers_from, keep, rows_of, source, target, edges_of, number, right_side, entries_of, column_of, program_of}
use Rattle.mps.specs.Mps.{Bytes}
use Rattle.mps.specs.Text.{digits_in, row_name, edge_name, filled, row_line, entry_line, column_lines, lines_in, text_of, mps_text}
use Rattle.mps.proofs.Routines.{edge_there}
use Rattle.cards.specs.Cards.{head, block_row, loop_row, card}
use Rattle.writer.specs.Pieces.{loop_number, edge_to, edge_of, ends_text, edge_text, lines_of, span, line, rows_text, edges_text, rights_text, whole_text}
use Rattle.writer.proofs.Short.{entry_in, plus, minus, block_entries, short_column, short_right}

-- ---- lines with their ends

abbrev ended : List Bytes → Bytes
ended = flat_map (λ l. l ++ 10 ∷ [])

flat_append : {A : Type 0} (f : A → Bytes) (xs ys : List A) → flat_map f (xs ++ ys) ≡ flat_map f xs ++ flat_map f ys
unfolding flat_map
flat_append f [] ys = refl
flat_append f (x ∷ xs) ys = ap (λ (s : Bytes). f x ++ s) (flat_append f xs ys) ∙ sym (append_assoc (f x) (flat_map f xs) (flat_map f ys))

flat_map_lem : {A B : Type 0} (f : B → Bytes) (g : A → B) (xs : List A) → flat_map f (map g xs) ≡ flat_map (λ x. f (g x)) xs
unfolding flat_map
flat_map_lem f g [] = refl
flat_map_lem f g (x ∷ xs) = ap (λ (s : Bytes). f (g x) ++ s) (flat_map_lem f g xs)

-- ---- a number's line

filled_onto : (s rest : Bytes) → filled s rest ≡ filled s [] ++ rest
unfolding filled
filled_onto s rest = sym (append_assoc (s ++ replicate (8 - length s) 32) (32 ∷ 32 ∷ []) rest)

head_onto : (name row w : Bytes) → head name row ++ w ≡ 32 ∷ 32 ∷ 32 ∷ 32 ∷ filled name (filled row w)
unfolding head
head_onto name row w =
    ap (λ (s : Bytes). 32 ∷ 32 ∷ 32 ∷ 32 ∷ s)
    (ap (λ (s : Bytes). s ++ w) (filled_onto name (filled row []))
    ∙ append_assoc (filled name []) (filled row []) w
    ∙ ap (λ (s : Bytes). filled name [] ++ s) (sym (filled_onto row w))
    ∙ sym (filled_onto name (filled row w)))

-- the lines of some entries, each with its end
abbrev entry_lines : Bytes → List (Entry RowName) → Bytes
entry_lines name xs = ended (map (entry_line name) xs)

lines_append : (name : Bytes) (xs ys : List (Entry RowName)) → entry_lines name (xs ++ ys) ≡ entry_lines name xs ++ entry_lines name ys
lines_append name xs ys = flat_map_lem (λ l. l ++ 10 ∷ []) (entry_line name) (xs ++ ys) ∙ flat_append (λ x. entry_line name x ++ 10 ∷ []) xs ys
    ∙ rw (flat_map_lem (λ l. l ++ 10 ∷ []) (entry_line name) xs, flat_map_lem (λ l. l ++ 10 ∷ []) (entry_line name) ys)

-- the line of a number that is not 0 is a card
module _ (name : Bytes) (r : RowName) where
  one_line : (w : Bytes) (x : ℤ) → integer_of x ≡ w → entry_line name (record { row = r; number = x }) ++ 10 ∷ [] ≡ head name (row_name r) ++ w ++ 10 ∷ []
  unfolding entry_line
  one_line w x q = rw q (ap (λ (s : Bytes). s ++ 10 ∷ []) (sym (head_onto name (row_name r) w)))

  card_line : (x : ℤ) → entry_lines name (entry_in r x) ≡ card (head name (row_name r)) x
  unfolding card flat_map
  card_line (pos zero) = refl
  card_line (pos (suc n)) = append-nil _ ∙ one_line (integer_of (pos (suc n))) (pos (suc n)) refl
  card_line (negsuc n) = append-nil _ ∙ one_line (integer_of (negsuc n)) (negsuc n) refl

-- ---- an edge's lines

ends_lines : (e u v : ℕ) → entry_lines (edge_name e) (block_entries u v) ≡ ends_text e u v
unfolding block_entries ends_text flat_map
ends_lines e u v = go (ltb u v) (ltb v u)
  where
    up : ℕ → Bytes
    up b = card (head (edge_name e) (row_name (block b))) (pos 1)

    down : ℕ → Bytes
    down b = card (head (edge_name e) (row_name (block b))) (negsuc 0)

    plus_line : (b : ℕ) → entry_line (edge_name e) (plus b) ++ 10 ∷ [] ≡ up b
    plus_line b = sym (append-nil _) ∙ card_line (edge_name e) (block b) (pos 1)

    minus_line : (b : ℕ) → entry_line (edge_name e) (minus b) ++ 10 ∷ [] ≡ down b
    minus_line b = sym (append-nil _) ∙ card_line (edge_name e) (block b) (negsuc 0)

    go : (a b : Bool) → entry_lines (edge_name e) (cond a (plus u ∷ minus v ∷ []) (cond b (minus v ∷ plus u ∷ []) [])) ≡ cond a (up u ++ down v) (cond b (down v ++ up u) [])
    go true b = rw (append-nil, plus_line u, minus_line v)
    go false true = rw (append-nil, plus_line u, minus_line v)
    go false false = refl

entry_line_lem : entry_lines (bytes "RHS") (plus 0 ∷ []) ≡ line "    RHS       B0000     1"
unfolding flat_map entry_line filled row_name digits_in integer_of numeral_of numeral_in
entry_line_lem = refl

module _ (t : Routine) (h : AllHold (structure_rules t)) where
  N : Nested t
  N = nested t h

  abbrev sets : List ℕ
  sets = sets_around t.parents

  few : loop_count t ≤ most_loops
  few = (headed t h).ranged.sized.few_loops

  -- by the loop sets
  loop_lem : (u v : ℕ) → u < block_count t → v < block_count t → number t u v (loop (loop_of t v)) ≡ loop_number sets t u v
  unfolding number loop_number inside
  loop_lem u v p q = rw (member_around t.parents sets refl few (loop_of t u) (loop_of t v) (N.innermost u p) (omega (arith, few, N.innermost v q)))

  cost_line : (e u v : ℕ) → entry_lines (edge_name e) (entry_in objective (number t u v objective)) ≡ card (head (edge_name e) (row_name objective)) (neg_ℤ (pos (cost t v)))
  unfolding number
  cost_line e u v = card_line (edge_name e) objective (neg_ℤ (pos (cost t v)))

  -- an edge that is there
  edge_lines : (u v : ℕ) (e : ℕ) → source e ≡ u → u < block_count t → edge t u v ≡ true
      → entry_lines (edge_name e) (entries_of (number t u v) (rows_of t)) ≡ edge_text (edge_to sets t e v)
  unfolding edge_text edge_to
  edge_lines u v e s p there =
      rw (short_column t N u v p there, s)
      (lines_append name (entry_in objective (number t u v objective)) (block_entries u v ++ entry_in (loop l) (number t u v (loop l)))
      ∙ rw (lines_append name (block_entries u v) (entry_in (loop l) (number t u v (loop l))), cost_lines, ends_lines e u v, loop_lines)
      (sym (append_assoc cost_card (ends_text e u v) loop_card)))
    where
      name : Bytes
      name = edge_name e

      l : ℕ
      l = loop_of t v

      cost_card : Bytes
      cost_card = card (head (edge_name e) (row_name objective)) (neg_ℤ (pos (cost t v)))

      loop_card : Bytes
      loop_card = card (head (edge_name e) (row_name (loop (loop_of t v)))) (loop_number sets t u v)

      cost_lines : entry_lines name (entry_in objective (number t u v objective)) ≡ cost_card
      cost_lines = cost_line e u v

      loop_lines : entry_lines name (entry_in (loop l) (number t u v (loop l))) ≡ loop_card
      loop_lines = rw (loop_lem u v p (N.target u v p there)) (card_line (edge_name e) (loop l) (loop_number sets t u v))

  -- ---- the columns

  abbrev lines_at : ℕ → Bytes
  lines_at e = lines_of (edge_of sets t e)

  abbrev there : ℕ → Bool
  there e = not (eqb (target t e) missing)

  column_lines_lem : (k a : ℕ) → a + k ≤ 2 * block_count t → ended (flat_map column_lines (map (column_of t) (keep there (numbers_from a k)))) ≡ flat_map lines_at (numbers_from a k)
  unfolding keep numbers_from flat_map column_of column_lines
  column_lines_lem zero a l = refl
  column_lines_lem (suc k) a l = go (eqb (target t a) missing) refl (column_lines_lem k (suc a) (omega arith))
    where
      rest : List ℕ
      rest = keep there (numbers_from (suc a) k)

      go : (b : Bool) → eqb (target t a) missing ≡ b → ended (flat_map column_lines (map (column_of t) rest)) ≡ flat_map lines_at (numbers_from (suc a) k)
          → ended (flat_map column_lines (map (column_of t) (cond (not b) (a ∷ rest) rest))) ≡ lines_at a ++ flat_map lines_at (numbers_from (suc a) k)
      go true q ih = rw q ih
      go false q ih =
          flat_append (λ l. l ++ 10 ∷ []) (column_lines (column_of t a)) (flat_map column_lines (map (column_of t) rest))
          ∙ rw (ih, edge_lines (source a) (target t a) a refl (omega arith) (edge_there t a (rw q)), q)

  -- ---- the rows

  abbrev as_row : RowName → Row RowName
  as_row r = record { kind = kind_of r; name = r }

  abbrev row_lines : List RowName → Bytes
  row_lines rs = ended (map row_line (map as_row rs))

  rows_append : (rs qs : List RowName) → row_lines (rs ++ qs) ≡ row_lines rs ++ row_lines qs
  rows_append rs qs = each (rs ++ qs) ∙ flat_append (λ r. row_line (as_row r) ++ 10 ∷ []) rs qs ∙ rw (each rs, each qs)
    where
      each : (xs : List RowName) → row_lines xs ≡ flat_map (λ r. row_line (as_row r) ++ 10 ∷ []) xs
      each xs = flat_map_lem (λ l. l ++ 10 ∷ []) row_line (map as_row xs) ∙ flat_map_lem (λ r. row_line r ++ 10 ∷ []) as_row xs

  block_rows : (k a : ℕ) → row_lines (map block (numbers_from a k)) ≡ flat_map block_row (numbers_from a k)
  unfolding numbers_from flat_map block_row row_line
  block_rows zero a = refl
  block_rows (suc k) a = rw (block_rows k (suc a))

  loop_rows : (k a : ℕ) → row_lines (map loop (numbers_from a k)) ≡ flat_map loop_row (numbers_from a k)
  unfolding numbers_from flat_map loop_row row_line
  loop_rows zero a = refl
  loop_rows (suc k) a = rw (loop_rows k (suc a))

  -- ---- the right side

  right_lines : entry_lines (bytes "RHS") (entries_of (right_side t) (rows_of t)) ≡ line "    RHS       B0000     1" ++ card (head (bytes "RHS") (row_name (block (block_count t - 1)))) (negsuc 0)
  right_lines = rw (short_right t N.two_blocks) (lines_append (bytes "RHS") (plus 0 ∷ []) (minus (exit t) ∷ []) ∙ rw (entry_line_lem, card_line (bytes "RHS") (block (exit t)) (negsuc 0)))

  -- ---- the whole

  abbrev blocks : Bytes
  blocks = flat_map block_row (numbers_from 0 (block_count t))

  abbrev loops : Bytes
  loops = flat_map loop_row (numbers_from 1 (loop_count t - 1))

  abbrev edges : Bytes
  edges = flat_map lines_at (numbers_from 0 (2 * block_count t))

  abbrev exit_card : Bytes
  exit_card = card (head (bytes "RHS") (row_name (block (block_count t - 1)))) (negsuc 0)

  abbrev behind : Bytes
  behind = (line "RHS" ++ line "    RHS       B0000     1") ++ exit_card ++ line "ENDATA"

  all_rows : row_lines (rows_of t) ≡ line " N  COST" ++ (blocks ++ loops)
  unfolding rows_of flat_map row_line row_name
  all_rows = rw (rows_append (map block (numbers_from 0 (block_count t))) (map loop (numbers_from 1 (loop_count t - 1))), block_rows (block_count t) 0, loop_rows (loop_count t - 1) 1)

  all_columns : ended (flat_map column_lines (map (column_of t) (edges_of t))) ≡ edges
  unfolding edges_of
  all_columns = column_lines_lem (2 * block_count t) 0 (omega arith)

  text_lines : mps_text t ≡ (line "NAME" ++ line "ROWS" ++ line " N  COST") ++ ((blocks ++ loops) ++ (line "COLUMNS" ++ (edges ++ behind)))
  unfolding mps_text text_of lines_in flatten program_of flat_map
  text_lines =
      rw (
        flat_append (λ l. l ++ 10 ∷ []) (map row_line (map as_row (rows_of t))) (bytes "COLUMNS" ∷ (columns ++ (bytes "RHS" ∷ (rights ++ (bytes "ENDATA" ∷ []))))),
        all_rows,
        flat_append (λ l. l ++ 10 ∷ []) columns (bytes "RHS" ∷ (rights ++ (bytes "ENDATA" ∷ []))),
        all_columns,
        flat_append (λ l. l ++ 10 ∷ []) rights (bytes "ENDATA" ∷ []),
        right_lines,
      )
    where
      columns : List Bytes
      columns = flat_map column_lines (map (column_of t) (edges_of t))

      rights : List Bytes
      rights = map (entry_line (bytes "RHS")) (entries_of (right_side t) (rows_of t))

  -- THEOREM: the pieces that the code writes are the text.
  pub whole_text_lem : whole_text sets t ≡ mps_text t
  unfolding whole_text rows_text rights_text edges_text span
  whole_text_lem =
      let n : block_count t - 0 ≡ block_count t = omega arith in
      let e : 2 * block_count t - 0 ≡ 2 * block_count t = omega arith in
      rw ((headed t h).ranged.sized.headers, n, e, text_lines) (append_assoc (line "NAME" ++ line "ROWS" ++ line " N  COST" ++ blocks ++ loops) (line "COLUMNS" ++ edges) behind)
