-- The longest text: 117 bytes for each of two edges of every block but the exit. Assumes nothing.
use Rattle.std.proofs.Common.{◌≡◌, refl, sym, ◌∙◌, ap, Bool, true, false, cond, not, List, [], ◌∷◌, ◌++◌, ℕ, ◌+◌, ◌-◌, ◌*◌, ◌<◌, ◌≤◌, arith, eqb, length, length-append, zero, suc, ℤ, pos, negsuc, neg_ℤ, ◌-ℤ◌, unsigned_abs, Some, None}
use Rattle.integers.proofs.Laws.{ints, diff}
use Rattle.digits.specs.Decimal.{numeral_of, integer_of}
use Rattle.digits.proofs.Numerals.{numeral_short}
use Rattle.wcet.specs.Table.{Routine, block_count, exit, missing, edge, loop_of, limit, is_header}
use Rattle.wcet.specs.Rules.{structure_rules}
use Rattle.wcet.specs.Claim.{AllHold}
use Rattle.wcet.proofs.Nesting.{nested}
use Rattle.loopsets.specs.Sets.{sets_around, member, set_at}
use Rattle.nesting.specs.Columns.{Ranged}
use Rattle.nesting.proofs.Stages.{headed, cost_anywhere, limit_anywhere}
use Rattle.mps.specs.Program.{objective, loop, source, target, is_zero}
use Rattle.mps.specs.Text.{row_name, edge_name}
use Rattle.mps.specs.Reply.{TextFits}
use Rattle.mps.proofs.Routines.{edge_there}
use Rattle.cards.specs.Cards.{head, card}
use Rattle.writer.specs.declared.Edge.{Edge}
use Rattle.writer.specs.Pieces.{loop_number, edge_to, edge_of, ends_text, edge_text, lines_of, span, line, rows_text, edges_text, rights_text, whole_text}
use Rattle.writer.proofs.Spans.{span_split, span_most}
use Rattle.writer.proofs.Edges.{edge_head, ends_most}
use Rattle.writer.proofs.Whole.{whole_text_lem}
use Rattle.writer.proofs.Reply.{rows_length, rights_length}

integer_most : (x : ℤ) → length (integer_of x) ≤ 1 + length (numeral_of (unsigned_abs x))
unfolding integer_of
integer_most (pos n) = omega arith
integer_most (negsuc n) = omega arith

-- a card of a number of at most k digits
card_most : (h : List ℕ) → length h ≡ 24 → (x : ℤ) (k : ℕ) → length (numeral_of (unsigned_abs x)) ≤ k → length (card h x) ≤ 26 + k
unfolding card
card_most h l x k d = go (is_zero x)
  where
    go : (z : Bool) → length (cond z [] (h ++ integer_of x ++ 10 ∷ [])) ≤ 26 + k
    go true = omega arith
    go false = rw (length-append (h ++ integer_of x) (10 ∷ []), length-append h (integer_of x)) (omega (arith, integer_most x))

abs_neg : (n : ℕ) → unsigned_abs (neg_ℤ (pos n)) ≡ n
abs_neg zero = refl
abs_neg (suc n) = refl

one_less : (k : ℕ) → pos 1 -ℤ pos (suc k) ≡ neg_ℤ (pos k)
one_less zero = refl
one_less (suc k) = omega (ints, diff (pos 1) (pos (suc (suc k))))

difference_most : (n : ℕ) → n ≤ 65535 → unsigned_abs (pos 1 -ℤ pos n) < 100000
difference_most zero h = omega arith
difference_most (suc k) h = rw (one_less k, abs_neg) (omega arith)

module _ (t : Routine) (h : AllHold (structure_rules t)) where
  R : Ranged t
  R = (headed t h).ranged

  abbrev sets : List ℕ
  sets = sets_around t.parents

  abbrev lines_at : ℕ → List ℕ
  lines_at e = lines_of (edge_of sets t e)

  number_most : (u v : ℕ) → unsigned_abs (loop_number sets t u v) < 100000
  unfolding loop_number
  number_most u v = go (is_header t v) (member (set_at sets (loop_of t u)) (loop_of t v))
    where
      go : (e i : Bool) → unsigned_abs (cond (not e) (pos 0) (cond i (pos 1) (pos 1 -ℤ pos (limit t (loop_of t v))))) < 100000
      go false i = omega arith
      go true true = omega arith
      go true false = difference_most (limit t (loop_of t v)) (limit_anywhere t R (loop_of t v))

  -- 33 bytes in COST, 53 for its blocks, 31 in its loop's row
  lines_most : (x : Edge) → unsigned_abs x.cost ≤ 1000000 → unsigned_abs x.coefficient < 100000 → length (edge_text x) ≤ 117
  unfolding edge_text
  lines_most x c k =
      rw (
        length-append (card cost_head x.cost ++ ends_text x.number x.source x.target) (card loop_head x.coefficient),
        length-append (card cost_head x.cost) (ends_text x.number x.source x.target),
      ) (omega (
        arith,
        card_most cost_head (edge_head x.number objective) x.cost 7 (numeral_short 6 (unsigned_abs x.cost) (omega arith)),
        ends_most x.number x.source x.target,
        card_most loop_head (edge_head x.number (loop x.headed)) x.coefficient 5 (numeral_short 4 (unsigned_abs x.coefficient) k),
      ))
    where
      cost_head : List ℕ
      cost_head = head (edge_name x.number) (row_name objective)

      loop_head : List ℕ
      loop_head = head (edge_name x.number) (row_name (loop x.headed))

  edge_most : (e : ℕ) → length (lines_at e) ≤ 117
  unfolding edge_to
  edge_most e = go (eqb (target t e) missing)
    where
      go : (b : Bool) → length (lines_of (cond b None (Some (edge_to sets t e (target t e))))) ≤ 117
      go true = omega arith
      go false = lines_most (edge_to sets t e (target t e)) (rw abs_neg (cost_anywhere t R (target t e))) (number_most (source e) (target t e))

  -- 206: the exit has no edge
  exit_none : (e : ℕ) → source e ≡ exit t → length (lines_at e) ≤ 0
  exit_none e q = go (eqb (target t e) missing) refl
    where
      go : (b : Bool) → eqb (target t e) missing ≡ b → length (lines_at e) ≤ 0
      go true z = rw z (omega arith)
      go false z = absurd ((nested t h).exit_ends (target t e) (sym (ap (λ (u : ℕ). edge t u (target t e)) q) ∙ edge_there t e (rw z)))

  all_most : length (edges_text sets t) ≤ 117 * (2 * (block_count t - 1))
  unfolding edges_text
  all_most =
      let n : 2 ≤ block_count t = (nested t h).two_blocks in
      let k : ℕ = 2 * (block_count t - 1) in
      let a = span_most lines_at 117 0 k (λ e p q. edge_most e) in
      let b = span_most lines_at 0 k (2 * block_count t) (λ e p q. exit_none e (omega arith)) in
      rw (span_split lines_at 0 k (2 * block_count t) (omega arith) (omega arith), length-append (span lines_at 0 k) (span lines_at k (2 * block_count t))) (omega (arith, a, b))

-- THEOREM: 250,217 bytes are enough for the text of every pair of tables that passes 201 to 207.
pub text_fits : (t : Routine) → TextFits t
unfolding whole_text
text_fits t h =
    let S = (headed t h).ranged.sized in
    rw (
      ← whole_text_lem t h,
      length-append (rows_text (block_count t) (length t.headers) ++ (line "COLUMNS" ++ edges_text (sets_around t.parents) t)) (rights_text (block_count t)),
      length-append (rows_text (block_count t) (length t.headers)) (line "COLUMNS" ++ edges_text (sets_around t.parents) t),
      length-append (line "COLUMNS") (edges_text (sets_around t.parents) t),
      rights_length (block_count t),
    ) (omega (arith, all_most t h, (nested t h).two_blocks, S.few_blocks, S.few_loops, S.headers, S.some_loop, rows_length (block_count t) (length t.headers) (omega (arith, S.headers, S.some_loop))))
