-- Edges read off the columns, and the length of their lines. Assumes nothing.
use Rattle.std.proofs.Common.{◌≡◌, refl, ◌∙◌, Bool, true, false, cond, List, [], ◌∷◌, ◌++◌, ℕ, ◌^◌, ◌+◌, ◌-◌, ◌*◌, ◌/◌, ◌<◌, ◌≤◌, arith, w64, Fits, to_z, of_z, ltb, ℤ, pos, negsuc, neg_ℤ, ◌-ℤ◌, length, length-append, replicate, eq-eqb, ne_eqb, ltb-false, le-ltb, Option, Some, None}
use native.Mathlib.Decide.{ℕ_discrete}
use Rattle.std.proofs.lemmas.Int.{ints}
use lib.ListN.{length-replicate}
use Rattle.wcet.specs.Table.{Routine, block_count, missing, cost, loop_of, header, limit}
use Rattle.loopsets.specs.Sets.{member, set_at}
use Rattle.loopsets.specs.declared.LoopSet.{LoopSet}
use Rattle.digits.specs.Decimal.{numeral_in, numeral_of, integer_of}
use Rattle.mps.specs.Program.{RowName, objective, block, loop, target}
use Rattle.mps.specs.Text.{row_name, edge_name, filled}
use Rattle.mps.proofs.Names.{row_named, edge_named}
use Rattle.cards.specs.Cards.{head, card, CardLength}
use Rattle.writer.specs.declared.Edge.{Edge}
use Rattle.writer.specs.Pieces.{loop_number, edge_to, edge_of, ends_text, edge_text, lines_of, EdgeLength, span, edges_text, EdgesLength}
use Rattle.writer.proofs.Spans.{span_none, span_next}

-- ---- lengths

pub head_size : (name row : List ℕ) → length name ≤ 8 → length row ≤ 8 → length (head name row) ≡ 24
unfolding head filled
head_size name row p q =
    rw (
      length-append (name ++ replicate (8 - length name) 32) (32 ∷ 32 ∷ (row ++ replicate (8 - length row) 32) ++ 32 ∷ 32 ∷ []),
      length-append name (replicate (8 - length name) 32),
      length-append (row ++ replicate (8 - length row) 32) (32 ∷ 32 ∷ []),
      length-append row (replicate (8 - length row) 32),
      length-replicate {A = ℕ} (8 - length name) 32,
      length-replicate {A = ℕ} (8 - length row) 32,
    ) (omega arith)

pub edge_head : (e : ℕ) (r : RowName) → length (head (edge_name e) (row_name r)) ≡ 24
edge_head e r = head_size (edge_name e) (row_name r) (edge_named e).size (row_named r).size

-- the cards of 1 and −1
plus_card : (h : List ℕ) → length h ≡ 24 → length (card h (pos 1)) ≡ 26
unfolding card integer_of numeral_of numeral_in
plus_card h l = rw (length-append (h ++ 49 ∷ []) (10 ∷ []), length-append h (49 ∷ [])) (omega arith)

pub minus_card : (h : List ℕ) → length h ≡ 24 → length (card h (negsuc 0)) ≡ 27
unfolding card integer_of numeral_of numeral_in
minus_card h l = rw (length-append (h ++ 45 ∷ 49 ∷ []) (10 ∷ []), length-append h (45 ∷ 49 ∷ [])) (omega arith)

pub ends_length : (e u v : ℕ) → (u ≡ v → ⊥) → length (ends_text e u v) ≡ 53
unfolding ends_text
ends_length e u v ne = go (ltb u v) (ltb v u) refl refl
  where
    up : ℕ → List ℕ
    up b = card (head (edge_name e) (row_name (block b))) (pos 1)

    down : ℕ → List ℕ
    down b = card (head (edge_name e) (row_name (block b))) (negsuc 0)

    go : (a b : Bool) → ltb u v ≡ a → ltb v u ≡ b → length (cond a (up u ++ down v) (cond b (down v ++ up u) [])) ≡ 53
    go true b p q = rw (length-append (up u) (down v), plus_card _ (edge_head e (block u)), minus_card _ (edge_head e (block v)))
    go false true p q = rw (length-append (down v) (up u), plus_card _ (edge_head e (block u)), minus_card _ (edge_head e (block v)))
    go false false p q = absurd (ne (omega (arith, ltb-false u v p, ltb-false v u q)))

pub ends_none : (e u v : ℕ) → u ≡ v → length (ends_text e u v) ≡ 0
unfolding ends_text
ends_none e u v q = rw (le-ltb u v (omega arith), le-ltb v u (omega arith))

pub ends_most : (e u v : ℕ) → length (ends_text e u v) ≤ 53
ends_most e u v = go (ℕ_discrete u v)
  where
    go : Dec (u ≡ v) → length (ends_text e u v) ≤ 53
    go (yes q) = omega (arith, ends_none e u v q)
    go (no ne) = omega (arith, ends_length e u v ne)

-- what the two cards of an edge and the lines of its blocks make
pub edge_length : (x : Edge) (c b k : ℕ) → CardLength x.cost c → CardLength x.coefficient k → b ≡ length (ends_text x.number x.source x.target) → EdgeLength x (c + b + k)
unfolding edge_text
edge_length x c b k C K e = record { exact = three; most = omega (arith, C.most, K.most, ends_most x.number x.source x.target) }
  where
    cost_card : List ℕ
    cost_card = card (head (edge_name x.number) (row_name objective)) x.cost

    ends : List ℕ
    ends = ends_text x.number x.source x.target

    loop_card : List ℕ
    loop_card = card (head (edge_name x.number) (row_name (loop x.headed))) x.coefficient

    three : c + b + k ≡ length (cost_card ++ ends ++ loop_card)
    three =
        rw (length-append (cost_card ++ ends) loop_card, length-append cost_card ends)
        (omega (arith, e, C.exact _ (edge_head x.number objective), K.exact _ (edge_head x.number (loop x.headed))))

-- ---- the lines of all edges

abbrev pub lines_at : List ℕ → Routine → ℕ → List ℕ
lines_at sets t e = lines_of (edge_of sets t e)

pub lines_none : (sets : List ℕ) (t : Routine) (e : ℕ) (o : Option Edge) → o ≡ edge_of sets t e → ((x : Edge) → o ≡ Some x → ⊥) → lines_at sets t e ≡ []
lines_none sets t e None p ne = rw (← p)
lines_none sets t e (Some x) p ne = absurd (ne x refl)

-- what the measuring loop has when it comes to edge e
pub record Measured (sets : List ℕ) (t : Routine) (total e : ℕ) : Type 0 where
  pub below : e ≤ 2 * block_count t
  pub exact : total ≡ length (span (lines_at sets t) 0 e)
  pub most : total ≤ 200 * e

pub measured_none : (sets : List ℕ) (t : Routine) → Measured sets t 0 0
measured_none sets t = record { below = omega arith; exact = rw (span_none (lines_at sets t) 0); most = omega arith }

module _ (sets : List ℕ) (t : Routine) (total e : ℕ) (M : Measured sets t total e) where
  pub measured_next : e < 2 * block_count t → (k : ℕ) → k ≡ length (lines_at sets t e) → k ≤ 200 → Measured sets t (total + k) (e + 1)
  measured_next h k q l = record {
    below = omega arith;
    exact = rw (span_next (lines_at sets t) 0 e (omega arith), length-append (span (lines_at sets t) 0 e) (lines_at sets t e)) (omega (arith, M.exact));
    most = omega (arith, M.most);
  }

  pub measured_skip : e < 2 * block_count t → lines_at sets t e ≡ [] → Measured sets t total (e + 1)
  measured_skip h q = let z : total + 0 ≡ total = omega arith in rw z at (measured_next h 0 (rw q) (omega arith))

  pub measured_fits : block_count t ≤ 1024 → (k : ℕ) → k ≤ 200 → Fits w64 (total + k)
  measured_fits few k l = record { fits = omega (arith, M.most, M.below) }

  pub measured_all : 2 * block_count t ≤ e → EdgesLength sets t total
  unfolding edges_text
  measured_all h = let z : e ≡ 2 * block_count t = omega (arith, M.below) in record { exact = M.exact ∙ rw z; most = omega (arith, M.most) }

-- ---- numbers in 64 bits

pub negated : (x : ℤ) (n : ℕ) → n < 2 ^ 32 → x ≡ pos n → to_z w64 (of_z w64 (pos 0 -ℤ to_z w64 (of_z w64 x))) ≡ neg_ℤ (pos n)
negated x n h e = rw e (omega (arith, ints))

pub less_than_one : (x : ℤ) (n : ℕ) → n < 2 ^ 32 → x ≡ pos n → to_z w64 (of_z w64 (pos 1 -ℤ to_z w64 (of_z w64 x))) ≡ pos 1 -ℤ pos n
less_than_one x n h e = rw e (omega (arith, ints))

-- ---- an edge as it is read off the columns

-- of v, whose loop is l
module _ (sets : List ℕ) (t : Routine) (u v l : ℕ) (q : l ≡ loop_of t v) where
  pub number_none : (header t l ≡ v → ⊥) → pos 0 ≡ loop_number sets t u v
  unfolding loop_number
  number_none ne = let d : header t (loop_of t v) ≡ v → ⊥ = λ e. ne (rw q e) in rw (ne_eqb (header t (loop_of t v)) v d)

  module _ (e : header t l ≡ v) (s : LoopSet) (o : s ≡ set_at sets (loop_of t u)) (i : Bool) (m : i ≡ member s l) where
    h : header t (loop_of t v) ≡ v
    h = rw q at e

    pub number_return : i ≡ true → pos 1 ≡ loop_number sets t u v
    unfolding loop_number
    number_return y = rw (eq-eqb (header t (loop_of t v)) v h, ← o, ← q, ← m, y)

    pub number_entry : i ≡ false → pos 1 -ℤ pos (limit t l) ≡ loop_number sets t u v
    unfolding loop_number
    number_entry y = rw (eq-eqb (header t (loop_of t v)) v h, ← o, ← q, ← m, y)

pub edge_present : (sets : List ℕ) (t : Routine) (e v w : ℕ) (k x : ℤ) (h : ℕ) → v ≡ target t e → (v ≡ missing → ⊥) → w ≡ v → k ≡ neg_ℤ (pos (cost t w)) → h ≡ loop_of t w
    → x ≡ loop_number sets t (e / 2) v → Some (record { number = e; source = e / 2; target = w; cost = k; headed = h; coefficient = x }) ≡ edge_of sets t e
unfolding edge_to
edge_present sets t e v w k x h p ne q a b y = let d : target t e ≡ missing → ⊥ = λ z. ne (p ∙ z) in rw (ne_eqb (target t e) missing d, y, b, a, q, p)
