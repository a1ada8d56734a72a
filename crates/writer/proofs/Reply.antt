-- The length of the whole text, and how the writer comes to its reply. Assumes nothing.
use Rattle.std.proofs.Common.{◌≡◌, refl, sym, ◌∙◌, ap, subst, Bool, true, false, List, [], ◌∷◌, ◌++◌, append_assoc, ℕ, ◌+◌, ◌-◌, ◌*◌, ◌<◌, ◌≤◌, arith, ltb, negsuc, Result, Ok, Err, length, length-append, drop, take_at, leb-true, leb-false, lt-ltb, le-ltb}
use Rattle.lists.specs.Bytes.{bytes}
use Rattle.wcet.specs.Table.{Routine, block_count}
use Rattle.wcet.specs.Rules.{Reply, accepted, refused, Rule, check, structure_rules, undeclared_rule}
use Rattle.wcet.specs.Claim.{AllHold}
use Rattle.wcet.proofs.Nesting.{nested}
use Rattle.wcet.proofs.Replies.{append_all, decides, hands_on}
use Rattle.loopsets.specs.Sets.{sets_around}
use Rattle.nesting.specs.Answers.{refusal_of, refusal, StructureChecked}
use Rattle.nesting.specs.declared.StructureFault.{StructureFault}
use Rattle.nesting.proofs.Stages.{headed, innermost, linked}
use Rattle.nesting.proofs.Chain.{none_left, refusal_stands}
use Rattle.order.specs.Ordering.{Ordering}
use Rattle.order.specs.declared.Order.{Order}
use Rattle.order.proofs.Orders.{declared, undeclared_decides, declared_hands_on}
use Rattle.mps.specs.Program.{block}
use Rattle.mps.specs.Text.{digits_in, row_name, mps_text}
use Rattle.mps.specs.Reply.{mps_rules, mps_reply, Exported}
use Rattle.mps.proofs.Names.{row_named}
use Rattle.mps.proofs.Routines.{reads_back, names_apart}
use Rattle.cards.specs.Cards.{head, block_row, loop_row, card}
use Rattle.writer.specs.declared.MpsFault.{MpsFault}
use Rattle.writer.specs.declared.MpsFault.TheVariants.{NoRoom}
use Rattle.writer.specs.Answers.{mps_meaning}
use Rattle.writer.specs.Pieces.{Readable, span, line, rows_text, edges_text, EdgesLength, rights_text, whole_text, fits, Landed}
use Rattle.writer.proofs.Spans.{span_length}
use Rattle.writer.proofs.Edges.{head_size, minus_card}
use Rattle.writer.proofs.Whole.{whole_text_lem}

-- ---- the length of the text

block_row_length : (u : ℕ) → length (block_row u) ≡ 10
unfolding block_row row_name digits_in
block_row_length u = refl

loop_row_length : (l : ℕ) → length (loop_row l) ≡ 8
unfolding loop_row row_name digits_in
loop_row_length l = refl

pub rows_length : (n m : ℕ) → 0 < m → length (rows_text n m) + 8 ≡ 19 + 10 * n + 8 * m
unfolding rows_text
rows_length n m h =
    rw (
      length-append ((line "NAME" ++ line "ROWS" ++ line " N  COST") ++ span block_row 0 n) (span loop_row 1 m),
      length-append (line "NAME" ++ line "ROWS" ++ line " N  COST") (span block_row 0 n),
      span_length block_row 10 block_row_length 0 n,
      span_length loop_row 8 loop_row_length 1 m,
    ) (omega arith)

pub rights_length : (n : ℕ) → length (rights_text n) ≡ 64
unfolding rights_text
rights_length n =
    rw (
      length-append (entry ++ exit) (line "ENDATA"),
      length-append entry exit,
      minus_card (head (bytes "RHS") (row_name (block (n - 1)))) (head_size (bytes "RHS") (row_name (block (n - 1))) (omega arith) (row_named (block (n - 1))).size),
    )
  where
    entry : List ℕ
    entry = line "RHS" ++ line "    RHS       B0000     1"

    exit : List ℕ
    exit = card (head (bytes "RHS") (row_name (block (n - 1)))) (negsuc 0)

pub whole_length : (sets : List ℕ) (t : Routine) (k : ℕ) → 0 < length t.headers → EdgesLength sets t k → k + (10 * block_count t + 8 * length t.headers) + 83 ≡ length (whole_text sets t)
unfolding whole_text
whole_length sets t k h L =
    rw (
      length-append (rows_text (block_count t) (length t.headers) ++ (line "COLUMNS" ++ edges_text sets t)) (rights_text (block_count t)),
      length-append (rows_text (block_count t) (length t.headers)) (line "COLUMNS" ++ edges_text sets t),
      length-append (line "COLUMNS") (edges_text sets t),
      rights_length (block_count t),
    ) (omega (arith, L.exact, rows_length (block_count t) (length t.headers) h))

-- ---- the reply

abbrev number : Reply ℕ → ℕ
number (accepted n) = n
number (refused n p) = 0

abbrev is_refused : Reply ℕ → Type 0
is_refused (accepted n) = ⊥
is_refused (refused n p) = Unit {0}

module _ (t : Routine) (before : List ℕ) where
  -- 411
  abbrev room_rule : Rule
  room_rule = record { number = 411; places = 1; broken = λ _. ltb (length before) (length (mps_text t)) }

  abbrev result : Reply ℕ
  result = accepted (length (mps_text t))

  -- no refusal writes a byte
  refused_exported : (n p : ℕ) → refused n p ≡ mps_reply t (length before) → Exported t before (refused n p) before
  refused_exported n p e = record { replied = e; buffer = refl; reads = λ k q. absurd (no_number q); apart = λ k q. absurd (no_number q) }
    where
      no_number : {k : ℕ} → refused n p ≡ accepted k → ⊥
      no_number q = subst is_refused q tt

  -- 201 to 207
  pub structure_exported : (f : StructureFault) → StructureChecked t (Err f) → Exported t before (refusal f) before
  unfolding mps_reply mps_rules
  structure_exported f C =
      refused_exported (refusal_of f).number (refusal_of f).place (rw append_assoc (refusal_stands t f C (undeclared_rule t ∷ room_rule ∷ []) result))

  module _ (h : AllHold (structure_rules t)) where
    -- 209, by the order of the blocks
    pub undeclared_exported : (r : Order) → Ordering t r → r.count < block_count t → Exported t before (refused 209 0) before
    unfolding mps_reply mps_rules
    undeclared_exported r O few = refused_exported 209 0 (rw append_assoc (undeclared_decides t h r O (room_rule ∷ []) result few))

    module _ (o : Order) (O : Ordering t o) (all : block_count t ≤ o.count) where
      last : check (room_rule ∷ []) result ≡ mps_reply t (length before)
      unfolding mps_reply mps_rules
      last = rw append_assoc (declared_hands_on t h o O (room_rule ∷ []) result all)

      abbrev w : List ℕ
      w = mps_text t

      too_long : length before < length w → Exported t before (refused 411 0) before
      too_long l =
          refused_exported 411 0 (sym (decides room_rule [] result 0 (record {
            below = omega arith;
            passes = lt-ltb (length before) (length w) l;
            lower = λ j z. absurd (omega arith);
          }))
          ∙ last)

      written : length w ≤ length before → Exported t before result (w ++ drop (length w) before)
      written l = record {
        replied = none_left result ∙ sym (hands_on room_rule [] result (λ p z. le-ltb (length before) (length w) l)) ∙ last;
        buffer = refl;
        reads = λ n q. rw (← same n q, take_at w (drop (length w) before) (length w) refl) (reads_back t (append_all (structure_rules t) (undeclared_rule t ∷ []) h (λ p z. declared t h o O all, tt)));
        apart = λ n q. names_apart t h;
      }
        where
          same : (n : ℕ) → result ≡ accepted n → length w ≡ n
          same n q = ap number q

      -- 411, or the length
      pub text_exported : (sets : List ℕ) → sets ≡ sets_around t.parents → (r : Result ℕ MpsFault) (after : List ℕ) → Landed (whole_text sets t) before r after → Exported t before (mps_meaning r) after
      text_exported sets e r after L = go (fits w before) refl (rw (e, whole_text_lem t h) at L)
        where
          go : (b : Bool) → fits w before ≡ b → Landed w before r after → Exported t before (mps_meaning r) after
          go true q L =
              let p : r ≡ Ok (length w) = L.replied ∙ rw q in
              let k : after ≡ w ++ drop (length w) before = L.held ∙ rw q in
              rw (p, k) (written (leb-true (length w) (length before) q))
          go false q L =
              let p : r ≡ Err NoRoom = L.replied ∙ rw q in
              let k : after ≡ before = L.held ∙ rw q in
              rw (p, k) (too_long (leb-false (length w) (length before) q))

-- ---- what the writer reads of the tables

pub readable : (t : Routine) → AllHold (structure_rules t) → Readable t
readable t h =
    let R = (headed t h).ranged in
    let N = nested t h in
    record { innermost = innermost t R; linked = linked t R; loops = R.sized.loops; limits = R.sized.limits ∙ sym R.sized.headers; blocks = N.two_blocks; headers = omega (arith, N.some_loop, R.sized.headers) }
