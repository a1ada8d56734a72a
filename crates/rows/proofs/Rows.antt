-- Each way through the functions up to `block_at` and `loop_at`: what the cells of a record say of its verdict.
-- Assumes nothing.
use Rattle.std.proofs.Common.{◌≡◌, refl, sym, ap, ◌∙◌, Bool, true, false, cond, List, ℕ, ◌<◌, ◌≤◌, length, drop, ℤ, eqb, Some, None, Result, Ok, Err, w64, arith, zero-add, eq-eqb, ne_eqb, lt-ltb, le-ltb, to_z, of_z, to_z-of_z}
use Rattle.csv_text.specs.Grammar.{Record, record_of, alike}
use Rattle.csv_text.specs.declared.Ending.{Ending}
use Rattle.csv_text.specs.Place.{split_of, no_places, field_at}
use Rattle.csv_text.specs.declared.Split.{Split}
use Rattle.csv_text.proofs.Splits.{split_field}
use Rattle.digits.specs.declared.NotNumber.{NotNumber}
use Rattle.cells.specs.Cell.{unsigned}
use Rattle.cells.proofs.Fields.{unsigned_fits, signed_fits}
use Rattle.rows.specs.Fault.{not_number}
use Rattle.rows.specs.Row.{block_fields, loop_fields, Verdict, or_missing, in_turn, block_cells, block_row, loop_cells, loop_row}
use Rattle.rows.specs.Judge.{field_of, judge, judge_block, judge_loop}
use Rattle.rows.specs.Place.{counted, AtMost, SignedFits, BlockFits, LoopFits}
use Rattle.rows.specs.declared.Fault.{Fault}
use Rattle.rows.specs.declared.Fault.TheVariants.{BrokenField, FieldCount, OutOfTurn, NoPlace, OtherEnding}
use Rattle.rows.specs.declared.BlockCells.{BlockCells}
use Rattle.rows.specs.declared.LoopCells.{LoopCells}
use Rattle.rows.specs.declared.BlockRow.{BlockRow}
use Rattle.rows.specs.declared.LoopRow.{LoopRow}

-- Each way through `in_turn`; m is the number of the row.
module _ {A : Type 0} (room k : ℕ) (alike : Bool) (n : ℕ) (w : A) {m : ℕ} (z : m ≡ n) where
  pub turn_out : (m ≡ k → ⊥) → Err OutOfTurn ≡ in_turn room k alike n w
  unfolding in_turn
  turn_out f = rw (ne_eqb n k (λ e. f (z ∙ e)))

  module _ (e : m ≡ k) where
    pub turn_full : room ≤ k → Err NoPlace ≡ in_turn room k alike n w
    unfolding in_turn
    turn_full f = rw (eq-eqb n k (sym z ∙ e), le-ltb k room f)

    pub turn_unlike : k < room → alike ≡ false → Err OtherEnding ≡ in_turn room k alike n w
    unfolding in_turn
    turn_unlike f g = rw (eq-eqb n k (sym z ∙ e), lt-ltb k room f, g)

    pub turn_due : k < room → alike ≡ true → Ok w ≡ in_turn room k alike n w
    unfolding in_turn
    turn_due f g = rw (eq-eqb n k (sym z ∙ e), lt-ltb k room f, g)

-- The cells that fields say fit their columns.
at_most : (greatest : ℕ) (w : List ℕ) → AtMost greatest (unsigned greatest w)
at_most greatest w n e = unsigned_fits w greatest n refl e

pub block_fits : {x : BlockCells} (w : ℕ → List ℕ) → x ≡ block_cells w → BlockFits x
block_fits w e = rw e (record { number = at_most 65535 (w 0); innermost = at_most 65535 (w 2); first = at_most 65534 (w 3); second = at_most 65534 (w 4); figure = λ z e. signed_fits (w 5) z refl e })

pub loop_fits : {x : LoopCells} (w : ℕ → List ℕ) → x ≡ loop_cells w → LoopFits x
loop_fits w e = rw e (record { number = at_most 65535 (w 0); parent = at_most 65535 (w 1); header = at_most 65535 (w 2) })

-- Each way through `block_row`, over the cells x: one level for each cell that is a number.
module _ (room k : ℕ) (alike : Bool) (x : BlockCells) where
  pub block_0 : (e : NotNumber) → x.number ≡ Err e → Err not_number ≡ block_row room k alike x
  unfolding block_row
  block_0 e f = rw f

  module _ (n : ℕ) (e₀ : x.number ≡ Ok n) where
    pub block_1 : (e : NotNumber) → x.cost ≡ Err e → Err not_number ≡ block_row room k alike x
    unfolding block_row
    block_1 e f = rw (e₀, f)

    module _ (c : ℕ) (e₁ : x.cost ≡ Ok c) where
      pub block_2 : (e : NotNumber) → x.innermost ≡ Err e → Err not_number ≡ block_row room k alike x
      unfolding block_row
      block_2 e f = rw (e₀, e₁, f)

      module _ (l : ℕ) (e₂ : x.innermost ≡ Ok l) {v₃ : Result ℕ NotNumber} (q₃ : v₃ ≡ or_missing x.first) where
        pub block_3 : (e : NotNumber) → v₃ ≡ Err e → Err not_number ≡ block_row room k alike x
        unfolding block_row
        block_3 e f = rw (e₀, e₁, e₂, ← q₃, f)

        module _ (a : ℕ) (e₃ : v₃ ≡ Ok a) {v₄ : Result ℕ NotNumber} (q₄ : v₄ ≡ or_missing x.second) where
          pub block_4 : (e : NotNumber) → v₄ ≡ Err e → Err not_number ≡ block_row room k alike x
          unfolding block_row
          block_4 e f = rw (e₀, e₁, e₂, ← q₃, e₃, ← q₄, f)

          module _ (b : ℕ) (e₄ : v₄ ≡ Ok b) where
            pub block_5 : (e : NotNumber) → x.figure ≡ Err e → Err not_number ≡ block_row room k alike x
            unfolding block_row
            block_5 e f = rw (e₀, e₁, e₂, ← q₃, e₃, ← q₄, e₄, f)

            pub block_placed : (z : ℤ) → x.figure ≡ Ok z → SignedFits x.figure → {v : Verdict BlockRow} → v ≡ in_turn room k alike n (record { number = n; cost = c; innermost = l; first = a; second = b; figure = to_z w64 (of_z w64 z) }) → v ≡ block_row room k alike x
            unfolding block_row
            block_placed z e₅ f d = d ∙ rw (to_z-of_z (f z e₅)) (rw (e₀, e₁, e₂, ← q₃, e₃, ← q₄, e₄, e₅))

-- The same of `loop_row`.
module _ (room k : ℕ) (alike : Bool) (x : LoopCells) where
  pub loop_0 : (e : NotNumber) → x.number ≡ Err e → Err not_number ≡ loop_row room k alike x
  unfolding loop_row
  loop_0 e f = rw f

  module _ (n : ℕ) (e₀ : x.number ≡ Ok n) where
    pub loop_1 : (e : NotNumber) → x.parent ≡ Err e → Err not_number ≡ loop_row room k alike x
    unfolding loop_row
    loop_1 e f = rw (e₀, f)

    module _ (p : ℕ) (e₁ : x.parent ≡ Ok p) where
      pub loop_2 : (e : NotNumber) → x.header ≡ Err e → Err not_number ≡ loop_row room k alike x
      unfolding loop_row
      loop_2 e f = rw (e₀, e₁, f)

      module _ (h : ℕ) (e₂ : x.header ≡ Ok h) where
        pub loop_3 : (e : NotNumber) → x.limit ≡ Err e → Err not_number ≡ loop_row room k alike x
        unfolding loop_row
        loop_3 e f = rw (e₀, e₁, e₂, f)

        module _ (l : ℕ) (e₃ : x.limit ≡ Ok l) where
          pub loop_4 : (e : NotNumber) → x.multiplier ≡ Err e → Err not_number ≡ loop_row room k alike x
          unfolding loop_row
          loop_4 e f = rw (e₀, e₁, e₂, e₃, f)

          pub loop_placed : (m : ℕ) → x.multiplier ≡ Ok m → {v : Verdict LoopRow} → v ≡ in_turn room k alike n (record { number = n; parent = p; header = h; limit = l; multiplier = m }) → v ≡ loop_row room k alike x
          unfolding loop_row
          loop_placed m e₄ d = d ∙ rw (e₀, e₁, e₂, e₃, e₄)

-- the cells depend on the first eight fields only
block_ext : (v w : ℕ → List ℕ) → ((i : ℕ) → i < 8 → v i ≡ w i) → block_cells v ≡ block_cells w
block_ext v w h = rw (h 0 (omega arith), h 1 (omega arith), h 2 (omega arith), h 3 (omega arith), h 4 (omega arith), h 5 (omega arith))

loop_ext : (v w : ℕ → List ℕ) → ((i : ℕ) → i < 8 → v i ≡ w i) → loop_cells v ≡ loop_cells w
loop_ext v w h = rw (h 0 (omega arith), h 1 (omega arith), h 2 (omega arith), h 3 (omega arith), h 4 (omega arith))

-- A record with a count of fields that is told, and its ending: t is what `ending_of` gave.
module _ {A : Type 0} (count : ℕ) (row : Bool → (ℕ → List ℕ) → Verdict A) (first : Ending) (r : Record) {t : Verdict Ending} (p : t ≡ counted count (length r.fields) (cond r.sound (Some r.ending) None)) where
  judged_out : (e : Fault) → t ≡ Err e → Err e ≡ judge count row first r
  judged_out e f = go r.sound (row (alike first r.ending) (field_of r)) (sym f ∙ p)
    where
      by_count : (b : Bool) (v : Verdict A) → Err e ≡ cond b (Ok r.ending) (Err FieldCount) → Err e ≡ cond b v (Err FieldCount)
      by_count true v h = absurd cc
      by_count false v h = cc

      go : (a : Bool) (v : Verdict A) → Err e ≡ counted count (length r.fields) (cond a (Some r.ending) None) → Err e ≡ cond a (cond (eqb (length r.fields) count) v (Err FieldCount)) (Err BrokenField)
      go true v h = by_count (eqb (length r.fields) count) v h
      go false v h = cc

  judged_in : (own : Ending) → t ≡ Ok own → row (alike first own) (field_of r) ≡ judge count row first r
  judged_in own f = go r.sound (sym f ∙ p)
    where
      by_count : (b : Bool) → Ok own ≡ cond b (Ok r.ending) (Err FieldCount) → row (alike first own) (field_of r) ≡ cond b (row (alike first r.ending) (field_of r)) (Err FieldCount)
      by_count true h = let z : own ≡ r.ending = cc in rw z
      by_count false h = absurd cc

      go : (a : Bool) → Ok own ≡ counted count (length r.fields) (cond a (Some r.ending) None) → row (alike first own) (field_of r) ≡ cond a (cond (eqb (length r.fields) count) (row (alike first r.ending) (field_of r)) (Err FieldCount)) (Err BrokenField)
      go true h = by_count (eqb (length r.fields) count) h
      go false h = absurd cc

-- Each way through `block_of` and `loop_of`; r is the split of the record.
module _ (s : List ℕ) (room : ℕ) (first : Ending) (k : ℕ) (r : Split) where
  abbrev pub SplitAt : ℕ → Type 0
  SplitAt at = r ≡ split_of no_places no_places 0 at (record_of (drop at s))

  told : (at : ℕ) → SplitAt at → (count : ℕ) {t : Verdict Ending} → t ≡ counted count r.count r.ending → t ≡ counted count (length (record_of (drop at s)).fields) (cond (record_of (drop at s)).sound (Some (record_of (drop at s)).ending) None)
  told at q count p = p ∙ rw (ap (λ (x : Split). x.ending) q, ap (λ (x : Split). x.count) q, zero-add (length (record_of (drop at s)).fields))

  fields_are : (at : ℕ) → SplitAt at → (i : ℕ) → i < 8 → field_at s r.starts r.ends i ≡ field_of (record_of (drop at s)) i
  fields_are at q i h = rw q (split_field s at i h)

  module _ {t : Verdict Ending} (p : t ≡ counted block_fields r.count r.ending) where
    pub block_faulty : (e : Fault) → t ≡ Err e → (at : ℕ) → SplitAt at → Err e ≡ judge_block room first k (record_of (drop at s))
    unfolding judge_block
    block_faulty e f at q = judged_out block_fields (λ a w. block_row room k a (block_cells w)) first (record_of (drop at s)) (told at q block_fields p) e f

    pub block_sound : (own : Ending) → t ≡ Ok own → {x : BlockCells} → x ≡ block_cells (field_at s r.starts r.ends) → {a : Bool} → a ≡ alike first own → {v : Verdict BlockRow} → v ≡ block_row room k a x → (at : ℕ) → SplitAt at → v ≡ judge_block room first k (record_of (drop at s))
    unfolding judge_block
    block_sound own f g l d at q = d ∙ rw (g ∙ block_ext (field_at s r.starts r.ends) (field_of (record_of (drop at s))) (fields_are at q), l) (judged_in block_fields (λ a w. block_row room k a (block_cells w)) first (record_of (drop at s)) (told at q block_fields p) own f)

  module _ {t : Verdict Ending} (p : t ≡ counted loop_fields r.count r.ending) where
    pub loop_faulty : (e : Fault) → t ≡ Err e → (at : ℕ) → SplitAt at → Err e ≡ judge_loop room first k (record_of (drop at s))
    unfolding judge_loop
    loop_faulty e f at q = judged_out loop_fields (λ a w. loop_row room k a (loop_cells w)) first (record_of (drop at s)) (told at q loop_fields p) e f

    pub loop_sound : (own : Ending) → t ≡ Ok own → {x : LoopCells} → x ≡ loop_cells (field_at s r.starts r.ends) → {a : Bool} → a ≡ alike first own → {v : Verdict LoopRow} → v ≡ loop_row room k a x → (at : ℕ) → SplitAt at → v ≡ judge_loop room first k (record_of (drop at s))
    unfolding judge_loop
    loop_sound own f g l d at q = d ∙ rw (g ∙ loop_ext (field_at s r.starts r.ends) (field_of (record_of (drop at s))) (fields_are at q), l) (judged_in loop_fields (λ a w. loop_row room k a (loop_cells w)) first (record_of (drop at s)) (told at q loop_fields p) own f)
