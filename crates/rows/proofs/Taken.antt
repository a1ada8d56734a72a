-- What is known of a row that is taken: its record is sound and ends as it may, it has a place, and its figure fits its column.
-- Assumes nothing.
use Rattle.std.proofs.Common.{◌≡◌, refl, Bool, true, false, cond, List, ℕ, ◌<◌, length, eqb, ltb, Result, Ok, Err, SFits, w64, ltb-true}
use Rattle.csv_text.specs.Grammar.{Record, alike}
use Rattle.csv_text.specs.declared.Ending.{Ending}
use Rattle.digits.specs.declared.NotNumber.{NotNumber}
use Rattle.rows.specs.Row.{Verdict, needed, or_missing, in_turn, block_fields, block_cells, block_row, loop_fields, loop_cells, loop_row}
use Rattle.rows.specs.Judge.{field_of, judge, judge_block, judge_loop}
use Rattle.rows.specs.declared.Fault.TheVariants.{BrokenField, FieldCount, OutOfTurn, NoPlace, OtherEnding}
use Rattle.rows.specs.declared.BlockRow.{BlockRow}
use Rattle.rows.specs.declared.LoopRow.{LoopRow}
use Rattle.rows.proofs.Rows.{block_fits}

module _ {A : Type 0} where
  -- what holds of the row, if there is one
  abbrev pub Holds : (A → Type 0) → Verdict A → Type 0
  Holds P (Ok w) = P w
  Holds P (Err e) = Unit {0}

  module _ (P : A → Type 0) where
    each : {B : Type 0} (v : Result B NotNumber) (f : B → Verdict A) → ((x : B) → v ≡ Ok x → Holds P (f x)) → Holds P (needed v f)
    each (Ok x) f h = h x refl
    each (Err e) f h = tt

    each_turn : (room k : ℕ) (alike : Bool) (n : ℕ) (w : A) → (alike ≡ true → k < room → P w) → Holds P (in_turn room k alike n w)
    unfolding in_turn
    each_turn room k alike n w h = go (eqb n k) (ltb k room) alike refl refl
      where
        go : (a b c : Bool) → ltb k room ≡ b → alike ≡ c → Holds P (cond a (cond b (cond c (Ok w) (Err OtherEnding)) (Err NoPlace)) (Err OutOfTurn))
        go true true true e f = h f (ltb-true k room e)
        go true true false e f = tt
        go true false c e f = tt
        go false b c e f = tt

  judged : (P : Bool → A → Type 0) (count : ℕ) (row : Bool → (ℕ → List ℕ) → Verdict A) (first : Ending) (r : Record) → Holds (P (alike first r.ending)) (row (alike first r.ending) (field_of r)) → (w : A) → judge count row first r ≡ Ok w → (r.sound ≡ true) × P (alike first r.ending) w
  judged P count row first r h w e = go r.sound (eqb (length r.fields) count) refl (row (alike first r.ending) (field_of r)) h e
    where
      go : (a b : Bool) → r.sound ≡ a → (v : Verdict A) → Holds (P (alike first r.ending)) v → cond a (cond b v (Err FieldCount)) (Err BrokenField) ≡ Ok w → (r.sound ≡ true) × P (alike first r.ending) w
      go true true f (Ok u) h e = let z : u ≡ w = cc in (f, rw z at h)
      go true true f (Err x) h e = absurd cc
      go true false f v h e = absurd cc
      go false b f v h e = absurd cc

abbrev pub BlockTaken : ℕ → ℕ → Bool → BlockRow → Type 0
BlockTaken room k alike w = (alike ≡ true) × (k < room) × SFits w64 w.figure

pub block_taken : (room : ℕ) (first : Ending) (k : ℕ) (r : Record) (w : BlockRow) → judge_block room first k r ≡ Ok w → (r.sound ≡ true) × BlockTaken room k (alike first r.ending) w
unfolding judge_block block_row
block_taken room first k r = judged (BlockTaken room k) block_fields (λ a w. block_row room k a (block_cells w)) first r (here (alike first r.ending) (field_of r))
  where
    here : (a : Bool) (w : ℕ → List ℕ) → Holds (BlockTaken room k a) (block_row room k a (block_cells w))
    here a w =
        let x = block_cells w in
        each (BlockTaken room k a) x.number _ λ n _.
        each (BlockTaken room k a) x.cost _ λ c _.
        each (BlockTaken room k a) x.innermost _ λ l _.
        each (BlockTaken room k a) (or_missing x.first) _ λ f _.
        each (BlockTaken room k a) (or_missing x.second) _ λ b _.
        each (BlockTaken room k a) x.figure _ λ z e.
        each_turn (BlockTaken room k a) room k a n _ λ g h. (g, h, (block_fits w refl).figure z e)

abbrev pub LoopTaken : ℕ → ℕ → Bool → LoopRow → Type 0
LoopTaken room k alike w = (alike ≡ true) × (k < room)

pub loop_taken : (room : ℕ) (first : Ending) (k : ℕ) (r : Record) (w : LoopRow) → judge_loop room first k r ≡ Ok w → (r.sound ≡ true) × LoopTaken room k (alike first r.ending) w
unfolding judge_loop loop_row
loop_taken room first k r = judged (LoopTaken room k) loop_fields (λ a w. loop_row room k a (loop_cells w)) first r (here (alike first r.ending) (field_of r))
  where
    here : (a : Bool) (w : ℕ → List ℕ) → Holds (LoopTaken room k a) (loop_row room k a (loop_cells w))
    here a w =
        let x = loop_cells w in
        each (LoopTaken room k a) x.number _ λ n _.
        each (LoopTaken room k a) x.parent _ λ p _.
        each (LoopTaken room k a) x.header _ λ h _.
        each (LoopTaken room k a) x.limit _ λ l _.
        each (LoopTaken room k a) x.multiplier _ λ m _.
        each_turn (LoopTaken room k a) room k a n _ λ g h. (g, h)
