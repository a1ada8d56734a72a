-- The pass over the records, one turn at a time, over rows and columns of any kind.
-- Assumes nothing.
use Rattle.std.proofs.Common.{◌≡◌, ℕ, suc, ◌+◌, ◌-◌, ◌<◌, ◌≤◌, true, List, ◌∷◌, Ok, Err, length, drop, sym, ap, ◌∙◌, add-zero, add-one, length-drop, arith}
use lib.Seq.{drop-drop}
use Rattle.csv_text.specs.Grammar as grammar
use Rattle.csv_text.specs.Grammar.{Record, record_of, records}
use Rattle.csv_text.specs.declared.Ending.{Ending}
use Rattle.csv_text.proofs.Records.{Spans, record_spans, records_none, records_step}
use Rattle.rows.specs.declared.Fault.{Fault}
use Rattle.rows.specs.Row.{Verdict}
use Rattle.tables.specs.Table.{End, reading_after, reading}
use Rattle.tables.specs.Columns.{reply_by}
use Rattle.tables.specs.Place.{stores, Gathered, gathered, leaving}
use Rattle.tables.specs.declared.ReadFault.TheVariants.{Record as AtRecord}

module _ {A C : Type 0} (store : C → ℕ → A → C) (judge : Ending → ℕ → Record → Verdict A) (s : List ℕ) (first : Ending) (start : ℕ) where
  -- the record at p, where row k is due
  module _ (k p : ℕ) (h : p < length s) where
    some : 0 < length (drop p s)
    some = rw length-drop (omega arith)

    pub pass_fault : (n : Fault) → judge first k (record_of (drop p s)) ≡ Err n → {x : Gathered C} (columns : C) → x ≡ gathered store columns k (reading judge first start k (records (drop p s))) → leaving (Err (AtRecord n (start + k))) columns ≡ x
    unfolding reading stores
    pass_fault n e columns f = sym (f ∙ rw (records_step (drop p s) some, e))

    module _ (w : A) (e : judge first k (record_of (drop p s)) ≡ Ok w) (sound : (record_of (drop p s)).sound ≡ true) (next : ℕ) (i : next ≡ p + (record_of (drop p s)).bytes) where
      pub pass_range : (p < next) × (next ≤ length s)
      pass_range =
          let x : Spans (record_of (drop p s)) (length (drop p s)) = record_spans (drop p s) sound in
          let y : 0 < (record_of (drop p s)).bytes = x.some some in
          let z : (record_of (drop p s)).bytes ≤ length s - p = rw length-drop at x.within in
          omega (arith, i)

      rest : grammar.records_after records (drop p s) (record_of (drop p s)) ≡ records (drop next s)
      rest = rw (sound, drop-drop, ← i)

      row_reading : reading judge first start k (records (drop p s)) ≡ reading_after (reading judge first start (suc k) (records (drop next s))) (start + k) (Ok w)
      unfolding reading
      row_reading = rw (records_step (drop p s) some ∙ ap (λ (l : List Record). record_of (drop p s) ∷ l) rest, e)

      one_more : (columns : C) (ws : List A) (x : End) → gathered store columns k (record { rows = w ∷ ws; end = x }) ≡ gathered store (store columns k w) (suc k) (record { rows = ws; end = x })
      unfolding stores
      one_more columns ws x =
          let z : k + suc (length ws) ≡ suc k + length ws = omega arith in
          ap (λ (n : ℕ). leaving (reply_by n x) (stores store (store columns k w) (suc k) ws)) z

      pub pass_on : {x : Gathered C} (columns : C) → x ≡ gathered store columns k (reading judge first start k (records (drop p s))) → x ≡ gathered store (store columns k w) (k + 1) (reading judge first start (k + 1) (records (drop next s)))
      pass_on columns f = f ∙ rw (row_reading, add-one k) (one_more columns (reading judge first start (suc k) (records (drop next s))).rows (reading judge first start (suc k) (records (drop next s))).end)

  -- the end of the text
  pub pass_done : (k p : ℕ) → length s ≤ p → {x : Gathered C} (columns : C) → x ≡ gathered store columns k (reading judge first start k (records (drop p s))) → leaving (Ok (record { count = k; ending = first })) columns ≡ x
  unfolding reading stores
  pass_done k p h columns f = sym (f ∙ rw (records_none (drop p s) (rw length-drop (omega arith)), add-zero))
