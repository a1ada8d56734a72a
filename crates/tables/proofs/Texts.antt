-- A table's text and the grammar the other way round: what is written is read as the lines that were written, and every accepted text is written so.
-- Assumes nothing.
use mathlib.Core.Path.{◌≡◌, refl}
use mathlib.Core.Bool.{Bool, true, false, cond}
use mathlib.Core.List.{List, [], ◌∷◌}
use Prim.Native.Nat.{ℕ, suc, ◌+◌, ◌≤◌, min}
use borrow.Author.Tests.{le-leb}
use lib.ListN.{length}
use lib.Dec.{eqb, leb}
use Rattle.limits.specs.Limits.{most_blocks, most_loops, most_text_bytes}
use Rattle.csv_text.specs.Grammar.{Record, records, first_ending, alike}
use Rattle.csv_text.specs.declared.Ending.{Ending}
use Rattle.csv_text.specs.Write.{Line, LineEnd, write, Allowed, records_as, SoundAlike, Written}
use Rattle.csv_text.proofs.Inverse.{alike_same, read_back, write_again}
use Rattle.std.proofs.Common.{Ok, Err}
use Rattle.rows.specs.Row.{block_fields, loop_fields, Verdict}
use Rattle.rows.specs.declared.Fault.TheVariants.{BrokenField, FieldCount}
use Rattle.tables.specs.declared.ReadFault.{ReadFault}
use Rattle.tables.specs.declared.ReadFault.TheVariants.{TextLength, Record as AtRecord}
use Rattle.rows.specs.Judge.{judge_block, judge_loop}
use Rattle.rows.proofs.Taken.{block_taken, loop_taken}
use Rattle.tables.specs.Table.{all, refused, stopped, reading_after, reading, after_header_row, table_of, block_table, loop_table}

refuse : {f : ReadFault} {first : Ending} {B : Type 0} → refused f ≡ all first → B
refuse q = absurd (cc)

module _ {A : Type 0} (judge : Ending → ℕ → Record → Verdict A) where
  -- THEOREM: a table that is written by RFC 4180, whichever fields stand between quote marks, whichever line end it has and whether or not
  -- the last one is there, is read as the lines that were written.
  pub table_back : (count : ℕ) (headerRow : Bool) (e : LineEnd) (ls : List Line) (ended : Bool) → Allowed ls ended → length (write e ls ended) ≤ most_text_bytes → table_of count judge headerRow (write e ls ended) ≡ cond headerRow (after_header_row count judge (records_as e ls ended)) (reading judge (first_ending (records_as e ls ended)) 1 0 (records_as e ls ended))
  unfolding table_of
  table_back count headerRow e ls ended a h = rw (le-leb (length (write e ls ended)) most_text_bytes h, read_back e ls ended a)

  -- of tables in which each row that is taken comes from a sound record that ends as it may, as `block_taken` and `loop_taken` of rows say of
  -- the two tables
  module _ (good : (first : Ending) (k : ℕ) (r : Record) (w : A) → judge first k r ≡ Ok w → (r.sound ≡ true) × (alike first r.ending ≡ true)) where
    reading_sound : (first : Ending) (start k : ℕ) (rs : List Record) {x : Ending} → (reading judge first start k rs).end ≡ all x → SoundAlike first rs
    unfolding reading
    reading_sound first start k [] e = tt
    reading_sound first start k (r ∷ rs) {x} e = go (judge first k r) refl e (λ f. reading_sound first start (suc k) rs f)
      where
        go : (v : Verdict A) → judge first k r ≡ v → (reading_after (reading judge first start (suc k) rs) (start + k) v).end ≡ all x → ((reading judge first start (suc k) rs).end ≡ all x → SoundAlike first rs) → SoundAlike first (r ∷ rs)
        go (Ok w) g e ih = let y = good first k r w g in (y.0, y.1, ih e)
        go (Err f) g e ih = refuse e

    headed_sound : (count : ℕ) (rs : List Record) {x : Ending} → (after_header_row count judge rs).end ≡ all x → SoundAlike (first_ending rs) rs
    headed_sound count [] e = refuse e
    headed_sound count (r ∷ rs) {x} e = go r.sound (eqb (length r.fields) count) refl e
      where
        go : (a b : Bool) → r.sound ≡ a → (cond a (cond b (reading judge r.ending 2 0 rs) (stopped (AtRecord FieldCount 1))) (stopped (AtRecord BrokenField 1))).end ≡ all x → SoundAlike r.ending (r ∷ rs)
        go true true g e = (g, alike_same r.ending, reading_sound r.ending 2 0 rs e)
        go true false g e = refuse e
        go false b g e = refuse e

    -- every accepted text is written by RFC 4180, with one line end
    pub accepted_written : (count : ℕ) (headerRow : Bool) (s : List ℕ) {x : Ending} → (table_of count judge headerRow s).end ≡ all x → (e : LineEnd) × Written e s
    unfolding table_of
    accepted_written count headerRow s {x} e = write_again s (long (leb (length s) most_text_bytes) e)
      where
        told : (b : Bool) → (cond b (after_header_row count judge (records s)) (reading judge (first_ending (records s)) 1 0 (records s))).end ≡ all x → SoundAlike (first_ending (records s)) (records s)
        told true e = headed_sound count (records s) e
        told false e = reading_sound (first_ending (records s)) 1 0 (records s) e

        long : (b : Bool) → (cond b (cond headerRow (after_header_row count judge (records s)) (reading judge (first_ending (records s)) 1 0 (records s))) (stopped TextLength)).end ≡ all x → SoundAlike (first_ending (records s)) (records s)
        long true e = told headerRow e
        long false e = refuse e

-- THEOREM: every text that is accepted as one of the two tables is written by RFC 4180, with CR LF or with LF throughout.
pub blocks_written : (places : ℕ) (headerRow : Bool) (s : List ℕ) {x : Ending} → (block_table places headerRow s).end ≡ all x → (e : LineEnd) × Written e s
blocks_written places = accepted_written (judge_block (min places most_blocks)) (λ first k r w e. let y = block_taken (min places most_blocks) first k r w e in (y.0, y.1.0)) block_fields

pub loops_written : (places : ℕ) (headerRow : Bool) (s : List ℕ) {x : Ending} → (loop_table places headerRow s).end ≡ all x → (e : LineEnd) × Written e s
loops_written places = accepted_written (judge_loop (min places most_loops)) (λ first k r w e. let y = loop_taken (min places most_loops) first k r w e in (y.0, y.1.0)) loop_fields
