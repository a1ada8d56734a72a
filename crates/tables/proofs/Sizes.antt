-- The rows of a table have places, and a refusal's record is near them.
-- Assumes nothing.
use mathlib.Core.Path.{◌≡◌, refl}
use mathlib.Core.Bool.{Bool, true, false, cond}
use mathlib.Core.List.{List, [], ◌∷◌}
use Prim.Native.Nat.{ℕ, suc, ◌+◌, ◌<◌, ◌≤◌}
use native.Mathlib.Omega.{arith}
use lib.ListN.{length}
use lib.Dec.{leb, eqb}
use Rattle.limits.specs.Limits.{most_text_bytes}
use Rattle.csv_text.specs.Grammar.{Record, records, first_ending}
use Rattle.csv_text.specs.declared.Ending.{Ending}
use Rattle.std.proofs.Common.{Ok, Err}
use Rattle.rows.specs.Row.{Verdict}
use Rattle.rows.specs.declared.Fault.TheVariants.{BrokenField, FieldCount}
use Rattle.tables.specs.declared.ReadFault.{ReadFault}
use Rattle.tables.specs.declared.ReadFault.TheVariants.{TextLength, Record as AtRecord}
use Rattle.tables.specs.Table.{refused, read_place, Reading, stopped, reading_after, reading, after_header_row, table_of}

-- a reading from row k on: its rows have places, and it is refused at a record of at most `most`
pub record Short {A : Type 0} (room most k : ℕ) (x : Reading A) : Type 0 where
  pub rows : k + length x.rows ≤ room
  pub place : (f : ReadFault) → x.end ≡ refused f → read_place f ≤ most

module _ {A : Type 0} where
  stopped_short : (room most k : ℕ) (f : ReadFault) → k ≤ room → read_place f ≤ most → Short {A = A} room most k (stopped f)
  stopped_short room most k f h l = record { rows = omega arith; place = λ q e. let there : f ≡ q = cc in rw (← there) l }

  module _ (judge : Ending → ℕ → Record → Verdict A) (room : ℕ) (place : (first : Ending) (k : ℕ) (r : Record) (w : A) → judge first k r ≡ Ok w → k < room) where
    reading_short : (first : Ending) (start k : ℕ) (rs : List Record) → k ≤ room → Short room (start + room) k (reading judge first start k rs)
    unfolding reading
    reading_short first start k [] h = record { rows = omega arith; place = λ f e. absurd (cc) }
    reading_short first start k (r ∷ rs) h = go (judge first k r) refl (reading_short first start (suc k) rs)
      where
        go : (v : Verdict A) → judge first k r ≡ v → (suc k ≤ room → Short room (start + room) (suc k) (reading judge first start (suc k) rs)) → Short room (start + room) k (reading_after (reading judge first start (suc k) rs) (start + k) v)
        go (Ok w) e later = let S = later (place first k r w e) in record { rows = omega (arith, S.rows); place = S.place }
        go (Err f) e later = stopped_short room (start + room) k (AtRecord f (start + k)) h (omega arith)

    pub table_short : (count : ℕ) (headerRow : Bool) (s : List ℕ) → Short room (2 + room) 0 (table_of count judge headerRow s)
    unfolding table_of
    table_short count headerRow s = long (leb (length s) most_text_bytes)
      where
        stop : (f : ReadFault) → read_place f ≤ 2 → Short {A = A} room (2 + room) 0 (stopped f)
        stop f h = stopped_short room (2 + room) 0 f (omega arith) (omega arith)

        after : (rs : List Record) → Short room (2 + room) 0 (after_header_row count judge rs)
        after [] = stop (AtRecord FieldCount 1) (omega arith)
        after (r ∷ rs) = form r.sound (eqb (length r.fields) count)
          where
            form : (a b : Bool) → Short room (2 + room) 0 (cond a (cond b (reading judge r.ending 2 0 rs) (stopped (AtRecord FieldCount 1))) (stopped (AtRecord BrokenField 1)))
            form true true = reading_short r.ending 2 0 rs (omega arith)
            form true false = stop (AtRecord FieldCount 1) (omega arith)
            form false b = stop (AtRecord BrokenField 1) (omega arith)

        plain : Short room (2 + room) 0 (reading judge (first_ending (records s)) 1 0 (records s))
        plain = let S = reading_short (first_ending (records s)) 1 0 (records s) (omega arith) in record { rows = S.rows; place = λ f e. omega (arith, S.place f e) }

        told : (b : Bool) → Short room (2 + room) 0 (cond b (after_header_row count judge (records s)) (reading judge (first_ending (records s)) 1 0 (records s)))
        told true = after (records s)
        told false = plain

        long : (b : Bool) → Short room (2 + room) 0 (cond b (cond headerRow (after_header_row count judge (records s)) (reading judge (first_ending (records s)) 1 0 (records s))) (stopped TextLength))
        long true = told headerRow
        long false = stop TextLength (omega arith)
