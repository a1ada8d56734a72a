-- What the two readers leave in the lent columns.
-- Assumes nothing.
use Rattle.std.proofs.Common.{◌≡◌, ℕ, ◌+◌, ◌≤◌, Bool, List, Result, Ok, Err, length, take, refl, sym, ap, ◌∙◌, arith}
use Prim.Native.Nat.{min}
use Rattle.limits.specs.Limits.{most_blocks, most_loops}
use Rattle.rows.specs.Row.{block_fields, loop_fields, cost_of, innermost_of, first_of, second_of, figure_of, parent_of, loop_header_of, limit_of, multiplier_of}
use Rattle.rows.specs.Judge.{judge_block, judge_loop}
use Rattle.rows.specs.declared.BlockRow.{BlockRow}
use Rattle.rows.specs.declared.LoopRow.{LoopRow}
use Rattle.rows.proofs.Taken.{block_taken, loop_taken}
use Rattle.tables.specs.Table.{Reading, table_of}
use Rattle.tables.specs.Columns.{over, BlockColumns, shortest_block, BlocksRead, LoopColumns, shortest_loop, LoopsRead}
use Rattle.tables.specs.Place.{store_block, store_loop, gathered, leaving}
use Rattle.tables.specs.declared.Rows.{Rows}
use Rattle.tables.specs.declared.ReadFault.{ReadFault}
use Rattle.tables.specs.declared.BlockArrays.{BlockArrays}
use Rattle.tables.specs.declared.LoopArrays.{LoopArrays}
use Rattle.tables.proofs.Sizes.{Short, table_short}
use Rattle.tables.proofs.Copies.{column_length, reply_is, count_fits, column_left, column_kept}

-- the rows of each table have places, and a refusal's record is near them
pub blocks_short : (room : ℕ) (headerRow : Bool) (s : List ℕ) → Short room (2 + room) 0 (table_of block_fields (judge_block room) headerRow s)
blocks_short room = table_short (judge_block room) room (λ first k r w e. (block_taken room first k r w e).1.1) block_fields

pub loops_short : (room : ℕ) (headerRow : Bool) (s : List ℕ) → Short room (2 + room) 0 (table_of loop_fields (judge_loop room) headerRow s)
loops_short room = table_short (judge_loop room) room (λ first k r w e. (loop_taken room first k r w e).1.1) loop_fields

-- the room of a block table, from the lengths of its columns one after the other
pub block_room : (c l a b z m : ℕ) {e f g h r : ℕ} → e ≡ min c l → f ≡ min e a → g ≡ min f b → h ≡ min g z → r ≡ min h m → r ≡ min (min c (min l (min a (min b z)))) m
block_room c l a b z m i j k n o = o ∙ ap (λ (x : ℕ). min x m) (rw (n, k, j, i) (simp min_assoc))
  where
    min_assoc : (x y w : ℕ) → min (min x y) w ≡ min x (min y w)
    min_assoc x y w = omega arith

-- columns that have a place for each row
pub record BlockPlaces (room : ℕ) (c : BlockArrays) : Type 0 where
  pub cost : room ≤ length c.cost
  pub loops : room ≤ length c.loops
  pub first : room ≤ length c.first
  pub second : room ≤ length c.second
  pub figure : room ≤ length c.figure

pub record LoopPlaces (room : ℕ) (c : LoopArrays) : Type 0 where
  pub parent : room ≤ length c.parent
  pub header : room ≤ length c.header
  pub limit : room ≤ length c.limit
  pub multiplier : room ≤ length c.multiplier

-- the columns after they were filled with the first `count` values
pub record BlocksFilled (count : ℕ) (from : BlockArrays) (old new : BlockColumns) : Type 0 where
  pub cost : new.cost ≡ over (take count from.cost) old.cost
  pub loops : new.loops ≡ over (take count from.loops) old.loops
  pub first : new.first ≡ over (take count from.first) old.first
  pub second : new.second ≡ over (take count from.second) old.second
  pub figure : new.figure ≡ over (take count from.figure) old.figure

pub record LoopsFilled (count : ℕ) (from : LoopArrays) (old new : LoopColumns) : Type 0 where
  pub parent : new.parent ≡ over (take count from.parent) old.parent
  pub header : new.header ≡ over (take count from.header) old.header
  pub limit : new.limit ≡ over (take count from.limit) old.limit
  pub multiplier : new.multiplier ≡ over (take count from.multiplier) old.multiplier

-- `columns` are those that the pass filled, from the columns `none`
module _ (s : List ℕ) (headerRow : Bool) (old : BlockColumns) (none : BlockArrays) {room : ℕ} (y : room ≡ min (shortest_block old) most_blocks) {r : Result Rows ReadFault} {columns : BlockArrays} (q : leaving r columns ≡ gathered store_block none 0 (table_of block_fields (judge_block room) headerRow s)) where
  blocks_here : Reading BlockRow
  blocks_here = table_of block_fields (judge_block room) headerRow s

  blocks_fit : length blocks_here.rows ≤ room
  unfolding blocks_here
  blocks_fit = let S = blocks_short room headerRow s in omega (arith, S.rows)

  pub blocks_count : (rows : Rows) → r ≡ Ok rows → rows.count ≤ room
  unfolding blocks_here
  blocks_count rows e = count_fits store_block none blocks_here room blocks_fit q rows e

  -- the pass leaves each column its length
  pub blocks_places : BlockPlaces room none → BlockPlaces room columns
  unfolding blocks_here
  blocks_places p = record {
    cost = rw (column_length store_block none blocks_here q (λ c. c.cost) cost_of (λ c k w. refl)) p.cost;
    loops = rw (column_length store_block none blocks_here q (λ c. c.loops) innermost_of (λ c k w. refl)) p.loops;
    first = rw (column_length store_block none blocks_here q (λ c. c.first) first_of (λ c k w. refl)) p.first;
    second = rw (column_length store_block none blocks_here q (λ c. c.second) second_of (λ c k w. refl)) p.second;
    figure = rw (column_length store_block none blocks_here q (λ c. c.figure) figure_of (λ c k w. refl)) p.figure;
  }

  pub blocks_read : (rows : Rows) → r ≡ Ok rows → BlockPlaces room none → {new : BlockColumns} → BlocksFilled rows.count columns old new → BlocksRead s headerRow old (Ok rows) new
  unfolding blocks_here
  blocks_read rows e p {new} f =
      rw (← y) (record {
        reply = sym e ∙ reply_is store_block none blocks_here room blocks_fit q;
        cost = column_left store_block none blocks_here room blocks_fit q rows e (λ c. c.cost) cost_of (λ c k w. refl) p.cost old.cost f.cost;
        loops = column_left store_block none blocks_here room blocks_fit q rows e (λ c. c.loops) innermost_of (λ c k w. refl) p.loops old.loops f.loops;
        first = column_left store_block none blocks_here room blocks_fit q rows e (λ c. c.first) first_of (λ c k w. refl) p.first old.first f.first;
        second = column_left store_block none blocks_here room blocks_fit q rows e (λ c. c.second) second_of (λ c k w. refl) p.second old.second f.second;
        figure = column_left store_block none blocks_here room blocks_fit q rows e (λ c. c.figure) figure_of (λ c k w. refl) p.figure old.figure f.figure;
      })

  pub blocks_refused : (fault : ReadFault) → r ≡ Err fault → BlocksRead s headerRow old (Err fault) old
  unfolding blocks_here
  blocks_refused fault e =
      rw (← y) (record {
        reply = sym e ∙ reply_is store_block none blocks_here room blocks_fit q;
        cost = column_kept store_block none blocks_here room blocks_fit q fault e cost_of old.cost;
        loops = column_kept store_block none blocks_here room blocks_fit q fault e innermost_of old.loops;
        first = column_kept store_block none blocks_here room blocks_fit q fault e first_of old.first;
        second = column_kept store_block none blocks_here room blocks_fit q fault e second_of old.second;
        figure = column_kept store_block none blocks_here room blocks_fit q fault e figure_of old.figure;
      })

-- the same of loops
module _ (s : List ℕ) (headerRow : Bool) (old : LoopColumns) (none : LoopArrays) {room : ℕ} (y : room ≡ min (shortest_loop old) most_loops) {r : Result Rows ReadFault} {columns : LoopArrays} (q : leaving r columns ≡ gathered store_loop none 0 (table_of loop_fields (judge_loop room) headerRow s)) where
  loops_here : Reading LoopRow
  loops_here = table_of loop_fields (judge_loop room) headerRow s

  loops_fit : length loops_here.rows ≤ room
  unfolding loops_here
  loops_fit = let S = loops_short room headerRow s in omega (arith, S.rows)

  pub loops_count : (rows : Rows) → r ≡ Ok rows → rows.count ≤ room
  unfolding loops_here
  loops_count rows e = count_fits store_loop none loops_here room loops_fit q rows e

  -- the pass leaves each column its length
  pub loops_places : LoopPlaces room none → LoopPlaces room columns
  unfolding loops_here
  loops_places p = record {
    parent = rw (column_length store_loop none loops_here q (λ c. c.parent) parent_of (λ c k w. refl)) p.parent;
    header = rw (column_length store_loop none loops_here q (λ c. c.header) loop_header_of (λ c k w. refl)) p.header;
    limit = rw (column_length store_loop none loops_here q (λ c. c.limit) limit_of (λ c k w. refl)) p.limit;
    multiplier = rw (column_length store_loop none loops_here q (λ c. c.multiplier) multiplier_of (λ c k w. refl)) p.multiplier;
  }

  pub loops_read : (rows : Rows) → r ≡ Ok rows → LoopPlaces room none → {new : LoopColumns} → LoopsFilled rows.count columns old new → LoopsRead s headerRow old (Ok rows) new
  unfolding loops_here
  loops_read rows e p {new} f =
      rw (← y) (record {
        reply = sym e ∙ reply_is store_loop none loops_here room loops_fit q;
        parent = column_left store_loop none loops_here room loops_fit q rows e (λ c. c.parent) parent_of (λ c k w. refl) p.parent old.parent f.parent;
        header = column_left store_loop none loops_here room loops_fit q rows e (λ c. c.header) loop_header_of (λ c k w. refl) p.header old.header f.header;
        limit = column_left store_loop none loops_here room loops_fit q rows e (λ c. c.limit) limit_of (λ c k w. refl) p.limit old.limit f.limit;
        multiplier = column_left store_loop none loops_here room loops_fit q rows e (λ c. c.multiplier) multiplier_of (λ c k w. refl) p.multiplier old.multiplier f.multiplier;
      })

  pub loops_refused : (fault : ReadFault) → r ≡ Err fault → LoopsRead s headerRow old (Err fault) old
  unfolding loops_here
  loops_refused fault e =
      rw (← y) (record {
        reply = sym e ∙ reply_is store_loop none loops_here room loops_fit q;
        parent = column_kept store_loop none loops_here room loops_fit q fault e parent_of old.parent;
        header = column_kept store_loop none loops_here room loops_fit q fault e loop_header_of old.header;
        limit = column_kept store_loop none loops_here room loops_fit q fault e limit_of old.limit;
        multiplier = column_kept store_loop none loops_here room loops_fit q fault e multiplier_of old.multiplier;
      })
