-- The program as a whole: what an accepted line means, and how much of its input it needs to see. Assumes nothing.
use mathlib.Core.Path.{◌≡◌, refl, ap}
use mathlib.Core.Bool.{Bool, true, false, cond, ◌&&◌}
use mathlib.Core.List.{List, [], ◌∷◌, ◌++◌}
use Prim.Native.Nat.{ℕ, zero, suc, ◌<◌}
use native.Mathlib.Omega.{arith}
use borrow.Author.Tests.{leb-true, leb-false, lt-leb}
use lib.Dec.{eqb, leb}
use lib.IntN.{ℤ}
use lib.ListN.{length, length-take, take}
use lib.Seq.{take_all}
use Rattle.wcet.specs.Rules.{Reply, accepted, refused, table_reply}
use Rattle.wcet.proofs.Bound.{wcet_bound}
use Rattle.tables.specs.Table as table
use Rattle.tables.specs.Table.{End, Reading, table_of}
use Rattle.csv_text.specs.Grammar.{Record}
use Rattle.csv_text.specs.declared.Ending.{Ending}
use Rattle.limits.specs.Limits.{most_blocks, most_loops, most_text_bytes}
use Rattle.rows.specs.Row.{Verdict, block_fields, loop_fields}
use Rattle.rows.specs.Judge.{judge_block, judge_loop}
use Rattle.lists.specs.Bytes.{bytes, same}
use Rattle.stages.specs.Stages.{Outcome, refusal_at, header_of, of_answer, of_end, after_reading, block_reading, loop_reading, setting_room, text_room, routine_of, table_stage, has_blocks, has_loops, loops_stage, blocks_stage, setting_stage, outcome_of, wanted_by, Certified, FirstBytes, InTurn}
use Rattle.std.proofs.Common.{Option, Some, None, Ok}
use Rattle.tables.specs.Table.{read_number, read_place}
use Rattle.stages.specs.declared.Files.{Files}
use Rattle.stages.specs.declared.Files.TheVariants.{Neither, Blocks as OnlyBlocks}
use Rattle.stages.specs.declared.Wanted.TheVariants.{Nothing}
use Rattle.report.specs.declared.Stage.{Stage}
use Rattle.report.specs.declared.Stage.TheVariants.{Blocks, Loops}

-- ---- the first bytes

-- a word of fewer than k bytes is found in the first k
same_first : (k : ℕ) (s w : List ℕ) → length w < k → same (take k s) w ≡ same s w
unfolding same
same_first zero s w h = absurd (omega arith)
same_first (suc k) [] w h = refl
same_first (suc k) (b ∷ s) [] h = refl
same_first (suc k) (b ∷ s) (c ∷ w) h = ap (λ (x : Bool). eqb b c && x) (same_first k s w (omega arith))

header_first : (s : List ℕ) → header_of (take setting_room s) ≡ header_of s
unfolding header_of
header_first s = rw (
  same_first setting_room s (bytes "header=absent") (omega arith),
  same_first setting_room s (bytes "header=absent" ++ 10 ∷ []) (omega arith),
  same_first setting_room s (bytes "header=present") (omega arith),
  same_first setting_room s (bytes "header=present" ++ 10 ∷ []) (omega arith),
)

-- a text that is too long is so by its first bytes
text_first : {A : Type 0} (count : ℕ) (judge : Ending → ℕ → Record → Verdict A) (headerRow : Bool) (s : List ℕ) → table_of count judge headerRow (take text_room s) ≡ table_of count judge headerRow s
unfolding table_of
text_first count judge headerRow s = go (leb (length s) most_text_bytes) refl
  where
    go : (b : Bool) → leb (length s) most_text_bytes ≡ b → table_of count judge headerRow (take text_room s) ≡ table_of count judge headerRow s
    go true e = ap (table_of count judge headerRow) (take_all text_room s (omega (arith, leb-true (length s) most_text_bytes e)))
    go false e =
        let l : most_text_bytes < length s = leb-false (length s) most_text_bytes e in
        let long : leb (length (take text_room s)) most_text_bytes ≡ false = lt-leb (length (take text_room s)) most_text_bytes (omega (arith, length-take text_room s)) in
        rw (e, long)

-- THEOREM: the program's buffers are large enough.
pub first_bytes : (setting : List ℕ) (files : Files) (blocks loops : List ℕ) → FirstBytes setting files blocks loops
unfolding outcome_of blocks_stage loops_stage
first_bytes setting files blocks loops = rw (header_first setting) (go (header_of setting))
  where
    stage : (headerRow : Bool) → blocks_stage headerRow files (take text_room blocks) (take text_room loops) ≡ blocks_stage headerRow files blocks loops
    stage headerRow = rw (text_first block_fields (judge_block most_blocks) headerRow blocks, text_first loop_fields (judge_loop most_loops) headerRow loops)

    go : (h : Option Bool) → setting_stage h files (take text_room blocks) (take text_room loops) ≡ setting_stage h files blocks loops
    go (Some headerRow) = stage headerRow
    go None = refl

-- ---- an accepted line

-- an acceptance after a text comes from its rows
record Accepts {A : Type 0} (x : Reading A) (next : List A → Outcome) (b : ℤ) : Type 0 where
  ending : Ending
  read : x ≡ record { rows = x.rows; end = table.all ending }
  accepts : next x.rows ≡ Ok b

accepts_text : {A : Type 0} (x : Reading A) (stage : Stage) (next : List A → Outcome) (b : ℤ) → after_reading stage next x ≡ Ok b → Accepts x next b
accepts_text x stage next b e = go x.end refl e
  where
    go : (y : End) → x.end ≡ y → of_end stage (next x.rows) y ≡ Ok b → Accepts x next b
    go (table.all first) f q = record { ending = first; read = ap (λ (y : End). record { rows = x.rows; end = y }) f; accepts = q }
    go (table.refused fault) f q = absurd (cc)

-- a file that is there
accepts_file : {A : Type 0} (has : Bool) (x : Reading A) (stage : Stage) (next : List A → Outcome) (n p : ℕ) (b : ℤ) → cond has (after_reading stage next x) (refusal_at stage n p) ≡ Ok b → Accepts x next b
accepts_file true x stage next n p b e = accepts_text x stage next b e
accepts_file false x stage next n p b e = absurd (cc)

table_accepts : (x : Reply ℤ) (b : ℤ) → of_answer x ≡ Ok b → x ≡ accepted b
table_accepts (accepted c) b e = let same : c ≡ b = cc in ap accepted same
table_accepts (refused n p) b e = absurd (cc)

-- THEOREM: demand 3, of an accepted outcome of the program.
pub certified : (setting : List ℕ) (files : Files) (blocks loops : List ℕ) (b : ℤ) → outcome_of setting files blocks loops ≡ Ok b → Certified setting blocks loops b
unfolding outcome_of blocks_stage loops_stage
certified setting files blocks loops b e = go (header_of setting) refl e
  where
    stage : (headerRow : Bool) → header_of setting ≡ Some headerRow → blocks_stage headerRow files blocks loops ≡ Ok b → Certified setting blocks loops b
    stage headerRow h q =
        let x = block_reading headerRow blocks in
        let y = loop_reading headerRow loops in
        let B = accepts_file (has_blocks files) x Blocks (λ bs. loops_stage headerRow files loops (routine_of bs)) 107 1 b q in
        let L = accepts_file (has_loops files) y Loops (λ ls. table_stage (routine_of x.rows ls)) 107 2 b B.accepts in
        let t = routine_of x.rows y.rows in
        let replied : table_reply t ≡ accepted b = table_accepts (table_reply t) b L.accepts in
        record {
          header_row = headerRow;
          said = h;
          block_rows = x.rows;
          loop_rows = y.rows;
          block_ending = B.ending;
          loop_ending = L.ending;
          blocks_read = B.read;
          loops_read = L.read;
          replied = replied;
          bounded = wcet_bound t b replied;
        }

    go : (g : Option Bool) → header_of setting ≡ g → setting_stage g files blocks loops ≡ Ok b → Certified setting blocks loops b
    go (Some headerRow) h q = stage headerRow h q
    go None h q = absurd (cc)

-- ---- one file after the other

-- with no file, and with no loops
in_turn_neither : (h : Option Bool) (files : Files) (blocks loops : List ℕ) → wanted_by (setting_stage h Neither [] []) ≡ Nothing → setting_stage h files blocks loops ≡ setting_stage h Neither [] []
unfolding blocks_stage
in_turn_neither (Some headerRow) files blocks loops e = absurd (cc)
in_turn_neither None files blocks loops e = refl

in_turn_blocks : (h : Option Bool) (files : Files) (blocks loops : List ℕ) → has_blocks files ≡ true → wanted_by (setting_stage h OnlyBlocks blocks []) ≡ Nothing → setting_stage h files blocks loops ≡ setting_stage h OnlyBlocks blocks []
unfolding blocks_stage loops_stage
in_turn_blocks h files blocks loops has e = go h e
  where
    stage : (headerRow : Bool) → wanted_by (blocks_stage headerRow OnlyBlocks blocks []) ≡ Nothing → blocks_stage headerRow files blocks loops ≡ blocks_stage headerRow OnlyBlocks blocks []
    stage headerRow q = rw has (ended (block_reading headerRow blocks).end q)
      where
        ended : (y : End) → wanted_by (of_end Blocks (refusal_at Loops 107 2) y) ≡ Nothing
            → of_end Blocks (loops_stage headerRow files loops (routine_of (block_reading headerRow blocks).rows)) y ≡ of_end Blocks (refusal_at Loops 107 2) y
        ended (table.all first) q = absurd (cc)
        ended (table.refused fault) q = refl

    go : (h : Option Bool) → wanted_by (setting_stage h OnlyBlocks blocks []) ≡ Nothing → setting_stage h files blocks loops ≡ setting_stage h OnlyBlocks blocks []
    go (Some headerRow) q = stage headerRow q
    go None q = refl

no_blocks : (h : Option Bool) (blocks loops : List ℕ) → setting_stage h Neither blocks loops ≡ setting_stage h Neither [] []
unfolding blocks_stage
no_blocks (Some headerRow) blocks loops = refl
no_blocks None blocks loops = refl

no_loops_lem : (h : Option Bool) (blocks loops : List ℕ) → setting_stage h OnlyBlocks blocks loops ≡ setting_stage h OnlyBlocks blocks []
unfolding blocks_stage loops_stage
no_loops_lem (Some headerRow) blocks loops = refl
no_loops_lem None blocks loops = refl

-- THEOREM: the order in which the program opens its files gives the outcome.
pub in_turn_lem : (setting blocks loops : List ℕ) → InTurn setting blocks loops
unfolding outcome_of
in_turn_lem setting blocks loops = record {
  by_setting = λ e files. in_turn_neither (header_of setting) files blocks loops e;
  by_blocks = λ e files has. in_turn_blocks (header_of setting) files blocks loops has e;
  no_blocks = no_blocks (header_of setting) blocks loops;
  no_loops_lem = no_loops_lem (header_of setting) blocks loops;
}
