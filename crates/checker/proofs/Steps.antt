-- The steps of the program: a file that is not wanted, one that cannot be read, one that is read. Assumes nothing.
use mathlib.Core.Path.{◌≡◌, refl, sym, ◌∙◌, ap}
use mathlib.Core.Bool.{Bool, true, false}
use mathlib.Core.List.{List, []}
use Prim.Native.Nat.{ℕ}
use lib.IntN.{pos}
use lib.ListN.{take}
use Rattle.streams.specs.Calls.{FileRead, AllRead, WroteTo}
use Rattle.std.proofs.Common.{Option, Some, None}
use Rattle.std.specs.Option.{unwrap_or, is_some}
use Rattle.lists.specs.Bytes.{bytes}
use Rattle.report.specs.Line.{line_of}
use Rattle.stages.specs.Stages.{Outcome, header_of, blocks_stage, setting_stage, outcome_of, wanted_by, setting_room, text_room}
use Rattle.stages.specs.declared.Files.TheVariants.{Neither, Blocks as OnlyBlocks, Both}
use Rattle.stages.specs.declared.Wanted.{Wanted}
use Rattle.stages.specs.declared.Wanted.TheVariants.{Nothing, Blocks as BlockFile, Loops as LoopFile}
use Rattle.stages.proofs.Whole.{in_turn_lem}
use Rattle.checker.specs.Program.{is_blocks, is_loops, wants_loops, Came, LoopsJudged, FilesJudged, InputJudged, failure, Ran}

-- ---- which file is wanted

not_loops : (w : Wanted) → (w ≡ LoopFile → ⊥) → is_loops w ≡ false
not_loops Nothing h = refl
not_loops BlockFile h = refl
not_loops LoopFile h = absurd (h refl)

not_blocks : (w : Wanted) → (w ≡ BlockFile → ⊥) → is_blocks w ≡ false
not_blocks Nothing h = refl
not_blocks BlockFile h = absurd (h refl)
not_blocks LoopFile h = refl

-- where the blocks could not be read, the loops file is not wanted
no_loops_yet : (setting blocks : List ℕ) → Came (bytes "loops.csv") (wants_loops (outcome_of setting Neither blocks [])) false []
unfolding outcome_of blocks_stage
no_loops_yet setting blocks = go (header_of setting)
  where
    go : (h : Option Bool) → Came (bytes "loops.csv") (wants_loops (setting_stage h Neither blocks [])) false []
    go (Some headerRow) = (refl, refl)
    go None = (refl, refl)

-- An outcome p without the file, and what it waits for: w. `is` tells whether that is the file at `path`.
module _ (is : Wanted → Bool) (path : List ℕ) {o p : Outcome} (e : o ≡ p) {w : Wanted} (v : w ≡ wanted_by o) where
  same_want : is w ≡ is (wanted_by p)
  same_want = ap is (v ∙ ap wanted_by e)

  unopened : is w ≡ false → Came path (is (wanted_by p)) false []
  unopened f = rw (sym same_want ∙ f) (refl, refl)

  opened : is w ≡ true → (len : Option ℕ) (text : List ℕ) → FileRead path text_room len text → Came path (is (wanted_by p)) (is_some len) (take (unwrap_or len 0) text)
  opened f len text F = rw (sym same_want ∙ f) F.gave

-- ---- the loops file

module _ (setting blocks : List ℕ) {o : Outcome} (e : o ≡ outcome_of setting OnlyBlocks blocks []) {w : Wanted} (v : w ≡ wanted_by o) where
  pub loops_unwanted : (w ≡ LoopFile → ⊥) → LoopsJudged setting blocks o
  loops_unwanted h = record { readable = false; loops = []; came = unopened is_loops (bytes "loops.csv") e v (not_loops w h); outcome = e }

  module _ (f : w ≡ LoopFile) {r : Option ℕ} (text : List ℕ) (F : FileRead (bytes "loops.csv") text_room r text) where
    pub loops_unread : r ≡ None → LoopsJudged setting blocks o
    loops_unread z = record { readable = false; loops = take 0 text; came = opened is_loops (bytes "loops.csv") e v (ap is_loops f) None text (rw z at F); outcome = e ∙ sym (in_turn_lem setting blocks (take 0 text)).no_loops_lem }

    pub loops_read : {len : ℕ} {q : Outcome} {loops : List ℕ} → r ≡ Some len → loops ≡ take len text → q ≡ outcome_of setting Both blocks loops → LoopsJudged setting blocks q
    loops_read {len} z l t = record { readable = true; loops = take len text; came = opened is_loops (bytes "loops.csv") e v (ap is_loops f) (Some len) text (rw z at F); outcome = rw l at t }

-- ---- the blocks file

module _ (setting : List ℕ) {o : Outcome} (e : o ≡ outcome_of setting Neither [] []) {w : Wanted} (v : w ≡ wanted_by o) where
  pub blocks_unwanted : (w ≡ BlockFile → ⊥) → FilesJudged setting o
  blocks_unwanted h = record {
    blocks_given = false;
    blocks = [];
    loops_given = false;
    loops = [];
    blocks_came = unopened is_blocks (bytes "blocks.csv") e v (not_blocks w h);
    loops_came = no_loops_yet setting [];
    outcome = e;
  }

  module _ (f : w ≡ BlockFile) {r : Option ℕ} (text : List ℕ) (F : FileRead (bytes "blocks.csv") text_room r text) where
    pub blocks_unread : r ≡ None → FilesJudged setting o
    blocks_unread z = record {
      blocks_given = false;
      blocks = take 0 text;
      loops_given = false;
      loops = [];
      blocks_came = opened is_blocks (bytes "blocks.csv") e v (ap is_blocks f) None text (rw z at F);
      loops_came = no_loops_yet setting (take 0 text);
      outcome = e ∙ sym (in_turn_lem setting (take 0 text) []).no_blocks;
    }

    pub blocks_read : {len : ℕ} {q : Outcome} {blocks : List ℕ} → r ≡ Some len → blocks ≡ take len text → LoopsJudged setting blocks q → FilesJudged setting q
    blocks_read {len} {q} z l L =
        let J : LoopsJudged setting (take len text) q = rw l at L in
        record {
          blocks_given = true;
          blocks = take len text;
          loops_given = J.readable;
          loops = J.loops;
          blocks_came = opened is_blocks (bytes "blocks.csv") e v (ap is_blocks f) (Some len) text (rw z at F);
          loops_came = J.came;
          outcome = J.outcome;
        }

-- ---- the whole

pub input_judged : (r : Option ℕ) (line : List ℕ) {len : ℕ} {setting : List ℕ} {o : Outcome} → AllRead (pos 0) setting_room r line → len ≡ unwrap_or r 0 → setting ≡ take len line → FilesJudged setting o → InputJudged o
input_judged r line {len} {setting} A n e F =
    let said : setting ≡ take (unwrap_or r 0) line = rw n at e in
    record { readable = is_some r; setting = setting; said = rw said A.gave; files = F }

pub line_printed : (l : List ℕ) {s : List ℕ} {r : Bool} → s ≡ l → WroteTo (pos 1) s r → WroteTo (pos 1) l r
line_printed l e W = rw e at W

module _ {o : Outcome} (J : InputJudged o) {l : List ℕ} (e : l ≡ line_of o) where
  pub ran : {r : Bool} → WroteTo (pos 1) l r → r ≡ true → Ran r
  ran W t = record { outcome = o; judged = J; printed = rw e at W; complained = λ f. absurd (let z : true ≡ false = sym t ∙ f in cc) }

  pub ran_badly : {r q : Bool} → WroteTo (pos 1) l r → WroteTo (pos 2) failure q → Ran r
  ran_badly {r} {q} W C = record { outcome = o; judged = J; printed = rw e at W; complained = λ f. record { written = q; printed = C } }
