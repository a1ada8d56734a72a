-- What each exported function promises, from its answer in the fields of the reply. Assumes nothing.
use mathlib.Core.Path.{◌≡◌, refl, sym, ◌∙◌, ap, subst}
use mathlib.Core.List.{List}
use mathlib.Core.Bool.{Bool}
use Prim.Native.Nat.{ℕ, ◌≤◌, min}
use native.Mathlib.Omega.{arith}
use lib.IntN.{ℤ, pos}
use lib.ListN.{length}
use Rattle.integers.proofs.Laws.{ints}
use Rattle.wcet.specs.Table.{Routine}
use Rattle.limits.specs.Limits.{longest_walk}
use Rattle.wcet.specs.Rules.{Reply as Answer, accepted, refused, table_reply}
use Rattle.wcet.specs.Walk.{Walked, walked, walk_reply}
use Rattle.wcet.specs.Shortest.{LowCertificate, shortest_reply}
use Rattle.wcet.specs.Claim.{WcetBound, Checked, WalkChecked, ShortestBound, ShortestChecked}
use Rattle.wcet.proofs.Walks.{walks_exactly}
use Rattle.nesting.specs.Answers.{refusal}
use Rattle.nesting.specs.declared.StructureFault.{StructureFault}
use Rattle.nesting.specs.declared.StructureFault.TheVariants.{Sizes, Loop, Block, Header, Depth, EntryOrExit, PastHeader}
use Rattle.std.specs.Prelude.{Result, Ok, Err}
use Rattle.certificate.specs.Answers.{table_meaning}
use Rattle.certificate.specs.declared.TableFault.{TableFault}
use Rattle.certificate.specs.declared.TableFault.TheVariants as table
use Rattle.optimum.specs.Replies.{solve_reply, figures_after, multipliers_after, Optimum, Solved}
use Rattle.shortest.specs.Answers.{shortest_meaning}
use Rattle.shortest.specs.declared.ShortestFault.{ShortestFault}
use Rattle.shortest.specs.declared.ShortestFault.TheVariants as shortest
use Rattle.solver.specs.Answers.{solve_meaning}
use Rattle.solver.specs.declared.SolveFault.{SolveFault}
use Rattle.solver.specs.declared.SolveFault.TheVariants as solve
use Rattle.mps.specs.Reply.{mps_reply, buffer_after, Exported}
use Rattle.writer.specs.Answers.{mps_meaning}
use Rattle.writer.specs.declared.MpsFault.{MpsFault}
use Rattle.writer.specs.declared.MpsFault.TheVariants as mps
use Rattle.wcet.specs.Tally.{tally_reply, stays_after, greatest_after, Tallied}
use Rattle.tally.specs.Tally.{meaning as tallyMeaning}
use Rattle.tally.specs.declared.TallyFault.{TallyFault}
use Rattle.tally.specs.declared.TallyFault.TheVariants as tally
use Rattle.vcd.specs.Recording.{recording_reply, counted, Recorded}
use Rattle.recordings.specs.Answers.{vcd_meaning}
use Rattle.recordings.specs.declared.VcdFault.{VcdFault}
use Rattle.walk.specs.Reply.{meaning}
use Rattle.walk.specs.declared.Walked.{Walked as WalkedValues}
use Rattle.stepping.specs.Step.{run_refusal}
use Rattle.stepping.specs.declared.RunFault.{RunFault}
use Rattle.stepping.specs.declared.RunFault.TheVariants as run
use Rattle.walk.specs.declared.WalkFault.{WalkFault}
use Rattle.walk.specs.declared.WalkFault.TheVariants as walk
use Rattle.tables.specs.Columns.{BlockColumns, LoopColumns, shortest_block, shortest_loop, BlocksRead, LoopsRead}
use Rattle.tables.specs.Table.{block_table, loop_table}
use Rattle.tables.proofs.Whole.{blocks_short, loops_short}
use Rattle.limits.specs.Limits.{most_blocks, most_loops}
use Rattle.tables.specs.declared.Rows.{Rows}
use Rattle.tables.specs.declared.ReadFault.{ReadFault}
use Rattle.replies.specs.declared.Reply.{Reply}
use Rattle.replies.specs.Fields.{of_tables, of_count, of_walk, of_reading, PlaceFits, ValueFits}
use Rattle.replies.proofs.Answers.{same_fault, same_count_fault, same_run}
use Rattle.rolkeyda.specs.Replies.{TablesReplied, CertificateReplied, TablesSolved, TextReplied, WalkReplied, RecordingReplied, DumpReplied, BlocksReplied, LoopsReplied}
use Rattle.rolkeyda.proofs.Ranges.{Small, table_place, shortest_place, solve_place, text_place, text_length, walk_place, Finished, walk_finished, tally_place, tally_steps, vcd_place, vcd_count, reading_small}

-- ---- 201 to 207, and 301 to 314

-- the number of a fault is not 0
fault_number : (f : StructureFault) → (of_tables (refusal f)).number ≡ 0 → ⊥
fault_number Sizes e = omega arith
fault_number (Loop l) e = omega arith
fault_number (Block u) e = omega arith
fault_number (Header l) e = omega arith
fault_number (Depth l) e = omega arith
fault_number (EntryOrExit u) e = omega arith
fault_number (PastHeader u) e = omega arith

-- the number of a run's fault is not 0
run_number : (f : RunFault) → (of_count (run_refusal f)).number ≡ 0 → ⊥
run_number run.Length e = omega arith
run_number (run.NoBlock i) e = omega arith
run_number run.NotEntry e = omega arith
run_number (run.AfterExit i) e = omega arith
run_number (run.NoEdge i) e = omega arith
run_number (run.Unfinished n) e = omega arith

-- ---- tables

-- a place that is at most the longest walk fits
place_fits : (x y : Answer ℤ) → x ≡ y → ((n p : ℕ) → y ≡ refused n p → p ≤ longest_walk) → PlaceFits (of_tables x)
place_fits (accepted b) y e most = record { place = omega arith }
place_fits (refused n p) y e most = record { place = omega (arith, most n p (sym e)) }

module _ (t : Routine) (a : Result ℤ TableFault) (C : Checked t (table_meaning a)) where
  pub table_fits : PlaceFits (of_tables (table_meaning a))
  table_fits = place_fits (table_meaning a) (table_reply t) C.replied (table_place t)

  pub tables_replied : (r : Reply) → r ≡ of_tables (table_meaning a) → TablesReplied t r
  tables_replied r e = rw e record { replied = ap of_tables C.replied; bounded = go a C.bounded }
    where
      go : (x : Result ℤ TableFault) → ((b : ℤ) → table_meaning x ≡ accepted b → WcetBound t b) → (of_tables (table_meaning x)).number ≡ 0 → WcetBound t (of_tables (table_meaning x)).value
      go (Ok b) B z = B b refl
      go (Err (table.Structure f)) B z = absurd (fault_number f z)
      go (Err (table.Inequality u)) B z = absurd (omega arith)
      go (Err table.UndeclaredLoop) B z = absurd (omega arith)

-- ---- a second certificate

module _ (t : Routine) (c : LowCertificate) (a : Result ℤ ShortestFault) (C : ShortestChecked t c (shortest_meaning a)) where
  pub shortest_fits : PlaceFits (of_tables (shortest_meaning a))
  shortest_fits = place_fits (shortest_meaning a) (shortest_reply t c) C.replied (shortest_place t c)

  pub certificate_replied : (r : Reply) → r ≡ of_tables (shortest_meaning a) → CertificateReplied t c r
  certificate_replied r e = rw e record { replied = ap of_tables C.replied; bounded = go a C.bounded }
    where
      go : (x : Result ℤ ShortestFault) → ((b : ℤ) → shortest_meaning x ≡ accepted b → ShortestBound t c b) → (of_tables (shortest_meaning x)).number ≡ 0 → ShortestBound t c (of_tables (shortest_meaning x)).value
      go (Ok b) B z = B b refl
      go (Err (shortest.Structure f)) B z = absurd (fault_number f z)
      go (Err shortest.UndeclaredLoop) B z = absurd (omega arith)
      go (Err (shortest.Loop l)) B z = absurd (omega arith)
      go (Err (shortest.Figure u)) B z = absurd (omega arith)
      go (Err (shortest.Inequality u)) B z = absurd (omega arith)

-- ---- the solver

module _ (t : Routine) (a : Result ℤ SolveFault) (fs : List ℤ) (ks : List ℕ) (C : Solved t (solve_meaning a) fs ks) where
  pub solve_fits : PlaceFits (of_tables (solve_meaning a))
  solve_fits = place_fits (solve_meaning a) (solve_reply t) C.replied (solve_place t)

  pub tables_solved : (r : Reply) → r ≡ of_tables (solve_meaning a) → TablesSolved t r fs ks
  tables_solved r e = rw e record {
    replied = ap of_tables C.replied;
    figures = C.figures ∙ ap (figures_after t) C.replied;
    multipliers = C.multipliers ∙ ap (multipliers_after t) C.replied;
    optimum = go a C.optimum;
  }
    where
      go : (x : Result ℤ SolveFault) → ((b : ℤ) → solve_meaning x ≡ accepted b → Optimum t fs ks b) → (of_tables (solve_meaning x)).number ≡ 0 → Optimum t fs ks (of_tables (solve_meaning x)).value
      go (Ok b) B z = B b refl
      go (Err (solve.Structure f)) B z = absurd (fault_number f z)
      go (Err solve.UndeclaredLoop) B z = absurd (omega arith)
      go (Err (solve.NoPath u)) B z = absurd (omega arith)
      go (Err solve.Multiplier) B z = absurd (omega arith)
      go (Err solve.Figure) B z = absurd (omega arith)

-- ---- the writer

module _ (t : Routine) (before : List ℕ) (a : Result ℕ MpsFault) (after : List ℕ) (C : Exported t before (mps_meaning a) after) where
  pub text_small : PlaceFits (of_count (mps_meaning a)) × ValueFits (of_count (mps_meaning a))
  text_small = go (mps_meaning a) C.replied
    where
      go : (x : Answer ℕ) → x ≡ mps_reply t (length before) → PlaceFits (of_count x) × ValueFits (of_count x)
      go (accepted n) e = (record { place = omega arith }, record { value = omega (ints, text_length t (length before) n (sym e)) })
      go (refused n p) e = (record { place = omega (arith, text_place t (length before) n p (sym e)) }, record { value = omega ints })

  pub text_replied : (r : Reply) → r ≡ of_count (mps_meaning a) → TextReplied t before r after
  text_replied r e = rw e record {
    replied = ap of_count C.replied;
    buffer = C.buffer ∙ ap (buffer_after t before) C.replied;
    reads = λ z n q. C.reads n (length_of a z n q);
    apart = λ z. C.apart (number_of a) (length_of a z (number_of a) (value_of a z));
  }
    where
      number_of : Result ℕ MpsFault → ℕ
      number_of (Ok n) = n
      number_of (Err (mps.Structure f)) = 0
      number_of (Err mps.UndeclaredLoop) = 0
      number_of (Err mps.NoRoom) = 0

      text_number : (f : StructureFault) → (of_count (refusal f)).number ≡ 0 → ⊥
      text_number f z = fault_number f (ap (λ (r : Reply). r.number) (same_count_fault f) ∙ z)

      value_of : (x : Result ℕ MpsFault) → (of_count (mps_meaning x)).number ≡ 0 → (of_count (mps_meaning x)).value ≡ pos (number_of x)
      value_of (Ok n) z = refl
      value_of (Err (mps.Structure f)) z = absurd (text_number f z)
      value_of (Err mps.UndeclaredLoop) z = absurd (omega arith)
      value_of (Err mps.NoRoom) z = absurd (omega arith)

      length_of : (x : Result ℕ MpsFault) → (of_count (mps_meaning x)).number ≡ 0 → (n : ℕ) → (of_count (mps_meaning x)).value ≡ pos n → mps_meaning x ≡ accepted n
      length_of (Ok k) z n q = let same : k ≡ n = omega (ints, q) in ap accepted same
      length_of (Err (mps.Structure f)) z n q = absurd (text_number f z)
      length_of (Err mps.UndeclaredLoop) z n q = absurd (omega arith)
      length_of (Err mps.NoRoom) z n q = absurd (omega arith)

-- ---- walks

record Acceptance (y : Answer Walked) : Type 0 where
  walked : Walked
  is : y ≡ accepted walked

module _ (t : Routine) (w : List ℕ) (a : Result WalkedValues WalkFault) (C : WalkChecked t w (meaning a)) where
  walk_small : Small (of_walk (meaning a))
  walk_small = go (meaning a) C.replied
    where
      go : (x : Answer Walked) → x ≡ walk_reply t w → Small (of_walk x)
      go (accepted x) e =
          let F : Finished t w x = walk_finished t w x (sym e) in
          record { place = record { place = omega arith }; value = record { value = omega (ints, F.most) } }
      go (refused n p) e = record { place = record { place = omega (arith, walk_place t w n p (sym e)) }; value = record { value = omega ints } }

  pub walk_fits : PlaceFits (of_walk (meaning a)) × ValueFits (of_walk (meaning a))
  walk_fits = (walk_small.place, walk_small.value)

  -- an answer whose number is 0 is an acceptance
  accepting : (x : Result WalkedValues WalkFault) → (of_walk (meaning x)).number ≡ 0 → (y : Answer Walked) → y ≡ meaning x → Acceptance y
  accepting (Ok x) e y q = record { walked = record { total = x.cost; steps = x.steps }; is = q }
  accepting (Err (walk.Structure f)) e y q = absurd (fault_number f (ap (λ (r : Reply). r.number) (same_fault f) ∙ e))
  accepting (Err (walk.Run f)) e y q = absurd (run_number f (ap (λ (r : Reply). r.number) (same_run f) ∙ e))
  accepting (Err (walk.OverLimit i)) e y q = absurd (omega arith)

  finished : (x : Acceptance (meaning a)) → Finished t w x.walked
  finished x = walk_finished t w x.walked (sym C.replied ∙ x.is)

  pub walk_replied : (r : Reply) → r ≡ of_walk (meaning a) → WalkReplied t w r
  walk_replied r e = rw e record {
    replied = ap of_walk C.replied;
    accepts = λ h k. (
      λ z. (finished (accepting a z (meaning a) refl)).run,
      λ f. ap (λ (x : Answer Walked). (of_walk x).number) (C.replied ∙ (walks_exactly t w h k (walked t w)).1 (f, refl)),
    );
    cost = λ z.
        let x : Acceptance (meaning a) = accepting a z (meaning a) refl in
        let q : meaning a ≡ accepted (walked t w) = x.is ∙ ap accepted (finished x).same in
        (ap (λ (y : Answer Walked). (of_walk y).value) q, ap (λ (y : Answer Walked). (of_walk y).more) q);
  }

-- ---- recordings

module _ (t : Routine) (w stayed visited : List ℕ) (a : Result ℕ TallyFault) (ss gs : List ℕ) (C : Tallied t w stayed visited (tallyMeaning a) ss gs) where
  pub tally_small : PlaceFits (of_count (tallyMeaning a)) × ValueFits (of_count (tallyMeaning a))
  tally_small = go (tallyMeaning a) C.replied
    where
      go : (x : Answer ℕ) → x ≡ tally_reply t w stayed visited → PlaceFits (of_count x) × ValueFits (of_count x)
      go (accepted n) e = (record { place = omega arith }, record { value = omega (ints, tally_steps t w stayed visited n (sym e)) })
      go (refused n p) e = (record { place = omega (arith, tally_place t w stayed visited n p (sym e)) }, record { value = omega ints })

  pub tally_replied : (r : Reply) → r ≡ of_count (tallyMeaning a) → RecordingReplied t w stayed visited r ss gs
  tally_replied r e = rw e record {
    replied = ap of_count C.replied;
    stays_column = C.stays_column ∙ ap (stays_after t w stayed) C.replied;
    greatest_column = C.greatest_column ∙ ap (greatest_after t w visited) C.replied;
    numbers = λ z. let k = accepting a z in C.numbers k.0 k.1;
    limits = λ z most. let k = accepting a z in C.limits k.0 k.1 most;
  }
    where
      accepting : (x : Result ℕ TallyFault) → (of_count (tallyMeaning x)).number ≡ 0 → (k : ℕ) × (tallyMeaning x ≡ accepted k)
      accepting (Ok k) z = (k, refl)
      accepting (Err (tally.Structure f)) z = absurd (fault_number f (ap (λ (r : Reply). r.number) (same_count_fault f) ∙ z))
      accepting (Err tally.Columns) z = absurd (omega arith)
      accepting (Err (tally.Run f)) z = absurd (run_number f z)

-- ---- recordings as texts

module _ (t : Routine) (s named before : List ℕ) (a : Result ℕ VcdFault) (buffer : List ℕ) (C : Recorded t s named before (vcd_meaning a) buffer) where
  pub vcd_small : PlaceFits (of_count (vcd_meaning a)) × ValueFits (of_count (vcd_meaning a))
  vcd_small = rw C.replied (go (recording_reply t s named (length before)) refl)
    where
      go : (x : Answer (List ℕ)) → recording_reply t s named (length before) ≡ x → PlaceFits (of_count (counted x)) × ValueFits (of_count (counted x))
      go (accepted vs) e = (record { place = omega arith }, record { value = omega (ints, vcd_count t s named (length before) vs e) })
      go (refused n p) e = (record { place = omega (arith, vcd_place t s named (length before) n p e) }, record { value = omega ints })

  pub vcd_replied : (r : Reply) → r ≡ of_count (vcd_meaning a) → DumpReplied t s named before r buffer
  vcd_replied r e = rw e record { replied = ap of_count C.replied; buffer = C.buffer; roomy = λ l z. go (vcd_meaning a) (C.roomy l) z }
    where
      go : (x : Answer ℕ) → ((place : ℕ) → x ≡ refused 433 place → ⊥) → (of_count x).number ≡ 433 → ⊥
      go (accepted n) h z = omega arith
      go (refused n p) h z = h p (rw z)

-- ---- readings

pub blocks_fit : (s : List ℕ) (headerRow : Bool) {old new : BlockColumns} {a : Result Rows ReadFault} → BlocksRead s headerRow old a new → PlaceFits (of_reading a) × ValueFits (of_reading a)
blocks_fit s headerRow {old} B = let S = reading_small (block_table (shortest_block old) headerRow s) (blocks_short (min (shortest_block old) most_blocks) headerRow s) (omega arith) B.reply in (S.place, S.value)

pub loops_fit : (s : List ℕ) (headerRow : Bool) {old new : LoopColumns} {a : Result Rows ReadFault} → LoopsRead s headerRow old a new → PlaceFits (of_reading a) × ValueFits (of_reading a)
loops_fit s headerRow {old} B = let S = reading_small (loop_table (shortest_loop old) headerRow s) (loops_short (min (shortest_loop old) most_loops) headerRow s) (omega arith) B.reply in (S.place, S.value)

pub blocks_replied : (s : List ℕ) (headerRow : Bool) {old new : BlockColumns} {a : Result Rows ReadFault} {r : Reply} → BlocksRead s headerRow old a new → r ≡ of_reading a → BlocksReplied s headerRow old r new
blocks_replied s headerRow {old} {new} B q = record { replied = q ∙ ap of_reading B.reply; read = subst (λ (x : Result Rows ReadFault). BlocksRead s headerRow old x new) B.reply B }

pub loops_replied : (s : List ℕ) (headerRow : Bool) {old new : LoopColumns} {a : Result Rows ReadFault} {r : Reply} → LoopsRead s headerRow old a new → r ≡ of_reading a → LoopsReplied s headerRow old r new
loops_replied s headerRow {old} {new} B q = record { replied = q ∙ ap of_reading B.reply; read = subst (λ (x : Result Rows ReadFault). LoopsRead s headerRow old x new) B.reply B }
