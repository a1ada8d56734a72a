-- What each exported function promises of its reply.
use Rattle.std.specs.Prelude.{ℕ, ◌-◌, ◌≤◌, ◌<◌, ◌≡◌, ◌↔◌, Bool, List, ℤ, pos, length, get_or, take, Result}
use Rattle.std.proofs.Math.Option.{some}
use Rattle.wcet.specs.Table.{Routine, loop_count}
use Rattle.wcet.specs.Rules.{structure_rules, table_reply}
use Rattle.wcet.specs.Run.{run_cost}
use Rattle.limits.specs.Limits.{longest_walk}
use Rattle.wcet.specs.Walk.{walk_reply}
use Rattle.wcet.specs.Shortest.{LowCertificate, shortest_reply}
use Rattle.wcet.specs.Claim.{WcetBound, AllHold, FinishedRun, ShortestBound}
use Rattle.wcet.specs.Tally.{tally_reply, stays_after, greatest_after, LimitsSeen, NumbersSeen}
use Rattle.optimum.specs.Replies.{solve_reply, figures_after, multipliers_after, Optimum}
use Rattle.mps.specs.Program.{program_of}
use Rattle.mps.specs.Mps.{read_mps}
use Rattle.mps.specs.Claim.{named, NamesApart}
use Rattle.mps.specs.Reply.{mps_reply, buffer_after}
use Rattle.vcd.specs.Recording.{recording_reply, counted, buffer_after as dumpBuffer, most_changes}
use Rattle.tables.specs.Table.{block_table, loop_table}
use Rattle.tables.specs.Columns.{reply_of, BlockColumns, shortest_block, BlocksRead, LoopColumns, shortest_loop, LoopsRead}
use Rattle.tables.specs.declared.Rows.{Rows}
use Rattle.tables.specs.declared.ReadFault.{ReadFault}
use Rattle.replies.specs.declared.Reply.{Reply}
use Rattle.replies.specs.Fields.{of_tables, of_count, of_walk, of_reading}

-- Demand 2 and demand 3 of the reply to a pair of tables.
pub record TablesReplied (t : Routine) (r : Reply) : Type 0 where
  pub replied : r ≡ of_tables (table_reply t)
  pub bounded : r.number ≡ 0 → WcetBound t r.value

-- Document 02, §10, of the reply to a second certificate: where the number is 0, no finished run with at least the least visits in every stay
-- costs less than the value.
pub record CertificateReplied (t : Routine) (c : LowCertificate) (r : Reply) : Type 0 where
  pub replied : r ≡ of_tables (shortest_reply t c)
  pub bounded : r.number ≡ 0 → ShortestBound t c r.value

-- Document 02, §3: the reply of the solver and both columns after the call. Where the number is 0, they are the remade columns and the value is
-- their bound, and no certificate gives less.
pub record TablesSolved (t : Routine) (r : Reply) (fs : List ℤ) (ks : List ℕ) : Type 0 where
  pub replied : r ≡ of_tables (solve_reply t)
  pub figures : fs ≡ figures_after t (solve_reply t)
  pub multipliers : ks ≡ multipliers_after t (solve_reply t)
  pub optimum : r.number ≡ 0 → Optimum t fs ks r.value

-- Document 02, §5: the reply of the writer and the buffer after the call. Where the number is 0, the first bytes of the buffer, as many as the
-- value says, read as the program, and no two of its rows or columns share a name.
pub record TextReplied (t : Routine) (before : List ℕ) (r : Reply) (after : List ℕ) : Type 0 where
  pub replied : r ≡ of_count (mps_reply t (length before))
  pub buffer : after ≡ buffer_after t before (mps_reply t (length before))
  pub reads : r.number ≡ 0 → (n : ℕ) → r.value ≡ pos n → read_mps (take n after) ≡ some (named (program_of t))
  pub apart : r.number ≡ 0 → NamesApart t

-- Demand 2 of the reply to a walk: "A walk within the length limit, over tables that keep those ranges and rules, is accepted exactly when
-- it is a finished counted run, with its true cost".
pub record WalkReplied (t : Routine) (w : List ℕ) (r : Reply) : Type 0 where
  pub replied : r ≡ of_walk (walk_reply t w)
  pub accepts : AllHold (structure_rules t) → length w ≤ longest_walk → (r.number ≡ 0) ↔ FinishedRun t w
  pub cost : r.number ≡ 0 → (r.value ≡ pos (run_cost t w)) × (r.more ≡ length w - 1)

-- Document 02, §7: the reply to a recording and both lent columns after the call. Where the number is 0 and the greatest numbers are at most
-- 65,535, they are good for limits, with 1 in place of 0: the same walk is accepted, and with one of 2 or more lowered, not below 1, it is 313.
pub record RecordingReplied (t : Routine) (w stayed visited : List ℕ) (r : Reply) (ss gs : List ℕ) : Type 0 where
  pub replied : r ≡ of_count (tally_reply t w stayed visited)
  pub stays_column : ss ≡ stays_after t w stayed (tally_reply t w stayed visited)
  pub greatest_column : gs ≡ greatest_after t w visited (tally_reply t w stayed visited)
  pub numbers : r.number ≡ 0 → NumbersSeen t w
  pub limits : r.number ≡ 0 → ((l : ℕ) → l < loop_count t → get_or gs l 0 ≤ 65535) → LimitsSeen t w gs

-- Document 02, §8: the reply to a recording's text s and the buffer after the call. A buffer of `most_changes` places gets no 433.
pub record DumpReplied (t : Routine) (s named before : List ℕ) (r : Reply) (after : List ℕ) : Type 0 where
  pub replied : r ≡ of_count (counted (recording_reply t s named (length before)))
  pub buffer : after ≡ dumpBuffer before (recording_reply t s named (length before))
  pub roomy : most_changes ≤ length before → r.number ≡ 433 → ⊥

-- Demand 1 of the reply to a text: it is the reply to what the text says, and the columns are as the reader promises.
abbrev pub blocks_answer : List ℕ → Bool → BlockColumns → Result Rows ReadFault
blocks_answer s headerRow columns = reply_of (block_table (shortest_block columns) headerRow s)

pub record BlocksReplied (s : List ℕ) (headerRow : Bool) (old : BlockColumns) (r : Reply) (new : BlockColumns) : Type 0 where
  pub replied : r ≡ of_reading (blocks_answer s headerRow old)
  pub read : BlocksRead s headerRow old (blocks_answer s headerRow old) new

abbrev pub loops_answer : List ℕ → Bool → LoopColumns → Result Rows ReadFault
loops_answer s headerRow columns = reply_of (loop_table (shortest_loop columns) headerRow s)

pub record LoopsReplied (s : List ℕ) (headerRow : Bool) (old : LoopColumns) (r : Reply) (new : LoopColumns) : Type 0 where
  pub replied : r ≡ of_reading (loops_answer s headerRow old)
  pub read : LoopsRead s headerRow old (loops_answer s headerRow old) new
