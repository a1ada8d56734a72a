-- The number, the place and the value that document 02, §7, gives each reply to a recording, and what is promised of the tallies and of the lent
-- columns.
use Rattle.std.specs.Prelude.{ℕ, ◌-◌, ◌<◌, ◌≡◌, List, [], ◌∷◌, length, get_or, Result, Ok, Err}
use Rattle.wcet.specs.Table.{Routine, loop_count}
use Rattle.wcet.specs.Rules.{Reply, accepted, refused, check}
use Rattle.wcet.specs.Walk.{length_rule}
use Rattle.wcet.specs.Tally.{stays, greatest, recording_blocks}
use Rattle.nesting.specs.Answers.{refusal}
use Rattle.stepping.specs.Step.{run_refusal}
use Rattle.tallies.specs.declared.LoopTally.{LoopTally}
use Rattle.tallies.specs.Tally.{tally_of}
use Rattle.tally.specs.declared.TallyFault.{TallyFault}
use Rattle.tally.specs.declared.TallyFault.TheVariants.{Structure, Columns, Run}

-- 201 to 207 are the refusals of the structure check; 301 to 303, 311, 312 and 314 are those of a run
abbrev pub meaning : Result ℕ TallyFault → Reply ℕ
meaning (Ok steps) = accepted steps
meaning (Err (Structure f)) = refusal f
meaning (Err Columns) = refused 421 0
meaning (Err (Run f)) = run_refusal f

-- the definition's reply to a recording after 421
abbrev pub reply_to_recording : Routine → List ℕ → Reply ℕ
reply_to_recording t w = check (length_rule w ∷ []) (recording_blocks t w (accepted (length w - 1)))

-- the tally of each loop is that of the list w
pub record SeenIn (t : Routine) (w : List ℕ) (tallies : List LoopTally) : Type 0 where
  pub stays_are : (l : ℕ) → l < loop_count t → (tally_of tallies l).stays ≡ stays t l w
  pub greatest_are : (l : ℕ) → l < loop_count t → (tally_of tallies l).greatest ≡ greatest t l w

-- the answer to the recording w over tables that keep 201 to 207: the tallies where w is accepted, and else the definition's refusal
abbrev pub Follows : Routine → List ℕ → Result (List LoopTally) TallyFault → Type 0
Follows t w (Ok tallies) = (accepted (length w - 1) ≡ reply_to_recording t w) × SeenIn t w tallies
Follows t w (Err f) = meaning (Err f) ≡ reply_to_recording t w

-- a run's answer with the tallies that it has written
abbrev pub given : Result Unit TallyFault → List LoopTally → Result (List LoopTally) TallyFault
given (Ok _) tallies = Ok tallies
given (Err f) _ = Err f

-- the two columns have the first m of these tallies
pub record Filled (tallies : List LoopTally) (m : ℕ) (ss gs : List ℕ) : Type 0 where
  pub stays_sized : length ss ≡ m
  pub greatest_sized : length gs ≡ m
  pub each_stays : (l : ℕ) → l < m → get_or ss l 0 ≡ (tally_of tallies l).stays
  pub each_greatest : (l : ℕ) → l < m → get_or gs l 0 ≡ (tally_of tallies l).greatest
