-- The number, the place and the values that document 01 gives each reply to a walk.
use Rattle.std.specs.Prelude.{ℕ, List, [], ◌∷◌, Result, Ok, Err}
use Rattle.wcet.specs.Table.{Routine}
use Rattle.wcet.specs.Rules.{Reply, accepted, refused, check}
use Rattle.wcet.specs.Walk.{Walked, walked, length_rule, walk_blocks}
use Rattle.nesting.specs.Answers.{refusal}
use Rattle.stepping.specs.Step.{run_refusal}
use Rattle.walk.specs.declared.Walked.{Walked as WalkedValues}
use Rattle.walk.specs.declared.WalkFault.{WalkFault}
use Rattle.walk.specs.declared.WalkFault.TheVariants.{Structure, Run, OverLimit}

-- 201 to 207 are the refusals of the structure check; 301 to 303, 311, 312 and 314 are those of a run
abbrev pub meaning : Result WalkedValues WalkFault → Reply Walked
meaning (Ok w) = accepted (record { total = w.cost; steps = w.steps })
meaning (Err (Structure f)) = refusal f
meaning (Err (Run f)) = run_refusal f
meaning (Err (OverLimit i)) = refused 313 i

-- the definition's reply to a walk after 201 to 207
abbrev pub reply_to_walk : Routine → List ℕ → Reply Walked
reply_to_walk t w = check (length_rule w ∷ []) (walk_blocks t w (accepted (walked t w)))
