-- The reply of the whole walk from what is looked at in turn: the tables, the blocks. Assumes nothing.
use Rattle.std.proofs.Common.{◌≡◌, sym, ◌∙◌, List, [], ◌∷◌, ℕ, Result, Ok, Err, IsErrAnd}
use Rattle.std.proofs.lemmas.Result.{err_from_is_err_and}
use Rattle.wcet.specs.Table.{Routine}
use Rattle.wcet.specs.Rules.{Reply, accepted, structure_rules}
use Rattle.wcet.specs.Walk.{Walked, walked, length_rule, walk_blocks, walk_reply}
use Rattle.wcet.specs.Claim.{WalkChecked}
use Rattle.wcet.proofs.Replies.{past_all}
use Rattle.wcet.proofs.Walks.{walk_checked}
use Rattle.nesting.specs.Answers.{refusal, StructureChecked}
use Rattle.nesting.specs.declared.StructureFault.{StructureFault}
use Rattle.nesting.proofs.Chain.{refusal_stands, sound_holds}
use Rattle.stepping.specs.Step.{run_refusal}
use Rattle.stepping.specs.declared.RunFault.{RunFault}
use Rattle.walk.specs.declared.Walked.{Walked as WalkedValues}
use Rattle.walk.specs.declared.WalkFault.{WalkFault}
use Rattle.walk.specs.declared.WalkFault.TheVariants.{Structure, Run}
use Rattle.walk.specs.Reply.{meaning, reply_to_walk}

-- a fault of the run is handed on as a fault of the walk
pub handed_on : {x : Reply Walked} (r : Result WalkedValues WalkFault) (f : RunFault) → IsErrAnd r (λ e. e ≡ Run f) → run_refusal f ≡ x → meaning r ≡ x
handed_on r f k e = let p = err_from_is_err_and r k in rw (p.1, p.2) e

module _ (t : Routine) (w : List ℕ) where
  -- the tables are refused
  pub structure_refused : (r : Result WalkedValues WalkFault) (f : StructureFault) → IsErrAnd r (λ e. e ≡ Structure f) → StructureChecked t (Err f) → WalkChecked t w (meaning r)
  unfolding walk_reply
  structure_refused r f k checked =
      let p = err_from_is_err_and r k in
      rw (p.1, p.2) (walk_checked t w (refusal f) (refusal_stands t f checked (length_rule w ∷ []) (walk_blocks t w (accepted (walked t w)))))

  -- the tables pass: the reply is that to the blocks
  pub blocks_checked : (sets : List ℕ) → StructureChecked t (Ok sets) → (r : Result WalkedValues WalkFault) → meaning r ≡ reply_to_walk t w → WalkChecked t w (meaning r)
  unfolding walk_reply
  blocks_checked sets checked r e =
      walk_checked t w (meaning r) (e ∙ sym (past_all (structure_rules t) (length_rule w ∷ []) (walk_blocks t w (accepted (walked t w))) (sound_holds t sets checked)))
