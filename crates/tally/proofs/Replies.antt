-- The reply to the whole recording from what is looked at in turn: the tables, the lent columns, the blocks; and what the lent columns hold then.
-- Assumes nothing.
use Rattle.std.proofs.Common.{◌≡◌, ◌≢◌, ◌⊎◌, refl, sym, ◌∙◌, ap, true, not, ◌&&◌, List, [], ◌∷◌, ℕ, ◌-◌, ◌≤◌, arith, eqb, eq-eqb, length, get_or, Result, Ok, Err, IsErrAnd}
use Rattle.std.proofs.lemmas.Result.{err_from_is_err_and}
use Rattle.std.proofs.lemmas.Bool.Decides.{nat_tests}
use Rattle.lists.proofs.Search.{tabulated, tabulate-at}
use Rattle.wcet.specs.Table.{Routine, loop_count}
use Rattle.wcet.specs.Rules.{Reply, accepted, refused, check, structure_rules}
use Rattle.wcet.specs.Walk.{length_rule}
use Rattle.wcet.specs.Tally.{stays, greatest, columns_rule, recording_blocks, tally_reply, stays_after, greatest_after, Tallied}
use Rattle.wcet.proofs.Replies.{decides, hands_on, past_all, passes}
use Rattle.wcet.proofs.Recordings.{limits_seen, numbers_seen}
use Rattle.nesting.specs.Answers.{refusal_of, StructureChecked}
use Rattle.nesting.specs.declared.StructureFault.{StructureFault}
use Rattle.nesting.proofs.Chain.{refusal_stands, sound_holds}
use Rattle.stepping.specs.Step.{run_refusal, run_refusal_of}
use Rattle.stepping.proofs.Along.{in_length}
use Rattle.stepping.specs.declared.RunFault.{RunFault}
use Rattle.tallies.specs.declared.LoopTally.{LoopTally}
use Rattle.tally.specs.declared.TallyFault.{TallyFault}
use Rattle.tally.specs.declared.TallyFault.TheVariants.{Structure, Columns, Run}
use Rattle.tally.specs.Tally.{meaning, reply_to_recording, Follows, given, Filled}

-- ---- a fault is a refusal

-- a refusal has a number and a place
record IsRefusal (r : Reply ℕ) : Type 0 where
  pub number : ℕ
  pub place : ℕ
  pub same : r ≡ refused number place

refuses : (f : TallyFault) → IsRefusal (meaning (Err f))
refuses (Structure f) = record { number = (refusal_of f).number; place = (refusal_of f).place; same = refl }
refuses Columns = record { number = 421; place = 0; same = refl }
refuses (Run f) = record { number = (run_refusal_of f).number; place = (run_refusal_of f).place; same = refl }

-- a fault of the run is handed on as a fault of the recording
pub handed_on : (t : Routine) (w : List ℕ) (r : Result Unit TallyFault) (tallies : List LoopTally) (f : RunFault) → IsErrAnd r (λ e. e ≡ Run f) → run_refusal f ≡ reply_to_recording t w
    → Follows t w (given r tallies)
handed_on t w r tallies f k e = let p = err_from_is_err_and r k in rw (p.1, p.2) e

-- ---- the whole

-- what the reply of the definition and the two columns promise of the numbers
module _ (t : Routine) (w stayed visited : List ℕ) where
  tallied : (r : Reply ℕ) (ss gs : List ℕ) → r ≡ tally_reply t w stayed visited → ss ≡ stays_after t w stayed r → gs ≡ greatest_after t w visited r → Tallied t w stayed visited r ss gs
  tallied r ss gs e p q = record {
    replied = e;
    stays_column = p;
    greatest_column = q;
    numbers = λ k z. numbers_seen t w stayed visited k (sym e ∙ z);
    limits = λ k z most.
        let column : gs ≡ greatest_after t w visited (accepted k) = q ∙ ap (greatest_after t w visited) z in
        rw column (limits_seen t w stayed visited k (sym e ∙ z) (λ l b. omega (arith, most l b, ap (λ (xs : List ℕ). get_or xs l 0) column, tabulate-at (loop_count t) (λ l. greatest t l w) 0 l b)));
  }

  -- a refusal writes nothing
  unchanged : (f : TallyFault) → meaning (Err f) ≡ tally_reply t w stayed visited → Tallied t w stayed visited (meaning (Err f)) stayed visited
  unchanged f e = let k = refuses f in tallied (meaning (Err f)) stayed visited e (rw k.same) (rw k.same)

  -- the tables are refused
  pub structure_refused : (r : Result ℕ TallyFault) (f : StructureFault) → IsErrAnd r (λ e. e ≡ Structure f) → StructureChecked t (Err f) → Tallied t w stayed visited (meaning r) stayed visited
  unfolding tally_reply
  structure_refused r f k checked =
      let p = err_from_is_err_and r k in
      rw (p.1, p.2)
      (unchanged (Structure f) (refusal_stands t f checked (columns_rule t stayed visited ∷ length_rule w ∷ []) (recording_blocks t w (accepted (length w - 1)))))

  module _ (sets : List ℕ) (checked : StructureChecked t (Ok sets)) where
    tables_pass : tally_reply t w stayed visited ≡ check (columns_rule t stayed visited ∷ length_rule w ∷ []) (recording_blocks t w (accepted (length w - 1)))
    unfolding tally_reply
    tables_pass = past_all (structure_rules t) (columns_rule t stayed visited ∷ length_rule w ∷ []) (recording_blocks t w (accepted (length w - 1))) (sound_holds t sets checked)

    -- 421
    pub columns_refused : (length stayed ≢ loop_count t) ⊎ (length stayed ≡ loop_count t) × (length visited ≢ loop_count t) → Tallied t w stayed visited (meaning (Err Columns)) stayed visited
    columns_refused ne =
        unchanged Columns
        (sym (tables_pass ∙ decides (columns_rule t stayed visited) (length_rule w ∷ []) (recording_blocks t w (accepted (length w - 1))) 0 (record { below = omega arith; passes = wrong; lower = λ j h. absurd (omega arith) })))
      where
        wrong : not (eqb (length stayed) (loop_count t) && eqb (length visited) (loop_count t)) ≡ true
        wrong = grind (arith, nat_tests)

    module _ (wide : length stayed ≡ loop_count t) (wide' : length visited ≡ loop_count t) where
      columns_pass : tally_reply t w stayed visited ≡ reply_to_recording t w
      columns_pass =
          tables_pass ∙ hands_on (columns_rule t stayed visited) (length_rule w ∷ []) (recording_blocks t w (accepted (length w - 1)))
          (λ p h. rw (eq-eqb (length stayed) (loop_count t) wide, eq-eqb (length visited) (loop_count t) wide'))

      -- the blocks are refused
      pub blocks_refused : (r : Result ℕ TallyFault) (f : TallyFault) → IsErrAnd r (λ e. e ≡ f) → Follows t w (Err f) → Tallied t w stayed visited (meaning r) stayed visited
      blocks_refused r f k e = let p = err_from_is_err_and r k in rw (p.1, p.2) (unchanged f (e ∙ sym columns_pass))

      -- the recording is accepted: it has a block
      pub has_block : (tallies : List LoopTally) → Follows t w (Ok tallies) → 1 ≤ length w
      has_block tallies E = (in_length w ((passes (length_rule w ∷ []) (recording_blocks t w (accepted (length w - 1))) (length w - 1) (sym E.0)).0.0 0 (omega arith))).0

      pub written : (tallies : List LoopTally) → Follows t w (Ok tallies) → (m : ℕ) → m ≡ loop_count t → (ss gs : List ℕ) → Filled tallies m ss gs
          → Tallied t w stayed visited (accepted (length w - 1)) ss gs
      written tallies E m all ss gs F =
          tallied (accepted (length w - 1)) ss gs (E.0 ∙ sym columns_pass)
          (tabulated ss (loop_count t) (λ l. stays t l w) 0 (F.stays_sized ∙ all) (λ l b. F.each_stays l (omega arith) ∙ E.1.stays_are l b))
          (tabulated gs (loop_count t) (λ l. greatest t l w) 0 (F.greatest_sized ∙ all) (λ l b. F.each_greatest l (omega arith) ∙ E.1.greatest_are l b))
