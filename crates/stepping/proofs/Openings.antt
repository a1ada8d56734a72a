-- The reply to a walk or to a recording from what is looked at in turn: the length, the first block, the others. Assumes nothing.
use Rattle.std.proofs.Common.{◌≡◌, refl, ◌∙◌, ap, Bool, true, false, not, List, [], ◌∷◌, ℕ, arith, eqb, ltb, length, get_or, drop, drop-cons, Ok, Err}
use Rattle.limits.specs.Limits.{longest_walk}
use Rattle.lists.specs.Search.{when◌then◌else◌}
use Rattle.wcet.specs.Rules.{Reply, refused, check, out_of_range}
use Rattle.wcet.specs.Walk.{length_rule}
use Rattle.wcet.proofs.Replies.{decides, hands_on}
use Rattle.stepping.specs.declared.RunFault.TheVariants.{Length, NoBlock, NotEntry}
use Rattle.stepping.specs.Step.{entry_answer}
use Rattle.stepping.proofs.Along.{decided, in_length}

-- `blocks` is the reply to a list that is not refused for its length, `rest` that to a list which starts at block 0
pub opened : {A : Type 0} (n : ℕ) (w : List ℕ) (blocks : List ℕ → Reply A) (rest : Reply A)
    → (blocks (get_or w 0 0 ∷ drop 1 w) ≡ (when not (ltb (get_or w 0 0) n) then refused 302 0 else when not (eqb (get_or w 0 0) 0) then refused 303 0 else rest))
    → check (length_rule w ∷ []) (blocks w) ≡ decided (entry_answer n w) rest
unfolding entry_answer check
opened {A} n w blocks rest first = go (out_of_range 1 longest_walk (length w)) refl
  where
    entering : (b d : Bool) → (when not b then refused 302 0 else when not d then refused 303 0 else rest)
        ≡ decided (when not b then Err (NoBlock 0) else when not d then Err NotEntry else Ok (tt {0})) rest
    entering true true = refl
    entering true false = refl
    entering false d = refl

    go : (a : Bool) → out_of_range 1 longest_walk (length w) ≡ a → check (length_rule w ∷ []) (blocks w)
        ≡ decided (when a then Err Length else when not (ltb (get_or w 0 0) n) then Err (NoBlock 0) else when not (eqb (get_or w 0 0) 0) then Err NotEntry else Ok (tt {0})) rest
    go true e = decides (length_rule w) [] (blocks w) 0 (record { below = omega arith; passes = e; lower = λ j h. absurd (omega arith) })
    go false e = hands_on (length_rule w) [] (blocks w) (λ p h. e) ∙ ap blocks (drop-cons w 0 0 (in_length w e).0) ∙ first ∙ entering (ltb (get_or w 0 0) n) (eqb (get_or w 0 0) 0)
