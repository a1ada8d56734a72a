-- How the answers of the rules' functions make the reply: a place decides it, and none leaves it to the next rule. Assumes nothing.
use mathlib.Core.Path.{◌≡◌, refl, sym, ◌∙◌}
use mathlib.Core.Bool.{Bool, true, false, not, ◌||◌}
use mathlib.Core.List.{List, [], ◌∷◌, ◌++◌}
use Rattle.std.specs.Prelude.{Option, Some, None, Result, Ok, Err}
use Prim.Native.Nat.{ℕ, ◌<◌}
use native.Mathlib.Omega.{arith}
use lib.ListN.{drop}
use Rattle.limits.specs.Limits.{most_blocks, most_loops}
use Rattle.lists.specs.Search.{first_below}
use Rattle.lists.proofs.Search.{not_found}
use Rattle.wcet.specs.Rules.{Reply, accepted, refused, Rule, check, out_of_range, block_columns_equal, loop_columns_equal, sizes_wrong, structure_rules}
use Rattle.wcet.specs.Table.{Routine, block_count, loop_count}
use Rattle.wcet.specs.Claim.{AllHold}
use Rattle.wcet.proofs.Replies.{decides, hands_on, passes, refused_append}
use Rattle.loopsets.specs.Sets.{sets_around}
use Rattle.nesting.specs.Columns.{block_sizes_wrong, loop_sizes_wrong}
use Rattle.nesting.specs.Answers.{refusal_of, refusal, RulesChecked, StructureChecked, NestingChecked}
use Rattle.nesting.specs.declared.StructureFault.{StructureFault}

module _ (places : ℕ) (broken : ℕ → Bool) (place : Option ℕ) (found : place ≡ first_below places broken) where
  pub place_holds : place ≡ None → (p : ℕ) → p < places → broken p ≡ false
  place_holds e = not_found places broken (sym found ∙ e)

  pub place_decides : {A : Type 0} (number : ℕ) (rs : List Rule) (passed : Reply A) (p : ℕ) → place ≡ Some p
      → refused number p ≡ check (record { number = number; places = places; broken = broken } ∷ rs) passed
  unfolding check
  place_decides number rs passed p e = rw (← found, e)

  pub place_clear : {A : Type 0} (number : ℕ) (rs : List Rule) (passed : Reply A) → place ≡ None
      → check rs passed ≡ check (record { number = number; places = places; broken = broken } ∷ rs) passed
  place_clear number rs passed e = sym (hands_on (record { number = number; places = places; broken = broken }) rs passed (place_holds e))

-- no rule is left
pub none_left : {A : Type 0} (passed : Reply A) → passed ≡ check [] passed
unfolding check
none_left passed = refl

-- ---- 201, whose one place is 0

-- of either table
pub either_table : (t : Routine) → (block_sizes_wrong t || loop_sizes_wrong t) ≡ sizes_wrong t
unfolding sizes_wrong
either_table t = go (out_of_range 2 most_blocks (block_count t)) (out_of_range 1 most_loops (loop_count t)) (not (block_columns_equal t)) (not (loop_columns_equal t))
  where
    go : (a b c d : Bool) → ((a || c) || (b || d)) ≡ (a || b || c || d)
    go true b c d = refl
    go false true true d = refl
    go false true false d = refl
    go false false c d = refl

pub sizes_decide : {A : Type 0} (t : Routine) (passed : Reply A) → sizes_wrong t ≡ true → refused 201 0 ≡ check (structure_rules t) passed
unfolding structure_rules
sizes_decide t passed e = sym (decides _ _ passed 0 (record { below = omega arith; passes = e; lower = λ j h. absurd (omega arith) }))

pub sizes_clear : {A : Type 0} (t : Routine) (passed : Reply A) → sizes_wrong t ≡ false → check (drop 1 (structure_rules t)) passed ≡ check (structure_rules t) passed
unfolding structure_rules
sizes_clear t passed e = sym (hands_on _ _ passed (λ p h. e))

-- ---- the whole check

pub broken_checked : (rs : List Rule) (parents : List ℕ) (f : StructureFault) → refusal {A = Unit {0}} f ≡ check rs (accepted tt) → RulesChecked rs parents (Err f)
broken_checked rs parents f q = record { replied = q; sets = tt }

-- after 201 to 204, the answer of 205 to 207 is the whole answer
pub nesting_checked : (t : Routine) (r : Result (List ℕ) StructureFault) → NestingChecked t r
    → check (drop 4 (structure_rules t)) (accepted (tt {0})) ≡ check (structure_rules t) (accepted tt) → StructureChecked t r
nesting_checked t r N e = record { replied = N.replied ∙ e; sets = N.sets }

-- ---- for the checks that follow

-- each broken rule has a number and a place
pub refused_by : (f : StructureFault) → (n p : ℕ) × ((A : Type 0) → refusal {A = A} f ≡ refused n p)
refused_by f = ((refusal_of f).number, (refusal_of f).place, λ A. refl)

-- what the structure check refuses is refused by every list of rules that begins with 201 to 207
pub refusal_stands : {A : Type 0} (t : Routine) (f : StructureFault) → StructureChecked t (Err f)
    → (qs : List Rule) (passed : Reply A) → refusal f ≡ check (structure_rules t ++ qs) passed
refusal_stands t f C qs passed = sym (refused_append (structure_rules t) qs tt passed (refusal_of f).number (refusal_of f).place (sym C.replied))

-- where it gives sets, 201 to 207 hold, and the sets are those of the loops around each loop
pub sound_holds : (t : Routine) (sets : List ℕ) → StructureChecked t (Ok sets) → AllHold (structure_rules t)
sound_holds t sets C = (passes (structure_rules t) (accepted tt) tt (sym C.replied)).0

pub sound_sets : (t : Routine) (sets : List ℕ) → StructureChecked t (Ok sets) → sets ≡ sets_around t.parents
sound_sets t sets C = C.sets
