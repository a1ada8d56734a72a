-- 202, of loop 0 and of the others. Assumes nothing.
use mathlib.Core.Path.{◌≡◌, refl}
use mathlib.Core.Bool.{not, ◌&&◌, ◌||◌}
use Prim.Native.Nat.{ℕ, zero, suc, ◌^◌}
use native.Mathlib.Omega.{arith}
use lib.Dec.{eqb, ltb}
use borrow.Author.Tests.{ne_eqb}
use Rattle.lists.specs.Search.{when◌then◌else◌}
use Rattle.wcet.specs.Table.{Routine, block_count, parent, header, limit, multiplier}
use Rattle.wcet.specs.Rules.{out_of_range, loop_wrong}

module _ (t : Routine) where
  root_rule : loop_wrong t 0 ≡ not (eqb (parent t 0) 0 && eqb (header t 0) 0 && eqb (limit t 0) 1 && eqb (multiplier t 0) 0)
  unfolding loop_wrong
  root_rule = refl

  inner_rule : (l : ℕ) → loop_wrong t (suc l) ≡ (not (ltb (parent t (suc l)) (suc l)) || not (ltb (header t (suc l)) (block_count t)) || out_of_range 1 65535 (limit t (suc l)) || ltb (2 ^ 40) (multiplier t (suc l)))
  unfolding loop_wrong
  inner_rule l = rw (ne_eqb (suc l) 0 (λ e. omega arith))

  -- of a loop's values
  pub loop_rule : (l : ℕ)
      → loop_wrong t l
      ≡ (when eqb l 0 then not (eqb (parent t l) 0 && eqb (header t l) 0 && eqb (limit t l) 1 && eqb (multiplier t l) 0) else (not (ltb (parent t l) l) || not (ltb (header t l) (block_count t)) || out_of_range 1 65535 (limit t l) || ltb (2 ^ 40) (multiplier t l)))
  loop_rule zero = root_rule
  loop_rule (suc l) = rw (ne_eqb (suc l) 0 (λ e. omega arith)) (inner_rule l)
