-- 451 and 452 on one loop and one block, and what they ensure for 453 and the bound. Assumes nothing.
use mathlib.Core.Path.{◌≡◌, refl, sym, ◌∙◌}
use mathlib.Core.Bool.{Bool, true, false, not, ◌&&◌, ◌||◌}
use Prim.Native.Nat.{ℕ, zero, suc, ◌^◌, ◌≤◌, ◌<◌}
use native.Mathlib.Omega.{arith}
use lib.Dec.{eqb, ltb}
use borrow.Author.Tests.{eqb-true, ltb-false, ne_eqb, not-false}
use lib.ListN.{length}
use Rattle.lists.specs.Search.{when◌then◌else◌}
use Rattle.lists.proofs.Tests.{or_false, and-true}
use Rattle.wcet.specs.Shortest.{LowCertificate, low_figure, low_multiplier, least, low_loop_wrong, low_figure_wrong}
use Rattle.nesting.proofs.Stages.{figure_range}
use Rattle.wcet.specs.Table.{Routine}
use Rattle.certificate.specs.Columns.{Comparable, Weighable}
use Rattle.certificate.proofs.Edge.{claiming}

module _ (c : LowCertificate) where
  -- 451, with the loop's own number in both cases
  loop_rule : (l : ℕ) → low_loop_wrong c l ≡ (when eqb l 0 then not (eqb (low_multiplier c l) 0 && eqb (least c l) 1) else (ltb (2 ^ 40) (low_multiplier c l) || ltb 65535 (least c l)))
  unfolding low_loop_wrong
  loop_rule zero = refl
  loop_rule (suc l) = rw (ne_eqb (suc l) 0 (λ e. omega arith))

  loop_kept : (l : ℕ) → low_loop_wrong c l ≡ false → (low_multiplier c l ≤ 2 ^ 40) × (least c l ≤ 65535)
  loop_kept l e = go (eqb l 0) (sym (loop_rule l) ∙ e)
    where
      go : (z : Bool) → (when z then not (eqb (low_multiplier c l) 0 && eqb (least c l) 1) else (ltb (2 ^ 40) (low_multiplier c l) || ltb 65535 (least c l))) ≡ false
          → (low_multiplier c l ≤ 2 ^ 40) × (least c l ≤ 65535)
      go true q =
          let p = and-true (eqb (low_multiplier c l) 0) (eqb (least c l) 1) (not-false _ q) in
          omega (arith, eqb-true (low_multiplier c l) 0 p.0, eqb-true (least c l) 1 p.1)
      go false q =
          let p = or_false (ltb (2 ^ 40) (low_multiplier c l)) (ltb 65535 (least c l)) q in
          (ltb-false (2 ^ 40) (low_multiplier c l) p.0, ltb-false 65535 (least c l) p.1)

  pub weighed : (t : Routine) → Comparable (claiming t c.figures c.leasts c.multipliers)
      → ((l : ℕ) → l < length c.multipliers → low_loop_wrong c l ≡ false) → ((u : ℕ) → u < length c.figures → low_figure_wrong c u ≡ false)
      → Weighable (claiming t c.figures c.leasts c.multipliers)
  unfolding low_figure_wrong
  weighed t C L F = record {
    comparable = C;
    figure_range = λ u b. let f = figure_range (low_figure c u) (F u (omega (arith, C.figures))) in record { least = f.0; most = f.1 };
    limit_most = λ l b. (loop_kept l (L l (omega (arith, C.multipliers)))).1;
    multiplier_most = λ l b. (loop_kept l (L l (omega (arith, C.multipliers)))).0;
  }
