-- In a table without undeclared loops (209) the number of blocks that a block reaches by forward edges is a rank (`ranked`): along a forward
-- edge it falls, since the edge's source reaches all that its target does, and the target, which does not reach itself. No rank is as high
-- as the number of blocks, and so the tails of that many steps keep the equations (`tails_step`). Assumes nothing.
use mathlib.Core.Path.{◌≡◌, refl}
use mathlib.Core.Bool.{Bool, true, false}
use Prim.Native.Nat.{ℕ, ◌<◌}
use native.Mathlib.Omega.{arith}
use Rattle.lists.specs.Search.{count_below}
use Rattle.lists.proofs.Search.{none_of, count_most, count_more}
use Rattle.wcet.specs.Table.{Routine, block_count}
use Rattle.wcet.specs.Cycles.{forward_edge, reaches, undeclared_loop}
use Rattle.wcet.proofs.Nesting.{Nested}
use Rattle.wcet.proofs.Cycles.{reaches_one, reaches_by, forward_target}
use Rattle.optimum.specs.Columns.{tails}
use Rattle.optimum.proofs.Local.{Tailed, Ranked}
use Rattle.optimum.proofs.Steps.{enough_steps}

module _ (t : Routine) (N : Nested t) (declared : undeclared_loop t ≡ false) where
  abbrev n : ℕ
  n = block_count t

  abbrev reached : ℕ → ℕ → Bool
  reached = reaches (forward_edge t) n

  not_itself : (x : ℕ) → x < n → reached x x ≡ false
  unfolding undeclared_loop
  not_itself = none_of n (λ u. reached u u) declared

  falls : (u v : ℕ) → u < n → forward_edge t u v ≡ true → count_below n (reached v) < count_below n (reached u)
  falls u v b e =
      let c : v < n = forward_target t N.target u v b e in
      let one : reached u v ≡ true = reaches_one (forward_edge t) n u v e in
      count_more n (reached v) (reached u) (λ x d r. reaches_by (forward_edge t) n u x v c one r) v c (not_itself v c) one

  pub ranked : (K : Ranked t) × ((x : ℕ) → x < block_count t → K.rank x < block_count t)
  ranked = (
    record { rank = λ x. count_below n (reached x); falls = falls },
    λ x b. omega (arith, count_more n (reached x) (λ _. true) (λ y c r. refl) x b (not_itself x b) refl, count_most n (λ _. true)),
  )

  pub tails_step : Tailed t (tails t)
  tails_step = enough_steps t N ranked.0 n ranked.1
