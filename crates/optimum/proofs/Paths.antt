-- 401: the test `no_path` fails exactly where a block has a path to the exit (`path_exactly`). Assumes nothing.
use mathlib.Core.Path.{◌≡◌, refl, ◌∙◌, ap}
use mathlib.Core.Bool.{Bool, true, false, ◌&&◌, ◌||◌}
use mathlib.Core.List.{List, [], ◌∷◌, ◌++◌}
use mathlib.Core.Logic.{◌↔◌, ⊎_elim}
use Prim.Native.Nat.{ℕ, ◌<◌}
use lib.Dec.{eqb}
use borrow.Author.Tests.{eqb-true, eq-eqb, not-false}
use lib.ListN.{length, get_or}
use Rattle.lists.proofs.Tests.{and-true, both, either, or_left, or_right}
use Rattle.wcet.specs.Table.{Routine, block_count, exit, edge}
use Rattle.wcet.specs.Cycles.{reaches}
use Rattle.wcet.specs.Run.{path}
use Rattle.wcet.proofs.Nesting.{Nested}
use Rattle.wcet.proofs.Cycles.{walks, WalkTo, walk_of, reaches_one, reaches_by}
use Rattle.optimum.specs.Remade.{PathToExit}
use Rattle.optimum.specs.Replies.{no_path}
use Rattle.optimum.proofs.Joined.{end, end_joined, end_at}

module _ (t : Routine) where
  pub exit_path : PathToExit t (exit t)
  unfolding path
  exit_path = record { blocks = []; follows = refl; at_exit = refl }

  pub path_on : (u v : ℕ) → edge t u v ≡ true → PathToExit t v → PathToExit t u
  unfolding path
  path_on u v e p = record { blocks = v ∷ p.blocks; follows = both e p.follows; at_exit = p.at_exit }

  path_walk : (w : List ℕ) (u : ℕ) → path t u w ≡ walks (edge t) u w
  unfolding path walks
  path_walk [] u = refl
  path_walk (v ∷ w) u = ap (λ (x : Bool). edge t u v && x) (path_walk w v)

  walk_path : (u : ℕ) → WalkTo (edge t) u (exit t) → PathToExit t u
  unfolding end
  walk_path u p = record {
    blocks = p.0 ++ exit t ∷ [];
    follows = path_walk (p.0 ++ exit t ∷ []) u ∙ p.1;
    at_exit = end_at (p.0 ++ exit t ∷ []) u ∙ end_joined p.0 (exit t ∷ []) u;
  }

  module _ (N : Nested t) where
    -- along the blocks of a path
    reached : (w : List ℕ) (u : ℕ) → u < block_count t → path t u w ≡ true → get_or (u ∷ w) (length w) 0 ≡ exit t
        → (eqb u (exit t) || reaches (edge t) (block_count t) u (exit t)) ≡ true
    unfolding path
    reached [] u b p e = or_left (reaches (edge t) (block_count t) u (exit t)) (eq-eqb u (exit t) e)
    reached (v ∷ w) u b p e =
        let q : (edge t u v ≡ true) × (path t v w ≡ true) = and-true _ _ p in
        let c : v < block_count t = N.target u v b q.0 in
        or_right (eqb u (exit t))
        (⊎_elim (λ z. reaches_one (edge t) (block_count t) u (exit t) (rw (eqb-true v (exit t) z) at q.0))
        (λ r. reaches_by (edge t) (block_count t) u (exit t) v c (reaches_one (edge t) (block_count t) u v q.0) r)
        (either (eqb v (exit t)) (reaches (edge t) (block_count t) v (exit t)) (reached w v c q.1 e)))

    pub path_exactly : (u : ℕ) → u < block_count t → (no_path t u ≡ false) ↔ PathToExit t u
    unfolding no_path
    path_exactly u b = (
      λ e.
          ⊎_elim (λ z. rw (eqb-true u (exit t) z) exit_path) (λ r. walk_path u (walk_of (edge t) (block_count t) u (exit t) r))
          (either (eqb u (exit t)) (reaches (edge t) (block_count t) u (exit t)) (not-false _ e)),
      λ p. rw (reached p.blocks u b p.follows p.at_exit),
    )
