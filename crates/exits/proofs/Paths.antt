-- Edges, one successor at a time; and that paths to the exit depend only on the successors and the number of blocks. Assumes nothing.
use Rattle.std.proofs.Common.{◌≡◌, refl, sym, ◌∙◌, ap, ⊎_elim, Bool, true, false, not, true≢false, List, [], ◌∷◌, ℕ, ◌-◌, ◌<◌, eqb}
use borrow.Author.Tests.{eqb-true, eqb-false, eq-eqb, not-true}
use Rattle.lists.proofs.Tests.{and-true, both, either}
use Rattle.wcet.specs.Table.{Routine, block_count, missing, first, second, some_edge, edge}
use Rattle.wcet.specs.Run.{path}
use Rattle.wcet.proofs.Nesting.{no_edge}
use Rattle.nesting.specs.Columns.{Names, of_edge, Linked}
use Rattle.nesting.proofs.Edges.{by_first, by_second}
use Rattle.optimum.specs.Remade.{PathToExit}

-- ---- edges

module _ (t : Routine) (u : ℕ) where
  -- some edge leads to a block that passes the test exactly where there is an edge to one
  pub edge_to : (p : ℕ → Bool) → some_edge t u p ≡ true → (v : ℕ) × (edge t u v ≡ true) × (p v ≡ true)
  unfolding some_edge edge
  edge_to p e =
      ⊎_elim
      (λ q. let r = and-true (not (eqb (first t u) missing)) (p (first t u)) q in
      (first t u, by_first t u (λ x. eqb x (first t u)) (both r.0 (eq-eqb (first t u) (first t u) refl)), r.1))
      (λ q. let r = and-true (not (eqb (second t u) missing)) (p (second t u)) q in
      (second t u, by_second t u (λ x. eqb x (second t u)) (both r.0 (eq-eqb (second t u) (second t u) refl)), r.1))
      (either (of_edge (first t u) p) (of_edge (second t u) p) e)

  pub some_edge_lem : (p : ℕ → Bool) (v : ℕ) → edge t u v ≡ true → p v ≡ true → some_edge t u p ≡ true
  some_edge_lem p v e q = go (some_edge t u p) refl
    where
      go : (b : Bool) → some_edge t u p ≡ b → b ≡ true
      go true r = refl
      go false r = absurd (true≢false (sym q ∙ no_edge t u v p r e))

  -- an edge leads to a block
  pub target : (n v : ℕ) → Linked n t.firsts t.seconds → u < n → edge t u v ≡ true → v < n
  unfolding some_edge edge
  target n v L b e =
      ⊎_elim (at (first t u) (L.first_names u b)) (at (second t u) (L.second_names u b))
      (either (of_edge (first t u) (λ x. eqb x v)) (of_edge (second t u) (λ x. eqb x v)) e)
    where
      at : (w : ℕ) → Names n w → of_edge w (λ x. eqb x v) ≡ true → v < n
      at w names q =
          let r = and-true (not (eqb w missing)) (eqb w v) q in
          rw (← eqb-true w v r.1) (names (eqb-false w missing (not-true _ r.0)))

-- ---- paths

-- of two routines with the same successors and as many blocks
module _ (t t' : Routine) (firsts : t.firsts ≡ t'.firsts) (seconds : t.seconds ≡ t'.seconds) (count : block_count t ≡ block_count t') where
  same_edges : (u : ℕ) (w : List ℕ) → path t u w ≡ path t' u w
  unfolding path edge some_edge
  same_edges u [] = refl
  same_edges u (v ∷ w) = rw (same_edges v w, firsts, seconds)

  pub same_path : (u : ℕ) → PathToExit t u → PathToExit t' u
  same_path u p = record {
    blocks = p.blocks;
    follows = sym (same_edges u p.blocks) ∙ p.follows;
    at_exit = p.at_exit ∙ ap (λ (n : ℕ). n - 1) count;
  }
