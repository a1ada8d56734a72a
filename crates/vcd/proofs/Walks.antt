-- Every walk that `walk` accepts can be written and, over tables in which no block has an edge to itself, reads back as exactly that walk
-- (`walks_read_back`): its blocks follow edges, so no block comes twice in a row. Assumes nothing.
use mathlib.Core.Path.{◌≡◌}
use mathlib.Core.Bool.{true, false≢true}
use mathlib.Core.List.{List, [], ◌∷◌}
use Prim.Native.Nat.{ℕ, ◌≤◌, ◌<◌}
use native.Mathlib.Omega.{arith}
use Rattle.limits.specs.Limits.{most_blocks}
use Rattle.lists.proofs.Tests.{and-true}
use Rattle.wcet.specs.Table.{Routine, block_count, edge}
use Rattle.wcet.specs.Rules.{structure_rules}
use Rattle.wcet.specs.Run.{path, counted_run}
use Rattle.wcet.specs.Claim.{AllHold, Holds, FinishedRun}
use Rattle.wcet.proofs.Replies.{all_append}
use Rattle.wcet.proofs.Ranges.{sizes_of}
use Rattle.wcet.proofs.Limits.{counted_parts}
use Rattle.wcet.proofs.Nesting.{Nested, nested}
use Rattle.wcet.proofs.Walks.{accepted_walk}
use Rattle.vcd.specs.Recording.{self_edge_rule}
use Rattle.vcd.specs.Claim.{NoRepeatAfter, NoRepeat, WalksReadBack, UpTo, WalksCanBeWritten}
use Rattle.vcd.proofs.Writing.{reads_back}
use Rattle.vcd.proofs.Writable.{can_be_written}

-- what holds of a path from block 0 holds of a finished run
of_run : (P : List ℕ → Type 0) (t : Routine) (w : List ℕ) → ((v : ℕ) (u : List ℕ) → v ≡ 0 → path t v u ≡ true → P (v ∷ u)) → FinishedRun t w → P w
unfolding counted_run
of_run P t [] h f = absurd (false≢true f.counted)
of_run P t (v ∷ u) h f = let C = counted_parts t v u f.counted in h v u C.starts C.follows

module _ (t : Routine) (N : Nested t) where
  -- a path has no block twice in a row
  path_apart : Holds (self_edge_rule t) → (u : ℕ) (w : List ℕ) → u < block_count t → path t u w ≡ true → NoRepeatAfter u w
  unfolding path
  path_apart h u [] b e = tt
  path_apart h u (v ∷ w) b e =
      let q : (edge t u v ≡ true) × (path t v w ≡ true) = and-true (edge t u v) (path t v w) e in
      (λ z. false≢true (rw (← h u b) (rw z at q.0)), path_apart h v w (N.target u v b q.0) q.1)

  -- and every block of it is one
  path_blocks : (most u : ℕ) (w : List ℕ) → block_count t ≤ most → u < block_count t → path t u w ≡ true → UpTo most (u ∷ w)
  unfolding path
  path_blocks most u [] h b e = (omega arith, tt)
  path_blocks most u (v ∷ w) h b e =
      let q : (edge t u v ≡ true) × (path t v w ≡ true) = and-true (edge t u v) (path t v w) e in
      (omega arith, path_blocks most v w h (N.target u v b q.0) q.1)

pub walks_read_back : WalksReadBack
walks_read_back t named w s room x given e written short l =
    let q : AllHold (structure_rules t) × AllHold (self_edge_rule t ∷ []) = all_append (structure_rules t) (self_edge_rule t ∷ []) given in
    let N : Nested t = nested t q.0 in
    let apart : NoRepeat w = of_run NoRepeat t w (λ v u z p. path_apart t N q.1.0 v u (omega (arith, N.two_blocks)) p) (accepted_walk t w x e).finished in
    reads_back t named w s room given written apart short l

pub walks_can_be_written : WalksCanBeWritten
walks_can_be_written t named w x e k =
    let a = accepted_walk t w x e in
    let N : Nested t = nested t a.rules in
    let most : block_count t ≤ most_blocks = (sizes_of t a.rules).few_blocks in
    can_be_written named w k (of_run (UpTo 65534) t w (λ v u z p. path_blocks t N 65534 v u (omega arith) (omega (arith, N.two_blocks)) p) a.finished)
