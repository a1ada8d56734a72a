-- The passes mark exactly the blocks with a path to the exit. Assumes nothing.
use Rattle.std.proofs.Common.{◌≡◌, refl, sym, ◌∙◌, ap, Bool, true, false, not, ◌&&◌, true≢false, List, [], ◌∷◌, ℕ, suc, ◌+◌, ◌-◌, ◌≤◌, ◌<◌, arith, eqb, length, get_or, set, length-set, replicate}
use mathlib.Core.Bool.{and-false, and-true as and-unit}
use native.Mathlib.Decide.{ℕ_discrete}
use lib.ListN.{get_or-replicate}
use lib.Seq.{get_or-set_same, get_or-set_other}
use borrow.Author.Tests.{eq-eqb, ne_eqb, not-true}
use Rattle.limits.specs.Limits.{most_blocks}
use Rattle.lists.specs.Search.{when◌then◌else◌}
use Rattle.lists.proofs.Tests.{and-true, both}
use Rattle.lists.proofs.Search.{count_ext, count_remove}
use Rattle.wcet.specs.Table.{Routine, block_count, exit, some_edge, edge}
use Rattle.wcet.specs.Run.{path}
use Rattle.nesting.specs.Columns.{Linked}
use Rattle.optimum.specs.Remade.{PathToExit}
use Rattle.exits.specs.Lost.{Listed}
use Rattle.exits.specs.Marks.{marked, unmarked, can_mark, Sound, Closed, Passed, MarksPaths}
use Rattle.optimum.proofs.Paths.{exit_path, path_on}
use Rattle.exits.proofs.Paths.{edge_to, some_edge_lem, target}

-- ---- one mark more

module _ (marks : List Bool) (u : ℕ) (low : u < length marks) where
  abbrev more : List Bool
  more = set marks u true

  kept : (v : ℕ) → marked marks v ≡ true → marked more v ≡ true
  kept v e = go (ℕ_discrete v u)
    where
      go : Dec (v ≡ u) → marked (set marks u true) v ≡ true
      go (yes q) = rw q (get_or-set_same marks u true false low)
      go (no ne) = get_or-set_other marks u v true false ne ∙ e

  fewer : (n : ℕ) → u < n → marked marks u ≡ false → unmarked n marks ≡ suc (unmarked n more)
  fewer n b e =
      count_remove n u (λ v. not (marked marks v)) b (rw e)
      ∙ ap suc (sym (count_ext n (λ v. not (marked more v)) (λ v. not (marked marks v) && not (eqb v u)) (λ v c. other v (ℕ_discrete v u))))
    where
      other : (v : ℕ) → Dec (v ≡ u) → not (marked (set marks u true) v) ≡ (not (marked marks v) && not (eqb v u))
      other v (yes q) = rw (q, get_or-set_same marks u true false low, eq-eqb u u refl) (sym (and-false (not (marked marks u))))
      other v (no ne) = rw (get_or-set_other marks u v true false ne, ne_eqb v u ne) (sym (and-unit (not (marked marks v))))

-- ---- a pass

-- what the part of a pass that begins at the last place and ends at place i makes of the old marks
pub record PassedFrom (t : Routine) (order : List ℕ) (old marks : List Bool) (more : Bool) (i : ℕ) : Type 0 where
  pub size : length marks ≡ most_blocks
  pub kept : (u : ℕ) → marked old u ≡ true → marked marks u ≡ true
  pub sound : Sound t old → Sound t marks
  pub closed : more ≡ false → (j : ℕ) → i ≤ j → j < block_count t → can_mark t marks (get_or order j 0) ≡ false
  pub fewer : unmarked (block_count t) marks + (when more then 1 else 0) ≤ unmarked (block_count t) old

module _ (t : Routine) (order : List ℕ) (old : List Bool) where
  -- the turn of the block at place i − 1
  module _ (L : Linked (block_count t) t.firsts t.seconds) (marks : List Bool) (more : Bool) (i : ℕ) (low : get_or order (i - 1) 0 < block_count t) (P : PassedFrom t order old marks more i) where
    abbrev here : ℕ
    here = get_or order (i - 1) 0

    pub pass_marks : can_mark t marks here ≡ true → PassedFrom t order old (set marks here true) true (i - 1)
    unfolding can_mark
    pass_marks e =
        record {
          size = length-set marks here true ∙ P.size;
          kept = λ v k. kept marks here within v (P.kept v k);
          sound = λ S v b k. sound (P.sound S) v b k (ℕ_discrete v here);
          closed = λ q. absurd (true≢false q);
          fewer = omega (arith, fewer marks here within (block_count t) low (not-true _ q.0), P.fewer);
        }
      where
        q : (not (marked marks here) ≡ true) × (some_edge t here (marked marks) ≡ true)
        q = and-true (not (marked marks here)) (some_edge t here (marked marks)) e

        within : here < length marks
        within = omega (arith, low, L.few, P.size)

        sound : Sound t marks → (v : ℕ) → v < block_count t → marked (set marks here true) v ≡ true → Dec (v ≡ here) → PathToExit t v
        sound S v b k (yes same) =
            let w = edge_to t here (marked marks) q.1 in
            rw same (path_on t here w.0 w.1 (S w.0 (target t here (block_count t) w.0 L low w.1) w.2))
        sound S v b k (no ne) = S v b (sym (get_or-set_other marks here v true false ne) ∙ k)

  pub passed : Listed (block_count t) order → (marks : List Bool) (more : Bool) → PassedFrom t order old marks more 0 → Passed t old marks more
  passed L marks more P = record {
    size = P.size;
    kept = P.kept;
    sound = P.sound;
    closed = λ q u b. rw (L.there u b) at (P.closed q (L.position u) (omega arith) (L.within u b));
    fewer = λ q. let f = rw q at P.fewer in omega arith;
  }

-- ---- all passes

-- the exit alone, to begin with
pub exit_sound : (t : Routine) → exit t < most_blocks → Sound t (set (replicate most_blocks false) (exit t) true)
exit_sound t low u b e = go (ℕ_discrete u (exit t))
  where
    go : Dec (u ≡ exit t) → PathToExit t u
    go (yes q) = rw q (exit_path t)
    go (no ne) = absurd (true≢false (sym e ∙ get_or-set_other (replicate most_blocks false) (exit t) u true false ne ∙ get_or-replicate most_blocks u false false (omega arith)))

-- where no block is left to mark, every block with a path is marked
module _ (t : Routine) (L : Linked (block_count t) t.firsts t.seconds) (marks : List Bool) (at_exit : marked marks (exit t) ≡ true) (closed : Closed t marks) where
  marked_along : (w : List ℕ) (u : ℕ) → u < block_count t → path t u w ≡ true → get_or (u ∷ w) (length w) 0 ≡ exit t → marked marks u ≡ true
  unfolding path can_mark
  marked_along [] u b p e = rw e at_exit
  marked_along (v ∷ w) u b p e =
      let q = and-true (edge t u v) (path t v w) p in
      go (marked marks u) refl (some_edge_lem t u (marked marks) v q.0 (marked_along w v (target t u (block_count t) v L b q.0) q.1 e))
    where
      go : (m : Bool) → marked marks u ≡ m → some_edge t u (marked marks) ≡ true → m ≡ true
      go true r s = refl
      go false r s = absurd (true≢false (sym (both {a = not (marked marks u)} (ap not r) s) ∙ closed u b))

  pub marks_paths : Sound t marks → MarksPaths t marks
  marks_paths S u b = (S u b, λ p. marked_along p.blocks u b p.follows p.at_exit)
