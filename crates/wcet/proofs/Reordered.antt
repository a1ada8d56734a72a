-- Document 02, §6: which replies changed when 209 went ahead of 208 (`order_change`, `former_cases`), and why a closed walk that costs something
-- breaks both rules (`costly_breaks_both`). The order before §6 stands in this file alone: no definition and no contract uses it. Assumes nothing.
use mathlib.Core.Path.{◌≡◌, refl, sym, ◌∙◌}
use mathlib.Core.Logic.{◌⊎◌, inl, inr}
use mathlib.Core.Bool.{Bool, true, false, not, ◌&&◌, true≢false}
use mathlib.Core.List.{List, [], ◌∷◌, ◌++◌, map}
use Rattle.std.specs.Prelude.{Option, Some, None}
use Prim.Native.Nat.{ℕ, ◌≤◌, ◌<◌}
use native.Mathlib.Omega.{arith}
use borrow.Author.Tests.{not-true}
use lib.IntN.{ℤ, pos, ◌+ℤ◌, ◌-ℤ◌}
use lib.Signed.{◌≤ℤ◌}
use Rattle.lists.specs.Search.{any_below, count_below, first_below}
use Rattle.lists.proofs.Tests.{and-true}
use Rattle.lists.proofs.Search.{not_found, found_lowest}
use Rattle.integers.proofs.Laws.{ints, sum, diff, le_z_le}
use Rattle.wcet.specs.Table.{Routine, missing, block_count, cost, loop_of, figure, limit, multiplier, some_edge, edge, around, inside, is_header}
use Rattle.wcet.specs.Cycles.{back_edge, forward_edge, forward_path, ClosedWalk, reaches, undeclared_loop}
use Rattle.wcet.specs.Rules.{Reply, accepted, refused, check, sizes_wrong, loop_wrong, block_wrong, header_elsewhere, too_deep, entry_or_exit_edge, past_header, enters_past_header, inequality, edge_holds, inequality_broken, structure_rules, inequality_rule, undeclared_rule, table_rules, bound, table_reply}
use Rattle.wcet.specs.Run.{run_cost}
use Rattle.wcet.specs.Claim.{AllHold}
use Rattle.wcet.specs.Cases.{routine_a, cycle}
use Rattle.wcet.proofs.Replies.{decides, past_all, passes, refused_append, behind, exchanged, numbered_broken, structure_unnumbered, replies_exactly}
use Rattle.wcet.proofs.Cycles.{forward_target}
use Rattle.wcet.proofs.Potential.{remaining}
use Rattle.wcet.proofs.Bound.{remaining_left, Facts, facts_by}

-- the reply before §6, by the order of document 02, §2: "209, place 0, after 208"
abbrev pub former_reply : Routine → Reply ℤ
former_reply t = check (structure_rules t ++ inequality_rule t ∷ undeclared_rule t ∷ []) (accepted (bound t))

-- "tables that break both": the former reply is 208, and there is a closed walk
pub record BreaksBoth (t : Routine) : Type 0 where
  pub block : ℕ
  pub former : former_reply t ≡ refused 208 block
  pub walk : ClosedWalk t

-- "Only tables that break both change: 208 with its block becomes 209 at 0."
pub record OrderChange (t : Routine) : Type 0 where
  pub only : (table_reply t ≡ former_reply t) ⊎ BreaksBoth t
  pub becomes : BreaksBoth t → table_reply t ≡ refused 209 0

module _ (t : Routine) where
  abbrev result : Reply ℤ
  result = accepted (bound t)

  both_broken : AllHold (structure_rules t) → (u : ℕ) → first_below (block_count t) (inequality_broken t) ≡ Some u → ClosedWalk t → BreaksBoth t
  both_broken h u f W = record {
    block = u;
    former =
        past_all (structure_rules t) (inequality_rule t ∷ undeclared_rule t ∷ []) result h
        ∙ decides (inequality_rule t) (undeclared_rule t ∷ []) result u (found_lowest (block_count t) (inequality_broken t) u f);
    walk = W;
  }

  -- by cases: 209, 208 and 201 to 207, broken or not
  same_or_both : (b : Bool) → undeclared_loop t ≡ b → (o : Option ℕ) → first_below (block_count t) (inequality_broken t) ≡ o
      → (r : Reply (Unit {0})) → check (structure_rules t) (accepted tt) ≡ r → (table_reply t ≡ former_reply t) ⊎ BreaksBoth t
  unfolding table_reply table_rules
  same_or_both false d o f r s = inl (behind (structure_rules t) _ _ result (exchanged (undeclared_rule t) (inequality_rule t) [] result (λ p z. d)))
  same_or_both true d None f r s =
      inl (behind (structure_rules t) _ _ result (sym (exchanged (inequality_rule t) (undeclared_rule t) [] result (not_found (block_count t) (inequality_broken t) f))))
  same_or_both true d (Some u) f (accepted x) s =
      let h : AllHold (structure_rules t) = (passes (structure_rules t) (accepted tt) x s).0 in
      inr (both_broken h u f (((replies_exactly t).closed h).0 d))
  same_or_both true d (Some u) f (refused n p) s =
      inl (refused_append (structure_rules t) _ tt result n p s ∙ sym (refused_append (structure_rules t) (inequality_rule t ∷ undeclared_rule t ∷ []) tt result n p s))

  pub order_change : OrderChange t
  order_change = record {
    only = same_or_both (undeclared_loop t) refl (first_below (block_count t) (inequality_broken t)) refl (check (structure_rules t) (accepted tt)) refl;
    becomes = λ B.
        let before = numbered_broken 208 (structure_rules t) (inequality_rule t) (undeclared_rule t ∷ []) (bound t) B.block (structure_unnumbered t 208 (omega arith)) (λ e. omega arith, tt) B.former in
        ((replies_exactly t).undeclared 0).1 (refl, before.0, B.walk);
  }

-- ---- "A costly undeclared circle fails an inequality as well as the rule of §2."

module _ (t : Routine) (F : Facts t) where
  -- Along a forward edge the figure falls by what its target costs, or by more: the multiplier of a loop that is entered is not negative.
  edge_falls : (u v : ℕ) → u < block_count t → forward_edge t u v ≡ true → pos (cost t v) ≤ℤ (figure t u -ℤ figure t v)
  unfolding forward_edge back_edge inequality edge_holds
  edge_falls u v b f = go (is_header t v) (inside t u (loop_of t v)) (not-true _ e.1) (F.holds u v b e.0)
    where
      e : (edge t u v ≡ true) × (not (back_edge t u v) ≡ true)
      e = and-true (edge t u v) (not (back_edge t u v)) f

      k : ℕ
      k = multiplier t (loop_of t v)

      n : ℕ
      n = limit t (loop_of t v)

      least : 1 ≤ n
      least = F.nesting.limit_least (loop_of t v) (F.nesting.innermost v (F.nesting.target u v b e.0))

      go : (headed inner : Bool) → (headed && inner) ≡ false → inequality headed inner (cost t v) (figure t u) (figure t v) k n ≡ true → pos (cost t v) ≤ℤ (figure t u -ℤ figure t v)
      go false inner o q = le_z_le _ _ q
      go true true o q = absurd (true≢false o)
      go true false o q = omega (ints, le_z_le (pos (cost t v) +ℤ remaining k n 1) (figure t u -ℤ figure t v) q, sum (pos (cost t v)) (remaining k n 1), remaining_left k n 1 least)

  path_falls : (w : List ℕ) (u v : ℕ) → u < block_count t → forward_path t u (w ++ v ∷ []) ≡ true → pos (run_cost t (w ++ v ∷ [])) ≤ℤ (figure t u -ℤ figure t v)
  unfolding forward_path run_cost
  path_falls [] u v b f = omega (ints, edge_falls u v b (and-true (forward_edge t u v) true f).0)
  path_falls (x ∷ w) u v b f =
      let q = and-true (forward_edge t u x) (forward_path t x (w ++ v ∷ [])) f in
      let rest = path_falls w x v (forward_target t F.nesting.target u x b q.0) q.1 in
      omega (ints, edge_falls u x b q.0, rest, diff (figure t u) (figure t x), diff (figure t x) (figure t v), diff (figure t u) (figure t v))

  -- back where it began, the figure has not fallen
  closed_free : (W : ClosedWalk t) → run_cost t (W.between ++ W.start ∷ []) ≡ 0
  closed_free W = omega (ints, path_falls W.between W.start W.start W.block W.closed, diff (figure t W.start) (figure t W.start))

pub costly_breaks_both : (t : Routine) → AllHold (structure_rules t) → (W : ClosedWalk t) → 0 < run_cost t (W.between ++ W.start ∷ []) → BreaksBoth t
costly_breaks_both t h W c = go (first_below (block_count t) (inequality_broken t)) refl
  where
    go : (o : Option ℕ) → first_below (block_count t) (inequality_broken t) ≡ o → BreaksBoth t
    go (Some u) f = both_broken t h u f W
    go None f = absurd (omega (arith, closed_free t (facts_by t h (not_found (block_count t) (inequality_broken t) f)) W))

-- ---- "In document 01 these are A with block 2 in loop 0 and the last marked case with costs 1 1 1 1; with costs 1 0 0 1 it had already become 209."

pub former_cases : map former_reply (routine_a missing (pos 28) 0 4 8 ∷ cycle (1 ∷ 1 ∷ 1 ∷ 1 ∷ []) (pos 3 ∷ pos 2 ∷ pos 1 ∷ pos 0 ∷ []) ∷ cycle (1 ∷ 0 ∷ 0 ∷ 1 ∷ []) (pos 1 ∷ pos 1 ∷ pos 1 ∷ pos 0 ∷ []) ∷ [])
    ≡ refused 208 2 ∷ refused 208 2 ∷ refused 209 0 ∷ []
unfolding any_below count_below first_below some_edge edge around inside back_edge forward_edge reaches undeclared_loop check sizes_wrong loop_wrong block_wrong header_elsewhere too_deep entry_or_exit_edge past_header enters_past_header inequality edge_holds inequality_broken structure_rules bound
former_cases = refl
