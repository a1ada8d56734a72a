-- 205 and 207 read off the loop sets: the depth of a header and the number of loops that an edge enters are counts of ones. An edge that
-- enters a loop enters its target's innermost one, so it keeps 207 where it enters none, or that one alone and at its header.
-- Assumes nothing.
use mathlib.Core.Path.{◌≡◌, refl, sym, ◌∙◌, ap}
use mathlib.Core.Bool.{Bool, true, false, not, ◌&&◌, ◌||◌}
use mathlib.Core.List.{List}
use Prim.Native.Nat.{ℕ, suc, ◌≤◌, ◌<◌}
use native.Mathlib.Decide.{ℕ_discrete}
use native.Mathlib.Omega.{arith}
use lib.Dec.{eqb, ltb}
use lib.ListN.{length, get_or}
use borrow.Author.Tests.{eqb-true, eq-eqb, ne_eqb}
use Rattle.limits.specs.Limits.{most_loops, most_depth}
use Rattle.lists.specs.Search.{any_below, count_below, first_below}
use Rattle.lists.proofs.Tests.{both}
use Rattle.lists.proofs.Search.{any_none, none_of, any_at, first_ext, count_ext, count_beyond, count_none, none_counted, count_remove}
use Rattle.wcet.specs.Table.{Routine, block_count, loop_count, loop_of, header, some_edge, around, inside, is_header}
use Rattle.wcet.specs.Rules.{too_deep, enters, past_header, enters_past_header}
use Rattle.wcet.proofs.Potential.{inside_own}
use Rattle.wcet.proofs.Around.{around_above, entered_own}
use Rattle.loopsets.specs.Sets.{member, set_at, sets_around}
use Rattle.loopsets.specs.declared.LoopSet.{LoopSet}
use Rattle.loopsets.proofs.Laws.{member_around}
use Rattle.nesting.specs.Columns.{Nestable, deep_by_sets, entered_by_sets, past_by_sets, any_past_by_sets}
use Rattle.nesting.proofs.Edges.{edges_ext}

-- an edge within one innermost loop enters none
pub none_entered : (sets loops : List ℕ) (u v : ℕ) → get_or loops u 0 ≡ get_or loops v 0 → entered_by_sets sets loops u v ≡ 0
none_entered sets loops u v e = count_none most_loops _ (λ l b. rw e (not_both (member (set_at sets (get_or loops v 0)) l)))
  where
    not_both : (b : Bool) → (b && not b) ≡ false
    not_both true = refl
    not_both false = refl

-- what the code counts: the loops of the target's set that are not in the source's
pub entered_count : (sets loops : List ℕ) (u v : ℕ) (to from s : LoopSet) (n : ℕ) → to ≡ set_at sets (get_or loops v 0) → from ≡ set_at sets (get_or loops u 0)
    → ((k : ℕ) → k < most_loops → member s k ≡ (member to k && not (member from k))) → n ≡ count_below most_loops (member s) → n ≡ entered_by_sets sets loops u v
entered_count sets loops u v to from s n p q e size = size ∙ count_ext most_loops (member s) _ (λ k b. e k b ∙ rw (p, q))

module _ (t : Routine) (sets : List ℕ) (N : Nestable t) (S : sets ≡ sets_around t.parents) where
  few_loops : loop_count t ≤ most_loops
  few_loops = omega (arith, N.innermost.few, N.headers)

  each : (l k : ℕ) → l < loop_count t → k < most_loops → member (set_at sets l) k ≡ around t.parents (loop_count t) l k
  each = member_around t.parents sets S few_loops

  -- a count over all numbers below most_loops is one over the loops
  few : (p : ℕ → Bool) → ((k : ℕ) → loop_count t ≤ k → p k ≡ false) → count_below most_loops p ≡ count_below (loop_count t) p
  few p none_above = count_beyond (loop_count t) most_loops p few_loops (λ k a b. none_above k a)

  above : (l k : ℕ) → l < loop_count t → loop_count t ≤ k → around t.parents (loop_count t) l k ≡ false
  above l k b h = around_above t.parents N.parents.root N.parents.below (loop_count t) l k (omega arith)

  loop_below : (u : ℕ) → u < block_count t → loop_of t u < loop_count t
  loop_below u b = omega (arith, N.innermost.below u (omega (arith, N.loops)), N.headers)

  -- ---- 205
  depth : (l : ℕ) → l < loop_count t → deep_by_sets sets l ≡ too_deep t l
  unfolding too_deep inside
  depth l b =
      ap (ltb most_depth)
      (count_ext most_loops (member (set_at sets l)) (around t.parents (loop_count t) l) (λ k c. each l k b c)
      ∙ few (around t.parents (loop_count t) l) (λ k h. above l k b h)
      ∙ sym (count_ext (loop_count t) (inside t (header t l)) (around t.parents (loop_count t) l) (λ k c. ap (λ (x : ℕ). around t.parents (loop_count t) x k) (N.own l b))))

  -- ---- 207
  module _ (u v : ℕ) (ub : u < block_count t) (vb : v < block_count t) where
    abbrev into : ℕ → Bool
    into = enters t u v

    own_below : loop_of t v < loop_count t
    own_below = loop_below v vb

    -- the loops of the target's set that are not in the source's are the ones entered
    entered : entered_by_sets sets t.loops u v ≡ count_below (loop_count t) into
    unfolding inside
    entered =
        count_ext most_loops (λ k. member (set_at sets (loop_of t v)) k && not (member (set_at sets (loop_of t u)) k)) into (λ k b. rw (each (loop_of t v) k own_below b, each (loop_of t u) k (loop_below u ub) b))
        ∙ few into (λ k h. rw (above (loop_of t v) k own_below h))

    -- the target's innermost loop is entered if any is
    none_but_own : into (loop_of t v) ≡ false → (l : ℕ) → into l ≡ false
    unfolding inside
    none_but_own e l =
        entered_own t.parents N.parents.root N.parents.below (loop_of t u) (loop_of t v) l (loop_below u ub)
        (inside_it (inside t u (loop_of t v)) refl)
      where
        inside_it : (b : Bool) → inside t u (loop_of t v) ≡ b → inside t u (loop_of t v) ≡ true
        inside_it true q = q
        inside_it false q = absurd (mathlib.Core.Bool.true≢false (sym (both (inside_own t v) (rw q)) ∙ e))

    own_entered : (count_below (loop_count t) into ≡ 0 → ⊥) → into (loop_of t v) ≡ true
    own_entered some = go (into (loop_of t v)) refl
      where
        go : (b : Bool) → into (loop_of t v) ≡ b → into (loop_of t v) ≡ true
        go true q = q
        go false q = absurd (some (count_none (loop_count t) into (λ l b. none_but_own q l)))

    -- the loops entered besides it
    others : ℕ → Bool
    others l = into l && not (eqb l (loop_of t v))

    counted : (count_below (loop_count t) into ≡ 0 → ⊥) → count_below (loop_count t) into ≡ suc (count_below (loop_count t) others)
    unfolding others
    counted some = count_remove (loop_count t) (loop_of t v) into own_below (own_entered some)

    enters_none : count_below (loop_count t) into ≡ 0 → past_header t u v ≡ false
    unfolding past_header
    enters_none e = any_none (loop_count t) (λ l. into l && not (eqb (header t l) v)) (λ l b. rw (none_counted (loop_count t) into e l b))

    enters_more : (count_below (loop_count t) into ≡ 0 → ⊥) → (count_below (loop_count t) into ≡ 1 → ⊥) → past_header t u v ≡ true
    unfolding past_header others
    enters_more some more = go (any_below (loop_count t) past) refl
      where
        past : ℕ → Bool
        past l = into l && not (eqb (header t l) v)

        -- a loop entered besides the innermost one has another header
        away : (l : ℕ) → l < loop_count t → past l ≡ false → others l ≡ false
        away l b e = by (into l) refl (ℕ_discrete l (loop_of t v))
          where
            by : (i : Bool) → into l ≡ i → Dec (l ≡ loop_of t v) → (i && not (eqb l (loop_of t v))) ≡ false
            by false i d = refl
            by true i (yes q) = rw (borrow.Author.Tests.eq-eqb l (loop_of t v) q)
            by true i (no ne) = absurd (ne (sym (N.own l b) ∙ ap (loop_of t) (eqb-true (header t l) v (borrow.Author.Tests.not-false _ (rw i at e)))))

        go : (b : Bool) → any_below (loop_count t) past ≡ b → any_below (loop_count t) past ≡ true
        go true q = q
        go false q = absurd (more (counted some ∙ ap suc (count_none (loop_count t) others (λ l b. away l b (none_of (loop_count t) past q l b)))))

    enters_its : count_below (loop_count t) into ≡ 1 → past_header t u v ≡ not (is_header t v)
    unfolding past_header others
    enters_its e = go (is_header t v) refl
      where
        some : count_below (loop_count t) into ≡ 0 → ⊥
        some z = omega arith

        past : ℕ → Bool
        past l = into l && not (eqb (header t l) v)

        alone : (l : ℕ) → l < loop_count t → (l ≡ loop_of t v → ⊥) → into l ≡ false
        alone l b ne = by (into l) refl
          where
            none_else : count_below (loop_count t) others ≡ 0
            none_else = omega (arith, counted some)

            by : (i : Bool) → into l ≡ i → into l ≡ false
            by false i = i
            by true i = absurd (mathlib.Core.Bool.true≢false (sym (both i (rw (ne_eqb l (loop_of t v) ne))) ∙ none_counted (loop_count t) others none_else l b))

        go : (h : Bool) → is_header t v ≡ h → any_below (loop_count t) past ≡ not h
        go true h = any_none (loop_count t) past (λ l b. by l b (ℕ_discrete l (loop_of t v)))
          where
            by : (l : ℕ) → l < loop_count t → Dec (l ≡ loop_of t v) → past l ≡ false
            by l b (yes q) = rw (q, h) (mathlib.Core.Bool.and-false (into (loop_of t v)))
            by l b (no ne) = rw (alone l b ne)
        go false h = any_at (loop_count t) past (loop_of t v) own_below (both (own_entered some) (rw h))

    past : past_by_sets sets t.loops t.headers u v ≡ past_header t u v
    unfolding past_by_sets
    past = rw entered (go (ℕ_discrete (count_below (loop_count t) into) 0) (ℕ_discrete (count_below (loop_count t) into) 1))
      where
        go : Dec (count_below (loop_count t) into ≡ 0) → Dec (count_below (loop_count t) into ≡ 1)
            → (not (eqb (count_below (loop_count t) into) 0) && (not (eqb (count_below (loop_count t) into) 1) || not (is_header t v))) ≡ past_header t u v
        go (yes z) d = rw (eq-eqb _ 0 z) (sym (enters_none z))
        go (no z) (yes o) = rw (ne_eqb _ 0 z, eq-eqb _ 1 o) (sym (enters_its o))
        go (no z) (no o) = rw (ne_eqb _ 0 z, ne_eqb _ 1 o) (sym (enters_more z o))

  any_past : (u : ℕ) → u < block_count t → any_past_by_sets sets t.loops t.firsts t.seconds t.headers u ≡ enters_past_header t u
  unfolding enters_past_header some_edge
  any_past u b = edges_ext t u (past_by_sets sets t.loops t.headers u) (past_header t u) (λ h. past u _ b (N.linked.first_names u b h)) (λ h. past u _ b (N.linked.second_names u b h))

  -- ---- the places
  pub deep_places : first_below (loop_count t) (deep_by_sets sets) ≡ first_below (loop_count t) (too_deep t)
  deep_places = first_ext (loop_count t) (deep_by_sets sets) (too_deep t) depth

  pub past_places : first_below (length t.loops) (any_past_by_sets sets t.loops t.firsts t.seconds t.headers) ≡ first_below (block_count t) (enters_past_header t)
  past_places = rw N.loops (first_ext (block_count t) (any_past_by_sets sets t.loops t.firsts t.seconds t.headers) (enters_past_header t) any_past)
