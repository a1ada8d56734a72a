-- The counts: a step changes one of them at most, and they are then the counts of the definition for every loop. Assumes nothing.
use Rattle.std.proofs.Common.{◌≡◌, refl, sym, ◌∙◌, ap, Bool, true, false, not, ◌&&◌, true≢false, List, ℕ, zero, suc, ◌+◌, ◌-◌, ◌≤◌, ◌<◌, arith, eqb, ltb, ne_eqb, ltb-true, ltb-false, length, get_or, set, replicate, get_or-set_same, get_or-set_other}
use mathlib.Core.Path.{fun_ext}
use native.Mathlib.Decide.{ℕ_discrete}
use lib.Dec.{eqb-suc-zero}
use borrow.Author.Tests.{eqb-false}
use lib.ListN.{get_or-eq_default}
use Rattle.limits.specs.Limits.{most_loops}
use Rattle.lists.specs.Search.{when◌then◌else◌}
use Rattle.wcet.specs.Table.{Routine, block_count, loop_count, loop_of, header, edge, inside, is_header}
use Rattle.wcet.specs.Rules.{structure_rules}
use Rattle.wcet.specs.Run.{next_count, start}
use Rattle.wcet.specs.Claim.{AllHold}
use Rattle.wcet.proofs.Nesting.{Nested, nested}
use Rattle.wcet.proofs.Potential.{inside_own}
use Rattle.wcet.proofs.Entry.{inside_0}
use Rattle.wcet.proofs.Around.{around_above, header_of, enters_one}
use Rattle.loopsets.specs.Sets.{member, set_at}
use Rattle.loopsets.proofs.Laws.{member_around}
use Rattle.levels.proofs.Laws.{nested_parents}
use Rattle.stepping.specs.declared.Run.{Run}
use Rattle.stepping.specs.Step.{first_numbers, header_visits, counts_after, count_in, state_of, Walkable}

module _ (t : Routine) (sets : List ℕ) (S : Walkable t sets) where
  pub nesting : Nested t
  nesting = nested t S.rules

  -- the set of a block's loop has the loops that the block is inside
  pub member_inside : (u l : ℕ) → u < block_count t → l < most_loops → member (set_at sets (loop_of t u)) l ≡ inside t u l
  unfolding inside
  member_inside u l b h = member_around t.parents sets S.sets_around_lem S.ranged.sized.few_loops (loop_of t u) l (nesting.innermost u b) h

  -- what a block is inside of is a loop
  is_loop : (u l : ℕ) → u < block_count t → inside t u l ≡ true → l < loop_count t
  unfolding inside
  is_loop u l b e = go (ltb l (loop_count t)) refl
    where
      go : (x : Bool) → ltb l (loop_count t) ≡ x → l < loop_count t
      go true q = ltb-true l (loop_count t) q
      go false q =
          let own : loop_of t u < loop_count t = nesting.innermost u b in
          let past : loop_count t ≤ l = ltb-false l (loop_count t) q in
          let P = nested_parents t nesting in
          absurd (true≢false (sym e ∙ around_above t.parents P.root P.below (loop_count t) (loop_of t u) l (omega arith)))

  module _ (u v : ℕ) (block : u < block_count t) (there : edge t u v ≡ true) where
    v_block : v < block_count t
    v_block = nesting.target u v block there

    -- no other loop has v as its header: for a loop by 204, for a number that is no loop by 206
    other_header : (l : ℕ) → (l ≡ loop_of t v → ⊥) → header t l ≡ v → ⊥
    other_header l ne e = go (ltb l (loop_count t)) refl
      where
        go : (b : Bool) → ltb l (loop_count t) ≡ b → ⊥
        go true q = ne (header_of t nesting l v (ltb-true l (loop_count t) q) e)
        go false q =
            let past : length t.headers ≤ l = omega (arith, S.ranged.sized.headers, ltb-false l (loop_count t) q) in
            nesting.entry_starts u block (rw (sym e ∙ get_or-eq_default t.headers 0 past) at there)

    module _ (counts : List ℕ) (k : ℕ) (size : length counts ≡ most_loops)
        (visits : k ≡ header_visits (get_or counts (loop_of t v) 0) (is_header t v) (inside t u (loop_of t v))) where
      abbrev after : List ℕ
      after = counts_after counts (loop_of t v) k

      -- a loop that v is outside of
      next_outside : (j : ℕ) → inside t v j ≡ false → count_in t after v j ≡ next_count t u v j (count_in t counts u j)
      unfolding next_count
      next_outside j o = rw (o, ne_eqb (header t j) v (other_header j (λ z. true≢false (sym (inside_own t v) ∙ ap (inside t v) (sym z) ∙ o)))) (go (inside t u j))
        where
          go : (i : Bool) → 0 ≡ (when i && true then 0 else when i then get_or counts j 0 else 0)
          go true = refl
          go false = refl

      -- a loop around v, other than the innermost
      next_outer : (j : ℕ) → inside t v j ≡ true → (j ≡ loop_of t v → ⊥) → count_in t after v j ≡ next_count t u v j (count_in t counts u j)
      unfolding next_count
      next_outer j i ne = rw (i, was (inside t u j) refl, ne_eqb (header t j) v (other_header j ne)) (go (eqb k 0))
        where
          was : (b : Bool) → inside t u j ≡ b → inside t u j ≡ true
          was true e = e
          was false e = absurd (ne (enters_one t nesting u v j block there (is_loop v j v_block i) i e))

          go : (b : Bool) → get_or (when b then counts else set counts (loop_of t v) k) j 0 ≡ get_or counts j 0
          go true = refl
          go false = get_or-set_other counts (loop_of t v) j k 0 ne

      -- the innermost loop
      next_own : count_in t after v (loop_of t v) ≡ next_count t u v (loop_of t v) (count_in t counts u (loop_of t v))
      unfolding next_count
      next_own = rw (inside_own t v, visits) (go (is_header t v) refl (inside t u (loop_of t v)) refl)
        where
          l : ℕ
          l = loop_of t v

          small : l < length counts
          small = omega (arith, size, nesting.innermost v v_block, S.ranged.sized.few_loops)

          go : (b : Bool) → is_header t v ≡ b → (i : Bool) → inside t u l ≡ i
              → get_or (counts_after counts l (header_visits (get_or counts l 0) b i)) l 0
              ≡ (when i && false then 0 else when not b then (when i then get_or counts l 0 else 0) else when i then (when i then get_or counts l 0 else 0) + 1 else 1)
          go true p true q = rw (ne_eqb (get_or counts l 0 + 1) 0 (λ z. omega arith)) (get_or-set_same counts l (get_or counts l 0 + 1) 0 small)
          go true p false q = get_or-set_same counts l 1 0 small
          go false p true q = refl
          go false p false q = absurd (eqb-false (header t (loop_of t v)) v p (nesting.at_header u v (loop_of t v) block there (nesting.innermost v v_block) (inside_own t v) q))

      pub counts_next : (j : ℕ) → count_in t after v j ≡ next_count t u v j (count_in t counts u j)
      counts_next j = go (inside t v j) refl (ℕ_discrete j (loop_of t v))
        where
          go : (i : Bool) → inside t v j ≡ i → Dec (j ≡ loop_of t v) → count_in t after v j ≡ next_count t u v j (count_in t counts u j)
          go false o d = next_outside j o
          go true i (yes e) = rw e next_own
          go true i (no ne) = next_outer j i ne

-- ---- the first block

zeros : (n l : ℕ) → ◌≡◌ {A = ℕ} (get_or (replicate n 0) l 0) 0
zeros zero l = refl
zeros (suc n) zero = refl
zeros (suc n) (suc l) = zeros n l

-- each loop's number
pub first_number : (l : ℕ) → ◌≡◌ {A = ℕ} (get_or first_numbers l 0) (when eqb l 0 then 1 else 0)
first_number zero = refl
first_number (suc l) = zeros (most_loops - 1) l ∙ rw (eqb-suc-zero l)

-- the state
pub start_is : (t : Routine) → AllHold (structure_rules t) → (r : Run) → r.at ≡ 0 → state_of t first_numbers r ≡ start
unfolding start
start_is t rules r e = rw e (ap (λ (f : ℕ → ℕ). record { block = 0; count = f }) (fun_ext first))
  where
    first : (l : ℕ) → count_in t first_numbers 0 l ≡ (when eqb l 0 then 1 else 0)
    first l = rw (inside_0 t (nested t rules) l, first_number l) (go (ℕ_discrete l 0))
      where
        go : Dec (l ≡ 0) → ◌≡◌ {A = ℕ} (when eqb 0 l then (when eqb l 0 then 1 else 0) else 0) (when eqb l 0 then 1 else 0)
        go (yes z) = rw z
        go (no ne) = rw (ne_eqb l 0 ne, ne_eqb 0 l (λ e. ne (sym e)))
