-- The tails are attained. Where loop l's tail at x is a number, some walk inside l from x to l's header, or from x to the exit for loop 0,
-- costs that (`arrives`, at l's header): it follows the successors that the tail comes from, and at each header that it enters it takes that
-- loop's costliest round as often as the limit lets it. So some round of a loop costs its multiplier (`round_attained`), and some finished
-- counted run costs the bound (`run_made`). Assumes nothing.
use mathlib.Core.Path.{◌≡◌, refl, sym, ◌∙◌, ap}
use mathlib.Core.Bool.{Bool, true, false, not, ◌&&◌}
use mathlib.Core.List.{List, [], ◌∷◌, ◌++◌}
use mathlib.Core.Logic.{inl, inr}
use mathlib.Core.Option.{Option, none, some}
use Prim.Native.Nat.{ℕ, zero, suc, ◌+◌, ◌*◌, ◌-◌, ◌≤◌, ◌<◌}
use native.Mathlib.Omega.{arith}
use lib.Dec.{eqb, ltb}
use borrow.Author.Tests.{eqb-true, eqb-false, le-ltb, not-true}
use lib.IntN.{pos}
use Rattle.lists.specs.Search.{when◌then◌else◌}
use Rattle.lists.proofs.Tests.{and-true, both}
use Rattle.lists.proofs.Search.{any_none}
use Rattle.integers.proofs.Laws.{ints}
use Rattle.wcet.specs.Table.{Routine, block_count, loop_count, exit, cost, loop_of, header, limit, multiplier, edge, inside, is_header}
use Rattle.wcet.specs.Rules.{bound}
use Rattle.wcet.specs.Run.{path, run, run_cost, State, start, next, after, passes_limit, keeps_limits, counted_run}
use Rattle.wcet.specs.Claim.{FinishedRun}
use Rattle.wcet.specs.Cycles.{back_edge}
use Rattle.wcet.proofs.Entry.{inside_0}
use Rattle.wcet.proofs.Limits.{WithinLimits, limits_kept}
use Rattle.wcet.proofs.Nesting.{Nested}
use Rattle.wcet.proofs.Counts.{header_inside}
use Rattle.optimum.specs.Rounds.{round_start, passes_inner, keeps_inner, Round, round_cost}
use Rattle.optimum.specs.Tails.{weight}
use Rattle.optimum.proofs.Local.{LocallyMade, Ranked}
use Rattle.optimum.proofs.Structure.{target_loop, enters_above}
use Rattle.optimum.proofs.Joined.{end_last, copies, cost_joined, cost_copies, path_joined}
use Rattle.optimum.proofs.Tails.{along_paths}
use Rattle.optimum.proofs.Figures.{feasible}
use Rattle.optimum.proofs.Rounds.{InnerKept}
use Rattle.optimum.proofs.Stretch.{Stretch, at_rest, joined, one_edge, turn_others, all_rounds}

-- ---- walks

-- a stretch of loop l from x to v that costs c
abbrev Hop : Routine → (l x v c : ℕ) → Type 0
Hop t l x v c = (w : List ℕ) × Stretch t l x w v × (run_cost t w ≡ c)

-- a stretch of loop l from x, at whose end an edge leads to l's header, or for loop 0 the exit stands; it costs c, that header counted
pub record Arrives (t : Routine) (l x c : ℕ) : Type 0 where
  pub blocks : List ℕ
  pub last : ℕ
  pub way : Stretch t l x blocks last
  pub home : 0 < l → (edge t last (header t l) ≡ true) × (run_cost t blocks + cost t (header t l) ≡ c)
  pub out : l ≡ 0 → (last ≡ exit t) × (run_cost t blocks ≡ c)

module _ (t : Routine) (N : Nested t) (M : LocallyMade t) (K : Ranked t) where
  module _ (l : ℕ) (bl : l < loop_count t) (inner : (k c : ℕ) → l < k → k < loop_count t → M.tail k (header t k) ≡ some c → Arrives t k (header t k) c) where
    -- an edge into loop k, and all its rounds but the first visit
    into : (x k : ℕ) → k < loop_count t → l < k → x < block_count t → inside t x l ≡ true → inside t (header t k) l ≡ true
        → edge t x (header t k) ≡ true → back_edge t x (header t k) ≡ false → Hop t l x (header t k) (cost t (header t k) + multiplier t k * (limit t k - 1))
    unfolding run_cost
    into x k bk lk bx ix ik e r = go (M.tail k (header t k)) refl
      where
        go : (o : Option ℕ) → M.tail k (header t k) ≡ o → Hop t l x (header t k) (cost t (header t k) + multiplier t k * (limit t k - 1))
        go none q = (header t k ∷ [], one_edge t N l x (header t k) bl bx ix ik e r, rw (M.no_round k (omega arith) bk q) (omega arith))
        go (some c) q =
            let A : Arrives t k (header t k) c = inner k c lk bk q in
            let h : (edge t A.last (header t k) ≡ true) × (run_cost t A.blocks + cost t (header t k) ≡ c) = A.home (omega arith) in
            let one : run_cost t (A.blocks ++ header t k ∷ []) ≡ c = omega (arith, cost_joined t A.blocks (header t k ∷ []), h.1) in (
              header t k ∷ copies (limit t k - 1) (A.blocks ++ header t k ∷ []),
              all_rounds t N k bk A.blocks A.last A.way h.0 l x (limit t k - 1) lk bx ix ik e r (omega (arith, N.limit_least k bk)),
              rw (M.some_round k c (omega arith) bk q, cost_copies t (limit t k - 1) (A.blocks ++ header t k ∷ []), one),
            )

    -- a forward edge, with the rounds of the loop that it enters
    hop : (x v : ℕ) → x < block_count t → inside t x l ≡ true → inside t v l ≡ true → edge t x v ≡ true → back_edge t x v ≡ false → Hop t l x v (weight t v)
    unfolding weight run_cost
    hop x v bx ix iv e r = go (is_header t v) refl
      where
        k : ℕ
        k = loop_of t v

        bk : k < loop_count t
        bk = target_loop t N x v bx e

        go : (h : Bool) → is_header t v ≡ h → Hop t l x v (when h then cost t v + multiplier t k * (limit t k - 1) else cost t v)
        go false h = (v ∷ [], one_edge t N l x v bl bx ix iv e r, omega arith)
        go true h =
            let q : header t k ≡ v = eqb-true (header t k) v h in
            rw q at (into x k bk (enters_above t N x v bx e l bl ix iv h r) bx ix (rw q iv) (rw q e) (rw q r))

    -- along the paths
    from : (x c : ℕ) → x < block_count t → inside t x l ≡ true → M.tail l x ≡ some c → Arrives t l x c
    unfolding run_cost
    from =
        along_paths t N K M.tail M.tails l bl (Arrives t l)
        (λ x b i z e. record { blocks = []; last = x; way = at_rest t l x b i; home = λ p. absurd (omega arith); out = λ p. (e, refl) })
        (λ x b i nz e. record { blocks = []; last = x; way = at_rest t l x b i; home = λ p. (e, omega arith); out = λ p. absurd (nz p) })
        (λ x v a b i e j r A.
        let P : Hop t l x v (weight t v) = hop x v b i j e r in
        record {
          blocks = P.0 ++ A.blocks;
          last = A.last;
          way = joined t l x v A.last P.0 A.blocks P.1 A.way;
          home = λ z. ((A.home z).0, omega (arith, cost_joined t P.0 A.blocks, P.2, (A.home z).1));
          out = λ z. ((A.out z).0, omega (arith, cost_joined t P.0 A.blocks, P.2, (A.out z).1));
        })

  -- by the loops' numbers, the highest first
  pub arrives : (d l c : ℕ) → loop_count t ≤ l + d → l < loop_count t → M.tail l (header t l) ≡ some c → Arrives t l (header t l) c
  arrives zero l c h bl e = absurd (omega arith)
  arrives (suc d) l c h bl e =
      from l bl (λ k a lk bk. arrives d k a (omega arith) bk) (header t l) c (N.header_block l bl) (header_inside t N l bl) e

-- ---- rounds and runs

-- all loops but l are within their limits
kept_inner : (t : Routine) (l : ℕ) (s : State) → InnerKept t l s → not (passes_inner t l s) ≡ true
unfolding passes_inner
kept_inner t l s h = rw (any_none (loop_count t) (λ k. not (eqb k l) && ltb (limit t k) (s.count k)) (λ k b. go k b (eqb k l) refl))
  where
    go : (k : ℕ) → k < loop_count t → (x : Bool) → eqb k l ≡ x → (not x && ltb (limit t k) (s.count k)) ≡ false
    go k b true q = refl
    go k b false q = le-ltb (limit t k) (s.count k) (h k b (eqb-false k l q))

-- a list that keeps the limits, and one block more, at which all loops but l are within theirs
keeps_inner_lem : (t : Routine) (l : ℕ) (w : List ℕ) (s : State) (v : ℕ) → keeps_limits t s w ≡ true
    → InnerKept t l (next t (after t s w) v) → keeps_inner t l s (w ++ v ∷ []) ≡ true
unfolding keeps_limits keeps_inner after
keeps_inner_lem t l [] s v k h = both (kept_inner t l s (λ j b ne. limits_kept t s (not-true _ k) j b)) (kept_inner t l (next t s v) h)
keeps_inner_lem t l (u ∷ w) s v k h =
    let p : (not (passes_limit t s) ≡ true) × (keeps_limits t (next t s u) w ≡ true) = and-true _ _ k in
    both (kept_inner t l s (λ j b ne. limits_kept t s (not-true _ p.0) j b)) (keeps_inner_lem t l w (next t s u) v p.1 h)

at_most_once : (b : Bool) (n : ℕ) → 1 ≤ n → (when b then 1 else 0) ≤ n
at_most_once true n h = h
at_most_once false n h = omega arith

module _ (t : Routine) (N : Nested t) (M : LocallyMade t) (K : Ranked t) where
  open N use {limit_least}

  arrived : (l k : ℕ) → l < loop_count t → M.tail l (header t l) ≡ some k → Arrives t l (header t l) k
  arrived l k b e = arrives t N M K (loop_count t) l k (omega arith) b e

  pub round_attained : (l k : ℕ) → 0 < l → l < loop_count t → M.tail l (header t l) ≡ some k → (w : List ℕ) × Round t l w × (round_cost t l w ≡ k)
  unfolding run_cost path round_start
  round_attained l k z b e = (
    R.blocks,
    record {
      follows = path_joined t R.blocks (header t l ∷ []) (header t l) R.way.way.follows (rw (R.way.way.ends, (R.home z).0));
      stays = R.way.way.stays l (header_inside t N l b);
      first_return = R.way.avoids;
      kept =
          keeps_inner_lem t l R.blocks (round_start t l) (header t l) (R.way.keeps (round_start t l) refl begins)
          (turn_others t N l b R.blocks R.last R.way (R.home z).0 (round_start t l) refl begins);
    },
    omega (arith, cost_joined t R.blocks (header t l ∷ []), (R.home z).1),
  )
    where
      R : Arrives t l (header t l) k
      R = arrived l k b e

      begins : WithinLimits t (round_start t l)
      begins = λ j c. at_most_once (eqb j l) (limit t j) (limit_least j c)

  pub run_attained : (k : ℕ) → M.tail 0 0 ≡ some k → (w : List ℕ) × FinishedRun t w × (run_cost t w ≡ cost t 0 + k)
  unfolding run_cost counted_run run start
  run_attained k e = (
    0 ∷ R.blocks,
    record {
      counted = both R.way.way.follows (R.way.keeps start refl (λ j c. at_most_once (eqb j 0) (limit t j) (limit_least j c)));
      at_exit = end_last R.blocks 0 ∙ R.way.way.ends ∙ (R.out refl).0;
    },
    ap (λ (c : ℕ). cost t 0 + c) (R.out refl).1,
  )
    where
      R : Arrives t 0 0 k
      R = rw N.loop0_header at (arrived 0 k N.some_loop (rw N.loop0_header e))

  -- and that is the bound
  pub run_made : (w : List ℕ) × FinishedRun t w × (pos (run_cost t w) ≡ bound t)
  unfolding bound
  run_made = elim (M.from 0 (omega (arith, N.two_blocks))) [
    | inl p ↦
        let R : (w : List ℕ) × FinishedRun t w × (run_cost t w ≡ cost t 0 + p.0) = run_attained p.0 p.1 in
        (R.0, R.1, rw (p.2, (feasible t N M).at_exit, R.2) (omega ints))
    | inr p ↦ absurd (omega (arith, p.2, eqb-true 0 p.0 (sym (inside_0 t N p.0) ∙ p.4)))
  ]
