-- The multipliers and the tails at the headers, depth by depth from the deepest loops out: below the cap the words are exact, and at the cap
-- they are over the limit, as the tails are. Assumes nothing.
use Rattle.std.proofs.Common.{◌≡◌, refl, sym, ◌∙◌, ap, Bool, true, false, true≢false, List, [], ℕ, ◌+◌, ◌-◌, ◌^◌, ◌≤◌, ◌<◌, arith, eqb, ltb, ℤ, pos, length, get_or}
use mathlib.Core.Option.{Option, none, some}
use native.Mathlib.Decide.{ℕ_discrete}
use borrow.Author.Tests.{lt-ltb, le-ltb}
use Rattle.limits.specs.Limits.{most_blocks, most_depth}
use Rattle.lists.specs.Search.{when◌then◌else◌}
use Rattle.lists.proofs.Search.{any_none, any_at}
use Rattle.wcet.specs.Table.{Routine, block_count, loop_count, cost, header, some_edge, edge, inside}
use Rattle.wcet.specs.Rules.{structure_rules}
use Rattle.wcet.specs.Claim.{AllHold}
use Rattle.wcet.specs.Cycles.{back_edge, forward_edge}
use Rattle.wcet.proofs.Nesting.{Nested, nested}
use Rattle.wcet.proofs.Counts.{header_inside}
use Rattle.loopsets.specs.Sets.{sets_around}
use Rattle.nesting.specs.Columns.{Ranged}
use Rattle.nesting.proofs.Stages.{headed}
use Rattle.order.specs.Ordering.{Topological}
use Rattle.levels.specs.Levels.{depth, Deep}
use Rattle.levels.proofs.Laws.{depth_root, depth_least, depth_one, depth_inner}
use Rattle.optimum.specs.Remade.{with_columns}
use Rattle.optimum.specs.Columns.{or_default, tails, remade_multipliers, remultiplied}
use Rattle.optimum.specs.Replies.{multiplier_over}
use Rattle.optimum.proofs.Columns.{nested_too}
use Rattle.optimum.proofs.Steps.{tails_inner}
use Rattle.optimum.proofs.Multipliers.{loop0_multiplier, made_multiplier}
use Rattle.tails.specs.Words.{most_tail, no_tail, word_of, cap}
use Rattle.tails.specs.Slots.{nowhere, SlotsOf}
use Rattle.tails.specs.Passes.{Passed, GatesSet, Gates, Weights, PassOf, tail_in, Filled}
use Rattle.multipliers.specs.Columns.{HeadersClosed, kept_at, TailsKept, round_by, RoundsTaken, MultipliedOf}
use Rattle.multipliers.proofs.Headers.{word_more, no_tail_lem, weights_first, weights_next, weights_one, weights_last}

-- ---- at the limit

over_cap : (o : Option ℕ) → 2 ^ 40 < or_default 0 (cap most_tail o) → 2 ^ 40 < or_default 0 o
unfolding or_default cap
over_cap none h = h
over_cap (some a) h = omega arith

under_cap : (o : Option ℕ) → or_default 0 (cap most_tail o) ≤ 2 ^ 40 → or_default 0 (cap most_tail o) ≡ or_default 0 o
unfolding or_default cap
under_cap none h = refl
under_cap (some a) h = omega arith

-- ---- with other columns

-- an order reads neither figures nor multipliers
pub topological_with : (t : Routine) (fs : List ℤ) (ks order : List ℕ) → Topological t order → Topological (with_columns t fs ks) order
unfolding forward_edge edge some_edge back_edge inside
topological_with t fs ks order O = record { position = O.position; within = O.within; there = O.there; block = O.block; index = O.index; rises = O.rises }

-- ---- gates

gate_word : (a b : Bool) (c : ℕ) → word_of (when a then (when b then pos 0 else pos c) else no_tail) ≡ (when a then (when b then some 0 else some c) else none)
gate_word true true c = word_more 0
gate_word true false c = word_more c
gate_word false b c = no_tail_lem

-- ---- down to depth d

-- the loops deeper than d are done
pub record Multiplying (t : Routine) (made : List ℕ) (weights kept : List ℤ) (d : ℕ) : Type 0 where
  pub done : (k : ℕ) → k < loop_count t → d < depth t.parents k → get_or made k 0 ≡ get_or (remade_multipliers t) k 0
  pub loop0 : get_or made 0 0 ≡ 0
  pub weights_say : Weights (with_columns t [] made) d weights
  pub kept_tails : (l j : ℕ) → l < loop_count t → j < loop_count t → inside t (header t l) j ≡ true → d < depth t.parents j
      → word_of (get_or kept (kept_at l (depth t.parents j)) (pos 0)) ≡ cap most_tail (tails (remultiplied t) j (header t l))

module _ (t : Routine) (rules : AllHold (structure_rules t)) (depths : List ℕ) (deepest : ℕ) (D : Deep t.parents depths deepest) where
  abbrev N : Nested t
  N = nested t rules

  abbrev R : Ranged t
  R = (headed t rules).ranged

  abbrev deep_of : ℕ → ℕ
  deep_of k = depth t.parents k

  in_headers : (l : ℕ) → l < loop_count t → l < length t.headers
  in_headers l b = omega (arith, R.sized.headers)

  pub multiplying_first : (made : List ℕ) (weights kept : List ℤ) → ((l : ℕ) → get_or made l 0 ≡ 0) → HeadersClosed t.costs t.headers weights → Multiplying t made weights kept deepest
  multiplying_first made weights kept zeros C = record {
    done = λ k b h. absurd (omega (arith, D.most k b));
    loop0 = zeros 0;
    weights_say = weights_first t rules made weights deepest zeros D.most C;
    kept_tails = λ l j b c i h. absurd (omega (arith, D.most j c));
  }

  -- ---- one pass

  module _ (few : deepest ≤ most_depth) (sets firstSlots secondSlots order : List ℕ) (A : sets ≡ sets_around t.parents) (O : Topological t order)
      (first_slots : SlotsOf sets t.loops t.headers t.firsts firstSlots) (second_slots : SlotsOf sets t.loops t.headers t.seconds secondSlots)
      (made : List ℕ) (weights kept : List ℤ) (d : ℕ) (some-depth : 1 ≤ d) (at_most : d ≤ deepest) (M : Multiplying t made weights kept d)
      (low : (l : ℕ) → l < length t.headers → get_or made l 0 ≤ 2 ^ 40) (values gated filled kept' : List ℤ) (empty : get_or values nowhere (pos 0) ≡ no_tail)
      (G : GatesSet t.costs t.headers depths d values gated) (F : Filled weights firstSlots secondSlots order (block_count t) gated filled)
      (K : TailsKept filled firstSlots secondSlots t.headers depths d kept kept') where
    abbrev so_far : Routine
    so_far = with_columns t [] made

    passed : Passed so_far
    passed = record { figures = t.figures; multipliers = t.multipliers; rules = rules; loop0_multiplier = M.loop0; multiplier_most = λ l b. low l (in_headers l b) }

    gates : Gates so_far d gated
    gates = record { gate = gate; empty = ap word_of (G.after nowhere (omega (arith, R.sized.headers, R.sized.few_loops)) ∙ empty) ∙ no_tail_lem }
      where
        gate : (k : ℕ) → k < loop_count t → word_of (get_or gated (most_blocks + k) (pos 0)) ≡ (when eqb (deep_of k) d then (when eqb k 0 then some 0 else some (cost t (header t k))) else none)
        gate k b = rw (sym (D.same k b)) (ap word_of (G.gate k (in_headers k b)) ∙ gate_word (eqb (get_or depths k 0) d) (eqb k 0) (cost t (header t k)))

    pass : PassOf so_far d sets weights firstSlots secondSlots order gated
    pass = record { passed = passed; sets_around_lem = A; ordered = topological_with t [] made order O; first_slots = first_slots; second_slots = second_slots; weights_say = M.weights_say; gates = gates }

    -- the tails of a loop of this depth, by these multipliers and by all
    module _ (j : ℕ) (c : j < loop_count t) (own : deep_of j ≡ d) where
      inner : (k : ℕ) → k < loop_count t → inside t (header t k) j ≡ true → (k ≡ j → ⊥) → get_or made k 0 ≡ get_or (remade_multipliers t) k 0
      unfolding inside
      inner k b i ne = M.done k b (omega (arith, own, depth_inner t.parents R.parents k j b c (rw (N.own k b) at i) ne))

      same_tail : (x : ℕ) → x < block_count t → inside t x j ≡ true → tails so_far j x ≡ tails (remultiplied t) j x
      unfolding inside
      same_tail x b i = tails_inner so_far (nested_too t [] made N M.loop0) j c [] (remade_multipliers t) inner (block_count t) x b i

      tail_word : (x : ℕ) → x < block_count t → inside t x j ≡ true → word_of (tail_in firstSlots secondSlots filled x) ≡ cap most_tail (tails (remultiplied t) j x)
      unfolding inside
      tail_word x b i = F.says so_far d sets refl pass x j b c i own ∙ ap (cap most_tail) (same_tail x b i)

    -- a loop around l is not deeper
    not_deeper : (l j : ℕ) → l < loop_count t → j < loop_count t → inside t (header t l) j ≡ true → deep_of j ≤ deep_of l
    unfolding inside
    not_deeper l j b c i = go (ℕ_discrete l j)
      where
        go : Dec (l ≡ j) → deep_of j ≤ deep_of l
        go (yes q) = omega (arith, ap deep_of q)
        go (no ne) = omega (arith, depth_inner t.parents R.parents l j b c (rw (N.own l b) at i) ne)

    kept_next : (l j : ℕ) → l < loop_count t → j < loop_count t → inside t (header t l) j ≡ true → d - 1 < deep_of j
        → word_of (get_or kept' (kept_at l (deep_of j)) (pos 0)) ≡ cap most_tail (tails (remultiplied t) j (header t l))
    kept_next l j b c i h = go (ℕ_discrete (deep_of j) d)
      where
        go : Dec (deep_of j ≡ d) → word_of (get_or kept' (kept_at l (deep_of j)) (pos 0)) ≡ cap most_tail (tails (remultiplied t) j (header t l))
        go (yes o) = rw o (ap word_of (K.kept l (in_headers l b) (omega (arith, D.same l b, not_deeper l j b c i, o))) ∙ tail_word j c o (header t l) (N.header_block l b) i)
        go (no ne) =
            ap word_of (K.rest (kept_at l (deep_of j)) (λ k a q. omega (arith, q, D.most j c, depth_least t.parents R.parents j, ne))) ∙ M.kept_tails l j b c i (omega (arith, ne))

    -- ---- at depth 1

    pub multiplying_last : d ≤ 1 → Multiplying t made weights kept' 0
    multiplying_last one = record {
      done = λ k b h. done k b (ℕ_discrete (deep_of k) 1);
      loop0 = M.loop0;
      weights_say = weights_one t rules made weights (rw is_one at M.weights_say);
      kept_tails = λ l j b c i h. kept_next l j b c i (omega arith);
    }
      where
        is_one : d ≡ 1
        is_one = omega arith

        done : (k : ℕ) → k < loop_count t → Dec (deep_of k ≡ 1) → get_or made k 0 ≡ get_or (remade_multipliers t) k 0
        done k b (yes o) = rw (depth_one t.parents R.parents k b o) (M.loop0 ∙ sym (loop0_multiplier t N))
        done k b (no ne) = M.done k b (omega (arith, depth_least t.parents R.parents k, ne))

    -- ---- deeper

    module _ (deep : 1 < d) where
      -- the round of a loop of this depth, by the words and exactly
      module _ (l : ℕ) (b : l < loop_count t) (own : deep_of l ≡ d) where
        exact : Option ℕ
        exact = tails (remultiplied t) l (header t l)

        by_words : round_by kept' d l ≡ or_default 0 (cap most_tail exact)
        unfolding exact
        by_words = ap (or_default 0) (rw own at (kept_next l l b b (header_inside t N l b) (omega (arith, own))))

        positive : 0 < l
        positive = go (ℕ_discrete l 0)
          where
            go : Dec (l ≡ 0) → 0 < l
            go (yes z) = absurd (omega (arith, own, depth_root t.parents R.parents, ap deep_of z))
            go (no ne) = omega arith

        remade : get_or (remade_multipliers t) l 0 ≡ or_default 0 exact
        unfolding exact
        remade = made_multiplier t N l positive b

      pub multiplying_over : (made' : List ℕ) (weights' : List ℤ) → RoundsTaken kept' t.costs t.headers t.limits depths d made weights true made' weights' → multiplier_over (remultiplied t) ≡ true
      unfolding multiplier_over
      multiplying_over made' weights' T =
          let H = T.high refl in
          let l = H.0 in
          let b : l < loop_count t = omega (arith, H.1, R.sized.headers) in
          let own : deep_of l ≡ d = sym (D.same l b) ∙ H.2 in
          any_at (loop_count t) (λ l. ltb (2 ^ 40) (get_or (remade_multipliers t) l 0)) l b
          (lt-ltb (2 ^ 40) (get_or (remade_multipliers t) l 0) (rw (remade l b own) (over_cap (exact l b own) (rw (by_words l b own) at H.3))))

      module _ (made' : List ℕ) (weights' : List ℤ) (T : RoundsTaken kept' t.costs t.headers t.limits depths d made weights false made' weights') where
        others : (k : ℕ) → k < loop_count t → (deep_of k ≡ d → ⊥) → get_or made' k 0 ≡ get_or made k 0
        others k b ne = T.others refl k (λ q. ne (sym (D.same k b) ∙ q))

        pub multiplying_next : Multiplying t made' weights' kept' (d - 1)
        multiplying_next = record {
          done = λ k b h. done k b h (ℕ_discrete (deep_of k) d);
          loop0 = others 0 N.some_loop (λ q. omega (arith, q, depth_root t.parents R.parents)) ∙ M.loop0;
          weights_say = weights_next t rules d deep kept' depths made weights made' weights' D.same M.weights_say T;
          kept_tails = kept_next;
        }
          where
            done : (k : ℕ) → k < loop_count t → d - 1 < deep_of k → Dec (deep_of k ≡ d) → get_or made' k 0 ≡ get_or (remade_multipliers t) k 0
            done k b h (yes o) =
                let w = T.taken refl k (in_headers k b) (D.same k b ∙ o) in
                let e : get_or made' k 0 ≡ or_default 0 (cap most_tail (exact k b o)) = w.0 ∙ by_words k b o in
                let u : or_default 0 (cap most_tail (exact k b o)) ≤ 2 ^ 40 = omega (arith, w.1, e) in
                e ∙ under_cap (exact k b o) u ∙ sym (remade k b o)
            done k b h (no ne) = others k b ne ∙ M.done k b (omega (arith, ne))

  -- ---- the end

  pub multiplied_over : (made : List ℕ) (weights kept : List ℤ) → multiplier_over (remultiplied t) ≡ true → MultipliedOf t true made weights kept
  multiplied_over made weights kept e = record { tested = sym e; same = λ q. absurd (true≢false q); weighed = λ q. absurd (true≢false q); kept_tails = λ q. absurd (true≢false q) }

  pub multiplied_all : (made : List ℕ) (weights kept : List ℤ) → ((l : ℕ) → l < length t.headers → get_or made l 0 ≤ 2 ^ 40) → Multiplying t made weights kept 0 → MultipliedOf t false made weights kept
  unfolding multiplier_over
  multiplied_all made weights kept low M = record {
    tested = sym (any_none (loop_count t) (λ l. ltb (2 ^ 40) (get_or (remade_multipliers t) l 0)) (λ l b. le-ltb (2 ^ 40) (get_or (remade_multipliers t) l 0) (omega (arith, low l (in_headers l b), all l b))));
    same = λ q. all;
    weighed = λ q x b. weights_last t rules made (remade_multipliers t) weights M.weights_say all x b;
    kept_tails = λ q l j b c i. M.kept_tails l j b c i (depth_least t.parents R.parents j);
  }
    where
      all : (l : ℕ) → l < loop_count t → get_or made l 0 ≡ get_or (remade_multipliers t) l 0
      all l b = M.done l b (depth_least t.parents R.parents l)
