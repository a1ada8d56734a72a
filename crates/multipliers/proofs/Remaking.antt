-- The multipliers depth by depth, of every routine that has the columns. Assumes nothing.
use Rattle.std.proofs.Common.{◌≡◌, refl, sym, ◌∙◌, Bool, true, false, true≢false, List, ℕ, ◌+◌, ◌-◌, ◌^◌, ◌≤◌, ◌<◌, arith, eqb, ltb, ℤ, pos, length, get_or, replicate}
use native.Mathlib.Decide.{ℕ_discrete}
use borrow.Author.Tests.{ltb-true, ltb-false}
use lib.ListN.{get_or-replicate}
use Rattle.limits.specs.Limits.{most_blocks, most_loops}
use Rattle.lists.specs.Search.{when◌then◌else◌}
use Rattle.wcet.specs.Table.{Routine, block_count}
use Rattle.wcet.specs.Rules.{structure_rules}
use Rattle.wcet.specs.Claim.{AllHold}
use Rattle.loopsets.specs.Sets.{sets_around}
use Rattle.order.specs.Ordering.{Topological}
use Rattle.levels.specs.Levels.{Deep}
use Rattle.integers.proofs.Laws.{ints}
use Rattle.tails.specs.Words.{no_tail, Word, Low}
use Rattle.tails.specs.Slots.{places, nowhere, SlotsOf}
use Rattle.tails.specs.Passes.{GatesSet, Filled}
use Rattle.multipliers.specs.Columns.{HeadersClosed, TailsKept, RoundsTaken, Readied, Multiplied, MultipliedOf}
use Rattle.multipliers.proofs.Weights.{none_low, cost_word}
use Rattle.multipliers.proofs.Multipliers.{Multiplying, multiplying_first, multiplying_last, multiplying_over, multiplying_next, multiplied_over, multiplied_all}

gate_low : (a b : Bool) (c : ℕ) → c ≤ 1000000 → Word (when a then (when b then pos 0 else pos c) else no_tail)
gate_low true true c h = record { least = omega ints; most = omega ints }
gate_low true false c h = cost_word c (omega arith)
gate_low false b c h = record { least = omega ints; most = omega ints }

module _ (costs headers limits depths : List ℕ) (deepest : ℕ) (firstSlots secondSlots order : List ℕ) where
  -- a routine that this may be about
  pub record About (t : Routine) (sets : List ℕ) : Type 0 where
    pub costs_same : t.costs ≡ costs
    pub headers_same : t.headers ≡ headers
    pub limits_same : t.limits ≡ limits
    pub rules : AllHold (structure_rules t)
    pub sets_around_lem : sets ≡ sets_around t.parents
    pub deep : Deep t.parents depths deepest
    pub ordered : Topological t order
    pub first_slots : SlotsOf sets t.loops t.headers t.firsts firstSlots
    pub second_slots : SlotsOf sets t.loops t.headers t.seconds secondSlots

  -- the loops deeper than d are done
  pub record Remaking (values : List ℤ) (made : List ℕ) (weights kept : List ℤ) (d : ℕ) : Type 0 where
    pub at_most : d ≤ deepest
    pub values_size : length values ≡ places
    pub values_low : Low values
    pub empty : get_or values nowhere (pos 0) ≡ no_tail
    pub made_size : length made ≡ most_loops
    pub made_low : (l : ℕ) → l < length headers → get_or made l 0 ≤ 2 ^ 40
    pub weights_size : length weights ≡ most_blocks
    pub weights_low : Low weights
    pub kept_size : length kept ≡ most_blocks
    pub kept_low : Low kept
    pub says : (t : Routine) (sets : List ℕ) → About t sets → Multiplying t made weights kept d

  module _ (Y : Readied costs headers limits deepest firstSlots secondSlots order) where
    pub remaking_first : (made : List ℕ) (weights kept : List ℤ) → length made ≡ most_loops → ((l : ℕ) → get_or made l 0 ≡ 0) → length kept ≡ most_blocks → Low kept
        → HeadersClosed costs headers weights → Remaking (replicate places no_tail) made weights kept deepest
    remaking_first made weights kept s z k low C = record {
      at_most = omega arith;
      values_size = refl;
      values_low = none_low places;
      empty = get_or-replicate places nowhere no_tail (pos 0) (omega arith);
      made_size = s;
      made_low = λ l b. omega (arith, z l);
      weights_size = C.size;
      weights_low = C.low;
      kept_size = k;
      kept_low = low;
      says = λ t sets A. multiplying_first t A.rules depths deepest A.deep made weights kept z (rw (sym A.costs_same, sym A.headers_same) at C);
    }

    module _ (values : List ℤ) (made : List ℕ) (weights kept : List ℤ) (d : ℕ) (some-depth : 0 < d) (M : Remaking values made weights kept d) (gated : List ℤ) (G : GatesSet costs headers depths d values gated) where
      -- the gates are low
      pub gated_low : Low gated
      gated_low i = go (ltb i most_blocks) (ltb i (most_blocks + length headers)) refl refl
        where
          go : (a b : Bool) → ltb i most_blocks ≡ a → ltb i (most_blocks + length headers) ≡ b → Word (get_or gated i (pos 0))
          go true b p q = rw (G.rest i (ltb-true i most_blocks p)) (M.values_low i)
          go false true p q =
              let l = i - most_blocks in
              let e : most_blocks + l ≡ i = omega (arith, ltb-false i most_blocks p) in
              let c : l < length headers = omega (arith, ltb-true i (most_blocks + length headers) q, ltb-false i most_blocks p) in
              let g : get_or gated i (pos 0) ≡ (when eqb (get_or depths l 0) d then (when eqb l 0 then pos 0 else pos (get_or costs (get_or headers l 0) 0)) else no_tail) = rw e at (G.gate l c) in
              rw g (gate_low (eqb (get_or depths l 0) d) (eqb l 0) (get_or costs (get_or headers l 0) 0) (Y.cost_most (get_or headers l 0) (Y.header_block l c)))
          go false false p q = rw (G.after i (ltb-false i (most_blocks + length headers) q)) (M.values_low i)

      pub gated_size : length gated ≡ places
      gated_size = G.size ∙ M.values_size

      module _ (filled : List ℤ) (F : Filled weights firstSlots secondSlots order (length costs) gated filled) (kept' : List ℤ) (K : TailsKept filled firstSlots secondSlots headers depths d kept kept') where
        still_empty : get_or filled nowhere (pos 0) ≡ no_tail
        still_empty = F.rest nowhere (omega (arith, Y.slotted.few)) ∙ G.after nowhere (omega (arith, Y.few_loops)) ∙ M.empty

        pub kept_again : Low kept'
        kept_again = K.low M.kept_low F.low

        -- of one such routine
        module _ (t : Routine) (sets : List ℕ) (A : About t sets) where
          its_low : (l : ℕ) → l < length t.headers → get_or made l 0 ≤ 2 ^ 40
          its_low l b = M.made_low l (rw A.headers_same at b)

          its_gates : GatesSet t.costs t.headers depths d values gated
          its_gates = rw (sym A.costs_same, sym A.headers_same) at G

          its_values : Filled weights firstSlots secondSlots order (block_count t) gated filled
          its_values = rw (sym A.costs_same) at F

          its_tails : TailsKept filled firstSlots secondSlots t.headers depths d kept kept'
          its_tails = rw (sym A.headers_same) at K

          its_last : d ≤ 1 → Multiplying t made weights kept' 0
          its_last =
              multiplying_last t A.rules depths deepest A.deep Y.deep sets firstSlots secondSlots order A.sets_around_lem A.ordered A.first_slots A.second_slots made weights kept d some-depth
              M.at_most (M.says t sets A) its_low values gated filled kept' M.empty its_gates its_values its_tails

          module _ (deep : 1 < d) (made' : List ℕ) (weights' : List ℤ) where
            its_over : RoundsTaken kept' costs headers limits depths d made weights true made' weights' → MultipliedOf t true made' weights' kept'
            its_over T =
                multiplied_over t A.rules depths deepest A.deep made' weights' kept'
                (multiplying_over t A.rules depths deepest A.deep Y.deep sets firstSlots secondSlots order A.sets_around_lem A.ordered A.first_slots A.second_slots made weights kept d some-depth
                M.at_most (M.says t sets A) its_low values gated filled kept' M.empty its_gates its_values its_tails deep made' weights'
                (rw (sym A.costs_same, sym A.headers_same, sym A.limits_same) at T))

            its_next : RoundsTaken kept' costs headers limits depths d made weights false made' weights' → Multiplying t made' weights' kept' (d - 1)
            its_next T =
                multiplying_next t A.rules depths deepest A.deep Y.deep sets firstSlots secondSlots order A.sets_around_lem A.ordered A.first_slots A.second_slots made weights kept d some-depth
                M.at_most (M.says t sets A) its_low values gated filled kept' M.empty its_gates its_values its_tails deep made' weights'
                (rw (sym A.costs_same, sym A.headers_same, sym A.limits_same) at T)

        -- at depth 1
        pub remaking_last : d ≤ 1 → Remaking filled made weights kept' (d - 1)
        remaking_last one = record {
          at_most = omega (arith, M.at_most);
          values_size = F.size ∙ gated_size;
          values_low = F.low;
          empty = still_empty;
          made_size = M.made_size;
          made_low = M.made_low;
          weights_size = M.weights_size;
          weights_low = M.weights_low;
          kept_size = K.size;
          kept_low = kept_again;
          says = λ t sets A. let z : d - 1 ≡ 0 = omega arith in rw z (its_last t sets A one);
        }

        module _ (deep : 1 < d) (over : Bool) (made' : List ℕ) (weights' : List ℤ) (taken : RoundsTaken kept' costs headers limits depths d made weights over made' weights') where
          pub remaking_next : over ≡ false → Remaking filled made' weights' kept' (d - 1)
          remaking_next e = record {
            at_most = omega (arith, M.at_most);
            values_size = F.size ∙ gated_size;
            values_low = F.low;
            empty = still_empty;
            made_size = (T e).made_size;
            made_low = λ l b. low l b (ℕ_discrete (get_or depths l 0) d);
            weights_size = (T e).weights_size;
            weights_low = (T e).low M.weights_low;
            kept_size = K.size;
            kept_low = kept_again;
            says = λ t sets A. its_next t sets A deep made' weights' (T e);
          }
            where
              T : over ≡ false → RoundsTaken kept' costs headers limits depths d made weights false made' weights'
              T e = rw e at taken

              low : (l : ℕ) → l < length headers → Dec (get_or depths l 0 ≡ d) → get_or made' l 0 ≤ 2 ^ 40
              low l b (yes o) = ((T e).taken refl l b o).1
              low l b (no ne) = rw ((T e).others refl l ne) (M.made_low l b)

          pub remaking_over : over ≡ true → Multiplied costs headers limits depths deepest firstSlots secondSlots order true made' weights' kept'
          remaking_over e = record {
            low = λ q. absurd (true≢false q);
            kept_low = kept_again;
            says = λ t sets c h m rules a D O f s.
                its_over t sets (record { costs_same = c; headers_same = h; limits_same = m; rules = rules; sets_around_lem = a; deep = D; ordered = O; first_slots = f; second_slots = s }) deep made' weights' (rw e at taken);
          }

  -- at depth 0 all are done
  pub remaking_all : (values : List ℤ) (made : List ℕ) (weights kept : List ℤ) → Remaking values made weights kept 0 → Multiplied costs headers limits depths deepest firstSlots secondSlots order false made weights kept
  remaking_all values made weights kept M = record {
    low = λ q. M.made_low;
    kept_low = M.kept_low;
    says = λ t sets c h m rules a D O f s.
        multiplied_all t rules depths deepest D made weights kept (λ l b. M.made_low l (rw h at b))
        (M.says t sets (record { costs_same = c; headers_same = h; limits_same = m; rules = rules; sets_around_lem = a; deep = D; ordered = O; first_slots = f; second_slots = s }));
  }
