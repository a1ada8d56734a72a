-- Other costs, figures, limits and multipliers in the same routine: paths, stays and the visits in them are the same, and so is 209
-- (`undeclared_kept`); with the costs kept a run costs the same (`same_cost`); a run that is counted by limits that are not higher is counted
-- (`counted_too`). 201 to 207 hold while the columns keep their sizes and ranges (`rules_kept`). Assumes nothing.
use mathlib.Core.Path.{◌≡◌, refl, sym, ◌∙◌, ap}
use mathlib.Core.Bool.{Bool, true, false, not, ◌&&◌}
use mathlib.Core.List.{List, [], ◌∷◌}
use Prim.Native.Nat.{ℕ, zero, suc, ◌+◌, ◌^◌, ◌≤◌, ◌<◌}
use native.Mathlib.Omega.{arith}
use borrow.Author.Tests.{not-true}
use lib.IntN.{ℤ, pos}
use lib.ListN.{length, get_or}
use Rattle.lists.proofs.Tests.{and-true}
use Rattle.lists.proofs.Search.{any_ext}
use Rattle.wcet.specs.Table.{Routine, with_numbers, block_count, loop_count, cost, header, limit, some_edge, edge, inside}
use Rattle.wcet.specs.Cycles.{back_edge, forward_edge, reaches, undeclared_loop}
use Rattle.wcet.specs.Rules.{figure_outside, header_elsewhere, too_deep, entry_or_exit_edge, past_header, enters_past_header, structure_rules}
use Rattle.wcet.specs.Run.{path, State, start, next_count, next, passes_limit, keeps_limits, counted_run, run_cost}
use Rattle.wcet.specs.Claim.{AllHold}
use Rattle.wcet.specs.Stays.{all_inside, current_stay, visits, stay_visits}
use Rattle.wcet.proofs.Ranges.{SizesKept, RootKept, LoopKept, BlockKept, kept_sizes, kept_loop, kept_block, sizes_of, root_of, loop_of_lem, block_of}
use Rattle.wcet.proofs.Limits.{limits_kept, kept_limits, counted_parts, parts_counted}

-- ---- columns within the sizes and ranges of 201 to 203

pub record CostsFit (t : Routine) (cs : List ℕ) : Type 0 where
  pub count : length cs ≡ block_count t
  pub most : (u : ℕ) → u < block_count t → get_or cs u 0 ≤ 1000000

pub record FiguresFit (t : Routine) (fs : List ℤ) : Type 0 where
  pub count : length fs ≡ block_count t
  pub range : (u : ℕ) → u < block_count t → figure_outside (get_or fs u (pos 0)) ≡ false

pub record LimitsFit (t : Routine) (ls : List ℕ) : Type 0 where
  pub count : length ls ≡ loop_count t
  pub loop0 : get_or ls 0 0 ≡ 1
  pub range : (l : ℕ) → 0 < l → l < loop_count t → (1 ≤ get_or ls l 0) × (get_or ls l 0 ≤ 65535)

pub record MultipliersFit (t : Routine) (ks : List ℕ) : Type 0 where
  pub count : length ks ≡ loop_count t
  pub loop0 : get_or ks 0 0 ≡ 0
  pub most : (l : ℕ) → 0 < l → l < loop_count t → get_or ks l 0 ≤ 2 ^ 40

pub record Fitting (t : Routine) (cs : List ℕ) (fs : List ℤ) (ls ks : List ℕ) : Type 0 where
  pub costs : CostsFit t cs
  pub figures : FiguresFit t fs
  pub limits : LimitsFit t ls
  pub multipliers : MultipliersFit t ks

module _ (t : Routine) (cs : List ℕ) (fs : List ℤ) (ls ks : List ℕ) where
  abbrev other : Routine
  other = with_numbers t cs fs ls ks

  -- ---- what reads none of the four columns

  pub same_path : (w : List ℕ) (u : ℕ) → path other u w ≡ path t u w
  unfolding path edge some_edge
  same_path [] u = refl
  same_path (v ∷ w) u = ap (λ (b : Bool). edge t u v && b) (same_path w v)

  pub same_inside : (l : ℕ) (w : List ℕ) → all_inside other l w ≡ all_inside t l w
  unfolding all_inside inside
  same_inside l [] = refl
  same_inside l (v ∷ w) = ap (λ (b : Bool). inside t v l && b) (same_inside l w)

  same_stay : (l : ℕ) (w : List ℕ) → current_stay other l w ≡ current_stay t l w
  unfolding current_stay
  same_stay l [] = refl
  same_stay l (v ∷ w) = rw (same_inside l (v ∷ w), same_stay l w)

  pub same_visits : (l : ℕ) (w : List ℕ) → stay_visits other l w ≡ stay_visits t l w
  same_visits l w = ap (visits (header t l)) (same_stay l w)

  same_reaches : (k u v : ℕ) → reaches (forward_edge other) k u v ≡ reaches (forward_edge t) k u v
  unfolding reaches forward_edge edge some_edge back_edge inside
  same_reaches zero u v = refl
  same_reaches (suc k) u v = rw (same_reaches k u v, same_reaches k u k, same_reaches k k v)

  -- 209, of as many blocks
  pub undeclared_kept : length cs ≡ block_count t → undeclared_loop t ≡ false → undeclared_loop other ≡ false
  unfolding undeclared_loop
  undeclared_kept n e = rw n (any_ext (block_count t) _ _ (λ u b. same_reaches (block_count t) u u) ∙ e)

-- the cost of a run reads the costs alone
pub same_cost : (t : Routine) (fs : List ℤ) (ls ks w : List ℕ) → run_cost (with_numbers t t.costs fs ls ks) w ≡ run_cost t w
unfolding run_cost
same_cost t fs ls ks [] = refl
same_cost t fs ls ks (v ∷ w) = ap (λ (c : ℕ). cost t v + c) (same_cost t fs ls ks w)

-- ---- limits that are not higher

module _ (t : Routine) (cs : List ℕ) (fs : List ℤ) (ls ks : List ℕ) (low : (l : ℕ) → l < loop_count t → get_or ls l 0 ≤ limit t l) where
  abbrev lower : Routine
  lower = with_numbers t cs fs ls ks

  within : (s : State) → passes_limit lower s ≡ false → passes_limit t s ≡ false
  within s e = kept_limits t s (λ l b. omega (arith, low l b, limits_kept lower s e l b))

  keeps_too : (w : List ℕ) (s : State) → keeps_limits lower s w ≡ true → keeps_limits t s w ≡ true
  unfolding keeps_limits next next_count inside
  keeps_too [] s h = rw (within s (not-true _ h))
  keeps_too (v ∷ w) s h =
      let p : (not (passes_limit lower s) ≡ true) × (keeps_limits lower (next t s v) w ≡ true) = and-true _ _ h in
      rw (within s (not-true _ p.0)) (keeps_too w (next t s v) p.1)

  -- a counted run passes no higher limit either
  pub counted_too : (w : List ℕ) → counted_run lower w ≡ true → counted_run t w ≡ true
  unfolding counted_run
  counted_too [] h = h
  counted_too (v ∷ w) h =
      let C = counted_parts lower v w h in
      parts_counted t v w (record { starts = C.starts; follows = rw (same_path t cs fs ls ks w v) at C.follows; keeps = keeps_too w start C.keeps })

-- ---- 201 to 207

module _ (t : Routine) (h : AllHold (structure_rules t)) where
  -- its own columns fit
  pub fitting : Fitting t t.costs t.figures t.limits t.multipliers
  fitting = record {
    costs = record { count = refl; most = λ u b. (block_of t h u b).cost_most };
    figures = record { count = (sizes_of t h).figures; range = λ u b. (block_of t h u b).figure_within };
    limits = record { count = (sizes_of t h).limits; loop0 = (root_of t h).limit_1; range = λ l z b. let K = loop_of_lem t h l z b in (K.limit_least, K.limit_most) };
    multipliers = record { count = (sizes_of t h).multipliers; loop0 = (root_of t h).multiplier_0; most = λ l z b. (loop_of_lem t h l z b).multiplier_most };
  }

  module _ (cs : List ℕ) (fs : List ℤ) (ls ks : List ℕ) (F : Fitting t cs fs ls ks) where
    abbrev refitted : Routine
    refitted = with_numbers t cs fs ls ks

    n : length cs ≡ block_count t
    n = F.costs.count

    sizes : SizesKept refitted
    sizes =
        let S = sizes_of t h in
        record {
          two_blocks = omega (arith, n, S.two_blocks);
          few_blocks = omega (arith, n, S.few_blocks);
          some_loop = S.some_loop;
          few_loops = S.few_loops;
          loops = S.loops ∙ sym n;
          firsts = S.firsts ∙ sym n;
          seconds = S.seconds ∙ sym n;
          figures = F.figures.count ∙ sym n;
          headers = S.headers;
          limits = F.limits.count;
          multipliers = F.multipliers.count;
        }

    root : RootKept refitted
    root = record { parent_0 = (root_of t h).parent_0; header_0 = (root_of t h).header_0; limit_1 = F.limits.loop0; multiplier_0 = F.multipliers.loop0 }

    loop : (l : ℕ) → 0 < l → l < loop_count t → LoopKept refitted l
    loop l z b =
        let K = loop_of_lem t h l z b in
        record { parent_below = K.parent_below; header_block = omega (arith, n, K.header_block); limit_least = (F.limits.range l z b).0; limit_most = (F.limits.range l z b).1; multiplier_most = F.multipliers.most l z b }

    block : (u : ℕ) → u < block_count t → BlockKept refitted u
    unfolding some_edge
    block u b = let K = block_of t h u b in record { cost_most = F.costs.most u b; innermost = K.innermost; edges = rw n K.edges; figure_within = F.figures.range u b }

    -- 204 to 207 read none of the four columns, but for the number of blocks
    pub rules_kept : AllHold (structure_rules refitted)
    unfolding structure_rules header_elsewhere too_deep entry_or_exit_edge past_header enters_past_header some_edge inside
    rules_kept = rw n (λ p b. kept_sizes refitted sizes, (λ l b. kept_loop refitted l root (λ z. loop l z b), (λ u b. kept_block refitted u (block u b), h.1.1.1)))
