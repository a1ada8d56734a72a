-- What each rule ensures for the next: 201 the lengths of the columns, 202 and 203 the ranges, 204 the headers. Assumes nothing.
use mathlib.Core.Path.{◌≡◌, refl}
use mathlib.Core.Bool.{Bool, true, false, not}
use Prim.Native.Nat.{ℕ, zero, suc, ◌^◌, ◌≤◌, ◌<◌}
use native.Mathlib.Omega.{arith}
use lib.Dec.{eqb, ltb}
use borrow.Author.Tests.{eqb-true, ltb-true, ltb-false, ne_eqb, not-false}
use lib.IntN.{ℤ, pos, neg_ℤ}
use lib.ListN.{get_or, get_or-eq_default}
use lib.Signed.{◌≤ℤ◌, lt_z}
use Rattle.lists.proofs.Tests.{or_false}
use Rattle.integers.proofs.Laws.{ints}
use Rattle.wcet.specs.Table.{Routine, block_count, loop_count, missing, cost, loop_of, first, second, figure, parent, header, limit, multiplier, edge}
use Rattle.wcet.specs.Rules.{sizes_wrong, loop_wrong, figure_outside, block_wrong, header_elsewhere, structure_rules}
use Rattle.wcet.specs.Claim.{AllHold}
use Rattle.wcet.proofs.Ranges.{BlockKept, sizes_kept, root_kept, loop_kept, block_kept}
use Rattle.wcet.proofs.Nesting.{no_edge, first_edge, second_edge}
use Rattle.nesting.specs.Columns.{BlocksSized, LoopsSized, Sized, Names, Ranged, Headed, HeadersNamed, Innermost, Linked, Nestable}

-- 203, of a figure
pub figure_range : (z : ℤ) → figure_outside z ≡ false → (neg_ℤ (pos (2 ^ 60)) ≤ℤ z) × (z ≤ℤ pos (2 ^ 60))
figure_range z e = let f = or_false (lt_z z (neg_ℤ (pos (2 ^ 60)))) (lt_z (pos (2 ^ 60)) z) e in (omega (ints, f.0), omega (ints, f.1))

module _ (t : Routine) where
  -- 201
  pub fits : sizes_wrong t ≡ false → Sized t
  fits e =
      let S = sizes_kept t e in
      record {
        loops = S.loops;
        firsts = S.firsts;
        seconds = S.seconds;
        figures = S.figures;
        headers = S.headers;
        limits = S.limits;
        multipliers = S.multipliers;
        some_block = omega (arith, S.two_blocks);
        some_loop = S.some_loop;
        few_blocks = S.few_blocks;
        few_loops = S.few_loops;
      }

  -- the part of it that the functions of 202 and 203 require
  pub loops_sized : Sized t → LoopsSized t
  loops_sized S = record { headers = S.headers; limits = S.limits; multipliers = S.multipliers; some_loop = S.some_loop; few_loops = S.few_loops }

  pub blocks_sized : Sized t → BlocksSized t
  blocks_sized S = record { loops = S.loops; firsts = S.firsts; seconds = S.seconds; figures = S.figures; some_block = S.some_block; few_blocks = S.few_blocks }

  -- 202, of any loop
  record LoopRange (l : ℕ) : Type 0 where
    parent_kept : (l ≡ 0 → parent t l ≡ 0) × (0 < l → parent t l < l)
    header_kept : header t l < block_count t
    limit_kept : (1 ≤ limit t l) × (limit t l ≤ 65535)
    multiplier_kept : multiplier t l ≤ 2 ^ 40

  loop_range : Sized t → (l : ℕ) → loop_wrong t l ≡ false → LoopRange l
  loop_range S zero e =
      let R = root_kept t e in
      record {
        parent_kept = (λ z. R.parent_0, λ z. absurd (omega arith));
        header_kept = omega (arith, R.header_0, S.some_block);
        limit_kept = (omega (arith, R.limit_1), omega (arith, R.limit_1));
        multiplier_kept = omega (arith, R.multiplier_0);
      }
  loop_range S (suc l) e =
      let K = loop_kept t (suc l) (omega arith) e in
      record { parent_kept = (λ z. absurd (omega arith), λ z. K.parent_below); header_kept = K.header_block; limit_kept = (K.limit_least, K.limit_most); multiplier_kept = K.multiplier_most }

  -- 203, of one block: its successors
  module _ (u : ℕ) (K : BlockKept t u) where
    names : (v : ℕ) → (eqb v missing ≡ false → edge t u v ≡ true) → Names (block_count t) v
    names v e ne = ltb-true v (block_count t) (not-false _ (no_edge t u v (λ x. not (ltb x (block_count t))) K.edges (e (ne_eqb v missing ne))))

  pub keeps : Sized t → ((l : ℕ) → l < loop_count t → loop_wrong t l ≡ false) → ((u : ℕ) → u < block_count t → block_wrong t u ≡ false) → Ranged t
  keeps S L B = record {
    sized = S;
    parents = record { root = (loop 0 S.some_loop).parent_kept.0 refl; below = parent_below };
    header_below = λ l b. (loop l b).header_kept;
    limit_least = λ l b. (loop l b).limit_kept.0;
    limit_most = λ l b. (loop l b).limit_kept.1;
    multiplier_most = λ l b. (loop l b).multiplier_kept;
    cost_most = λ u b. (block u b).cost_most;
    loop_below = λ u b. (block u b).innermost;
    first_names = λ u b. names u (block u b) (first t u) (first_edge t u);
    second_names = λ u b. names u (block u b) (second t u) (second_edge t u);
    figure_least = λ u b. (figure_range (figure t u) (block u b).figure_within).0;
    figure_most = λ u b. (figure_range (figure t u) (block u b).figure_within).1;
  }
    where
      loop : (l : ℕ) → l < loop_count t → LoopRange l
      loop l b = loop_range S l (L l b)

      block : (u : ℕ) → u < block_count t → BlockKept t u
      block u b = block_kept t u (B u b)

      parent_below : (l : ℕ) → 0 < l → get_or t.parents l 0 < l
      parent_below l z = go (ltb l (loop_count t)) refl
        where
          go : (b : Bool) → ltb l (loop_count t) ≡ b → get_or t.parents l 0 < l
          go true e = (loop l (ltb-true l (loop_count t) e)).parent_kept.1 z
          go false e = omega (arith, get_or-eq_default t.parents 0 {n = l} (ltb-false l (loop_count t) e))

  -- the parts of it that the functions of 204 to 208 require
  pub headers_named : Ranged t → HeadersNamed t
  headers_named R = record { few = R.sized.few_loops; headers = R.sized.headers; below = λ l b. omega (arith, R.header_below l b, R.sized.loops) }

  pub innermost : Ranged t → Innermost t.loops t.headers
  innermost R = record {
    few = omega (arith, R.sized.headers, R.sized.few_loops);
    below = λ u b. omega (arith, R.loop_below u (omega (arith, R.sized.loops)), R.sized.headers);
  }

  pub linked : Ranged t → Linked (block_count t) t.firsts t.seconds
  linked R = record { few = R.sized.few_blocks; first_size = R.sized.firsts; second_size = R.sized.seconds; first_names = R.first_names; second_names = R.second_names }

  -- 204
  pub heads : Ranged t → ((l : ℕ) → l < loop_count t → header_elsewhere t l ≡ false) → Headed t
  unfolding header_elsewhere
  heads R H = record { ranged = R; own = λ l b. eqb-true (loop_of t (header t l)) l (not-false _ (H l b)) }

  pub nestable : Headed t → Nestable t
  nestable H = record {
    some_block = H.ranged.sized.some_block;
    some_loop = H.ranged.sized.some_loop;
    loops = H.ranged.sized.loops;
    headers = H.ranged.sized.headers;
    parents = H.ranged.parents;
    innermost = innermost H.ranged;
    linked = linked H.ranged;
    own = H.own;
  }

  -- all of them, of tables that keep 201 to 207
  pub headed : AllHold (structure_rules t) → Headed t
  unfolding structure_rules
  headed h = heads (keeps (fits (h.0 0 (omega arith))) h.1.0 h.1.1.0) h.1.1.1.0

-- a number that is no block costs 0, and one that is no loop has limit 0
module _ (t : Routine) (R : Ranged t) where
  pub cost_anywhere : (v : ℕ) → cost t v ≤ 1000000
  cost_anywhere v = go (ltb v (block_count t)) refl
    where
      go : (b : Bool) → ltb v (block_count t) ≡ b → cost t v ≤ 1000000
      go true e = R.cost_most v (ltb-true v (block_count t) e)
      go false e = omega (arith, get_or-eq_default t.costs 0 {n = v} (ltb-false v (block_count t) e))

  pub limit_anywhere : (l : ℕ) → limit t l ≤ 65535
  limit_anywhere l = go (ltb l (loop_count t)) refl
    where
      go : (b : Bool) → ltb l (loop_count t) ≡ b → limit t l ≤ 65535
      go true e = R.limit_most l (ltb-true l (loop_count t) e)
      go false e = omega (arith, get_or-eq_default t.limits 0 {n = l} (omega (arith, R.sized.limits, ltb-false l (loop_count t) e)))
