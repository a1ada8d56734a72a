-- What 201, 202 and 203 ask of the columns, by name, and back. Assumes nothing.
use mathlib.Core.Path.{◌≡◌, refl}
use mathlib.Core.Bool.{Bool, true, false, not, ◌&&◌, ◌||◌}
use Prim.Native.Nat.{ℕ, ◌^◌, ◌≤◌, ◌<◌}
use native.Mathlib.Decide.{ℕ_discrete}
use native.Mathlib.Omega.{arith}
use lib.Dec.{eqb, ltb}
use borrow.Author.Tests.{eqb-true, ltb-true, ltb-false, lt-ltb, le-ltb, eq-eqb, ne_eqb, not-false}
use lib.ListN.{length}
use Rattle.limits.specs.Limits.{most_blocks, most_loops}
use Rattle.lists.proofs.Tests.{or_false, neither, and-true}
use Rattle.wcet.specs.Table.{Routine, block_count, loop_count, cost, loop_of, figure, parent, header, limit, multiplier, some_edge}
use Rattle.wcet.specs.Rules.{out_of_range, sized, block_columns_equal, loop_columns_equal, sizes_wrong, loop_wrong, figure_outside, block_wrong, structure_rules}
use Rattle.wcet.specs.Claim.{AllHold}

in_range : (lo hi x : ℕ) → out_of_range lo hi x ≡ false → (lo ≤ x) × (x ≤ hi)
in_range lo hi x e = let p = or_false (ltb x lo) (ltb hi x) e in (ltb-false x lo p.0, ltb-false hi x p.1)

range_in : (lo hi x : ℕ) → lo ≤ x → x ≤ hi → out_of_range lo hi x ≡ false
range_in lo hi x p q = neither (le-ltb x lo p) (le-ltb hi x q)

and₃ : (a b c : Bool) → (a && b && c) ≡ true → (a ≡ true) × (b ≡ true) × (c ≡ true)
and₃ a b c e = let p = and-true (a && b) c e in let q = and-true a b p.0 in (q.0, q.1, p.1)

-- 201
pub record SizesKept (t : Routine) : Type 0 where
  pub two_blocks : 2 ≤ block_count t
  pub few_blocks : block_count t ≤ most_blocks
  pub some_loop : 0 < loop_count t
  pub few_loops : loop_count t ≤ most_loops
  pub loops : length t.loops ≡ block_count t
  pub firsts : length t.firsts ≡ block_count t
  pub seconds : length t.seconds ≡ block_count t
  pub figures : length t.figures ≡ block_count t
  pub headers : length t.headers ≡ loop_count t
  pub limits : length t.limits ≡ loop_count t
  pub multipliers : length t.multipliers ≡ loop_count t

-- 202, of loop 0 and of another
pub record RootKept (t : Routine) : Type 0 where
  pub parent_0 : parent t 0 ≡ 0
  pub header_0 : header t 0 ≡ 0
  pub limit_1 : limit t 0 ≡ 1
  pub multiplier_0 : multiplier t 0 ≡ 0

pub record LoopKept (t : Routine) (l : ℕ) : Type 0 where
  pub parent_below : parent t l < l
  pub header_block : header t l < block_count t
  pub limit_least : 1 ≤ limit t l
  pub limit_most : limit t l ≤ 65535
  pub multiplier_most : multiplier t l ≤ 2 ^ 40

-- 203
pub record BlockKept (t : Routine) (u : ℕ) : Type 0 where
  pub cost_most : cost t u ≤ 1000000
  pub innermost : loop_of t u < loop_count t
  pub edges : some_edge t u (λ v. not (ltb v (block_count t))) ≡ false
  pub figure_within : figure_outside (figure t u) ≡ false

module _ (t : Routine) where
  pub sizes_kept : sizes_wrong t ≡ false → SizesKept t
  unfolding sizes_wrong
  sizes_kept e =
      let p = or_false (out_of_range 2 most_blocks (block_count t) || out_of_range 1 most_loops (loop_count t) || not (block_columns_equal t)) (not (loop_columns_equal t)) e in
      let q = or_false (out_of_range 2 most_blocks (block_count t) || out_of_range 1 most_loops (loop_count t)) (not (block_columns_equal t)) p.0 in
      let r = or_false (out_of_range 2 most_blocks (block_count t)) (out_of_range 1 most_loops (loop_count t)) q.0 in
      let n = in_range 2 most_blocks (block_count t) r.0 in
      let m = in_range 1 most_loops (loop_count t) r.1 in
      let b = and-true (sized (block_count t) t.loops && sized (block_count t) t.firsts && sized (block_count t) t.seconds) (sized (block_count t) t.figures) (not-false _ q.1) in
      let c = and₃ (sized (block_count t) t.loops) (sized (block_count t) t.firsts) (sized (block_count t) t.seconds) b.0 in
      let l = and₃ (sized (loop_count t) t.headers) (sized (loop_count t) t.limits) (sized (loop_count t) t.multipliers) (not-false _ p.1) in
      record {
        two_blocks = n.0;
        few_blocks = n.1;
        some_loop = m.0;
        few_loops = m.1;
        loops = eqb-true _ _ c.0;
        firsts = eqb-true _ _ c.1;
        seconds = eqb-true _ _ c.2;
        figures = eqb-true _ _ b.1;
        headers = eqb-true _ _ l.0;
        limits = eqb-true _ _ l.1;
        multipliers = eqb-true _ _ l.2;
      }

  pub kept_sizes : SizesKept t → sizes_wrong t ≡ false
  unfolding sizes_wrong
  kept_sizes S =
      let n : out_of_range 2 most_blocks (block_count t) ≡ false = range_in _ _ _ S.two_blocks S.few_blocks in
      let m : out_of_range 1 most_loops (loop_count t) ≡ false = range_in _ _ _ S.some_loop S.few_loops in
      rw (n, m, S.loops, S.firsts, S.seconds, S.figures, S.headers, S.limits, S.multipliers, eq-eqb (block_count t) (block_count t) refl, eq-eqb (loop_count t) (loop_count t) refl)

  pub root_kept : loop_wrong t 0 ≡ false → RootKept t
  unfolding loop_wrong
  root_kept e =
      let p = and-true (eqb (parent t 0) 0 && eqb (header t 0) 0 && eqb (limit t 0) 1) (eqb (multiplier t 0) 0) (not-false _ e) in
      let q = and₃ (eqb (parent t 0) 0) (eqb (header t 0) 0) (eqb (limit t 0) 1) p.0 in
      record { parent_0 = eqb-true _ _ q.0; header_0 = eqb-true _ _ q.1; limit_1 = eqb-true _ _ q.2; multiplier_0 = eqb-true _ _ p.1 }

  pub loop_kept : (l : ℕ) → 0 < l → loop_wrong t l ≡ false → LoopKept t l
  unfolding loop_wrong
  loop_kept l z e =
      let low = not (ltb (parent t l) l) in
      let out = not (ltb (header t l) (block_count t)) in
      let p = or_false (low || out || out_of_range 1 65535 (limit t l)) (ltb (2 ^ 40) (multiplier t l)) (rw (ne_eqb l 0 (λ e. omega arith)) at e) in
      let q = or_false (low || out) (out_of_range 1 65535 (limit t l)) p.0 in
      let r = or_false low out q.0 in
      let b = in_range 1 65535 (limit t l) q.1 in
      record { parent_below = ltb-true _ _ (not-false _ r.0); header_block = ltb-true _ _ (not-false _ r.1); limit_least = b.0; limit_most = b.1; multiplier_most = ltb-false _ _ p.1 }

  pub kept_loop : (l : ℕ) → RootKept t → (0 < l → LoopKept t l) → loop_wrong t l ≡ false
  unfolding loop_wrong
  kept_loop l R L = go (ℕ_discrete l 0)
    where
      go : Dec (l ≡ 0) → loop_wrong t l ≡ false
      go (yes z) = rw (z, R.parent_0, R.header_0, R.limit_1, R.multiplier_0)
      go (no ne) =
          let K = L (omega arith) in
          rw (ne_eqb l 0 ne, lt-ltb (parent t l) l K.parent_below, lt-ltb (header t l) (block_count t) K.header_block, le-ltb (limit t l) 1 K.limit_least, le-ltb 65535 (limit t l) K.limit_most, le-ltb (2 ^ 40) (multiplier t l) K.multiplier_most)

  pub block_kept : (u : ℕ) → block_wrong t u ≡ false → BlockKept t u
  unfolding block_wrong
  block_kept u e =
      let dear = ltb 1000000 (cost t u) in
      let away = not (ltb (loop_of t u) (loop_count t)) in
      let p = or_false (dear || away || some_edge t u (λ v. not (ltb v (block_count t)))) (figure_outside (figure t u)) e in
      let q = or_false (dear || away) (some_edge t u (λ v. not (ltb v (block_count t)))) p.0 in
      let r = or_false dear away q.0 in
      record { cost_most = ltb-false _ _ r.0; innermost = ltb-true _ _ (not-false _ r.1); edges = q.1; figure_within = p.1 }

  pub kept_block : (u : ℕ) → BlockKept t u → block_wrong t u ≡ false
  unfolding block_wrong
  kept_block u K = rw (le-ltb 1000000 (cost t u) K.cost_most, lt-ltb (loop_of t u) (loop_count t) K.innermost, K.edges) K.figure_within

-- of tables that keep 201 to 207
module _ (t : Routine) (h : AllHold (structure_rules t)) where
  pub sizes_of : SizesKept t
  unfolding structure_rules
  sizes_of = sizes_kept t (h.0 0 (omega arith))

  pub root_of : RootKept t
  unfolding structure_rules
  root_of = root_kept t (h.1.0 0 sizes_of.some_loop)

  pub loop_of_lem : (l : ℕ) → 0 < l → l < loop_count t → LoopKept t l
  unfolding structure_rules
  loop_of_lem l z b = loop_kept t l z (h.1.0 l b)

  pub block_of : (u : ℕ) → u < block_count t → BlockKept t u
  unfolding structure_rules
  block_of u b = block_kept t u (h.1.1.0 u b)
