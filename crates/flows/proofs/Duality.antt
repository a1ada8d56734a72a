-- Weak duality: no solution of the program costs more than an accepted bound (`weak_duality`). The figures and multipliers are the dual values
-- of the rows: an edge's numbers times them add up to 0 or more, because the edge keeps its inequality (208). Assumes nothing.
use mathlib.Core.Path.{◌≡◌, refl, sym, ◌∙◌, ap, ap₂, fun_ext}
use mathlib.Core.Bool.{Bool, true, false, not}
use Prim.Native.Nat.{ℕ, ◌+◌, ◌-◌, ◌*◌, ◌≤◌, ◌<◌}
use native.Mathlib.Decide.{ℕ_discrete}
use native.Mathlib.Omega.{arith}
use lib.Dec.{eqb}
use borrow.Author.Tests.{eq-eqb, ne_eqb}
use lib.IntN.{ℤ, pos, neg_ℤ, ◌+ℤ◌, ◌-ℤ◌, ◌*ℤ◌, +ℤ_idl, +ℤ_idr, +ℤ_invr, +ℤ_comm, +ℤ_assoc, *ℤ-one, *ℤ-zero, zero-*ℤ, *ℤ-negsuc}
use lib.Signed.{◌≤ℤ◌}
use Rattle.lists.specs.Search.{when◌then◌else◌}
use Rattle.integers.specs.Parts.{up, dn}
use Rattle.integers.proofs.Laws.{ints, sum, diff, times}
use Rattle.wcet.specs.Table.{Routine, block_count, loop_count, exit, cost, loop_of, figure, header, limit, multiplier, edge, inside, is_header}
use Rattle.wcet.specs.Rules.{inequality, edge_holds, table_rules, bound}
use Rattle.wcet.specs.Claim.{AllHold}
use Rattle.wcet.proofs.Nesting.{Nested}
use Rattle.wcet.proofs.Around.{header_of}
use Rattle.wcet.proofs.Replies.{replies_exactly}
use Rattle.wcet.proofs.Bound.{Facts, facts}
use Rattle.mps.specs.Program.{RowName, objective, block, loop, numbers_from, rows_of, source, target, edges_of, one, number, right_side, program_of}
use Rattle.flows.specs.Flow.{row_value, same_row, SolutionOf, flow_cost, WeakDuality}
use Rattle.flows.proofs.Totals.{spread, reorder, times_le, total, total_plus, total_times, total_zero, total_same, total_le, total_swap}
use Rattle.flows.proofs.Totals.{total_none, total_only, total_one}
use Rattle.flows.proofs.Rows.{total_rows, RowOf, rows_all, EdgeOf, edges_all, edge_number, row_value_lem, right_block, Met, solution_each}

-- ---- what the figures and multipliers give of an edge's numbers

-- in the rows of the blocks: the difference of two figures
one_term : (z : ℤ) (p q : Bool) → z *ℤ (one p -ℤ one q) ≡ (when p then z else pos 0) +ℤ (when q then neg_ℤ z else pos 0)
unfolding lib.IntN.one
one_term z true true = *ℤ-zero z ∙ sym (+ℤ_invr z)
one_term z true false = *ℤ-one z ∙ sym (+ℤ_idr z)
one_term z false true = *ℤ-negsuc z 0 ∙ ap neg_ℤ (*ℤ-one z) ∙ sym (+ℤ_idl (neg_ℤ z))
one_term z false false = *ℤ-zero z

over_blocks : (f : ℕ → ℤ) (n u v : ℕ) → u < n → v < n → total (λ b. f b *ℤ (one (eqb u b) -ℤ one (eqb v b))) (numbers_from 0 n) ≡ f u -ℤ f v
over_blocks f n u v hu hv =
    ap (λ (g : ℕ → ℤ). total g (numbers_from 0 n)) (fun_ext (λ b. one_term (f b) (eqb u b) (eqb v b)))
    ∙ total_plus (λ b. when eqb u b then f b else pos 0) (λ b. when eqb v b then neg_ℤ (f b) else pos 0) (numbers_from 0 n)
    ∙ ap₂ ◌+ℤ◌ (at f u hu) (at (λ b. neg_ℤ (f b)) v hv)
  where
    at : (g : ℕ → ℤ) (u : ℕ) → u < n → total (λ b. when eqb u b then g b else pos 0) (numbers_from 0 n) ≡ g u
    at g u h = total_one g (eqb u) u n 0 (omega arith) (omega arith) (eq-eqb u u refl) (λ i ne. ne_eqb u i (λ e. ne (sym e)))

-- the dual values of the rows
abbrev dual : Routine → RowName → ℤ
dual t objective = pos 1
dual t (block b) = figure t b
dual t (loop l) = pos (multiplier t l)

-- the inequality of an edge in one form for its three cases
one_form : (headed inner : Bool) (c : ℕ) (fu fv : ℤ) (k b : ℕ) → inequality headed inner c fu fv k b ≡ true
    → pos c ≤ℤ (fu -ℤ fv +ℤ pos k *ℤ (when not headed then pos 0 else when inner then pos 1 else pos 1 -ℤ pos b))
unfolding inequality
one_form false inner c fu fv k b h = omega (ints, sum (fu -ℤ fv) (pos (k * 0)))
one_form true true c fu fv k b h = omega (ints, sum (fu -ℤ fv) (pos k), sum (fu -ℤ fv) (pos (k * 1)))
one_form true false c fu fv k b h =
    omega (ints, sum (pos c) (pos k *ℤ less), sum (fu -ℤ fv) (pos k *ℤ more), times k less, times k more, scaled)
  where
    less : ℤ
    less = pos b -ℤ pos 1

    more : ℤ
    more = pos 1 -ℤ pos b

    opposite : up less + up more ≡ dn less + dn more
    opposite = omega (ints, diff (pos b) (pos 1), diff (pos 1) (pos b))

    scaled : k * (up less + up more) ≡ k * (dn less + dn more)
    scaled = ap (λ (x : ℕ). k * x) opposite

left_over : (c : ℕ) (z : ℤ) → pos c ≤ℤ z → pos 0 ≤ℤ (pos 1 *ℤ neg_ℤ (pos c) +ℤ z)
left_over c z h = omega (ints, times 1 (neg_ℤ (pos c)), sum (pos 1 *ℤ neg_ℤ (pos c)) z, sum (neg_ℤ (pos c)) z, +ℤ_comm (neg_ℤ (pos c)) z, diff z (pos c))

module _ (t : Routine) (F : Facts t) where
  abbrev N : Nested t
  N = F.nesting

  not_header : (u v l : ℕ) → l < loop_count t → (l ≡ loop_of t v → ⊥) → number t u v (loop l) ≡ pos 0
  unfolding number
  not_header u v l b ne = rw (ne_eqb (header t l) v (λ e. ne (header_of t N l v b e)))

  -- in the rows of the loops: v's own loop counts, and no other (204)
  over_loops : (u v : ℕ) → v < block_count t
      → total (λ l. pos (multiplier t l) *ℤ number t u v (loop l)) (numbers_from 1 (loop_count t - 1)) ≡ pos (multiplier t (loop_of t v)) *ℤ number t u v (loop (loop_of t v))
  over_loops u v b = go (ℕ_discrete (loop_of t v) 0)
    where
      term : ℕ → ℤ
      term l = pos (multiplier t l) *ℤ number t u v (loop l)

      elsewhere : (l : ℕ) → 1 ≤ l → l < 1 + (loop_count t - 1) → (l ≡ loop_of t v → ⊥) → term l ≡ pos 0
      elsewhere l c d ne = ap (λ (z : ℤ). pos (multiplier t l) *ℤ z) (not_header u v l (omega arith) ne) ∙ *ℤ-zero (pos (multiplier t l))

      go : Dec (loop_of t v ≡ 0) → total term (numbers_from 1 (loop_count t - 1)) ≡ term (loop_of t v)
      go (yes z) =
          total_none term (loop_count t - 1) 1 (λ l c d. elsewhere l c d (λ e. omega arith))
          ∙ sym (ap (λ (k : ℕ). pos k *ℤ number t u v (loop (loop_of t v))) (ap (multiplier t) z ∙ N.loop0_multiplier) ∙ zero-*ℤ (number t u v (loop (loop_of t v))))
      go (no ne) = total_only term (loop_of t v) (loop_count t - 1) 1 (omega arith) (omega (arith, N.innermost v b)) elsewhere

  -- over all rows: what the edge's inequality leaves over
  not_negative : (u v : ℕ) → u < block_count t → edge t u v ≡ true → pos 0 ≤ℤ total (λ r. dual t r *ℤ number t u v r) (rows_of t)
  unfolding edge_holds number
  not_negative u v b e =
      rw (total_rows t (λ r. dual t r *ℤ number t u v r), over_blocks (figure t) (block_count t) u v b c, over_loops u v c)
      (left_over (cost t v) (figure t u -ℤ figure t v +ℤ pos (multiplier t own) *ℤ number t u v (loop own))
      (one_form (is_header t v) (inside t u own) (cost t v) (figure t u) (figure t v) (multiplier t own) (limit t own) (F.holds u v b e)))
    where
      own : ℕ
      own = loop_of t v

      c : v < block_count t
      c = N.target u v b e

  module _ (q : ℕ) (x : ℕ → ℕ) where
    -- what flow x makes of row r
    abbrev value : RowName → ℤ
    value r = row_value same_row (program_of t).columns x r

    -- over all edges, as often as the flow takes them; and so over all rows
    all_edges : pos 0 ≤ℤ total (λ r. dual t r *ℤ value r) (rows_of t)
    all_edges =
        rw (
          total_zero (λ e. pos (x e) *ℤ pos 0) (λ e. *ℤ-zero (pos (x e))) (edges_of t),
          total_swap x (dual t) (λ e r. edge_number t r e) (edges_of t) (rows_of t),
          total_same (RowOf t) (λ r. dual t r *ℤ total (λ e. pos (x e) *ℤ edge_number t r e) (edges_of t)) (λ r. dual t r *ℤ value r)
              (λ r h. ap (λ (z : ℤ). dual t r *ℤ z) (sym (row_value_lem t x r h))) (rows_of t) (rows_all t),
        ) at
        (total_le (EdgeOf t) (λ e. pos (x e) *ℤ pos 0) (λ e. pos (x e) *ℤ priced e)
        (λ e h. times_le (x e) (pos 0) (priced e) (not_negative (source e) (target t e) h.from h.there)) (edges_of t) (edges_all t))
      where
        priced : ℕ → ℤ
        priced e = total (λ r. dual t r *ℤ edge_number t r e) (rows_of t)

    -- what a row that is met allows
    abbrev allowed : RowName → ℤ
    allowed objective = value objective
    allowed (block b) = pos q *ℤ (figure t b *ℤ number t 0 (exit t) (block b))
    allowed (loop l) = pos 0

    met_row : (r : RowName) → RowOf t r × Met t q x r → (dual t r *ℤ value r) ≤ℤ allowed r
    unfolding right_side
    met_row objective h = omega (ints, times 1 (value objective))
    met_row (block b) h =
        let e : figure t b *ℤ value (block b) ≡ pos q *ℤ (figure t b *ℤ number t 0 (exit t) (block b))
        = ap (λ (z : ℤ). figure t b *ℤ z) h.1 ∙ sym (reorder q (figure t b) (right_side t (block b))) ∙ ap (λ (z : ℤ). pos q *ℤ (figure t b *ℤ z)) (right_block t b) in
        omega ints
    met_row (loop l) h = omega (ints, times_le (multiplier t l) (value (loop l)) (pos (q * 0)) h.1)

    all_allowed : total allowed (rows_of t) ≡ value objective +ℤ pos q *ℤ (figure t 0 -ℤ figure t (exit t))
    unfolding number
    all_allowed =
        total_rows t allowed
        ∙ rw (
          total_times (pos q) (λ b. figure t b *ℤ number t 0 (exit t) (block b)) (numbers_from 0 (block_count t)),
          over_blocks (figure t) (block_count t) 0 (exit t) (omega (arith, N.two_blocks)) (omega (arith, N.two_blocks)),
          total_zero (λ l. pos 0) (λ l. refl) (numbers_from 1 (loop_count t - 1)),
          +ℤ_idr,
        )

    no_more : SolutionOf t q x → flow_cost t q x ≤ℤ (pos q *ℤ bound t)
    unfolding flow_cost bound
    no_more h = rw (scaled (pos (cost t 0)) (figure t 0) (figure t (exit t))) (omega (ints, base, sum v d, diff (pos (q * cost t 0)) v, sum (pos (q * cost t 0)) d))
      where
        v : ℤ
        v = value objective

        d : ℤ
        d = pos q *ℤ (figure t 0 -ℤ figure t (exit t))

        base : pos 0 ≤ℤ (v +ℤ d)
        base = omega (ints, all_edges, total_le (λ r. RowOf t r × Met t q x r) (λ r. dual t r *ℤ value r) allowed met_row (rows_of t) (solution_each t q x h), all_allowed)

        scaled : (a b c : ℤ) → pos q *ℤ (a +ℤ b -ℤ c) ≡ pos q *ℤ a +ℤ pos q *ℤ (b -ℤ c)
        scaled a b c = ap (λ (z : ℤ). pos q *ℤ z) (+ℤ_assoc a b (neg_ℤ c)) ∙ spread (pos q) a (b -ℤ c)

-- THEOREM: no solution costs more than an accepted bound, whoever proposed the figures and multipliers.
pub weak_duality : (t : Routine) → WeakDuality t
weak_duality t b e q x h =
    let a : AllHold (table_rules t) × (bound t ≡ b) = ((replies_exactly t).accepts b).0 e in
    rw (← a.1) (no_more t (facts t a.0) q x h)
