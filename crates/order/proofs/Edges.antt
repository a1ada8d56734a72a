-- The forward edges by number, read off the loop sets, are the forward edges. Assumes nothing.
use mathlib.Core.Path.{◌≡◌, refl, sym, ◌∙◌, ap}
use mathlib.Core.Logic.{◌⊎◌, inl, inr, ⊎_elim}
use Rattle.std.specs.Prelude.{Option, Some, None}
use mathlib.Core.Bool.{Bool, true, false, not, ◌&&◌}
use mathlib.Core.List.{List}
use Prim.Native.Nat.{ℕ, ◌+◌, ◌*◌, ◌<◌, ◌/◌, ◌%◌}
use native.Mathlib.Decide.{ℕ_discrete}
use native.Mathlib.Omega.{arith}
use lib.Dec.{eqb}
use lib.ListN.{length, get_or}
use borrow.Author.Tests.{eqb-true, eq-eqb, ne_eqb, not-true}
use Rattle.lists.specs.Search.{when◌then◌else◌}
use Rattle.lists.proofs.Tests.{and-true, both, either}
use Rattle.wcet.specs.Table.{Routine, block_count, missing, loop_of, first, second, some_edge, edge, inside, is_header}
use Rattle.wcet.specs.Cycles.{back_edge, forward_edge}
use Rattle.loopsets.specs.Sets.{sets_around}
use Rattle.loopsets.proofs.Laws.{member_around}
use Rattle.nesting.specs.Columns.{of_edge, Names, Linked, Ranged}
use Rattle.nesting.proofs.Edges.{by_first, by_second}
use Rattle.order.specs.Edges.{back_by_sets, target_by_sets, named_target, successor, edge_target}

-- ---- what the code finds for a successor v of block u

module _ (sets loops headers : List ℕ) (u v : ℕ) where
  ends_there : back_by_sets sets loops headers u v ≡ false → v ≡ target_by_sets sets loops headers u v
  unfolding target_by_sets
  ends_there b = rw b

  pub no_target : (v ≡ missing) ⊎ (back_by_sets sets loops headers u v ≡ true) → None ≡ named_target (target_by_sets sets loops headers u v)
  unfolding target_by_sets
  no_target (inl m) = go (back_by_sets sets loops headers u v)
    where
      go : (b : Bool) → None ≡ named_target (when b then missing else v)
      go true = refl
      go false = rw (eq-eqb v missing m)
  no_target (inr b) = rw b

  pub a_target : (v ≡ missing → ⊥) → back_by_sets sets loops headers u v ≡ false → Some v ≡ named_target (target_by_sets sets loops headers u v)
  unfolding target_by_sets
  a_target ne b = rw (b, ne_eqb v missing ne)

  -- which is a block, where there is one
  target_names : (n : ℕ) → Names n v → Names n (target_by_sets sets loops headers u v)
  unfolding target_by_sets
  target_names n names = go (back_by_sets sets loops headers u v)
    where
      go : (b : Bool) → Names n (when b then missing else v)
      go true ne = absurd (ne refl)
      go false ne = names ne

-- what a named target says of the number
pub named_at : (v x : ℕ) → Some x ≡ named_target v → (v ≡ x) × (v ≡ missing → ⊥)
named_at v x e = go (ℕ_discrete v missing)
  where
    go : Dec (v ≡ missing) → (v ≡ x) × (v ≡ missing → ⊥)
    go (yes m) = absurd (apart (rw (eq-eqb v missing m) at e))
      where
        apart : ◌≡◌ {A = Option ℕ} (Some x) None → ⊥
        apart q = cc
    go (no ne) = (same (rw (ne_eqb v missing ne) at e), ne)
      where
        same : ◌≡◌ {A = Option ℕ} (Some x) (Some v) → v ≡ x
        same q = cc

pub named_none : (v : ℕ) → None ≡ named_target v → v ≡ missing
named_none v e = go (ℕ_discrete v missing)
  where
    go : Dec (v ≡ missing) → v ≡ missing
    go (yes m) = m
    go (no ne) = absurd (apart (rw (ne_eqb v missing ne) at e))
      where
        apart : ◌≡◌ {A = Option ℕ} None (Some v) → ⊥
        apart q = cc

-- ---- edges by number

module _ (firsts seconds : List ℕ) where
  even : (e : ℕ) → e % 2 ≡ 0 → successor firsts seconds e ≡ get_or firsts (e / 2) 0
  even e h = rw (eq-eqb (e % 2) 0 h)

  odd : (e : ℕ) → (e % 2 ≡ 0 → ⊥) → successor firsts seconds e ≡ get_or seconds (e / 2) 0
  odd e h = rw (ne_eqb (e % 2) 0 h)

module _ (sets loops firsts seconds headers : List ℕ) where
  abbrev ends : ℕ → ℕ
  ends = edge_target sets loops firsts seconds headers

  pub first_edge : (u : ℕ) → target_by_sets sets loops headers u (get_or firsts u 0) ≡ ends (2 * u)
  unfolding edge_target
  first_edge u =
      let half : (2 * u) / 2 ≡ u = omega arith in
      rw (even firsts seconds (2 * u) (omega arith), half)

  pub second_edge : (u : ℕ) → target_by_sets sets loops headers u (get_or seconds u 0) ≡ ends (2 * u + 1)
  unfolding edge_target
  second_edge u =
      let half : (2 * u + 1) / 2 ≡ u = omega arith in
      rw (odd firsts seconds (2 * u + 1) (λ z. omega arith), half)

-- which is a block, where there is one
pub edge_names : (sets loops firsts seconds headers : List ℕ) (e : ℕ) → Linked (length loops) firsts seconds → e < 2 * length loops
    → Names (length loops) (edge_target sets loops firsts seconds headers e)
unfolding edge_target
edge_names sets loops firsts seconds headers e L b = target_names sets loops headers (e / 2) (successor firsts seconds e) (length loops) (named (ℕ_discrete (e % 2) 0))
  where
    named : Dec (e % 2 ≡ 0) → Names (length loops) (successor firsts seconds e)
    named (yes z) = rw (even firsts seconds e z) (L.first_names (e / 2) (omega arith))
    named (no z) = rw (odd firsts seconds e z) (L.second_names (e / 2) (omega arith))

abbrev pub targets_of : Routine → List ℕ → ℕ → ℕ
targets_of t sets = edge_target sets t.loops t.firsts t.seconds t.headers

-- ---- of tables in their ranges, with their sets

module _ (t : Routine) (sets : List ℕ) (R : Ranged t) (S : sets ≡ sets_around t.parents) where
  back_read : (u v : ℕ) → u < block_count t → v < block_count t → back_by_sets sets t.loops t.headers u v ≡ back_edge t u v
  unfolding back_by_sets back_edge inside
  back_read u v b c =
      ap (λ (i : Bool). is_header t v && i)
      (member_around t.parents sets S R.sized.few_loops (loop_of t u) (loop_of t v) (R.loop_below u b) (omega (arith, R.loop_below v c, R.sized.few_loops)))

  -- the edge to the first successor, or the one to the second
  by_number : (u v : ℕ) → edge t u v ≡ true → (e : ℕ) × (e / 2 ≡ u) × (e < 2 * u + 2) × (successor t.firsts t.seconds e ≡ v)
  unfolding edge some_edge
  by_number u v h =
      ⊎_elim
      (λ q. let half : (2 * u) / 2 ≡ u = omega arith in
      (2 * u, half, omega arith, even t.firsts t.seconds (2 * u) (omega arith) ∙ ap (first t) half ∙ eqb-true (first t u) v (and-true (not (eqb (first t u) missing)) (eqb (first t u) v) q).1))
      (λ q. let half : (2 * u + 1) / 2 ≡ u = omega arith in
      (2 * u + 1, half, omega arith, odd t.firsts t.seconds (2 * u + 1) (λ z. omega arith) ∙ ap (second t) half ∙ eqb-true (second t u) v (and-true (not (eqb (second t u) missing)) (eqb (second t u) v) q).1))
      (either (of_edge (first t u) (λ x. eqb x v)) (of_edge (second t u) (λ x. eqb x v)) h)

  -- a forward edge has a number, at which the code finds its target
  pub numbered : (u v : ℕ) → u < block_count t → v < block_count t → forward_edge t u v ≡ true → (e : ℕ) × (e < 2 * block_count t) × (e / 2 ≡ u) × (targets_of t sets e ≡ v)
  unfolding forward_edge edge_target
  numbered u v b c h =
      let p = and-true (edge t u v) (not (back_edge t u v)) h in
      let e = by_number u v p.0 in (
        e.0,
        omega (arith, e.1, e.2),
        e.1,
        ap (target_by_sets sets t.loops t.headers (e.0 / 2)) e.3
            ∙ ap (λ (x : ℕ). target_by_sets sets t.loops t.headers x v) e.1
            ∙ sym (ends_there sets t.loops t.headers u v (back_read u v b c ∙ not-true (back_edge t u v) p.1)),
      )

  -- and the other way
  pub leads : (e v : ℕ) → e < 2 * block_count t → v < block_count t → targets_of t sets e ≡ v → forward_edge t (e / 2) v ≡ true
  unfolding forward_edge edge edge_target target_by_sets
  leads e v b c h = go (back_by_sets sets t.loops t.headers (e / 2) s) refl h
    where
      s : ℕ
      s = successor t.firsts t.seconds e

      present : v ≡ missing → ⊥
      present z = omega (arith, R.sized.few_blocks)

      here : (x : ℕ) → x ≡ v → of_edge x (λ x. eqb x v) ≡ true
      here x q = both {a = not (eqb x missing)} (ap not (ne_eqb x missing (λ z. present (sym q ∙ z)))) (eq-eqb x v q)

      along : s ≡ v → Dec (e % 2 ≡ 0) → some_edge t (e / 2) (λ x. eqb x v) ≡ true
      along q (yes z) = by_first t (e / 2) (λ x. eqb x v) (here (first t (e / 2)) (sym (even t.firsts t.seconds e z) ∙ q))
      along q (no z) = by_second t (e / 2) (λ x. eqb x v) (here (second t (e / 2)) (sym (odd t.firsts t.seconds e z) ∙ q))

      go : (r : Bool) → back_by_sets sets t.loops t.headers (e / 2) s ≡ r → (when r then missing else s) ≡ v → (some_edge t (e / 2) (λ x. eqb x v) && not (back_edge t (e / 2) v)) ≡ true
      go true r m = absurd (present (sym m))
      go false r q = both (along q (ℕ_discrete (e % 2) 0)) (ap not (sym (back_read (e / 2) v (omega arith) c) ∙ ap (back_by_sets sets t.loops t.headers (e / 2)) (sym q) ∙ r))
