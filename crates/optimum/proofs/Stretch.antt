-- Stretches: walks inside a loop that do not visit its header, and that keep the limits from every state within them. They are put together
-- (`joined`); a forward edge is one (`one_edge`), and so is an edge that enters a loop with all its rounds (`all_rounds`).
-- Assumes nothing.
use mathlib.Core.Path.{◌≡◌, refl, sym, ◌∙◌, ap}
use mathlib.Core.Bool.{true, false, true≢false}
use mathlib.Core.List.{List, [], ◌∷◌, ◌++◌}
use Prim.Native.Nat.{ℕ, zero, suc, ◌+◌, ◌≤◌, ◌<◌}
use native.Mathlib.Decide.{ℕ_discrete}
use native.Mathlib.Omega.{arith}
use borrow.Author.Tests.{eq-eqb, ne_eqb}
use Rattle.lists.proofs.Tests.{and-true}
use Rattle.wcet.specs.Table.{Routine, block_count, loop_count, header, limit, edge, inside}
use Rattle.wcet.specs.Run.{path, State, next_count, next, after, keeps_limits}
use Rattle.wcet.specs.Stays.{all_inside, visits}
use Rattle.wcet.specs.Cycles.{back_edge}
use Rattle.wcet.proofs.Limits.{WithinLimits, within_after}
use Rattle.wcet.proofs.Around.{header_of}
use Rattle.wcet.proofs.Steps.{kept_count}
use Rattle.wcet.proofs.Nesting.{Nested}
use Rattle.wcet.proofs.Counts.{inside_append, visits_append, header_inside}
use Rattle.optimum.proofs.Structure.{outside_above, inside_trans, from_outside}
use Rattle.optimum.proofs.Joined.{end, end_joined, not_first, copies, after_end_lem, after_joined, path_joined, keeps_joined, keeps_none, keeps_more}

-- from block x along w to block y, inside loop l and so inside each loop around l's header
pub record Walk (t : Routine) (l x : ℕ) (w : List ℕ) (y : ℕ) : Type 0 where
  pub follows : path t x w ≡ true
  pub ends : end x w ≡ y
  pub block : y < block_count t
  pub inner : inside t y l ≡ true
  pub stays : (k : ℕ) → inside t (header t l) k ≡ true → all_inside t k w ≡ true

-- and not by l's header, within the limits from every state within them
pub record Stretch (t : Routine) (l x : ℕ) (w : List ℕ) (y : ℕ) : Type 0 where
  pub way : Walk t l x w y
  pub avoids : visits (header t l) w ≡ 0
  pub keeps : (s : State) → s.block ≡ x → WithinLimits t s → keeps_limits t s w ≡ true

module _ (t : Routine) (l : ℕ) where
  nowhere : (x : ℕ) → x < block_count t → inside t x l ≡ true → Walk t l x [] x
  unfolding path end all_inside
  nowhere x b i = record { follows = refl; ends = refl; block = b; inner = i; stays = λ k j. refl }

  pub at_rest : (x : ℕ) → x < block_count t → inside t x l ≡ true → Stretch t l x [] x
  unfolding visits
  at_rest x b i = record { way = nowhere x b i; avoids = refl; keeps = λ s e W. keeps_none t s W }

  walks_joined : (x y z : ℕ) (a b : List ℕ) → Walk t l x a y → Walk t l y b z → Walk t l x (a ++ b) z
  walks_joined x y z a b A B = record {
    follows = path_joined t a b x A.follows (rw A.ends B.follows);
    ends = end_joined a b x ∙ ap (λ (u : ℕ). end u b) A.ends ∙ B.ends;
    block = B.block;
    inner = B.inner;
    stays = λ k i. rw (inside_append t k a b, A.stays k i, B.stays k i);
  }

  pub joined : (x y z : ℕ) (a b : List ℕ) → Stretch t l x a y → Stretch t l y b z → Stretch t l x (a ++ b) z
  joined x y z a b A B = record {
    way = walks_joined x y z a b A.way B.way;
    avoids = omega (arith, visits_append (header t l) a b, A.avoids, B.avoids);
    keeps = λ s e W.
        let k : keeps_limits t s a ≡ true = A.keeps s e W in
        keeps_joined t a b s k (B.keeps (after t s a) (after_end_lem t a s ∙ ap (λ (u : ℕ). end u a) e ∙ A.way.ends) (within_after t a s k));
  }

-- ---- the count of a loop

-- after an edge that enters it
entered_count : (t : Routine) (u v l c : ℕ) → inside t u l ≡ false → header t l ≡ v → next_count t u v l c ≡ 1
unfolding next_count
entered_count t u v l c i h = rw (i, eq-eqb (header t l) v h)

-- a walk inside a loop that does not visit its header leaves its count
unchanged : (t : Routine) (l : ℕ) (w : List ℕ) (s : State) → inside t s.block l ≡ true → all_inside t l w ≡ true → visits (header t l) w ≡ 0
    → (after t s w).count l ≡ s.count l
unfolding after next next_count all_inside
unchanged t l [] s i a z = refl
unchanged t l (v ∷ w) s i a z =
    let p : (inside t v l ≡ true) × (all_inside t l w ≡ true) = and-true _ _ a in
    let q : (v ≡ header t l → ⊥) × (visits (header t l) w ≡ 0) = not_first (header t l) v w z in
    unchanged t l w (next t s v) p.0 p.1 q.1 ∙ rw (i, p.0, ne_eqb (header t l) v (λ e. q.0 (sym e)))

-- a walk inside a loop does not visit a block outside of it
never_visits : (t : Routine) (l h : ℕ) (w : List ℕ) → inside t h l ≡ false → all_inside t l w ≡ true → visits h w ≡ 0
unfolding all_inside visits
never_visits t l h [] o a = refl
never_visits t l h (v ∷ w) o a =
    let p : (inside t v l ≡ true) × (all_inside t l w ≡ true) = and-true _ _ a in
    rw (ne_eqb h v (λ e. true≢false (sym p.0 ∙ ap (λ (x : ℕ). inside t x l) (sym e) ∙ o))) (omega (arith, never_visits t l h w o p.1))

-- ---- a forward edge

module _ (t : Routine) (N : Nested t) where
  open N use {header_block, limit_least}

  edge_walk : (l x v : ℕ) → l < loop_count t → x < block_count t → edge t x v ≡ true → inside t v l ≡ true → Walk t l x (v ∷ []) v
  unfolding path end all_inside
  edge_walk l x v bl bx e i =
      let b : v < block_count t = N.target x v bx e in
      record { follows = rw e; ends = refl; block = b; inner = i; stays = λ k j. rw (inside_trans t N v l k b bl i j) }

  -- it keeps the limits
  next_within : (s : State) (v : ℕ) → s.block < block_count t → edge t s.block v ≡ true → back_edge t s.block v ≡ false → WithinLimits t s → WithinLimits t (next t s v)
  unfolding next
  next_within s v bs e r W l b = go (ℕ_discrete (header t l) v)
    where
      go : Dec (header t l ≡ v) → next_count t s.block v l (s.count l) ≤ limit t l
      go (yes h) = rw (entered_count t s.block v l (s.count l) (from_outside t N s.block v bs e l b h r) h) (limit_least l b)
      go (no ne) = kept_count t s v l ne (W l b)

  pub one_edge : (l x v : ℕ) → l < loop_count t → x < block_count t → inside t x l ≡ true → inside t v l ≡ true → edge t x v ≡ true → back_edge t x v ≡ false
      → Stretch t l x (v ∷ []) v
  unfolding visits
  one_edge l x v bl bx ix iv e r = record {
    way = edge_walk l x v bl bx e iv;
    avoids = rw (ne_eqb (header t l) v (λ q. true≢false (sym ix ∙ from_outside t N x v bx e l bl q r)));
    keeps = λ s q W. keeps_more t s v [] W (keeps_none t (next t s v) (next_within s v (rw q bx) (rw q e) (rw q r) W));
  }

  -- ---- a round, as a stretch from the header and an edge back to it, and r such rounds

  module _ (k : ℕ) (bk : k < loop_count t) (w : List ℕ) (y : ℕ) (R : Stretch t k (header t k) w y) (e : edge t y (header t k) ≡ true) where
    abbrev h : ℕ
    h = header t k

    abbrev turn : List ℕ
    turn = w ++ h ∷ []

    own : inside t h k ≡ true
    own = header_inside t N k bk

    turn_walk : Walk t k h turn h
    turn_walk = walks_joined t k h y h w (h ∷ []) R.way (edge_walk k y h bk R.way.block e own)

    module _ (s : State) (at : s.block ≡ header t k) where
      -- it adds 1 to its loop's count, and keeps the other loops within their limits
      turn_own : (next t (after t s w) h).count k ≡ s.count k + 1
      unfolding next next_count
      turn_own =
          let ends : (after t s w).block ≡ y = after_end_lem t w s ∙ ap (λ (u : ℕ). end u w) at ∙ R.way.ends in
          rw (ends, R.way.inner, own, eq-eqb h h refl)
          (ap (λ (c : ℕ). c + 1) (unchanged t k w s (rw at own) (R.way.stays k own) R.avoids))

      pub turn_others : WithinLimits t s → (l : ℕ) → l < loop_count t → (l ≡ k → ⊥) → (next t (after t s w) h).count l ≤ limit t l
      unfolding next
      turn_others W l b ne = kept_count t (after t s w) h l (λ q. ne (header_of t N l h b q ∙ N.own k bk)) (within_after t w s (R.keeps s at W) l b)

      turn_within : WithinLimits t s → s.count k < limit t k → WithinLimits t (next t (after t s w) h)
      turn_within W c l b = go (ℕ_discrete l k)
        where
          go : Dec (l ≡ k) → (next t (after t s w) h).count l ≤ limit t l
          go (yes q) = rw (q, turn_own) (omega arith)
          go (no ne) = turn_others W l b ne

      turn_keeps : WithinLimits t s → s.count k < limit t k → keeps_limits t s turn ≡ true
      turn_keeps W c =
          let kept : keeps_limits t s w ≡ true = R.keeps s at W in
          keeps_joined t w (h ∷ []) s kept (keeps_more t (after t s w) h [] (within_after t w s kept) (keeps_none t (next t (after t s w) h) (turn_within W c)))

    rounds_walk : (r : ℕ) → Walk t k h (copies r turn) h
    unfolding copies
    rounds_walk zero = nowhere t k h (header_block k bk) own
    rounds_walk (suc r) = walks_joined t k h h h turn (copies r turn) turn_walk (rounds_walk r)

    rounds_keep : (r : ℕ) (s : State) → s.block ≡ header t k → WithinLimits t s → s.count k + r ≤ limit t k → keeps_limits t s (copies r turn) ≡ true
    unfolding copies next after
    rounds_keep zero s at W c = keeps_none t s W
    rounds_keep (suc r) s at W c =
        keeps_joined t turn (copies r turn) s (turn_keeps s at W (omega arith))
        (rw (after_joined t w (h ∷ []) s) (rounds_keep r (next t (after t s w) h) refl (turn_within s at W (omega arith)) (omega (arith, turn_own s at))))

    -- an edge that enters k inside l, and r rounds of k
    pub all_rounds : (l x r : ℕ) → l < k → x < block_count t → inside t x l ≡ true → inside t (header t k) l ≡ true → edge t x (header t k) ≡ true
        → back_edge t x (header t k) ≡ false → r < limit t k → Stretch t l x (header t k ∷ copies r (w ++ header t k ∷ [])) (header t k)
    unfolding next visits
    all_rounds l x r lk bx ix ik d ret c = record {
      way = walks_joined t l x h h (h ∷ []) (copies r turn) one.way (record {
        follows = (rounds_walk r).follows;
        ends = (rounds_walk r).ends;
        block = header_block k bk;
        inner = ik;
        stays = λ j i. (rounds_walk r).stays j (inside_trans t N h l j (header_block k bk) bl ik i);
      });
      avoids = omega (arith, one.avoids, never_visits t k (header t l) (copies r turn) (outside_above t N (header t l) k (omega (arith, N.own l bl))) ((rounds_walk r).stays k own));
      keeps = λ s q W.
          keeps_more t s h (copies r turn) W
          (rounds_keep r (next t s h) refl (next_within s h (rw q bx) (rw q d) (rw q ret) W)
          (omega (arith, entered_count t s.block h k (s.count k) (rw q (from_outside t N x h bx d k bk refl ret)) refl)));
    }
      where
        bl : l < loop_count t
        bl = omega arith

        one : Stretch t l x (header t k ∷ []) (header t k)
        one = one_edge l x (header t k) bl bx ix ik d ret
