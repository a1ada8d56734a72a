-- No round of a loop costs more than the loop's multiplier, by any figures that keep the inequalities (`rounds_most`): the potential along
-- the round, with nothing left of the loops around its header, starts and ends at the header's figure. And where a loop has a round, its
-- header has a tail (`round_tail`): back along a round each block has a tail, or is inside an inner loop whose header has one. So the
-- multiplier is the greatest round's cost, where each tail of a header is some round's cost (`greatest_round`). Loop 0 has no round
-- (`no_round_0`). Assumes nothing.
use mathlib.Core.Path.{◌≡◌, refl, sym, ◌∙◌, ap}
use mathlib.Core.Bool.{Bool, true, false, not, ◌&&◌, and-false}
use mathlib.Core.List.{List, [], ◌∷◌, ◌++◌}
use mathlib.Core.Logic.{◌⊎◌, inl, inr, ◌≢◌}
use mathlib.Core.Option.{Option, none, some}
use Prim.Native.Nat.{ℕ, ◌+◌, ◌≤◌, ◌<◌}
use native.Mathlib.Decide.{ℕ_discrete}
use native.Mathlib.Omega.{arith}
use lib.Dec.{eqb, ltb}
use borrow.Author.Tests.{eqb-true, ltb-false, ne_eqb, not-true}
use lib.IntN.{ℤ, pos, ◌+ℤ◌, ◌-ℤ◌, +ℤ_idr, zero-*ℤ}
use lib.Signed.{◌≤ℤ◌}
use Rattle.lists.specs.Search.{when◌then◌else◌}
use Rattle.lists.proofs.Tests.{and-true}
use Rattle.lists.proofs.Search.{none_of}
use Rattle.integers.proofs.Laws.{ints, sum, diff, le_z_le}
use Rattle.integers.proofs.Direction.{at_most}
use Rattle.integers.proofs.Sums.{sum_zero}
use Rattle.wcet.specs.Table.{Routine, block_count, loop_count, cost, loop_of, figure, header, limit, multiplier, edge, inside, is_header}
use Rattle.wcet.specs.Rules.{inequality, edge_holds}
use Rattle.wcet.specs.Run.{State, next, path, run_cost}
use Rattle.wcet.specs.Stays.{all_inside, visits}
use Rattle.wcet.specs.Cycles.{back_edge}
use Rattle.wcet.proofs.Nesting.{Nested}
use Rattle.wcet.proofs.Potential.{Certificate, remaining, term, potential, Sound, step}
use Rattle.wcet.proofs.Path.{at_end}
use Rattle.wcet.proofs.Entry.{step_cost}
use Rattle.wcet.proofs.Bound.{remaining_left}
use Rattle.wcet.proofs.Counts.{header_inside}
use Rattle.optimum.specs.Rounds.{round_start, passes_inner, keeps_inner, Round, round_cost, GreatestRound}
use Rattle.optimum.specs.Remade.{Feasible}
use Rattle.optimum.specs.Tails.{weight}
use Rattle.optimum.proofs.Local.{LocallyMade}
use Rattle.optimum.proofs.Structure.{outside_above, inside_highest, target_loop, back_to}
use Rattle.optimum.proofs.Joined.{not_first}
use Rattle.optimum.proofs.Tails.{none_some, AtLeast, tail_forward, tail_back}
use Rattle.optimum.proofs.Figures.{back_test, feasible}

-- ---- no round costs more

-- the tables' own certificate, without the multipliers of loop l and of the loops around it
abbrev without : Routine → ℕ → Certificate
without t l = record { figure = figure t; multiplier = λ k. when inside t (header t l) k then 0 else multiplier t k; visits = limit t }

-- no loop but l is over its limit
abbrev pub InnerKept : Routine → ℕ → State → Type 0
InnerKept t l s = (k : ℕ) → k < loop_count t → (k ≡ l → ⊥) → s.count k ≤ limit t k

inner_kept : (t : Routine) (l : ℕ) (s : State) → passes_inner t l s ≡ false → InnerKept t l s
unfolding passes_inner
inner_kept t l s e k b ne =
    ltb-false (limit t k) (s.count k)
    (rw (ne_eqb k l ne) at (none_of (loop_count t) (λ k. not (eqb k l) && ltb (limit t k) (s.count k)) e k b))

module _ (t : Routine) (N : Nested t) (F : Feasible t) (l : ℕ) (m : l < loop_count t) where
  open N use {header_block, innermost, target, own, at_header}

  abbrev h : ℕ
  h = header t l

  abbrev P : State → ℤ
  P = potential t (without t l)

  start_potential : P (round_start t l) ≡ figure t h
  unfolding potential round_start
  start_potential =
      rw (sum_zero (loop_count t) (term t (without t l) h (round_start t l).count) (λ k b. go (inside t h k) k ((round_start t l).count k))) (+ℤ_idr (figure t h))
    where
      go : (x : Bool) (k c : ℕ) → (when x then remaining (when x then 0 else multiplier t k) (limit t k) c else pos 0) ≡ pos 0
      go true k c = zero-*ℤ (pos (limit t k) -ℤ pos c)
      go false k c = refl

  -- what is left of each loop is not negative
  left : (s : State) → InnerKept t l s → (k : ℕ) → k < loop_count t → pos 0 ≤ℤ remaining ((without t l).multiplier k) (limit t k) (s.count k)
  left s W k b = go (ℕ_discrete k l)
    where
      go : Dec (k ≡ l) → pos 0 ≤ℤ remaining ((without t l).multiplier k) (limit t k) (s.count k)
      go (yes e) = rw (e, header_inside t N l m, zero-*ℤ) (omega ints)
      go (no ne) = remaining_left ((without t l).multiplier k) (limit t k) (s.count k) (W k b ne)

  -- a header inside l other than l's is that of an inner loop
  inner : (v : ℕ) → inside t v l ≡ true → (v ≡ h → ⊥) → is_header t v ≡ true → inside t h (loop_of t v) ≡ false
  inner v i ne e =
      let other : l ≢ loop_of t v = λ q. ne (sym (eqb-true (header t (loop_of t v)) v e) ∙ ap (header t) (sym q)) in
      outside_above t N h (loop_of t v) (omega (arith, inside_highest t N v l i, own l m))

  sound : (s : State) (v : ℕ) → s.block < block_count t → InnerKept t l s → edge t s.block v ≡ true → inside t v l ≡ true → (v ≡ header t l → ⊥)
      → Sound t ◌≤ℤ◌ (without t l) s v (pos (cost t v))
  unfolding inequality edge_holds
  sound s v b W e i ne = record {
    loop = innermost v c;
    own = own;
    enters = λ k n. at_header s.block v k b e n;
    leaves = λ k n p q. left s W k n;
    plain = λ p. le_z_le _ _ (rw p at holds);
    back = λ p q. rw (inner v i ne p) (le_z_le _ _ (rw (p, q) at holds));
    entry = λ p q. rw (inner v i ne p) (le_z_le _ _ (rw (p, q) at holds));
  }
    where
      c : v < block_count t
      c = target s.block v b e

      holds : edge_holds t s.block v ≡ true
      holds = F.holds s.block v b e

  -- from a state inside l along w and back to the header
  along : (w : List ℕ) (s : State) → s.block < block_count t → inside t s.block l ≡ true → path t s.block (w ++ h ∷ []) ≡ true
      → all_inside t l w ≡ true → visits h w ≡ 0 → keeps_inner t l s (w ++ h ∷ []) ≡ true
      → (pos (run_cost t (w ++ h ∷ [])) +ℤ figure t h) ≤ℤ (pos (multiplier t l) +ℤ P s)
  unfolding path run_cost keeps_inner all_inside next
  along [] s b i p a n k =
      let e : edge t s.block h ≡ true = (and-true _ _ p).0 in
      let f : ℤ = figure t s.block in
      let last : pos (cost t h) ≤ℤ (f -ℤ figure t h +ℤ pos (multiplier t l)) = le_z_le _ _ (sym (back_test t s.block l (own l m) i) ∙ F.holds s.block h b e) in
      let W : InnerKept t l s = inner_kept t l s (not-true _ (and-true _ _ k).0) in
      let end : f ≤ℤ P s = at_end ◌≤ℤ◌ at_most t (without t l) (step_cost t) s (λ k b j. left s W k b) in
      omega (ints, diff f (figure t h), sum (f -ℤ figure t h) (pos (multiplier t l)), sum (pos (cost t h + 0)) (figure t h), sum (pos (multiplier t l)) (P s))
  along (v ∷ w) s b i p a n k =
      let e : (edge t s.block v ≡ true) × (path t v (w ++ h ∷ []) ≡ true) = and-true _ _ p in
      let d : (inside t v l ≡ true) × (all_inside t l w ≡ true) = and-true _ _ a in
      let o : (v ≡ h → ⊥) × (visits h w ≡ 0) = not_first h v w n in
      let q : (not (passes_inner t l s) ≡ true) × (keeps_inner t l (next t s v) (w ++ h ∷ []) ≡ true) = and-true _ _ k in
      let one : (pos (cost t v) +ℤ P (next t s v)) ≤ℤ P s
      = step ◌≤ℤ◌ at_most t (without t l) s v (pos (cost t v)) (sound s v b (inner_kept t l s (not-true _ q.0)) e.0 d.0 o.0) in
      let c : ℕ = run_cost t (w ++ h ∷ []) in
      let rest : (pos c +ℤ figure t h) ≤ℤ (pos (multiplier t l) +ℤ P (next t s v))
      = along w (next t s v) (target s.block v b e.0) d.0 e.1 d.1 o.1 q.1 in
      omega (ints, sum (pos (cost t v)) (P (next t s v)), sum (pos c) (figure t h), sum (pos (multiplier t l)) (P (next t s v)), sum (pos (cost t v + c)) (figure t h), sum (pos (multiplier t l)) (P s))

  pub rounds_most : (w : List ℕ) → Round t l w → round_cost t l w ≤ multiplier t l
  unfolding round_start
  rounds_most w r =
      let f : (pos (round_cost t l w) +ℤ figure t h) ≤ℤ (pos (multiplier t l) +ℤ figure t h)
      = rw start_potential at (along w (round_start t l) (header_block l m) (header_inside t N l m) r.follows r.stays r.first_return r.kept) in
      omega (ints, sum (pos (round_cost t l w)) (figure t h), sum (pos (multiplier t l)) (figure t h))

-- ---- where there is none

abbrev There : Option ℕ → Type 0
There o = (k : ℕ) × (o ≡ some k)

module _ (t : Routine) (N : Nested t) (L : LocallyMade t) (l : ℕ) (z : 0 < l) (m : l < loop_count t) where
  open N use {header_block, target, own, at_header}
  open L use {tail, tails}

  -- x is inside the inner loop k, whose header has a tail
  abbrev Within : ℕ → ℕ → Type 0
  Within x k = (k < loop_count t) × (k ≡ l → ⊥) × (inside t (header t k) l ≡ true) × (inside t x k ≡ true) × There (tail l (header t k))

  abbrev Near : ℕ → Type 0
  Near x = There (tail l x) ⊎ ((k : ℕ) × Within x k)

  module _ (u v : ℕ) (b : u < block_count t) (i : inside t u l ≡ true) (e : edge t u v ≡ true) (j : inside t v l ≡ true) where
    goes_on : back_edge t u v ≡ false → There (tail l v) → There (tail l u)
    goes_on r q = let a : AtLeast ◌≤◌ (tail l u) (weight t v + q.0) = tail_forward t N tail tails l u v q.0 m b i e j r q.1 in (a.0, a.1)

    step_back : (v ≡ header t l → ⊥) → Near v → Near u
    unfolding back_edge
    step_back ne (inl q) = go (back_edge t u v) refl
      where
        go : (r : Bool) → back_edge t u v ≡ r → Near u
        go false r = inl (goes_on r q)
        go true r =
            let p : (0 < loop_of t v) × (header t (loop_of t v) ≡ v) × (inside t u (loop_of t v) ≡ true) = back_to t N u v b e r in
            inr (loop_of t v, (target_loop t N u v b e, λ s. ne (sym p.1 ∙ ap (header t) s), rw p.1 j, p.2, rw p.1 q))
    step_back ne (inr q) = go (inside t u q.0) refl
      where
        w : Within v q.0
        w = q.1

        go : (x : Bool) → inside t u q.0 ≡ x → Near u
        go true r = inr (q.0, (w.0, w.1, w.2, r, w.4))
        go false r =
            let h : header t q.0 ≡ v = at_header u v q.0 b e w.0 w.3 r in
            let c : loop_of t v ≡ q.0 = ap (loop_of t) (sym h) ∙ own q.0 w.0 in
            inl (goes_on (rw (c, r) (and-false (eqb (header t q.0) v))) (rw h at w.4))

  -- from u along w and back to the header
  along_back : (w : List ℕ) (u : ℕ) → u < block_count t → inside t u l ≡ true → path t u (w ++ header t l ∷ []) ≡ true → all_inside t l w ≡ true
      → visits (header t l) w ≡ 0 → Near u
  unfolding path all_inside
  along_back [] u b i p a n =
      let k : AtLeast ◌≤◌ (tail l u) (cost t (header t l)) = tail_back t N tail tails l u z m b i (and-true _ _ p).0 in
      inl (k.0, k.1)
  along_back (v ∷ w) u b i p a n =
      let e : (edge t u v ≡ true) × (path t v (w ++ header t l ∷ []) ≡ true) = and-true _ _ p in
      let d : (inside t v l ≡ true) × (all_inside t l w ≡ true) = and-true _ _ a in
      let o : (v ≡ header t l → ⊥) × (visits (header t l) w ≡ 0) = not_first (header t l) v w n in
      step_back u v b i e.0 d.0 o.0 (along_back w v (target u v b e.0) d.0 e.1 d.1 o.1)

  pub round_tail : (w : List ℕ) → Round t l w → There (tail l (header t l))
  round_tail w r = go (along_back w (header t l) (header_block l m) (header_inside t N l m) r.follows r.stays r.first_return)
    where
      go : Near (header t l) → There (tail l (header t l))
      go (inl q) = q
      go (inr q) =
          let w : Within (header t l) q.0 = q.1 in
          absurd (w.1 (omega (arith, inside_highest t N (header t q.0) l w.2, inside_highest t N (header t l) q.0 w.3, own q.0 w.0, own l m)))

  -- a header's tail is the greatest round's cost, once some round costs it
  pub greatest_round : ((k : ℕ) → tail l (header t l) ≡ some k → (w : List ℕ) × Round t l w × (round_cost t l w ≡ k)) → GreatestRound t l (multiplier t l)
  greatest_round attains = record { most = rounds_most t N (feasible t N L) l m; attained = go (tail l (header t l)) refl }
    where
      go : (o : Option ℕ) → tail l (header t l) ≡ o
          → ((w : List ℕ) × Round t l w × (round_cost t l w ≡ multiplier t l)) ⊎ ((multiplier t l ≡ 0) × ((w : List ℕ) → Round t l w → ⊥))
      go none e = inr (L.no_round l z m e, λ w r. let q : There (tail l (header t l)) = round_tail w r in none_some (sym e ∙ q.1))
      go (some k) e = let a : (w : List ℕ) × Round t l w × (round_cost t l w ≡ k) = attains k e in inl (a.0, a.1, a.2 ∙ sym (L.some_round l k z m e))

-- no edge ends at block 0 (206)
module _ (t : Routine) (N : Nested t) where
  never_home : (w : List ℕ) (u : ℕ) → u < block_count t → path t u (w ++ header t 0 ∷ []) ≡ true → ⊥
  unfolding path
  never_home [] u b p = let e : edge t u (header t 0) ≡ true = (and-true _ _ p).0 in N.entry_starts u b (rw N.loop0_header at e)
  never_home (v ∷ w) u b p =
      let q : (edge t u v ≡ true) × (path t v (w ++ header t 0 ∷ []) ≡ true) = and-true _ _ p in
      never_home w v (N.target u v b q.0) q.1

  pub no_round_0 : (w : List ℕ) → Round t 0 w → ⊥
  no_round_0 w r = never_home w (header t 0) (N.header_block 0 N.some_loop) r.follows
