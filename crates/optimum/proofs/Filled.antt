-- Figures filled in loop by loop. The figure of a loop's header is final when the loop's turn comes (`final`), and so they are made
-- (`filled_made`). They are not far below 0 (`figure_least`). Assumes nothing.
use mathlib.Core.Path.{◌≡◌, refl, sym, ◌∙◌, ap}
use mathlib.Core.Bool.{Bool, true, false, not}
use mathlib.Core.Logic.{◌⊎◌, inl, inr}
use mathlib.Core.Option.{Option, none, some}
use Prim.Native.Nat.{ℕ, zero, suc, ◌+◌, ◌*◌, ◌≤◌, ◌<◌}
use native.Mathlib.Nat.{mul-le-mul_left, mul-suc}
use native.Mathlib.Decide.{ℕ_discrete}
use native.Mathlib.Omega.{arith}
use lib.Dec.{eqb}
use borrow.Author.Tests.{eqb-true, eqb-false, eq-eqb, ne_eqb}
use lib.IntN.{ℤ, pos, ◌+ℤ◌, ◌-ℤ◌}
use lib.Signed.{lt_z, ◌≤ℤ◌}
use Rattle.lists.specs.Search.{when◌then◌else◌}
use Rattle.integers.proofs.Laws.{ints, sum, diff}
use Rattle.wcet.specs.Table.{Routine, block_count, loop_count, figure, header, multiplier, inside}
use Rattle.wcet.proofs.Nesting.{Nested}
use Rattle.wcet.proofs.Counts.{header_inside}
use Rattle.optimum.specs.Tails.{best}
use Rattle.optimum.specs.Columns.{from_exit, from_header, turn, figure_by}
use Rattle.optimum.proofs.Local.{Tailed, FigureFrom, LocallyMade}
use Rattle.optimum.proofs.Structure.{inside_whole, outside_above}
use Rattle.optimum.proofs.Tails.{none_some, AtLeast, Compares, best_none, best_one, best_left, best_right}

integers : Compares lt_z ◌≤ℤ◌
integers = record { same = λ a. omega ints; is_less = λ a b e. omega ints; not_less = λ a b e. omega ints }

some_same : {a b : ℤ} → some a ≡ some b → a ≡ b
some_same e = cc

-- ---- the turns

module _ (t : Routine) (tail : (l x : ℕ) → Option ℕ) where
  -- loop l gives f to x
  pub data Gives (l x : ℕ) (f : ℤ) : Type 0 where
    to_exit : (k : ℕ) → l ≡ 0 → tail 0 x ≡ some k → f ≡ pos k → Gives l x f
    by_header : (k : ℕ) (g : ℤ) → 0 < l → inside t x l ≡ true → (x ≡ header t l → ⊥) → tail l x ≡ some k → figure_by t tail l (header t l) ≡ some g
        → f ≡ pos k -ℤ pos (multiplier t l) +ℤ g → Gives l x f

  turn_gives : (l x : ℕ) (f : ℤ) → turn t tail l x (figure_by t tail l (header t l)) ≡ some f → Gives l x f
  unfolding turn from_exit from_header
  turn_gives l x f e = go (inside t x l) (eqb l 0) (eqb x (header t l)) (tail l x) (figure_by t tail l (header t l)) refl refl refl refl refl e
    where
      go : (i z h : Bool) (o : Option ℕ) (p : Option ℤ) → inside t x l ≡ i → eqb l 0 ≡ z → eqb x (header t l) ≡ h → tail l x ≡ o → figure_by t tail l (header t l) ≡ p
          → (when not i then none else when z then from_exit o else when h then none else from_header (multiplier t l) o p) ≡ some f → Gives l x f
      go false z h o p ei ez eh eo ep e = none_some e
      go true true h none p ei ez eh eo ep e = none_some e
      go true true h (some k) p ei ez eh eo ep e = let q : l ≡ 0 = eqb-true l 0 ez in to_exit k q (rw q at eo) (sym (some_same e))
      go true false true o p ei ez eh eo ep e = none_some e
      go true false false none p ei ez eh eo ep e = none_some e
      go true false false (some k) none ei ez eh eo ep e = none_some e
      go true false false (some k) (some g) ei ez eh eo ep e =
          by_header k g (let ne : (l ≡ 0 → ⊥) = eqb-false l 0 ez in omega arith) ei (eqb-false x (header t l) eh) eo ep (sym (some_same e))

  -- a figure comes from one of the loops that have had their turns
  pub given : (d x : ℕ) (f : ℤ) → figure_by t tail d x ≡ some f → (l : ℕ) × (l < d) × Gives l x f
  unfolding figure_by
  given zero x f e = none_some e
  given (suc d) x f e = go (best_one lt_z (figure_by t tail d x) (turn t tail d x (figure_by t tail d (header t d))) f e) (given d x f)
    where
      go : (figure_by t tail d x ≡ some f) ⊎ (turn t tail d x (figure_by t tail d (header t d)) ≡ some f)
          → (figure_by t tail d x ≡ some f → (l : ℕ) × (l < d) × Gives l x f) → (l : ℕ) × (l < suc d) × Gives l x f
      go (inl q) rest = let g : (l : ℕ) × (l < d) × Gives l x f = rest q in (g.0, omega (arith, g.1), g.2)
      go (inr q) rest = (d, omega arith, turn_gives d x f q)

  -- and is no less than what each of them gives
  pub over : (d l x : ℕ) (f : ℤ) → l < d → turn t tail l x (figure_by t tail l (header t l)) ≡ some f → AtLeast ◌≤ℤ◌ (figure_by t tail d x) f
  unfolding figure_by
  over zero l x f h e = absurd (omega arith)
  over (suc d) l x f h e = go (ℕ_discrete l d) (λ b. over d l x f b e)
    where
      go : Dec (l ≡ d) → (l < d → AtLeast ◌≤ℤ◌ (figure_by t tail d x) f) → AtLeast ◌≤ℤ◌ (figure_by t tail (suc d) x) f
      go (yes q) rest = rw (rw q at e) (best_right lt_z ◌≤ℤ◌ integers (figure_by t tail d x) f)
      go (no ne) rest =
          let r : AtLeast ◌≤ℤ◌ (figure_by t tail d x) f = rest (omega arith) in
          let s : AtLeast ◌≤ℤ◌ (figure_by t tail (suc d) x) r.0 = rw r.1 (best_left lt_z ◌≤ℤ◌ integers r.0 (turn t tail d x (figure_by t tail d (header t d)))) in
          (s.0, s.1, omega (ints, r.2, s.2))

  pub exit_over : (d x k : ℕ) → 0 < d → inside t x 0 ≡ true → tail 0 x ≡ some k → AtLeast ◌≤ℤ◌ (figure_by t tail d x) (pos k)
  unfolding turn from_exit
  exit_over d x k h i e = over d 0 x (pos k) h (rw (i, e))

  pub header_over : (d l x k : ℕ) (g : ℤ) → 0 < l → l < d → inside t x l ≡ true → (x ≡ header t l → ⊥) → tail l x ≡ some k → figure_by t tail l (header t l) ≡ some g
      → AtLeast ◌≤ℤ◌ (figure_by t tail d x) (pos k -ℤ pos (multiplier t l) +ℤ g)
  unfolding turn from_header
  header_over d l x k g z h i ne e p = over d l x (pos k -ℤ pos (multiplier t l) +ℤ g) h (rw (i, ne_eqb l 0 (λ q. omega arith), ne_eqb x (header t l) ne, e, p))

module _ (t : Routine) (N : Nested t) (tail : (l x : ℕ) → Option ℕ) where
  open N use {header_block}

  -- what passes on with each turn holds of the figures
  module _ (P : (d x : ℕ) → ℤ → Type 0) (first : (d x k : ℕ) → 0 < d → x < block_count t → tail 0 x ≡ some k → P d x (pos k))
      (later : (d l x k : ℕ) (g : ℤ) → 0 < l → l < d → l < loop_count t → x < block_count t → inside t x l ≡ true → (x ≡ header t l → ⊥) → tail l x ≡ some k → P l (header t l) g → P d x (pos k -ℤ pos (multiplier t l) +ℤ g)) where
    -- r is not below d
    by_number : (r d x : ℕ) (f : ℤ) → d ≤ r → d ≤ loop_count t → x < block_count t → figure_by t tail d x ≡ some f → P d x f
    by_number zero d x f h m b e = let p : (l : ℕ) × (l < d) × Gives t tail l x f = given t tail d x f e in absurd (omega (arith, p.1))
    by_number (suc r) d x f h m b e = let p : (l : ℕ) × (l < d) × Gives t tail l x f = given t tail d x f e in go p.0 p.1 p.2 (λ l g. by_number r l (header t l) g)
      where
        go : (l : ℕ) → l < d → Gives t tail l x f
            → ((l : ℕ) (g : ℤ) → l ≤ r → l ≤ loop_count t → header t l < block_count t → figure_by t tail l (header t l) ≡ some g → P l (header t l) g) → P d x f
        go l c (to_exit k z q p) rest = rw p (first d x k (omega arith) b q)
        go l c (by_header k g z i ne q w p) rest =
            rw p (later d l x k g z c (omega arith) b i ne q (rest l g (omega arith) (omega arith) (header_block l (omega arith)) w))

    pub along_turns : (d x : ℕ) (f : ℤ) → d ≤ loop_count t → x < block_count t → figure_by t tail d x ≡ some f → P d x f
    along_turns d x f = by_number d d x f (omega arith)

  -- the figure of loop l's header is final when l's turn comes: the other loops around it are below l
  pub final : (d l : ℕ) → 0 < l → l < loop_count t → l ≤ d → figure_by t tail d (header t l) ≡ figure_by t tail l (header t l)
  unfolding figure_by turn
  final zero l z m h = absurd (omega arith)
  final (suc d) l z m h = go (ℕ_discrete l (suc d)) (λ b. final d l z m b)
    where
      nothing : l ≤ d → Dec (l ≡ d) → turn t tail d (header t l) (figure_by t tail d (header t d)) ≡ none
      nothing b (yes q) = rw (← q, header_inside t N l m, ne_eqb l 0 (λ e. omega arith), eq-eqb (header t l) (header t l) refl)
      nothing b (no ne) = rw (outside_above t N (header t l) d (omega (arith, N.own l m)))

      go : Dec (l ≡ suc d) → (l ≤ d → figure_by t tail d (header t l) ≡ figure_by t tail l (header t l))
          → figure_by t tail (suc d) (header t l) ≡ figure_by t tail l (header t l)
      go (yes q) rest = ap (λ (k : ℕ). figure_by t tail k (header t l)) (sym q)
      go (no ne) rest =
          ap (best lt_z (figure_by t tail d (header t l))) (nothing (omega arith) (ℕ_discrete l d)) ∙ best_none lt_z (figure_by t tail d (header t l)) ∙ rest (omega arith)

  -- so these figures are made, by the equations of the tails and the multipliers read off them
  pub filled_made : Tailed t tail → ((l k : ℕ) → 0 < l → l < loop_count t → tail l (header t l) ≡ some k → multiplier t l ≡ k)
      → ((l : ℕ) → 0 < l → l < loop_count t → tail l (header t l) ≡ none → multiplier t l ≡ 0)
      → ((x : ℕ) → x < block_count t → figure_by t tail (loop_count t) x ≡ some (figure t x)) → LocallyMade t
  filled_made E some_round no_round filled = record {
    tail = tail;
    tails = E;
    some_round = some_round;
    no_round = no_round;
    to_exit = λ x k b e. reaches x (pos k) b (exit_over t tail (loop_count t) x k N.some_loop (inside_whole t N x b) e);
    by_back_edge = λ x l k b z m i e. by x l k b z m i e (ℕ_discrete x (header t l));
    from = λ x b. from x (given t tail (loop_count t) x (figure t x) (filled x b));
  }
    where
      reaches : (x : ℕ) (f : ℤ) → x < block_count t → AtLeast ◌≤ℤ◌ (figure_by t tail (loop_count t) x) f → f ≤ℤ figure t x
      reaches x f b o = let q : o.0 ≡ figure t x = some_same (sym o.1 ∙ filled x b) in omega (ints, o.2)

      at_turn : (l : ℕ) → 0 < l → l < loop_count t → figure_by t tail l (header t l) ≡ some (figure t (header t l))
      at_turn l z m = sym (final (loop_count t) l z m (omega arith)) ∙ filled (header t l) (header_block l m)

      by : (x l k : ℕ) → x < block_count t → 0 < l → l < loop_count t → inside t x l ≡ true → tail l x ≡ some k → Dec (x ≡ header t l)
          → (pos k -ℤ pos (multiplier t l) +ℤ figure t (header t l)) ≤ℤ figure t x
      by x l k b z m i e (yes q) =
          let r : multiplier t l ≡ k = some_round l k z m (rw q at e) in
          rw (q, r) (omega (ints, diff (pos k) (pos k), sum (pos k -ℤ pos k) (figure t (header t l))))
      by x l k b z m i e (no ne) =
          reaches x (pos k -ℤ pos (multiplier t l) +ℤ figure t (header t l)) b (header_over t tail (loop_count t) l x k (figure t (header t l)) z m i ne e (at_turn l z m))

      from : (x : ℕ) → (l : ℕ) × (l < loop_count t) × Gives t tail l x (figure t x) → FigureFrom t tail x
      from x p = go p.0 p.1 p.2
        where
          go : (l : ℕ) → l < loop_count t → Gives t tail l x (figure t x) → FigureFrom t tail x
          go l m (to_exit k z e f) = inl (k, e, f)
          go l m (by_header k g z i ne e p f) =
              let q : g ≡ figure t (header t l) = some_same (sym p ∙ at_turn l z m) in
              inr (l, k, z, m, i, ne, e, rw (← q) f)

  -- where no multiplier is over b, the figures are not far below 0
  pub figure_least : (b : ℕ) → ((l : ℕ) → l < loop_count t → multiplier t l ≤ b) → (d x : ℕ) (f : ℤ) → d ≤ loop_count t → x < block_count t → figure_by t tail d x ≡ some f
      → pos 0 ≤ℤ (f +ℤ pos (b * d))
  figure_least b h =
      along_turns (λ d x f. pos 0 ≤ℤ (f +ℤ pos (b * d)))
      (λ d x k z c e. omega (ints, sum (pos k) (pos (b * d))))
      (λ d l x k g z n m c i ne e p.
      let f : ℤ = pos k -ℤ pos (multiplier t l) in
      let more : b * suc l ≤ b * d = mul-le-mul_left b n in
      let one : b * suc l ≡ b * l + b = mul-suc b l in
      omega (ints, p, h l m, diff (pos k) (pos (multiplier t l)), sum f g, sum (f +ℤ g) (pos (b * d)), sum g (pos (b * l))))
