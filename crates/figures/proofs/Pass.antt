-- The gates, one loop after the other, and the pass over the blocks, from the last in an order to the first: it makes any figures that the slots
-- fix by equations, as long as none is over the limit. Assumes nothing.
use Rattle.std.proofs.Common.{◌≡◌, refl, sym, ◌∙◌, ap, Bool, true, false, true≢false, List, ℕ, zero, suc, ◌+◌, ◌-◌, ◌^◌, ◌≤◌, ◌<◌, arith, ltb, ℤ, pos, neg_ℤ, ◌+ℤ◌, ◌-ℤ◌, length, get_or, set, length-set, replicate, ◌≤ℤ◌}
use native.Mathlib.Decide.{ℕ_discrete}
use borrow.Author.Tests.{ltb-true, ltb-false}
use lib.ListN.{length-replicate, get_or-replicate, get_or-eq_default}
use lib.Seq.{get_or-set_same, get_or-set_other}
use lib.Signed.{lt_z}
use mir.Syntax.{w64}
use mir.Val.{SFits}
use Rattle.integers.proofs.Laws.{ints, sum, diff, size}
use Rattle.limits.specs.Limits.{most_blocks}
use Rattle.lists.specs.Search.{when◌then◌else◌}
use Rattle.lists.proofs.Tests.{neither}
use Rattle.wcet.specs.Rules.{figure_outside}
use Rattle.tails.specs.Words.{greater_of}
use Rattle.tails.specs.Slots.{places, Slotted}
use Rattle.figures.specs.Figures.{no_figure, HeadFits, ValuesFit, WeightFits}
use Rattle.figures.specs.Columns.{GatesSet, slot_value, Equations, Forward, FiguresFilled}

-- ---- the gates

-- what a back edge to the header of loop l asks for
abbrev pub gate_by : (costs headers made : List ℕ) (heads : List ℤ) → ℕ → ℤ
gate_by costs headers made heads l = pos (get_or costs (get_or headers l 0) 0) -ℤ pos (get_or made l 0) +ℤ get_or heads l (pos 0)

-- the gates of the loops below l are set
pub record Gating (costs headers made : List ℕ) (heads old new : List ℤ) (l : ℕ) : Type 0 where
  pub size : length new ≡ length old
  pub exit_gate : get_or new most_blocks (pos 0) ≡ pos 0
  pub gate : (k : ℕ) → 0 < k → k < l → get_or new (most_blocks + k) (pos 0) ≡ gate_by costs headers made heads k
  pub rest : (i : ℕ) → i < most_blocks → get_or new i (pos 0) ≡ get_or old i (pos 0)
  pub after : (i : ℕ) → most_blocks + l ≤ i → most_blocks < i → get_or new i (pos 0) ≡ get_or old i (pos 0)

pub gate_fits : (c k : ℕ) (z : ℤ) → c < 2 ^ 32 → k ≤ 2 ^ 40 → HeadFits z → SFits w64 (pos c -ℤ pos k +ℤ z)
gate_fits c k z h l H =
    let p = H.head_least in
    let q = H.head_most in
    omega (ints, size (pos c -ℤ pos k +ℤ z), diff (pos c) (pos k), sum (pos c -ℤ pos k) z, size z)

-- and within the range of a pass
pub gate_range : (c k : ℕ) (z : ℤ) → c < 2 ^ 32 → k ≤ 2 ^ 40 → HeadFits z
    → (neg_ℤ (pos (2 ^ 62 + 2 ^ 41)) ≤ℤ (pos c -ℤ pos k +ℤ z)) × ((pos c -ℤ pos k +ℤ z) ≤ℤ pos (2 ^ 61))
gate_range c k z h l H =
    let p = H.head_least in
    let q = H.head_most in
    (omega (ints, diff (pos c) (pos k), sum (pos c -ℤ pos k) z), omega (ints, diff (pos c) (pos k), sum (pos c -ℤ pos k) z))

module _ (costs headers made : List ℕ) (heads old : List ℤ) where
  module _ (new : List ℤ) (l : ℕ) (G : Gating costs headers made heads old new l) where
    pub gating_next : 0 < l → most_blocks + l < length old → Gating costs headers made heads old (set new (most_blocks + l) (gate_by costs headers made heads l)) (l + 1)
    gating_next z b = record {
      size = length-set new (most_blocks + l) value ∙ G.size;
      exit_gate = get_or-set_other new (most_blocks + l) most_blocks value (pos 0) (λ e. omega arith) ∙ G.exit_gate;
      gate = λ k p q. gate k p q (ℕ_discrete k l);
      rest = λ i c. get_or-set_other new (most_blocks + l) i value (pos 0) (λ e. omega arith) ∙ G.rest i c;
      after = λ i c d. get_or-set_other new (most_blocks + l) i value (pos 0) (λ e. omega arith) ∙ G.after i (omega arith) d;
    }
      where
        value : ℤ
        value = gate_by costs headers made heads l

        gate : (k : ℕ) → 0 < k → k < l + 1 → Dec (k ≡ l) → get_or (set new (most_blocks + l) value) (most_blocks + k) (pos 0) ≡ gate_by costs headers made heads k
        gate k p q (yes e) = rw e (get_or-set_same new (most_blocks + l) value (pos 0) (omega (arith, G.size)))
        gate k p q (no ne) = get_or-set_other new (most_blocks + l) (most_blocks + k) value (pos 0) (λ e. ne (omega arith)) ∙ G.gate k p (omega arith)

-- a pass can start with no figure anywhere
pub none_fit : (k : ℕ) → ValuesFit (replicate k no_figure)
none_fit k i = go (ltb i k) refl
  where
    go : (a : Bool) → ltb i k ≡ a → (neg_ℤ (pos (2 ^ 62 + 2 ^ 41)) ≤ℤ get_or (replicate k no_figure) i (pos 0)) × (get_or (replicate k no_figure) i (pos 0) ≤ℤ pos (2 ^ 61))
    go true a = rw (get_or-replicate k i no_figure (pos 0) (ltb-true i k a)) (omega ints, omega ints)
    go false a =
        let e : length (replicate k no_figure) ≤ i = rw (length-replicate k no_figure) (ltb-false i k a) in
        rw (get_or-eq_default (replicate k no_figure) (pos 0) e) (omega ints, omega ints)

-- with these gates
pub gates_fit : (costs headers made : List ℕ) (heads old new : List ℤ) → GatesSet costs headers made heads old new → ValuesFit old
    → ((l : ℕ) → l < length headers → (get_or costs (get_or headers l 0) 0 < 2 ^ 32) × (get_or made l 0 ≤ 2 ^ 40) × HeadFits (get_or heads l (pos 0)))
    → ValuesFit new
gates_fit costs headers made heads old new G fit known i = go (ltb i most_blocks) refl (ℕ_discrete i most_blocks) (ltb i (most_blocks + length headers)) refl
  where
    Within : ℤ → Type 0
    Within z = (neg_ℤ (pos (2 ^ 62 + 2 ^ 41)) ≤ℤ z) × (z ≤ℤ pos (2 ^ 61))

    gate : (l : ℕ) → 0 < l → l < length headers → Within (get_or new (most_blocks + l) (pos 0))
    gate l z b = let k = known l b in rw (G.gate l z b) (gate_range _ _ _ k.0 k.1 k.2)

    go : (a : Bool) → ltb i most_blocks ≡ a → Dec (i ≡ most_blocks) → (c : Bool) → ltb i (most_blocks + length headers) ≡ c → Within (get_or new i (pos 0))
    go true a d c q = rw (G.rest i (ltb-true i most_blocks a)) (fit i)
    go false a (yes d) c q = rw (d, G.exit_gate) (omega ints, omega ints)
    go false a (no d) true q =
        let h : most_blocks ≤ i = ltb-false i most_blocks a in
        let k : i < most_blocks + length headers = ltb-true i (most_blocks + length headers) q in
        let e : most_blocks + (i - most_blocks) ≡ i = omega arith in
        rw e at (gate (i - most_blocks) (omega arith) (omega arith))
    go false a (no d) false q = rw (G.after i (ltb-false i (most_blocks + length headers) q) (omega (arith, ltb-false i most_blocks a))) (fit i)

-- ---- the pass

-- block x has its figure and its value
pub record Done (weights : List ℤ) (firstSlots secondSlots : List ℕ) (figures values : List ℤ) (x : ℕ) : Type 0 where
  pub within : figure_outside (get_or figures x (pos 0)) ≡ false
  pub made : get_or figures x (pos 0) ≡ greater_of (get_or values (get_or firstSlots x 0) (pos 0)) (get_or values (get_or secondSlots x 0) (pos 0))
  pub valued : get_or values x (pos 0) ≡ get_or figures x (pos 0) +ℤ get_or weights x (pos 0)

-- so have the blocks from place i of the order up
pub record Passing (weights : List ℤ) (firstSlots secondSlots order : List ℕ) (n : ℕ) (gates figures values : List ℤ) (i : ℕ) : Type 0 where
  pub few : i ≤ n
  pub figures_size : length figures ≡ most_blocks
  pub values_size : length values ≡ places
  pub fit : ValuesFit values
  pub rest : (s : ℕ) → n ≤ s → get_or values s (pos 0) ≡ get_or gates s (pos 0)
  pub done : Forward n firstSlots secondSlots order → (j : ℕ) → i ≤ j → j < n → Done weights firstSlots secondSlots figures values (get_or order j 0)

pub value_fits : (f w : ℤ) → WeightFits w → neg_ℤ (pos (2 ^ 60)) ≤ℤ f → f ≤ℤ pos (2 ^ 60) → SFits w64 (f +ℤ w)
value_fits f w W p q =
    let a = W.weight_least in
    let b = W.weight_most in
    omega (ints, size (f +ℤ w), sum f w, size f)

module _ (weights : List ℤ) (firstSlots secondSlots order : List ℕ) (n : ℕ) (gates : List ℤ) (S : Slotted n firstSlots secondSlots order) where
  pub passing_first : (figures : List ℤ) → length figures ≡ most_blocks → length gates ≡ places → ValuesFit gates → Passing weights firstSlots secondSlots order n gates figures gates n
  passing_first figures p q fit = record {
    few = omega arith;
    figures_size = p;
    values_size = q;
    fit = fit;
    rest = λ s b. refl;
    done = λ W j a b. absurd (omega arith);
  }

  module _ (figures values : List ℤ) (i : ℕ) (P : Passing weights firstSlots secondSlots order n gates figures values i) where
    module _ (W : Forward n firstSlots secondSlots order) where
      -- the value in a slot that is a gate, or a block that has its figure
      in_slot : (s : ℕ) → (s < n → i ≤ W.position s) → get_or values s (pos 0) ≡ slot_value (λ x. get_or figures x (pos 0)) n weights gates s
      in_slot s later = go (ltb s n) refl
        where
          go : (b : Bool) → ltb s n ≡ b → get_or values s (pos 0) ≡ (when b then get_or figures s (pos 0) +ℤ get_or weights s (pos 0) else get_or gates s (pos 0))
          go false b = P.rest s (ltb-false s n b)
          go true b =
              let h : s < n = ltb-true s n b in
              rw (W.there s h) at (P.done W (W.position s) (later h) (W.within s h)).valued

      -- the figures so far are those of any solution of the equations
      module _ (F : ℕ → ℤ) (E : Equations F n weights firstSlots secondSlots gates) where
        slot_same : (s : ℕ) → (s < n → i ≤ W.position s) → (s < n → get_or figures s (pos 0) ≡ F s) → get_or values s (pos 0) ≡ slot_value F n weights gates s
        slot_same s later same = in_slot s later ∙ go (ltb s n) refl
          where
            go : (b : Bool) → ltb s n ≡ b → (when b then get_or figures s (pos 0) +ℤ get_or weights s (pos 0) else get_or gates s (pos 0)) ≡ (when b then F s +ℤ get_or weights s (pos 0) else get_or gates s (pos 0))
            go false b = refl
            go true b = ap (λ (f : ℤ). f +ℤ get_or weights s (pos 0)) (same (ltb-true s n b))

        -- a block is right if the later ones are
        step : (j : ℕ) → i ≤ j → j < n → ((y : ℕ) → j < y → y < n → get_or figures (get_or order y 0) (pos 0) ≡ F (get_or order y 0)) → get_or figures (get_or order j 0) (pos 0) ≡ F (get_or order j 0)
        step j a b right =
            (P.done W j a b).made ∙ rw (in_either (get_or firstSlots x 0) (W.first_later x (S.block j b)), in_either (get_or secondSlots x 0) (W.second_later x (S.block j b))) (sym (E x (S.block j b)))
          where
            x : ℕ
            x = get_or order j 0

            in_either : (s : ℕ) → (s < n → W.position x < W.position s) → get_or values s (pos 0) ≡ slot_value F n weights gates s
            in_either s later =
                slot_same s (λ h. omega (arith, W.index j b, later h)) (λ h.
                rw (W.there s h) at (right (W.position s) (omega (arith, W.index j b, later h)) (W.within s h)))

        so_far : (k j : ℕ) → i ≤ j → j < n → n ≤ j + k → get_or figures (get_or order j 0) (pos 0) ≡ F (get_or order j 0)
        so_far zero j a b c = absurd (omega arith)
        so_far (suc k) j a b c = step j a b (λ y p q. so_far k y (omega arith) q (omega arith))

        stands : (s : ℕ) → (s < n → i ≤ W.position s) → get_or values s (pos 0) ≡ slot_value F n weights gates s
        stands s later = slot_same s later (λ h. rw (W.there s h) at (so_far n (W.position s) (later h) (W.within s h) (omega arith)))

    module _ (z : 0 < i) where
      abbrev x : ℕ
      x = get_or order (i - 1) 0

      here : x < n
      here = S.block (i - 1) (omega (arith, P.few))

      module _ (f : ℤ) (found : f ≡ greater_of (get_or values (get_or firstSlots x 0) (pos 0)) (get_or values (get_or secondSlots x 0) (pos 0))) where
        pub passing_over : figure_outside f ≡ true → FiguresFilled weights firstSlots secondSlots order n gates true figures
        passing_over out = record {
          size = P.figures_size;
          within = λ q. absurd (true≢false q);
          made = λ q. absurd (true≢false q);
          only = λ q. absurd (true≢false q);
          high = λ q W F E. (x, here, rw (same W F E) at out);
        }
          where
            same : (W : Forward n firstSlots secondSlots order) (F : ℕ → ℤ) → Equations F n weights firstSlots secondSlots gates → f ≡ F x
            same W F E =
                let at : W.position x ≡ i - 1 = W.index (i - 1) (omega (arith, P.few)) in
                found
                ∙ rw (stands W F E (get_or firstSlots x 0) (λ h. omega (arith, at, W.first_later x here h)), stands W F E (get_or secondSlots x 0) (λ h. omega (arith, at, W.second_later x here h)))
                (sym (E x here))

        pub passing_next : WeightFits (get_or weights x (pos 0)) → neg_ℤ (pos (2 ^ 60)) ≤ℤ f → f ≤ℤ pos (2 ^ 60)
            → Passing weights firstSlots secondSlots order n gates (set figures x f) (set values x (f +ℤ get_or weights x (pos 0))) (i - 1)
        passing_next Y least most = record {
          few = omega (arith, P.few);
          figures_size = length-set figures x f ∙ P.figures_size;
          values_size = length-set values x value ∙ P.values_size;
          fit = λ s. fit s (ℕ_discrete s x);
          rest = λ s b. get_or-set_other values x s value (pos 0) (λ e. omega (arith, here)) ∙ P.rest s b;
          done = λ W j a b. done W j a b (ℕ_discrete j (i - 1));
        }
          where
            value : ℤ
            value = f +ℤ get_or weights x (pos 0)

            in_values : get_or (set values x value) x (pos 0) ≡ value
            in_values = get_or-set_same values x value (pos 0) (omega (arith, here, S.few, P.values_size))

            in_figures : get_or (set figures x f) x (pos 0) ≡ f
            in_figures = get_or-set_same figures x f (pos 0) (omega (arith, here, S.few, P.figures_size))

            range : (neg_ℤ (pos (2 ^ 62 + 2 ^ 41)) ≤ℤ value) × (value ≤ℤ pos (2 ^ 61))
            range =
                let a = Y.weight_most in
                let z = Y.weight_least in
                (omega (ints, sum f (get_or weights x (pos 0))), omega (ints, sum f (get_or weights x (pos 0))))

            fit : (s : ℕ) → Dec (s ≡ x) → (neg_ℤ (pos (2 ^ 62 + 2 ^ 41)) ≤ℤ get_or (set values x value) s (pos 0)) × (get_or (set values x value) s (pos 0) ≤ℤ pos (2 ^ 61))
            fit s (yes e) = rw (e, in_values) range
            fit s (no ne) = rw (get_or-set_other values x s value (pos 0) ne) (P.fit s)

            inside : figure_outside f ≡ false
            inside = neither {a = lt_z f (neg_ℤ (pos (2 ^ 60)))} (omega ints) (omega ints)

            -- a slot of a block from place i - 1 up is not block x
            other : (W : Forward n firstSlots secondSlots order) (y s : ℕ) → y < n → i - 1 ≤ W.position y → (s < n → W.position y < W.position s) → s ≡ x → ⊥
            other W y s c a later e =
                let h : s < n = rw e here in
                let p : W.position s ≡ i - 1 = rw e (W.index (i - 1) (omega (arith, P.few))) in
                omega (arith, later h)

            first_kept : (W : Forward n firstSlots secondSlots order) (y : ℕ) → y < n → i - 1 ≤ W.position y
                → get_or (set values x value) (get_or firstSlots y 0) (pos 0) ≡ get_or values (get_or firstSlots y 0) (pos 0)
            first_kept W y c a = get_or-set_other values x (get_or firstSlots y 0) value (pos 0) (other W y (get_or firstSlots y 0) c a (W.first_later y c))

            second_kept : (W : Forward n firstSlots secondSlots order) (y : ℕ) → y < n → i - 1 ≤ W.position y
                → get_or (set values x value) (get_or secondSlots y 0) (pos 0) ≡ get_or values (get_or secondSlots y 0) (pos 0)
            second_kept W y c a = get_or-set_other values x (get_or secondSlots y 0) value (pos 0) (other W y (get_or secondSlots y 0) c a (W.second_later y c))

            done : Forward n firstSlots secondSlots order → (j : ℕ) → i - 1 ≤ j → j < n → Dec (j ≡ i - 1) → Done weights firstSlots secondSlots (set figures x f) (set values x value) (get_or order j 0)
            done W j a b (yes e) =
                let at : i - 1 ≤ W.position x = omega (arith, W.index (i - 1) (omega (arith, P.few))) in
                rw e (record {
                  within = rw in_figures inside;
                  made = in_figures ∙ rw (first_kept W x here at, second_kept W x here at) found;
                  valued = rw (in_values, in_figures);
                })
            done W j a b (no ne) =
                let y : ℕ = get_or order j 0 in
                let at : W.position y ≡ j = W.index j b in
                let apart : y ≡ x → ⊥ = λ e. let p : j ≡ i - 1 = sym at ∙ ap W.position e ∙ W.index (i - 1) (omega (arith, P.few)) in omega arith in
                let D = P.done W j (omega arith) b in
                record {
                  within = rw (get_or-set_other figures x y f (pos 0) apart) D.within;
                  made = get_or-set_other figures x y f (pos 0) apart ∙ D.made ∙ sym (rw (first_kept W y (S.block j b) (omega arith), second_kept W y (S.block j b) (omega arith)));
                  valued = get_or-set_other values x y value (pos 0) apart ∙ D.valued ∙ sym (rw (get_or-set_other figures x y f (pos 0) apart));
                }

  pub passing_all : (figures values : List ℤ) → Passing weights firstSlots secondSlots order n gates figures values 0
      → FiguresFilled weights firstSlots secondSlots order n gates false figures
  passing_all figures values P = record {
    size = P.figures_size;
    within = λ q W x b. rw (W.there x b) at (P.done W (W.position x) (omega arith) (W.within x b)).within;
    made = λ q W x b.
        rw (W.there x b) at (P.done W (W.position x) (omega arith) (W.within x b)).made
        ∙ rw (in_slot figures values 0 P W (get_or firstSlots x 0) (λ h. omega arith), in_slot figures values 0 P W (get_or secondSlots x 0) (λ h. omega arith));
    only = λ q W F E x b. rw (W.there x b) at (so_far figures values 0 P W F E n (W.position x) (omega arith) (W.within x b) (omega arith));
    high = λ q. absurd (true≢false (sym q));
  }
