-- The tails at the headers of the loops, and the multipliers and weights of the loops of one depth, taken loop by loop. Assumes nothing.
use Rattle.std.proofs.Common.{◌≡◌, sym, ◌∙◌, List, ℕ, ◌+◌, ◌*◌, ◌-◌, ◌^◌, ◌≤◌, ◌<◌, arith, ℤ, pos, length, get_or, set, length-set}
use native.Mathlib.Decide.{ℕ_discrete}
use lib.Seq.{get_or-set_same, get_or-set_other}
use Rattle.limits.specs.Limits.{most_blocks, most_loops, most_depth}
use Rattle.tails.specs.Words.{Word, Low}
use Rattle.tails.specs.Passes.{tail_in}
use Rattle.tails.proofs.Words.{greater_word, low_set}
use Rattle.multipliers.specs.Columns.{kept_at, round_by}

-- ---- tails

-- the tails at the headers of the loops below i are kept
pub record Keeping (values : List ℤ) (firstSlots secondSlots headers depths : List ℕ) (d : ℕ) (old new : List ℤ) (i : ℕ) : Type 0 where
  pub size : length new ≡ most_blocks
  pub low : Low old → Low values → Low new
  pub kept : (l : ℕ) → l < i → d ≤ get_or depths l 0 → get_or new (kept_at l d) (pos 0) ≡ tail_in firstSlots secondSlots values (get_or headers l 0)
  pub rest : (k : ℕ) → ((l : ℕ) → l < i → k ≡ kept_at l d → ⊥) → get_or new k (pos 0) ≡ get_or old k (pos 0)

module _ (values : List ℤ) (firstSlots secondSlots headers depths : List ℕ) (d : ℕ) (old : List ℤ) where
  module _ (new : List ℤ) (i : ℕ) (K : Keeping values firstSlots secondSlots headers depths d old new i) where
    pub keeping_set : i < most_loops → 1 ≤ d → d ≤ most_depth → (w : ℤ) → w ≡ tail_in firstSlots secondSlots values (get_or headers i 0)
        → Keeping values firstSlots secondSlots headers depths d old (set new (kept_at i d) w) (i + 1)
    keeping_set b p m w e = record {
      size = length-set new (kept_at i d) w ∙ K.size;
      low = λ a c. low_set new (kept_at i d) w (omega (arith, K.size)) (rw e (greater_word _ _ (c (get_or firstSlots (get_or headers i 0) 0)) (c (get_or secondSlots (get_or headers i 0) 0)))) (K.low a c);
      kept = λ l a c. kept l a c (ℕ_discrete l i);
      rest = λ k no. get_or-set_other new (kept_at i d) k w (pos 0) (λ q. no i (omega arith) q) ∙ K.rest k (λ l a q. no l (omega arith) q);
    }
      where
        kept : (l : ℕ) → l < i + 1 → d ≤ get_or depths l 0 → Dec (l ≡ i) → get_or (set new (kept_at i d) w) (kept_at l d) (pos 0) ≡ tail_in firstSlots secondSlots values (get_or headers l 0)
        kept l a c (yes q) = rw q (get_or-set_same new (kept_at i d) w (pos 0) (omega (arith, K.size)) ∙ e)
        kept l a c (no ne) = get_or-set_other new (kept_at i d) (kept_at l d) w (pos 0) (λ q. omega (arith, q)) ∙ K.kept l (omega arith) c

    pub keeping_skip : get_or depths i 0 < d → Keeping values firstSlots secondSlots headers depths d old new (i + 1)
    keeping_skip less = record {
      size = K.size;
      low = K.low;
      kept = λ l a c. kept l a c (ℕ_discrete l i);
      rest = λ k no. K.rest k (λ l a q. no l (omega arith) q);
    }
      where
        kept : (l : ℕ) → l < i + 1 → d ≤ get_or depths l 0 → Dec (l ≡ i) → get_or new (kept_at l d) (pos 0) ≡ tail_in firstSlots secondSlots values (get_or headers l 0)
        kept l a c (yes q) = absurd (let c' : d ≤ get_or depths i 0 = rw q at c in omega arith)
        kept l a c (no ne) = K.kept l (omega arith) c

-- ---- rounds

-- no two of these loops have one header
abbrev pub Apart : List ℕ → Type 0
Apart headers = (k l : ℕ) → k < length headers → l < length headers → get_or headers k 0 ≡ get_or headers l 0 → k ≡ l

-- the loops below i are done
pub record Taking (kept : List ℤ) (costs headers limits depths : List ℕ) (d : ℕ) (made : List ℕ) (weights : List ℤ) (made' : List ℕ) (weights' : List ℤ) (i : ℕ) : Type 0 where
  pub made_size : length made' ≡ most_loops
  pub weights_size : length weights' ≡ most_blocks
  pub low : Low weights → Low weights'
  pub taken : (l : ℕ) → l < i → get_or depths l 0 ≡ d → (get_or made' l 0 ≡ round_by kept d l) × (get_or made' l 0 ≤ 2 ^ 40)
  pub others : (l : ℕ) → (get_or depths l 0 ≡ d → ⊥) → get_or made' l 0 ≡ get_or made l 0
  pub weighed : Apart headers → (l : ℕ) → l < i → get_or depths l 0 ≡ d
      → get_or weights' (get_or headers l 0) (pos 0) ≡ pos (get_or costs (get_or headers l 0) 0 + get_or made' l 0 * (get_or limits l 0 - 1))
  pub other_weights : (x : ℕ) → ((l : ℕ) → l < i → get_or depths l 0 ≡ d → get_or headers l 0 ≡ x → ⊥) → get_or weights' x (pos 0) ≡ get_or weights x (pos 0)

module _ (kept : List ℤ) (costs headers limits depths : List ℕ) (d : ℕ) (made : List ℕ) (weights : List ℤ) where
  module _ (made' : List ℕ) (weights' : List ℤ) (i : ℕ) (T : Taking kept costs headers limits depths d made weights made' weights' i) (b : i < length headers) where
    abbrev h : ℕ
    h = get_or headers i 0

    pub taking_set : length headers ≤ most_loops → get_or headers i 0 < most_blocks → get_or depths i 0 ≡ d → (k : ℕ) (w : ℤ) → k ≡ round_by kept d i → k ≤ 2 ^ 40
        → w ≡ pos (get_or costs (get_or headers i 0) 0 + k * (get_or limits i 0 - 1)) → Word w
        → Taking kept costs headers limits depths d made weights (set made' i k) (set weights' (get_or headers i 0) w) (i + 1)
    taking_set few block own k w e most f least = record {
      made_size = length-set made' i k ∙ T.made_size;
      weights_size = length-set weights' h w ∙ T.weights_size;
      low = λ a. low_set weights' h w (omega (arith, T.weights_size)) least (T.low a);
      taken = λ l a o. taken l a o (ℕ_discrete l i);
      others = λ l ne. get_or-set_other made' i l k 0 (λ q. ne (rw q own)) ∙ T.others l ne;
      weighed = λ apart l a o. weighed apart l a o (ℕ_discrete l i);
      other_weights = λ x no. get_or-set_other weights' h x w (pos 0) (λ q. no i (omega arith) own (sym q)) ∙ T.other_weights x (λ l a o q. no l (omega arith) o q);
    }
      where
        here : get_or (set made' i k) i 0 ≡ k
        here = get_or-set_same made' i k 0 (omega (arith, T.made_size))

        there : get_or (set weights' h w) h (pos 0) ≡ w
        there = get_or-set_same weights' h w (pos 0) (omega (arith, T.weights_size))

        taken : (l : ℕ) → l < i + 1 → get_or depths l 0 ≡ d → Dec (l ≡ i) → (get_or (set made' i k) l 0 ≡ round_by kept d l) × (get_or (set made' i k) l 0 ≤ 2 ^ 40)
        taken l a o (yes q) = rw (q, here) (e, most)
        taken l a o (no ne) = rw (get_or-set_other made' i l k 0 (λ q. ne q)) (T.taken l (omega arith) o)

        weighed : Apart headers → (l : ℕ) → l < i + 1 → get_or depths l 0 ≡ d → Dec (l ≡ i)
            → get_or (set weights' h w) (get_or headers l 0) (pos 0) ≡ pos (get_or costs (get_or headers l 0) 0 + get_or (set made' i k) l 0 * (get_or limits l 0 - 1))
        weighed apart l a o (yes q) = rw (q, here) (there ∙ f)
        weighed apart l a o (no ne) =
            rw (get_or-set_other weights' h (get_or headers l 0) w (pos 0) (λ q. ne (apart l i (omega arith) b q)), get_or-set_other made' i l k 0 (λ q. ne q)) (T.weighed apart l (omega arith) o)

    pub taking_skip : (get_or depths i 0 ≡ d → ⊥) → Taking kept costs headers limits depths d made weights made' weights' (i + 1)
    taking_skip other = record {
      made_size = T.made_size;
      weights_size = T.weights_size;
      low = T.low;
      taken = λ l a o. T.taken l (below l a o (ℕ_discrete l i)) o;
      others = T.others;
      weighed = λ apart l a o. T.weighed apart l (below l a o (ℕ_discrete l i)) o;
      other_weights = λ x no. T.other_weights x (λ l a o q. no l (omega arith) o q);
    }
      where
        below : (l : ℕ) → l < i + 1 → get_or depths l 0 ≡ d → Dec (l ≡ i) → l < i
        below l a o (yes q) = absurd (other (rw q at o))
        below l a o (no ne) = omega arith
