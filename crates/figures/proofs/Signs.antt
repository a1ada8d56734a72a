-- Numbers that are figures or tails, and numbers that are none. Assumes nothing.
use Rattle.std.proofs.Common.{◌≡◌, refl, ◌∙◌, Bool, true, false, ℕ, zero, suc, ◌^◌, ◌≤◌, ℤ, pos, negsuc, neg_ℤ, ◌+ℤ◌, ◌-ℤ◌, ◌≤ℤ◌, ◌<ℤ◌}
use mathlib.Core.Option.{Option, none, some}
use lib.Signed.{lt_z}
use mir.Syntax.{w64}
use mir.Val.{SFits}
use Rattle.integers.specs.Parts.{up, dn}
use Rattle.integers.proofs.Laws.{ints, sum, diff, size}
use Rattle.lists.specs.Search.{when◌then◌else◌}
use Rattle.optimum.specs.Tails.{best}
use Rattle.optimum.proofs.Tails.{none_some}
use Rattle.optimum.specs.Columns.{from_exit, from_header}
use Rattle.tails.specs.Words.{word_of, Word}
use Rattle.std.specs.Int.{int_max}
use Rattle.std.proofs.lemmas.Int.{clamps}
use Rattle.tails.specs.Words.{greater_of}
use Rattle.tails.proofs.Words.{no_word, greater_max}
use Rattle.figures.specs.Figures.{no_figure, figure_of, Known}

-- the negative of a number
pub record Minus (k : ℕ) (z : ℤ) : Type 0 where
  pub up_part : up z ≡ 0
  pub dn_part : dn z ≡ k

pub minus : (k : ℕ) → Minus k (neg_ℤ (pos k))
minus zero = record { up_part = refl; dn_part = refl }
minus (suc k) = record { up_part = refl; dn_part = refl }

pub is_figure : (z : ℤ) → neg_ℤ (pos (2 ^ 61)) ≤ℤ z → figure_of z ≡ some z
unfolding figure_of
is_figure z h = let e : lt_z z (neg_ℤ (pos (2 ^ 61))) ≡ false = omega ints in rw e

pub no_figure_lem : (z : ℤ) → z <ℤ neg_ℤ (pos (2 ^ 61)) → figure_of z ≡ none
unfolding figure_of
no_figure_lem z h = let e : lt_z z (neg_ℤ (pos (2 ^ 61))) ≡ true = omega ints in rw e

-- a number that is a figure is that figure
pub figure_same : (z f : ℤ) → figure_of z ≡ some f → z ≡ f
unfolding figure_of
figure_same z f e = go (lt_z z (neg_ℤ (pos (2 ^ 61)))) e
  where
    go : (b : Bool) → (when b then none else some z) ≡ some f → z ≡ f
    go true e = none_some e
    go false e = cc

pub figure_there : (z f : ℤ) → figure_of z ≡ some f → neg_ℤ (pos (2 ^ 61)) ≤ℤ z
unfolding figure_of
figure_there z f e = go (lt_z z (neg_ℤ (pos (2 ^ 61)))) refl e
  where
    go : (b : Bool) → lt_z z (neg_ℤ (pos (2 ^ 61))) ≡ b → (when b then none else some z) ≡ some f → neg_ℤ (pos (2 ^ 61)) ≤ℤ z
    go true b e = none_some e
    go false b e = omega ints

pub higher_is : (a b : ℤ) → (when lt_z a b then figure_of b else figure_of a) ≡ best lt_z (figure_of a) (figure_of b)
unfolding figure_of best
higher_is a b = go (lt_z a b) (lt_z a (neg_ℤ (pos (2 ^ 61)))) (lt_z b (neg_ℤ (pos (2 ^ 61)))) refl refl refl
  where
    go : (l p q : Bool) → lt_z a b ≡ l → lt_z a (neg_ℤ (pos (2 ^ 61))) ≡ p → lt_z b (neg_ℤ (pos (2 ^ 61))) ≡ q
        → (when l then (when q then none else some b) else (when p then none else some a)) ≡ best lt_z (when p then none else some a) (when q then none else some b)
    go true true q e f g = refl
    go true false true e f g = absurd (omega ints)
    go true false false e f g = rw e
    go false true true e f g = refl
    go false true false e f g = absurd (omega ints)
    go false false true e f g = refl
    go false false false e f g = rw e

pub less_fits : (w k : ℕ) → w ≤ 2 ^ 32 → k ≤ 2 ^ 40 → SFits w64 (pos w -ℤ pos k)
less_fits w k h l = omega (ints, size (pos w -ℤ pos k), diff (pos w) (pos k))

-- ---- what a loop gives to the figure of a header

pub exit_none : (w : ℤ) → w <ℤ pos 0 → figure_of no_figure ≡ from_exit (word_of w)
unfolding from_exit
exit_none w h = rw (no_word w h) (no_figure_lem no_figure (omega ints))

pub exit_some : (w : ℤ) → pos 0 ≤ℤ w → figure_of w ≡ from_exit (word_of w)
unfolding from_exit word_of
exit_some (pos a) h = is_figure (pos a) (omega ints)
exit_some (negsuc a) h = absurd (omega ints)

module _ (k : ℕ) (w : ℤ) where
  pub header_none : (o : Option ℤ) → w <ℤ pos 0 → figure_of no_figure ≡ from_header k (word_of w) o
  unfolding from_header
  header_none o h = rw (no_word w h) (no_figure_lem no_figure (omega ints))

  pub head_none : (head : ℤ) → head <ℤ neg_ℤ (pos (2 ^ 61)) → figure_of no_figure ≡ from_header k (word_of w) (figure_of head)
  unfolding from_header
  head_none head h = rw (no_figure_lem head h, no_figure_lem no_figure (omega ints)) (go (word_of w))
    where
      go : (o : Option ℕ) → none ≡ from_header k o none
      go none = refl
      go (some a) = refl

  module _ (h : pos 0 ≤ℤ w) (W : Word w) (l : k ≤ 2 ^ 40) where
    pub taken_fits : SFits w64 (w -ℤ pos k)
    taken_fits = let m = W.most in omega (ints, size (w -ℤ pos k), diff w (pos k), size w)

    module _ (z : ℤ) (K : Known z) (p : neg_ℤ (pos (2 ^ 61)) ≤ℤ z) where
      pub given_fits : SFits w64 (w -ℤ pos k +ℤ z)
      given_fits =
          let m = W.most in
          let q : neg_ℤ (pos (2 ^ 60)) ≤ℤ z = K.least_figure p in
          let r : z ≤ℤ pos (2 ^ 60) = K.most_figure in
          omega (ints, size (w -ℤ pos k +ℤ z), diff w (pos k), sum (w -ℤ pos k) z, size z)

      given_figure : neg_ℤ (pos (2 ^ 61)) ≤ℤ (w -ℤ pos k +ℤ z)
      given_figure =
          let q : neg_ℤ (pos (2 ^ 60)) ≤ℤ z = K.least_figure p in
          omega (ints, diff w (pos k), sum (w -ℤ pos k) z)

      pub header_some : figure_of (w -ℤ pos k +ℤ z) ≡ from_header k (word_of w) (figure_of z)
      unfolding from_header word_of
      header_some = rw (is_figure z p) (is_figure (w -ℤ pos k +ℤ z) given_figure ∙ go w h)
        where
          go : (w : ℤ) → pos 0 ≤ℤ w → some (w -ℤ pos k +ℤ z) ≡ from_header k (word_of w) (some z)
          go (pos a) h = refl
          go (negsuc a) h = absurd (omega ints)

-- ---- the greater of two figures

pub higher_max : (a b r : ℤ) → r ≡ int_max a b → (figure_of r ≡ best lt_z (figure_of a) (figure_of b)) × (a ≤ℤ r)
higher_max a b r e = (rw q (go (lt_z a b) refl (higher_is a b)), omega (ints, clamps, e))
  where
    q : r ≡ (when lt_z a b then b else a)
    q = unfold greater_of in greater_max a b r e

    go : (l : Bool) → lt_z a b ≡ l → (when l then figure_of b else figure_of a) ≡ best lt_z (figure_of a) (figure_of b)
        → figure_of (when l then b else a) ≡ best lt_z (figure_of a) (figure_of b)
    go true l h = h
    go false l h = h
