-- A text that is passed over up to its $end. Assumes nothing.
use Rattle.std.proofs.Common.{◌≡◌, refl, ◌∙◌, Bool, true, false, cond, List, [], ◌∷◌, ℕ, ◌<◌, ◌≤◌, Option, Some, None, length}
use Rattle.vcd.specs.Words.{Word, is}
use Rattle.vcd.specs.Syntax.{Due, passing, step_of, after, may_end, Reading, stopped, reading}
use Rattle.words.specs.Places.{words_from, after_end, TextEnds, ended, missing}

-- what is read of the words after the $end, or 432 at the end of the text
abbrev pub resumed : (named : List ℕ) (n : ℕ) → Due → Option (List Word) → Reading
resumed named n next (Some ws) = reading named n next ws
resumed named n next None = stopped n

pub skipped : (named : List ℕ) (n : ℕ) (here next : Due) → ((at : ℕ) (w : List ℕ) → step_of named here at w ≡ passing here next w) → may_end here ≡ false
    → (ws : List Word) → reading named n here ws ≡ resumed named n next (after_end ws)
unfolding reading after_end passing
skipped named n here next p e [] = rw e
skipped named n here next p e (w ∷ ws) = rw (p w.at w.bytes) (go (is w.bytes "$end") refl (skipped named n here next p e ws))
  where
    go : (t : Bool) → is w.bytes "$end" ≡ t → reading named n here ws ≡ resumed named n next (after_end ws)
        → after (passing here next w.bytes) (λ d. reading named n d ws) ≡ resumed named n next (cond t (Some ws) (after_end ws))
    go true q ih = rw q
    go false q ih = rw q ih

-- the same from a place of a text on, by what `after_end` found there
abbrev pub resumed_at : (named s : List ℕ) → Due → Option ℕ → Reading
resumed_at named s next (Some to) = reading named (length s) next (words_from s to)
resumed_at named s next None = stopped (length s)

pub skipped_at : (named s : List ℕ) (at : ℕ) (here next : Due) → ((a : ℕ) (w : List ℕ) → step_of named here a w ≡ passing here next w) → may_end here ≡ false
    → {r : Option ℕ} → TextEnds s at r → reading named (length s) here (words_from s at) ≡ resumed_at named s next r
skipped_at named s at here next p e (ended h l q) = skipped named (length s) here next p e (words_from s at) ∙ rw q
skipped_at named s at here next p e (missing q) = skipped named (length s) here next p e (words_from s at) ∙ rw q

pub end_within : (s : List ℕ) (at to : ℕ) → TextEnds s at (Some to) → (at < to) × (to ≤ length s)
end_within s at to (ended h l q) = (h, l)
