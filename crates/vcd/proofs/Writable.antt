-- Every list of values up to 65,534 can be written, whatever the code of the named vector (`can_be_written`). Assumes nothing.
use mathlib.Core.Path.{◌≡◌, refl, subst}
use mathlib.Core.Bool.{Bool, true, false, false≢true}
use mathlib.Core.Logic.{inl}
use mathlib.Core.List.{List, [], ◌∷◌, ◌++◌, Memᴰ}
use Prim.Native.Nat.{ℕ, zero, suc, ◌+◌, ◌*◌, ◌/◌, ◌%◌, ◌^◌, ◌≤◌, ◌<◌}
use native.Mathlib.Decide.{dec_le}
use native.Mathlib.Omega.{arith}
use borrow.Author.Tests.{leb-true, ne_eqb}
use lib.Dec.{leb}
use lib.ListN.{length, length-append}
use Rattle.lists.proofs.Bytes.{apart}
use Rattle.lists.specs.Search.{when◌then◌else◌}
use Rattle.lists.specs.Bytes.{bytes, same}
use Rattle.lists.proofs.Tests.{and-true, both}
use Rattle.vcd.specs.Words.{is}
use Rattle.vcd.specs.Syntax.{all, one_or_more, is_graphic, is_code}
use Rattle.vcd.specs.Writing.{IsWord, Spaced, Declarations, Binary, Change, Commands, recording, Written}
use Rattle.vcd.specs.Claim.{UpTo, CanBeWritten}
use Rattle.vcd.proofs.Writing.{in_word, some_all, digits_pass}

-- k + 1 digits do for each number below 2 to the power of k + 1
digits : (k v : ℕ) → v < 2 ^ suc k → (s : List ℕ) × Binary v s × (length s ≤ suc k)
digits zero v h = ((48 + v) ∷ [], Binary.first v (omega arith), omega arith)
digits (suc k) v h = go (dec_le v 1) (λ l. digits k (v / 2) l)
  where
    go : Dec (v ≤ 1) → (v / 2 < 2 ^ suc k → (s : List ℕ) × Binary (v / 2) s × (length s ≤ suc k)) → (s : List ℕ) × Binary v s × (length s ≤ suc (suc k))
    go (yes l) half = ((48 + v) ∷ [], Binary.first v l, omega arith)
    go (no l) half =
        let r = half (omega arith) in
        let s : List ℕ = r.0 ++ (48 + v % 2) ∷ [] in
        let e : v / 2 * 2 + v % 2 ≡ v = omega arith in
        (s, subst (λ (n : ℕ). Binary n s) e (Binary.next (v % 2) (omega arith) r.1), rw length-append (omega (arith, r.2)))

-- words with a space after each
abbrev spaced : List (List ℕ) → List ℕ
spaced [] = []
spaced (w ∷ ws) = w ++ 32 ∷ spaced ws

abbrev AllWords : List (List ℕ) → Type 0
AllWords [] = Unit {0}
AllWords (w ∷ ws) = IsWord w × AllWords ws

are_spaced : (ws : List (List ℕ)) → AllWords ws → Spaced ws (spaced ws)
are_spaced [] h = Spaced.empty
are_spaced (w ∷ ws) h = Spaced.word w h.0 refl (Spaced.gap 32 refl (are_spaced ws h.1))

-- the bytes of a code part no words
graphic : (b : ℕ) → is_graphic b ≡ true → in_word b ≡ true
graphic b e =
    let low : 33 ≤ b = leb-true 33 b (and-true (leb 33 b) (leb b 126) e).0 in
    rw (ne_eqb b 32 (omega arith), ne_eqb b 9 (omega arith), ne_eqb b 13 (omega arith), ne_eqb b 10 (omega arith))

graphic_all : (s : List ℕ) → all is_graphic s ≡ true → all in_word s ≡ true
unfolding all
graphic_all [] h = refl
graphic_all (b ∷ s) h = let q = and-true (is_graphic b) (all is_graphic s) h in both (graphic b q.0) (graphic_all s q.1)

code_word : (w : List ℕ) → is_code w ≡ true → IsWord w
unfolding is_code one_or_more
code_word w h = go w (is w "$end") h
  where
    go : (w : List ℕ) (x : Bool) → (when x then false else one_or_more is_graphic w) ≡ true → IsWord w
    go w true h = absurd (false≢true h)
    go [] false h = absurd (false≢true h)
    go (b ∷ w) false h = graphic_all (b ∷ w) h

-- a change for each value, one after the other
record Said (named vs : List ℕ) : Type 0 where
  words : List (List ℕ)
  says : Commands named vs words
  all_words : AllWords words
  short : length (spaced words) ≤ length vs * (19 + length named)

said : (named vs : List ℕ) → IsWord named → UpTo 65534 vs → Said named vs
unfolding one_or_more all
said named [] k h = record { words = []; says = Commands.none; all_words = tt; short = omega arith }
said named (v ∷ vs) k h =
    let d = digits 15 v (omega arith) in
    let r = said named vs k h.1 in
    record {
      words = (98 ∷ d.0) ∷ named ∷ r.words;
      says = Commands.change (Change.value v 98 d.0 (inl refl) d.1 h.0) r.says;
      all_words = (some_all in_word d.0 (digits_pass in_word refl refl d.1), (k, r.all_words));
      short = simp length-append (omega (arith, d.2, r.short));
    }

pub can_be_written : CanBeWritten
unfolding one_or_more all same
can_be_written named vs k h =
    let r = said named vs (code_word named k) h in
    let ds : Declarations (named ∷ []) (bytes "$var" ∷ bytes "wire" ∷ bytes "16" ∷ named ∷ bytes "$end" ∷ [])
    = Declarations.variable (bytes "wire") (bytes "16") named [] k (apart (bytes "wire") (bytes "$end") refl, (apart (bytes "16") (bytes "$end") refl, tt)) Declarations.none in
    let ws : List (List ℕ) = bytes "$var" ∷ bytes "wire" ∷ bytes "16" ∷ named ∷ bytes "$end" ∷ bytes "$enddefinitions" ∷ bytes "$end" ∷ r.words in
    let written : Written named vs (spaced ws) = record {
      words = ws;
      says = recording [] ds (Memᴰ.head refl) tt r.says;
      spaced = are_spaced ws (refl, (refl, (refl, (code_word named k, (refl, (refl, (refl, r.all_words)))))));
    } in
    (spaced ws, (written, simp length-append (omega (arith, r.short))))
