-- The values of a reading are at least five bytes apart, and each is below the byte of the 432. So the first refusal of a pass is the one at the lowest byte,
-- and a text has no more than `most_changes` values. Assumes nothing.
use mathlib.Core.Path.{◌≡◌, refl, sym, ap, ◌∙◌}
use mathlib.Core.Bool.{Bool, true, false, cond, ◌&&◌, ◌||◌, false≢true}
use mathlib.Core.List.{List, [], ◌∷◌}
use mathlib.Core.Option.{Option, none, some}
use Prim.Native.Nat.{ℕ, zero, suc, ◌+◌, ◌*◌, ◌<◌, ◌≤◌}
use native.Mathlib.Omega.{arith}
use native.Mathlib.Nat.{le_refl}
use borrow.Author.Tests.{lt-leb, ne_eqb, leb-true}
use lib.ListN.{length, drop}
use lib.Dec.{eqb, leb}
use Rattle.lists.specs.Bytes.{same}
use Rattle.wcet.specs.Rules.{Reply, accepted, refused}
use Rattle.vcd.specs.Words.{Word, words}
use Rattle.vcd.specs.Syntax.{all, one_or_more, is_state, is_bit, is_code, binary, value_of, Due, declaration, variable, text, remark, command, code, Step, on, says, bad, declaration_step, variable_step, passing, taken, code_step, scalar_step, vector_step, time_step, keyword_step, command_by, command_step, step_of, Value, Reading, stopped, after, may_end, reading, reading_of}
use Rattle.vcd.specs.Recording.{changed, changes, decided, recorded, most_changes}
use Rattle.vcd.proofs.Words.{Sorted, sorted_within, words_sorted}

-- ---- what a word leaves

-- the lowest byte at which a value or a refusal may still come: that of the value whose code is due, or the next word's
abbrev base : Due → ℕ → ℕ
base (declaration d) low = low
base (variable n d) low = low
base (text d) low = low
base remark low = low
base (command d) low = low
base (code v p d) low = p

-- a value whose code is due: its word has two bytes, and one parts it from the code
abbrev ReadyBy : Option ℕ → (place low : ℕ) → Type 0
ReadyBy (some v) p low = (p + 3 ≤ low) × (v ≤ 65534)
ReadyBy none p low = p ≤ low

abbrev Ready : Due → ℕ → Type 0
Ready (declaration d) low = Unit {0}
Ready (variable n d) low = Unit {0}
Ready (text d) low = Unit {0}
Ready remark low = Unit {0}
Ready (command d) low = Unit {0}
Ready (code v p d) low = ReadyBy v p low

ready_base : (due : Due) (low : ℕ) → Ready due low → base due low ≤ low
ready_base (declaration d) low r = le_refl low
ready_base (variable n d) low r = le_refl low
ready_base (text d) low r = le_refl low
ready_base remark low r = le_refl low
ready_base (command d) low r = le_refl low
ready_base (code (some v) p d) low r = omega (arith, r.0)
ready_base (code none p d) low r = r

-- a step that nothing below b comes of, with the next word at `low` at the earliest
abbrev Keeps : (b low : ℕ) → Step → Type 0
Keeps b low (on d) = (b ≤ base d low) × Ready d low
Keeps b low (says v p d) = (b ≤ p) × (v ≤ 65534) × (p + 5 ≤ base d low) × Ready d low
Keeps b low (bad p) = (b ≤ p) × (p < low)

record Kept (b low : ℕ) (t : Step) : Type 0 where
  keeps : Keeps b low t

module _ (b low : ℕ) where
  either : (t : Bool) {x y : Step} → Kept b low x → Kept b low y → Kept b low (cond t x y)
  either true p q = p
  either false p q = q

  kept_bad : (at : ℕ) → b ≤ at → at < low → Kept b low (bad at)
  kept_bad at h k = record { keeps = (h, k) }

  module _ (h : b ≤ low) where
    kept_declaration : (d : Bool) → Kept b low (on (declaration d))
    kept_declaration d = record { keeps = (h, tt) }

    kept_variable : (n : ℕ) (d : Bool) → Kept b low (on (variable n d))
    kept_variable n d = record { keeps = (h, tt) }

    kept_text : (d : Bool) → Kept b low (on (text d))
    kept_text d = record { keeps = (h, tt) }

    kept_remark : Kept b low (on remark)
    kept_remark = record { keeps = (h, tt) }

    kept_command : (d : Bool) → Kept b low (on (command d))
    kept_command d = record { keeps = (h, tt) }

  -- a real change, whose code is due
  kept_real : (at : ℕ) (d : Bool) → b ≤ at → at < low → Kept b low (on (code none at d))
  kept_real at d h k = record { keeps = (h, omega arith) }

ruleset steps = (either, kept_bad, kept_declaration, kept_variable, kept_text, kept_remark, kept_command, kept_real)

-- the digits of a vector's change
value_ready : (s : List ℕ) (p low : ℕ) → p + 3 ≤ low → ReadyBy (value_of s) p low
unfolding value_of
value_ready s p low h = go (leb (binary 0 s) 65534) refl (all is_bit s)
  where
    go : (t : Bool) → leb (binary 0 s) 65534 ≡ t → (u : Bool) → ReadyBy (cond (u && t) (some (binary 0 s)) none) p low
    go true e true = (h, leb-true (binary 0 s) 65534 e)
    go true e false = omega arith
    go false e true = omega arith
    go false e false = omega arith

kept_vector : (b at : ℕ) (d : Bool) (s : List ℕ) → b ≤ at → Kept b (suc (at + suc (length s))) (vector_step d at s)
unfolding vector_step one_or_more
kept_vector b at d [] h = kept_bad b (suc (at + 1)) at h (omega arith)
kept_vector b at d (c ∷ s) h = either b (suc (at + suc (suc (length s)))) (all is_state (c ∷ s)) (record { keeps = (h, value_ready (c ∷ s) at (suc (at + suc (suc (length s)))) (omega arith)) }) (kept_bad b (suc (at + suc (suc (length s)))) at h (omega arith))

kept_scalar : (named : List ℕ) (b low at : ℕ) (d : Bool) (s : List ℕ) → b ≤ at → at < low → b ≤ low → Kept b low (scalar_step named d at s)
unfolding scalar_step
kept_scalar named b low at d s h m k = search steps

kept_time : (b low at : ℕ) (d : Bool) (s : List ℕ) → b ≤ at → at < low → b ≤ low → Kept b low (time_step d at s)
unfolding time_step
kept_time b low at d s h m k = search steps

kept_keyword : (b low at : ℕ) (d : Bool) (w : List ℕ) → b ≤ at → at < low → b ≤ low → Kept b low (keyword_step d at w)
unfolding keyword_step
kept_keyword b low at d w h m k = search steps depth 10

kept_word : (named : List ℕ) (b at : ℕ) (d : Bool) (w : List ℕ) → b ≤ at → Kept b (suc (at + length w)) (command_step named d at w)
unfolding command_by
kept_word named b at d [] h = kept_bad b (suc (at + 0)) at h (omega arith)
kept_word named b at d (c ∷ s) h =
    let low : ℕ = suc (at + suc (length s)) in
    let k : b ≤ low = omega arith in
    let m : at < low = omega arith in
    either b low (eqb c 98 || eqb c 66) (kept_vector b at d s h)
    (either b low (eqb c 35) (kept_time b low at d s h m k)
    (either b low (is_state c) (kept_scalar named b low at d s h m k)
    (either b low (eqb c 36) (kept_keyword b low at d (c ∷ s) h m k)
    (either b low (eqb c 114 || eqb c 82) (kept_real b low at d h m) (kept_bad b low at h m)))))

-- the code of a change
code_long : (w : List ℕ) → is_code w ≡ true → 0 < length w
unfolding is_code one_or_more same
code_long [] e = absurd (false≢true e)
code_long (c ∷ w) e = omega arith

kept_code : (named : List ℕ) (v : Option ℕ) (p low : ℕ) (d : Bool) (at : ℕ) (w : List ℕ) → ReadyBy v p low → low ≤ at → Kept p (suc (at + length w)) (code_step named v p d at w)
unfolding code_step
kept_code named v p low d at w r h = go v r (is_code w) refl (same w named)
  where
    go : (v : Option ℕ) → ReadyBy v p low → (t : Bool) → is_code w ≡ t → (u : Bool) → Kept p (suc (at + length w)) (cond t (cond u (taken v p d) (on (command d))) (bad at))
    go (some v) r true e true = record { keeps = (le_refl p, r.1, omega (arith, r.0, code_long w e), tt) }
    go (some v) r true e false = record { keeps = (omega (arith, r.0), tt) }
    go (some v) r false e u = record { keeps = (omega (arith, r.0), omega arith) }
    go none r true e true = record { keeps = (le_refl p, omega arith) }
    go none r true e false = record { keeps = (omega arith, tt) }
    go none r false e u = record { keeps = (omega arith, omega arith) }

kept : (named : List ℕ) (due : Due) (low at : ℕ) (w : List ℕ) → low ≤ at → Ready due low → Kept (base due low) (suc (at + length w)) (step_of named due at w)
unfolding declaration_step variable_step passing
kept named (declaration d) low at w h r = let k : low ≤ suc (at + length w) = omega arith in let m : at < suc (at + length w) = omega arith in search steps depth 10
kept named (variable n d) low at w h r = let k : low ≤ suc (at + length w) = omega arith in let m : at < suc (at + length w) = omega arith in search steps depth 10
kept named (text d) low at w h r = let k : low ≤ suc (at + length w) = omega arith in search steps
kept named remark low at w h r = let k : low ≤ suc (at + length w) = omega arith in search steps
kept named (command d) low at w h r = kept_word named low at d w h
kept named (code v p d) low at w h r = kept_code named v p low d at w r h

-- ---- a reading

-- a 432 from `low` on, or one byte before
abbrev Above : ℕ → Option ℕ → Type 0
Above low none = Unit {0}
Above low (some q) = low ≤ suc q

-- a 432 in a text of length n
abbrev pub UpTo : ℕ → Option ℕ → Type 0
UpTo n none = Unit {0}
UpTo n (some q) = q ≤ n

-- values from `low` on, five bytes apart, and then the 432

abbrev Spread : (n low : ℕ) → List Value → Option ℕ → Type 0
Spread n low [] r = (low ≤ suc n) × Above low r × UpTo n r
Spread n low (v ∷ vs) r = (low ≤ v.place) × (v.value ≤ 65534) × Spread n (v.place + 5) vs r

above_sooner : (low high : ℕ) (r : Option ℕ) → low ≤ high → Above high r → Above low r
above_sooner low high none h a = tt
above_sooner low high (some q) h a = omega arith

spread_sooner : (n low high : ℕ) (vs : List Value) (r : Option ℕ) → low ≤ high → Spread n high vs r → Spread n low vs r
spread_sooner n low high [] r h s = (omega (arith, s.0), above_sooner low high r h s.1, s.2)
spread_sooner n low high (v ∷ vs) r h s = (omega (arith, s.0), s.1, s.2)

reading_spread : (named : List ℕ) (n : ℕ) (due : Due) (low : ℕ) (ws : List Word) → Sorted low n ws → Ready due low → Spread n (base due low) (reading named n due ws).values (reading named n due ws).refusal
unfolding reading
reading_spread named n due low [] s r = go (may_end due) (ready_base due low r)
  where
    go : (t : Bool) → base due low ≤ low → Spread n (base due low) (cond {A = Reading} t (record { values = []; refusal = none }) (stopped n)).values (cond {A = Reading} t (record { values = []; refusal = none }) (stopped n)).refusal
    go true h = (omega arith, tt, tt)
    go false h = (omega arith, omega arith, omega arith)
reading_spread named n due low (w ∷ ws) s r = go (step_of named due w.at w.bytes) (kept named due low w.at w.bytes s.0 r).keeps (λ d h. reading_spread named n d (suc (w.at + length w.bytes)) ws s.1 h)
  where
    within : suc (w.at + length w.bytes) ≤ suc n
    within = sorted_within (suc (w.at + length w.bytes)) n ws s.1

    go : (t : Step) → Keeps (base due low) (suc (w.at + length w.bytes)) t
        → ((d : Due) → Ready d (suc (w.at + length w.bytes)) → Spread n (base d (suc (w.at + length w.bytes))) (reading named n d ws).values (reading named n d ws).refusal)
        → Spread n (base due low) (after t (λ d. reading named n d ws)).values (after t (λ d. reading named n d ws)).refusal
    go (on d) k f = spread_sooner n (base due low) (base d (suc (w.at + length w.bytes))) (reading named n d ws).values (reading named n d ws).refusal k.0 (f d k.1)
    go (says v p d) k f = (k.0, k.1, spread_sooner n (p + 5) (base d (suc (w.at + length w.bytes))) (reading named n d ws).values (reading named n d ws).refusal k.2 (f d k.3))
    go (bad p) k f = (omega (arith, k.0, k.1, within), omega (arith, k.0), omega (arith, k.1, within))

pub text_spread : (named s : List ℕ) → Spread (length s) 0 (reading_of named s).values (reading_of named s).refusal
unfolding reading_of
text_spread named s = reading_spread named (length s) (declaration false) 0 (words true 0 s) (words_sorted s) tt

-- ---- the most values

most : (n low : ℕ) (vs : List Value) (r : Option ℕ) → Spread n low vs r → low + 5 * length vs ≤ suc n
most n low [] r s = omega (arith, s.0)
most n low (v ∷ vs) r s = let h = most n (v.place + 5) vs r s.2 in omega (arith, s.0, h)

-- THEOREM: a text within its limit has no more than `most_changes` values.
pub few_values : (named s : List ℕ) → length s ≤ 65536 → length (reading_of named s).values ≤ most_changes
few_values named s h = omega (arith, most (length s) 0 (reading_of named s).values (reading_of named s).refusal (text_spread named s))

-- the values and the 432 are within the text
abbrev pub Places : ℕ → List Value → Option ℕ → Type 0
Places n [] r = UpTo n r
Places n (v ∷ vs) r = (v.place ≤ n) × Places n vs r

spread_places : (n low : ℕ) (vs : List Value) (r : Option ℕ) → Spread n low vs r → Places n vs r
spread_places n low [] r s = s.2
spread_places n low (v ∷ vs) r s = (omega (arith, most n (v.place + 5) vs r s.2), spread_places n (v.place + 5) vs r s.2)

pub text_places : (named s : List ℕ) → Places (length s) (reading_of named s).values (reading_of named s).refusal
text_places named s = spread_places (length s) 0 (reading_of named s).values (reading_of named s).refusal (text_spread named s)

-- ---- the lowest byte

-- One pass over the changed values: it stops at the first with no place left.
abbrev pub before : ℕ → Reply (List ℕ) → Reply (List ℕ)
before v (accepted vs) = accepted (v ∷ vs)
before v (refused number place) = refused number place

abbrev pub ended : Option ℕ → Reply (List ℕ)
ended none = accepted []
ended (some place) = refused 432 place

unfoldable pub in_turn : (room : ℕ) → List Value → Option ℕ → Reply (List ℕ)
in_turn room [] r = ended r
in_turn zero (v ∷ vs) r = refused 433 v.place
in_turn (suc room) (v ∷ vs) r = before v.value (in_turn room vs r)

-- each value is below the 432
abbrev Below : List Value → Option ℕ → Type 0
Below [] r = Unit {0}
Below (v ∷ vs) r = Above (suc (suc v.place)) r × Below vs r

above_last : (n low : ℕ) (vs : List Value) (r : Option ℕ) → Spread n low vs r → Above low r
above_last n low [] r s = s.1
above_last n low (v ∷ vs) r s = above_sooner low (v.place + 5) r (omega (arith, s.0)) (above_last n (v.place + 5) vs r s.2)

spread_below : (n low : ℕ) (vs : List Value) (r : Option ℕ) → Spread n low vs r → Below vs r
spread_below n low [] r s = tt
spread_below n low (v ∷ vs) r s = (above_sooner (suc (suc v.place)) (v.place + 5) r (omega arith) (above_last n (v.place + 5) vs r s.2), spread_below n (v.place + 5) vs r s.2)

changed_below : (last : ℕ) (vs : List Value) (r : Option ℕ) → Below vs r → Below (changed last vs) r
unfolding changed
changed_below last [] r b = tt
changed_below last (v ∷ vs) r b = go (eqb v.value last) (changed_below last vs r b.1) (changed_below v.value vs r b.1)
  where
    go : (t : Bool) → Below (changed last vs) r → Below (changed v.value vs) r → Below (cond t (changed last vs) (v ∷ changed v.value vs)) r
    go true p q = p
    go false p q = (b.0, q)

in_turn_decided : (room : ℕ) (vs : List Value) (r : Option ℕ) → Below vs r → in_turn room vs r ≡ decided vs (drop room vs) r
unfolding in_turn
in_turn_decided zero [] none b = refl
in_turn_decided zero [] (some q) b = refl
in_turn_decided (suc room) [] none b = refl
in_turn_decided (suc room) [] (some q) b = refl
in_turn_decided zero (v ∷ vs) none b = refl
in_turn_decided zero (v ∷ vs) (some q) b = rw (lt-leb q v.place (omega (arith, b.0)))
in_turn_decided (suc room) (v ∷ vs) r b = ap (before v.value) (in_turn_decided room vs r b.1) ∙ go (drop room vs) r
  where
    go : (left : List Value) (r : Option ℕ) → before v.value (decided vs left r) ≡ decided (v ∷ vs) left r
    go [] none = refl
    go [] (some q) = refl
    go (u ∷ left) none = refl
    go (u ∷ left) (some q) = either_place (leb q u.place)
      where
        either_place : (t : Bool) → before v.value (cond t (refused 432 q) (refused 433 u.place)) ≡ cond t (refused 432 q) (refused 433 u.place)
        either_place true = refl
        either_place false = refl

-- a value that no vector takes comes before the first
first_changed : (n low : ℕ) (vs : List Value) (r : Option ℕ) → Spread n low vs r → changed 65535 vs ≡ changes vs
unfolding changed changes
first_changed n low [] r s = refl
first_changed n low (v ∷ vs) r s = rw (ne_eqb v.value 65535 (λ e. omega (arith, s.1)))

-- THEOREM: a pass that stops at the first refusal gives what §8 says of the whole text.
pub lowest : (named : List ℕ) (room : ℕ) (s : List ℕ) → recorded named room s ≡ in_turn room (changed 65535 (reading_of named s).values) (reading_of named s).refusal
unfolding recorded
lowest named room s =
    let x = text_spread named s in
    let vs : List Value = (reading_of named s).values in
    let r : Option ℕ = (reading_of named s).refusal in
    let e : changed 65535 vs ≡ changes vs = first_changed (length s) 0 vs r x in
    sym (in_turn_decided room (changed 65535 vs) r (changed_below 65535 vs r (spread_below (length s) 0 vs r x)) ∙ ap (λ (us : List Value). decided us (drop room us) r) e)

-- the same of the changed values as they are defined
pub lowest_changes : (named : List ℕ) (room : ℕ) (s : List ℕ) → recorded named room s ≡ in_turn room (changes (reading_of named s).values) (reading_of named s).refusal
lowest_changes named room s =
    let x : Reading = reading_of named s in
    lowest named room s ∙ ap (λ (us : List Value). in_turn room us x.refusal) (first_changed (length s) 0 x.values x.refusal (text_spread named s))

-- ---- the sizes of what a text says

changed_places : (n last : ℕ) (vs : List Value) (r : Option ℕ) → Places n vs r → Places n (changed last vs) r
unfolding changed
changed_places n last [] r p = p
changed_places n last (v ∷ vs) r p = go (eqb v.value last) (changed_places n last vs r p.1) (changed_places n v.value vs r p.1)
  where
    go : (t : Bool) → Places n (changed last vs) r → Places n (changed v.value vs) r → Places n (cond t (changed last vs) (v ∷ changed v.value vs)) r
    go true q s = q
    go false q s = (p.0, s)

changed_few : (last : ℕ) (vs : List Value) → length (changed last vs) ≤ length vs
unfolding changed
changed_few last [] = omega arith
changed_few last (v ∷ vs) = go (eqb v.value last) (changed_few last vs) (changed_few v.value vs)
  where
    go : (t : Bool) → length (changed last vs) ≤ length vs → length (changed v.value vs) ≤ length vs → length (cond t (changed last vs) (v ∷ changed v.value vs)) ≤ suc (length vs)
    go true p q = omega arith
    go false p q = omega arith

-- a refusal of the pass is in the text, and it accepts no more values than there are
abbrev Sized : (n k : ℕ) → Reply (List ℕ) → Type 0
Sized n k (accepted vs) = length vs ≤ k
Sized n k (refused number place) = place ≤ n

in_turn_sized : (n room : ℕ) (vs : List Value) (r : Option ℕ) → Places n vs r → Sized n (length vs) (in_turn room vs r)
unfolding in_turn
in_turn_sized n room [] none p = omega arith
in_turn_sized n room [] (some q) p = p
in_turn_sized n zero (v ∷ vs) r p = p.0
in_turn_sized n (suc room) (v ∷ vs) r p = go (in_turn room vs r) (in_turn_sized n room vs r p.1)
  where
    go : (y : Reply (List ℕ)) → Sized n (length vs) y → Sized n (suc (length vs)) (before v.value y)
    go (accepted us) h = omega arith
    go (refused number place) h = h

recorded_sized : (named : List ℕ) (room : ℕ) (s : List ℕ) → Sized (length s) (length (changed 65535 (reading_of named s).values)) (recorded named room s)
recorded_sized named room s = rw (lowest named room s) (in_turn_sized (length s) room (changed 65535 (reading_of named s).values) (reading_of named s).refusal (changed_places (length s) 65535 (reading_of named s).values (reading_of named s).refusal (text_places named s)))

pub recorded_place : (named : List ℕ) (room : ℕ) (s : List ℕ) (number place : ℕ) → recorded named room s ≡ refused number place → place ≤ length s
recorded_place named room s number place e = rw e at (recorded_sized named room s)

pub recorded_few : (named : List ℕ) (room : ℕ) (s vs : List ℕ) → length s ≤ 65536 → recorded named room s ≡ accepted vs → length vs ≤ most_changes
recorded_few named room s vs h e =
    let k : length vs ≤ length (changed 65535 (reading_of named s).values) = rw e at (recorded_sized named room s) in
    omega (arith, k, changed_few 65535 (reading_of named s).values, few_values named s h)
