-- One turn of `scan_record`, and what the bounds that it notes say of the fields.
-- Assumes nothing.
use mathlib.Core.Path.{◌≡◌, refl, sym, ap, subst, ◌∙◌}
use mathlib.Core.Bool.{Bool, true, false, cond}
use mathlib.Core.List.{List, [], ◌∷◌}
use Prim.Native.Nat.{ℕ, zero, suc, ◌+◌, ◌-◌, ◌<◌, ◌≤◌, max}
use native.Mathlib.Nat.{add-zero}
use native.Mathlib.Numerals.{add-one}
use native.Mathlib.Omega.{arith}
use borrow.Author.Tests.{lt-ltb, le-leb}
use lib.ListN.{length, take, drop, get_or, set, length-drop, length-take, length-set, get_or-replicate}
use lib.Seq.{drop-drop, get_or-set_same, get_or-set_other, length-take-le}
use native.Mathlib.Decide.{dec_le}
use Rattle.std.proofs.Common.{Some, None}
use Rattle.std.specs.Option.{unwrap_or}
use lib.Dec.{leb, ltb, leb-zero}
use Rattle.csv_text.specs.Grammar.{Field, comma, ends, broken, width, field, Record, record_of, record_in, record_with, joined, only, unsound, records, first_ending}
use Rattle.csv_text.specs.Place.{found_at, no_places, note, noted, starts_of, stops_of, split_of, part_of, field_at}
use Rattle.csv_text.specs.declared.Ending.{Ending}
use Rattle.csv_text.specs.declared.Ending.TheVariants.{EndOfText}
use Rattle.csv_text.specs.declared.Found.{Found}
use Rattle.csv_text.specs.declared.Found.TheVariants.{Comma, Ends, Broken}
use Rattle.csv_text.specs.declared.Split.{Split}
use Rattle.csv_text.proofs.Records.{Within, field_within, record_step, unsound_open, first_ends}

-- n bytes of a text from p on, where there are as many
pub part_at : (s : List ℕ) (p n : ℕ) → n ≤ length (drop p s) → part_of s p (p + n) ≡ take n (drop p s)
part_at s p n h = let e : p + n - p ≡ n = omega arith in rw e (at (dec_le (p + n) (length s)))
  where
    at : Dec (p + n ≤ length s) → cond (leb (p + n) (length s)) (take n (drop p s)) [] ≡ take n (drop p s)
    at (yes l) = rw (le-leb (p + n) (length s) l)
    at (no l) = let z : n ≡ 0 = omega (arith, rw length-drop at h) in rw z (flat (leb (p + 0) (length s)))
      where
        flat : (b : Bool) → cond b (take 0 (drop p s)) [] ≡ take 0 (drop p s)
        flat true = refl
        flat false = refl

-- What an answer of `field_end` says of the field.
pub comma_of : (p e : ℕ) (f : Field) → Comma e ≡ found_at p f → (n : ℕ) × (f ≡ comma n) × (e ≡ p + n)
comma_of p e (comma n) q = (n, refl, cc)
comma_of p e (ends x n) q = absurd (let z : ◌≡◌ {A = ℕ} 0 1 = cc in omega arith)
comma_of p e broken q = absurd (let z : ◌≡◌ {A = ℕ} 0 1 = cc in omega arith)

pub ends_of : (p e : ℕ) (x : Ending) (f : Field) → Ends x e ≡ found_at p f → (n : ℕ) × (f ≡ ends x n) × (e ≡ p + n)
ends_of p e x (comma n) q = absurd (let z : ◌≡◌ {A = ℕ} 0 1 = cc in omega arith)
ends_of p e x (ends y n) q = (n, (let z : x ≡ y = cc in rw z), cc)
ends_of p e x broken q = absurd (let z : ◌≡◌ {A = ℕ} 0 1 = cc in omega arith)

broken_of : (p : ℕ) (f : Field) → Broken ≡ found_at p f → f ≡ broken
broken_of p (comma n) q = absurd (let z : ◌≡◌ {A = ℕ} 0 1 = cc in omega arith)
broken_of p (ends x n) q = absurd (let z : ◌≡◌ {A = ℕ} 0 1 = cc in omega arith)
broken_of p broken q = refl

-- one field more: its bounds are noted, and the next one starts after the comma
module _ (starts stops : List ℕ) (count p e : ℕ) (w : List ℕ) (d : p + length w ≡ e) where
  split_joined : (n : ℕ) (t : Record) → p + n ≡ e + 1 → split_of starts stops count p (joined w n t) ≡ split_of (note starts count p) (note stops count e) (suc count) (e + 1) t
  unfolding noted starts_of stops_of
  split_joined n t m =
      let a : count + suc (length t.fields) ≡ suc count + length t.fields = omega arith in
      let b : p + (n + t.bytes) ≡ e + 1 + t.bytes = omega arith in
      λ i. record { starts = noted (note starts count p) (suc count) (starts_of (d i + 1) t.fields); ends = noted (note stops count (d i)) (suc count) (stops_of (d i + 1) t.fields); count = a i; next = b i; ending = cond t.sound (Some t.ending) None }

  split_only : (n v : ℕ) (x : Ending) → p + (n + width x) ≡ e + v → split_of starts stops count p (only w n x) ≡ record { starts = note starts count p; ends = note stops count e; count = count + 1; next = e + v; ending = Some x }
  unfolding noted starts_of stops_of
  split_only n v x m = λ i. record { starts = note starts count p; ends = note stops count (d i); count = count + 1; next = m i; ending = Some x }

-- Each way through a turn of `scan_record` at the field that starts at p; r is what `field_end` gave, and x is the split of the whole record.
module _ (s : List ℕ) (p : ℕ) {r : Found} (q : r ≡ found_at p (field (drop p s))) where
  module _ (e : ℕ) (w : r ≡ Comma e) where
    at_comma : (n : ℕ) × (field (drop p s) ≡ comma n) × (e ≡ p + n)
    at_comma = comma_of p e (field (drop p s)) (sym w ∙ q)

    pub comma_range : (p ≤ e) × (e < length s)
    comma_range = let h : at_comma.0 < length (drop p s) = subst (Within (length (drop p s))) at_comma.1 (field_within (drop p s)) in omega (arith, at_comma.2, rw length-drop at h)

    comma_record : record_of (drop p s) ≡ joined (take (e - p) (drop p s)) (e - p + 1) (record_of (drop (e + 1) s))
    comma_record =
        let n : at_comma.0 ≡ e - p = omega (arith, at_comma.2) in
        let m : p + (e - p + 1) ≡ e + 1 = omega (arith, comma_range) in
        record_step (drop p s) ∙ rw (at_comma.1, drop-drop, n, m)

    pub scan_comma : {x : Split} {starts' stops' : List ℕ} (starts stops : List ℕ) (count : ℕ) → starts' ≡ note starts count p → stops' ≡ note stops count e → x ≡ split_of starts stops count p (record_of (drop p s)) → x ≡ split_of starts' stops' (count + 1) (e + 1) (record_of (drop (e + 1) s))
    scan_comma starts stops count u v h =
        let l : p + length (take (e - p) (drop p s)) ≡ e = rw (length-take, length-drop) (omega (arith, comma_range)) in
        h ∙ ap (split_of starts stops count p) comma_record ∙ split_joined starts stops count p e (take (e - p) (drop p s)) l (e - p + 1) (record_of (drop (e + 1) s)) (omega (arith, comma_range)) ∙ rw (u, v, add-one count)

  module _ (x : Ending) (e : ℕ) (w : r ≡ Ends x e) where
    at_ends : (n : ℕ) × (field (drop p s) ≡ ends x n) × (e ≡ p + n)
    at_ends = ends_of p e x (field (drop p s)) (sym w ∙ q)

    within : at_ends.0 + width x ≤ length s - p
    within = let h : (at_ends.0 + width x ≤ length (drop p s)) × (width x ≡ 0 → at_ends.0 ≡ length (drop p s)) = subst (Within (length (drop p s))) at_ends.1 (field_within (drop p s)) in rw length-drop at h.0

    -- the place after the record lies in the text, or is p where p does not
    pub ends_range : (v : ℕ) → v ≡ width x → e + v ≤ max (length s) p
    ends_range v k = omega (arith, at_ends.2, within)

    pub scan_ends : {y : Split} {starts' stops' : List ℕ} (starts stops : List ℕ) (count v : ℕ) → starts' ≡ note starts count p → stops' ≡ note stops count e → v ≡ width x → y ≡ split_of starts stops count p (record_of (drop p s)) → record { starts = starts'; ends = stops'; count = count + 1; next = e + v; ending = Some x } ≡ y
    scan_ends starts stops count v i j k h =
        let n : at_ends.0 ≡ e - p = omega (arith, at_ends.2) in
        let l : p + length (take (e - p) (drop p s)) ≡ e = rw (length-take, length-drop) (omega (arith, at_ends.2, within)) in
        let f : record_of (drop p s) ≡ only (take (e - p) (drop p s)) (e - p) x = record_step (drop p s) ∙ rw (at_ends.1, n) in
        rw (i, j) (sym (h ∙ ap (split_of starts stops count p) f ∙ split_only starts stops count p e (take (e - p) (drop p s)) l (e - p) v x (omega (arith, at_ends.2))))

  module _ (w : r ≡ Broken) where
    pub scan_broken : {x : Split} (starts stops : List ℕ) (count : ℕ) → x ≡ split_of starts stops count p (record_of (drop p s)) → record { starts = starts; ends = stops; count = count; next = p; ending = None } ≡ x
    unfolding noted starts_of stops_of
    scan_broken starts stops count h =
        let f : record_of (drop p s) ≡ unsound = record_step (drop p s) ∙ rw (broken_of p (field (drop p s)) (sym w ∙ q)) in
        sym (h ∙ rw (f, add-zero, add-zero))

-- The fields ws, as the record that starts at p has them: each is the part of the text between its bounds.
abbrev Laid : List ℕ → ℕ → List (List ℕ) → Type 0
Laid s p [] = Unit {0}
Laid s p (w ∷ ws) = (part_of s p (p + length w) ≡ w) × Laid s (p + length w + 1) ws

laid_in : (k : ℕ) (s : List ℕ) (p : ℕ) → Laid s p (record_in k (drop p s)).fields
unfolding record_in
laid_in zero s p = tt
laid_in (suc k) s p = go (λ q. laid_in k s q) (field (drop p s)) (field_within (drop p s))
  where
    part : (n : ℕ) → n ≤ length (drop p s) → part_of s p (p + length (take n (drop p s))) ≡ take n (drop p s)
    part n h = rw (length-take-le n (drop p s) h) (part_at s p n h)

    go : ((q : ℕ) → Laid s q (record_in k (drop q s)).fields) → (f : Field) → Within (length (drop p s)) f → Laid s p (record_with (record_in k) (drop p s) f).fields
    go ih (comma n) h =
        let l : length (take n (drop p s)) ≡ n = length-take-le n (drop p s) (omega arith) in
        (part n (omega arith), rw (drop-drop (n + 1) p s, l) (let e : p + (n + 1) ≡ p + n + 1 = omega arith in rw e (ih (p + n + 1))))
    go ih (ends x n) h = (part n (omega arith), tt)
    go ih broken h = tt

laid : (s : List ℕ) (p : ℕ) → Laid s p (record_of (drop p s)).fields
unfolding record_of
laid s p = laid_in (suc (length (drop p s))) s p

-- what stands at a place: what was noted there, or what stood there before
note_other : (places : List ℕ) (i x j : ℕ) → (j ≡ i → ⊥) → get_or (note places i x) j 0 ≡ get_or places j 0
note_other places i x j h = go (ltb i 8)
  where
    go : (b : Bool) → get_or (cond b (set places i x) places) j 0 ≡ get_or places j 0
    go true = get_or-set_other places i j x 0 h
    go false = refl

length_note : (places : List ℕ) (i x : ℕ) → length (note places i x) ≡ length places
length_note places i x = go (ltb i 8)
  where
    go : (b : Bool) → length (cond b (set places i x) places) ≡ length places
    go true = length-set places i x
    go false = refl

noted_before : (places : List ℕ) (i : ℕ) (xs : List ℕ) (j : ℕ) → j < i → get_or (noted places i xs) j 0 ≡ get_or places j 0
unfolding noted
noted_before places i [] j h = refl
noted_before places i (x ∷ xs) j h = noted_before (note places i x) (suc i) xs j (omega arith) ∙ note_other places i x j (λ e. omega arith)

noted_at : (places : List ℕ) (i : ℕ) (xs : List ℕ) (j : ℕ) → length places ≡ 8 → i + j < 8 → get_or (noted places i xs) (i + j) 0 ≡ get_or xs j (get_or places (i + j) 0)
unfolding noted
noted_at places i [] j l h = refl
noted_at places i (x ∷ xs) zero l h =
    let e : i + 0 ≡ i = omega arith in
    let b : i < 8 = omega arith in
    rw e (noted_before (note places i x) (suc i) xs i (omega arith) ∙ rw (lt-ltb i 8 b) (get_or-set_same places i x 0 (omega arith)))
noted_at places i (x ∷ xs) (suc j) l h =
    let e : i + suc j ≡ suc i + j = omega arith in
    rw e (noted_at (note places i x) (suc i) xs j (length_note places i x ∙ l) (omega arith) ∙ ap (get_or xs j) (note_other places i x (suc i + j) (λ z. omega arith)))

laid_field : (s : List ℕ) (p : ℕ) (ws : List (List ℕ)) → Laid s p ws → (j : ℕ) → part_of s (get_or (starts_of p ws) j 0) (get_or (stops_of p ws) j 0) ≡ get_or ws j []
unfolding starts_of stops_of
laid_field s p [] h zero = rw leb-zero
laid_field s p [] h (suc j) = rw leb-zero
laid_field s p (w ∷ ws) h zero = h.0
laid_field s p (w ∷ ws) h (suc j) = laid_field s (p + length w + 1) ws h.1 j

-- what `Split::field` gives of the bounds that `scan_record` noted is the field
pub split_field : (s : List ℕ) (p i : ℕ) → i < 8 → field_at s (noted no_places 0 (starts_of p (record_of (drop p s)).fields)) (noted no_places 0 (stops_of p (record_of (drop p s)).fields)) i ≡ get_or (record_of (drop p s)).fields i []
split_field s p i h =
    let ws : List (List ℕ) = (record_of (drop p s)).fields in
    rw (place (starts_of p ws), place (stops_of p ws), lt-ltb i 8 h) (laid_field s p ws (laid s p) i)
  where
    place : (xs : List ℕ) → get_or (noted no_places 0 xs) i 0 ≡ get_or xs i 0
    place xs =
        let e : 0 + i ≡ i = omega arith in
        rw e at (noted_at no_places 0 xs i refl (omega arith) ∙ ap (get_or xs i) (get_or-replicate 8 (0 + i) 0 0 (omega arith)))

-- how the first record of a text ends
pub first_split : (s : List ℕ) {r : Split} → r ≡ split_of no_places no_places 0 0 (record_of (drop 0 s)) → unwrap_or r.ending EndOfText ≡ first_ending (records s)
first_split s q = ap (λ (x : Split). unwrap_or x.ending EndOfText) q ∙ open_end (record_of s) (unsound_open s) ∙ first_ends s
  where
    open_end : (r : Record) → (r.sound ≡ false → r.ending ≡ EndOfText) → unwrap_or (cond r.sound (Some r.ending) None) EndOfText ≡ r.ending
    open_end r h = go r.sound refl
      where
        go : (b : Bool) → r.sound ≡ b → unwrap_or (cond b (Some r.ending) None) EndOfText ≡ r.ending
        go true e = refl
        go false e = sym (h e)
