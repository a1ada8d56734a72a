-- A record that is read field by field.
-- Assumes nothing.
use mathlib.Core.Path.{◌≡◌, ap, ◌∙◌}
use mathlib.Core.Bool.{true}
use mathlib.Core.List.{List, [], ◌∷◌}
use Prim.Native.Nat.{ℕ, ◌+◌}
use native.Mathlib.Omega.{arith}
use lib.ListN.{take, drop}
use lib.Seq.{drop-drop}
use Rattle.csv_text.specs.Grammar.{comma, ends, width, field, record_of, only, joined}
use Rattle.csv_text.specs.declared.Ending.{Ending}
use Rattle.csv_text.proofs.Records.{record_step}

-- a sound record: its fields as written, how it ends, and the place after it
pub record Reads (s : List ℕ) (p : ℕ) (ws : List (List ℕ)) (x : Ending) (next : ℕ) : Type 0 where
  pub sound : (record_of (drop p s)).sound ≡ true
  pub fields : (record_of (drop p s)).fields ≡ ws
  pub ending : x ≡ (record_of (drop p s)).ending
  pub after : next ≡ p + (record_of (drop p s)).bytes

module _ (s : List ℕ) (p : ℕ) {n : ℕ} where
  -- its last field
  pub reads_last : {x : Ending} → field (drop p s) ≡ ends x n → Reads s p (take n (drop p s) ∷ []) x (p + n + width x)
  reads_last {x} q =
      let r : record_of (drop p s) ≡ only (take n (drop p s)) n x = record_step (drop p s) ∙ rw q in
      record { sound = rw r; fields = rw r; ending = rw r; after = rw r (omega arith) }

  -- a field, a comma, and the fields after it
  pub reads_comma : {ws : List (List ℕ)} {x : Ending} {next : ℕ} → field (drop p s) ≡ comma n → Reads s (p + n + 1) ws x next → Reads s p (take n (drop p s) ∷ ws) x next
  reads_comma q t =
      let m : p + (n + 1) ≡ p + n + 1 = omega arith in
      let r : record_of (drop p s) ≡ joined (take n (drop p s)) (n + 1) (record_of (drop (p + n + 1) s)) = record_step (drop p s) ∙ rw (q, drop-drop, m) in
      record { sound = rw r t.sound; fields = rw r (ap (λ (l : List (List ℕ)). take n (drop p s) ∷ l) t.fields); ending = rw r t.ending; after = rw r (omega (arith, t.after)) }
