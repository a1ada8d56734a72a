-- A block whose fields one scan found and read is the block that its record says.
-- Assumes nothing.
use Rattle.std.proofs.Common.{◌≡◌, sym, subst, ◌∙◌, Bool, true, List, [], ◌∷◌, ℕ, ◌+◌, ◌-◌, ◌≤◌, ◌^◌, length, take, drop, ℤ, Result, arith, eq-eqb}
use Rattle.csv_text.specs.Grammar.{width, record_of, alike}
use Rattle.csv_text.specs.declared.Ending.{Ending}
use Rattle.csv_text.specs.declared.Found.TheVariants.{Comma, Ends}
use Rattle.csv_text.proofs.Reading.{Reads, reads_last, reads_comma}
use Rattle.digits.specs.declared.NotNumber.{NotNumber}
use Rattle.cells.specs.Cell.{cell_at, signed_cell_at}
use Rattle.cells.specs.declared.Cell.{Cell}
use Rattle.cells.proofs.Short.{cell_comma, signed_ends}
use Rattle.rows.specs.Row.{Verdict, block_fields, block_cells, block_row}
use Rattle.rows.specs.Judge.{field_of, judge_block}
use Rattle.rows.specs.Place.{block_step, BlockFits, CommaField, FigureField, BlockAt}
use Rattle.rows.specs.declared.BlockCells.{BlockCells}
use Rattle.rows.specs.declared.BlockRow.{BlockRow}
use Rattle.rows.proofs.Rows.{block_fits}

-- Each way through `comma_cell` and `last_cell`.
pub comma_found : (s : List ℕ) (at greatest : ℕ) {g : ℕ} → g ≡ greatest → {r : Cell ℕ} → r ≡ cell_at g at (drop at s) → (e : ℕ) → r.found ≡ Comma e → CommaField s at e greatest r.value
comma_found s at greatest w q e f = let x = cell_comma s at greatest (rw (← w) q) e f in record { from = x.from; inside = x.inside; field = x.field; value = x.value }

pub last_found : (s : List ℕ) (at : ℕ) {r : Cell ℤ} → r ≡ signed_cell_at at (drop at s) → at ≤ length s → (x : Ending) (e : ℕ) → r.found ≡ Ends x e → {n : ℕ} → n ≡ width x → {first : Ending} {a : Bool} → a ≡ alike first x → a ≡ true → FigureField s first at (e + n) r.value
last_found s at q i x e f {n} w l t =
    let y = signed_ends s at q i x e f in
    record { ending = x; size = e - at; inside = rw w y.inside; field = y.field; value = y.value; after = rw w (omega (arith, y.from)); so = sym l ∙ t }

pub last_room : (s : List ℕ) (at : ℕ) {r : Cell ℤ} → r ≡ signed_cell_at at (drop at s) → at ≤ length s → (x : Ending) (e : ℕ) → r.found ≡ Ends x e → {n : ℕ} → n ≡ width x → e + n ≤ length s
last_room s at q i x e f {n} w = let y = signed_ends s at q i x e f in rw w y.inside

-- all six fields
module _ (s : List ℕ) (first : Ending) (p₀ : ℕ) {n c l a b : Result ℕ NotNumber} {z : Result ℤ NotNumber} {e₀ e₁ e₂ e₃ e₄ next : ℕ} (c₀ : CommaField s p₀ e₀ 65535 n) (c₁ : CommaField s (e₀ + 1) e₁ (2 ^ 32 - 1) c) (c₂ : CommaField s (e₁ + 1) e₂ 65535 l) (c₃ : CommaField s (e₂ + 1) e₃ 65534 a) (c₄ : CommaField s (e₃ + 1) e₄ 65534 b) (c₅ : FigureField s first (e₄ + 1) next z) where
  fields : List (List ℕ)
  fields = take (e₀ - p₀) (drop p₀ s) ∷ take (e₁ - (e₀ + 1)) (drop (e₀ + 1) s) ∷ take (e₂ - (e₁ + 1)) (drop (e₁ + 1) s) ∷ take (e₃ - (e₂ + 1)) (drop (e₂ + 1) s) ∷ take (e₄ - (e₃ + 1)) (drop (e₃ + 1) s) ∷ take c₅.size (drop (e₄ + 1) s) ∷ []

  -- a field, its comma and the fields after it
  after_comma : {at e greatest : ℕ} {v : Result ℕ NotNumber} → CommaField s at e greatest v → {ws : List (List ℕ)} → Reads s (e + 1) ws c₅.ending next → Reads s at (take (e - at) (drop at s) ∷ ws) c₅.ending next
  after_comma {at} {e} y r = reads_comma s at y.field (let z : at + (e - at) + 1 ≡ e + 1 = omega (arith, y.from) in rw z r)

  all_read : Reads s p₀ fields c₅.ending next
  unfolding fields
  all_read = after_comma c₀ (after_comma c₁ (after_comma c₂ (after_comma c₃ (after_comma c₄ (subst (Reads s (e₄ + 1) (take c₅.size (drop (e₄ + 1) s) ∷ []) c₅.ending) (sym c₅.after) (reads_last s (e₄ + 1) c₅.field))))))

  pub short_all : BlockAt s first p₀ (record { number = n; cost = c; innermost = l; first = a; second = b; figure = z }) next
  unfolding fields
  short_all = record { sound = all_read.sound; count = rw all_read.fields; cells = cells; after = all_read.after; so = rw (← all_read.ending) c₅.so }
    where
      cells : record { number = n; cost = c; innermost = l; first = a; second = b; figure = z } ≡ block_cells (field_of (record_of (drop p₀ s)))
      cells = rw all_read.fields (λ i. record { number = c₀.value i; cost = c₁.value i; innermost = c₂.value i; first = c₃.value i; second = c₄.value i; figure = c₅.value i })

-- The short way through `block_at`.
module _ (s : List ℕ) (room : ℕ) (first : Ending) (k at : ℕ) {x : BlockCells} {next : ℕ} (y : BlockAt s first at x next) where
  pub short_fits : BlockFits x
  short_fits = block_fits (field_of (record_of (drop at s))) y.cells

  pub short_step : {v : Verdict BlockRow} → v ≡ block_row room k true x → record { verdict = v; next = next } ≡ block_step room first k at (record_of (drop at s))
  unfolding judge_block
  short_step {v} p = λ i. record { verdict = verdict i; next = y.after i }
    where
      verdict : v ≡ judge_block room first k (record_of (drop at s))
      verdict = p ∙ rw (y.sound, eq-eqb (length (record_of (drop at s)).fields) block_fields y.count, y.so, y.cells)
