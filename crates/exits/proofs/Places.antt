-- The place of 401 by a test of each block, as that it is not marked; and what callers of `first_lost` need. Assumes nothing.
use Rattle.std.proofs.Common.{◌≡◌, refl, sym, ◌∙◌, ap, ◌↔◌, Bool, true, false, not, true≢false, List, Option, ℕ, ◌<◌, arith, length}
use borrow.Author.Tests.{not-false}
use Rattle.lists.specs.Search.{first_below}
use Rattle.lists.proofs.Search.{Lowest, found, found_lowest, not_found, none_found}
use Rattle.wcet.specs.Table.{Routine, block_count}
use Rattle.wcet.specs.Rules.{structure_rules}
use Rattle.wcet.specs.Claim.{AllHold}
use Rattle.nesting.specs.Columns.{Linked}
use Rattle.nesting.proofs.Stages.{linked, headed}
use Rattle.optimum.specs.Remade.{PathToExit}
use Rattle.exits.specs.Lost.{Listed, LowestLost, LostAt, Lost}
use Rattle.exits.specs.Marks.{link_columns, marked, MarksPaths}
use Rattle.exits.proofs.Paths.{same_path}

-- by a test that holds exactly where a block has no path
module _ (t : Routine) (lacks : ℕ → Bool) (exact : (u : ℕ) → u < block_count t → (lacks u ≡ false) ↔ PathToExit t u) where
  lacking : (u : ℕ) → u < block_count t → (lacks u ≡ true) ↔ (PathToExit t u → ⊥)
  lacking u b = (λ e p. true≢false (sym e ∙ (exact u b).1 p), λ lost. go (lacks u) refl lost)
    where
      go : (l : Bool) → lacks u ≡ l → (PathToExit t u → ⊥) → l ≡ true
      go true e lost = refl
      go false e lost = absurd (lost ((exact u b).0 e))

  pub lowest_lost : (u : ℕ) → Lowest (block_count t) lacks u ↔ LowestLost t u
  lowest_lost u = (
    λ l. record { block = l.below; lost = (lacking u l.below).0 l.passes; lower = λ v h. (exact v (omega (arith, l.below))).0 (l.lower v h) },
    λ l. record { below = l.block; passes = (lacking u l.block).1 l.lost; lower = λ v h. (exact v (omega (arith, l.block))).1 (l.lower v h) },
  )

  lost_by : (r : Option ℕ) → r ≡ first_below (block_count t) lacks → LostAt t r
  lost_by r e = record {
    lowest = λ u. (
      λ q. (lowest_lost u).0 (found_lowest (block_count t) lacks u (sym e ∙ q)),
      λ l. e ∙ found (block_count t) lacks u ((lowest_lost u).1 l),
    );
    nowhere = (
      λ q u b. (exact u b).0 (not_found (block_count t) lacks (sym e ∙ q) u b),
      λ all. e ∙ none_found (block_count t) lacks (λ u b. (exact u b).1 (all u b)),
    );
  }

-- by marks, which are right in every routine with the same two columns
pub lost : (firsts seconds : List ℕ) (marks : List Bool) → MarksPaths (link_columns firsts seconds) marks → (r : Option ℕ)
    → r ≡ first_below (length firsts) (λ u. not (marked marks u)) → Lost firsts seconds r
lost firsts seconds marks M r e t f s n = lost_by t (λ u. not (marked marks u)) exact r (rw n at e)
  where
    L : Routine
    L = link_columns firsts seconds

    exact : (u : ℕ) → u < block_count t → (not (marked marks u) ≡ false) ↔ PathToExit t u
    exact u b = let m = M u (omega arith) in (λ q. same_path L t (sym f) (sym s) n u (m.0 (not-false _ q)), λ p. ap not (m.1 (same_path t L f s (sym n) u p)))

-- ---- for callers, of tables that pass 201 to 207: what `first_lost` requires, and the place

pub searchable : (t : Routine) → AllHold (structure_rules t) → (order : List ℕ) → Listed (block_count t) order
    → (0 < length t.firsts) × Linked (length t.firsts) t.firsts t.seconds × Listed (length t.firsts) order
searchable t holds order O = let R = (headed t holds).ranged in rw R.sized.firsts (R.sized.some_block, linked t R, O)
