-- Lists of blocks after one another: where the second starts, and what holds of both. Assumes nothing.
use mathlib.Core.Path.{◌≡◌, refl, sym}
use mathlib.Core.Bool.{Bool, true, false, not}
use mathlib.Core.List.{List, [], ◌∷◌, ◌++◌}
use Prim.Native.Nat.{ℕ, zero, suc, ◌+◌, ◌*◌, ◌-◌}
use native.Mathlib.Omega.{arith}
use lib.Dec.{eqb}
use borrow.Author.Tests.{eqb-false}
use lib.ListN.{length, get_or}
use Rattle.lists.specs.Search.{when◌then◌else◌}
use Rattle.lists.proofs.Tests.{and-true, both}
use Rattle.wcet.specs.Table.{Routine, edge}
use Rattle.wcet.specs.Run.{path, run_cost, State, next, after, passes_limit, keeps_limits}
use Rattle.wcet.specs.Stays.{visits}
use Rattle.wcet.proofs.Limits.{WithinLimits, kept_limits}

-- the last block of x ∷ w
unfoldable pub end : ℕ → List ℕ → ℕ
end x [] = x
end x (v ∷ w) = end v w

pub end_joined : (a b : List ℕ) (x : ℕ) → end x (a ++ b) ≡ end (end x a) b
unfolding end
end_joined [] b x = refl
end_joined (v ∷ a) b x = end_joined a b v

pub end_at : (w : List ℕ) (x : ℕ) → get_or (x ∷ w) (length w) 0 ≡ end x w
unfolding end
end_at [] x = refl
end_at (v ∷ w) x = end_at w v

pub end_last : (w : List ℕ) (x : ℕ) → get_or (x ∷ w) (length (x ∷ w) - 1) 0 ≡ end x w
end_last w x = let k : length (x ∷ w) - 1 ≡ length w = omega arith in rw k (end_at w x)

-- w begins with no h, where it has none
pub not_first : (h v : ℕ) (w : List ℕ) → visits h (v ∷ w) ≡ 0 → (v ≡ h → ⊥) × (visits h w ≡ 0)
unfolding visits
not_first h v w e = go (eqb h v) refl e
  where
    go : (x : Bool) → eqb h v ≡ x → (when x then 1 else 0) + visits h w ≡ 0 → (v ≡ h → ⊥) × (visits h w ≡ 0)
    go true x e = absurd (omega arith)
    go false x e = (λ q. eqb-false h v x (sym q), omega arith)

-- r times the list w
unfoldable pub copies : ℕ → List ℕ → List ℕ
copies zero w = []
copies (suc r) w = w ++ copies r w

module _ (t : Routine) where
  pub after_end_lem : (w : List ℕ) (s : State) → (after t s w).block ≡ end s.block w
  unfolding after next end
  after_end_lem [] s = refl
  after_end_lem (v ∷ w) s = after_end_lem w (next t s v)

  pub cost_joined : (a b : List ℕ) → run_cost t (a ++ b) ≡ run_cost t a + run_cost t b
  unfolding run_cost
  cost_joined [] b = omega arith
  cost_joined (v ∷ a) b = let rest = cost_joined a b in omega arith

  pub cost_copies : (r : ℕ) (w : List ℕ) → run_cost t (copies r w) ≡ run_cost t w * r
  unfolding copies run_cost
  cost_copies zero w = omega arith
  cost_copies (suc r) w = rw (cost_joined w (copies r w), cost_copies r w) (omega arith)

  pub path_joined : (a b : List ℕ) (x : ℕ) → path t x a ≡ true → path t (end x a) b ≡ true → path t x (a ++ b) ≡ true
  unfolding path end
  path_joined [] b x p q = q
  path_joined (v ∷ a) b x p q =
      let e : (edge t x v ≡ true) × (path t v a ≡ true) = and-true _ _ p in
      both e.0 (path_joined a b v e.1 q)

  pub keeps_joined : (a b : List ℕ) (s : State) → keeps_limits t s a ≡ true → keeps_limits t (after t s a) b ≡ true → keeps_limits t s (a ++ b) ≡ true
  unfolding keeps_limits after
  keeps_joined [] b s p q = q
  keeps_joined (v ∷ a) b s p q =
      let e : (not (passes_limit t s) ≡ true) × (keeps_limits t (next t s v) a ≡ true) = and-true _ _ p in
      both e.0 (keeps_joined a b (next t s v) e.1 q)

  pub after_joined : (a b : List ℕ) (s : State) → after t s (a ++ b) ≡ after t (after t s a) b
  unfolding after
  after_joined [] b s = refl
  after_joined (v ∷ a) b s = after_joined a b (next t s v)

  pub keeps_none : (s : State) → WithinLimits t s → keeps_limits t s [] ≡ true
  unfolding keeps_limits
  keeps_none s W = rw (kept_limits t s W)

  pub keeps_more : (s : State) (v : ℕ) (w : List ℕ) → WithinLimits t s → keeps_limits t (next t s v) w ≡ true → keeps_limits t s (v ∷ w) ≡ true
  unfolding keeps_limits
  keeps_more s v w W k = rw (kept_limits t s W) k
