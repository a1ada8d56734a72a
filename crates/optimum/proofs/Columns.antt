-- Other figures and multipliers in the same routine: its runs and rounds are the same, so is what 201 to 207 say of edges and loops
-- (`nested_too`), and so is a rank (`ranked_too`). Assumes nothing.
use mathlib.Core.Path.{◌≡◌, refl, ◌∙◌, ap}
use mathlib.Core.Bool.{Bool, true, not, ◌&&◌}
use mathlib.Core.List.{List, [], ◌∷◌, ◌++◌}
use Prim.Native.Nat.{ℕ}
use native.Mathlib.Omega.{arith}
use lib.IntN.{ℤ}
use lib.ListN.{get_or}
use Rattle.wcet.specs.Table.{Routine, header, some_edge, edge, inside}
use Rattle.wcet.specs.Run.{State, next_count, next, counted_run}
use Rattle.wcet.specs.Cycles.{back_edge, forward_edge}
use Rattle.wcet.proofs.Nesting.{Nested}
use Rattle.wcet.proofs.OtherNumbers.{same_path, same_inside, counted_too}
use Rattle.optimum.specs.Rounds.{round_start, passes_inner, keeps_inner, Round}
use Rattle.optimum.specs.Remade.{with_columns}
use Rattle.optimum.proofs.Local.{Ranked}

module _ (t : Routine) (fs : List ℤ) (ks : List ℕ) where
  abbrev t' : Routine
  t' = with_columns t fs ks

  -- runs and rounds read neither column
  same_inner : (l : ℕ) (w : List ℕ) (s : State) → keeps_inner t' l s w ≡ keeps_inner t l s w
  unfolding keeps_inner passes_inner next next_count inside
  same_inner l [] s = refl
  same_inner l (v ∷ w) s = ap (λ (x : Bool). not (passes_inner t l s) && x) (same_inner l w (next t s v))

  pub run_too : (w : List ℕ) → counted_run t w ≡ true → counted_run t' w ≡ true
  run_too = counted_too t' t.costs t.figures t.limits t.multipliers (λ l b. omega arith)

  pub round_too : (l : ℕ) (w : List ℕ) → Round t l w → Round t' l w
  unfolding round_start
  round_too l w r = record {
    follows = same_path t t.costs fs t.limits ks (w ++ header t l ∷ []) (header t l) ∙ r.follows;
    stays = same_inside t t.costs fs t.limits ks l w ∙ r.stays;
    first_return = r.first_return;
    kept = same_inner l (w ++ header t l ∷ []) (round_start t l) ∙ r.kept;
  }

  pub nested_too : Nested t → get_or ks 0 0 ≡ 0 → Nested t'
  unfolding edge some_edge inside
  nested_too N z = record {
    two_blocks = N.two_blocks;
    some_loop = N.some_loop;
    loop0_parent = N.loop0_parent;
    loop0_header = N.loop0_header;
    loop0_limit = N.loop0_limit;
    loop0_multiplier = z;
    parent_below = N.parent_below;
    header_block = N.header_block;
    limit_least = N.limit_least;
    innermost = N.innermost;
    target = N.target;
    own = N.own;
    entry_starts = N.entry_starts;
    exit_ends = N.exit_ends;
    at_header = N.at_header;
  }

  unfoldable pub ranked_too : Ranked t → Ranked t'
  unfolding forward_edge edge some_edge back_edge inside
  ranked_too K = record { rank = K.rank; falls = K.falls }
