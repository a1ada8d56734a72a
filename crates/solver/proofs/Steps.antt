-- What the steps of the solver require holds of tables that pass 201 to 207 and 209. Assumes nothing.
use Rattle.std.proofs.Common.{◌≡◌, refl, sym, ◌∙◌, Bool, true, false, List, ℕ, ◌+◌, ◌*◌, ◌-◌, ◌^◌, ◌≤◌, ◌<◌, arith, eqb, ℤ, pos, length, get_or}
use native.Mathlib.Decide.{ℕ_discrete}
use native.Mathlib.Nat.{mul-le-mul}
use borrow.Author.Tests.{eqb-false}
use Rattle.integers.proofs.Laws.{ints}
use Rattle.limits.specs.Limits.{most_blocks, most_depth}
use Rattle.lists.specs.Search.{when◌then◌else◌}
use Rattle.wcet.specs.Table.{Routine, block_count, loop_count, missing, cost, loop_of, limit, is_header}
use Rattle.wcet.specs.Rules.{structure_rules}
use Rattle.wcet.specs.Claim.{AllHold}
use Rattle.nesting.specs.Columns.{Names, Ranged}
use Rattle.nesting.proofs.Stages.{headed, linked}
use Rattle.order.specs.Edges.{back_by_sets}
use Rattle.order.specs.Ordering.{Topological}
use Rattle.levels.specs.Levels.{DepthsOf, Deep}
use Rattle.levels.specs.declared.Depths.{Depths}
use Rattle.levels.proofs.Laws.{depth_most16}
use Rattle.optimum.specs.Tails.{weight}
use Rattle.optimum.specs.Columns.{remade_multipliers, remultiplied}
use Rattle.tails.specs.Words.{Low}
use Rattle.tails.specs.Slots.{places, nowhere, slot_by_sets, SlotsOf, Slotted}
use Rattle.multipliers.specs.Columns as rounds
use Rattle.figures.specs.Figures.{WeightFits}
use Rattle.figures.specs.Columns as fill
use Rattle.solver.specs.Columns.{Solvable}
use Rattle.solver.proofs.Columns.{made_most, multiplier_low}

module _ (t : Routine) (h : AllHold (structure_rules t)) where
  R : Ranged t
  R = (headed t h).ranged

  -- a slot is a block's place, a gate, or the empty place
  slot_place : (sets next slots : List ℕ) → ((x : ℕ) → x < block_count t → Names (block_count t) (get_or next x 0)) → SlotsOf sets t.loops t.headers next slots
      → (x : ℕ) → x < block_count t → get_or slots x 0 < places
  unfolding slot_by_sets
  slot_place sets next slots names S x b = go (ℕ_discrete x (length t.loops - 1))
    where
      n : length t.loops ≡ block_count t
      n = R.sized.loops

      by : (v : ℕ) (m k : Bool) → eqb v missing ≡ m → Names (block_count t) v → (when m then nowhere else when k then most_blocks + loop_of t v else v) < places
      by v true k e names = omega arith
      by v false true e names = omega (arith, R.loop_below v (names (eqb-false v missing e)), R.sized.few_loops)
      by v false false e names = omega (arith, names (eqb-false v missing e), R.sized.few_blocks)

      go : Dec (x ≡ length t.loops - 1) → get_or slots x 0 < places
      go (yes e) = rw e (omega (arith, S.at_exit))
      go (no ne) =
          rw (S.each x (omega (arith, n)) ne)
          (by (get_or next x 0) (eqb (get_or next x 0) missing) (back_by_sets sets t.loops t.headers x (get_or next x 0)) refl (names x b))

  module _ (sets firstSlots secondSlots order : List ℕ) (O : Topological t order) (S₁ : SlotsOf sets t.loops t.headers t.firsts firstSlots)
      (S₂ : SlotsOf sets t.loops t.headers t.seconds secondSlots) where
    pub slotted : Slotted (block_count t) firstSlots secondSlots order
    slotted = record {
      few = R.sized.few_blocks;
      block = O.block;
      first_place = slot_place sets t.firsts firstSlots (linked t R).first_names S₁;
      second_place = slot_place sets t.seconds secondSlots (linked t R).second_names S₂;
    }

    -- the making of the multipliers
    pub rounds_readied : (r : Depths) → DepthsOf t.parents r → rounds.Readied t.costs t.headers t.limits r.most firstSlots secondSlots order
    rounds_readied r D = record {
      few_loops = omega (arith, R.sized.headers, R.sized.few_loops);
      limits_size = R.sized.limits ∙ sym R.sized.headers;
      deep = let a = D.attained in omega (arith, depth_most16 t h a.0 a.1, a.2);
      slotted = slotted;
      cost_most = R.cost_most;
      header_block = λ l b. R.header_below l (omega (arith, R.sized.headers));
      limit_least = λ l b. R.limit_least l (omega (arith, R.sized.headers));
      limit_most = λ l b. R.limit_most l (omega (arith, R.sized.headers));
    }

pub deep_of : {parents : List ℕ} {r : Depths} → DepthsOf parents r → Deep parents r.each r.most
deep_of D = record { same = D.same; most = D.most }

-- the figures of the headers, and the last pass
module _ (t : Routine) (sets order : List ℕ) (S : Solvable t sets order) (made : List ℕ) (weights kept : List ℤ) (M : rounds.MultipliedOf t false made weights kept) where
  Q : Ranged t
  Q = (headed t S.rules).ranged

  pub heads_readied : (depths : List ℕ) (deepest : ℕ) → Deep t.parents depths deepest → deepest ≤ most_depth → Low kept → fill.HeadsReadied t.parents kept made depths deepest
  heads_readied depths deepest D few K = record {
    some_loop = Q.sized.some_loop;
    few_loops = Q.sized.few_loops;
    parents_below = Q.parents;
    deep = D;
    few_depths = few;
    kept_low = K;
    multiplier_most = made_most t sets order S made weights kept M;
  }

  -- a weight by the remade multipliers
  weight_most : (x : ℕ) → x < block_count t → weight (remultiplied t) x ≤ 2 ^ 57
  unfolding weight
  weight_most x b = go (is_header t x)
    where
      l : ℕ
      l = loop_of t x

      m : l < loop_count t
      m = Q.loop_below x b

      later : get_or (remade_multipliers t) l 0 * (limit t l - 1) ≤ 2 ^ 40 * 65534
      later =
          let less : limit t l - 1 ≤ 65534 = omega (arith, Q.limit_most l m) in
          mul-le-mul (multiplier_low t sets order S made weights kept M l m) less

      go : (b : Bool) → (when b then cost t x + get_or (remade_multipliers t) l 0 * (limit t l - 1) else cost t x) ≤ 2 ^ 57
      go true = omega (arith, later, Q.cost_most x b)
      go false = omega (arith, Q.cost_most x b)

  pub weight_range : (x : ℕ) → x < block_count t → WeightFits (get_or weights x (pos 0))
  weight_range x b = record {
    weight_least = rw (M.weighed refl x b) (omega ints);
    weight_most = rw (M.weighed refl x b) (omega (ints, weight_most x b));
  }
