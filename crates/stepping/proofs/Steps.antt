-- What the code finds out in a step, and what the definition says of it. Assumes nothing.
use Rattle.std.proofs.Common.{◌≡◌, refl, sym, ◌∙◌, ap₂, Bool, true, false, not, ◌&&◌, ◌||◌, List, ℕ, ◌+◌, ◌*◌, ◌≤◌, ◌<◌, arith, eqb, ltb, length, get_or, lt-ltb, ne_eqb, ltb-true, Result, Ok, Err}
use mathlib.Core.Path.{fun_ext}
use mathlib.Core.Bool.{and-false}
use native.Mathlib.Decide.{ℕ_discrete}
use borrow.Author.Tests.{eqb-false}
use Rattle.limits.specs.Limits.{most_blocks, most_loops, longest_walk}
use Rattle.lists.specs.Search.{when◌then◌else◌}
use Rattle.wcet.specs.Table.{Routine, block_count, loop_count, exit, missing, cost, loop_of, first, second, some_edge, edge, inside, is_header}
use Rattle.wcet.specs.Run.{State, next_count, next}
use Rattle.loopsets.specs.Sets.{member, set_at}
use Rattle.loopsets.specs.declared.LoopSet.{LoopSet}
use Rattle.stepping.specs.declared.Run.{Run}
use Rattle.stepping.specs.declared.RunFault.{RunFault}
use Rattle.stepping.specs.declared.RunFault.TheVariants.{NoBlock, AfterExit, NoEdge}
use Rattle.stepping.specs.Step.{header_visits, counts_after, count_in, state_of, visits_to, Outcome, stepped, edge_answer, Walkable, Standing, Stepped}
use Rattle.stepping.proofs.Counts.{nesting, member_inside, counts_next}

-- ---- the edge

-- v is a block, so a successor that is v is not missing
edge_is : (t : Routine) (u v : ℕ) → v < missing → edge t u v ≡ (eqb (first t u) v || eqb (second t u) v)
unfolding edge some_edge
edge_is t u v h = ap₂ ◌||◌ (present (first t u)) (present (second t u))
  where
    present : (x : ℕ) → (not (eqb x missing) && eqb x v) ≡ eqb x v
    present x = go (ℕ_discrete x v)
      where
        go : Dec (x ≡ v) → (not (eqb x missing) && eqb x v) ≡ eqb x v
        go (yes e) = rw (ne_eqb x missing (λ q. omega arith))
        go (no ne) = rw (ne_eqb x v ne, and-false (not (eqb x missing)))

-- an edge that is there
pub record OnEdge (t : Routine) (u v : ℕ) : Type 0 where
  pub block : v < block_count t
  pub on : u ≡ exit t → ⊥
  pub there : edge t u v ≡ true

-- the code's test of the edge
module _ (t : Routine) (few : block_count t ≤ most_blocks) (s : State) (c i v : ℕ)
    (a : Result Unit RunFault) (tested : a ≡ edge_answer (block_count t) (first t s.block) (second t s.block) s.block i v) where
  on_edge : (u : Unit {0}) → a ≡ Ok u → OnEdge t s.block v
  unfolding edge_answer
  on_edge u e = go (ltb v (block_count t)) refl (eqb s.block (exit t)) refl (eqb (first t s.block) v || eqb (second t s.block) v) refl (sym tested ∙ e)
    where
      go : (x : Bool) → ltb v (block_count t) ≡ x → (b : Bool) → eqb s.block (exit t) ≡ b → (d : Bool) → (eqb (first t s.block) v || eqb (second t s.block) v) ≡ d
          → (when not x then Err (NoBlock i) else when b then Err (AfterExit i) else when not d then Err (NoEdge i) else Ok (tt {0})) ≡ Ok u → OnEdge t s.block v
      go true p false q true r e = record {
        block = ltb-true v (block_count t) p;
        on = eqb-false s.block (exit t) q;
        there = edge_is t s.block v (omega (arith, ltb-true v (block_count t) p)) ∙ r;
      }
      go false p b q d r e = cc
      go true p true q d r e = cc
      go true p false q false r e = cc

  step_refused : (f : RunFault) → a ≡ Err f → Err f ≡ stepped t s c i v
  unfolding edge_answer stepped
  step_refused f e = go (ltb v (block_count t)) refl (eqb s.block (exit t)) (eqb (first t s.block) v || eqb (second t s.block) v) refl (sym e ∙ tested)
    where
      further : Outcome
      further = record { state = next t s v; spent = c + cost t v; visits = visits_to t s v }

      go : (x : Bool) → ltb v (block_count t) ≡ x → (b d : Bool) → (eqb (first t s.block) v || eqb (second t s.block) v) ≡ d
          → Err f ≡ (when not x then Err (NoBlock i) else when b then Err (AfterExit i) else when not d then Err (NoEdge i) else Ok (tt {0}))
          → Err f ≡ (when not x then Err (NoBlock i) else when b then Err (AfterExit i) else when not (edge t s.block v) then Err (NoEdge i) else Ok further)
      go false p b d r e = cc
      go true p true d r e = cc
      go true p false false r e = rw (edge_is t s.block v (omega (arith, ltb-true v (block_count t) p)), r) cc
      go true p false true r e = cc

-- ---- a step

-- what is known once the edge is found
pub record InStep (t : Routine) (r : Run) (v : ℕ) : Type 0 where
  pub edge_is_there : OnEdge t r.at v
  pub loops : length t.loops ≡ block_count t
  pub headers : length t.headers ≡ loop_count t
  pub few_blocks : block_count t ≤ most_blocks
  pub few_loops : loop_count t ≤ most_loops
  pub into : loop_of t v < loop_count t
  pub from : loop_of t r.at < loop_count t
  pub price : cost t v ≤ 1000000
  pub room : r.cost ≤ 1000000 * longest_walk

module _ (t : Routine) (sets counts : List ℕ) (r : Run) (i v : ℕ) (p : Walkable t sets × Standing t counts r)
    (a : Result Unit RunFault) (tested : a ≡ edge_answer (block_count t) (first t r.at) (second t r.at) r.at i v) where
  abbrev S : Walkable t sets
  S = p.0

  abbrev stands : Standing t counts r
  stands = p.1

  abbrev s : State
  s = state_of t counts r

  -- a refused step
  pub refused : (f : RunFault) → a ≡ Err f → Stepped t counts r i v (Err f) counts
  refused f e = record { counts_are = refl; is_step = step_refused t S.ranged.sized.few_blocks s r.cost i v a tested f e }

  module _ (u : Unit {0}) (e : a ≡ Ok u) where
    E : OnEdge t r.at v
    E = on_edge t S.ranged.sized.few_blocks s r.cost i v a tested u e

    pub passed : InStep t r v
    passed = record {
      edge_is_there = E;
      loops = S.ranged.sized.loops;
      headers = S.ranged.sized.headers;
      few_blocks = S.ranged.sized.few_blocks;
      few_loops = S.ranged.sized.few_loops;
      into = (nesting t sets S).innermost v E.block;
      from = (nesting t sets S).innermost r.at stands.at_block;
      price = S.ranged.cost_most v E.block;
      room = stands.room;
    }

    module _ (here : LoopSet) (b : Bool) (set_is : here ≡ set_at sets (loop_of t r.at)) (member_is : b ≡ member here (loop_of t v)) where
      is_inside : b ≡ inside t r.at (loop_of t v)
      is_inside = member_is ∙ rw set_is (member_inside t sets S r.at (loop_of t v) stands.at_block (omega (arith, passed)))

      pub few_visits : b ≡ true → get_or counts (loop_of t v) 0 ≤ longest_walk
      few_visits h =
          let inner : inside t r.at (loop_of t v) ≡ true = sym is_inside ∙ h in
          rw inner at (stands.few (loop_of t v))

      module _ (k : ℕ) (found : k ≡ header_visits (get_or counts (loop_of t v) 0) (is_header t v) b) (after : List ℕ) (stored : after ≡ counts_after counts (loop_of t v) k) where
        visits_found : k ≡ header_visits (get_or counts (loop_of t v) 0) (is_header t v) (inside t r.at (loop_of t v))
        visits_found = found ∙ rw is_inside

        visits_are : k ≡ visits_to t s v
        visits_are = visits_found ∙ go (is_header t v) (inside t r.at (loop_of t v))
          where
            c : ℕ
            c = get_or counts (loop_of t v) 0

            go : (h i : Bool) → header_visits c h i ≡ header_visits (when i then c else 0) h i
            go true true = refl
            go true false = refl
            go false i = refl

        counts_follow : (j : ℕ) → count_in t after v j ≡ next_count t r.at v j (s.count j)
        counts_follow j = rw stored (counts_next t sets S r.at v stands.at_block E.there counts k stands.sized visits_found j)

        moved_is : Ok (record { state = record { block = v; count = count_in t after v }; spent = r.cost + cost t v; visits = k }) ≡ stepped t s r.cost i v
        unfolding stepped next
        moved_is =
            rw (lt-ltb v (block_count t) E.block, ne_eqb r.at (exit t) E.on, E.there)
            (ap₂ (λ (f : ℕ → ℕ) (n : ℕ). Ok (record { state = record { block = v; count = f }; spent = r.cost + cost t v; visits = n })) (fun_ext counts_follow) visits_are)

        -- a step along an edge
        pub moved : Stepped t counts r i v (Ok (record { at = v; cost = r.cost + cost t v; visits = k })) after
        moved = record { counts_are = stored; is_step = moved_is }
