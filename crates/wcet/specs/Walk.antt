-- Document 01, "Replies that come from the input" and ".. from the state": the reply to a walk (a trace of blocks), 301 to 303 and 311 to 314.
use Rattle.std.specs.Prelude.{ℕ, suc, ◌-◌, not, List, [], ◌∷◌, ◌++◌, eqb, ltb, length}
use Rattle.limits.specs.Limits.{longest_walk}
use Rattle.lists.specs.Search.{when◌then◌else◌}
use Rattle.wcet.specs.Table.{Routine, block_count, exit, edge}
use Rattle.wcet.specs.Rules.{Reply, accepted, refused, Rule, check, out_of_range, structure_rules}
use Rattle.wcet.specs.Run.{State, start, next, passes_limit, run_cost}

-- "An accepted walk gives its cost and its step count, which is its length less one."
pub record Walked : Type 0 where
  pub total : ℕ
  pub steps : ℕ

abbrev pub walked : Routine → List ℕ → Walked
walked t w = record { total = run_cost t w; steps = length w - 1 }

-- 301: "walk of 0 or of more than 1,048,576 blocks"
abbrev pub length_rule : List ℕ → Rule
length_rule w = record { number = 301; places = 1; broken = λ _. out_of_range 1 longest_walk (length w) }

-- 302: "block not below n", at index i; the rest of the reply, where v is a block
abbrev pub at_block : {A : Type 0} → Routine → ℕ → ℕ → Reply A → Reply A
at_block t i v rest = when not (ltb v (block_count t)) then refused 302 i else rest

-- The blocks w that are left, the next of them at index i, from state s; `passed` is the reply where nothing is wrong.
-- "the lowest index decides; at one index 302, 303, 311, 312, 313. 314 is last".
-- 311: "a block follows the exit". 312: "no edge from the present block to this one". 313: "the header's visits in this stay would pass
-- the limit", which is the one count that a block can raise. 314: "the walk ends before the exit", at its length.
unfoldable pub walk_from : Routine → State → ℕ → List ℕ → Reply Walked → Reply Walked
walk_from t s i [] passed = when eqb s.block (exit t) then passed else refused 314 i
walk_from t s i (v ∷ w) passed =
    at_block t i v (
    when eqb s.block (exit t) then refused 311 i else
    when not (edge t s.block v) then refused 312 i else
    when passes_limit t (next t s v) then refused 313 i else
    walk_from t (next t s v) (suc i) w passed)

-- the first block, at index 0, and then the others. 303: "the first block is not 0". An empty walk does not come here (301).
unfoldable pub walk_blocks : Routine → List ℕ → Reply Walked → Reply Walked
walk_blocks t [] passed = passed
walk_blocks t (v ∷ w) passed = at_block t 0 v (when not (eqb v 0) then refused 303 0 else walk_from t start 1 w passed)

-- "A walk is looked at only after its tables pass 201 to 207."
unfoldable pub walk_reply : Routine → List ℕ → Reply Walked
walk_reply t w = check (structure_rules t ++ length_rule w ∷ []) (walk_blocks t w (accepted (walked t w)))
