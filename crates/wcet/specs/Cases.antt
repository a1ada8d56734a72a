-- Document 01, "One routine in full": the marked cases (*), as one list, with the replies that they have since document 02, §2 and §6.
-- `proofs/Cases.antt` computes them. And cases of document 02, §9 and §10.
use Rattle.std.specs.Prelude.{ℕ, ◌+◌, ◌^◌, List, [], ◌∷◌, map, ◌≡◌, Bool, true, false, ℤ, pos, neg_ℤ}
use Rattle.wcet.specs.Table.{Routine, with_numbers, missing}
use Rattle.wcet.specs.Rules.{Reply, accepted, refused, table_reply}
use Rattle.wcet.specs.Walk.{Walked, walk_reply}
use Rattle.wcet.specs.Trimming.{Trimmed}
use Rattle.wcet.specs.Shortest.{LowCertificate, keeps_least, shortest_reply}

-- what a marked case asks for: the reply to a pair of tables, or to a walk over it
pub data Question : Type 0 where
  table : Routine → Question
  walk : Routine → List ℕ → Question

pub data Answer : Type 0 where
  to_table : Reply ℤ → Answer
  to_walk : Reply Walked → Answer

unfoldable pub answer : Question → Answer
answer (table t) = to_table (table_reply t)
answer (walk t w) = to_walk (walk_reply t w)

-- Routine A, with the values that the cases change: block 0's second successor and figure, block 2's loop, loop 1's limit and multiplier.
abbrev pub routine_a : (second0 : ℕ) (figure0 : ℤ) (loop2 limit1 multiplier1 : ℕ) → Routine
routine_a second0 figure0 loop2 limit1 multiplier1 = record {
  costs = 2 ∷ 3 ∷ 5 ∷ 1 ∷ [];
  loops = 0 ∷ 1 ∷ loop2 ∷ 0 ∷ [];
  firsts = 1 ∷ 2 ∷ 1 ∷ missing ∷ [];
  seconds = second0 ∷ 3 ∷ missing ∷ missing ∷ [];
  figures = figure0 ∷ pos 1 ∷ neg_ℤ (pos 4) ∷ pos 0 ∷ [];
  parents = 0 ∷ 0 ∷ [];
  headers = 0 ∷ 1 ∷ [];
  limits = 1 ∷ limit1 ∷ [];
  multipliers = 0 ∷ multiplier1 ∷ [];
}

abbrev pub A : Routine
A = routine_a missing (pos 28) 1 4 8

-- a routine whose only loop is loop 0
abbrev pub one_loop : (costs firsts seconds : List ℕ) (figures : List ℤ) → Routine
one_loop costs firsts seconds figures = record {
  costs = costs;
  loops = map (λ _. 0) costs;
  firsts = firsts;
  seconds = seconds;
  figures = figures;
  parents = 0 ∷ [];
  headers = 0 ∷ [];
  limits = 1 ∷ [];
  multipliers = 0 ∷ [];
}

-- "Two blocks, no edges, costs 7 and 9, figures −10 and 0, loop 0 only"
abbrev pub no_edges : Routine
no_edges = one_loop (7 ∷ 9 ∷ []) (missing ∷ missing ∷ []) (missing ∷ missing ∷ []) (neg_ℤ (pos 10) ∷ pos 0 ∷ [])

-- "Four blocks in loop 0, edges 0 to 1, 1 to 2, 2 to 1, 2 to 3", at these costs and figures
abbrev pub cycle : List ℕ → List ℤ → Routine
cycle costs figures = one_loop costs (1 ∷ 2 ∷ 1 ∷ missing ∷ []) (missing ∷ missing ∷ 3 ∷ missing ∷ []) figures

-- a marked case: what is asked, and the reply that the papers give
pub record Case : Type 0 where
  pub asked : Question
  pub reply : Answer

abbrev pub marked : Question → Answer → Case
marked q a = record { asked = q; reply = a }

-- Document 02 changed the replies of three entries. §2: "that case with costs 1 0 0 1 is now 209"; it was accepted, with bound 2. §6: "208 with
-- its block becomes 209 at 0. In document 01 these are A with block 2 in loop 0 and the last marked case with costs 1 1 1 1"; both were 208
-- at 2.
unfoldable pub marked_cases : List Case
marked_cases =
    marked (table A) (to_table (accepted (pos 30)))
    ∷ marked (table (routine_a missing (pos 27) 1 4 8)) (to_table (refused 208 0))
    ∷ marked (table (routine_a missing (pos 28) 1 4 7)) (to_table (refused 208 2))
    ∷ marked (table (routine_a missing (pos 28) 1 65535 8)) (to_table (refused 208 0))
    ∷ marked (table (routine_a missing (pos 28) 1 0 8)) (to_table (refused 202 1))
    ∷ marked (table (routine_a missing (pos 28) 1 65536 8)) (to_table (refused 202 1))
    -- changed by §6
    ∷ marked (table (routine_a missing (pos 28) 0 4 8)) (to_table (refused 209 0))
    ∷ marked (table (routine_a 2 (pos 28) 1 4 8)) (to_table (refused 207 0))
    ∷ marked (walk A (0 ∷ 1 ∷ 2 ∷ 1 ∷ 2 ∷ 1 ∷ 2 ∷ 1 ∷ 3 ∷ [])) (to_walk (accepted (record { total = 30; steps = 8 })))
    ∷ marked (walk A (0 ∷ 1 ∷ 2 ∷ 1 ∷ 2 ∷ 1 ∷ 2 ∷ 1 ∷ 2 ∷ 1 ∷ [])) (to_walk (refused 313 9))
    ∷ marked (walk A (0 ∷ 1 ∷ [])) (to_walk (refused 314 2))
    ∷ marked (table no_edges) (to_table (accepted (neg_ℤ (pos 3))))
    -- changed by §6
    ∷ marked (table (cycle (1 ∷ 1 ∷ 1 ∷ 1 ∷ []) (pos 3 ∷ pos 2 ∷ pos 1 ∷ pos 0 ∷ []))) (to_table (refused 209 0))
    -- changed by §2
    ∷ marked (table (cycle (1 ∷ 0 ∷ 0 ∷ 1 ∷ []) (pos 1 ∷ pos 1 ∷ pos 1 ∷ pos 0 ∷ []))) (to_table (refused 209 0))
    ∷ []

-- the one claim: the definitions give each marked case the reply that the papers give it
abbrev pub MarkedCasesHold : Type 0
MarkedCasesHold = map (λ c. answer c.asked) marked_cases ≡ map (λ c. c.reply) marked_cases

-- Document 02, §9: routine A trimmed. Blocks 0 and 2 cost 1 and 4, one less each, and loop 1 has the limit 3. The bound falls by what block 0
-- saves, from 30 to 29.
abbrev pub trimmed_a : Routine
trimmed_a = with_numbers A (1 ∷ 3 ∷ 4 ∷ 1 ∷ []) A.figures (1 ∷ 3 ∷ []) A.multipliers

abbrev pub TrimmedCaseHolds : Type 0
TrimmedCaseHolds = Trimmed A trimmed_a × (table_reply trimmed_a ≡ accepted (pos 29))

-- Document 02, §10: a second certificate of a pair of tables, and the reply that the paper gives
pub record LowCase : Type 0 where
  pub tables : Routine
  pub certificate : LowCertificate
  pub reply : Reply ℤ

abbrev pub low_case : Routine → LowCertificate → Reply ℤ → LowCase
low_case t c r = record { tables = t; certificate = c; reply = r }

-- second certificates of four blocks and two loops, with A's own figures but for block 0's
abbrev pub low_a : (figure0 : ℤ) (multipliers leasts : List ℕ) → LowCertificate
low_a figure0 multipliers leasts = record { figures = figure0 ∷ pos 1 ∷ neg_ℤ (pos 4) ∷ pos 0 ∷ []; multipliers = multipliers; leasts = leasts }

unfoldable pub low_cases : List LowCase
low_cases =
    -- at least 4 visits or 1, and 8 for each turn of the loop; no visit is asked for, with the multipliers 8 and 0
    low_case A (low_a (pos 28) (0 ∷ 8 ∷ []) (1 ∷ 4 ∷ [])) (accepted (pos 30))
    ∷ low_case A (low_a (pos 4) (0 ∷ 8 ∷ []) (1 ∷ 1 ∷ [])) (accepted (pos 6))
    ∷ low_case A (low_a (neg_ℤ (pos 4)) (0 ∷ 8 ∷ []) (1 ∷ 0 ∷ [])) (accepted (neg_ℤ (pos 2)))
    ∷ low_case A (low_a (pos 4) (0 ∷ 0 ∷ []) (1 ∷ 0 ∷ [])) (accepted (pos 6))
    -- 208 is not asked
    ∷ low_case (routine_a missing (pos 27) 1 4 8) (low_a (pos 28) (0 ∷ 8 ∷ []) (1 ∷ 4 ∷ [])) (accepted (pos 30))
    -- 201 for a new column, ahead of 202, which is about the first certificate; 209 is ahead of 451
    ∷ low_case A (low_a (pos 28) (0 ∷ 8 ∷ []) (1 ∷ [])) (refused 201 0)
    ∷ low_case A (low_a (pos 28) (0 ∷ []) (1 ∷ 4 ∷ [])) (refused 201 0)
    ∷ low_case no_edges (low_a (pos 28) (0 ∷ []) (1 ∷ [])) (refused 201 0)
    ∷ low_case (routine_a missing (pos 28) 1 0 8) (low_a (pos 28) (0 ∷ 8 ∷ []) (1 ∷ [])) (refused 201 0)
    ∷ low_case (routine_a missing (pos 28) 1 0 8) (low_a (pos 28) (0 ∷ 8 ∷ []) (1 ∷ 4 ∷ [])) (refused 202 1)
    ∷ low_case (routine_a missing (pos 28) 0 4 8) (low_a (pos 28) (0 ∷ 8 ∷ []) (0 ∷ 4 ∷ [])) (refused 209 0)
    -- 451 at the lowest loop, ahead of 452; 452 at both ends, ahead of 453
    ∷ low_case A (low_a (pos 28) (0 ∷ 8 ∷ []) (0 ∷ 65536 ∷ [])) (refused 451 0)
    ∷ low_case A (low_a (pos 28) (1 ∷ 8 ∷ []) (1 ∷ 4 ∷ [])) (refused 451 0)
    ∷ low_case A (low_a (pos (2 ^ 60 + 1)) (0 ∷ 8 ∷ []) (1 ∷ 65536 ∷ [])) (refused 451 1)
    ∷ low_case A (low_a (pos 28) (0 ∷ (2 ^ 40 + 1) ∷ []) (1 ∷ 4 ∷ [])) (refused 451 1)
    ∷ low_case A (low_a (pos (2 ^ 60 + 1)) (0 ∷ 8 ∷ []) (1 ∷ 4 ∷ [])) (refused 452 0)
    ∷ low_case A (low_a (neg_ℤ (pos (2 ^ 60 + 1))) (0 ∷ 9 ∷ []) (1 ∷ 4 ∷ [])) (refused 452 0)
    -- 453 from outside, also where least − 1 is −1, and from inside, at the source block
    ∷ low_case A (low_a (pos 29) (0 ∷ 8 ∷ []) (1 ∷ 4 ∷ [])) (refused 453 0)
    ∷ low_case A (low_a (neg_ℤ (pos 3)) (0 ∷ 8 ∷ []) (1 ∷ 0 ∷ [])) (refused 453 0)
    ∷ low_case A (low_a (pos 28) (0 ∷ 9 ∷ []) (1 ∷ 4 ∷ [])) (refused 453 2)
    ∷ []

abbrev pub LowCasesHold : Type 0
LowCasesHold = map (λ x. shortest_reply x.tables x.certificate) low_cases ≡ map (λ x. x.reply) low_cases

-- loop 2 inside loop 1, whose headers are the blocks 2 and 1: edges 0 to 1, 1 to 2, 1 to 3, 2 to 2, 2 to 1
abbrev pub nested_loops : Routine
nested_loops = record {
  costs = 0 ∷ 0 ∷ 1 ∷ 0 ∷ [];
  loops = 0 ∷ 1 ∷ 2 ∷ 0 ∷ [];
  firsts = 1 ∷ 2 ∷ 2 ∷ missing ∷ [];
  seconds = missing ∷ 3 ∷ 1 ∷ missing ∷ [];
  figures = pos 0 ∷ pos 0 ∷ pos 0 ∷ pos 0 ∷ [];
  parents = 0 ∷ 0 ∷ 1 ∷ [];
  headers = 0 ∷ 1 ∷ 2 ∷ [];
  limits = 1 ∷ 9 ∷ 9 ∷ [];
  multipliers = 0 ∷ 0 ∷ 0 ∷ [];
}

-- whether this run keeps these least visits
abbrev pub keeps : Routine → (leasts w : List ℕ) → Bool
keeps t leasts w = keeps_least t (record { figures = []; multipliers = []; leasts = leasts }) w

-- Each stay counts by itself: loop 2 is entered twice, with 2 visits and 2, or 2 and 1. A stay that is under way at the end counts too, in
-- loop 0 as in the others.
abbrev pub LeastCasesHold : Type 0
LeastCasesHold =
    keeps nested_loops (1 ∷ 3 ∷ 2 ∷ []) (0 ∷ 1 ∷ 2 ∷ 2 ∷ 1 ∷ 2 ∷ 2 ∷ 1 ∷ 3 ∷ [])
    ∷ keeps nested_loops (1 ∷ 3 ∷ 2 ∷ []) (0 ∷ 1 ∷ 2 ∷ 2 ∷ 1 ∷ 2 ∷ 1 ∷ 3 ∷ [])
    ∷ keeps nested_loops (1 ∷ 4 ∷ 2 ∷ []) (0 ∷ 1 ∷ 2 ∷ 2 ∷ 1 ∷ 2 ∷ 2 ∷ 1 ∷ 3 ∷ [])
    ∷ keeps nested_loops (1 ∷ 1 ∷ 1 ∷ []) (0 ∷ 1 ∷ 2 ∷ [])
    ∷ keeps nested_loops (1 ∷ 1 ∷ 2 ∷ []) (0 ∷ 1 ∷ 2 ∷ [])
    ∷ keeps nested_loops (2 ∷ 1 ∷ 1 ∷ []) (0 ∷ 1 ∷ 3 ∷ [])
    ∷ []
    ≡ true
    ∷ false
    ∷ false
    ∷ true
    ∷ false
    ∷ false
    ∷ []
