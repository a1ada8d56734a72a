-- Document 02, §3, on routine A of document 01 with its figures and multipliers set to 0, and on other small routines.
-- `proofs/Cases.antt` computes them. A table that gets 403 has some fifty blocks, too many to compute here: `examples/` and `suite` have one.
use Rattle.std.specs.Prelude.{ℕ, ◌+◌, ◌^◌, ◌≡◌, List, [], ◌∷◌, map, ℤ, pos, neg_ℤ}
use Rattle.wcet.specs.Table.{Routine, missing}
use Rattle.wcet.specs.Rules.{Reply, accepted, refused}
use Rattle.wcet.specs.Cases.{A, one_loop}
use Rattle.optimum.specs.Remade.{with_columns}
use Rattle.optimum.specs.Replies.{solve_reply, figures_after, multipliers_after}

-- the reply, and the columns after the call
pub record Answer : Type 0 where
  pub reply : Reply ℤ
  pub figures : List ℤ
  pub multipliers : List ℕ

unfoldable pub answer : Routine → Answer
answer t = record { reply = solve_reply t; figures = figures_after t (solve_reply t); multipliers = multipliers_after t (solve_reply t) }

-- t with its figures and multipliers set to 0
abbrev pub zeroed : Routine → Routine
zeroed t = with_columns t (map (λ _. pos 0) t.costs) (map (λ _. 0) t.parents)

-- a routine with figures and multipliers 0
abbrev pub unsolved : (costs loops firsts seconds parents headers limits : List ℕ) → Routine
unsolved costs loops firsts seconds parents headers limits = record {
  costs = costs;
  loops = loops;
  firsts = firsts;
  seconds = seconds;
  figures = map (λ _. pos 0) costs;
  parents = parents;
  headers = headers;
  limits = limits;
  multipliers = map (λ _. 0) parents;
}

-- Routine A, with the values that the cases change: block 2's first successor, and the exit's loop.
abbrev pub like_a : (first2 loop3 : ℕ) → Routine
like_a first2 loop3 =
    unsolved (2 ∷ 3 ∷ 5 ∷ 1 ∷ []) (0 ∷ 1 ∷ 1 ∷ loop3 ∷ []) (1 ∷ 2 ∷ first2 ∷ missing ∷ []) (missing ∷ 3 ∷ missing ∷ missing ∷ [])
    (0 ∷ 0 ∷ []) (0 ∷ 1 ∷ []) (1 ∷ 4 ∷ [])

-- block 1 has no edge, and its figure and block 0's are not 0
abbrev pub dead_end : Routine
dead_end = one_loop (1 ∷ 1 ∷ 1 ∷ []) (1 ∷ missing ∷ missing ∷ []) (2 ∷ missing ∷ missing ∷ []) (pos 9 ∷ neg_ℤ (pos 4) ∷ pos 0 ∷ [])

-- block 1 is a header that names itself, with limit 5
abbrev pub itself : Routine
itself = unsolved (1 ∷ 2 ∷ 3 ∷ []) (0 ∷ 1 ∷ 0 ∷ []) (1 ∷ 1 ∷ missing ∷ []) (missing ∷ 2 ∷ missing ∷ []) (0 ∷ 0 ∷ []) (0 ∷ 1 ∷ []) (1 ∷ 5 ∷ [])

-- a loop of blocks 2 and 3, with this limit, inside a loop of blocks 1 to 4, with limit 4
abbrev pub two_loops : ℕ → Routine
two_loops limit2 =
    unsolved (1 ∷ 2 ∷ 3 ∷ 4 ∷ 5 ∷ 6 ∷ []) (0 ∷ 1 ∷ 2 ∷ 2 ∷ 1 ∷ 0 ∷ [])
    (1 ∷ 2 ∷ 3 ∷ 2 ∷ 1 ∷ missing ∷ []) (missing ∷ 5 ∷ 4 ∷ missing ∷ missing ∷ missing ∷ [])
    (0 ∷ 0 ∷ 1 ∷ []) (0 ∷ 1 ∷ 2 ∷ []) (1 ∷ 4 ∷ limit2 ∷ [])

-- three loops inside one another, with these costs and limits: a round of the outermost costs 2^40 and the cost of block 1
abbrev pub three_loops : ℕ → Routine
three_loops cost1 =
    unsolved (1 ∷ cost1 ∷ 0 ∷ 32768 ∷ 0 ∷ []) (0 ∷ 1 ∷ 2 ∷ 3 ∷ 0 ∷ [])
    (1 ∷ 2 ∷ 3 ∷ 3 ∷ missing ∷ []) (missing ∷ 4 ∷ 1 ∷ 2 ∷ missing ∷ [])
    (0 ∷ 0 ∷ 1 ∷ 2 ∷ []) (0 ∷ 1 ∷ 2 ∷ 3 ∷ []) (1 ∷ 2 ∷ 1025 ∷ 32768 ∷ [])

-- block 1 leads to itself, and no loop is declared
abbrev pub undeclared : Routine
undeclared = one_loop (1 ∷ 1 ∷ 1 ∷ []) (1 ∷ 1 ∷ missing ∷ []) (missing ∷ 2 ∷ missing ∷ []) (pos 2 ∷ pos 1 ∷ pos 0 ∷ [])

-- a case: what is asked, and the reply and the columns after the call
pub record Case : Type 0 where
  pub asked : Routine
  pub answered : Answer

abbrev pub solved_case : Routine → List ℤ → List ℕ → ℤ → Case
solved_case t fs ks b = record { asked = t; answered = record { reply = accepted b; figures = fs; multipliers = ks } }

-- "A refusal leaves both columns untouched."
abbrev pub refused_case : Routine → (number place : ℕ) → Case
refused_case t number place = record { asked = t; answered = record { reply = refused number place; figures = t.figures; multipliers = t.multipliers } }

unfoldable pub cases : List Case
cases =
    solved_case (zeroed A) A.figures A.multipliers (pos 30)
    -- block 2 leads to the exit, so that there is no round
    ∷ solved_case (like_a 3 0) (pos 9 ∷ pos 6 ∷ pos 1 ∷ pos 0 ∷ []) (0 ∷ 0 ∷ []) (pos 11)
    -- the exit is inside loop 1
    ∷ solved_case (like_a 1 1) (pos 28 ∷ pos 1 ∷ neg_ℤ (pos 4) ∷ pos 0 ∷ []) (0 ∷ 8 ∷ []) (pos 30)
    ∷ refused_case dead_end 401 1
    ∷ solved_case itself (pos 13 ∷ pos 3 ∷ pos 0 ∷ []) (0 ∷ 2 ∷ []) (pos 14)
    ∷ solved_case (two_loops 1) (pos 38 ∷ pos 6 ∷ pos 3 ∷ neg_ℤ (pos 1) ∷ neg_ℤ (pos 2) ∷ pos 0 ∷ []) (0 ∷ 10 ∷ 7 ∷ []) (pos 39)
    ∷ solved_case (two_loops 3) (pos 80 ∷ pos 6 ∷ neg_ℤ (pos 11) ∷ neg_ℤ (pos 15) ∷ neg_ℤ (pos 16) ∷ pos 0 ∷ []) (0 ∷ 24 ∷ 7 ∷ []) (pos 81)
    ∷ solved_case (three_loops 0) (pos (2 ^ 40) ∷ pos 0 ∷ neg_ℤ (pos (2 ^ 40)) ∷ neg_ℤ (pos (2 ^ 40 + 2 ^ 30)) ∷ pos 0 ∷ []) (0 ∷ 2 ^ 40 ∷ 2 ^ 30 ∷ 2 ^ 15 ∷ []) (pos (2 ^ 40 + 1))
    ∷ refused_case (three_loops 1) 402 0
    ∷ refused_case undeclared 209 0
    -- the figures and multipliers that are given are held to 202 and 203
    ∷ refused_case (with_columns A A.figures (0 ∷ (2 ^ 40 + 1) ∷ [])) 202 1
    ∷ refused_case (with_columns A (pos 28 ∷ pos 1 ∷ neg_ℤ (pos (2 ^ 60 + 1)) ∷ pos 0 ∷ []) A.multipliers) 203 2
    ∷ []

-- the one claim: the definitions give each case this reply and these columns
abbrev pub CasesHold : Type 0
CasesHold = map (λ c. answer c.asked) cases ≡ map (λ c. c.answered) cases
