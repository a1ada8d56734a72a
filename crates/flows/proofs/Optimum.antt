-- The solver's bound is the optimum of the program (`solves_program`). Assumes nothing.
use mathlib.Core.Path.{◌≡◌, refl, ◌∙◌, ap, ap₂, fun_ext}
use mathlib.Core.List.{List, map}
use lib.IntN.{ℤ}
use Prim.Native.Nat.{ℕ}
use Rattle.wcet.specs.Table.{Routine, inside}
use Rattle.wcet.specs.Rules.{accepted, structure_rules, table_reply}
use Rattle.wcet.specs.Claim.{AllHold}
use Rattle.optimum.specs.Remade.{with_columns}
use Rattle.optimum.specs.Columns.{remade_figures, remade_multipliers}
use Rattle.optimum.specs.Replies.{given_rules, Optimum}
use Rattle.optimum.proofs.Replies.{given, own_rules, solves_exactly, optimum_of}
use Rattle.mps.specs.Program.{Column, RowName, objective, block, loop, rows_of, source, target, edges_of, number, right_side, entries_of, column_of, program_of}
use Rattle.mps.specs.Claim.{named}
use Rattle.mps.proofs.Routines.{reads_back}
use Rattle.flows.specs.Flow.{flow_cost, flow_of, NoneOver, RunIsFlow, SolvesProgram}
use Rattle.flows.proofs.Duality.{weak_duality}
use Rattle.flows.proofs.Runs.{runs_are_flows}
use Rattle.flows.proofs.Texts.{read_optimum}

-- the program reads neither figures nor multipliers
module _ (t : Routine) (fs : List ℤ) (ks : List ℕ) where
  abbrev t' : Routine
  t' = with_columns t fs ks

  same_number : (u v : ℕ) (r : RowName) → number t' u v r ≡ number t u v r
  unfolding number inside
  same_number u v objective = refl
  same_number u v (block b) = refl
  same_number u v (loop l) = refl

  same_right : (r : RowName) → right_side t' r ≡ right_side t r
  unfolding right_side
  same_right objective = refl
  same_right (block b) = refl
  same_right (loop l) = refl

  same_column : (e : ℕ) → column_of t' e ≡ column_of t e
  unfolding column_of rows_of
  same_column e = ap (λ (f : RowName → ℤ). record { name = e; entries = entries_of f (rows_of t) }) (fun_ext (same_number (source e) (target t e)))

  same_program : program_of t' ≡ program_of t
  unfolding program_of rows_of edges_of
  same_program =
      ap₂ (λ (c : ℕ → Column ℕ RowName) (f : RowName → ℤ). record { rows = (program_of t).rows; columns = map c (edges_of t); right = entries_of f (rows_of t) })
      (fun_ext same_column) (fun_ext same_right)

  -- so whatever columns give a bound, it is one for the solutions of t's program
  bounded : (b : ℤ) → table_reply t' ≡ accepted b → NoneOver t b
  unfolding flow_cost
  bounded b e q x h = rw same_program at (weak_duality t' b e q x (rw same_program h))

-- THEOREM: no solution costs more than the solver's bound, and a finished counted run is one that costs it.
pub solves_program : (t : Routine) → SolvesProgram t
solves_program t b e = record {
  most = bounded t (remade_figures t) (remade_multipliers t) b O.result;
  attained = (O.run.0, O.run.1, flow, O.run.2);
  read = (named (program_of t), reads_back t given_rules_lem, read_optimum t rules b (bounded t (remade_figures t) (remade_multipliers t) b O.result) (flow_of t O.run.0) flow.solution (flow.costs ∙ O.run.2));
}
  where
    O : Optimum t (remade_figures t) (remade_multipliers t) b
    O = optimum_of t b e

    given_rules_lem : AllHold (given_rules t)
    given_rules_lem = (own_rules t (((solves_exactly t).accepts b).0 e).0).0

    rules : AllHold (structure_rules t)
    rules = (given t given_rules_lem).0

    flow : RunIsFlow t O.run.0
    flow = runs_are_flows t rules O.run.0 O.run.1
