-- How the solver comes to its reply, rule by rule, and the columns beside it. Assumes nothing.
use Rattle.std.proofs.Common.{◌≡◌, refl, sym, ◌∙◌, true, false, [], ◌∷◌, append_assoc, ◌⊎◌, inl, inr, ℕ, ◌<◌, arith, ℤ, Err}
use Rattle.wcet.specs.Table.{Routine, block_count}
use Rattle.wcet.specs.Cycles.{undeclared_loop}
use Rattle.wcet.specs.Rules.{Reply, accepted, refused, Rule, check, structure_rules, undeclared_rule, bound}
use Rattle.wcet.specs.Claim.{AllHold}
use Rattle.wcet.proofs.Nesting.{Nested, nested}
use Rattle.wcet.proofs.Replies.{decides, hands_on, append_all, past_all}
use Rattle.nesting.specs.Answers.{refusal, StructureChecked}
use Rattle.nesting.specs.declared.StructureFault.{StructureFault}
use Rattle.nesting.proofs.Chain.{none_left, refusal_stands}
use Rattle.order.specs.Ordering.{Ordering}
use Rattle.order.specs.declared.Order.{Order}
use Rattle.order.proofs.Orders.{undeclared_decides}
use Rattle.exits.specs.Lost.{LowestLost}
use Rattle.exits.proofs.Places.{lowest_lost}
use Rattle.optimum.specs.Remade.{AllPaths}
use Rattle.optimum.specs.Columns.{remade}
use Rattle.optimum.specs.Replies.{no_path, multiplier_over, figure_over, given_rules, solve_rules, solve_reply, Solved}
use Rattle.optimum.proofs.Paths.{path_exactly}
use Rattle.optimum.proofs.Replies.{solved}
use Rattle.solver.specs.declared.SolveFault.{SolveFault}
use Rattle.solver.specs.declared.SolveFault.TheVariants.{Structure, UndeclaredLoop, NoPath, Multiplier, Figure}
use Rattle.solver.specs.Answers.{solve_meaning}
use Rattle.solver.specs.Columns.{OverAs}

module _ (t : Routine) where
  -- the rules after 201 to 207
  abbrev path_rule : Rule
  path_rule = record { number = 401; places = block_count t; broken = no_path t }

  abbrev multiplier_rule : Rule
  multiplier_rule = record { number = 402; places = 1; broken = λ _. multiplier_over (remade t) }

  abbrev figure_rule : Rule
  figure_rule = record { number = 403; places = 1; broken = λ _. figure_over (remade t) }

  abbrev result : Reply ℤ
  result = accepted (bound (remade t))

  -- a refusal leaves both columns untouched
  refused_solved : (n p : ℕ) → refused n p ≡ solve_reply t → Solved t (refused n p) t.figures t.multipliers
  refused_solved n p e = solved t (refused n p) t.figures t.multipliers e refl refl

  pub fault_solved : (f : SolveFault) → solve_meaning (Err f) ≡ solve_reply t → Solved t (solve_meaning (Err f)) t.figures t.multipliers
  fault_solved (Structure f) e = refused_solved _ _ e
  fault_solved UndeclaredLoop e = refused_solved 209 0 e
  fault_solved (NoPath u) e = refused_solved 401 u e
  fault_solved Multiplier e = refused_solved 402 0 e
  fault_solved Figure e = refused_solved 403 0 e

  -- ---- after the structure check

  pub structure_refused : (f : StructureFault) → StructureChecked t (Err f) → refusal f ≡ solve_reply t
  unfolding solve_reply solve_rules
  structure_refused f C = rw append_assoc (refusal_stands t f C (undeclared_rule t ∷ path_rule ∷ multiplier_rule ∷ figure_rule ∷ []) result)

  -- ---- where 201 to 207 hold

  module _ (h : AllHold (structure_rules t)) where
    N : Nested t
    N = nested t h

    -- 209, by the order of the blocks
    pub undeclared_refused : (r : Order) → Ordering t r → r.count < block_count t → refused 209 0 ≡ solve_reply t
    unfolding solve_reply solve_rules
    undeclared_refused r O few = rw append_assoc (undeclared_decides t h r O (path_rule ∷ multiplier_rule ∷ figure_rule ∷ []) result few)

    module _ (declared : undeclared_loop t ≡ false) where
      after_209 : check (path_rule ∷ multiplier_rule ∷ figure_rule ∷ []) result ≡ solve_reply t
      unfolding solve_reply solve_rules
      after_209 = sym (past_all (given_rules t) (path_rule ∷ multiplier_rule ∷ figure_rule ∷ []) result (append_all (structure_rules t) (undeclared_rule t ∷ []) h (λ p z. declared, tt)))

      pub path_refused : (u : ℕ) → LowestLost t u → refused 401 u ≡ solve_reply t
      path_refused u l = sym (decides path_rule (multiplier_rule ∷ figure_rule ∷ []) result u ((lowest_lost t (no_path t) (path_exactly t N) u).1 l)) ∙ after_209

      module _ (paths : AllPaths t) where
        after_401 : check (multiplier_rule ∷ figure_rule ∷ []) result ≡ solve_reply t
        after_401 = sym (hands_on path_rule (multiplier_rule ∷ figure_rule ∷ []) result (λ u b. (path_exactly t N u b).1 (paths u b))) ∙ after_209

        pub multiplier_refused : multiplier_over (remade t) ≡ true → refused 402 0 ≡ solve_reply t
        multiplier_refused o = sym (decides multiplier_rule (figure_rule ∷ []) result 0 (record { below = omega arith; passes = o; lower = λ j z. absurd (omega arith) })) ∙ after_401

        module _ (fits : multiplier_over (remade t) ≡ false) where
          after_402 : check (figure_rule ∷ []) result ≡ solve_reply t
          after_402 = sym (hands_on multiplier_rule (figure_rule ∷ []) result (λ p z. fits)) ∙ after_401

          pub figure_refused : figure_over (remade t) ≡ true → refused 403 0 ≡ solve_reply t
          figure_refused o = sym (decides figure_rule [] result 0 (record { below = omega arith; passes = o; lower = λ j z. absurd (omega arith) })) ∙ after_402

          pub bound_accepted : figure_over (remade t) ≡ false → accepted (bound (remade t)) ≡ solve_reply t
          bound_accepted o = none_left result ∙ sym (hands_on figure_rule [] result (λ p z. o)) ∙ after_402

      -- where something is refused: 401 if a block has no path, or else the later rule
      pub refused_later : (later : SolveFault) → (AllPaths t → solve_meaning (Err later) ≡ solve_reply t) → (r : SolveFault)
          → ((u : ℕ) × LowestLost t u × (r ≡ NoPath u)) ⊎ (AllPaths t × (r ≡ later)) → solve_meaning (Err r) ≡ solve_reply t
      refused_later later own r (inl p) = rw p.2 (path_refused p.0 p.1)
      refused_later later own r (inr p) = rw p.1 (own p.0)

      -- where the making gives up
      pub making_refused : (later : SolveFault) → OverAs later t → (r : SolveFault)
          → ((u : ℕ) × LowestLost t u × (r ≡ NoPath u)) ⊎ (AllPaths t × (r ≡ later)) → solve_meaning (Err r) ≡ solve_reply t
      making_refused (Structure f) o r w = absurd o
      making_refused UndeclaredLoop o r w = absurd o
      making_refused (NoPath u) o r w = absurd o
      making_refused Multiplier o r w = refused_later Multiplier (λ paths. multiplier_refused paths o) r w
      making_refused Figure o r w = refused_later Figure (λ paths. figure_refused paths o.0 (o.1 paths)) r w
