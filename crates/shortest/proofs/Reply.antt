-- How the checker of a second certificate comes to its reply. Assumes nothing.
use mathlib.Core.Path.{◌≡◌, sym, ◌∙◌, ap}
use mathlib.Core.Bool.{true, false, ◌&&◌}
use mathlib.Core.List.{List, [], ◌∷◌, ◌++◌}
use Rattle.std.specs.Prelude.{Option, Some, None, Err}
use Prim.Native.Nat.{ℕ, ◌≤◌, ◌<◌}
use native.Mathlib.Omega.{arith}
use borrow.Author.Tests.{eqb-true, not-false}
use lib.IntN.{ℤ}
use lib.ListN.{length}
use Rattle.lists.specs.Search.{first_below}
use Rattle.lists.proofs.Tests.{and-true}
use Rattle.wcet.specs.Table.{Routine, block_count, loop_count}
use Rattle.wcet.specs.Rules.{Reply, accepted, refused, check, sized, structure_rules, undeclared_rule}
use Rattle.wcet.specs.Claim.{AllHold}
use Rattle.wcet.specs.Shortest.{LowCertificate, ge_z, low_edge_holds, low_bound, low_sizes_wrong, low_loop_wrong, low_figure_wrong, low_inequality_broken, low_size_rule, low_rules, shortest_rules, shortest_reply}
use Rattle.wcet.proofs.Replies.{decides, hands_on}
use Rattle.loopsets.specs.Sets.{sets_around}
use Rattle.nesting.specs.Answers.{refusal, StructureChecked}
use Rattle.nesting.specs.declared.StructureFault.{StructureFault}
use Rattle.nesting.proofs.Chain.{place_decides, place_clear, none_left, refusal_stands}
use Rattle.nesting.proofs.Stages.{headed}
use Rattle.order.specs.Ordering.{Ordering}
use Rattle.order.specs.declared.Order.{Order}
use Rattle.order.proofs.Orders.{undeclared_decides, declared_hands_on}
use Rattle.certificate.specs.Columns.{Comparable, any_broken_by}
use Rattle.certificate.proofs.Edge.{comparable, claiming, broken_places_by}

module _ (t : Routine) (c : LowCertificate) where
  abbrev passed : Reply ℤ
  passed = accepted (low_bound t c)

  -- a column that does not fit is 201, whatever the tables are
  pub sizes_refused : low_sizes_wrong t c ≡ true → refused 201 0 ≡ shortest_reply t c
  unfolding shortest_reply shortest_rules
  sizes_refused e = sym (decides (low_size_rule t c) _ passed 0 (record { below = omega arith; passes = e; lower = λ j h. absurd (omega arith) }))

  module _ (fit : low_sizes_wrong t c ≡ false) where
    pub record Fits : Type 0 where
      pub figures : length c.figures ≡ block_count t
      pub multipliers : length c.multipliers ≡ loop_count t
      pub leasts : length c.leasts ≡ loop_count t

    pub fits : Fits
    unfolding low_sizes_wrong
    fits =
        let p = and-true (sized (block_count t) c.figures && sized (loop_count t) c.multipliers) (sized (loop_count t) c.leasts) (not-false _ fit) in
        let q = and-true (sized (block_count t) c.figures) (sized (loop_count t) c.multipliers) p.0 in
        record { figures = eqb-true _ _ q.0; multipliers = eqb-true _ _ q.1; leasts = eqb-true _ _ p.1 }

    -- columns that fit leave the reply to the other rules
    handed_on : check (structure_rules t ++ undeclared_rule t ∷ low_rules t c) passed ≡ shortest_reply t c
    unfolding shortest_reply shortest_rules
    handed_on = sym (hands_on (low_size_rule t c) _ passed (λ p b. fit))

    pub structure_refused : (f : StructureFault) → StructureChecked t (Err f) → refusal f ≡ shortest_reply t c
    structure_refused f C = refusal_stands t f C (undeclared_rule t ∷ low_rules t c) passed ∙ handed_on

    -- ---- where 201 to 207 hold
    module _ (h : AllHold (structure_rules t)) where
      pub columns_comparable : Comparable (claiming t c.figures c.leasts c.multipliers)
      columns_comparable = comparable t (headed t h).ranged c.figures c.leasts c.multipliers fits.figures fits.leasts fits.multipliers

      -- 209, by the order of the blocks
      module _ (r : Order) (O : Ordering t r) where
        pub undeclared_refused : r.count < block_count t → refused 209 0 ≡ shortest_reply t c
        undeclared_refused few = undeclared_decides t h r O (low_rules t c) passed few ∙ handed_on

        -- 451
        module _ (all : block_count t ≤ r.count) (loop : Option ℕ) (at-loop : loop ≡ first_below (length c.multipliers) (low_loop_wrong c)) where
          low_rules_lem : check (low_rules t c) passed ≡ shortest_reply t c
          low_rules_lem = declared_hands_on t h r O (low_rules t c) passed all ∙ handed_on

          loop_place : loop ≡ first_below (loop_count t) (low_loop_wrong c)
          loop_place = at-loop ∙ ap (λ (m : ℕ). first_below m (low_loop_wrong c)) fits.multipliers

          pub loop_refused : (l : ℕ) → loop ≡ Some l → refused 451 l ≡ shortest_reply t c
          loop_refused l e = place_decides (loop_count t) (low_loop_wrong c) loop loop_place 451 _ passed l e ∙ low_rules_lem

          -- 452
          module _ (no_loop : loop ≡ None) (figure : Option ℕ) (at-figure : figure ≡ first_below (length c.figures) (low_figure_wrong c)) where
            figure_place : figure ≡ first_below (block_count t) (low_figure_wrong c)
            figure_place = at-figure ∙ ap (λ (n : ℕ). first_below n (low_figure_wrong c)) fits.figures

            pub figure_refused : (u : ℕ) → figure ≡ Some u → refused 452 u ≡ shortest_reply t c
            figure_refused u e =
                place_decides (block_count t) (low_figure_wrong c) figure figure_place 452 _ passed u e
                ∙ place_clear (loop_count t) (low_loop_wrong c) loop loop_place 451 _ passed no_loop
                ∙ low_rules_lem

            -- 453, looked for by the sets
            module _ (no_figure_lem : figure ≡ None) (sets : List ℕ) (S : sets ≡ sets_around t.parents) (edge : Option ℕ)
                (at_Edge : edge ≡ first_below (block_count t) (any_broken_by ge_z sets (claiming t c.figures c.leasts c.multipliers))) where
              edge_place : edge ≡ first_below (block_count t) (low_inequality_broken t c)
              unfolding low_inequality_broken low_edge_holds
              edge_place = at_Edge ∙ broken_places_by t (headed t h).ranged ge_z c.figures c.leasts c.multipliers sets S

              last : check (record { number = 453; places = block_count t; broken = low_inequality_broken t c } ∷ []) passed ≡ shortest_reply t c
              last =
                  place_clear (block_count t) (low_figure_wrong c) figure figure_place 452 _ passed no_figure_lem
                  ∙ place_clear (loop_count t) (low_loop_wrong c) loop loop_place 451 _ passed no_loop
                  ∙ low_rules_lem

              pub inequality_refused : (u : ℕ) → edge ≡ Some u → refused 453 u ≡ shortest_reply t c
              inequality_refused u e = place_decides (block_count t) (low_inequality_broken t c) edge edge_place 453 [] passed u e ∙ last

              pub bound_accepted : edge ≡ None → passed ≡ shortest_reply t c
              bound_accepted e = none_left passed ∙ place_clear (block_count t) (low_inequality_broken t c) edge edge_place 453 [] passed e ∙ last
