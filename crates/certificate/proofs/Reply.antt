-- How the table checker comes to its reply. Assumes nothing.
use mathlib.Core.Path.{◌≡◌, ◌∙◌}
use mathlib.Core.List.{List, [], ◌∷◌}
use Rattle.std.specs.Prelude.{Option, Some, None, Err}
use lib.Signed.{le_z}
use Prim.Native.Nat.{ℕ, ◌≤◌, ◌<◌}
use Rattle.lists.specs.Search.{first_below}
use Rattle.wcet.specs.Table.{Routine, block_count}
use Rattle.wcet.specs.Rules.{accepted, refused, check, inequality_broken, inequality_rule, undeclared_rule, structure_rules, table_rules, bound, table_reply}
use Rattle.wcet.specs.Claim.{AllHold}
use Rattle.loopsets.specs.Sets.{sets_around}
use Rattle.nesting.specs.Answers.{refusal, StructureChecked}
use Rattle.nesting.specs.declared.StructureFault.{StructureFault}
use Rattle.nesting.proofs.Chain.{place_decides, place_clear, none_left, refusal_stands}
use Rattle.nesting.proofs.Stages.{headed}
use Rattle.order.specs.Ordering.{Ordering}
use Rattle.order.specs.declared.Order.{Order}
use Rattle.order.proofs.Orders.{undeclared_decides, declared_hands_on}
use Rattle.certificate.specs.Columns.{any_broken_by}
use Rattle.certificate.proofs.Edge.{broken_places}

module _ (t : Routine) where
  -- ---- where 201 to 207 hold
  module _ (h : AllHold (structure_rules t)) (r : Order) (O : Ordering t r) where
    -- 209, by the order of the blocks
    pub undeclared_refused : r.count < block_count t → refused 209 0 ≡ table_reply t
    unfolding table_reply table_rules
    undeclared_refused few = undeclared_decides t h r O (inequality_rule t ∷ []) (accepted (bound t)) few

    -- 208, looked for by the sets
    module _ (all : block_count t ≤ r.count) (sets : List ℕ) (S : sets ≡ sets_around t.parents) (place : Option ℕ)
        (found : place ≡ first_below (block_count t) (any_broken_by le_z sets t)) where
      lowest : place ≡ first_below (block_count t) (inequality_broken t)
      lowest = found ∙ broken_places t (headed t h).ranged sets S

      last : check (inequality_rule t ∷ []) (accepted (bound t)) ≡ table_reply t
      unfolding table_reply table_rules
      last = declared_hands_on t h r O (inequality_rule t ∷ []) (accepted (bound t)) all

      pub inequality_refused : (u : ℕ) → place ≡ Some u → refused 208 u ≡ table_reply t
      inequality_refused u e = place_decides (block_count t) (inequality_broken t) place lowest 208 [] (accepted (bound t)) u e ∙ last

      pub bound_accepted : place ≡ None → accepted (bound t) ≡ table_reply t
      bound_accepted e = none_left (accepted (bound t)) ∙ place_clear (block_count t) (inequality_broken t) place lowest 208 [] (accepted (bound t)) e ∙ last

  -- ---- after the structure check
  pub structure_refused : (f : StructureFault) → StructureChecked t (Err f) → refusal f ≡ table_reply t
  unfolding table_reply table_rules
  structure_refused f C = refusal_stands t f C (undeclared_rule t ∷ inequality_rule t ∷ []) (accepted (bound t))
