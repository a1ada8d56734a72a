-- The slots of the edges: what a block's slot is (`slot`), and that the slots that are blocks stand after it in the order (`forwards`). Assumes
-- nothing.
use Rattle.std.proofs.Common.{◌≡◌, refl, ◌∙◌, ap, Bool, true, false, ◌&&◌, List, ◌⊎◌, inl, inr, ℕ, ◌+◌, ◌-◌, ◌≤◌, ◌<◌, arith, eqb, length, get_or}
use native.Mathlib.Decide.{ℕ_discrete}
use Rattle.limits.specs.Limits.{most_blocks, most_loops}
use Rattle.lists.specs.Search.{when◌then◌else◌}
use Rattle.wcet.specs.Table.{Routine, block_count, loop_count, exit, missing, loop_of, edge, inside, is_header}
use Rattle.wcet.specs.Cycles.{back_edge, forward_edge}
use Rattle.wcet.specs.Rules.{structure_rules}
use Rattle.wcet.specs.Claim.{AllHold}
use Rattle.wcet.proofs.Nesting.{Nested, nested, first_edge, second_edge}
use Rattle.loopsets.specs.Sets.{sets_around}
use Rattle.loopsets.proofs.Laws.{member_around}
use Rattle.nesting.specs.Columns.{Headed}
use Rattle.nesting.proofs.Stages.{headed}
use Rattle.order.specs.Edges.{back_by_sets}
use Rattle.order.specs.Ordering.{Topological}
use Rattle.tails.specs.Slots.{nowhere, slot_by_sets, SlotsOf}
use Rattle.figures.specs.Columns.{Forward}

-- the slot s of x's edge to v is that of a back edge, or of a forward edge; or there is no edge
abbrev pub EdgeSlot : Routine → (x v s : ℕ) → Type 0
EdgeSlot t x v s = ((back_edge t x v ≡ true) × (s ≡ most_blocks + loop_of t v)) ⊎ ((back_edge t x v ≡ false) × (s ≡ v))

abbrev pub Slot : Routine → (x v s : ℕ) → Type 0
Slot t x v s = ((eqb v missing ≡ true) × (s ≡ nowhere)) ⊎ ((edge t x v ≡ true) × EdgeSlot t x v s)

module _ (t : Routine) (rules : AllHold (structure_rules t)) (sets : List ℕ) (around-sets : sets ≡ sets_around t.parents) (order : List ℕ) (O : Topological t order) where
  N : Nested t
  N = nested t rules

  H : Headed t
  H = headed t rules

  few_loops : loop_count t ≤ most_loops
  few_loops = H.ranged.sized.few_loops

  back_same : (u v : ℕ) → u < block_count t → v < block_count t → back_by_sets sets t.loops t.headers u v ≡ back_edge t u v
  unfolding back_by_sets back_edge inside
  back_same u v b c =
      ap (λ (i : Bool). is_header t v && i) (member_around t.parents sets around-sets few_loops (loop_of t u) (loop_of t v) (N.innermost u b) (omega (arith, N.innermost v c, few_loops)))

  pub forward : (x v : ℕ) → x < block_count t → edge t x v ≡ true → back_edge t x v ≡ false → O.position x < O.position v
  forward x v b e r = O.rises x v b (unfold forward_edge in rw (e, r))

  module _ (next slots : List ℕ) (S : SlotsOf sets t.loops t.headers next slots)
      (edges : (x : ℕ) → eqb (get_or next x 0) missing ≡ false → edge t x (get_or next x 0) ≡ true) where
    pub slot_exit : get_or slots (exit t) 0 ≡ most_blocks
    slot_exit = let q : length t.loops - 1 ≡ exit t = ap (λ (k : ℕ). k - 1) H.ranged.sized.loops in rw q at S.at_exit

    pub slot : (x : ℕ) → x < block_count t → (x ≡ exit t → ⊥) → Slot t x (get_or next x 0) (get_or slots x 0)
    unfolding slot_by_sets
    slot x b ne = go (eqb v missing) refl (S.each x (omega (arith, H.ranged.sized.loops)) (λ q. ne (omega (arith, H.ranged.sized.loops))))
      where
        v : ℕ
        v = get_or next x 0

        go : (m : Bool) → eqb v missing ≡ m → get_or slots x 0 ≡ (when m then nowhere else when back_by_sets sets t.loops t.headers x v then most_blocks + loop_of t v else v) → Slot t x v (get_or slots x 0)
        go true m q = inl (m, q)
        go false m q = inr (edges x m, by (back_edge t x v) refl (rw (back_same x v b (N.target x v b (edges x m))) at q))
          where
            by : (r : Bool) → back_edge t x v ≡ r → get_or slots x 0 ≡ (when r then most_blocks + loop_of t v else v) → EdgeSlot t x v (get_or slots x 0)
            by true r q = inl (r, q)
            by false r q = inr (r, q)

    slot_later : (x : ℕ) → x < block_count t → get_or slots x 0 < block_count t → O.position x < O.position (get_or slots x 0)
    slot_later x b h = at (ℕ_discrete x (exit t))
      where
        few : block_count t ≤ most_blocks
        few = H.ranged.sized.few_blocks

        at : Dec (x ≡ exit t) → O.position x < O.position (get_or slots x 0)
        at (yes q) = absurd (omega (arith, few, ap (λ (y : ℕ). get_or slots y 0) q ∙ slot_exit))
        at (no ne) = go (slot x b ne)
          where
            go : Slot t x (get_or next x 0) (get_or slots x 0) → O.position x < O.position (get_or slots x 0)
            go (inl p) = absurd (omega (arith, few, p.1))
            go (inr (e, inl p)) = absurd (omega (arith, few, p.1))
            go (inr (e, inr p)) = rw p.1 (forward x (get_or next x 0) b e p.0)

  pub forwards : (firstSlots secondSlots : List ℕ) → SlotsOf sets t.loops t.headers t.firsts firstSlots → SlotsOf sets t.loops t.headers t.seconds secondSlots
      → Forward (block_count t) firstSlots secondSlots order
  forwards firstSlots secondSlots S₁ S₂ = record {
    position = O.position;
    within = O.within;
    there = O.there;
    index = O.index;
    first_later = slot_later t.firsts firstSlots S₁ (first_edge t);
    second_later = slot_later t.seconds secondSlots S₂ (second_edge t);
  }
