-- Where every edge of the queue is removed, the queue is an ordering: either all blocks are in it, or a block that is not can be reached from a
-- closed walk. And an ordering of all blocks is a topological order. Assumes nothing.
use mathlib.Core.Path.{◌≡◌, refl, sym, ◌∙◌, ap, subst}
use mathlib.Core.Bool.{Bool, true, false, not}
use mathlib.Core.List.{List, [], ◌∷◌, ◌++◌}
use Prim.Native.Nat.{ℕ, zero, suc, ◌+◌, ◌*◌, ◌-◌, ◌≤◌, ◌<◌, ◌/◌, ◌%◌}
use native.Mathlib.Decide.{ℕ_discrete}
use native.Mathlib.Omega.{arith}
use lib.Dec.{eqb, ltb}
use lib.ListN.{get_or, length}
use borrow.Author.Tests.{eqb-true, eqb-false, not-true, lt-ltb, le-ltb}
use Rattle.lists.proofs.Tests.{and-true}
use Rattle.lists.proofs.Search.{none_of, some_counted}
use Rattle.lists.proofs.Pigeonhole.{place_in, placed, pigeonhole, onto, left_out}
use Rattle.wcet.specs.Table.{Routine, block_count, edge}
use Rattle.wcet.specs.Cycles.{forward_edge, forward_path, ClosedWalk, reaches, undeclared_loop}
use Rattle.wcet.specs.Rules.{Reply, refused, Rule, check, structure_rules, undeclared_rule}
use Rattle.wcet.specs.Claim.{AllHold}
use Rattle.wcet.proofs.Nesting.{nested}
use Rattle.wcet.proofs.Replies.{decides, hands_on, past_all}
use Rattle.wcet.proofs.Cycles.{reaches_one, reaches_by, reached, forward_target, closed_exactly}
use Rattle.loopsets.specs.Sets.{sets_around}
use Rattle.nesting.specs.Columns.{Ranged}
use Rattle.nesting.proofs.Stages.{headed}
use Rattle.order.specs.Ordering.{StandsBefore, Ordering, Topological}
use Rattle.order.specs.declared.Order.{Order}
use Rattle.order.proofs.Edges.{targets_of, numbered, leads}
use Rattle.order.proofs.Removal.{edge_at, removed, waits, Taken}

-- ---- all blocks in order leave no closed walk

module _ (t : Routine) (target : (u v : ℕ) → u < block_count t → edge t u v ≡ true → v < block_count t) (queue : List ℕ) (k : ℕ)
    (block : (i : ℕ) → i < k → get_or queue i 0 < block_count t)
    (once : (i j : ℕ) → i < j → j < k → get_or queue i 0 ≡ get_or queue j 0 → ⊥)
    (earlier : (u j : ℕ) → u < block_count t → j < k → forward_edge t u (get_or queue j 0) ≡ true → StandsBefore queue j u) where
  -- the start of a path stands earlier than its end
  earlier_along : (w : List ℕ) (u v j : ℕ) → u < block_count t → j < k → get_or queue j 0 ≡ v → forward_path t u (w ++ v ∷ []) ≡ true → StandsBefore queue j u
  unfolding forward_path
  earlier_along [] u v j b h e p = earlier u j b h (rw e (and-true (forward_edge t u v) true p).0)
  earlier_along (x ∷ w) u v j b h e p =
      let q = and-true (forward_edge t u x) (forward_path t x (w ++ v ∷ [])) p in
      let r = earlier_along w x v j (forward_target t target u x b q.0) h e q.1 in
      let s = earlier u r.0 b (omega (arith, r.1)) (rw r.2 q.0) in
      (s.0, omega (arith, s.1, r.1), s.2)

  no_closed_walk : k ≡ block_count t → ClosedWalk t → ⊥
  no_closed_walk all W =
      let j = onto (block_count t) (λ i. get_or queue i 0) (λ i h. block i (omega arith)) (λ i j l h. once i j l (omega arith)) W.start W.block in
      let i = earlier_along W.between W.start W.start j.0 W.block (omega (arith, j.1)) j.2 W.closed in
      once i.0 j.0 i.1 (omega (arith, j.1)) (i.2 ∙ sym j.2)

module _ (t : Routine) (holds : AllHold (structure_rules t)) (sets : List ℕ) (S : sets ≡ sets_around t.parents) (counts queue : List ℕ) (k : ℕ)
    (removed-all : Taken (targets_of t sets) (length t.loops) counts queue (2 * k) k) where
  target : (u v : ℕ) → u < block_count t → edge t u v ≡ true → v < block_count t
  target = (nested t holds).target

  ranged : Ranged t
  ranged = (headed t holds).ranged

  K : Taken (targets_of t sets) (block_count t) counts queue (2 * k) k
  K = rw ranged.sized.loops at removed-all

  in_order : (u j : ℕ) → u < block_count t → j < k → forward_edge t u (get_or queue j 0) ≡ true → StandsBefore queue j u
  in_order u j b h f =
      let e = numbered t sets ranged S u (get_or queue j 0) b (K.queued.block j h) f in
      let i = K.earlier j e.0 h e.1 e.3 in
      (i.0, i.1, i.2 ∙ e.2)

  -- ---- a block that is not in the queue
  record Left : Type 0 where
    at : ℕ
    low : at < block_count t
    left : get_or counts at 0 ≡ 0 → ⊥

  some_left : k < block_count t → Left
  some_left few =
      let u = left_out k (block_count t) (λ j. get_or queue j 0) few in
      record { at = u.0; low = u.1; left = λ z. let j = K.queued.all u.0 u.1 z in u.2 j.0 j.1 j.2 }

  -- has a forward edge that is not removed, so from another one
  behind : (o : Left) → (p : Left) × (forward_edge t p.at o.at ≡ true)
  unfolding removed
  behind o =
      let s = some_counted (2 * block_count t) (waits (targets_of t sets) queue (2 * k) o.at) (λ z. o.left (K.counted o.at o.low ∙ z)) in
      let q = and-true (eqb (targets_of t sets s.0) o.at) (not (removed queue (2 * k) s.0)) s.2 in (
        record { at = s.0 / 2; low = omega (arith, s.1); left = waiting s.0 s.1 (not-true _ q.1) },
        leads t sets ranged S s.0 o.at s.1 o.low (eqb-true (targets_of t sets s.0) o.at q.0),
      )
    where
      waiting : (e : ℕ) → e < 2 * block_count t → removed queue (2 * k) e ≡ false → get_or counts (e / 2) 0 ≡ 0 → ⊥
      waiting e b unremoved z =
          let j = K.queued.all (e / 2) (omega arith) z in
          let half : (2 * j.0 + e % 2) / 2 ≡ j.0 = omega arith in
          eqb-false e (edge_at queue (2 * j.0 + e % 2)) (none_of (2 * k) (λ i. eqb e (edge_at queue i)) unremoved (2 * j.0 + e % 2) (omega (arith, j.1)))
          (rw (half, j.2) (omega arith))

  -- so a block that only blocks of the queue lead to is in it
  no_more : (v : ℕ) → v < block_count t → ((u : ℕ) → u < block_count t → forward_edge t u v ≡ true → StandsBefore queue k u) → StandsBefore queue k v
  no_more v b only = go (ℕ_discrete (get_or counts v 0) 0)
    where
      go : Dec (get_or counts v 0 ≡ 0) → StandsBefore queue k v
      go (yes z) = K.queued.all v b z
      go (no ne) =
          let p = behind (record { at = v; low = b; left = ne }) in
          let i = only p.0.at p.0.low p.1 in
          absurd (p.0.left (ap (λ (x : ℕ). get_or counts x 0) (sym i.2) ∙ K.queued.clear i.0 i.1))

  -- and so on: of enough of them two are the same block
  chain : Left → ℕ → Left
  chain o zero = o
  chain o (suc i) = (behind (chain o i)).0

  descends : (o : Left) (i j : ℕ) → i < j → reaches (forward_edge t) (block_count t) (chain o j).at (chain o i).at ≡ true
  unfolding chain
  descends o i zero h = absurd (omega arith)
  descends o i (suc j) h = go (ℕ_discrete i j) (descends o i j)
    where
      one : reaches (forward_edge t) (block_count t) (behind (chain o j)).0.at (chain o j).at ≡ true
      one = reaches_one (forward_edge t) (block_count t) (behind (chain o j)).0.at (chain o j).at (behind (chain o j)).1

      go : Dec (i ≡ j) → (i < j → reaches (forward_edge t) (block_count t) (chain o j).at (chain o i).at ≡ true) → reaches (forward_edge t) (block_count t) (behind (chain o j)).0.at (chain o i).at ≡ true
      go (yes e) rest = rw e one
      go (no ne) rest = reaches_by (forward_edge t) (block_count t) (behind (chain o j)).0.at (chain o i).at (chain o j).at (chain o j).low one (rest (omega (arith, ne)))

  closed_walk : k < block_count t → ClosedWalk t
  closed_walk few =
      let o = some_left few in
      let p = pigeonhole (block_count t) (λ i. (chain o i).at) (λ i h. (chain o i).low) in
      (closed_exactly t target).0
      (reached t (chain o p.0).at (chain o p.0).low
      (subst (λ (x : ℕ). reaches (forward_edge t) (block_count t) x (chain o p.0).at ≡ true) (sym p.4) (descends o p.0 p.1 p.2)))

  pub ordering : Ordering t (record { blocks = queue; count = k })
  ordering = record {
    size = K.queue_size;
    few = K.queued.few;
    block = K.queued.block;
    once = K.queued.once;
    earlier = in_order;
    most = no_more;
    all = (no_closed_walk t target queue k K.queued.block K.queued.once in_order, whole);
  }
    where
      whole : (ClosedWalk t → ⊥) → k ≡ block_count t
      whole none = let all : k < block_count t → ⊥ = λ l. none (closed_walk l) in omega (arith, all, K.queued.few)

-- ---- what callers take from an ordering

module _ (t : Routine) (holds : AllHold (structure_rules t)) (r : Order) (O : Ordering t r) where
  -- 209 as the code tests it
  undeclared_test : ltb r.count (block_count t) ≡ undeclared_loop t
  undeclared_test = go (undeclared_loop t) refl (ℕ_discrete r.count (block_count t))
    where
      target : (u v : ℕ) → u < block_count t → edge t u v ≡ true → v < block_count t
      target = (nested t holds).target

      go : (b : Bool) → undeclared_loop t ≡ b → Dec (r.count ≡ block_count t) → ltb r.count (block_count t) ≡ b
      go true q (yes e) = absurd (O.all.0 e ((closed_exactly t target).0 q))
      go true q (no ne) = lt-ltb r.count (block_count t) (omega (arith, ne, O.few))
      go false q (yes e) = le-ltb r.count (block_count t) (omega arith)
      go false q (no ne) = absurd (ne (O.all.1 (λ W. mathlib.Core.Bool.true≢false (sym ((closed_exactly t target).1 W) ∙ q))))

  pub declared : block_count t ≤ r.count → undeclared_loop t ≡ false
  declared all = sym undeclared_test ∙ le-ltb r.count (block_count t) all

  -- 209 as the code decides it: refused, or left to the rules after it
  module _ {A : Type 0} (qs : List Rule) (passed : Reply A) where
    pub undeclared_decides : r.count < block_count t → refused 209 0 ≡ check (structure_rules t ++ undeclared_rule t ∷ qs) passed
    undeclared_decides few =
        sym (past_all (structure_rules t) (undeclared_rule t ∷ qs) passed holds
        ∙ decides (undeclared_rule t) qs passed 0 (record {
          below = omega arith;
          passes = sym undeclared_test ∙ lt-ltb r.count (block_count t) few;
          lower = λ j z. absurd (omega arith);
        }))

    pub declared_hands_on : block_count t ≤ r.count → check qs passed ≡ check (structure_rules t ++ undeclared_rule t ∷ qs) passed
    declared_hands_on all = sym (past_all (structure_rules t) (undeclared_rule t ∷ qs) passed holds ∙ hands_on (undeclared_rule t) qs passed (λ p z. declared all))

  pub topological : r.count ≡ block_count t → Topological t r.blocks
  topological all = record {
    position = position;
    within = λ u b. (at u b).0;
    there = λ u b. (at u b).1;
    block = λ i b. O.block i (omega arith);
    index = index;
    rises = rises;
  }
    where
      f : ℕ → ℕ
      f i = get_or r.blocks i 0

      position : ℕ → ℕ
      position = place_in f (block_count t)

      at : (u : ℕ) → u < block_count t → (position u < block_count t) × (f (position u) ≡ u)
      at u b =
          let j = onto (block_count t) f (λ i h. O.block i (omega arith)) (λ i j l h. O.once i j l (omega arith)) u b in
          placed f (block_count t) u j.0 j.1 j.2

      -- a block has one place
      alone : (i j : ℕ) → i < block_count t → j < block_count t → f i ≡ f j → i ≡ j
      alone i j b c e = go (ℕ_discrete (suc i - j) 0) (ℕ_discrete i j)
        where
          go : Dec (suc i - j ≡ 0) → Dec (i ≡ j) → i ≡ j
          go l (yes q) = q
          go (yes l) (no ne) = absurd (O.once i j (omega arith) (omega arith) e)
          go (no l) (no ne) = absurd (O.once j i (omega (arith, ne, l)) (omega arith) (sym e))

      index : (i : ℕ) → i < block_count t → position (f i) ≡ i
      index i b = let p = at (f i) (O.block i (omega arith)) in alone (position (f i)) i p.0 b p.1

      rises : (u v : ℕ) → u < block_count t → forward_edge t u v ≡ true → position u < position v
      rises u v b e =
          let c : v < block_count t = forward_target t (nested t holds).target u v b e in
          let i = O.earlier u (position v) b (omega (arith, (at v c).0)) (rw (at v c).1 e) in
          let same : i.0 ≡ position u = alone i.0 (position u) (omega (arith, i.1, (at v c).0)) (at u b).0 (i.2 ∙ sym (at u b).1) in
          omega (arith, i.1)
