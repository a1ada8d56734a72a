-- The forward edges of the blocks in the queue are removed one by one: each count is that of the edges that are left. Assumes nothing.
use mathlib.Core.Path.{◌≡◌, refl, sym, ◌∙◌, ap}
use mathlib.Core.Bool.{Bool, true, false, not, ◌&&◌, ◌||◌}
use mathlib.Core.List.{List}
use Prim.Native.Nat.{ℕ, suc, ◌+◌, ◌*◌, ◌-◌, ◌≤◌, ◌<◌, ◌/◌, ◌%◌}
use native.Mathlib.Decide.{ℕ_discrete}
use native.Mathlib.Numerals.{add-one}
use native.Mathlib.Omega.{arith}
use lib.Dec.{eqb}
use lib.ListN.{length, get_or, set, length-set}
use lib.Seq.{get_or-set_same, get_or-set_other}
use borrow.Author.Tests.{eqb-true, eqb-false, eq-eqb, ne_eqb, not-false}
use Rattle.limits.specs.Limits.{most_blocks}
use Rattle.lists.specs.Search.{when◌then◌else◌, any_below, count_below}
use Rattle.lists.proofs.Tests.{both}
use Rattle.lists.proofs.Search.{any_none, any_ext, some_at, count_ext, none_counted, count_remove}
use Rattle.wcet.specs.Table.{missing}
use Rattle.nesting.specs.Columns.{Names, Linked}
use Rattle.order.specs.Edges.{target_by_sets, edge_target, Counted, Queue, one_less, last_to, queue_after, count_after, Removable, Removed}
use Rattle.order.proofs.Edges.{first_edge, second_edge, edge_names}
use Rattle.order.proofs.Queues.{has_room, queue_lower, queue_take}

-- the edge that is removed in step j: each block of the queue in two steps
abbrev pub edge_at : List ℕ → ℕ → ℕ
edge_at queue j = 2 * get_or queue (j / 2) 0 + j % 2

even_edge : (queue : List ℕ) (i : ℕ) → 2 * get_or queue i 0 ≡ edge_at queue (2 * i)
even_edge queue i = let half : (2 * i) / 2 ≡ i = omega arith in rw half (omega arith)

odd_edge : (queue : List ℕ) (i : ℕ) → 2 * get_or queue i 0 + 1 ≡ edge_at queue (2 * i + 1)
odd_edge queue i = let half : (2 * i + 1) / 2 ≡ i = omega arith in rw half (omega arith)

-- edge e is removed in the first d steps
unfoldable pub removed : List ℕ → ℕ → ℕ → Bool
removed queue d e = any_below d (λ j. eqb e (edge_at queue j))

-- edge e ends at v, and is not removed
abbrev pub waits : (ends : ℕ → ℕ) → List ℕ → ℕ → ℕ → ℕ → Bool
waits ends queue d v e = eqb (ends e) v && not (removed queue d e)

-- after d steps, with k blocks in the queue
pub record Taken (ends : ℕ → ℕ) (n : ℕ) (counts queue : List ℕ) (d k : ℕ) : Type 0 where
  pub counts_size : length counts ≡ most_blocks
  pub queue_size : length queue ≡ most_blocks
  pub queued : Queue counts queue n k
  pub within : d ≤ 2 * k
  pub counted : (v : ℕ) → v < n → get_or counts v 0 ≡ count_below (2 * n) (waits ends queue d v)
  pub earlier : (j e : ℕ) → j < k → e < 2 * n → ends e ≡ get_or queue j 0 → (i : ℕ) × (i < j) × (get_or queue i 0 ≡ e / 2)

-- the step in which an edge was removed
pub removed_at : (queue : List ℕ) (d e : ℕ) → removed queue d e ≡ true → (j : ℕ) × (j < d) × (e ≡ edge_at queue j)
unfolding removed
removed_at queue d e h = let s = some_at d (λ j. eqb e (edge_at queue j)) h in (s.0, s.1, eqb-true e (edge_at queue s.0) s.2)

module _ (ends : ℕ → ℕ) (n : ℕ) (counts queue : List ℕ) where
  pub taken_start : (k : ℕ) → length queue ≡ most_blocks → Queue counts queue n k → Counted ends n counts (2 * n) → Taken ends n counts queue 0 k
  unfolding removed any_below
  taken_start k size Q C = record {
    counts_size = C.size;
    queue_size = size;
    queued = Q;
    within = omega arith;
    counted = λ v b. C.each v b ∙ sym (count_ext (2 * n) (waits ends queue 0 v) (λ e. eqb (ends e) v) (λ e h. mathlib.Core.Bool.and-true (eqb (ends e) v)));
    earlier = λ j e h b q. absurd (eqb-false (ends e) (get_or queue j 0) (none_counted (2 * n) (λ e. eqb (ends e) (get_or queue j 0)) (sym (C.each (get_or queue j 0) (Q.block j h)) ∙ Q.clear j h) e b) q);
  }

  module _ (few : n ≤ most_blocks) (d k : ℕ) (K : Taken ends n counts queue d k) (more : d < 2 * k) where
    abbrev this : ℕ
    this = edge_at queue d

    this_low : this < 2 * n
    this_low = omega (arith, K.queued.block (d / 2) (omega arith))

    high : n ≤ length counts
    high = omega (arith, K.counts_size)

    this_new : removed queue d this ≡ false
    unfolding removed
    this_new = any_none d (λ j. eqb this (edge_at queue j)) (λ j h. ne_eqb this (edge_at queue j) (λ e. K.queued.once (j / 2) (d / 2) (omega arith) (omega arith) (omega arith)))

    next_removed : (e : ℕ) → removed queue (suc d) e ≡ (removed queue d e || eqb e this)
    unfolding removed any_below
    next_removed e = refl

    -- the edges to v that wait after it: the same, or one less
    same : (v : ℕ) → (ends this ≡ v → ⊥) → count_below (2 * n) (waits ends queue d v) ≡ count_below (2 * n) (waits ends queue (suc d) v)
    same v away = count_ext (2 * n) (waits ends queue d v) (waits ends queue (suc d) v) (λ e h. go e (ℕ_discrete e this))
      where
        go : (e : ℕ) → Dec (e ≡ this) → waits ends queue d v e ≡ waits ends queue (suc d) v e
        go e (yes s) = rw (s, ne_eqb (ends this) v away)
        go e (no ne) = rw (next_removed e, ne_eqb e this ne, mathlib.Core.Bool.or-false (removed queue d e))

    one_less_lem : (v : ℕ) → ends this ≡ v → count_below (2 * n) (waits ends queue d v) ≡ suc (count_below (2 * n) (waits ends queue (suc d) v))
    one_less_lem v q =
        count_remove (2 * n) this (waits ends queue d v) this_low (both (eq-eqb (ends this) v q) (ap not this_new))
        ∙ ap suc (sym (count_ext (2 * n) (waits ends queue (suc d) v) (λ e. waits ends queue d v e && not (eqb e this)) (λ e h. ap (λ (x : Bool). eqb (ends e) v && not x) (next_removed e) ∙ after (eqb (ends e) v) (removed queue d e) (eqb e this))))
      where
        after : (a b c : Bool) → (a && not (b || c)) ≡ ((a && not b) && not c)
        after true true c = refl
        after true false c = refl
        after false b c = refl

    -- it is a back edge, or there is none
    taken_skip : n ≤ ends this → Taken ends n counts queue (d + 1) k
    taken_skip nowhere = record {
      counts_size = K.counts_size;
      queue_size = K.queue_size;
      queued = K.queued;
      within = omega arith;
      counted = λ v b. rw (add-one d) (K.counted v b ∙ same v (λ e. omega arith));
      earlier = K.earlier;
    }

    -- this edge ends at v
    module _ (v : ℕ) (there : v ≡ ends this) (low : v < n) where
      some_left : get_or counts v 0 ≡ suc (count_below (2 * n) (waits ends queue (suc d) v))
      some_left = K.counted v low ∙ one_less_lem v (sym there)

      abbrev lower : List ℕ
      lower = set counts v (get_or counts v 0 - 1)

      left : get_or counts v 0 - 1 ≡ count_below (2 * n) (waits ends queue (suc d) v)
      left = omega (arith, some_left)

      recounted : (u : ℕ) → u < n → get_or lower u 0 ≡ count_below (2 * n) (waits ends queue (suc d) u)
      recounted u b = go (ℕ_discrete u v)
        where
          go : Dec (u ≡ v) → get_or lower u 0 ≡ count_below (2 * n) (waits ends queue (suc d) u)
          go (yes e) = rw (e, get_or-set_same counts v (get_or counts v 0 - 1) 0 (omega (arith, high))) left
          go (no ne) = rw (get_or-set_other counts v u (get_or counts v 0 - 1) 0 ne) (K.counted u b ∙ same u (λ e. ne (sym e ∙ sym there)))

      present : get_or counts v 0 ≡ 0 → ⊥
      present z = omega (arith, some_left)

      taken_lower : (get_or counts v 0 - 1 ≡ 0 → ⊥) → Taken ends n lower queue (d + 1) k
      taken_lower some = record {
        counts_size = length-set counts v (get_or counts v 0 - 1) ∙ K.counts_size;
        queue_size = K.queue_size;
        queued = queue_lower counts queue n k v K.queued low high present (get_or counts v 0 - 1) some;
        within = omega arith;
        counted = λ u b. rw (add-one d) (recounted u b);
        earlier = K.earlier;
      }

      -- and was the last that did
      taken_room : k < n
      taken_room = has_room counts queue n k v K.queued low high present

      room : n ≤ length queue
      room = omega (arith, K.queue_size)

      taken_last : get_or counts v 0 - 1 ≡ 0 → Taken ends n lower (set queue k v) (d + 1) (k + 1)
      unfolding removed
      taken_last none = record {
        counts_size = length-set counts v (get_or counts v 0 - 1) ∙ K.counts_size;
        queue_size = length-set queue k v ∙ K.queue_size;
        queued = queue_take counts queue n k v K.queued low high present (get_or counts v 0 - 1) none room;
        within = omega arith;
        counted = λ u b. rw (add-one d) (recounted u b ∙ count_ext (2 * n) (waits ends queue (suc d) u) (waits ends (set queue k v) (suc d) u) (λ e h. ap (λ (x : Bool). eqb (ends e) u && not x) (as_before e)));
        earlier = λ j e h b q. before j e h b q (ℕ_discrete j k);
      }
        where
          old : (j : ℕ) → (j ≡ k → ⊥) → get_or (set queue k v) j 0 ≡ get_or queue j 0
          old j ne = get_or-set_other queue k j v 0 ne

          as_before : (e : ℕ) → removed queue (suc d) e ≡ removed (set queue k v) (suc d) e
          as_before e = any_ext (suc d) (λ j. eqb e (edge_at queue j)) (λ j. eqb e (edge_at (set queue k v) j)) (λ j h. rw (old (j / 2) (λ z. omega arith)))

          -- all the edges to v are removed
          was_removed : (e : ℕ) → e < 2 * n → ends e ≡ v → removed queue (suc d) e ≡ true
          was_removed e b q = not-false _ (rw (eq-eqb (ends e) v q) at (none_counted (2 * n) (waits ends queue (suc d) v) (sym left ∙ none) e b))

          before : (j e : ℕ) → j < k + 1 → e < 2 * n → ends e ≡ get_or (set queue k v) j 0 → Dec (j ≡ k) → (i : ℕ) × (i < j) × (get_or (set queue k v) i 0 ≡ e / 2)
          before j e h b q (yes z) =
              let p = removed_at queue (suc d) e (was_removed e b (q ∙ ap (λ (x : ℕ). get_or (set queue k v) x 0) z ∙ get_or-set_same queue k v 0 (omega (arith, taken_room, room)))) in
              let low_half : p.0 / 2 < k = omega (arith, p.1) in
              (p.0 / 2, omega (arith, low_half), old (p.0 / 2) (λ w. omega arith) ∙ omega (arith, p.2))
          before j e h b q (no ne) =
              let p = K.earlier j e (omega (arith, ne)) b (q ∙ old j ne) in
              (p.0, p.1, old p.0 (λ w. omega (arith, p.1, ne)) ∙ p.2)

    -- one edge is removed: it leads to v, or nowhere
    module _ (v : ℕ) (there : v ≡ ends this) (names : Names n v) where
      removable : Removable counts k v
      removable ne = (omega (arith, names ne), omega (arith, some_left v there (names ne)), omega (arith, taken_room v there (names ne)))

      after_removal : Taken ends n (one_less counts v) (queue_after counts queue k v) (d + 1) (count_after counts k v)
      after_removal = go (ℕ_discrete v missing)
        where
          last : (v ≡ missing → ⊥) → Dec (get_or counts v 0 - 1 ≡ 0)
              → Taken ends n (set counts v (get_or counts v 0 - 1)) (when eqb (get_or counts v 0 - 1) 0 then set queue k v else queue) (d + 1) (when eqb (get_or counts v 0 - 1) 0 then k + 1 else k)
          last ne (yes z) = rw (eq-eqb (get_or counts v 0 - 1) 0 z) (taken_last v there (names ne) z)
          last ne (no more) = rw (ne_eqb (get_or counts v 0 - 1) 0 more) (taken_lower v there (names ne) more)

          go : Dec (v ≡ missing) → Taken ends n (one_less counts v) (queue_after counts queue k v) (d + 1) (count_after counts k v)
          go (yes m) = rw (eq-eqb v missing m) (taken_skip (omega (arith, m, there)))
          go (no ne) = rw (ne_eqb v missing ne) (last ne (ℕ_discrete (get_or counts v 0 - 1) 0))

      taken_next : (counts' queue' : List ℕ) (k' : ℕ) → Removed counts queue k v counts' queue' k' → Taken ends n counts' queue' (d + 1) k'
      taken_next counts' queue' k' R = rw (R.counted, R.queued, R.taken) after_removal

-- what was in the queue stays there, and the queue does not shrink
module _ (counts queue : List ℕ) (k v : ℕ) (counts' queue' : List ℕ) (k' : ℕ) (R : Removed counts queue k v counts' queue' k') where
  no_fewer : k ≤ k'
  no_fewer = rw R.taken (go (last_to counts v))
    where
      go : (b : Bool) → k ≤ (when b then k + 1 else k)
      go true = omega arith
      go false = omega arith

  kept : (j : ℕ) → j < k → get_or queue' j 0 ≡ get_or queue j 0
  kept j h = rw R.queued (go (last_to counts v))
    where
      go : (b : Bool) → get_or (when b then set queue k v else queue) j 0 ≡ get_or queue j 0
      go true = get_or-set_other queue k j v 0 (λ z. omega arith)
      go false = refl

-- ---- the edges of the columns

module _ (sets loops firsts seconds headers : List ℕ) (L : Linked (length loops) firsts seconds) where
  abbrev State : (counts queue : List ℕ) → ℕ → ℕ → Type 0
  State = Taken (edge_target sets loops firsts seconds headers) (length loops)

  -- the edge that step d removes, which leads to v
  module _ (counts queue : List ℕ) (d k : ℕ) (more : d < 2 * k) (K : State counts queue d k) (v : ℕ)
      (there : v ≡ edge_target sets loops firsts seconds headers (edge_at queue d)) where
    names : Names (length loops) v
    names = rw there (edge_names sets loops firsts seconds headers (edge_at queue d) L (this_low _ _ counts queue L.few d k K more))

    edge_removable : Removable counts k v
    edge_removable = removable _ _ counts queue L.few d k K more v there names

    edge_removed : (counts' queue' : List ℕ) (k' : ℕ) → Removed counts queue k v counts' queue' k' → State counts' queue' (d + 1) k'
    edge_removed = taken_next _ _ counts queue L.few d k K more v there names

  -- the two edges of the block at place i
  module _ (i : ℕ) (counts queue : List ℕ) (k : ℕ) (more : i < k) (K : State counts queue (2 * i) k) where
    abbrev u : ℕ
    u = get_or queue i 0

    abbrev first_target : ℕ
    first_target = target_by_sets sets loops headers u (get_or firsts u 0)

    abbrev second_target : ℕ
    second_target = target_by_sets sets loops headers u (get_or seconds u 0)

    pub block_low : u < length loops
    block_low = K.queued.block i more

    there : first_target ≡ edge_target sets loops firsts seconds headers (edge_at queue (2 * i))
    there = first_edge sets loops firsts seconds headers u ∙ ap (edge_target sets loops firsts seconds headers) (even_edge queue i)

    pub first_removable : Removable counts k first_target
    first_removable = edge_removable counts queue (2 * i) k (omega arith) K first_target there

    module _ (counts' queue' : List ℕ) (k' : ℕ) (R : Removed counts queue k first_target counts' queue' k') where
      first_removed : State counts' queue' (2 * i + 1) k'
      first_removed = edge_removed counts queue (2 * i) k (omega arith) K first_target there counts' queue' k' R

      more_left : 2 * i + 1 < 2 * k'
      more_left = omega (arith, no_fewer counts queue k first_target counts' queue' k' R)

      there_too : second_target ≡ edge_target sets loops firsts seconds headers (edge_at queue' (2 * i + 1))
      there_too =
          second_edge sets loops firsts seconds headers u
          ∙ ap (edge_target sets loops firsts seconds headers) (ap (λ (x : ℕ). 2 * x + 1) (sym (kept counts queue k first_target counts' queue' k' R i more)) ∙ odd_edge queue' i)

      pub second_removable : Removable counts' k' second_target
      second_removable = edge_removable counts' queue' (2 * i + 1) k' more_left first_removed second_target there_too

      pub both_removed : (counts'' queue'' : List ℕ) (k'' : ℕ) → Removed counts' queue' k' second_target counts'' queue'' k'' → State counts'' queue'' (2 * (i + 1)) k''
      both_removed counts'' queue'' k'' R' =
          let next : 2 * i + 1 + 1 ≡ 2 * (i + 1) = omega arith in
          rw next at (edge_removed counts' queue' (2 * i + 1) k' more_left first_removed second_target there_too counts'' queue'' k'' R')
