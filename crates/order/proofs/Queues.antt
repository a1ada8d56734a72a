-- How the queue of the blocks whose count is 0 is kept. Assumes nothing.
use mathlib.Core.Path.{◌≡◌, sym, ◌∙◌, ap}
use mathlib.Core.List.{List}
use Prim.Native.Nat.{ℕ, ◌+◌, ◌≤◌, ◌<◌}
use native.Mathlib.Decide.{ℕ_discrete}
use native.Mathlib.Omega.{arith}
use lib.ListN.{length, get_or, set}
use lib.Seq.{get_or-set_same, get_or-set_other}
use Rattle.lists.proofs.Pigeonhole.{onto}
use Rattle.order.specs.Edges.{Queue}

pub queue_none : (counts queue : List ℕ) → Queue counts queue 0 0
queue_none counts queue = record { few = omega arith; block = λ j h. absurd (omega arith); once = λ i j h b. absurd (omega arith); clear = λ j h. absurd (omega arith); all = λ v h. absurd (omega arith) }

pub queue_skip : (counts queue : List ℕ) (v k : ℕ) → Queue counts queue v k → (get_or counts v 0 ≡ 0 → ⊥) → Queue counts queue (v + 1) k
queue_skip counts queue v k Q ne = record {
  few = omega (arith, Q.few);
  block = λ j h. omega (arith, Q.block j h);
  once = Q.once;
  clear = Q.clear;
  all = λ u h z. Q.all u (let other : u ≡ v → ⊥ = λ q. ne (ap (λ (x : ℕ). get_or counts x 0) (sym q) ∙ z) in omega (arith, other)) z;
}

-- one block more, whose count is now 0 as those of the others that are in the queue
module _ (counts counts' queue : List ℕ) (n n' k v : ℕ) (Q : Queue counts queue n k) (room : k < length queue)
    (more : n ≤ n') (few : k < n') (low : v < n') (new : (j : ℕ) → j < k → get_or queue j 0 ≡ v → ⊥)
    (zero-there : get_or counts' v 0 ≡ 0) (zero-before : (j : ℕ) → j < k → get_or counts' (get_or queue j 0) 0 ≡ 0)
    (zero-else : (u : ℕ) → u < n' → get_or counts' u 0 ≡ 0 → (u ≡ v → ⊥) → (u < n) × (get_or counts u 0 ≡ 0)) where
  abbrev next : List ℕ
  next = set queue k v

  last : get_or next k 0 ≡ v
  last = get_or-set_same queue k v 0 room

  old : (j : ℕ) → (j ≡ k → ⊥) → get_or next j 0 ≡ get_or queue j 0
  old j ne = get_or-set_other queue k j v 0 ne

  -- what holds of v and of the others in the queue
  each : (P : ℕ → Type 0) → P v → ((j : ℕ) → j < k → P (get_or queue j 0)) → (j : ℕ) → j < k + 1 → P (get_or next j 0)
  each P here before j h = go (ℕ_discrete j k)
    where
      go : Dec (j ≡ k) → P (get_or next j 0)
      go (yes e) = rw (e, last) here
      go (no ne) = rw (old j ne) (before j (omega (arith, ne)))

  pub queue_append : Queue counts' next n' (k + 1)
  queue_append = record {
    few = omega arith;
    block = each (λ u. u < n') low (λ j h. omega (arith, Q.block j h));
    once = once;
    clear = each (λ u. get_or counts' u 0 ≡ 0) zero-there zero-before;
    all = λ u h z. all u h z (ℕ_discrete u v);
  }
    where
      once : (i j : ℕ) → i < j → j < k + 1 → get_or next i 0 ≡ get_or next j 0 → ⊥
      once i j l h e = go (ℕ_discrete j k)
        where
          before : get_or next i 0 ≡ get_or queue i 0
          before = old i (λ z. omega arith)

          go : Dec (j ≡ k) → ⊥
          go (yes q) = new i (omega arith) (sym before ∙ e ∙ ap (λ (x : ℕ). get_or next x 0) q ∙ last)
          go (no ne) = Q.once i j l (omega (arith, ne)) (sym before ∙ e ∙ old j ne)

      all : (u : ℕ) → u < n' → get_or counts' u 0 ≡ 0 → Dec (u ≡ v) → (j : ℕ) × (j < k + 1) × (get_or next j 0 ≡ u)
      all u h z (yes e) = (k, omega arith, last ∙ sym e)
      all u h z (no ne) =
          let p = zero-else u h z ne in
          let q = Q.all u p.0 p.1 in
          (q.0, omega (arith, q.1), old q.0 (λ w. omega (arith, q.1)) ∙ q.2)

-- the scan of all blocks finds one
pub queue_add : (counts queue : List ℕ) (v k : ℕ) → Queue counts queue v k → v < length queue → get_or counts v 0 ≡ 0 → Queue counts (set queue k v) (v + 1) (k + 1)
queue_add counts queue v k Q room z =
    queue_append counts counts queue v (v + 1) k v Q (omega (arith, Q.few)) (omega arith) (omega (arith, Q.few)) (omega arith)
    (λ j h e. omega (arith, Q.block j h)) z Q.clear (λ u h c ne. (omega (arith, ne), c))

module _ (counts queue : List ℕ) (n k v : ℕ) (Q : Queue counts queue n k) (low : v < n) (high : n ≤ length counts) (left : get_or counts v 0 ≡ 0 → ⊥) where
  pub waiting : (j : ℕ) → j < k → get_or queue j 0 ≡ v → ⊥
  waiting j h e = left (ap (λ (x : ℕ). get_or counts x 0) (sym e) ∙ Q.clear j h)

  -- a block that is not in the queue has room there
  pub has_room : k < n
  has_room = go (ℕ_discrete k n)
    where
      go : Dec (k ≡ n) → k < n
      go (no ne) = omega (arith, ne, Q.few)
      go (yes e) =
          let p = onto n (λ i. get_or queue i 0) (λ i h. Q.block i (omega arith)) (λ i j l h. Q.once i j l (omega arith)) v low in
          absurd (waiting p.0 (omega (arith, p.1)) p.2)

  -- its count goes down
  module _ (c : ℕ) where
    same : (u : ℕ) → (u ≡ v → ⊥) → get_or (set counts v c) u 0 ≡ get_or counts u 0
    same u ne = get_or-set_other counts v u c 0 ne

    pub queue_lower : (c ≡ 0 → ⊥) → Queue (set counts v c) queue n k
    queue_lower some = record {
      few = Q.few;
      block = Q.block;
      once = Q.once;
      clear = λ j h. same (get_or queue j 0) (waiting j h) ∙ Q.clear j h;
      all = λ u h z. Q.all u h (sym (same u (λ e. some (sym (get_or-set_same counts v c 0 (omega arith)) ∙ ap (λ (x : ℕ). get_or (set counts v c) x 0) (sym e) ∙ z))) ∙ z);
    }

    pub queue_take : c ≡ 0 → n ≤ length queue → Queue (set counts v c) (set queue k v) n (k + 1)
    queue_take none room =
        queue_append counts (set counts v c) queue n n k v Q (omega (arith, has_room)) (omega arith) has_room low waiting
        (get_or-set_same counts v c 0 (omega arith) ∙ none)
        (λ j h. same (get_or queue j 0) (waiting j h) ∙ Q.clear j h)
        (λ u h z ne. (h, sym (same u ne) ∙ z))
