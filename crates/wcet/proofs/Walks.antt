-- A walk within the length limit, over tables that keep 201 to 207, is accepted exactly when it is a finished counted run, with its cost
-- and its length less one (`walks_exactly`); over an accepted pair of tables it costs no more than the bound (`walk_bounded`).
-- Assumes nothing.
use mathlib.Core.Path.{◌≡◌, refl, sym, ◌∙◌, ap}
use mathlib.Core.Bool.{Bool, true, false, not, false≢true}
use mathlib.Core.List.{List, [], ◌∷◌, ◌++◌}
use Prim.Native.Nat.{ℕ, suc, ◌-◌, ◌≤◌, ◌<◌}
use native.Mathlib.Omega.{arith}
use lib.Dec.{eqb, ltb}
use borrow.Author.Tests.{eqb-true, ltb-false, lt-ltb, le-ltb, eq-eqb, ne_eqb, not-false}
use lib.IntN.{ℤ, pos}
use lib.ListN.{length, get_or}
use lib.Seq.{take-length}
use lib.Signed.{◌≤ℤ◌}
use Rattle.limits.specs.Limits.{longest_walk}
use Rattle.lists.specs.Search.{when◌then◌else◌}
use Rattle.lists.proofs.Tests.{or_false, and-true, both, neither}
use Rattle.wcet.specs.Table.{Routine, block_count, exit, limit, edge}
use Rattle.wcet.specs.Rules.{Reply, accepted, refused, structure_rules, table_reply}
use Rattle.wcet.specs.Run.{path, run, State, start, next, after, passes_limit, keeps_limits, counted_run}
use Rattle.wcet.specs.Walk.{Walked, walked, length_rule, walk_from, walk_blocks, walk_reply}
use Rattle.wcet.specs.Claim.{AllHold, FinishedRun, AcceptsExactly, WalkChecked}
use Rattle.wcet.proofs.Replies.{passes, all_append, append_all, all_pass}
use Rattle.wcet.proofs.Nesting.{Nested, nested}
use Rattle.wcet.proofs.Path.{after_block}
use Rattle.wcet.proofs.Limits.{keeps_each, kept_limits, counted_parts}
use Rattle.wcet.proofs.Bound.{finished_bounded}

-- a reply that is accepted passed the test before it
pub unrefused : {A : Type 0} (c : Bool) (n p : ℕ) (x : Reply A) (a : A) → (when c then refused n p else x) ≡ accepted a → (c ≡ false) × (x ≡ accepted a)
unrefused true n p x a e = absurd (let z : ◌≡◌ {A = ℕ} 0 1 = cc in omega arith)
unrefused false n p x a e = (refl, e)

pub finishes : {A : Type 0} (c : Bool) (n p : ℕ) (x : Reply A) (a : A) → (when c then x else refused n p) ≡ accepted a → (c ≡ true) × (x ≡ accepted a)
finishes true n p x a e = (refl, e)
finishes false n p x a e = absurd (let z : ◌≡◌ {A = ℕ} 0 1 = cc in omega arith)

-- the last block of a list that starts at block 0 is the one at which the state stands
pub last_block : (t : Routine) (w : List ℕ) → get_or (0 ∷ w) (length (0 ∷ w) - 1) 0 ≡ (after t start w).block
unfolding start
last_block t w =
    let k : length (0 ∷ w) - 1 ≡ length w = omega arith in
    rw k (sym (rw (take-length w) at (after_block t w (length w) start (omega arith))))

-- an accepted walk follows edges to the exit, and keeps the limits
accepted_from : (t : Routine) (w : List ℕ) (s : State) (i : ℕ) (passed : Reply Walked) (r : Walked) → passes_limit t s ≡ false → walk_from t s i w passed ≡ accepted r
    → (path t s.block w ≡ true) × (keeps_limits t s w ≡ true) × ((after t s w).block ≡ exit t) × (passed ≡ accepted r)
unfolding walk_from path keeps_limits after next
accepted_from t [] s i passed r h e =
    let q = finishes (eqb s.block (exit t)) 314 i passed r e in
    (refl, rw h, eqb-true s.block (exit t) q.0, q.1)
accepted_from t (v ∷ w) s i passed r h e =
    let a = unrefused (not (ltb v (block_count t))) 302 i _ r e in
    let b = unrefused (eqb s.block (exit t)) 311 i _ r a.1 in
    let c = unrefused (not (edge t s.block v)) 312 i _ r b.1 in
    let d = unrefused (passes_limit t (next t s v)) 313 i (walk_from t (next t s v) (suc i) w passed) r c.1 in
    let f : (path t v w ≡ true) × (keeps_limits t (next t s v) w ≡ true) × ((after t (next t s v) w).block ≡ exit t) × (passed ≡ accepted r)
    = accepted_from t w (next t s v) (suc i) passed r d.0 d.1 in
    (both (not-false (edge t s.block v) c.0) f.0, rw h f.1, f.2, f.3)

module _ (t : Routine) (N : Nested t) where
  -- and a path to the exit that keeps the limits is accepted: nothing leads on from the exit (206)
  from_accepted : (w : List ℕ) (s : State) (i : ℕ) (passed : Reply Walked) → s.block < block_count t → path t s.block w ≡ true → keeps_limits t s w ≡ true
      → (after t s w).block ≡ exit t → walk_from t s i w passed ≡ passed
  unfolding walk_from path keeps_limits after next
  from_accepted [] s i passed b p k e = rw (eq-eqb s.block (exit t) e)
  from_accepted (v ∷ w) s i passed b p k e =
      let q : (edge t s.block v ≡ true) × (path t v w ≡ true) = and-true _ _ p in
      let l : keeps_limits t (next t s v) w ≡ true = (and-true (not (passes_limit t s)) _ k).1 in
      let on : (s.block ≡ exit t → ⊥) = λ z. N.exit_ends v (rw z at q.0) in
      let v_block : v < block_count t = N.target s.block v b q.0 in
      rw (lt-ltb v (block_count t) v_block, ne_eqb s.block (exit t) on, q.0, kept_limits t (next t s v) (keeps_each t w (next t s v) l 0 (omega arith)))
      (from_accepted w (next t s v) (suc i) passed v_block q.1 l e)

  -- the run starts within the limits
  pub start_kept : passes_limit t start ≡ false
  unfolding start
  start_kept = kept_limits t start (λ l b. go l (eqb l 0) refl)
    where
      go : (l : ℕ) (z : Bool) → eqb l 0 ≡ z → (when z then 1 else 0) ≤ limit t l
      go l true q = omega (arith, N.loop0_limit, ap (limit t) (eqb-true l 0 q))
      go l false q = omega arith

  accepted_run : (w : List ℕ) (passed : Reply Walked) (r : Walked) → 0 < length w → walk_blocks t w passed ≡ accepted r → FinishedRun t w × (passed ≡ accepted r)
  unfolding walk_blocks counted_run run start
  accepted_run [] passed r h e = absurd (omega arith)
  accepted_run (v ∷ w) passed r h e =
      let a = unrefused (not (ltb v (block_count t))) 302 0 _ r e in
      let b = unrefused (not (eqb v 0)) 303 0 _ r a.1 in
      let f = accepted_from t w start 1 passed r start_kept b.1 in
      let z : v ≡ 0 = eqb-true v 0 (not-false (eqb v 0) b.0) in
      (record { counted = rw (z, f.0) f.1; at_exit = rw z (last_block t w ∙ f.2) }, f.3)

  run_accepted : (w : List ℕ) (passed : Reply Walked) → FinishedRun t w → walk_blocks t w passed ≡ passed
  unfolding walk_blocks counted_run start
  run_accepted [] passed f = absurd (false≢true f.counted)
  run_accepted (v ∷ w) passed f =
      let C = counted_parts t v w f.counted in
      let z = C.starts in
      let block : 0 < block_count t = omega (arith, N.two_blocks) in
      rw (z, lt-ltb 0 (block_count t) block) (from_accepted w start 1 passed block (rw z at C.follows) C.keeps (sym (last_block t w) ∙ rw z at f.at_exit))

-- what an accepted reply says of the tables and of the walk
pub record AcceptedWalk (t : Routine) (w : List ℕ) (r : Walked) : Type 0 where
  pub rules : AllHold (structure_rules t)
  pub short : length w ≤ longest_walk
  pub finished : FinishedRun t w
  pub result : walked t w ≡ r

pub accepted_walk : (t : Routine) (w : List ℕ) (r : Walked) → walk_reply t w ≡ accepted r → AcceptedWalk t w r
unfolding walk_reply
accepted_walk t w r e =
    let p = passes (structure_rules t ++ length_rule w ∷ []) (walk_blocks t w (accepted (walked t w))) r e in
    let q : AllHold (structure_rules t) × AllHold (length_rule w ∷ []) = all_append (structure_rules t) (length_rule w ∷ []) p.0 in
    let size = or_false (ltb (length w) 1) (ltb longest_walk (length w)) (q.1.0 0 (omega arith)) in
    let f = accepted_run t (nested t q.0) w (accepted (walked t w)) r (ltb-false (length w) 1 size.0) p.1 in
    record { rules = q.0; short = ltb-false longest_walk (length w) size.1; finished = f.0; result = cc f.1 }

-- a finished run is a list of one block or more
run_some : (t : Routine) (w : List ℕ) → FinishedRun t w → 0 < length w
unfolding counted_run
run_some t [] f = absurd (false≢true f.counted)
run_some t (v ∷ w) f = omega arith

pub walks_exactly : (t : Routine) (w : List ℕ) → AcceptsExactly t w (walk_reply t w)
unfolding walk_reply
walks_exactly t w h high r = (
  λ e. let a = accepted_walk t w r e in (a.finished, a.result),
  λ f.
      let length_rule_lem : (p : ℕ) → p < 1 → (length_rule w).broken p ≡ false
      = λ p b. neither (le-ltb (length w) 1 (run_some t w f.0)) (le-ltb longest_walk (length w) high) in
      all_pass (structure_rules t ++ length_rule w ∷ []) (walk_blocks t w (accepted (walked t w))) (append_all (structure_rules t) (length_rule w ∷ []) h (length_rule_lem, tt))
      ∙ run_accepted t (nested t h) w (accepted (walked t w)) f.0
      ∙ ap accepted f.1,
)

-- the reply of the definition is checked
pub walk_checked : (t : Routine) (w : List ℕ) (r : Reply Walked) → r ≡ walk_reply t w → WalkChecked t w r
walk_checked t w r e = record { replied = e; accepts = λ h k x. rw e (walks_exactly t w h k x) }

-- an accepted walk over an accepted pair of tables
pub walk_bounded : (t : Routine) (b : ℤ) (w : List ℕ) (r : Walked) → table_reply t ≡ accepted b → walk_reply t w ≡ accepted r → pos r.total ≤ℤ b
walk_bounded t b w r e q = let a = accepted_walk t w r q in rw (← a.result) (finished_bounded t b e w a.finished)
