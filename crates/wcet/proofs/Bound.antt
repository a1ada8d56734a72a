-- Demand 3: an accepted pair of tables bounds every counted run (`wcet_bound`), so demand 3 holds of a checker whose reply is that of
-- the rules (`checked`). A negative bound says that no counted run is finished (`none_finished`). Assumes nothing.
use mathlib.Core.Path.{◌≡◌, refl, sym, ◌∙◌, ap}
use mathlib.Core.Bool.{true, false, not, false≢true}
use mathlib.Core.List.{List, [], ◌∷◌}
use Prim.Native.Nat.{ℕ, ◌+◌, ◌-◌, ◌≤◌, ◌<◌}
use native.Mathlib.Nat.{mul-le-mul_left}
use native.Mathlib.Omega.{arith}
use borrow.Author.Tests.{not-false}
use lib.IntN.{ℤ, pos, ◌+ℤ◌, ◌-ℤ◌}
use lib.ListN.{length, get_or, take}
use lib.Seq.{take-length}
use lib.Signed.{◌≤ℤ◌, le_z}
use Rattle.integers.specs.Parts.{up, dn}
use Rattle.integers.proofs.Laws.{ints, sum, diff, times, le_z_le}
use Rattle.integers.proofs.Direction.{at_most}
use Rattle.wcet.specs.Table.{Routine, block_count, exit, cost, figure, limit, multiplier, edge}
use Rattle.wcet.specs.Cycles.{undeclared_loop}
use Rattle.wcet.specs.Rules.{Reply, accepted, inequality, edge_holds, inequality_broken, inequality_rule, undeclared_rule, structure_rules, table_rules, bound, table_reply}
use Rattle.wcet.specs.Run.{path, start, after, keeps_limits, counted_run, run_cost}
use Rattle.wcet.specs.Shortest.{inequality_by}
use Rattle.wcet.specs.Claim.{Holds, AllHold, BoundedAt, WcetBound, Checked, FinishedRun, NegativeBound}
use Rattle.wcet.proofs.Replies.{all_append, append_all, replies_exactly}
use Rattle.wcet.proofs.Nesting.{no_edge, no_edge_at, Nested, nested}
use Rattle.wcet.proofs.Potential.{Certificate, remaining}
use Rattle.wcet.proofs.Path.{after_block}
use Rattle.wcet.proofs.Account.{account}
use Rattle.wcet.proofs.Limits.{keeps_each, counted_parts}

-- the tables' own certificate: figures and multipliers as claimed, visits as limited
abbrev certificate : Routine → Certificate
certificate t = record { figure = figure t; multiplier = multiplier t; visits = limit t }

-- what is left within a limit is not negative
pub remaining_left : (k b c : ℕ) → c ≤ b → pos 0 ≤ℤ remaining k b c
remaining_left k b c h = omega (ints, times k (pos b -ℤ pos c), mul-le-mul_left k less)
  where
    less : dn (pos b -ℤ pos c) ≤ up (pos b -ℤ pos c)
    less = omega (ints, diff (pos b) (pos c))

-- and with a limit that is not lower no less is left
pub remaining_mono : (k a b c : ℕ) → a ≤ b → remaining k a c ≤ℤ remaining k b c
remaining_mono k a b c h = omega (ints, times k (pos a -ℤ pos c), times k (pos b -ℤ pos c), mul-le-mul_left k less)
  where
    less : up (pos a -ℤ pos c) + dn (pos b -ℤ pos c) ≤ up (pos b -ℤ pos c) + dn (pos a -ℤ pos c)
    less = omega (ints, diff (pos a) (pos c), diff (pos b) (pos c))

-- what acceptance gives: 201 to 207 by name, and each edge's inequality
pub record Facts (t : Routine) : Type 0 where
  pub nesting : Nested t
  pub holds : (u v : ℕ) → u < block_count t → edge t u v ≡ true → edge_holds t u v ≡ true

pub facts_by : (t : Routine) → AllHold (structure_rules t) → Holds (inequality_rule t) → Facts t
unfolding inequality_broken
facts_by t h i = record { nesting = nested t h; holds = λ u v b e. not-false (edge_holds t u v) (no_edge t u v (λ x. not (edge_holds t u x)) (i u b) e) }

pub facts : (t : Routine) → AllHold (table_rules t) → Facts t
unfolding table_rules
facts t h =
    let q : AllHold (structure_rules t) × AllHold (undeclared_rule t ∷ inequality_rule t ∷ []) = all_append (structure_rules t) (undeclared_rule t ∷ inequality_rule t ∷ []) h in
    facts_by t q.0 q.1.1.0

-- and what acceptance takes: 201 to 207, 209, and each edge's inequality
pub accepted_by_lem : (t : Routine) → AllHold (structure_rules t) → undeclared_loop t ≡ false → ((u v : ℕ) → u < block_count t → edge t u v ≡ true → edge_holds t u v ≡ true)
    → table_reply t ≡ accepted (bound t)
unfolding table_rules inequality_broken
accepted_by_lem t h declared holds =
    ((replies_exactly t).accepts (bound t)).1 (
      append_all (structure_rules t) (undeclared_rule t ∷ inequality_rule t ∷ []) h (
        λ p b. declared,
        (λ u b. no_edge_at t u (λ v. not (edge_holds t u v)) (λ v e. rw (holds u v b e)), tt),
      ),
      refl,
    )

-- the cost after block 0 plus the figure, along any list that a counted run can follow
so_far : (t : Routine) → Facts t → (w : List ℕ) → path t 0 w ≡ true → keeps_limits t start w ≡ true → (pos (run_cost t w) +ℤ figure t (after t start w).block) ≤ℤ figure t 0
unfolding edge_holds inequality inequality_by
so_far t F w h k =
    account t F.nesting ◌≤ℤ◌ at_most le_z le_z_le (certificate t) F.holds F.nesting.loop0_multiplier w h
    (λ j l b m i o. remaining_left (multiplier t l) (limit t l) ((after t start (take j w)).count l) (keeps_each t w start k j b l m))

-- the claim at an index, of a list that starts at block 0
from_entry : (t : Routine) (b : ℤ) → Facts t → bound t ≡ b → (w : List ℕ) (k : ℕ) → k ≤ length w → path t 0 (take k w) ≡ true → keeps_limits t start (take k w) ≡ true
    → BoundedAt t b (0 ∷ w) k
unfolding run_cost bound start
from_entry t b F B w k h p q = record {
  so_far = total;
  finished = λ e. rw (← B) (omega (ints, total, sum (pos (cost t 0 + c)) f, diff g (figure t (exit t)), ap (λ (u : ℕ). up (figure t u)) e, ap (λ (u : ℕ). dn (figure t u)) e));
}
  where
    c : ℕ
    c = run_cost t (take k w)

    f : ℤ
    f = figure t (get_or (0 ∷ w) k 0)

    here : (pos c +ℤ f) ≤ℤ figure t 0
    here = rw (after_block t w k start h) at (so_far t F (take k w) p q)

    g : ℤ
    g = pos (cost t 0) +ℤ figure t 0

    total : (pos (cost t 0 + c) +ℤ f) ≤ℤ g
    total = omega (ints, here, sum (pos c) f, sum (pos (cost t 0 + c)) f, sum (pos (cost t 0)) (figure t 0))

-- demand 3
pub wcet_bound : (t : Routine) (b : ℤ) → table_reply t ≡ accepted b → WcetBound t b
wcet_bound t b e [] k h c = absurd (omega arith)
wcet_bound t b e (v ∷ w) k h c =
    let a : AllHold (table_rules t) × (bound t ≡ b) = ((replies_exactly t).accepts b).0 e in
    let C = counted_parts t v (take k w) c in
    rw C.starts (from_entry t b (facts t a.0) a.1 w k (omega arith) (rw C.starts at C.follows) C.keeps)

-- demand 3 holds of a checker whose reply is that of the rules
pub checked : (t : Routine) (r : Reply ℤ) → r ≡ table_reply t → Checked t r
checked t r e = record { replied = e; bounded = λ b q. wcet_bound t b (sym e ∙ q) }

-- a finished counted run costs no more than an accepted bound
pub finished_bounded : (t : Routine) (b : ℤ) → table_reply t ≡ accepted b → (w : List ℕ) → FinishedRun t w → pos (run_cost t w) ≤ℤ b
unfolding counted_run
finished_bounded t b e [] r = absurd (false≢true r.counted)
finished_bounded t b e (v ∷ w) r =
    let k : length (v ∷ w) - 1 ≡ length w = omega arith in
    rw (take-length w) at ((wcet_bound t b e (v ∷ w) (length w) (omega arith) (rw (take-length w) r.counted)).finished (rw k at r.at_exit))

-- "It may be negative; then no finished counted run exists."
pub none_finished : (t : Routine) → NegativeBound t
none_finished t b e negative w r = omega (ints, finished_bounded t b e w r)
