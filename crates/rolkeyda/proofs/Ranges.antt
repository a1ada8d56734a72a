-- The numbers of every reply fit their widths: a place is at most 1,048,576, a cost at most 1,000,000 times that, a row count at most
-- 1,024. Assumes nothing.
use mathlib.Core.Path.{◌≡◌, refl, sym, ◌∙◌, ap}
use mathlib.Core.Bool.{Bool, true, false, not}
use mathlib.Core.List.{List, [], ◌∷◌, ◌++◌}
use Rattle.std.specs.Prelude.{Option, Some, None, Result, Ok, Err}
use Prim.Native.Nat.{ℕ, suc, ◌+◌, ◌-◌, ◌*◌, ◌≤◌}
use native.Mathlib.Omega.{arith}
use lib.Dec.{eqb, ltb}
use lib.ListN.{length}
use borrow.Author.Tests.{ltb-false}
use Rattle.lists.specs.Search.{when◌then◌else◌, first_below}
use Rattle.lists.proofs.Search.{Lowest, not_found, found_lowest}
use Rattle.lists.proofs.Tests.{or_false}
use Rattle.integers.proofs.Laws.{ints}
use Rattle.wcet.specs.Table.{Routine, block_count, exit, edge}
use Rattle.wcet.specs.Rules.{Reply as Answer, accepted, refused, Rule, refused_at, check, sizes_wrong, structure_rules, undeclared_rule, table_rules, bound, table_reply}
use Rattle.wcet.specs.Run.{State, start, next, passes_limit, run_cost}
use Rattle.limits.specs.Limits.{most_blocks, most_text_bytes, longest_walk}
use Rattle.wcet.specs.Walk.{Walked, walked, length_rule, walk_from, walk_blocks, walk_reply}
use Rattle.wcet.specs.Shortest.{LowCertificate, low_bound, low_sizes_wrong, shortest_rules, shortest_reply}
use Rattle.wcet.specs.Claim.{AllHold, FinishedRun}
use Rattle.wcet.proofs.Replies.{decides, hands_on, all_append, passes}
use Rattle.wcet.specs.Tally.{columns_rule, recording_from, recording_blocks, tally_reply}
use Rattle.wcet.proofs.Walks.{unrefused, finishes, accepted_walk}
use Rattle.optimum.specs.Columns.{remade}
use Rattle.optimum.specs.Replies.{given_rules, solve_rules, solve_reply}
use Rattle.mps.specs.Text.{mps_text}
use Rattle.mps.specs.Reply.{mps_rules, mps_reply, longest_text}
use Rattle.writer.proofs.Longest.{text_fits}
use Rattle.nesting.specs.Columns.{Sized, Ranged}
use Rattle.nesting.proofs.Stages.{fits, headed, cost_anywhere}
use Rattle.vcd.specs.Recording.{recorded, self_edge_rule, text_rule, recording_reply, most_changes}
use Rattle.vcd.proofs.Lowest.{recorded_place, recorded_few}
use Rattle.tables.specs.Table as table
use Rattle.tables.specs.Table.{End, all, Reading}
use Rattle.tables.specs.Columns.{reply_by, reply_of}
use Rattle.tables.specs.declared.Rows.{Rows}
use Rattle.tables.specs.declared.ReadFault.{ReadFault}
use Rattle.tables.proofs.Sizes.{Short}
use Rattle.replies.specs.declared.Reply.{Reply}
use Rattle.replies.specs.Fields.{of_reading, PlaceFits, ValueFits}

-- ---- a list of rules

-- no rule has more than m places
abbrev Within : ℕ → List Rule → Type 0
Within m [] = Unit {0}
Within m (r ∷ rs) = (r.places ≤ m) × Within m rs

within : {A : Type 0} (m : ℕ) (rs : List Rule) (passed : Answer A) (n p : ℕ) → Within m rs → (AllHold rs → passed ≡ refused n p → p ≤ m) → check rs passed ≡ refused n p → p ≤ m
unfolding check
within m [] passed n p W rest e = rest tt e
within {A} m (r ∷ rs) passed n p W rest e = go (first_below r.places r.broken) refl e (within m rs passed n p W.1)
  where
    go : (o : Option ℕ) → first_below r.places r.broken ≡ o → refused_at {A = A} r.number o (check rs passed) ≡ refused n p
        → ((AllHold rs → passed ≡ refused n p → p ≤ m) → check rs passed ≡ refused n p → p ≤ m) → p ≤ m
    go (Some q) f e later =
        let l : Lowest r.places r.broken q = found_lowest r.places r.broken q f in
        let there : q ≡ p = cc in
        omega (arith, l.below, W.0)
    go None f e later = later (λ h. rest (not_found r.places r.broken f, h)) e

-- 201 is broken at place 0 or hands on
sizes_within : {A : Type 0} (wrong : Bool) (m : ℕ) (rs : List Rule) (passed : Answer A) (n p : ℕ) → (wrong ≡ false → check rs passed ≡ refused n p → p ≤ m)
    → check (record { number = 201; places = 1; broken = λ _. wrong } ∷ rs) passed ≡ refused n p → p ≤ m
sizes_within {A} wrong m rs passed n p later e = go wrong refl
  where
    sizes : Rule
    sizes = record { number = 201; places = 1; broken = λ _. wrong }

    go : (b : Bool) → wrong ≡ b → p ≤ m
    go true s =
        let at_0 : ◌≡◌ {A = Answer A} (refused 201 0) (refused n p) = sym (decides sizes rs passed 0 (record { below = omega arith; passes = s; lower = λ j h. absurd (omega arith) })) ∙ e in
        let there : 0 ≡ p = cc in
        omega arith
    go false s = later s (sym (hands_on sizes rs passed (λ q h. s)) ∙ e)

-- where it holds of the tables, their columns are short
sized_within : {A : Type 0} (t : Routine) (m : ℕ) (rs : List Rule) (passed : Answer A) (n p : ℕ) → (Sized t → Within m rs) → (AllHold rs → passed ≡ refused n p → p ≤ m)
    → check (record { number = 201; places = 1; broken = λ _. sizes_wrong t } ∷ rs) passed ≡ refused n p → p ≤ m
sized_within t m rs passed n p W rest = sizes_within (sizes_wrong t) m rs passed n p (λ s. within m rs passed n p (W (fits t s)) rest)

-- 101
text_kept : (s : List ℕ) → AllHold (text_rule s ∷ []) → length s ≤ most_text_bytes
text_kept s h = ltb-false most_text_bytes (length s) (h.0 0 (omega arith))

-- ---- tables

pub table_place : (t : Routine) (n p : ℕ) → table_reply t ≡ refused n p → p ≤ longest_walk
unfolding table_reply table_rules structure_rules
table_place t n p e =
    sized_within t longest_walk _ (accepted (bound t)) n p
    (λ S.
    let b : block_count t ≤ longest_walk = omega (arith, S.few_blocks) in
    let l : length t.parents ≤ longest_walk = omega (arith, S.few_loops) in
    (l, (b, (l, (l, (b, (b, (omega arith, (b, tt)))))))))
    (λ h q. absurd (let z : ◌≡◌ {A = ℕ} 0 1 = cc in omega arith)) e

pub shortest_place : (t : Routine) (c : LowCertificate) (n p : ℕ) → shortest_reply t c ≡ refused n p → p ≤ longest_walk
unfolding shortest_reply shortest_rules structure_rules
shortest_place t c n p e =
    sizes_within (low_sizes_wrong t c) longest_walk _ (accepted (low_bound t c)) n p
    (λ z.
    sized_within t longest_walk _ (accepted (low_bound t c)) n p
    (λ S.
    let b : block_count t ≤ longest_walk = omega (arith, S.few_blocks) in
    let l : length t.parents ≤ longest_walk = omega (arith, S.few_loops) in
    (l, (b, (l, (l, (b, (b, (omega arith, (l, (b, (b, tt)))))))))))
    (λ h q. absurd (let z : ◌≡◌ {A = ℕ} 0 1 = cc in omega arith))) e

pub solve_place : (t : Routine) (n p : ℕ) → solve_reply t ≡ refused n p → p ≤ longest_walk
unfolding solve_reply solve_rules structure_rules
solve_place t n p e =
    sized_within t longest_walk _ (accepted (bound (remade t))) n p
    (λ S.
    let b : block_count t ≤ longest_walk = omega (arith, S.few_blocks) in
    let l : length t.parents ≤ longest_walk = omega (arith, S.few_loops) in
    (l, (b, (l, (l, (b, (b, (omega arith, (b, (omega arith, (omega arith, tt)))))))))))
    (λ h q. absurd (let z : ◌≡◌ {A = ℕ} 0 1 = cc in omega arith)) e

pub text_place : (t : Routine) (room n p : ℕ) → mps_reply t room ≡ refused n p → p ≤ longest_walk
unfolding mps_reply mps_rules structure_rules
text_place t room n p e =
    sized_within t longest_walk _ (accepted (length (mps_text t))) n p
    (λ S.
    let b : block_count t ≤ longest_walk = omega (arith, S.few_blocks) in
    let l : length t.parents ≤ longest_walk = omega (arith, S.few_loops) in
    (l, (b, (l, (l, (b, (b, (omega arith, (omega arith, tt)))))))))
    (λ h q. absurd (let z : ◌≡◌ {A = ℕ} 0 1 = cc in omega arith)) e

-- an accepted length is that of the text
pub text_length : (t : Routine) (room n : ℕ) → mps_reply t room ≡ accepted n → n ≤ longest_text
unfolding mps_reply mps_rules
text_length t room n e =
    let p = passes (mps_rules t room) (accepted (length (mps_text t))) n e in
    let h = (all_append (structure_rules t) (undeclared_rule t ∷ []) (all_append (given_rules t) _ p.0).0).0 in
    let same : length (mps_text t) ≡ n = cc in
    omega (arith, text_fits t h)

-- ---- walks

from_place : (t : Routine) (s : State) (i : ℕ) (w : List ℕ) (x : Walked) (n p : ℕ) → walk_from t s i w (accepted x) ≡ refused n p → p ≤ i + length w
unfolding walk_from
from_place t s i [] x n p e = go (eqb s.block (exit t)) e
  where
    go : (b : Bool) → (when b then accepted x else refused 314 i) ≡ refused n p → p ≤ i + 0
    go true e = absurd (let z : ◌≡◌ {A = ℕ} 0 1 = cc in omega arith)
    go false e = let there : i ≡ p = cc in omega arith
from_place t s i (v ∷ w) x n p e = go (not (ltb v (block_count t))) (eqb s.block (exit t)) (not (edge t s.block v)) (passes_limit t (next t s v)) e (from_place t (next t s v) (suc i) w x n p)
  where
    rest : Answer Walked
    rest = walk_from t (next t s v) (suc i) w (accepted x)

    here : i ≡ p → p ≤ i + suc (length w)
    here e = omega arith

    go : (a b c d : Bool) → (when a then refused 302 i else when b then refused 311 i else when c then refused 312 i else when d then refused 313 i else rest) ≡ refused n p
        → (rest ≡ refused n p → p ≤ suc i + length w) → p ≤ i + suc (length w)
    go true b c d e later = here cc
    go false true c d e later = here cc
    go false false true d e later = here cc
    go false false false true e later = here cc
    go false false false false e later = omega (arith, later e)

blocks_place : (t : Routine) (w : List ℕ) (x : Walked) (n p : ℕ) → walk_blocks t w (accepted x) ≡ refused n p → p ≤ length w
unfolding walk_blocks
blocks_place t [] x n p e = absurd (let z : ◌≡◌ {A = ℕ} 0 1 = cc in omega arith)
blocks_place t (v ∷ w) x n p e = go (not (ltb v (block_count t))) (not (eqb v 0)) e
  where
    first : 0 ≡ p → p ≤ suc (length w)
    first e = omega arith

    go : (a b : Bool) → (when a then refused 302 0 else when b then refused 303 0 else walk_from t start 1 w (accepted x)) ≡ refused n p → p ≤ suc (length w)
    go true b e = first cc
    go false true e = first cc
    go false false e = omega (arith, from_place t start 1 w x n p e)

-- 301
length_kept : (w : List ℕ) → AllHold (length_rule w ∷ []) → length w ≤ longest_walk
length_kept w h = ltb-false longest_walk (length w) (or_false (ltb (length w) 1) (ltb longest_walk (length w)) (h.0 0 (omega arith))).1

pub walk_place : (t : Routine) (w : List ℕ) (n p : ℕ) → walk_reply t w ≡ refused n p → p ≤ longest_walk
unfolding walk_reply structure_rules
walk_place t w n p e =
    sized_within t longest_walk _ (walk_blocks t w (accepted (walked t w))) n p
    (λ S.
    let b : block_count t ≤ longest_walk = omega (arith, S.few_blocks) in
    let l : length t.parents ≤ longest_walk = omega (arith, S.few_loops) in
    (l, (b, (l, (l, (b, (b, (omega arith, tt))))))))
    (λ h q. let few : length w ≤ longest_walk = length_kept w h.1.1.1.1.1.1 in omega (arith, blocks_place t w (walked t w) n p q)) e

run_most : (t : Routine) → Ranged t → (w : List ℕ) → run_cost t w ≤ length w * 1000000
unfolding run_cost
run_most t R [] = omega arith
run_most t R (v ∷ w) = omega (arith, cost_anywhere t R v, run_most t R w)

-- an accepted walk is a finished counted run, with its cost and its length less one
pub record Finished (t : Routine) (w : List ℕ) (x : Walked) : Type 0 where
  pub run : FinishedRun t w
  pub same : x ≡ walked t w
  pub most : x.total ≤ longest_walk * 1000000

pub walk_finished : (t : Routine) (w : List ℕ) (x : Walked) → walk_reply t w ≡ accepted x → Finished t w x
walk_finished t w x e =
    let a = accepted_walk t w x e in
    let total : run_cost t w ≡ x.total = ap (λ (y : Walked). y.total) a.result in
    record { run = a.finished; same = sym a.result; most = omega (arith, a.short, run_most t (headed t a.rules).ranged w) }

-- ---- recordings

recording_from_place : (t : Routine) (u i : ℕ) (w : List ℕ) (k n p : ℕ) → recording_from t u i w (accepted k) ≡ refused n p → p ≤ i + length w
unfolding recording_from
recording_from_place t u i [] k n p e = go (eqb u (exit t)) e
  where
    go : (b : Bool) → (when b then accepted k else refused 314 i) ≡ refused n p → p ≤ i + 0
    go true e = absurd (let z : ◌≡◌ {A = ℕ} 0 1 = cc in omega arith)
    go false e = let there : i ≡ p = cc in omega arith
recording_from_place t u i (v ∷ w) k n p e = go (not (ltb v (block_count t))) (eqb u (exit t)) (not (edge t u v)) e (recording_from_place t v (suc i) w k n p)
  where
    rest : Answer ℕ
    rest = recording_from t v (suc i) w (accepted k)

    here : i ≡ p → p ≤ i + suc (length w)
    here e = omega arith

    go : (a b c : Bool) → (when a then refused 302 i else when b then refused 311 i else when c then refused 312 i else rest) ≡ refused n p
        → (rest ≡ refused n p → p ≤ suc i + length w) → p ≤ i + suc (length w)
    go true b c e later = here cc
    go false true c e later = here cc
    go false false true e later = here cc
    go false false false e later = omega (arith, later e)

recording_place : (t : Routine) (w : List ℕ) (k n p : ℕ) → recording_blocks t w (accepted k) ≡ refused n p → p ≤ length w
unfolding recording_blocks
recording_place t [] k n p e = absurd (let z : ◌≡◌ {A = ℕ} 0 1 = cc in omega arith)
recording_place t (v ∷ w) k n p e = go (not (ltb v (block_count t))) (not (eqb v 0)) e
  where
    first : 0 ≡ p → p ≤ suc (length w)
    first e = omega arith

    go : (a b : Bool) → (when a then refused 302 0 else when b then refused 303 0 else recording_from t 0 1 w (accepted k)) ≡ refused n p → p ≤ suc (length w)
    go true b e = first cc
    go false true e = first cc
    go false false e = omega (arith, recording_from_place t 0 1 w k n p e)

from_steps : (t : Routine) (u i : ℕ) (w : List ℕ) (k n : ℕ) → recording_from t u i w (accepted k) ≡ accepted n → k ≡ n
unfolding recording_from
from_steps t u i [] k n e = cc (finishes (eqb u (exit t)) 314 i (accepted k) n e).1
from_steps t u i (v ∷ w) k n e =
    let a = unrefused (not (ltb v (block_count t))) 302 i _ n e in
    let b = unrefused (eqb u (exit t)) 311 i _ n a.1 in
    let c = unrefused (not (edge t u v)) 312 i (recording_from t v (suc i) w (accepted k)) n b.1 in
    from_steps t v (suc i) w k n c.1

recorded_steps : (t : Routine) (w : List ℕ) (k n : ℕ) → recording_blocks t w (accepted k) ≡ accepted n → k ≡ n
unfolding recording_blocks
recorded_steps t [] k n e = cc e
recorded_steps t (v ∷ w) k n e =
    let a = unrefused (not (ltb v (block_count t))) 302 0 _ n e in
    let b = unrefused (not (eqb v 0)) 303 0 (recording_from t 0 1 w (accepted k)) n a.1 in
    from_steps t 0 1 w k n b.1

pub tally_place : (t : Routine) (w stayed visited : List ℕ) (n p : ℕ) → tally_reply t w stayed visited ≡ refused n p → p ≤ longest_walk
unfolding tally_reply structure_rules
tally_place t w stayed visited n p e =
    sized_within t longest_walk _ (recording_blocks t w (accepted (length w - 1))) n p
    (λ S.
    let b : block_count t ≤ longest_walk = omega (arith, S.few_blocks) in
    let l : length t.parents ≤ longest_walk = omega (arith, S.few_loops) in
    (l, (b, (l, (l, (b, (b, (omega arith, (omega arith, tt)))))))))
    (λ h q. let few : length w ≤ longest_walk = length_kept w h.1.1.1.1.1.1.1 in omega (arith, recording_place t w (length w - 1) n p q)) e

-- an accepted step count is that of the walk
pub tally_steps : (t : Routine) (w stayed visited : List ℕ) (k : ℕ) → tally_reply t w stayed visited ≡ accepted k → k ≤ longest_walk
unfolding tally_reply
tally_steps t w stayed visited k e =
    let p = passes (structure_rules t ++ columns_rule t stayed visited ∷ length_rule w ∷ []) (recording_blocks t w (accepted (length w - 1))) k e in
    let h = all_append (structure_rules t) (columns_rule t stayed visited ∷ length_rule w ∷ []) p.0 in
    let few : length w ≤ longest_walk = length_kept w h.1.1 in
    omega (arith, recorded_steps t w (length w - 1) k p.1)

-- ---- recordings as texts

pub vcd_place : (t : Routine) (s named : List ℕ) (room n p : ℕ) → recording_reply t s named room ≡ refused n p → p ≤ longest_walk
unfolding recording_reply structure_rules
vcd_place t s named room n p e =
    sized_within t longest_walk _ (recorded named room s) n p
    (λ S.
    let b : block_count t ≤ longest_walk = omega (arith, S.few_blocks) in
    let l : length t.parents ≤ longest_walk = omega (arith, S.few_loops) in
    (l, (b, (l, (l, (b, (b, (b, (omega arith, tt)))))))))
    (λ h q. let few : length s ≤ most_text_bytes = text_kept s h.1.1.1.1.1.1.1 in omega (arith, recorded_place named room s n p q)) e

pub vcd_count : (t : Routine) (s named : List ℕ) (room : ℕ) (vs : List ℕ) → recording_reply t s named room ≡ accepted vs → length vs ≤ most_changes
unfolding recording_reply
vcd_count t s named room vs e =
    let p = passes (structure_rules t ++ self_edge_rule t ∷ text_rule s ∷ []) (recorded named room s) vs e in
    let h = all_append (structure_rules t) (self_edge_rule t ∷ text_rule s ∷ []) p.0 in
    recorded_few named room s vs (text_kept s h.1.1) p.1

-- ---- readings

pub record Small (r : Reply) : Type 0 where
  pub place : PlaceFits r
  pub value : ValueFits r

pub reading_small : {A : Type 0} (x : Reading A) {room : ℕ} → Short room (2 + room) 0 x → room ≤ most_blocks → {a : Result Rows ReadFault} → a ≡ reply_of x → Small (of_reading a)
reading_small x {room} S few e = rw e (go x.end refl)
  where
    go : (y : End) → x.end ≡ y → Small (of_reading (reply_by (length x.rows) y))
    go (all first) q = record { place = record { place = omega arith }; value = record { value = omega (ints, S.rows) } }
    go (table.refused f) q = record { place = record { place = omega (arith, S.place f q) }; value = record { value = omega ints } }
