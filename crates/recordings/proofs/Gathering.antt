-- The pass over the commands, at the turn that begins at p, and what it leaves in the buffer. Assumes nothing.
use Rattle.std.proofs.Common.{◌≡◌, refl, sym, ap, ◌∙◌, Bool, false, List, [], ◌∷◌, ◌++◌, append-nil, append_assoc, ℕ, suc, ◌+◌, ◌-◌, ◌<◌, ◌≤◌, Option, Some, None, Ok, Err, zero-add, add-one, arith, eqb, cond, eq-eqb, ne_eqb, get_or, length, take, set, length-set, take-suc-set}
use Rattle.std.proofs.Math.Option.{none}
use Rattle.std.proofs.lemmas.Grind.{get_or-set_at}
use Rattle.limits.specs.Limits.{most_text_bytes}
use Rattle.wcet.specs.Rules.{Reply, accepted, refused}
use Rattle.vcd.specs.Syntax.{command, Reading, stopped, more}
use Rattle.vcd.specs.Recording.{changed, changes, recorded, counted, buffer_after, most_changes}
use Rattle.vcd.proofs.Lowest.{before, in_turn, few_values, lowest, lowest_changes}
use Rattle.commands.specs.Reads.{reading_from, Answer, follows, Moves, CommandRead}
use Rattle.commands.specs.declared.BadWord.{BadWord}
use Rattle.commands.specs.declared.Command.TheVariants.{Passed, Value as ValueAt, Ended}
use Rattle.declarations.specs.Reads.{BodyRead}
use Rattle.recordings.specs.Answers.{vcd_meaning, Begins, GatheredBy, TextRecorded}
use Rattle.recordings.proofs.Replies.{fault_counted, fault_buffer, fault_full}
use Rattle.recordings.specs.declared.VcdFault.{VcdFault}
use Rattle.recordings.specs.declared.VcdFault.TheVariants.{Word, NoPlace}

-- ---- the values so far, and the rest of the text

-- values in front of a reply
abbrev joined : List ℕ → Reply (List ℕ) → Reply (List ℕ)
joined us (accepted vs) = accepted (us ++ vs)
joined us (refused number place) = refused number place

joined_none : (y : Reply (List ℕ)) → y ≡ joined [] y
joined_none (accepted vs) = refl
joined_none (refused number place) = refl

joined_before : (us : List ℕ) (v : ℕ) (y : Reply (List ℕ)) → joined us (before v y) ≡ joined (us ++ v ∷ []) y
joined_before us v (accepted vs) = ap accepted (sym (append_assoc us (v ∷ []) vs))
joined_before us v (refused number place) = refl

-- what is left to say of a reading after the value `last`, if there is one, with so many places
abbrev left_of : (room : ℕ) (last : Option ℕ) → Reading → Reply (List ℕ)
left_of room None x = in_turn room (changes x.values) x.refusal
left_of room (Some v) x = in_turn room (changed v x.values) x.refusal

-- the last of so many values, which stand in the first places
abbrev pub last_of : (count : ℕ) (found : List ℕ) → Option ℕ
last_of count found = cond (eqb count 0) None (Some (get_or found (count - 1) 0))

last_stored : (count : ℕ) (found : List ℕ) (v : ℕ) → count < length found → last_of (count + 1) (set found count v) ≡ Some v
last_stored count found v h = rw (ne_eqb (count + 1) 0 (omega arith)) (ap Some (get_or-set_at found count (count + 1 - 1) v 0 (omega arith) h))

-- The turn that begins at p: `count` values are gathered, the last of them `last`, within a dump or not.
pub record Turn (named s : List ℕ) (room : ℕ) (found : List ℕ) (dump : Bool) (last : Option ℕ) (count p : ℕ) : Type 0 where
  pub within : count ≤ room
  pub sized : length found ≡ most_changes
  pub few : count + length (reading_from named s (command dump) p).values ≤ most_changes
  pub says : recorded named room s ≡ joined (take count found) (left_of (room - count) last (reading_from named s (command dump) p))

pub turn_start : (named s : List ℕ) (at room : ℕ) (found : List ℕ) → Begins named s at found → Turn named s room found false None 0 at
turn_start named s at room found b =
    let z : room - 0 ≡ room = omega arith in
    record {
      within = omega arith;
      sized = b.roomy;
      few = rw zero-add (rw b.reads at (few_values named s b.short));
      says = lowest_changes named room s ∙ rw (b.reads, z) (joined_none (left_of room None (reading_from named s (command false) at)));
    }

-- what a refusal or the end of the text leaves to say, whatever the last value was
left_stopped : (room : ℕ) (last : Option ℕ) (place : ℕ) → left_of room last (stopped place) ≡ refused 432 place
unfolding changed changes in_turn
left_stopped room None place = refl
left_stopped room (Some v) place = refl

left_ended : (room : ℕ) (last : Option ℕ) → left_of room last (record { values = []; refusal = none }) ≡ accepted []
unfolding changed changes in_turn
left_ended room None = refl
left_ended room (Some v) = refl

-- a value that is not repeated
left_full : (last : Option ℕ) (value place : ℕ) (x : Reading) → (last ≡ Some value → ⊥) → left_of 0 last (more value place x) ≡ refused 433 place
unfolding changed changes in_turn
left_full None value place x h = refl
left_full (Some v) value place x h = rw (ne_eqb value v (λ e. h (ap Some (sym e))))

left_new : (room : ℕ) (last : Option ℕ) (value place : ℕ) (x : Reading) → (last ≡ Some value → ⊥) → left_of (suc room) last (more value place x) ≡ before value (left_of room (Some value) x)
unfolding changed changes in_turn
left_new room None value place x h = refl
left_new room (Some v) value place x h = rw (ne_eqb value v (λ e. h (ap Some (sym e))))

left_same : (room : ℕ) (last : Option ℕ) (value place : ℕ) (x : Reading) → last ≡ Some value → left_of room last (more value place x) ≡ left_of room last x
unfolding changed
left_same room last value place x e = rw (e, eq-eqb value value refl)

module _ (named s : List ℕ) (room : ℕ) (found : List ℕ) (dump : Bool) (last : Option ℕ) (count p : ℕ) (t : Turn named s room found dump last count p) {r : Answer} (c : CommandRead named s p dump r) where
  -- the reading by what the command was
  reads : (k : Answer) → r ≡ k → reading_from named s (command dump) p ≡ follows named s dump k
  reads k e = c.reads ∙ rw e

  moves : (k : Answer) → r ≡ k → Moves s p k
  moves k e = rw e at c.moves

  pub turn_passed : (to : ℕ) (on : Bool) → r ≡ Ok (Passed to on) → Turn named s room found on last count to
  turn_passed to on e =
      let q = reads (Ok (Passed to on)) e in
      record { within = t.within; sized = t.sized; few = rw q at t.few; says = t.says ∙ rw q }

  pub less_passed : (to : ℕ) (on : Bool) → r ≡ Ok (Passed to on) → length s - to < length s - p
  less_passed to on e = let m = moves (Ok (Passed to on)) e in omega (arith, m.0, m.1)

  pub turn_bad : (e : BadWord) → r ≡ Err e → GatheredBy (recorded named room s) room found (Err (Word e.0))
  turn_bad e f =
      let q : recorded named room s ≡ refused 432 e.0 = t.says ∙ rw (reads (Err e) f, left_stopped (room - count) last e.0) in
      (q, λ l place z. let n : ◌≡◌ {A = ℕ} 432 433 = cc in omega arith)

  pub turn_ended : r ≡ Ok Ended → GatheredBy (recorded named room s) room found (Ok count)
  turn_ended e = (t.says ∙ rw (reads (Ok Ended) e, left_ended (room - count) last, append-nil (take count found)), t.within, omega (arith, t.few, t.sized))

  module _ (value place to : ℕ) (e : r ≡ Ok (ValueAt value place to)) where
    value_reads : reading_from named s (command dump) p ≡ more value place (reading_from named s (command dump) to)
    value_reads = reads (Ok (ValueAt value place to)) e

    value_few : count + suc (length (reading_from named s (command dump) to).values) ≤ most_changes
    value_few = rw value_reads at t.few

    pub less_value : length s - to < length s - p
    less_value = let m = moves (Ok (ValueAt value place to)) e in omega (arith, m.0, m.1)

    pub turn_same : last ≡ Some value → Turn named s room found dump last count to
    turn_same h = record {
      within = t.within;
      sized = t.sized;
      few = omega (arith, value_few);
      says = t.says ∙ rw (value_reads, left_same (room - count) last value place (reading_from named s (command dump) to) h);
    }

    module _ (h : last ≡ Some value → ⊥) where
      pub turn_full : room ≤ count → GatheredBy (recorded named room s) room found (Err (NoPlace place))
      turn_full l =
          let z : room - count ≡ 0 = omega arith in
          (t.says ∙ rw (value_reads, z, left_full last value place (reading_from named s (command dump) to) h), λ m q y. omega (arith, value_few))

      pub turn_stored : count < length found
      turn_stored = omega (arith, value_few, t.sized)

      pub turn_new : count < room → Turn named s room (set found count value) dump (Some value) (count + 1) to
      turn_new l =
          let z : room - count ≡ suc (room - (count + 1)) = omega arith in
          let k : take count found ++ value ∷ [] ≡ take (count + 1) (set found count value) = sym (rw (add-one count) (take-suc-set found count value turn_stored)) in
          let y : Reply (List ℕ) = left_of (room - (count + 1)) (Some value) (reading_from named s (command dump) to) in
          record {
            within = omega arith;
            sized = length-set found count value ∙ t.sized;
            few = omega (arith, value_few);
            says = t.says ∙ rw (value_reads, z, left_new (room - (count + 1)) last value place (reading_from named s (command dump) to) h) (joined_before (take count found) value y ∙ ap (λ (us : List ℕ). joined us y) k);
          }

      -- the same, where the last value is read in the array
      pub turn_read : count < room → Turn named s room (set found count value) dump (last_of (count + 1) (set found count value)) (count + 1) to
      turn_read l = rw (last_stored count found value turn_stored) (turn_new l)

-- ---- the text

module _ (s named before : List ℕ) (found : List ℕ) where
  pub text_faulted : (f : VcdFault) → GatheredBy (recorded named (length before) s) (length before) found (Err f) → TextRecorded s named before (vcd_meaning (Err f)) before
  text_faulted f h = record { replied = fault_counted f ∙ ap counted (sym h.0); buffer = fault_buffer before f ∙ ap (buffer_after before) (sym h.0); roomy = λ l place e. h.1 l place (h.0 ∙ fault_full f place e) }

-- the declarations
pub body_begins : (named s found : List ℕ) (at : ℕ) → length s ≤ most_text_bytes → length found ≡ most_changes → BodyRead named s (Ok at) → Begins named s at found
body_begins named s found at l r q = record { short = l; roomy = r; reads = q }

pub text_refused : (named s before : List ℕ) (e : BadWord) → BodyRead named s (Err e) → TextRecorded s named before (vcd_meaning (Err (Word e.0))) before
unfolding changed in_turn
text_refused named s before e q =
    let h : recorded named (length before) s ≡ refused 432 e.0 = lowest named (length before) s ∙ rw q in
    record { replied = rw h; buffer = rw h; roomy = λ l p f. let z : ◌≡◌ {A = ℕ} 432 433 = cc in omega arith }
