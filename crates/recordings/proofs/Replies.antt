-- The reply to a recording from what is looked at in turn: the tables, the edges to themselves, the text. Assumes nothing.
use Rattle.std.proofs.Common.{◌≡◌, refl, sym, ap, ap₂, ◌∙◌, List, [], ◌∷◌, ℕ, ◌<◌, ◌≤◌, Option, Some, None, Ok, Err, length, arith, lt-ltb, le-ltb}
use Rattle.lists.specs.Search.{first_below}
use Rattle.limits.specs.Limits.{most_text_bytes}
use Rattle.wcet.specs.Table.{Routine, block_count, some_edge, edge}
use Rattle.wcet.specs.Rules.{Reply, refused, check, structure_rules}
use Rattle.wcet.proofs.Replies.{past_all}
use Rattle.nesting.specs.Columns.{Sized}
use Rattle.nesting.specs.Answers.{refusal, StructureChecked}
use Rattle.nesting.specs.declared.StructureFault.{StructureFault}
use Rattle.nesting.specs.declared.StructureFault.TheVariants.{Sizes, Loop, Block, Header, Depth, EntryOrExit, PastHeader}
use Rattle.nesting.proofs.Chain.{refused_by, refusal_stands, sound_holds, place_decides, place_clear}
use Rattle.nesting.proofs.Stages.{headed}
use Rattle.vcd.specs.Recording.{recorded, self_edge_rule, text_rule, recording_reply, counted, buffer_after, Recorded}
use Rattle.recordings.specs.Answers.{fault_meaning, vcd_meaning, first_self_edge, TextRecorded}
use Rattle.recordings.specs.declared.VcdFault.{VcdFault}
use Rattle.recordings.specs.declared.VcdFault.TheVariants.{Structure, SelfEdge, TextLength, Word, NoPlace}

-- ---- refusals, whatever the reply's value would be

faulted_by : (f : VcdFault) → (n p : ℕ) × ((A : Type 0) → fault_meaning {A = A} f ≡ refused n p)
faulted_by (Structure f) = refused_by f
faulted_by (SelfEdge u) = (431, u, λ A. refl)
faulted_by TextLength = (101, 0, λ A. refl)
faulted_by (Word p) = (432, p, λ A. refl)
faulted_by (NoPlace p) = (433, p, λ A. refl)

pub fault_counted : (f : VcdFault) → fault_meaning f ≡ counted (fault_meaning f)
fault_counted f = let k = faulted_by f in k.2 ℕ ∙ sym (ap counted (k.2 (List ℕ)))

pub fault_buffer : (before : List ℕ) (f : VcdFault) → before ≡ buffer_after before (fault_meaning f)
fault_buffer before f = sym (ap (buffer_after before) ((faulted_by f).2 (List ℕ)))

-- 433 of one type is 433 of the other
pub fault_full : (f : VcdFault) (place : ℕ) → ◌≡◌ {A = Reply ℕ} (fault_meaning f) (refused 433 place) → ◌≡◌ {A = Reply (List ℕ)} (fault_meaning f) (refused 433 place)
fault_full f place e =
    let k = faulted_by f in
    let q : ◌≡◌ {A = Reply ℕ} (refused k.0 k.1) (refused 433 place) = sym (k.2 ℕ) ∙ e in
    let n : k.0 ≡ 433 = cc in
    let p : k.1 ≡ place = cc in
    k.2 (List ℕ) ∙ ap₂ refused n p

-- ---- 431

-- the routine of the two columns has the same edges
self_edges : (t : Routine) → length t.firsts ≡ block_count t → first_self_edge t.firsts t.seconds ≡ first_below (block_count t) (λ u. edge t u u)
unfolding first_self_edge edge some_edge
self_edges t e = rw e

-- ---- the replies in turn

apart : (n p place : ℕ) → n < 433 → ◌≡◌ {A = Reply (List ℕ)} (refused n p) (refused 433 place) → ⊥
apart n p place h e = let z : n ≡ 433 = cc in omega arith

-- no refusal of the tables is 433
not_full : (f : StructureFault) (place : ℕ) → refusal {A = List ℕ} f ≡ refused 433 place → ⊥
not_full Sizes place e = apart 201 0 place (omega arith) e
not_full (Loop l) place e = apart 202 l place (omega arith) e
not_full (Block u) place e = apart 203 u place (omega arith) e
not_full (Header l) place e = apart 204 l place (omega arith) e
not_full (Depth l) place e = apart 205 l place (omega arith) e
not_full (EntryOrExit u) place e = apart 206 u place (omega arith) e
not_full (PastHeader u) place e = apart 207 u place (omega arith) e

module _ (t : Routine) (sets : List ℕ) (C : StructureChecked t (Ok sets)) where
  sized : Sized t
  sized = (headed t (sound_holds t sets C)).ranged.sized

  -- what the search for 431 asks for
  pub two_columns : length t.firsts ≡ length t.seconds
  two_columns = sized.firsts ∙ sym sized.seconds

  pub few_successors : length t.firsts ≤ 65535
  few_successors = omega (arith, sized.firsts, sized.few_blocks)

module _ (t : Routine) (s named before : List ℕ) where
  -- a refusal of the whole
  refuses : (f : VcdFault) → ((place : ℕ) → fault_meaning {A = List ℕ} f ≡ refused 433 place → ⊥) → fault_meaning f ≡ recording_reply t s named (length before) → Recorded t s named before (vcd_meaning (Err f)) before
  refuses f n q = record { replied = fault_counted f ∙ ap counted q; buffer = fault_buffer before f ∙ ap (buffer_after before) q; roomy = λ l place e. n place (fault_full f place e) }

  pub vcd_structure : (f : StructureFault) → StructureChecked t (Err f) → Recorded t s named before (vcd_meaning (Err (Structure f))) before
  unfolding recording_reply
  vcd_structure f C = refuses (Structure f) (not_full f) (refusal_stands t f C (self_edge_rule t ∷ text_rule s ∷ []) (recorded named (length before) s))

  module _ (sets : List ℕ) (C : StructureChecked t (Ok sets)) (place : Option ℕ) (found : place ≡ first_self_edge t.firsts t.seconds) where
    q : place ≡ first_below (block_count t) (λ u. edge t u u)
    q = found ∙ self_edges t (sized t sets C).firsts

    after_structure : recording_reply t s named (length before) ≡ check (self_edge_rule t ∷ text_rule s ∷ []) (recorded named (length before) s)
    unfolding recording_reply
    after_structure = past_all (structure_rules t) (self_edge_rule t ∷ text_rule s ∷ []) (recorded named (length before) s) (sound_holds t sets C)

    pub vcd_self : (u : ℕ) → place ≡ Some u → Recorded t s named before (vcd_meaning (Err (SelfEdge u))) before
    vcd_self u e =
        refuses (SelfEdge u) (λ p z. let n : ◌≡◌ {A = ℕ} 431 433 = cc in omega arith) (place_decides (block_count t) (λ u. edge t u u) place q 431 (text_rule s ∷ []) (recorded named (length before) s) u e ∙ sym after_structure)

    module _ (e : place ≡ None) where
      after_edges : recording_reply t s named (length before) ≡ check (text_rule s ∷ []) (recorded named (length before) s)
      after_edges = after_structure ∙ sym (place_clear (block_count t) (λ u. edge t u u) place q 431 (text_rule s ∷ []) (recorded named (length before) s) e)

      pub vcd_long : most_text_bytes < length s → Recorded t s named before (vcd_meaning (Err TextLength)) before
      unfolding check first_below
      vcd_long h = refuses TextLength (λ p z. let n : ◌≡◌ {A = ℕ} 101 433 = cc in omega arith) (sym (after_edges ∙ rw (lt-ltb most_text_bytes (length s) h)))

      pub vcd_text : {x : Reply ℕ} {after : List ℕ} → length s ≤ most_text_bytes → TextRecorded s named before x after → Recorded t s named before x after
      unfolding check first_below
      vcd_text h x =
          let f : recording_reply t s named (length before) ≡ recorded named (length before) s = after_edges ∙ rw (le-ltb most_text_bytes (length s) h) in
          record { replied = x.replied ∙ ap counted (sym f); buffer = x.buffer ∙ ap (buffer_after before) (sym f); roomy = x.roomy }
