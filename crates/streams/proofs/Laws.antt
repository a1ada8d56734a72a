-- The loops of read_all and write_all: the calls so far, and what one more call adds to them. Assumes nothing.
use Rattle.std.proofs.Common.{◌≡◌, ℕ, zero, suc, ◌+◌, ◌-◌, ◌≤◌, ◌<◌, Bool, true, false, List, [], ◌∷◌, ◌++◌, ℤ, Option, None, Some, refl, sym, ◌∙◌, ap, arith, length, take, drop, append_assoc, length-drop}
use mathlib.Core.List.{append-nil}
use lib.ListN.{length-take, drop_of_length-le}
use lib.Seq.{take_all, take-add, drop_at, length-take-le, take-append-le, drop-drop}
use borrow.Rule.Slice.PartMut.{put_mid, take_put, post_of}
use Rattle.std.specs.Option.{unwrap_or}
use Rattle.streams.specs.Calls.{Moved, Call, Answered, Took, After, ReadCalls, bytes_of, AllRead, WriteCalls, WroteTo}

-- ---- reading

bytes_both : (xs ys : List Call) → bytes_of (xs ++ ys) ≡ bytes_of xs ++ bytes_of ys
unfolding bytes_of
bytes_both [] ys = refl
bytes_both (x ∷ xs) ys = ap (λ (s : List ℕ). take (unwrap_or x.answer 0) x.lent ++ s) (bytes_both xs ys) ∙ sym (append_assoc (take (unwrap_or x.answer 0) x.lent) (bytes_of xs) (bytes_of ys))

bytes_one : (call : Call) → bytes_of (call ∷ []) ≡ take (unwrap_or call.answer 0) call.lent
unfolding bytes_of
bytes_one call = append-nil (take (unwrap_or call.answer 0) call.lent)

-- the calls so far put len bytes into the buffer; with those that follow, they are the calls of the whole reading
pub record ReadSoFar (fd : ℤ) (room : ℕ) (buffer : List ℕ) (len : ℕ) : Type 0 where
  calls : List Call
  bytes : take len buffer ≡ bytes_of calls
  follow : (later : List Call) (readable : Bool) → ReadCalls fd (room - len) later readable → ReadCalls fd room (calls ++ later) readable

pub read_none : (fd : ℤ) (buffer : List ℕ) → ReadSoFar fd (length buffer) buffer 0
unfolding bytes_of
read_none fd buffer = record { calls = []; bytes = refl; follow = λ later readable R. rw sub_zero at R }
  where
    sub_zero : length buffer - 0 ≡ length buffer
    sub_zero = omega arith

-- the part of a buffer that is still free
pub free : (buffer : List ℕ) (len : ℕ) → length (take (length buffer - len) (drop len buffer)) ≡ length buffer - len
free buffer len = omega (arith, length-take (length buffer - len) (drop len buffer), length-drop len buffer)

module _ (fd : ℤ) (room : ℕ) (buffer : List ℕ) (len : ℕ) (S : ReadSoFar fd room buffer len) where
  pub read_full : room ≤ len → len ≤ room → AllRead fd room (Some len) buffer
  unfolding ReadCalls
  read_full h l = record { size = l; gave = record { calls = S.calls ++ []; made = S.follow [] true (omega arith, refl); text = S.bytes ∙ ap bytes_of (sym (append-nil S.calls)) } }

  module _ (k : ℕ) (lent : List ℕ) (h : len < room) where
    abbrev after : List ℕ
    after = put_mid len k buffer lent

    pub read_failed : Answered fd (room - len) (record { answer = None; lent = lent }) → AllRead fd room None after
    unfolding ReadCalls
    read_failed A = record { size = omega arith; gave = record { calls = S.calls ++ record { answer = None; lent = lent } ∷ []; made = S.follow (record { answer = None; lent = lent } ∷ []) false (omega arith, A, (refl, refl)); text = refl } }

    pub read_ended : {z : ℕ} → len ≤ length buffer → z ≡ 0 → Answered fd (room - len) (record { answer = Some z; lent = lent }) → AllRead fd room (Some len) after
    unfolding ReadCalls bytes_of
    read_ended {z} l e A = record {
      size = omega arith;
      gave = record {
        calls = S.calls ++ record { answer = Some 0; lent = lent } ∷ [];
        made = S.follow (record { answer = Some 0; lent = lent } ∷ []) true (omega arith, (rw e at A), (refl, refl));
        text = take_put len k buffer lent l ∙ S.bytes ∙ sym (append-nil (bytes_of S.calls)) ∙ sym (bytes_both S.calls (record { answer = Some 0; lent = lent } ∷ []));
      };
    }

    pub read_more : (z : ℕ) → len ≤ length buffer → (z ≡ 0 → ⊥) → z ≤ room - len → length lent ≡ room - len → Answered fd (room - len) (record { answer = Some z; lent = lent }) → ReadSoFar fd room after (len + z)
    unfolding ReadCalls
    read_more z l f m w A = record {
      calls = S.calls ++ call ∷ [];
      bytes = longer ∙ sym (bytes_both S.calls (call ∷ []));
      follow = λ later readable R. rw (append_assoc S.calls (call ∷ []) later) (S.follow (call ∷ later) readable (omega arith, A, turn z f later readable R));
    }
      where
        call : Call
        call = record { answer = Some z; lent = lent }

        longer : take (len + z) after ≡ bytes_of S.calls ++ bytes_of (call ∷ [])
        longer =
            let front : take len after ≡ take len buffer = take_put len k buffer lent l in
            let rest : drop len after ≡ lent ++ post_of len k buffer = drop_at (take len buffer) (lent ++ post_of len k buffer) len (length-take-le len buffer l) in
            take-add len z after
            ∙ rw (front, rest, S.bytes, bytes_one call, take-append-le z lent (post_of len k buffer) (omega (arith, m, w))) refl

        turn : (z : ℕ) → (z ≡ 0 → ⊥) → (later : List Call) (readable : Bool) → ReadCalls fd (room - (len + z)) later readable → After (Some z) (λ (b : Bool). (later ≡ []) × (readable ≡ b)) (λ (i : ℕ). ReadCalls fd (room - len - i) later readable)
        turn zero f later readable R = absurd (f refl)
        turn (suc j) f later readable R = let less : room - (len + suc j) ≡ room - len - suc j = omega arith in rw less at R

-- ---- writing

-- how many bytes a call took is at most how many it was lent
pub took_most : {n z : ℕ} (a : Option ℕ) → z ≡ unwrap_or a 0 → Moved n a → z ≤ n
took_most None e m = omega arith
took_most (Some k) e m = omega (arith, m)

pub record WrittenSoFar (fd : ℤ) (s : List ℕ) (done : ℕ) : Type 0 where
  answers : List (Option ℕ)
  follow : (later : List (Option ℕ)) (written : Bool) → WriteCalls fd (drop done s) later written → WriteCalls fd s (answers ++ later) written

pub wrote_none : (fd : ℤ) (s : List ℕ) → WrittenSoFar fd s 0
wrote_none fd s = record { answers = []; follow = λ later written W. W }

-- what is left of the bytes
pub left : (s : List ℕ) (done : ℕ) → take (length s - done) (drop done s) ≡ drop done s
left s done = take_all (length s - done) (drop done s) (omega (arith, length-drop done s))

module _ (fd : ℤ) (s : List ℕ) (done : ℕ) (S : WrittenSoFar fd s done) where
  pub wrote_all : length s ≤ done → WroteTo fd s true
  unfolding WriteCalls
  wrote_all h = record { answers = S.answers ++ []; made = S.follow [] true (drop_of_length-le s h, refl) }

  module _ (h : done < length s) where
    -- a call that failed, or took nothing
    pub wrote_failed : (a : Option ℕ) → unwrap_or a 0 ≡ 0 → Took fd (drop done s) a → WroteTo fd s false
    unfolding WriteCalls
    wrote_failed a e T = record { answers = S.answers ++ a ∷ []; made = S.follow (a ∷ []) false (omega (arith, length-drop done s), T, over a e) }
      where
        over : (a : Option ℕ) → unwrap_or a 0 ≡ 0 → After a (λ (b : Bool). (◌≡◌ {A = List (Option ℕ)} [] []) × (false ≡ false)) (λ (k : ℕ). WriteCalls fd (drop k (drop done s)) [] false)
        over None e = (refl, refl)
        over (Some zero) e = (refl, refl)
        over (Some (suc k)) e = absurd (omega arith)

    pub wrote_more : (a : Option ℕ) (z : ℕ) → z ≡ unwrap_or a 0 → (z ≡ 0 → ⊥) → Took fd (drop done s) a → WrittenSoFar fd s (done + z)
    unfolding WriteCalls
    wrote_more a z e f T = record {
      answers = S.answers ++ a ∷ [];
      follow = λ later written W. rw (append_assoc S.answers (a ∷ []) later) (S.follow (a ∷ later) written (omega (arith, length-drop done s), T, turn a e later written W));
    }
      where
        turn : (a : Option ℕ) → z ≡ unwrap_or a 0 → (later : List (Option ℕ)) (written : Bool) → WriteCalls fd (drop (done + z) s) later written → After a (λ (b : Bool). (later ≡ []) × (written ≡ false)) (λ (k : ℕ). WriteCalls fd (drop k (drop done s)) later written)
        turn None e later written W = absurd (f e)
        turn (Some zero) e later written W = absurd (f e)
        turn (Some (suc j)) e later written W = rw (drop-drop (suc j) done s) (rw e at W)
