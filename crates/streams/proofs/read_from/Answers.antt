use Rattle.std.proofs.Common.{◌≡◌, ◌-◌, length, refl, ◌∙◌, arith, rules}
use borrow.Rule.Slice.PartMut.{put_mid}
use Rattle.streams.proofs.Laws.{free, read_none, read_full, read_failed, read_ended, read_more}
use Rattle.streams.proofs.read_from.Goals as goal

pub loop-len-init : goal.loop-len-init
loop-len-init c = (omega arith, refl, read_none _ _)

pub returns-in_err-got : goal.returns-in_err-got
returns-in_err-got c =
    let l = c.loop-len in
    let answered = rw (free l.buffer l.len, l.invariant.1) at c.in_err-got.ensures.answered in
    rw c.from_residual.ensures (read_failed _ _ l.buffer l.len l.invariant.2 (length l.buffer - l.len) c.read_some.new.part (omega (arith, l.invariant.1)) answered)

pub returns-then-got-eq0 : goal.returns-then-got-eq0
returns-then-got-eq0 c =
    let l = c.loop-len in
    let answered = rw (free l.buffer l.len, l.invariant.1) at c.in_ok-got.ensures.answered in
    read_ended _ _ l.buffer l.len l.invariant.2 (length l.buffer - l.len) c.read_some.new.part (omega (arith, l.invariant.1)) l.invariant.0 c.if-got-eq0.true answered

pub loop-len-preserved : goal.loop-len-preserved
loop-len-preserved c =
    let l = c.loop-len in
    let answered = rw (free l.buffer l.len, l.invariant.1) at c.in_ok-got.ensures.answered in
    let within = rw (free l.buffer l.len) at c.in_ok-got.ensures.within in
    let kept : length (put_mid l.len (length l.buffer - l.len) l.buffer c.read_some.new.part) ≡ length l.buffer = search rules in (
      omega (arith, within.0, kept),
      kept ∙ l.invariant.1,
      read_more _ _ l.buffer l.len l.invariant.2 (length l.buffer - l.len) c.read_some.new.part (omega (arith, l.invariant.1)) c.in_ok-got.got l.invariant.0 c.if-got-eq0.false (omega (arith, within.0, l.invariant.1)) (within.1 ∙ rw l.invariant.1 refl) answered,
    )

pub returns : goal.returns
returns c = read_full _ _ c.loop-len.buffer c.loop-len.len c.loop-len.invariant.2 (omega (arith, c.loop-len.invariant.1)) (omega (arith, c.loop-len.invariant.1))
