use Rattle.std.proofs.Common.{refl}
use Rattle.lists.specs.Bytes.{same}
use Rattle.stages.proofs.Words.{is_other}
use Rattle.stages.specs.Stages.{header_of}
use Rattle.stages.proofs.header_of.Goals as goal
use Rattle.stages.proofs.header_of.Goals.{then-same-via-then-same, then-same-via-else-same+then-same-2, then-same-3-via-then-same-3, then-same-3-via-else-same-3+then-same-4}

pub returns-then-same : goal.returns-then-same
unfolding header_of same
returns-then-same c =
    elim c.then-same.branch [ then-same-via-then-same w ↦ rw (c.same.ensures.0 w.if-same.true) refl | then-same-via-else-same+then-same-2 w ↦ rw (w.same-else-same.ensures.0 w.if-same-2.true) refl ]

pub returns-then-same-3 : goal.returns-then-same-3
unfolding header_of same
returns-then-same-3 c =
    elim c.then-same-3.branch [ then-same-3-via-then-same-3 w ↦ rw (c.same-2.ensures.0 w.if-same-3.true) refl | then-same-3-via-else-same-3+then-same-4 w ↦ rw (w.same-else-same-3.ensures.0 w.if-same-4.true) refl ]

pub returns : goal.returns
unfolding header_of
returns c = rw (is_other _ _ _ c.if-same.false c.same.ensures.1, is_other _ _ _ c.if-same-2.false c.same-else-same.ensures.1, is_other _ _ _ c.if-same-3.false c.same-2.ensures.1, is_other _ _ _ c.if-same-4.false c.same-else-same-3.ensures.1) refl
