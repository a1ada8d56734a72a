use Rattle.std.proofs.Common.{ap, ◌∙◌, length, append_assoc, length-append, arith, to_z-of_z}
use Rattle.report.proofs.Lines.{negative_text, positive_text}
use Rattle.report.proofs.Line.push_integer.Goals as goal
use Rattle.report.proofs.Line.push_integer.Goals.{then-z-lt0, else-z-lt0}

pub push-requires : goal.push-requires
push-requires c = let e = negative_text c.args.z (rw (to_z-of_z c.ranges.z) at c.if-z-lt0.true) in omega (arith, ap length e)

pub push_numeral-requires : goal.push_numeral-requires
push_numeral-requires c =
    rw (c.unsigned_abs.ensures.value, to_z-of_z c.ranges.z) (elim c.if-z-lt0.branch [
      | then-z-lt0 w ↦ let e = negative_text c.args.z (rw (to_z-of_z c.ranges.z) at w.if-z-lt0.true) in let more = simp length-append at (ap length w.push.ensures) in rw w.self-is (omega (arith, ap length e, more))
      | else-z-lt0 w ↦ let e = positive_text c.args.z (rw (to_z-of_z c.ranges.z) at w.if-z-lt0.false) in rw w.self-is (omega (arith, ap length e))
    ])

pub returns : goal.returns
returns c =
    c.push_numeral.ensures ∙ rw (c.unsigned_abs.ensures.value, to_z-of_z c.ranges.z) (elim c.if-z-lt0.branch [
      | then-z-lt0 w ↦ let e = negative_text c.args.z (rw (to_z-of_z c.ranges.z) at w.if-z-lt0.true) in rw (e, w.self-is, w.push.ensures, append_assoc)
      | else-z-lt0 w ↦ let e = positive_text c.args.z (rw (to_z-of_z c.ranges.z) at w.if-z-lt0.false) in rw (e, w.self-is)
    ])
