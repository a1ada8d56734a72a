use Rattle.std.proofs.Common.{ap, length, length-append, arith, rules, to_z-of_z, SFits, w64}
use Rattle.report.proofs.Lines.{integer_short, refusal_short, accepted_told, refused_told}
use Rattle.report.proofs.line_of.Goals as goal
use Rattle.report.proofs.line_of.Goals.{in-Ok, in-Err}

pub push_integer-requires : goal.push_integer-requires
push_integer-requires c =
    let fits : SFits w64 c.in-Ok.bound = search rules in
    let start = simp (length-append, c.new-line.ensures) at (ap length c.push.ensures) in
    rw (to_z-of_z fits) (omega (arith, integer_short c.in-Ok.bound fits, start))

pub push_refusal-requires : goal.push_refusal-requires
push_refusal-requires c =
    let start = simp (length-append, c.new-line.ensures) at (ap length c.push-in-Err.ensures) in
    omega (arith, refusal_short c.in-Err.refusal (search rules) (search rules), start)

pub push-requires-2 : goal.push-requires-2
push-requires-2 c =
    elim c.match-outcome.branch [
      | in-Ok w ↦
          let fits : SFits w64 w.in-Ok.bound = search rules in
          let start = simp (length-append, c.new-line.ensures) at (ap length w.push.ensures) in
          let more = simp (length-append, to_z-of_z fits) at (ap length w.push_integer.ensures) in
          rw w.line-is (omega (arith, integer_short w.in-Ok.bound fits, start, more))
      | in-Err w ↦
          let start = simp (length-append, c.new-line.ensures) at (ap length w.push-in-Err.ensures) in
          let more = simp length-append at (ap length w.push_refusal.ensures) in
          rw w.line-is (omega (arith, refusal_short w.in-Err.refusal (search rules) (search rules), start, more))
    ]

pub returns : goal.returns
returns c =
    elim c.match-outcome.branch [
      | in-Ok w ↦
          let fits : SFits w64 w.in-Ok.bound = search rules in
          accepted_told w.in-Ok.bound w.in-Ok.is c.new-line.ensures w.push.ensures (rw (to_z-of_z fits) at w.push_integer.ensures) (rw w.line-is at c.push-2.ensures)
      | in-Err w ↦ refused_told w.in-Err.refusal w.in-Err.is c.new-line.ensures w.push-in-Err.ensures w.push_refusal.ensures (rw w.line-is at c.push-2.ensures)
    ]
