use Rattle.std.proofs.Common.{rules}
use Rattle.words.proofs.Runs.{decimal_plain}
use Rattle.commands.proofs.Refusals.{refused}
use Rattle.commands.proofs.Steps.{time_dumped, time_bad, time_good}
use Rattle.commands.proofs.time_at.Goals as goal

pub returns-then-dump : goal.returns-then-dump
returns-then-dump c = search time_dumped

pub returns-in_err-to : goal.returns-in_err-to
returns-in_err-to c =
    let h = refused _ _ _ _ c.in_err-to.ensures.value c.from_residual.ensures.1 in
    rw h.1 (time_bad _ _ _ c.if-dump.false (c.word_in.ensures _ (record { says = λ b r l h. search rules; plain = decimal_plain })) h.0)

pub returns : goal.returns
returns c = time_good _ _ _ c.if-dump.false (c.word_in.ensures _ (record { says = λ b r l h. search rules; plain = decimal_plain })) _ c.in_ok-to.ensures.ok_part
