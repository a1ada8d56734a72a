use Rattle.commands.proofs.Values.{bits_start, bits_low, bits_high, bits_on, bits_over}
use Rattle.commands.proofs.bits_at.Goals as goal
use Rattle.commands.proofs.bits_at.Goals.{then-b-lt48-via-then-b-lt48, then-b-lt48-via-else-b-lt48+then-b-gt49}

pub loop-i-init : goal.loop-i-init
loop-i-init c = search bits_start

pub returns-then-b-lt48 : goal.returns-then-b-lt48
returns-then-b-lt48 c =
    elim c.then-b-lt48.branch [
      | then-b-lt48-via-then-b-lt48 w ↦ search bits_low
      | then-b-lt48-via-else-b-lt48+then-b-gt49 w ↦ search bits_high
    ]

pub loop-i-preserved : goal.loop-i-preserved
loop-i-preserved c = search bits_on

pub returns : goal.returns
returns c = search bits_over
