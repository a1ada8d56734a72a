use Rattle.commands.proofs.Values.{digits_bits, digits_states, digits_over}
use Rattle.commands.proofs.digits_at.Goals as goal
use Rattle.commands.proofs.digits_at.Goals.{else-bits-text-via-then-bits-text+else-not-is_parting, else-bits-text-via-else-bits-text}

pub returns-then-not-is_parting : goal.returns-then-not-is_parting
returns-then-not-is_parting c = search digits_states

pub returns : goal.returns
returns c =
    elim c.else-bits-text.branch [
      | else-bits-text-via-then-bits-text+else-not-is_parting w ↦ search digits_bits
      | else-bits-text-via-else-bits-text w ↦ search digits_over
    ]
