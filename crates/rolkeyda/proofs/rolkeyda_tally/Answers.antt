use Rattle.rolkeyda.proofs.Answers.{tally_small, tally_replied}
use Rattle.rolkeyda.proofs.rolkeyda_tally.Goals as goal

pub tally_reply-requires : goal.tally_reply-requires
tally_reply-requires c = search tally_small

pub returns : goal.returns
returns c = search tally_replied
