use Rattle.rolkeyda.proofs.Answers.{blocks_fit, blocks_replied}
use Rattle.rolkeyda.proofs.rolkeyda_read_blocks.Goals as goal

pub read_reply-requires : goal.read_reply-requires
read_reply-requires c = search blocks_fit

pub returns : goal.returns
returns c = search blocks_replied
