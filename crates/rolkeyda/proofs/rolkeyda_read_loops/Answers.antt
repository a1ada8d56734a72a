use Rattle.rolkeyda.proofs.Answers.{loops_fit, loops_replied}
use Rattle.rolkeyda.proofs.rolkeyda_read_loops.Goals as goal

pub read_reply-requires : goal.read_reply-requires
read_reply-requires c = search loops_fit

pub returns : goal.returns
returns c = search loops_replied
