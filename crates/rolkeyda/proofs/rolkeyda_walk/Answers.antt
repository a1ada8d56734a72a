use Rattle.rolkeyda.proofs.Answers.{walk_fits, walk_replied}
use Rattle.rolkeyda.proofs.rolkeyda_walk.Goals as goal

pub walk_reply-requires : goal.walk_reply-requires
walk_reply-requires c = search walk_fits

pub returns : goal.returns
returns c = search walk_replied
