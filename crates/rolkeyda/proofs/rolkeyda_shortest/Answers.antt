use Rattle.rolkeyda.proofs.Answers.{shortest_fits, certificate_replied}
use Rattle.rolkeyda.proofs.rolkeyda_shortest.Goals as goal

pub shortest_reply-requires : goal.shortest_reply-requires
shortest_reply-requires c = search shortest_fits

pub returns : goal.returns
returns c = search certificate_replied
