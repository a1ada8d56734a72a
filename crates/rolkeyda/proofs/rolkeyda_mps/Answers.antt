use Rattle.rolkeyda.proofs.Answers.{text_small, text_replied}
use Rattle.rolkeyda.proofs.rolkeyda_mps.Goals as goal

-- src/lib.rt:296:5
pub mps_reply-requires : goal.mps_reply-requires
mps_reply-requires c = search text_small

-- src/lib.rt:269:1
pub returns : goal.returns
returns c = search text_replied
