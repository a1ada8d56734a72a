use Rattle.rolkeyda.proofs.Answers.{vcd_small, vcd_replied}
use Rattle.rolkeyda.proofs.rolkeyda_vcd.Goals as goal

pub vcd_reply-requires : goal.vcd_reply-requires
vcd_reply-requires c = search vcd_small

pub returns : goal.returns
returns c = search vcd_replied
