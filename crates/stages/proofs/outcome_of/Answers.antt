use Rattle.std.proofs.Common.{Some, None}
use Rattle.stages.proofs.Stages.{setting_told}
use Rattle.stages.proofs.outcome_of.Goals as goal

pub returns-in-Some : goal.returns-in-Some
returns-in-Some c = setting_told _ _ _ _ (Some c.in-Some.header_row) c.header_of.ensures c.in-Some.is c.blocks_stage.ensures

pub returns-in-None : goal.returns-in-None
returns-in-None c = setting_told _ _ _ _ None c.header_of.ensures c.in-None.is c.refused.ensures
