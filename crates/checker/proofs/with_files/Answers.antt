use Rattle.std.proofs.Common.{refl}
use Rattle.checker.proofs.Steps.{blocks_unwanted, blocks_read}
use Rattle.checker.proofs.with_files.Goals as goal

pub returns-in_default : goal.returns-in_default
returns-in_default c = blocks_unwanted _ c.outcome_of-outcome.ensures c.wanted_by.ensures c.in_default.not-Blocks

pub returns : goal.returns
returns c = blocks_read _ c.outcome_of-outcome.ensures c.in-Blocks.ensures refl _ c.read_file.ensures c.in-Some.is c.prefix.ensures c.with_loops.ensures
