use Rattle.rolkeyda.proofs.Answers.{table_fits, tables_replied}
use Rattle.rolkeyda.proofs.rolkeyda_check.Goals as goal

pub table_reply-requires : goal.table_reply-requires
table_reply-requires c = search table_fits

pub returns : goal.returns
returns c = search tables_replied
