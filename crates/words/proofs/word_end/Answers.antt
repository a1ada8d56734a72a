use Rattle.std.proofs.Common.{rules}
use Rattle.words.proofs.Runs.{word_counted}
use Rattle.words.proofs.word_end.Goals as goal

pub returns : goal.returns
returns c = word_counted _ _ _ c.run_end.ensures c.type_inv.text (λ b t l h. search rules)
