use Rattle.std.proofs.Common.{rules}
use Rattle.words.proofs.Runs.{gap_counted}
use Rattle.words.proofs.Starts.{start_found, start_missing}
use Rattle.words.proofs.start_at.Goals as goal

pub returns-in_err-first : goal.returns-in_err-first
returns-in_err-first c = start_missing _ _ _ (gap_counted _ _ _ c.run_end-from.ensures c.type_inv.text (λ b t l h. search rules)) (search rules) c.from_residual.ensures

pub returns : goal.returns
returns c = start_found _ _ _ (gap_counted _ _ _ c.run_end-from.ensures c.type_inv.text (λ b t l h. search rules)) _ c.in_ok-first.ensures.lookup.0 (c.in_ok-first.ensures.lookup.3.1 0)
