use Rattle.std.proofs.Common.{rules, ◌∙◌}
use Rattle.words.proofs.Runs.{state_plain}
use Rattle.commands.proofs.Values.{states_bad, states_good}
use Rattle.commands.proofs.states_at.Goals as goal

pub returns-in_err-to : goal.returns-in_err-to
returns-in_err-to c =
    c.from_residual.ensures ∙ states_bad _ _ (c.word_in.ensures _ (record { says = λ b r l h. search rules; plain = state_plain })) c.in_err-to.was

pub returns : goal.returns
returns c = states_good _ _ (c.word_in.ensures _ (record { says = λ b r l h. search rules; plain = state_plain })) _ c.in_ok-to.was
