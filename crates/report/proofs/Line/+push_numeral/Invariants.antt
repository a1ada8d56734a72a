use Rattle.report.proofs.Line.+push_numeral.Given as goal

abbrev pub decreases-push_numeral : goal.decreases-push_numeral
decreases-push_numeral l = l.n
