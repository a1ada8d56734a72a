use Rattle.cards.proofs.+numeral_length.Given as goal

abbrev pub decreases-numeral_length : goal.decreases-numeral_length
decreases-numeral_length l = l.n
