use Rattle.std.proofs.Common.{◌-◌, ◌≤◌, ◌≡◌, length}
use Rattle.words.specs.Places.{words_from, after_end}
use Rattle.words.proofs.after_end.Given as goal

abbrev pub invariant-loop-word : goal.invariant-loop-word
invariant-loop-word l = (l.at ≤ l.p) × (after_end (words_from l.text l.at) ≡ after_end (words_from l.text l.p))

abbrev pub decreases-loop-word : goal.decreases-loop-word
decreases-loop-word l = length l.text - l.p
