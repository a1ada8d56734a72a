use Rattle.std.proofs.Common.{◌≡◌, ℕ, ◌<◌, length, get_or}
use Rattle.limits.specs.Limits.{most_blocks}
use Rattle.tails.specs.Slots.{slot_by_sets}
use Rattle.tails.proofs.slots_of.Given as goal

abbrev pub invariant-loop-x : goal.invariant-loop-x
invariant-loop-x l = (length l.slots ≡ most_blocks) × ((y : ℕ) → y < l.x → get_or l.slots y 0 ≡ slot_by_sets l.around l.tables.loops.now l.tables.header.now y (get_or l.next y 0))
