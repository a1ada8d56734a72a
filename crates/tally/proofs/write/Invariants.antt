use Rattle.std.proofs.Common.{◌≡◌, ℕ, ◌<◌, get_or}
use Rattle.tallies.specs.Tally.{tally_of}
use Rattle.tally.proofs.write.Given as goal

abbrev pub invariant-loop-l : goal.invariant-loop-l
invariant-loop-l l = record {
  each_stays : (k : ℕ) → k < l.l → get_or l.stays k 0 ≡ (tally_of l.tallies k).stays;
  each_greatest : (k : ℕ) → k < l.l → get_or l.greatest k 0 ≡ (tally_of l.tallies k).greatest;
}
