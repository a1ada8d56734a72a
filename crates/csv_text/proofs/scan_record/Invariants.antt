use Rattle.csv_text.specs.Grammar.{record_of}
use Rattle.csv_text.specs.Place.{split_of, no_places}
use Prim.Native.Nat.{◌≤◌, ◌-◌, max}
use mathlib.Core.Path.{◌≡◌}
use lib.ListN.{length, drop}
use Rattle.csv_text.proofs.scan_record.Given as goal

abbrev pub invariant-loop-e : goal.invariant-loop-e
invariant-loop-e l = (l.count ≤ l.p) × (l.count ≤ length l.text) × (l.p ≤ max (length l.text) l.at) × (split_of no_places no_places 0 l.at (record_of (drop l.at l.text)) ≡ split_of l.starts l.ends l.count l.p (record_of (drop l.p l.text)))

abbrev pub decreases-loop-e : goal.decreases-loop-e
decreases-loop-e l = length l.text - l.p
