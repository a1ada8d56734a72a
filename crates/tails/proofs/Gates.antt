-- The gates, set one loop after the other.
use Rattle.std.proofs.Common.{◌≡◌, List, ℕ, ◌+◌, ◌≤◌, ◌<◌, eqb, ℤ, pos, length, get_or}
use Rattle.limits.specs.Limits.{most_blocks}
use Rattle.lists.specs.Search.{when◌then◌else◌}
use Rattle.tails.specs.Words.{no_tail}

abbrev pub gate_at : (costs headers depths : List ℕ) → (d l : ℕ) → ℤ
gate_at costs headers depths d l = when eqb (get_or depths l 0) d then (when eqb l 0 then pos 0 else pos (get_or costs (get_or headers l 0) 0)) else no_tail

-- the gates of the loops below k are set
pub record Setting (costs headers depths : List ℕ) (d : ℕ) (old new : List ℤ) (k : ℕ) : Type 0 where
  pub few : k ≤ length headers
  pub size : length new ≡ length old
  pub gate : (l : ℕ) → l < k → get_or new (most_blocks + l) (pos 0) ≡ gate_at costs headers depths d l
  pub rest : (i : ℕ) → i < most_blocks → get_or new i (pos 0) ≡ get_or old i (pos 0)
  pub after : (i : ℕ) → most_blocks + k ≤ i → get_or new i (pos 0) ≡ get_or old i (pos 0)
