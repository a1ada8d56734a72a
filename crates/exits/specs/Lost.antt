-- Document 02, §3: "401 when some block has no path to the exit (place the lowest such block)".
use Rattle.std.specs.Prelude.{ℕ, ◌<◌, ◌≡◌, ◌↔◌, List, length, get_or, Option, Some, None}
use Rattle.wcet.specs.Table.{Routine, block_count}
use Rattle.optimum.specs.Remade.{PathToExit}

-- the first n places of an order hold n blocks, and every one of them: block u stands at place `position u`
pub record Listed (n : ℕ) (order : List ℕ) : Type 0 where
  pub block : (i : ℕ) → i < n → get_or order i 0 < n
  pub position : ℕ → ℕ
  pub within : (u : ℕ) → u < n → position u < n
  pub there : (u : ℕ) → u < n → get_or order (position u) 0 ≡ u

-- u is the lowest block of t without a path to the exit
pub record LowestLost (t : Routine) (u : ℕ) : Type 0 where
  pub block : u < block_count t
  pub lost : PathToExit t u → ⊥
  pub lower : (v : ℕ) → v < u → PathToExit t v

-- r is the place of 401 in t
pub record LostAt (t : Routine) (r : Option ℕ) : Type 0 where
  pub lowest : (u : ℕ) → (r ≡ Some u) ↔ LowestLost t u
  pub nowhere : (r ≡ None) ↔ ((u : ℕ) → u < block_count t → PathToExit t u)

-- r is the place in every routine with these two columns of successors, whatever the other seven are
abbrev pub Lost : (firsts seconds : List ℕ) → Option ℕ → Type 0
Lost firsts seconds r = (t : Routine) → t.firsts ≡ firsts → t.seconds ≡ seconds → length firsts ≡ block_count t → LostAt t r
