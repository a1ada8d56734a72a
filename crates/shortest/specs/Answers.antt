-- The second certificate of the three columns that a caller lends, and what the answers of its checker say: the paper's number, place and
-- value of each case.
use Rattle.std.specs.Prelude.{ℕ, List, ℤ, Result, Ok, Err}
use Rattle.wcet.specs.Rules.{Reply, accepted, refused}
use Rattle.wcet.specs.Shortest.{LowCertificate}
use Rattle.nesting.specs.Answers.{refusal}
use Rattle.shortest.specs.declared.LowCertificate.{LowCertificate as LowColumns}
use Rattle.shortest.specs.declared.ShortestFault.{ShortestFault}
use Rattle.shortest.specs.declared.ShortestFault.TheVariants.{Structure, UndeclaredLoop, Loop, Figure, Inequality}

-- in the order in which every function takes them
abbrev pub low_certificate : (figures : List ℤ) (multipliers leasts : List ℕ) → LowCertificate
low_certificate figures multipliers leasts = record { figures = figures; multipliers = multipliers; leasts = leasts }

-- the certificate that a function is lent
abbrev pub certificate_of : LowColumns → LowCertificate
certificate_of c = low_certificate c.figure.now c.multiplier.now c.least.now

abbrev pub shortest_meaning : Result ℤ ShortestFault → Reply ℤ
shortest_meaning (Ok b) = accepted b
shortest_meaning (Err (Structure f)) = refusal f
shortest_meaning (Err UndeclaredLoop) = refused 209 0
shortest_meaning (Err (Loop l)) = refused 451 l
shortest_meaning (Err (Figure u)) = refused 452 u
shortest_meaning (Err (Inequality u)) = refused 453 u
