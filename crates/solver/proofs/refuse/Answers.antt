use Rattle.std.proofs.Common.{refl, inl}
use Rattle.solver.proofs.refuse.Goals as goal

pub returns-in-Some : goal.returns-in-Some
returns-in-Some c t f s n = inl (_, ((c.in-Some.ensures t f s n).lowest _).0 refl, refl)
