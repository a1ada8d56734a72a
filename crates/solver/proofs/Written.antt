-- A column written from the first places of another. Assumes nothing.
use Rattle.std.proofs.Common.{◌≡◌, ◌∙◌, ap, ◌≤◌, List, length, take}
use Rattle.std.proofs.lemmas.List.{get_or-take, length-take-le}
use Rattle.solver.specs.Columns.{Written}

pub written : {A : Type 0} (d : A) (from old new : List A) → length old ≤ length from → new ≡ take (length old) from → Written d from old new
written d from old new h e = record {
  size = ap length e ∙ length-take-le (length old) from h;
  same = λ x b. rw e (get_or-take (length old) from x d b);
}
