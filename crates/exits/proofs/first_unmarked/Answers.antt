use Rattle.std.proofs.Common.{◌≡◌, ℕ, true, false, not, rules}
use Rattle.std.proofs.lemmas.Iterator.{first_from_Range}
use Rattle.lists.proofs.Search.{found_first}
use Rattle.exits.specs.Marks.{marked}
use Rattle.exits.proofs.first_unmarked.Goals as goal

pub returns : goal.returns
returns c =
    let lacks = λ (u : ℕ). not (marked c.args.marks.now u) in
    found_first c.args.n lacks _ (first_from_Range _ _ _ _ (λ (i : ℕ). lacks i ≡ true) (λ (i : ℕ). lacks i ≡ false) c.find.ensures.ran (λ x q h. search rules) (λ x q h. search rules))
