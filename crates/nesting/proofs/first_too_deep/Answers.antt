use Rattle.std.proofs.Common.{◌≡◌, ℕ, true, false, rules}
use Rattle.std.proofs.lemmas.Iterator.{first_from_Range}
use Rattle.lists.proofs.Search.{found_first}
use Rattle.nesting.specs.Columns.{deep_by_sets}
use Rattle.nesting.proofs.first_too_deep.Goals as goal

pub returns : goal.returns
returns c =
    let broken = deep_by_sets c.args.around.now in
    found_first c.args.m broken _
    (first_from_Range _ _ _ _ (λ (i : ℕ). broken i ≡ true) (λ (i : ℕ). broken i ≡ false) c.find.ensures.ran (λ x q h. search rules) (λ x q h. search rules))
