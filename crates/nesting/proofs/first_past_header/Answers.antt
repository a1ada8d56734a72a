use Rattle.std.proofs.Common.{◌≡◌, ℕ, true, false, length, rules}
use Rattle.std.proofs.lemmas.Iterator.{first_from_Range}
use Rattle.lists.proofs.Search.{found_first}
use Rattle.nesting.specs.Columns.{any_past_by_sets}
use Rattle.nesting.proofs.first_past_header.Goals as goal

pub returns : goal.returns
returns c =
    let broken = (let t = c.args.tables.now in any_past_by_sets c.args.around.now t.loops.now t.first.now t.second.now t.header.now) in
    found_first (length c.args.tables.now.loops.now) broken _
    (first_from_Range _ _ _ _ (λ (i : ℕ). broken i ≡ true) (λ (i : ℕ). broken i ≡ false) c.find.ensures.ran (λ x q h. search rules) (λ x q h. search rules))
