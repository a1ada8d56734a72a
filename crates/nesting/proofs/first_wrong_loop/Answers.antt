use Rattle.std.proofs.Common.{◌≡◌, ℕ, true, false, rules}
use Rattle.std.proofs.lemmas.Iterator.{first_from_Range}
use Rattle.lists.proofs.Search.{found_first}
use Rattle.wcet.specs.Table.{loop_count}
use Rattle.wcet.specs.Rules.{loop_wrong}
use Rattle.nesting.specs.Columns.{routine_of}
use Rattle.nesting.proofs.first_wrong_loop.Goals as goal

pub returns : goal.returns
returns c =
    let broken = loop_wrong (routine_of c.args.tables.now) in
    found_first (loop_count (routine_of c.args.tables.now)) broken _
    (first_from_Range _ _ _ _ (λ (i : ℕ). broken i ≡ true) (λ (i : ℕ). broken i ≡ false) c.find.ensures.ran (λ x q h. search rules) (λ x q h. search rules))
