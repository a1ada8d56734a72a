use Rattle.std.proofs.Common.{◌≡◌, ℕ, true, false, rules}
use Rattle.std.proofs.lemmas.Iterator.{first_from_Range}
use Rattle.lists.proofs.Search.{found_first}
use Rattle.wcet.specs.Table.{block_count}
use Rattle.wcet.specs.Rules.{entry_or_exit_edge}
use Rattle.nesting.specs.Columns.{routine_of}
use Rattle.nesting.proofs.first_entry_or_exit_edge.Goals as goal

pub returns : goal.returns
returns c =
    let broken = entry_or_exit_edge (routine_of c.args.tables.now) in
    found_first (block_count (routine_of c.args.tables.now)) broken _
    (first_from_Range _ _ _ _ (λ (i : ℕ). broken i ≡ true) (λ (i : ℕ). broken i ≡ false) c.find.ensures.ran (λ x q h. search rules) (λ x q h. search rules))
