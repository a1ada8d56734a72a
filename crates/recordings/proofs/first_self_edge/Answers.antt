use Rattle.std.proofs.Common.{◌≡◌, ℕ, [], true, false, length, rules}
use Rattle.std.proofs.lemmas.Iterator.{first_from_Range}
use Rattle.lists.proofs.Search.{found_first}
use Rattle.wcet.specs.Table.{edge}
use Rattle.nesting.specs.Columns.{edge_columns}
use Rattle.recordings.specs.Answers.{first_self_edge}
use Rattle.recordings.proofs.first_self_edge.Goals as goal

pub returns : goal.returns
unfolding first_self_edge
returns c =
    let broken = λ (u : ℕ). edge (edge_columns [] c.args.first.now c.args.second.now) u u in
    found_first (length c.args.first.now) broken _
    (first_from_Range _ _ _ _ (λ (i : ℕ). broken i ≡ true) (λ (i : ℕ). broken i ≡ false) c.find.ensures.ran (λ x q h. search rules) (λ x q h. search rules))
