use Rattle.std.proofs.Common.{◌≡◌, ℕ, true, false, length, rules}
use Rattle.std.proofs.lemmas.Iterator.{first_from_Range}
use Rattle.lists.proofs.Search.{found_first}
use Rattle.wcet.specs.Shortest.{low_loop_wrong}
use Rattle.shortest.specs.Answers.{certificate_of}
use Rattle.shortest.proofs.first_wrong_loop.Goals as goal

pub returns : goal.returns
returns c =
    let broken = low_loop_wrong (certificate_of c.args.low.now) in
    found_first (length c.args.low.now.multiplier.now) broken _
    (first_from_Range _ _ _ _ (λ (i : ℕ). broken i ≡ true) (λ (i : ℕ). broken i ≡ false) c.find.ensures.ran (λ x q h. search rules) (λ x q h. search rules))
