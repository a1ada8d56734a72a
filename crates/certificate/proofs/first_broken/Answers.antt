use Rattle.std.proofs.Common.{◌≡◌, ℕ, true, false, rules}
use Rattle.std.proofs.lemmas.Iterator.{first_from_Range}
use Rattle.lists.proofs.Search.{found_first}
use Rattle.wcet.specs.Table.{block_count}
use Rattle.nesting.specs.Columns.{routine_of}
use Rattle.certificate.specs.Columns.{any_broken_by}
use Rattle.certificate.proofs.first_broken.Goals as goal

pub returns : goal.returns
returns g c =
    let t = routine_of c.args.tables.now in
    let broken = any_broken_by g.S.Sense.compare c.args.around.now t in
    found_first (block_count t) broken _
    (first_from_Range _ _ _ _ (λ (i : ℕ). broken i ≡ true) (λ (i : ℕ). broken i ≡ false) c.find.ensures.ran (λ x q h. search rules) (λ x q h. search rules))
