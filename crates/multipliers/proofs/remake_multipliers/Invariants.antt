use Rattle.multipliers.proofs.Remaking.{Remaking}
use Rattle.multipliers.proofs.remake_multipliers.Given as goal

abbrev pub invariant-loop-d : goal.invariant-loop-d
invariant-loop-d l =
    let t = l.tables in
    let e = l.edges in
    Remaking t.cost.now t.header.now t.limit.now l.depths.each l.depths.most e.firsts e.seconds e.order l.values l.made l.weights l.kept l.d
