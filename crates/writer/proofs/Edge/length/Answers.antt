use Rattle.std.proofs.Common.{w64, SFits, to_z-of_z, rules}
use Rattle.writer.proofs.Edges.{ends_none, ends_length, edge_length}
use Rattle.writer.proofs.Edge.length.Goals as goal
use Rattle.writer.proofs.Edge.length.Goals.{then-self, else-self}

pub returns : goal.returns
returns c =
    let f : SFits w64 c.args.self.cost = search rules in
    let g : SFits w64 c.args.self.coefficient = search rules in
    edge_length c.args.self c.number_length.result c.if-self.ends c.number_length-2.result (rw to_z-of_z at c.number_length.ensures) (rw to_z-of_z at c.number_length-2.ensures) (elim c.if-self.branch [
      | then-self w ↦ rw (w.ends-is, ends_none c.args.self.number _ _ w.if-self.true)
      | else-self w ↦ rw (w.ends-is, ends_length c.args.self.number _ _ w.if-self.false)
    ])
