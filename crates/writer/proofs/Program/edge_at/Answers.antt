use Rattle.std.proofs.Common.{rules, ◌∙◌, ◌^◌, ◌<◌, get_or, w64, SFits, to_z-of_z}
use Rattle.writer.specs.Programs.{table_of}
use Rattle.writer.proofs.Edges.{edge_present, negated}
use Rattle.writer.proofs.Program.edge_at.Goals as goal

pub returns : goal.returns
returns c =
    let small : get_or c.args.self.now.tables.now.cost.now c.from-to.result 0 < 2 ^ 32 = search rules in
    let f : SFits w64 c.loop_number.result = search rules in
    edge_present _ (table_of c.args.self.now) _ _ _ _ _ _ c.target-v.ensures c.if-v.false c.from-to.ensures (negated c.from.result _ small c.from.ensures) c.from-2.ensures (to_z-of_z f ∙ c.loop_number.ensures)
