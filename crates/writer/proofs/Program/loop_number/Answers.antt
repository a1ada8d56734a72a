use Rattle.std.proofs.Common.{rules, ◌≡◌, ◌∙◌, ◌^◌, ◌<◌, get_or}
use Rattle.wcet.specs.Table.{loop_of}
use Rattle.writer.specs.Programs.{table_of}
use Rattle.writer.proofs.Edges.{number_none, number_return, number_entry, less_than_one}
use Rattle.writer.proofs.Program.loop_number.Goals as goal

pub returns-then-self-l : goal.returns-then-self-l
returns-then-self-l c =
    let q : c.from-l.result ≡ loop_of (table_of c.args.self.now) c.args.v = rw c.from.ensures at c.from-l.ensures in
    number_none _ (table_of c.args.self.now) _ _ _ q c.if-self-l.true

pub returns-then-contains : goal.returns-then-contains
returns-then-contains c =
    let q : c.from-l.result ≡ loop_of (table_of c.args.self.now) c.args.v = rw c.from.ensures at c.from-l.ensures in
    number_return _ (table_of c.args.self.now) _ _ _ q c.if-self-l.false _ (rw c.from-from.ensures at c.set_at.ensures) _ c.contains.ensures c.if-contains.true

pub returns : goal.returns
returns c =
    let q : c.from-l.result ≡ loop_of (table_of c.args.self.now) c.args.v = rw c.from.ensures at c.from-l.ensures in
    let small : get_or c.args.self.now.tables.now.limit.now c.from-l.result 0 < 2 ^ 32 = search rules in
    less_than_one c.from-2.result _ small c.from-2.ensures
    ∙ number_entry _ (table_of c.args.self.now) _ _ _ q c.if-self-l.false _ (rw c.from-from.ensures at c.set_at.ensures) _ c.contains.ensures c.if-contains.false
