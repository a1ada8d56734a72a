use Rattle.std.proofs.Common.{rules, w64, SFits, List, ℕ, to_z-of_z}
use Rattle.mps.specs.Program.{objective, loop}
use Rattle.mps.specs.Text.{row_name, edge_name}
use Rattle.cards.specs.Cards.{head, card}
use Rattle.writer.specs.declared.Edge.{Edge}
use Rattle.writer.specs.Pieces.{ends_text, edge_text}
use Rattle.writer.proofs.Pieces.{three_first, three_second, three_third, three_all}
use Rattle.writer.proofs.Edge.put.Goals as goal

abbrev cost_card : Edge → List ℕ
cost_card x = card (head (edge_name x.number) (row_name objective)) x.cost

abbrev ends : Edge → List ℕ
ends x = ends_text x.number x.source x.target

abbrev loop_card : Edge → List ℕ
loop_card x = card (head (edge_name x.number) (row_name (loop x.headed))) x.coefficient

pub put_number-requires : goal.put_number-requires
unfolding edge_text
put_number-requires c =
    let x = c.args.self in
    let f : SFits w64 c.args.self.cost = search rules in
    rw (c.cost_head.ensures, to_z-of_z) (three_first (cost_card x) (ends x) (loop_card x) c.args.out.now c.requires)

pub put_ends-requires : goal.put_ends-requires
unfolding edge_text
put_ends-requires c =
    let x = c.args.self in
    let f : SFits w64 c.args.self.cost = search rules in
    three_second (cost_card x) (ends x) (loop_card x) c.args.out.now c.requires (rw (c.cost_head.ensures, to_z-of_z) at c.put_number.ensures)

pub put_number-requires-2 : goal.put_number-requires-2
unfolding edge_text
put_number-requires-2 c =
    let x = c.args.self in
    let f : SFits w64 c.args.self.cost = search rules in
    let g : SFits w64 c.args.self.coefficient = search rules in
    rw (c.loop_head.ensures, to_z-of_z) (three_third (cost_card x) (ends x) (loop_card x) c.args.out.now c.requires (rw (c.cost_head.ensures, to_z-of_z) at c.put_number.ensures) c.put_ends.ensures)

pub returns : goal.returns
unfolding edge_text
returns c =
    let x = c.args.self in
    let f : SFits w64 c.args.self.cost = search rules in
    let g : SFits w64 c.args.self.coefficient = search rules in
    three_all (cost_card x) (ends x) (loop_card x) c.args.out.now c.requires (rw (c.cost_head.ensures, to_z-of_z) at c.put_number.ensures) c.put_ends.ensures (rw (c.loop_head.ensures, to_z-of_z) at c.put_number-2.ensures)
