use Rattle.std.proofs.Common.{arith, ℕ, List, ◌++◌, length}
use Rattle.wcet.specs.Table.{Routine, block_count}
use Rattle.cards.proofs.Buffer.{space_first, space_second, put_both}
use Rattle.writer.specs.Programs.{sets_of, table_of}
use Rattle.writer.specs.Pieces.{line, rows_text, edges_text, rights_text, whole_text}
use Rattle.writer.proofs.Pieces.{three_first, three_second, three_third, three_all}
use Rattle.writer.proofs.Program.put.Goals as goal

abbrev rows : Routine → List ℕ
rows t = rows_text (block_count t) (length t.headers)

abbrev columns : List ℕ → Routine → List ℕ
columns sets t = line "COLUMNS" ++ edges_text sets t

abbrev rights : Routine → List ℕ
rights t = rights_text (block_count t)

pub put_rows-requires : goal.put_rows-requires
unfolding whole_text
put_rows-requires c =
    let t = table_of c.args.self.now in
    let s = sets_of c.args.self.now in
    (c.args.self.now.readable.headers, three_first (rows t) (columns s t) (rights t) c.args.out.now c.requires)

pub put-requires : goal.put-requires
unfolding whole_text
put-requires c =
    let t = table_of c.args.self.now in
    let s = sets_of c.args.self.now in
    space_first (line "COLUMNS") (edges_text s t) c.put_rows.new.out (three_second (rows t) (columns s t) (rights t) c.args.out.now c.requires c.put_rows.ensures)

pub put_edges-requires : goal.put_edges-requires
unfolding whole_text
put_edges-requires c =
    let t = table_of c.args.self.now in
    let s = sets_of c.args.self.now in
    space_second (line "COLUMNS") (edges_text s t) c.put_rows.new.out (three_second (rows t) (columns s t) (rights t) c.args.out.now c.requires c.put_rows.ensures) c.put.ensures

pub put_rights-requires : goal.put_rights-requires
unfolding whole_text
put_rights-requires c =
    let t = table_of c.args.self.now in
    let s = sets_of c.args.self.now in
    let middle = three_second (rows t) (columns s t) (rights t) c.args.out.now c.requires c.put_rows.ensures in
    (omega (arith, c.args.self.now.readable.blocks), three_third (rows t) (columns s t) (rights t) c.args.out.now c.requires c.put_rows.ensures (put_both (line "COLUMNS") (edges_text s t) c.put_rows.new.out middle c.put.ensures c.put_edges.ensures))

pub returns : goal.returns
unfolding whole_text
returns c =
    let t = table_of c.args.self.now in
    let s = sets_of c.args.self.now in
    let middle = three_second (rows t) (columns s t) (rights t) c.args.out.now c.requires c.put_rows.ensures in
    three_all (rows t) (columns s t) (rights t) c.args.out.now c.requires c.put_rows.ensures (put_both (line "COLUMNS") (edges_text s t) c.put_rows.new.out middle c.put.ensures c.put_edges.ensures) c.put_rights.ensures
