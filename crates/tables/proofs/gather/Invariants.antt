use Rattle.std.proofs.Common.{◌≡◌, ◌≤◌, ◌-◌, length, drop}
use Rattle.csv_text.specs.Grammar.{records}
use Rattle.tables.specs.Table.{reading}
use Rattle.tables.specs.Place.{gathered}
use Rattle.tables.proofs.gather.Given as goal

abbrev pub invariant-loop-p : goal.invariant-loop-p
invariant-loop-p g l = record {
  in_text : l.p ≤ length l.text;
  counted : l.k ≤ l.p;
  rest : gathered g.C.Columns.stored l.initial.columns 0 (reading (g.C.Columns.judge l.room) l.start.ending l.start.place 0 (records (drop l.start.at l.text))) ≡ gathered g.C.Columns.stored l.columns l.k (reading (g.C.Columns.judge l.room) l.start.ending l.start.place l.k (records (drop l.p l.text)));
}

abbrev pub decreases-loop-p : goal.decreases-loop-p
decreases-loop-p g l = length l.text - l.p
