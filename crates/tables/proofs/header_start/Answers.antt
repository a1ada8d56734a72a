use Rattle.std.proofs.Common.{sym}
use borrow.Author.Tests.{eqb-true}
use Rattle.tables.proofs.Starts.{nonempty, header_none, header_broken, header_count, header_passed}
use Rattle.tables.proofs.header_start.Goals as goal

pub returns-then-is_empty : goal.returns-then-is_empty
returns-then-is_empty c = header_none _ _ (eqb-true _ _ (sym c.if-is_empty.ensures))

pub returns-in_default : goal.returns-in_default
returns-in_default c = header_broken _ _ (nonempty _ c.if-is_empty.ensures) c.scan_record-split.ensures c.in_default.is

pub returns-then-split-count : goal.returns-then-split-count
returns-then-split-count c = header_count _ _ (nonempty _ c.if-is_empty.ensures) c.scan_record-split.ensures c.in-Some.ending c.in-Some.is c.if-split-count.true

pub returns : goal.returns
returns c = header_passed _ _ (nonempty _ c.if-is_empty.ensures) c.scan_record-split.ensures c.in-Some.ending c.in-Some.is c.if-split-count.false
