use Rattle.std.proofs.Common.{◌≡◌}
use borrow.Author.Tests.{eq-eqb, ne_eqb}
use Rattle.nesting.specs.Columns.{entered_by_sets, past_by_sets}
use Rattle.nesting.proofs.Entered.{entered_count, none_entered}
use Rattle.nesting.proofs.past_header.Goals as goal

pub returns-then-from-to : goal.returns-then-from-to
unfolding past_by_sets
returns-then-from-to c = let a = c.args in
    rw (ne_eqb _ _ c.if-v-eq65535.false, eq-eqb _ 0 (none_entered a.around.now a.tables.now.loops.now a.u a.v c.if-from-to.true))

pub returns-then-entered-ne1 : goal.returns-then-entered-ne1
unfolding past_by_sets
returns-then-entered-ne1 c =
    let counted : c.size-entered.result ≡ entered_by_sets c.args.around.now c.args.tables.now.loops.now c.args.u c.args.v = entered_count _ c.args.tables.now.loops.now c.args.u c.args.v _ _ _ _ c.set_at-target.ensures c.set_at.ensures c.without.ensures c.size-entered.ensures in
    rw (← counted, ne_eqb _ _ c.if-v-eq65535.false, ne_eqb _ 0 c.if-entered-ne0.true, ne_eqb _ 1 c.if-entered-ne1.true)

pub returns-else-entered-ne1 : goal.returns-else-entered-ne1
unfolding past_by_sets
returns-else-entered-ne1 c =
    let counted : c.size-entered.result ≡ entered_by_sets c.args.around.now c.args.tables.now.loops.now c.args.u c.args.v = entered_count _ c.args.tables.now.loops.now c.args.u c.args.v _ _ _ _ c.set_at-target.ensures c.set_at.ensures c.without.ensures c.size-entered.ensures in
    rw (← counted, ne_eqb _ _ c.if-v-eq65535.false, ne_eqb _ 0 c.if-entered-ne0.true, eq-eqb _ 1 c.if-entered-ne1.false)

pub returns-else-entered-ne0 : goal.returns-else-entered-ne0
unfolding past_by_sets
returns-else-entered-ne0 c =
    let counted : c.size-entered.result ≡ entered_by_sets c.args.around.now c.args.tables.now.loops.now c.args.u c.args.v = entered_count _ c.args.tables.now.loops.now c.args.u c.args.v _ _ _ _ c.set_at-target.ensures c.set_at.ensures c.without.ensures c.size-entered.ensures in
    rw (← counted, ne_eqb _ _ c.if-v-eq65535.false, eq-eqb _ 0 c.if-entered-ne0.false)
