use Rattle.rows.proofs.Short.{short_all}
use Rattle.rows.proofs.short_block.Goals as goal

pub returns : goal.returns
returns c = short_all c.args.text.now c.args.ending c.args.at c.in_ok-number.ensures c.in_ok-cost.ensures c.in_ok-innermost.ensures c.in_ok-first.ensures c.in_ok-second.ensures c.in_ok-figure.ensures
