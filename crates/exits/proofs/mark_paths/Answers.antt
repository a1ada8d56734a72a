use Rattle.std.proofs.Common.{rules, ◌-◌, ◌<◌, arith, length}
use Rattle.limits.specs.Limits.{most_blocks}
use Rattle.exits.specs.Marks.{link_columns}
use Rattle.exits.proofs.Passes.{exit_sound, marks_paths}
use Rattle.exits.proofs.mark_paths.Goals as goal

pub loop-init : goal.loop-init
loop-init c =
    let a = c.args in
    let low : length a.first.now - 1 < most_blocks = omega (arith, c.requires.1.few) in
    (search rules, search rules, exit_sound (link_columns a.first.now a.second.now) low)

pub returns : goal.returns
returns c =
    let loop = c.loop in
    let P = c.mark_pass.ensures in
    marks_paths _ c.requires.1 _ (P.kept _ loop.invariant.1) (P.closed c.loop-test.false) (P.sound loop.invariant.2)
