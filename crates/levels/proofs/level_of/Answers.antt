use Rattle.std.proofs.Common.{◌≡◌, arith, length, get_or}
use Rattle.levels.specs.Levels.{depth}
use Rattle.levels.proofs.Filled.{levelled_first, levelled_own, levelled_up, levelled_keep, levelled_all}
use Rattle.levels.proofs.level_of.Goals as goal
use Rattle.levels.proofs.level_of.Goals.{then-d-depth, else-d-depth+then-depth-d, else-d-depth+else-depth-d}

pub loop-l-init : goal.loop-l-init
loop-l-init c = levelled_first _ c.requires.1 _

pub loop-l-preserved : goal.loop-l-preserved
loop-l-preserved c =
    let p = c.args.parent.now in
    let loop = c.loop-l in
    let same : get_or c.args.depths.now.each loop.l 0 ≡ depth p loop.l = c.requires.2 loop.l (omega arith) in
    elim c.if-d-depth.branch [
      | else-d-depth+then-depth-d w ↦ rw w.level-is (levelled_own p c.requires.1 c.args.d loop.level loop.l (omega arith) (omega arith) loop.invariant (omega (arith, same)))
      | then-d-depth w ↦ rw w.level-is (levelled_up p c.requires.1 c.args.d loop.level loop.l (omega arith) (omega arith) loop.invariant (omega (arith, same)))
      | else-d-depth+else-depth-d w ↦ rw w.level-is (levelled_keep p c.requires.1 c.args.d loop.level loop.l (omega arith) (omega arith) loop.invariant (omega (arith, same)))
    ]

pub returns : goal.returns
returns c =
    let all : c.loop-l.l ≡ length c.args.parent.now = omega arith in
    levelled_all _ c.requires.1 _ _ (rw all at c.loop-l.invariant)
