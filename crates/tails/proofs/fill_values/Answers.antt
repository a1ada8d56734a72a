use Rattle.std.proofs.Common.{rules, ◌∙◌, ℕ, ◌-◌, ◌<◌, List, pos, length, get_or, arith, FitsSigned, length-set}
use mir.Syntax.{w64}
use mir.Facts.{to_z-of_z}
use lib.Seq.{get_or-set_other}
use Rattle.tails.specs.Slots.{Slotted}
use Rattle.levels.proofs.Laws.{depth_least}
use Rattle.tails.proofs.Words.{greater_word, low_set}
use Rattle.tails.proofs.Passes.{passed_parents}
use Rattle.tails.proofs.Filling.{done_set, done_all}
use Rattle.tails.proofs.fill_values.Goals as goal

-- the block at place i of the order is one
module _ {n : ℕ} {firsts seconds order : List ℕ} (S : Slotted n firsts seconds order) (i : ℕ) (h : i < n) where
  block : get_or order i 0 < n
  block = S.block i h

  place : get_or order i 0 < 1024
  place = omega (arith, block, S.few)

pub more-requires : goal.more-requires
more-requires c =
    let e = c.args.edges.now in
    let x = get_or e.order (c.loop-i.i - 1) 0 in
    let low = c.loop-i.invariant.low in
    let f : FitsSigned w64 c.tail_of-w.result = search rules in
    let g : FitsSigned w64 (get_or c.args.weights.now x (pos 0)) = search rules in
    rw (to_z-of_z f, to_z-of_z g) (c.requires.2 _, rw c.tail_of-w.ensures (greater_word _ _ (low (get_or e.firsts x 0)) (low (get_or e.seconds x 0))))

pub loop-i-preserved : goal.loop-i-preserved
loop-i-preserved c =
    let e = c.args.edges.now in
    let o = c.loop-i in
    let I = o.invariant in
    let S = c.requires.3 in
    let values = o.values in
    let i = o.i - 1 in
    let x = get_or e.order i 0 in
    let w = c.more.result in
    let f : FitsSigned w64 c.tail_of-w.result = search rules in
    let g : FitsSigned w64 (get_or c.args.weights.now x (pos 0)) = search rules in
    let h : FitsSigned w64 w = search rules in
    let here : x < length values = omega (arith, place S i (omega arith), c.requires.0, I.size) in
    rw (to_z-of_z h) (record {
      size = length-set values x w ∙ I.size;
      low = low_set values x w here c.more.ensures.1 I.low;
      rest = λ j b. get_or-set_other values x j w (pos 0) (λ q. omega (arith, block S i (omega arith))) ∙ I.rest j b;
      filling = λ t d sets same Q least.
          done_set t d sets c.args.weights.now e.firsts e.seconds e.order c.args.values.now Q least values
          (λ j b. I.rest j (omega arith))
          (omega (arith, c.requires.0, I.size, S.few)) i (omega arith)
          (λ j a b. I.filling t d sets same Q least j (omega arith) b) c.tail_of-w.result w c.tail_of-w.ensures (rw (to_z-of_z f, to_z-of_z g) at c.more.ensures.0);
    })

pub returns : goal.returns
returns c =
    let e = c.args.edges.now in
    let I = c.loop-i.invariant in
    record {
      size = I.size;
      low = I.low;
      rest = I.rest;
      says = λ t d sets same Q x l b low k q.
          done_all t d sets c.args.weights.now e.firsts e.seconds e.order c.args.values.now Q
          (omega (arith, q, depth_least t.parents (passed_parents t Q.passed) l)) c.loop-i.values (λ j b. I.rest j (omega arith))
          (λ j a b. I.filling t d sets same Q (omega (arith, q, depth_least t.parents (passed_parents t Q.passed) l)) j (omega arith) b) x l b low k q;
    }
