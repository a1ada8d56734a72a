use Rattle.std.proofs.Common.{rules, ◌≡◌, sym, ◌∙◌, false, ◌-◌, ◌^◌, ◌<◌, arith, ℤ, pos, neg_ℤ, ◌+ℤ◌, ◌≤ℤ◌, get_or, FitsSigned}
use lib.Signed.{lt_z}
use mir.Syntax.{w64}
use mir.Facts.{to_z-of_z}
use Rattle.integers.proofs.Laws.{ints}
use Rattle.lists.proofs.Tests.{or_false}
use Rattle.wcet.specs.Rules.{figure_outside}
use Rattle.figures.specs.Figures.{WeightFits}
use Rattle.figures.proofs.Pass.{value_fits, passing_over, passing_next, passing_all}
use Rattle.figures.proofs.fill_figures.Goals as goal

range_of : (f : ℤ) → figure_outside f ≡ false → (neg_ℤ (pos (2 ^ 60)) ≤ℤ f) × (f ≤ℤ pos (2 ^ 60))
range_of f e =
    let r = or_false (lt_z f (neg_ℤ (pos (2 ^ 60)))) (lt_z (pos (2 ^ 60)) f) e in
    (omega (ints, r.0), omega (ints, r.1))

pub returns-then-outside : goal.returns-then-outside
returns-then-outside c =
    let a = c.args in
    let e = a.edges.now in
    let o = c.loop-i in
    let r = c.tail_of-f in
    let f : FitsSigned w64 r.result = search rules in
    passing_over a.weights.now e.firsts e.seconds e.order a.n a.values.now c.requires.4 o.figures o.values o.i o.invariant (omega arith) r.result r.ensures (sym (rw (to_z-of_z f) at c.outside.ensures) ∙ c.if-outside.true)

pub loop-i-preserved : goal.loop-i-preserved
loop-i-preserved c =
    let a = c.args in
    let e = a.edges.now in
    let o = c.loop-i in
    let found = c.tail_of-f.result in
    let own = get_or a.weights.now (get_or e.order (o.i - 1) 0) (pos 0) in
    let found_fits : FitsSigned w64 found = search rules in
    let weight_fits : FitsSigned w64 own = search rules in
    let positive : 0 < o.i = omega arith in
    let its_weight : WeightFits own = c.requires.3 _ (c.requires.4.block (o.i - 1) (omega arith)) in
    let range = range_of found (sym (rw (to_z-of_z found_fits) at c.outside.ensures) ∙ c.if-outside.false) in
    let in_word : FitsSigned w64 (found +ℤ own) = value_fits found own its_weight range.0 range.1 in
    rw (to_z-of_z found_fits, to_z-of_z weight_fits, to_z-of_z in_word)
    (passing_next a.weights.now e.firsts e.seconds e.order a.n a.values.now c.requires.4 o.figures o.values o.i o.invariant positive found c.tail_of-f.ensures its_weight range.0 range.1)

pub returns : goal.returns
returns c =
    let a = c.args in
    let e = a.edges.now in
    let o = c.loop-i in
    passing_all a.weights.now e.firsts e.seconds e.order a.n a.values.now c.requires.4 o.figures o.values (let z : o.i ≡ 0 = omega arith in rw z at o.invariant)
