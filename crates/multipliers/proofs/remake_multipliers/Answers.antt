use Rattle.std.proofs.Common.{◌≡◌, ap, true, ℕ, arith, is_err}
use Rattle.multipliers.proofs.Remaking.{remaking_first, gated_low, gated_size, remaking_last, remaking_next, remaking_over, remaking_all}
use Rattle.multipliers.proofs.remake_multipliers.Goals as goal
use Rattle.multipliers.proofs.remake_multipliers.Goals.{then-d-gt1+in_ok-take_rounds, else-d-gt1}

pub loop-d-init : goal.loop-d-init
loop-d-init c = let p = c.requires in remaking_first _ _ _ _ _ _ _ _ p.0 _ _ _ p.1 p.2 p.3 p.4 p.5

pub fill_values-requires : goal.fill_values-requires
fill_values-requires c =
    let Y = c.requires.0 in
    let o = c.loop-d in
    let G = c.set_gates.ensures in (
      gated_size _ _ _ _ _ _ _ _ Y o.values o.made o.weights o.kept o.d (omega arith) o.invariant _ G,
      gated_low _ _ _ _ _ _ _ _ Y o.values o.made o.weights o.kept o.d (omega arith) o.invariant _ G,
      o.invariant.weights_low,
      Y.slotted,
    )

pub returns-in_err-take_rounds : goal.returns-in_err-take_rounds
returns-in_err-take_rounds c =
    let o = c.loop-d in
    let over : is_err c.from_residual.result ≡ true = c.from_residual.ensures.0 in
    rw over (remaking_over _ _ _ _ _ _ _ _ c.requires.0 o.values o.made o.weights o.kept o.d (omega arith) o.invariant _ c.set_gates.ensures _ c.fill_values.ensures _ c.keep_tails.ensures
    c.if-d-gt1.true _ _ _ c.take_rounds.ensures (ap is_err c.in_err-take_rounds.was))

pub loop-d-preserved : goal.loop-d-preserved
loop-d-preserved c =
    let Y = c.requires.0 in
    let o = c.loop-d in
    let G = c.set_gates.ensures in
    let F = c.fill_values.ensures in
    let K = c.keep_tails.ensures in
    elim c.if-d-gt1.branch [
      | then-d-gt1+in_ok-take_rounds w ↦
          rw (w.made-is, w.weights-is)
          (remaking_next _ _ _ _ _ _ _ _ Y o.values o.made o.weights o.kept o.d (omega arith) o.invariant _ G _ F _ K w.if-d-gt1.true _ _ _ w.take_rounds.ensures (ap is_err w.in_ok-take_rounds.was))
      | else-d-gt1 w ↦
          rw (w.made-is, w.weights-is)
          (remaking_last _ _ _ _ _ _ _ _ Y o.values o.made o.weights o.kept o.d (omega arith) o.invariant _ G _ F _ K (omega arith))
    ]

pub returns : goal.returns
returns c =
    let o = c.loop-d in
    let done : ◌≡◌ {A = ℕ} o.d 0 = omega arith in
    remaking_all _ _ _ _ _ _ _ _ o.values o.made o.weights o.kept (rw done at o.invariant)
