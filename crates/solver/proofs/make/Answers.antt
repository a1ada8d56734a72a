use Rattle.std.proofs.Common.{refl, pos}
use Rattle.std.proofs.lemmas.Result.{err_from_is_err_and}
use lib.ListN.{get_or-replicate}
use Rattle.limits.specs.Limits.{most_loops}
use Rattle.figures.specs.Figures.{no_figure}
use Rattle.solver.proofs.Making.{weights_ready, loops_ready, gate_ready, gates_ready, weight_ready, slots_ready, figure_high, columns_made}
use Rattle.solver.proofs.make.Goals as goal

pub first_weights-weights-requires : goal.first_weights-weights-requires
first_weights-weights-requires c = weights_ready c.requires.0

pub make_heads-requires : goal.make_heads-requires
make_heads-requires c = (c.requires.0, refl, λ l b. get_or-replicate most_loops l no_figure (pos 0) b, c.requires.2, c.requires.3, c.first_weights-weights.ensures)

pub set_gates-requires : goal.set_gates-requires
set_gates-requires c = (refl, loops_ready c.requires.0, gate_ready c.requires.0 c.in_ok-make_heads.ensures)

pub fill_figures-filled-requires : goal.fill_figures-filled-requires
fill_figures-filled-requires c =
    let P = c.requires.0 in
    let G = c.in_ok-make_heads.ensures in
    let X = c.set_gates.ensures in
    (c.requires.1, X.size, gates_ready P G _ X, weight_ready P G, slots_ready P)

pub returns-in_err-filled : goal.returns-in_err-filled
returns-in_err-filled c =
    let p = err_from_is_err_and c.from_residual-in_err-filled.result c.from_residual-in_err-filled.ensures.1 in
    rw (p.1, p.2) (figure_high c.requires.0 c.in_ok-make_heads.ensures _ c.set_gates.ensures _ _ c.in_err-filled.ensures refl)

pub returns : goal.returns
returns c = columns_made c.requires.0 c.in_ok-make_heads.ensures _ c.set_gates.ensures _ _ c.in_ok-filled.ensures refl
