use Rattle.std.proofs.Common.{refl}
use Rattle.std.proofs.lemmas.Result.{err_from_is_err_and}
use Rattle.multipliers.proofs.Weights.{none_low}
use Rattle.solver.proofs.Making.{depths_ready, rounds_ready, headed_multiplier, heads_ready, headed_figure, headed_made}
use Rattle.solver.proofs.make_heads.Goals as goal

pub depths_of-depths-requires : goal.depths_of-depths-requires
depths_of-depths-requires c = depths_ready c.requires.0

pub remake_multipliers-requires : goal.remake_multipliers-requires
remake_multipliers-requires c = (rounds_ready c.requires.0 _ c.depths_of-depths.ensures, c.requires.3, c.requires.4, refl, none_low 1024, c.requires.5)

pub returns-in_err-remake_multipliers : goal.returns-in_err-remake_multipliers
returns-in_err-remake_multipliers c =
    let p = err_from_is_err_and c.from_residual.result c.from_residual.ensures.1 in
    rw (p.1, p.2) (headed_multiplier c.requires.0 _ c.depths_of-depths.ensures _ _ _ _ c.in_err-remake_multipliers.ensures refl)

pub head_figures-requires : goal.head_figures-requires
head_figures-requires c = (heads_ready c.requires.0 _ c.depths_of-depths.ensures _ _ _ _ c.in_ok-remake_multipliers.ensures refl, c.requires.1, c.requires.2)

pub returns-in_err-head_figures : goal.returns-in_err-head_figures
returns-in_err-head_figures c =
    let p = err_from_is_err_and c.from_residual-in_err-head_figures.result c.from_residual-in_err-head_figures.ensures.1 in
    rw (p.1, p.2) (headed_figure c.requires.0 _ c.depths_of-depths.ensures _ _ _ _ c.in_ok-remake_multipliers.ensures refl _ _ c.in_err-head_figures.ensures refl)

pub returns : goal.returns
returns c = headed_made c.requires.0 _ c.depths_of-depths.ensures _ _ _ _ c.in_ok-remake_multipliers.ensures refl _ _ c.in_ok-head_figures.ensures refl
