use Rattle.std.proofs.Common.{rules, ◌^◌, ◌<◌, pos, arith, get_or, FitsSigned, length-set}
use mir.Syntax.{w64}
use mir.Facts.{to_z-of_z, to_z_pos}
use Rattle.integers.proofs.Laws.{ints, size}
use Rattle.figures.proofs.Signs.{less_fits}
use Rattle.figures.proofs.Pass.{gate_by, gate_fits, gating_next}
use Rattle.figures.proofs.set_gates.Goals as goal

pub loop-l-preserved : goal.loop-l-preserved
loop-l-preserved c =
    let a = c.args in
    let o = c.loop-l in
    let l = o.l in
    let p = c.requires.2 l (omega arith) in
    let cost = get_or a.cost.now (get_or a.header.now l 0) 0 in
    let d : cost < 2 ^ 32 = omega (arith, c.type_inv.cost (get_or a.header.now l 0)) in
    let e : FitsSigned w64 (pos cost) = omega (ints, size (pos cost), d) in
    let less = less_fits cost (get_or a.made.now l 0) (omega arith) p.1 in
    let h : FitsSigned w64 (get_or a.heads.now l (pos 0)) = search rules in
    let g : FitsSigned w64 (gate_by a.cost.now a.header.now a.made.now a.heads.now l) = gate_fits _ _ _ d p.1 p.2 in
    rw (c.from.ensures, to_z-of_z e, to_z_pos w64 {n = get_or a.made.now l 0} (omega (arith, p.1)), to_z-of_z less, to_z-of_z h, to_z-of_z g) (
      λ q. omega arith,
      gating_next a.cost.now a.header.now a.made.now a.heads.now _ o.values l o.invariant.1 (omega arith) (simp length-set (omega (arith, c.requires.0, c.requires.1))),
    )
