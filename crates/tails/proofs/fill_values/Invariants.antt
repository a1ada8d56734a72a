use Rattle.std.proofs.Common.{◌≡◌, ℕ, ◌≤◌, pos, length, get_or}
use Rattle.tails.specs.Words.{Low}
use Rattle.tails.proofs.Filling.{Filling}
use Rattle.tails.proofs.fill_values.Given as goal

abbrev pub invariant-loop-i : goal.invariant-loop-i
invariant-loop-i l = record {
  size : length l.values ≡ length l.initial.values;
  low : Low l.values;
  rest : (j : ℕ) → l.n ≤ j → get_or l.values j (pos 0) ≡ get_or l.initial.values j (pos 0);
  filling : Filling l.weights l.edges.firsts l.edges.seconds l.edges.order l.n l.initial.values l.values l.i;
}
