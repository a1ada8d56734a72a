use Rattle.std.proofs.Common.{◌≡◌, ◌-◌, length}
use Rattle.vcd.specs.Syntax.{declaration, reading_of}
use Rattle.commands.specs.Reads.{reading_from}
use Rattle.declarations.proofs.body_of.Given as goal

abbrev pub invariant-loop-to : goal.invariant-loop-to
invariant-loop-to l = reading_of l.code l.text ≡ reading_from l.code l.text (declaration l.declared) l.p

abbrev pub decreases-loop-to : goal.decreases-loop-to
decreases-loop-to l = length l.text - l.p
