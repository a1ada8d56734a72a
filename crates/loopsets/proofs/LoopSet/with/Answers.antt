use Prim.Native.Nat.{◌*◌, ◌%◌, ◌^◌}
use native.Mathlib.Omega.{arith}
use mathlib.Core.Path.{◌∙◌}
use Rattle.bits.proofs.Laws.{has_or, has_shl}
use Rattle.loopsets.specs.Sets.{member}
use Rattle.loopsets.proofs.LoopSet.with.Goals as goal

pub returns : goal.returns
unfolding member
returns c = λ k. has_or (1 * 2 ^ c.args.l % 2 ^ 64) c.args.self.word k ∙ rw (has_shl 64 c.args.l k (omega arith))
