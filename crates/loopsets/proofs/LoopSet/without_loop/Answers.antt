use Prim.Native.Nat.{◌*◌, ◌%◌, ◌^◌}
use native.Mathlib.Omega.{arith}
use mathlib.Core.Path.{◌∙◌}
use Rattle.bits.proofs.Laws.{has_and_not, has_shl}
use Rattle.loopsets.specs.Sets.{member}
use Rattle.loopsets.proofs.LoopSet.without_loop.Goals as goal

pub returns : goal.returns
unfolding member
returns c = λ k h. has_and_not 64 c.args.self.word (1 * 2 ^ c.args.l % 2 ^ 64) k (omega arith) h ∙ rw (has_shl 64 c.args.l k (omega arith))
