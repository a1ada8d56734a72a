use Rattle.std.proofs.Common.{arith, ℕ, ◌≡◌, ◌<◌, ◌≤◌, List, [], ◌++◌, pos, negsuc, lt-ltb, le-ltb}
use Rattle.mps.specs.Program.{block}
use Rattle.mps.specs.Text.{row_name, edge_name}
use Rattle.cards.specs.Cards.{head, card}
use Rattle.cards.proofs.Buffer.{space_first, space_second, put_both, put_none}
use Rattle.writer.specs.Pieces.{ends_text}
use Rattle.writer.proofs.put_ends.Goals as goal

-- 1 in the row of u and −1 in that of v
abbrev up : (e b : ℕ) → List ℕ
up e b = card (head (edge_name e) (row_name (block b))) (pos 1)

abbrev down : (e b : ℕ) → List ℕ
down e b = card (head (edge_name e) (row_name (block b))) (negsuc 0)

module _ (e u v : ℕ) where
  rises : u < v → ends_text e u v ≡ up e u ++ down e v
  unfolding ends_text
  rises l = rw (lt-ltb u v l)

  falls : v < u → ends_text e u v ≡ down e v ++ up e u
  unfolding ends_text
  falls l = rw (le-ltb u v (omega arith), lt-ltb v u l)

  stays : v ≤ u → u ≤ v → ends_text e u v ≡ []
  unfolding ends_text
  stays l m = rw (le-ltb u v l, le-ltb v u m)

pub put_number-requires : goal.put_number-requires
put_number-requires c = let a = c.args in
    rw c.block_head.ensures (space_first (up a.e a.u) (down a.e a.v) a.out.now (rw (rises a.e a.u a.v c.if-u-v.true) at c.requires))

pub put_number-requires-then-u-v : goal.put_number-requires-then-u-v
put_number-requires-then-u-v c = let a = c.args in
    rw c.block_head-then-u-v.ensures (space_second (up a.e a.u) (down a.e a.v) a.out.now (rw (rises a.e a.u a.v c.if-u-v.true) at c.requires) (rw c.block_head.ensures at c.put_number.ensures))

pub put_number-requires-then-v-u : goal.put_number-requires-then-v-u
put_number-requires-then-v-u c = let a = c.args in
    rw c.block_head-then-v-u.ensures (space_first (down a.e a.v) (up a.e a.u) a.out.now (rw (falls a.e a.u a.v c.if-v-u.true) at c.requires))

pub put_number-requires-then-v-u-2 : goal.put_number-requires-then-v-u-2
put_number-requires-then-v-u-2 c = let a = c.args in
    rw c.block_head-then-v-u-2.ensures (space_second (down a.e a.v) (up a.e a.u) a.out.now (rw (falls a.e a.u a.v c.if-v-u.true) at c.requires) (rw c.block_head-then-v-u.ensures at c.put_number-then-v-u.ensures))

pub returns-then-u-v : goal.returns-then-u-v
returns-then-u-v c = let a = c.args in
    rw (rises a.e a.u a.v c.if-u-v.true) (put_both (up a.e a.u) (down a.e a.v) a.out.now (rw (rises a.e a.u a.v c.if-u-v.true) at c.requires) (rw c.block_head.ensures at c.put_number.ensures) (rw c.block_head-then-u-v.ensures at c.put_number-then-u-v.ensures))

pub returns-then-v-u : goal.returns-then-v-u
returns-then-v-u c = let a = c.args in
    rw (falls a.e a.u a.v c.if-v-u.true) (put_both (down a.e a.v) (up a.e a.u) a.out.now (rw (falls a.e a.u a.v c.if-v-u.true) at c.requires) (rw c.block_head-then-v-u.ensures at c.put_number-then-v-u.ensures) (rw c.block_head-then-v-u-2.ensures at c.put_number-then-v-u-2.ensures))

pub returns-else-v-u : goal.returns-else-v-u
returns-else-v-u c = let a = c.args in rw (stays a.e a.u a.v c.if-u-v.false c.if-v-u.false) (put_none a.out.now)
