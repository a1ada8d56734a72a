-- Three pieces of the text, one after the other in the buffer. Assumes nothing.
use Rattle.std.proofs.Common.{ℕ, List, ◌++◌}
use Rattle.cards.specs.declared.Cursor.{Cursor}
use Rattle.cards.specs.Cards.{Space, Put}
use Rattle.cards.proofs.Buffer.{space_first, space_second, put_both}

module _ (u v w : List ℕ) (c : Cursor) (s : Space (u ++ v ++ w) c) where
  front : Space (u ++ v) c
  front = space_first (u ++ v) w c s

  pub three_first : Space u c
  three_first = space_first u v c front

  pub three_second : {d : Cursor} → Put u c d → Space v d
  three_second = space_second u v c front

  pub three_third : {d e : Cursor} → Put u c d → Put v d e → Space w e
  three_third p q = space_second (u ++ v) w c s (put_both u v c front p q)

  pub three_all : {d e f : Cursor} → Put u c d → Put v d e → Put w e f → Put (u ++ v ++ w) c f
  three_all p q o = put_both (u ++ v) w c s (put_both u v c front p q) o
