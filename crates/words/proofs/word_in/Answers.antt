use Rattle.std.proofs.Common.{rules, true≢false, ◌∙◌, sym, le-ltb}
use Rattle.words.proofs.Runs.{in_empty, in_broken, in_over, in_whole, refused, allowed}
use Rattle.words.proofs.word_in.Goals as goal
use Rattle.words.proofs.word_in.Goals.{then-to-at-via-then-to-at, then-to-at-via-else-to-at+then-not-is_parting, then-to-text, else-to-text}

pub returns-then-to-at : goal.returns-then-to-at
returns-then-to-at g c = λ p t.
    elim c.then-to-at.branch [
      | then-to-at-via-then-to-at w ↦ in_empty _ _ _ c.run_end-to.ensures c.type_inv.text p t (search rules)
      | then-to-at-via-else-to-at+then-not-is_parting w ↦ elim w.if-to-text.branch [
        | then-to-text w' ↦ in_broken _ _ _ c.run_end-to.ensures c.type_inv.text p t (search rules) (refused w'.value-is w'.is_parting.ensures w.if-not-is_parting.true)
        | else-to-text w' ↦ absurd (true≢false (sym w.if-not-is_parting.true ∙ w'.value-is ∙ le-ltb _ _ w'.if-to-text.false))
      ]
    ]

pub returns : goal.returns
returns g c = λ p t.
    elim c.if-to-text.branch [
      | then-to-text w ↦ in_whole _ _ _ c.run_end-to.ensures c.type_inv.text p t (search rules) (allowed w.value-is w.is_parting.ensures c.if-not-is_parting.false) c.if-to-at.false
      | else-to-text w ↦ in_over _ _ _ c.run_end-to.ensures c.type_inv.text p t (search rules) c.if-to-at.false
    ]
