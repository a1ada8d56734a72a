-- The cases of document 02, §8, by computation. Assumes nothing.
use mathlib.Core.Path.{refl}
use Rattle.lists.specs.Bytes.{same}
use Rattle.vcd.specs.Words.{size, words}
use Rattle.vcd.specs.Syntax.{all, one_or_more, is_code, binary, value_of, is_declaration, declaration_step, variable_step, passing, code_step, scalar_step, vector_step, time_step, is_dump, keyword_step, command_by, reading, reading_of}
use Rattle.vcd.specs.Recording.{changed, changes, recorded}
use Rattle.vcd.specs.Cases.{cases, CasesHold}

pub cases_hold : CasesHold
unfolding cases size words same all one_or_more is_code binary value_of is_declaration declaration_step variable_step passing code_step scalar_step vector_step time_step is_dump keyword_step command_by reading reading_of changed changes recorded
cases_hold = refl
