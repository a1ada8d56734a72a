-- What the functions on a text and a place answer: of a command, what the rest of the reading is. No reply rests on these definitions: the reader above is
-- promised by `vcd`.
use Rattle.std.specs.Prelude.{ℕ, ◌+◌, ◌≤◌, ◌<◌, ◌≡◌, Bool, false, ◌&&◌, List, [], eqb, leb, ltb, length, drop, get_or, Option, Some, None, Result, Ok, Err}
use Rattle.std.proofs.Math.Option.{Option as Found, none, some}
use Rattle.lists.specs.Search.{when◌then◌else◌}
use Rattle.lists.specs.Bytes.{same}
use Rattle.vcd.specs.Words.{size, word_of}
use Rattle.vcd.specs.Syntax.{all, one_or_more, is_state, is_bit, is_code, binary, value_of, Due, remark, command, code, Step, on, vector_step, time_step, scalar_step, keyword_step, Reading, stopped, more, after, reading}
use Rattle.words.specs.Places.{Along, words_from}
use Rattle.commands.specs.declared.BadWord.{BadWord}
use Rattle.commands.specs.declared.Bits.{Bits}
use Rattle.commands.specs.declared.Digits.{Digits}
use Rattle.commands.specs.declared.Code.{Code}
use Rattle.commands.specs.declared.Command.{Command}
use Rattle.commands.specs.declared.Command.TheVariants.{Passed, Value, Ended}

-- ---- digits and codes

-- a value of the code, as `vcd` has it, and back
abbrev pub offered : Option ℕ → Found ℕ
offered (Some v) = some v
offered None = none

abbrev pub kept : Found ℕ → Option ℕ
kept (some v) = Some v
kept none = None

-- 65,535 stands for a value that the named vector may not take
abbrev pub fitted : ℕ → Option ℕ
fitted v = when ltb v 65535 then Some v else None

-- the value of the bits w after those that wrote n
abbrev pub value_from : ℕ → List ℕ → ℕ
value_from n w = when all is_bit w && leb (binary n w) 65534 then binary n w else 65535

-- bits of a word, and what the rest of the word makes of their number
pub record BitsRead (s : List ℕ) (at : ℕ) (r : Bits) : Type 0 where
  pub along : Along is_bit s at r.to
  pub ends : r.to < length s → is_bit (get_or s r.to 0) ≡ false
  pub small : r.value ≤ 65535
  pub value : value_from 0 (word_of (drop at s)) ≡ value_from r.value (word_of (drop r.to s))

-- the place after the word at `at`
abbrev pub after_word : List ℕ → ℕ → ℕ
after_word s at = at + size (drop at s)

-- digits that are not all bits; bits, if there are any
unfoldable pub states_at : List ℕ → ℕ → Option Digits
states_at s at = when one_or_more is_state (word_of (drop at s)) then Some (record { value = None; to = after_word s at }) else None

abbrev pub bits_by : ℕ → Bits → Option Digits
bits_by at r = when eqb r.to at then None else Some (record { value = fitted r.value; to = r.to })

unfoldable pub digits_at : List ℕ → ℕ → Option Digits
digits_at s at = when one_or_more is_state (word_of (drop at s)) then Some (record { value = kept (value_of (word_of (drop at s))); to = after_word s at }) else None

unfoldable pub code_at : (named s : List ℕ) → ℕ → Option Code
code_at named s at = when is_code (word_of (drop at s)) then Some (record { to = after_word s at; named = same (word_of (drop at s)) named }) else None

-- ---- commands

-- the reading of the text s from a place on
abbrev pub reading_from : (named s : List ℕ) → Due → ℕ → Reading
reading_from named s due at = reading named (length s) due (words_from s at)

-- what a word makes of the reading, and then the text from the place after it on
abbrev pub reading_by : (named s : List ℕ) → ℕ → Step → Reading
reading_by named s to t = after t (λ d. reading_from named s d to)

-- a command or a refusal
abbrev pub Answer : Type 0
Answer = Result Command BadWord

-- and the reading after it
abbrev pub follows : (named s : List ℕ) (dump : Bool) → Answer → Reading
follows named s dump (Ok (Passed to d)) = reading_from named s (command d) to
follows named s dump (Ok (Value v place to)) = more v place (reading_from named s (command dump) to)
follows named s dump (Ok Ended) = record { values = []; refusal = none }
follows named s dump (Err e) = stopped e.0

-- it lies after `low` and within the text
abbrev pub Moves : (s : List ℕ) (low : ℕ) → Answer → Type 0
Moves s low (Ok (Passed to d)) = (low < to) × (to ≤ length s)
Moves s low (Ok (Value v place to)) = (low < to) × (to ≤ length s)
Moves s low (Ok Ended) = Unit {0}
Moves s low (Err e) = Unit {0}

pub record Follows (named s : List ℕ) (dump : Bool) (low : ℕ) (x : Reading) (r : Answer) : Type 0 where
  pub reads : x ≡ follows named s dump r
  pub moves : Moves s low r

abbrev pub ChangeRead : (named s : List ℕ) (at : ℕ) (dump : Bool) (value : Option ℕ) (place : ℕ) → Answer → Type 0
ChangeRead named s at dump value place = Follows named s dump at (reading_from named s (code (offered value) place dump) at)

abbrev pub VectorRead : (named s : List ℕ) (from : ℕ) (dump : Bool) → Answer → Type 0
VectorRead named s from dump = Follows named s dump from (reading_by named s (after_word s (from + 1)) (vector_step dump from (word_of (drop (from + 1) s))))

abbrev pub RealRead : (named s : List ℕ) (from : ℕ) (dump : Bool) → Answer → Type 0
RealRead named s from dump = Follows named s dump from (reading_by named s (after_word s from) (on (code none from dump)))

abbrev pub ScalarRead : (named s : List ℕ) (from : ℕ) (dump : Bool) → Answer → Type 0
ScalarRead named s from dump = Follows named s dump from (reading_by named s (after_word s (from + 1)) (scalar_step named dump from (word_of (drop (from + 1) s))))

-- of these the code of the named vector plays no part
abbrev pub TimeRead : (s : List ℕ) (from : ℕ) (dump : Bool) → Answer → Type 0
TimeRead s from dump r = (named : List ℕ) → Follows named s dump from (reading_by named s (after_word s (from + 1)) (time_step dump from (word_of (drop (from + 1) s)))) r

abbrev pub CommentRead : (s : List ℕ) (at : ℕ) → Answer → Type 0
CommentRead s at r = (named : List ℕ) → Follows named s false at (reading_from named s remark at) r

abbrev pub KeywordRead : (s : List ℕ) (from : ℕ) (dump : Bool) → Answer → Type 0
KeywordRead s from dump r = (named : List ℕ) → Follows named s dump from (reading_by named s (after_word s from) (keyword_step dump from (word_of (drop from s)))) r

abbrev pub end_by : (dump : Bool) (length : ℕ) → Answer
end_by dump length = when dump then Err (record { 0 = length }) else Ok Ended

abbrev pub CommandRead : (named s : List ℕ) (at : ℕ) (dump : Bool) → Answer → Type 0
CommandRead named s at dump = Follows named s dump at (reading_from named s (command dump) at)
