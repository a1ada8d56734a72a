-- What a field says as a number: document 01, "Reading the text". A field is given as written, its quote marks included.
-- Assumes nothing: these are definitions.
use Rattle.std.specs.Prelude.{ℕ, ◌+◌, ◌-◌, ◌^◌, List, take, drop, ℤ, Result}
use Rattle.digits.specs.Run.{digit_count}
use Rattle.digits.specs.declared.NotNumber.{NotNumber}
use Rattle.numbers.specs.Number.{natural, integer}
use Rattle.numbers.specs.Steps.{sign_count}
use Rattle.csv_text.specs.Grammar.{size, limited, content}
use Rattle.csv_text.specs.Place.{found_at}
use Rattle.cells.specs.declared.Cell.{Cell}
use Rattle.cells.specs.declared.Width.{Width}
use Rattle.cells.specs.declared.Width.TheVariants.{U16, Successor, U32}

-- "Widths: number, loop, parent and header up to 65,535; successor up to 65,534; cost and limit up to 2^32−1"
abbrev pub greatest : Width → ℕ
greatest U16 = 65535
greatest Successor = 65534
greatest U32 = 2 ^ 32 - 1

-- "A quoted number counts as that number": what a field says, at a width that ends at `greatest`
unfoldable pub unsigned : ℕ → List ℕ → Result ℕ NotNumber
unsigned greatest w = natural greatest (content w)

-- the same of a figure: "Only the figure may have a minus sign (byte 2D hexadecimal), and −0 is no number."
unfoldable pub signed : List ℕ → Result ℤ NotNumber
signed w = integer (content w)

-- The field at `at`, taken to be the digits that stand there: what they say, and what follows them. s is the rest of the text from `at` on.
abbrev pub cell_at : ℕ → ℕ → List ℕ → Cell ℕ
cell_at greatest at s = record { value = unsigned greatest (take (digit_count s) s); found = found_at at (limited s (size (digit_count s))) }

-- the bytes of a minus sign, if one stands at the start of s, and of the digits after it
abbrev pub signed_count : List ℕ → ℕ
signed_count s = sign_count s + digit_count (drop (sign_count s) s)

-- the same with a minus sign allowed
abbrev pub signed_cell_at : ℕ → List ℕ → Cell ℤ
signed_cell_at at s = record { value = signed (take (signed_count s) s); found = found_at at (limited s (size (signed_count s))) }
