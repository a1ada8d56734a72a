-- The sizes that document 01 limits, one name each. The code has a constant for each in src/lib.rt.
-- Assumes nothing: these are definitions.
use Rattle.std.specs.Prelude.{ℕ}

-- "n not 2 to 1,024"; "more than 1,024 block rows"
abbrev pub most_blocks : ℕ
most_blocks = 1024

-- "m not 1 to 64"; "or 64 loop rows"
abbrev pub most_loops : ℕ
most_loops = 64

-- "more than 16 loops around a header, loop 0 and its own counted"
abbrev pub most_depth : ℕ
most_depth = 16

-- "A field as written, its quote marks included, has at most 64 bytes."
abbrev pub most_field_bytes : ℕ
most_field_bytes = 64

-- "text over 65,536 bytes"
abbrev pub most_text_bytes : ℕ
most_text_bytes = 65536

-- "walk of 0 or of more than 1,048,576 blocks"
abbrev pub longest_walk : ℕ
longest_walk = 1048576
