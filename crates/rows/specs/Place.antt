-- What the functions answer at a position of the text, by the definitions of Judge.
use Rattle.std.specs.Prelude.{ℕ, ◌+◌, ◌-◌, ◌≤◌, ◌<◌, ◌≡◌, true, cond, List, length, take, drop, eqb, ℤ, Option, Some, None, Result, Ok, Err}
use Rattle.std.specs.Int.{w64}
use Rattle.std.proofs.Common.{SFits}
use Rattle.csv_text.specs.Grammar.{Record, comma, ends, field, width, record_of, alike}
use Rattle.csv_text.specs.declared.Ending.{Ending}
use Rattle.digits.specs.declared.NotNumber.{NotNumber}
use Rattle.cells.specs.Cell.{unsigned, signed}
use Rattle.rows.specs.Row.{Verdict, block_fields, block_cells}
use Rattle.rows.specs.Judge.{field_of, judge_block, judge_loop}
use Rattle.rows.specs.declared.Fault.TheVariants.{BrokenField, FieldCount}
use Rattle.rows.specs.declared.BlockCells.{BlockCells}
use Rattle.rows.specs.declared.BlockRow.{BlockRow}
use Rattle.rows.specs.declared.LoopCells.{LoopCells}
use Rattle.rows.specs.declared.LoopRow.{LoopRow}
use Rattle.rows.specs.declared.Step.{Step}

-- the verdict on the record r that starts at p, where row k is due, and where the next record starts
abbrev pub block_step : ℕ → Ending → ℕ → ℕ → Record → Step BlockRow
block_step room first k p r = record { verdict = judge_block room first k r; next = p + r.bytes }

abbrev pub loop_step : ℕ → Ending → ℕ → ℕ → Record → Step LoopRow
loop_step room first k p r = record { verdict = judge_loop room first k r; next = p + r.bytes }

-- how a record of n fields ends that is to have `count`, none of them broken
abbrev pub counted : ℕ → ℕ → Option Ending → Verdict Ending
counted count n (Some own) = cond (eqb n count) (Ok own) (Err FieldCount)
counted count n None = Err BrokenField

-- Numbers that fit the columns of their fields. A cost and a limit need no such fact: they are read in 32 bits, as their columns have.
abbrev pub AtMost : ℕ → Result ℕ NotNumber → Type 0
AtMost greatest v = (n : ℕ) → v ≡ Ok n → n ≤ greatest

abbrev pub SignedFits : Result ℤ NotNumber → Type 0
SignedFits v = (z : ℤ) → v ≡ Ok z → SFits w64 z

pub record BlockFits (x : BlockCells) : Type 0 where
  pub number : AtMost 65535 x.number
  pub innermost : AtMost 65535 x.innermost
  pub first : AtMost 65534 x.first
  pub second : AtMost 65534 x.second
  pub figure : SignedFits x.figure

pub record LoopFits (x : LoopCells) : Type 0 where
  pub number : AtMost 65535 x.number
  pub parent : AtMost 65535 x.parent
  pub header : AtMost 65535 x.header

-- what is known of a field that one scan found and read: it ends at e, where its comma stands
pub record CommaField (s : List ℕ) (at e greatest : ℕ) (v : Result ℕ NotNumber) : Type 0 where
  pub from : at ≤ e
  pub inside : e < length s
  pub field : field (drop at s) ≡ comma (e - at)
  pub value : v ≡ unsigned greatest (take (e - at) (drop at s))

abbrev pub CommaAt : List ℕ → ℕ → ℕ → Option (Result ℕ NotNumber × ℕ) → Type 0
CommaAt s at greatest (Some p) = CommaField s at p.1 greatest p.0
CommaAt s at greatest None = Unit {0}

-- the last field of a record, which ends before `next`, like the first record
pub record FigureField (s : List ℕ) (first : Ending) (at next : ℕ) (v : Result ℤ NotNumber) : Type 0 where
  pub ending : Ending
  pub size : ℕ
  pub inside : next ≤ length s
  pub field : field (drop at s) ≡ ends ending size
  pub value : v ≡ signed (take size (drop at s))
  pub after : next ≡ at + size + width ending
  pub so : alike first ending ≡ true

abbrev pub LastAt : List ℕ → Ending → ℕ → Option (Result ℤ NotNumber × ℕ) → Type 0
LastAt s first at (Some p) = FigureField s first at p.1 p.0
LastAt s first at None = Unit {0}

-- what is known of a block that the short way read
pub record BlockAt (s : List ℕ) (first : Ending) (at : ℕ) (x : BlockCells) (next : ℕ) : Type 0 where
  pub sound : (record_of (drop at s)).sound ≡ true
  pub count : length (record_of (drop at s)).fields ≡ block_fields
  pub cells : x ≡ block_cells (field_of (record_of (drop at s)))
  pub after : next ≡ at + (record_of (drop at s)).bytes
  pub so : alike first (record_of (drop at s)).ending ≡ true

abbrev pub ShortAt : List ℕ → Ending → ℕ → Option (BlockCells × ℕ) → Type 0
ShortAt s first at (Some p) = BlockAt s first at p.0 p.1
ShortAt s first at None = Unit {0}
