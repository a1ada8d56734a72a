-- What calls of the system gave, one call after the other. Assumes nothing: these are definitions.
--
-- No contract of std can say which bytes `Read::read` and `Write::write` move, nor which file `File::open` opens. So the fact that a call was made
-- has a name: `Answered`, `Took`, `Opened`. Each means what std's contract says of the call, and no more. The proofs of three functions
-- (`read_some`, `write_some`, `open_file`) are the only ones that unfold these names. In every other proof such a fact comes from a call. Each of
-- the three makes one call, or none: a negative number that is read, a descriptor that has to be duplicated and cannot be, and a path that is not
-- UTF-8 are answered with no call, as one that failed. A descriptor that std has no name for is moved by the crate
-- `io`, which is lent the first byte alone. These facts say that calls were made. They do not say that no other call was made, nor in which order,
-- nor that a descriptor was not opened anew in between: that is read off the code, in which each of the three calls stands in one function.
use Rattle.std.specs.Prelude.{ℕ, zero, suc, ◌-◌, ◌≤◌, ◌<◌, ◌≡◌, Bool, true, false, cond, List, [], ◌∷◌, ◌++◌, ℤ, pos, negsuc, length, take, drop, Option, None, Some}
use Rattle.std.specs.Option.{unwrap_or, is_some}
use Rattle.std.specs.Fd.{file_raw_fd}
use Rattle.std.specs.declared.fs.File.{File as StdFile}
use Rattle.streams.specs.declared.Descriptor.{Descriptor}
use Rattle.streams.specs.declared.Descriptor.TheVariants.{Input, Output, Error, File, Number}

-- ---- descriptors

-- the number that opening a file gave
abbrev pub opened_number : Option StdFile → Option ℤ
opened_number (Some file) = Some (file_raw_fd file)
opened_number None = None

-- the number of a descriptor: 0 is standard input, 1 standard output, 2 standard error
abbrev pub number : Descriptor → ℤ
number Input = pos 0
number Output = pos 1
number Error = pos 2
number (File file) = file_raw_fd file.now
number (Number fd) = fd

-- ---- the calls

-- what a call that is lent n bytes may answer: how many bytes it moved, at most n, or `None`, that it failed
abbrev pub Moved : ℕ → Option ℕ → Type 0
Moved n (Some k) = k ≤ n
Moved n None = Unit {0}

-- one call of read: its answer, and what the lent bytes are after it
pub record Call : Type 0 where
  pub answer : Option ℕ
  pub lent : List ℕ

-- it moved no more bytes than it was lent, and the buffer keeps its length
abbrev pub Within : (room : ℕ) → Call → Type 0
Within room call = Moved room call.answer × (length call.lent ≡ room)

-- `Read::read`, on descriptor fd, was lent so many bytes and answered
unfoldable pub Answered : (fd : ℤ) → (room : ℕ) → Call → Type 0
Answered fd room call = Within room call

-- `Write::write`, on descriptor fd, was lent these bytes and answered a
unfoldable pub Took : (fd : ℤ) → List ℕ → (a : Option ℕ) → Type 0
Took fd s a = Moved (length s) a

-- `File::open`, of this path, gave a file with the number fd, or none
unfoldable pub Opened : (path : List ℕ) → (fd : Option ℤ) → Type 0
Opened path fd = Unit {0}

-- an answer is an error, the end, or a count of bytes
abbrev pub After : Option ℕ → (over : Bool → Type 0) → (more : ℕ → Type 0) → Type 0
After None over more = over false
After (Some zero) over more = over true
After (Some (suc k)) over more = more (suc k)

-- ---- reading

-- calls of read until the buffer is full, the input ends or a call fails. Each is lent the rest of the buffer.
unfoldable pub ReadCalls : (fd : ℤ) → (room : ℕ) → List Call → (readable : Bool) → Type 0
ReadCalls fd room [] readable = (room ≡ 0) × (readable ≡ true)
ReadCalls fd room (call ∷ calls) readable = (0 < room) × Answered fd room call × After call.answer (λ (b : Bool). (calls ≡ []) × (readable ≡ b)) (λ (k : ℕ). ReadCalls fd (room - k) calls readable)

-- the bytes that came, those of each call after those of the call before it
unfoldable pub bytes_of : List Call → List ℕ
bytes_of [] = []
bytes_of (call ∷ calls) = take (unwrap_or call.answer 0) call.lent ++ bytes_of calls

-- s is what reading fd into room bytes gave. After an error nothing that came before it counts.
pub record Gave (fd : ℤ) (room : ℕ) (readable : Bool) (s : List ℕ) : Type 0 where
  pub calls : List Call
  pub made : ReadCalls fd room calls readable
  pub text : s ≡ cond readable (bytes_of calls) []

-- the same of a file. One that cannot be opened, or that has a negative number, cannot be read.
abbrev pub GaveOpen : (fd : Option ℤ) → (room : ℕ) → (readable : Bool) → List ℕ → Type 0
GaveOpen (Some (pos fd)) room readable s = Gave (pos fd) room readable s
GaveOpen (Some (negsuc k)) room readable s = (readable ≡ false) × (s ≡ [])
GaveOpen None room readable s = (readable ≡ false) × (s ≡ [])

pub record FileGave (path : List ℕ) (room : ℕ) (readable : Bool) (s : List ℕ) : Type 0 where
  pub fd : Option ℤ
  pub opened : Opened path fd
  pub gave : GaveOpen fd room readable s

-- what read_all and read_file leave in a buffer of room bytes: its first bytes are what was read, and its later bytes are free. They answer how
-- many were read, or `None`, that it cannot be read.
pub record AllRead (fd : ℤ) (room : ℕ) (len : Option ℕ) (buffer : List ℕ) : Type 0 where
  pub size : unwrap_or len 0 ≤ room
  pub gave : Gave fd room (is_some len) (take (unwrap_or len 0) buffer)

pub record FileRead (path : List ℕ) (room : ℕ) (len : Option ℕ) (buffer : List ℕ) : Type 0 where
  pub size : unwrap_or len 0 ≤ room
  pub gave : FileGave path room (is_some len) (take (unwrap_or len 0) buffer)

-- ---- writing

-- calls of write until all bytes are taken, or until one fails or takes none. Each is lent the bytes that are left.
unfoldable pub WriteCalls : (fd : ℤ) → List ℕ → List (Option ℕ) → (written : Bool) → Type 0
WriteCalls fd s [] written = (s ≡ []) × (written ≡ true)
WriteCalls fd s (a ∷ later) written = (0 < length s) × Took fd s a × After a (λ (b : Bool). (later ≡ []) × (written ≡ false)) (λ (k : ℕ). WriteCalls fd (drop k s) later written)

-- the bytes s went to fd, all of them where `written` is true
pub record WroteTo (fd : ℤ) (s : List ℕ) (written : Bool) : Type 0 where
  pub answers : List (Option ℕ)
  pub made : WriteCalls fd s answers written
