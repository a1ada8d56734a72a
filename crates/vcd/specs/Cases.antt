-- Document 02, §8, and its settled readings on small texts, as one list under one claim. `proofs/Cases.antt` computes them. They are about the text alone,
-- after 201 to 207, 431 and 101.
use Rattle.std.specs.Prelude.{ℕ, ◌≡◌, List, [], ◌∷◌, ◌++◌, map}
use Prim.Native.String.{String}
use Rattle.lists.specs.Bytes.{bytes}
use Rattle.wcet.specs.Rules.{Reply, accepted, refused}
use Rattle.vcd.specs.Recording.{recorded}

-- a text, the code of the named vector, the places of the buffer, and what the text says
pub record Case : Type 0 where
  pub text : List ℕ
  pub named : List ℕ
  pub room : ℕ
  pub reply : Reply (List ℕ)

-- a whole text, with nine places
abbrev pub whole : (named text : String) → Reply (List ℕ) → Case
whole named text reply = record { text = bytes text; named = bytes named; room = 9; reply = reply }

-- the text after declarations of 44 bytes, in which ! is the named vector
abbrev pub declared : (room : ℕ) (text : String) → Reply (List ℕ) → Case
declared room text reply = record { text = bytes "$var wire 16 ! pc $end $enddefinitions $end " ++ bytes text; named = bytes "!"; room = room; reply = reply }

unfoldable pub cases : List Case
cases =
    -- every declaration, and all four bytes that part words
    whole "!" "$date today $end\n$version $var $enddefinitions x $end\r\n$timescale 1ns $end $scope module t $end\t$var reg 16 ! pc [15:0] $end\n$upscope $end $comment c $end $enddefinitions x\n$end b1 !" (accepted (1 ∷ []))
    -- no change at all
    ∷ declared 9 "" (accepted [])
    -- changed values, the first included
    ∷ declared 9 "b0 ! b1 ! b10 !" (accepted (0 ∷ 1 ∷ 2 ∷ []))
    -- a repeated value adds no block; changes in a dump count
    ∷ declared 9 "#0 $dumpvars b1 ! $end #5 b1 ! #6 b11 ! b1 !" (accepted (1 ∷ 3 ∷ 1 ∷ []))
    -- 65,534
    ∷ declared 9 "b1111111111111110 !" (accepted (65534 ∷ []))
    -- leading zeros, and B
    ∷ declared 9 "B0000000000000000000000011 !" (accepted (3 ∷ []))
    -- comments and other codes are passed over; r alone is a value
    ∷ declared 9 "$comment b1 ! $var $dumpvars $end 0\" xA r1.5 # Rnan \" r \" bxXzZ $ b1 !" (accepted (1 ∷ []))
    -- a keyword other than $end is a code where a code is due
    ∷ declared 9 "b1 $dumpvars 1$var b1 !" (accepted (1 ∷ []))
    -- the other dump keywords
    ∷ declared 9 "$dumpall $end $dumpoff xA $end $dumpon b1 ! $end" (accepted (1 ∷ []))
    -- vertical tab and form feed are bytes of a word
    ∷ declared 9 "r\u{b}\u{c} \" b1 !" (accepted (1 ∷ []))
    -- a code of two bytes
    ∷ whole "!!" "$var w 1 !! a $end $var w 1 ! b $end $enddefinitions $end b1 !! b10 !" (accepted (1 ∷ []))
    -- the empty text ends too soon
    ∷ whole "!" "" (refused 432 0)
    -- no $enddefinitions
    ∷ whole "!" "$var wire 16 ! pc $end" (refused 432 22)
    -- no $end of $enddefinitions
    ∷ whole "!" "$var wire 16 ! pc $end $enddefinitions x" (refused 432 40)
    -- the named vector is undeclared
    ∷ whole "!" "$enddefinitions $end" (refused 432 0)
    -- another one is declared
    ∷ whole "!" "$var wire 16 A pc $end $enddefinitions $end b1 !" (refused 432 23)
    -- a code that no text can declare
    ∷ whole "$end" "$var wire 16 ! pc $end $enddefinitions $end" (refused 432 23)
    -- a word that is no declaration
    ∷ whole "!" "$var wire 16 ! pc $end #0 $enddefinitions $end" (refused 432 23)
    -- $end among the three words of $var
    ∷ whole "!" "$var wire $end ! $end" (refused 432 10)
    -- $end for the code
    ∷ whole "!" "$var wire 16 $end" (refused 432 13)
    -- byte 127 in a code
    ∷ whole "!" "$var wire 16 \u{7f} pc $end" (refused 432 13)
    -- $enddefinitions once
    ∷ declared 9 "$enddefinitions $end" (refused 432 44)
    -- no declaration later
    ∷ declared 9 "$scope m $end" (refused 432 44)
    -- b with no digit
    ∷ declared 9 "b !" (refused 432 44)
    -- b with another digit
    ∷ declared 9 "b2 !" (refused 432 44)
    -- a vertical tab among the digits
    ∷ declared 9 "b1\u{b} !" (refused 432 44)
    -- $end for the code of a change
    ∷ declared 9 "b1 $end" (refused 432 47)
    -- a change that the text ends
    ∷ declared 9 "b1" (refused 432 46)
    -- byte 127 in a change's code
    ∷ declared 9 "b1 \u{7f}" (refused 432 47)
    -- # alone
    ∷ declared 9 "#" (refused 432 44)
    -- another byte in a time
    ∷ declared 9 "#1x" (refused 432 44)
    -- a scalar change with no code in its word
    ∷ declared 9 "0 !" (refused 432 44)
    -- a scalar change of the named vector
    ∷ declared 9 "0!" (refused 432 44)
    -- a scalar change of $end
    ∷ declared 9 "0$end" (refused 432 44)
    -- a real change of the named vector
    ∷ declared 9 "r1 !" (refused 432 44)
    -- an x digit in the named vector
    ∷ declared 9 "b1x !" (refused 432 44)
    -- 65,535
    ∷ declared 9 "b1111111111111111 !" (refused 432 44)
    -- 65,536
    ∷ declared 9 "b10000000000000000 !" (refused 432 44)
    -- a dump with no $end
    ∷ declared 9 "$dumpvars b1 !" (refused 432 58)
    -- a comment in a dump
    ∷ declared 9 "$dumpvars $comment c $end $end" (refused 432 54)
    -- a time in a dump
    ∷ declared 9 "$dumpvars #1 $end" (refused 432 54)
    -- a comment with no $end
    ∷ declared 9 "$comment b1 !" (refused 432 57)
    -- $end outside a dump
    ∷ declared 9 "$end" (refused 432 44)
    -- another word
    ∷ declared 9 "s1 !" (refused 432 44)
    -- no place left: the lowest byte, here 433
    ∷ declared 1 "b1 ! b1 ! b0 ! b2 !" (refused 433 54)
    -- and here 432
    ∷ declared 1 "b1 ! bx ! b0 !" (refused 432 49)
    -- a refused change has no need of a place
    ∷ declared 0 "bx !" (refused 432 44)
    -- nor has a repeated value
    ∷ declared 1 "b1 ! b1 !" (accepted (1 ∷ []))
    -- codes that begin alike
    ∷ whole "!a" "$var reg 4 !a pc $end $enddefinitions $end #1 $dumpvars b0 !a b1 ! 1!ab $end b10 !a" (accepted (0 ∷ 2 ∷ []))
    -- 433 before a later 432
    ∷ declared 1 "b1 ! b0 ! bx !" (refused 433 49)
    -- CR parts words
    ∷ declared 9 "b1\r!" (accepted (1 ∷ []))
    -- the ends of the ranges of codes and times
    ∷ declared 9 "#9 0~ b1 ~" (accepted [])
    ∷ declared 9 "#1:" (refused 432 44)
    ∷ declared 9 "b1 \u{1f}" (refused 432 47)
    -- a real change in a dump leaves the dump open
    ∷ declared 9 "$dumpvars r1 A" (refused 432 58)
    -- a change in a dump without its code
    ∷ declared 9 "$dumpvars b1 $end" (refused 432 57)
    -- an x digit before the code is known
    ∷ declared 9 "bx $end" (refused 432 47)
    -- the text ends in a declaration
    ∷ whole "!" "$var wire 16 ! pc" (refused 432 17)
    -- an empty code
    ∷ whole "" "$var wire 16 ! pc $end $enddefinitions $end" (refused 432 23)
    ∷ []

-- the one claim: the definition gives each case its reply
abbrev pub CasesHold : Type 0
CasesHold = map (λ c. recorded c.named c.room c.text) cases ≡ map (λ c. c.reply) cases
