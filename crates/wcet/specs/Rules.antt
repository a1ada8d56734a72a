-- Document 01, "Replies that come from the input", 201 to 208, and "The inequality of an edge"; document 02, §2, 209, and §6, the order: with
-- which number and place a pair of tables is refused, and the bound of an accepted pair.
use Rattle.std.specs.Prelude.{ℕ, ◌^◌, Bool, not, ◌&&◌, ◌||◌, List, [], ◌∷◌, ◌++◌, eqb, ltb, ℤ, pos, neg_ℤ, ◌+ℤ◌, ◌-ℤ◌, ◌*ℤ◌, length, Option, Some, None}
use Rattle.std.specs.Int.Signed.{le_z, lt_z}
use Rattle.limits.specs.Limits.{most_blocks, most_loops, most_depth}
use Rattle.lists.specs.Search.{when◌then◌else◌, any_below, count_below, first_below}
use Rattle.wcet.specs.Table.{Routine, block_count, loop_count, exit, cost, loop_of, figure, parent, header, limit, multiplier, some_edge, inside, is_header}
use Rattle.wcet.specs.Cycles.{undeclared_loop}

-- "Each refusal is a number and a place."
pub data Reply (A : Type 0) : Type 0 where
  accepted : A → Reply A
  refused : (number place : ℕ) → Reply A

-- A rule: its number, how many places it is looked at (0 to places − 1), and the test that a place breaks it.
pub record Rule : Type 0 where
  pub number : ℕ
  pub places : ℕ
  pub broken : ℕ → Bool

-- refused with this number where a place is given, and else the other reply
abbrev pub refused_at : {A : Type 0} → ℕ → Option ℕ → Reply A → Reply A
refused_at number (Some place) otherwise = refused number place
refused_at number None otherwise = otherwise

-- The first broken rule of a list, at its lowest place. Document 01: "the lowest number first, then the lowest place"; document 02, §6, changes
-- the order of two numbers. The order is that of the list.
unfoldable pub check : {A : Type 0} → List Rule → Reply A → Reply A
check [] passed = passed
check (r ∷ rs) passed = refused_at r.number (first_below r.places r.broken) (check rs passed)

-- x is not from lo to hi
abbrev pub out_of_range : ℕ → ℕ → ℕ → Bool
out_of_range lo hi x = ltb x lo || ltb hi x

-- the columns of one table are equal in length
abbrev pub sized : {A : Type 0} → ℕ → List A → Bool
sized n column = eqb (length column) n

abbrev pub block_columns_equal : Routine → Bool
block_columns_equal t = sized (block_count t) t.loops && sized (block_count t) t.firsts && sized (block_count t) t.seconds && sized (block_count t) t.figures

abbrev pub loop_columns_equal : Routine → Bool
loop_columns_equal t = sized (loop_count t) t.headers && sized (loop_count t) t.limits && sized (loop_count t) t.multipliers

-- 201: "n not 2 to 1,024, m not 1 to 64, or columns of one table unequal in length"
unfoldable pub sizes_wrong : Routine → Bool
sizes_wrong t = out_of_range 2 most_blocks (block_count t) || out_of_range 1 most_loops (loop_count t) || not (block_columns_equal t) || not (loop_columns_equal t)

-- 202: "loop 0 is not parent 0, header 0, limit 1, multiplier 0; or another loop has a parent not below its own number,
-- a header not below n, a limit not 1 to 65,535, or a multiplier over 2^40"
unfoldable pub loop_wrong : Routine → ℕ → Bool
loop_wrong t l =
    when eqb l 0
    then not (eqb (parent t 0) 0 && eqb (header t 0) 0 && eqb (limit t 0) 1 && eqb (multiplier t 0) 0)
    else not (ltb (parent t l) l) || not (ltb (header t l) (block_count t)) || out_of_range 1 65535 (limit t l) || ltb (2 ^ 40) (multiplier t l)

-- 203: "figure outside −2^60 to 2^60"
abbrev pub figure_outside : ℤ → Bool
figure_outside z = lt_z z (neg_ℤ (pos (2 ^ 60))) || lt_z (pos (2 ^ 60)) z

-- 203: "cost over 1,000,000; loop not below m; successor present and not below n; figure outside −2^60 to 2^60"
unfoldable pub block_wrong : Routine → ℕ → Bool
block_wrong t u =
    ltb 1000000 (cost t u)
    || not (ltb (loop_of t u) (loop_count t))
    || some_edge t u (λ v. not (ltb v (block_count t)))
    || figure_outside (figure t u)

-- 204: "the header's innermost loop is another loop"
unfoldable pub header_elsewhere : Routine → ℕ → Bool
header_elsewhere t l = not (eqb (loop_of t (header t l)) l)

-- 205: "more than 16 loops around a header, loop 0 and its own counted"
unfoldable pub too_deep : Routine → ℕ → Bool
too_deep t l = ltb most_depth (count_below (loop_count t) (inside t (header t l)))

-- 206: "an edge into block 0 or out of block n−1"
unfoldable pub entry_or_exit_edge : Routine → ℕ → Bool
entry_or_exit_edge t u = some_edge t u (λ v. eqb v 0 || eqb u (exit t))

-- an edge from u to v "ends inside a loop that its source is outside of"
abbrev pub enters : Routine → ℕ → ℕ → ℕ → Bool
enters t u v l = inside t v l && not (inside t u l)

-- 207: "an edge ends inside a loop that its source is outside of, and not at that loop's header": of an edge from u to v
unfoldable pub past_header : Routine → ℕ → ℕ → Bool
past_header t u v = any_below (loop_count t) (λ l. enters t u v l && not (eqb (header t l) v))

-- of either edge of block u
unfoldable pub enters_past_header : Routine → ℕ → Bool
enters_past_header t u = some_edge t u (past_header t u)

-- The inequality of an edge from u to v, on numbers: v is a header or not, u is inside its loop or not, the cost of v, the figures of u and
-- of v, the multiplier and the limit of v's loop.
-- "For an edge from u to v let D be the figure of u less the figure of v.
--  v is no header: cost of v ≤ D.
--  v is the header of a loop that u is inside: cost of v ≤ D + multiplier.
--  v is the header of a loop that u is outside: cost of v + multiplier × (limit − 1) ≤ D."
unfoldable pub inequality : (headed inner : Bool) (c : ℕ) (from to : ℤ) (k b : ℕ) → Bool
inequality headed inner c from to k b =
    when not headed then le_z (pos c) d else
    when inner then le_z (pos c) (d +ℤ pos k) else
    le_z (pos c +ℤ pos k *ℤ (pos b -ℤ pos 1)) d
  where
    d : ℤ
    d = from -ℤ to

-- the inequality of an edge from u to v of the tables holds
unfoldable pub edge_holds : Routine → ℕ → ℕ → Bool
edge_holds t u v = inequality (is_header t v) (inside t u (loop_of t v)) (cost t v) (figure t u) (figure t v) (multiplier t (loop_of t v)) (limit t (loop_of t v))

-- 208: "an edge breaks its inequality"
unfoldable pub inequality_broken : Routine → ℕ → Bool
inequality_broken t u = some_edge t u (λ v. not (edge_holds t u v))

-- 201 to 207, which the tables of a walk must keep too
unfoldable pub structure_rules : Routine → List Rule
structure_rules t =
    record { number = 201; places = 1; broken = λ _. sizes_wrong t }
    ∷ record { number = 202; places = loop_count t; broken = loop_wrong t }
    ∷ record { number = 203; places = block_count t; broken = block_wrong t }
    ∷ record { number = 204; places = loop_count t; broken = header_elsewhere t }
    ∷ record { number = 205; places = loop_count t; broken = too_deep t }
    ∷ record { number = 206; places = block_count t; broken = entry_or_exit_edge t }
    ∷ record { number = 207; places = block_count t; broken = enters_past_header t }
    ∷ []

abbrev pub inequality_rule : Routine → Rule
inequality_rule t = record { number = 208; places = block_count t; broken = inequality_broken t }

-- Document 02, §2: "209, place 0". Its "after 208" no longer holds since §6.
abbrev pub undeclared_rule : Routine → Rule
undeclared_rule t = record { number = 209; places = 1; broken = λ _. undeclared_loop t }

-- Document 02, §6: "Errors: the order is 201 to 207, 209, 208."
unfoldable pub table_rules : Routine → List Rule
table_rules t = structure_rules t ++ undeclared_rule t ∷ inequality_rule t ∷ []

-- "The bound is cost of block 0 + figure of block 0 − figure of block n−1."
unfoldable pub bound : Routine → ℤ
bound t = pos (cost t 0) +ℤ figure t 0 -ℤ figure t (exit t)

-- "A pair of tables is accepted when none of 201 to 208 applies to it; its bound, the number the checker then replies, is the
-- accepted bound." Document 02, §2, on 209: "Acceptance gains this condition."
unfoldable pub table_reply : Routine → Reply ℤ
table_reply t = check (table_rules t) (accepted (bound t))
