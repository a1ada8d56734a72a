-- Document 02, §10, "The shortest time as well": the second certificate, the number and place with which it is refused, the lower bound of
-- an accepted one, and the runs that the lower bound is about.
use Rattle.std.specs.Prelude.{ℕ, suc, ◌-◌, ◌^◌, ◌≡◌, Bool, true, not, ◌&&◌, ◌||◌, List, [], ◌∷◌, ◌++◌, eqb, ltb, ℤ, pos, ◌+ℤ◌, ◌-ℤ◌, ◌*ℤ◌, length, get_or, take}
use Rattle.std.specs.Int.Signed.{le_z}
use Rattle.lists.specs.Search.{when◌then◌else◌, any_below}
use Rattle.wcet.specs.Table.{Routine, block_count, loop_count, exit, cost, loop_of, some_edge, inside, is_header}
use Rattle.wcet.specs.Rules.{Reply, accepted, Rule, check, sized, figure_outside, structure_rules, undeclared_rule}
use Rattle.wcet.specs.Run.{run}
use Rattle.wcet.specs.Stays.{stay_visits}

-- "A second certificate has its own figures and multipliers, .. and each loop has a least number of header visits per stay". (The figures are
-- potentials, as the tables' are, and each multiplier is the dual variable of a loop's least number of visits.)
pub record LowCertificate : Type 0 where
  pub figures : List ℤ
  pub multipliers : List ℕ
  pub leasts : List ℕ

abbrev pub low_figure : LowCertificate → ℕ → ℤ
low_figure c u = get_or c.figures u (pos 0)

abbrev pub low_multiplier : LowCertificate → ℕ → ℕ
low_multiplier c l = get_or c.multipliers l 0

abbrev pub least : LowCertificate → ℕ → ℕ
least c l = get_or c.leasts l 0

-- ---- the runs

-- a run, counted or not, that "is finished at block n−1"
pub record Finished (t : Routine) (w : List ℕ) : Type 0 where
  pub runs : run t w ≡ true
  pub at_exit : get_or w (length w - 1) 0 ≡ exit t

-- "A stay counts when it is left or when the run finishes": a stay in loop l ends at index k of the list w. The block there is inside l, and
-- the next one, if there is one, is outside.
unfoldable pub stay_ends : Routine → ℕ → List ℕ → ℕ → Bool
stay_ends t l w k = inside t (get_or w k 0) l && not (ltb (suc k) (length w) && inside t (get_or w (suc k) 0) l)

-- and that stay has fewer visits to the header than the least
unfoldable pub too_few_visits : Routine → LowCertificate → List ℕ → ℕ → ℕ → Bool
too_few_visits t c w l k = stay_ends t l w k && ltb (stay_visits t l (take (suc k) w)) (least c l)

-- "at least those visits in every stay"
unfoldable pub keeps_least : Routine → LowCertificate → List ℕ → Bool
keeps_least t c w = not (any_below (loop_count t) (λ l. any_below (length w) (too_few_visits t c w l)))

-- ---- the rules

-- "The inequalities turn round": x ≥ y in place of x ≤ y
abbrev pub ge_z : ℤ → ℤ → Bool
ge_z x y = le_z y x

-- The inequality of an edge on numbers, as in `Rules.antt`, by either comparison: by `le_z` it is `inequality`. The visits b are the limit or the
-- least.
unfoldable pub inequality_by : (compare : ℤ → ℤ → Bool) (headed inner : Bool) (c : ℕ) (from to : ℤ) (k b : ℕ) → Bool
inequality_by compare headed inner c from to k b =
    when not headed then compare (pos c) d else
    when inner then compare (pos c) (d +ℤ pos k) else
    compare (pos c +ℤ pos k *ℤ (pos b -ℤ pos 1)) d
  where
    d : ℤ
    d = from -ℤ to

-- "cost ≥ D for no header, cost ≥ D + multiplier from inside, cost + multiplier × (least − 1) ≥ D from outside": of an edge from u to v, with
-- D the figure of u less the figure of v in the second certificate. least − 1 may be −1.
unfoldable pub low_edge_holds : Routine → LowCertificate → ℕ → ℕ → Bool
low_edge_holds t c u v = inequality_by ge_z (is_header t v) (inside t u (loop_of t v)) (cost t v) (low_figure c u) (low_figure c v) (low_multiplier c (loop_of t v)) (least c (loop_of t v))

-- "entry cost + entry figure − exit figure"
unfoldable pub low_bound : Routine → LowCertificate → ℤ
low_bound t c = pos (cost t 0) +ℤ low_figure c 0 -ℤ low_figure c (exit t)

-- "201 also takes a new column of the wrong length"
unfoldable pub low_sizes_wrong : Routine → LowCertificate → Bool
low_sizes_wrong t c = not (sized (block_count t) c.figures && sized (loop_count t) c.multipliers && sized (loop_count t) c.leasts)

-- 451: "a loop's least or multiplier out of range": the multiplier has "the ranges of 202", and the least is "0 to 65,535, 1 for loop 0"
unfoldable pub low_loop_wrong : LowCertificate → ℕ → Bool
low_loop_wrong c l =
    when eqb l 0
    then not (eqb (low_multiplier c 0) 0 && eqb (least c 0) 1)
    else ltb (2 ^ 40) (low_multiplier c l) || ltb 65535 (least c l)

-- 452: "a figure out of range", which is the one of 203
unfoldable pub low_figure_wrong : LowCertificate → ℕ → Bool
low_figure_wrong c u = figure_outside (low_figure c u)

-- 453: "an edge breaks its inequality", "place the source block"
unfoldable pub low_inequality_broken : Routine → LowCertificate → ℕ → Bool
low_inequality_broken t c u = some_edge t u (λ v. not (low_edge_holds t c u v))

abbrev pub low_size_rule : Routine → LowCertificate → Rule
low_size_rule t c = record { number = 201; places = 1; broken = λ _. low_sizes_wrong t c }

abbrev pub low_rules : Routine → LowCertificate → List Rule
low_rules t c =
    record { number = 451; places = loop_count t; broken = low_loop_wrong c }
    ∷ record { number = 452; places = block_count t; broken = low_figure_wrong c }
    ∷ record { number = 453; places = block_count t; broken = low_inequality_broken t c }
    ∷ []

-- "201 also takes a new column of the wrong length; 202 to 207 and 209 as now; then 451 .. 452 .. 453". 201 has two parts with one number and
-- one place, so their order does not show. 208 is not asked; 202 and 203 are about the tables' own figures and multipliers.
unfoldable pub shortest_rules : Routine → LowCertificate → List Rule
shortest_rules t c = low_size_rule t c ∷ structure_rules t ++ undeclared_rule t ∷ low_rules t c

-- "When no error below applies the certificate is accepted, and that number is the reply."
unfoldable pub shortest_reply : Routine → LowCertificate → Reply ℤ
shortest_reply t c = check (shortest_rules t c) (accepted (low_bound t c))
