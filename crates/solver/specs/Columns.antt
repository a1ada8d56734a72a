-- What the steps of the solver leave to the next: for functions that are no public entry.
use Rattle.std.specs.Prelude.{ℕ, ◌<◌, ◌≡◌, true, false, List, ◌⊎◌, ℤ, pos, length, get_or, Result, Ok, Err}
use Rattle.wcet.specs.Table.{Routine, block_count, loop_count}
use Rattle.wcet.specs.Cycles.{undeclared_loop}
use Rattle.wcet.specs.Rules.{structure_rules, bound}
use Rattle.wcet.specs.Claim.{AllHold}
use Rattle.loopsets.specs.Sets.{sets_around}
use Rattle.order.specs.Ordering.{Topological}
use Rattle.certificate.specs.Columns.{price_columns}
use Rattle.exits.specs.Lost.{LowestLost}
use Rattle.optimum.specs.Remade.{AllPaths}
use Rattle.optimum.specs.Columns.{remade}
use Rattle.optimum.specs.Replies.{multiplier_over, figure_over, solve_reply}
use Rattle.tails.specs.Slots.{SlotsOf}
use Rattle.multipliers.specs.Columns.{MultipliedOf}
use Rattle.figures.specs.Figures.{HeadFits}
use Rattle.figures.specs.Columns.{HeadsFigured, FiguredOf}
use Rattle.solver.specs.declared.SolveFault.{SolveFault}
use Rattle.solver.specs.declared.SolveFault.TheVariants.{Structure, UndeclaredLoop, NoPath, Multiplier, Figure}
use Rattle.solver.specs.Answers.{solve_meaning}

-- a column keeps its length, and holds what the first places of another hold
pub record Written {A : Type 0} (d : A) (from old new : List A) : Type 0 where
  pub size : length new ≡ length old
  pub same : (x : ℕ) → x < length old → get_or new x d ≡ get_or from x d

-- t passes 201 to 207 and 209; its loop sets and a topological order of its blocks
pub record Solvable (t : Routine) (sets order : List ℕ) : Type 0 where
  pub rules : AllHold (structure_rules t)
  pub sets_around_lem : sets ≡ sets_around t.parents
  pub ordered : Topological t order
  pub declared : undeclared_loop t ≡ false

-- and the slots of its edges
pub record Laid (t : Routine) (sets firstSlots secondSlots order : List ℕ) : Type 0 where
  pub solvable : Solvable t sets order
  pub first_slots : SlotsOf sets t.loops t.headers t.firsts firstSlots
  pub second_slots : SlotsOf sets t.loops t.headers t.seconds secondSlots

-- t has such slots and such an order, which makes every step safe
pub record Makeable (t : Routine) (firstSlots secondSlots order : List ℕ) : Type 0 where
  pub sets : List ℕ
  pub laid : Laid t sets firstSlots secondSlots order

-- what a fault of the making says of t, which is 402 or 403: a figure is outside its limits unless a block has no path, and so no figure
abbrev pub OverAs : SolveFault → Routine → Type 0
OverAs (Structure f) t = ⊥
OverAs UndeclaredLoop t = ⊥
OverAs (NoPath u) t = ⊥
OverAs Multiplier t = multiplier_over (remade t) ≡ true
OverAs Figure t = (multiplier_over (remade t) ≡ false) × (AllPaths t → figure_over (remade t) ≡ true)

-- what an outcome says of t, whose step is done or is not
abbrev pub OutcomeOf : (r : Result Unit SolveFault) (t : Routine) (Done : Type 0) → Type 0
OutcomeOf (Ok _) t Done = Done
OutcomeOf (Err f) t Done = OverAs f t

-- the last pass can start: the multipliers, the weights by them and the figures of the headers
pub record Headed (t : Routine) (made : List ℕ) (weights heads : List ℤ) : Type 0 where
  pub kept : List ℤ
  pub multiplied : MultipliedOf t false made weights kept
  pub heads_figured : HeadsFigured t false heads
  pub fit : (l : ℕ) → l < loop_count t → HeadFits (get_or heads l (pos 0))

-- both columns are made
pub record ColumnsMade (t : Routine) (figures : List ℤ) (made : List ℕ) : Type 0 where
  pub kept : List ℤ
  pub weights : List ℤ
  pub multiplied : MultipliedOf t false made weights kept
  pub figured : FiguredOf t false figures

-- and no rule is broken
pub record Ready (t : Routine) (figures : List ℤ) (made : List ℕ) : Type 0 where
  pub sets : List ℕ
  pub order : List ℕ
  pub solvable : Solvable t sets order
  pub columns : ColumnsMade t figures made

-- what comes of t before anything is written: both columns, or its reply, which is a refusal
abbrev pub RemadeAs : (r : Result Unit SolveFault) (t : Routine) (figures : List ℤ) (made : List ℕ) → Type 0
RemadeAs (Ok _) t figures made = Ready t figures made
RemadeAs (Err f) t figures made = solve_meaning (Err f) ≡ solve_reply t

-- the columns when they are written, and their bound
pub record Ended (costs : List ℕ) (figuresFrom figures : List ℤ) (multipliersFrom multipliers : List ℕ) (b : ℤ) (newFigures : List ℤ) (newMultipliers : List ℕ) : Type 0 where
  pub figures_written : Written (pos 0) figuresFrom figures newFigures
  pub multipliers_written : Written 0 multipliersFrom multipliers newMultipliers
  pub bounded : b ≡ bound (price_columns costs newFigures)

-- what a refusal comes to, of every routine with these successors: 401 at its lowest block without a path, or the later rule where there is none
abbrev pub RefusedAs : (firsts seconds : List ℕ) (later r : SolveFault) → Type 0
RefusedAs firsts seconds later r =
    (t : Routine) → t.firsts ≡ firsts → t.seconds ≡ seconds → length firsts ≡ block_count t → ((u : ℕ) × LowestLost t u × (r ≡ NoPath u)) ⊎ (AllPaths t × (r ≡ later))
