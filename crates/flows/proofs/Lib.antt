-- Sums over lists; the program's rows as sums over edges.
pub mod Totals
pub mod Rows
-- No solution costs more than an accepted bound.
pub mod Duality
-- A run as a flow: sums over the edges that it takes; every finished counted run is a solution, at its own cost.
pub mod Steps
pub mod Runs
-- The text has the program's solutions.
pub mod Texts
-- The solver's bound is the program's optimum.
pub mod Optimum
