-- What the code's arrays satisfy, the tables' structure, and the tails along an edge.
pub mod Local
pub mod Structure
pub mod Tails
-- Other columns in the same routine; tails in steps; the multipliers.
pub mod Columns
pub mod Steps
pub mod Ranks
pub mod Multipliers
-- Figures that come from tails keep the inequalities and are the smallest; how they are filled in loop by loop.
pub mod Figures
pub mod Filled
-- 401: lists of blocks after one another, paths to the exit, and the blocks that get a figure.
pub mod Joined
pub mod Paths
pub mod Exits
-- No round costs more than the multiplier, which is 0 where there is no round; and the tails are attained, by rounds that cost the
-- multipliers and a finished counted run that costs the bound. So the columns are optimal.
pub mod Rounds
pub mod Stretch
pub mod Attained
pub mod Optimal
-- The remade columns: optimal, the only ones, accepted; and a finished counted run that costs their bound.
pub mod Remade
-- The remade figures as equations between neighbouring blocks.
pub mod Edges
-- The solver's reply, and its cases.
pub mod Replies
pub mod Cases
