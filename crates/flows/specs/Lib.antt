-- The definitions: the solutions of the path-counting program and of what a reader of its text got, the flow of a run, and the claims.
pub mod Flow
