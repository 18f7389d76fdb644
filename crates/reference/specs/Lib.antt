-- The program's step, the reference machine, runs of both, the claims about runs, and laws of
-- single calls and of the two call editions.
pub mod State
pub mod Reference
pub mod Run
pub mod Claims
pub mod SingleCalls
pub mod FoundWindow
pub mod Editions
pub mod Rows
