-- The laws of scripts.
pub mod Fronts
pub mod Runs
pub mod Loop
pub mod Scripts
pub mod Demand3
