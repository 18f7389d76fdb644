-- The laws that proofs here and above cite, and the rows.
pub mod Turns
pub mod Back
pub mod Shows
pub mod Sources
pub mod Rows
