-- The laws that proofs here and above cite, and the rows.
pub mod Targets
pub mod Fast
pub mod Rows
