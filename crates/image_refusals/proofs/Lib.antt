-- The laws that proofs here cite, and the rows.
pub mod Rows
