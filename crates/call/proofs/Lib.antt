-- The laws that proofs here cite, and the rows.
pub mod Found
pub mod Rows
