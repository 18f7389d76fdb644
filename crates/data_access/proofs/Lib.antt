-- The laws that proofs here and above cite, and the rows.
mod Known
pub mod Meaning
pub mod Rows
