-- The laws that proofs here and above cite, and the rows.
pub mod Copied
pub mod Zeroed
pub mod Rows
