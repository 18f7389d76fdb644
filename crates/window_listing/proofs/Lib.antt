-- The laws that proofs here and above cite, and the rows.
pub mod Answers
pub mod Rows
