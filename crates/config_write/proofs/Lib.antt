-- The laws that proofs here and above cite, and the rows.
pub mod Masks
pub mod Written
pub mod Moves
pub mod Rows
