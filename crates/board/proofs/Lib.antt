-- The laws that proofs here and above cite, and the rows.
pub mod Addresses
pub mod Handles
pub mod Rows
