-- The laws that proofs here and above cite, and the rows.
pub mod Accepted
pub mod Found
pub mod Rows
