-- The laws that proofs here and above cite, and the rows.
pub mod Lists
pub mod Ranges
pub mod Rows
