-- The definitions that contracts cite, and their rows.
pub mod Reset
pub mod Rows
