-- The definitions that contracts cite, and rows about them.
pub mod Record
pub mod Rows
