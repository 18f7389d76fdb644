-- The definitions that contracts cite, and rows about them.
pub mod Entry
pub mod Rows
