-- The definitions that contracts cite, the statements about them, and rows.
pub mod Resource
pub mod Meaning
pub mod Rows
