-- The definitions that contracts cite, the statements about them, and rows.
pub mod Load
pub mod Steps
pub mod Meaning
pub mod Rows
