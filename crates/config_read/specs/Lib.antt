-- The definitions that contracts cite, the statements about them, and rows.
pub mod Target
pub mod Read
pub mod Meaning
pub mod Rows
