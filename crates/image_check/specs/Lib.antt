-- The definitions that contracts cite, and their rows.
pub mod Check
pub mod Steps
pub mod Rows
