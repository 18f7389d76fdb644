-- The definitions that contracts cite, and their rows.
pub mod Refusals
pub mod Steps
pub mod Rows
