-- The definitions that contracts cite, and their rows.
pub mod Write
pub mod Rows
