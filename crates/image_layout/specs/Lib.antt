-- The definitions that contracts cite, and their rows.
pub mod Image
pub mod Rows
