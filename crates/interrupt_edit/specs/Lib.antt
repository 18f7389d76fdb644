-- The definitions that contracts cite, and rows.
pub mod Changes
pub mod Rows
