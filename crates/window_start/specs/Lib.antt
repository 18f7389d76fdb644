-- The definitions that contracts cite, and rows.
pub mod Start
pub mod Rows
