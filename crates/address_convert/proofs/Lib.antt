-- The rows.
pub mod Rows
