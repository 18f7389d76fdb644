-- The proof of the rows.
pub mod Rows
