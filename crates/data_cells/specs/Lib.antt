-- The definitions that contracts cite, the statements about them and their rows.
pub mod Cells
pub mod Meaning
pub mod Rows
