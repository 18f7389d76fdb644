-- The law that crates above cite, and the rows.
pub mod Windows
pub mod Rows
