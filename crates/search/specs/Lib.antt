-- Searching, what it means, and rows.
pub mod Search
pub mod Meaning
pub mod Rows
