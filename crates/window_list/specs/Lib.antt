-- The definitions that contracts cite, what the window list means, and rows.
pub mod Windows
pub mod Kept
pub mod Meaning
pub mod Steps
pub mod Rows
