-- The definitions that contracts cite, and rows.
pub mod Window
pub mod Kept
pub mod Rows
