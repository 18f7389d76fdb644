-- The used marks, what they mean, and rows.
pub mod Used
pub mod Meaning
pub mod Rows
