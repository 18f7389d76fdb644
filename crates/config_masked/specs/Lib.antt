-- The rule of a byte, what it means, and rows.
pub mod Masked
pub mod Meaning
pub mod Rows
