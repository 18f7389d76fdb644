-- Walks through descriptors, what they mean, and rows.
pub mod Walk
pub mod Meaning
pub mod Rows
