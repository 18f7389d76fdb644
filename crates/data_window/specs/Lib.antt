-- The window for a handle, what finding it means, and rows.
pub mod Find
pub mod Meaning
pub mod Rows
