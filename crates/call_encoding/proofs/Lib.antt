-- The laws of the format, and the rows.
pub mod Bytes
pub mod Calls
pub mod Meaning
pub mod Rows
