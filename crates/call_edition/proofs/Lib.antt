-- The laws of editions, and the rows.
pub mod Meaning
pub mod Named
pub mod Rows
