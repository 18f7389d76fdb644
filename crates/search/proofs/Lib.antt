-- The laws of searches, and the rows.
pub mod Searches
pub mod Rows
