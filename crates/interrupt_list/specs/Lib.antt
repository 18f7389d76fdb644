-- The chain listing, what it means, and rows.
pub mod Listing
pub mod Meaning
pub mod Rows
