-- The definitions that contracts cite, and rows.
pub mod Listing
pub mod Rows
