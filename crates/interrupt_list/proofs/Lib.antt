-- The laws of the chain listing, and the rows.
pub mod Listings
pub mod Rows
