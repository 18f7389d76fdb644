-- The laws that proofs here cite, the law of what is handed to C, and the rows.
pub mod Answered
pub mod Listings
pub mod Rows
