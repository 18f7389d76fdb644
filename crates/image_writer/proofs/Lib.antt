-- The length of a trailer, which the crates above cite too, and the rows.
pub mod Lists
pub mod Rows
