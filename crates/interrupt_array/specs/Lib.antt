-- The definitions that contracts cite, and rows.
pub mod Hooks
pub mod Rows
