-- The definitions that contracts cite, and rows.
pub mod Unsupported
pub mod Rows
