-- The definitions that contracts cite, and rows.
pub mod Descriptor
pub mod Rows
