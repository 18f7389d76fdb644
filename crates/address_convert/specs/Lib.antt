-- The definitions that contracts cite, and rows of them with literal numbers.
pub mod Convert
pub mod Rows
