-- The definitions that contracts cite, the statements about them and their rows.
pub mod Data
pub mod CCalls
pub mod Meaning
pub mod Rows
