-- The definitions that contracts cite, and rows of them with literal numbers.
pub mod Statuses
pub mod Addresses
pub mod Layout
pub mod Handles
pub mod Parts
pub mod Reads
pub mod Spaces
pub mod FromC
pub mod Rows
