-- The laws of the rule, and the rows.
pub mod Bits
pub mod Rows
