-- The laws of the cells' offsets, and the rows.
pub mod Placing
pub mod Ranges
pub mod Rows
