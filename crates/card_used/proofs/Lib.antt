-- The laws of the used marks, and the rows.
pub mod Marks
pub mod Rows
