-- The cells of the windows, what their offsets mean, and rows.
pub mod Cells
pub mod Meaning
pub mod Rows
