-- What a caller names, in its edition; what it means; rows.
pub mod Edition
pub mod Meaning
pub mod Rows
