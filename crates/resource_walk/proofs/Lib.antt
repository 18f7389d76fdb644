-- The laws of walks, and the rows.
pub mod Walks
pub mod WalkBack
pub mod Rows
