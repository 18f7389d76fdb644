-- The laws that proofs above cite, and the rows.
pub mod Cells
pub mod Inside
pub mod Named
pub mod Rows
