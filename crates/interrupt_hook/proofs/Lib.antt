-- The laws that proofs here and above cite, and the rows.
pub mod Entries
pub mod Positions
pub mod Moves
pub mod Hooking
pub mod Unhooking
pub mod Ordered
pub mod Packed
pub mod Repacked
pub mod Room
pub mod Rows
