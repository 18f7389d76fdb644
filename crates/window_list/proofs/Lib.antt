-- Laws of the window list that function proofs and the crates above cite, and the rows.
pub mod Lists
pub mod Order
pub mod Open
pub mod Meaning
pub mod Packed
pub mod Sorted
pub mod Settle
pub mod Sweep
pub mod KeptArray
pub mod Rows
