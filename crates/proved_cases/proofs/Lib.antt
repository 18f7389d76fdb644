-- The proofs of the cases, of what refuses each idle bus, of the second table and of the requests'.
pub mod Cases
pub mod Idle
pub mod Rows
pub mod SecondTable
pub mod Requests
