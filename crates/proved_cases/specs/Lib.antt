-- Board B1, its proved cases, and the idle buses that they refuse; the second table, and that of
-- the requests.
pub mod B1
pub mod Cases
pub mod Idle
pub mod SmallBoard
pub mod Rows
pub mod SecondTable
pub mod Requests
