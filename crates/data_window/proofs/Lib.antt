-- The laws of the search for a window, and the rows.
pub mod Searches
pub mod Meaning
pub mod Reasons
pub mod OnBus
pub mod Rows
