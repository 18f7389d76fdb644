-- The definitions that contracts cite, their rows, and the law of what is handed to C.
pub mod Answered
pub mod Exports
pub mod Layout
pub mod Rows
