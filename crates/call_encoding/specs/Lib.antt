-- The format of calls and answers, what it means, and rows.
pub mod Format
pub mod Meaning
pub mod Rows
