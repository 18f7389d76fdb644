-- Calls by kind; answers as numbers; what private steps need; rows.
pub mod Calls
pub mod Answers
pub mod Steps
pub mod Rows
