-- Numbers of w bytes, tables, and rows.
pub mod Tables
pub mod Numbers
pub mod Rows
