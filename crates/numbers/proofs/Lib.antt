-- Laws of tests, tables, numbers, stores and signed numbers, once for every width; and the rows.
pub mod Tests
pub mod Tables
pub mod Numbers
pub mod Stores
pub mod Rows
