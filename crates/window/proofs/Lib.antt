-- Laws of windows and kept numbers that the crates above cite, and the rows.
pub mod Exponents
pub mod Unpacked
pub mod Rows
