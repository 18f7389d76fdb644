-- Scripts, and what they mean.
pub mod Script
pub mod Meaning
pub mod Demand3
