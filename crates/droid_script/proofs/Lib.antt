pub mod Runs
pub mod Writes
