pub mod FileReads
pub mod NameFronts
pub mod Runs
pub mod Splitting
pub mod Tallies
