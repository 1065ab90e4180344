pub mod BareSizes
pub mod Ending
pub mod Going
pub mod Marks
pub mod Noting
pub mod Passing
pub mod Readable
pub mod SameNumbers
pub mod Shortening
pub mod SideBySide
pub mod Sizes
pub mod Skimming
mod Weighing
pub mod Wholes
pub mod Writing
