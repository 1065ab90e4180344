pub mod Counting
pub mod Exporting
pub mod Keeping
