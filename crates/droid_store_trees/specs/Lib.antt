pub mod Alike
pub mod Edits
pub mod Entries
pub mod Laws
pub mod Over
pub mod Probe
pub mod Shown
