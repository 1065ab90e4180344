pub mod Acts
pub mod Conversions
pub mod Endings
pub mod Machines
pub mod Reasons
pub mod Reports
pub mod Runs
