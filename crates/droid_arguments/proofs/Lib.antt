pub mod IdentifyRefusals
pub mod Options
pub mod Refusals
