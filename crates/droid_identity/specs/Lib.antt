pub mod Bases
pub mod Beaters
pub mod Doubts
pub mod Identities
pub mod Matches
pub mod Spans
pub mod TextKinds
pub mod Trials
