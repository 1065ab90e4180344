pub mod After
pub mod Asked
mod BeforeVersion2
mod ByHand
pub mod ByKind
pub mod ByVersion
pub mod Counted
pub mod Each
pub mod FirstVersion
pub mod Judged
pub mod Legal
mod Meanings
pub mod Meetings
pub mod OnePiece
pub mod Recorded
pub mod Replied
pub mod Whole
