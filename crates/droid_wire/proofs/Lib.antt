pub mod Accepting
pub mod Alone
pub mod Answering
pub mod AnswersOnce
pub mod Ends
mod Exchanged
pub mod Going
pub mod GoingOn
pub mod Held
pub mod HistoryLaws
pub mod Invariant
pub mod Journals
pub mod Noting
pub mod OneHistory
pub mod Passing
pub mod ReadStreams
pub mod RequestKinds
mod Results
pub mod SentWhole
pub mod ServedStreams
pub mod ServiceSteps
pub mod SmallHistories
pub mod SoFar
pub mod Splits
pub mod Stays
pub mod Steps
pub mod Turns
pub mod WholeStreams
