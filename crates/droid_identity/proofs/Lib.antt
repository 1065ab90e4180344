pub mod BasisLemmas
pub mod DoubtLemmas
pub mod FileLemmas
pub mod MatchLemmas
pub mod OneBasis
pub mod SpanLemmas
pub mod TextLemmas
pub mod UnitLemmas
