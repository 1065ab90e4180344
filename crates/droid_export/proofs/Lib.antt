pub mod CivilDays
mod Consistency
pub mod CsvRoundTrip
pub mod CsvText
pub mod Digits
pub mod Escapes
pub mod Examples
pub mod FlagMarks
pub mod IndexContents
pub mod Lines
pub mod ListPlaces
mod NamesLeft
pub mod Numbers
mod PlainLists
mod PlainRows
mod ProfileReading
pub mod RecordReading
pub mod Records
pub mod RowTypes
pub mod Sayings
pub mod TextConcatenation
pub mod WholeHeaders
pub mod WriterStops
