pub mod CsvLemmas
pub mod EndLemmas
pub mod HashLemmas
pub mod JsonLetters
pub mod NameLemmas
pub mod SayLemmas
pub mod ShownLemmas
pub mod StreamLemmas
