pub mod FolderEnds
pub mod KeptTexts
pub mod OtherEntries
pub mod PagesNow
pub mod SkippedLines
pub mod WriterEnds
