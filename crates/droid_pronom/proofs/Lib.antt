pub mod Flags
pub mod FoundExtension
pub mod FoundFile
pub mod FoundOnce
mod FoundRows
pub mod FoundSteps
pub mod FoundTests
pub mod HeadLemmas
pub mod MarkSteps
pub mod Marks
pub mod RegistryForms
pub mod RegistryReading
pub mod RegistryRows
pub mod RegistrySteps
pub mod RegistryTables
pub mod SetFlags
