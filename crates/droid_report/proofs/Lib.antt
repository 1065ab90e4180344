mod Contents
mod Escaping
mod Fitting
mod Grouping
mod HtmlReading
mod Letters
mod Lines
mod Listing
pub mod Pages
mod Reading
mod RowSteps
mod TableTexts
mod TextBytes
mod Totalling
mod Verifying
