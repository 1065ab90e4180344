pub mod Altering
pub mod Edits
pub mod Numbered
pub mod Places
pub mod Removals
pub mod RowPlaces
pub mod Seen
pub mod Showing
