pub mod Elements
pub mod Hearing
pub mod Numbers
pub mod PendingPlaces
