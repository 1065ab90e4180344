pub mod Agreeing
mod Agreement
mod Counting
mod FormatAgreement
mod Hashed
mod Keeping
mod ListReading
mod ListingChecks
mod Moments
mod Noting
mod Places
mod ReadableItems
mod SameAgreeing
mod Sameness
mod Silence
mod TreeChecks
mod Writing
