pub mod Cores
pub mod Places
