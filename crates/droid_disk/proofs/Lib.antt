pub mod Bytes
pub mod FileReads
pub mod FilteredParts
pub mod HeldFiles
pub mod Looks
pub mod Paths
pub mod Tops
pub mod UnseenKinds
