pub mod FolderObservation
pub mod Given
pub mod Machine
pub mod Names
pub mod OpenFiles
pub mod Places
pub mod Said
pub mod Tops
