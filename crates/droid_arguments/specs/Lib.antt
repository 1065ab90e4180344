pub mod Asking
pub mod Commands
pub mod Identifying
pub mod Made
pub mod NoCommands
pub mod Registries
pub mod Rules
pub mod Values
