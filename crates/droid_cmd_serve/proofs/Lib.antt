pub mod FreshServices
pub mod Headers
pub mod JournalCommands
pub mod ManyEndings
pub mod ScriptEndings
pub mod SendEndings
