pub mod Quick
pub mod Settings
