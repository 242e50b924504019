pub mod Room
pub mod Sessions
