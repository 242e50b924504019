pub mod State
pub mod Queues
pub mod Commands
pub mod Sweeps
pub mod Refusals
