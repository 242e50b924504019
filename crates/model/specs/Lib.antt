pub mod Steps
pub mod Model
pub mod Demand3
pub mod Sweeps
