pub mod Products
pub mod First
pub mod Sums
pub mod Moves
pub mod Targets
pub mod Sweeps
pub mod Refusals
pub mod Controls
