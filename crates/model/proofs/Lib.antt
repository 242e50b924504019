pub mod Agreement
pub mod Exclusion
pub mod Settling
pub mod Demand
pub mod Sweeping
