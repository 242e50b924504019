pub mod Input
pub mod Feeding
