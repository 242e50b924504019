pub mod Row
pub mod HasMasks
