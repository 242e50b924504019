pub mod Encoding
pub mod Meant
