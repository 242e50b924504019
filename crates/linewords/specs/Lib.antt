pub mod Requests
pub mod Asked
