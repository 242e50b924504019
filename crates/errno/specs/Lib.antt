pub mod Ascii
pub mod Errno
pub mod Outcome
