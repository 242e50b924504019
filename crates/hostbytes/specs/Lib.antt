pub mod Configurations
