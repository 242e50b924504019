pub mod Created
