pub mod HexBytes
