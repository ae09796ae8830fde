pub mod HexLemmas
mod Rows
