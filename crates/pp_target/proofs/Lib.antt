pub mod KeyLemmas
pub mod OnLiterals
mod Rows
pub mod UriGrammar
