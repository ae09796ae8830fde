pub mod BodiesExact
pub mod BodyLemmas
pub mod DecoderLemmas
pub mod FramingLemmas
mod Rows
pub mod SizeLemmas
pub mod TrailerLemmas
