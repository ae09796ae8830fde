pub mod StepLemmas
pub mod LineLemmas
pub mod SectionLemmas
pub mod RequestLemmas
pub mod ResponseLemmas
pub mod LimitLemmas
pub mod FieldLemmas
pub mod PartLemmas
pub mod SpanLemmas
pub mod ErrorLemmas
pub mod RequestAgrees
pub mod KeptLemmas
pub mod RequestSpansLemmas
pub mod ResponseAgrees
pub mod ResponseSpansLemmas
pub mod OnLiterals
mod RequestRows
mod ResponseRows
