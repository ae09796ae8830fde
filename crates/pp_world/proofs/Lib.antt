pub mod CallLemmas
pub mod CrashTests
mod DiskExamples
mod Examples
pub mod FileLemmas
pub mod LogLemmas
