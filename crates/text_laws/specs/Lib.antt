pub mod Entries
pub mod Records
pub mod BestRuns
pub mod Certified
