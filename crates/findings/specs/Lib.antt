pub mod Findings
pub mod Steps
