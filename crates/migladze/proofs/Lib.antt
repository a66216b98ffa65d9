-- The laws that the entries' proofs cite.
pub mod Taken
pub mod Running
pub mod Reporting
pub mod Meaning
