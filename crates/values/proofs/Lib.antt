-- The laws that the functions' proofs and the callers cite.
pub mod Index
pub mod Present
pub mod Rows
pub mod Codes
pub mod Padded
pub mod Held
pub mod Interning
pub mod Forgetting
pub mod Steps
