-- The laws that the functions' proofs and the callers cite.
pub mod States
pub mod OneArgument
pub mod AllArguments
pub mod Steps
pub mod Computes
pub mod Whole
