-- The laws that the functions' proofs cite.
pub mod Progress
pub mod Whole
