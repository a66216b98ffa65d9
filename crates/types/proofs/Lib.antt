-- The laws that the functions' proofs cite.
pub mod Table
pub mod Mask
pub mod Walk
