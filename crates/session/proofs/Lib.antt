-- The laws that the functions' proofs cite.
pub mod Marks
pub mod Settling
pub mod Hand
pub mod Progress
pub mod Running
