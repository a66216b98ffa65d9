-- The laws that the functions' proofs cite, and those that hold of the model alone.
pub mod Rules
pub mod FirstBroken
pub mod Judging
