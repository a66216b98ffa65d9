-- The laws that the functions' proofs and the callers cite.
pub mod Growing
pub mod Undoing
pub mod Chaining
pub mod Appearing
pub mod Storing
pub mod Getting
