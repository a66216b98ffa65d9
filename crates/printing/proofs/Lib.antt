-- The proof files that belong to no one function.
pub mod Laws
