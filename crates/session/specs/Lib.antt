-- What the contracts of src/ and of the callers cite.
pub mod Sessioned
pub mod Lent
