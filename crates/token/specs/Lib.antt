-- What the contracts of src/ cite.
pub mod Outcome
pub mod Carried
pub mod Numbers
