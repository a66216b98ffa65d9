-- What the contracts of src/ cite.
pub mod Filled
pub mod Coding
pub mod Interned
pub mod Interning
pub mod Holds
pub mod Forgetting
