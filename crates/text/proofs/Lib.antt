-- What this crate proves besides its functions' contracts.
pub mod Laws
