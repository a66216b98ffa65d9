-- What the contracts cite.
pub mod Given
pub mod Judged
