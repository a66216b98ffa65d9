-- That each promise allows one result only.
pub mod Unique
