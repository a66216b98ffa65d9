-- The laws that the functions' proofs cite, subject by subject.
pub mod Lists
pub mod Numbers
pub mod Turns
pub mod Tables
pub mod Policies
pub mod Steps
pub mod Commands
pub mod Arguments
pub mod Lines
pub mod Cut
pub mod Reading
