-- What this crate's contracts say, of the two public functions and of the inner ones.
pub mod Printed
pub mod Placed
