-- Laws of the state as bytes.
pub mod Stored
pub mod Storable
pub mod Floats
pub mod Smoothers
pub mod Inverse
pub mod Finished
pub mod Banks
pub mod Kept
pub mod Wrong
pub mod Shows
