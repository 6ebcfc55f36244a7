-- The state as bytes: its layout, and what is read and written.
pub mod State
pub mod Shown
