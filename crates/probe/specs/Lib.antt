-- What the C functions of the comparison say of the places that they write, and of what they test first.
pub mod Out
pub mod Setup
pub mod Floors
pub mod Smoothers
