-- Laws of the detector that belong to no one function.
pub mod Store
pub mod Peak
pub mod Turns
pub mod Sums
pub mod Pattern
pub mod Push
pub mod LastPlace
pub mod Line
pub mod Fours
pub mod Level
pub mod Scan
pub mod Wrong
