-- Laws that belong to no one function.
pub mod Tests
pub mod One
pub mod Still
pub mod Domain
pub mod Slots
pub mod Calls
pub mod Ramp
pub mod Prepared
pub mod NotNan
pub mod Updates
pub mod Rows
pub mod Wrong
pub mod Shapes
