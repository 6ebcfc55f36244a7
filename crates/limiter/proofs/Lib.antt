-- Laws of the limiter that belong to no one function.
pub mod Judge
pub mod Answered
pub mod Ready
pub mod Setup
pub mod Frames
pub mod Keeping
pub mod Wrong
