-- Laws of the driver that belong to no one function.
pub mod Judged
pub mod Called
pub mod Started
pub mod Stepped
pub mod Refusing
pub mod Answered
pub mod Wrong
