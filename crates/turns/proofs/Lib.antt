-- Laws of turns that belong to no one function.
pub mod Latching
pub mod Kernel
pub mod Rendering
pub mod Turning
pub mod Driving
pub mod Still
pub mod Told
pub mod Draining
pub mod Wrong
