-- Laws of a call's audio. `Planes` is planar audio, of samples or of their bytes; `Written` the bytes of a call; `Numbers` words in bytes.
pub mod Carry
pub mod Planes
pub mod Numbers
pub mod Places
pub mod Written
pub mod Wrong
