-- Laws of the attack row and its mean that belong to no one function.
pub mod Weighted
pub mod Tally
pub mod Scan
pub mod Gain
pub mod Following
pub mod Position
pub mod Along
pub mod RunMeans
pub mod Newest
pub mod Wrong
