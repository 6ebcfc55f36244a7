-- Laws that belong to no one function.
pub mod Domain
pub mod Unit
pub mod WeightPart
pub mod WeightSum
pub mod WeightPairs
pub mod WeightPlaces
pub mod Stretches
pub mod Rows
pub mod Wrong
pub mod Taken
