-- What the contracts of `settings` cite, written from documents 01 and 02: the settings, which channels count, what setup derives from them, the byte count, the weights rule, the house weights, the target, and the refusals 8 to 14.
pub mod Settings
pub mod Counted
pub mod Derived
pub mod Memory
pub mod Weights
pub mod HouseTable
pub mod House
pub mod Target
pub mod Accepted
