-- What the contracts of `detector` cite, written from document 01 (module 3), how a store is told from its samples, and, in Sums, for private functions alone, how the code computes an answer.
pub mod Taps
pub mod Oversample
pub mod History
pub mod Run
pub mod Sums
pub mod Level
