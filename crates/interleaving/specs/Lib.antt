-- Interleaved audio: what it is, what a call makes of it, and what the inner functions promise.
pub mod Interleaved
pub mod Calls
pub mod Inner
pub mod Walks
