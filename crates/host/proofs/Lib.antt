-- Laws of the C functions.
pub mod Kept
pub mod Through
pub mod Blocks
pub mod Answered
pub mod Buffers
pub mod Few
pub mod FileBlocks
pub mod Wrong
