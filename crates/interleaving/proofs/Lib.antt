-- Laws of interleaved audio.
-- What it is: `Tables` transposed tables of anything, `Frames` that their frames are a block's, `Samples` the same of bytes, `Facts` a call on every input, `Answers` when nothing moves, `Blocks` what a block takes.
-- What the code does: `Pieces` pieces of bytes of which some were put anew, `Sliding` two puts, one after the other, `Spacing` samples moved one after the other, `Tiling` tiles, `Bits` and `Cycles` rows,
-- `Spreading` the frames that fill no tile, `Joining` all three in turn, `Fitting` their lengths.
pub mod Tables
pub mod Frames
pub mod Samples
pub mod Facts
pub mod Answers
pub mod Blocks
pub mod Pieces
pub mod Sliding
pub mod Spacing
pub mod Tiling
pub mod Bits
pub mod Cycles
pub mod Spreading
pub mod Joining
pub mod Fitting
pub mod Wrong
