-- What the C functions' contracts cite: the answer's words, each call through bytes, and the rearrangements of a file's audio.
pub mod Answer
pub mod Host
pub mod Files
