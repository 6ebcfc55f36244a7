-- What the contracts of `frame` cite: one frame, a run of frames (document 01, "One gain step" and "Blocks, drains, parameters"), and the passes in which the code goes about a run.
pub mod Rules
pub mod Seat
pub mod Frame
pub mod Place
pub mod Run
pub mod Passes
pub mod Alike
pub mod Lent
