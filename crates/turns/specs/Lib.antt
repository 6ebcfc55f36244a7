-- Blocks and drains, written from document 01 (module 7, "Blocks, drains, parameters" and the refusal table): the machine, its events, and what either refuses and leaves.
pub mod Machine
pub mod Events
pub mod Block
pub mod Drain
pub mod Inner
