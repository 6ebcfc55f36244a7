-- What the contracts of `limiter` cite, written from document 01 (module 6): the state, its stores, setup and reset.
pub mod State
pub mod Stores
pub mod Prepare
pub mod Order
pub mod Run
pub mod Reset
