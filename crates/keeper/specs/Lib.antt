-- What the contracts and theorems of `keeper` cite, written from document 01 (module 4, "One gain step", "In order means" and the table of refusals).
pub mod Ring
pub mod InOrder
pub mod Keeper
pub mod Run
pub mod Floor
pub mod History
