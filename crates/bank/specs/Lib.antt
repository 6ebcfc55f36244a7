-- What the contracts of `bank` cite, written from document 01 (module 7, "Blocks, drains, parameters" and the refusal table).
pub mod Param
pub mod Answers
pub mod Smoother
pub mod Bank
pub mod Words
