-- What the contracts of `arithmetic` cite, written from document 01 (modules 1 and 2, and the helpers of its last section).
pub mod Reply
pub mod Number
pub mod Part
pub mod Sanitize
pub mod Narrow
pub mod Exp
pub mod Answers
