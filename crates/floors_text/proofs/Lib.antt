-- Laws that belong to no one function. `Length` and `Whole` are what a caller cites, `Rows` is the starred row.
pub mod Numbers
pub mod Puts
pub mod Cuts
pub mod Forms
pub mod Turns
pub mod Length
pub mod Going
pub mod Whole
pub mod Rows
pub mod TrueText
pub mod Wrong
