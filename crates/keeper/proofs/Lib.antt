-- Laws that belong to no one function. `Step` and `Floor` are what the layers above cite, `Rows` are the starred rows.
pub mod Places
pub mod Drops
pub mod Loops
pub mod Rising
pub mod Step
pub mod Calls
pub mod Run
pub mod Scan
pub mod Window
pub mod Floor
pub mod Rows
pub mod Wrong
