-- The mission's demand 3: lists of calls, document 01's book, which is fed their arguments alone, its table for setup, the claim, the lone gain step, wrong limiters, and the starred rows.
pub mod Session
pub mod Book
pub mod BookCalls
pub mod Table
pub mod Refused
pub mod Claim
pub mod GainSteps
pub mod Controls
pub mod SetupControls
pub mod Tent
pub mod Rows
pub mod HouseRows
