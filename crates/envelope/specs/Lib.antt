-- What the contracts of `envelope` cite: the attack row, its mean, and how the gain follows it (document 01, "One gain step").
pub mod Row
pub mod Mean
pub mod Follow
pub mod Step
pub mod Run
