-- The claim over the C functions, proved: what a call leaves in bytes is what the next one reads, and so the claim's lists are the renderer's.
pub mod HandedOn
pub mod HostClaimed
pub mod HostControls
