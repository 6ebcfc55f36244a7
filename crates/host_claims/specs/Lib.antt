-- The mission's demand 3 as the renderer sees it: lists of calls of the C functions, on bytes.
pub mod HostSession
pub mod HostClaim
pub mod HostControls
