-- The example's service.

-- its parameters (one client, one CPU, one callout without a lock), what its functions call, and what a run of one is
pub mod Example
