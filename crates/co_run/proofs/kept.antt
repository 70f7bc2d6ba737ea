-- What is kept of an actor, from its start on and by each of its sections.
pub mod Scanned
pub mod AtStart
pub mod ByCalls
pub mod ByItself
pub mod ByScans
pub mod ByPops
pub mod ByBegins
pub mod ByEnds
pub mod ByOwedScans
pub mod Readiness
