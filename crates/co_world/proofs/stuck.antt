-- Some unfinished actor can step, and a service begins under its lock.
pub mod Movers
pub mod Holders
pub mod Serving
pub mod Ticking
pub mod NeverStuck
pub mod UnderLock
