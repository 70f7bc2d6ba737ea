pub mod tables
pub mod written
pub mod opening
pub mod stored
pub mod calls
pub mod services
pub mod steps
pub mod walked
