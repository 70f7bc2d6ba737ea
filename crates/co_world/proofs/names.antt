-- What queues, actors and notes name exists in the script.
pub mod Calls
pub mod Places
pub mod Notes
