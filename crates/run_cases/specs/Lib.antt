-- What the tests run.

-- a script that can run on threads, and services for those that only threads can test
pub mod Scenes
