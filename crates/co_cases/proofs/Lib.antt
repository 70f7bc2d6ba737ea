pub mod WithinRoom
