-- What the program measures calls on.

-- a service of version 1 with a client, a CPU and 16 callouts for each thread, and one CPU more
pub mod Team
