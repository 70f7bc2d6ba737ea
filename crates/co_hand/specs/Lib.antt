-- Handlers, which are a service's functions, and ports, through which a function makes its calls.

-- a port: its callouts, the calls so far, how many more it takes; how a call is answered
pub mod Ports
-- what a handler needs of a port (callouts, CPUs, room), and that it has run a function, with which calls
pub mod Handlers
-- what an act asks for
pub mod Operations
-- a script's functions as a handler: the calls are the function's acts, in order
pub mod Functions
