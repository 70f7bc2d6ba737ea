-- What the calls of the tests come to.

-- a call over ends without faults and with room is answered
pub mod WithinRoom
