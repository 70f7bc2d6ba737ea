-- One order of all notes of a report.

-- an order of all notes that keeps numbers and positions, or that there is none
pub mod Order
-- what the code keeps of an order while it makes it
pub mod Merging
