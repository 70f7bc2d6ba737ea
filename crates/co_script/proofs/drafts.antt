-- What every draft keeps that lines are read into: a line of the frame closes the open section and opens the next, an act is one
-- more of the open section.
pub mod Named
pub mod Sections
pub mod Firm
pub mod Order
pub mod HeadLines
pub mod TimerLines
pub mod SectionLines
pub mod TurnsLine
pub mod Passed
pub mod FrameLines
pub mod ActLines
pub mod Finished
