-- Values of the worked cases.

-- the functions of a worked script: of one callout on one CPU
pub mod Tables
