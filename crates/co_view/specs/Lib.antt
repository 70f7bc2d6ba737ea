-- Views of a report: what is written of its notes, in an order of them.

-- a note in words, as views say it
pub mod Words
-- a time as seconds in decimals, rounded to a microsecond
pub mod Seconds
-- what is known of each callout so far: armed, waiting for its lock, in service
pub mod Scenes
-- the text of `lanes`: a column for each actor, a row for each note
pub mod Lanes
-- the text of `summary`: how often each reply came, and what became of the armings
pub mod Summary
-- the text of `trace`: events in Chrome's trace format, a microsecond a step
pub mod Trace
-- the text of `svg`: points, words, bars of services, arrows of drains
pub mod Svg
-- texts in parts
pub mod Parts
-- what `trace` and `svg` share: a text before, one for each note, and one behind
pub mod Pictures
-- a text that grows in pieces
pub mod Rolls
