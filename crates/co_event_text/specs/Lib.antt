-- The command `event`: its lines, and what it writes.

-- the language: `arm` with due time and precision, `stop`, `until`
pub mod Commands
-- what is written: each command is answered by events alone
pub mod Answers
-- what the code's answer does to the page and to the queue
pub mod Written
-- behind an `until` no moment comes by its time
pub mod Laws
