-- A running service of one CPU and no client: its one actor arms, scans and fires, and so sees all.

-- what the one actor sees: every entry; the entries that a scan, a firing and an end add
pub mod Seen
-- what follows from that: each alarm, the clock, what waits, how often each callout has fired
pub mod Alarms
-- what each call leaves: armed, disarmed, scanned, fired, idle
pub mod Acts
-- between two calls nothing is in service, and each arming waits once in the queue or has come due
pub mod Rest
-- after a scan each callout that was due fires once; as many as it answered; each is counted
pub mod Laws
