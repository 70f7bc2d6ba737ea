pub mod Running
pub mod KqText
pub mod SleepText
pub mod ItimerText
