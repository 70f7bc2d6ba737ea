-- What holds of one answer holds after every schedule; and what the answers of steps tell.
pub mod AnyAnswers
pub mod DueAnswers
pub mod TurnsTold
