pub mod Spacing
pub mod ActsBack
pub mod FrameBack
pub mod Sizes
pub mod Typed
pub mod LoneActs
pub mod AheadWords
mod Digits
mod AheadOperands
mod AheadForms
mod Stars
