pub mod OneMore
pub mod Grown
