-- The jobs of a group of actors, and what they bring back.
pub mod Deals
pub mod Seats
pub mod LastItem
