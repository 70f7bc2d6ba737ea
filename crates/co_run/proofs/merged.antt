-- The notes of all actors that have played their programs are a run of the script.
pub mod Gathered
pub mod FinalPlaces
pub mod RunOfScript
