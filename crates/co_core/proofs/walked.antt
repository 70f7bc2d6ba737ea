-- The walk: its notes are told, and what is known of its actors stays so.
pub mod Told
pub mod Known
