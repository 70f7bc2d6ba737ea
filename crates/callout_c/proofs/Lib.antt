mod Values
mod Holding
