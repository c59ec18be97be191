mod Values
mod Writes
