mod Faults
mod Pushes
mod Runs
mod SpeltPrimaries
