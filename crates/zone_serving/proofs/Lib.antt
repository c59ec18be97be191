mod LongQueries
mod Framing
mod Replying
mod Stepping
mod Telling
