mod Readings
mod Rooms
mod Serving
mod Meeting
mod Programs
