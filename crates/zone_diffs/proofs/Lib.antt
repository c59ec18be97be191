mod Entries
mod Finding
mod Cancelling
