mod EditSteps
mod Honesty
mod QueueSteps
mod StreamSteps
