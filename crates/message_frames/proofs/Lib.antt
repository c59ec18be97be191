mod Cutting
mod FrameReading
mod FrameWriting
