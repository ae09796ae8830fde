mod Crash
mod Held
mod Lines
mod Passed
mod Waits
mod Whole
