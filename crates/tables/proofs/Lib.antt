pub mod Taken
pub mod Queued
