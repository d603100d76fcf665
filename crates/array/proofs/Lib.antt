pub mod Opened
pub mod Parts
pub mod Samples
