pub mod Bags
mod Parts
mod Oldest
