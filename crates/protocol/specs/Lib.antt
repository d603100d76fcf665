pub mod Moments
pub mod Steps
pub mod Counts
pub mod Laws
pub mod Example
pub mod Edges
