pub mod Faults
pub mod Drawn
pub mod Sessions
pub mod Results
pub mod TakenUp
