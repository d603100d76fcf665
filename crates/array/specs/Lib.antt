pub mod Calls
pub mod Edges
pub mod Elements
pub mod Faults
pub mod Numbers
pub mod References
