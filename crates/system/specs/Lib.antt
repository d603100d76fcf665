pub mod Faults
pub mod Systems
pub mod Through
pub mod Parked
pub mod Refusals
pub mod Undrawn
