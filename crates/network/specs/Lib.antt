pub mod Carried
pub mod Messages
pub mod Bags
pub mod Rules
pub mod Shown
