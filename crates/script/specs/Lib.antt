pub mod Texts
pub mod Calls
pub mod Drafts
pub mod Answers
pub mod Inputs
pub mod Readers
