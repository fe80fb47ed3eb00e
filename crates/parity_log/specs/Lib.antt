pub mod Codes
pub mod Walks
pub mod Faults
pub mod Pending
