pub mod Plane
pub mod Meaning
pub mod Stores
pub mod Faults
