pub mod Fused
pub mod Faults
