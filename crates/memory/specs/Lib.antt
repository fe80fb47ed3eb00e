pub mod Lent
pub mod Held
pub mod Faults
