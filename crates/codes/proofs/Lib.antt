pub mod Unique
pub mod Shares
pub mod Filling
