pub mod Products
pub mod Filling
