pub mod Blocks
pub mod Filling
pub mod Sharing
pub mod Placed
pub mod Grown
pub mod Filled
pub mod Opened
