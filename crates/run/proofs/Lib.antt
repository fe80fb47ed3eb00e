pub mod Sizes
pub mod Work
pub mod Making
pub mod Keeping
