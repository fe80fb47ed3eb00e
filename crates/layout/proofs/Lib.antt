pub mod Adding
pub mod Filling
pub mod Rotation
pub mod Numbers
pub mod Headers
pub mod Heads
pub mod Bits
pub mod Counting
