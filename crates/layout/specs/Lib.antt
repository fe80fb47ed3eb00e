pub mod Bytes
pub mod Stripes
pub mod Limits
pub mod Header
pub mod Head
pub mod Counts
pub mod Marks
