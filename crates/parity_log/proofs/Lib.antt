pub mod Walking
pub mod Counted
pub mod Owed
