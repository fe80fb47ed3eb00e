pub mod Columns
pub mod Lost
pub mod Shares
pub mod Rows
