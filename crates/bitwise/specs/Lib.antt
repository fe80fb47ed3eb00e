pub mod Bitwise
