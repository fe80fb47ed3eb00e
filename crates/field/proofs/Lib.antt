pub mod Test
pub mod Rules
pub mod Laws
pub mod Products
pub mod Identities
