pub mod Names
pub mod Buffers
pub mod Deal
pub mod Orders
pub mod Ownership
pub mod Parts
pub mod Rights
pub mod Shares
