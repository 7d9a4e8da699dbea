pub mod Handling
pub mod Rounds
pub mod SoftBytes
