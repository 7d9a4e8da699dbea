pub mod Bits
pub mod Lists
pub mod Packing
pub mod Softs
