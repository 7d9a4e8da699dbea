pub mod Groups
pub mod LawfulLaws
pub mod Qpp
pub mod QppLaws
pub mod Walk
