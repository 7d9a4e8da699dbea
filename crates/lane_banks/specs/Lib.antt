pub mod Banks
pub mod Permutations
