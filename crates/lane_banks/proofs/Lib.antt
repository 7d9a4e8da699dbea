pub mod BankCells
pub mod BankRows
pub mod PermutationLaws
pub mod PermutationSteps
mod Inverses
mod Words
