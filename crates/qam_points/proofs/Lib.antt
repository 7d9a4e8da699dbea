mod Coordinates
mod Folding
mod Least
pub mod Receiving
mod Signs
mod SignsOfThree
mod Squares
