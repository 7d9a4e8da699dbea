mod Alone
mod Apart
mod Changed
mod Dealing
pub mod Dealt
mod JoinSteps
pub mod Labels
mod Leases
mod Lent
mod Names
pub mod Nones
pub mod Numbers
mod OneCell
mod Owns
mod Placed
mod Positions
mod RawRows
mod Reach
mod Sites
mod Shuffles
mod Told
pub mod Undone
