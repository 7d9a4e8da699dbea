mod Listed
mod Gathered
mod Givens
mod Ranged
mod TransmissionsAsked
mod Asked
