mod Places
mod HardBits
mod Modulation
mod Pairs
mod TwoBits
