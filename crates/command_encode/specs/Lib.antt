pub mod Input
pub mod Codeword
pub mod CodewordRound
pub mod Encode
pub mod EncodeRounds
