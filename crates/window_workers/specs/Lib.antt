pub mod Orders
pub mod Jobs
pub mod Pieces
pub mod Commons
pub mod HalfEnds
pub mod Served
pub mod Openings
