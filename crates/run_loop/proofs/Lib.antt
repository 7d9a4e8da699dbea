pub mod Rises
pub mod Moves
mod LineParts
mod Parts
mod Endings
pub mod Complete
pub mod Alone
pub mod Within
pub mod ReadAhead
pub mod Opening
