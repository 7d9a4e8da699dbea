mod Forties
mod Tiles
