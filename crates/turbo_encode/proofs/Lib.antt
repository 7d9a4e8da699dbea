mod TailBits
mod StreamsMade
mod FilledCells
mod FourSteps
mod FourWritten
mod Coders
mod Quarters
