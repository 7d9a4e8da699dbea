mod Coming
mod Near
mod Parted
mod Ahead
mod Made
mod RoundSteps
mod BatchOpens
