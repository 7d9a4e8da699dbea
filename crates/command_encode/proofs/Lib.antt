mod FullBuffer
mod BlockKinds
mod MoreText
mod CodewordSteps
mod EncodeSteps
