pub mod LaneHalves
pub mod LaneRuns
