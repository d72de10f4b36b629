pub mod PlaneCounts
pub mod Taken
