pub mod Stars
pub mod Copies
pub mod PlaneLists
pub mod Starts
pub mod Audits
pub mod StartOrder
pub mod Sorted
pub mod Kept
