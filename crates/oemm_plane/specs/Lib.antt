pub mod PlaneBounds
