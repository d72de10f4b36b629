pub mod FeedLaws
pub mod StepLaws
pub mod RecordLaws
pub mod BodyLaws
pub mod LineSteps
pub mod ItemLaws
