pub mod Costs
pub mod Evaluation
pub mod Typing
pub mod Limits
pub mod StepTexts
