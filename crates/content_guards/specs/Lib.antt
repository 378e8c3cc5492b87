pub mod Variables
pub mod StepTexts
pub mod Transitions
pub mod Depot
pub mod Dresses
