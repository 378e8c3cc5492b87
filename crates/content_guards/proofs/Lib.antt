pub mod StepTexts
pub mod Whole
pub mod WholeScalars
pub mod WholeTrees
pub mod WholeForms
pub mod WholeNodes
pub mod WholeTexts
pub mod LoadedSteps
pub mod Variables
pub mod Transitions
mod Wording
pub mod Costs
mod DepotData
mod DepotTexts
mod DepotRules
pub mod Depot
pub mod Dresses
