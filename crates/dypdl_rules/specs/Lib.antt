pub mod Declarations
pub mod Expressions
pub mod Parameters
pub mod Conditions
pub mod Effects
pub mod Moves
pub mod BaseCases
