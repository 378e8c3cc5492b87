pub mod PieceSteps
pub mod LineSteps
