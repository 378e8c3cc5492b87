pub mod Wide
pub mod Laws
