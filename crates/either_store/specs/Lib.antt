pub mod Either
pub mod Laws
