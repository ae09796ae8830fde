pub mod Served
pub mod Asked
pub mod Reaches
pub mod Laws
