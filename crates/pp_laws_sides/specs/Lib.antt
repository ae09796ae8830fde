pub mod Sides
pub mod Linked
pub mod Tops
pub mod Counts
