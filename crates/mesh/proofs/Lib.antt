-- The laws that belong to no one function.
pub mod Bands
pub mod Meshes
pub mod Examples
