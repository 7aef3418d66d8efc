pub mod Bands
pub mod Meshes
