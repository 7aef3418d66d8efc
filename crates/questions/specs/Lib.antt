pub mod Meshes
pub mod Whys
