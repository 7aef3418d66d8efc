pub mod Meshes
pub mod Whys
pub mod Told
