pub mod Small
pub mod Lines
