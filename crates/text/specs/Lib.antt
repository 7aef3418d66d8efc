pub mod Text
pub mod Numbers
pub mod Fields
pub mod Put
