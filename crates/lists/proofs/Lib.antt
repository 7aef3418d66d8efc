pub mod Tests
pub mod Lists
pub mod Numbers
pub mod Pairs
pub mod Places
pub mod Maps
pub mod Same
pub mod Every
