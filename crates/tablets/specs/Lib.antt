pub mod TabletView
pub mod Compactions
pub mod SetView
pub mod Shadows
pub mod Parting
