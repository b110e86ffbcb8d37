pub mod Tidy
pub mod Laws
pub mod Examples
pub mod Parted
