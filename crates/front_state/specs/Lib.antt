pub mod Tablets
pub mod Waits
pub mod Catalogued
pub mod Parts
pub mod Ready
