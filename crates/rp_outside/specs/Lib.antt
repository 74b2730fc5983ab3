pub mod Devices
pub mod Forms
