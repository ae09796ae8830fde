pub mod Numbers
pub mod Addresses
pub mod Settings
pub mod Conf
pub mod Text
pub mod Words
pub mod Logs
pub mod Shown
