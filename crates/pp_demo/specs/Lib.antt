pub mod Generator
pub mod Pages
pub mod Asking
pub mod Summary
pub mod Script
