pub mod Evicting
