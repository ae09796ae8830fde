mod Dropping
mod Finding
mod Rows
mod Searching
