pub mod Connections
pub mod Disk
pub mod Doors
pub mod Files
pub mod Life
pub mod Log
pub mod Streams
pub mod Wire
