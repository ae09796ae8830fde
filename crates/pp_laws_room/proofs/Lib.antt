pub mod Coming
pub mod RoomLaws
