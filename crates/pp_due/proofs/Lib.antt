pub mod EnteringLemmas
pub mod RoomLemmas
pub mod WaitsLemmas
