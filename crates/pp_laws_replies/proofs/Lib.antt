pub mod ByRowLemmas
pub mod Spans
pub mod Usable
pub mod HasRows
pub mod Effects
pub mod HeardLemmas
pub mod HeardPlaces
pub mod Quiet
pub mod Cases
pub mod QuietRows
pub mod QuietAsks
pub mod QuietHeads
pub mod QuietTurns
pub mod Stories
pub mod StoryEnds
pub mod StorySaid
pub mod StoryBegins
pub mod StoryDecided
pub mod StoryHappenings
pub mod StoryShown
mod Worked
mod WorkedRows
