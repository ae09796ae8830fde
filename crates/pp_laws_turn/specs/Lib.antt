pub mod SoundTurn
