-- The numbers of a place that a decoder can be at.
use Rattle.std.specs.Prelude.{◌<◌, ◌≤◌, ◌^◌}
use Rattle.pp_framing.specs.declared.place.Place.{Place}
use Rattle.pp_framing.specs.declared.place.Place.TheVariants.{ChunkStart, Size, Blanks, Extension, SizeReturn, Chunk, ChunkEnd, ChunkReturn, TrailerStart, Trailer, TrailerReturn, LastReturn, Counted, Unbounded, Over, Wrong}

abbrev pub IsSound : Place → Type 0
IsSound (Size digits size) = (digits ≤ 16) × (size < 16 ^ digits)
IsSound (Chunk left) = 0 < left
IsSound (Counted left) = 0 < left
IsSound (TrailerStart len) = len ≤ 16384
IsSound (Trailer len) = len < 16384
IsSound (TrailerReturn len) = len < 16384
IsSound ChunkStart = Unit {0}
IsSound (Blanks size) = Unit {0}
IsSound (Extension len size) = Unit {0}
IsSound (SizeReturn size) = Unit {0}
IsSound ChunkEnd = Unit {0}
IsSound ChunkReturn = Unit {0}
IsSound LastReturn = Unit {0}
IsSound Unbounded = Unit {0}
IsSound Over = Unit {0}
IsSound Wrong = Unit {0}
