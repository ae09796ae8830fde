use Rattle.pp_cache_law.proofs.Alike.{bytes_of, held_of}
use Rattle.pp_cache_law.proofs.Gaps.{holes_of}
use Rattle.pp_cache_law.proofs.Spans.{spans_of}
use Rattle.pp_cache_law.proofs.reading.bytes_are_the_laws.Goals as goal

pub returns : goal.returns
returns c = record { bytes = bytes_of; held = held_of; spans = spans_of; holes = holes_of }
