use Rattle.std.proofs.Common.{◌≡◌, ◌+◌, length, take}
use Rattle.pp_text.specs.Lines.{lines_of}
use Rattle.pp_entry.specs.Places.{spans_of}
use Rattle.pp_entry.proofs.places.place.Given as goal

abbrev pub invariant-loop-index : goal.invariant-loop-index
invariant-loop-index l = record {
  at_line : l.at ≡ 17 + length (lines_of (take l.index l.fields));
  placed : take l.index l.spans ≡ spans_of (take l.index l.fields);
}
