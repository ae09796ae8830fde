-- What a log has, in numbers.
use Rattle.std.specs.Prelude.{ℕ, Bool, true, false, List, ◌++◌, codes, count_by, decimal}
use Rattle.pp_world.specs.Log.{Log}
use Rattle.pp_world.specs.declared.happening.Happening.{Happening}
use Rattle.pp_world.specs.declared.happening.Happening.TheVariants.{Woke, Asked, Noted}
use Rattle.pp_world.specs.declared.note.Decision.{Decision}
use Rattle.pp_world.specs.declared.note.Decision.TheVariants.{Refuse, Hit, Part, Head, NotModified, Unsatisfiable, Relay, Validate, Fetch, Pass}
use Rattle.pp_world.specs.declared.note.Remark.TheVariants.{Taken, Cut, Kept}
use Rattle.pp_demo.specs.declared.summary.Summary.{Summary}

abbrev pub is_woke : Happening → Bool
is_woke (Woke image) = true
is_woke happening = false

-- for a reply, and not for an exchange
abbrev pub replies : Decision → Bool
replies (Refuse status) = true
replies (Hit from to) = true
replies (Part from to) = true
replies Head = true
replies NotModified = true
replies Unsatisfiable = true
replies Relay = true
replies Validate = false
replies Fetch = false
replies Pass = false

abbrev pub is_reply : Happening → Bool
is_reply (Noted (Taken c request decision)) = replies decision
is_reply happening = false

abbrev pub is_cut : Happening → Bool
is_cut (Noted (Cut c cause)) = true
is_cut happening = false

abbrev pub is_asked : Happening → Bool
is_asked (Asked k bytes) = true
is_asked happening = false

abbrev pub is_kept : Happening → Bool
is_kept (Noted (Kept key tag len extent)) = true
is_kept happening = false

abbrev pub summary_of : Log → Summary
summary_of log = record {
  lives = count_by is_woke log;
  replies = count_by is_reply log;
  cuts = count_by is_cut log;
  asks = count_by is_asked log;
  kept = count_by is_kept log;
}

abbrev pub summary_line : List ℕ → ℕ → List ℕ
summary_line word count = word ++ decimal count ++ codes "\n"

-- five lines, each a word, a space and a number
abbrev pub summary_text : Summary → List ℕ
summary_text s =
    summary_line (codes "lives ") s.lives ++ summary_line (codes "replies ") s.replies ++ summary_line (codes "cuts ") s.cuts
    ++ summary_line (codes "asks ") s.asks ++ summary_line (codes "kept ") s.kept
