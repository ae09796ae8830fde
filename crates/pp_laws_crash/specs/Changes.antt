-- Which happenings change what is on the disk (ours).
use Rattle.std.specs.Prelude.{Bool, true, false}
use Rattle.pp_world.specs.declared.happening.Happening.{Happening}
use Rattle.pp_world.specs.declared.happening.Happening.TheVariants.{Woke, Waits, Clock, Opened, CanRead, CanWrite, Heard, HungUp, Said, Shut, Dialled, Undialled, Reached, Ended, Broke, Asked, Got, Dropped, NoneYet, Began, Did, Unread, Noted, Rooted, Listed, Listens, Configured, Printed, Stopped}
use Rattle.pp_world.specs.declared.note.Remark.TheVariants.{Taken, Cut, Kept, Gone, Forgotten, Evicted, Loaded}

-- an operation of the disk, a word of the opening, or a note of an entry that is taken away or kept further
abbrev pub changes_disk : Happening → Bool
changes_disk (Woke image) = true
changes_disk (Waits w) = false
changes_disk (Clock seconds) = false
changes_disk (Opened n) = false
changes_disk (CanRead n) = false
changes_disk (CanWrite n) = false
changes_disk (Heard c bytes) = false
changes_disk (HungUp c) = false
changes_disk (Said c offered bytes) = false
changes_disk (Shut c) = false
changes_disk (Dialled n host port) = false
changes_disk (Undialled host port) = false
changes_disk (Reached k) = false
changes_disk (Ended k) = false
changes_disk (Broke k) = false
changes_disk (Asked k bytes) = false
changes_disk (Got k bytes) = false
changes_disk (Dropped k) = false
changes_disk (NoneYet n) = false
changes_disk (Began op) = true
changes_disk (Did op ok) = true
changes_disk (Unread name) = true
changes_disk (Noted (Taken c i d)) = false
changes_disk (Noted (Cut c cause)) = false
changes_disk (Noted (Kept key tag n extent)) = true
changes_disk (Noted (Gone key)) = true
changes_disk (Noted (Forgotten key)) = false
changes_disk (Noted (Evicted key tag n i)) = false
changes_disk (Noted (Loaded key tag n i)) = false
changes_disk (Rooted folder) = true
changes_disk (Listed ok) = true
changes_disk (Listens port ok) = true
changes_disk (Configured file text) = true
changes_disk (Printed text) = false
changes_disk Stopped = false
