-- The verdicts of transcripts/evicting.log, written by transcripts/make_rows.
use Rattle.std.proofs.Common.{◌≡◌, refl, ℕ, List, [], ◌∷◌, ◌++◌, true, false, Bool, Option, None, Some, codes}
use Rattle.std.specs.Prelude.{replicate, is_some}
use Rattle.pp_world.specs.Log.{Log}
use Rattle.pp_world.specs.declared.happening.Happening.{Happening}
use Rattle.pp_world.specs.declared.happening.Happening.TheVariants.{Woke, Waits, Clock, Opened, CanRead, CanWrite, Heard, HungUp, Said, Shut, Dialled, Undialled, Reached, Ended, Broke, Asked, Got, Dropped, NoneYet, Began, Did, Unread, Noted, Rooted, Listed, Listens, Configured, Printed, Stopped}
use Rattle.pp_world.specs.declared.note.Decision.TheVariants.{Refuse, Hit, Part, Head, NotModified, Unsatisfiable, Relay, Validate, Fetch, Pass}
use Rattle.pp_world.specs.declared.note.Cause.TheVariants.{Superseded, Origin, Short, Idle, Memory, Stop}
use Rattle.pp_world.specs.declared.note.Remark.TheVariants.{Taken, Cut, Kept, Gone, Forgotten, Evicted, Loaded}
use Rattle.pp_world.specs.declared.op.DiskOp.TheVariants.{Draft, SyncDraft, Publish, Write, Sync, Remove}
use Rattle.pp_law.specs.Lists.{Bytes}
use Rattle.pp_law.specs.State.{State, start}
use Rattle.pp_law.specs.Lawful.{fault_from, Fault, ImageNotLeft, OpeningOutOfOrder, EventOutOfTurn, ReadNotAskedFor, FailureMadeUp, WrongReply, WrongAsk, WrongDecision, WrongCut, NotToBeClosed, NotToBeDialled, NotToBeEvicted, NotToBeForgotten, NotToBeLoaded, NotSealed, NotGone, WrongDiskOperation, StepUnfinished, AcceptsWrongly, ClientForgotten, ConnectionForgotten, ExchangeForgotten, WantsTooMuch}
use Rattle.pp_pieces.proofs.Forced.{judge, arrived, judging, told, tell}

abbrev wait : Bool → List ℕ → List ℕ → Happening
wait accept read write = Waits (record { accept = accept; read = record { items = read }; write = record { items = write } })

abbrev text0 : Bytes
text0 = (codes "pipelineAsks=1")

abbrev text1 : Bytes
text1 = (codes "hostConnections=4")

abbrev text2 : Bytes
text2 = (codes "polipo-cache")

abbrev text3 : Bytes
text3 = (codes "GET http://h/a HTTP/1.1\r\n\r\n")

abbrev text4 : Bytes
text4 = (codes "GET /a HTTP/1.1\r\nhost: h\r\nvia: 1.1 polipo\r\n\r\n")

abbrev text5 : Bytes
text5 = (codes "HTTP/1.1 200 OK\r\nETag: \"x\"\r\nContent-Length: 2000000\r\n\r\n")

abbrev text6 : Bytes
text6 = (replicate 8192 97)

abbrev text7 : Bytes
text7 = (codes "GET http://i/a HTTP/1.1\r\n\r\n")

abbrev text8 : Bytes
text8 = (codes "GET /a HTTP/1.1\r\nhost: i\r\nvia: 1.1 polipo\r\n\r\n")

abbrev text9 : Bytes
text9 = (codes "GET http://j/a HTTP/1.1\r\n\r\n")

abbrev text10 : Bytes
text10 = (codes "GET /a HTTP/1.1\r\nhost: j\r\nvia: 1.1 polipo\r\n\r\n")

abbrev text11 : Bytes
text11 = (codes "HTTP/1.1 200 OK\r\netag: \"x\"\r\ndate: Sun, 06 Nov 1994 08:49:37 GMT\r\nvia: 1.1 polipo\r\ncontent-length: 2000000\r\nconnection: keep-alive\r\n\r\n")

row87x0 : (s : State) × (arrived s ≡ judge 0 (start (record { words = (codes "diskRun=1") ∷ text0 ∷ text1 ∷ []; faults = 0 } ∷ [])) (Woke [] ∷ Rooted text2 ∷ Listed true ∷ Listens 8123 true ∷ wait true [] [] ∷ []))
unfolding judging
row87x0 = (_, refl)

abbrev row87marked : State
unfolding row87x0
row87marked = record (row87x0.0) { settings = record (row87x0.0).settings { low = 12; high = 12 } }

row87 : fault_from 5 row87marked (Clock 784111777 ∷ wait true [] [] ∷ Opened 1 ∷ wait true (1 ∷ []) [] ∷ CanRead 1 ∷ Heard 1 text3 ∷ Noted (Taken 1 0 Fetch) ∷ Dialled 2 (codes "h") 80 ∷ wait true [] [] ∷ Reached 2 ∷ wait true (2 ∷ []) (2 ∷ []) ∷ CanWrite 2 ∷ Asked 2 text4 ∷ wait true (2 ∷ []) [] ∷ CanRead 2 ∷ Got 2 text5 ∷ Noted (Taken 1 0 (Part 0 2000000)) ∷ wait true (2 ∷ []) [] ∷ CanRead 2 ∷ Got 2 text6 ∷ wait true (2 ∷ []) (1 ∷ []) ∷ CanRead 2 ∷ Got 2 text6 ∷ wait true (2 ∷ []) (1 ∷ []) ∷ Opened 3 ∷ wait true (2 ∷ 3 ∷ []) (1 ∷ []) ∷ CanRead 3 ∷ Heard 3 text7 ∷ Noted (Taken 3 0 Fetch) ∷ Dialled 4 (codes "i") 80 ∷ wait true (2 ∷ []) (1 ∷ []) ∷ Reached 4 ∷ wait true (2 ∷ 4 ∷ []) (1 ∷ 4 ∷ []) ∷ CanWrite 4 ∷ Asked 4 text8 ∷ wait true (2 ∷ 4 ∷ []) (1 ∷ []) ∷ CanRead 4 ∷ Got 4 text5 ∷ Noted (Taken 3 0 (Part 0 2000000)) ∷ wait true (2 ∷ 4 ∷ []) (1 ∷ []) ∷ CanRead 4 ∷ Got 4 text6 ∷ wait true (2 ∷ 4 ∷ []) (1 ∷ 3 ∷ []) ∷ CanRead 4 ∷ Got 4 text6 ∷ wait true (2 ∷ 4 ∷ []) (1 ∷ 3 ∷ []) ∷ Opened 5 ∷ wait true (2 ∷ 4 ∷ 5 ∷ []) (1 ∷ 3 ∷ []) ∷ CanRead 5 ∷ Heard 5 text9 ∷ Noted (Taken 5 0 Fetch) ∷ Dialled 6 (codes "j") 80 ∷ wait true (2 ∷ 4 ∷ []) (1 ∷ 3 ∷ []) ∷ Reached 6 ∷ wait true (2 ∷ 4 ∷ 6 ∷ []) (1 ∷ 3 ∷ 6 ∷ []) ∷ CanWrite 6 ∷ Asked 6 text10 ∷ wait true (2 ∷ 4 ∷ 6 ∷ []) (1 ∷ 3 ∷ []) ∷ CanRead 6 ∷ Got 6 text5 ∷ Noted (Taken 5 0 (Part 0 2000000)) ∷ wait true (2 ∷ 4 ∷ 6 ∷ []) (1 ∷ 3 ∷ []) ∷ CanRead 6 ∷ Got 6 text6 ∷ wait true (2 ∷ 4 ∷ 6 ∷ []) (1 ∷ 3 ∷ 5 ∷ []) ∷ CanRead 6 ∷ Got 6 text6 ∷ wait true (2 ∷ 4 ∷ 6 ∷ []) (1 ∷ 3 ∷ 5 ∷ []) ∷ CanRead 6 ∷ Got 6 text6 ∷ Noted (Evicted (codes "http://h/a") (codes "\"x\"") 2000000 1) ∷ Noted (Evicted (codes "http://h/a") (codes "\"x\"") 2000000 2) ∷ wait true (2 ∷ 4 ∷ 6 ∷ []) (1 ∷ 3 ∷ 5 ∷ []) ∷ []) ≡ None
unfolding judging row87x0 row87marked
row87 = refl

row92x0 : (s : State) × (arrived s ≡ judge 0 (start (record { words = (codes "diskRun=1") ∷ text0 ∷ text1 ∷ []; faults = 0 } ∷ [])) (Woke [] ∷ Rooted text2 ∷ Listed true ∷ Listens 8123 true ∷ wait true [] [] ∷ []))
unfolding judging
row92x0 = (_, refl)

abbrev row92marked : State
unfolding row92x0
row92marked = record (row92x0.0) { settings = record (row92x0.0).settings { low = 12; high = 12 } }

row92 : fault_from 5 row92marked (Clock 784111777 ∷ wait true [] [] ∷ Opened 1 ∷ wait true (1 ∷ []) [] ∷ CanRead 1 ∷ Heard 1 text3 ∷ Noted (Taken 1 0 Fetch) ∷ Dialled 2 (codes "h") 80 ∷ wait true [] [] ∷ Reached 2 ∷ wait true (2 ∷ []) (2 ∷ []) ∷ CanWrite 2 ∷ Asked 2 text4 ∷ wait true (2 ∷ []) [] ∷ CanRead 2 ∷ Got 2 text5 ∷ Noted (Taken 1 0 (Part 0 2000000)) ∷ wait true (2 ∷ []) [] ∷ CanRead 2 ∷ Got 2 text6 ∷ wait true (2 ∷ []) (1 ∷ []) ∷ CanRead 2 ∷ Got 2 text6 ∷ wait true (2 ∷ []) (1 ∷ []) ∷ Opened 3 ∷ wait true (2 ∷ 3 ∷ []) (1 ∷ []) ∷ CanRead 3 ∷ Heard 3 text7 ∷ Noted (Taken 3 0 Fetch) ∷ Dialled 4 (codes "i") 80 ∷ wait true (2 ∷ []) (1 ∷ []) ∷ Reached 4 ∷ wait true (2 ∷ 4 ∷ []) (1 ∷ 4 ∷ []) ∷ CanWrite 4 ∷ Asked 4 text8 ∷ wait true (2 ∷ 4 ∷ []) (1 ∷ []) ∷ CanRead 4 ∷ Got 4 text5 ∷ Noted (Taken 3 0 (Part 0 2000000)) ∷ wait true (2 ∷ 4 ∷ []) (1 ∷ []) ∷ CanRead 4 ∷ Got 4 text6 ∷ wait true (2 ∷ 4 ∷ []) (1 ∷ 3 ∷ []) ∷ CanRead 4 ∷ Got 4 text6 ∷ wait true (2 ∷ 4 ∷ []) (1 ∷ 3 ∷ []) ∷ Opened 5 ∷ wait true (2 ∷ 4 ∷ 5 ∷ []) (1 ∷ 3 ∷ []) ∷ CanRead 5 ∷ Heard 5 text9 ∷ Noted (Taken 5 0 Fetch) ∷ Dialled 6 (codes "j") 80 ∷ wait true (2 ∷ 4 ∷ []) (1 ∷ 3 ∷ []) ∷ Reached 6 ∷ wait true (2 ∷ 4 ∷ 6 ∷ []) (1 ∷ 3 ∷ 6 ∷ []) ∷ CanWrite 6 ∷ Asked 6 text10 ∷ wait true (2 ∷ 4 ∷ 6 ∷ []) (1 ∷ 3 ∷ []) ∷ CanRead 6 ∷ Got 6 text5 ∷ Noted (Taken 5 0 (Part 0 2000000)) ∷ wait true (2 ∷ 4 ∷ 6 ∷ []) (1 ∷ 3 ∷ []) ∷ CanRead 6 ∷ Got 6 text6 ∷ wait true (2 ∷ 4 ∷ 6 ∷ []) (1 ∷ 3 ∷ 5 ∷ []) ∷ CanRead 6 ∷ Got 6 text6 ∷ wait true (2 ∷ 4 ∷ 6 ∷ []) (1 ∷ 3 ∷ 5 ∷ []) ∷ CanRead 6 ∷ Got 6 text6 ∷ Noted (Evicted (codes "http://h/a") (codes "\"x\"") 2000000 0) ∷ []) ≡ Some (record { at = 75; rule = NotToBeEvicted })
unfolding judging row92x0 row92marked
row92 = refl

row96x0 : (s : State) × (arrived s ≡ judge 0 (start (record { words = (codes "diskRun=1") ∷ text0 ∷ text1 ∷ []; faults = 0 } ∷ [])) (Woke [] ∷ Rooted text2 ∷ Listed true ∷ Listens 8123 true ∷ wait true [] [] ∷ []))
unfolding judging
row96x0 = (_, refl)

abbrev row96marked : State
unfolding row96x0
row96marked = record (row96x0.0) { settings = record (row96x0.0).settings { low = 12; high = 12 } }

row96 : fault_from 5 row96marked (Clock 784111777 ∷ wait true [] [] ∷ Opened 1 ∷ wait true (1 ∷ []) [] ∷ CanRead 1 ∷ Heard 1 text3 ∷ Noted (Taken 1 0 Fetch) ∷ Dialled 2 (codes "h") 80 ∷ wait true [] [] ∷ Reached 2 ∷ wait true (2 ∷ []) (2 ∷ []) ∷ CanWrite 2 ∷ Asked 2 text4 ∷ wait true (2 ∷ []) [] ∷ CanRead 2 ∷ Got 2 text5 ∷ Noted (Taken 1 0 (Part 0 2000000)) ∷ wait true (2 ∷ []) [] ∷ CanRead 2 ∷ Got 2 text6 ∷ wait true (2 ∷ []) (1 ∷ []) ∷ CanRead 2 ∷ Got 2 text6 ∷ wait true (2 ∷ []) (1 ∷ []) ∷ Opened 3 ∷ wait true (2 ∷ 3 ∷ []) (1 ∷ []) ∷ CanRead 3 ∷ Heard 3 text7 ∷ Noted (Taken 3 0 Fetch) ∷ Dialled 4 (codes "i") 80 ∷ wait true (2 ∷ []) (1 ∷ []) ∷ Reached 4 ∷ wait true (2 ∷ 4 ∷ []) (1 ∷ 4 ∷ []) ∷ CanWrite 4 ∷ Asked 4 text8 ∷ wait true (2 ∷ 4 ∷ []) (1 ∷ []) ∷ CanRead 4 ∷ Got 4 text5 ∷ Noted (Taken 3 0 (Part 0 2000000)) ∷ wait true (2 ∷ 4 ∷ []) (1 ∷ []) ∷ CanRead 4 ∷ Got 4 text6 ∷ wait true (2 ∷ 4 ∷ []) (1 ∷ 3 ∷ []) ∷ CanRead 4 ∷ Got 4 text6 ∷ wait true (2 ∷ 4 ∷ []) (1 ∷ 3 ∷ []) ∷ Opened 5 ∷ wait true (2 ∷ 4 ∷ 5 ∷ []) (1 ∷ 3 ∷ []) ∷ CanRead 5 ∷ Heard 5 text9 ∷ Noted (Taken 5 0 Fetch) ∷ Dialled 6 (codes "j") 80 ∷ wait true (2 ∷ 4 ∷ []) (1 ∷ 3 ∷ []) ∷ Reached 6 ∷ wait true (2 ∷ 4 ∷ 6 ∷ []) (1 ∷ 3 ∷ 6 ∷ []) ∷ CanWrite 6 ∷ Asked 6 text10 ∷ wait true (2 ∷ 4 ∷ 6 ∷ []) (1 ∷ 3 ∷ []) ∷ CanRead 6 ∷ Got 6 text5 ∷ Noted (Taken 5 0 (Part 0 2000000)) ∷ wait true (2 ∷ 4 ∷ 6 ∷ []) (1 ∷ 3 ∷ []) ∷ CanRead 6 ∷ Got 6 text6 ∷ wait true (2 ∷ 4 ∷ 6 ∷ []) (1 ∷ 3 ∷ 5 ∷ []) ∷ CanRead 6 ∷ Got 6 text6 ∷ wait true (2 ∷ 4 ∷ 6 ∷ []) (1 ∷ 3 ∷ 5 ∷ []) ∷ CanRead 6 ∷ Got 6 text6 ∷ Noted (Evicted (codes "http://h/a") (codes "\"x\"") 2000000 1) ∷ Noted (Evicted (codes "http://h/a") (codes "\"x\"") 2000000 2) ∷ Noted (Evicted (codes "http://h/a") (codes "\"x\"") 2000000 3) ∷ []) ≡ Some (record { at = 77; rule = NotToBeEvicted })
unfolding judging row96x0 row96marked
row96 = refl

row102x0 : (s : State) × (arrived s ≡ judge 0 (start (record { words = (codes "diskRun=1") ∷ text0 ∷ text1 ∷ []; faults = 0 } ∷ [])) (Woke [] ∷ Rooted text2 ∷ Listed true ∷ Listens 8123 true ∷ wait true [] [] ∷ []))
unfolding judging
row102x0 = (_, refl)

abbrev row102marked : State
unfolding row102x0
row102marked = record (row102x0.0) { settings = record (row102x0.0).settings { low = 12; high = 12 } }

row102 : fault_from 5 row102marked (Clock 784111777 ∷ wait true [] [] ∷ Opened 1 ∷ wait true (1 ∷ []) [] ∷ CanRead 1 ∷ Heard 1 text3 ∷ Noted (Taken 1 0 Fetch) ∷ Dialled 2 (codes "h") 80 ∷ wait true [] [] ∷ Reached 2 ∷ wait true (2 ∷ []) (2 ∷ []) ∷ CanWrite 2 ∷ Asked 2 text4 ∷ wait true (2 ∷ []) [] ∷ CanRead 2 ∷ Got 2 text5 ∷ Noted (Taken 1 0 (Part 0 2000000)) ∷ wait true (2 ∷ []) [] ∷ CanRead 2 ∷ Got 2 text6 ∷ wait true (2 ∷ []) (1 ∷ []) ∷ CanRead 2 ∷ Got 2 text6 ∷ wait true (2 ∷ []) (1 ∷ []) ∷ Opened 3 ∷ wait true (2 ∷ 3 ∷ []) (1 ∷ []) ∷ CanRead 3 ∷ Heard 3 text7 ∷ Noted (Taken 3 0 Fetch) ∷ Dialled 4 (codes "i") 80 ∷ wait true (2 ∷ []) (1 ∷ []) ∷ Reached 4 ∷ wait true (2 ∷ 4 ∷ []) (1 ∷ 4 ∷ []) ∷ CanWrite 4 ∷ Asked 4 text8 ∷ wait true (2 ∷ 4 ∷ []) (1 ∷ []) ∷ CanRead 4 ∷ Got 4 text5 ∷ Noted (Taken 3 0 (Part 0 2000000)) ∷ wait true (2 ∷ 4 ∷ []) (1 ∷ []) ∷ CanRead 4 ∷ Got 4 text6 ∷ wait true (2 ∷ 4 ∷ []) (1 ∷ 3 ∷ []) ∷ CanRead 4 ∷ Got 4 text6 ∷ wait true (2 ∷ 4 ∷ []) (1 ∷ 3 ∷ []) ∷ Opened 5 ∷ wait true (2 ∷ 4 ∷ 5 ∷ []) (1 ∷ 3 ∷ []) ∷ CanRead 5 ∷ Heard 5 text9 ∷ Noted (Taken 5 0 Fetch) ∷ Dialled 6 (codes "j") 80 ∷ wait true (2 ∷ 4 ∷ []) (1 ∷ 3 ∷ []) ∷ Reached 6 ∷ wait true (2 ∷ 4 ∷ 6 ∷ []) (1 ∷ 3 ∷ 6 ∷ []) ∷ CanWrite 6 ∷ Asked 6 text10 ∷ wait true (2 ∷ 4 ∷ 6 ∷ []) (1 ∷ 3 ∷ []) ∷ CanRead 6 ∷ Got 6 text5 ∷ Noted (Taken 5 0 (Part 0 2000000)) ∷ wait true (2 ∷ 4 ∷ 6 ∷ []) (1 ∷ 3 ∷ []) ∷ CanRead 6 ∷ Got 6 text6 ∷ wait true (2 ∷ 4 ∷ 6 ∷ []) (1 ∷ 3 ∷ 5 ∷ []) ∷ CanRead 6 ∷ Got 6 text6 ∷ wait true (2 ∷ 4 ∷ 6 ∷ []) (1 ∷ 3 ∷ 5 ∷ []) ∷ CanRead 6 ∷ Got 6 text6 ∷ Noted (Evicted (codes "http://h/a") (codes "\"x\"") 2000000 1) ∷ wait true (2 ∷ 4 ∷ 6 ∷ []) (1 ∷ 3 ∷ 5 ∷ []) ∷ []) ≡ Some (record { at = 76; rule = StepUnfinished })
unfolding judging row102x0 row102marked
row102 = refl

row126x0 : (s : State) × (arrived s ≡ judge 0 (start (record { words = (codes "diskRun=1") ∷ text0 ∷ text1 ∷ []; faults = 0 } ∷ [])) (Woke [] ∷ Rooted text2 ∷ Listed true ∷ Listens 8123 true ∷ wait true [] [] ∷ []))
unfolding judging
row126x0 = (_, refl)

abbrev row126marked : State
unfolding row126x0
row126marked = record (row126x0.0) { settings = record (row126x0.0).settings { low = 12; high = 12 } }

row126 : fault_from 5 row126marked (Clock 784111777 ∷ wait true [] [] ∷ Opened 1 ∷ wait true (1 ∷ []) [] ∷ CanRead 1 ∷ Heard 1 text3 ∷ Noted (Taken 1 0 Fetch) ∷ Dialled 2 (codes "h") 80 ∷ wait true [] [] ∷ Reached 2 ∷ wait true (2 ∷ []) (2 ∷ []) ∷ CanWrite 2 ∷ Asked 2 text4 ∷ wait true (2 ∷ []) [] ∷ CanRead 2 ∷ Got 2 text5 ∷ Noted (Taken 1 0 (Part 0 2000000)) ∷ wait true (2 ∷ []) [] ∷ CanRead 2 ∷ Got 2 text6 ∷ wait true (2 ∷ []) (1 ∷ []) ∷ CanRead 2 ∷ Got 2 text6 ∷ wait true (2 ∷ []) (1 ∷ []) ∷ Opened 3 ∷ wait true (2 ∷ 3 ∷ []) (1 ∷ []) ∷ CanRead 3 ∷ Heard 3 text7 ∷ Noted (Taken 3 0 Fetch) ∷ Dialled 4 (codes "i") 80 ∷ wait true (2 ∷ []) (1 ∷ []) ∷ Reached 4 ∷ wait true (2 ∷ 4 ∷ []) (1 ∷ 4 ∷ []) ∷ CanWrite 4 ∷ Asked 4 text8 ∷ wait true (2 ∷ 4 ∷ []) (1 ∷ []) ∷ CanRead 4 ∷ Got 4 text5 ∷ Noted (Taken 3 0 (Part 0 2000000)) ∷ wait true (2 ∷ 4 ∷ []) (1 ∷ []) ∷ CanRead 4 ∷ Got 4 text6 ∷ wait true (2 ∷ 4 ∷ []) (1 ∷ 3 ∷ []) ∷ CanRead 4 ∷ Got 4 text6 ∷ wait true (2 ∷ 4 ∷ []) (1 ∷ 3 ∷ []) ∷ Opened 5 ∷ wait true (2 ∷ 4 ∷ 5 ∷ []) (1 ∷ 3 ∷ []) ∷ CanRead 5 ∷ Heard 5 text9 ∷ Noted (Taken 5 0 Fetch) ∷ Dialled 6 (codes "j") 80 ∷ wait true (2 ∷ 4 ∷ []) (1 ∷ 3 ∷ []) ∷ Reached 6 ∷ wait true (2 ∷ 4 ∷ 6 ∷ []) (1 ∷ 3 ∷ 6 ∷ []) ∷ CanWrite 6 ∷ Asked 6 text10 ∷ wait true (2 ∷ 4 ∷ 6 ∷ []) (1 ∷ 3 ∷ []) ∷ CanRead 6 ∷ Got 6 text5 ∷ Noted (Taken 5 0 (Part 0 2000000)) ∷ wait true (2 ∷ 4 ∷ 6 ∷ []) (1 ∷ 3 ∷ []) ∷ CanRead 6 ∷ Got 6 text6 ∷ wait true (2 ∷ 4 ∷ 6 ∷ []) (1 ∷ 3 ∷ 5 ∷ []) ∷ CanRead 6 ∷ Got 6 text6 ∷ wait true (2 ∷ 4 ∷ 6 ∷ []) (1 ∷ 3 ∷ 5 ∷ []) ∷ CanWrite 1 ∷ Said 1 133 text11 ∷ wait true (2 ∷ 4 ∷ 6 ∷ []) (1 ∷ 3 ∷ 5 ∷ []) ∷ CanWrite 1 ∷ Said 1 16384 [] ∷ wait true (1 ∷ 2 ∷ 4 ∷ 6 ∷ []) (1 ∷ 3 ∷ 5 ∷ []) ∷ CanWrite 1 ∷ HungUp 1 ∷ Shut 1 ∷ wait true (2 ∷ 4 ∷ 6 ∷ []) (3 ∷ 5 ∷ []) ∷ CanRead 6 ∷ Got 6 text6 ∷ Noted (Evicted (codes "http://h/a") (codes "\"x\"") 2000000 0) ∷ Noted (Evicted (codes "http://h/a") (codes "\"x\"") 2000000 1) ∷ wait true (2 ∷ 4 ∷ 6 ∷ []) (3 ∷ 5 ∷ []) ∷ []) ≡ None
unfolding judging row126x0 row126marked
row126 = refl

row131x0 : (s : State) × (arrived s ≡ judge 0 (start (record { words = (codes "diskRun=1") ∷ text0 ∷ text1 ∷ []; faults = 0 } ∷ [])) (Woke [] ∷ Rooted text2 ∷ Listed true ∷ Listens 8123 true ∷ wait true [] [] ∷ []))
unfolding judging
row131x0 = (_, refl)

abbrev row131marked : State
unfolding row131x0
row131marked = record (row131x0.0) { settings = record (row131x0.0).settings { low = 12; high = 12 } }

row131 : fault_from 5 row131marked (Clock 784111777 ∷ wait true [] [] ∷ Opened 1 ∷ wait true (1 ∷ []) [] ∷ CanRead 1 ∷ Heard 1 text3 ∷ Noted (Taken 1 0 Fetch) ∷ Dialled 2 (codes "h") 80 ∷ wait true [] [] ∷ Reached 2 ∷ wait true (2 ∷ []) (2 ∷ []) ∷ CanWrite 2 ∷ Asked 2 text4 ∷ wait true (2 ∷ []) [] ∷ CanRead 2 ∷ Got 2 text5 ∷ Noted (Taken 1 0 (Part 0 2000000)) ∷ wait true (2 ∷ []) [] ∷ CanRead 2 ∷ Got 2 text6 ∷ wait true (2 ∷ []) (1 ∷ []) ∷ CanRead 2 ∷ Got 2 text6 ∷ wait true (2 ∷ []) (1 ∷ []) ∷ Opened 3 ∷ wait true (2 ∷ 3 ∷ []) (1 ∷ []) ∷ CanRead 3 ∷ Heard 3 text7 ∷ Noted (Taken 3 0 Fetch) ∷ Dialled 4 (codes "i") 80 ∷ wait true (2 ∷ []) (1 ∷ []) ∷ Reached 4 ∷ wait true (2 ∷ 4 ∷ []) (1 ∷ 4 ∷ []) ∷ CanWrite 4 ∷ Asked 4 text8 ∷ wait true (2 ∷ 4 ∷ []) (1 ∷ []) ∷ CanRead 4 ∷ Got 4 text5 ∷ Noted (Taken 3 0 (Part 0 2000000)) ∷ wait true (2 ∷ 4 ∷ []) (1 ∷ []) ∷ CanRead 4 ∷ Got 4 text6 ∷ wait true (2 ∷ 4 ∷ []) (1 ∷ 3 ∷ []) ∷ CanRead 4 ∷ Got 4 text6 ∷ wait true (2 ∷ 4 ∷ []) (1 ∷ 3 ∷ []) ∷ Opened 5 ∷ wait true (2 ∷ 4 ∷ 5 ∷ []) (1 ∷ 3 ∷ []) ∷ CanRead 5 ∷ Heard 5 text9 ∷ Noted (Taken 5 0 Fetch) ∷ Dialled 6 (codes "j") 80 ∷ wait true (2 ∷ 4 ∷ []) (1 ∷ 3 ∷ []) ∷ Reached 6 ∷ wait true (2 ∷ 4 ∷ 6 ∷ []) (1 ∷ 3 ∷ 6 ∷ []) ∷ CanWrite 6 ∷ Asked 6 text10 ∷ wait true (2 ∷ 4 ∷ 6 ∷ []) (1 ∷ 3 ∷ []) ∷ CanRead 6 ∷ Got 6 text5 ∷ Noted (Taken 5 0 (Part 0 2000000)) ∷ wait true (2 ∷ 4 ∷ 6 ∷ []) (1 ∷ 3 ∷ []) ∷ CanRead 6 ∷ Got 6 text6 ∷ wait true (2 ∷ 4 ∷ 6 ∷ []) (1 ∷ 3 ∷ 5 ∷ []) ∷ CanRead 6 ∷ Got 6 text6 ∷ wait true (2 ∷ 4 ∷ 6 ∷ []) (1 ∷ 3 ∷ 5 ∷ []) ∷ CanWrite 1 ∷ Said 1 133 text11 ∷ wait true (2 ∷ 4 ∷ 6 ∷ []) (1 ∷ 3 ∷ 5 ∷ []) ∷ CanWrite 1 ∷ Said 1 16384 [] ∷ wait true (1 ∷ 2 ∷ 4 ∷ 6 ∷ []) (1 ∷ 3 ∷ 5 ∷ []) ∷ CanWrite 1 ∷ HungUp 1 ∷ Shut 1 ∷ wait true (2 ∷ 4 ∷ 6 ∷ []) (3 ∷ 5 ∷ []) ∷ CanRead 6 ∷ Got 6 text6 ∷ Noted (Evicted (codes "http://h/a") (codes "\"x\"") 2000000 1) ∷ []) ≡ Some (record { at = 85; rule = NotToBeEvicted })
unfolding judging row131x0 row131marked
row131 = refl
