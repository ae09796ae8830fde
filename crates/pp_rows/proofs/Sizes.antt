-- The verdicts of transcripts/sizes.log, written by transcripts/make_rows.
use Rattle.std.proofs.Common.{◌≡◌, refl, ℕ, List, [], ◌∷◌, ◌++◌, true, false, Bool, Option, None, Some, codes}
use Rattle.std.specs.Prelude.{replicate, is_some}
use Rattle.pp_world.specs.Log.{Log}
use Rattle.pp_world.specs.declared.happening.Happening.{Happening}
use Rattle.pp_world.specs.declared.happening.Happening.TheVariants.{Woke, Waits, Clock, Opened, CanRead, CanWrite, Heard, HungUp, Said, Shut, Dialled, Undialled, Reached, Ended, Broke, Asked, Got, Dropped, NoneYet, Began, Did, Unread, Noted, Rooted, Listed, Listens, Configured, Printed, Stopped}
use Rattle.pp_world.specs.declared.note.Decision.TheVariants.{Refuse, Hit, Part, Head, NotModified, Unsatisfiable, Relay, Validate, Fetch, Pass}
use Rattle.pp_world.specs.declared.note.Cause.TheVariants.{Superseded, Origin, Short, Idle, Memory, Stop}
use Rattle.pp_world.specs.declared.note.Remark.TheVariants.{Taken, Cut, Kept, Gone, Forgotten, Evicted, Loaded}
use Rattle.pp_world.specs.declared.op.DiskOp.TheVariants.{Draft, SyncDraft, Publish, Write, Sync, Remove}
use Rattle.pp_law.specs.Lists.{Bytes}
use Rattle.pp_law.specs.State.{State, start}
use Rattle.pp_law.specs.Lawful.{fault_from, Fault, ImageNotLeft, OpeningOutOfOrder, EventOutOfTurn, ReadNotAskedFor, FailureMadeUp, WrongReply, WrongAsk, WrongDecision, WrongCut, NotToBeClosed, NotToBeDialled, NotToBeEvicted, NotToBeForgotten, NotToBeLoaded, NotSealed, NotGone, WrongDiskOperation, StepUnfinished, AcceptsWrongly, ClientForgotten, ConnectionForgotten, ExchangeForgotten, WantsTooMuch}
use Rattle.pp_pieces.proofs.Forced.{judge, arrived, judging, told, tell}

abbrev wait : Bool → List ℕ → List ℕ → Happening
wait accept read write = Waits (record { accept = accept; read = record { items = read }; write = record { items = write } })

abbrev text0 : Bytes
text0 = (codes "pipelineAsks=1")

abbrev text1 : Bytes
text1 = (codes "hostConnections=4")

abbrev text2 : Bytes
text2 = (codes "polipo-cache")

abbrev text3 : Bytes
text3 = (codes "GET http://h/a HTTP/1.1\r\nHost: h\r\n\r\n")

abbrev text4 : Bytes
text4 = (codes "GET /a HTTP/1.1\r\nhost: h\r\nvia: 1.1 polipo\r\n\r\n")

abbrev front0 : Log
front0 = Woke [] ∷ Rooted text2 ∷ Listed true ∷ Listens 8123 true ∷ wait true [] [] ∷ Clock 784111777 ∷ wait true [] [] ∷ Opened 1 ∷ wait true (1 ∷ []) [] ∷ CanRead 1 ∷ Heard 1 text3 ∷ Noted (Taken 1 0 Fetch) ∷ Dialled 2 (codes "h") 80 ∷ wait true (1 ∷ []) [] ∷ Reached 2 ∷ wait true (1 ∷ 2 ∷ []) (2 ∷ []) ∷ CanWrite 2 ∷ Asked 2 text4 ∷ wait true (1 ∷ 2 ∷ []) [] ∷ []

abbrev text5 : Bytes
text5 = (codes "HTTP/1.1 200 OK\r\nETag: \"x\"\r\nContent-Length: 1073741824\r\n\r\nhello")

abbrev text6 : Bytes
text6 = (codes "HTTP/1.1 200 OK\r\nETag: \"x\"\r\nContent-Length: 1073741825\r\n\r\nhello")

abbrev text7 : Bytes
text7 = (codes "HTTP/1.1 200 OK\r\nETag: \"x\"\r\nContent-Length: 67108864\r\n\r\nhello")

abbrev text8 : Bytes
text8 = (codes "HTTP/1.1 200 OK\r\netag: \"x\"\r\ndate: Sun, 06 Nov 1994 08:49:37 GMT\r\nX-Polipo-Location: http://h/a\r\nX-Polipo-Date: 784111777\r\nX-Polipo-Age: 0\r\nX-Polipo-Length: 67108864\r\nX-Polipo-Body-Offset: 24576\r\n\r\n" ++ replicate 24379 0)

abbrev text9 : Bytes
text9 = (codes "HTTP/1.1 200 OK\r\nETag: \"x\"\r\nContent-Length: 67108865\r\n\r\nhello")

abbrev text10 : Bytes
text10 = (codes "HTTP/1.1 200 OK\r\netag: \"x\"\r\ndate: Sun, 06 Nov 1994 08:49:37 GMT\r\nX-Polipo-Location: http://h/a\r\nX-Polipo-Date: 784111777\r\nX-Polipo-Age: 0\r\nX-Polipo-Length: 67108865\r\nX-Polipo-Body-Offset: 28672\r\n\r\n" ++ replicate 28475 0)

abbrev text11 : Bytes
text11 = (codes "HTTP/1.1 200 OK\r\netag: \"x\"\r\ndate: Sun, 06 Nov 1994 08:49:37 GMT\r\nX-Polipo-Location: http://h/a\r\nX-Polipo-Date: 784111777\r\nX-Polipo-Age: 0\r\nX-Polipo-Length: 67108864\r\nX-Polipo-Body-Offset: 24576\r\n\r\n" ++ replicate 20283 0)

row17 : fault_from 0 (start (record { words = (codes "diskRun=1") ∷ text0 ∷ text1 ∷ []; faults = 0 } ∷ [])) (front0 ++ CanRead 2 ∷ Got 2 text5 ∷ Noted (Taken 1 0 (Part 0 1073741824)) ∷ wait true (1 ∷ 2 ∷ []) (1 ∷ []) ∷ []) ≡ None
unfolding judging
row17 = refl

row22 : fault_from 0 (start (record { words = (codes "diskRun=1") ∷ text0 ∷ text1 ∷ []; faults = 0 } ∷ [])) (front0 ++ CanRead 2 ∷ Got 2 text6 ∷ Noted (Taken 1 0 Relay) ∷ wait true (1 ∷ 2 ∷ []) (1 ∷ []) ∷ []) ≡ None
unfolding judging
row22 = refl

row27 : fault_from 0 (start (record { words = (codes "diskRun=1") ∷ text0 ∷ text1 ∷ []; faults = 0 } ∷ [])) (front0 ++ CanRead 2 ∷ Got 2 text5 ∷ Noted (Taken 1 0 Relay) ∷ []) ≡ Some (record { at = 21; rule = WrongDecision })
unfolding judging
row27 = refl

row32 : fault_from 0 (start (record { words = (codes "diskRun=1") ∷ text0 ∷ text1 ∷ []; faults = 0 } ∷ [])) (front0 ++ CanRead 2 ∷ Got 2 text6 ∷ Noted (Taken 1 0 (Part 0 1073741825)) ∷ []) ≡ Some (record { at = 21; rule = WrongDecision })
unfolding judging
row32 = refl

row52 : fault_from 0 (start (record { words = (codes "diskRun=1") ∷ text0 ∷ text1 ∷ []; faults = 0 } ∷ [])) (front0 ++ CanRead 2 ∷ Got 2 text7 ∷ Began (Draft text8) ∷ []) ≡ None
unfolding judging
row52 = refl

row56 : fault_from 0 (start (record { words = (codes "diskRun=1") ∷ text0 ∷ text1 ∷ []; faults = 0 } ∷ [])) (front0 ++ CanRead 2 ∷ Got 2 text9 ∷ Began (Draft text10) ∷ []) ≡ Some (record { at = 21; rule = WrongDiskOperation })
unfolding judging
row56 = refl

row61 : fault_from 0 (start (record { words = (codes "diskRun=1") ∷ text0 ∷ text1 ∷ []; faults = 0 } ∷ [])) (front0 ++ CanRead 2 ∷ Got 2 text7 ∷ Began (Draft text11) ∷ []) ≡ Some (record { at = 21; rule = WrongDiskOperation })
unfolding judging
row61 = refl
