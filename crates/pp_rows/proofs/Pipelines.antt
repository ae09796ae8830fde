-- The verdicts of transcripts/pipelines.log, written by transcripts/make_rows.
use Rattle.std.proofs.Common.{◌≡◌, refl, ℕ, List, [], ◌∷◌, ◌++◌, true, false, Bool, Option, None, Some, codes}
use Rattle.std.specs.Prelude.{replicate, is_some}
use Rattle.pp_world.specs.Log.{Log}
use Rattle.pp_world.specs.declared.happening.Happening.{Happening}
use Rattle.pp_world.specs.declared.happening.Happening.TheVariants.{Woke, Waits, Clock, Opened, CanRead, CanWrite, Heard, HungUp, Said, Shut, Dialled, Undialled, Reached, Ended, Broke, Asked, Got, Dropped, NoneYet, Began, Did, Unread, Noted, Rooted, Listed, Listens, Configured, Printed, Stopped}
use Rattle.pp_world.specs.declared.note.Decision.TheVariants.{Refuse, Hit, Part, Head, NotModified, Unsatisfiable, Relay, Validate, Fetch, Pass}
use Rattle.pp_world.specs.declared.note.Cause.TheVariants.{Superseded, Origin, Short, Idle, Memory, Stop}
use Rattle.pp_world.specs.declared.note.Remark.TheVariants.{Taken, Cut, Kept, Gone, Forgotten, Evicted, Loaded}
use Rattle.pp_world.specs.declared.op.DiskOp.TheVariants.{Draft, SyncDraft, Publish, Write, Sync, Remove}
use Rattle.pp_law.specs.Lists.{Bytes}
use Rattle.pp_law.specs.State.{State, start}
use Rattle.pp_law.specs.Lawful.{fault_from, Fault, ImageNotLeft, OpeningOutOfOrder, EventOutOfTurn, ReadNotAskedFor, FailureMadeUp, WrongReply, WrongAsk, WrongDecision, WrongCut, NotToBeClosed, NotToBeDialled, NotToBeEvicted, NotToBeForgotten, NotToBeLoaded, NotSealed, NotGone, WrongDiskOperation, StepUnfinished, AcceptsWrongly, ClientForgotten, ConnectionForgotten, ExchangeForgotten, WantsTooMuch}
use Rattle.pp_pieces.proofs.Forced.{judge, arrived, judging, told, tell}

abbrev wait : Bool → List ℕ → List ℕ → Happening
wait accept read write = Waits (record { accept = accept; read = record { items = read }; write = record { items = write } })

abbrev text0 : Bytes
text0 = (codes "pipelineAsks=1")

abbrev text1 : Bytes
text1 = (codes "hostConnections=4")

abbrev text2 : Bytes
text2 = (codes "polipo-cache")

abbrev text3 : Bytes
text3 = (codes "GET http://h/a HTTP/1.1\r\nHost: h\r\n\r\n")

abbrev text4 : Bytes
text4 = (codes "GET /a HTTP/1.1\r\nhost: h\r\nvia: 1.1 polipo\r\n\r\n")

abbrev text5 : Bytes
text5 = (codes "HTTP/1.1 404 Not Found\r\nContent-Length: 0\r\n\r\n")

abbrev text6 : Bytes
text6 = (codes "HTTP/1.1 404 Not Found\r\nvia: 1.1 polipo\r\ncontent-length: 0\r\nconnection: keep-alive\r\n\r\n")

abbrev text7 : Bytes
text7 = (codes "GET http://h/b HTTP/1.1\r\n\r\n")

abbrev text8 : Bytes
text8 = (codes "GET /b HTTP/1.1\r\nhost: h\r\nvia: 1.1 polipo\r\n\r\n")

abbrev text9 : Bytes
text9 = (codes "GET http://h/c HTTP/1.1\r\n\r\n")

abbrev text10 : Bytes
text10 = (codes "GET http://h/d HTTP/1.1\r\n\r\n")

abbrev text11 : Bytes
text11 = (codes "GET http://h/e HTTP/1.1\r\n\r\n")

abbrev front0 : Log
front0 = Woke [] ∷ Rooted text2 ∷ Listed true ∷ Listens 8123 true ∷ wait true [] [] ∷ Clock 784111777 ∷ wait true [] [] ∷ Opened 1 ∷ wait true (1 ∷ []) [] ∷ CanRead 1 ∷ Heard 1 text3 ∷ Noted (Taken 1 0 Fetch) ∷ Dialled 2 (codes "h") 80 ∷ wait true (1 ∷ []) [] ∷ Reached 2 ∷ wait true (1 ∷ 2 ∷ []) (2 ∷ []) ∷ CanWrite 2 ∷ Asked 2 text4 ∷ wait true (1 ∷ 2 ∷ []) [] ∷ CanRead 2 ∷ Got 2 text5 ∷ Noted (Taken 1 0 Relay) ∷ wait true (2 ∷ []) (1 ∷ []) ∷ CanWrite 1 ∷ Said 1 86 text6 ∷ wait true (1 ∷ 2 ∷ []) [] ∷ CanRead 1 ∷ Heard 1 text7 ∷ Noted (Taken 1 1 Fetch) ∷ wait true (2 ∷ []) (2 ∷ []) ∷ CanWrite 2 ∷ Asked 2 text8 ∷ wait true (2 ∷ []) [] ∷ Opened 3 ∷ wait true (2 ∷ 3 ∷ []) [] ∷ CanRead 3 ∷ Heard 3 text9 ∷ Noted (Taken 3 0 Fetch) ∷ Dialled 4 (codes "h") 80 ∷ wait true (2 ∷ []) [] ∷ Opened 5 ∷ wait true (2 ∷ 5 ∷ []) [] ∷ CanRead 5 ∷ Heard 5 text10 ∷ Noted (Taken 5 0 Fetch) ∷ Dialled 6 (codes "h") 80 ∷ wait true (2 ∷ []) [] ∷ Opened 7 ∷ wait true (2 ∷ 7 ∷ []) [] ∷ CanRead 7 ∷ Heard 7 text11 ∷ Noted (Taken 7 0 Fetch) ∷ Dialled 8 (codes "h") 80 ∷ wait true (2 ∷ []) [] ∷ []

abbrev text12 : Bytes
text12 = (codes "GET http://h/f HTTP/1.1\r\n\r\n")

abbrev text13 : Bytes
text13 = (codes "GET /f HTTP/1.1\r\nhost: h\r\nvia: 1.1 polipo\r\n\r\n")

abbrev text14 : Bytes
text14 = (codes "HTTP/1.1 404 Not Found\r\nContent-Length: 1\r\n\r\nbHTTP/1.1 404 Not Found\r\nContent-Length: 1\r\n\r\nf")

abbrev front1 : Log
front1 = Woke [] ∷ Rooted text2 ∷ Listed true ∷ Listens 8123 true ∷ wait true [] [] ∷ Clock 784111777 ∷ wait true [] [] ∷ Opened 1 ∷ wait true (1 ∷ []) [] ∷ CanRead 1 ∷ Heard 1 text3 ∷ Noted (Taken 1 0 Fetch) ∷ Dialled 2 (codes "h") 80 ∷ wait true (1 ∷ []) [] ∷ Reached 2 ∷ wait true (1 ∷ 2 ∷ []) (2 ∷ []) ∷ CanWrite 2 ∷ Asked 2 text4 ∷ wait true (1 ∷ 2 ∷ []) [] ∷ CanRead 2 ∷ Got 2 text5 ∷ Noted (Taken 1 0 Relay) ∷ wait true (2 ∷ []) (1 ∷ []) ∷ CanWrite 1 ∷ Said 1 86 text6 ∷ wait true (1 ∷ 2 ∷ []) [] ∷ CanRead 1 ∷ Heard 1 text7 ∷ Noted (Taken 1 1 Fetch) ∷ wait true (2 ∷ []) (2 ∷ []) ∷ CanWrite 2 ∷ Asked 2 text8 ∷ wait true (2 ∷ []) [] ∷ Opened 3 ∷ wait true (2 ∷ 3 ∷ []) [] ∷ CanRead 3 ∷ Heard 3 text9 ∷ Noted (Taken 3 0 Fetch) ∷ Dialled 4 (codes "h") 80 ∷ wait true (2 ∷ []) [] ∷ Opened 5 ∷ wait true (2 ∷ 5 ∷ []) [] ∷ CanRead 5 ∷ Heard 5 text10 ∷ Noted (Taken 5 0 Fetch) ∷ Dialled 6 (codes "h") 80 ∷ wait true (2 ∷ []) [] ∷ Opened 7 ∷ wait true (2 ∷ 7 ∷ []) [] ∷ CanRead 7 ∷ Heard 7 text11 ∷ Noted (Taken 7 0 Fetch) ∷ Dialled 8 (codes "h") 80 ∷ wait true (2 ∷ []) [] ∷ Opened 9 ∷ wait true (2 ∷ 9 ∷ []) [] ∷ CanRead 9 ∷ Heard 9 text12 ∷ Noted (Taken 9 0 Fetch) ∷ wait true (2 ∷ []) (2 ∷ []) ∷ CanWrite 2 ∷ Asked 2 text13 ∷ wait true (2 ∷ []) [] ∷ CanRead 2 ∷ Got 2 text14 ∷ []

abbrev text15 : Bytes
text15 = (codes "HTTP/1.1 404 Not Found\r\nvia: 1.1 polipo\r\ncontent-length: 1\r\nconnection: keep-alive\r\n\r\n")

abbrev front2 : Log
front2 = Woke [] ∷ Rooted text2 ∷ Listed true ∷ Listens 8123 true ∷ wait true [] [] ∷ Clock 784111777 ∷ wait true [] [] ∷ Opened 1 ∷ wait true (1 ∷ []) [] ∷ CanRead 1 ∷ Heard 1 text3 ∷ Noted (Taken 1 0 Fetch) ∷ Dialled 2 (codes "h") 80 ∷ wait true (1 ∷ []) [] ∷ Reached 2 ∷ wait true (1 ∷ 2 ∷ []) (2 ∷ []) ∷ CanWrite 2 ∷ Asked 2 text4 ∷ wait true (1 ∷ 2 ∷ []) [] ∷ CanRead 2 ∷ Got 2 text5 ∷ Noted (Taken 1 0 Relay) ∷ wait true (2 ∷ []) (1 ∷ []) ∷ CanWrite 1 ∷ Said 1 86 text6 ∷ wait true (1 ∷ 2 ∷ []) [] ∷ CanRead 1 ∷ Heard 1 text7 ∷ Noted (Taken 1 1 Fetch) ∷ wait true (2 ∷ []) (2 ∷ []) ∷ CanWrite 2 ∷ Asked 2 text8 ∷ wait true (2 ∷ []) [] ∷ Opened 3 ∷ wait true (2 ∷ 3 ∷ []) [] ∷ CanRead 3 ∷ Heard 3 text9 ∷ Noted (Taken 3 0 Fetch) ∷ Dialled 4 (codes "h") 80 ∷ wait true (2 ∷ []) [] ∷ Opened 5 ∷ wait true (2 ∷ 5 ∷ []) [] ∷ CanRead 5 ∷ Heard 5 text10 ∷ Noted (Taken 5 0 Fetch) ∷ Dialled 6 (codes "h") 80 ∷ wait true (2 ∷ []) [] ∷ Opened 7 ∷ wait true (2 ∷ 7 ∷ []) [] ∷ CanRead 7 ∷ Heard 7 text11 ∷ Noted (Taken 7 0 Fetch) ∷ Dialled 8 (codes "h") 80 ∷ wait true (2 ∷ []) [] ∷ Opened 9 ∷ wait true (2 ∷ 9 ∷ []) [] ∷ CanRead 9 ∷ Heard 9 text12 ∷ Noted (Taken 9 0 Fetch) ∷ []

row75 : fault_from 0 (start (record { words = (codes "diskRun=1") ∷ text0 ∷ text1 ∷ []; faults = 0 } ∷ [])) (front0 ++ Opened 9 ∷ wait true (2 ∷ 9 ∷ []) [] ∷ CanRead 9 ∷ Heard 9 text12 ∷ Noted (Taken 9 0 Fetch) ∷ wait true (2 ∷ []) (2 ∷ []) ∷ CanWrite 2 ∷ Asked 2 text13 ∷ wait true (2 ∷ []) [] ∷ CanRead 2 ∷ Got 2 (codes "HTTP/1.") ∷ wait true (2 ∷ []) [] ∷ CanRead 2 ∷ Ended 2 ∷ Dropped 2 ∷ Dialled 10 (codes "h") 80 ∷ wait true [] [] ∷ []) ≡ None
unfolding judging
row75 = refl

row80 : fault_from 0 (start (record { words = (codes "diskRun=1") ∷ text0 ∷ text1 ∷ []; faults = 0 } ∷ [])) (front0 ++ Opened 9 ∷ wait true (2 ∷ 9 ∷ []) [] ∷ CanRead 9 ∷ Heard 9 text12 ∷ Noted (Taken 9 0 Fetch) ∷ Dialled 10 (codes "h") 80 ∷ []) ≡ Some (record { at = 59; rule = NotToBeDialled })
unfolding judging
row80 = refl

row85 : fault_from 0 (start (record { words = (codes "diskRun=1") ∷ text0 ∷ text1 ∷ []; faults = 0 } ∷ [])) (front0 ++ Opened 9 ∷ wait true (2 ∷ 9 ∷ []) [] ∷ CanRead 9 ∷ Heard 9 text12 ∷ Noted (Taken 9 0 Fetch) ∷ wait true (2 ∷ []) (2 ∷ []) ∷ CanWrite 2 ∷ Asked 2 text13 ∷ wait true (2 ∷ []) [] ∷ CanRead 2 ∷ Got 2 (codes "HTTP/1.") ∷ wait true (2 ∷ []) [] ∷ CanRead 2 ∷ Ended 2 ∷ Dropped 2 ∷ Dialled 10 (codes "h") 80 ∷ Dialled 11 (codes "h") 80 ∷ []) ≡ Some (record { at = 70; rule = NotToBeDialled })
unfolding judging
row85 = refl

row91 : fault_from 0 (start (record { words = (codes "diskRun=1") ∷ text0 ∷ text1 ∷ []; faults = 0 } ∷ [])) (front0 ++ CanWrite 2 ∷ Asked 2 text13 ∷ []) ≡ Some (record { at = 55; rule = WrongAsk })
unfolding judging
row91 = refl

row96 : fault_from 0 (start (record { words = (codes "diskRun=1") ∷ text0 ∷ text1 ∷ []; faults = 0 } ∷ [])) (front0 ++ Opened 9 ∷ wait true (2 ∷ 9 ∷ []) [] ∷ CanRead 9 ∷ Heard 9 text12 ∷ Noted (Taken 9 0 Fetch) ∷ wait true (2 ∷ []) [] ∷ []) ≡ Some (record { at = 59; rule = ConnectionForgotten })
unfolding judging
row96 = refl

row101 : fault_from 0 (start (record { words = (codes "diskRun=1") ∷ text0 ∷ text1 ∷ []; faults = 0 } ∷ [])) (front0 ++ Opened 9 ∷ wait true (2 ∷ 9 ∷ []) [] ∷ CanRead 9 ∷ Heard 9 text12 ∷ Noted (Taken 9 0 Fetch) ∷ Dropped 4 ∷ []) ≡ Some (record { at = 59; rule = NotToBeClosed })
unfolding judging
row101 = refl

row106 : fault_from 0 (start (record { words = (codes "diskRun=1") ∷ text0 ∷ text1 ∷ []; faults = 0 } ∷ [])) (front0 ++ Opened 9 ∷ wait true (2 ∷ 9 ∷ []) [] ∷ CanRead 9 ∷ Heard 9 text12 ∷ Noted (Taken 9 0 Fetch) ∷ wait true (2 ∷ []) (2 ∷ []) ∷ CanWrite 2 ∷ Asked 2 text13 ∷ wait true (2 ∷ []) [] ∷ CanRead 2 ∷ Got 2 (codes "HTTP/1.") ∷ wait true (2 ∷ []) [] ∷ CanRead 2 ∷ Ended 2 ∷ Dropped 2 ∷ wait true [] [] ∷ []) ≡ Some (record { at = 69; rule = StepUnfinished })
unfolding judging
row106 = refl

row122 : fault_from 0 (start (record { words = (codes "diskRun=1") ∷ text0 ∷ text1 ∷ []; faults = 0 } ∷ [])) (front1 ++ Noted (Taken 1 1 Relay) ∷ Noted (Taken 9 0 Relay) ∷ wait true (2 ∷ []) (1 ∷ 9 ∷ []) ∷ CanWrite 9 ∷ Said 9 86 text15 ∷ wait true (2 ∷ []) (1 ∷ 9 ∷ []) ∷ CanWrite 9 ∷ Said 9 1 (codes "f") ∷ wait true (2 ∷ 9 ∷ []) (1 ∷ []) ∷ []) ≡ None
unfolding judging
row122 = refl

row133 : fault_from 0 (start (record { words = (codes "diskRun=1") ∷ text0 ∷ text1 ∷ []; faults = 0 } ∷ [])) (front1 ++ Noted (Taken 1 1 Relay) ∷ Noted (Taken 9 0 Relay) ∷ wait true (2 ∷ []) (1 ∷ 9 ∷ []) ∷ CanWrite 9 ∷ Said 9 86 text15 ∷ wait true (2 ∷ []) (1 ∷ 9 ∷ []) ∷ CanWrite 9 ∷ Said 9 1 (codes "b") ∷ []) ≡ Some (record { at = 72; rule = WrongReply })
unfolding judging
row133 = refl

row144 : fault_from 0 (start (record { words = (codes "diskRun=1") ∷ text0 ∷ text1 ∷ []; faults = 0 } ∷ [])) (front1 ++ Noted (Taken 9 0 Relay) ∷ []) ≡ Some (record { at = 65; rule = WrongDecision })
unfolding judging
row144 = refl

row155 : fault_from 0 (start (record { words = (codes "diskRun=1") ∷ text1 ∷ []; faults = 0 } ∷ [])) (front2 ++ wait true (2 ∷ []) [] ∷ []) ≡ None
unfolding judging
row155 = refl

row158 : fault_from 0 (start (record { words = (codes "diskRun=1") ∷ text1 ∷ []; faults = 0 } ∷ [])) (front2 ++ wait true (2 ∷ []) (2 ∷ []) ∷ []) ≡ Some (record { at = 59; rule = ConnectionForgotten })
unfolding judging
row158 = refl
