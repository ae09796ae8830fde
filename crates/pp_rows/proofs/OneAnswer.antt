-- The verdicts of transcripts/one_answer.log, written by transcripts/make_rows.
use Rattle.std.proofs.Common.{◌≡◌, refl, ℕ, List, [], ◌∷◌, ◌++◌, true, false, Bool, Option, None, Some, codes}
use Rattle.std.specs.Prelude.{replicate, is_some}
use Rattle.pp_world.specs.Log.{Log}
use Rattle.pp_world.specs.declared.happening.Happening.{Happening}
use Rattle.pp_world.specs.declared.happening.Happening.TheVariants.{Woke, Waits, Clock, Opened, CanRead, CanWrite, Heard, HungUp, Said, Shut, Dialled, Undialled, Reached, Ended, Broke, Asked, Got, Dropped, NoneYet, Began, Did, Unread, Noted, Rooted, Listed, Listens, Configured, Printed, Stopped}
use Rattle.pp_world.specs.declared.note.Decision.TheVariants.{Refuse, Hit, Part, Head, NotModified, Unsatisfiable, Relay, Validate, Fetch, Pass}
use Rattle.pp_world.specs.declared.note.Cause.TheVariants.{Superseded, Origin, Short, Idle, Memory, Stop}
use Rattle.pp_world.specs.declared.note.Remark.TheVariants.{Taken, Cut, Kept, Gone, Forgotten, Evicted, Loaded}
use Rattle.pp_world.specs.declared.op.DiskOp.TheVariants.{Draft, SyncDraft, Publish, Write, Sync, Remove}
use Rattle.pp_law.specs.Lists.{Bytes}
use Rattle.pp_law.specs.State.{State, start}
use Rattle.pp_law.specs.Lawful.{fault_from, Fault, ImageNotLeft, OpeningOutOfOrder, EventOutOfTurn, ReadNotAskedFor, FailureMadeUp, WrongReply, WrongAsk, WrongDecision, WrongCut, NotToBeClosed, NotToBeDialled, NotToBeEvicted, NotToBeForgotten, NotToBeLoaded, NotSealed, NotGone, WrongDiskOperation, StepUnfinished, AcceptsWrongly, ClientForgotten, ConnectionForgotten, ExchangeForgotten, WantsTooMuch}
use Rattle.pp_pieces.proofs.Forced.{judge, arrived, judging, told, tell}

abbrev wait : Bool → List ℕ → List ℕ → Happening
wait accept read write = Waits (record { accept = accept; read = record { items = read }; write = record { items = write } })

abbrev text0 : Bytes
text0 = (codes "polipo-cache")

abbrev text1 : Bytes
text1 = (codes "GET http://h/b HTTP/1.1\r\nRange: bytes=4096-4099\r\n\r\n")

abbrev text2 : Bytes
text2 = (codes "GET /b HTTP/1.1\r\nhost: h\r\nrange: bytes=4096-4099\r\nvia: 1.1 polipo\r\n\r\n")

abbrev text3 : Bytes
text3 = (codes "HTTP/1.1 206 Partial Content\r\nETag: \"x\"\r\nCache-Control: max-age=60\r\nContent-Range: bytes 4096-4099/4100\r\nContent-Length: 4\r\n\r\nlast")

abbrev text4 : Bytes
text4 = (codes "HTTP/1.1 206 Partial Content\r\netag: \"x\"\r\ndate: Sun, 06 Nov 1994 08:49:37 GMT\r\ncache-control: max-age=60\r\nvia: 1.1 polipo\r\ncontent-range: bytes 4096-4099/4100\r\ncontent-length: 4\r\nconnection: keep-alive\r\n\r\n")

abbrev text5 : Bytes
text5 = (codes "GET http://h/b HTTP/1.1\r\n\r\n")

abbrev text6 : Bytes
text6 = (codes "GET /b HTTP/1.1\r\nhost: h\r\nrange: bytes=0-4095\r\nif-range: \"x\"\r\nvia: 1.1 polipo\r\n\r\n")

abbrev text7 : Bytes
text7 = (codes "GET http://h/b HTTP/1.1\r\nCache-Control: no-cache\r\n\r\n")

abbrev text8 : Bytes
text8 = (codes "GET /b HTTP/1.1\r\nhost: h\r\ncache-control: no-cache\r\nif-none-match: \"x\"\r\nvia: 1.1 polipo\r\n\r\n")

abbrev text9 : Bytes
text9 = (codes "HTTP/1.1 200 OK\r\nContent-Length: 3\r\n\r\nnew")

abbrev text10 : Bytes
text10 = (codes "GET /b HTTP/1.1\r\nhost: h\r\nvia: 1.1 polipo\r\n\r\n")

abbrev front0 : Log
front0 = Woke [] ∷ Rooted text0 ∷ Listed true ∷ Listens 8123 true ∷ wait true [] [] ∷ Clock 784111777 ∷ wait true [] [] ∷ Opened 1 ∷ wait true (1 ∷ []) [] ∷ CanRead 1 ∷ Heard 1 text1 ∷ Noted (Taken 1 0 Fetch) ∷ Dialled 2 (codes "h") 80 ∷ wait true (1 ∷ []) [] ∷ Reached 2 ∷ wait true (1 ∷ 2 ∷ []) (2 ∷ []) ∷ CanWrite 2 ∷ Asked 2 text2 ∷ wait true (1 ∷ 2 ∷ []) [] ∷ CanRead 2 ∷ Got 2 text3 ∷ Noted (Taken 1 0 (Hit 4096 4100)) ∷ wait true (1 ∷ 2 ∷ []) (1 ∷ []) ∷ CanWrite 1 ∷ Said 1 204 text4 ∷ wait true (1 ∷ 2 ∷ []) (1 ∷ []) ∷ CanWrite 1 ∷ Said 1 4 (codes "last") ∷ wait true (1 ∷ 2 ∷ []) [] ∷ Opened 3 ∷ wait true (1 ∷ 2 ∷ 3 ∷ []) [] ∷ CanRead 3 ∷ Heard 3 text5 ∷ Noted (Taken 3 0 (Part 0 4100)) ∷ wait true (1 ∷ []) (2 ∷ []) ∷ CanWrite 2 ∷ Asked 2 text6 ∷ wait true (1 ∷ 2 ∷ []) [] ∷ Opened 4 ∷ wait true (1 ∷ 2 ∷ 4 ∷ []) [] ∷ CanRead 4 ∷ Heard 4 text7 ∷ Noted (Taken 4 0 Validate) ∷ Dialled 5 (codes "h") 80 ∷ wait true (1 ∷ 2 ∷ []) [] ∷ Reached 5 ∷ wait true (1 ∷ 2 ∷ []) (5 ∷ []) ∷ CanWrite 5 ∷ Asked 5 text8 ∷ wait true (1 ∷ 2 ∷ 5 ∷ []) [] ∷ CanRead 5 ∷ Got 5 text9 ∷ Noted (Taken 3 0 Fetch) ∷ Noted (Taken 4 0 Relay) ∷ wait true (1 ∷ 2 ∷ []) (4 ∷ 5 ∷ []) ∷ CanWrite 5 ∷ Asked 5 text10 ∷ wait true (1 ∷ 2 ∷ 5 ∷ []) (4 ∷ []) ∷ []

abbrev text11 : Bytes
text11 = (codes "HTTP/1.1 200 OK\r\nContent-Length: 10\r\n\r\nAAAAA")

abbrev text12 : Bytes
text12 = (codes "HTTP/1.1 200 OK\r\nContent-Length: 10\r\n\r\nBBBBBBBBBB")

abbrev text13 : Bytes
text13 = (codes "HTTP/1.1 200 OK\r\nvia: 1.1 polipo\r\ncontent-length: 10\r\nconnection: keep-alive\r\n\r\n")

abbrev text14 : Bytes
text14 = (codes "HTTP/1.1 304 Not Modified\r\n\r\n")

abbrev text15 : Bytes
text15 = (codes "HTTP/1.1 206 Partial Content\r\nContent-Range: bytes 0-4/4100\r\nContent-Length: 5\r\n\r\nAAAAA")

abbrev text16 : Bytes
text16 = (codes "HTTP/1.1 503 Service Unavailable\r\nContent-Length: 5\r\n\r\nAAAAA")

abbrev text17 : Bytes
text17 = (codes "HTTP/1.1 206 Partial Content\r\nETag: \"x\"\r\nCache-Control: max-age=60\r\nContent-Range: bytes 0-4095/4100\r\nContent-Length: 4096\r\n\r\na")

abbrev text18 : Bytes
text18 = (codes "GET http://h/b HTTP/1.1\r\nRange: bytes=-4100\r\n\r\n")

abbrev text19 : Bytes
text19 = (codes "GET /b HTTP/1.1\r\nhost: h\r\nrange: bytes=-4100\r\nvia: 1.1 polipo\r\n\r\n")

abbrev front1 : Log
front1 = Woke [] ∷ Rooted text0 ∷ Listed true ∷ Listens 8123 true ∷ wait true [] [] ∷ Clock 784111777 ∷ wait true [] [] ∷ Opened 1 ∷ wait true (1 ∷ []) [] ∷ CanRead 1 ∷ Heard 1 text1 ∷ Noted (Taken 1 0 Fetch) ∷ Dialled 2 (codes "h") 80 ∷ wait true (1 ∷ []) [] ∷ Reached 2 ∷ wait true (1 ∷ 2 ∷ []) (2 ∷ []) ∷ CanWrite 2 ∷ Asked 2 text2 ∷ wait true (1 ∷ 2 ∷ []) [] ∷ CanRead 2 ∷ Got 2 text3 ∷ Noted (Taken 1 0 (Hit 4096 4100)) ∷ wait true (1 ∷ 2 ∷ []) (1 ∷ []) ∷ CanWrite 1 ∷ Said 1 204 text4 ∷ wait true (1 ∷ 2 ∷ []) (1 ∷ []) ∷ CanWrite 1 ∷ Said 1 4 (codes "last") ∷ wait true (1 ∷ 2 ∷ []) [] ∷ Opened 3 ∷ wait true (1 ∷ 2 ∷ 3 ∷ []) [] ∷ CanRead 3 ∷ Heard 3 text18 ∷ Noted (Taken 3 0 (Part 0 4100)) ∷ wait true (1 ∷ []) (2 ∷ []) ∷ CanWrite 2 ∷ Asked 2 text6 ∷ wait true (1 ∷ 2 ∷ []) [] ∷ Opened 4 ∷ wait true (1 ∷ 2 ∷ 4 ∷ []) [] ∷ CanRead 4 ∷ Heard 4 text7 ∷ Noted (Taken 4 0 Validate) ∷ Dialled 5 (codes "h") 80 ∷ wait true (1 ∷ 2 ∷ []) [] ∷ Reached 5 ∷ wait true (1 ∷ 2 ∷ []) (5 ∷ []) ∷ CanWrite 5 ∷ Asked 5 text8 ∷ wait true (1 ∷ 2 ∷ 5 ∷ []) [] ∷ CanRead 5 ∷ Got 5 text9 ∷ Noted (Taken 3 0 Pass) ∷ Noted (Taken 4 0 Relay) ∷ wait true (1 ∷ 2 ∷ []) (4 ∷ 5 ∷ []) ∷ CanWrite 5 ∷ Asked 5 text19 ∷ wait true (1 ∷ 2 ∷ 5 ∷ []) (4 ∷ []) ∷ CanRead 2 ∷ Got 2 text11 ∷ []

abbrev text20 : Bytes
text20 = (codes "HTTP/1.1 206 Partial Content\r\nContent-Range: bytes 4096-4099/4100\r\nContent-Length: 4\r\n\r\nBBBB")

abbrev text21 : Bytes
text21 = (codes "HTTP/1.1 206 Partial Content\r\ncontent-range: bytes 4096-4099/4100\r\nvia: 1.1 polipo\r\ncontent-length: 4\r\nconnection: keep-alive\r\n\r\n")

row81 : fault_from 0 (start (record { words = []; faults = 0 } ∷ [])) (front0 ++ CanRead 2 ∷ Got 2 text11 ∷ wait true (1 ∷ 2 ∷ 5 ∷ []) (4 ∷ []) ∷ CanRead 2 ∷ Got 2 (codes "AAAAA") ∷ wait true (1 ∷ 2 ∷ 5 ∷ []) (4 ∷ []) ∷ CanRead 5 ∷ Got 5 text12 ∷ Noted (Taken 3 0 Relay) ∷ wait true (1 ∷ 2 ∷ 5 ∷ []) (3 ∷ 4 ∷ []) ∷ CanWrite 3 ∷ Said 3 80 text13 ∷ wait true (1 ∷ 2 ∷ 5 ∷ []) (3 ∷ 4 ∷ []) ∷ CanWrite 3 ∷ Said 3 10 (codes "BBBBBBBBBB") ∷ wait true (1 ∷ 2 ∷ 3 ∷ 5 ∷ []) (4 ∷ []) ∷ []) ≡ None
unfolding judging
row81 = refl

row89 : fault_from 0 (start (record { words = []; faults = 0 } ∷ [])) (front0 ++ CanRead 2 ∷ Got 2 text11 ∷ Noted (Taken 3 0 Relay) ∷ []) ≡ Some (record { at = 60; rule = WrongDecision })
unfolding judging
row89 = refl

row94 : fault_from 0 (start (record { words = []; faults = 0 } ∷ [])) (front0 ++ CanRead 2 ∷ Got 2 text11 ∷ wait true (1 ∷ 2 ∷ 5 ∷ []) (3 ∷ 4 ∷ []) ∷ []) ≡ Some (record { at = 60; rule = ClientForgotten })
unfolding judging
row94 = refl

row99 : fault_from 0 (start (record { words = []; faults = 0 } ∷ [])) (front0 ++ CanRead 2 ∷ Got 2 text11 ∷ wait true (1 ∷ 2 ∷ 5 ∷ []) (4 ∷ []) ∷ CanRead 5 ∷ Got 5 text12 ∷ Noted (Taken 3 0 Relay) ∷ wait true (1 ∷ 2 ∷ 5 ∷ []) (3 ∷ 4 ∷ []) ∷ CanWrite 3 ∷ Said 3 80 text13 ∷ wait true (1 ∷ 2 ∷ 5 ∷ []) (3 ∷ 4 ∷ []) ∷ CanWrite 3 ∷ Said 3 10 (codes "BBBBBBBBBB") ∷ wait true (1 ∷ 2 ∷ 3 ∷ 5 ∷ []) (4 ∷ []) ∷ CanRead 2 ∷ Got 2 (codes "AAAAA") ∷ wait true (1 ∷ 2 ∷ 3 ∷ 5 ∷ []) (3 ∷ 4 ∷ []) ∷ []) ≡ Some (record { at = 73; rule = ClientForgotten })
unfolding judging
row99 = refl

row108 : fault_from 0 (start (record { words = []; faults = 0 } ∷ [])) (front0 ++ CanRead 2 ∷ Got 2 text14 ∷ wait true (1 ∷ 2 ∷ 5 ∷ []) (4 ∷ []) ∷ CanRead 5 ∷ Got 5 text12 ∷ Noted (Taken 3 0 Relay) ∷ wait true (1 ∷ 2 ∷ 5 ∷ []) (3 ∷ 4 ∷ []) ∷ CanWrite 3 ∷ Said 3 80 text13 ∷ wait true (1 ∷ 2 ∷ 5 ∷ []) (3 ∷ 4 ∷ []) ∷ CanWrite 3 ∷ Said 3 10 (codes "BBBBBBBBBB") ∷ wait true (1 ∷ 2 ∷ 3 ∷ 5 ∷ []) (4 ∷ []) ∷ []) ≡ None
unfolding judging
row108 = refl

row114 : fault_from 0 (start (record { words = []; faults = 0 } ∷ [])) (front0 ++ CanRead 2 ∷ Got 2 text14 ∷ Noted (Taken 3 0 Fetch) ∷ []) ≡ Some (record { at = 60; rule = WrongDecision })
unfolding judging
row114 = refl

row120 : fault_from 0 (start (record { words = []; faults = 0 } ∷ [])) (front0 ++ CanRead 2 ∷ Got 2 text15 ∷ wait true (1 ∷ 2 ∷ 5 ∷ []) (4 ∷ []) ∷ CanRead 5 ∷ Got 5 text12 ∷ Noted (Taken 3 0 Relay) ∷ wait true (1 ∷ 2 ∷ 5 ∷ []) (3 ∷ 4 ∷ []) ∷ CanWrite 3 ∷ Said 3 80 text13 ∷ wait true (1 ∷ 2 ∷ 5 ∷ []) (3 ∷ 4 ∷ []) ∷ CanWrite 3 ∷ Said 3 10 (codes "BBBBBBBBBB") ∷ wait true (1 ∷ 2 ∷ 3 ∷ 5 ∷ []) (4 ∷ []) ∷ []) ≡ None
unfolding judging
row120 = refl

row126 : fault_from 0 (start (record { words = []; faults = 0 } ∷ [])) (front0 ++ CanRead 2 ∷ Got 2 text16 ∷ wait true (1 ∷ 2 ∷ 5 ∷ []) (4 ∷ []) ∷ CanRead 5 ∷ Got 5 text12 ∷ Noted (Taken 3 0 Relay) ∷ wait true (1 ∷ 2 ∷ 5 ∷ []) (3 ∷ 4 ∷ []) ∷ CanWrite 3 ∷ Said 3 80 text13 ∷ wait true (1 ∷ 2 ∷ 5 ∷ []) (3 ∷ 4 ∷ []) ∷ CanWrite 3 ∷ Said 3 10 (codes "BBBBBBBBBB") ∷ wait true (1 ∷ 2 ∷ 3 ∷ 5 ∷ []) (4 ∷ []) ∷ []) ≡ None
unfolding judging
row126 = refl

row132 : fault_from 0 (start (record { words = []; faults = 0 } ∷ [])) (front0 ++ CanRead 2 ∷ Got 2 text17 ∷ wait true (1 ∷ 2 ∷ 5 ∷ []) (4 ∷ []) ∷ []) ≡ None
unfolding judging
row132 = refl

row137 : fault_from 0 (start (record { words = []; faults = 0 } ∷ [])) (front0 ++ CanRead 2 ∷ Got 2 text17 ∷ Noted (Taken 3 0 (Part 0 4100)) ∷ []) ≡ Some (record { at = 60; rule = WrongDecision })
unfolding judging
row137 = refl

row143 : fault_from 0 (start (record { words = []; faults = 0 } ∷ [])) (front0 ++ CanRead 2 ∷ Got 2 (codes "zzz\r\n\r\n") ∷ Dropped 2 ∷ wait true (1 ∷ 5 ∷ []) (4 ∷ []) ∷ []) ≡ None
unfolding judging
row143 = refl

row149 : fault_from 0 (start (record { words = []; faults = 0 } ∷ [])) (front0 ++ CanRead 2 ∷ Got 2 (codes "zzz\r\n\r\n") ∷ Noted (Taken 3 0 (Refuse 502)) ∷ []) ≡ Some (record { at = 60; rule = WrongDecision })
unfolding judging
row149 = refl

row192 : fault_from 0 (start (record { words = []; faults = 0 } ∷ [])) (front1 ++ wait true (1 ∷ 2 ∷ 5 ∷ []) (4 ∷ []) ∷ CanRead 5 ∷ Got 5 text20 ∷ wait true (1 ∷ 2 ∷ 5 ∷ []) (3 ∷ 4 ∷ []) ∷ CanWrite 3 ∷ Said 3 129 text21 ∷ wait true (1 ∷ 2 ∷ 5 ∷ []) (3 ∷ 4 ∷ []) ∷ CanWrite 3 ∷ Said 3 4 (codes "BBBB") ∷ wait true (1 ∷ 2 ∷ 3 ∷ 5 ∷ []) (4 ∷ []) ∷ []) ≡ None
unfolding judging
row192 = refl

row204 : fault_from 0 (start (record { words = []; faults = 0 } ∷ [])) (front1 ++ wait true (1 ∷ 2 ∷ 5 ∷ []) (3 ∷ 4 ∷ []) ∷ []) ≡ Some (record { at = 60; rule = ClientForgotten })
unfolding judging
row204 = refl
