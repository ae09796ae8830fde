-- The verdicts of transcripts/followers.log, written by transcripts/make_rows.
use Rattle.std.proofs.Common.{◌≡◌, refl, ℕ, List, [], ◌∷◌, ◌++◌, true, false, Bool, Option, None, Some, codes}
use Rattle.std.specs.Prelude.{replicate, is_some}
use Rattle.pp_world.specs.Log.{Log}
use Rattle.pp_world.specs.declared.happening.Happening.{Happening}
use Rattle.pp_world.specs.declared.happening.Happening.TheVariants.{Woke, Waits, Clock, Opened, CanRead, CanWrite, Heard, HungUp, Said, Shut, Dialled, Undialled, Reached, Ended, Broke, Asked, Got, Dropped, NoneYet, Began, Did, Unread, Noted, Rooted, Listed, Listens, Configured, Printed, Stopped}
use Rattle.pp_world.specs.declared.note.Decision.TheVariants.{Refuse, Hit, Part, Head, NotModified, Unsatisfiable, Relay, Validate, Fetch, Pass}
use Rattle.pp_world.specs.declared.note.Cause.TheVariants.{Superseded, Origin, Short, Idle, Memory, Stop}
use Rattle.pp_world.specs.declared.note.Remark.TheVariants.{Taken, Cut, Kept, Gone, Forgotten, Evicted, Loaded}
use Rattle.pp_world.specs.declared.op.DiskOp.TheVariants.{Draft, SyncDraft, Publish, Write, Sync, Remove}
use Rattle.pp_law.specs.Lists.{Bytes}
use Rattle.pp_law.specs.State.{State, start}
use Rattle.pp_law.specs.Lawful.{fault_from, Fault, ImageNotLeft, OpeningOutOfOrder, EventOutOfTurn, ReadNotAskedFor, FailureMadeUp, WrongReply, WrongAsk, WrongDecision, WrongCut, NotToBeClosed, NotToBeDialled, NotToBeEvicted, NotToBeForgotten, NotToBeLoaded, NotSealed, NotGone, WrongDiskOperation, StepUnfinished, AcceptsWrongly, ClientForgotten, ConnectionForgotten, ExchangeForgotten, WantsTooMuch}
use Rattle.pp_pieces.proofs.Forced.{judge, arrived, judging, told, tell}

abbrev wait : Bool → List ℕ → List ℕ → Happening
wait accept read write = Waits (record { accept = accept; read = record { items = read }; write = record { items = write } })

abbrev text0 : Bytes
text0 = (codes "pipelineAsks=1")

abbrev text1 : Bytes
text1 = (codes "hostConnections=4")

abbrev text2 : Bytes
text2 = (codes "polipo-cache")

abbrev front0 : Log
front0 = Woke [] ∷ Rooted text2 ∷ Listed true ∷ Listens 8123 true ∷ wait true [] [] ∷ Clock 784111777 ∷ wait true [] [] ∷ Opened 1 ∷ wait true (1 ∷ []) [] ∷ CanRead 1 ∷ []

abbrev text3 : Bytes
text3 = (codes "GET http://h/d HTTP/1.1\r\nRange: bytes=5000-5003\r\n\r\n")

abbrev text4 : Bytes
text4 = (codes "GET /d HTTP/1.1\r\nhost: h\r\nrange: bytes=4096-5003\r\nvia: 1.1 polipo\r\n\r\n")

abbrev text5 : Bytes
text5 = (codes "HTTP/1.1 206 Partial Content\r\nETag: \"x\"\r\nContent-Range: bytes 4096-5003/9000\r\nContent-Length: 908\r\n\r\n" ++ replicate 908 97)

abbrev text6 : Bytes
text6 = (codes "HTTP/1.1 206 Partial Content\r\netag: \"x\"\r\ndate: Sun, 06 Nov 1994 08:49:37 GMT\r\nvia: 1.1 polipo\r\ncontent-range: bytes 5000-5003/9000\r\ncontent-length: 4\r\nconnection: keep-alive\r\n\r\n")

abbrev text7 : Bytes
text7 = (codes "HTTP/1.1 206 Partial Content\r\nETag: \"x\"\r\nContent-Range: bytes 4096-4499/4500\r\nContent-Length: 404\r\n\r\n" ++ replicate 404 97)

abbrev text8 : Bytes
text8 = (codes "HTTP/1.1 416 Requested Range Not Satisfiable\r\ncontent-range: bytes */4500\r\ncontent-type: text/plain\r\ncontent-length: 36\r\nconnection: keep-alive\r\n\r\n416 Requested Range Not Satisfiable\n")

abbrev text9 : Bytes
text9 = (codes "HTTP/1.1 206 Partial Content\r\nContent-Range: bytes 4096-5003/9000\r\nContent-Length: 908\r\n\r\n" ++ replicate 908 97)

abbrev text10 : Bytes
text10 = (codes "GET /d HTTP/1.1\r\nhost: h\r\nrange: bytes=5000-5003\r\nvia: 1.1 polipo\r\n\r\n")

abbrev text11 : Bytes
text11 = (codes "GET /d HTTP/1.1\r\nhost: h\r\nrange: bytes=5000-5003\r\n")

abbrev text12 : Bytes
text12 = (codes "HTTP/1.1 206 Partial Content\r\netag: \"x\"\r\ndate: Sun, 06 Nov 1994 08:49:37 GMT\r\nvia: 1.1 polipo\r\ncontent-range: bytes 4096-5003/9000\r\n")

abbrev text13 : Bytes
text13 = (codes "GET http://h/b HTTP/1.1\r\nRange: bytes=4096-4099\r\n\r\n")

abbrev text14 : Bytes
text14 = (codes "GET /b HTTP/1.1\r\nhost: h\r\nrange: bytes=4096-4099\r\nvia: 1.1 polipo\r\n\r\n")

abbrev text15 : Bytes
text15 = (codes "HTTP/1.1 206 Partial Content\r\nETag: \"x\"\r\nCache-Control: max-age=60\r\nContent-Range: bytes 4096-4099/4100\r\nContent-Length: 4\r\n\r\nlast")

abbrev text16 : Bytes
text16 = (codes "HTTP/1.1 206 Partial Content\r\netag: \"x\"\r\ndate: Sun, 06 Nov 1994 08:49:37 GMT\r\ncache-control: max-age=60\r\nvia: 1.1 polipo\r\ncontent-range: bytes 4096-4099/4100\r\ncontent-length: 4\r\nconnection: keep-alive\r\n\r\n")

abbrev front1 : Log
front1 = Woke [] ∷ Rooted text2 ∷ Listed true ∷ Listens 8123 true ∷ wait true [] [] ∷ Clock 784111777 ∷ wait true [] [] ∷ Opened 1 ∷ wait true (1 ∷ []) [] ∷ CanRead 1 ∷ Heard 1 text13 ∷ Noted (Taken 1 0 Fetch) ∷ Dialled 2 (codes "h") 80 ∷ wait true (1 ∷ []) [] ∷ Reached 2 ∷ wait true (1 ∷ 2 ∷ []) (2 ∷ []) ∷ CanWrite 2 ∷ Asked 2 text14 ∷ wait true (1 ∷ 2 ∷ []) [] ∷ CanRead 2 ∷ Got 2 text15 ∷ Noted (Taken 1 0 (Hit 4096 4100)) ∷ wait true (1 ∷ 2 ∷ []) (1 ∷ []) ∷ CanWrite 1 ∷ Said 1 204 text16 ∷ wait true (1 ∷ 2 ∷ []) (1 ∷ []) ∷ CanWrite 1 ∷ Said 1 4 (codes "last") ∷ wait true (1 ∷ 2 ∷ []) [] ∷ []

abbrev text17 : Bytes
text17 = (codes "GET http://h/b HTTP/1.1\r\n\r\n")

abbrev text18 : Bytes
text18 = (codes "GET /b HTTP/1.1\r\nhost: h\r\nrange: bytes=0-4095\r\nif-range: \"x\"\r\nvia: 1.1 polipo\r\n\r\n")

abbrev text19 : Bytes
text19 = (codes "HTTP/1.1 206 Partial Content\r\nETag: \"x\"\r\nCache-Control: max-age=60\r\nContent-Range: bytes 0-4095/4100\r\nContent-Length: 4096\r\n\r\nfront")

abbrev text20 : Bytes
text20 = (codes "HTTP/1.1 200 OK\r\netag: \"x\"\r\ndate: Sun, 06 Nov 1994 08:49:37 GMT\r\ncache-control: max-age=60\r\nvia: 1.1 polipo\r\ncontent-length: 4100\r\nconnection: keep-alive\r\n\r\n")

abbrev text21 : Bytes
text21 = (replicate 4091 97)

abbrev text22 : Bytes
text22 = (codes "HTTP/1.1 200 OK\r\nETag: \"y\"\r\nCache-Control: max-age=60\r\nContent-Length: 3\r\n\r\nnew")

abbrev text23 : Bytes
text23 = (codes "GET /b HTTP/1.1\r\nhost: h\r\nvia")

abbrev text24 : Bytes
text24 = (codes "GET /b HTTP/1.1\r\nhost: h\r\nrange: bytes=0-4095\r\nvia")

abbrev text25 : Bytes
text25 = (codes "GET /b HTTP/1.1\r\nhost: h\r\nrange: bytes=5-4095\r\nif-range: \"x\"\r\nvia: 1.1 polipo\r\n\r\n")

abbrev front2 : Log
front2 = Woke [] ∷ Rooted text2 ∷ Listed true ∷ Listens 8123 true ∷ wait true [] [] ∷ Clock 784111777 ∷ wait true [] [] ∷ Opened 1 ∷ wait true (1 ∷ []) [] ∷ CanRead 1 ∷ Heard 1 text13 ∷ Noted (Taken 1 0 Fetch) ∷ Dialled 2 (codes "h") 80 ∷ wait true (1 ∷ []) [] ∷ Reached 2 ∷ wait true (1 ∷ 2 ∷ []) (2 ∷ []) ∷ CanWrite 2 ∷ Asked 2 text14 ∷ wait true (1 ∷ 2 ∷ []) [] ∷ CanRead 2 ∷ Got 2 text15 ∷ Noted (Taken 1 0 (Hit 4096 4100)) ∷ wait true (1 ∷ 2 ∷ []) (1 ∷ []) ∷ CanWrite 1 ∷ Said 1 204 text16 ∷ wait true (1 ∷ 2 ∷ []) (1 ∷ []) ∷ CanWrite 1 ∷ Said 1 4 (codes "last") ∷ wait true (1 ∷ 2 ∷ []) [] ∷ CanRead 1 ∷ Heard 1 text17 ∷ Noted (Taken 1 1 (Part 0 4100)) ∷ wait true (1 ∷ 2 ∷ []) (2 ∷ []) ∷ CanWrite 2 ∷ Asked 2 text18 ∷ wait true (1 ∷ 2 ∷ []) [] ∷ CanRead 2 ∷ Got 2 text19 ∷ wait true (1 ∷ 2 ∷ []) (1 ∷ []) ∷ CanWrite 1 ∷ Said 1 157 text20 ∷ wait true (1 ∷ 2 ∷ []) (1 ∷ []) ∷ CanWrite 1 ∷ Said 1 5 (codes "front") ∷ wait true (1 ∷ 2 ∷ []) [] ∷ CanRead 2 ∷ Ended 2 ∷ Dropped 2 ∷ Dialled 3 (codes "h") 80 ∷ wait true (1 ∷ []) [] ∷ Reached 3 ∷ wait true (1 ∷ 3 ∷ []) (3 ∷ []) ∷ CanWrite 3 ∷ Asked 3 text25 ∷ wait true (1 ∷ 3 ∷ []) [] ∷ CanRead 3 ∷ Got 3 text22 ∷ []

abbrev text26 : Bytes
text26 = (codes "GET http://h/b HTTP/1.1\r\nCache-Control: no-cache\r\n\r\n")

abbrev text27 : Bytes
text27 = (codes "GET /b HTTP/1.1\r\nhost: h\r\ncache-control: no-cache\r\nif-none-match: \"x\"\r\nvia: 1.1 polipo\r\n\r\n")

abbrev text28 : Bytes
text28 = (codes "HTTP/1.1 200 OK\r\nETag: \"x\"\r\nCache-Control: max-age=60\r\nContent-Length: 4100\r\n\r\n" ++ replicate 4096 97 ++ codes "last")

abbrev text29 : Bytes
text29 = (codes "HTTP/1.1 200 OK\r\netag: \"x\"\r\ndate: Sun, 06 Nov 1994 08:49:37 GMT\r\ncache-control: max-age=60\r\nage: 0\r\nvia: 1.1 polipo\r\ncontent-length: 4100\r\nconnection: keep-alive\r\n\r\n")

abbrev text30 : Bytes
text30 = (replicate 4096 97)

abbrev front3 : Log
front3 = Woke [] ∷ Rooted text2 ∷ Listed true ∷ Listens 8123 true ∷ wait true [] [] ∷ Clock 784111777 ∷ wait true [] [] ∷ Opened 1 ∷ wait true (1 ∷ []) [] ∷ CanRead 1 ∷ Heard 1 text13 ∷ Noted (Taken 1 0 Fetch) ∷ Dialled 2 (codes "h") 80 ∷ wait true (1 ∷ []) [] ∷ Reached 2 ∷ wait true (1 ∷ 2 ∷ []) (2 ∷ []) ∷ CanWrite 2 ∷ Asked 2 text14 ∷ wait true (1 ∷ 2 ∷ []) [] ∷ CanRead 2 ∷ Got 2 text15 ∷ Noted (Taken 1 0 (Hit 4096 4100)) ∷ wait true (1 ∷ 2 ∷ []) (1 ∷ []) ∷ CanWrite 1 ∷ Said 1 204 text16 ∷ wait true (1 ∷ 2 ∷ []) (1 ∷ []) ∷ CanWrite 1 ∷ Said 1 4 (codes "last") ∷ wait true (1 ∷ 2 ∷ []) [] ∷ CanRead 1 ∷ Heard 1 text17 ∷ Noted (Taken 1 1 (Part 0 4100)) ∷ wait true (1 ∷ 2 ∷ []) (2 ∷ []) ∷ CanWrite 2 ∷ Asked 2 text18 ∷ wait true (1 ∷ 2 ∷ []) [] ∷ Opened 3 ∷ wait true (2 ∷ 3 ∷ []) [] ∷ CanRead 3 ∷ Heard 3 text26 ∷ Noted (Taken 3 0 Validate) ∷ Dialled 4 (codes "h") 80 ∷ wait true (2 ∷ []) [] ∷ Reached 4 ∷ wait true (2 ∷ []) (4 ∷ []) ∷ CanWrite 4 ∷ Asked 4 text27 ∷ wait true (2 ∷ 4 ∷ []) [] ∷ CanRead 4 ∷ Got 4 text28 ∷ Noted (Taken 1 1 (Hit 0 4100)) ∷ Noted (Taken 3 0 (Hit 0 4100)) ∷ wait true (2 ∷ 4 ∷ []) (1 ∷ 3 ∷ []) ∷ CanWrite 1 ∷ Said 1 165 text29 ∷ wait true (2 ∷ 4 ∷ []) (1 ∷ 3 ∷ []) ∷ CanWrite 1 ∷ Said 1 4096 text30 ∷ wait true (2 ∷ 4 ∷ []) (1 ∷ 3 ∷ []) ∷ CanWrite 1 ∷ Said 1 4 (codes "last") ∷ wait true (1 ∷ 2 ∷ 4 ∷ []) (3 ∷ []) ∷ []

abbrev text31 : Bytes
text31 = (codes "HTTP/1.1 200 OK\r\nETag: \"y\"\r\nCache-Control: max-age=60\r\nContent-Length: 3\r\n\r\nne")

abbrev text32 : Bytes
text32 = (codes "hostConnections=1")

abbrev text33 : Bytes
text33 = (codes "GET http://h/b HTTP/1.1\r\nRange: bytes=5-9\r\n\r\n")

abbrev text34 : Bytes
text34 = (codes "HTTP/1.1 200 OK\r\nETag: \"x\"\r\nCache-Control: max-age=60\r\nContent-Length: 3\r\n\r\nabc")

abbrev front4 : Log
front4 = Woke [] ∷ Rooted text2 ∷ Listed true ∷ Listens 8123 true ∷ wait true [] [] ∷ Clock 784111777 ∷ wait true [] [] ∷ Opened 1 ∷ wait true (1 ∷ []) [] ∷ CanRead 1 ∷ Heard 1 text13 ∷ Noted (Taken 1 0 Fetch) ∷ Dialled 2 (codes "h") 80 ∷ wait true (1 ∷ []) [] ∷ Reached 2 ∷ wait true (1 ∷ 2 ∷ []) (2 ∷ []) ∷ CanWrite 2 ∷ Asked 2 text14 ∷ wait true (1 ∷ 2 ∷ []) [] ∷ CanRead 2 ∷ Got 2 text15 ∷ Noted (Taken 1 0 (Hit 4096 4100)) ∷ wait true (1 ∷ 2 ∷ []) (1 ∷ []) ∷ CanWrite 1 ∷ Said 1 204 text16 ∷ wait true (1 ∷ 2 ∷ []) (1 ∷ []) ∷ CanWrite 1 ∷ Said 1 4 (codes "last") ∷ wait true (1 ∷ 2 ∷ []) [] ∷ CanRead 1 ∷ Heard 1 text26 ∷ Noted (Taken 1 1 Validate) ∷ wait true (1 ∷ 2 ∷ []) (2 ∷ []) ∷ CanWrite 2 ∷ Asked 2 text27 ∷ wait true (1 ∷ 2 ∷ []) [] ∷ Opened 3 ∷ wait true (1 ∷ 2 ∷ 3 ∷ []) [] ∷ CanRead 3 ∷ Heard 3 text33 ∷ Noted (Taken 3 0 (Part 5 10)) ∷ wait true (1 ∷ 2 ∷ 3 ∷ []) [] ∷ CanRead 2 ∷ Got 2 text34 ∷ Noted (Taken 1 1 (Hit 0 3)) ∷ Noted (Taken 3 0 Unsatisfiable) ∷ []

abbrev text35 : Bytes
text35 = (codes "hostConnections=2")

abbrev text36 : Bytes
text36 = (codes "shareFetches=0")

abbrev text37 : Bytes
text37 = (codes "GET /b HTTP/1.1\r\nhost: h\r\nvia: 1.1 polipo\r\n\r\n")

abbrev text38 : Bytes
text38 = (codes "HEAD http://h/z HTTP/1.1\r\n\r\n")

abbrev text39 : Bytes
text39 = (codes "HEAD /z HTTP/1.1\r\nhost: h\r\nvia: 1.1 polipo\r\n\r\n")

abbrev front5 : Log
front5 = Woke [] ∷ Rooted text2 ∷ Listed true ∷ Listens 8123 true ∷ wait true [] [] ∷ Clock 784111777 ∷ wait true [] [] ∷ Opened 1 ∷ wait true (1 ∷ []) [] ∷ CanRead 1 ∷ Heard 1 text17 ∷ Noted (Taken 1 0 Fetch) ∷ Dialled 2 (codes "h") 80 ∷ wait true [] [] ∷ Reached 2 ∷ wait true (2 ∷ []) (2 ∷ []) ∷ CanWrite 2 ∷ Asked 2 text37 ∷ wait true (2 ∷ []) [] ∷ Opened 3 ∷ wait true (2 ∷ 3 ∷ []) [] ∷ CanRead 3 ∷ Heard 3 text13 ∷ Noted (Taken 3 0 Fetch) ∷ Dialled 4 (codes "h") 80 ∷ wait true (2 ∷ []) [] ∷ Reached 4 ∷ wait true (2 ∷ 4 ∷ []) (4 ∷ []) ∷ CanWrite 4 ∷ Asked 4 text14 ∷ wait true (2 ∷ 4 ∷ []) [] ∷ CanRead 4 ∷ Got 4 text15 ∷ Noted (Taken 3 0 (Hit 4096 4100)) ∷ wait true (2 ∷ 4 ∷ []) (3 ∷ []) ∷ CanWrite 3 ∷ Said 3 204 text16 ∷ wait true (2 ∷ 4 ∷ []) (3 ∷ []) ∷ CanWrite 3 ∷ Said 3 4 (codes "last") ∷ wait true (2 ∷ 3 ∷ 4 ∷ []) [] ∷ CanRead 3 ∷ Heard 3 text38 ∷ Noted (Taken 3 1 Pass) ∷ wait true (2 ∷ 4 ∷ []) (4 ∷ []) ∷ CanWrite 4 ∷ Asked 4 text39 ∷ wait true (2 ∷ 4 ∷ []) [] ∷ Opened 5 ∷ wait true (2 ∷ 4 ∷ 5 ∷ []) [] ∷ CanRead 5 ∷ Heard 5 text17 ∷ Noted (Taken 5 0 (Part 0 4100)) ∷ wait true (2 ∷ 4 ∷ []) (4 ∷ []) ∷ CanWrite 4 ∷ Asked 4 text18 ∷ wait true (2 ∷ 4 ∷ []) [] ∷ CanRead 2 ∷ Got 2 text28 ∷ Noted (Taken 1 0 (Hit 0 4100)) ∷ wait true (2 ∷ 4 ∷ []) (1 ∷ 5 ∷ []) ∷ CanWrite 5 ∷ Said 5 165 text29 ∷ wait true (2 ∷ 4 ∷ []) (1 ∷ 5 ∷ []) ∷ CanWrite 5 ∷ Said 5 4096 text30 ∷ wait true (2 ∷ 4 ∷ []) (1 ∷ 5 ∷ []) ∷ CanWrite 3 ∷ HungUp 3 ∷ Shut 3 ∷ Dropped 4 ∷ []

row34 : fault_from 0 (start (record { words = (codes "diskRun=1") ∷ text0 ∷ text1 ∷ []; faults = 0 } ∷ [])) (front0 ++ Heard 1 text3 ∷ Noted (Taken 1 0 Fetch) ∷ Dialled 2 (codes "h") 80 ∷ wait true (1 ∷ []) [] ∷ Reached 2 ∷ wait true (1 ∷ 2 ∷ []) (2 ∷ []) ∷ CanWrite 2 ∷ Asked 2 text4 ∷ wait true (1 ∷ 2 ∷ []) [] ∷ CanRead 2 ∷ Got 2 text5 ∷ Noted (Taken 1 0 (Hit 5000 5004)) ∷ wait true (1 ∷ 2 ∷ []) (1 ∷ []) ∷ CanWrite 1 ∷ Said 1 177 text6 ∷ wait true (1 ∷ 2 ∷ []) (1 ∷ []) ∷ CanWrite 1 ∷ Said 1 4 (codes "aaaa") ∷ wait true (1 ∷ 2 ∷ []) [] ∷ []) ≡ None
unfolding judging
row34 = refl

row45 : fault_from 0 (start (record { words = (codes "diskRun=1") ∷ text0 ∷ text1 ∷ []; faults = 0 } ∷ [])) (front0 ++ Heard 1 text3 ∷ Noted (Taken 1 0 Fetch) ∷ Dialled 2 (codes "h") 80 ∷ wait true (1 ∷ []) [] ∷ Reached 2 ∷ wait true (1 ∷ 2 ∷ []) (2 ∷ []) ∷ CanWrite 2 ∷ Asked 2 text4 ∷ wait true (1 ∷ 2 ∷ []) [] ∷ CanRead 2 ∷ Got 2 text7 ∷ Noted (Taken 1 0 Unsatisfiable) ∷ wait true (1 ∷ 2 ∷ []) (1 ∷ []) ∷ CanWrite 1 ∷ Said 1 183 text8 ∷ wait true (1 ∷ 2 ∷ []) [] ∷ []) ≡ None
unfolding judging
row45 = refl

row55 : fault_from 0 (start (record { words = (codes "diskRun=1") ∷ text0 ∷ text1 ∷ []; faults = 0 } ∷ [])) (front0 ++ Heard 1 text3 ∷ Noted (Taken 1 0 Fetch) ∷ Dialled 2 (codes "h") 80 ∷ wait true (1 ∷ []) [] ∷ Reached 2 ∷ wait true (1 ∷ 2 ∷ []) (2 ∷ []) ∷ CanWrite 2 ∷ Asked 2 text4 ∷ wait true (1 ∷ 2 ∷ []) [] ∷ CanRead 2 ∷ Got 2 text9 ∷ Noted (Taken 1 0 Pass) ∷ wait true (1 ∷ 2 ∷ []) (2 ∷ []) ∷ CanWrite 2 ∷ Asked 2 text10 ∷ wait true (1 ∷ 2 ∷ []) [] ∷ []) ≡ None
unfolding judging
row55 = refl

row63 : fault_from 0 (start (record { words = (codes "diskRun=1") ∷ text0 ∷ text1 ∷ []; faults = 0 } ∷ [])) (front0 ++ Heard 1 text3 ∷ Noted (Taken 1 0 Fetch) ∷ Dialled 2 (codes "h") 80 ∷ wait true (1 ∷ []) [] ∷ Reached 2 ∷ wait true (1 ∷ 2 ∷ []) (2 ∷ []) ∷ CanWrite 2 ∷ Asked 2 text11 ∷ []) ≡ Some (record { at = 17; rule = WrongAsk })
unfolding judging
row63 = refl

row74 : fault_from 0 (start (record { words = (codes "diskRun=1") ∷ text0 ∷ text1 ∷ []; faults = 0 } ∷ [])) (front0 ++ Heard 1 text3 ∷ Noted (Taken 1 0 Fetch) ∷ Dialled 2 (codes "h") 80 ∷ wait true (1 ∷ []) [] ∷ Reached 2 ∷ wait true (1 ∷ 2 ∷ []) (2 ∷ []) ∷ CanWrite 2 ∷ Asked 2 text4 ∷ wait true (1 ∷ 2 ∷ []) [] ∷ CanRead 2 ∷ Got 2 text5 ∷ Noted (Taken 1 0 (Hit 5000 5004)) ∷ wait true (1 ∷ 2 ∷ []) (1 ∷ []) ∷ CanWrite 1 ∷ Said 1 132 text12 ∷ []) ≡ Some (record { at = 24; rule = WrongReply })
unfolding judging
row74 = refl

row82 : fault_from 0 (start (record { words = (codes "diskRun=1") ∷ text0 ∷ text1 ∷ []; faults = 0 } ∷ [])) (front0 ++ Heard 1 text3 ∷ Noted (Taken 1 0 Fetch) ∷ Dialled 2 (codes "h") 80 ∷ wait true (1 ∷ []) [] ∷ Reached 2 ∷ wait true (1 ∷ 2 ∷ []) (2 ∷ []) ∷ CanWrite 2 ∷ Asked 2 text4 ∷ wait true (1 ∷ 2 ∷ []) [] ∷ CanRead 2 ∷ Got 2 text9 ∷ Noted (Taken 1 0 Relay) ∷ []) ≡ Some (record { at = 21; rule = WrongDecision })
unfolding judging
row82 = refl

row87 : fault_from 0 (start (record { words = (codes "diskRun=1") ∷ text0 ∷ text1 ∷ []; faults = 0 } ∷ [])) (front0 ++ Heard 1 text3 ∷ Noted (Taken 1 0 Fetch) ∷ Dialled 2 (codes "h") 80 ∷ wait true (1 ∷ []) [] ∷ Reached 2 ∷ wait true (1 ∷ 2 ∷ []) (2 ∷ []) ∷ CanWrite 2 ∷ Asked 2 text4 ∷ wait true (1 ∷ 2 ∷ []) [] ∷ CanRead 2 ∷ Got 2 text9 ∷ Noted (Taken 1 0 (Hit 5000 5004)) ∷ []) ≡ Some (record { at = 21; rule = WrongDecision })
unfolding judging
row87 = refl

row155 : fault_from 0 (start (record { words = (codes "diskRun=1") ∷ text0 ∷ text1 ∷ []; faults = 0 } ∷ [])) (front1 ++ CanRead 1 ∷ Heard 1 text17 ∷ Noted (Taken 1 1 (Part 0 4100)) ∷ wait true (1 ∷ 2 ∷ []) (2 ∷ []) ∷ CanWrite 2 ∷ Asked 2 text18 ∷ wait true (1 ∷ 2 ∷ []) [] ∷ CanRead 2 ∷ Got 2 text19 ∷ wait true (1 ∷ 2 ∷ []) (1 ∷ []) ∷ CanWrite 1 ∷ Said 1 157 text20 ∷ wait true (1 ∷ 2 ∷ []) (1 ∷ []) ∷ CanWrite 1 ∷ Said 1 5 (codes "front") ∷ wait true (1 ∷ 2 ∷ []) [] ∷ CanRead 2 ∷ Got 2 text21 ∷ wait true (1 ∷ 2 ∷ []) (1 ∷ []) ∷ CanWrite 1 ∷ Said 1 4091 text21 ∷ wait true (1 ∷ 2 ∷ []) (1 ∷ []) ∷ CanWrite 1 ∷ Said 1 4 (codes "last") ∷ wait true (1 ∷ 2 ∷ []) [] ∷ []) ≡ None
unfolding judging
row155 = refl

row167 : fault_from 0 (start (record { words = (codes "diskRun=1") ∷ text0 ∷ text1 ∷ []; faults = 0 } ∷ [])) (front1 ++ CanRead 1 ∷ Heard 1 text17 ∷ Noted (Taken 1 1 (Part 0 4100)) ∷ wait true (1 ∷ 2 ∷ []) (2 ∷ []) ∷ CanWrite 2 ∷ Asked 2 text18 ∷ wait true (1 ∷ 2 ∷ []) [] ∷ CanRead 2 ∷ Got 2 text22 ∷ Noted (Taken 1 1 (Hit 0 3)) ∷ wait true (1 ∷ 2 ∷ []) (1 ∷ []) ∷ []) ≡ None
unfolding judging
row167 = refl

row172 : fault_from 0 (start (record { words = (codes "diskRun=1") ∷ text0 ∷ text1 ∷ []; faults = 0 } ∷ [])) (front1 ++ CanRead 1 ∷ Heard 1 text17 ∷ Noted (Taken 1 1 (Part 0 4100)) ∷ wait true (1 ∷ 2 ∷ []) (2 ∷ []) ∷ CanWrite 2 ∷ Asked 2 text23 ∷ []) ≡ Some (record { at = 34; rule = WrongAsk })
unfolding judging
row172 = refl

row179 : fault_from 0 (start (record { words = (codes "diskRun=1") ∷ text0 ∷ text1 ∷ []; faults = 0 } ∷ [])) (front1 ++ CanRead 1 ∷ Heard 1 text17 ∷ Noted (Taken 1 1 (Part 0 4100)) ∷ wait true (1 ∷ 2 ∷ []) (2 ∷ []) ∷ CanWrite 2 ∷ Asked 2 text24 ∷ []) ≡ Some (record { at = 34; rule = WrongAsk })
unfolding judging
row179 = refl

row186 : fault_from 0 (start (record { words = (codes "diskRun=1") ∷ text0 ∷ text1 ∷ []; faults = 0 } ∷ [])) (front1 ++ CanRead 1 ∷ Heard 1 text17 ∷ Noted (Taken 1 1 (Part 0 4100)) ∷ wait true (1 ∷ 2 ∷ []) [] ∷ []) ≡ Some (record { at = 32; rule = ConnectionForgotten })
unfolding judging
row186 = refl

row191 : fault_from 0 (start (record { words = (codes "diskRun=1") ∷ text0 ∷ text1 ∷ []; faults = 0 } ∷ [])) (front1 ++ CanRead 1 ∷ Heard 1 text17 ∷ Noted (Taken 1 1 (Hit 0 4100)) ∷ []) ≡ Some (record { at = 31; rule = WrongDecision })
unfolding judging
row191 = refl

row197 : fault_from 0 (start (record { words = (codes "diskRun=1") ∷ text0 ∷ text1 ∷ []; faults = 0 } ∷ [])) (front1 ++ CanRead 1 ∷ Heard 1 text17 ∷ Noted (Taken 1 1 Fetch) ∷ []) ≡ Some (record { at = 31; rule = WrongDecision })
unfolding judging
row197 = refl

row203 : fault_from 0 (start (record { words = (codes "diskRun=1") ∷ text0 ∷ text1 ∷ []; faults = 0 } ∷ [])) (front1 ++ CanRead 1 ∷ Heard 1 text17 ∷ Noted (Taken 1 1 (Part 0 4100)) ∷ wait true (1 ∷ 2 ∷ []) (1 ∷ 2 ∷ []) ∷ []) ≡ Some (record { at = 32; rule = ClientForgotten })
unfolding judging
row203 = refl

row208 : fault_from 0 (start (record { words = (codes "diskRun=1") ∷ text0 ∷ text1 ∷ []; faults = 0 } ∷ [])) (front1 ++ CanRead 1 ∷ Heard 1 text17 ∷ Noted (Taken 1 1 (Part 0 4100)) ∷ wait true (1 ∷ 2 ∷ []) (2 ∷ []) ∷ CanWrite 2 ∷ Asked 2 text18 ∷ wait true (1 ∷ 2 ∷ []) [] ∷ CanRead 2 ∷ Got 2 text19 ∷ wait true (1 ∷ 2 ∷ []) (1 ∷ []) ∷ CanWrite 1 ∷ Said 1 157 text20 ∷ wait true (1 ∷ 2 ∷ []) (1 ∷ []) ∷ CanWrite 1 ∷ Said 1 5 (codes "front") ∷ wait true (1 ∷ 2 ∷ []) [] ∷ CanWrite 1 ∷ Said 1 4 (codes "last") ∷ []) ≡ Some (record { at = 46; rule = WrongReply })
unfolding judging
row208 = refl

row214 : fault_from 0 (start (record { words = (codes "diskRun=1") ∷ text0 ∷ text1 ∷ []; faults = 0 } ∷ [])) (front1 ++ CanRead 1 ∷ Heard 1 text17 ∷ Noted (Taken 1 1 (Part 0 4100)) ∷ wait true (1 ∷ 2 ∷ []) (2 ∷ []) ∷ CanWrite 2 ∷ Asked 2 text18 ∷ wait true (1 ∷ 2 ∷ []) [] ∷ CanRead 2 ∷ Got 2 text19 ∷ wait true (1 ∷ 2 ∷ []) (1 ∷ []) ∷ CanWrite 1 ∷ Said 1 157 text20 ∷ wait true (1 ∷ 2 ∷ []) (1 ∷ []) ∷ CanWrite 1 ∷ Said 1 5 (codes "front") ∷ wait true (1 ∷ 2 ∷ []) [] ∷ CanRead 2 ∷ Got 2 (codes "aaaaaaaaaa") ∷ wait true (1 ∷ 2 ∷ []) (1 ∷ []) ∷ CanWrite 1 ∷ Said 1 10 (codes "bbbbbbbbbb") ∷ []) ≡ Some (record { at = 49; rule = WrongReply })
unfolding judging
row214 = refl

row223 : fault_from 0 (start (record { words = (codes "diskRun=1") ∷ text0 ∷ text1 ∷ []; faults = 0 } ∷ [])) (front1 ++ CanRead 1 ∷ Heard 1 text17 ∷ Noted (Taken 1 1 (Part 0 4100)) ∷ wait true (1 ∷ 2 ∷ []) (2 ∷ []) ∷ CanWrite 2 ∷ Asked 2 text18 ∷ wait true (1 ∷ 2 ∷ []) [] ∷ CanRead 2 ∷ Got 2 text22 ∷ wait true (1 ∷ 2 ∷ []) (1 ∷ []) ∷ []) ≡ Some (record { at = 38; rule = StepUnfinished })
unfolding judging
row223 = refl

row228 : fault_from 0 (start (record { words = (codes "diskRun=1") ∷ text0 ∷ text1 ∷ []; faults = 0 } ∷ [])) (front1 ++ CanRead 1 ∷ Heard 1 text17 ∷ Noted (Taken 1 1 (Part 0 4100)) ∷ wait true (1 ∷ 2 ∷ []) (2 ∷ []) ∷ CanWrite 2 ∷ Asked 2 text18 ∷ wait true (1 ∷ 2 ∷ []) [] ∷ CanRead 2 ∷ Got 2 text22 ∷ Noted (Taken 1 1 (Part 0 4100)) ∷ []) ≡ Some (record { at = 38; rule = WrongDecision })
unfolding judging
row228 = refl

row252 : fault_from 0 (start (record { words = (codes "diskRun=1") ∷ text0 ∷ text1 ∷ []; faults = 0 } ∷ [])) (front2 ++ Noted (Cut 1 Superseded) ∷ Shut 1 ∷ wait true (3 ∷ []) [] ∷ []) ≡ None
unfolding judging
row252 = refl

row257 : fault_from 0 (start (record { words = (codes "diskRun=1") ∷ text0 ∷ text1 ∷ []; faults = 0 } ∷ [])) (front2 ++ Noted (Cut 1 Origin) ∷ []) ≡ Some (record { at = 57; rule = WrongCut })
unfolding judging
row257 = refl

row261 : fault_from 0 (start (record { words = (codes "diskRun=1") ∷ text0 ∷ text1 ∷ []; faults = 0 } ∷ [])) (front2 ++ wait true (1 ∷ 3 ∷ []) (1 ∷ []) ∷ []) ≡ Some (record { at = 57; rule = StepUnfinished })
unfolding judging
row261 = refl

row265 : fault_from 0 (start (record { words = (codes "diskRun=1") ∷ text0 ∷ text1 ∷ []; faults = 0 } ∷ [])) (front2 ++ Noted (Taken 1 1 (Hit 0 3)) ∷ []) ≡ Some (record { at = 57; rule = WrongDecision })
unfolding judging
row265 = refl

row308 : fault_from 0 (start (record { words = (codes "diskRun=1") ∷ text0 ∷ text1 ∷ []; faults = 0 } ∷ [])) (front3 ++ CanRead 2 ∷ Got 2 text31 ∷ Noted (Forgotten (codes "http://h/b")) ∷ wait true (1 ∷ 2 ∷ 4 ∷ []) (3 ∷ []) ∷ []) ≡ None
unfolding judging
row308 = refl

row312 : fault_from 0 (start (record { words = (codes "diskRun=1") ∷ text0 ∷ text1 ∷ []; faults = 0 } ∷ [])) (front3 ++ CanRead 2 ∷ Got 2 text31 ∷ Noted (Forgotten (codes "http://h/b")) ∷ Noted (Taken 1 2 (Refuse 500)) ∷ []) ≡ Some (record { at = 65; rule = WrongDecision })
unfolding judging
row312 = refl

row345 : fault_from 0 (start (record { words = text32 ∷ []; faults = 0 } ∷ [])) (front4 ++ wait true (1 ∷ 2 ∷ 3 ∷ []) (1 ∷ 3 ∷ []) ∷ []) ≡ None
unfolding judging
row345 = refl

row348 : fault_from 0 (start (record { words = text32 ∷ []; faults = 0 } ∷ [])) (front4 ++ wait true (1 ∷ 2 ∷ 3 ∷ []) (1 ∷ 2 ∷ 3 ∷ []) ∷ []) ≡ Some (record { at = 46; rule = ConnectionForgotten })
unfolding judging
row348 = refl

row430 : fault_from 0 (start (record { words = text0 ∷ text35 ∷ text36 ∷ []; faults = 0 } ∷ [])) (front5 ++ wait true (2 ∷ []) (1 ∷ 5 ∷ []) ∷ []) ≡ None
unfolding judging
row430 = refl

row433 : fault_from 0 (start (record { words = text0 ∷ text35 ∷ text36 ∷ []; faults = 0 } ∷ [])) (front5 ++ wait true (2 ∷ []) (1 ∷ 2 ∷ 5 ∷ []) ∷ []) ≡ Some (record { at = 71; rule = ConnectionForgotten })
unfolding judging
row433 = refl
