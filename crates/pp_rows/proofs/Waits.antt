-- The verdicts of transcripts/waits.log, written by transcripts/make_rows.
use Rattle.std.proofs.Common.{◌≡◌, refl, ℕ, List, [], ◌∷◌, ◌++◌, true, false, Bool, Option, None, Some, codes}
use Rattle.std.specs.Prelude.{replicate, is_some}
use Rattle.pp_world.specs.Log.{Log}
use Rattle.pp_world.specs.declared.happening.Happening.{Happening}
use Rattle.pp_world.specs.declared.happening.Happening.TheVariants.{Woke, Waits, Clock, Opened, CanRead, CanWrite, Heard, HungUp, Said, Shut, Dialled, Undialled, Reached, Ended, Broke, Asked, Got, Dropped, NoneYet, Began, Did, Unread, Noted, Rooted, Listed, Listens, Configured, Printed, Stopped}
use Rattle.pp_world.specs.declared.note.Decision.TheVariants.{Refuse, Hit, Part, Head, NotModified, Unsatisfiable, Relay, Validate, Fetch, Pass}
use Rattle.pp_world.specs.declared.note.Cause.TheVariants.{Superseded, Origin, Short, Idle, Memory, Stop}
use Rattle.pp_world.specs.declared.note.Remark.TheVariants.{Taken, Cut, Kept, Gone, Forgotten, Evicted, Loaded}
use Rattle.pp_world.specs.declared.op.DiskOp.TheVariants.{Draft, SyncDraft, Publish, Write, Sync, Remove}
use Rattle.pp_law.specs.Lists.{Bytes}
use Rattle.pp_law.specs.State.{State, start}
use Rattle.pp_law.specs.Lawful.{fault_from, Fault, ImageNotLeft, OpeningOutOfOrder, EventOutOfTurn, ReadNotAskedFor, FailureMadeUp, WrongReply, WrongAsk, WrongDecision, WrongCut, NotToBeClosed, NotToBeDialled, NotToBeEvicted, NotToBeForgotten, NotToBeLoaded, NotSealed, NotGone, WrongDiskOperation, StepUnfinished, AcceptsWrongly, ClientForgotten, ConnectionForgotten, ExchangeForgotten, WantsTooMuch}
use Rattle.pp_pieces.proofs.Forced.{judge, arrived, judging, told, tell}

abbrev wait : Bool → List ℕ → List ℕ → Happening
wait accept read write = Waits (record { accept = accept; read = record { items = read }; write = record { items = write } })

abbrev text0 : Bytes
text0 = (codes "pipelineAsks=1")

abbrev text1 : Bytes
text1 = (codes "hostConnections=4")

abbrev text2 : Bytes
text2 = (codes "polipo-cache")

abbrev text3 : Bytes
text3 = (codes "GET http://h/r HTTP/1.1\r\nRange: bytes=0-4095\r\n\r\n")

abbrev text4 : Bytes
text4 = (codes "GET /r HTTP/1.1\r\nhost: h\r\nrange: bytes=0-4095\r\nvia: 1.1 polipo\r\n\r\n")

abbrev text5 : Bytes
text5 = (codes "HTTP/1.1 206 Partial Content\r\nETag: \"x\"\r\nCache-Control: max-age=60\r\nContent-Range: bytes 0-4095/8192\r\nContent-Length: 4096\r\n\r\n" ++ replicate 4096 97)

abbrev text6 : Bytes
text6 = (codes "HTTP/1.1 206 Partial Content\r\netag: \"x\"\r\ndate: Sun, 06 Nov 1994 08:49:37 GMT\r\ncache-control: max-age=60\r\nvia: 1.1 polipo\r\ncontent-range: bytes 0-4095/8192\r\ncontent-length: 4096\r\nconnection: keep-alive\r\n\r\n")

abbrev text7 : Bytes
text7 = (replicate 4096 97)

abbrev text8 : Bytes
text8 = (codes "GET http://h/r HTTP/1.1\r\nRange: bytes=4000-4999\r\n\r\n")

abbrev text9 : Bytes
text9 = (codes "HTTP/1.1 206 Partial Content\r\netag: \"x\"\r\ndate: Sun, 06 Nov 1994 08:49:37 GMT\r\ncache-control: max-age=60\r\nage: 0\r\nvia: 1.1 polipo\r\ncontent-range: bytes 4000-4999/8192\r\ncontent-length: 1000\r\nconnection: keep-alive\r\n\r\n")

abbrev text10 : Bytes
text10 = (replicate 96 97)

abbrev text11 : Bytes
text11 = (codes "GET /r HTTP/1.1\r\nhost: h\r\nrange: bytes=4096-4999\r\nif-range: \"x\"\r\nvia: 1.1 polipo\r\n\r\n")

abbrev text12 : Bytes
text12 = (codes "GET http://h/p HTTP/1.1\r\nCache-Control: no-store\r\n\r\n")

abbrev text13 : Bytes
text13 = (codes "GET http://h/r HTTP/1.1\r\nRange: bytes=5000-8191\r\n\r\n")

abbrev text14 : Bytes
text14 = (codes "GET /r HTTP/1.1\r\nhost: h\r\nrange: bytes=4096-8191\r\nif-range: \"x\"\r\nvia: 1.1 polipo\r\n\r\n")

abbrev text15 : Bytes
text15 = (codes "HTTP/1.1 200 OK\r\nContent-Length: 65537\r\n\r\n" ++ replicate 8000 101)

abbrev text16 : Bytes
text16 = (codes "GET /r HTTP/1.1\r\nhost: h\r\nrange: bytes=4096-8191\r\nvia: 1.1 polipo\r\n\r\n")

abbrev front0 : Log
front0 = Woke [] ∷ Rooted text2 ∷ Listed true ∷ Listens 8123 true ∷ wait true [] [] ∷ Clock 784111777 ∷ wait true [] [] ∷ Opened 1 ∷ wait true (1 ∷ []) [] ∷ CanRead 1 ∷ Heard 1 text3 ∷ Noted (Taken 1 0 Fetch) ∷ Dialled 2 (codes "h") 80 ∷ wait true (1 ∷ []) [] ∷ Reached 2 ∷ wait true (1 ∷ 2 ∷ []) (2 ∷ []) ∷ CanWrite 2 ∷ Asked 2 text4 ∷ wait true (1 ∷ 2 ∷ []) [] ∷ CanRead 2 ∷ Got 2 text5 ∷ Noted (Taken 1 0 (Hit 0 4096)) ∷ wait true (1 ∷ 2 ∷ []) (1 ∷ []) ∷ CanWrite 1 ∷ Said 1 204 text6 ∷ wait true (1 ∷ 2 ∷ []) (1 ∷ []) ∷ CanWrite 1 ∷ Said 1 4096 text7 ∷ wait true (1 ∷ 2 ∷ []) [] ∷ Opened 3 ∷ wait true (1 ∷ 2 ∷ 3 ∷ []) [] ∷ CanRead 3 ∷ Heard 3 text8 ∷ Noted (Taken 3 0 (Part 4000 5000)) ∷ wait true (1 ∷ 2 ∷ []) (3 ∷ []) ∷ CanWrite 3 ∷ Said 3 215 text9 ∷ wait true (1 ∷ 2 ∷ []) (3 ∷ []) ∷ CanWrite 3 ∷ Said 3 96 text10 ∷ wait true (1 ∷ []) (2 ∷ []) ∷ CanWrite 2 ∷ Asked 2 text11 ∷ wait true (1 ∷ 2 ∷ []) [] ∷ Opened 11 ∷ wait true (1 ∷ 2 ∷ 11 ∷ []) [] ∷ CanRead 11 ∷ Heard 11 text12 ∷ Noted (Taken 11 0 Pass) ∷ Dialled 12 (codes "h") 80 ∷ wait true (1 ∷ 2 ∷ []) [] ∷ Opened 13 ∷ wait true (1 ∷ 2 ∷ 13 ∷ []) [] ∷ CanRead 13 ∷ Heard 13 text12 ∷ Noted (Taken 13 0 Pass) ∷ Dialled 14 (codes "h") 80 ∷ wait true (1 ∷ 2 ∷ []) [] ∷ Opened 15 ∷ wait true (1 ∷ 2 ∷ 15 ∷ []) [] ∷ CanRead 15 ∷ Heard 15 text12 ∷ Noted (Taken 15 0 Pass) ∷ Dialled 16 (codes "h") 80 ∷ wait true (1 ∷ 2 ∷ []) [] ∷ Opened 20 ∷ wait true (1 ∷ 2 ∷ 20 ∷ []) [] ∷ CanRead 20 ∷ Heard 20 text13 ∷ Noted (Taken 20 0 (Part 5000 8192)) ∷ wait true (1 ∷ 2 ∷ []) (2 ∷ []) ∷ CanWrite 2 ∷ Asked 2 text14 ∷ wait true (1 ∷ 2 ∷ []) [] ∷ CanRead 2 ∷ Got 2 text15 ∷ Noted (Taken 20 0 Fetch) ∷ wait true (1 ∷ 2 ∷ []) (2 ∷ []) ∷ CanWrite 2 ∷ Asked 2 text16 ∷ wait true (1 ∷ 2 ∷ []) [] ∷ []

abbrev text17 : Bytes
text17 = (replicate 32768 101)

abbrev text18 : Bytes
text18 = (replicate 24768 101)

abbrev text19 : Bytes
text19 = (codes "eHTTP/1.1 206 Partial Content\r\nETag: \"y\"\r\nCache-Control: max-age=60\r\nContent-Range: bytes 4096-8191/8192\r\nContent-Length: 4096\r\n\r\n")

abbrev text20 : Bytes
text20 = (replicate 4096 102 ++ codes "HTTP/1.1 206 Partial Content\r\nETag: \"y\"\r\nCache-Control: max-age=60\r\nContent-Range: bytes 4096-8191/8192\r\nContent-Length: 4096\r\n\r\n")

abbrev text21 : Bytes
text21 = (codes "GET http://h/b HTTP/1.1\r\nRange: bytes=4096-4099\r\n\r\n")

abbrev text22 : Bytes
text22 = (codes "GET /b HTTP/1.1\r\nhost: h\r\nrange: bytes=4096-4099\r\nvia: 1.1 polipo\r\n\r\n")

abbrev text23 : Bytes
text23 = (codes "HTTP/1.1 206 Partial Content\r\nETag: \"x\"\r\nCache-Control: max-age=60\r\nContent-Range: bytes 4096-4099/4100\r\nContent-Length: 4\r\n\r\nlast")

abbrev text24 : Bytes
text24 = (codes "HTTP/1.1 206 Partial Content\r\netag: \"x\"\r\ndate: Sun, 06 Nov 1994 08:49:37 GMT\r\ncache-control: max-age=60\r\nvia: 1.1 polipo\r\ncontent-range: bytes 4096-4099/4100\r\ncontent-length: 4\r\nconnection: keep-alive\r\n\r\n")

abbrev text25 : Bytes
text25 = (codes "GET http://h/b HTTP/1.1\r\n\r\n")

abbrev text26 : Bytes
text26 = (codes "GET /b HTTP/1.1\r\nhost: h\r\nrange: bytes=0-4095\r\nif-range: \"x\"\r\nvia: 1.1 polipo\r\n\r\n")

abbrev front1 : Log
front1 = Woke [] ∷ Rooted text2 ∷ Listed true ∷ Listens 8123 true ∷ wait true [] [] ∷ Clock 784111777 ∷ wait true [] [] ∷ Opened 1 ∷ wait true (1 ∷ []) [] ∷ CanRead 1 ∷ Heard 1 text21 ∷ Noted (Taken 1 0 Fetch) ∷ Dialled 2 (codes "h") 80 ∷ wait true (1 ∷ []) [] ∷ Reached 2 ∷ wait true (1 ∷ 2 ∷ []) (2 ∷ []) ∷ CanWrite 2 ∷ Asked 2 text22 ∷ wait true (1 ∷ 2 ∷ []) [] ∷ CanRead 2 ∷ Got 2 text23 ∷ Noted (Taken 1 0 (Hit 4096 4100)) ∷ wait true (1 ∷ 2 ∷ []) (1 ∷ []) ∷ CanWrite 1 ∷ Said 1 204 text24 ∷ wait true (1 ∷ 2 ∷ []) (1 ∷ []) ∷ CanWrite 1 ∷ Said 1 4 (codes "last") ∷ wait true (1 ∷ 2 ∷ []) [] ∷ Opened 3 ∷ wait true (1 ∷ 2 ∷ 3 ∷ []) [] ∷ CanRead 3 ∷ Heard 3 text25 ∷ Noted (Taken 3 0 (Part 0 4100)) ∷ wait true (1 ∷ []) (2 ∷ []) ∷ CanWrite 2 ∷ Asked 2 text26 ∷ wait true (1 ∷ 2 ∷ []) [] ∷ []

abbrev front2 : Log
front2 = Woke [] ∷ Rooted text2 ∷ Listed true ∷ Listens 8123 true ∷ wait true [] [] ∷ Clock 784111777 ∷ wait true [] [] ∷ Opened 1 ∷ wait true (1 ∷ []) [] ∷ CanRead 1 ∷ []

abbrev text27 : Bytes
text27 = (codes "POST http://h/a HTTP/1.1\r\nTransfer-Encoding: gzip\r\n\r\n" ++ replicate 8000 122)

abbrev text28 : Bytes
text28 = (replicate 16000 122)

row96 : fault_from 0 (start (record { words = (codes "diskRun=1") ∷ text0 ∷ text1 ∷ []; faults = 0 } ∷ [])) (front0 ++ CanRead 2 ∷ Got 2 text17 ∷ wait true (1 ∷ 2 ∷ []) [] ∷ CanRead 2 ∷ Got 2 text18 ∷ wait true (1 ∷ 2 ∷ []) [] ∷ CanRead 2 ∷ Got 2 text19 ∷ Noted (Cut 3 Superseded) ∷ Shut 3 ∷ wait true (1 ∷ 2 ∷ []) [] ∷ CanRead 2 ∷ Got 2 text20 ∷ Noted (Taken 20 0 (Hit 5000 8192)) ∷ wait true (1 ∷ 2 ∷ []) (20 ∷ []) ∷ []) ≡ None
unfolding judging
row96 = refl

row113 : fault_from 0 (start (record { words = (codes "diskRun=1") ∷ text0 ∷ text1 ∷ []; faults = 0 } ∷ [])) (front0 ++ CanRead 2 ∷ NoneYet 2 ∷ wait true (1 ∷ []) [] ∷ []) ≡ Some (record { at = 83; rule = ConnectionForgotten })
unfolding judging
row113 = refl

row119 : fault_from 0 (start (record { words = (codes "diskRun=1") ∷ text0 ∷ text1 ∷ []; faults = 0 } ∷ [])) (front0 ++ CanRead 2 ∷ Got 2 text17 ∷ wait true (1 ∷ 2 ∷ []) [] ∷ CanRead 2 ∷ Got 2 text18 ∷ wait true (1 ∷ []) [] ∷ []) ≡ Some (record { at = 86; rule = ConnectionForgotten })
unfolding judging
row119 = refl

row132 : fault_from 0 (start (record { words = (codes "diskRun=1") ∷ text0 ∷ text1 ∷ []; faults = 0 } ∷ [])) (front1 ++ Clock 784111896 ∷ wait true (1 ∷ 2 ∷ []) [] ∷ Clock 784111897 ∷ Noted (Cut 1 Idle) ∷ Shut 1 ∷ wait true (2 ∷ []) [] ∷ []) ≡ None
unfolding judging
row132 = refl

row140 : fault_from 0 (start (record { words = (codes "diskRun=1") ∷ text0 ∷ text1 ∷ []; faults = 0 } ∷ [])) (front1 ++ Clock 784111896 ∷ wait true (1 ∷ 2 ∷ []) [] ∷ Clock 784111897 ∷ Noted (Cut 1 Idle) ∷ Noted (Cut 3 Idle) ∷ []) ≡ Some (record { at = 42; rule = WrongCut })
unfolding judging
row140 = refl

row160 : fault_from 0 (start (record { words = (codes "diskRun=1") ∷ text0 ∷ text1 ∷ []; faults = 0 } ∷ [])) (front2 ++ Heard 1 text27 ∷ Noted (Taken 1 0 (Refuse 411)) ∷ wait true (1 ∷ []) (1 ∷ []) ∷ CanRead 1 ∷ Heard 1 text28 ∷ wait true (1 ∷ []) (1 ∷ []) ∷ []) ≡ None
unfolding judging
row160 = refl
