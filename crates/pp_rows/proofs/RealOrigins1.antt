-- The verdicts of transcripts/real_origins.log, written by transcripts/make_rows.
use Rattle.std.proofs.Common.{◌≡◌, refl, ℕ, List, [], ◌∷◌, ◌++◌, true, false, Bool, Option, None, Some, codes}
use Rattle.std.specs.Prelude.{replicate, is_some}
use Rattle.pp_world.specs.Log.{Log}
use Rattle.pp_world.specs.declared.happening.Happening.{Happening}
use Rattle.pp_world.specs.declared.happening.Happening.TheVariants.{Woke, Waits, Clock, Opened, CanRead, CanWrite, Heard, HungUp, Said, Shut, Dialled, Undialled, Reached, Ended, Broke, Asked, Got, Dropped, NoneYet, Began, Did, Unread, Noted, Rooted, Listed, Listens, Configured, Printed, Stopped}
use Rattle.pp_world.specs.declared.note.Decision.TheVariants.{Refuse, Hit, Part, Head, NotModified, Unsatisfiable, Relay, Validate, Fetch, Pass}
use Rattle.pp_world.specs.declared.note.Cause.TheVariants.{Superseded, Origin, Short, Idle, Memory, Stop}
use Rattle.pp_world.specs.declared.note.Remark.TheVariants.{Taken, Cut, Kept, Gone, Forgotten, Evicted, Loaded}
use Rattle.pp_world.specs.declared.op.DiskOp.TheVariants.{Draft, SyncDraft, Publish, Write, Sync, Remove}
use Rattle.pp_law.specs.Lists.{Bytes}
use Rattle.pp_law.specs.State.{State, start}
use Rattle.pp_law.specs.Lawful.{fault_from, Fault, ImageNotLeft, OpeningOutOfOrder, EventOutOfTurn, ReadNotAskedFor, FailureMadeUp, WrongReply, WrongAsk, WrongDecision, WrongCut, NotToBeClosed, NotToBeDialled, NotToBeEvicted, NotToBeForgotten, NotToBeLoaded, NotSealed, NotGone, WrongDiskOperation, StepUnfinished, AcceptsWrongly, ClientForgotten, ConnectionForgotten, ExchangeForgotten, WantsTooMuch}
use Rattle.pp_pieces.proofs.Forced.{judge, arrived, judging, told, tell}

abbrev wait : Bool → List ℕ → List ℕ → Happening
wait accept read write = Waits (record { accept = accept; read = record { items = read }; write = record { items = write } })

abbrev text0 : Bytes
text0 = (codes "polipo-cache")

abbrev front0 : Log
front0 = Woke [] ∷ Rooted text0 ∷ Listed true ∷ Listens 8123 true ∷ wait true [] [] ∷ Clock 784111777 ∷ wait true [] [] ∷ Opened 1 ∷ wait true (1 ∷ []) [] ∷ CanRead 1 ∷ []

abbrev text1 : Bytes
text1 = (codes "GET http://h/a HTTP/1.1\r\n\r\n")

abbrev text2 : Bytes
text2 = (codes "GET /a HTTP/1.1\r\nhost: h\r\nvia: 1.1 polipo\r\n\r\n")

abbrev text3 : Bytes
text3 = (codes "HTTP/1.1 200 OK\r\nETag: \"x\"\r\nCache-Control: max-age=1\r\nContent-Length: 5\r\n\r\nhello")

abbrev text4 : Bytes
text4 = (codes "HTTP/1.1 200 OK\r\netag: \"x\"\r\ndate: Sun, 06 Nov 1994 08:49:37 GMT\r\ncache-control: max-age=1\r\nvia: 1.1 polipo\r\ncontent-length: 5\r\nconnection: keep-alive\r\n\r\n")

abbrev text5 : Bytes
text5 = (codes "GET /a HTTP/1.1\r\nhost: h\r\nif-none-match: \"x\"\r\nvia: 1.1 polipo\r\n\r\n")

abbrev text6 : Bytes
text6 = (codes "HTTP/1.1 304 Not Modified\r\nCache-Control: private, max-age=1000\r\n\r\n")

abbrev text7 : Bytes
text7 = (codes "HTTP/1.1 304 Not Modified\r\nETag: \"w\"\r\nCache-Control: max-age=1000\r\n\r\n")

abbrev text8 : Bytes
text8 = (codes "HTTP/1.1 304 Not Modified\r\nETag: W/\"x\"\r\nCache-Control: max-age=1000\r\n\r\n")

abbrev text9 : Bytes
text9 = (codes "HTTP/1.1 200 OK\r\nETag: \"x\"\r\nCache-Control: max-age=1\r\nContent-Length: 5\r\n\r\nworld")

abbrev text10 : Bytes
text10 = (codes "HTTP/1.1 200 OK\r\netag: \"x\"\r\ndate: Sun, 06 Nov 1994 08:49:39 GMT\r\ncache-control: max-age=1\r\nvia: 1.1 polipo\r\ncontent-length: 5\r\nconnection: keep-alive\r\n\r\n")

abbrev text11 : Bytes
text11 = (codes "HEAD http://h/a HTTP/1.1\r\nCache-Control: no-cache\r\n\r\n")

abbrev text12 : Bytes
text12 = (codes "HEAD /a HTTP/1.1\r\nhost: h\r\ncache-control: no-cache\r\nvia: 1.1 polipo\r\n\r\n")

abbrev text13 : Bytes
text13 = (codes "HTTP/1.1 200 OK\r\nETag: \"w\"\r\nContent-Length: 5\r\n\r\n")

abbrev text14 : Bytes
text14 = (codes "HTTP/1.1 200 OK\r\nETag: \"x\"\r\nContent-Length: 5\r\n\r\n")

abbrev text15 : Bytes
text15 = (codes "POST http://h/post HTTP/1.1\r\n\r\n")

abbrev text16 : Bytes
text16 = (codes "POST /post HTTP/1.1\r\nhost: h\r\nvia: 1.1 polipo\r\n\r\n")

abbrev text17 : Bytes
text17 = (codes "HTTP/1.1 201 Created\r\nLocation: /a\r\nContent-Length: 0\r\n\r\n")

abbrev text18 : Bytes
text18 = (codes "HTTP/1.1 201 Created\r\nLocation: http://i/a\r\nContent-Length: 0\r\n\r\n")

abbrev text19 : Bytes
text19 = (codes "GET http://h/radio HTTP/1.1\r\nCache-Control: no-store\r\n\r\n")

abbrev text20 : Bytes
text20 = (codes "GET /radio HTTP/1.1\r\nhost: h\r\ncache-control: no-store\r\nvia: 1.1 polipo\r\n\r\n")

abbrev text21 : Bytes
text21 = (codes "HTTP/1.1 200 OK\r\n\r\nla la la")

abbrev text22 : Bytes
text22 = (codes "GET http://h/d HTTP/1.1\r\nRange: bytes=5000-5004\r\n\r\n")

abbrev text23 : Bytes
text23 = (codes "GET /d HTTP/1.1\r\nhost: h\r\nrange: bytes=4096-5004\r\nvia: 1.1 polipo\r\n\r\n")

abbrev text24 : Bytes
text24 = (codes "HTTP/1.1 206 Partial Content\r\nContent-Range: bytes 4096-104095/200000\r\nContent-Length: 100000\r\n\r\n")

abbrev text25 : Bytes
text25 = (replicate 32768 100)

abbrev text26 : Bytes
text26 = (codes "GET http://h/d HTTP/1.1\r\n\r\n")

abbrev text27 : Bytes
text27 = (codes "GET /d HTTP/1.1\r\nhost: h\r\nvia: 1.1 polipo\r\n\r\n")

abbrev text28 : Bytes
text28 = (codes "HTTP/1.1 200 OK\r\nETag: \"x\"\r\nContent-Length: 100000\r\n\r\n")

abbrev text29 : Bytes
text29 = (codes "GET http://h/slow HTTP/1.1\r\n\r\n")

abbrev text30 : Bytes
text30 = (codes "GET /slow HTTP/1.1\r\nhost: h\r\nvia: 1.1 polipo\r\n\r\n")

abbrev text31 : Bytes
text31 = (codes "HTTP/1.1 200 OK\r\nETag: \"x\"\r\nCache-Control: max-age=60\r\nContent-Length: 5\r\n\r\nhello")

abbrev text32 : Bytes
text32 = (codes "GET http://h/b HTTP/1.1\r\nRange: bytes=4096-4099\r\n\r\n")

abbrev text33 : Bytes
text33 = (codes "GET /b HTTP/1.1\r\nhost: h\r\nrange: bytes=4096-4099\r\nvia: 1.1 polipo\r\n\r\n")

abbrev text34 : Bytes
text34 = (codes "HTTP/1.1 206 Partial Content\r\nETag: \"x\"\r\nCache-Control: max-age=60\r\nContent-Range: bytes 4096-4099/4100\r\nContent-Length: 4\r\n\r\nlast")

abbrev text35 : Bytes
text35 = (codes "HTTP/1.1 206 Partial Content\r\netag: \"x\"\r\ndate: Sun, 06 Nov 1994 08:49:37 GMT\r\ncache-control: max-age=60\r\nvia: 1.1 polipo\r\ncontent-range: bytes 4096-4099/4100\r\ncontent-length: 4\r\nconnection: keep-alive\r\n\r\n")

abbrev text36 : Bytes
text36 = (codes "GET http://h/b HTTP/1.1\r\n\r\n")

abbrev text37 : Bytes
text37 = (codes "GET /b HTTP/1.1\r\nhost: h\r\nrange: bytes=0-4095\r\nif-range: \"x\"\r\nvia: 1.1 polipo\r\n\r\n")

abbrev text38 : Bytes
text38 = (codes "HTTP/1.1 503 Service Unavailable\r\nContent-Length: 0\r\n\r\n")

abbrev front1 : Log
front1 = Woke [] ∷ Rooted text0 ∷ Listed true ∷ Listens 8123 true ∷ wait true [] [] ∷ Clock 784111777 ∷ wait true [] [] ∷ Opened 1 ∷ wait true (1 ∷ []) [] ∷ CanRead 1 ∷ Heard 1 text32 ∷ Noted (Taken 1 0 Fetch) ∷ Dialled 2 (codes "h") 80 ∷ wait true (1 ∷ []) [] ∷ Reached 2 ∷ wait true (1 ∷ 2 ∷ []) (2 ∷ []) ∷ CanWrite 2 ∷ Asked 2 text33 ∷ wait true (1 ∷ 2 ∷ []) [] ∷ CanRead 2 ∷ Got 2 text34 ∷ Noted (Taken 1 0 (Hit 4096 4100)) ∷ wait true (1 ∷ 2 ∷ []) (1 ∷ []) ∷ CanWrite 1 ∷ Said 1 204 text35 ∷ wait true (1 ∷ 2 ∷ []) (1 ∷ []) ∷ CanWrite 1 ∷ Said 1 4 (codes "last") ∷ wait true (1 ∷ 2 ∷ []) [] ∷ Opened 3 ∷ wait true (1 ∷ 2 ∷ 3 ∷ []) [] ∷ CanRead 3 ∷ Heard 3 text36 ∷ Noted (Taken 3 0 (Part 0 4100)) ∷ wait true (1 ∷ []) (2 ∷ []) ∷ CanWrite 2 ∷ Asked 2 text37 ∷ wait true (1 ∷ 2 ∷ []) [] ∷ CanRead 2 ∷ Got 2 text38 ∷ wait true (1 ∷ []) (2 ∷ []) ∷ CanWrite 2 ∷ Asked 2 text37 ∷ wait true (1 ∷ 2 ∷ []) [] ∷ CanRead 2 ∷ Got 2 text38 ∷ wait true (1 ∷ []) (2 ∷ []) ∷ CanWrite 2 ∷ Asked 2 text37 ∷ wait true (1 ∷ 2 ∷ []) [] ∷ CanRead 2 ∷ Got 2 text38 ∷ []

abbrev text39 : Bytes
text39 = (codes "GET /b HTTP/1.1\r\nhost: h\r\nvia: 1.1 polipo\r\n\r\n")

abbrev front2 : Log
front2 = Woke [] ∷ Rooted text0 ∷ Listed true ∷ Listens 8123 true ∷ wait true [] [] ∷ Clock 784111777 ∷ wait true [] [] ∷ Opened 1 ∷ wait true (1 ∷ []) [] ∷ CanRead 1 ∷ Heard 1 text32 ∷ Noted (Taken 1 0 Fetch) ∷ Dialled 2 (codes "h") 80 ∷ wait true (1 ∷ []) [] ∷ Reached 2 ∷ wait true (1 ∷ 2 ∷ []) (2 ∷ []) ∷ CanWrite 2 ∷ Asked 2 text33 ∷ wait true (1 ∷ 2 ∷ []) [] ∷ CanRead 2 ∷ Got 2 text34 ∷ Noted (Taken 1 0 (Hit 4096 4100)) ∷ wait true (1 ∷ 2 ∷ []) (1 ∷ []) ∷ CanWrite 1 ∷ Said 1 204 text35 ∷ wait true (1 ∷ 2 ∷ []) (1 ∷ []) ∷ CanWrite 1 ∷ Said 1 4 (codes "last") ∷ wait true (1 ∷ 2 ∷ []) [] ∷ Opened 3 ∷ wait true (1 ∷ 2 ∷ 3 ∷ []) [] ∷ CanRead 3 ∷ Heard 3 text36 ∷ Noted (Taken 3 0 (Part 0 4100)) ∷ wait true (1 ∷ []) (2 ∷ []) ∷ CanWrite 2 ∷ Asked 2 text37 ∷ wait true (1 ∷ 2 ∷ []) [] ∷ []

abbrev text40 : Bytes
text40 = (codes "HTTP/1.1 206 Partial Content\r\nETag: \"x\"\r\nCache-Control: private\r\nContent-Range: bytes 0-4095/4100\r\nContent-Length: 4096\r\n\r\n" ++ replicate 4096 112)

abbrev text41 : Bytes
text41 = (codes "GET http://h/c HTTP/1.1\r\nRange: bytes=8-9\r\n\r\n")

abbrev front3 : Log
front3 = Woke [] ∷ Rooted text0 ∷ Listed true ∷ Listens 8123 true ∷ wait true [] [] ∷ Clock 784111777 ∷ wait true [] [] ∷ Opened 1 ∷ wait true (1 ∷ []) [] ∷ CanRead 1 ∷ Heard 1 text41 ∷ Noted (Taken 1 0 Fetch) ∷ Dialled 2 (codes "h") 80 ∷ wait true [] [] ∷ Reached 2 ∷ []

abbrev text42 : Bytes
text42 = (codes "GET /c HTTP/1.1\r\nhost: h\r\nrange: bytes=0-9\r\nvia: 1.1 polipo\r\n\r\n")

abbrev text43 : Bytes
text43 = (codes "HTTP/1.1 206 Partial Content\r\nETag: \"x\"\r\nCache-Control: max-age=60\r\nContent-Range: bytes 0-3/10\r\nContent-Length: 4\r\n\r\nhell")

abbrev text44 : Bytes
text44 = (codes "GET /c HTTP/1.1\r\nhost: h\r\nrange: bytes=4-9\r\nif-range: \"x\"\r\nvia: 1.1 polipo\r\n\r\n")

abbrev text45 : Bytes
text45 = (codes "HTTP/1.1 206 Partial Content\r\nETag: \"x\"\r\nCache-Control: private\r\nContent-Range: bytes 4-9/10\r\nContent-Length: 6\r\n\r\nsecret")

abbrev text46 : Bytes
text46 = (codes "HTTP/1.1 304 Not Modified\r\nCache-Control: private\r\n\r\n")

abbrev text47 : Bytes
text47 = (codes "HTTP/1.1 206 Partial Content\r\nETag: \"y\"\r\nCache-Control: max-age=60\r\nContent-Range: bytes 0-3/10\r\nContent-Length: 4\r\n\r\nhell")

abbrev text48 : Bytes
text48 = (codes "GET /c HTTP/1.1\r\nhost: h\r\nrange: bytes=4-9\r\nif-range: \"y\"\r\nvia: 1.1 polipo\r\n\r\n")

abbrev text49 : Bytes
text49 = (codes "HTTP/1.1 206 Partial Content\r\nETag: \"z\"\r\nCache-Control: max-age=60\r\nContent-Range: bytes 0-3/10\r\nContent-Length: 4\r\n\r\nhell")

abbrev front4 : Log
front4 = Woke [] ∷ Rooted text0 ∷ Listed true ∷ Listens 8123 true ∷ wait true [] [] ∷ Clock 784111777 ∷ wait true [] [] ∷ Opened 1 ∷ wait true (1 ∷ []) [] ∷ CanRead 1 ∷ Heard 1 text41 ∷ Noted (Taken 1 0 Fetch) ∷ Dialled 2 (codes "h") 80 ∷ wait true [] [] ∷ Reached 2 ∷ wait true [] (2 ∷ []) ∷ CanWrite 2 ∷ Asked 2 text42 ∷ wait true (2 ∷ []) [] ∷ CanRead 2 ∷ Got 2 text43 ∷ Noted (Taken 1 0 (Part 8 10)) ∷ wait true [] (2 ∷ []) ∷ CanWrite 2 ∷ Asked 2 text44 ∷ wait true (2 ∷ []) [] ∷ CanRead 2 ∷ Got 2 text47 ∷ Noted (Taken 1 0 (Part 8 10)) ∷ wait true [] (2 ∷ []) ∷ CanWrite 2 ∷ Asked 2 text48 ∷ wait true (2 ∷ []) [] ∷ CanRead 2 ∷ Got 2 text49 ∷ []

abbrev text50 : Bytes
text50 = (codes "GET /c HTTP/1.1\r\nhost: h\r\nrange: bytes=4-9\r\nif-range: \"z\"\r\nvia: 1.1 polipo\r\n\r\n")

abbrev text51 : Bytes
text51 = (codes "HTTP/1.1 206 Partial Content\r\nETag: \"w\"\r\nCache-Control: max-age=60\r\nContent-Range: bytes 0-3/10\r\nContent-Length: 4\r\n\r\nhell")

abbrev text52 : Bytes
text52 = (codes "HTTP/1.1 206 Partial Content\r\nETag: \"w\"\r\nCache-Control: max-age=60\r\nContent-Range: bytes 0-9/10\r\nContent-Length: 10\r\n\r\nhello worl")

abbrev text53 : Bytes
text53 = (codes "HTTP/1.1 200 OK\r\nETag: \"w\"\r\nCache-Control: max-age=60\r\nContent-Length: 5\r\n\r\nhello")

abbrev text54 : Bytes
text54 = (codes "GET http://h/p HTTP/1.1\r\nCache-Control: no-store\r\n\r\n")

abbrev text55 : Bytes
text55 = (codes "GET /p HTTP/1.1\r\nhost: h\r\ncache-control: no-store\r\nvia: 1.1 polipo\r\n\r\n")

abbrev text56 : Bytes
text56 = (codes "GET http://h/q HTTP/1.1\r\nCache-Control: no-store\r\n\r\n")

abbrev text57 : Bytes
text57 = (codes "HTTP/1.1 204 No Content\r\nContent-Length: 5\r\n\r\n")

abbrev text58 : Bytes
text58 = (codes "GET http://h/s HTTP/1.1\r\nAuthorization: NTLM abc\r\n\r\n")

abbrev text59 : Bytes
text59 = (codes "GET /s HTTP/1.1\r\nhost: h\r\nauthorization: NTLM abc\r\nvia: 1.1 polipo\r\n\r\n")

abbrev text60 : Bytes
text60 = (codes "HTTP/1.1 200 OK\r\nContent-Length: 2\r\n\r\nok")

abbrev text61 : Bytes
text61 = (codes "GET http://h/l HTTP/1.1\r\n\r\n")

abbrev text62 : Bytes
text62 = (codes "GET /l HTTP/1.1\r\nhost: h\r\nvia: 1.1 polipo\r\n\r\n")

abbrev text63 : Bytes
text63 = (codes "HTTP/1.1 200 OK\r\nETag: \"x\"\r\nCache-Control: max-age=60\r\nContent-Length: 4000000\r\n\r\nab")

abbrev text64 : Bytes
text64 = (codes "GET http://h/l HTTP/1.1\r\nRange: bytes=3000000-3000003\r\n\r\n")

abbrev text65 : Bytes
text65 = (codes "GET http://h/l HTTP/1.1\r\nRange: bytes=1000000-1000003\r\n\r\n")

abbrev text66 : Bytes
text66 = (codes "GET http://h/l HTTP/1.1\r\nRange: bytes=1499136-1999999\r\n\r\n")

abbrev text67 : Bytes
text67 = (codes "GET /l HTTP/1.1\r\nhost: h\r\nrange: bytes=1499136-1999999\r\nif-range: \"x\"\r\nvia: 1.1 polipo\r\n\r\n")

abbrev text68 : Bytes
text68 = (codes "HTTP/1.1 206 Partial Content\r\nETag: \"x\"\r\nContent-Range: bytes 1499136-1999999/4000000\r\nContent-Length: 500864\r\n\r\nmm")

abbrev text69 : Bytes
text69 = (codes "GET http://h/l HTTP/1.1\r\nRange: bytes=2998272-\r\n\r\n")

abbrev text70 : Bytes
text70 = (codes "GET /l HTTP/1.1\r\nhost: h\r\nrange: bytes=2998272-3000003\r\nvia: 1.1 polipo\r\n\r\n")

abbrev text71 : Bytes
text71 = (replicate 4094 97)

abbrev text72 : Bytes
text72 = (codes "GET /l HTTP/1.1\r\nhost: h\r\nrange: bytes=2998272-3000003\r\nif-range: \"x\"\r\nvia: 1.1 polipo\r\n\r\n")

abbrev text73 : Bytes
text73 = (codes "HTTP/1.1 200 OK\r\nETag: \"y\"\r\nCache-Control: max-age=60\r\nContent-Length: 4000000\r\n\r\nab")

abbrev text74 : Bytes
text74 = (codes "HTTP/1.1 200 OK\r\nDate: Sun, 06 Nov 1994 08:49:37 GMT\r\nETag: \"x\"\r\nLast-Modified: Thu, 27 Oct 1994 08:49:37 GMT\r\nContent-Length: 5\r\n\r\nhello")

abbrev text75 : Bytes
text75 = (codes "GET http://h/a?b HTTP/1.1\r\n\r\n")

abbrev text76 : Bytes
text76 = (codes "GET /a?b HTTP/1.1\r\nhost: h\r\nvia: 1.1 polipo\r\n\r\n")

row42 : fault_from 0 (start (record { words = []; faults = 0 } ∷ [])) (front0 ++ Heard 1 text1 ∷ Noted (Taken 1 0 Fetch) ∷ Dialled 2 (codes "h") 80 ∷ wait true (1 ∷ []) [] ∷ Reached 2 ∷ wait true (1 ∷ 2 ∷ []) (2 ∷ []) ∷ CanWrite 2 ∷ Asked 2 text2 ∷ wait true (1 ∷ 2 ∷ []) [] ∷ CanRead 2 ∷ Got 2 text3 ∷ Noted (Taken 1 0 (Hit 0 5)) ∷ wait true (1 ∷ 2 ∷ []) (1 ∷ []) ∷ CanWrite 1 ∷ Said 1 153 text4 ∷ wait true (1 ∷ 2 ∷ []) (1 ∷ []) ∷ CanWrite 1 ∷ Said 1 5 (codes "hello") ∷ wait true (1 ∷ 2 ∷ []) [] ∷ Clock 784111779 ∷ wait true (1 ∷ 2 ∷ []) [] ∷ Opened 3 ∷ wait true (1 ∷ 2 ∷ 3 ∷ []) [] ∷ CanRead 3 ∷ Heard 3 text1 ∷ Noted (Taken 3 0 Validate) ∷ wait true (1 ∷ 2 ∷ []) (2 ∷ []) ∷ CanWrite 2 ∷ Asked 2 text5 ∷ wait true (1 ∷ 2 ∷ []) [] ∷ CanRead 2 ∷ Got 2 text6 ∷ Noted (Taken 3 0 Fetch) ∷ wait true (1 ∷ []) (2 ∷ []) ∷ []) ≡ None
unfolding judging
row42 = refl

row48 : fault_from 0 (start (record { words = []; faults = 0 } ∷ [])) (front0 ++ Heard 1 text1 ∷ Noted (Taken 1 0 Fetch) ∷ Dialled 2 (codes "h") 80 ∷ wait true (1 ∷ []) [] ∷ Reached 2 ∷ wait true (1 ∷ 2 ∷ []) (2 ∷ []) ∷ CanWrite 2 ∷ Asked 2 text2 ∷ wait true (1 ∷ 2 ∷ []) [] ∷ CanRead 2 ∷ Got 2 text3 ∷ Noted (Taken 1 0 (Hit 0 5)) ∷ wait true (1 ∷ 2 ∷ []) (1 ∷ []) ∷ CanWrite 1 ∷ Said 1 153 text4 ∷ wait true (1 ∷ 2 ∷ []) (1 ∷ []) ∷ CanWrite 1 ∷ Said 1 5 (codes "hello") ∷ wait true (1 ∷ 2 ∷ []) [] ∷ Clock 784111779 ∷ wait true (1 ∷ 2 ∷ []) [] ∷ Opened 3 ∷ wait true (1 ∷ 2 ∷ 3 ∷ []) [] ∷ CanRead 3 ∷ Heard 3 text1 ∷ Noted (Taken 3 0 Validate) ∷ wait true (1 ∷ 2 ∷ []) (2 ∷ []) ∷ CanWrite 2 ∷ Asked 2 text5 ∷ wait true (1 ∷ 2 ∷ []) [] ∷ CanRead 2 ∷ Got 2 text6 ∷ Noted (Taken 3 0 (Hit 0 5)) ∷ []) ≡ Some (record { at = 42; rule = WrongDecision })
unfolding judging
row48 = refl

row54 : fault_from 0 (start (record { words = []; faults = 0 } ∷ [])) (front0 ++ Heard 1 text1 ∷ Noted (Taken 1 0 Fetch) ∷ Dialled 2 (codes "h") 80 ∷ wait true (1 ∷ []) [] ∷ Reached 2 ∷ wait true (1 ∷ 2 ∷ []) (2 ∷ []) ∷ CanWrite 2 ∷ Asked 2 text2 ∷ wait true (1 ∷ 2 ∷ []) [] ∷ CanRead 2 ∷ Got 2 text3 ∷ Noted (Taken 1 0 (Hit 0 5)) ∷ wait true (1 ∷ 2 ∷ []) (1 ∷ []) ∷ CanWrite 1 ∷ Said 1 153 text4 ∷ wait true (1 ∷ 2 ∷ []) (1 ∷ []) ∷ CanWrite 1 ∷ Said 1 5 (codes "hello") ∷ wait true (1 ∷ 2 ∷ []) [] ∷ Clock 784111779 ∷ wait true (1 ∷ 2 ∷ []) [] ∷ Opened 3 ∷ wait true (1 ∷ 2 ∷ 3 ∷ []) [] ∷ CanRead 3 ∷ Heard 3 text1 ∷ Noted (Taken 3 0 Validate) ∷ wait true (1 ∷ 2 ∷ []) (2 ∷ []) ∷ CanWrite 2 ∷ Asked 2 text5 ∷ wait true (1 ∷ 2 ∷ []) [] ∷ CanRead 2 ∷ Got 2 text7 ∷ Noted (Taken 3 0 Fetch) ∷ []) ≡ None
unfolding judging
row54 = refl

row59 : fault_from 0 (start (record { words = []; faults = 0 } ∷ [])) (front0 ++ Heard 1 text1 ∷ Noted (Taken 1 0 Fetch) ∷ Dialled 2 (codes "h") 80 ∷ wait true (1 ∷ []) [] ∷ Reached 2 ∷ wait true (1 ∷ 2 ∷ []) (2 ∷ []) ∷ CanWrite 2 ∷ Asked 2 text2 ∷ wait true (1 ∷ 2 ∷ []) [] ∷ CanRead 2 ∷ Got 2 text3 ∷ Noted (Taken 1 0 (Hit 0 5)) ∷ wait true (1 ∷ 2 ∷ []) (1 ∷ []) ∷ CanWrite 1 ∷ Said 1 153 text4 ∷ wait true (1 ∷ 2 ∷ []) (1 ∷ []) ∷ CanWrite 1 ∷ Said 1 5 (codes "hello") ∷ wait true (1 ∷ 2 ∷ []) [] ∷ Clock 784111779 ∷ wait true (1 ∷ 2 ∷ []) [] ∷ Opened 3 ∷ wait true (1 ∷ 2 ∷ 3 ∷ []) [] ∷ CanRead 3 ∷ Heard 3 text1 ∷ Noted (Taken 3 0 Validate) ∷ wait true (1 ∷ 2 ∷ []) (2 ∷ []) ∷ CanWrite 2 ∷ Asked 2 text5 ∷ wait true (1 ∷ 2 ∷ []) [] ∷ CanRead 2 ∷ Got 2 text8 ∷ Noted (Taken 3 0 (Hit 0 5)) ∷ []) ≡ None
unfolding judging
row59 = refl

row74 : fault_from 0 (start (record { words = []; faults = 0 } ∷ [])) (front0 ++ Heard 1 text1 ∷ Noted (Taken 1 0 Fetch) ∷ Dialled 2 (codes "h") 80 ∷ wait true (1 ∷ []) [] ∷ Reached 2 ∷ wait true (1 ∷ 2 ∷ []) (2 ∷ []) ∷ CanWrite 2 ∷ Asked 2 text2 ∷ wait true (1 ∷ 2 ∷ []) [] ∷ CanRead 2 ∷ Got 2 text3 ∷ Noted (Taken 1 0 (Hit 0 5)) ∷ wait true (1 ∷ 2 ∷ []) (1 ∷ []) ∷ CanWrite 1 ∷ Said 1 153 text4 ∷ wait true (1 ∷ 2 ∷ []) (1 ∷ []) ∷ CanWrite 1 ∷ Said 1 5 (codes "hello") ∷ wait true (1 ∷ 2 ∷ []) [] ∷ Clock 784111779 ∷ wait true (1 ∷ 2 ∷ []) [] ∷ Opened 3 ∷ wait true (1 ∷ 2 ∷ 3 ∷ []) [] ∷ CanRead 3 ∷ Heard 3 text1 ∷ Noted (Taken 3 0 Validate) ∷ wait true (1 ∷ 2 ∷ []) (2 ∷ []) ∷ CanWrite 2 ∷ Asked 2 text5 ∷ wait true (1 ∷ 2 ∷ []) [] ∷ CanRead 2 ∷ Got 2 text9 ∷ Noted (Taken 3 0 (Hit 0 5)) ∷ wait true (1 ∷ 2 ∷ []) (3 ∷ []) ∷ CanWrite 3 ∷ Said 3 153 text10 ∷ wait true (1 ∷ 2 ∷ []) (3 ∷ []) ∷ CanWrite 3 ∷ Said 3 5 (codes "world") ∷ []) ≡ None
unfolding judging
row74 = refl

row78 : fault_from 0 (start (record { words = []; faults = 0 } ∷ [])) (front0 ++ Heard 1 text1 ∷ Noted (Taken 1 0 Fetch) ∷ Dialled 2 (codes "h") 80 ∷ wait true (1 ∷ []) [] ∷ Reached 2 ∷ wait true (1 ∷ 2 ∷ []) (2 ∷ []) ∷ CanWrite 2 ∷ Asked 2 text2 ∷ wait true (1 ∷ 2 ∷ []) [] ∷ CanRead 2 ∷ Got 2 text3 ∷ Noted (Taken 1 0 (Hit 0 5)) ∷ wait true (1 ∷ 2 ∷ []) (1 ∷ []) ∷ CanWrite 1 ∷ Said 1 153 text4 ∷ wait true (1 ∷ 2 ∷ []) (1 ∷ []) ∷ CanWrite 1 ∷ Said 1 5 (codes "hello") ∷ wait true (1 ∷ 2 ∷ []) [] ∷ Clock 784111779 ∷ wait true (1 ∷ 2 ∷ []) [] ∷ Opened 3 ∷ wait true (1 ∷ 2 ∷ 3 ∷ []) [] ∷ CanRead 3 ∷ Heard 3 text1 ∷ Noted (Taken 3 0 Validate) ∷ wait true (1 ∷ 2 ∷ []) (2 ∷ []) ∷ CanWrite 2 ∷ Asked 2 text5 ∷ wait true (1 ∷ 2 ∷ []) [] ∷ CanRead 2 ∷ Got 2 text9 ∷ Noted (Taken 3 0 (Hit 0 5)) ∷ wait true (1 ∷ 2 ∷ []) (3 ∷ []) ∷ CanWrite 3 ∷ Said 3 153 text10 ∷ wait true (1 ∷ 2 ∷ []) (3 ∷ []) ∷ CanWrite 3 ∷ Said 3 5 (codes "hello") ∷ []) ≡ Some (record { at = 48; rule = WrongReply })
unfolding judging
row78 = refl

row100 : fault_from 0 (start (record { words = []; faults = 0 } ∷ [])) (front0 ++ Heard 1 text1 ∷ Noted (Taken 1 0 Fetch) ∷ Dialled 2 (codes "h") 80 ∷ wait true (1 ∷ []) [] ∷ Reached 2 ∷ wait true (1 ∷ 2 ∷ []) (2 ∷ []) ∷ CanWrite 2 ∷ Asked 2 text2 ∷ wait true (1 ∷ 2 ∷ []) [] ∷ CanRead 2 ∷ Got 2 text3 ∷ Noted (Taken 1 0 (Hit 0 5)) ∷ wait true (1 ∷ 2 ∷ []) (1 ∷ []) ∷ CanWrite 1 ∷ Said 1 153 text4 ∷ wait true (1 ∷ 2 ∷ []) (1 ∷ []) ∷ CanWrite 1 ∷ Said 1 5 (codes "hello") ∷ wait true (1 ∷ 2 ∷ []) [] ∷ CanRead 1 ∷ Heard 1 text11 ∷ Noted (Taken 1 1 Pass) ∷ wait true (1 ∷ []) (2 ∷ []) ∷ CanWrite 2 ∷ Asked 2 text12 ∷ wait true (1 ∷ 2 ∷ []) [] ∷ CanRead 2 ∷ Got 2 text13 ∷ wait true (1 ∷ 2 ∷ []) (1 ∷ []) ∷ Opened 3 ∷ wait true (1 ∷ 2 ∷ 3 ∷ []) (1 ∷ []) ∷ CanRead 3 ∷ Heard 3 text1 ∷ Noted (Taken 3 0 Fetch) ∷ []) ≡ None
unfolding judging
row100 = refl

row107 : fault_from 0 (start (record { words = []; faults = 0 } ∷ [])) (front0 ++ Heard 1 text1 ∷ Noted (Taken 1 0 Fetch) ∷ Dialled 2 (codes "h") 80 ∷ wait true (1 ∷ []) [] ∷ Reached 2 ∷ wait true (1 ∷ 2 ∷ []) (2 ∷ []) ∷ CanWrite 2 ∷ Asked 2 text2 ∷ wait true (1 ∷ 2 ∷ []) [] ∷ CanRead 2 ∷ Got 2 text3 ∷ Noted (Taken 1 0 (Hit 0 5)) ∷ wait true (1 ∷ 2 ∷ []) (1 ∷ []) ∷ CanWrite 1 ∷ Said 1 153 text4 ∷ wait true (1 ∷ 2 ∷ []) (1 ∷ []) ∷ CanWrite 1 ∷ Said 1 5 (codes "hello") ∷ wait true (1 ∷ 2 ∷ []) [] ∷ CanRead 1 ∷ Heard 1 text11 ∷ Noted (Taken 1 1 Pass) ∷ wait true (1 ∷ []) (2 ∷ []) ∷ CanWrite 2 ∷ Asked 2 text12 ∷ wait true (1 ∷ 2 ∷ []) [] ∷ CanRead 2 ∷ Got 2 text14 ∷ wait true (1 ∷ 2 ∷ []) (1 ∷ []) ∷ Opened 3 ∷ wait true (1 ∷ 2 ∷ 3 ∷ []) (1 ∷ []) ∷ CanRead 3 ∷ Heard 3 text1 ∷ Noted (Taken 3 0 (Hit 0 5)) ∷ []) ≡ None
unfolding judging
row107 = refl

row134 : fault_from 0 (start (record { words = []; faults = 0 } ∷ [])) (front0 ++ Heard 1 text1 ∷ Noted (Taken 1 0 Fetch) ∷ Dialled 2 (codes "h") 80 ∷ wait true (1 ∷ []) [] ∷ Reached 2 ∷ wait true (1 ∷ 2 ∷ []) (2 ∷ []) ∷ CanWrite 2 ∷ Asked 2 text2 ∷ wait true (1 ∷ 2 ∷ []) [] ∷ CanRead 2 ∷ Got 2 text3 ∷ Noted (Taken 1 0 (Hit 0 5)) ∷ wait true (1 ∷ 2 ∷ []) (1 ∷ []) ∷ CanWrite 1 ∷ Said 1 153 text4 ∷ wait true (1 ∷ 2 ∷ []) (1 ∷ []) ∷ CanWrite 1 ∷ Said 1 5 (codes "hello") ∷ wait true (1 ∷ 2 ∷ []) [] ∷ CanRead 1 ∷ Heard 1 text15 ∷ Noted (Taken 1 1 Pass) ∷ Dialled 4 (codes "h") 80 ∷ wait true (1 ∷ 2 ∷ []) [] ∷ Reached 4 ∷ wait true (1 ∷ 2 ∷ []) (4 ∷ []) ∷ CanWrite 4 ∷ Asked 4 text16 ∷ wait true (1 ∷ 2 ∷ 4 ∷ []) [] ∷ CanRead 4 ∷ Got 4 text17 ∷ wait true (1 ∷ 2 ∷ 4 ∷ []) (1 ∷ []) ∷ Opened 5 ∷ wait true (1 ∷ 2 ∷ 4 ∷ 5 ∷ []) (1 ∷ []) ∷ CanRead 5 ∷ Heard 5 text1 ∷ Noted (Taken 5 0 Fetch) ∷ []) ≡ None
unfolding judging
row134 = refl

row141 : fault_from 0 (start (record { words = []; faults = 0 } ∷ [])) (front0 ++ Heard 1 text1 ∷ Noted (Taken 1 0 Fetch) ∷ Dialled 2 (codes "h") 80 ∷ wait true (1 ∷ []) [] ∷ Reached 2 ∷ wait true (1 ∷ 2 ∷ []) (2 ∷ []) ∷ CanWrite 2 ∷ Asked 2 text2 ∷ wait true (1 ∷ 2 ∷ []) [] ∷ CanRead 2 ∷ Got 2 text3 ∷ Noted (Taken 1 0 (Hit 0 5)) ∷ wait true (1 ∷ 2 ∷ []) (1 ∷ []) ∷ CanWrite 1 ∷ Said 1 153 text4 ∷ wait true (1 ∷ 2 ∷ []) (1 ∷ []) ∷ CanWrite 1 ∷ Said 1 5 (codes "hello") ∷ wait true (1 ∷ 2 ∷ []) [] ∷ CanRead 1 ∷ Heard 1 text15 ∷ Noted (Taken 1 1 Pass) ∷ Dialled 4 (codes "h") 80 ∷ wait true (1 ∷ 2 ∷ []) [] ∷ Reached 4 ∷ wait true (1 ∷ 2 ∷ []) (4 ∷ []) ∷ CanWrite 4 ∷ Asked 4 text16 ∷ wait true (1 ∷ 2 ∷ 4 ∷ []) [] ∷ CanRead 4 ∷ Got 4 text18 ∷ wait true (1 ∷ 2 ∷ 4 ∷ []) (1 ∷ []) ∷ Opened 5 ∷ wait true (1 ∷ 2 ∷ 4 ∷ 5 ∷ []) (1 ∷ []) ∷ CanRead 5 ∷ Heard 5 text1 ∷ Noted (Taken 5 0 (Hit 0 5)) ∷ []) ≡ None
unfolding judging
row141 = refl

row169 : fault_from 0 (start (record { words = []; faults = 0 } ∷ [])) (front0 ++ Heard 1 text19 ∷ Noted (Taken 1 0 Pass) ∷ Dialled 2 (codes "h") 80 ∷ wait true (1 ∷ []) [] ∷ Reached 2 ∷ wait true (1 ∷ 2 ∷ []) (2 ∷ []) ∷ CanWrite 2 ∷ Asked 2 text20 ∷ wait true (1 ∷ 2 ∷ []) [] ∷ CanRead 2 ∷ Got 2 text21 ∷ wait true (1 ∷ 2 ∷ []) (1 ∷ []) ∷ CanWrite 1 ∷ HungUp 1 ∷ Shut 1 ∷ Dropped 2 ∷ wait true [] [] ∷ []) ≡ None
unfolding judging
row169 = refl

row175 : fault_from 0 (start (record { words = []; faults = 0 } ∷ [])) (front0 ++ Heard 1 text19 ∷ Noted (Taken 1 0 Pass) ∷ Dialled 2 (codes "h") 80 ∷ wait true (1 ∷ []) [] ∷ Reached 2 ∷ wait true (1 ∷ 2 ∷ []) (2 ∷ []) ∷ CanWrite 2 ∷ Asked 2 text20 ∷ wait true (1 ∷ 2 ∷ []) [] ∷ CanRead 2 ∷ Got 2 text21 ∷ wait true (1 ∷ 2 ∷ []) (1 ∷ []) ∷ CanWrite 1 ∷ HungUp 1 ∷ Shut 1 ∷ wait true (2 ∷ []) [] ∷ []) ≡ Some (record { at = 25; rule = StepUnfinished })
unfolding judging
row175 = refl

row181 : fault_from 0 (start (record { words = []; faults = 0 } ∷ [])) (front0 ++ Heard 1 text19 ∷ Noted (Taken 1 0 Pass) ∷ Dialled 2 (codes "h") 80 ∷ wait true (1 ∷ []) [] ∷ Reached 2 ∷ wait true (1 ∷ 2 ∷ []) (2 ∷ []) ∷ CanWrite 2 ∷ Asked 2 text20 ∷ wait true (1 ∷ 2 ∷ []) [] ∷ CanRead 2 ∷ Got 2 text21 ∷ wait true (1 ∷ 2 ∷ []) (1 ∷ []) ∷ Clock 784111778 ∷ Dropped 2 ∷ []) ≡ Some (record { at = 23; rule = NotToBeClosed })
unfolding judging
row181 = refl

row212 : fault_from 0 (start (record { words = []; faults = 0 } ∷ [])) (front0 ++ Heard 1 text22 ∷ Noted (Taken 1 0 Fetch) ∷ Dialled 2 (codes "h") 80 ∷ wait true [] [] ∷ Reached 2 ∷ wait true [] (2 ∷ []) ∷ CanWrite 2 ∷ Asked 2 text23 ∷ wait true (2 ∷ []) [] ∷ CanRead 2 ∷ Got 2 text24 ∷ Noted (Taken 1 0 Pass) ∷ Dialled 3 (codes "h") 80 ∷ wait true (2 ∷ []) [] ∷ CanRead 2 ∷ Got 2 text25 ∷ wait true (2 ∷ []) [] ∷ CanRead 2 ∷ Got 2 text25 ∷ wait true (2 ∷ []) [] ∷ CanRead 2 ∷ Got 2 (codes "d") ∷ Dropped 2 ∷ wait true [] [] ∷ []) ≡ None
unfolding judging
row212 = refl

row217 : fault_from 0 (start (record { words = []; faults = 0 } ∷ [])) (front0 ++ Heard 1 text22 ∷ Noted (Taken 1 0 Fetch) ∷ Dialled 2 (codes "h") 80 ∷ wait true [] [] ∷ Reached 2 ∷ wait true [] (2 ∷ []) ∷ CanWrite 2 ∷ Asked 2 text23 ∷ wait true (2 ∷ []) [] ∷ CanRead 2 ∷ Got 2 text24 ∷ Noted (Taken 1 0 Pass) ∷ Dialled 3 (codes "h") 80 ∷ wait true (2 ∷ []) [] ∷ CanRead 2 ∷ Got 2 text25 ∷ wait true (2 ∷ []) [] ∷ CanRead 2 ∷ Got 2 text25 ∷ wait true (2 ∷ []) [] ∷ CanRead 2 ∷ Got 2 (codes "d") ∷ wait true (2 ∷ []) [] ∷ []) ≡ Some (record { at = 32; rule = StepUnfinished })
unfolding judging
row217 = refl

row247 : fault_from 0 (start (record { words = []; faults = 0 } ∷ [])) (front0 ++ Heard 1 text26 ∷ Noted (Taken 1 0 Fetch) ∷ Dialled 2 (codes "h") 80 ∷ wait true [] [] ∷ Reached 2 ∷ wait true [] (2 ∷ []) ∷ CanWrite 2 ∷ Asked 2 text27 ∷ wait true (2 ∷ []) [] ∷ CanRead 2 ∷ Got 2 text28 ∷ Noted (Forgotten (codes "http://h/d")) ∷ Noted (Taken 1 0 (Refuse 500)) ∷ wait true (2 ∷ []) (1 ∷ []) ∷ CanRead 2 ∷ Got 2 text25 ∷ wait true (2 ∷ []) (1 ∷ []) ∷ CanRead 2 ∷ Got 2 text25 ∷ wait true (2 ∷ []) (1 ∷ []) ∷ CanRead 2 ∷ Got 2 (codes "d") ∷ Dropped 2 ∷ wait true [] (1 ∷ []) ∷ []) ≡ None
unfolding judging
row247 = refl

row252 : fault_from 0 (start (record { words = []; faults = 0 } ∷ [])) (front0 ++ Heard 1 text26 ∷ Noted (Taken 1 0 Fetch) ∷ Dialled 2 (codes "h") 80 ∷ wait true [] [] ∷ Reached 2 ∷ wait true [] (2 ∷ []) ∷ CanWrite 2 ∷ Asked 2 text27 ∷ wait true (2 ∷ []) [] ∷ CanRead 2 ∷ Got 2 text28 ∷ Noted (Forgotten (codes "http://h/d")) ∷ Noted (Taken 1 0 (Refuse 500)) ∷ wait true (2 ∷ []) (1 ∷ []) ∷ CanRead 2 ∷ Got 2 text25 ∷ wait true (2 ∷ []) (1 ∷ []) ∷ CanRead 2 ∷ Got 2 text25 ∷ wait true (2 ∷ []) (1 ∷ []) ∷ CanRead 2 ∷ Got 2 (codes "d") ∷ wait true (2 ∷ []) (1 ∷ []) ∷ []) ≡ Some (record { at = 32; rule = StepUnfinished })
unfolding judging
row252 = refl

row287 : fault_from 0 (start (record { words = []; faults = 0 } ∷ [])) (front0 ++ Heard 1 text29 ∷ Noted (Taken 1 0 Fetch) ∷ Dialled 2 (codes "h") 80 ∷ wait true [] [] ∷ Reached 2 ∷ wait true [] (2 ∷ []) ∷ CanWrite 2 ∷ Asked 2 text30 ∷ wait true (2 ∷ []) [] ∷ Clock 784111877 ∷ wait true (2 ∷ []) [] ∷ Clock 784111977 ∷ wait true (2 ∷ []) [] ∷ Clock 784112076 ∷ wait true (2 ∷ []) [] ∷ []) ≡ None
unfolding judging
row287 = refl

row292 : fault_from 0 (start (record { words = []; faults = 0 } ∷ [])) (front0 ++ Heard 1 text29 ∷ Noted (Taken 1 0 Fetch) ∷ Dialled 2 (codes "h") 80 ∷ wait true [] [] ∷ Reached 2 ∷ wait true [] (2 ∷ []) ∷ CanWrite 2 ∷ Asked 2 text30 ∷ wait true (2 ∷ []) [] ∷ Clock 784111877 ∷ wait true (2 ∷ []) [] ∷ Clock 784111977 ∷ wait true (2 ∷ []) [] ∷ Clock 784112076 ∷ Dropped 2 ∷ []) ≡ Some (record { at = 24; rule = NotToBeClosed })
unfolding judging
row292 = refl

row298 : fault_from 0 (start (record { words = []; faults = 0 } ∷ [])) (front0 ++ Heard 1 text29 ∷ Noted (Taken 1 0 Fetch) ∷ Dialled 2 (codes "h") 80 ∷ wait true [] [] ∷ Reached 2 ∷ wait true [] (2 ∷ []) ∷ CanWrite 2 ∷ Asked 2 text30 ∷ wait true (2 ∷ []) [] ∷ Clock 784111877 ∷ wait true (2 ∷ []) [] ∷ Clock 784111977 ∷ wait true (2 ∷ []) [] ∷ Clock 784112077 ∷ Noted (Taken 1 0 (Refuse 502)) ∷ Dropped 2 ∷ wait true [] (1 ∷ []) ∷ []) ≡ None
unfolding judging
row298 = refl

row305 : fault_from 0 (start (record { words = []; faults = 0 } ∷ [])) (front0 ++ Heard 1 text29 ∷ Noted (Taken 1 0 Fetch) ∷ Dialled 2 (codes "h") 80 ∷ wait true [] [] ∷ Reached 2 ∷ wait true [] (2 ∷ []) ∷ CanWrite 2 ∷ Asked 2 text30 ∷ wait true (2 ∷ []) [] ∷ Clock 784111877 ∷ wait true (2 ∷ []) [] ∷ Clock 784111977 ∷ wait true (2 ∷ []) [] ∷ Clock 784115577 ∷ wait true (2 ∷ []) [] ∷ CanRead 2 ∷ Got 2 text31 ∷ Noted (Taken 1 0 (Hit 0 5)) ∷ wait true (2 ∷ []) (1 ∷ []) ∷ []) ≡ None
unfolding judging
row305 = refl

row308 : fault_from 0 (start (record { words = []; faults = 0 } ∷ [])) (front0 ++ Heard 1 text29 ∷ Noted (Taken 1 0 Fetch) ∷ Dialled 2 (codes "h") 80 ∷ wait true [] [] ∷ Reached 2 ∷ wait true [] (2 ∷ []) ∷ CanWrite 2 ∷ Asked 2 text30 ∷ wait true (2 ∷ []) [] ∷ Clock 784111877 ∷ wait true (2 ∷ []) [] ∷ Clock 784111977 ∷ wait true (2 ∷ []) [] ∷ Clock 784115577 ∷ wait true (2 ∷ []) [] ∷ Clock 784115677 ∷ wait true (2 ∷ []) [] ∷ Clock 784115777 ∷ wait true (2 ∷ []) [] ∷ Clock 784115876 ∷ wait true (2 ∷ []) [] ∷ Clock 784115877 ∷ Noted (Taken 1 0 (Refuse 502)) ∷ Dropped 2 ∷ wait true [] (1 ∷ []) ∷ []) ≡ None
unfolding judging
row308 = refl

row321 : fault_from 0 (start (record { words = []; faults = 0 } ∷ [])) (front0 ++ Heard 1 text29 ∷ Noted (Taken 1 0 Fetch) ∷ Dialled 2 (codes "h") 80 ∷ wait true [] [] ∷ Reached 2 ∷ wait true [] (2 ∷ []) ∷ CanWrite 2 ∷ Asked 2 text30 ∷ wait true (2 ∷ []) [] ∷ Clock 784111877 ∷ wait true (2 ∷ []) [] ∷ Clock 784111977 ∷ wait true (2 ∷ []) [] ∷ Clock 784115577 ∷ Noted (Taken 1 0 (Refuse 502)) ∷ []) ≡ Some (record { at = 24; rule = WrongDecision })
unfolding judging
row321 = refl

row327 : fault_from 0 (start (record { words = []; faults = 0 } ∷ [])) (front0 ++ Heard 1 text29 ∷ Noted (Taken 1 0 Fetch) ∷ Dialled 2 (codes "h") 80 ∷ wait true [] [] ∷ Reached 2 ∷ wait true [] (2 ∷ []) ∷ CanWrite 2 ∷ Asked 2 text30 ∷ wait true (2 ∷ []) [] ∷ Clock 784111877 ∷ wait true (2 ∷ []) [] ∷ Clock 784111977 ∷ wait true (2 ∷ []) [] ∷ Clock 784112097 ∷ wait true (2 ∷ []) [] ∷ []) ≡ None
unfolding judging
row327 = refl

row332 : fault_from 0 (start (record { words = []; faults = 0 } ∷ [])) (front0 ++ Heard 1 text29 ∷ Noted (Taken 1 0 Fetch) ∷ Dialled 2 (codes "h") 80 ∷ wait true [] [] ∷ Reached 2 ∷ wait true [] (2 ∷ []) ∷ CanWrite 2 ∷ Asked 2 text30 ∷ wait true (2 ∷ []) [] ∷ Clock 784111877 ∷ wait true (2 ∷ []) [] ∷ Clock 784111977 ∷ wait true (2 ∷ []) [] ∷ Clock 784112096 ∷ wait true (2 ∷ []) [] ∷ []) ≡ Some (record { at = 24; rule = StepUnfinished })
unfolding judging
row332 = refl

row338 : fault_from 0 (start (record { words = []; faults = 0 } ∷ [])) (front0 ++ Heard 1 text29 ∷ Noted (Taken 1 0 Fetch) ∷ Dialled 2 (codes "h") 80 ∷ wait true [] [] ∷ Reached 2 ∷ wait true [] (2 ∷ []) ∷ CanWrite 2 ∷ Asked 2 text30 ∷ wait true (2 ∷ []) [] ∷ Opened 3 ∷ wait true (2 ∷ 3 ∷ []) [] ∷ CanRead 3 ∷ Heard 3 text29 ∷ wait true (2 ∷ []) [] ∷ Clock 784111781 ∷ wait true (2 ∷ []) [] ∷ Clock 784111782 ∷ Noted (Taken 3 0 Fetch) ∷ Dialled 4 (codes "h") 80 ∷ wait true (2 ∷ []) [] ∷ []) ≡ None
unfolding judging
row338 = refl

row352 : fault_from 0 (start (record { words = []; faults = 0 } ∷ [])) (front0 ++ Heard 1 text29 ∷ Noted (Taken 1 0 Fetch) ∷ Dialled 2 (codes "h") 80 ∷ wait true [] [] ∷ Reached 2 ∷ wait true [] (2 ∷ []) ∷ CanWrite 2 ∷ Asked 2 text30 ∷ wait true (2 ∷ []) [] ∷ Opened 3 ∷ wait true (2 ∷ 3 ∷ []) [] ∷ CanRead 3 ∷ Heard 3 text29 ∷ wait true (2 ∷ []) [] ∷ Clock 784111782 ∷ wait true (2 ∷ []) [] ∷ []) ≡ Some (record { at = 25; rule = StepUnfinished })
unfolding judging
row352 = refl

row377 : fault_from 0 (start (record { words = []; faults = 0 } ∷ [])) (front1 ++ Noted (Taken 3 0 Fetch) ∷ wait true (1 ∷ []) (2 ∷ []) ∷ CanWrite 2 ∷ Asked 2 text39 ∷ []) ≡ None
unfolding judging
row377 = refl

row383 : fault_from 0 (start (record { words = []; faults = 0 } ∷ [])) (front1 ++ Noted (Taken 3 0 (Refuse 502)) ∷ []) ≡ Some (record { at = 52; rule = WrongDecision })
unfolding judging
row383 = refl

row409 : fault_from 0 (start (record { words = []; faults = 0 } ∷ [])) (front2 ++ CanRead 2 ∷ Got 2 text40 ∷ Noted (Taken 3 0 Fetch) ∷ wait true (1 ∷ []) (2 ∷ []) ∷ Broke 2 ∷ Dropped 2 ∷ Dialled 4 (codes "h") 80 ∷ wait true (1 ∷ []) [] ∷ Broke 4 ∷ Dropped 4 ∷ Dialled 5 (codes "h") 80 ∷ wait true (1 ∷ []) [] ∷ Broke 5 ∷ Dropped 5 ∷ Dialled 6 (codes "h") 80 ∷ wait true (1 ∷ []) [] ∷ []) ≡ None
unfolding judging
row409 = refl

row415 : fault_from 0 (start (record { words = []; faults = 0 } ∷ [])) (front2 ++ CanRead 2 ∷ Got 2 text40 ∷ Noted (Taken 3 0 Fetch) ∷ wait true (1 ∷ []) (2 ∷ []) ∷ Broke 2 ∷ Dropped 2 ∷ Dialled 4 (codes "h") 80 ∷ wait true (1 ∷ []) [] ∷ Broke 4 ∷ Dropped 4 ∷ Dialled 5 (codes "h") 80 ∷ wait true (1 ∷ []) [] ∷ Broke 5 ∷ Noted (Taken 3 0 (Refuse 502)) ∷ []) ≡ Some (record { at = 51; rule = WrongDecision })
unfolding judging
row415 = refl

row462 : fault_from 0 (start (record { words = []; faults = 0 } ∷ [])) (front3 ++ wait true [] (2 ∷ []) ∷ CanWrite 2 ∷ Asked 2 text42 ∷ wait true (2 ∷ []) [] ∷ CanRead 2 ∷ Got 2 text43 ∷ Noted (Taken 1 0 (Part 8 10)) ∷ wait true [] (2 ∷ []) ∷ CanWrite 2 ∷ Asked 2 text44 ∷ wait true (2 ∷ []) [] ∷ CanRead 2 ∷ Got 2 text45 ∷ Noted (Taken 1 0 Fetch) ∷ wait true [] (2 ∷ []) ∷ CanWrite 2 ∷ Asked 2 text42 ∷ wait true (2 ∷ []) [] ∷ CanRead 2 ∷ Got 2 text43 ∷ Noted (Taken 1 0 (Part 8 10)) ∷ wait true [] (2 ∷ []) ∷ CanWrite 2 ∷ Asked 2 text44 ∷ wait true (2 ∷ []) [] ∷ CanRead 2 ∷ Got 2 text45 ∷ Noted (Taken 1 0 Fetch) ∷ wait true [] (2 ∷ []) ∷ CanWrite 2 ∷ Asked 2 text42 ∷ wait true (2 ∷ []) [] ∷ CanRead 2 ∷ Got 2 text43 ∷ Noted (Taken 1 0 (Part 8 10)) ∷ wait true [] (2 ∷ []) ∷ CanWrite 2 ∷ Asked 2 text44 ∷ wait true (2 ∷ []) [] ∷ CanRead 2 ∷ Got 2 text45 ∷ Noted (Taken 1 0 Fetch) ∷ wait true [] (2 ∷ []) ∷ CanWrite 2 ∷ Asked 2 text42 ∷ wait true (2 ∷ []) [] ∷ CanRead 2 ∷ Got 2 text43 ∷ Noted (Taken 1 0 (Part 8 10)) ∷ wait true [] (2 ∷ []) ∷ CanWrite 2 ∷ Asked 2 text44 ∷ wait true (2 ∷ []) [] ∷ CanRead 2 ∷ Got 2 text45 ∷ Noted (Taken 1 0 (Refuse 502)) ∷ []) ≡ None
unfolding judging
row462 = refl

row466 : fault_from 0 (start (record { words = []; faults = 0 } ∷ [])) (front3 ++ wait true [] (2 ∷ []) ∷ CanWrite 2 ∷ Asked 2 text42 ∷ wait true (2 ∷ []) [] ∷ CanRead 2 ∷ Got 2 text43 ∷ Noted (Taken 1 0 (Part 8 10)) ∷ wait true [] (2 ∷ []) ∷ CanWrite 2 ∷ Asked 2 text44 ∷ wait true (2 ∷ []) [] ∷ CanRead 2 ∷ Got 2 text45 ∷ Noted (Taken 1 0 Fetch) ∷ wait true [] (2 ∷ []) ∷ CanWrite 2 ∷ Asked 2 text42 ∷ wait true (2 ∷ []) [] ∷ CanRead 2 ∷ Got 2 text43 ∷ Noted (Taken 1 0 (Part 8 10)) ∷ wait true [] (2 ∷ []) ∷ CanWrite 2 ∷ Asked 2 text44 ∷ wait true (2 ∷ []) [] ∷ CanRead 2 ∷ Got 2 text45 ∷ Noted (Taken 1 0 Fetch) ∷ wait true [] (2 ∷ []) ∷ CanWrite 2 ∷ Asked 2 text42 ∷ wait true (2 ∷ []) [] ∷ CanRead 2 ∷ Got 2 text43 ∷ Noted (Taken 1 0 (Part 8 10)) ∷ wait true [] (2 ∷ []) ∷ CanWrite 2 ∷ Asked 2 text44 ∷ wait true (2 ∷ []) [] ∷ CanRead 2 ∷ Got 2 text45 ∷ Noted (Taken 1 0 Fetch) ∷ wait true [] (2 ∷ []) ∷ CanWrite 2 ∷ Asked 2 text42 ∷ wait true (2 ∷ []) [] ∷ CanRead 2 ∷ Got 2 text43 ∷ Noted (Taken 1 0 (Part 8 10)) ∷ wait true [] (2 ∷ []) ∷ CanWrite 2 ∷ Asked 2 text44 ∷ wait true (2 ∷ []) [] ∷ CanRead 2 ∷ Got 2 text45 ∷ Noted (Taken 1 0 Fetch) ∷ []) ≡ Some (record { at = 70; rule = WrongDecision })
unfolding judging
row466 = refl

row471 : fault_from 0 (start (record { words = []; faults = 0 } ∷ [])) (front3 ++ wait true [] (2 ∷ []) ∷ CanWrite 2 ∷ Asked 2 text42 ∷ wait true (2 ∷ []) [] ∷ CanRead 2 ∷ Got 2 text43 ∷ Noted (Taken 1 0 (Part 8 10)) ∷ wait true [] (2 ∷ []) ∷ CanWrite 2 ∷ Asked 2 text44 ∷ wait true (2 ∷ []) [] ∷ CanRead 2 ∷ Got 2 text45 ∷ Noted (Taken 1 0 Fetch) ∷ wait true [] (2 ∷ []) ∷ CanWrite 2 ∷ Asked 2 text42 ∷ wait true (2 ∷ []) [] ∷ CanRead 2 ∷ Got 2 text43 ∷ Noted (Taken 1 0 (Part 8 10)) ∷ wait true [] (2 ∷ []) ∷ CanWrite 2 ∷ Asked 2 text44 ∷ wait true (2 ∷ []) [] ∷ CanRead 2 ∷ Got 2 text45 ∷ Noted (Taken 1 0 Fetch) ∷ wait true [] (2 ∷ []) ∷ CanWrite 2 ∷ Asked 2 text42 ∷ wait true (2 ∷ []) [] ∷ CanRead 2 ∷ Got 2 text43 ∷ Noted (Taken 1 0 (Part 8 10)) ∷ wait true [] (2 ∷ []) ∷ CanWrite 2 ∷ Asked 2 text44 ∷ wait true (2 ∷ []) [] ∷ CanRead 2 ∷ Got 2 text45 ∷ Noted (Taken 1 0 (Refuse 502)) ∷ []) ≡ Some (record { at = 56; rule = WrongDecision })
unfolding judging
row471 = refl

row476 : fault_from 0 (start (record { words = []; faults = 0 } ∷ [])) (front3 ++ wait true [] (2 ∷ []) ∷ CanWrite 2 ∷ Asked 2 text42 ∷ wait true (2 ∷ []) [] ∷ CanRead 2 ∷ Got 2 text43 ∷ Noted (Taken 1 0 (Part 8 10)) ∷ wait true [] (2 ∷ []) ∷ CanWrite 2 ∷ Asked 2 text44 ∷ wait true (2 ∷ []) [] ∷ CanRead 2 ∷ Got 2 text46 ∷ Noted (Taken 1 0 Fetch) ∷ wait true [] (2 ∷ []) ∷ CanWrite 2 ∷ Asked 2 text42 ∷ wait true (2 ∷ []) [] ∷ CanRead 2 ∷ Got 2 text43 ∷ Noted (Taken 1 0 (Part 8 10)) ∷ wait true [] (2 ∷ []) ∷ CanWrite 2 ∷ Asked 2 text44 ∷ wait true (2 ∷ []) [] ∷ CanRead 2 ∷ Got 2 text46 ∷ Noted (Taken 1 0 Fetch) ∷ wait true [] (2 ∷ []) ∷ CanWrite 2 ∷ Asked 2 text42 ∷ wait true (2 ∷ []) [] ∷ CanRead 2 ∷ Got 2 text43 ∷ Noted (Taken 1 0 (Part 8 10)) ∷ wait true [] (2 ∷ []) ∷ CanWrite 2 ∷ Asked 2 text44 ∷ wait true (2 ∷ []) [] ∷ CanRead 2 ∷ Got 2 text46 ∷ Noted (Taken 1 0 Fetch) ∷ wait true [] (2 ∷ []) ∷ CanWrite 2 ∷ Asked 2 text42 ∷ wait true (2 ∷ []) [] ∷ CanRead 2 ∷ Got 2 text43 ∷ Noted (Taken 1 0 (Part 8 10)) ∷ wait true [] (2 ∷ []) ∷ CanWrite 2 ∷ Asked 2 text44 ∷ wait true (2 ∷ []) [] ∷ CanRead 2 ∷ Got 2 text46 ∷ Noted (Taken 1 0 (Refuse 502)) ∷ []) ≡ None
unfolding judging
row476 = refl

row480 : fault_from 0 (start (record { words = []; faults = 0 } ∷ [])) (front3 ++ wait true [] (2 ∷ []) ∷ CanWrite 2 ∷ Asked 2 text42 ∷ wait true (2 ∷ []) [] ∷ CanRead 2 ∷ Got 2 text43 ∷ Noted (Taken 1 0 (Part 8 10)) ∷ wait true [] (2 ∷ []) ∷ CanWrite 2 ∷ Asked 2 text44 ∷ wait true (2 ∷ []) [] ∷ CanRead 2 ∷ Got 2 text46 ∷ Noted (Taken 1 0 Fetch) ∷ wait true [] (2 ∷ []) ∷ CanWrite 2 ∷ Asked 2 text42 ∷ wait true (2 ∷ []) [] ∷ CanRead 2 ∷ Got 2 text43 ∷ Noted (Taken 1 0 (Part 8 10)) ∷ wait true [] (2 ∷ []) ∷ CanWrite 2 ∷ Asked 2 text44 ∷ wait true (2 ∷ []) [] ∷ CanRead 2 ∷ Got 2 text46 ∷ Noted (Taken 1 0 Fetch) ∷ wait true [] (2 ∷ []) ∷ CanWrite 2 ∷ Asked 2 text42 ∷ wait true (2 ∷ []) [] ∷ CanRead 2 ∷ Got 2 text43 ∷ Noted (Taken 1 0 (Part 8 10)) ∷ wait true [] (2 ∷ []) ∷ CanWrite 2 ∷ Asked 2 text44 ∷ wait true (2 ∷ []) [] ∷ CanRead 2 ∷ Got 2 text46 ∷ Noted (Taken 1 0 Fetch) ∷ wait true [] (2 ∷ []) ∷ CanWrite 2 ∷ Asked 2 text42 ∷ wait true (2 ∷ []) [] ∷ CanRead 2 ∷ Got 2 text43 ∷ Noted (Taken 1 0 (Part 8 10)) ∷ wait true [] (2 ∷ []) ∷ CanWrite 2 ∷ Asked 2 text44 ∷ wait true (2 ∷ []) [] ∷ CanRead 2 ∷ Got 2 text46 ∷ Noted (Taken 1 0 Fetch) ∷ []) ≡ Some (record { at = 70; rule = WrongDecision })
unfolding judging
row480 = refl

row516 : fault_from 0 (start (record { words = []; faults = 0 } ∷ [])) (front4 ++ Noted (Taken 1 0 (Part 8 10)) ∷ wait true [] (2 ∷ []) ∷ CanWrite 2 ∷ Asked 2 text50 ∷ wait true (2 ∷ []) [] ∷ CanRead 2 ∷ Got 2 text51 ∷ Noted (Taken 1 0 (Refuse 502)) ∷ []) ≡ None
unfolding judging
row516 = refl

row520 : fault_from 0 (start (record { words = []; faults = 0 } ∷ [])) (front4 ++ Noted (Taken 1 0 (Part 8 10)) ∷ wait true [] (2 ∷ []) ∷ CanWrite 2 ∷ Asked 2 text50 ∷ wait true (2 ∷ []) [] ∷ CanRead 2 ∷ Got 2 text51 ∷ Noted (Taken 1 0 (Part 8 10)) ∷ []) ≡ Some (record { at = 42; rule = WrongDecision })
unfolding judging
row520 = refl

row525 : fault_from 0 (start (record { words = []; faults = 0 } ∷ [])) (front4 ++ Noted (Taken 1 0 (Refuse 502)) ∷ []) ≡ Some (record { at = 35; rule = WrongDecision })
unfolding judging
row525 = refl

row529 : fault_from 0 (start (record { words = []; faults = 0 } ∷ [])) (front4 ++ Noted (Taken 1 0 (Part 8 10)) ∷ wait true [] (2 ∷ []) ∷ CanWrite 2 ∷ Asked 2 text50 ∷ wait true (2 ∷ []) [] ∷ CanRead 2 ∷ Got 2 text52 ∷ Noted (Taken 1 0 (Hit 8 10)) ∷ wait true (2 ∷ []) (1 ∷ []) ∷ []) ≡ None
unfolding judging
row529 = refl

row539 : fault_from 0 (start (record { words = []; faults = 0 } ∷ [])) (front4 ++ Noted (Taken 1 0 (Part 8 10)) ∷ wait true [] (2 ∷ []) ∷ CanWrite 2 ∷ Asked 2 text50 ∷ wait true (2 ∷ []) [] ∷ CanRead 2 ∷ Got 2 text53 ∷ Noted (Taken 1 0 Unsatisfiable) ∷ wait true (2 ∷ []) (1 ∷ []) ∷ []) ≡ None
unfolding judging
row539 = refl

row544 : fault_from 0 (start (record { words = []; faults = 0 } ∷ [])) (front4 ++ Noted (Taken 1 0 (Part 8 10)) ∷ wait true [] (2 ∷ []) ∷ CanWrite 2 ∷ Asked 2 text50 ∷ wait true (2 ∷ []) [] ∷ CanRead 2 ∷ Got 2 text53 ∷ Noted (Taken 1 0 (Refuse 502)) ∷ []) ≡ Some (record { at = 42; rule = WrongDecision })
unfolding judging
row544 = refl

row553 : fault_from 0 (start (record { words = []; faults = 0 } ∷ [])) (front0 ++ Heard 1 text54 ∷ Noted (Taken 1 0 Pass) ∷ Dialled 2 (codes "h") 80 ∷ wait true (1 ∷ []) [] ∷ Reached 2 ∷ wait true (1 ∷ 2 ∷ []) (2 ∷ []) ∷ CanWrite 2 ∷ Asked 2 text55 ∷ wait true (1 ∷ 2 ∷ []) [] ∷ Opened 3 ∷ wait true (1 ∷ 2 ∷ 3 ∷ []) [] ∷ CanRead 3 ∷ Heard 3 text56 ∷ Noted (Taken 3 0 Pass) ∷ Dialled 4 (codes "h") 80 ∷ wait true (1 ∷ 2 ∷ []) [] ∷ []) ≡ None
unfolding judging
row553 = refl

row571 : fault_from 0 (start (record { words = []; faults = 0 } ∷ [])) (front0 ++ Heard 1 text1 ∷ Noted (Taken 1 0 Fetch) ∷ Dialled 2 (codes "h") 80 ∷ wait true (1 ∷ []) [] ∷ Reached 2 ∷ wait true (1 ∷ 2 ∷ []) (2 ∷ []) ∷ CanWrite 2 ∷ Asked 2 text2 ∷ wait true (1 ∷ 2 ∷ []) [] ∷ CanRead 2 ∷ Got 2 text3 ∷ Noted (Taken 1 0 (Hit 0 5)) ∷ wait true (1 ∷ 2 ∷ []) (1 ∷ []) ∷ CanWrite 1 ∷ Said 1 153 text4 ∷ wait true (1 ∷ 2 ∷ []) (1 ∷ []) ∷ CanWrite 1 ∷ Said 1 5 (codes "hello") ∷ wait true (1 ∷ 2 ∷ []) [] ∷ CanRead 1 ∷ Heard 1 text54 ∷ Noted (Taken 1 1 Pass) ∷ wait true (1 ∷ []) (2 ∷ []) ∷ CanWrite 2 ∷ Asked 2 text55 ∷ wait true (1 ∷ 2 ∷ []) [] ∷ CanRead 2 ∷ Got 2 text57 ∷ Dropped 2 ∷ wait true (1 ∷ []) (1 ∷ []) ∷ []) ≡ None
unfolding judging
row571 = refl

row597 : fault_from 0 (start (record { words = []; faults = 0 } ∷ [])) (front0 ++ Heard 1 text1 ∷ Noted (Taken 1 0 Fetch) ∷ Dialled 2 (codes "h") 80 ∷ wait true (1 ∷ []) [] ∷ Reached 2 ∷ wait true (1 ∷ 2 ∷ []) (2 ∷ []) ∷ CanWrite 2 ∷ Asked 2 text2 ∷ wait true (1 ∷ 2 ∷ []) [] ∷ CanRead 2 ∷ Got 2 text3 ∷ Noted (Taken 1 0 (Hit 0 5)) ∷ wait true (1 ∷ 2 ∷ []) (1 ∷ []) ∷ CanWrite 1 ∷ Said 1 153 text4 ∷ wait true (1 ∷ 2 ∷ []) (1 ∷ []) ∷ CanWrite 1 ∷ Said 1 5 (codes "hello") ∷ wait true (1 ∷ 2 ∷ []) [] ∷ CanRead 1 ∷ Heard 1 text54 ∷ Noted (Taken 1 1 Pass) ∷ wait true (1 ∷ []) (2 ∷ []) ∷ CanWrite 2 ∷ Asked 2 text55 ∷ wait true (1 ∷ 2 ∷ []) [] ∷ CanRead 2 ∷ Got 2 (codes "hello\r\n") ∷ Dropped 2 ∷ Dialled 3 (codes "h") 80 ∷ wait true (1 ∷ []) [] ∷ []) ≡ None
unfolding judging
row597 = refl

row603 : fault_from 0 (start (record { words = []; faults = 0 } ∷ [])) (front0 ++ Heard 1 text1 ∷ Noted (Taken 1 0 Fetch) ∷ Dialled 2 (codes "h") 80 ∷ wait true (1 ∷ []) [] ∷ Reached 2 ∷ wait true (1 ∷ 2 ∷ []) (2 ∷ []) ∷ CanWrite 2 ∷ Asked 2 text2 ∷ wait true (1 ∷ 2 ∷ []) [] ∷ CanRead 2 ∷ Got 2 text3 ∷ Noted (Taken 1 0 (Hit 0 5)) ∷ wait true (1 ∷ 2 ∷ []) (1 ∷ []) ∷ CanWrite 1 ∷ Said 1 153 text4 ∷ wait true (1 ∷ 2 ∷ []) (1 ∷ []) ∷ CanWrite 1 ∷ Said 1 5 (codes "hello") ∷ wait true (1 ∷ 2 ∷ []) [] ∷ CanRead 1 ∷ Heard 1 text54 ∷ Noted (Taken 1 1 Pass) ∷ wait true (1 ∷ []) (2 ∷ []) ∷ CanWrite 2 ∷ Asked 2 text55 ∷ wait true (1 ∷ 2 ∷ []) [] ∷ CanRead 2 ∷ Got 2 (codes "hello\r\n") ∷ Noted (Taken 1 1 (Refuse 502)) ∷ []) ≡ Some (record { at = 38; rule = WrongDecision })
unfolding judging
row603 = refl

row623 : fault_from 0 (start (record { words = []; faults = 0 } ∷ [])) (front0 ++ Heard 1 text1 ∷ Noted (Taken 1 0 Fetch) ∷ Dialled 2 (codes "h") 80 ∷ wait true (1 ∷ []) [] ∷ Reached 2 ∷ wait true (1 ∷ 2 ∷ []) (2 ∷ []) ∷ CanWrite 2 ∷ Asked 2 text2 ∷ wait true (1 ∷ 2 ∷ []) [] ∷ CanRead 2 ∷ Got 2 text3 ∷ Noted (Taken 1 0 (Hit 0 5)) ∷ wait true (1 ∷ 2 ∷ []) (1 ∷ []) ∷ CanWrite 1 ∷ Said 1 153 text4 ∷ wait true (1 ∷ 2 ∷ []) (1 ∷ []) ∷ CanWrite 1 ∷ Said 1 5 (codes "hello") ∷ wait true (1 ∷ 2 ∷ []) [] ∷ CanRead 1 ∷ Heard 1 text58 ∷ Noted (Taken 1 1 Pass) ∷ Dialled 3 (codes "h") 80 ∷ wait true (1 ∷ 2 ∷ []) [] ∷ Reached 3 ∷ wait true (1 ∷ 2 ∷ []) (3 ∷ []) ∷ CanWrite 3 ∷ Asked 3 text59 ∷ wait true (1 ∷ 2 ∷ 3 ∷ []) [] ∷ CanRead 3 ∷ Got 3 text60 ∷ Dropped 3 ∷ wait true (1 ∷ 2 ∷ []) (1 ∷ []) ∷ []) ≡ None
unfolding judging
row623 = refl

row628 : fault_from 0 (start (record { words = []; faults = 0 } ∷ [])) (front0 ++ Heard 1 text1 ∷ Noted (Taken 1 0 Fetch) ∷ Dialled 2 (codes "h") 80 ∷ wait true (1 ∷ []) [] ∷ Reached 2 ∷ wait true (1 ∷ 2 ∷ []) (2 ∷ []) ∷ CanWrite 2 ∷ Asked 2 text2 ∷ wait true (1 ∷ 2 ∷ []) [] ∷ CanRead 2 ∷ Got 2 text3 ∷ Noted (Taken 1 0 (Hit 0 5)) ∷ wait true (1 ∷ 2 ∷ []) (1 ∷ []) ∷ CanWrite 1 ∷ Said 1 153 text4 ∷ wait true (1 ∷ 2 ∷ []) (1 ∷ []) ∷ CanWrite 1 ∷ Said 1 5 (codes "hello") ∷ wait true (1 ∷ 2 ∷ []) [] ∷ CanRead 1 ∷ Heard 1 text58 ∷ Noted (Taken 1 1 Pass) ∷ Dialled 3 (codes "h") 80 ∷ wait true (1 ∷ 2 ∷ []) [] ∷ Reached 3 ∷ wait true (1 ∷ 2 ∷ []) (3 ∷ []) ∷ CanWrite 3 ∷ Asked 3 text59 ∷ wait true (1 ∷ 2 ∷ 3 ∷ []) [] ∷ CanRead 3 ∷ Got 3 text60 ∷ wait true (1 ∷ 2 ∷ 3 ∷ []) (1 ∷ []) ∷ []) ≡ Some (record { at = 41; rule = StepUnfinished })
unfolding judging
row628 = refl

row654 : fault_from 0 (start (record { words = []; faults = 0 } ∷ [])) (front0 ++ Heard 1 text61 ∷ Noted (Taken 1 0 Fetch) ∷ Dialled 2 (codes "h") 80 ∷ wait true [] [] ∷ Reached 2 ∷ wait true [] (2 ∷ []) ∷ CanWrite 2 ∷ Asked 2 text62 ∷ wait true (2 ∷ []) [] ∷ CanRead 2 ∷ Got 2 text63 ∷ Noted (Taken 1 0 (Part 0 4000000)) ∷ wait true (2 ∷ []) (1 ∷ []) ∷ Opened 3 ∷ wait true (2 ∷ 3 ∷ []) (1 ∷ []) ∷ CanRead 3 ∷ Heard 3 text64 ∷ Noted (Taken 3 0 (Part 3000000 3000004)) ∷ Dialled 4 (codes "h") 80 ∷ wait true (2 ∷ []) (1 ∷ []) ∷ []) ≡ None
unfolding judging
row654 = refl

row661 : fault_from 0 (start (record { words = []; faults = 0 } ∷ [])) (front0 ++ Heard 1 text61 ∷ Noted (Taken 1 0 Fetch) ∷ Dialled 2 (codes "h") 80 ∷ wait true [] [] ∷ Reached 2 ∷ wait true [] (2 ∷ []) ∷ CanWrite 2 ∷ Asked 2 text62 ∷ wait true (2 ∷ []) [] ∷ CanRead 2 ∷ Got 2 text63 ∷ Noted (Taken 1 0 (Part 0 4000000)) ∷ wait true (2 ∷ []) (1 ∷ []) ∷ Opened 3 ∷ wait true (2 ∷ 3 ∷ []) (1 ∷ []) ∷ CanRead 3 ∷ Heard 3 text65 ∷ Noted (Taken 3 0 (Part 1000000 1000004)) ∷ wait true (2 ∷ []) (1 ∷ []) ∷ []) ≡ None
unfolding judging
row661 = refl

row685 : fault_from 0 (start (record { words = []; faults = 0 } ∷ [])) (front0 ++ Heard 1 text61 ∷ Noted (Taken 1 0 Fetch) ∷ Dialled 2 (codes "h") 80 ∷ wait true [] [] ∷ Reached 2 ∷ wait true [] (2 ∷ []) ∷ CanWrite 2 ∷ Asked 2 text62 ∷ wait true (2 ∷ []) [] ∷ CanRead 2 ∷ Got 2 text63 ∷ Noted (Taken 1 0 (Part 0 4000000)) ∷ wait true (2 ∷ []) (1 ∷ []) ∷ Opened 3 ∷ wait true (2 ∷ 3 ∷ []) (1 ∷ []) ∷ CanRead 3 ∷ Heard 3 text64 ∷ Noted (Taken 3 0 (Part 3000000 3000004)) ∷ Dialled 4 (codes "h") 80 ∷ wait true (2 ∷ []) (1 ∷ []) ∷ CanWrite 1 ∷ HungUp 1 ∷ Shut 1 ∷ Dropped 2 ∷ wait true [] [] ∷ []) ≡ None
unfolding judging
row685 = refl

row690 : fault_from 0 (start (record { words = []; faults = 0 } ∷ [])) (front0 ++ Heard 1 text61 ∷ Noted (Taken 1 0 Fetch) ∷ Dialled 2 (codes "h") 80 ∷ wait true [] [] ∷ Reached 2 ∷ wait true [] (2 ∷ []) ∷ CanWrite 2 ∷ Asked 2 text62 ∷ wait true (2 ∷ []) [] ∷ CanRead 2 ∷ Got 2 text63 ∷ Noted (Taken 1 0 (Part 0 4000000)) ∷ wait true (2 ∷ []) (1 ∷ []) ∷ Opened 3 ∷ wait true (2 ∷ 3 ∷ []) (1 ∷ []) ∷ CanRead 3 ∷ Heard 3 text64 ∷ Noted (Taken 3 0 (Part 3000000 3000004)) ∷ Dialled 4 (codes "h") 80 ∷ wait true (2 ∷ []) (1 ∷ []) ∷ CanWrite 1 ∷ HungUp 1 ∷ Shut 1 ∷ wait true (2 ∷ []) [] ∷ []) ≡ Some (record { at = 33; rule = StepUnfinished })
unfolding judging
row690 = refl

row695 : fault_from 0 (start (record { words = []; faults = 0 } ∷ [])) (front0 ++ Heard 1 text61 ∷ Noted (Taken 1 0 Fetch) ∷ Dialled 2 (codes "h") 80 ∷ wait true [] [] ∷ Reached 2 ∷ wait true [] (2 ∷ []) ∷ CanWrite 2 ∷ Asked 2 text62 ∷ wait true (2 ∷ []) [] ∷ CanRead 2 ∷ Got 2 text63 ∷ Noted (Taken 1 0 (Part 0 4000000)) ∷ wait true (2 ∷ []) (1 ∷ []) ∷ Opened 3 ∷ wait true (2 ∷ 3 ∷ []) (1 ∷ []) ∷ CanRead 3 ∷ Heard 3 text65 ∷ Noted (Taken 3 0 (Part 1000000 1000004)) ∷ wait true (2 ∷ []) (1 ∷ []) ∷ CanWrite 1 ∷ HungUp 1 ∷ Shut 1 ∷ wait true (2 ∷ []) [] ∷ []) ≡ None
unfolding judging
row695 = refl

row699 : fault_from 0 (start (record { words = []; faults = 0 } ∷ [])) (front0 ++ Heard 1 text61 ∷ Noted (Taken 1 0 Fetch) ∷ Dialled 2 (codes "h") 80 ∷ wait true [] [] ∷ Reached 2 ∷ wait true [] (2 ∷ []) ∷ CanWrite 2 ∷ Asked 2 text62 ∷ wait true (2 ∷ []) [] ∷ CanRead 2 ∷ Got 2 text63 ∷ Noted (Taken 1 0 (Part 0 4000000)) ∷ wait true (2 ∷ []) (1 ∷ []) ∷ Opened 3 ∷ wait true (2 ∷ 3 ∷ []) (1 ∷ []) ∷ CanRead 3 ∷ Heard 3 text65 ∷ Noted (Taken 3 0 (Part 1000000 1000004)) ∷ wait true (2 ∷ []) (1 ∷ []) ∷ CanWrite 1 ∷ HungUp 1 ∷ Shut 1 ∷ Dropped 2 ∷ []) ≡ Some (record { at = 32; rule = NotToBeClosed })
unfolding judging
row699 = refl

row732 : fault_from 0 (start (record { words = []; faults = 0 } ∷ [])) (front0 ++ Heard 1 text61 ∷ Noted (Taken 1 0 Fetch) ∷ Dialled 2 (codes "h") 80 ∷ wait true [] [] ∷ Reached 2 ∷ wait true [] (2 ∷ []) ∷ CanWrite 2 ∷ Asked 2 text62 ∷ wait true (2 ∷ []) [] ∷ CanRead 2 ∷ Got 2 text63 ∷ Noted (Taken 1 0 (Part 0 4000000)) ∷ wait true (2 ∷ []) (1 ∷ []) ∷ Opened 3 ∷ wait true (2 ∷ 3 ∷ []) (1 ∷ []) ∷ CanRead 3 ∷ Heard 3 text66 ∷ Noted (Taken 3 0 (Part 1499136 2000000)) ∷ Dialled 4 (codes "h") 80 ∷ wait true (2 ∷ []) (1 ∷ []) ∷ Reached 4 ∷ wait true (2 ∷ []) (1 ∷ 4 ∷ []) ∷ CanWrite 4 ∷ Asked 4 text67 ∷ wait true (2 ∷ 4 ∷ []) (1 ∷ []) ∷ CanRead 4 ∷ Got 4 text68 ∷ wait true (2 ∷ 4 ∷ []) (1 ∷ 3 ∷ []) ∷ Opened 5 ∷ wait true (2 ∷ 4 ∷ 5 ∷ []) (1 ∷ 3 ∷ []) ∷ CanRead 5 ∷ Heard 5 text69 ∷ Noted (Taken 5 0 (Part 2998272 4000000)) ∷ Dialled 6 (codes "h") 80 ∷ wait true (2 ∷ 4 ∷ []) (1 ∷ 3 ∷ []) ∷ CanWrite 3 ∷ HungUp 3 ∷ Shut 3 ∷ wait true (2 ∷ []) (1 ∷ []) ∷ []) ≡ None
unfolding judging
row732 = refl

row736 : fault_from 0 (start (record { words = []; faults = 0 } ∷ [])) (front0 ++ Heard 1 text61 ∷ Noted (Taken 1 0 Fetch) ∷ Dialled 2 (codes "h") 80 ∷ wait true [] [] ∷ Reached 2 ∷ wait true [] (2 ∷ []) ∷ CanWrite 2 ∷ Asked 2 text62 ∷ wait true (2 ∷ []) [] ∷ CanRead 2 ∷ Got 2 text63 ∷ Noted (Taken 1 0 (Part 0 4000000)) ∷ wait true (2 ∷ []) (1 ∷ []) ∷ Opened 3 ∷ wait true (2 ∷ 3 ∷ []) (1 ∷ []) ∷ CanRead 3 ∷ Heard 3 text66 ∷ Noted (Taken 3 0 (Part 1499136 2000000)) ∷ Dialled 4 (codes "h") 80 ∷ wait true (2 ∷ []) (1 ∷ []) ∷ Reached 4 ∷ wait true (2 ∷ []) (1 ∷ 4 ∷ []) ∷ CanWrite 4 ∷ Asked 4 text67 ∷ wait true (2 ∷ 4 ∷ []) (1 ∷ []) ∷ CanRead 4 ∷ Got 4 text68 ∷ wait true (2 ∷ 4 ∷ []) (1 ∷ 3 ∷ []) ∷ Opened 5 ∷ wait true (2 ∷ 4 ∷ 5 ∷ []) (1 ∷ 3 ∷ []) ∷ CanRead 5 ∷ Heard 5 text69 ∷ Noted (Taken 5 0 (Part 2998272 4000000)) ∷ Dialled 6 (codes "h") 80 ∷ wait true (2 ∷ 4 ∷ []) (1 ∷ 3 ∷ []) ∷ CanWrite 3 ∷ HungUp 3 ∷ Shut 3 ∷ wait true (2 ∷ 4 ∷ []) (1 ∷ []) ∷ []) ≡ Some (record { at = 48; rule = ConnectionForgotten })
unfolding judging
row736 = refl

row758 : fault_from 0 (start (record { words = []; faults = 0 } ∷ [])) (front0 ++ Heard 1 text64 ∷ Noted (Taken 1 0 Fetch) ∷ Dialled 2 (codes "h") 80 ∷ wait true [] [] ∷ Reached 2 ∷ wait true [] (2 ∷ []) ∷ CanWrite 2 ∷ Asked 2 text70 ∷ wait true (2 ∷ []) [] ∷ CanRead 2 ∷ Got 2 text63 ∷ Noted (Taken 1 0 (Part 3000000 3000004)) ∷ wait true (2 ∷ []) [] ∷ CanRead 2 ∷ Got 2 text71 ∷ wait true (2 ∷ []) [] ∷ []) ≡ None
unfolding judging
row758 = refl

row765 : fault_from 0 (start (record { words = []; faults = 0 } ∷ [])) (front0 ++ Heard 1 text64 ∷ Noted (Taken 1 0 Fetch) ∷ Dialled 2 (codes "h") 80 ∷ wait true [] [] ∷ Reached 2 ∷ wait true [] (2 ∷ []) ∷ CanWrite 2 ∷ Asked 2 text70 ∷ wait true (2 ∷ []) [] ∷ CanRead 2 ∷ Got 2 text63 ∷ Noted (Taken 1 0 (Part 3000000 3000004)) ∷ Dialled 3 (codes "h") 80 ∷ []) ≡ Some (record { at = 22; rule = NotToBeDialled })
unfolding judging
row765 = refl

row792 : fault_from 0 (start (record { words = []; faults = 0 } ∷ [])) (front0 ++ Heard 1 text61 ∷ Noted (Taken 1 0 Fetch) ∷ Dialled 2 (codes "h") 80 ∷ wait true [] [] ∷ Reached 2 ∷ wait true [] (2 ∷ []) ∷ CanWrite 2 ∷ Asked 2 text62 ∷ wait true (2 ∷ []) [] ∷ CanRead 2 ∷ Got 2 text63 ∷ Noted (Taken 1 0 (Part 0 4000000)) ∷ wait true (2 ∷ []) (1 ∷ []) ∷ Opened 3 ∷ wait true (2 ∷ 3 ∷ []) (1 ∷ []) ∷ CanRead 3 ∷ Heard 3 text64 ∷ Noted (Taken 3 0 (Part 3000000 3000004)) ∷ Dialled 4 (codes "h") 80 ∷ wait true (2 ∷ []) (1 ∷ []) ∷ Reached 4 ∷ wait true (2 ∷ []) (1 ∷ 4 ∷ []) ∷ CanWrite 4 ∷ Asked 4 text72 ∷ wait true (2 ∷ 4 ∷ []) (1 ∷ []) ∷ CanRead 4 ∷ Got 4 text63 ∷ wait true (2 ∷ 4 ∷ []) (1 ∷ []) ∷ []) ≡ None
unfolding judging
row792 = refl

row796 : fault_from 0 (start (record { words = []; faults = 0 } ∷ [])) (front0 ++ Heard 1 text61 ∷ Noted (Taken 1 0 Fetch) ∷ Dialled 2 (codes "h") 80 ∷ wait true [] [] ∷ Reached 2 ∷ wait true [] (2 ∷ []) ∷ CanWrite 2 ∷ Asked 2 text62 ∷ wait true (2 ∷ []) [] ∷ CanRead 2 ∷ Got 2 text63 ∷ Noted (Taken 1 0 (Part 0 4000000)) ∷ wait true (2 ∷ []) (1 ∷ []) ∷ Opened 3 ∷ wait true (2 ∷ 3 ∷ []) (1 ∷ []) ∷ CanRead 3 ∷ Heard 3 text64 ∷ Noted (Taken 3 0 (Part 3000000 3000004)) ∷ Dialled 4 (codes "h") 80 ∷ wait true (2 ∷ []) (1 ∷ []) ∷ Reached 4 ∷ wait true (2 ∷ []) (1 ∷ 4 ∷ []) ∷ CanWrite 4 ∷ Asked 4 text72 ∷ wait true (2 ∷ 4 ∷ []) (1 ∷ []) ∷ CanRead 4 ∷ Got 4 text63 ∷ Dialled 5 (codes "h") 80 ∷ []) ≡ Some (record { at = 37; rule = NotToBeDialled })
unfolding judging
row796 = refl

row801 : fault_from 0 (start (record { words = []; faults = 0 } ∷ [])) (front0 ++ Heard 1 text61 ∷ Noted (Taken 1 0 Fetch) ∷ Dialled 2 (codes "h") 80 ∷ wait true [] [] ∷ Reached 2 ∷ wait true [] (2 ∷ []) ∷ CanWrite 2 ∷ Asked 2 text62 ∷ wait true (2 ∷ []) [] ∷ CanRead 2 ∷ Got 2 text63 ∷ Noted (Taken 1 0 (Part 0 4000000)) ∷ wait true (2 ∷ []) (1 ∷ []) ∷ Opened 3 ∷ wait true (2 ∷ 3 ∷ []) (1 ∷ []) ∷ CanRead 3 ∷ Heard 3 text64 ∷ Noted (Taken 3 0 (Part 3000000 3000004)) ∷ Dialled 4 (codes "h") 80 ∷ wait true (2 ∷ []) (1 ∷ []) ∷ Reached 4 ∷ wait true (2 ∷ []) (1 ∷ 4 ∷ []) ∷ CanWrite 4 ∷ Asked 4 text72 ∷ wait true (2 ∷ 4 ∷ []) (1 ∷ []) ∷ CanRead 4 ∷ Got 4 text73 ∷ Noted (Taken 3 0 (Part 3000000 3000004)) ∷ Dialled 5 (codes "h") 80 ∷ wait true (2 ∷ 4 ∷ []) (1 ∷ []) ∷ []) ≡ None
unfolding judging
row801 = refl

row806 : fault_from 0 (start (record { words = []; faults = 0 } ∷ [])) (front0 ++ Heard 1 text61 ∷ Noted (Taken 1 0 Fetch) ∷ Dialled 2 (codes "h") 80 ∷ wait true [] [] ∷ Reached 2 ∷ wait true [] (2 ∷ []) ∷ CanWrite 2 ∷ Asked 2 text62 ∷ wait true (2 ∷ []) [] ∷ CanRead 2 ∷ Got 2 text63 ∷ Noted (Taken 1 0 (Part 0 4000000)) ∷ wait true (2 ∷ []) (1 ∷ []) ∷ Opened 3 ∷ wait true (2 ∷ 3 ∷ []) (1 ∷ []) ∷ CanRead 3 ∷ Heard 3 text64 ∷ Noted (Taken 3 0 (Part 3000000 3000004)) ∷ Dialled 4 (codes "h") 80 ∷ wait true (2 ∷ []) (1 ∷ []) ∷ Reached 4 ∷ wait true (2 ∷ []) (1 ∷ 4 ∷ []) ∷ CanWrite 4 ∷ Asked 4 text72 ∷ wait true (2 ∷ 4 ∷ []) (1 ∷ []) ∷ CanRead 4 ∷ Got 4 text73 ∷ Noted (Taken 3 0 (Part 3000000 3000004)) ∷ wait true (2 ∷ 4 ∷ []) (1 ∷ []) ∷ []) ≡ Some (record { at = 38; rule = StepUnfinished })
unfolding judging
row806 = refl

row869 : fault_from 0 (start (record { words = []; faults = 0 } ∷ [])) (front0 ++ Heard 1 text1 ∷ Noted (Taken 1 0 Fetch) ∷ Dialled 2 (codes "h") 80 ∷ wait true [] [] ∷ Reached 2 ∷ wait true [] (2 ∷ []) ∷ CanWrite 2 ∷ Asked 2 text2 ∷ wait true (2 ∷ []) [] ∷ CanRead 2 ∷ Got 2 text74 ∷ Noted (Taken 1 0 (Hit 0 5)) ∷ wait true (2 ∷ []) (1 ∷ []) ∷ Opened 3 ∷ wait true (2 ∷ 3 ∷ []) (1 ∷ []) ∷ CanRead 3 ∷ Heard 3 text1 ∷ Noted (Taken 3 0 (Hit 0 5)) ∷ []) ≡ None
unfolding judging
row869 = refl

row874 : fault_from 0 (start (record { words = []; faults = 0 } ∷ [])) (front0 ++ Heard 1 text75 ∷ Noted (Taken 1 0 Fetch) ∷ Dialled 2 (codes "h") 80 ∷ wait true [] [] ∷ Reached 2 ∷ wait true [] (2 ∷ []) ∷ CanWrite 2 ∷ Asked 2 text76 ∷ wait true (2 ∷ []) [] ∷ CanRead 2 ∷ Got 2 text74 ∷ Noted (Taken 1 0 (Hit 0 5)) ∷ wait true (2 ∷ []) (1 ∷ []) ∷ Opened 3 ∷ wait true (2 ∷ 3 ∷ []) (1 ∷ []) ∷ CanRead 3 ∷ Heard 3 text75 ∷ Noted (Taken 3 0 Validate) ∷ []) ≡ None
unfolding judging
row874 = refl
