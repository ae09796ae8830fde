-- The verdicts of transcripts/caching.log, written by transcripts/make_rows.
use Rattle.std.proofs.Common.{◌≡◌, refl, ℕ, List, [], ◌∷◌, ◌++◌, true, false, Bool, Option, None, Some, codes}
use Rattle.std.specs.Prelude.{replicate, is_some}
use Rattle.pp_world.specs.Log.{Log}
use Rattle.pp_world.specs.declared.happening.Happening.{Happening}
use Rattle.pp_world.specs.declared.happening.Happening.TheVariants.{Woke, Waits, Clock, Opened, CanRead, CanWrite, Heard, HungUp, Said, Shut, Dialled, Undialled, Reached, Ended, Broke, Asked, Got, Dropped, NoneYet, Began, Did, Unread, Noted, Rooted, Listed, Listens, Configured, Printed, Stopped}
use Rattle.pp_world.specs.declared.note.Decision.TheVariants.{Refuse, Hit, Part, Head, NotModified, Unsatisfiable, Relay, Validate, Fetch, Pass}
use Rattle.pp_world.specs.declared.note.Cause.TheVariants.{Superseded, Origin, Short, Idle, Memory, Stop}
use Rattle.pp_world.specs.declared.note.Remark.TheVariants.{Taken, Cut, Kept, Gone, Forgotten, Evicted, Loaded}
use Rattle.pp_world.specs.declared.op.DiskOp.TheVariants.{Draft, SyncDraft, Publish, Write, Sync, Remove}
use Rattle.pp_law.specs.Lists.{Bytes}
use Rattle.pp_law.specs.State.{State, start}
use Rattle.pp_law.specs.Lawful.{fault_from, Fault, ImageNotLeft, OpeningOutOfOrder, EventOutOfTurn, ReadNotAskedFor, FailureMadeUp, WrongReply, WrongAsk, WrongDecision, WrongCut, NotToBeClosed, NotToBeDialled, NotToBeEvicted, NotToBeForgotten, NotToBeLoaded, NotSealed, NotGone, WrongDiskOperation, StepUnfinished, AcceptsWrongly, ClientForgotten, ConnectionForgotten, ExchangeForgotten, WantsTooMuch}
use Rattle.pp_pieces.proofs.Forced.{judge, arrived, judging, told, tell}

abbrev wait : Bool → List ℕ → List ℕ → Happening
wait accept read write = Waits (record { accept = accept; read = record { items = read }; write = record { items = write } })

abbrev text0 : Bytes
text0 = (codes "pipelineAsks=1")

abbrev text1 : Bytes
text1 = (codes "hostConnections=4")

abbrev text2 : Bytes
text2 = (codes "polipo-cache")

abbrev front0 : Log
front0 = Woke [] ∷ Rooted text2 ∷ Listed true ∷ Listens 8123 true ∷ wait true [] [] ∷ Clock 784111777 ∷ wait true [] [] ∷ []

abbrev text3 : Bytes
text3 = (codes "GET http://h/a HTTP/1.1\r\nHost: h\r\n\r\n")

abbrev text4 : Bytes
text4 = (codes "GET /a HTTP/1.1\r\nhost: h\r\nvia: 1.1 polipo\r\n\r\n")

abbrev text5 : Bytes
text5 = (codes "HTTP/1.1 200 OK\r\nDate: Sun, 06 Nov 1994 08:49:37 GMT\r\nETag: \"x\"\r\nCache-Control: max-age=60\r\nContent-Length: 5\r\n\r\nhello")

abbrev text6 : Bytes
text6 = (codes "HTTP/1.1 200 OK\r\netag: \"x\"\r\ndate: Sun, 06 Nov 1994 08:49:37 GMT\r\ncache-control: max-age=60\r\nX-Polipo-Location: http://h/a\r\nX-Polipo-Date: 784111777\r\nX-Polipo-Age: 0\r\nX-Polipo-Length: 5\r\nX-Polipo-Body-Offset: 12288\r\n\r\n" ++ replicate 12071 0)

abbrev text7 : Bytes
text7 = (codes "2ce7276502725c281e6d5ae4e55aed55")

abbrev text8 : Bytes
text8 = (codes "HTTP/1.1 200 OK\r\netag: \"x\"\r\ndate: Sun, 06 Nov 1994 08:49:37 GMT\r\ncache-control: max-age=60\r\nvia: 1.1 polipo\r\ncontent-length: 5\r\nconnection: keep-alive\r\n\r\n")

abbrev text9 : Bytes
text9 = (codes "HTTP/1.1 200 OK\r\netag: \"x\"\r\ndate: Sun, 06 Nov 1994 08:49:37 GMT\r\ncache-control: max-age=60\r\nage: 0\r\n")

abbrev front1 : Log
front1 = Woke [] ∷ Rooted text2 ∷ Listed true ∷ Listens 8123 true ∷ wait true [] [] ∷ Clock 784111777 ∷ wait true [] [] ∷ Opened 1 ∷ wait true (1 ∷ []) [] ∷ CanRead 1 ∷ Heard 1 text3 ∷ Noted (Taken 1 0 Fetch) ∷ Dialled 2 (codes "h") 80 ∷ wait true (1 ∷ []) [] ∷ Reached 2 ∷ wait true (1 ∷ 2 ∷ []) (2 ∷ []) ∷ CanWrite 2 ∷ Asked 2 text4 ∷ wait true (1 ∷ 2 ∷ []) [] ∷ CanRead 2 ∷ Got 2 text5 ∷ Began (Draft text6) ∷ Did (Draft text6) true ∷ Began SyncDraft ∷ Did SyncDraft true ∷ Began (Publish text7) ∷ Did (Publish text7) true ∷ Began (Write text7 12288 (codes "hello")) ∷ Did (Write text7 12288 (codes "hello")) true ∷ Began (Sync text7) ∷ Did (Sync text7) true ∷ Began (Write text7 8192 ((1 ∷ []))) ∷ Did (Write text7 8192 ((1 ∷ []))) true ∷ Began (Sync text7) ∷ Did (Sync text7) true ∷ Noted (Kept (codes "http://h/a") (codes "\"x\"") 5 5) ∷ Noted (Taken 1 0 (Hit 0 5)) ∷ wait true (1 ∷ 2 ∷ []) (1 ∷ []) ∷ CanWrite 1 ∷ Said 1 154 text8 ∷ wait true (1 ∷ 2 ∷ []) (1 ∷ []) ∷ CanWrite 1 ∷ Said 1 5 (codes "hello") ∷ wait true (1 ∷ 2 ∷ []) [] ∷ Clock 784111787 ∷ wait true (1 ∷ 2 ∷ []) [] ∷ Opened 3 ∷ wait true (1 ∷ 2 ∷ 3 ∷ []) [] ∷ CanRead 3 ∷ []

abbrev text10 : Bytes
text10 = (codes "HTTP/1.1 200 OK\r\netag: \"x\"\r\ndate: Sun, 06 Nov 1994 08:49:37 GMT\r\ncache-control: max-age=60\r\nage: 10\r\nvia: 1.1 polipo\r\ncontent-length: 5\r\nconnection: keep-alive\r\n\r\n")

abbrev text11 : Bytes
text11 = (codes "GET http://h/a HTTP/1.1\r\nRange: bytes=1-3\r\n\r\n")

abbrev text12 : Bytes
text12 = (codes "HTTP/1.1 206 Partial Content\r\netag: \"x\"\r\ndate: Sun, 06 Nov 1994 08:49:37 GMT\r\ncache-control: max-age=60\r\nage: 10\r\nvia: 1.1 polipo\r\ncontent-range: bytes 1-3/5\r\ncontent-length: 3\r\nconnection: keep-alive\r\n\r\n")

abbrev text13 : Bytes
text13 = (codes "GET http://h/a HTTP/1.1\r\nRange: bytes=5-\r\n\r\n")

abbrev text14 : Bytes
text14 = (codes "HTTP/1.1 416 Requested Range Not Satisfiable\r\ncontent-range: bytes */5\r\ncontent-type: text/plain\r\ncontent-length: 36\r\nconnection: keep-alive\r\n\r\n416 Requested Range Not Satisfiable\n")

abbrev text15 : Bytes
text15 = (codes "HEAD http://h/a HTTP/1.1\r\n\r\n")

abbrev text16 : Bytes
text16 = (codes "GET http://h/a HTTP/1.1\r\nIf-None-Match: \"x\"\r\n\r\n")

abbrev text17 : Bytes
text17 = (codes "GET http://h/a HTTP/1.1\r\nIf-None-Match: \"y\"\r\n\r\n")

abbrev front2 : Log
front2 = Woke [] ∷ Rooted text2 ∷ Listed true ∷ Listens 8123 true ∷ wait true [] [] ∷ Clock 784111777 ∷ wait true [] [] ∷ Opened 1 ∷ wait true (1 ∷ []) [] ∷ CanRead 1 ∷ Heard 1 text3 ∷ Noted (Taken 1 0 Fetch) ∷ Dialled 2 (codes "h") 80 ∷ wait true (1 ∷ []) [] ∷ Reached 2 ∷ wait true (1 ∷ 2 ∷ []) (2 ∷ []) ∷ CanWrite 2 ∷ Asked 2 text4 ∷ wait true (1 ∷ 2 ∷ []) [] ∷ CanRead 2 ∷ Got 2 text5 ∷ Began (Draft text6) ∷ Did (Draft text6) true ∷ Began SyncDraft ∷ Did SyncDraft true ∷ Began (Publish text7) ∷ Did (Publish text7) true ∷ Began (Write text7 12288 (codes "hello")) ∷ Did (Write text7 12288 (codes "hello")) true ∷ Began (Sync text7) ∷ Did (Sync text7) true ∷ Began (Write text7 8192 ((1 ∷ []))) ∷ Did (Write text7 8192 ((1 ∷ []))) true ∷ Began (Sync text7) ∷ Did (Sync text7) true ∷ Noted (Kept (codes "http://h/a") (codes "\"x\"") 5 5) ∷ Noted (Taken 1 0 (Hit 0 5)) ∷ wait true (1 ∷ 2 ∷ []) (1 ∷ []) ∷ CanWrite 1 ∷ Said 1 154 text8 ∷ wait true (1 ∷ 2 ∷ []) (1 ∷ []) ∷ CanWrite 1 ∷ Said 1 5 (codes "hello") ∷ wait true (1 ∷ 2 ∷ []) [] ∷ []

abbrev text18 : Bytes
text18 = (codes "GET /a HTTP/1.1\r\nhost: h\r\nif-none-match: \"x\"\r\nvia: 1.1 polipo\r\n\r\n")

abbrev text19 : Bytes
text19 = (codes "HTTP/1.1 304 Not Modified\r\nDate: Sun, 06 Nov 1994 08:50:38 GMT\r\nCache-Control: max-age=60\r\n\r\n")

abbrev text20 : Bytes
text20 = (codes "HTTP/1.1 200 OK\r\netag: \"x\"\r\ndate: Sun, 06 Nov 1994 08:50:38 GMT\r\ncache-control: max-age=60\r\nage: 0\r\nvia: 1.1 polipo\r\ncontent-length: 5\r\nconnection: keep-alive\r\n\r\n")

abbrev text21 : Bytes
text21 = (codes "HTTP/1.1 200 OK\r\nETag: W/\"x\"\r\nContent-Length: 5\r\n\r\nhello")

abbrev text22 : Bytes
text22 = (codes "HTTP/1.1 200 OK\r\netag: W/\"x\"\r\nvia: 1.1 polipo\r\ncontent-length: 5\r\nconnection: keep-alive\r\n\r\n")

abbrev text23 : Bytes
text23 = (codes "GET http://h/a HTTP/1.1\r\nCache-Control: only-if-cached\r\n\r\n")

abbrev text24 : Bytes
text24 = (codes "HTTP/1.1 504 Gateway Timeout\r\ncontent-type: text/plain\r\ncontent-length: 20\r\nconnection: keep-alive\r\n\r\n504 Gateway Timeout\n")

abbrev text25 : Bytes
text25 = (codes "HTTP/1.1 200 OK\r\nETag: W/\"x\"\r\nContent-Length: 5\r\n\r\nhello" ++ replicate 12232 0)

abbrev text26 : Bytes
text26 = (codes "HTTP/1.1 200 OK\r\nETag: \"x\"\r\nContent-Length: 10\r\n\r\nhello w")

abbrev text27 : Bytes
text27 = (codes "HTTP/1.1 200 OK\r\netag: \"x\"\r\ndate: Sun, 06 Nov 1994 08:49:37 GMT\r\nvia: 1.1 polipo\r\ncontent-length: 10\r\nconnection: keep-alive\r\n\r\n")

abbrev front3 : Log
front3 = Woke [] ∷ Rooted text2 ∷ Listed true ∷ Listens 8123 true ∷ wait true [] [] ∷ Clock 784111777 ∷ wait true [] [] ∷ Opened 1 ∷ wait true (1 ∷ []) [] ∷ CanRead 1 ∷ Heard 1 text3 ∷ Noted (Taken 1 0 Fetch) ∷ Dialled 2 (codes "h") 80 ∷ wait true (1 ∷ []) [] ∷ Reached 2 ∷ wait true (1 ∷ 2 ∷ []) (2 ∷ []) ∷ CanWrite 2 ∷ Asked 2 text4 ∷ wait true (1 ∷ 2 ∷ []) [] ∷ CanRead 2 ∷ Got 2 text26 ∷ Noted (Taken 1 0 (Part 0 10)) ∷ wait true (1 ∷ 2 ∷ []) (1 ∷ []) ∷ CanWrite 1 ∷ Said 1 128 text27 ∷ wait true (1 ∷ 2 ∷ []) (1 ∷ []) ∷ CanWrite 1 ∷ Said 1 7 (codes "hello w") ∷ wait true (1 ∷ 2 ∷ []) [] ∷ CanRead 2 ∷ Ended 2 ∷ Dropped 2 ∷ Dialled 3 (codes "h") 80 ∷ wait true (1 ∷ []) [] ∷ []

abbrev text28 : Bytes
text28 = (codes "GET /a HTTP/1.1\r\nhost: h\r\nrange: bytes=7-9\r\nif-range: \"x\"\r\nvia: 1.1 polipo\r\n\r\n")

abbrev text29 : Bytes
text29 = (codes "HTTP/1.1 206 Partial Content\r\nETag: \"x\"\r\nContent-Range: bytes 7-9/10\r\nContent-Length: 3\r\n\r\norl")

abbrev front4 : Log
front4 = Woke [] ∷ Rooted text2 ∷ Listed true ∷ Listens 8123 true ∷ wait true [] [] ∷ Clock 784111777 ∷ wait true [] [] ∷ Opened 1 ∷ wait true (1 ∷ []) [] ∷ CanRead 1 ∷ Heard 1 text3 ∷ Noted (Taken 1 0 Fetch) ∷ Dialled 2 (codes "h") 80 ∷ wait true (1 ∷ []) [] ∷ Opened 3 ∷ wait true (1 ∷ 3 ∷ []) [] ∷ CanRead 3 ∷ Heard 3 text3 ∷ []

row8 : fault_from 0 (start (record { words = (codes "diskRun=1") ∷ text0 ∷ text1 ∷ []; faults = 0 } ∷ [])) (front0 ++ Opened 1 ∷ wait true (1 ∷ []) [] ∷ CanRead 1 ∷ Heard 1 text3 ∷ Noted (Taken 1 0 Fetch) ∷ Dialled 2 (codes "h") 80 ∷ wait true (1 ∷ []) [] ∷ Reached 2 ∷ wait true (1 ∷ 2 ∷ []) (2 ∷ []) ∷ CanWrite 2 ∷ Asked 2 text4 ∷ wait true (1 ∷ 2 ∷ []) [] ∷ CanRead 2 ∷ Got 2 text5 ∷ Began (Draft text6) ∷ Did (Draft text6) true ∷ Began SyncDraft ∷ Did SyncDraft true ∷ Began (Publish text7) ∷ Did (Publish text7) true ∷ Began (Write text7 12288 (codes "hello")) ∷ Did (Write text7 12288 (codes "hello")) true ∷ Began (Sync text7) ∷ Did (Sync text7) true ∷ Began (Write text7 8192 ((1 ∷ []))) ∷ Did (Write text7 8192 ((1 ∷ []))) true ∷ Began (Sync text7) ∷ Did (Sync text7) true ∷ Noted (Kept (codes "http://h/a") (codes "\"x\"") 5 5) ∷ Noted (Taken 1 0 (Hit 0 5)) ∷ wait true (1 ∷ 2 ∷ []) (1 ∷ []) ∷ CanWrite 1 ∷ Said 1 154 text8 ∷ wait true (1 ∷ 2 ∷ []) (1 ∷ []) ∷ CanWrite 1 ∷ Said 1 5 (codes "hello") ∷ wait true (1 ∷ 2 ∷ []) [] ∷ []) ≡ None
unfolding judging
row8 = refl

row11 : fault_from 0 (start (record { words = (codes "diskRun=1") ∷ text0 ∷ text1 ∷ []; faults = 0 } ∷ [])) (front0 ++ Opened 1 ∷ wait true (1 ∷ []) [] ∷ CanRead 1 ∷ Heard 1 text3 ∷ Noted (Taken 1 0 (Hit 0 5)) ∷ []) ≡ Some (record { at = 11; rule = WrongDecision })
unfolding judging
row11 = refl

row17 : fault_from 0 (start (record { words = (codes "diskRun=1") ∷ text0 ∷ text1 ∷ []; faults = 0 } ∷ [])) (front0 ++ Opened 1 ∷ wait true (1 ∷ []) [] ∷ CanRead 1 ∷ Heard 1 text3 ∷ Noted (Taken 1 0 Pass) ∷ []) ≡ Some (record { at = 11; rule = WrongDecision })
unfolding judging
row17 = refl

row23 : fault_from 0 (start (record { words = (codes "diskRun=1") ∷ text0 ∷ text1 ∷ []; faults = 0 } ∷ [])) (front0 ++ Opened 1 ∷ wait true (1 ∷ []) [] ∷ CanRead 1 ∷ Heard 1 text3 ∷ Noted (Taken 1 0 (Refuse 504)) ∷ []) ≡ Some (record { at = 11; rule = WrongDecision })
unfolding judging
row23 = refl

row29 : fault_from 0 (start (record { words = (codes "diskRun=1") ∷ text0 ∷ text1 ∷ []; faults = 0 } ∷ [])) (front0 ++ Opened 1 ∷ wait true (1 ∷ []) [] ∷ CanRead 1 ∷ Heard 1 text3 ∷ Noted (Taken 1 0 Fetch) ∷ Dialled 2 (codes "h") 80 ∷ wait true (1 ∷ []) [] ∷ Reached 2 ∷ wait true (1 ∷ 2 ∷ []) (2 ∷ []) ∷ CanWrite 2 ∷ Asked 2 text4 ∷ wait true (1 ∷ 2 ∷ []) [] ∷ CanRead 2 ∷ Got 2 text5 ∷ Began (Draft text6) ∷ Did (Draft text6) true ∷ Began SyncDraft ∷ Did SyncDraft true ∷ Began (Publish text7) ∷ Did (Publish text7) true ∷ Began (Write text7 12288 (codes "hello")) ∷ Did (Write text7 12288 (codes "hello")) true ∷ Began (Sync text7) ∷ Did (Sync text7) true ∷ Began (Write text7 8192 ((1 ∷ []))) ∷ Did (Write text7 8192 ((1 ∷ []))) true ∷ Began (Sync text7) ∷ Did (Sync text7) true ∷ Noted (Kept (codes "http://h/a") (codes "\"x\"") 5 5) ∷ Noted (Taken 1 0 Relay) ∷ []) ≡ Some (record { at = 36; rule = WrongDecision })
unfolding judging
row29 = refl

row34 : fault_from 0 (start (record { words = (codes "diskRun=1") ∷ text0 ∷ text1 ∷ []; faults = 0 } ∷ [])) (front0 ++ Opened 1 ∷ wait true (1 ∷ []) [] ∷ CanRead 1 ∷ Heard 1 text3 ∷ Noted (Taken 1 0 Fetch) ∷ Dialled 2 (codes "h") 80 ∷ wait true (1 ∷ []) [] ∷ Reached 2 ∷ wait true (1 ∷ 2 ∷ []) (2 ∷ []) ∷ CanWrite 2 ∷ Asked 2 text4 ∷ wait true (1 ∷ 2 ∷ []) [] ∷ CanRead 2 ∷ Got 2 text5 ∷ Began (Draft text6) ∷ Did (Draft text6) true ∷ Began SyncDraft ∷ Did SyncDraft true ∷ Began (Publish text7) ∷ Did (Publish text7) true ∷ Began (Write text7 12288 (codes "hello")) ∷ Did (Write text7 12288 (codes "hello")) true ∷ Began (Sync text7) ∷ Did (Sync text7) true ∷ Began (Write text7 8192 ((1 ∷ []))) ∷ Did (Write text7 8192 ((1 ∷ []))) true ∷ Began (Sync text7) ∷ Did (Sync text7) true ∷ Noted (Kept (codes "http://h/a") (codes "\"x\"") 5 5) ∷ Noted (Taken 1 0 (Hit 0 4)) ∷ []) ≡ Some (record { at = 36; rule = WrongDecision })
unfolding judging
row34 = refl

row39 : fault_from 0 (start (record { words = (codes "diskRun=1") ∷ text0 ∷ text1 ∷ []; faults = 0 } ∷ [])) (front0 ++ Opened 1 ∷ wait true (1 ∷ []) [] ∷ CanRead 1 ∷ Heard 1 text3 ∷ Noted (Taken 1 0 Fetch) ∷ Dialled 2 (codes "h") 80 ∷ wait true (1 ∷ []) [] ∷ Reached 2 ∷ wait true (1 ∷ 2 ∷ []) (2 ∷ []) ∷ CanWrite 2 ∷ Asked 2 text4 ∷ wait true (1 ∷ 2 ∷ []) [] ∷ CanRead 2 ∷ Got 2 text5 ∷ Began (Draft text6) ∷ Did (Draft text6) true ∷ Began SyncDraft ∷ Did SyncDraft true ∷ Began (Publish text7) ∷ Did (Publish text7) true ∷ Began (Write text7 12288 (codes "hello")) ∷ Did (Write text7 12288 (codes "hello")) true ∷ Began (Sync text7) ∷ Did (Sync text7) true ∷ Began (Write text7 8192 ((1 ∷ []))) ∷ Did (Write text7 8192 ((1 ∷ []))) true ∷ Began (Sync text7) ∷ Did (Sync text7) true ∷ Noted (Kept (codes "http://h/a") (codes "\"x\"") 5 5) ∷ wait true (1 ∷ 2 ∷ []) [] ∷ []) ≡ Some (record { at = 36; rule = StepUnfinished })
unfolding judging
row39 = refl

row44 : fault_from 0 (start (record { words = (codes "diskRun=1") ∷ text0 ∷ text1 ∷ []; faults = 0 } ∷ [])) (front0 ++ Opened 1 ∷ wait true (1 ∷ []) [] ∷ CanRead 1 ∷ Heard 1 text3 ∷ Noted (Taken 1 0 Fetch) ∷ Dialled 2 (codes "h") 80 ∷ wait true (1 ∷ []) [] ∷ Reached 2 ∷ wait true (1 ∷ 2 ∷ []) (2 ∷ []) ∷ CanWrite 2 ∷ Asked 2 text4 ∷ wait true (1 ∷ 2 ∷ []) [] ∷ CanRead 2 ∷ Got 2 text5 ∷ Began (Draft text6) ∷ Did (Draft text6) true ∷ Began SyncDraft ∷ Did SyncDraft true ∷ Began (Publish text7) ∷ Did (Publish text7) true ∷ Began (Write text7 12288 (codes "hello")) ∷ Did (Write text7 12288 (codes "hello")) true ∷ Began (Sync text7) ∷ Did (Sync text7) true ∷ Began (Write text7 8192 ((1 ∷ []))) ∷ Did (Write text7 8192 ((1 ∷ []))) true ∷ Began (Sync text7) ∷ Did (Sync text7) true ∷ Noted (Kept (codes "http://h/a") (codes "\"x\"") 5 5) ∷ Noted (Taken 1 0 (Hit 0 5)) ∷ wait true (1 ∷ 2 ∷ []) (1 ∷ []) ∷ CanWrite 1 ∷ Said 1 100 text9 ∷ []) ≡ Some (record { at = 39; rule = WrongReply })
unfolding judging
row44 = refl

row62 : fault_from 0 (start (record { words = (codes "diskRun=1") ∷ text0 ∷ text1 ∷ []; faults = 0 } ∷ [])) (front1 ++ Heard 3 text3 ∷ Noted (Taken 3 0 (Hit 0 5)) ∷ wait true (1 ∷ 2 ∷ 3 ∷ []) (3 ∷ []) ∷ CanWrite 3 ∷ Said 3 163 text10 ∷ wait true (1 ∷ 2 ∷ 3 ∷ []) (3 ∷ []) ∷ CanWrite 3 ∷ Said 3 5 (codes "hello") ∷ wait true (1 ∷ 2 ∷ 3 ∷ []) [] ∷ []) ≡ None
unfolding judging
row62 = refl

row73 : fault_from 0 (start (record { words = (codes "diskRun=1") ∷ text0 ∷ text1 ∷ []; faults = 0 } ∷ [])) (front1 ++ Heard 3 text11 ∷ Noted (Taken 3 0 (Hit 1 4)) ∷ wait true (1 ∷ 2 ∷ 3 ∷ []) (3 ∷ []) ∷ CanWrite 3 ∷ Said 3 204 text12 ∷ wait true (1 ∷ 2 ∷ 3 ∷ []) (3 ∷ []) ∷ CanWrite 3 ∷ Said 3 3 (codes "ell") ∷ wait true (1 ∷ 2 ∷ 3 ∷ []) [] ∷ []) ≡ None
unfolding judging
row73 = refl

row84 : fault_from 0 (start (record { words = (codes "diskRun=1") ∷ text0 ∷ text1 ∷ []; faults = 0 } ∷ [])) (front1 ++ Heard 3 text13 ∷ Noted (Taken 3 0 Unsatisfiable) ∷ wait true (1 ∷ 2 ∷ 3 ∷ []) (3 ∷ []) ∷ CanWrite 3 ∷ Said 3 180 text14 ∷ wait true (1 ∷ 2 ∷ 3 ∷ []) [] ∷ []) ≡ None
unfolding judging
row84 = refl

row92 : fault_from 0 (start (record { words = (codes "diskRun=1") ∷ text0 ∷ text1 ∷ []; faults = 0 } ∷ [])) (front1 ++ Heard 3 text3 ∷ Noted (Taken 3 0 (Hit 0 5)) ∷ wait true (1 ∷ 2 ∷ 3 ∷ []) (3 ∷ []) ∷ CanWrite 3 ∷ Said 3 154 text8 ∷ []) ≡ Some (record { at = 53; rule = WrongReply })
unfolding judging
row92 = refl

row100 : fault_from 0 (start (record { words = (codes "diskRun=1") ∷ text0 ∷ text1 ∷ []; faults = 0 } ∷ [])) (front1 ++ Heard 3 text3 ∷ Noted (Taken 3 0 Fetch) ∷ []) ≡ Some (record { at = 50; rule = WrongDecision })
unfolding judging
row100 = refl

row105 : fault_from 0 (start (record { words = (codes "diskRun=1") ∷ text0 ∷ text1 ∷ []; faults = 0 } ∷ [])) (front1 ++ Heard 3 text3 ∷ Noted (Taken 3 0 Validate) ∷ []) ≡ Some (record { at = 50; rule = WrongDecision })
unfolding judging
row105 = refl

row110 : fault_from 0 (start (record { words = (codes "diskRun=1") ∷ text0 ∷ text1 ∷ []; faults = 0 } ∷ [])) (front1 ++ Heard 3 text3 ∷ Noted (Taken 3 0 (Hit 0 5)) ∷ wait true (1 ∷ 2 ∷ 3 ∷ []) [] ∷ []) ≡ Some (record { at = 51; rule = ClientForgotten })
unfolding judging
row110 = refl

row116 : fault_from 0 (start (record { words = (codes "diskRun=1") ∷ text0 ∷ text1 ∷ []; faults = 0 } ∷ [])) (front1 ++ Heard 3 text3 ∷ Noted (Taken 3 0 (Hit 0 5)) ∷ Dialled 4 (codes "h") 80 ∷ []) ≡ Some (record { at = 51; rule = NotToBeDialled })
unfolding judging
row116 = refl

row122 : fault_from 0 (start (record { words = (codes "diskRun=1") ∷ text0 ∷ text1 ∷ []; faults = 0 } ∷ [])) (front1 ++ Heard 3 text3 ∷ Noted (Taken 3 0 (Hit 0 5)) ∷ wait true (1 ∷ 2 ∷ 3 ∷ []) (2 ∷ 3 ∷ []) ∷ []) ≡ Some (record { at = 51; rule = ConnectionForgotten })
unfolding judging
row122 = refl

row128 : fault_from 0 (start (record { words = (codes "diskRun=1") ∷ text0 ∷ text1 ∷ []; faults = 0 } ∷ [])) (front1 ++ Heard 3 text11 ∷ Noted (Taken 3 0 (Hit 1 4)) ∷ wait true (1 ∷ 2 ∷ 3 ∷ []) (3 ∷ []) ∷ CanWrite 3 ∷ Said 3 204 text12 ∷ wait true (1 ∷ 2 ∷ 3 ∷ []) (3 ∷ []) ∷ CanWrite 3 ∷ Said 3 3 (codes "hel") ∷ []) ≡ Some (record { at = 56; rule = WrongReply })
unfolding judging
row128 = refl

row139 : fault_from 0 (start (record { words = (codes "diskRun=1") ∷ text0 ∷ text1 ∷ []; faults = 0 } ∷ [])) (front1 ++ Heard 3 text11 ∷ Noted (Taken 3 0 (Hit 1 4)) ∷ wait true (1 ∷ 2 ∷ 3 ∷ []) (3 ∷ []) ∷ CanWrite 3 ∷ Said 3 204 text12 ∷ wait true (1 ∷ 2 ∷ 3 ∷ []) (3 ∷ []) ∷ CanWrite 3 ∷ Said 3 4 (codes "ello") ∷ []) ≡ Some (record { at = 56; rule = WrongReply })
unfolding judging
row139 = refl

row150 : fault_from 0 (start (record { words = (codes "diskRun=1") ∷ text0 ∷ text1 ∷ []; faults = 0 } ∷ [])) (front1 ++ Heard 3 text11 ∷ Noted (Taken 3 0 (Hit 0 5)) ∷ []) ≡ Some (record { at = 50; rule = WrongDecision })
unfolding judging
row150 = refl

row155 : fault_from 0 (start (record { words = (codes "diskRun=1") ∷ text0 ∷ text1 ∷ []; faults = 0 } ∷ [])) (front1 ++ Heard 3 text13 ∷ Noted (Taken 3 0 (Hit 0 5)) ∷ []) ≡ Some (record { at = 50; rule = WrongDecision })
unfolding judging
row155 = refl

row160 : fault_from 0 (start (record { words = (codes "diskRun=1") ∷ text0 ∷ text1 ∷ []; faults = 0 } ∷ [])) (front1 ++ Heard 3 text15 ∷ Noted (Taken 3 0 (Hit 0 5)) ∷ []) ≡ Some (record { at = 50; rule = WrongDecision })
unfolding judging
row160 = refl

row165 : fault_from 0 (start (record { words = (codes "diskRun=1") ∷ text0 ∷ text1 ∷ []; faults = 0 } ∷ [])) (front1 ++ Heard 3 text15 ∷ Noted (Taken 3 0 Head) ∷ wait true (1 ∷ 2 ∷ 3 ∷ []) (3 ∷ []) ∷ CanWrite 3 ∷ Said 3 163 text10 ∷ wait true (1 ∷ 2 ∷ 3 ∷ []) [] ∷ CanWrite 3 ∷ Said 3 5 (codes "hello") ∷ []) ≡ Some (record { at = 56; rule = WrongReply })
unfolding judging
row165 = refl

row176 : fault_from 0 (start (record { words = (codes "diskRun=1") ∷ text0 ∷ text1 ∷ []; faults = 0 } ∷ [])) (front1 ++ Heard 3 text16 ∷ Noted (Taken 3 0 (Hit 0 5)) ∷ []) ≡ Some (record { at = 50; rule = WrongDecision })
unfolding judging
row176 = refl

row181 : fault_from 0 (start (record { words = (codes "diskRun=1") ∷ text0 ∷ text1 ∷ []; faults = 0 } ∷ [])) (front1 ++ Heard 3 text17 ∷ Noted (Taken 3 0 NotModified) ∷ []) ≡ Some (record { at = 50; rule = WrongDecision })
unfolding judging
row181 = refl

row203 : fault_from 0 (start (record { words = (codes "diskRun=1") ∷ text0 ∷ text1 ∷ []; faults = 0 } ∷ [])) (front2 ++ Clock 784111838 ∷ Dropped 2 ∷ wait true (1 ∷ []) [] ∷ Opened 3 ∷ wait true (1 ∷ 3 ∷ []) [] ∷ CanRead 3 ∷ Heard 3 text3 ∷ Noted (Taken 3 0 Validate) ∷ Dialled 4 (codes "h") 80 ∷ wait true (1 ∷ []) [] ∷ Reached 4 ∷ wait true (1 ∷ 4 ∷ []) (4 ∷ []) ∷ CanWrite 4 ∷ Asked 4 text18 ∷ wait true (1 ∷ 4 ∷ []) [] ∷ CanRead 4 ∷ Got 4 text19 ∷ Noted (Taken 3 0 (Hit 0 5)) ∷ wait true (1 ∷ 4 ∷ 3 ∷ []) (3 ∷ []) ∷ CanWrite 3 ∷ Said 3 162 text20 ∷ wait true (1 ∷ 4 ∷ 3 ∷ []) (3 ∷ []) ∷ CanWrite 3 ∷ Said 3 5 (codes "hello") ∷ wait true (1 ∷ 4 ∷ 3 ∷ []) [] ∷ []) ≡ None
unfolding judging
row203 = refl

row215 : fault_from 0 (start (record { words = (codes "diskRun=1") ∷ text0 ∷ text1 ∷ []; faults = 0 } ∷ [])) (front2 ++ Clock 784111838 ∷ Dropped 2 ∷ wait true (1 ∷ []) [] ∷ Opened 3 ∷ wait true (1 ∷ 3 ∷ []) [] ∷ CanRead 3 ∷ Heard 3 text3 ∷ Noted (Taken 3 0 (Hit 0 5)) ∷ []) ≡ Some (record { at = 51; rule = WrongDecision })
unfolding judging
row215 = refl

row220 : fault_from 0 (start (record { words = (codes "diskRun=1") ∷ text0 ∷ text1 ∷ []; faults = 0 } ∷ [])) (front2 ++ Clock 784111838 ∷ Dropped 2 ∷ wait true (1 ∷ []) [] ∷ Opened 3 ∷ wait true (1 ∷ 3 ∷ []) [] ∷ CanRead 3 ∷ Heard 3 text3 ∷ Noted (Taken 3 0 Fetch) ∷ []) ≡ Some (record { at = 51; rule = WrongDecision })
unfolding judging
row220 = refl

row225 : fault_from 0 (start (record { words = (codes "diskRun=1") ∷ text0 ∷ text1 ∷ []; faults = 0 } ∷ [])) (front2 ++ Clock 784111838 ∷ Dropped 2 ∷ wait true (1 ∷ []) [] ∷ Opened 3 ∷ wait true (1 ∷ 3 ∷ []) [] ∷ CanRead 3 ∷ Heard 3 text3 ∷ Noted (Taken 3 0 Validate) ∷ Dialled 4 (codes "h") 80 ∷ wait true (1 ∷ []) [] ∷ Reached 4 ∷ wait true (1 ∷ 4 ∷ []) (4 ∷ []) ∷ CanWrite 4 ∷ Asked 4 text4 ∷ []) ≡ Some (record { at = 57; rule = WrongAsk })
unfolding judging
row225 = refl

row236 : fault_from 0 (start (record { words = (codes "diskRun=1") ∷ text0 ∷ text1 ∷ []; faults = 0 } ∷ [])) (front2 ++ Clock 784111838 ∷ Dropped 2 ∷ wait true (1 ∷ []) [] ∷ Opened 3 ∷ wait true (1 ∷ 3 ∷ []) [] ∷ CanRead 3 ∷ Heard 3 text3 ∷ Noted (Taken 3 0 Validate) ∷ Dialled 4 (codes "h") 80 ∷ wait true (1 ∷ []) [] ∷ Reached 4 ∷ wait true (1 ∷ 4 ∷ []) (4 ∷ []) ∷ CanWrite 4 ∷ Asked 4 text18 ∷ wait true (1 ∷ 4 ∷ []) [] ∷ CanRead 4 ∷ Got 4 text19 ∷ Noted (Taken 3 0 Validate) ∷ []) ≡ Some (record { at = 61; rule = WrongDecision })
unfolding judging
row236 = refl

row242 : fault_from 0 (start (record { words = (codes "diskRun=1") ∷ text0 ∷ text1 ∷ []; faults = 0 } ∷ [])) (front2 ++ Clock 784111838 ∷ Dropped 2 ∷ wait true (1 ∷ []) [] ∷ Opened 3 ∷ wait true (1 ∷ 3 ∷ []) [] ∷ CanRead 3 ∷ Heard 3 text3 ∷ Noted (Taken 3 0 Validate) ∷ Dialled 4 (codes "h") 80 ∷ wait true (1 ∷ []) [] ∷ Reached 4 ∷ wait true (1 ∷ 4 ∷ []) (4 ∷ []) ∷ CanWrite 4 ∷ Asked 4 text18 ∷ wait true (1 ∷ 4 ∷ []) [] ∷ CanRead 4 ∷ Got 4 text19 ∷ Noted (Taken 3 0 (Hit 0 5)) ∷ wait true (1 ∷ 4 ∷ 3 ∷ []) (3 ∷ []) ∷ CanWrite 3 ∷ Said 3 154 text8 ∷ []) ≡ Some (record { at = 64; rule = WrongReply })
unfolding judging
row242 = refl

row261 : fault_from 0 (start (record { words = (codes "diskRun=1") ∷ text0 ∷ text1 ∷ []; faults = 0 } ∷ [])) (front0 ++ Opened 1 ∷ wait true (1 ∷ []) [] ∷ CanRead 1 ∷ Heard 1 text3 ∷ Noted (Taken 1 0 Fetch) ∷ Dialled 2 (codes "h") 80 ∷ wait true (1 ∷ []) [] ∷ Reached 2 ∷ wait true (1 ∷ 2 ∷ []) (2 ∷ []) ∷ CanWrite 2 ∷ Asked 2 text4 ∷ wait true (1 ∷ 2 ∷ []) [] ∷ CanRead 2 ∷ Got 2 text21 ∷ Noted (Taken 1 0 Relay) ∷ wait true (1 ∷ 2 ∷ []) (1 ∷ []) ∷ CanWrite 1 ∷ Said 1 92 text22 ∷ wait true (1 ∷ 2 ∷ []) (1 ∷ []) ∷ CanWrite 1 ∷ Said 1 5 (codes "hello") ∷ wait true (1 ∷ 2 ∷ []) [] ∷ []) ≡ None
unfolding judging
row261 = refl

row274 : fault_from 0 (start (record { words = (codes "diskRun=1") ∷ text0 ∷ text1 ∷ []; faults = 0 } ∷ [])) (front0 ++ Opened 1 ∷ wait true (1 ∷ []) [] ∷ CanRead 1 ∷ Heard 1 text23 ∷ Noted (Taken 1 0 (Refuse 504)) ∷ wait true (1 ∷ []) (1 ∷ []) ∷ CanWrite 1 ∷ Said 1 122 text24 ∷ wait true (1 ∷ []) [] ∷ []) ≡ None
unfolding judging
row274 = refl

row283 : fault_from 0 (start (record { words = (codes "diskRun=1") ∷ text0 ∷ text1 ∷ []; faults = 0 } ∷ [])) (front0 ++ Opened 1 ∷ wait true (1 ∷ []) [] ∷ CanRead 1 ∷ Heard 1 text23 ∷ Noted (Taken 1 0 Fetch) ∷ []) ≡ Some (record { at = 11; rule = WrongDecision })
unfolding judging
row283 = refl

row289 : fault_from 0 (start (record { words = (codes "diskRun=1") ∷ text0 ∷ text1 ∷ []; faults = 0 } ∷ [])) (front0 ++ Opened 1 ∷ wait true (1 ∷ []) [] ∷ CanRead 1 ∷ Heard 1 text3 ∷ Noted (Taken 1 0 Fetch) ∷ Dialled 2 (codes "h") 80 ∷ wait true (1 ∷ []) [] ∷ Reached 2 ∷ wait true (1 ∷ 2 ∷ []) (2 ∷ []) ∷ CanWrite 2 ∷ Asked 2 text4 ∷ wait true (1 ∷ 2 ∷ []) [] ∷ CanRead 2 ∷ Got 2 text21 ∷ Noted (Taken 1 0 (Hit 0 5)) ∷ []) ≡ Some (record { at = 21; rule = WrongDecision })
unfolding judging
row289 = refl

row296 : fault_from 0 (start (record { words = (codes "diskRun=1") ∷ text0 ∷ text1 ∷ []; faults = 0 } ∷ [])) (front0 ++ Opened 1 ∷ wait true (1 ∷ []) [] ∷ CanRead 1 ∷ Heard 1 text3 ∷ Noted (Taken 1 0 Fetch) ∷ Dialled 2 (codes "h") 80 ∷ wait true (1 ∷ []) [] ∷ Reached 2 ∷ wait true (1 ∷ 2 ∷ []) (2 ∷ []) ∷ CanWrite 2 ∷ Asked 2 text4 ∷ wait true (1 ∷ 2 ∷ []) [] ∷ CanRead 2 ∷ Got 2 text21 ∷ Began (Draft text25) ∷ []) ≡ Some (record { at = 21; rule = WrongDiskOperation })
unfolding judging
row296 = refl

row303 : fault_from 0 (start (record { words = (codes "diskRun=1") ∷ text0 ∷ text1 ∷ []; faults = 0 } ∷ [])) (front0 ++ Opened 1 ∷ wait true (1 ∷ []) [] ∷ CanRead 1 ∷ Heard 1 text3 ∷ Noted (Taken 1 0 Fetch) ∷ Dialled 2 (codes "h") 80 ∷ wait true (1 ∷ []) [] ∷ Reached 2 ∷ wait true (1 ∷ 2 ∷ []) (2 ∷ []) ∷ CanWrite 2 ∷ Asked 2 text4 ∷ wait true (1 ∷ 2 ∷ []) [] ∷ CanRead 2 ∷ Got 2 text21 ∷ Noted (Taken 1 0 Relay) ∷ wait true (1 ∷ 2 ∷ []) (1 ∷ []) ∷ CanWrite 1 ∷ Said 1 92 text22 ∷ wait true (1 ∷ 2 ∷ []) (1 ∷ []) ∷ CanWrite 1 ∷ Said 1 5 (codes "hello") ∷ wait true (1 ∷ 2 ∷ []) [] ∷ CanRead 1 ∷ Heard 1 text3 ∷ Noted (Taken 1 1 (Hit 0 5)) ∷ []) ≡ Some (record { at = 31; rule = WrongDecision })
unfolding judging
row303 = refl

row359 : fault_from 0 (start (record { words = (codes "diskRun=1") ∷ text0 ∷ text1 ∷ []; faults = 0 } ∷ [])) (front3 ++ Reached 3 ∷ wait true (1 ∷ 3 ∷ []) (3 ∷ []) ∷ CanWrite 3 ∷ Asked 3 text28 ∷ wait true (1 ∷ 3 ∷ []) [] ∷ CanRead 3 ∷ Got 3 text29 ∷ wait true (1 ∷ 3 ∷ []) (1 ∷ []) ∷ CanWrite 1 ∷ Said 1 3 (codes "orl") ∷ wait true (1 ∷ 3 ∷ []) [] ∷ []) ≡ None
unfolding judging
row359 = refl

row365 : fault_from 0 (start (record { words = (codes "diskRun=1") ∷ text0 ∷ text1 ∷ []; faults = 0 } ∷ [])) (front3 ++ Broke 3 ∷ Dropped 3 ∷ Dialled 4 (codes "h") 80 ∷ wait true (1 ∷ []) [] ∷ Broke 4 ∷ Noted (Cut 1 Origin) ∷ Shut 1 ∷ Dropped 4 ∷ wait true [] [] ∷ []) ≡ None
unfolding judging
row365 = refl

row376 : fault_from 0 (start (record { words = (codes "diskRun=1") ∷ text0 ∷ text1 ∷ []; faults = 0 } ∷ [])) (front3 ++ Reached 3 ∷ wait true (1 ∷ 3 ∷ []) (3 ∷ []) ∷ CanWrite 3 ∷ Asked 3 text4 ∷ []) ≡ Some (record { at = 37; rule = WrongAsk })
unfolding judging
row376 = refl

row383 : fault_from 0 (start (record { words = (codes "diskRun=1") ∷ text0 ∷ text1 ∷ []; faults = 0 } ∷ [])) (front3 ++ Reached 3 ∷ wait true (1 ∷ 3 ∷ []) (3 ∷ []) ∷ CanWrite 3 ∷ Asked 3 text28 ∷ wait true (1 ∷ 3 ∷ []) [] ∷ CanRead 3 ∷ Got 3 text29 ∷ wait true (1 ∷ 3 ∷ []) (1 ∷ []) ∷ CanWrite 1 ∷ Said 1 3 (codes "OLD") ∷ []) ≡ Some (record { at = 43; rule = WrongReply })
unfolding judging
row383 = refl

row389 : fault_from 0 (start (record { words = (codes "diskRun=1") ∷ text0 ∷ text1 ∷ []; faults = 0 } ∷ [])) (front3 ++ Reached 3 ∷ wait true (1 ∷ 3 ∷ []) (3 ∷ []) ∷ CanWrite 3 ∷ Asked 3 text28 ∷ wait true (1 ∷ 3 ∷ []) [] ∷ CanRead 3 ∷ Got 3 text29 ∷ wait true (1 ∷ 3 ∷ []) (1 ∷ []) ∷ CanWrite 1 ∷ Said 1 2 (codes "rl") ∷ []) ≡ Some (record { at = 43; rule = WrongReply })
unfolding judging
row389 = refl

row395 : fault_from 0 (start (record { words = (codes "diskRun=1") ∷ text0 ∷ text1 ∷ []; faults = 0 } ∷ [])) (front3 ++ Broke 3 ∷ Noted (Cut 1 Origin) ∷ []) ≡ Some (record { at = 35; rule = WrongCut })
unfolding judging
row395 = refl

row400 : fault_from 0 (start (record { words = (codes "diskRun=1") ∷ text0 ∷ text1 ∷ []; faults = 0 } ∷ [])) (front3 ++ Broke 3 ∷ Dropped 3 ∷ Dialled 4 (codes "h") 80 ∷ wait true (1 ∷ []) [] ∷ Broke 4 ∷ Noted (Cut 1 Superseded) ∷ []) ≡ Some (record { at = 39; rule = WrongCut })
unfolding judging
row400 = refl

row409 : fault_from 0 (start (record { words = (codes "diskRun=1") ∷ text0 ∷ text1 ∷ []; faults = 0 } ∷ [])) (front3 ++ Broke 3 ∷ Dropped 3 ∷ wait true (1 ∷ []) [] ∷ []) ≡ Some (record { at = 36; rule = StepUnfinished })
unfolding judging
row409 = refl

row415 : fault_from 0 (start (record { words = (codes "diskRun=1") ∷ text0 ∷ text1 ∷ []; faults = 0 } ∷ [])) (front3 ++ Reached 3 ∷ wait true (1 ∷ 3 ∷ []) (3 ∷ []) ∷ CanWrite 3 ∷ Asked 3 text28 ∷ wait true (1 ∷ 3 ∷ []) [] ∷ CanRead 3 ∷ Got 3 text29 ∷ wait true (1 ∷ 3 ∷ []) [] ∷ []) ≡ Some (record { at = 41; rule = ClientForgotten })
unfolding judging
row415 = refl

row449 : fault_from 0 (start (record { words = (codes "diskRun=1") ∷ text0 ∷ text1 ∷ []; faults = 0 } ∷ [])) (front4 ++ wait true (1 ∷ 3 ∷ []) [] ∷ Reached 2 ∷ wait true (1 ∷ 2 ∷ 3 ∷ []) (2 ∷ []) ∷ CanWrite 2 ∷ Asked 2 text4 ∷ wait true (1 ∷ 2 ∷ 3 ∷ []) [] ∷ CanRead 2 ∷ Got 2 text5 ∷ Began (Draft text6) ∷ Did (Draft text6) true ∷ Began SyncDraft ∷ Did SyncDraft true ∷ Began (Publish text7) ∷ Did (Publish text7) true ∷ Began (Write text7 12288 (codes "hello")) ∷ Did (Write text7 12288 (codes "hello")) true ∷ Began (Sync text7) ∷ Did (Sync text7) true ∷ Began (Write text7 8192 ((1 ∷ []))) ∷ Did (Write text7 8192 ((1 ∷ []))) true ∷ Began (Sync text7) ∷ Did (Sync text7) true ∷ Noted (Kept (codes "http://h/a") (codes "\"x\"") 5 5) ∷ Noted (Taken 1 0 (Hit 0 5)) ∷ Noted (Taken 3 0 (Hit 0 5)) ∷ wait true (1 ∷ 2 ∷ 3 ∷ []) (1 ∷ 3 ∷ []) ∷ []) ≡ None
unfolding judging
row449 = refl

row455 : fault_from 0 (start (record { words = (codes "diskRun=1") ∷ text0 ∷ text1 ∷ []; faults = 0 } ∷ [])) (front4 ++ wait true (1 ∷ 3 ∷ []) [] ∷ Reached 2 ∷ wait true (1 ∷ 2 ∷ 3 ∷ []) (2 ∷ []) ∷ CanWrite 2 ∷ Asked 2 text4 ∷ wait true (1 ∷ 2 ∷ 3 ∷ []) [] ∷ CanRead 2 ∷ Got 2 text21 ∷ Noted (Taken 1 0 Relay) ∷ Noted (Taken 3 0 Fetch) ∷ wait true (1 ∷ 2 ∷ 3 ∷ []) (1 ∷ 2 ∷ []) ∷ []) ≡ None
unfolding judging
row455 = refl

row463 : fault_from 0 (start (record { words = (codes "diskRun=1") ∷ text0 ∷ text1 ∷ []; faults = 0 } ∷ [])) (front4 ++ Noted (Taken 3 0 Fetch) ∷ []) ≡ Some (record { at = 18; rule = WrongDecision })
unfolding judging
row463 = refl

row467 : fault_from 0 (start (record { words = (codes "diskRun=1") ∷ text0 ∷ text1 ∷ []; faults = 0 } ∷ [])) (front4 ++ Dialled 4 (codes "h") 80 ∷ []) ≡ Some (record { at = 18; rule = NotToBeDialled })
unfolding judging
row467 = refl

row471 : fault_from 0 (start (record { words = (codes "diskRun=1") ∷ text0 ∷ text1 ∷ []; faults = 0 } ∷ [])) (front4 ++ wait true (1 ∷ 3 ∷ []) [] ∷ Reached 2 ∷ wait true (1 ∷ 2 ∷ 3 ∷ []) (2 ∷ []) ∷ CanWrite 2 ∷ Asked 2 text4 ∷ wait true (1 ∷ 2 ∷ 3 ∷ []) [] ∷ CanRead 2 ∷ Got 2 text5 ∷ Began (Draft text6) ∷ Did (Draft text6) true ∷ Began SyncDraft ∷ Did SyncDraft true ∷ Began (Publish text7) ∷ Did (Publish text7) true ∷ Began (Write text7 12288 (codes "hello")) ∷ Did (Write text7 12288 (codes "hello")) true ∷ Began (Sync text7) ∷ Did (Sync text7) true ∷ Began (Write text7 8192 ((1 ∷ []))) ∷ Did (Write text7 8192 ((1 ∷ []))) true ∷ Began (Sync text7) ∷ Did (Sync text7) true ∷ Noted (Kept (codes "http://h/a") (codes "\"x\"") 5 5) ∷ Noted (Taken 1 0 (Hit 0 5)) ∷ Noted (Taken 3 0 (Hit 0 5)) ∷ wait true (1 ∷ 2 ∷ 3 ∷ []) (1 ∷ []) ∷ []) ≡ Some (record { at = 43; rule = ClientForgotten })
unfolding judging
row471 = refl

row478 : fault_from 0 (start (record { words = (codes "diskRun=1") ∷ text0 ∷ text1 ∷ []; faults = 0 } ∷ [])) (front4 ++ wait true (1 ∷ 3 ∷ []) [] ∷ Reached 2 ∷ wait true (1 ∷ 2 ∷ 3 ∷ []) (2 ∷ []) ∷ CanWrite 2 ∷ Asked 2 text4 ∷ wait true (1 ∷ 2 ∷ 3 ∷ []) [] ∷ CanRead 2 ∷ Got 2 text5 ∷ Began (Draft text6) ∷ Did (Draft text6) true ∷ Began SyncDraft ∷ Did SyncDraft true ∷ Began (Publish text7) ∷ Did (Publish text7) true ∷ Began (Write text7 12288 (codes "hello")) ∷ Did (Write text7 12288 (codes "hello")) true ∷ Began (Sync text7) ∷ Did (Sync text7) true ∷ Began (Write text7 8192 ((1 ∷ []))) ∷ Did (Write text7 8192 ((1 ∷ []))) true ∷ Began (Sync text7) ∷ Did (Sync text7) true ∷ Noted (Kept (codes "http://h/a") (codes "\"x\"") 5 5) ∷ Noted (Taken 3 0 (Hit 0 5)) ∷ []) ≡ Some (record { at = 41; rule = WrongDecision })
unfolding judging
row478 = refl

row483 : fault_from 0 (start (record { words = (codes "diskRun=1") ∷ text0 ∷ text1 ∷ []; faults = 0 } ∷ [])) (front4 ++ wait true (1 ∷ 3 ∷ []) [] ∷ Reached 2 ∷ wait true (1 ∷ 2 ∷ 3 ∷ []) (2 ∷ []) ∷ CanWrite 2 ∷ Asked 2 text4 ∷ wait true (1 ∷ 2 ∷ 3 ∷ []) [] ∷ CanRead 2 ∷ Got 2 text21 ∷ Noted (Taken 1 0 Relay) ∷ wait true (1 ∷ 2 ∷ 3 ∷ []) (1 ∷ []) ∷ []) ≡ Some (record { at = 27; rule = StepUnfinished })
unfolding judging
row483 = refl
