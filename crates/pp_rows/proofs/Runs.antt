-- The verdicts of transcripts/runs.log, written by transcripts/make_rows.
use Rattle.std.proofs.Common.{◌≡◌, refl, ℕ, List, [], ◌∷◌, ◌++◌, true, false, Bool, Option, None, Some, codes}
use Rattle.std.specs.Prelude.{replicate, is_some}
use Rattle.pp_world.specs.Log.{Log}
use Rattle.pp_world.specs.declared.happening.Happening.{Happening}
use Rattle.pp_world.specs.declared.happening.Happening.TheVariants.{Woke, Waits, Clock, Opened, CanRead, CanWrite, Heard, HungUp, Said, Shut, Dialled, Undialled, Reached, Ended, Broke, Asked, Got, Dropped, NoneYet, Began, Did, Unread, Noted, Rooted, Listed, Listens, Configured, Printed, Stopped}
use Rattle.pp_world.specs.declared.note.Decision.TheVariants.{Refuse, Hit, Part, Head, NotModified, Unsatisfiable, Relay, Validate, Fetch, Pass}
use Rattle.pp_world.specs.declared.note.Cause.TheVariants.{Superseded, Origin, Short, Idle, Memory, Stop}
use Rattle.pp_world.specs.declared.note.Remark.TheVariants.{Taken, Cut, Kept, Gone, Forgotten, Evicted, Loaded}
use Rattle.pp_world.specs.declared.op.DiskOp.TheVariants.{Draft, SyncDraft, Publish, Write, Sync, Remove}
use Rattle.pp_law.specs.Lists.{Bytes}
use Rattle.pp_law.specs.State.{State, start}
use Rattle.pp_law.specs.Lawful.{fault_from, Fault, ImageNotLeft, OpeningOutOfOrder, EventOutOfTurn, ReadNotAskedFor, FailureMadeUp, WrongReply, WrongAsk, WrongDecision, WrongCut, NotToBeClosed, NotToBeDialled, NotToBeEvicted, NotToBeForgotten, NotToBeLoaded, NotSealed, NotGone, WrongDiskOperation, StepUnfinished, AcceptsWrongly, ClientForgotten, ConnectionForgotten, ExchangeForgotten, WantsTooMuch}
use Rattle.pp_pieces.proofs.Forced.{judge, arrived, judging, told, tell}

abbrev wait : Bool → List ℕ → List ℕ → Happening
wait accept read write = Waits (record { accept = accept; read = record { items = read }; write = record { items = write } })

abbrev text0 : Bytes
text0 = (codes "polipo-cache")

abbrev text1 : Bytes
text1 = (codes "GET http://h/a HTTP/1.1\r\nHost: h\r\n\r\n")

abbrev text2 : Bytes
text2 = (codes "GET /a HTTP/1.1\r\nhost: h\r\nvia: 1.1 polipo\r\n\r\n")

abbrev front0 : Log
front0 = Woke [] ∷ Rooted text0 ∷ Listed true ∷ Listens 8123 true ∷ wait true [] [] ∷ Clock 784111777 ∷ wait true [] [] ∷ Opened 1 ∷ wait true (1 ∷ []) [] ∷ CanRead 1 ∷ Heard 1 text1 ∷ Noted (Taken 1 0 Fetch) ∷ Dialled 2 (codes "h") 80 ∷ wait true (1 ∷ []) [] ∷ Reached 2 ∷ wait true (1 ∷ 2 ∷ []) (2 ∷ []) ∷ CanWrite 2 ∷ Asked 2 text2 ∷ wait true (1 ∷ 2 ∷ []) [] ∷ []

abbrev text3 : Bytes
text3 = (codes "HTTP/1.1 200 OK\r\nDate: Sun, 06 Nov 1994 08:49:37 GMT\r\nETag: \"x\"\r\nCache-Control: max-age=60\r\nContent-Length: 5\r\n\r\nhello")

abbrev text4 : Bytes
text4 = (codes "HTTP/1.1 200 OK\r\netag: \"x\"\r\ndate: Sun, 06 Nov 1994 08:49:37 GMT\r\ncache-control: max-age=60\r\nX-Polipo-Location: http://h/a\r\nX-Polipo-Date: 784111777\r\nX-Polipo-Age: 0\r\nX-Polipo-Length: 5\r\nX-Polipo-Body-Offset: 12288\r\n\r\n" ++ replicate 7975 0 ++ (1 ∷ []) ++ replicate 4095 0 ++ codes "hello")

abbrev text5 : Bytes
text5 = (codes "2ce7276502725c281e6d5ae4e55aed55")

abbrev text6 : Bytes
text6 = (codes "HTTP/1.1 200 OK\r\netag: \"x\"\r\ndate: Sun, 06 Nov 1994 08:49:37 GMT\r\ncache-control: max-age=60\r\nX-Polipo-Location: http://h/a\r\nX-Polipo-Date: 784111777\r\nX-Polipo-Age: 0\r\nX-Polipo-Length: 5\r\nX-Polipo-Body-Offset: 12288\r\n\r\n" ++ replicate 12071 0)

abbrev text7 : Bytes
text7 = (codes "HTTP/1.1 200 OK\r\nETag: \"x\"\r\nCache-Control: max-age=60\r\nContent-Length: 5\r\n\r\nhell")

abbrev text8 : Bytes
text8 = (codes "HTTP/1.1 200 OK\r\nDate: Sun, 06 Nov 1994 08:49:37 GMT\r\nETag: \"x\"\r\nCache-Control: max-age=60\r\nContent-Length: 16385\r\n\r\n" ++ replicate 16384 97)

abbrev text9 : Bytes
text9 = (codes "HTTP/1.1 200 OK\r\netag: \"x\"\r\ndate: Sun, 06 Nov 1994 08:49:37 GMT\r\ncache-control: max-age=60\r\nX-Polipo-Location: http://h/a\r\nX-Polipo-Date: 784111777\r\nX-Polipo-Age: 0\r\nX-Polipo-Length: 16385\r\nX-Polipo-Body-Offset: 12288\r\n\r\n" ++ replicate 12067 0)

abbrev text10 : Bytes
text10 = (replicate 16384 97)

abbrev front1 : Log
front1 = Woke [] ∷ Rooted text0 ∷ Listed true ∷ Listens 8123 true ∷ wait true [] [] ∷ Clock 784111777 ∷ wait true [] [] ∷ Opened 1 ∷ wait true (1 ∷ []) [] ∷ CanRead 1 ∷ Heard 1 text1 ∷ Noted (Taken 1 0 Fetch) ∷ Dialled 2 (codes "h") 80 ∷ wait true (1 ∷ []) [] ∷ Reached 2 ∷ wait true (1 ∷ 2 ∷ []) (2 ∷ []) ∷ CanWrite 2 ∷ Asked 2 text2 ∷ wait true (1 ∷ 2 ∷ []) [] ∷ CanRead 2 ∷ Got 2 text8 ∷ Began (Draft text9) ∷ Did (Draft text9) true ∷ Began SyncDraft ∷ Did SyncDraft true ∷ Began (Publish text5) ∷ Did (Publish text5) true ∷ Began (Write text5 12288 text10) ∷ Did (Write text5 12288 text10) true ∷ Began (Sync text5) ∷ Did (Sync text5) true ∷ Began (Write text5 8192 ((1 ∷ 1 ∷ 1 ∷ 1 ∷ []))) ∷ []

abbrev text11 : Bytes
text11 = (codes "HTTP/1.1 200 OK\r\netag: \"x\"\r\ndate: Sun, 06 Nov 1994 08:49:37 GMT\r\ncache-control: max-age=60\r\nX-Polipo-Location: http://h/a\r\nX-Polipo-Date: 784111777\r\nX-Polipo-Age: 0\r\nX-Polipo-Length: 16385\r\nX-Polipo-Body-Offset: 12288\r\n\r\n" ++ replicate 7972 0 ++ (1 ∷ 0 ∷ 1 ∷ []) ++ replicate 4092 0 ++ replicate 16384 97)

abbrev text12 : Bytes
text12 = (codes "HTTP/1.1 200 OK\r\nDate: Sun, 06 Nov 1994 08:49:37 GMT\r\nETag: \"x\"\r\nCache-Control: max-age=60\r\nContent-Length: 12288\r\n\r\n" ++ replicate 8192 97)

abbrev text13 : Bytes
text13 = (codes "HTTP/1.1 200 OK\r\netag: \"x\"\r\ndate: Sun, 06 Nov 1994 08:49:37 GMT\r\ncache-control: max-age=60\r\nX-Polipo-Location: http://h/a\r\nX-Polipo-Date: 784111777\r\nX-Polipo-Age: 0\r\nX-Polipo-Length: 12288\r\nX-Polipo-Body-Offset: 12288\r\n\r\n" ++ replicate 12067 0)

abbrev text14 : Bytes
text14 = (replicate 8192 97)

abbrev front2 : Log
front2 = Woke [] ∷ Rooted text0 ∷ Listed true ∷ Listens 8123 true ∷ wait true [] [] ∷ Clock 784111777 ∷ wait true [] [] ∷ Opened 1 ∷ wait true (1 ∷ []) [] ∷ CanRead 1 ∷ Heard 1 text1 ∷ Noted (Taken 1 0 Fetch) ∷ Dialled 2 (codes "h") 80 ∷ wait true (1 ∷ []) [] ∷ Reached 2 ∷ wait true (1 ∷ 2 ∷ []) (2 ∷ []) ∷ CanWrite 2 ∷ Asked 2 text2 ∷ wait true (1 ∷ 2 ∷ []) [] ∷ CanRead 2 ∷ Got 2 text12 ∷ Began (Draft text13) ∷ Did (Draft text13) true ∷ Began SyncDraft ∷ Did SyncDraft true ∷ Began (Publish text5) ∷ Did (Publish text5) true ∷ Began (Write text5 12288 text14) ∷ Did (Write text5 12288 text14) true ∷ Began (Sync text5) ∷ Did (Sync text5) true ∷ Began (Write text5 8192 ((1 ∷ 1 ∷ []))) ∷ []

abbrev text15 : Bytes
text15 = (replicate 4096 97)

abbrev text16 : Bytes
text16 = (replicate 4095 97)

abbrev text17 : Bytes
text17 = (codes "HTTP/1.1 200 OK\r\netag: \"x\"\r\ndate: Sun, 06 Nov 1994 08:49:37 GMT\r\ncache-control: max-age=60\r\nX-Polipo-Location: http://h/a\r\nX-Polipo-Date: 784111777\r\nX-Polipo-Age: 0\r\nX-Polipo-Length: 12288\r\nX-Polipo-Body-Offset: 12288\r\n\r\n" ++ replicate 7971 0 ++ (1 ∷ 1 ∷ []) ++ replicate 4094 0 ++ replicate 8192 97)

abbrev text18 : Bytes
text18 = (codes "HTTP/1.1 200 OK\r\netag: \"x\"\r\ndate: Sun, 06 Nov 1994 08:49:37 GMT\r\ncache-control: max-age=60\r\nX-Polipo-Location: http://h/a\r\nX-Polipo-Date: 784111777\r\nX-Polipo-Age: 0\r\nX-Polipo-Length: 12288\r\nX-Polipo-Body-Offset: 12288\r\n\r\n" ++ replicate 12067 0 ++ replicate 8192 97)

abbrev text19 : Bytes
text19 = (codes "HTTP/1.1 200 OK\r\netag: \"x\"\r\ndate: Sun, 06 Nov 1994 08:49:37 GMT\r\ncache-control: max-age=60\r\nX-Polipo-Location: http://h/a\r\nX-Polipo-Date: 784111777\r\nX-Polipo-Age: 0\r\nX-Polipo-Length: 12288\r\nX-Polipo-Body-Offset: 12288\r\n\r\n" ++ replicate 7971 0 ++ (1 ∷ 1 ∷ 1 ∷ []) ++ replicate 4093 0 ++ replicate 8192 97)

abbrev text20 : Bytes
text20 = (codes "chunkLowMark=512")

abbrev text21 : Bytes
text21 = (codes "chunkHighMark=512")

abbrev text22 : Bytes
text22 = (codes "chunkCriticalMark=512")

abbrev text23 : Bytes
text23 = (codes "HTTP/1.1 200 OK\r\nDate: Sun, 06 Nov 1994 08:49:37 GMT\r\nETag: \"x\"\r\nCache-Control: no-cache\r\nContent-Length: 5\r\n\r\nhello")

abbrev text24 : Bytes
text24 = (codes "HTTP/1.1 200 OK\r\netag: \"x\"\r\ndate: Sun, 06 Nov 1994 08:49:37 GMT\r\ncache-control: no-cache\r\nX-Polipo-Location: http://h/a\r\nX-Polipo-Date: 784111777\r\nX-Polipo-Age: 0\r\nX-Polipo-Length: 5\r\nX-Polipo-Body-Offset: 12288\r\n\r\n" ++ replicate 7977 0 ++ (1 ∷ []) ++ replicate 4095 0 ++ codes "hello")

abbrev text25 : Bytes
text25 = (codes "HTTP/1.1 200 OK\r\nDate: Sun, 06 Nov 1994 08:49:37 GMT\r\nETag: \"x\"\r\nContent-Length: 5\r\n\r\nhello")

abbrev text26 : Bytes
text26 = (codes "HTTP/1.1 200 OK\r\netag: \"x\"\r\ndate: Sun, 06 Nov 1994 08:49:37 GMT\r\nX-Polipo-Location: http://h/a\r\nX-Polipo-Date: 784111777\r\nX-Polipo-Age: 0\r\nX-Polipo-Length: 5\r\nX-Polipo-Body-Offset: 12288\r\n\r\n" ++ replicate 8002 0 ++ (1 ∷ []) ++ replicate 4095 0 ++ codes "hello")

abbrev text27 : Bytes
text27 = (codes "HTTP/1.1 200 OK\r\nDate: Sun, 06 Nov 1994 08:49:37 GMT\r\nETag: \"x\"\r\nCache-Control: no-cache\r\nContent-Length: 12288\r\n\r\n" ++ replicate 8192 97)

abbrev text28 : Bytes
text28 = (codes "HTTP/1.1 200 OK\r\netag: \"x\"\r\ndate: Sun, 06 Nov 1994 08:49:37 GMT\r\ncache-control: no-cache\r\nX-Polipo-Location: http://h/a\r\nX-Polipo-Date: 784111777\r\nX-Polipo-Age: 0\r\nX-Polipo-Length: 12288\r\nX-Polipo-Body-Offset: 12288\r\n\r\n" ++ replicate 12069 0)

abbrev text29 : Bytes
text29 = (codes "HTTP/1.1 200 OK\r\nDate: Sun, 06 Nov 1994 08:49:37 GMT\r\nETag: \"x\"\r\nCache-Control: no-cache\r\nContent-Length: 12288\r\n\r\n" ++ replicate 4096 97)

abbrev text30 : Bytes
text30 = (codes "HTTP/1.1 200 OK\r\netag: \"x\"\r\ndate: Sun, 06 Nov 1994 08:49:37 GMT\r\ncache-control: no-cache\r\nX-Polipo-Location: http://h/a\r\nX-Polipo-Date: 784111777\r\nX-Polipo-Age: 0\r\nX-Polipo-Length: 5\r\nX-Polipo-Body-Offset: 12288\r\n\r\n" ++ replicate 12073 0)

row7 : fault_from 0 (start (record { words = []; faults = 0 } ∷ [])) (front0 ++ CanRead 2 ∷ Got 2 text3 ∷ Began (Draft text4) ∷ Did (Draft text4) true ∷ Began SyncDraft ∷ Did SyncDraft true ∷ Began (Publish text5) ∷ Did (Publish text5) true ∷ Noted (Kept (codes "http://h/a") (codes "\"x\"") 5 5) ∷ Noted (Taken 1 0 (Hit 0 5)) ∷ []) ≡ None
unfolding judging
row7 = refl

row18 : fault_from 0 (start (record { words = []; faults = 0 } ∷ [])) (front0 ++ CanRead 2 ∷ Got 2 text3 ∷ Began (Draft text6) ∷ []) ≡ Some (record { at = 21; rule = WrongDiskOperation })
unfolding judging
row18 = refl

row23 : fault_from 0 (start (record { words = []; faults = 0 } ∷ [])) (front0 ++ CanRead 2 ∷ Got 2 text3 ∷ Began (Draft text4) ∷ Did (Draft text4) true ∷ Began SyncDraft ∷ Did SyncDraft true ∷ Noted (Kept (codes "http://h/a") (codes "\"x\"") 5 5) ∷ []) ≡ Some (record { at = 25; rule = NotSealed })
unfolding judging
row23 = refl

row32 : fault_from 0 (start (record { words = []; faults = 0 } ∷ [])) (front0 ++ CanRead 2 ∷ Got 2 text7 ∷ Began (Draft text6) ∷ []) ≡ Some (record { at = 21; rule = WrongDiskOperation })
unfolding judging
row32 = refl

row79 : fault_from 0 (start (record { words = (codes "diskRun=4") ∷ []; faults = 0 } ∷ record { words = (codes "diskRun=4") ∷ []; faults = 1 } ∷ [])) (front1 ++ Woke ((text5, text11) ∷ []) ∷ Rooted text0 ∷ Listed true ∷ Began (Write text5 8193 ((0 ∷ []))) ∷ Did (Write text5 8193 ((0 ∷ []))) true ∷ Began (Write text5 8195 ((0 ∷ []))) ∷ Did (Write text5 8195 ((0 ∷ []))) true ∷ Began (Sync text5) ∷ Did (Sync text5) true ∷ Listens 8123 true ∷ wait true [] [] ∷ []) ≡ None
unfolding judging
row79 = refl

row86 : fault_from 0 (start (record { words = (codes "diskRun=4") ∷ []; faults = 0 } ∷ record { words = (codes "diskRun=4") ∷ []; faults = 1 } ∷ [])) (front1 ++ Woke ((text5, text11) ∷ []) ∷ Rooted text0 ∷ Listed true ∷ Began (Write text5 8193 ((0 ∷ []))) ∷ Did (Write text5 8193 ((0 ∷ []))) true ∷ Began (Sync text5) ∷ []) ≡ Some (record { at = 37; rule = WrongDiskOperation })
unfolding judging
row86 = refl

row91 : fault_from 0 (start (record { words = (codes "diskRun=4") ∷ []; faults = 0 } ∷ record { words = (codes "diskRun=4") ∷ []; faults = 1 } ∷ [])) (front1 ++ Woke ((text5, text11) ∷ []) ∷ Rooted text0 ∷ Listed true ∷ Began (Write text5 8193 ((0 ∷ []))) ∷ Did (Write text5 8193 ((0 ∷ []))) true ∷ Began (Write text5 8195 ((0 ∷ []))) ∷ Did (Write text5 8195 ((0 ∷ []))) true ∷ Listens 8123 true ∷ []) ≡ Some (record { at = 39; rule = OpeningOutOfOrder })
unfolding judging
row91 = refl

row96 : fault_from 0 (start (record { words = (codes "diskRun=4") ∷ []; faults = 0 } ∷ record { words = (codes "diskRun=4") ∷ []; faults = 1 } ∷ [])) (front1 ++ Woke ((text5, text11) ∷ []) ∷ Rooted text0 ∷ Listed true ∷ Began (Write text5 8193 ((0 ∷ []))) ∷ Did (Write text5 8193 ((0 ∷ []))) true ∷ Began (Write text5 8195 ((0 ∷ []))) ∷ Did (Write text5 8195 ((0 ∷ []))) true ∷ Began (Sync text5) ∷ Did (Sync text5) true ∷ Began (Sync text5) ∷ []) ≡ Some (record { at = 41; rule = WrongDiskOperation })
unfolding judging
row96 = refl

row103 : fault_from 0 (start (record { words = (codes "diskRun=4") ∷ []; faults = 0 } ∷ record { words = (codes "diskRun=4") ∷ []; faults = 1 } ∷ [])) (front1 ++ Woke ((text5, text11) ∷ []) ∷ Rooted text0 ∷ Listed true ∷ Listens 8123 true ∷ []) ≡ Some (record { at = 35; rule = OpeningOutOfOrder })
unfolding judging
row103 = refl

row108 : fault_from 0 (start (record { words = (codes "diskRun=4") ∷ []; faults = 0 } ∷ record { words = (codes "diskRun=4") ∷ []; faults = 1 } ∷ [])) (front1 ++ Woke ((text5, text11) ∷ []) ∷ Rooted text0 ∷ Listed true ∷ Began (Write text5 8193 ((0 ∷ []))) ∷ Did (Write text5 8193 ((0 ∷ []))) true ∷ Began (Write text5 8195 ((0 ∷ []))) ∷ Did (Write text5 8195 ((0 ∷ []))) true ∷ Began (Sync text5) ∷ Did (Sync text5) false ∷ Listens 8123 true ∷ wait true [] [] ∷ []) ≡ None
unfolding judging
row108 = refl

row115 : fault_from 0 (start (record { words = (codes "diskRun=4") ∷ []; faults = 0 } ∷ record { words = (codes "diskRun=4") ∷ []; faults = 1 } ∷ [])) (front1 ++ Woke ((text5, text11) ∷ []) ∷ Rooted text0 ∷ Listed true ∷ Began (Write text5 8193 ((0 ∷ []))) ∷ Did (Write text5 8193 ((0 ∷ []))) true ∷ Began (Write text5 8195 ((0 ∷ []))) ∷ Did (Write text5 8195 ((0 ∷ []))) true ∷ Began (Sync text5) ∷ Did (Sync text5) false ∷ Began (Sync text5) ∷ []) ≡ Some (record { at = 41; rule = WrongDiskOperation })
unfolding judging
row115 = refl

row157 : fault_from 0 (start (record { words = (codes "diskRun=2") ∷ []; faults = 0 } ∷ record { words = (codes "diskRun=2") ∷ []; faults = 0 } ∷ [])) (front2 ++ Did (Write text5 8192 ((1 ∷ 1 ∷ []))) true ∷ Began (Sync text5) ∷ Did (Sync text5) true ∷ Noted (Kept (codes "http://h/a") (codes "\"x\"") 12288 8192) ∷ Noted (Taken 1 0 (Part 0 12288)) ∷ wait true (1 ∷ 2 ∷ []) (1 ∷ []) ∷ CanRead 2 ∷ Got 2 text15 ∷ Began (Write text5 20480 text15) ∷ Did (Write text5 20480 text15) true ∷ Began (Sync text5) ∷ Did (Sync text5) true ∷ Began (Write text5 8194 ((1 ∷ []))) ∷ Did (Write text5 8194 ((1 ∷ []))) true ∷ Began (Sync text5) ∷ Did (Sync text5) true ∷ Noted (Kept (codes "http://h/a") (codes "\"x\"") 12288 12288) ∷ wait true (1 ∷ 2 ∷ []) (1 ∷ []) ∷ []) ≡ None
unfolding judging
row157 = refl

row172 : fault_from 0 (start (record { words = (codes "diskRun=2") ∷ []; faults = 0 } ∷ record { words = (codes "diskRun=2") ∷ []; faults = 0 } ∷ [])) (front2 ++ Did (Write text5 8192 ((1 ∷ 1 ∷ []))) true ∷ Began (Sync text5) ∷ Did (Sync text5) true ∷ Noted (Kept (codes "http://h/a") (codes "\"x\"") 12288 4096) ∷ []) ≡ Some (record { at = 35; rule = NotSealed })
unfolding judging
row172 = refl

row179 : fault_from 0 (start (record { words = (codes "diskRun=2") ∷ []; faults = 0 } ∷ record { words = (codes "diskRun=2") ∷ []; faults = 0 } ∷ [])) (front2 ++ Did (Write text5 8192 ((1 ∷ 1 ∷ []))) true ∷ Began (Sync text5) ∷ Did (Sync text5) true ∷ Noted (Kept (codes "http://h/a") (codes "\"x\"") 12288 8192) ∷ Noted (Taken 1 0 (Part 0 12288)) ∷ wait true (1 ∷ 2 ∷ []) (1 ∷ []) ∷ CanRead 2 ∷ Got 2 text16 ∷ Began (Write text5 20480 text16) ∷ []) ≡ Some (record { at = 40; rule = WrongDiskOperation })
unfolding judging
row179 = refl

row186 : fault_from 0 (start (record { words = (codes "diskRun=2") ∷ []; faults = 0 } ∷ record { words = (codes "diskRun=2") ∷ []; faults = 0 } ∷ [])) (front2 ++ Woke ((text5, text17) ∷ []) ∷ Rooted text0 ∷ Listed true ∷ Listens 8123 true ∷ wait true [] [] ∷ Clock 784111787 ∷ wait true [] [] ∷ Opened 3 ∷ wait true (3 ∷ []) [] ∷ CanRead 3 ∷ Heard 3 text1 ∷ Noted (Taken 3 0 (Part 0 12288)) ∷ Dialled 4 (codes "h") 80 ∷ []) ≡ Some (record { at = 44; rule = NotToBeDialled })
unfolding judging
row186 = refl

row193 : fault_from 0 (start (record { words = (codes "diskRun=2") ∷ []; faults = 0 } ∷ record { words = (codes "diskRun=2") ∷ []; faults = 0 } ∷ [])) (front2 ++ Woke ((text5, text18) ∷ []) ∷ Rooted text0 ∷ Listed true ∷ Listens 8123 true ∷ wait true [] [] ∷ Clock 784111787 ∷ wait true [] [] ∷ Opened 3 ∷ wait true (3 ∷ []) [] ∷ CanRead 3 ∷ Heard 3 text1 ∷ Noted (Taken 3 0 (Part 0 12288)) ∷ Dialled 4 (codes "h") 80 ∷ wait true [] [] ∷ []) ≡ None
unfolding judging
row193 = refl

row200 : fault_from 0 (start (record { words = (codes "diskRun=2") ∷ []; faults = 0 } ∷ record { words = (codes "diskRun=2") ∷ []; faults = 0 } ∷ [])) (front2 ++ Woke ((text5, text19) ∷ []) ∷ []) ≡ Some (record { at = 32; rule = ImageNotLeft })
unfolding judging
row200 = refl

row212 : fault_from 0 (start (record { words = text20 ∷ text21 ∷ text22 ∷ []; faults = 0 } ∷ [])) (front0 ++ CanRead 2 ∷ Got 2 text8 ∷ Began (Draft text9) ∷ Did (Draft text9) true ∷ Began SyncDraft ∷ Did SyncDraft true ∷ Began (Publish text5) ∷ Did (Publish text5) true ∷ Began (Write text5 12288 text10) ∷ Did (Write text5 12288 text10) true ∷ Began (Sync text5) ∷ Did (Sync text5) true ∷ Began (Write text5 8192 ((1 ∷ 1 ∷ 1 ∷ 1 ∷ []))) ∷ Did (Write text5 8192 ((1 ∷ 1 ∷ 1 ∷ 1 ∷ []))) true ∷ Began (Sync text5) ∷ Did (Sync text5) true ∷ Noted (Kept (codes "http://h/a") (codes "\"x\"") 16385 16384) ∷ Noted (Taken 1 0 (Part 0 16385)) ∷ wait true (1 ∷ 2 ∷ []) (1 ∷ []) ∷ []) ≡ None
unfolding judging
row212 = refl

row239 : fault_from 0 (start (record { words = (codes "diskRun=2") ∷ []; faults = 0 } ∷ [])) (front0 ++ CanRead 2 ∷ Got 2 text23 ∷ Noted (Taken 1 0 (Hit 0 5)) ∷ wait true (1 ∷ 2 ∷ []) (1 ∷ []) ∷ []) ≡ None
unfolding judging
row239 = refl

row245 : fault_from 0 (start (record { words = (codes "diskRun=2") ∷ []; faults = 0 } ∷ [])) (front0 ++ CanRead 2 ∷ Got 2 text23 ∷ Began (Draft text24) ∷ []) ≡ Some (record { at = 21; rule = WrongDiskOperation })
unfolding judging
row245 = refl

row251 : fault_from 0 (start (record { words = (codes "diskRun=2") ∷ []; faults = 0 } ∷ [])) (front0 ++ CanRead 2 ∷ Got 2 text25 ∷ Began (Draft text26) ∷ []) ≡ Some (record { at = 21; rule = WrongDiskOperation })
unfolding judging
row251 = refl

row257 : fault_from 0 (start (record { words = (codes "diskRun=2") ∷ []; faults = 0 } ∷ [])) (front0 ++ CanRead 2 ∷ Got 2 text27 ∷ Began (Draft text28) ∷ Did (Draft text28) true ∷ Began SyncDraft ∷ Did SyncDraft true ∷ Began (Publish text5) ∷ Did (Publish text5) true ∷ Began (Write text5 12288 text14) ∷ []) ≡ None
unfolding judging
row257 = refl

row268 : fault_from 0 (start (record { words = (codes "diskRun=2") ∷ []; faults = 0 } ∷ [])) (front0 ++ CanRead 2 ∷ Got 2 text29 ∷ Began (Draft text28) ∷ []) ≡ Some (record { at = 21; rule = WrongDiskOperation })
unfolding judging
row268 = refl

row279 : fault_from 0 (start (record { words = (codes "diskRun=1") ∷ []; faults = 0 } ∷ [])) (front0 ++ CanRead 2 ∷ Got 2 text23 ∷ Began (Draft text30) ∷ Did (Draft text30) true ∷ []) ≡ None
unfolding judging
row279 = refl
