-- The verdicts of transcripts/crashes.log, written by transcripts/make_rows.
use Rattle.std.proofs.Common.{◌≡◌, refl, ℕ, List, [], ◌∷◌, ◌++◌, true, false, Bool, Option, None, Some, codes}
use Rattle.std.specs.Prelude.{replicate, is_some}
use Rattle.pp_world.specs.Log.{Log}
use Rattle.pp_world.specs.declared.happening.Happening.{Happening}
use Rattle.pp_world.specs.declared.happening.Happening.TheVariants.{Woke, Waits, Clock, Opened, CanRead, CanWrite, Heard, HungUp, Said, Shut, Dialled, Undialled, Reached, Ended, Broke, Asked, Got, Dropped, NoneYet, Began, Did, Unread, Noted, Rooted, Listed, Listens, Configured, Printed, Stopped}
use Rattle.pp_world.specs.declared.note.Decision.TheVariants.{Refuse, Hit, Part, Head, NotModified, Unsatisfiable, Relay, Validate, Fetch, Pass}
use Rattle.pp_world.specs.declared.note.Cause.TheVariants.{Superseded, Origin, Short, Idle, Memory, Stop}
use Rattle.pp_world.specs.declared.note.Remark.TheVariants.{Taken, Cut, Kept, Gone, Forgotten, Evicted, Loaded}
use Rattle.pp_world.specs.declared.op.DiskOp.TheVariants.{Draft, SyncDraft, Publish, Write, Sync, Remove}
use Rattle.pp_law.specs.Lists.{Bytes}
use Rattle.pp_law.specs.State.{State, start}
use Rattle.pp_law.specs.Lawful.{fault_from, Fault, ImageNotLeft, OpeningOutOfOrder, EventOutOfTurn, ReadNotAskedFor, FailureMadeUp, WrongReply, WrongAsk, WrongDecision, WrongCut, NotToBeClosed, NotToBeDialled, NotToBeEvicted, NotToBeForgotten, NotToBeLoaded, NotSealed, NotGone, WrongDiskOperation, StepUnfinished, AcceptsWrongly, ClientForgotten, ConnectionForgotten, ExchangeForgotten, WantsTooMuch}
use Rattle.pp_pieces.proofs.Forced.{judge, arrived, judging, told, tell}

abbrev wait : Bool → List ℕ → List ℕ → Happening
wait accept read write = Waits (record { accept = accept; read = record { items = read }; write = record { items = write } })

abbrev text0 : Bytes
text0 = (codes "pipelineAsks=1")

abbrev text1 : Bytes
text1 = (codes "hostConnections=4")

abbrev text2 : Bytes
text2 = (codes "polipo-cache")

abbrev text3 : Bytes
text3 = (codes "GET http://h/a HTTP/1.1\r\nHost: h\r\n\r\n")

abbrev text4 : Bytes
text4 = (codes "GET /a HTTP/1.1\r\nhost: h\r\nvia: 1.1 polipo\r\n\r\n")

abbrev text5 : Bytes
text5 = (codes "HTTP/1.1 200 OK\r\nDate: Sun, 06 Nov 1994 08:49:37 GMT\r\nETag: \"x\"\r\nCache-Control: max-age=60\r\nContent-Length: 5\r\n\r\nhello")

abbrev text6 : Bytes
text6 = (codes "HTTP/1.1 200 OK\r\netag: \"x\"\r\ndate: Sun, 06 Nov 1994 08:49:37 GMT\r\ncache-control: max-age=60\r\nX-Polipo-Location: http://h/a\r\nX-Polipo-Date: 784111777\r\nX-Polipo-Age: 0\r\nX-Polipo-Length: 5\r\nX-Polipo-Body-Offset: 12288\r\n\r\n" ++ replicate 12071 0)

abbrev text7 : Bytes
text7 = (codes "2ce7276502725c281e6d5ae4e55aed55")

abbrev text8 : Bytes
text8 = (codes "HTTP/1.1 200 OK\r\netag: \"x\"\r\ndate: Sun, 06 Nov 1994 08:49:37 GMT\r\ncache-control: max-age=60\r\nvia: 1.1 polipo\r\ncontent-length: 5\r\nconnection: keep-alive\r\n\r\n")

abbrev front0 : Log
front0 = Woke [] ∷ Rooted text2 ∷ Listed true ∷ Listens 8123 true ∷ wait true [] [] ∷ Clock 784111777 ∷ wait true [] [] ∷ Opened 1 ∷ wait true (1 ∷ []) [] ∷ CanRead 1 ∷ Heard 1 text3 ∷ Noted (Taken 1 0 Fetch) ∷ Dialled 2 (codes "h") 80 ∷ wait true (1 ∷ []) [] ∷ Reached 2 ∷ wait true (1 ∷ 2 ∷ []) (2 ∷ []) ∷ CanWrite 2 ∷ Asked 2 text4 ∷ wait true (1 ∷ 2 ∷ []) [] ∷ CanRead 2 ∷ Got 2 text5 ∷ Began (Draft text6) ∷ Did (Draft text6) true ∷ Began SyncDraft ∷ Did SyncDraft true ∷ Began (Publish text7) ∷ Did (Publish text7) true ∷ Began (Write text7 12288 (codes "hello")) ∷ Did (Write text7 12288 (codes "hello")) true ∷ Began (Sync text7) ∷ Did (Sync text7) true ∷ Began (Write text7 8192 ((1 ∷ []))) ∷ Did (Write text7 8192 ((1 ∷ []))) true ∷ Began (Sync text7) ∷ Did (Sync text7) true ∷ Noted (Kept (codes "http://h/a") (codes "\"x\"") 5 5) ∷ Noted (Taken 1 0 (Hit 0 5)) ∷ wait true (1 ∷ 2 ∷ []) (1 ∷ []) ∷ CanWrite 1 ∷ Said 1 154 text8 ∷ wait true (1 ∷ 2 ∷ []) (1 ∷ []) ∷ CanWrite 1 ∷ Said 1 5 (codes "hello") ∷ wait true (1 ∷ 2 ∷ []) [] ∷ []

abbrev text9 : Bytes
text9 = (codes "HTTP/1.1 200 OK\r\netag: \"x\"\r\ndate: Sun, 06 Nov 1994 08:49:37 GMT\r\ncache-control: max-age=60\r\nX-Polipo-Location: http://h/a\r\nX-Polipo-Date: 784111777\r\nX-Polipo-Age: 0\r\nX-Polipo-Length: 5\r\nX-Polipo-Body-Offset: 12288\r\n\r\n" ++ replicate 7975 0 ++ (1 ∷ []) ++ replicate 4095 0 ++ codes "hello")

abbrev text10 : Bytes
text10 = (codes "HTTP/1.1 200 OK\r\netag: \"x\"\r\ndate: Sun, 06 Nov 1994 08:49:37 GMT\r\ncache-control: max-age=60\r\nage: 10\r\nvia: 1.1 polipo\r\ncontent-length: 5\r\nconnection: keep-alive\r\n\r\n")

abbrev text11 : Bytes
text11 = (codes "HTTP/1.1 200 OK\r\netag: \"x\"\r\ndate: Sun, 06 Nov 1994 08:49:37 GMT\r\ncache-control: max-age=60\r\nX-Polipo-Location: http://h/a\r\nX-Polipo-Date: 784111777\r\nX-Polipo-Age: 0\r\nX-Polipo-Length: 5\r\nX-Polipo-Body-Offset: 12288\r\n\r\n" ++ replicate 7975 0 ++ (1 ∷ []) ++ replicate 4095 0 ++ codes "jello")

abbrev text12 : Bytes
text12 = (codes "HTTP/1.1 200 OK\r\netag: \"x\"\r\ndate: Sun, 06 Nov 1994 08:49:37 GMT\r\ncache-control: max-age=60\r\nX-Polipo-Location: http://h/a\r\nX-Polipo-Date: 784111777\r\nX-Polipo-Age: 0\r\nX-Polipo-Length: 5\r\nX-Polipo-Body-Offset: 12288\r\n\r\n" ++ replicate 12071 0 ++ codes "hello")

abbrev text13 : Bytes
text13 = (codes "HTTP/1.1 200 OK\r\netag: \"x\"\r\ndate: Sun, 06 Nov 1994 08:49:37 GMT\r\ncache-control: max-age=60\r\nX-Polipo-Location: http://h/a\r\nX-Polipo-Date: 784111777\r\nX-Polipo-Age: 0\r\nX-Polipo-Length: 5\r\nX-Polipo-Body-Offset: 12288\r\n\r\n" ++ replicate 7975 0 ++ (1 ∷ []) ++ replicate 4095 0 ++ codes "hell")

abbrev text14 : Bytes
text14 = (codes "HTTP/1.1 200 OK\r\netag: \"x\"\r\ndate: Sun, 06 Nov 1994 08:49:37 GMT\r\ncache-control: max-age=60\r\nX-Polipo-Location: http://h/a\r\nX-Polipo-Date: 784111777\r\nX-Polipo-Age: 0\r\nX-Polipo-Length: 5\r\nX-Polipo-Body-Offset: 12288\r\n\r\n" ++ replicate 7975 0 ++ (1 ∷ []) ++ replicate 4095 0 ++ codes "hello!")

abbrev text15 : Bytes
text15 = (replicate 32 48)

abbrev text16 : Bytes
text16 = (replicate 12288 0)

abbrev front1 : Log
front1 = Woke [] ∷ Rooted text2 ∷ Listed true ∷ Listens 8123 true ∷ wait true [] [] ∷ Clock 784111777 ∷ wait true [] [] ∷ Opened 1 ∷ wait true (1 ∷ []) [] ∷ CanRead 1 ∷ Heard 1 text3 ∷ Noted (Taken 1 0 Fetch) ∷ Dialled 2 (codes "h") 80 ∷ wait true (1 ∷ []) [] ∷ Reached 2 ∷ wait true (1 ∷ 2 ∷ []) (2 ∷ []) ∷ CanWrite 2 ∷ Asked 2 text4 ∷ wait true (1 ∷ 2 ∷ []) [] ∷ CanRead 2 ∷ Got 2 text5 ∷ Began (Draft text6) ∷ Did (Draft text6) true ∷ Began SyncDraft ∷ Did SyncDraft true ∷ Began (Publish text7) ∷ Did (Publish text7) true ∷ Began (Write text7 12288 (codes "hello")) ∷ Did (Write text7 12288 (codes "hello")) true ∷ Began (Sync text7) ∷ Did (Sync text7) true ∷ []

abbrev text17 : Bytes
text17 = (codes "HTTP/1.1 200 OK\r\netag: \"x\"\r\ndate: Sun, 06 Nov 1994 08:49:37 GMT\r\ncache-control: max-age=60\r\nX-Polipo-Location: http://h/a\r\nX-Polipo-Date: 784111777\r\nX-Polipo-Age: 0\r\nX-Polipo-Length: 5\r\nX-Polipo-Body-Offset: 12288\r\n\r\n" ++ replicate 7975 0 ++ (7 ∷ []) ++ replicate 4095 0 ++ codes "hello")

abbrev text18 : Bytes
text18 = (codes "HTTP/1.1 200 OK\r\netag: \"x\"\r\ndate: Sun, 06 Nov 1994 08:49:37 GMT\r\ncache-control: max-age=60\r\nX-Polipo-Location: http://h/a\r\nX-Polipo-Date: 784111777\r\nX-Polipo-Age: 0\r\nX-Polipo-Length: 5\r\nX-Polipo-Body-Offset: 12288\r\n\r\n" ++ replicate 7975 0 ++ (7 ∷ []) ++ replicate 4100 0)

abbrev text19 : Bytes
text19 = (codes "HTTP/1.1 200 OK\r\netag: \"x\"\r\ndate: Sun, 06 Nov 1994 08:49:37 GMT\r\ncache-control: max-age=60\r\nX-Polipo-Location: http://h/a\r\nX-Polipo-Date: 784111777\r\nX-Polipo-Age: 0\r\nX-Polipo-Length: 5\r\nX-Polipo-Body-Offset: 12288\r\n\r\n" ++ replicate 7975 0 ++ (7 ∷ 1 ∷ []) ++ replicate 4094 0 ++ codes "hello")

abbrev front2 : Log
front2 = Woke [] ∷ Rooted text2 ∷ Listed true ∷ Listens 8123 true ∷ wait true [] [] ∷ Clock 784111777 ∷ wait true [] [] ∷ Opened 1 ∷ wait true (1 ∷ []) [] ∷ CanRead 1 ∷ Heard 1 text3 ∷ Noted (Taken 1 0 Fetch) ∷ Dialled 2 (codes "h") 80 ∷ wait true (1 ∷ []) [] ∷ Reached 2 ∷ wait true (1 ∷ 2 ∷ []) (2 ∷ []) ∷ CanWrite 2 ∷ Asked 2 text4 ∷ wait true (1 ∷ 2 ∷ []) [] ∷ CanRead 2 ∷ Got 2 text5 ∷ []

abbrev front3 : Log
front3 = Woke [] ∷ Rooted text2 ∷ Listed true ∷ Listens 8123 true ∷ wait true [] [] ∷ Clock 784111777 ∷ wait true [] [] ∷ Opened 1 ∷ wait true (1 ∷ []) [] ∷ CanRead 1 ∷ Heard 1 text3 ∷ Noted (Taken 1 0 Fetch) ∷ Dialled 2 (codes "h") 80 ∷ wait true (1 ∷ []) [] ∷ Reached 2 ∷ wait true (1 ∷ 2 ∷ []) (2 ∷ []) ∷ CanWrite 2 ∷ Asked 2 text4 ∷ wait true (1 ∷ 2 ∷ []) [] ∷ CanRead 2 ∷ Got 2 text5 ∷ Began (Draft text6) ∷ Did (Draft text6) true ∷ Began SyncDraft ∷ Did SyncDraft true ∷ Began (Publish text7) ∷ Did (Publish text7) true ∷ Began (Write text7 12288 (codes "hello")) ∷ Did (Write text7 12288 (codes "hello")) true ∷ Began (Sync text7) ∷ Did (Sync text7) true ∷ Began (Write text7 8192 ((1 ∷ []))) ∷ Did (Write text7 8192 ((1 ∷ []))) true ∷ Began (Sync text7) ∷ Did (Sync text7) true ∷ Noted (Kept (codes "http://h/a") (codes "\"x\"") 5 5) ∷ Noted (Taken 1 0 (Hit 0 5)) ∷ wait true (1 ∷ 2 ∷ []) (1 ∷ []) ∷ CanWrite 1 ∷ Said 1 154 text8 ∷ wait true (1 ∷ 2 ∷ []) (1 ∷ []) ∷ CanWrite 1 ∷ Said 1 5 (codes "hello") ∷ wait true (1 ∷ 2 ∷ []) [] ∷ Woke ((text7, text9) ∷ []) ∷ Rooted text2 ∷ Listed true ∷ Listens 8123 true ∷ wait true [] [] ∷ Clock 784111787 ∷ wait true [] [] ∷ Opened 3 ∷ wait true (3 ∷ []) [] ∷ CanRead 3 ∷ Heard 3 text3 ∷ Noted (Taken 3 0 (Hit 0 5)) ∷ wait true (3 ∷ []) (3 ∷ []) ∷ CanWrite 3 ∷ Said 3 163 text10 ∷ wait true (3 ∷ []) (3 ∷ []) ∷ CanWrite 3 ∷ []

abbrev text20 : Bytes
text20 = (codes "HTTP/1.1 200 OK\r\netag: \"x\"\r\ndate: Sun, 06 Nov 1994 08:49:37 GMT\r\ncache-control: max-age=60\r\nX-Polipo-Location: http://h/b\r\nX-Polipo-Date: 784111777\r\nX-Polipo-Age: 0\r\nX-Polipo-Length: 5\r\nX-Polipo-Body-Offset: 12288\r\n\r\n" ++ replicate 7975 0 ++ (1 ∷ []) ++ replicate 4095 0 ++ codes "hello")

abbrev text21 : Bytes
text21 = (codes "GET http://h/b HTTP/1.1\r\nHost: h\r\n\r\n")

row38 : fault_from 0 (start (record { words = (codes "diskRun=1") ∷ text0 ∷ text1 ∷ []; faults = 0 } ∷ record { words = (codes "diskRun=1") ∷ text0 ∷ text1 ∷ []; faults = 0 } ∷ [])) (front0 ++ Woke ((text7, text9) ∷ []) ∷ Rooted text2 ∷ Listed true ∷ Listens 8123 true ∷ wait true [] [] ∷ Clock 784111787 ∷ wait true [] [] ∷ Opened 3 ∷ wait true (3 ∷ []) [] ∷ CanRead 3 ∷ Heard 3 text3 ∷ Noted (Taken 3 0 (Hit 0 5)) ∷ wait true (3 ∷ []) (3 ∷ []) ∷ CanWrite 3 ∷ Said 3 163 text10 ∷ wait true (3 ∷ []) (3 ∷ []) ∷ CanWrite 3 ∷ Noted (Loaded (codes "http://h/a") (codes "\"x\"") 5 0) ∷ Said 3 5 (codes "hello") ∷ wait true (3 ∷ []) [] ∷ []) ≡ None
unfolding judging
row38 = refl

row44 : fault_from 0 (start (record { words = (codes "diskRun=1") ∷ text0 ∷ text1 ∷ []; faults = 0 } ∷ record { words = (codes "diskRun=1") ∷ text0 ∷ text1 ∷ []; faults = 0 } ∷ [])) (front0 ++ Woke [] ∷ []) ≡ Some (record { at = 44; rule = ImageNotLeft })
unfolding judging
row44 = refl

row48 : fault_from 0 (start (record { words = (codes "diskRun=1") ∷ text0 ∷ text1 ∷ []; faults = 0 } ∷ record { words = (codes "diskRun=1") ∷ text0 ∷ text1 ∷ []; faults = 0 } ∷ [])) (front0 ++ Woke ((text7, text11) ∷ []) ∷ []) ≡ Some (record { at = 44; rule = ImageNotLeft })
unfolding judging
row48 = refl

row52 : fault_from 0 (start (record { words = (codes "diskRun=1") ∷ text0 ∷ text1 ∷ []; faults = 0 } ∷ record { words = (codes "diskRun=1") ∷ text0 ∷ text1 ∷ []; faults = 0 } ∷ [])) (front0 ++ Woke ((text7, text12) ∷ []) ∷ []) ≡ Some (record { at = 44; rule = ImageNotLeft })
unfolding judging
row52 = refl

row56 : fault_from 0 (start (record { words = (codes "diskRun=1") ∷ text0 ∷ text1 ∷ []; faults = 0 } ∷ record { words = (codes "diskRun=1") ∷ text0 ∷ text1 ∷ []; faults = 0 } ∷ [])) (front0 ++ Woke ((text7, text13) ∷ []) ∷ []) ≡ Some (record { at = 44; rule = ImageNotLeft })
unfolding judging
row56 = refl

row60 : fault_from 0 (start (record { words = (codes "diskRun=1") ∷ text0 ∷ text1 ∷ []; faults = 0 } ∷ record { words = (codes "diskRun=1") ∷ text0 ∷ text1 ∷ []; faults = 0 } ∷ [])) (front0 ++ Woke ((text7, text14) ∷ []) ∷ []) ≡ Some (record { at = 44; rule = ImageNotLeft })
unfolding judging
row60 = refl

row64 : fault_from 0 (start (record { words = (codes "diskRun=1") ∷ text0 ∷ text1 ∷ []; faults = 0 } ∷ record { words = (codes "diskRun=1") ∷ text0 ∷ text1 ∷ []; faults = 0 } ∷ [])) (front0 ++ Woke ((text15, text16) ∷ (text7, text9) ∷ []) ∷ []) ≡ Some (record { at = 44; rule = ImageNotLeft })
unfolding judging
row64 = refl

row68 : fault_from 0 (start (record { words = (codes "diskRun=1") ∷ text0 ∷ text1 ∷ []; faults = 0 } ∷ record { words = (codes "diskRun=1") ∷ text0 ∷ text1 ∷ []; faults = 0 } ∷ [])) (front0 ++ Woke ((text7, text9) ∷ []) ∷ Rooted text2 ∷ Listed true ∷ Listens 8123 true ∷ wait true [] [] ∷ Clock 784111787 ∷ wait true [] [] ∷ Opened 3 ∷ wait true (3 ∷ []) [] ∷ CanRead 3 ∷ Heard 3 text3 ∷ Noted (Taken 3 0 Fetch) ∷ []) ≡ Some (record { at = 55; rule = WrongDecision })
unfolding judging
row68 = refl

row73 : fault_from 0 (start (record { words = (codes "diskRun=1") ∷ text0 ∷ text1 ∷ []; faults = 0 } ∷ record { words = (codes "diskRun=1") ∷ text0 ∷ text1 ∷ []; faults = 0 } ∷ [])) (front0 ++ Woke ((text7, text9) ∷ []) ∷ Rooted text2 ∷ Listed true ∷ Listens 8123 true ∷ wait true [] [] ∷ Clock 784111787 ∷ wait true [] [] ∷ Opened 3 ∷ wait true (3 ∷ []) [] ∷ CanRead 3 ∷ Heard 3 text3 ∷ Noted (Taken 3 0 (Hit 0 5)) ∷ wait true (3 ∷ []) (3 ∷ []) ∷ CanWrite 3 ∷ Said 3 163 text10 ∷ wait true (3 ∷ []) (3 ∷ []) ∷ CanWrite 3 ∷ Said 3 5 (codes "hello") ∷ []) ≡ Some (record { at = 61; rule = WrongReply })
unfolding judging
row73 = refl

row78 : fault_from 0 (start (record { words = (codes "diskRun=1") ∷ text0 ∷ text1 ∷ []; faults = 0 } ∷ record { words = (codes "diskRun=1") ∷ text0 ∷ text1 ∷ []; faults = 0 } ∷ [])) (front0 ++ Woke ((text7, text9) ∷ []) ∷ Rooted text2 ∷ Listed true ∷ Listens 8123 true ∷ wait true [] [] ∷ Clock 784111787 ∷ wait true [] [] ∷ Opened 3 ∷ wait true (3 ∷ []) [] ∷ CanRead 3 ∷ Heard 3 text3 ∷ Noted (Taken 3 0 (Hit 0 5)) ∷ wait true (3 ∷ []) (3 ∷ []) ∷ CanWrite 3 ∷ Said 3 163 text10 ∷ wait true (3 ∷ []) (3 ∷ []) ∷ CanWrite 3 ∷ Noted (Loaded (codes "http://h/a") (codes "\"x\"") 5 1) ∷ []) ≡ Some (record { at = 61; rule = NotToBeLoaded })
unfolding judging
row78 = refl

row83 : fault_from 0 (start (record { words = (codes "diskRun=1") ∷ text0 ∷ text1 ∷ []; faults = 0 } ∷ record { words = (codes "diskRun=1") ∷ text0 ∷ text1 ∷ []; faults = 0 } ∷ [])) (front0 ++ Woke ((text7, text9) ∷ []) ∷ Rooted text2 ∷ Listed true ∷ Listens 8123 true ∷ wait true [] [] ∷ Clock 784111787 ∷ wait true [] [] ∷ Opened 3 ∷ wait true (3 ∷ []) [] ∷ CanRead 3 ∷ Heard 3 text3 ∷ Noted (Taken 3 0 (Hit 0 5)) ∷ wait true (3 ∷ []) (3 ∷ []) ∷ CanWrite 3 ∷ Said 3 163 text10 ∷ wait true (3 ∷ []) (3 ∷ []) ∷ CanWrite 3 ∷ Noted (Loaded (codes "http://h/a") (codes "\"y\"") 5 0) ∷ []) ≡ Some (record { at = 61; rule = NotToBeLoaded })
unfolding judging
row83 = refl

row88 : fault_from 0 (start (record { words = (codes "diskRun=1") ∷ text0 ∷ text1 ∷ []; faults = 0 } ∷ record { words = (codes "diskRun=1") ∷ text0 ∷ text1 ∷ []; faults = 0 } ∷ [])) (front0 ++ Woke ((text7, text9) ∷ []) ∷ Rooted text2 ∷ Listed true ∷ Listens 8123 true ∷ wait true [] [] ∷ Clock 784111787 ∷ wait true [] [] ∷ Opened 3 ∷ wait true (3 ∷ []) [] ∷ CanRead 3 ∷ Heard 3 text3 ∷ Noted (Taken 3 0 (Hit 0 5)) ∷ wait true (3 ∷ []) (3 ∷ []) ∷ CanWrite 3 ∷ Said 3 163 text10 ∷ wait true (3 ∷ []) (3 ∷ []) ∷ CanWrite 3 ∷ Noted (Loaded (codes "http://h/a") (codes "\"x\"") 5 0) ∷ Noted (Loaded (codes "http://h/a") (codes "\"x\"") 5 0) ∷ []) ≡ Some (record { at = 62; rule = NotToBeLoaded })
unfolding judging
row88 = refl

row94 : fault_from 0 (start (record { words = (codes "diskRun=1") ∷ text0 ∷ text1 ∷ []; faults = 0 } ∷ record { words = (codes "diskRun=1") ∷ text0 ∷ text1 ∷ []; faults = 0 } ∷ [])) (front0 ++ Woke ((text7, text9) ∷ []) ∷ Rooted text2 ∷ Listed true ∷ Listens 8123 true ∷ wait true [] [] ∷ Clock 784111787 ∷ wait true [] [] ∷ Opened 3 ∷ wait true (3 ∷ []) [] ∷ CanRead 3 ∷ Heard 3 text3 ∷ Noted (Taken 3 0 (Hit 0 5)) ∷ wait true (3 ∷ []) (3 ∷ []) ∷ CanWrite 3 ∷ Noted (Loaded (codes "http://h/a") (codes "\"x\"") 5 0) ∷ []) ≡ Some (record { at = 58; rule = NotToBeLoaded })
unfolding judging
row94 = refl

row102 : fault_from 0 (start (record { words = (codes "diskRun=1") ∷ text0 ∷ text1 ∷ []; faults = 0 } ∷ record { words = (codes "diskRun=1") ∷ text0 ∷ text1 ∷ []; faults = 0 } ∷ [])) (front0 ++ Woke ((text7, text9) ∷ []) ∷ Rooted text2 ∷ Listed true ∷ Listens 8123 true ∷ wait true [] [] ∷ Clock 784111787 ∷ wait true [] [] ∷ Opened 3 ∷ wait true (3 ∷ []) [] ∷ CanRead 3 ∷ Heard 3 text3 ∷ Noted (Taken 3 0 (Hit 0 5)) ∷ wait true (3 ∷ []) (3 ∷ []) ∷ CanWrite 3 ∷ Said 3 163 text10 ∷ wait true (3 ∷ []) [] ∷ []) ≡ Some (record { at = 59; rule = ClientForgotten })
unfolding judging
row102 = refl

row111 : fault_from 0 (start (record { words = (codes "diskRun=1") ∷ text0 ∷ text1 ∷ []; faults = 0 } ∷ record { words = (codes "diskRun=1") ∷ text0 ∷ text1 ∷ []; faults = 0 } ∷ [])) (front0 ++ Woke ((text7, text9) ∷ []) ∷ Rooted text2 ∷ Listed true ∷ Listens 8123 true ∷ wait true (1 ∷ 2 ∷ []) [] ∷ []) ≡ Some (record { at = 48; rule = WantsTooMuch })
unfolding judging
row111 = refl

row119 : fault_from 0 (start (record { words = (codes "diskRun=1") ∷ text0 ∷ text1 ∷ []; faults = 0 } ∷ record { words = (codes "diskRun=1") ∷ text0 ∷ text1 ∷ []; faults = 0 } ∷ [])) (front0 ++ Woke ((text7, text9) ∷ []) ∷ Rooted text2 ∷ Listed true ∷ Listens 8123 true ∷ wait true [] [] ∷ Opened 2 ∷ []) ≡ Some (record { at = 49; rule = EventOutOfTurn })
unfolding judging
row119 = refl

row132 : fault_from 0 (start (record { words = (codes "diskRun=1") ∷ text0 ∷ text1 ∷ []; faults = 0 } ∷ record { words = (codes "diskRun=1") ∷ text0 ∷ text1 ∷ []; faults = 0 } ∷ [])) (front1 ++ Began (Write text7 8192 ((1 ∷ []))) ∷ Woke ((text7, text17) ∷ []) ∷ Rooted text2 ∷ Listed true ∷ Listens 8123 true ∷ wait true [] [] ∷ Clock 784111787 ∷ wait true [] [] ∷ Opened 3 ∷ wait true (3 ∷ []) [] ∷ CanRead 3 ∷ Heard 3 text3 ∷ Noted (Taken 3 0 (Part 0 5)) ∷ Dialled 4 (codes "h") 80 ∷ []) ≡ None
unfolding judging
row132 = refl

row139 : fault_from 0 (start (record { words = (codes "diskRun=1") ∷ text0 ∷ text1 ∷ []; faults = 0 } ∷ record { words = (codes "diskRun=1") ∷ text0 ∷ text1 ∷ []; faults = 0 } ∷ [])) (front1 ++ Began (Write text7 8192 ((1 ∷ []))) ∷ Woke ((text7, text9) ∷ []) ∷ Rooted text2 ∷ Listed true ∷ Listens 8123 true ∷ wait true [] [] ∷ Clock 784111787 ∷ wait true [] [] ∷ Opened 3 ∷ wait true (3 ∷ []) [] ∷ CanRead 3 ∷ Heard 3 text3 ∷ Noted (Taken 3 0 (Hit 0 5)) ∷ []) ≡ None
unfolding judging
row139 = refl

row143 : fault_from 0 (start (record { words = (codes "diskRun=1") ∷ text0 ∷ text1 ∷ []; faults = 0 } ∷ record { words = (codes "diskRun=1") ∷ text0 ∷ text1 ∷ []; faults = 0 } ∷ [])) (front1 ++ Began (Write text7 8192 ((1 ∷ []))) ∷ Woke ((text7, text17) ∷ []) ∷ Rooted text2 ∷ Listed true ∷ Listens 8123 true ∷ wait true [] [] ∷ Clock 784111787 ∷ wait true [] [] ∷ Opened 3 ∷ wait true (3 ∷ []) [] ∷ CanRead 3 ∷ Heard 3 text3 ∷ Noted (Taken 3 0 (Hit 0 5)) ∷ []) ≡ Some (record { at = 43; rule = WrongDecision })
unfolding judging
row143 = refl

row150 : fault_from 0 (start (record { words = (codes "diskRun=1") ∷ text0 ∷ text1 ∷ []; faults = 0 } ∷ record { words = (codes "diskRun=1") ∷ text0 ∷ text1 ∷ []; faults = 0 } ∷ [])) (front1 ++ Began (Write text7 8192 ((1 ∷ []))) ∷ Woke ((text7, text18) ∷ []) ∷ []) ≡ Some (record { at = 32; rule = ImageNotLeft })
unfolding judging
row150 = refl

row155 : fault_from 0 (start (record { words = (codes "diskRun=1") ∷ text0 ∷ text1 ∷ []; faults = 0 } ∷ record { words = (codes "diskRun=1") ∷ text0 ∷ text1 ∷ []; faults = 0 } ∷ [])) (front1 ++ Began (Write text7 8192 ((1 ∷ []))) ∷ Woke ((text7, text19) ∷ []) ∷ []) ≡ Some (record { at = 32; rule = ImageNotLeft })
unfolding judging
row155 = refl

row162 : fault_from 0 (start (record { words = (codes "diskRun=1") ∷ text0 ∷ text1 ∷ []; faults = 0 } ∷ record { words = (codes "diskRun=1") ∷ text0 ∷ text1 ∷ []; faults = 0 } ∷ [])) (front2 ++ Began (Draft text6) ∷ Woke [] ∷ []) ≡ None
unfolding judging
row162 = refl

row166 : fault_from 0 (start (record { words = (codes "diskRun=1") ∷ text0 ∷ text1 ∷ []; faults = 0 } ∷ record { words = (codes "diskRun=1") ∷ text0 ∷ text1 ∷ []; faults = 0 } ∷ [])) (front2 ++ Began (Draft text6) ∷ Did (Draft text6) true ∷ Began SyncDraft ∷ Did SyncDraft true ∷ Began (Publish text7) ∷ Woke [] ∷ []) ≡ None
unfolding judging
row166 = refl

row174 : fault_from 0 (start (record { words = (codes "diskRun=1") ∷ text0 ∷ text1 ∷ []; faults = 0 } ∷ record { words = (codes "diskRun=1") ∷ text0 ∷ text1 ∷ []; faults = 0 } ∷ [])) (front2 ++ Began (Draft text6) ∷ Did (Draft text6) true ∷ Began SyncDraft ∷ Did SyncDraft true ∷ Began (Publish text7) ∷ Woke ((text7, text6) ∷ []) ∷ Rooted text2 ∷ Listed true ∷ Listens 8123 true ∷ wait true [] [] ∷ []) ≡ None
unfolding judging
row174 = refl

row183 : fault_from 0 (start (record { words = (codes "diskRun=1") ∷ text0 ∷ text1 ∷ []; faults = 0 } ∷ record { words = (codes "diskRun=1") ∷ text0 ∷ text1 ∷ []; faults = 0 } ∷ [])) (front2 ++ Began (Draft text6) ∷ Did (Draft text6) true ∷ Began SyncDraft ∷ Did SyncDraft true ∷ Woke ((text7, text6) ∷ []) ∷ []) ≡ Some (record { at = 25; rule = ImageNotLeft })
unfolding judging
row183 = refl

row191 : fault_from 0 (start (record { words = (codes "diskRun=1") ∷ text0 ∷ text1 ∷ []; faults = 0 } ∷ record { words = (codes "diskRun=1") ∷ text0 ∷ text1 ∷ []; faults = 0 } ∷ [])) (front2 ++ Began (Draft text6) ∷ Did (Draft text6) true ∷ Began SyncDraft ∷ Did SyncDraft true ∷ Began (Publish text7) ∷ Did (Publish text7) true ∷ Woke [] ∷ []) ≡ Some (record { at = 27; rule = ImageNotLeft })
unfolding judging
row191 = refl

row212 : fault_from 0 (start (record { words = (codes "diskRun=1") ∷ text0 ∷ text1 ∷ []; faults = 0 } ∷ record { words = (codes "diskRun=1") ∷ text0 ∷ text1 ∷ []; faults = 1 } ∷ [])) (front3 ++ Unread text7 ∷ Noted (Gone (codes "http://h/a")) ∷ Dialled 4 (codes "h") 80 ∷ wait true [] [] ∷ []) ≡ None
unfolding judging
row212 = refl

row215 : fault_from 0 (start (record { words = (codes "diskRun=1") ∷ text0 ∷ text1 ∷ []; faults = 0 } ∷ record { words = (codes "diskRun=1") ∷ text0 ∷ text1 ∷ []; faults = 1 } ∷ [])) (front3 ++ Unread text7 ∷ Noted (Loaded (codes "http://h/a") (codes "\"x\"") 5 0) ∷ []) ≡ Some (record { at = 62; rule = NotToBeLoaded })
unfolding judging
row215 = refl

row220 : fault_from 0 (start (record { words = (codes "diskRun=1") ∷ text0 ∷ text1 ∷ []; faults = 0 } ∷ record { words = (codes "diskRun=1") ∷ text0 ∷ text1 ∷ []; faults = 1 } ∷ [])) (front3 ++ Unread text7 ∷ Dialled 4 (codes "h") 80 ∷ []) ≡ Some (record { at = 62; rule = NotToBeDialled })
unfolding judging
row220 = refl

row225 : fault_from 0 (start (record { words = (codes "diskRun=1") ∷ text0 ∷ text1 ∷ []; faults = 0 } ∷ record { words = (codes "diskRun=1") ∷ text0 ∷ text1 ∷ []; faults = 1 } ∷ [])) (front3 ++ Unread text7 ∷ Noted (Gone (codes "http://h/a")) ∷ wait true (3 ∷ []) [] ∷ []) ≡ Some (record { at = 63; rule = StepUnfinished })
unfolding judging
row225 = refl

row235 : fault_from 0 (start (record { words = (codes "diskRun=1") ∷ text0 ∷ text1 ∷ []; faults = 0 } ∷ record { words = (codes "diskRun=1") ∷ text0 ∷ text1 ∷ []; faults = 0 } ∷ [])) (front3 ++ Unread text7 ∷ []) ≡ Some (record { at = 61; rule = FailureMadeUp })
unfolding judging
row235 = refl

row266 : fault_from 0 (start (record { words = (codes "diskRun=1") ∷ text0 ∷ text1 ∷ []; faults = 0 } ∷ [])) (Woke ((text7, text9) ∷ []) ∷ []) ≡ Some (record { at = 0; rule = ImageNotLeft })
unfolding judging
row266 = refl

row270 : fault_from 0 (start (record { words = (codes "diskRun=1") ∷ text0 ∷ text1 ∷ []; faults = 0 } ∷ [])) (Woke ((text7, text20) ∷ []) ∷ Rooted text2 ∷ Listed true ∷ Listens 8123 true ∷ wait true [] [] ∷ Clock 784111787 ∷ wait true [] [] ∷ Opened 1 ∷ wait true (1 ∷ []) [] ∷ CanRead 1 ∷ Heard 1 text3 ∷ Noted (Taken 1 0 Fetch) ∷ Dialled 2 (codes "h") 80 ∷ wait true [] [] ∷ Opened 3 ∷ wait true (3 ∷ []) [] ∷ CanRead 3 ∷ Heard 3 text21 ∷ Noted (Taken 3 0 Fetch) ∷ Dialled 4 (codes "h") 80 ∷ wait true [] [] ∷ []) ≡ None
unfolding judging
row270 = refl

row276 : fault_from 0 (start (record { words = (codes "diskRun=1") ∷ text0 ∷ text1 ∷ []; faults = 0 } ∷ [])) (Woke ((text7, text20) ∷ []) ∷ Rooted text2 ∷ Listed true ∷ Listens 8123 true ∷ wait true [] [] ∷ Clock 784111787 ∷ wait true [] [] ∷ Opened 1 ∷ wait true (1 ∷ []) [] ∷ CanRead 1 ∷ Heard 1 text3 ∷ Noted (Taken 1 0 Fetch) ∷ Dialled 2 (codes "h") 80 ∷ wait true [] [] ∷ Opened 3 ∷ wait true (3 ∷ []) [] ∷ CanRead 3 ∷ Heard 3 text21 ∷ Noted (Taken 3 0 (Hit 0 5)) ∷ []) ≡ Some (record { at = 18; rule = WrongDecision })
unfolding judging
row276 = refl

row281 : fault_from 0 (start (record { words = (codes "diskRun=1") ∷ text0 ∷ text1 ∷ []; faults = 0 } ∷ [])) (Woke ((text7, text20) ∷ []) ∷ Rooted text2 ∷ Listed true ∷ Began (Write text7 8192 ((0 ∷ []))) ∷ []) ≡ Some (record { at = 3; rule = WrongDiskOperation })
unfolding judging
row281 = refl

row288 : fault_from 0 (start (record { words = (codes "diskRun=1") ∷ text0 ∷ text1 ∷ []; faults = 0 } ∷ [])) (Woke ((text7, text14) ∷ []) ∷ Rooted text2 ∷ Listed true ∷ Listens 8123 true ∷ wait true [] [] ∷ Clock 784111787 ∷ wait true [] [] ∷ Opened 1 ∷ wait true (1 ∷ []) [] ∷ CanRead 1 ∷ Heard 1 text3 ∷ Noted (Taken 1 0 Fetch) ∷ []) ≡ None
unfolding judging
row288 = refl
