-- The verdicts of transcripts/idle.log, written by transcripts/make_rows.
use Rattle.std.proofs.Common.{◌≡◌, refl, ℕ, List, [], ◌∷◌, ◌++◌, true, false, Bool, Option, None, Some, codes}
use Rattle.std.specs.Prelude.{replicate, is_some}
use Rattle.pp_world.specs.Log.{Log}
use Rattle.pp_world.specs.declared.happening.Happening.{Happening}
use Rattle.pp_world.specs.declared.happening.Happening.TheVariants.{Woke, Waits, Clock, Opened, CanRead, CanWrite, Heard, HungUp, Said, Shut, Dialled, Undialled, Reached, Ended, Broke, Asked, Got, Dropped, NoneYet, Began, Did, Unread, Noted, Rooted, Listed, Listens, Configured, Printed, Stopped}
use Rattle.pp_world.specs.declared.note.Decision.TheVariants.{Refuse, Hit, Part, Head, NotModified, Unsatisfiable, Relay, Validate, Fetch, Pass}
use Rattle.pp_world.specs.declared.note.Cause.TheVariants.{Superseded, Origin, Short, Idle, Memory, Stop}
use Rattle.pp_world.specs.declared.note.Remark.TheVariants.{Taken, Cut, Kept, Gone, Forgotten, Evicted, Loaded}
use Rattle.pp_world.specs.declared.op.DiskOp.TheVariants.{Draft, SyncDraft, Publish, Write, Sync, Remove}
use Rattle.pp_law.specs.Lists.{Bytes}
use Rattle.pp_law.specs.State.{State, start}
use Rattle.pp_law.specs.Lawful.{fault_from, Fault, ImageNotLeft, OpeningOutOfOrder, EventOutOfTurn, ReadNotAskedFor, FailureMadeUp, WrongReply, WrongAsk, WrongDecision, WrongCut, NotToBeClosed, NotToBeDialled, NotToBeEvicted, NotToBeForgotten, NotToBeLoaded, NotSealed, NotGone, WrongDiskOperation, StepUnfinished, AcceptsWrongly, ClientForgotten, ConnectionForgotten, ExchangeForgotten, WantsTooMuch}
use Rattle.pp_pieces.proofs.Forced.{judge, arrived, judging, told, tell}

abbrev wait : Bool → List ℕ → List ℕ → Happening
wait accept read write = Waits (record { accept = accept; read = record { items = read }; write = record { items = write } })

abbrev text0 : Bytes
text0 = (codes "pipelineAsks=1")

abbrev text1 : Bytes
text1 = (codes "hostConnections=4")

abbrev text2 : Bytes
text2 = (codes "polipo-cache")

abbrev front0 : Log
front0 = Woke [] ∷ Rooted text2 ∷ Listed true ∷ Listens 8123 true ∷ wait true [] [] ∷ Clock 784111777 ∷ wait true [] [] ∷ []

abbrev text3 : Bytes
text3 = (codes "GET http://h/a HTTP/1.1\r\nHost: h\r\n\r\n")

abbrev text4 : Bytes
text4 = (codes "GET /a HTTP/1.1\r\nhost: h\r\nvia: 1.1 polipo\r\n\r\n")

abbrev text5 : Bytes
text5 = (codes "GET http://h/a HTTP/1.1\r\nHost: h\r\nCache-Control: no-store\r\n\r\n")

abbrev text6 : Bytes
text6 = (codes "GET /a HTTP/1.1\r\nhost: h\r\ncache-control: no-store\r\nvia: 1.1 polipo\r\n\r\n")

abbrev text7 : Bytes
text7 = (codes "HTTP/1.1 200 OK\r\nContent-Length: 5\r\n\r\nhello")

abbrev text8 : Bytes
text8 = (codes "HTTP/1.1 200 OK\r\nvia: 1.1 polipo\r\ncontent-length: 5\r\nconnection: keep-alive\r\n\r\n")

abbrev front1 : Log
front1 = Woke [] ∷ Rooted text2 ∷ Listed true ∷ Listens 8123 true ∷ wait true [] [] ∷ Clock 784111777 ∷ wait true [] [] ∷ Opened 1 ∷ wait true (1 ∷ []) [] ∷ CanRead 1 ∷ Heard 1 text5 ∷ Noted (Taken 1 0 Pass) ∷ Dialled 2 (codes "h") 80 ∷ wait true (1 ∷ []) [] ∷ Reached 2 ∷ wait true (1 ∷ 2 ∷ []) (2 ∷ []) ∷ CanWrite 2 ∷ Asked 2 text6 ∷ wait true (1 ∷ 2 ∷ []) [] ∷ CanRead 2 ∷ Got 2 text7 ∷ wait true (1 ∷ 2 ∷ []) (1 ∷ []) ∷ CanWrite 1 ∷ Said 1 79 text8 ∷ wait true (1 ∷ 2 ∷ []) (1 ∷ []) ∷ Clock 784111837 ∷ Dropped 2 ∷ wait true (1 ∷ []) (1 ∷ []) ∷ Clock 784111897 ∷ []

abbrev text9 : Bytes
text9 = (codes "GET http://h/a HTTP/1.0\r\n\r\n")

abbrev text10 : Bytes
text10 = (codes "HTTP/1.1 200 OK\r\nTransfer-Encoding: chunked\r\n\r\n5\r\nhello\r\n0\r\n\r\n")

abbrev front2 : Log
front2 = Woke [] ∷ Rooted text2 ∷ Listed true ∷ Listens 8123 true ∷ wait true [] [] ∷ Clock 784111777 ∷ wait true [] [] ∷ Opened 1 ∷ wait true (1 ∷ []) [] ∷ CanRead 1 ∷ Heard 1 text9 ∷ Noted (Taken 1 0 Fetch) ∷ Dialled 2 (codes "h") 80 ∷ wait true (1 ∷ []) [] ∷ Reached 2 ∷ wait true (1 ∷ 2 ∷ []) (2 ∷ []) ∷ CanWrite 2 ∷ Asked 2 text4 ∷ wait true (1 ∷ 2 ∷ []) [] ∷ CanRead 2 ∷ Got 2 text10 ∷ Noted (Taken 1 0 Relay) ∷ wait true (1 ∷ 2 ∷ []) (1 ∷ []) ∷ CanWrite 1 ∷ []

abbrev text11 : Bytes
text11 = (codes "HTTP/1.1 200 OK\r\nvia: 1.1 polipo\r\nconnection: close\r\n\r\n")

abbrev text12 : Bytes
text12 = (codes "HTTP/1.1 200 OK\r\nvia: 1.1 polipo\r\ntransfer-encoding: chunked\r\n")

abbrev front3 : Log
front3 = Woke [] ∷ Rooted text2 ∷ Listed true ∷ Listens 8123 true ∷ wait true [] [] ∷ Clock 784111777 ∷ wait true [] [] ∷ Opened 1 ∷ wait true (1 ∷ []) [] ∷ CanRead 1 ∷ Heard 1 text3 ∷ Noted (Taken 1 0 Fetch) ∷ Dialled 2 (codes "h") 80 ∷ wait true (1 ∷ []) [] ∷ Reached 2 ∷ wait true (1 ∷ 2 ∷ []) (2 ∷ []) ∷ CanWrite 2 ∷ Asked 2 text4 ∷ wait true (1 ∷ 2 ∷ []) [] ∷ []

abbrev text13 : Bytes
text13 = (codes "HTTP/1.1 200 OK\r\nETag: \"x\"\r\nCache-Control: max-age=60\r\nContent-Length: 0\r\n\r\n")

abbrev text14 : Bytes
text14 = (codes "HTTP/1.1 200 OK\r\netag: \"x\"\r\ndate: Sun, 06 Nov 1994 08:49:37 GMT\r\ncache-control: max-age=60\r\nvia: 1.1 polipo\r\ncontent-length: 0\r\nconnection: keep-alive\r\n\r\n")

abbrev text15 : Bytes
text15 = (codes "GET http://h/a HTTP/1.1\r\nRange: bytes=0-\r\n\r\n")

abbrev text16 : Bytes
text16 = (codes "HTTP/1.1 416 Requested Range Not Satisfiable\r\ncontent-range: bytes */0\r\ncontent-type: text/plain\r\ncontent-length: 36\r\nconnection: keep-alive\r\n\r\n416 Requested Range Not Satisfiable\n")

abbrev text17 : Bytes
text17 = (codes "HTTP/1.1 200 OK\r\netag: \"x\"\r\ndate: Sun, 06 Nov 1994 08:49:37 GMT\r\ncache-control: max-age=60\r\nX-Polipo-Location: http://h/a\r\nX-Polipo-Date: 784111777\r\nX-Polipo-Age: 0\r\nX-Polipo-Length: 0\r\nX-Polipo-Body-Offset: 8192\r\n\r\n" ++ replicate 12072 0)

abbrev text18 : Bytes
text18 = (codes "HTTP/1.1 404 Not Found\r\nContent-Length: 0\r\n\r\n")

abbrev front4 : Log
front4 = Woke [] ∷ Rooted text2 ∷ Listed true ∷ Listens 8123 true ∷ wait true [] [] ∷ Clock 784111777 ∷ wait true [] [] ∷ Opened 1 ∷ wait true (1 ∷ []) [] ∷ CanRead 1 ∷ Heard 1 text3 ∷ Noted (Taken 1 0 Fetch) ∷ Dialled 2 (codes "h") 80 ∷ wait true (1 ∷ []) [] ∷ Reached 2 ∷ wait true (1 ∷ 2 ∷ []) (2 ∷ []) ∷ CanWrite 2 ∷ Asked 2 text4 ∷ wait true (1 ∷ 2 ∷ []) [] ∷ CanRead 2 ∷ Got 2 text18 ∷ Noted (Taken 1 0 Relay) ∷ wait true (1 ∷ 2 ∷ []) (1 ∷ []) ∷ Clock 784111836 ∷ []

abbrev text19 : Bytes
text19 = (codes "HTTP/1.1 404 Not Found\r\nvia: 1.1 polipo\r\ncontent-length: 0\r\nconnection: keep-alive\r\n\r\n")

row10 : fault_from 0 (start (record { words = (codes "diskRun=1") ∷ text0 ∷ text1 ∷ []; faults = 0 } ∷ [])) (front0 ++ Opened 1 ∷ wait true (1 ∷ []) [] ∷ Clock 784111896 ∷ wait true (1 ∷ []) [] ∷ Clock 784111897 ∷ Noted (Cut 1 Idle) ∷ Shut 1 ∷ wait true [] [] ∷ []) ≡ None
unfolding judging
row10 = refl

row20 : fault_from 0 (start (record { words = (codes "diskRun=1") ∷ text0 ∷ text1 ∷ []; faults = 0 } ∷ [])) (front0 ++ Opened 1 ∷ Noted (Cut 1 Memory) ∷ Shut 1 ∷ wait true [] [] ∷ []) ≡ None
unfolding judging
row20 = refl

row26 : fault_from 0 (start (record { words = (codes "diskRun=1") ∷ text0 ∷ text1 ∷ []; faults = 0 } ∷ [])) (front0 ++ Opened 1 ∷ wait true (1 ∷ []) [] ∷ Clock 784111896 ∷ Noted (Cut 1 Idle) ∷ []) ≡ Some (record { at = 10; rule = WrongCut })
unfolding judging
row26 = refl

row33 : fault_from 0 (start (record { words = (codes "diskRun=1") ∷ text0 ∷ text1 ∷ []; faults = 0 } ∷ [])) (front0 ++ Opened 1 ∷ wait true (1 ∷ []) [] ∷ Clock 784111897 ∷ wait true (1 ∷ []) [] ∷ Clock 784112016 ∷ wait true (1 ∷ []) [] ∷ Clock 784112017 ∷ Noted (Cut 1 Idle) ∷ Shut 1 ∷ wait true [] [] ∷ []) ≡ None
unfolding judging
row33 = refl

row45 : fault_from 0 (start (record { words = (codes "diskRun=1") ∷ text0 ∷ text1 ∷ []; faults = 0 } ∷ [])) (front0 ++ Opened 1 ∷ wait true (1 ∷ []) [] ∷ Clock 784111897 ∷ Noted (Cut 1 Idle) ∷ []) ≡ Some (record { at = 10; rule = WrongCut })
unfolding judging
row45 = refl

row52 : fault_from 0 (start (record { words = (codes "diskRun=1") ∷ text0 ∷ text1 ∷ []; faults = 0 } ∷ [])) (front0 ++ Opened 1 ∷ wait true (1 ∷ []) [] ∷ Clock 784111896 ∷ wait true (1 ∷ []) [] ∷ Clock 784111897 ∷ wait true (1 ∷ []) [] ∷ []) ≡ Some (record { at = 12; rule = StepUnfinished })
unfolding judging
row52 = refl

row61 : fault_from 0 (start (record { words = (codes "diskRun=1") ∷ text0 ∷ text1 ∷ []; faults = 0 } ∷ [])) (front0 ++ Opened 1 ∷ wait true (1 ∷ []) [] ∷ Clock 784111896 ∷ wait true (1 ∷ []) [] ∷ Clock 784111897 ∷ Shut 1 ∷ []) ≡ Some (record { at = 12; rule = NotToBeClosed })
unfolding judging
row61 = refl

row70 : fault_from 0 (start (record { words = (codes "diskRun=1") ∷ text0 ∷ text1 ∷ []; faults = 0 } ∷ [])) (front0 ++ Opened 1 ∷ wait true (1 ∷ []) [] ∷ Clock 784111837 ∷ wait true (1 ∷ []) [] ∷ CanRead 1 ∷ Heard 1 (codes "GET ") ∷ wait true (1 ∷ []) [] ∷ Clock 784111897 ∷ Noted (Cut 1 Idle) ∷ []) ≡ Some (record { at = 15; rule = WrongCut })
unfolding judging
row70 = refl

row82 : fault_from 0 (start (record { words = (codes "diskRun=1") ∷ text0 ∷ text1 ∷ []; faults = 0 } ∷ [])) (front0 ++ Opened 1 ∷ wait true (1 ∷ []) [] ∷ CanRead 1 ∷ Heard 1 text3 ∷ Noted (Taken 1 0 Fetch) ∷ Dialled 2 (codes "h") 80 ∷ wait true (1 ∷ []) [] ∷ Reached 2 ∷ wait true (1 ∷ 2 ∷ []) (2 ∷ []) ∷ CanWrite 2 ∷ Asked 2 text4 ∷ wait true (1 ∷ 2 ∷ []) [] ∷ Clock 784111836 ∷ wait true (1 ∷ 2 ∷ []) [] ∷ Clock 784111897 ∷ Noted (Cut 1 Idle) ∷ []) ≡ Some (record { at = 22; rule = WrongCut })
unfolding judging
row82 = refl

row90 : fault_from 0 (start (record { words = (codes "diskRun=1") ∷ text0 ∷ text1 ∷ []; faults = 0 } ∷ [])) (front0 ++ Opened 1 ∷ wait true (1 ∷ []) [] ∷ Clock 784111778 ∷ Noted (Cut 1 Memory) ∷ []) ≡ Some (record { at = 10; rule = WrongCut })
unfolding judging
row90 = refl

row97 : fault_from 0 (start (record { words = (codes "diskRun=1") ∷ text0 ∷ text1 ∷ []; faults = 0 } ∷ [])) (front0 ++ Opened 1 ∷ wait false (1 ∷ []) [] ∷ []) ≡ Some (record { at = 8; rule = AcceptsWrongly })
unfolding judging
row97 = refl

row136 : fault_from 0 (start (record { words = (codes "diskRun=1") ∷ text0 ∷ text1 ∷ []; faults = 0 } ∷ [])) (front1 ++ wait true (1 ∷ []) (1 ∷ []) ∷ Clock 784112016 ∷ wait true (1 ∷ []) (1 ∷ []) ∷ Clock 784112135 ∷ wait true (1 ∷ []) (1 ∷ []) ∷ Clock 784112254 ∷ wait true (1 ∷ []) (1 ∷ []) ∷ Clock 784112373 ∷ wait true (1 ∷ []) (1 ∷ []) ∷ Clock 784112492 ∷ wait true (1 ∷ []) (1 ∷ []) ∷ Clock 784112611 ∷ wait true (1 ∷ []) (1 ∷ []) ∷ Clock 784112676 ∷ wait true (1 ∷ []) (1 ∷ []) ∷ Clock 784112677 ∷ Noted (Cut 1 Idle) ∷ Shut 1 ∷ wait true [] [] ∷ []) ≡ None
unfolding judging
row136 = refl

row144 : fault_from 0 (start (record { words = (codes "diskRun=1") ∷ text0 ∷ text1 ∷ []; faults = 0 } ∷ [])) (front1 ++ Noted (Cut 1 Idle) ∷ []) ≡ Some (record { at = 29; rule = WrongCut })
unfolding judging
row144 = refl

row148 : fault_from 0 (start (record { words = (codes "diskRun=1") ∷ text0 ∷ text1 ∷ []; faults = 0 } ∷ [])) (front1 ++ wait true (1 ∷ []) (1 ∷ []) ∷ Clock 784112016 ∷ wait true (1 ∷ []) (1 ∷ []) ∷ Clock 784112135 ∷ wait true (1 ∷ []) (1 ∷ []) ∷ Clock 784112254 ∷ wait true (1 ∷ []) (1 ∷ []) ∷ Clock 784112373 ∷ wait true (1 ∷ []) (1 ∷ []) ∷ Clock 784112492 ∷ wait true (1 ∷ []) (1 ∷ []) ∷ Clock 784112611 ∷ wait true (1 ∷ []) (1 ∷ []) ∷ Clock 784112676 ∷ Noted (Cut 1 Idle) ∷ []) ≡ Some (record { at = 43; rule = WrongCut })
unfolding judging
row148 = refl

row153 : fault_from 0 (start (record { words = (codes "diskRun=1") ∷ text0 ∷ text1 ∷ []; faults = 0 } ∷ [])) (front1 ++ wait true (1 ∷ []) (1 ∷ []) ∷ Clock 784112016 ∷ wait true (1 ∷ []) (1 ∷ []) ∷ Clock 784112135 ∷ wait true (1 ∷ []) (1 ∷ []) ∷ Clock 784112254 ∷ wait true (1 ∷ []) (1 ∷ []) ∷ Clock 784112373 ∷ wait true (1 ∷ []) (1 ∷ []) ∷ Clock 784112492 ∷ wait true (1 ∷ []) (1 ∷ []) ∷ Clock 784112611 ∷ wait true (1 ∷ []) (1 ∷ []) ∷ Clock 784112676 ∷ wait true (1 ∷ []) (1 ∷ []) ∷ Clock 784112677 ∷ wait true (1 ∷ []) (1 ∷ []) ∷ []) ≡ Some (record { at = 45; rule = StepUnfinished })
unfolding judging
row153 = refl

row160 : fault_from 0 (start (record { words = (codes "diskRun=1") ∷ text0 ∷ text1 ∷ []; faults = 0 } ∷ [])) (front1 ++ wait true (1 ∷ []) (1 ∷ []) ∷ Clock 784112016 ∷ wait true (1 ∷ []) (1 ∷ []) ∷ Clock 784112135 ∷ wait true (1 ∷ []) (1 ∷ []) ∷ Clock 784112254 ∷ wait true (1 ∷ []) (1 ∷ []) ∷ Clock 784112373 ∷ wait true (1 ∷ []) (1 ∷ []) ∷ Clock 784112492 ∷ wait true (1 ∷ []) (1 ∷ []) ∷ Clock 784112611 ∷ wait true (1 ∷ []) (1 ∷ []) ∷ Clock 784112676 ∷ wait true (1 ∷ []) (1 ∷ []) ∷ CanWrite 1 ∷ Said 1 5 (codes "h") ∷ wait true (1 ∷ []) (1 ∷ []) ∷ Clock 784112677 ∷ Noted (Cut 1 Idle) ∷ []) ≡ Some (record { at = 48; rule = WrongCut })
unfolding judging
row160 = refl

row170 : fault_from 0 (start (record { words = (codes "diskRun=1") ∷ text0 ∷ text1 ∷ []; faults = 0 } ∷ [])) (front1 ++ wait true (1 ∷ []) (1 ∷ []) ∷ Clock 784112016 ∷ wait true (1 ∷ []) (1 ∷ []) ∷ Clock 784112135 ∷ wait true (1 ∷ []) (1 ∷ []) ∷ Clock 784112254 ∷ wait true (1 ∷ []) (1 ∷ []) ∷ Clock 784112373 ∷ wait true (1 ∷ []) (1 ∷ []) ∷ Clock 784112492 ∷ wait true (1 ∷ []) (1 ∷ []) ∷ Clock 784112611 ∷ wait true (1 ∷ []) (1 ∷ []) ∷ Clock 784112676 ∷ wait true (1 ∷ []) (1 ∷ []) ∷ CanWrite 1 ∷ Said 1 5 (codes "hello") ∷ wait true (1 ∷ []) [] ∷ Clock 784112795 ∷ wait true (1 ∷ []) [] ∷ Clock 784112796 ∷ Noted (Cut 1 Idle) ∷ Shut 1 ∷ wait true [] [] ∷ []) ≡ None
unfolding judging
row170 = refl

row205 : fault_from 0 (start (record { words = (codes "diskRun=1") ∷ text0 ∷ text1 ∷ []; faults = 0 } ∷ [])) (front2 ++ Said 1 55 text11 ∷ wait true (1 ∷ 2 ∷ []) (1 ∷ []) ∷ CanWrite 1 ∷ Said 1 5 (codes "hello") ∷ Shut 1 ∷ wait true (2 ∷ []) [] ∷ []) ≡ None
unfolding judging
row205 = refl

row213 : fault_from 0 (start (record { words = (codes "diskRun=1") ∷ text0 ∷ text1 ∷ []; faults = 0 } ∷ [])) (front2 ++ Said 1 62 text12 ∷ []) ≡ Some (record { at = 24; rule = WrongReply })
unfolding judging
row213 = refl

row217 : fault_from 0 (start (record { words = (codes "diskRun=1") ∷ text0 ∷ text1 ∷ []; faults = 0 } ∷ [])) (front2 ++ Said 1 55 text11 ∷ wait true (1 ∷ 2 ∷ []) (1 ∷ []) ∷ CanWrite 1 ∷ Said 1 10 (codes "5\r\nhello\r\n") ∷ []) ≡ Some (record { at = 27; rule = WrongReply })
unfolding judging
row217 = refl

row224 : fault_from 0 (start (record { words = (codes "diskRun=1") ∷ text0 ∷ text1 ∷ []; faults = 0 } ∷ [])) (front2 ++ Said 1 55 text11 ∷ wait true (1 ∷ 2 ∷ []) (1 ∷ []) ∷ CanWrite 1 ∷ Said 1 5 (codes "hello") ∷ wait true (1 ∷ 2 ∷ []) [] ∷ []) ≡ Some (record { at = 28; rule = StepUnfinished })
unfolding judging
row224 = refl

row249 : fault_from 0 (start (record { words = (codes "diskRun=1") ∷ text0 ∷ text1 ∷ []; faults = 0 } ∷ [])) (front3 ++ CanRead 2 ∷ Got 2 text13 ∷ Noted (Taken 1 0 (Hit 0 0)) ∷ wait true (1 ∷ 2 ∷ []) (1 ∷ []) ∷ CanWrite 1 ∷ Said 1 154 text14 ∷ wait true (1 ∷ 2 ∷ []) [] ∷ CanRead 1 ∷ Heard 1 text15 ∷ Noted (Taken 1 1 Unsatisfiable) ∷ wait true (1 ∷ 2 ∷ []) (1 ∷ []) ∷ CanWrite 1 ∷ Said 1 180 text16 ∷ wait true (1 ∷ 2 ∷ []) [] ∷ []) ≡ None
unfolding judging
row249 = refl

row259 : fault_from 0 (start (record { words = (codes "diskRun=1") ∷ text0 ∷ text1 ∷ []; faults = 0 } ∷ [])) (front3 ++ CanRead 2 ∷ Got 2 text13 ∷ Began (Draft text17) ∷ []) ≡ Some (record { at = 21; rule = WrongDiskOperation })
unfolding judging
row259 = refl

row265 : fault_from 0 (start (record { words = (codes "diskRun=1") ∷ text0 ∷ text1 ∷ []; faults = 0 } ∷ [])) (front3 ++ CanRead 2 ∷ Got 2 text13 ∷ Noted (Taken 1 0 (Hit 0 0)) ∷ wait true (1 ∷ 2 ∷ []) (1 ∷ []) ∷ CanWrite 1 ∷ Said 1 154 text14 ∷ wait true (1 ∷ 2 ∷ []) [] ∷ CanWrite 1 ∷ Said 1 1 (codes "\n") ∷ []) ≡ Some (record { at = 27; rule = WrongReply })
unfolding judging
row265 = refl

row283 : fault_from 0 (start (record { words = (codes "diskRun=1") ∷ text0 ∷ text1 ∷ []; faults = 0 } ∷ [])) (front4 ++ wait true (1 ∷ 2 ∷ []) (1 ∷ []) ∷ Clock 784111837 ∷ Dropped 2 ∷ wait true (1 ∷ []) (1 ∷ []) ∷ []) ≡ None
unfolding judging
row283 = refl

row289 : fault_from 0 (start (record { words = (codes "diskRun=1") ∷ text0 ∷ text1 ∷ []; faults = 0 } ∷ [])) (front4 ++ Dropped 2 ∷ []) ≡ Some (record { at = 24; rule = NotToBeClosed })
unfolding judging
row289 = refl

row293 : fault_from 0 (start (record { words = (codes "diskRun=1") ∷ text0 ∷ text1 ∷ []; faults = 0 } ∷ [])) (front4 ++ wait true (1 ∷ 2 ∷ []) (1 ∷ []) ∷ Clock 784111837 ∷ wait true (1 ∷ 2 ∷ []) (1 ∷ []) ∷ []) ≡ Some (record { at = 26; rule = StepUnfinished })
unfolding judging
row293 = refl

row299 : fault_from 0 (start (record { words = (codes "diskRun=1") ∷ text0 ∷ text1 ∷ []; faults = 0 } ∷ [])) (front4 ++ wait true (1 ∷ 2 ∷ []) (1 ∷ []) ∷ CanWrite 1 ∷ Said 1 86 text19 ∷ Dropped 2 ∷ []) ≡ Some (record { at = 27; rule = NotToBeClosed })
unfolding judging
row299 = refl
