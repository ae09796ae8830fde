-- The verdicts of transcripts/gates.log, written by transcripts/make_rows.
use Rattle.std.proofs.Common.{◌≡◌, refl, ℕ, List, [], ◌∷◌, ◌++◌, true, false, Bool, Option, None, Some, codes}
use Rattle.std.specs.Prelude.{replicate, is_some}
use Rattle.pp_world.specs.Log.{Log}
use Rattle.pp_world.specs.declared.happening.Happening.{Happening}
use Rattle.pp_world.specs.declared.happening.Happening.TheVariants.{Woke, Waits, Clock, Opened, CanRead, CanWrite, Heard, HungUp, Said, Shut, Dialled, Undialled, Reached, Ended, Broke, Asked, Got, Dropped, NoneYet, Began, Did, Unread, Noted, Rooted, Listed, Listens, Configured, Printed, Stopped}
use Rattle.pp_world.specs.declared.note.Decision.TheVariants.{Refuse, Hit, Part, Head, NotModified, Unsatisfiable, Relay, Validate, Fetch, Pass}
use Rattle.pp_world.specs.declared.note.Cause.TheVariants.{Superseded, Origin, Short, Idle, Memory, Stop}
use Rattle.pp_world.specs.declared.note.Remark.TheVariants.{Taken, Cut, Kept, Gone, Forgotten, Evicted, Loaded}
use Rattle.pp_world.specs.declared.op.DiskOp.TheVariants.{Draft, SyncDraft, Publish, Write, Sync, Remove}
use Rattle.pp_law.specs.Lists.{Bytes}
use Rattle.pp_law.specs.State.{State, start}
use Rattle.pp_law.specs.Lawful.{fault_from, Fault, ImageNotLeft, OpeningOutOfOrder, EventOutOfTurn, ReadNotAskedFor, FailureMadeUp, WrongReply, WrongAsk, WrongDecision, WrongCut, NotToBeClosed, NotToBeDialled, NotToBeEvicted, NotToBeForgotten, NotToBeLoaded, NotSealed, NotGone, WrongDiskOperation, StepUnfinished, AcceptsWrongly, ClientForgotten, ConnectionForgotten, ExchangeForgotten, WantsTooMuch}
use Rattle.pp_pieces.proofs.Forced.{judge, arrived, judging, told, tell}

abbrev wait : Bool → List ℕ → List ℕ → Happening
wait accept read write = Waits (record { accept = accept; read = record { items = read }; write = record { items = write } })

abbrev text0 : Bytes
text0 = (codes "pipelineAsks=1")

abbrev text1 : Bytes
text1 = (codes "hostConnections=4")

abbrev text2 : Bytes
text2 = (codes "polipo-cache")

abbrev text3 : Bytes
text3 = (codes "GET http://h/a HTTP/1.1\r\nHost: h\r\n\r\n")

abbrev text4 : Bytes
text4 = (codes "GET /a HTTP/1.1\r\nhost: h\r\nvia: 1.1 polipo\r\n\r\n")

abbrev text5 : Bytes
text5 = (codes "HTTP/1.1 200 OK\r\nDate: Sun, 06 Nov 1994 08:49:37 GMT\r\nETag: \"x\"\r\nCache-Control: max-age=60\r\nContent-Length: 4100\r\n\r\n" ++ replicate 4100 97)

abbrev text6 : Bytes
text6 = (codes "HTTP/1.1 200 OK\r\netag: \"x\"\r\ndate: Sun, 06 Nov 1994 08:49:37 GMT\r\ncache-control: max-age=60\r\nX-Polipo-Location: http://h/a\r\nX-Polipo-Date: 784111777\r\nX-Polipo-Age: 0\r\nX-Polipo-Length: 4100\r\nX-Polipo-Body-Offset: 12288\r\n\r\n" ++ replicate 12068 0)

abbrev text7 : Bytes
text7 = (codes "2ce7276502725c281e6d5ae4e55aed55")

abbrev text8 : Bytes
text8 = (replicate 4096 97)

abbrev front0 : Log
front0 = Woke [] ∷ Rooted text2 ∷ Listed true ∷ Listens 8123 true ∷ wait true [] [] ∷ Clock 784111777 ∷ wait true [] [] ∷ Opened 1 ∷ wait true (1 ∷ []) [] ∷ CanRead 1 ∷ Heard 1 text3 ∷ Noted (Taken 1 0 Fetch) ∷ Dialled 2 (codes "h") 80 ∷ wait true (1 ∷ []) [] ∷ Reached 2 ∷ wait true (1 ∷ 2 ∷ []) (2 ∷ []) ∷ CanWrite 2 ∷ Asked 2 text4 ∷ wait true (1 ∷ 2 ∷ []) [] ∷ CanRead 2 ∷ Got 2 text5 ∷ Began (Draft text6) ∷ Did (Draft text6) true ∷ Began SyncDraft ∷ Did SyncDraft true ∷ Began (Publish text7) ∷ Did (Publish text7) true ∷ Began (Write text7 12288 text8) ∷ Did (Write text7 12288 text8) true ∷ Began (Sync text7) ∷ Did (Sync text7) true ∷ Began (Write text7 8192 ((1 ∷ []))) ∷ Did (Write text7 8192 ((1 ∷ []))) true ∷ Began (Sync text7) ∷ Did (Sync text7) true ∷ Noted (Kept (codes "http://h/a") (codes "\"x\"") 4100 4096) ∷ Began (Write text7 16384 (codes "aaaa")) ∷ []

abbrev text9 : Bytes
text9 = (codes "HTTP/1.1 200 OK\r\netag: \"x\"\r\ndate: Sun, 06 Nov 1994 08:49:37 GMT\r\ncache-control: max-age=60\r\nX-Polipo-Location: http://h/a\r\nX-Polipo-Date: 784111777\r\nX-Polipo-Age: 0\r\nX-Polipo-Length: 4100\r\nX-Polipo-Body-Offset: 12288\r\n\r\n" ++ replicate 7972 0 ++ (1 ∷ []) ++ replicate 4095 0 ++ replicate 4097 97 ++ codes "b")

abbrev text10 : Bytes
text10 = (codes "HTTP/1.1 200 OK\r\netag: \"x\"\r\ndate: Sun, 06 Nov 1994 08:49:37 GMT\r\ncache-control: max-age=60\r\nX-Polipo-Location: http://h/a\r\nX-Polipo-Date: 784111777\r\nX-Polipo-Age: 0\r\nX-Polipo-Length: 4100\r\nX-Polipo-Body-Offset: 12288\r\n\r\n" ++ replicate 7972 0 ++ (1 ∷ []) ++ replicate 4095 0 ++ replicate 4100 97)

abbrev front1 : Log
front1 = Woke [] ∷ Rooted text2 ∷ Listed true ∷ Listens 8123 true ∷ wait true [] [] ∷ Clock 784111777 ∷ wait true [] [] ∷ Opened 1 ∷ wait true (1 ∷ []) [] ∷ CanRead 1 ∷ Heard 1 text3 ∷ Noted (Taken 1 0 Fetch) ∷ Dialled 2 (codes "h") 80 ∷ wait true (1 ∷ []) [] ∷ Reached 2 ∷ wait true (1 ∷ 2 ∷ []) (2 ∷ []) ∷ CanWrite 2 ∷ Asked 2 text4 ∷ wait true (1 ∷ 2 ∷ []) [] ∷ CanRead 2 ∷ Got 2 text5 ∷ Began (Draft text6) ∷ Did (Draft text6) true ∷ Began SyncDraft ∷ Did SyncDraft true ∷ Began (Publish text7) ∷ Did (Publish text7) true ∷ Began (Write text7 12288 text8) ∷ Did (Write text7 12288 text8) true ∷ Began (Sync text7) ∷ Did (Sync text7) true ∷ Began (Write text7 8192 ((1 ∷ []))) ∷ Did (Write text7 8192 ((1 ∷ []))) true ∷ Began (Sync text7) ∷ Did (Sync text7) true ∷ Noted (Kept (codes "http://h/a") (codes "\"x\"") 4100 4096) ∷ Began (Write text7 16384 (codes "aaaa")) ∷ Did (Write text7 16384 (codes "aaaa")) true ∷ Began (Sync text7) ∷ Did (Sync text7) true ∷ Began (Write text7 8193 ((1 ∷ []))) ∷ []

abbrev text11 : Bytes
text11 = (codes "HTTP/1.1 200 OK\r\netag: \"x\"\r\ndate: Sun, 06 Nov 1994 08:49:37 GMT\r\ncache-control: max-age=60\r\nX-Polipo-Location: http://h/a\r\nX-Polipo-Date: 784111777\r\nX-Polipo-Age: 0\r\nX-Polipo-Length: 4100\r\nX-Polipo-Body-Offset: 12288\r\n\r\n" ++ replicate 7972 0 ++ (1 ∷ 7 ∷ []) ++ replicate 4094 0 ++ replicate 4100 97)

abbrev text12 : Bytes
text12 = (codes "HTTP/1.1 200 OK\r\netag: \"x\"\r\ndate: Sun, 06 Nov 1994 08:49:37 GMT\r\ncache-control: max-age=60\r\nX-Polipo-Location: http://h/a\r\nX-Polipo-Date: 784111777\r\nX-Polipo-Age: 0\r\nX-Polipo-Length: 4100\r\nX-Polipo-Body-Offset: 12288\r\n\r\n" ++ replicate 7972 0 ++ (1 ∷ 1 ∷ []) ++ replicate 4094 0 ++ replicate 4100 97)

abbrev text13 : Bytes
text13 = (codes "HTTP/1.1 200 OK\r\netag: \"x\"\r\ndate: Sun, 06 Nov 1994 08:49:37 GMT\r\ncache-control: max-age=60\r\nX-Polipo-Location: http://h/a\r\nX-Polipo-Date: 784111777\r\nX-Polipo-Age: 0\r\nX-Polipo-Length: 4100\r\nX-Polipo-Body-Offset: 12288\r\n\r\n" ++ replicate 7973 0 ++ (1 ∷ []) ++ replicate 4094 0 ++ replicate 4100 97)

row45 : fault_from 0 (start (record { words = (codes "diskRun=1") ∷ text0 ∷ text1 ∷ []; faults = 0 } ∷ record { words = (codes "diskRun=1") ∷ text0 ∷ text1 ∷ []; faults = 0 } ∷ [])) (front0 ++ Woke ((text7, text9) ∷ []) ∷ Rooted text2 ∷ Listed true ∷ Listens 8123 true ∷ wait true [] [] ∷ Clock 784111787 ∷ wait true [] [] ∷ Opened 3 ∷ wait true (3 ∷ []) [] ∷ CanRead 3 ∷ Heard 3 text3 ∷ Noted (Taken 3 0 (Part 0 4100)) ∷ []) ≡ None
unfolding judging
row45 = refl

row50 : fault_from 0 (start (record { words = (codes "diskRun=1") ∷ text0 ∷ text1 ∷ []; faults = 0 } ∷ record { words = (codes "diskRun=1") ∷ text0 ∷ text1 ∷ []; faults = 0 } ∷ [])) (front0 ++ Woke ((text7, text10) ∷ []) ∷ Rooted text2 ∷ Listed true ∷ Listens 8123 true ∷ wait true [] [] ∷ Clock 784111787 ∷ wait true [] [] ∷ Opened 3 ∷ wait true (3 ∷ []) [] ∷ CanRead 3 ∷ Heard 3 text3 ∷ Noted (Taken 3 0 (Hit 0 4100)) ∷ []) ≡ Some (record { at = 48; rule = WrongDecision })
unfolding judging
row50 = refl

row58 : fault_from 0 (start (record { words = (codes "diskRun=1") ∷ text0 ∷ text1 ∷ []; faults = 0 } ∷ record { words = (codes "diskRun=1") ∷ text0 ∷ text1 ∷ []; faults = 0 } ∷ [])) (front1 ++ Woke ((text7, text11) ∷ []) ∷ Rooted text2 ∷ Listed true ∷ Listens 8123 true ∷ wait true [] [] ∷ []) ≡ None
unfolding judging
row58 = refl

row62 : fault_from 0 (start (record { words = (codes "diskRun=1") ∷ text0 ∷ text1 ∷ []; faults = 0 } ∷ record { words = (codes "diskRun=1") ∷ text0 ∷ text1 ∷ []; faults = 0 } ∷ [])) (front1 ++ Woke ((text7, text11) ∷ []) ∷ Rooted text2 ∷ Listed true ∷ Listens 8123 true ∷ wait true [] [] ∷ Clock 784111787 ∷ wait true [] [] ∷ Opened 3 ∷ wait true (3 ∷ []) [] ∷ CanRead 3 ∷ Heard 3 text3 ∷ Noted (Taken 3 0 (Part 0 4100)) ∷ []) ≡ None
unfolding judging
row62 = refl

row66 : fault_from 0 (start (record { words = (codes "diskRun=1") ∷ text0 ∷ text1 ∷ []; faults = 0 } ∷ record { words = (codes "diskRun=1") ∷ text0 ∷ text1 ∷ []; faults = 0 } ∷ [])) (front1 ++ Woke ((text7, text11) ∷ []) ∷ Rooted text2 ∷ Listed true ∷ Listens 8123 true ∷ wait true [] [] ∷ Clock 784111787 ∷ wait true [] [] ∷ Opened 3 ∷ wait true (3 ∷ []) [] ∷ CanRead 3 ∷ Heard 3 text3 ∷ Noted (Taken 3 0 (Part 0 4100)) ∷ Dialled 4 (codes "h") 80 ∷ []) ≡ Some (record { at = 53; rule = NotToBeDialled })
unfolding judging
row66 = refl

row72 : fault_from 0 (start (record { words = (codes "diskRun=1") ∷ text0 ∷ text1 ∷ []; faults = 0 } ∷ record { words = (codes "diskRun=1") ∷ text0 ∷ text1 ∷ []; faults = 0 } ∷ [])) (front1 ++ Woke ((text7, text11) ∷ []) ∷ Rooted text2 ∷ Listed true ∷ Listens 8123 true ∷ wait true [] [] ∷ Clock 784111787 ∷ wait true [] [] ∷ Opened 3 ∷ wait true (3 ∷ []) [] ∷ CanRead 3 ∷ Heard 3 text3 ∷ Noted (Taken 3 0 (Hit 0 4100)) ∷ []) ≡ Some (record { at = 52; rule = WrongDecision })
unfolding judging
row72 = refl

row77 : fault_from 0 (start (record { words = (codes "diskRun=1") ∷ text0 ∷ text1 ∷ []; faults = 0 } ∷ record { words = (codes "diskRun=1") ∷ text0 ∷ text1 ∷ []; faults = 0 } ∷ [])) (front1 ++ Woke ((text7, text12) ∷ []) ∷ Rooted text2 ∷ Listed true ∷ Listens 8123 true ∷ wait true [] [] ∷ Clock 784111787 ∷ wait true [] [] ∷ Opened 3 ∷ wait true (3 ∷ []) [] ∷ CanRead 3 ∷ Heard 3 text3 ∷ Noted (Taken 3 0 (Hit 0 4100)) ∷ []) ≡ None
unfolding judging
row77 = refl

row82 : fault_from 0 (start (record { words = (codes "diskRun=1") ∷ text0 ∷ text1 ∷ []; faults = 0 } ∷ record { words = (codes "diskRun=1") ∷ text0 ∷ text1 ∷ []; faults = 0 } ∷ [])) (front1 ++ Woke ((text7, text11) ∷ []) ∷ Rooted text2 ∷ Listed true ∷ Began (Write text7 8193 ((0 ∷ []))) ∷ []) ≡ Some (record { at = 44; rule = WrongDiskOperation })
unfolding judging
row82 = refl

row89 : fault_from 0 (start (record { words = (codes "diskRun=1") ∷ text0 ∷ text1 ∷ []; faults = 0 } ∷ record { words = (codes "diskRun=1") ∷ text0 ∷ text1 ∷ []; faults = 0 } ∷ [])) (front1 ++ Woke ((text7, text11) ∷ []) ∷ Rooted text2 ∷ Listed true ∷ Began (Write text7 8193 ((1 ∷ []))) ∷ []) ≡ Some (record { at = 44; rule = WrongDiskOperation })
unfolding judging
row89 = refl

row96 : fault_from 0 (start (record { words = (codes "diskRun=1") ∷ text0 ∷ text1 ∷ []; faults = 0 } ∷ record { words = (codes "diskRun=1") ∷ text0 ∷ text1 ∷ []; faults = 0 } ∷ [])) (front1 ++ Woke ((text7, text11) ∷ []) ∷ Rooted text2 ∷ Listed true ∷ Began (Write text7 8192 ((0 ∷ []))) ∷ []) ≡ Some (record { at = 44; rule = WrongDiskOperation })
unfolding judging
row96 = refl

row103 : fault_from 0 (start (record { words = (codes "diskRun=1") ∷ text0 ∷ text1 ∷ []; faults = 0 } ∷ record { words = (codes "diskRun=1") ∷ text0 ∷ text1 ∷ []; faults = 0 } ∷ [])) (front1 ++ Woke ((text7, text11) ∷ []) ∷ Rooted text2 ∷ Listed true ∷ Began (Sync text7) ∷ []) ≡ Some (record { at = 44; rule = WrongDiskOperation })
unfolding judging
row103 = refl

row110 : fault_from 0 (start (record { words = (codes "diskRun=1") ∷ text0 ∷ text1 ∷ []; faults = 0 } ∷ record { words = (codes "diskRun=1") ∷ text0 ∷ text1 ∷ []; faults = 0 } ∷ [])) (front1 ++ Woke ((text7, text11) ∷ []) ∷ Rooted text2 ∷ Listed true ∷ Began (Remove text7) ∷ []) ≡ Some (record { at = 44; rule = WrongDiskOperation })
unfolding judging
row110 = refl

row117 : fault_from 0 (start (record { words = (codes "diskRun=1") ∷ text0 ∷ text1 ∷ []; faults = 0 } ∷ record { words = (codes "diskRun=1") ∷ text0 ∷ text1 ∷ []; faults = 0 } ∷ [])) (front1 ++ Woke ((text7, text13) ∷ []) ∷ []) ≡ Some (record { at = 41; rule = ImageNotLeft })
unfolding judging
row117 = refl
