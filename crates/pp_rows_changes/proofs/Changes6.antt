-- The verdicts of transcripts/changes.log, written by transcripts/make_rows.
use Rattle.std.proofs.Common.{◌≡◌, refl, ℕ, List, [], ◌∷◌, ◌++◌, true, false, Bool, Option, None, Some, codes}
use Rattle.std.specs.Prelude.{replicate, is_some}
use Rattle.pp_world.specs.Log.{Log}
use Rattle.pp_world.specs.declared.happening.Happening.{Happening}
use Rattle.pp_world.specs.declared.happening.Happening.TheVariants.{Woke, Waits, Clock, Opened, CanRead, CanWrite, Heard, HungUp, Said, Shut, Dialled, Undialled, Reached, Ended, Broke, Asked, Got, Dropped, NoneYet, Began, Did, Unread, Noted, Rooted, Listed, Listens, Configured, Printed, Stopped}
use Rattle.pp_world.specs.declared.note.Decision.TheVariants.{Refuse, Hit, Part, Head, NotModified, Unsatisfiable, Relay, Validate, Fetch, Pass}
use Rattle.pp_world.specs.declared.note.Cause.TheVariants.{Superseded, Origin, Short, Idle, Memory, Stop}
use Rattle.pp_world.specs.declared.note.Remark.TheVariants.{Taken, Cut, Kept, Gone, Forgotten, Evicted, Loaded}
use Rattle.pp_world.specs.declared.op.DiskOp.TheVariants.{Draft, SyncDraft, Publish, Write, Sync, Remove}
use Rattle.pp_law.specs.Lists.{Bytes}
use Rattle.pp_law.specs.State.{State, start}
use Rattle.pp_law.specs.Lawful.{fault_from, Fault, ImageNotLeft, OpeningOutOfOrder, EventOutOfTurn, ReadNotAskedFor, FailureMadeUp, WrongReply, WrongAsk, WrongDecision, WrongCut, NotToBeClosed, NotToBeDialled, NotToBeEvicted, NotToBeForgotten, NotToBeLoaded, NotSealed, NotGone, WrongDiskOperation, StepUnfinished, AcceptsWrongly, ClientForgotten, ConnectionForgotten, ExchangeForgotten, WantsTooMuch}
use Rattle.pp_pieces.proofs.Forced.{judge, arrived, judging, told, tell}

abbrev wait : Bool → List ℕ → List ℕ → Happening
wait accept read write = Waits (record { accept = accept; read = record { items = read }; write = record { items = write } })

abbrev text0 : Bytes
text0 = (codes "pipelineAsks=1")

abbrev text1 : Bytes
text1 = (codes "hostConnections=4")

abbrev text2 : Bytes
text2 = (codes "polipo-cache")

abbrev text3 : Bytes
text3 = (codes "GET http://h/a HTTP/1.1\r\nHost: h\r\nCache-Control: no-store\r\n\r\n")

abbrev text4 : Bytes
text4 = (codes "GET /a HTTP/1.1\r\nhost: h\r\ncache-control: no-store\r\nvia: 1.1 polipo\r\n\r\n")

abbrev text5 : Bytes
text5 = (codes "HTTP/1.1 200 OK\r\nContent-Length: 10\r\n\r\nhello")

abbrev text6 : Bytes
text6 = (codes "HTTP/1.1 200 OK\r\nvia: 1.1 polipo\r\ncontent-length: 10\r\nconnection: keep-alive\r\n\r\n")

abbrev text7 : Bytes
text7 = (codes "GET http://h/a HTTP/1.1\r\nHost: h\r\n\r\n")

abbrev text8 : Bytes
text8 = (codes "GET /a HTTP/1.1\r\nhost: h\r\nvia: 1.1 polipo\r\n\r\n")

abbrev text9 : Bytes
text9 = (codes "HTTP/1.1 200 OK\r\nDate: Sun, 06 Nov 1994 08:49:37 GMT\r\nETag: \"x\"\r\nCache-Control: max-age=60\r\nContent-Length: 5\r\n\r\nhello")

abbrev text10 : Bytes
text10 = (codes "HTTP/1.1 200 OK\r\netag: \"x\"\r\ndate: Sun, 06 Nov 1994 08:49:37 GMT\r\ncache-control: max-age=60\r\nX-Polipo-Location: http://h/a\r\nX-Polipo-Date: 784111777\r\nX-Polipo-Age: 0\r\nX-Polipo-Length: 5\r\nX-Polipo-Body-Offset: 12288\r\n\r\n" ++ replicate 12071 0)

abbrev text11 : Bytes
text11 = (codes "2ce7276502725c281e6d5ae4e55aed55")

abbrev text12 : Bytes
text12 = (codes "HTTP/1.1 200 OK\r\netag: \"x\"\r\ndate: Sun, 06 Nov 1994 08:49:37 GMT\r\ncache-control: max-age=60\r\nvia: 1.1 polipo\r\ncontent-length: 5\r\nconnection: keep-alive\r\n\r\n")

abbrev front0 : Log
front0 = Woke [] ∷ Rooted text2 ∷ Listed true ∷ Listens 8123 true ∷ wait true [] [] ∷ Clock 784111777 ∷ wait true [] [] ∷ Opened 1 ∷ wait true (1 ∷ []) [] ∷ CanRead 1 ∷ Heard 1 text7 ∷ Noted (Taken 1 0 Fetch) ∷ Dialled 2 (codes "h") 80 ∷ wait true (1 ∷ []) [] ∷ Reached 2 ∷ wait true (1 ∷ 2 ∷ []) (2 ∷ []) ∷ CanWrite 2 ∷ Asked 2 text8 ∷ wait true (1 ∷ 2 ∷ []) [] ∷ CanRead 2 ∷ Got 2 text9 ∷ Began (Draft text10) ∷ Did (Draft text10) true ∷ Began SyncDraft ∷ Did SyncDraft true ∷ Began (Publish text11) ∷ Did (Publish text11) true ∷ Began (Write text11 12288 (codes "hello")) ∷ Did (Write text11 12288 (codes "hello")) true ∷ Began (Sync text11) ∷ Did (Sync text11) true ∷ Began (Write text11 8192 ((1 ∷ []))) ∷ Did (Write text11 8192 ((1 ∷ []))) true ∷ Began (Sync text11) ∷ Did (Sync text11) true ∷ Noted (Kept (codes "http://h/a") (codes "\"x\"") 5 5) ∷ Noted (Taken 1 0 (Hit 0 5)) ∷ wait true (1 ∷ 2 ∷ []) (1 ∷ []) ∷ CanWrite 1 ∷ Said 1 154 text12 ∷ wait true (1 ∷ 2 ∷ []) (1 ∷ []) ∷ CanWrite 1 ∷ Said 1 5 (codes "hello") ∷ wait true (1 ∷ 2 ∷ []) [] ∷ []

abbrev text13 : Bytes
text13 = (codes "HTTP/1.1 200 OK\r\netag: \"x\"\r\ndate: Sun, 06 Nov 1994 08:49:37 GMT\r\ncache-control: max-age=60\r\nX-Polipo-Location: http://h/a\r\nX-Polipo-Date: 784111777\r\nX-Polipo-Age: 0\r\nX-Polipo-Length: 5\r\nX-Polipo-Body-Offset: 12288\r\n\r\n" ++ replicate 7975 0 ++ (1 ∷ []) ++ replicate 4095 0 ++ codes "hello")

abbrev text14 : Bytes
text14 = (codes "HTTP/1.1 200 OK\r\netag: \"x\"\r\ndate: Sun, 06 Nov 1994 08:49:37 GMT\r\ncache-control: max-age=60\r\nage: 10\r\nvia: 1.1 polipo\r\ncontent-length: 5\r\nconnection: keep-alive\r\n\r\n")

row23swapped33 : fault_from 0 (start (record { words = (codes "diskRun=1") ∷ text0 ∷ text1 ∷ []; faults = 0 } ∷ record { words = (codes "diskRun=1") ∷ text0 ∷ text1 ∷ []; faults = 0 } ∷ [])) (Woke [] ∷ Rooted text2 ∷ Listed true ∷ Listens 8123 true ∷ wait true [] [] ∷ Clock 784111777 ∷ wait true [] [] ∷ Opened 1 ∷ wait true (1 ∷ []) [] ∷ CanRead 1 ∷ Heard 1 text3 ∷ Noted (Taken 1 0 Pass) ∷ Dialled 2 (codes "h") 80 ∷ wait true (1 ∷ []) [] ∷ Reached 2 ∷ wait true (1 ∷ 2 ∷ []) (2 ∷ []) ∷ CanWrite 2 ∷ Asked 2 text4 ∷ wait true (1 ∷ 2 ∷ []) [] ∷ CanRead 2 ∷ Got 2 text5 ∷ wait true (1 ∷ 2 ∷ []) (1 ∷ []) ∷ CanWrite 1 ∷ Said 1 80 text6 ∷ wait true (1 ∷ 2 ∷ []) (1 ∷ []) ∷ CanWrite 1 ∷ Said 1 5 (codes "hello") ∷ wait true (1 ∷ 2 ∷ []) [] ∷ CanRead 2 ∷ Ended 2 ∷ Noted (Cut 1 Short) ∷ Shut 1 ∷ Dropped 2 ∷ wait true [] [] ∷ []) ≡ None
unfolding judging
row23swapped33 = refl

row50 : fault_from 0 (start (record { words = (codes "diskRun=1") ∷ text0 ∷ text1 ∷ []; faults = 0 } ∷ record { words = (codes "diskRun=1") ∷ text0 ∷ text1 ∷ []; faults = 0 } ∷ [])) (front0 ++ Woke ((text11, text13) ∷ []) ∷ Rooted text2 ∷ Listed true ∷ Listens 8123 true ∷ wait true [] [] ∷ Clock 784111787 ∷ wait true [] [] ∷ Opened 3 ∷ wait true (3 ∷ []) [] ∷ CanRead 3 ∷ Heard 3 text7 ∷ Noted (Taken 3 0 (Hit 0 5)) ∷ wait true (3 ∷ []) (3 ∷ []) ∷ CanWrite 3 ∷ Said 3 163 text14 ∷ wait true (3 ∷ []) (3 ∷ []) ∷ CanWrite 3 ∷ Noted (Loaded (codes "http://h/a") (codes "\"x\"") 5 0) ∷ Said 3 5 (codes "hello") ∷ wait true (3 ∷ []) [] ∷ []) ≡ None
unfolding judging
row50 = refl

row50deleted0 : is_some (fault_from 0 (start (record { words = (codes "diskRun=1") ∷ text0 ∷ text1 ∷ []; faults = 0 } ∷ record { words = (codes "diskRun=1") ∷ text0 ∷ text1 ∷ []; faults = 0 } ∷ [])) (front0 ++ Rooted text2 ∷ Listed true ∷ Listens 8123 true ∷ wait true [] [] ∷ Clock 784111787 ∷ wait true [] [] ∷ Opened 3 ∷ wait true (3 ∷ []) [] ∷ CanRead 3 ∷ Heard 3 text7 ∷ Noted (Taken 3 0 (Hit 0 5)) ∷ wait true (3 ∷ []) (3 ∷ []) ∷ CanWrite 3 ∷ Said 3 163 text14 ∷ wait true (3 ∷ []) (3 ∷ []) ∷ CanWrite 3 ∷ Noted (Loaded (codes "http://h/a") (codes "\"x\"") 5 0) ∷ Said 3 5 (codes "hello") ∷ wait true (3 ∷ []) [] ∷ [])) ≡ true
unfolding judging
row50deleted0 = refl

row50deleted1 : is_some (fault_from 0 (start (record { words = (codes "diskRun=1") ∷ text0 ∷ text1 ∷ []; faults = 0 } ∷ record { words = (codes "diskRun=1") ∷ text0 ∷ text1 ∷ []; faults = 0 } ∷ [])) (front0 ++ Woke ((text11, text13) ∷ []) ∷ Listed true ∷ Listens 8123 true ∷ wait true [] [] ∷ Clock 784111787 ∷ wait true [] [] ∷ Opened 3 ∷ wait true (3 ∷ []) [] ∷ CanRead 3 ∷ Heard 3 text7 ∷ Noted (Taken 3 0 (Hit 0 5)) ∷ wait true (3 ∷ []) (3 ∷ []) ∷ CanWrite 3 ∷ Said 3 163 text14 ∷ wait true (3 ∷ []) (3 ∷ []) ∷ CanWrite 3 ∷ Noted (Loaded (codes "http://h/a") (codes "\"x\"") 5 0) ∷ Said 3 5 (codes "hello") ∷ wait true (3 ∷ []) [] ∷ [])) ≡ true
unfolding judging
row50deleted1 = refl

row50deleted2 : is_some (fault_from 0 (start (record { words = (codes "diskRun=1") ∷ text0 ∷ text1 ∷ []; faults = 0 } ∷ record { words = (codes "diskRun=1") ∷ text0 ∷ text1 ∷ []; faults = 0 } ∷ [])) (front0 ++ Woke ((text11, text13) ∷ []) ∷ Rooted text2 ∷ Listens 8123 true ∷ wait true [] [] ∷ Clock 784111787 ∷ wait true [] [] ∷ Opened 3 ∷ wait true (3 ∷ []) [] ∷ CanRead 3 ∷ Heard 3 text7 ∷ Noted (Taken 3 0 (Hit 0 5)) ∷ wait true (3 ∷ []) (3 ∷ []) ∷ CanWrite 3 ∷ Said 3 163 text14 ∷ wait true (3 ∷ []) (3 ∷ []) ∷ CanWrite 3 ∷ Noted (Loaded (codes "http://h/a") (codes "\"x\"") 5 0) ∷ Said 3 5 (codes "hello") ∷ wait true (3 ∷ []) [] ∷ [])) ≡ true
unfolding judging
row50deleted2 = refl

row50deleted3 : is_some (fault_from 0 (start (record { words = (codes "diskRun=1") ∷ text0 ∷ text1 ∷ []; faults = 0 } ∷ record { words = (codes "diskRun=1") ∷ text0 ∷ text1 ∷ []; faults = 0 } ∷ [])) (front0 ++ Woke ((text11, text13) ∷ []) ∷ Rooted text2 ∷ Listed true ∷ wait true [] [] ∷ Clock 784111787 ∷ wait true [] [] ∷ Opened 3 ∷ wait true (3 ∷ []) [] ∷ CanRead 3 ∷ Heard 3 text7 ∷ Noted (Taken 3 0 (Hit 0 5)) ∷ wait true (3 ∷ []) (3 ∷ []) ∷ CanWrite 3 ∷ Said 3 163 text14 ∷ wait true (3 ∷ []) (3 ∷ []) ∷ CanWrite 3 ∷ Noted (Loaded (codes "http://h/a") (codes "\"x\"") 5 0) ∷ Said 3 5 (codes "hello") ∷ wait true (3 ∷ []) [] ∷ [])) ≡ true
unfolding judging
row50deleted3 = refl

row50deleted4 : is_some (fault_from 0 (start (record { words = (codes "diskRun=1") ∷ text0 ∷ text1 ∷ []; faults = 0 } ∷ record { words = (codes "diskRun=1") ∷ text0 ∷ text1 ∷ []; faults = 0 } ∷ [])) (front0 ++ Woke ((text11, text13) ∷ []) ∷ Rooted text2 ∷ Listed true ∷ Listens 8123 true ∷ Clock 784111787 ∷ wait true [] [] ∷ Opened 3 ∷ wait true (3 ∷ []) [] ∷ CanRead 3 ∷ Heard 3 text7 ∷ Noted (Taken 3 0 (Hit 0 5)) ∷ wait true (3 ∷ []) (3 ∷ []) ∷ CanWrite 3 ∷ Said 3 163 text14 ∷ wait true (3 ∷ []) (3 ∷ []) ∷ CanWrite 3 ∷ Noted (Loaded (codes "http://h/a") (codes "\"x\"") 5 0) ∷ Said 3 5 (codes "hello") ∷ wait true (3 ∷ []) [] ∷ [])) ≡ true
unfolding judging
row50deleted4 = refl

row50deleted5 : is_some (fault_from 0 (start (record { words = (codes "diskRun=1") ∷ text0 ∷ text1 ∷ []; faults = 0 } ∷ record { words = (codes "diskRun=1") ∷ text0 ∷ text1 ∷ []; faults = 0 } ∷ [])) (front0 ++ Woke ((text11, text13) ∷ []) ∷ Rooted text2 ∷ Listed true ∷ Listens 8123 true ∷ wait true [] [] ∷ wait true [] [] ∷ Opened 3 ∷ wait true (3 ∷ []) [] ∷ CanRead 3 ∷ Heard 3 text7 ∷ Noted (Taken 3 0 (Hit 0 5)) ∷ wait true (3 ∷ []) (3 ∷ []) ∷ CanWrite 3 ∷ Said 3 163 text14 ∷ wait true (3 ∷ []) (3 ∷ []) ∷ CanWrite 3 ∷ Noted (Loaded (codes "http://h/a") (codes "\"x\"") 5 0) ∷ Said 3 5 (codes "hello") ∷ wait true (3 ∷ []) [] ∷ [])) ≡ true
unfolding judging
row50deleted5 = refl

row50deleted6 : is_some (fault_from 0 (start (record { words = (codes "diskRun=1") ∷ text0 ∷ text1 ∷ []; faults = 0 } ∷ record { words = (codes "diskRun=1") ∷ text0 ∷ text1 ∷ []; faults = 0 } ∷ [])) (front0 ++ Woke ((text11, text13) ∷ []) ∷ Rooted text2 ∷ Listed true ∷ Listens 8123 true ∷ wait true [] [] ∷ Clock 784111787 ∷ Opened 3 ∷ wait true (3 ∷ []) [] ∷ CanRead 3 ∷ Heard 3 text7 ∷ Noted (Taken 3 0 (Hit 0 5)) ∷ wait true (3 ∷ []) (3 ∷ []) ∷ CanWrite 3 ∷ Said 3 163 text14 ∷ wait true (3 ∷ []) (3 ∷ []) ∷ CanWrite 3 ∷ Noted (Loaded (codes "http://h/a") (codes "\"x\"") 5 0) ∷ Said 3 5 (codes "hello") ∷ wait true (3 ∷ []) [] ∷ [])) ≡ true
unfolding judging
row50deleted6 = refl

row50deleted7 : is_some (fault_from 0 (start (record { words = (codes "diskRun=1") ∷ text0 ∷ text1 ∷ []; faults = 0 } ∷ record { words = (codes "diskRun=1") ∷ text0 ∷ text1 ∷ []; faults = 0 } ∷ [])) (front0 ++ Woke ((text11, text13) ∷ []) ∷ Rooted text2 ∷ Listed true ∷ Listens 8123 true ∷ wait true [] [] ∷ Clock 784111787 ∷ wait true [] [] ∷ wait true (3 ∷ []) [] ∷ CanRead 3 ∷ Heard 3 text7 ∷ Noted (Taken 3 0 (Hit 0 5)) ∷ wait true (3 ∷ []) (3 ∷ []) ∷ CanWrite 3 ∷ Said 3 163 text14 ∷ wait true (3 ∷ []) (3 ∷ []) ∷ CanWrite 3 ∷ Noted (Loaded (codes "http://h/a") (codes "\"x\"") 5 0) ∷ Said 3 5 (codes "hello") ∷ wait true (3 ∷ []) [] ∷ [])) ≡ true
unfolding judging
row50deleted7 = refl

row50deleted8 : is_some (fault_from 0 (start (record { words = (codes "diskRun=1") ∷ text0 ∷ text1 ∷ []; faults = 0 } ∷ record { words = (codes "diskRun=1") ∷ text0 ∷ text1 ∷ []; faults = 0 } ∷ [])) (front0 ++ Woke ((text11, text13) ∷ []) ∷ Rooted text2 ∷ Listed true ∷ Listens 8123 true ∷ wait true [] [] ∷ Clock 784111787 ∷ wait true [] [] ∷ Opened 3 ∷ CanRead 3 ∷ Heard 3 text7 ∷ Noted (Taken 3 0 (Hit 0 5)) ∷ wait true (3 ∷ []) (3 ∷ []) ∷ CanWrite 3 ∷ Said 3 163 text14 ∷ wait true (3 ∷ []) (3 ∷ []) ∷ CanWrite 3 ∷ Noted (Loaded (codes "http://h/a") (codes "\"x\"") 5 0) ∷ Said 3 5 (codes "hello") ∷ wait true (3 ∷ []) [] ∷ [])) ≡ true
unfolding judging
row50deleted8 = refl

row50deleted9 : is_some (fault_from 0 (start (record { words = (codes "diskRun=1") ∷ text0 ∷ text1 ∷ []; faults = 0 } ∷ record { words = (codes "diskRun=1") ∷ text0 ∷ text1 ∷ []; faults = 0 } ∷ [])) (front0 ++ Woke ((text11, text13) ∷ []) ∷ Rooted text2 ∷ Listed true ∷ Listens 8123 true ∷ wait true [] [] ∷ Clock 784111787 ∷ wait true [] [] ∷ Opened 3 ∷ wait true (3 ∷ []) [] ∷ Heard 3 text7 ∷ Noted (Taken 3 0 (Hit 0 5)) ∷ wait true (3 ∷ []) (3 ∷ []) ∷ CanWrite 3 ∷ Said 3 163 text14 ∷ wait true (3 ∷ []) (3 ∷ []) ∷ CanWrite 3 ∷ Noted (Loaded (codes "http://h/a") (codes "\"x\"") 5 0) ∷ Said 3 5 (codes "hello") ∷ wait true (3 ∷ []) [] ∷ [])) ≡ true
unfolding judging
row50deleted9 = refl

row50deleted10 : is_some (fault_from 0 (start (record { words = (codes "diskRun=1") ∷ text0 ∷ text1 ∷ []; faults = 0 } ∷ record { words = (codes "diskRun=1") ∷ text0 ∷ text1 ∷ []; faults = 0 } ∷ [])) (front0 ++ Woke ((text11, text13) ∷ []) ∷ Rooted text2 ∷ Listed true ∷ Listens 8123 true ∷ wait true [] [] ∷ Clock 784111787 ∷ wait true [] [] ∷ Opened 3 ∷ wait true (3 ∷ []) [] ∷ CanRead 3 ∷ Noted (Taken 3 0 (Hit 0 5)) ∷ wait true (3 ∷ []) (3 ∷ []) ∷ CanWrite 3 ∷ Said 3 163 text14 ∷ wait true (3 ∷ []) (3 ∷ []) ∷ CanWrite 3 ∷ Noted (Loaded (codes "http://h/a") (codes "\"x\"") 5 0) ∷ Said 3 5 (codes "hello") ∷ wait true (3 ∷ []) [] ∷ [])) ≡ true
unfolding judging
row50deleted10 = refl

row50deleted11 : is_some (fault_from 0 (start (record { words = (codes "diskRun=1") ∷ text0 ∷ text1 ∷ []; faults = 0 } ∷ record { words = (codes "diskRun=1") ∷ text0 ∷ text1 ∷ []; faults = 0 } ∷ [])) (front0 ++ Woke ((text11, text13) ∷ []) ∷ Rooted text2 ∷ Listed true ∷ Listens 8123 true ∷ wait true [] [] ∷ Clock 784111787 ∷ wait true [] [] ∷ Opened 3 ∷ wait true (3 ∷ []) [] ∷ CanRead 3 ∷ Heard 3 text7 ∷ wait true (3 ∷ []) (3 ∷ []) ∷ CanWrite 3 ∷ Said 3 163 text14 ∷ wait true (3 ∷ []) (3 ∷ []) ∷ CanWrite 3 ∷ Noted (Loaded (codes "http://h/a") (codes "\"x\"") 5 0) ∷ Said 3 5 (codes "hello") ∷ wait true (3 ∷ []) [] ∷ [])) ≡ true
unfolding judging
row50deleted11 = refl

row50deleted12 : is_some (fault_from 0 (start (record { words = (codes "diskRun=1") ∷ text0 ∷ text1 ∷ []; faults = 0 } ∷ record { words = (codes "diskRun=1") ∷ text0 ∷ text1 ∷ []; faults = 0 } ∷ [])) (front0 ++ Woke ((text11, text13) ∷ []) ∷ Rooted text2 ∷ Listed true ∷ Listens 8123 true ∷ wait true [] [] ∷ Clock 784111787 ∷ wait true [] [] ∷ Opened 3 ∷ wait true (3 ∷ []) [] ∷ CanRead 3 ∷ Heard 3 text7 ∷ Noted (Taken 3 0 (Hit 0 5)) ∷ CanWrite 3 ∷ Said 3 163 text14 ∷ wait true (3 ∷ []) (3 ∷ []) ∷ CanWrite 3 ∷ Noted (Loaded (codes "http://h/a") (codes "\"x\"") 5 0) ∷ Said 3 5 (codes "hello") ∷ wait true (3 ∷ []) [] ∷ [])) ≡ true
unfolding judging
row50deleted12 = refl

row50deleted13 : is_some (fault_from 0 (start (record { words = (codes "diskRun=1") ∷ text0 ∷ text1 ∷ []; faults = 0 } ∷ record { words = (codes "diskRun=1") ∷ text0 ∷ text1 ∷ []; faults = 0 } ∷ [])) (front0 ++ Woke ((text11, text13) ∷ []) ∷ Rooted text2 ∷ Listed true ∷ Listens 8123 true ∷ wait true [] [] ∷ Clock 784111787 ∷ wait true [] [] ∷ Opened 3 ∷ wait true (3 ∷ []) [] ∷ CanRead 3 ∷ Heard 3 text7 ∷ Noted (Taken 3 0 (Hit 0 5)) ∷ wait true (3 ∷ []) (3 ∷ []) ∷ Said 3 163 text14 ∷ wait true (3 ∷ []) (3 ∷ []) ∷ CanWrite 3 ∷ Noted (Loaded (codes "http://h/a") (codes "\"x\"") 5 0) ∷ Said 3 5 (codes "hello") ∷ wait true (3 ∷ []) [] ∷ [])) ≡ true
unfolding judging
row50deleted13 = refl

row50deleted14 : is_some (fault_from 0 (start (record { words = (codes "diskRun=1") ∷ text0 ∷ text1 ∷ []; faults = 0 } ∷ record { words = (codes "diskRun=1") ∷ text0 ∷ text1 ∷ []; faults = 0 } ∷ [])) (front0 ++ Woke ((text11, text13) ∷ []) ∷ Rooted text2 ∷ Listed true ∷ Listens 8123 true ∷ wait true [] [] ∷ Clock 784111787 ∷ wait true [] [] ∷ Opened 3 ∷ wait true (3 ∷ []) [] ∷ CanRead 3 ∷ Heard 3 text7 ∷ Noted (Taken 3 0 (Hit 0 5)) ∷ wait true (3 ∷ []) (3 ∷ []) ∷ CanWrite 3 ∷ wait true (3 ∷ []) (3 ∷ []) ∷ CanWrite 3 ∷ Noted (Loaded (codes "http://h/a") (codes "\"x\"") 5 0) ∷ Said 3 5 (codes "hello") ∷ wait true (3 ∷ []) [] ∷ [])) ≡ true
unfolding judging
row50deleted14 = refl

row50deleted15 : is_some (fault_from 0 (start (record { words = (codes "diskRun=1") ∷ text0 ∷ text1 ∷ []; faults = 0 } ∷ record { words = (codes "diskRun=1") ∷ text0 ∷ text1 ∷ []; faults = 0 } ∷ [])) (front0 ++ Woke ((text11, text13) ∷ []) ∷ Rooted text2 ∷ Listed true ∷ Listens 8123 true ∷ wait true [] [] ∷ Clock 784111787 ∷ wait true [] [] ∷ Opened 3 ∷ wait true (3 ∷ []) [] ∷ CanRead 3 ∷ Heard 3 text7 ∷ Noted (Taken 3 0 (Hit 0 5)) ∷ wait true (3 ∷ []) (3 ∷ []) ∷ CanWrite 3 ∷ Said 3 163 text14 ∷ CanWrite 3 ∷ Noted (Loaded (codes "http://h/a") (codes "\"x\"") 5 0) ∷ Said 3 5 (codes "hello") ∷ wait true (3 ∷ []) [] ∷ [])) ≡ true
unfolding judging
row50deleted15 = refl

row50deleted16 : is_some (fault_from 0 (start (record { words = (codes "diskRun=1") ∷ text0 ∷ text1 ∷ []; faults = 0 } ∷ record { words = (codes "diskRun=1") ∷ text0 ∷ text1 ∷ []; faults = 0 } ∷ [])) (front0 ++ Woke ((text11, text13) ∷ []) ∷ Rooted text2 ∷ Listed true ∷ Listens 8123 true ∷ wait true [] [] ∷ Clock 784111787 ∷ wait true [] [] ∷ Opened 3 ∷ wait true (3 ∷ []) [] ∷ CanRead 3 ∷ Heard 3 text7 ∷ Noted (Taken 3 0 (Hit 0 5)) ∷ wait true (3 ∷ []) (3 ∷ []) ∷ CanWrite 3 ∷ Said 3 163 text14 ∷ wait true (3 ∷ []) (3 ∷ []) ∷ Noted (Loaded (codes "http://h/a") (codes "\"x\"") 5 0) ∷ Said 3 5 (codes "hello") ∷ wait true (3 ∷ []) [] ∷ [])) ≡ true
unfolding judging
row50deleted16 = refl

row50deleted17 : is_some (fault_from 0 (start (record { words = (codes "diskRun=1") ∷ text0 ∷ text1 ∷ []; faults = 0 } ∷ record { words = (codes "diskRun=1") ∷ text0 ∷ text1 ∷ []; faults = 0 } ∷ [])) (front0 ++ Woke ((text11, text13) ∷ []) ∷ Rooted text2 ∷ Listed true ∷ Listens 8123 true ∷ wait true [] [] ∷ Clock 784111787 ∷ wait true [] [] ∷ Opened 3 ∷ wait true (3 ∷ []) [] ∷ CanRead 3 ∷ Heard 3 text7 ∷ Noted (Taken 3 0 (Hit 0 5)) ∷ wait true (3 ∷ []) (3 ∷ []) ∷ CanWrite 3 ∷ Said 3 163 text14 ∷ wait true (3 ∷ []) (3 ∷ []) ∷ CanWrite 3 ∷ Said 3 5 (codes "hello") ∷ wait true (3 ∷ []) [] ∷ [])) ≡ true
unfolding judging
row50deleted17 = refl

row50deleted18 : is_some (fault_from 0 (start (record { words = (codes "diskRun=1") ∷ text0 ∷ text1 ∷ []; faults = 0 } ∷ record { words = (codes "diskRun=1") ∷ text0 ∷ text1 ∷ []; faults = 0 } ∷ [])) (front0 ++ Woke ((text11, text13) ∷ []) ∷ Rooted text2 ∷ Listed true ∷ Listens 8123 true ∷ wait true [] [] ∷ Clock 784111787 ∷ wait true [] [] ∷ Opened 3 ∷ wait true (3 ∷ []) [] ∷ CanRead 3 ∷ Heard 3 text7 ∷ Noted (Taken 3 0 (Hit 0 5)) ∷ wait true (3 ∷ []) (3 ∷ []) ∷ CanWrite 3 ∷ Said 3 163 text14 ∷ wait true (3 ∷ []) (3 ∷ []) ∷ CanWrite 3 ∷ Noted (Loaded (codes "http://h/a") (codes "\"x\"") 5 0) ∷ wait true (3 ∷ []) [] ∷ [])) ≡ true
unfolding judging
row50deleted18 = refl

row50deleted19 : fault_from 0 (start (record { words = (codes "diskRun=1") ∷ text0 ∷ text1 ∷ []; faults = 0 } ∷ record { words = (codes "diskRun=1") ∷ text0 ∷ text1 ∷ []; faults = 0 } ∷ [])) (front0 ++ Woke ((text11, text13) ∷ []) ∷ Rooted text2 ∷ Listed true ∷ Listens 8123 true ∷ wait true [] [] ∷ Clock 784111787 ∷ wait true [] [] ∷ Opened 3 ∷ wait true (3 ∷ []) [] ∷ CanRead 3 ∷ Heard 3 text7 ∷ Noted (Taken 3 0 (Hit 0 5)) ∷ wait true (3 ∷ []) (3 ∷ []) ∷ CanWrite 3 ∷ Said 3 163 text14 ∷ wait true (3 ∷ []) (3 ∷ []) ∷ CanWrite 3 ∷ Noted (Loaded (codes "http://h/a") (codes "\"x\"") 5 0) ∷ Said 3 5 (codes "hello") ∷ []) ≡ None
unfolding judging
row50deleted19 = refl

row50doubled0 : fault_from 0 (start (record { words = (codes "diskRun=1") ∷ text0 ∷ text1 ∷ []; faults = 0 } ∷ record { words = (codes "diskRun=1") ∷ text0 ∷ text1 ∷ []; faults = 0 } ∷ [])) (front0 ++ Woke ((text11, text13) ∷ []) ∷ Woke ((text11, text13) ∷ []) ∷ Rooted text2 ∷ Listed true ∷ Listens 8123 true ∷ wait true [] [] ∷ Clock 784111787 ∷ wait true [] [] ∷ Opened 3 ∷ wait true (3 ∷ []) [] ∷ CanRead 3 ∷ Heard 3 text7 ∷ Noted (Taken 3 0 (Hit 0 5)) ∷ wait true (3 ∷ []) (3 ∷ []) ∷ CanWrite 3 ∷ Said 3 163 text14 ∷ wait true (3 ∷ []) (3 ∷ []) ∷ CanWrite 3 ∷ Noted (Loaded (codes "http://h/a") (codes "\"x\"") 5 0) ∷ Said 3 5 (codes "hello") ∷ wait true (3 ∷ []) [] ∷ []) ≡ None
unfolding judging
row50doubled0 = refl

row50doubled1 : is_some (fault_from 0 (start (record { words = (codes "diskRun=1") ∷ text0 ∷ text1 ∷ []; faults = 0 } ∷ record { words = (codes "diskRun=1") ∷ text0 ∷ text1 ∷ []; faults = 0 } ∷ [])) (front0 ++ Woke ((text11, text13) ∷ []) ∷ Rooted text2 ∷ Rooted text2 ∷ Listed true ∷ Listens 8123 true ∷ wait true [] [] ∷ Clock 784111787 ∷ wait true [] [] ∷ Opened 3 ∷ wait true (3 ∷ []) [] ∷ CanRead 3 ∷ Heard 3 text7 ∷ Noted (Taken 3 0 (Hit 0 5)) ∷ wait true (3 ∷ []) (3 ∷ []) ∷ CanWrite 3 ∷ Said 3 163 text14 ∷ wait true (3 ∷ []) (3 ∷ []) ∷ CanWrite 3 ∷ Noted (Loaded (codes "http://h/a") (codes "\"x\"") 5 0) ∷ Said 3 5 (codes "hello") ∷ wait true (3 ∷ []) [] ∷ [])) ≡ true
unfolding judging
row50doubled1 = refl

row50doubled2 : is_some (fault_from 0 (start (record { words = (codes "diskRun=1") ∷ text0 ∷ text1 ∷ []; faults = 0 } ∷ record { words = (codes "diskRun=1") ∷ text0 ∷ text1 ∷ []; faults = 0 } ∷ [])) (front0 ++ Woke ((text11, text13) ∷ []) ∷ Rooted text2 ∷ Listed true ∷ Listed true ∷ Listens 8123 true ∷ wait true [] [] ∷ Clock 784111787 ∷ wait true [] [] ∷ Opened 3 ∷ wait true (3 ∷ []) [] ∷ CanRead 3 ∷ Heard 3 text7 ∷ Noted (Taken 3 0 (Hit 0 5)) ∷ wait true (3 ∷ []) (3 ∷ []) ∷ CanWrite 3 ∷ Said 3 163 text14 ∷ wait true (3 ∷ []) (3 ∷ []) ∷ CanWrite 3 ∷ Noted (Loaded (codes "http://h/a") (codes "\"x\"") 5 0) ∷ Said 3 5 (codes "hello") ∷ wait true (3 ∷ []) [] ∷ [])) ≡ true
unfolding judging
row50doubled2 = refl

row50doubled3 : is_some (fault_from 0 (start (record { words = (codes "diskRun=1") ∷ text0 ∷ text1 ∷ []; faults = 0 } ∷ record { words = (codes "diskRun=1") ∷ text0 ∷ text1 ∷ []; faults = 0 } ∷ [])) (front0 ++ Woke ((text11, text13) ∷ []) ∷ Rooted text2 ∷ Listed true ∷ Listens 8123 true ∷ Listens 8123 true ∷ wait true [] [] ∷ Clock 784111787 ∷ wait true [] [] ∷ Opened 3 ∷ wait true (3 ∷ []) [] ∷ CanRead 3 ∷ Heard 3 text7 ∷ Noted (Taken 3 0 (Hit 0 5)) ∷ wait true (3 ∷ []) (3 ∷ []) ∷ CanWrite 3 ∷ Said 3 163 text14 ∷ wait true (3 ∷ []) (3 ∷ []) ∷ CanWrite 3 ∷ Noted (Loaded (codes "http://h/a") (codes "\"x\"") 5 0) ∷ Said 3 5 (codes "hello") ∷ wait true (3 ∷ []) [] ∷ [])) ≡ true
unfolding judging
row50doubled3 = refl

row50doubled4 : is_some (fault_from 0 (start (record { words = (codes "diskRun=1") ∷ text0 ∷ text1 ∷ []; faults = 0 } ∷ record { words = (codes "diskRun=1") ∷ text0 ∷ text1 ∷ []; faults = 0 } ∷ [])) (front0 ++ Woke ((text11, text13) ∷ []) ∷ Rooted text2 ∷ Listed true ∷ Listens 8123 true ∷ wait true [] [] ∷ wait true [] [] ∷ Clock 784111787 ∷ wait true [] [] ∷ Opened 3 ∷ wait true (3 ∷ []) [] ∷ CanRead 3 ∷ Heard 3 text7 ∷ Noted (Taken 3 0 (Hit 0 5)) ∷ wait true (3 ∷ []) (3 ∷ []) ∷ CanWrite 3 ∷ Said 3 163 text14 ∷ wait true (3 ∷ []) (3 ∷ []) ∷ CanWrite 3 ∷ Noted (Loaded (codes "http://h/a") (codes "\"x\"") 5 0) ∷ Said 3 5 (codes "hello") ∷ wait true (3 ∷ []) [] ∷ [])) ≡ true
unfolding judging
row50doubled4 = refl

row50doubled5 : is_some (fault_from 0 (start (record { words = (codes "diskRun=1") ∷ text0 ∷ text1 ∷ []; faults = 0 } ∷ record { words = (codes "diskRun=1") ∷ text0 ∷ text1 ∷ []; faults = 0 } ∷ [])) (front0 ++ Woke ((text11, text13) ∷ []) ∷ Rooted text2 ∷ Listed true ∷ Listens 8123 true ∷ wait true [] [] ∷ Clock 784111787 ∷ Clock 784111787 ∷ wait true [] [] ∷ Opened 3 ∷ wait true (3 ∷ []) [] ∷ CanRead 3 ∷ Heard 3 text7 ∷ Noted (Taken 3 0 (Hit 0 5)) ∷ wait true (3 ∷ []) (3 ∷ []) ∷ CanWrite 3 ∷ Said 3 163 text14 ∷ wait true (3 ∷ []) (3 ∷ []) ∷ CanWrite 3 ∷ Noted (Loaded (codes "http://h/a") (codes "\"x\"") 5 0) ∷ Said 3 5 (codes "hello") ∷ wait true (3 ∷ []) [] ∷ [])) ≡ true
unfolding judging
row50doubled5 = refl

row50doubled6 : is_some (fault_from 0 (start (record { words = (codes "diskRun=1") ∷ text0 ∷ text1 ∷ []; faults = 0 } ∷ record { words = (codes "diskRun=1") ∷ text0 ∷ text1 ∷ []; faults = 0 } ∷ [])) (front0 ++ Woke ((text11, text13) ∷ []) ∷ Rooted text2 ∷ Listed true ∷ Listens 8123 true ∷ wait true [] [] ∷ Clock 784111787 ∷ wait true [] [] ∷ wait true [] [] ∷ Opened 3 ∷ wait true (3 ∷ []) [] ∷ CanRead 3 ∷ Heard 3 text7 ∷ Noted (Taken 3 0 (Hit 0 5)) ∷ wait true (3 ∷ []) (3 ∷ []) ∷ CanWrite 3 ∷ Said 3 163 text14 ∷ wait true (3 ∷ []) (3 ∷ []) ∷ CanWrite 3 ∷ Noted (Loaded (codes "http://h/a") (codes "\"x\"") 5 0) ∷ Said 3 5 (codes "hello") ∷ wait true (3 ∷ []) [] ∷ [])) ≡ true
unfolding judging
row50doubled6 = refl

row50doubled7 : is_some (fault_from 0 (start (record { words = (codes "diskRun=1") ∷ text0 ∷ text1 ∷ []; faults = 0 } ∷ record { words = (codes "diskRun=1") ∷ text0 ∷ text1 ∷ []; faults = 0 } ∷ [])) (front0 ++ Woke ((text11, text13) ∷ []) ∷ Rooted text2 ∷ Listed true ∷ Listens 8123 true ∷ wait true [] [] ∷ Clock 784111787 ∷ wait true [] [] ∷ Opened 3 ∷ Opened 3 ∷ wait true (3 ∷ []) [] ∷ CanRead 3 ∷ Heard 3 text7 ∷ Noted (Taken 3 0 (Hit 0 5)) ∷ wait true (3 ∷ []) (3 ∷ []) ∷ CanWrite 3 ∷ Said 3 163 text14 ∷ wait true (3 ∷ []) (3 ∷ []) ∷ CanWrite 3 ∷ Noted (Loaded (codes "http://h/a") (codes "\"x\"") 5 0) ∷ Said 3 5 (codes "hello") ∷ wait true (3 ∷ []) [] ∷ [])) ≡ true
unfolding judging
row50doubled7 = refl

row50doubled8 : is_some (fault_from 0 (start (record { words = (codes "diskRun=1") ∷ text0 ∷ text1 ∷ []; faults = 0 } ∷ record { words = (codes "diskRun=1") ∷ text0 ∷ text1 ∷ []; faults = 0 } ∷ [])) (front0 ++ Woke ((text11, text13) ∷ []) ∷ Rooted text2 ∷ Listed true ∷ Listens 8123 true ∷ wait true [] [] ∷ Clock 784111787 ∷ wait true [] [] ∷ Opened 3 ∷ wait true (3 ∷ []) [] ∷ wait true (3 ∷ []) [] ∷ CanRead 3 ∷ Heard 3 text7 ∷ Noted (Taken 3 0 (Hit 0 5)) ∷ wait true (3 ∷ []) (3 ∷ []) ∷ CanWrite 3 ∷ Said 3 163 text14 ∷ wait true (3 ∷ []) (3 ∷ []) ∷ CanWrite 3 ∷ Noted (Loaded (codes "http://h/a") (codes "\"x\"") 5 0) ∷ Said 3 5 (codes "hello") ∷ wait true (3 ∷ []) [] ∷ [])) ≡ true
unfolding judging
row50doubled8 = refl

row50doubled9 : is_some (fault_from 0 (start (record { words = (codes "diskRun=1") ∷ text0 ∷ text1 ∷ []; faults = 0 } ∷ record { words = (codes "diskRun=1") ∷ text0 ∷ text1 ∷ []; faults = 0 } ∷ [])) (front0 ++ Woke ((text11, text13) ∷ []) ∷ Rooted text2 ∷ Listed true ∷ Listens 8123 true ∷ wait true [] [] ∷ Clock 784111787 ∷ wait true [] [] ∷ Opened 3 ∷ wait true (3 ∷ []) [] ∷ CanRead 3 ∷ CanRead 3 ∷ Heard 3 text7 ∷ Noted (Taken 3 0 (Hit 0 5)) ∷ wait true (3 ∷ []) (3 ∷ []) ∷ CanWrite 3 ∷ Said 3 163 text14 ∷ wait true (3 ∷ []) (3 ∷ []) ∷ CanWrite 3 ∷ Noted (Loaded (codes "http://h/a") (codes "\"x\"") 5 0) ∷ Said 3 5 (codes "hello") ∷ wait true (3 ∷ []) [] ∷ [])) ≡ true
unfolding judging
row50doubled9 = refl

row50doubled10 : is_some (fault_from 0 (start (record { words = (codes "diskRun=1") ∷ text0 ∷ text1 ∷ []; faults = 0 } ∷ record { words = (codes "diskRun=1") ∷ text0 ∷ text1 ∷ []; faults = 0 } ∷ [])) (front0 ++ Woke ((text11, text13) ∷ []) ∷ Rooted text2 ∷ Listed true ∷ Listens 8123 true ∷ wait true [] [] ∷ Clock 784111787 ∷ wait true [] [] ∷ Opened 3 ∷ wait true (3 ∷ []) [] ∷ CanRead 3 ∷ Heard 3 text7 ∷ Heard 3 text7 ∷ Noted (Taken 3 0 (Hit 0 5)) ∷ wait true (3 ∷ []) (3 ∷ []) ∷ CanWrite 3 ∷ Said 3 163 text14 ∷ wait true (3 ∷ []) (3 ∷ []) ∷ CanWrite 3 ∷ Noted (Loaded (codes "http://h/a") (codes "\"x\"") 5 0) ∷ Said 3 5 (codes "hello") ∷ wait true (3 ∷ []) [] ∷ [])) ≡ true
unfolding judging
row50doubled10 = refl

row50doubled11 : is_some (fault_from 0 (start (record { words = (codes "diskRun=1") ∷ text0 ∷ text1 ∷ []; faults = 0 } ∷ record { words = (codes "diskRun=1") ∷ text0 ∷ text1 ∷ []; faults = 0 } ∷ [])) (front0 ++ Woke ((text11, text13) ∷ []) ∷ Rooted text2 ∷ Listed true ∷ Listens 8123 true ∷ wait true [] [] ∷ Clock 784111787 ∷ wait true [] [] ∷ Opened 3 ∷ wait true (3 ∷ []) [] ∷ CanRead 3 ∷ Heard 3 text7 ∷ Noted (Taken 3 0 (Hit 0 5)) ∷ Noted (Taken 3 0 (Hit 0 5)) ∷ wait true (3 ∷ []) (3 ∷ []) ∷ CanWrite 3 ∷ Said 3 163 text14 ∷ wait true (3 ∷ []) (3 ∷ []) ∷ CanWrite 3 ∷ Noted (Loaded (codes "http://h/a") (codes "\"x\"") 5 0) ∷ Said 3 5 (codes "hello") ∷ wait true (3 ∷ []) [] ∷ [])) ≡ true
unfolding judging
row50doubled11 = refl

row50doubled12 : is_some (fault_from 0 (start (record { words = (codes "diskRun=1") ∷ text0 ∷ text1 ∷ []; faults = 0 } ∷ record { words = (codes "diskRun=1") ∷ text0 ∷ text1 ∷ []; faults = 0 } ∷ [])) (front0 ++ Woke ((text11, text13) ∷ []) ∷ Rooted text2 ∷ Listed true ∷ Listens 8123 true ∷ wait true [] [] ∷ Clock 784111787 ∷ wait true [] [] ∷ Opened 3 ∷ wait true (3 ∷ []) [] ∷ CanRead 3 ∷ Heard 3 text7 ∷ Noted (Taken 3 0 (Hit 0 5)) ∷ wait true (3 ∷ []) (3 ∷ []) ∷ wait true (3 ∷ []) (3 ∷ []) ∷ CanWrite 3 ∷ Said 3 163 text14 ∷ wait true (3 ∷ []) (3 ∷ []) ∷ CanWrite 3 ∷ Noted (Loaded (codes "http://h/a") (codes "\"x\"") 5 0) ∷ Said 3 5 (codes "hello") ∷ wait true (3 ∷ []) [] ∷ [])) ≡ true
unfolding judging
row50doubled12 = refl

row50doubled13 : is_some (fault_from 0 (start (record { words = (codes "diskRun=1") ∷ text0 ∷ text1 ∷ []; faults = 0 } ∷ record { words = (codes "diskRun=1") ∷ text0 ∷ text1 ∷ []; faults = 0 } ∷ [])) (front0 ++ Woke ((text11, text13) ∷ []) ∷ Rooted text2 ∷ Listed true ∷ Listens 8123 true ∷ wait true [] [] ∷ Clock 784111787 ∷ wait true [] [] ∷ Opened 3 ∷ wait true (3 ∷ []) [] ∷ CanRead 3 ∷ Heard 3 text7 ∷ Noted (Taken 3 0 (Hit 0 5)) ∷ wait true (3 ∷ []) (3 ∷ []) ∷ CanWrite 3 ∷ CanWrite 3 ∷ Said 3 163 text14 ∷ wait true (3 ∷ []) (3 ∷ []) ∷ CanWrite 3 ∷ Noted (Loaded (codes "http://h/a") (codes "\"x\"") 5 0) ∷ Said 3 5 (codes "hello") ∷ wait true (3 ∷ []) [] ∷ [])) ≡ true
unfolding judging
row50doubled13 = refl

row50doubled14 : is_some (fault_from 0 (start (record { words = (codes "diskRun=1") ∷ text0 ∷ text1 ∷ []; faults = 0 } ∷ record { words = (codes "diskRun=1") ∷ text0 ∷ text1 ∷ []; faults = 0 } ∷ [])) (front0 ++ Woke ((text11, text13) ∷ []) ∷ Rooted text2 ∷ Listed true ∷ Listens 8123 true ∷ wait true [] [] ∷ Clock 784111787 ∷ wait true [] [] ∷ Opened 3 ∷ wait true (3 ∷ []) [] ∷ CanRead 3 ∷ Heard 3 text7 ∷ Noted (Taken 3 0 (Hit 0 5)) ∷ wait true (3 ∷ []) (3 ∷ []) ∷ CanWrite 3 ∷ Said 3 163 text14 ∷ Said 3 163 text14 ∷ wait true (3 ∷ []) (3 ∷ []) ∷ CanWrite 3 ∷ Noted (Loaded (codes "http://h/a") (codes "\"x\"") 5 0) ∷ Said 3 5 (codes "hello") ∷ wait true (3 ∷ []) [] ∷ [])) ≡ true
unfolding judging
row50doubled14 = refl

row50doubled15 : is_some (fault_from 0 (start (record { words = (codes "diskRun=1") ∷ text0 ∷ text1 ∷ []; faults = 0 } ∷ record { words = (codes "diskRun=1") ∷ text0 ∷ text1 ∷ []; faults = 0 } ∷ [])) (front0 ++ Woke ((text11, text13) ∷ []) ∷ Rooted text2 ∷ Listed true ∷ Listens 8123 true ∷ wait true [] [] ∷ Clock 784111787 ∷ wait true [] [] ∷ Opened 3 ∷ wait true (3 ∷ []) [] ∷ CanRead 3 ∷ Heard 3 text7 ∷ Noted (Taken 3 0 (Hit 0 5)) ∷ wait true (3 ∷ []) (3 ∷ []) ∷ CanWrite 3 ∷ Said 3 163 text14 ∷ wait true (3 ∷ []) (3 ∷ []) ∷ wait true (3 ∷ []) (3 ∷ []) ∷ CanWrite 3 ∷ Noted (Loaded (codes "http://h/a") (codes "\"x\"") 5 0) ∷ Said 3 5 (codes "hello") ∷ wait true (3 ∷ []) [] ∷ [])) ≡ true
unfolding judging
row50doubled15 = refl

row50doubled16 : is_some (fault_from 0 (start (record { words = (codes "diskRun=1") ∷ text0 ∷ text1 ∷ []; faults = 0 } ∷ record { words = (codes "diskRun=1") ∷ text0 ∷ text1 ∷ []; faults = 0 } ∷ [])) (front0 ++ Woke ((text11, text13) ∷ []) ∷ Rooted text2 ∷ Listed true ∷ Listens 8123 true ∷ wait true [] [] ∷ Clock 784111787 ∷ wait true [] [] ∷ Opened 3 ∷ wait true (3 ∷ []) [] ∷ CanRead 3 ∷ Heard 3 text7 ∷ Noted (Taken 3 0 (Hit 0 5)) ∷ wait true (3 ∷ []) (3 ∷ []) ∷ CanWrite 3 ∷ Said 3 163 text14 ∷ wait true (3 ∷ []) (3 ∷ []) ∷ CanWrite 3 ∷ CanWrite 3 ∷ Noted (Loaded (codes "http://h/a") (codes "\"x\"") 5 0) ∷ Said 3 5 (codes "hello") ∷ wait true (3 ∷ []) [] ∷ [])) ≡ true
unfolding judging
row50doubled16 = refl

row50doubled17 : is_some (fault_from 0 (start (record { words = (codes "diskRun=1") ∷ text0 ∷ text1 ∷ []; faults = 0 } ∷ record { words = (codes "diskRun=1") ∷ text0 ∷ text1 ∷ []; faults = 0 } ∷ [])) (front0 ++ Woke ((text11, text13) ∷ []) ∷ Rooted text2 ∷ Listed true ∷ Listens 8123 true ∷ wait true [] [] ∷ Clock 784111787 ∷ wait true [] [] ∷ Opened 3 ∷ wait true (3 ∷ []) [] ∷ CanRead 3 ∷ Heard 3 text7 ∷ Noted (Taken 3 0 (Hit 0 5)) ∷ wait true (3 ∷ []) (3 ∷ []) ∷ CanWrite 3 ∷ Said 3 163 text14 ∷ wait true (3 ∷ []) (3 ∷ []) ∷ CanWrite 3 ∷ Noted (Loaded (codes "http://h/a") (codes "\"x\"") 5 0) ∷ Noted (Loaded (codes "http://h/a") (codes "\"x\"") 5 0) ∷ Said 3 5 (codes "hello") ∷ wait true (3 ∷ []) [] ∷ [])) ≡ true
unfolding judging
row50doubled17 = refl

row50doubled18 : is_some (fault_from 0 (start (record { words = (codes "diskRun=1") ∷ text0 ∷ text1 ∷ []; faults = 0 } ∷ record { words = (codes "diskRun=1") ∷ text0 ∷ text1 ∷ []; faults = 0 } ∷ [])) (front0 ++ Woke ((text11, text13) ∷ []) ∷ Rooted text2 ∷ Listed true ∷ Listens 8123 true ∷ wait true [] [] ∷ Clock 784111787 ∷ wait true [] [] ∷ Opened 3 ∷ wait true (3 ∷ []) [] ∷ CanRead 3 ∷ Heard 3 text7 ∷ Noted (Taken 3 0 (Hit 0 5)) ∷ wait true (3 ∷ []) (3 ∷ []) ∷ CanWrite 3 ∷ Said 3 163 text14 ∷ wait true (3 ∷ []) (3 ∷ []) ∷ CanWrite 3 ∷ Noted (Loaded (codes "http://h/a") (codes "\"x\"") 5 0) ∷ Said 3 5 (codes "hello") ∷ Said 3 5 (codes "hello") ∷ wait true (3 ∷ []) [] ∷ [])) ≡ true
unfolding judging
row50doubled18 = refl

row50doubled19 : is_some (fault_from 0 (start (record { words = (codes "diskRun=1") ∷ text0 ∷ text1 ∷ []; faults = 0 } ∷ record { words = (codes "diskRun=1") ∷ text0 ∷ text1 ∷ []; faults = 0 } ∷ [])) (front0 ++ Woke ((text11, text13) ∷ []) ∷ Rooted text2 ∷ Listed true ∷ Listens 8123 true ∷ wait true [] [] ∷ Clock 784111787 ∷ wait true [] [] ∷ Opened 3 ∷ wait true (3 ∷ []) [] ∷ CanRead 3 ∷ Heard 3 text7 ∷ Noted (Taken 3 0 (Hit 0 5)) ∷ wait true (3 ∷ []) (3 ∷ []) ∷ CanWrite 3 ∷ Said 3 163 text14 ∷ wait true (3 ∷ []) (3 ∷ []) ∷ CanWrite 3 ∷ Noted (Loaded (codes "http://h/a") (codes "\"x\"") 5 0) ∷ Said 3 5 (codes "hello") ∷ wait true (3 ∷ []) [] ∷ wait true (3 ∷ []) [] ∷ [])) ≡ true
unfolding judging
row50doubled19 = refl

row50swapped0 : is_some (fault_from 0 (start (record { words = (codes "diskRun=1") ∷ text0 ∷ text1 ∷ []; faults = 0 } ∷ record { words = (codes "diskRun=1") ∷ text0 ∷ text1 ∷ []; faults = 0 } ∷ [])) (front0 ++ Rooted text2 ∷ Woke ((text11, text13) ∷ []) ∷ Listed true ∷ Listens 8123 true ∷ wait true [] [] ∷ Clock 784111787 ∷ wait true [] [] ∷ Opened 3 ∷ wait true (3 ∷ []) [] ∷ CanRead 3 ∷ Heard 3 text7 ∷ Noted (Taken 3 0 (Hit 0 5)) ∷ wait true (3 ∷ []) (3 ∷ []) ∷ CanWrite 3 ∷ Said 3 163 text14 ∷ wait true (3 ∷ []) (3 ∷ []) ∷ CanWrite 3 ∷ Noted (Loaded (codes "http://h/a") (codes "\"x\"") 5 0) ∷ Said 3 5 (codes "hello") ∷ wait true (3 ∷ []) [] ∷ [])) ≡ true
unfolding judging
row50swapped0 = refl

row50swapped1 : is_some (fault_from 0 (start (record { words = (codes "diskRun=1") ∷ text0 ∷ text1 ∷ []; faults = 0 } ∷ record { words = (codes "diskRun=1") ∷ text0 ∷ text1 ∷ []; faults = 0 } ∷ [])) (front0 ++ Woke ((text11, text13) ∷ []) ∷ Listed true ∷ Rooted text2 ∷ Listens 8123 true ∷ wait true [] [] ∷ Clock 784111787 ∷ wait true [] [] ∷ Opened 3 ∷ wait true (3 ∷ []) [] ∷ CanRead 3 ∷ Heard 3 text7 ∷ Noted (Taken 3 0 (Hit 0 5)) ∷ wait true (3 ∷ []) (3 ∷ []) ∷ CanWrite 3 ∷ Said 3 163 text14 ∷ wait true (3 ∷ []) (3 ∷ []) ∷ CanWrite 3 ∷ Noted (Loaded (codes "http://h/a") (codes "\"x\"") 5 0) ∷ Said 3 5 (codes "hello") ∷ wait true (3 ∷ []) [] ∷ [])) ≡ true
unfolding judging
row50swapped1 = refl

row50swapped2 : is_some (fault_from 0 (start (record { words = (codes "diskRun=1") ∷ text0 ∷ text1 ∷ []; faults = 0 } ∷ record { words = (codes "diskRun=1") ∷ text0 ∷ text1 ∷ []; faults = 0 } ∷ [])) (front0 ++ Woke ((text11, text13) ∷ []) ∷ Rooted text2 ∷ Listens 8123 true ∷ Listed true ∷ wait true [] [] ∷ Clock 784111787 ∷ wait true [] [] ∷ Opened 3 ∷ wait true (3 ∷ []) [] ∷ CanRead 3 ∷ Heard 3 text7 ∷ Noted (Taken 3 0 (Hit 0 5)) ∷ wait true (3 ∷ []) (3 ∷ []) ∷ CanWrite 3 ∷ Said 3 163 text14 ∷ wait true (3 ∷ []) (3 ∷ []) ∷ CanWrite 3 ∷ Noted (Loaded (codes "http://h/a") (codes "\"x\"") 5 0) ∷ Said 3 5 (codes "hello") ∷ wait true (3 ∷ []) [] ∷ [])) ≡ true
unfolding judging
row50swapped2 = refl

row50swapped3 : is_some (fault_from 0 (start (record { words = (codes "diskRun=1") ∷ text0 ∷ text1 ∷ []; faults = 0 } ∷ record { words = (codes "diskRun=1") ∷ text0 ∷ text1 ∷ []; faults = 0 } ∷ [])) (front0 ++ Woke ((text11, text13) ∷ []) ∷ Rooted text2 ∷ Listed true ∷ wait true [] [] ∷ Listens 8123 true ∷ Clock 784111787 ∷ wait true [] [] ∷ Opened 3 ∷ wait true (3 ∷ []) [] ∷ CanRead 3 ∷ Heard 3 text7 ∷ Noted (Taken 3 0 (Hit 0 5)) ∷ wait true (3 ∷ []) (3 ∷ []) ∷ CanWrite 3 ∷ Said 3 163 text14 ∷ wait true (3 ∷ []) (3 ∷ []) ∷ CanWrite 3 ∷ Noted (Loaded (codes "http://h/a") (codes "\"x\"") 5 0) ∷ Said 3 5 (codes "hello") ∷ wait true (3 ∷ []) [] ∷ [])) ≡ true
unfolding judging
row50swapped3 = refl

row50swapped4 : is_some (fault_from 0 (start (record { words = (codes "diskRun=1") ∷ text0 ∷ text1 ∷ []; faults = 0 } ∷ record { words = (codes "diskRun=1") ∷ text0 ∷ text1 ∷ []; faults = 0 } ∷ [])) (front0 ++ Woke ((text11, text13) ∷ []) ∷ Rooted text2 ∷ Listed true ∷ Listens 8123 true ∷ Clock 784111787 ∷ wait true [] [] ∷ wait true [] [] ∷ Opened 3 ∷ wait true (3 ∷ []) [] ∷ CanRead 3 ∷ Heard 3 text7 ∷ Noted (Taken 3 0 (Hit 0 5)) ∷ wait true (3 ∷ []) (3 ∷ []) ∷ CanWrite 3 ∷ Said 3 163 text14 ∷ wait true (3 ∷ []) (3 ∷ []) ∷ CanWrite 3 ∷ Noted (Loaded (codes "http://h/a") (codes "\"x\"") 5 0) ∷ Said 3 5 (codes "hello") ∷ wait true (3 ∷ []) [] ∷ [])) ≡ true
unfolding judging
row50swapped4 = refl

row50swapped5 : is_some (fault_from 0 (start (record { words = (codes "diskRun=1") ∷ text0 ∷ text1 ∷ []; faults = 0 } ∷ record { words = (codes "diskRun=1") ∷ text0 ∷ text1 ∷ []; faults = 0 } ∷ [])) (front0 ++ Woke ((text11, text13) ∷ []) ∷ Rooted text2 ∷ Listed true ∷ Listens 8123 true ∷ wait true [] [] ∷ wait true [] [] ∷ Clock 784111787 ∷ Opened 3 ∷ wait true (3 ∷ []) [] ∷ CanRead 3 ∷ Heard 3 text7 ∷ Noted (Taken 3 0 (Hit 0 5)) ∷ wait true (3 ∷ []) (3 ∷ []) ∷ CanWrite 3 ∷ Said 3 163 text14 ∷ wait true (3 ∷ []) (3 ∷ []) ∷ CanWrite 3 ∷ Noted (Loaded (codes "http://h/a") (codes "\"x\"") 5 0) ∷ Said 3 5 (codes "hello") ∷ wait true (3 ∷ []) [] ∷ [])) ≡ true
unfolding judging
row50swapped5 = refl

row50swapped6 : is_some (fault_from 0 (start (record { words = (codes "diskRun=1") ∷ text0 ∷ text1 ∷ []; faults = 0 } ∷ record { words = (codes "diskRun=1") ∷ text0 ∷ text1 ∷ []; faults = 0 } ∷ [])) (front0 ++ Woke ((text11, text13) ∷ []) ∷ Rooted text2 ∷ Listed true ∷ Listens 8123 true ∷ wait true [] [] ∷ Clock 784111787 ∷ Opened 3 ∷ wait true [] [] ∷ wait true (3 ∷ []) [] ∷ CanRead 3 ∷ Heard 3 text7 ∷ Noted (Taken 3 0 (Hit 0 5)) ∷ wait true (3 ∷ []) (3 ∷ []) ∷ CanWrite 3 ∷ Said 3 163 text14 ∷ wait true (3 ∷ []) (3 ∷ []) ∷ CanWrite 3 ∷ Noted (Loaded (codes "http://h/a") (codes "\"x\"") 5 0) ∷ Said 3 5 (codes "hello") ∷ wait true (3 ∷ []) [] ∷ [])) ≡ true
unfolding judging
row50swapped6 = refl

row50swapped7 : is_some (fault_from 0 (start (record { words = (codes "diskRun=1") ∷ text0 ∷ text1 ∷ []; faults = 0 } ∷ record { words = (codes "diskRun=1") ∷ text0 ∷ text1 ∷ []; faults = 0 } ∷ [])) (front0 ++ Woke ((text11, text13) ∷ []) ∷ Rooted text2 ∷ Listed true ∷ Listens 8123 true ∷ wait true [] [] ∷ Clock 784111787 ∷ wait true [] [] ∷ wait true (3 ∷ []) [] ∷ Opened 3 ∷ CanRead 3 ∷ Heard 3 text7 ∷ Noted (Taken 3 0 (Hit 0 5)) ∷ wait true (3 ∷ []) (3 ∷ []) ∷ CanWrite 3 ∷ Said 3 163 text14 ∷ wait true (3 ∷ []) (3 ∷ []) ∷ CanWrite 3 ∷ Noted (Loaded (codes "http://h/a") (codes "\"x\"") 5 0) ∷ Said 3 5 (codes "hello") ∷ wait true (3 ∷ []) [] ∷ [])) ≡ true
unfolding judging
row50swapped7 = refl

row50swapped8 : is_some (fault_from 0 (start (record { words = (codes "diskRun=1") ∷ text0 ∷ text1 ∷ []; faults = 0 } ∷ record { words = (codes "diskRun=1") ∷ text0 ∷ text1 ∷ []; faults = 0 } ∷ [])) (front0 ++ Woke ((text11, text13) ∷ []) ∷ Rooted text2 ∷ Listed true ∷ Listens 8123 true ∷ wait true [] [] ∷ Clock 784111787 ∷ wait true [] [] ∷ Opened 3 ∷ CanRead 3 ∷ wait true (3 ∷ []) [] ∷ Heard 3 text7 ∷ Noted (Taken 3 0 (Hit 0 5)) ∷ wait true (3 ∷ []) (3 ∷ []) ∷ CanWrite 3 ∷ Said 3 163 text14 ∷ wait true (3 ∷ []) (3 ∷ []) ∷ CanWrite 3 ∷ Noted (Loaded (codes "http://h/a") (codes "\"x\"") 5 0) ∷ Said 3 5 (codes "hello") ∷ wait true (3 ∷ []) [] ∷ [])) ≡ true
unfolding judging
row50swapped8 = refl

row50swapped9 : is_some (fault_from 0 (start (record { words = (codes "diskRun=1") ∷ text0 ∷ text1 ∷ []; faults = 0 } ∷ record { words = (codes "diskRun=1") ∷ text0 ∷ text1 ∷ []; faults = 0 } ∷ [])) (front0 ++ Woke ((text11, text13) ∷ []) ∷ Rooted text2 ∷ Listed true ∷ Listens 8123 true ∷ wait true [] [] ∷ Clock 784111787 ∷ wait true [] [] ∷ Opened 3 ∷ wait true (3 ∷ []) [] ∷ Heard 3 text7 ∷ CanRead 3 ∷ Noted (Taken 3 0 (Hit 0 5)) ∷ wait true (3 ∷ []) (3 ∷ []) ∷ CanWrite 3 ∷ Said 3 163 text14 ∷ wait true (3 ∷ []) (3 ∷ []) ∷ CanWrite 3 ∷ Noted (Loaded (codes "http://h/a") (codes "\"x\"") 5 0) ∷ Said 3 5 (codes "hello") ∷ wait true (3 ∷ []) [] ∷ [])) ≡ true
unfolding judging
row50swapped9 = refl

row50swapped10 : is_some (fault_from 0 (start (record { words = (codes "diskRun=1") ∷ text0 ∷ text1 ∷ []; faults = 0 } ∷ record { words = (codes "diskRun=1") ∷ text0 ∷ text1 ∷ []; faults = 0 } ∷ [])) (front0 ++ Woke ((text11, text13) ∷ []) ∷ Rooted text2 ∷ Listed true ∷ Listens 8123 true ∷ wait true [] [] ∷ Clock 784111787 ∷ wait true [] [] ∷ Opened 3 ∷ wait true (3 ∷ []) [] ∷ CanRead 3 ∷ Noted (Taken 3 0 (Hit 0 5)) ∷ Heard 3 text7 ∷ wait true (3 ∷ []) (3 ∷ []) ∷ CanWrite 3 ∷ Said 3 163 text14 ∷ wait true (3 ∷ []) (3 ∷ []) ∷ CanWrite 3 ∷ Noted (Loaded (codes "http://h/a") (codes "\"x\"") 5 0) ∷ Said 3 5 (codes "hello") ∷ wait true (3 ∷ []) [] ∷ [])) ≡ true
unfolding judging
row50swapped10 = refl

row50swapped11 : is_some (fault_from 0 (start (record { words = (codes "diskRun=1") ∷ text0 ∷ text1 ∷ []; faults = 0 } ∷ record { words = (codes "diskRun=1") ∷ text0 ∷ text1 ∷ []; faults = 0 } ∷ [])) (front0 ++ Woke ((text11, text13) ∷ []) ∷ Rooted text2 ∷ Listed true ∷ Listens 8123 true ∷ wait true [] [] ∷ Clock 784111787 ∷ wait true [] [] ∷ Opened 3 ∷ wait true (3 ∷ []) [] ∷ CanRead 3 ∷ Heard 3 text7 ∷ wait true (3 ∷ []) (3 ∷ []) ∷ Noted (Taken 3 0 (Hit 0 5)) ∷ CanWrite 3 ∷ Said 3 163 text14 ∷ wait true (3 ∷ []) (3 ∷ []) ∷ CanWrite 3 ∷ Noted (Loaded (codes "http://h/a") (codes "\"x\"") 5 0) ∷ Said 3 5 (codes "hello") ∷ wait true (3 ∷ []) [] ∷ [])) ≡ true
unfolding judging
row50swapped11 = refl

row50swapped12 : is_some (fault_from 0 (start (record { words = (codes "diskRun=1") ∷ text0 ∷ text1 ∷ []; faults = 0 } ∷ record { words = (codes "diskRun=1") ∷ text0 ∷ text1 ∷ []; faults = 0 } ∷ [])) (front0 ++ Woke ((text11, text13) ∷ []) ∷ Rooted text2 ∷ Listed true ∷ Listens 8123 true ∷ wait true [] [] ∷ Clock 784111787 ∷ wait true [] [] ∷ Opened 3 ∷ wait true (3 ∷ []) [] ∷ CanRead 3 ∷ Heard 3 text7 ∷ Noted (Taken 3 0 (Hit 0 5)) ∷ CanWrite 3 ∷ wait true (3 ∷ []) (3 ∷ []) ∷ Said 3 163 text14 ∷ wait true (3 ∷ []) (3 ∷ []) ∷ CanWrite 3 ∷ Noted (Loaded (codes "http://h/a") (codes "\"x\"") 5 0) ∷ Said 3 5 (codes "hello") ∷ wait true (3 ∷ []) [] ∷ [])) ≡ true
unfolding judging
row50swapped12 = refl

row50swapped13 : is_some (fault_from 0 (start (record { words = (codes "diskRun=1") ∷ text0 ∷ text1 ∷ []; faults = 0 } ∷ record { words = (codes "diskRun=1") ∷ text0 ∷ text1 ∷ []; faults = 0 } ∷ [])) (front0 ++ Woke ((text11, text13) ∷ []) ∷ Rooted text2 ∷ Listed true ∷ Listens 8123 true ∷ wait true [] [] ∷ Clock 784111787 ∷ wait true [] [] ∷ Opened 3 ∷ wait true (3 ∷ []) [] ∷ CanRead 3 ∷ Heard 3 text7 ∷ Noted (Taken 3 0 (Hit 0 5)) ∷ wait true (3 ∷ []) (3 ∷ []) ∷ Said 3 163 text14 ∷ CanWrite 3 ∷ wait true (3 ∷ []) (3 ∷ []) ∷ CanWrite 3 ∷ Noted (Loaded (codes "http://h/a") (codes "\"x\"") 5 0) ∷ Said 3 5 (codes "hello") ∷ wait true (3 ∷ []) [] ∷ [])) ≡ true
unfolding judging
row50swapped13 = refl

row50swapped14 : is_some (fault_from 0 (start (record { words = (codes "diskRun=1") ∷ text0 ∷ text1 ∷ []; faults = 0 } ∷ record { words = (codes "diskRun=1") ∷ text0 ∷ text1 ∷ []; faults = 0 } ∷ [])) (front0 ++ Woke ((text11, text13) ∷ []) ∷ Rooted text2 ∷ Listed true ∷ Listens 8123 true ∷ wait true [] [] ∷ Clock 784111787 ∷ wait true [] [] ∷ Opened 3 ∷ wait true (3 ∷ []) [] ∷ CanRead 3 ∷ Heard 3 text7 ∷ Noted (Taken 3 0 (Hit 0 5)) ∷ wait true (3 ∷ []) (3 ∷ []) ∷ CanWrite 3 ∷ wait true (3 ∷ []) (3 ∷ []) ∷ Said 3 163 text14 ∷ CanWrite 3 ∷ Noted (Loaded (codes "http://h/a") (codes "\"x\"") 5 0) ∷ Said 3 5 (codes "hello") ∷ wait true (3 ∷ []) [] ∷ [])) ≡ true
unfolding judging
row50swapped14 = refl

row50swapped15 : is_some (fault_from 0 (start (record { words = (codes "diskRun=1") ∷ text0 ∷ text1 ∷ []; faults = 0 } ∷ record { words = (codes "diskRun=1") ∷ text0 ∷ text1 ∷ []; faults = 0 } ∷ [])) (front0 ++ Woke ((text11, text13) ∷ []) ∷ Rooted text2 ∷ Listed true ∷ Listens 8123 true ∷ wait true [] [] ∷ Clock 784111787 ∷ wait true [] [] ∷ Opened 3 ∷ wait true (3 ∷ []) [] ∷ CanRead 3 ∷ Heard 3 text7 ∷ Noted (Taken 3 0 (Hit 0 5)) ∷ wait true (3 ∷ []) (3 ∷ []) ∷ CanWrite 3 ∷ Said 3 163 text14 ∷ CanWrite 3 ∷ wait true (3 ∷ []) (3 ∷ []) ∷ Noted (Loaded (codes "http://h/a") (codes "\"x\"") 5 0) ∷ Said 3 5 (codes "hello") ∷ wait true (3 ∷ []) [] ∷ [])) ≡ true
unfolding judging
row50swapped15 = refl

row50swapped16 : is_some (fault_from 0 (start (record { words = (codes "diskRun=1") ∷ text0 ∷ text1 ∷ []; faults = 0 } ∷ record { words = (codes "diskRun=1") ∷ text0 ∷ text1 ∷ []; faults = 0 } ∷ [])) (front0 ++ Woke ((text11, text13) ∷ []) ∷ Rooted text2 ∷ Listed true ∷ Listens 8123 true ∷ wait true [] [] ∷ Clock 784111787 ∷ wait true [] [] ∷ Opened 3 ∷ wait true (3 ∷ []) [] ∷ CanRead 3 ∷ Heard 3 text7 ∷ Noted (Taken 3 0 (Hit 0 5)) ∷ wait true (3 ∷ []) (3 ∷ []) ∷ CanWrite 3 ∷ Said 3 163 text14 ∷ wait true (3 ∷ []) (3 ∷ []) ∷ Noted (Loaded (codes "http://h/a") (codes "\"x\"") 5 0) ∷ CanWrite 3 ∷ Said 3 5 (codes "hello") ∷ wait true (3 ∷ []) [] ∷ [])) ≡ true
unfolding judging
row50swapped16 = refl

row50swapped17 : is_some (fault_from 0 (start (record { words = (codes "diskRun=1") ∷ text0 ∷ text1 ∷ []; faults = 0 } ∷ record { words = (codes "diskRun=1") ∷ text0 ∷ text1 ∷ []; faults = 0 } ∷ [])) (front0 ++ Woke ((text11, text13) ∷ []) ∷ Rooted text2 ∷ Listed true ∷ Listens 8123 true ∷ wait true [] [] ∷ Clock 784111787 ∷ wait true [] [] ∷ Opened 3 ∷ wait true (3 ∷ []) [] ∷ CanRead 3 ∷ Heard 3 text7 ∷ Noted (Taken 3 0 (Hit 0 5)) ∷ wait true (3 ∷ []) (3 ∷ []) ∷ CanWrite 3 ∷ Said 3 163 text14 ∷ wait true (3 ∷ []) (3 ∷ []) ∷ CanWrite 3 ∷ Said 3 5 (codes "hello") ∷ Noted (Loaded (codes "http://h/a") (codes "\"x\"") 5 0) ∷ wait true (3 ∷ []) [] ∷ [])) ≡ true
unfolding judging
row50swapped17 = refl

row50swapped18 : is_some (fault_from 0 (start (record { words = (codes "diskRun=1") ∷ text0 ∷ text1 ∷ []; faults = 0 } ∷ record { words = (codes "diskRun=1") ∷ text0 ∷ text1 ∷ []; faults = 0 } ∷ [])) (front0 ++ Woke ((text11, text13) ∷ []) ∷ Rooted text2 ∷ Listed true ∷ Listens 8123 true ∷ wait true [] [] ∷ Clock 784111787 ∷ wait true [] [] ∷ Opened 3 ∷ wait true (3 ∷ []) [] ∷ CanRead 3 ∷ Heard 3 text7 ∷ Noted (Taken 3 0 (Hit 0 5)) ∷ wait true (3 ∷ []) (3 ∷ []) ∷ CanWrite 3 ∷ Said 3 163 text14 ∷ wait true (3 ∷ []) (3 ∷ []) ∷ CanWrite 3 ∷ Noted (Loaded (codes "http://h/a") (codes "\"x\"") 5 0) ∷ wait true (3 ∷ []) [] ∷ Said 3 5 (codes "hello") ∷ [])) ≡ true
unfolding judging
row50swapped18 = refl

row50swapped19 : fault_from 0 (start (record { words = (codes "diskRun=1") ∷ text0 ∷ text1 ∷ []; faults = 0 } ∷ record { words = (codes "diskRun=1") ∷ text0 ∷ text1 ∷ []; faults = 0 } ∷ [])) (front0 ++ Woke ((text11, text13) ∷ []) ∷ Rooted text2 ∷ Listed true ∷ Listens 8123 true ∷ wait true [] [] ∷ Clock 784111787 ∷ wait true [] [] ∷ Opened 3 ∷ wait true (3 ∷ []) [] ∷ CanRead 3 ∷ Heard 3 text7 ∷ Noted (Taken 3 0 (Hit 0 5)) ∷ wait true (3 ∷ []) (3 ∷ []) ∷ CanWrite 3 ∷ Said 3 163 text14 ∷ wait true (3 ∷ []) (3 ∷ []) ∷ CanWrite 3 ∷ Noted (Loaded (codes "http://h/a") (codes "\"x\"") 5 0) ∷ Said 3 5 (codes "hello") ∷ wait true (3 ∷ []) [] ∷ []) ≡ None
unfolding judging
row50swapped19 = refl
