-- The verdicts of transcripts/disk.log, written by transcripts/make_rows.
use Rattle.std.proofs.Common.{◌≡◌, refl, ℕ, List, [], ◌∷◌, ◌++◌, true, false, Bool, Option, None, Some, codes}
use Rattle.std.specs.Prelude.{replicate, is_some}
use Rattle.pp_world.specs.Log.{Log}
use Rattle.pp_world.specs.declared.happening.Happening.{Happening}
use Rattle.pp_world.specs.declared.happening.Happening.TheVariants.{Woke, Waits, Clock, Opened, CanRead, CanWrite, Heard, HungUp, Said, Shut, Dialled, Undialled, Reached, Ended, Broke, Asked, Got, Dropped, NoneYet, Began, Did, Unread, Noted, Rooted, Listed, Listens, Configured, Printed, Stopped}
use Rattle.pp_world.specs.declared.note.Decision.TheVariants.{Refuse, Hit, Part, Head, NotModified, Unsatisfiable, Relay, Validate, Fetch, Pass}
use Rattle.pp_world.specs.declared.note.Cause.TheVariants.{Superseded, Origin, Short, Idle, Memory, Stop}
use Rattle.pp_world.specs.declared.note.Remark.TheVariants.{Taken, Cut, Kept, Gone, Forgotten, Evicted, Loaded}
use Rattle.pp_world.specs.declared.op.DiskOp.TheVariants.{Draft, SyncDraft, Publish, Write, Sync, Remove}
use Rattle.pp_law.specs.Lists.{Bytes}
use Rattle.pp_law.specs.State.{State, start}
use Rattle.pp_law.specs.Lawful.{fault_from, Fault, ImageNotLeft, OpeningOutOfOrder, EventOutOfTurn, ReadNotAskedFor, FailureMadeUp, WrongReply, WrongAsk, WrongDecision, WrongCut, NotToBeClosed, NotToBeDialled, NotToBeEvicted, NotToBeForgotten, NotToBeLoaded, NotSealed, NotGone, WrongDiskOperation, StepUnfinished, AcceptsWrongly, ClientForgotten, ConnectionForgotten, ExchangeForgotten, WantsTooMuch}
use Rattle.pp_pieces.proofs.Forced.{judge, arrived, judging, told, tell}

abbrev wait : Bool → List ℕ → List ℕ → Happening
wait accept read write = Waits (record { accept = accept; read = record { items = read }; write = record { items = write } })

abbrev text0 : Bytes
text0 = (codes "pipelineAsks=1")

abbrev text1 : Bytes
text1 = (codes "hostConnections=4")

abbrev text2 : Bytes
text2 = (codes "polipo-cache")

abbrev text3 : Bytes
text3 = (codes "GET http://h/a HTTP/1.1\r\nHost: h\r\n\r\n")

abbrev text4 : Bytes
text4 = (codes "GET /a HTTP/1.1\r\nhost: h\r\nvia: 1.1 polipo\r\n\r\n")

abbrev text5 : Bytes
text5 = (codes "HTTP/1.1 200 OK\r\nDate: Sun, 06 Nov 1994 08:49:37 GMT\r\nETag: \"x\"\r\nCache-Control: max-age=60\r\nContent-Length: 5\r\n\r\nhello")

abbrev front0 : Log
front0 = Woke [] ∷ Rooted text2 ∷ Listed true ∷ Listens 8123 true ∷ wait true [] [] ∷ Clock 784111777 ∷ wait true [] [] ∷ Opened 1 ∷ wait true (1 ∷ []) [] ∷ CanRead 1 ∷ Heard 1 text3 ∷ Noted (Taken 1 0 Fetch) ∷ Dialled 2 (codes "h") 80 ∷ wait true (1 ∷ []) [] ∷ Reached 2 ∷ wait true (1 ∷ 2 ∷ []) (2 ∷ []) ∷ CanWrite 2 ∷ Asked 2 text4 ∷ wait true (1 ∷ 2 ∷ []) [] ∷ CanRead 2 ∷ Got 2 text5 ∷ []

abbrev text6 : Bytes
text6 = (codes "HTTP/1.1 200 OK\r\netag: \"x\"\r\ndate: Sun, 06 Nov 1994 08:49:37 GMT\r\ncache-control: max-age=60\r\nvia: 1.1 polipo\r\ncontent-length: 5\r\nconnection: keep-alive\r\n\r\n")

abbrev text7 : Bytes
text7 = (codes "HTTP/1.1 200 OK\r\netag: \"x\"\r\ndate: Sun, 06 Nov 1994 08:49:37 GMT\r\ncache-control: max-age=60\r\nX-Polipo-Location: http://h/a\r\nX-Polipo-Date: 784111777\r\nX-Polipo-Age: 0\r\nX-Polipo-Length: 5\r\nX-Polipo-Body-Offset: 12288\r\n\r\n" ++ replicate 12071 0)

abbrev text8 : Bytes
text8 = (codes "2ce7276502725c281e6d5ae4e55aed55")

abbrev text9 : Bytes
text9 = (codes "HTTP/1.1 200 OK\r\netag: \"x\"\r\ndate: Sun, 06 Nov 1994 08:49:37 GMT\r\ncache-control: max-age=60\r\nX-Polipo-Location: http://h/b\r\nX-Polipo-Date: 784111777\r\nX-Polipo-Age: 0\r\nX-Polipo-Length: 5\r\nX-Polipo-Body-Offset: 12288\r\n\r\n" ++ replicate 12071 0)

abbrev text10 : Bytes
text10 = (replicate 32 48)

abbrev front1 : Log
front1 = Woke [] ∷ Rooted text2 ∷ Listed true ∷ Listens 8123 true ∷ wait true [] [] ∷ Clock 784111777 ∷ wait true [] [] ∷ Opened 1 ∷ wait true (1 ∷ []) [] ∷ CanRead 1 ∷ Heard 1 text3 ∷ Noted (Taken 1 0 Fetch) ∷ Dialled 2 (codes "h") 80 ∷ wait true (1 ∷ []) [] ∷ Reached 2 ∷ wait true (1 ∷ 2 ∷ []) (2 ∷ []) ∷ CanWrite 2 ∷ Asked 2 text4 ∷ wait true (1 ∷ 2 ∷ []) [] ∷ CanRead 2 ∷ Got 2 text5 ∷ Began (Draft text7) ∷ Did (Draft text7) true ∷ Began SyncDraft ∷ Did SyncDraft true ∷ Began (Publish text8) ∷ Did (Publish text8) true ∷ Began (Write text8 12288 (codes "hello")) ∷ Did (Write text8 12288 (codes "hello")) true ∷ Began (Sync text8) ∷ Did (Sync text8) true ∷ []

abbrev text11 : Bytes
text11 = (codes "GET http://i/a HTTP/1.1\r\n\r\n")

abbrev text12 : Bytes
text12 = (codes "GET /a HTTP/1.1\r\nhost: h\r\nif-none-match: \"x\"\r\nvia: 1.1 polipo\r\n\r\n")

abbrev front2 : Log
front2 = Woke [] ∷ Rooted text2 ∷ Listed true ∷ Listens 8123 true ∷ wait true [] [] ∷ Clock 784111777 ∷ wait true [] [] ∷ Opened 1 ∷ wait true (1 ∷ []) [] ∷ CanRead 1 ∷ Heard 1 text3 ∷ Noted (Taken 1 0 Fetch) ∷ Dialled 2 (codes "h") 80 ∷ wait true (1 ∷ []) [] ∷ Reached 2 ∷ wait true (1 ∷ 2 ∷ []) (2 ∷ []) ∷ CanWrite 2 ∷ Asked 2 text4 ∷ wait true (1 ∷ 2 ∷ []) [] ∷ CanRead 2 ∷ Got 2 text5 ∷ Began (Draft text7) ∷ Did (Draft text7) true ∷ Began SyncDraft ∷ Did SyncDraft true ∷ Began (Publish text8) ∷ Did (Publish text8) true ∷ Began (Write text8 12288 (codes "hello")) ∷ Did (Write text8 12288 (codes "hello")) true ∷ Began (Sync text8) ∷ Did (Sync text8) true ∷ Began (Write text8 8192 ((1 ∷ []))) ∷ Did (Write text8 8192 ((1 ∷ []))) true ∷ Began (Sync text8) ∷ Did (Sync text8) true ∷ Noted (Kept (codes "http://h/a") (codes "\"x\"") 5 5) ∷ Noted (Taken 1 0 (Hit 0 5)) ∷ wait true (1 ∷ 2 ∷ []) (1 ∷ []) ∷ CanWrite 1 ∷ Said 1 154 text6 ∷ wait true (1 ∷ 2 ∷ []) (1 ∷ []) ∷ CanWrite 1 ∷ Said 1 5 (codes "hello") ∷ wait true (1 ∷ 2 ∷ []) [] ∷ Clock 784111838 ∷ Dropped 2 ∷ wait true (1 ∷ []) [] ∷ Opened 3 ∷ wait true (1 ∷ 3 ∷ []) [] ∷ CanRead 3 ∷ Heard 3 text3 ∷ Noted (Taken 3 0 Validate) ∷ Dialled 4 (codes "h") 80 ∷ wait true (1 ∷ []) [] ∷ Reached 4 ∷ wait true (1 ∷ 4 ∷ []) (4 ∷ []) ∷ CanWrite 4 ∷ Asked 4 text12 ∷ wait true (1 ∷ 4 ∷ []) [] ∷ CanRead 4 ∷ []

abbrev text13 : Bytes
text13 = (codes "HTTP/1.1 200 OK\r\nETag: \"x\"\r\nCache-Control: max-age=60\r\nContent-Length: 6\r\n\r\nhello!")

abbrev text14 : Bytes
text14 = (codes "HTTP/1.1 200 OK\r\netag: \"x\"\r\ndate: Sun, 06 Nov 1994 08:50:38 GMT\r\ncache-control: max-age=60\r\nvia: 1.1 polipo\r\ncontent-length: 6\r\nconnection: keep-alive\r\n\r\n")

abbrev front3 : Log
front3 = Woke [] ∷ Rooted text2 ∷ Listed true ∷ Listens 8123 true ∷ wait true [] [] ∷ Clock 784111777 ∷ wait true [] [] ∷ Opened 1 ∷ wait true (1 ∷ []) [] ∷ CanRead 1 ∷ Heard 1 text3 ∷ Noted (Taken 1 0 Fetch) ∷ Dialled 2 (codes "h") 80 ∷ wait true (1 ∷ []) [] ∷ Reached 2 ∷ wait true (1 ∷ 2 ∷ []) (2 ∷ []) ∷ CanWrite 2 ∷ Asked 2 text4 ∷ wait true (1 ∷ 2 ∷ []) [] ∷ CanRead 2 ∷ Got 2 text5 ∷ Began (Draft text7) ∷ Did (Draft text7) true ∷ Began SyncDraft ∷ Did SyncDraft true ∷ Began (Publish text8) ∷ Did (Publish text8) true ∷ Began (Write text8 12288 (codes "hello")) ∷ Did (Write text8 12288 (codes "hello")) true ∷ Began (Sync text8) ∷ Did (Sync text8) true ∷ Began (Write text8 8192 ((1 ∷ []))) ∷ Did (Write text8 8192 ((1 ∷ []))) true ∷ Began (Sync text8) ∷ Did (Sync text8) true ∷ Noted (Kept (codes "http://h/a") (codes "\"x\"") 5 5) ∷ Noted (Taken 1 0 (Hit 0 5)) ∷ wait true (1 ∷ 2 ∷ []) (1 ∷ []) ∷ CanWrite 1 ∷ Said 1 154 text6 ∷ wait true (1 ∷ 2 ∷ []) (1 ∷ []) ∷ CanWrite 1 ∷ Said 1 5 (codes "hello") ∷ wait true (1 ∷ 2 ∷ []) [] ∷ []

row13 : fault_from 0 (start (record { words = (codes "diskRun=1") ∷ text0 ∷ text1 ∷ []; faults = 0 } ∷ [])) (front0 ++ Noted (Taken 1 0 (Hit 0 5)) ∷ wait true (1 ∷ 2 ∷ []) (1 ∷ []) ∷ CanWrite 1 ∷ Said 1 154 text6 ∷ wait true (1 ∷ 2 ∷ []) (1 ∷ []) ∷ CanWrite 1 ∷ Said 1 5 (codes "hello") ∷ wait true (1 ∷ 2 ∷ []) [] ∷ []) ≡ None
unfolding judging
row13 = refl

row16 : fault_from 0 (start (record { words = (codes "diskRun=1") ∷ text0 ∷ text1 ∷ []; faults = 0 } ∷ [])) (front0 ++ Began (Draft text7) ∷ Did (Draft text7) true ∷ Began SyncDraft ∷ Did SyncDraft true ∷ Began (Publish text8) ∷ Did (Publish text8) true ∷ Began (Write text8 12288 (codes "hello")) ∷ Did (Write text8 12288 (codes "hello")) true ∷ Began (Sync text8) ∷ Did (Sync text8) true ∷ Began (Write text8 8192 ((1 ∷ []))) ∷ Did (Write text8 8192 ((1 ∷ []))) true ∷ Began (Sync text8) ∷ Did (Sync text8) true ∷ Noted (Kept (codes "http://h/a") (codes "\"x\"") 5 5) ∷ Noted (Taken 1 0 (Hit 0 5)) ∷ wait true (1 ∷ 2 ∷ []) (1 ∷ []) ∷ CanWrite 1 ∷ Said 1 154 text6 ∷ wait true (1 ∷ 2 ∷ []) (1 ∷ []) ∷ CanWrite 1 ∷ Said 1 5 (codes "hello") ∷ wait true (1 ∷ 2 ∷ []) [] ∷ []) ≡ None
unfolding judging
row16 = refl

row19 : fault_from 0 (start (record { words = (codes "diskRun=1") ∷ text0 ∷ text1 ∷ []; faults = 0 } ∷ [])) (front0 ++ Began (Draft text7) ∷ Did (Draft text7) true ∷ Began SyncDraft ∷ Did SyncDraft true ∷ Began (Publish text8) ∷ Did (Publish text8) true ∷ Began (Write text8 12288 (codes "hello")) ∷ Did (Write text8 12288 (codes "hello")) true ∷ Began (Write text8 8192 ((1 ∷ []))) ∷ []) ≡ Some (record { at = 29; rule = WrongDiskOperation })
unfolding judging
row19 = refl

row26 : fault_from 0 (start (record { words = (codes "diskRun=1") ∷ text0 ∷ text1 ∷ []; faults = 0 } ∷ [])) (front0 ++ Began (Draft text7) ∷ Did (Draft text7) true ∷ Began SyncDraft ∷ Did SyncDraft true ∷ Began (Publish text8) ∷ Did (Publish text8) true ∷ Began (Write text8 8192 ((1 ∷ []))) ∷ []) ≡ Some (record { at = 27; rule = WrongDiskOperation })
unfolding judging
row26 = refl

row33 : fault_from 0 (start (record { words = (codes "diskRun=1") ∷ text0 ∷ text1 ∷ []; faults = 0 } ∷ [])) (front0 ++ Began (Draft text7) ∷ Did (Draft text7) true ∷ Began SyncDraft ∷ Did SyncDraft true ∷ Began (Publish text8) ∷ Did (Publish text8) true ∷ Began (Write text8 12288 (codes "hello")) ∷ Did (Write text8 12288 (codes "hello")) true ∷ Began (Sync text8) ∷ Did (Sync text8) true ∷ Noted (Kept (codes "http://h/a") (codes "\"x\"") 5 5) ∷ []) ≡ Some (record { at = 31; rule = NotSealed })
unfolding judging
row33 = refl

row38 : fault_from 0 (start (record { words = (codes "diskRun=1") ∷ text0 ∷ text1 ∷ []; faults = 0 } ∷ [])) (front0 ++ Began (Draft text7) ∷ Did (Draft text7) true ∷ Began SyncDraft ∷ Did SyncDraft true ∷ Began (Publish text8) ∷ Did (Publish text8) true ∷ Began (Write text8 12288 (codes "hello")) ∷ Did (Write text8 12288 (codes "hello")) true ∷ Began (Sync text8) ∷ Did (Sync text8) true ∷ Began (Write text8 8192 ((1 ∷ []))) ∷ Did (Write text8 8192 ((1 ∷ []))) true ∷ Noted (Kept (codes "http://h/a") (codes "\"x\"") 5 5) ∷ []) ≡ Some (record { at = 33; rule = NotSealed })
unfolding judging
row38 = refl

row45 : fault_from 0 (start (record { words = (codes "diskRun=1") ∷ text0 ∷ text1 ∷ []; faults = 0 } ∷ [])) (front0 ++ Began (Draft text7) ∷ Did (Draft text7) true ∷ Began SyncDraft ∷ Did SyncDraft true ∷ Began (Publish text8) ∷ Did (Publish text8) true ∷ Began (Write text8 12288 (codes "hello")) ∷ Did (Write text8 12288 (codes "hello")) true ∷ Began (Sync text8) ∷ Did (Sync text8) true ∷ Began (Write text8 8192 ((1 ∷ []))) ∷ Did (Write text8 8192 ((1 ∷ []))) true ∷ Began (Sync text8) ∷ Noted (Kept (codes "http://h/a") (codes "\"x\"") 5 5) ∷ []) ≡ Some (record { at = 34; rule = NotSealed })
unfolding judging
row45 = refl

row53 : fault_from 0 (start (record { words = (codes "diskRun=1") ∷ text0 ∷ text1 ∷ []; faults = 0 } ∷ [])) (front0 ++ Began (Draft text7) ∷ Did (Draft text7) true ∷ Began SyncDraft ∷ Did SyncDraft true ∷ Began (Publish text8) ∷ Did (Publish text8) true ∷ Began (Write text8 12288 (codes "hello")) ∷ Did (Write text8 12288 (codes "hello")) true ∷ Began (Sync text8) ∷ Did (Sync text8) true ∷ Began (Write text8 8192 ((1 ∷ []))) ∷ Did (Write text8 8192 ((1 ∷ []))) true ∷ Began (Sync text8) ∷ Did (Sync text8) true ∷ Noted (Kept (codes "http://h/a") (codes "\"x\"") 5 4096) ∷ []) ≡ Some (record { at = 35; rule = NotSealed })
unfolding judging
row53 = refl

row62 : fault_from 0 (start (record { words = (codes "diskRun=1") ∷ text0 ∷ text1 ∷ []; faults = 0 } ∷ [])) (front0 ++ Began (Draft text7) ∷ Did (Draft text7) true ∷ Began SyncDraft ∷ Did SyncDraft true ∷ Began (Publish text8) ∷ Did (Publish text8) true ∷ Began (Write text8 12288 (codes "hello")) ∷ Did (Write text8 12288 (codes "hello")) true ∷ Began (Sync text8) ∷ Did (Sync text8) true ∷ Began (Write text8 8192 ((1 ∷ []))) ∷ Did (Write text8 8192 ((1 ∷ []))) true ∷ Began (Sync text8) ∷ Did (Sync text8) true ∷ Noted (Kept (codes "http://h/a") (codes "\"y\"") 5 5) ∷ []) ≡ Some (record { at = 35; rule = NotSealed })
unfolding judging
row62 = refl

row71 : fault_from 0 (start (record { words = (codes "diskRun=1") ∷ text0 ∷ text1 ∷ []; faults = 0 } ∷ [])) (front0 ++ Began (Draft text7) ∷ Did (Draft text7) true ∷ Began SyncDraft ∷ Did SyncDraft true ∷ Began (Publish text8) ∷ Did (Publish text8) true ∷ Began (Write text8 12288 (codes "hello")) ∷ Did (Write text8 12288 (codes "hello")) true ∷ Began (Sync text8) ∷ Did (Sync text8) true ∷ Began (Write text8 8192 ((1 ∷ []))) ∷ Did (Write text8 8192 ((1 ∷ []))) true ∷ Began (Sync text8) ∷ Did (Sync text8) true ∷ Noted (Kept (codes "http://h/a") (codes "\"x\"") 5 5) ∷ Noted (Kept (codes "http://h/a") (codes "\"x\"") 5 5) ∷ []) ≡ Some (record { at = 36; rule = NotSealed })
unfolding judging
row71 = refl

row78 : fault_from 0 (start (record { words = (codes "diskRun=1") ∷ text0 ∷ text1 ∷ []; faults = 0 } ∷ [])) (front0 ++ Began (Draft text7) ∷ Did (Draft text7) true ∷ Began (Publish text8) ∷ []) ≡ Some (record { at = 23; rule = WrongDiskOperation })
unfolding judging
row78 = refl

row84 : fault_from 0 (start (record { words = (codes "diskRun=1") ∷ text0 ∷ text1 ∷ []; faults = 0 } ∷ [])) (front0 ++ Began (Draft text7) ∷ Began SyncDraft ∷ []) ≡ Some (record { at = 22; rule = WrongDiskOperation })
unfolding judging
row84 = refl

row89 : fault_from 0 (start (record { words = (codes "diskRun=1") ∷ text0 ∷ text1 ∷ []; faults = 0 } ∷ [])) (front0 ++ Began (Draft text7) ∷ Did SyncDraft true ∷ []) ≡ Some (record { at = 22; rule = WrongDiskOperation })
unfolding judging
row89 = refl

row94 : fault_from 0 (start (record { words = (codes "diskRun=1") ∷ text0 ∷ text1 ∷ []; faults = 0 } ∷ [])) (front0 ++ Began (Draft text9) ∷ []) ≡ Some (record { at = 21; rule = WrongDiskOperation })
unfolding judging
row94 = refl

row98 : fault_from 0 (start (record { words = (codes "diskRun=1") ∷ text0 ∷ text1 ∷ []; faults = 0 } ∷ [])) (front0 ++ Began (Draft text7) ∷ Did (Draft text7) true ∷ Began SyncDraft ∷ Did SyncDraft true ∷ Began (Publish text10) ∷ []) ≡ Some (record { at = 25; rule = WrongDiskOperation })
unfolding judging
row98 = refl

row108 : fault_from 0 (start (record { words = (codes "diskRun=1") ∷ text0 ∷ text1 ∷ []; faults = 0 } ∷ [])) (front0 ++ Began (Draft text7) ∷ Did (Draft text7) true ∷ Began SyncDraft ∷ Did SyncDraft true ∷ Began (Publish text8) ∷ Did (Publish text8) true ∷ Began (Write text8 12288 (codes "jello")) ∷ []) ≡ Some (record { at = 27; rule = WrongDiskOperation })
unfolding judging
row108 = refl

row113 : fault_from 0 (start (record { words = (codes "diskRun=1") ∷ text0 ∷ text1 ∷ []; faults = 0 } ∷ [])) (front0 ++ Began (Draft text7) ∷ Did (Draft text7) true ∷ Began SyncDraft ∷ Did SyncDraft true ∷ Began (Publish text8) ∷ Did (Publish text8) true ∷ Began (Write text8 8192 (codes "hello")) ∷ []) ≡ Some (record { at = 27; rule = WrongDiskOperation })
unfolding judging
row113 = refl

row118 : fault_from 0 (start (record { words = (codes "diskRun=1") ∷ text0 ∷ text1 ∷ []; faults = 0 } ∷ [])) (front0 ++ Began (Draft text7) ∷ Did (Draft text7) true ∷ Began SyncDraft ∷ Did SyncDraft true ∷ Began (Publish text8) ∷ Did (Publish text8) true ∷ Began (Write text8 12288 (codes "hell")) ∷ []) ≡ Some (record { at = 27; rule = WrongDiskOperation })
unfolding judging
row118 = refl

row123 : fault_from 0 (start (record { words = (codes "diskRun=1") ∷ text0 ∷ text1 ∷ []; faults = 0 } ∷ [])) (front0 ++ Began (Draft text7) ∷ Did (Draft text7) true ∷ Began SyncDraft ∷ Did SyncDraft true ∷ Began (Publish text8) ∷ Did (Publish text8) true ∷ Noted (Taken 1 0 (Hit 0 5)) ∷ []) ≡ Some (record { at = 27; rule = WrongDecision })
unfolding judging
row123 = refl

row128 : fault_from 0 (start (record { words = (codes "diskRun=1") ∷ text0 ∷ text1 ∷ []; faults = 0 } ∷ [])) (front0 ++ Began (Draft text7) ∷ Did (Draft text7) true ∷ Began SyncDraft ∷ Did SyncDraft true ∷ Began (Publish text8) ∷ Did (Publish text8) true ∷ wait true (1 ∷ 2 ∷ []) [] ∷ []) ≡ Some (record { at = 27; rule = StepUnfinished })
unfolding judging
row128 = refl

row133 : fault_from 0 (start (record { words = (codes "diskRun=1") ∷ text0 ∷ text1 ∷ []; faults = 0 } ∷ [])) (front0 ++ Began (Draft text7) ∷ Did (Draft text7) true ∷ Began SyncDraft ∷ Did SyncDraft true ∷ Began (Publish text8) ∷ Did (Publish text8) true ∷ Began (Write text8 12288 (codes "hello")) ∷ Did (Write text8 12288 (codes "hello")) true ∷ Began (Sync text8) ∷ Did (Sync text8) true ∷ Began (Write text8 8192 ((1 ∷ []))) ∷ Did (Write text8 8192 ((1 ∷ []))) true ∷ Began (Sync text8) ∷ Did (Sync text8) true ∷ Noted (Kept (codes "http://h/a") (codes "\"x\"") 5 5) ∷ Began (Draft text7) ∷ []) ≡ Some (record { at = 36; rule = WrongDiskOperation })
unfolding judging
row133 = refl

row138 : fault_from 0 (start (record { words = (codes "diskRun=1") ∷ text0 ∷ text1 ∷ []; faults = 0 } ∷ [])) (front0 ++ Began (Draft text7) ∷ Did (Draft text7) true ∷ Began SyncDraft ∷ Did SyncDraft true ∷ Began (Publish text8) ∷ Did (Publish text8) true ∷ Began (Write text8 12288 (codes "hello")) ∷ Did (Write text8 12288 (codes "hello")) true ∷ Began (Sync text8) ∷ Did (Sync text8) true ∷ Began (Write text8 8192 ((1 ∷ []))) ∷ Did (Write text8 8192 ((1 ∷ []))) true ∷ Began (Sync text8) ∷ Did (Sync text8) true ∷ Noted (Kept (codes "http://h/a") (codes "\"x\"") 5 5) ∷ Began (Remove text8) ∷ []) ≡ Some (record { at = 36; rule = WrongDiskOperation })
unfolding judging
row138 = refl

row143 : fault_from 0 (start (record { words = (codes "diskRun=1") ∷ text0 ∷ text1 ∷ []; faults = 0 } ∷ [])) (front0 ++ Noted (Taken 1 0 (Hit 0 5)) ∷ Began (Draft text7) ∷ []) ≡ Some (record { at = 22; rule = WrongDiskOperation })
unfolding judging
row143 = refl

row148 : fault_from 0 (start (record { words = (codes "diskRun=1") ∷ text0 ∷ text1 ∷ []; faults = 0 } ∷ [])) (front0 ++ Noted (Forgotten (codes "http://h/a")) ∷ Noted (Taken 1 0 (Hit 0 5)) ∷ []) ≡ Some (record { at = 22; rule = WrongDecision })
unfolding judging
row148 = refl

row153 : fault_from 0 (start (record { words = (codes "diskRun=1") ∷ text0 ∷ text1 ∷ []; faults = 0 } ∷ [])) (front0 ++ Noted (Forgotten (codes "http://h/a")) ∷ Noted (Taken 1 0 Fetch) ∷ []) ≡ Some (record { at = 22; rule = WrongDecision })
unfolding judging
row153 = refl

row158 : fault_from 0 (start (record { words = (codes "diskRun=1") ∷ text0 ∷ text1 ∷ []; faults = 0 } ∷ [])) (front0 ++ Noted (Taken 1 0 (Hit 0 5)) ∷ Noted (Forgotten (codes "http://h/a")) ∷ []) ≡ Some (record { at = 22; rule = NotToBeForgotten })
unfolding judging
row158 = refl

row163 : fault_from 0 (start (record { words = (codes "diskRun=1") ∷ text0 ∷ text1 ∷ []; faults = 0 } ∷ [])) (front0 ++ Noted (Forgotten (codes "http://h/a")) ∷ Noted (Forgotten (codes "http://h/a")) ∷ []) ≡ Some (record { at = 22; rule = NotToBeForgotten })
unfolding judging
row163 = refl

row168 : fault_from 0 (start (record { words = (codes "diskRun=1") ∷ text0 ∷ text1 ∷ []; faults = 0 } ∷ [])) (front0 ++ Noted (Forgotten (codes "http://h/a")) ∷ Noted (Taken 1 0 (Refuse 500)) ∷ wait true (1 ∷ 2 ∷ []) (1 ∷ []) ∷ []) ≡ None
unfolding judging
row168 = refl

row199 : fault_from 0 (start (record { words = (codes "diskRun=1") ∷ text0 ∷ text1 ∷ []; faults = 1 } ∷ [])) (front0 ++ Began (Draft text7) ∷ Did (Draft text7) false ∷ Noted (Taken 1 0 (Hit 0 5)) ∷ wait true (1 ∷ 2 ∷ []) (1 ∷ []) ∷ CanWrite 1 ∷ Said 1 154 text6 ∷ wait true (1 ∷ 2 ∷ []) (1 ∷ []) ∷ CanWrite 1 ∷ Said 1 5 (codes "hello") ∷ wait true (1 ∷ 2 ∷ []) [] ∷ Clock 784111778 ∷ Began (Draft text7) ∷ Did (Draft text7) true ∷ Began SyncDraft ∷ Did SyncDraft true ∷ Began (Publish text8) ∷ Did (Publish text8) true ∷ Began (Write text8 12288 (codes "hello")) ∷ Did (Write text8 12288 (codes "hello")) true ∷ Began (Sync text8) ∷ Did (Sync text8) true ∷ Began (Write text8 8192 ((1 ∷ []))) ∷ Did (Write text8 8192 ((1 ∷ []))) true ∷ Began (Sync text8) ∷ Did (Sync text8) true ∷ Noted (Kept (codes "http://h/a") (codes "\"x\"") 5 5) ∷ wait true (1 ∷ 2 ∷ []) [] ∷ []) ≡ None
unfolding judging
row199 = refl

row205 : fault_from 0 (start (record { words = (codes "diskRun=1") ∷ text0 ∷ text1 ∷ []; faults = 1 } ∷ [])) (front0 ++ Began (Draft text7) ∷ Did (Draft text7) false ∷ Began (Draft text7) ∷ []) ≡ Some (record { at = 23; rule = WrongDiskOperation })
unfolding judging
row205 = refl

row210 : fault_from 0 (start (record { words = (codes "diskRun=1") ∷ text0 ∷ text1 ∷ []; faults = 1 } ∷ [])) (front0 ++ Began (Draft text7) ∷ Did (Draft text7) false ∷ Noted (Taken 1 0 (Hit 0 5)) ∷ wait true (1 ∷ 2 ∷ []) (1 ∷ []) ∷ CanWrite 1 ∷ Said 1 154 text6 ∷ wait true (1 ∷ 2 ∷ []) (1 ∷ []) ∷ CanWrite 1 ∷ Said 1 5 (codes "hello") ∷ wait true (1 ∷ 2 ∷ []) [] ∷ CanRead 1 ∷ NoneYet 1 ∷ Began (Draft text7) ∷ []) ≡ Some (record { at = 33; rule = WrongDiskOperation })
unfolding judging
row210 = refl

row217 : fault_from 0 (start (record { words = (codes "diskRun=1") ∷ text0 ∷ text1 ∷ []; faults = 1 } ∷ [])) (front0 ++ Began (Draft text7) ∷ Did (Draft text7) true ∷ Began SyncDraft ∷ Did SyncDraft false ∷ Noted (Taken 1 0 (Hit 0 5)) ∷ wait true (1 ∷ 2 ∷ []) (1 ∷ []) ∷ CanWrite 1 ∷ Said 1 154 text6 ∷ wait true (1 ∷ 2 ∷ []) (1 ∷ []) ∷ CanWrite 1 ∷ Said 1 5 (codes "hello") ∷ wait true (1 ∷ 2 ∷ []) [] ∷ Clock 784111778 ∷ Began (Draft text7) ∷ Did (Draft text7) true ∷ Began SyncDraft ∷ Did SyncDraft true ∷ Began (Publish text8) ∷ Did (Publish text8) true ∷ Began (Write text8 12288 (codes "hello")) ∷ Did (Write text8 12288 (codes "hello")) true ∷ Began (Sync text8) ∷ Did (Sync text8) true ∷ Began (Write text8 8192 ((1 ∷ []))) ∷ Did (Write text8 8192 ((1 ∷ []))) true ∷ Began (Sync text8) ∷ Did (Sync text8) true ∷ Noted (Kept (codes "http://h/a") (codes "\"x\"") 5 5) ∷ wait true (1 ∷ 2 ∷ []) [] ∷ []) ≡ None
unfolding judging
row217 = refl

row223 : fault_from 0 (start (record { words = (codes "diskRun=1") ∷ text0 ∷ text1 ∷ []; faults = 1 } ∷ [])) (front0 ++ Began (Draft text7) ∷ Did (Draft text7) true ∷ Began SyncDraft ∷ Did SyncDraft false ∷ Began SyncDraft ∷ []) ≡ Some (record { at = 25; rule = WrongDiskOperation })
unfolding judging
row223 = refl

row228 : fault_from 0 (start (record { words = (codes "diskRun=1") ∷ text0 ∷ text1 ∷ []; faults = 1 } ∷ [])) (front0 ++ Began (Draft text7) ∷ Did (Draft text7) true ∷ Began SyncDraft ∷ Did SyncDraft false ∷ Began (Publish text8) ∷ []) ≡ Some (record { at = 25; rule = WrongDiskOperation })
unfolding judging
row228 = refl

row233 : fault_from 0 (start (record { words = (codes "diskRun=1") ∷ text0 ∷ text1 ∷ []; faults = 1 } ∷ [])) (front0 ++ Began (Draft text7) ∷ Did (Draft text7) true ∷ Began SyncDraft ∷ Did SyncDraft true ∷ Began (Publish text8) ∷ Did (Publish text8) false ∷ Noted (Taken 1 0 (Hit 0 5)) ∷ wait true (1 ∷ 2 ∷ []) (1 ∷ []) ∷ CanWrite 1 ∷ Said 1 154 text6 ∷ wait true (1 ∷ 2 ∷ []) (1 ∷ []) ∷ CanWrite 1 ∷ Said 1 5 (codes "hello") ∷ wait true (1 ∷ 2 ∷ []) [] ∷ Clock 784111778 ∷ Began (Draft text7) ∷ []) ≡ Some (record { at = 36; rule = WrongDiskOperation })
unfolding judging
row233 = refl

row249 : fault_from 0 (start (record { words = (codes "diskRun=1") ∷ text0 ∷ text1 ∷ []; faults = 1 } ∷ [])) (front1 ++ Began (Write text8 8192 ((1 ∷ []))) ∷ Did (Write text8 8192 ((1 ∷ []))) false ∷ Noted (Gone (codes "http://h/a")) ∷ Noted (Taken 1 0 (Hit 0 5)) ∷ wait true (1 ∷ 2 ∷ []) (1 ∷ []) ∷ CanWrite 1 ∷ Said 1 154 text6 ∷ wait true (1 ∷ 2 ∷ []) (1 ∷ []) ∷ CanWrite 1 ∷ Said 1 5 (codes "hello") ∷ wait true (1 ∷ 2 ∷ []) [] ∷ []) ≡ None
unfolding judging
row249 = refl

row254 : fault_from 0 (start (record { words = (codes "diskRun=1") ∷ text0 ∷ text1 ∷ []; faults = 1 } ∷ [])) (front1 ++ Began (Write text8 8192 ((1 ∷ []))) ∷ Did (Write text8 8192 ((1 ∷ []))) false ∷ Began (Write text8 8192 ((1 ∷ []))) ∷ []) ≡ Some (record { at = 33; rule = WrongDiskOperation })
unfolding judging
row254 = refl

row259 : fault_from 0 (start (record { words = (codes "diskRun=1") ∷ text0 ∷ text1 ∷ []; faults = 1 } ∷ [])) (front1 ++ Began (Write text8 8192 ((1 ∷ []))) ∷ Did (Write text8 8192 ((1 ∷ []))) false ∷ Noted (Kept (codes "http://h/a") (codes "\"x\"") 5 5) ∷ []) ≡ Some (record { at = 33; rule = NotSealed })
unfolding judging
row259 = refl

row264 : fault_from 0 (start (record { words = (codes "diskRun=1") ∷ text0 ∷ text1 ∷ []; faults = 1 } ∷ [])) (front1 ++ Began (Write text8 8192 ((1 ∷ []))) ∷ Did (Write text8 8192 ((1 ∷ []))) false ∷ Noted (Taken 1 0 (Hit 0 5)) ∷ []) ≡ Some (record { at = 33; rule = WrongDecision })
unfolding judging
row264 = refl

row269 : fault_from 0 (start (record { words = (codes "diskRun=1") ∷ text0 ∷ text1 ∷ []; faults = 1 } ∷ [])) (front1 ++ Began (Write text8 8192 ((1 ∷ []))) ∷ Did (Write text8 8192 ((1 ∷ []))) false ∷ Noted (Gone (codes "http://h/a")) ∷ Began (Remove text8) ∷ []) ≡ Some (record { at = 34; rule = WrongDiskOperation })
unfolding judging
row269 = refl

row275 : fault_from 0 (start (record { words = (codes "diskRun=1") ∷ text0 ∷ text1 ∷ []; faults = 1 } ∷ [])) (front1 ++ Began (Write text8 8192 ((1 ∷ []))) ∷ Did (Write text8 8192 ((1 ∷ []))) false ∷ Noted (Gone (codes "http://h/a")) ∷ Noted (Taken 1 0 (Hit 0 5)) ∷ wait true (1 ∷ 2 ∷ []) (1 ∷ []) ∷ CanWrite 1 ∷ Said 1 154 text6 ∷ wait true (1 ∷ 2 ∷ []) (1 ∷ []) ∷ CanWrite 1 ∷ Said 1 5 (codes "hello") ∷ wait true (1 ∷ 2 ∷ []) [] ∷ CanRead 1 ∷ Heard 1 text11 ∷ Noted (Taken 1 1 Fetch) ∷ Undialled (codes "i") 80 ∷ []) ≡ Some (record { at = 45; rule = FailureMadeUp })
unfolding judging
row275 = refl

row288 : fault_from 0 (start (record { words = (codes "diskRun=1") ∷ text0 ∷ text1 ∷ []; faults = 0 } ∷ [])) (front1 ++ Began (Write text8 8192 ((1 ∷ []))) ∷ Did (Write text8 8192 ((1 ∷ []))) false ∷ []) ≡ Some (record { at = 32; rule = FailureMadeUp })
unfolding judging
row288 = refl

row302 : fault_from 0 (start (record { words = (codes "diskRun=1") ∷ text0 ∷ text1 ∷ []; faults = 0 } ∷ [])) (front2 ++ Got 4 text13 ∷ Noted (Gone (codes "http://h/a")) ∷ Began (Remove text8) ∷ Did (Remove text8) true ∷ Noted (Taken 3 0 (Hit 0 6)) ∷ wait true (1 ∷ 3 ∷ 4 ∷ []) (3 ∷ []) ∷ CanWrite 3 ∷ Said 3 154 text14 ∷ wait true (1 ∷ 3 ∷ 4 ∷ []) (3 ∷ []) ∷ CanWrite 3 ∷ Said 3 6 (codes "hello!") ∷ wait true (1 ∷ 3 ∷ 4 ∷ []) [] ∷ []) ≡ None
unfolding judging
row302 = refl

row316 : fault_from 0 (start (record { words = (codes "diskRun=1") ∷ text0 ∷ text1 ∷ []; faults = 0 } ∷ [])) (front2 ++ Got 4 text13 ∷ Began (Remove text8) ∷ []) ≡ Some (record { at = 61; rule = WrongDiskOperation })
unfolding judging
row316 = refl

row321 : fault_from 0 (start (record { words = (codes "diskRun=1") ∷ text0 ∷ text1 ∷ []; faults = 0 } ∷ [])) (front2 ++ Got 4 text13 ∷ Noted (Gone (codes "http://h/a")) ∷ Noted (Taken 3 0 (Hit 0 6)) ∷ []) ≡ Some (record { at = 62; rule = WrongDecision })
unfolding judging
row321 = refl

row327 : fault_from 0 (start (record { words = (codes "diskRun=1") ∷ text0 ∷ text1 ∷ []; faults = 0 } ∷ [])) (front2 ++ Got 4 text13 ∷ Noted (Taken 3 0 (Hit 0 6)) ∷ []) ≡ Some (record { at = 61; rule = WrongDecision })
unfolding judging
row327 = refl

row332 : fault_from 0 (start (record { words = (codes "diskRun=1") ∷ text0 ∷ text1 ∷ []; faults = 0 } ∷ [])) (front2 ++ Got 4 text13 ∷ Noted (Gone (codes "http://h/a")) ∷ Began (Remove text8) ∷ Did (Remove text8) true ∷ Noted (Gone (codes "http://h/a")) ∷ []) ≡ Some (record { at = 64; rule = NotGone })
unfolding judging
row332 = refl

row340 : fault_from 0 (start (record { words = (codes "diskRun=1") ∷ text0 ∷ text1 ∷ []; faults = 0 } ∷ [])) (front2 ++ Got 4 text13 ∷ Noted (Gone (codes "http://h/a")) ∷ Began (Remove text8) ∷ Did (Remove text8) true ∷ Noted (Taken 3 0 (Hit 0 5)) ∷ []) ≡ Some (record { at = 64; rule = WrongDecision })
unfolding judging
row340 = refl

row348 : fault_from 0 (start (record { words = (codes "diskRun=1") ∷ text0 ∷ text1 ∷ []; faults = 0 } ∷ [])) (front2 ++ Got 4 text13 ∷ Noted (Gone (codes "http://h/a")) ∷ Began (Remove text8) ∷ Did (Remove text8) true ∷ Noted (Taken 3 0 (Hit 0 6)) ∷ wait true (1 ∷ 3 ∷ 4 ∷ []) (3 ∷ []) ∷ CanWrite 3 ∷ Said 3 154 text6 ∷ []) ≡ Some (record { at = 67; rule = WrongReply })
unfolding judging
row348 = refl

row359 : fault_from 0 (start (record { words = (codes "diskRun=1") ∷ text0 ∷ text1 ∷ []; faults = 0 } ∷ [])) (front2 ++ Got 4 text13 ∷ Noted (Gone (codes "http://h/a")) ∷ Began (Remove text8) ∷ Did (Remove text8) true ∷ Began (Draft text7) ∷ []) ≡ Some (record { at = 64; rule = WrongDiskOperation })
unfolding judging
row359 = refl

row371 : fault_from 0 (start (record { words = (codes "diskRun=1") ∷ text0 ∷ text1 ∷ []; faults = 0 } ∷ [])) (front3 ++ Clock 784111778 ∷ Noted (Gone (codes "http://h/a")) ∷ []) ≡ Some (record { at = 45; rule = NotGone })
unfolding judging
row371 = refl

row376 : fault_from 0 (start (record { words = (codes "diskRun=1") ∷ text0 ∷ text1 ∷ []; faults = 0 } ∷ [])) (front3 ++ Clock 784111778 ∷ Noted (Gone (codes "http://h/b")) ∷ []) ≡ Some (record { at = 45; rule = NotGone })
unfolding judging
row376 = refl

row381 : fault_from 0 (start (record { words = (codes "diskRun=1") ∷ text0 ∷ text1 ∷ []; faults = 0 } ∷ [])) (front3 ++ Clock 784111778 ∷ Noted (Loaded (codes "http://h/a") (codes "\"x\"") 5 0) ∷ []) ≡ Some (record { at = 45; rule = NotToBeLoaded })
unfolding judging
row381 = refl

row386 : fault_from 0 (start (record { words = (codes "diskRun=1") ∷ text0 ∷ text1 ∷ []; faults = 0 } ∷ [])) (front3 ++ Clock 784111778 ∷ Noted (Evicted (codes "http://h/a") (codes "\"x\"") 5 0) ∷ []) ≡ Some (record { at = 45; rule = NotToBeEvicted })
unfolding judging
row386 = refl

row391 : fault_from 0 (start (record { words = (codes "diskRun=1") ∷ text0 ∷ text1 ∷ []; faults = 0 } ∷ [])) (front3 ++ Clock 784111778 ∷ Noted (Forgotten (codes "http://h/a")) ∷ []) ≡ Some (record { at = 45; rule = NotToBeForgotten })
unfolding judging
row391 = refl

row396 : fault_from 0 (start (record { words = (codes "diskRun=1") ∷ text0 ∷ text1 ∷ []; faults = 0 } ∷ [])) (front3 ++ CanRead 1 ∷ Heard 1 text3 ∷ Noted (Forgotten (codes "http://h/a")) ∷ []) ≡ Some (record { at = 46; rule = NotToBeForgotten })
unfolding judging
row396 = refl
