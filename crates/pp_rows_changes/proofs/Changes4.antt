-- The verdicts of transcripts/changes.log, written by transcripts/make_rows.
use Rattle.std.proofs.Common.{◌≡◌, refl, ℕ, List, [], ◌∷◌, ◌++◌, true, false, Bool, Option, None, Some, codes}
use Rattle.std.specs.Prelude.{replicate, is_some}
use Rattle.pp_world.specs.Log.{Log}
use Rattle.pp_world.specs.declared.happening.Happening.{Happening}
use Rattle.pp_world.specs.declared.happening.Happening.TheVariants.{Woke, Waits, Clock, Opened, CanRead, CanWrite, Heard, HungUp, Said, Shut, Dialled, Undialled, Reached, Ended, Broke, Asked, Got, Dropped, NoneYet, Began, Did, Unread, Noted, Rooted, Listed, Listens, Configured, Printed, Stopped}
use Rattle.pp_world.specs.declared.note.Decision.TheVariants.{Refuse, Hit, Part, Head, NotModified, Unsatisfiable, Relay, Validate, Fetch, Pass}
use Rattle.pp_world.specs.declared.note.Cause.TheVariants.{Superseded, Origin, Short, Idle, Memory, Stop}
use Rattle.pp_world.specs.declared.note.Remark.TheVariants.{Taken, Cut, Kept, Gone, Forgotten, Evicted, Loaded}
use Rattle.pp_world.specs.declared.op.DiskOp.TheVariants.{Draft, SyncDraft, Publish, Write, Sync, Remove}
use Rattle.pp_law.specs.Lists.{Bytes}
use Rattle.pp_law.specs.State.{State, start}
use Rattle.pp_law.specs.Lawful.{fault_from, Fault, ImageNotLeft, OpeningOutOfOrder, EventOutOfTurn, ReadNotAskedFor, FailureMadeUp, WrongReply, WrongAsk, WrongDecision, WrongCut, NotToBeClosed, NotToBeDialled, NotToBeEvicted, NotToBeForgotten, NotToBeLoaded, NotSealed, NotGone, WrongDiskOperation, StepUnfinished, AcceptsWrongly, ClientForgotten, ConnectionForgotten, ExchangeForgotten, WantsTooMuch}
use Rattle.pp_pieces.proofs.Forced.{judge, arrived, judging, told, tell}

abbrev wait : Bool → List ℕ → List ℕ → Happening
wait accept read write = Waits (record { accept = accept; read = record { items = read }; write = record { items = write } })

abbrev text0 : Bytes
text0 = (codes "pipelineAsks=1")

abbrev text1 : Bytes
text1 = (codes "hostConnections=4")

abbrev text2 : Bytes
text2 = (codes "polipo-cache")

abbrev text3 : Bytes
text3 = (codes "GET http://h/a HTTP/1.1\r\nHost: h\r\n\r\n")

abbrev text4 : Bytes
text4 = (codes "GET /a HTTP/1.1\r\nhost: h\r\nvia: 1.1 polipo\r\n\r\n")

abbrev text5 : Bytes
text5 = (codes "HTTP/1.1 200 OK\r\nDate: Sun, 06 Nov 1994 08:49:37 GMT\r\nETag: \"x\"\r\nCache-Control: max-age=60\r\nContent-Length: 5\r\n\r\nhello")

abbrev text6 : Bytes
text6 = (codes "HTTP/1.1 200 OK\r\netag: \"x\"\r\ndate: Sun, 06 Nov 1994 08:49:37 GMT\r\ncache-control: max-age=60\r\nX-Polipo-Location: http://h/a\r\nX-Polipo-Date: 784111777\r\nX-Polipo-Age: 0\r\nX-Polipo-Length: 5\r\nX-Polipo-Body-Offset: 12288\r\n\r\n" ++ replicate 12071 0)

abbrev text7 : Bytes
text7 = (codes "2ce7276502725c281e6d5ae4e55aed55")

abbrev text8 : Bytes
text8 = (codes "HTTP/1.1 200 OK\r\netag: \"x\"\r\ndate: Sun, 06 Nov 1994 08:49:37 GMT\r\ncache-control: max-age=60\r\nvia: 1.1 polipo\r\ncontent-length: 5\r\nconnection: keep-alive\r\n\r\n")

abbrev text9 : Bytes
text9 = (codes "GET http://h/a HTTP/1.1\r\nHost: h\r\nCache-Control: no-store\r\n\r\n")

abbrev text10 : Bytes
text10 = (codes "GET /a HTTP/1.1\r\nhost: h\r\ncache-control: no-store\r\nvia: 1.1 polipo\r\n\r\n")

abbrev text11 : Bytes
text11 = (codes "HTTP/1.1 200 OK\r\nContent-Length: 10\r\n\r\nhello")

abbrev text12 : Bytes
text12 = (codes "HTTP/1.1 200 OK\r\nvia: 1.1 polipo\r\ncontent-length: 10\r\nconnection: keep-alive\r\n\r\n")

row16swapped18 : is_some (fault_from 0 (start (record { words = (codes "diskRun=1") ∷ text0 ∷ text1 ∷ []; faults = 0 } ∷ record { words = (codes "diskRun=1") ∷ text0 ∷ text1 ∷ []; faults = 0 } ∷ [])) (Woke [] ∷ Rooted text2 ∷ Listed true ∷ Listens 8123 true ∷ wait true [] [] ∷ Clock 784111777 ∷ wait true [] [] ∷ Opened 1 ∷ wait true (1 ∷ []) [] ∷ CanRead 1 ∷ Heard 1 text3 ∷ Noted (Taken 1 0 Fetch) ∷ Dialled 2 (codes "h") 80 ∷ wait true (1 ∷ []) [] ∷ Reached 2 ∷ wait true (1 ∷ 2 ∷ []) (2 ∷ []) ∷ CanWrite 2 ∷ Asked 2 text4 ∷ CanRead 2 ∷ wait true (1 ∷ 2 ∷ []) [] ∷ Got 2 text5 ∷ Began (Draft text6) ∷ Did (Draft text6) true ∷ Began SyncDraft ∷ Did SyncDraft true ∷ Began (Publish text7) ∷ Did (Publish text7) true ∷ Began (Write text7 12288 (codes "hello")) ∷ Did (Write text7 12288 (codes "hello")) true ∷ Began (Sync text7) ∷ Did (Sync text7) true ∷ Began (Write text7 8192 ((1 ∷ []))) ∷ Did (Write text7 8192 ((1 ∷ []))) true ∷ Began (Sync text7) ∷ Did (Sync text7) true ∷ Noted (Kept (codes "http://h/a") (codes "\"x\"") 5 5) ∷ Noted (Taken 1 0 (Hit 0 5)) ∷ wait true (1 ∷ 2 ∷ []) (1 ∷ []) ∷ CanWrite 1 ∷ Said 1 154 text8 ∷ wait true (1 ∷ 2 ∷ []) (1 ∷ []) ∷ CanWrite 1 ∷ Said 1 5 (codes "hello") ∷ wait true (1 ∷ 2 ∷ []) [] ∷ [])) ≡ true
unfolding judging
row16swapped18 = refl

row16swapped19 : is_some (fault_from 0 (start (record { words = (codes "diskRun=1") ∷ text0 ∷ text1 ∷ []; faults = 0 } ∷ record { words = (codes "diskRun=1") ∷ text0 ∷ text1 ∷ []; faults = 0 } ∷ [])) (Woke [] ∷ Rooted text2 ∷ Listed true ∷ Listens 8123 true ∷ wait true [] [] ∷ Clock 784111777 ∷ wait true [] [] ∷ Opened 1 ∷ wait true (1 ∷ []) [] ∷ CanRead 1 ∷ Heard 1 text3 ∷ Noted (Taken 1 0 Fetch) ∷ Dialled 2 (codes "h") 80 ∷ wait true (1 ∷ []) [] ∷ Reached 2 ∷ wait true (1 ∷ 2 ∷ []) (2 ∷ []) ∷ CanWrite 2 ∷ Asked 2 text4 ∷ wait true (1 ∷ 2 ∷ []) [] ∷ Got 2 text5 ∷ CanRead 2 ∷ Began (Draft text6) ∷ Did (Draft text6) true ∷ Began SyncDraft ∷ Did SyncDraft true ∷ Began (Publish text7) ∷ Did (Publish text7) true ∷ Began (Write text7 12288 (codes "hello")) ∷ Did (Write text7 12288 (codes "hello")) true ∷ Began (Sync text7) ∷ Did (Sync text7) true ∷ Began (Write text7 8192 ((1 ∷ []))) ∷ Did (Write text7 8192 ((1 ∷ []))) true ∷ Began (Sync text7) ∷ Did (Sync text7) true ∷ Noted (Kept (codes "http://h/a") (codes "\"x\"") 5 5) ∷ Noted (Taken 1 0 (Hit 0 5)) ∷ wait true (1 ∷ 2 ∷ []) (1 ∷ []) ∷ CanWrite 1 ∷ Said 1 154 text8 ∷ wait true (1 ∷ 2 ∷ []) (1 ∷ []) ∷ CanWrite 1 ∷ Said 1 5 (codes "hello") ∷ wait true (1 ∷ 2 ∷ []) [] ∷ [])) ≡ true
unfolding judging
row16swapped19 = refl

row16swapped20 : is_some (fault_from 0 (start (record { words = (codes "diskRun=1") ∷ text0 ∷ text1 ∷ []; faults = 0 } ∷ record { words = (codes "diskRun=1") ∷ text0 ∷ text1 ∷ []; faults = 0 } ∷ [])) (Woke [] ∷ Rooted text2 ∷ Listed true ∷ Listens 8123 true ∷ wait true [] [] ∷ Clock 784111777 ∷ wait true [] [] ∷ Opened 1 ∷ wait true (1 ∷ []) [] ∷ CanRead 1 ∷ Heard 1 text3 ∷ Noted (Taken 1 0 Fetch) ∷ Dialled 2 (codes "h") 80 ∷ wait true (1 ∷ []) [] ∷ Reached 2 ∷ wait true (1 ∷ 2 ∷ []) (2 ∷ []) ∷ CanWrite 2 ∷ Asked 2 text4 ∷ wait true (1 ∷ 2 ∷ []) [] ∷ CanRead 2 ∷ Began (Draft text6) ∷ Got 2 text5 ∷ Did (Draft text6) true ∷ Began SyncDraft ∷ Did SyncDraft true ∷ Began (Publish text7) ∷ Did (Publish text7) true ∷ Began (Write text7 12288 (codes "hello")) ∷ Did (Write text7 12288 (codes "hello")) true ∷ Began (Sync text7) ∷ Did (Sync text7) true ∷ Began (Write text7 8192 ((1 ∷ []))) ∷ Did (Write text7 8192 ((1 ∷ []))) true ∷ Began (Sync text7) ∷ Did (Sync text7) true ∷ Noted (Kept (codes "http://h/a") (codes "\"x\"") 5 5) ∷ Noted (Taken 1 0 (Hit 0 5)) ∷ wait true (1 ∷ 2 ∷ []) (1 ∷ []) ∷ CanWrite 1 ∷ Said 1 154 text8 ∷ wait true (1 ∷ 2 ∷ []) (1 ∷ []) ∷ CanWrite 1 ∷ Said 1 5 (codes "hello") ∷ wait true (1 ∷ 2 ∷ []) [] ∷ [])) ≡ true
unfolding judging
row16swapped20 = refl

row16swapped21 : is_some (fault_from 0 (start (record { words = (codes "diskRun=1") ∷ text0 ∷ text1 ∷ []; faults = 0 } ∷ record { words = (codes "diskRun=1") ∷ text0 ∷ text1 ∷ []; faults = 0 } ∷ [])) (Woke [] ∷ Rooted text2 ∷ Listed true ∷ Listens 8123 true ∷ wait true [] [] ∷ Clock 784111777 ∷ wait true [] [] ∷ Opened 1 ∷ wait true (1 ∷ []) [] ∷ CanRead 1 ∷ Heard 1 text3 ∷ Noted (Taken 1 0 Fetch) ∷ Dialled 2 (codes "h") 80 ∷ wait true (1 ∷ []) [] ∷ Reached 2 ∷ wait true (1 ∷ 2 ∷ []) (2 ∷ []) ∷ CanWrite 2 ∷ Asked 2 text4 ∷ wait true (1 ∷ 2 ∷ []) [] ∷ CanRead 2 ∷ Got 2 text5 ∷ Did (Draft text6) true ∷ Began (Draft text6) ∷ Began SyncDraft ∷ Did SyncDraft true ∷ Began (Publish text7) ∷ Did (Publish text7) true ∷ Began (Write text7 12288 (codes "hello")) ∷ Did (Write text7 12288 (codes "hello")) true ∷ Began (Sync text7) ∷ Did (Sync text7) true ∷ Began (Write text7 8192 ((1 ∷ []))) ∷ Did (Write text7 8192 ((1 ∷ []))) true ∷ Began (Sync text7) ∷ Did (Sync text7) true ∷ Noted (Kept (codes "http://h/a") (codes "\"x\"") 5 5) ∷ Noted (Taken 1 0 (Hit 0 5)) ∷ wait true (1 ∷ 2 ∷ []) (1 ∷ []) ∷ CanWrite 1 ∷ Said 1 154 text8 ∷ wait true (1 ∷ 2 ∷ []) (1 ∷ []) ∷ CanWrite 1 ∷ Said 1 5 (codes "hello") ∷ wait true (1 ∷ 2 ∷ []) [] ∷ [])) ≡ true
unfolding judging
row16swapped21 = refl

row16swapped22 : is_some (fault_from 0 (start (record { words = (codes "diskRun=1") ∷ text0 ∷ text1 ∷ []; faults = 0 } ∷ record { words = (codes "diskRun=1") ∷ text0 ∷ text1 ∷ []; faults = 0 } ∷ [])) (Woke [] ∷ Rooted text2 ∷ Listed true ∷ Listens 8123 true ∷ wait true [] [] ∷ Clock 784111777 ∷ wait true [] [] ∷ Opened 1 ∷ wait true (1 ∷ []) [] ∷ CanRead 1 ∷ Heard 1 text3 ∷ Noted (Taken 1 0 Fetch) ∷ Dialled 2 (codes "h") 80 ∷ wait true (1 ∷ []) [] ∷ Reached 2 ∷ wait true (1 ∷ 2 ∷ []) (2 ∷ []) ∷ CanWrite 2 ∷ Asked 2 text4 ∷ wait true (1 ∷ 2 ∷ []) [] ∷ CanRead 2 ∷ Got 2 text5 ∷ Began (Draft text6) ∷ Began SyncDraft ∷ Did (Draft text6) true ∷ Did SyncDraft true ∷ Began (Publish text7) ∷ Did (Publish text7) true ∷ Began (Write text7 12288 (codes "hello")) ∷ Did (Write text7 12288 (codes "hello")) true ∷ Began (Sync text7) ∷ Did (Sync text7) true ∷ Began (Write text7 8192 ((1 ∷ []))) ∷ Did (Write text7 8192 ((1 ∷ []))) true ∷ Began (Sync text7) ∷ Did (Sync text7) true ∷ Noted (Kept (codes "http://h/a") (codes "\"x\"") 5 5) ∷ Noted (Taken 1 0 (Hit 0 5)) ∷ wait true (1 ∷ 2 ∷ []) (1 ∷ []) ∷ CanWrite 1 ∷ Said 1 154 text8 ∷ wait true (1 ∷ 2 ∷ []) (1 ∷ []) ∷ CanWrite 1 ∷ Said 1 5 (codes "hello") ∷ wait true (1 ∷ 2 ∷ []) [] ∷ [])) ≡ true
unfolding judging
row16swapped22 = refl

row16swapped23 : is_some (fault_from 0 (start (record { words = (codes "diskRun=1") ∷ text0 ∷ text1 ∷ []; faults = 0 } ∷ record { words = (codes "diskRun=1") ∷ text0 ∷ text1 ∷ []; faults = 0 } ∷ [])) (Woke [] ∷ Rooted text2 ∷ Listed true ∷ Listens 8123 true ∷ wait true [] [] ∷ Clock 784111777 ∷ wait true [] [] ∷ Opened 1 ∷ wait true (1 ∷ []) [] ∷ CanRead 1 ∷ Heard 1 text3 ∷ Noted (Taken 1 0 Fetch) ∷ Dialled 2 (codes "h") 80 ∷ wait true (1 ∷ []) [] ∷ Reached 2 ∷ wait true (1 ∷ 2 ∷ []) (2 ∷ []) ∷ CanWrite 2 ∷ Asked 2 text4 ∷ wait true (1 ∷ 2 ∷ []) [] ∷ CanRead 2 ∷ Got 2 text5 ∷ Began (Draft text6) ∷ Did (Draft text6) true ∷ Did SyncDraft true ∷ Began SyncDraft ∷ Began (Publish text7) ∷ Did (Publish text7) true ∷ Began (Write text7 12288 (codes "hello")) ∷ Did (Write text7 12288 (codes "hello")) true ∷ Began (Sync text7) ∷ Did (Sync text7) true ∷ Began (Write text7 8192 ((1 ∷ []))) ∷ Did (Write text7 8192 ((1 ∷ []))) true ∷ Began (Sync text7) ∷ Did (Sync text7) true ∷ Noted (Kept (codes "http://h/a") (codes "\"x\"") 5 5) ∷ Noted (Taken 1 0 (Hit 0 5)) ∷ wait true (1 ∷ 2 ∷ []) (1 ∷ []) ∷ CanWrite 1 ∷ Said 1 154 text8 ∷ wait true (1 ∷ 2 ∷ []) (1 ∷ []) ∷ CanWrite 1 ∷ Said 1 5 (codes "hello") ∷ wait true (1 ∷ 2 ∷ []) [] ∷ [])) ≡ true
unfolding judging
row16swapped23 = refl

row16swapped24 : is_some (fault_from 0 (start (record { words = (codes "diskRun=1") ∷ text0 ∷ text1 ∷ []; faults = 0 } ∷ record { words = (codes "diskRun=1") ∷ text0 ∷ text1 ∷ []; faults = 0 } ∷ [])) (Woke [] ∷ Rooted text2 ∷ Listed true ∷ Listens 8123 true ∷ wait true [] [] ∷ Clock 784111777 ∷ wait true [] [] ∷ Opened 1 ∷ wait true (1 ∷ []) [] ∷ CanRead 1 ∷ Heard 1 text3 ∷ Noted (Taken 1 0 Fetch) ∷ Dialled 2 (codes "h") 80 ∷ wait true (1 ∷ []) [] ∷ Reached 2 ∷ wait true (1 ∷ 2 ∷ []) (2 ∷ []) ∷ CanWrite 2 ∷ Asked 2 text4 ∷ wait true (1 ∷ 2 ∷ []) [] ∷ CanRead 2 ∷ Got 2 text5 ∷ Began (Draft text6) ∷ Did (Draft text6) true ∷ Began SyncDraft ∷ Began (Publish text7) ∷ Did SyncDraft true ∷ Did (Publish text7) true ∷ Began (Write text7 12288 (codes "hello")) ∷ Did (Write text7 12288 (codes "hello")) true ∷ Began (Sync text7) ∷ Did (Sync text7) true ∷ Began (Write text7 8192 ((1 ∷ []))) ∷ Did (Write text7 8192 ((1 ∷ []))) true ∷ Began (Sync text7) ∷ Did (Sync text7) true ∷ Noted (Kept (codes "http://h/a") (codes "\"x\"") 5 5) ∷ Noted (Taken 1 0 (Hit 0 5)) ∷ wait true (1 ∷ 2 ∷ []) (1 ∷ []) ∷ CanWrite 1 ∷ Said 1 154 text8 ∷ wait true (1 ∷ 2 ∷ []) (1 ∷ []) ∷ CanWrite 1 ∷ Said 1 5 (codes "hello") ∷ wait true (1 ∷ 2 ∷ []) [] ∷ [])) ≡ true
unfolding judging
row16swapped24 = refl

row16swapped25 : is_some (fault_from 0 (start (record { words = (codes "diskRun=1") ∷ text0 ∷ text1 ∷ []; faults = 0 } ∷ record { words = (codes "diskRun=1") ∷ text0 ∷ text1 ∷ []; faults = 0 } ∷ [])) (Woke [] ∷ Rooted text2 ∷ Listed true ∷ Listens 8123 true ∷ wait true [] [] ∷ Clock 784111777 ∷ wait true [] [] ∷ Opened 1 ∷ wait true (1 ∷ []) [] ∷ CanRead 1 ∷ Heard 1 text3 ∷ Noted (Taken 1 0 Fetch) ∷ Dialled 2 (codes "h") 80 ∷ wait true (1 ∷ []) [] ∷ Reached 2 ∷ wait true (1 ∷ 2 ∷ []) (2 ∷ []) ∷ CanWrite 2 ∷ Asked 2 text4 ∷ wait true (1 ∷ 2 ∷ []) [] ∷ CanRead 2 ∷ Got 2 text5 ∷ Began (Draft text6) ∷ Did (Draft text6) true ∷ Began SyncDraft ∷ Did SyncDraft true ∷ Did (Publish text7) true ∷ Began (Publish text7) ∷ Began (Write text7 12288 (codes "hello")) ∷ Did (Write text7 12288 (codes "hello")) true ∷ Began (Sync text7) ∷ Did (Sync text7) true ∷ Began (Write text7 8192 ((1 ∷ []))) ∷ Did (Write text7 8192 ((1 ∷ []))) true ∷ Began (Sync text7) ∷ Did (Sync text7) true ∷ Noted (Kept (codes "http://h/a") (codes "\"x\"") 5 5) ∷ Noted (Taken 1 0 (Hit 0 5)) ∷ wait true (1 ∷ 2 ∷ []) (1 ∷ []) ∷ CanWrite 1 ∷ Said 1 154 text8 ∷ wait true (1 ∷ 2 ∷ []) (1 ∷ []) ∷ CanWrite 1 ∷ Said 1 5 (codes "hello") ∷ wait true (1 ∷ 2 ∷ []) [] ∷ [])) ≡ true
unfolding judging
row16swapped25 = refl

row16swapped26 : is_some (fault_from 0 (start (record { words = (codes "diskRun=1") ∷ text0 ∷ text1 ∷ []; faults = 0 } ∷ record { words = (codes "diskRun=1") ∷ text0 ∷ text1 ∷ []; faults = 0 } ∷ [])) (Woke [] ∷ Rooted text2 ∷ Listed true ∷ Listens 8123 true ∷ wait true [] [] ∷ Clock 784111777 ∷ wait true [] [] ∷ Opened 1 ∷ wait true (1 ∷ []) [] ∷ CanRead 1 ∷ Heard 1 text3 ∷ Noted (Taken 1 0 Fetch) ∷ Dialled 2 (codes "h") 80 ∷ wait true (1 ∷ []) [] ∷ Reached 2 ∷ wait true (1 ∷ 2 ∷ []) (2 ∷ []) ∷ CanWrite 2 ∷ Asked 2 text4 ∷ wait true (1 ∷ 2 ∷ []) [] ∷ CanRead 2 ∷ Got 2 text5 ∷ Began (Draft text6) ∷ Did (Draft text6) true ∷ Began SyncDraft ∷ Did SyncDraft true ∷ Began (Publish text7) ∷ Began (Write text7 12288 (codes "hello")) ∷ Did (Publish text7) true ∷ Did (Write text7 12288 (codes "hello")) true ∷ Began (Sync text7) ∷ Did (Sync text7) true ∷ Began (Write text7 8192 ((1 ∷ []))) ∷ Did (Write text7 8192 ((1 ∷ []))) true ∷ Began (Sync text7) ∷ Did (Sync text7) true ∷ Noted (Kept (codes "http://h/a") (codes "\"x\"") 5 5) ∷ Noted (Taken 1 0 (Hit 0 5)) ∷ wait true (1 ∷ 2 ∷ []) (1 ∷ []) ∷ CanWrite 1 ∷ Said 1 154 text8 ∷ wait true (1 ∷ 2 ∷ []) (1 ∷ []) ∷ CanWrite 1 ∷ Said 1 5 (codes "hello") ∷ wait true (1 ∷ 2 ∷ []) [] ∷ [])) ≡ true
unfolding judging
row16swapped26 = refl

row16swapped27 : is_some (fault_from 0 (start (record { words = (codes "diskRun=1") ∷ text0 ∷ text1 ∷ []; faults = 0 } ∷ record { words = (codes "diskRun=1") ∷ text0 ∷ text1 ∷ []; faults = 0 } ∷ [])) (Woke [] ∷ Rooted text2 ∷ Listed true ∷ Listens 8123 true ∷ wait true [] [] ∷ Clock 784111777 ∷ wait true [] [] ∷ Opened 1 ∷ wait true (1 ∷ []) [] ∷ CanRead 1 ∷ Heard 1 text3 ∷ Noted (Taken 1 0 Fetch) ∷ Dialled 2 (codes "h") 80 ∷ wait true (1 ∷ []) [] ∷ Reached 2 ∷ wait true (1 ∷ 2 ∷ []) (2 ∷ []) ∷ CanWrite 2 ∷ Asked 2 text4 ∷ wait true (1 ∷ 2 ∷ []) [] ∷ CanRead 2 ∷ Got 2 text5 ∷ Began (Draft text6) ∷ Did (Draft text6) true ∷ Began SyncDraft ∷ Did SyncDraft true ∷ Began (Publish text7) ∷ Did (Publish text7) true ∷ Did (Write text7 12288 (codes "hello")) true ∷ Began (Write text7 12288 (codes "hello")) ∷ Began (Sync text7) ∷ Did (Sync text7) true ∷ Began (Write text7 8192 ((1 ∷ []))) ∷ Did (Write text7 8192 ((1 ∷ []))) true ∷ Began (Sync text7) ∷ Did (Sync text7) true ∷ Noted (Kept (codes "http://h/a") (codes "\"x\"") 5 5) ∷ Noted (Taken 1 0 (Hit 0 5)) ∷ wait true (1 ∷ 2 ∷ []) (1 ∷ []) ∷ CanWrite 1 ∷ Said 1 154 text8 ∷ wait true (1 ∷ 2 ∷ []) (1 ∷ []) ∷ CanWrite 1 ∷ Said 1 5 (codes "hello") ∷ wait true (1 ∷ 2 ∷ []) [] ∷ [])) ≡ true
unfolding judging
row16swapped27 = refl

row16swapped28 : is_some (fault_from 0 (start (record { words = (codes "diskRun=1") ∷ text0 ∷ text1 ∷ []; faults = 0 } ∷ record { words = (codes "diskRun=1") ∷ text0 ∷ text1 ∷ []; faults = 0 } ∷ [])) (Woke [] ∷ Rooted text2 ∷ Listed true ∷ Listens 8123 true ∷ wait true [] [] ∷ Clock 784111777 ∷ wait true [] [] ∷ Opened 1 ∷ wait true (1 ∷ []) [] ∷ CanRead 1 ∷ Heard 1 text3 ∷ Noted (Taken 1 0 Fetch) ∷ Dialled 2 (codes "h") 80 ∷ wait true (1 ∷ []) [] ∷ Reached 2 ∷ wait true (1 ∷ 2 ∷ []) (2 ∷ []) ∷ CanWrite 2 ∷ Asked 2 text4 ∷ wait true (1 ∷ 2 ∷ []) [] ∷ CanRead 2 ∷ Got 2 text5 ∷ Began (Draft text6) ∷ Did (Draft text6) true ∷ Began SyncDraft ∷ Did SyncDraft true ∷ Began (Publish text7) ∷ Did (Publish text7) true ∷ Began (Write text7 12288 (codes "hello")) ∷ Began (Sync text7) ∷ Did (Write text7 12288 (codes "hello")) true ∷ Did (Sync text7) true ∷ Began (Write text7 8192 ((1 ∷ []))) ∷ Did (Write text7 8192 ((1 ∷ []))) true ∷ Began (Sync text7) ∷ Did (Sync text7) true ∷ Noted (Kept (codes "http://h/a") (codes "\"x\"") 5 5) ∷ Noted (Taken 1 0 (Hit 0 5)) ∷ wait true (1 ∷ 2 ∷ []) (1 ∷ []) ∷ CanWrite 1 ∷ Said 1 154 text8 ∷ wait true (1 ∷ 2 ∷ []) (1 ∷ []) ∷ CanWrite 1 ∷ Said 1 5 (codes "hello") ∷ wait true (1 ∷ 2 ∷ []) [] ∷ [])) ≡ true
unfolding judging
row16swapped28 = refl

row16swapped29 : is_some (fault_from 0 (start (record { words = (codes "diskRun=1") ∷ text0 ∷ text1 ∷ []; faults = 0 } ∷ record { words = (codes "diskRun=1") ∷ text0 ∷ text1 ∷ []; faults = 0 } ∷ [])) (Woke [] ∷ Rooted text2 ∷ Listed true ∷ Listens 8123 true ∷ wait true [] [] ∷ Clock 784111777 ∷ wait true [] [] ∷ Opened 1 ∷ wait true (1 ∷ []) [] ∷ CanRead 1 ∷ Heard 1 text3 ∷ Noted (Taken 1 0 Fetch) ∷ Dialled 2 (codes "h") 80 ∷ wait true (1 ∷ []) [] ∷ Reached 2 ∷ wait true (1 ∷ 2 ∷ []) (2 ∷ []) ∷ CanWrite 2 ∷ Asked 2 text4 ∷ wait true (1 ∷ 2 ∷ []) [] ∷ CanRead 2 ∷ Got 2 text5 ∷ Began (Draft text6) ∷ Did (Draft text6) true ∷ Began SyncDraft ∷ Did SyncDraft true ∷ Began (Publish text7) ∷ Did (Publish text7) true ∷ Began (Write text7 12288 (codes "hello")) ∷ Did (Write text7 12288 (codes "hello")) true ∷ Did (Sync text7) true ∷ Began (Sync text7) ∷ Began (Write text7 8192 ((1 ∷ []))) ∷ Did (Write text7 8192 ((1 ∷ []))) true ∷ Began (Sync text7) ∷ Did (Sync text7) true ∷ Noted (Kept (codes "http://h/a") (codes "\"x\"") 5 5) ∷ Noted (Taken 1 0 (Hit 0 5)) ∷ wait true (1 ∷ 2 ∷ []) (1 ∷ []) ∷ CanWrite 1 ∷ Said 1 154 text8 ∷ wait true (1 ∷ 2 ∷ []) (1 ∷ []) ∷ CanWrite 1 ∷ Said 1 5 (codes "hello") ∷ wait true (1 ∷ 2 ∷ []) [] ∷ [])) ≡ true
unfolding judging
row16swapped29 = refl

row16swapped30 : is_some (fault_from 0 (start (record { words = (codes "diskRun=1") ∷ text0 ∷ text1 ∷ []; faults = 0 } ∷ record { words = (codes "diskRun=1") ∷ text0 ∷ text1 ∷ []; faults = 0 } ∷ [])) (Woke [] ∷ Rooted text2 ∷ Listed true ∷ Listens 8123 true ∷ wait true [] [] ∷ Clock 784111777 ∷ wait true [] [] ∷ Opened 1 ∷ wait true (1 ∷ []) [] ∷ CanRead 1 ∷ Heard 1 text3 ∷ Noted (Taken 1 0 Fetch) ∷ Dialled 2 (codes "h") 80 ∷ wait true (1 ∷ []) [] ∷ Reached 2 ∷ wait true (1 ∷ 2 ∷ []) (2 ∷ []) ∷ CanWrite 2 ∷ Asked 2 text4 ∷ wait true (1 ∷ 2 ∷ []) [] ∷ CanRead 2 ∷ Got 2 text5 ∷ Began (Draft text6) ∷ Did (Draft text6) true ∷ Began SyncDraft ∷ Did SyncDraft true ∷ Began (Publish text7) ∷ Did (Publish text7) true ∷ Began (Write text7 12288 (codes "hello")) ∷ Did (Write text7 12288 (codes "hello")) true ∷ Began (Sync text7) ∷ Began (Write text7 8192 ((1 ∷ []))) ∷ Did (Sync text7) true ∷ Did (Write text7 8192 ((1 ∷ []))) true ∷ Began (Sync text7) ∷ Did (Sync text7) true ∷ Noted (Kept (codes "http://h/a") (codes "\"x\"") 5 5) ∷ Noted (Taken 1 0 (Hit 0 5)) ∷ wait true (1 ∷ 2 ∷ []) (1 ∷ []) ∷ CanWrite 1 ∷ Said 1 154 text8 ∷ wait true (1 ∷ 2 ∷ []) (1 ∷ []) ∷ CanWrite 1 ∷ Said 1 5 (codes "hello") ∷ wait true (1 ∷ 2 ∷ []) [] ∷ [])) ≡ true
unfolding judging
row16swapped30 = refl

row16swapped31 : is_some (fault_from 0 (start (record { words = (codes "diskRun=1") ∷ text0 ∷ text1 ∷ []; faults = 0 } ∷ record { words = (codes "diskRun=1") ∷ text0 ∷ text1 ∷ []; faults = 0 } ∷ [])) (Woke [] ∷ Rooted text2 ∷ Listed true ∷ Listens 8123 true ∷ wait true [] [] ∷ Clock 784111777 ∷ wait true [] [] ∷ Opened 1 ∷ wait true (1 ∷ []) [] ∷ CanRead 1 ∷ Heard 1 text3 ∷ Noted (Taken 1 0 Fetch) ∷ Dialled 2 (codes "h") 80 ∷ wait true (1 ∷ []) [] ∷ Reached 2 ∷ wait true (1 ∷ 2 ∷ []) (2 ∷ []) ∷ CanWrite 2 ∷ Asked 2 text4 ∷ wait true (1 ∷ 2 ∷ []) [] ∷ CanRead 2 ∷ Got 2 text5 ∷ Began (Draft text6) ∷ Did (Draft text6) true ∷ Began SyncDraft ∷ Did SyncDraft true ∷ Began (Publish text7) ∷ Did (Publish text7) true ∷ Began (Write text7 12288 (codes "hello")) ∷ Did (Write text7 12288 (codes "hello")) true ∷ Began (Sync text7) ∷ Did (Sync text7) true ∷ Did (Write text7 8192 ((1 ∷ []))) true ∷ Began (Write text7 8192 ((1 ∷ []))) ∷ Began (Sync text7) ∷ Did (Sync text7) true ∷ Noted (Kept (codes "http://h/a") (codes "\"x\"") 5 5) ∷ Noted (Taken 1 0 (Hit 0 5)) ∷ wait true (1 ∷ 2 ∷ []) (1 ∷ []) ∷ CanWrite 1 ∷ Said 1 154 text8 ∷ wait true (1 ∷ 2 ∷ []) (1 ∷ []) ∷ CanWrite 1 ∷ Said 1 5 (codes "hello") ∷ wait true (1 ∷ 2 ∷ []) [] ∷ [])) ≡ true
unfolding judging
row16swapped31 = refl

row16swapped32 : is_some (fault_from 0 (start (record { words = (codes "diskRun=1") ∷ text0 ∷ text1 ∷ []; faults = 0 } ∷ record { words = (codes "diskRun=1") ∷ text0 ∷ text1 ∷ []; faults = 0 } ∷ [])) (Woke [] ∷ Rooted text2 ∷ Listed true ∷ Listens 8123 true ∷ wait true [] [] ∷ Clock 784111777 ∷ wait true [] [] ∷ Opened 1 ∷ wait true (1 ∷ []) [] ∷ CanRead 1 ∷ Heard 1 text3 ∷ Noted (Taken 1 0 Fetch) ∷ Dialled 2 (codes "h") 80 ∷ wait true (1 ∷ []) [] ∷ Reached 2 ∷ wait true (1 ∷ 2 ∷ []) (2 ∷ []) ∷ CanWrite 2 ∷ Asked 2 text4 ∷ wait true (1 ∷ 2 ∷ []) [] ∷ CanRead 2 ∷ Got 2 text5 ∷ Began (Draft text6) ∷ Did (Draft text6) true ∷ Began SyncDraft ∷ Did SyncDraft true ∷ Began (Publish text7) ∷ Did (Publish text7) true ∷ Began (Write text7 12288 (codes "hello")) ∷ Did (Write text7 12288 (codes "hello")) true ∷ Began (Sync text7) ∷ Did (Sync text7) true ∷ Began (Write text7 8192 ((1 ∷ []))) ∷ Began (Sync text7) ∷ Did (Write text7 8192 ((1 ∷ []))) true ∷ Did (Sync text7) true ∷ Noted (Kept (codes "http://h/a") (codes "\"x\"") 5 5) ∷ Noted (Taken 1 0 (Hit 0 5)) ∷ wait true (1 ∷ 2 ∷ []) (1 ∷ []) ∷ CanWrite 1 ∷ Said 1 154 text8 ∷ wait true (1 ∷ 2 ∷ []) (1 ∷ []) ∷ CanWrite 1 ∷ Said 1 5 (codes "hello") ∷ wait true (1 ∷ 2 ∷ []) [] ∷ [])) ≡ true
unfolding judging
row16swapped32 = refl

row16swapped33 : is_some (fault_from 0 (start (record { words = (codes "diskRun=1") ∷ text0 ∷ text1 ∷ []; faults = 0 } ∷ record { words = (codes "diskRun=1") ∷ text0 ∷ text1 ∷ []; faults = 0 } ∷ [])) (Woke [] ∷ Rooted text2 ∷ Listed true ∷ Listens 8123 true ∷ wait true [] [] ∷ Clock 784111777 ∷ wait true [] [] ∷ Opened 1 ∷ wait true (1 ∷ []) [] ∷ CanRead 1 ∷ Heard 1 text3 ∷ Noted (Taken 1 0 Fetch) ∷ Dialled 2 (codes "h") 80 ∷ wait true (1 ∷ []) [] ∷ Reached 2 ∷ wait true (1 ∷ 2 ∷ []) (2 ∷ []) ∷ CanWrite 2 ∷ Asked 2 text4 ∷ wait true (1 ∷ 2 ∷ []) [] ∷ CanRead 2 ∷ Got 2 text5 ∷ Began (Draft text6) ∷ Did (Draft text6) true ∷ Began SyncDraft ∷ Did SyncDraft true ∷ Began (Publish text7) ∷ Did (Publish text7) true ∷ Began (Write text7 12288 (codes "hello")) ∷ Did (Write text7 12288 (codes "hello")) true ∷ Began (Sync text7) ∷ Did (Sync text7) true ∷ Began (Write text7 8192 ((1 ∷ []))) ∷ Did (Write text7 8192 ((1 ∷ []))) true ∷ Did (Sync text7) true ∷ Began (Sync text7) ∷ Noted (Kept (codes "http://h/a") (codes "\"x\"") 5 5) ∷ Noted (Taken 1 0 (Hit 0 5)) ∷ wait true (1 ∷ 2 ∷ []) (1 ∷ []) ∷ CanWrite 1 ∷ Said 1 154 text8 ∷ wait true (1 ∷ 2 ∷ []) (1 ∷ []) ∷ CanWrite 1 ∷ Said 1 5 (codes "hello") ∷ wait true (1 ∷ 2 ∷ []) [] ∷ [])) ≡ true
unfolding judging
row16swapped33 = refl

row16swapped34 : is_some (fault_from 0 (start (record { words = (codes "diskRun=1") ∷ text0 ∷ text1 ∷ []; faults = 0 } ∷ record { words = (codes "diskRun=1") ∷ text0 ∷ text1 ∷ []; faults = 0 } ∷ [])) (Woke [] ∷ Rooted text2 ∷ Listed true ∷ Listens 8123 true ∷ wait true [] [] ∷ Clock 784111777 ∷ wait true [] [] ∷ Opened 1 ∷ wait true (1 ∷ []) [] ∷ CanRead 1 ∷ Heard 1 text3 ∷ Noted (Taken 1 0 Fetch) ∷ Dialled 2 (codes "h") 80 ∷ wait true (1 ∷ []) [] ∷ Reached 2 ∷ wait true (1 ∷ 2 ∷ []) (2 ∷ []) ∷ CanWrite 2 ∷ Asked 2 text4 ∷ wait true (1 ∷ 2 ∷ []) [] ∷ CanRead 2 ∷ Got 2 text5 ∷ Began (Draft text6) ∷ Did (Draft text6) true ∷ Began SyncDraft ∷ Did SyncDraft true ∷ Began (Publish text7) ∷ Did (Publish text7) true ∷ Began (Write text7 12288 (codes "hello")) ∷ Did (Write text7 12288 (codes "hello")) true ∷ Began (Sync text7) ∷ Did (Sync text7) true ∷ Began (Write text7 8192 ((1 ∷ []))) ∷ Did (Write text7 8192 ((1 ∷ []))) true ∷ Began (Sync text7) ∷ Noted (Kept (codes "http://h/a") (codes "\"x\"") 5 5) ∷ Did (Sync text7) true ∷ Noted (Taken 1 0 (Hit 0 5)) ∷ wait true (1 ∷ 2 ∷ []) (1 ∷ []) ∷ CanWrite 1 ∷ Said 1 154 text8 ∷ wait true (1 ∷ 2 ∷ []) (1 ∷ []) ∷ CanWrite 1 ∷ Said 1 5 (codes "hello") ∷ wait true (1 ∷ 2 ∷ []) [] ∷ [])) ≡ true
unfolding judging
row16swapped34 = refl

row16swapped35 : is_some (fault_from 0 (start (record { words = (codes "diskRun=1") ∷ text0 ∷ text1 ∷ []; faults = 0 } ∷ record { words = (codes "diskRun=1") ∷ text0 ∷ text1 ∷ []; faults = 0 } ∷ [])) (Woke [] ∷ Rooted text2 ∷ Listed true ∷ Listens 8123 true ∷ wait true [] [] ∷ Clock 784111777 ∷ wait true [] [] ∷ Opened 1 ∷ wait true (1 ∷ []) [] ∷ CanRead 1 ∷ Heard 1 text3 ∷ Noted (Taken 1 0 Fetch) ∷ Dialled 2 (codes "h") 80 ∷ wait true (1 ∷ []) [] ∷ Reached 2 ∷ wait true (1 ∷ 2 ∷ []) (2 ∷ []) ∷ CanWrite 2 ∷ Asked 2 text4 ∷ wait true (1 ∷ 2 ∷ []) [] ∷ CanRead 2 ∷ Got 2 text5 ∷ Began (Draft text6) ∷ Did (Draft text6) true ∷ Began SyncDraft ∷ Did SyncDraft true ∷ Began (Publish text7) ∷ Did (Publish text7) true ∷ Began (Write text7 12288 (codes "hello")) ∷ Did (Write text7 12288 (codes "hello")) true ∷ Began (Sync text7) ∷ Did (Sync text7) true ∷ Began (Write text7 8192 ((1 ∷ []))) ∷ Did (Write text7 8192 ((1 ∷ []))) true ∷ Began (Sync text7) ∷ Did (Sync text7) true ∷ Noted (Taken 1 0 (Hit 0 5)) ∷ Noted (Kept (codes "http://h/a") (codes "\"x\"") 5 5) ∷ wait true (1 ∷ 2 ∷ []) (1 ∷ []) ∷ CanWrite 1 ∷ Said 1 154 text8 ∷ wait true (1 ∷ 2 ∷ []) (1 ∷ []) ∷ CanWrite 1 ∷ Said 1 5 (codes "hello") ∷ wait true (1 ∷ 2 ∷ []) [] ∷ [])) ≡ true
unfolding judging
row16swapped35 = refl

row16swapped36 : is_some (fault_from 0 (start (record { words = (codes "diskRun=1") ∷ text0 ∷ text1 ∷ []; faults = 0 } ∷ record { words = (codes "diskRun=1") ∷ text0 ∷ text1 ∷ []; faults = 0 } ∷ [])) (Woke [] ∷ Rooted text2 ∷ Listed true ∷ Listens 8123 true ∷ wait true [] [] ∷ Clock 784111777 ∷ wait true [] [] ∷ Opened 1 ∷ wait true (1 ∷ []) [] ∷ CanRead 1 ∷ Heard 1 text3 ∷ Noted (Taken 1 0 Fetch) ∷ Dialled 2 (codes "h") 80 ∷ wait true (1 ∷ []) [] ∷ Reached 2 ∷ wait true (1 ∷ 2 ∷ []) (2 ∷ []) ∷ CanWrite 2 ∷ Asked 2 text4 ∷ wait true (1 ∷ 2 ∷ []) [] ∷ CanRead 2 ∷ Got 2 text5 ∷ Began (Draft text6) ∷ Did (Draft text6) true ∷ Began SyncDraft ∷ Did SyncDraft true ∷ Began (Publish text7) ∷ Did (Publish text7) true ∷ Began (Write text7 12288 (codes "hello")) ∷ Did (Write text7 12288 (codes "hello")) true ∷ Began (Sync text7) ∷ Did (Sync text7) true ∷ Began (Write text7 8192 ((1 ∷ []))) ∷ Did (Write text7 8192 ((1 ∷ []))) true ∷ Began (Sync text7) ∷ Did (Sync text7) true ∷ Noted (Kept (codes "http://h/a") (codes "\"x\"") 5 5) ∷ wait true (1 ∷ 2 ∷ []) (1 ∷ []) ∷ Noted (Taken 1 0 (Hit 0 5)) ∷ CanWrite 1 ∷ Said 1 154 text8 ∷ wait true (1 ∷ 2 ∷ []) (1 ∷ []) ∷ CanWrite 1 ∷ Said 1 5 (codes "hello") ∷ wait true (1 ∷ 2 ∷ []) [] ∷ [])) ≡ true
unfolding judging
row16swapped36 = refl

row16swapped37 : is_some (fault_from 0 (start (record { words = (codes "diskRun=1") ∷ text0 ∷ text1 ∷ []; faults = 0 } ∷ record { words = (codes "diskRun=1") ∷ text0 ∷ text1 ∷ []; faults = 0 } ∷ [])) (Woke [] ∷ Rooted text2 ∷ Listed true ∷ Listens 8123 true ∷ wait true [] [] ∷ Clock 784111777 ∷ wait true [] [] ∷ Opened 1 ∷ wait true (1 ∷ []) [] ∷ CanRead 1 ∷ Heard 1 text3 ∷ Noted (Taken 1 0 Fetch) ∷ Dialled 2 (codes "h") 80 ∷ wait true (1 ∷ []) [] ∷ Reached 2 ∷ wait true (1 ∷ 2 ∷ []) (2 ∷ []) ∷ CanWrite 2 ∷ Asked 2 text4 ∷ wait true (1 ∷ 2 ∷ []) [] ∷ CanRead 2 ∷ Got 2 text5 ∷ Began (Draft text6) ∷ Did (Draft text6) true ∷ Began SyncDraft ∷ Did SyncDraft true ∷ Began (Publish text7) ∷ Did (Publish text7) true ∷ Began (Write text7 12288 (codes "hello")) ∷ Did (Write text7 12288 (codes "hello")) true ∷ Began (Sync text7) ∷ Did (Sync text7) true ∷ Began (Write text7 8192 ((1 ∷ []))) ∷ Did (Write text7 8192 ((1 ∷ []))) true ∷ Began (Sync text7) ∷ Did (Sync text7) true ∷ Noted (Kept (codes "http://h/a") (codes "\"x\"") 5 5) ∷ Noted (Taken 1 0 (Hit 0 5)) ∷ CanWrite 1 ∷ wait true (1 ∷ 2 ∷ []) (1 ∷ []) ∷ Said 1 154 text8 ∷ wait true (1 ∷ 2 ∷ []) (1 ∷ []) ∷ CanWrite 1 ∷ Said 1 5 (codes "hello") ∷ wait true (1 ∷ 2 ∷ []) [] ∷ [])) ≡ true
unfolding judging
row16swapped37 = refl

row16swapped38 : is_some (fault_from 0 (start (record { words = (codes "diskRun=1") ∷ text0 ∷ text1 ∷ []; faults = 0 } ∷ record { words = (codes "diskRun=1") ∷ text0 ∷ text1 ∷ []; faults = 0 } ∷ [])) (Woke [] ∷ Rooted text2 ∷ Listed true ∷ Listens 8123 true ∷ wait true [] [] ∷ Clock 784111777 ∷ wait true [] [] ∷ Opened 1 ∷ wait true (1 ∷ []) [] ∷ CanRead 1 ∷ Heard 1 text3 ∷ Noted (Taken 1 0 Fetch) ∷ Dialled 2 (codes "h") 80 ∷ wait true (1 ∷ []) [] ∷ Reached 2 ∷ wait true (1 ∷ 2 ∷ []) (2 ∷ []) ∷ CanWrite 2 ∷ Asked 2 text4 ∷ wait true (1 ∷ 2 ∷ []) [] ∷ CanRead 2 ∷ Got 2 text5 ∷ Began (Draft text6) ∷ Did (Draft text6) true ∷ Began SyncDraft ∷ Did SyncDraft true ∷ Began (Publish text7) ∷ Did (Publish text7) true ∷ Began (Write text7 12288 (codes "hello")) ∷ Did (Write text7 12288 (codes "hello")) true ∷ Began (Sync text7) ∷ Did (Sync text7) true ∷ Began (Write text7 8192 ((1 ∷ []))) ∷ Did (Write text7 8192 ((1 ∷ []))) true ∷ Began (Sync text7) ∷ Did (Sync text7) true ∷ Noted (Kept (codes "http://h/a") (codes "\"x\"") 5 5) ∷ Noted (Taken 1 0 (Hit 0 5)) ∷ wait true (1 ∷ 2 ∷ []) (1 ∷ []) ∷ Said 1 154 text8 ∷ CanWrite 1 ∷ wait true (1 ∷ 2 ∷ []) (1 ∷ []) ∷ CanWrite 1 ∷ Said 1 5 (codes "hello") ∷ wait true (1 ∷ 2 ∷ []) [] ∷ [])) ≡ true
unfolding judging
row16swapped38 = refl

row16swapped39 : is_some (fault_from 0 (start (record { words = (codes "diskRun=1") ∷ text0 ∷ text1 ∷ []; faults = 0 } ∷ record { words = (codes "diskRun=1") ∷ text0 ∷ text1 ∷ []; faults = 0 } ∷ [])) (Woke [] ∷ Rooted text2 ∷ Listed true ∷ Listens 8123 true ∷ wait true [] [] ∷ Clock 784111777 ∷ wait true [] [] ∷ Opened 1 ∷ wait true (1 ∷ []) [] ∷ CanRead 1 ∷ Heard 1 text3 ∷ Noted (Taken 1 0 Fetch) ∷ Dialled 2 (codes "h") 80 ∷ wait true (1 ∷ []) [] ∷ Reached 2 ∷ wait true (1 ∷ 2 ∷ []) (2 ∷ []) ∷ CanWrite 2 ∷ Asked 2 text4 ∷ wait true (1 ∷ 2 ∷ []) [] ∷ CanRead 2 ∷ Got 2 text5 ∷ Began (Draft text6) ∷ Did (Draft text6) true ∷ Began SyncDraft ∷ Did SyncDraft true ∷ Began (Publish text7) ∷ Did (Publish text7) true ∷ Began (Write text7 12288 (codes "hello")) ∷ Did (Write text7 12288 (codes "hello")) true ∷ Began (Sync text7) ∷ Did (Sync text7) true ∷ Began (Write text7 8192 ((1 ∷ []))) ∷ Did (Write text7 8192 ((1 ∷ []))) true ∷ Began (Sync text7) ∷ Did (Sync text7) true ∷ Noted (Kept (codes "http://h/a") (codes "\"x\"") 5 5) ∷ Noted (Taken 1 0 (Hit 0 5)) ∷ wait true (1 ∷ 2 ∷ []) (1 ∷ []) ∷ CanWrite 1 ∷ wait true (1 ∷ 2 ∷ []) (1 ∷ []) ∷ Said 1 154 text8 ∷ CanWrite 1 ∷ Said 1 5 (codes "hello") ∷ wait true (1 ∷ 2 ∷ []) [] ∷ [])) ≡ true
unfolding judging
row16swapped39 = refl

row16swapped40 : is_some (fault_from 0 (start (record { words = (codes "diskRun=1") ∷ text0 ∷ text1 ∷ []; faults = 0 } ∷ record { words = (codes "diskRun=1") ∷ text0 ∷ text1 ∷ []; faults = 0 } ∷ [])) (Woke [] ∷ Rooted text2 ∷ Listed true ∷ Listens 8123 true ∷ wait true [] [] ∷ Clock 784111777 ∷ wait true [] [] ∷ Opened 1 ∷ wait true (1 ∷ []) [] ∷ CanRead 1 ∷ Heard 1 text3 ∷ Noted (Taken 1 0 Fetch) ∷ Dialled 2 (codes "h") 80 ∷ wait true (1 ∷ []) [] ∷ Reached 2 ∷ wait true (1 ∷ 2 ∷ []) (2 ∷ []) ∷ CanWrite 2 ∷ Asked 2 text4 ∷ wait true (1 ∷ 2 ∷ []) [] ∷ CanRead 2 ∷ Got 2 text5 ∷ Began (Draft text6) ∷ Did (Draft text6) true ∷ Began SyncDraft ∷ Did SyncDraft true ∷ Began (Publish text7) ∷ Did (Publish text7) true ∷ Began (Write text7 12288 (codes "hello")) ∷ Did (Write text7 12288 (codes "hello")) true ∷ Began (Sync text7) ∷ Did (Sync text7) true ∷ Began (Write text7 8192 ((1 ∷ []))) ∷ Did (Write text7 8192 ((1 ∷ []))) true ∷ Began (Sync text7) ∷ Did (Sync text7) true ∷ Noted (Kept (codes "http://h/a") (codes "\"x\"") 5 5) ∷ Noted (Taken 1 0 (Hit 0 5)) ∷ wait true (1 ∷ 2 ∷ []) (1 ∷ []) ∷ CanWrite 1 ∷ Said 1 154 text8 ∷ CanWrite 1 ∷ wait true (1 ∷ 2 ∷ []) (1 ∷ []) ∷ Said 1 5 (codes "hello") ∷ wait true (1 ∷ 2 ∷ []) [] ∷ [])) ≡ true
unfolding judging
row16swapped40 = refl

row16swapped41 : is_some (fault_from 0 (start (record { words = (codes "diskRun=1") ∷ text0 ∷ text1 ∷ []; faults = 0 } ∷ record { words = (codes "diskRun=1") ∷ text0 ∷ text1 ∷ []; faults = 0 } ∷ [])) (Woke [] ∷ Rooted text2 ∷ Listed true ∷ Listens 8123 true ∷ wait true [] [] ∷ Clock 784111777 ∷ wait true [] [] ∷ Opened 1 ∷ wait true (1 ∷ []) [] ∷ CanRead 1 ∷ Heard 1 text3 ∷ Noted (Taken 1 0 Fetch) ∷ Dialled 2 (codes "h") 80 ∷ wait true (1 ∷ []) [] ∷ Reached 2 ∷ wait true (1 ∷ 2 ∷ []) (2 ∷ []) ∷ CanWrite 2 ∷ Asked 2 text4 ∷ wait true (1 ∷ 2 ∷ []) [] ∷ CanRead 2 ∷ Got 2 text5 ∷ Began (Draft text6) ∷ Did (Draft text6) true ∷ Began SyncDraft ∷ Did SyncDraft true ∷ Began (Publish text7) ∷ Did (Publish text7) true ∷ Began (Write text7 12288 (codes "hello")) ∷ Did (Write text7 12288 (codes "hello")) true ∷ Began (Sync text7) ∷ Did (Sync text7) true ∷ Began (Write text7 8192 ((1 ∷ []))) ∷ Did (Write text7 8192 ((1 ∷ []))) true ∷ Began (Sync text7) ∷ Did (Sync text7) true ∷ Noted (Kept (codes "http://h/a") (codes "\"x\"") 5 5) ∷ Noted (Taken 1 0 (Hit 0 5)) ∷ wait true (1 ∷ 2 ∷ []) (1 ∷ []) ∷ CanWrite 1 ∷ Said 1 154 text8 ∷ wait true (1 ∷ 2 ∷ []) (1 ∷ []) ∷ Said 1 5 (codes "hello") ∷ CanWrite 1 ∷ wait true (1 ∷ 2 ∷ []) [] ∷ [])) ≡ true
unfolding judging
row16swapped41 = refl

row16swapped42 : is_some (fault_from 0 (start (record { words = (codes "diskRun=1") ∷ text0 ∷ text1 ∷ []; faults = 0 } ∷ record { words = (codes "diskRun=1") ∷ text0 ∷ text1 ∷ []; faults = 0 } ∷ [])) (Woke [] ∷ Rooted text2 ∷ Listed true ∷ Listens 8123 true ∷ wait true [] [] ∷ Clock 784111777 ∷ wait true [] [] ∷ Opened 1 ∷ wait true (1 ∷ []) [] ∷ CanRead 1 ∷ Heard 1 text3 ∷ Noted (Taken 1 0 Fetch) ∷ Dialled 2 (codes "h") 80 ∷ wait true (1 ∷ []) [] ∷ Reached 2 ∷ wait true (1 ∷ 2 ∷ []) (2 ∷ []) ∷ CanWrite 2 ∷ Asked 2 text4 ∷ wait true (1 ∷ 2 ∷ []) [] ∷ CanRead 2 ∷ Got 2 text5 ∷ Began (Draft text6) ∷ Did (Draft text6) true ∷ Began SyncDraft ∷ Did SyncDraft true ∷ Began (Publish text7) ∷ Did (Publish text7) true ∷ Began (Write text7 12288 (codes "hello")) ∷ Did (Write text7 12288 (codes "hello")) true ∷ Began (Sync text7) ∷ Did (Sync text7) true ∷ Began (Write text7 8192 ((1 ∷ []))) ∷ Did (Write text7 8192 ((1 ∷ []))) true ∷ Began (Sync text7) ∷ Did (Sync text7) true ∷ Noted (Kept (codes "http://h/a") (codes "\"x\"") 5 5) ∷ Noted (Taken 1 0 (Hit 0 5)) ∷ wait true (1 ∷ 2 ∷ []) (1 ∷ []) ∷ CanWrite 1 ∷ Said 1 154 text8 ∷ wait true (1 ∷ 2 ∷ []) (1 ∷ []) ∷ CanWrite 1 ∷ wait true (1 ∷ 2 ∷ []) [] ∷ Said 1 5 (codes "hello") ∷ [])) ≡ true
unfolding judging
row16swapped42 = refl

row16swapped43 : fault_from 0 (start (record { words = (codes "diskRun=1") ∷ text0 ∷ text1 ∷ []; faults = 0 } ∷ record { words = (codes "diskRun=1") ∷ text0 ∷ text1 ∷ []; faults = 0 } ∷ [])) (Woke [] ∷ Rooted text2 ∷ Listed true ∷ Listens 8123 true ∷ wait true [] [] ∷ Clock 784111777 ∷ wait true [] [] ∷ Opened 1 ∷ wait true (1 ∷ []) [] ∷ CanRead 1 ∷ Heard 1 text3 ∷ Noted (Taken 1 0 Fetch) ∷ Dialled 2 (codes "h") 80 ∷ wait true (1 ∷ []) [] ∷ Reached 2 ∷ wait true (1 ∷ 2 ∷ []) (2 ∷ []) ∷ CanWrite 2 ∷ Asked 2 text4 ∷ wait true (1 ∷ 2 ∷ []) [] ∷ CanRead 2 ∷ Got 2 text5 ∷ Began (Draft text6) ∷ Did (Draft text6) true ∷ Began SyncDraft ∷ Did SyncDraft true ∷ Began (Publish text7) ∷ Did (Publish text7) true ∷ Began (Write text7 12288 (codes "hello")) ∷ Did (Write text7 12288 (codes "hello")) true ∷ Began (Sync text7) ∷ Did (Sync text7) true ∷ Began (Write text7 8192 ((1 ∷ []))) ∷ Did (Write text7 8192 ((1 ∷ []))) true ∷ Began (Sync text7) ∷ Did (Sync text7) true ∷ Noted (Kept (codes "http://h/a") (codes "\"x\"") 5 5) ∷ Noted (Taken 1 0 (Hit 0 5)) ∷ wait true (1 ∷ 2 ∷ []) (1 ∷ []) ∷ CanWrite 1 ∷ Said 1 154 text8 ∷ wait true (1 ∷ 2 ∷ []) (1 ∷ []) ∷ CanWrite 1 ∷ Said 1 5 (codes "hello") ∷ wait true (1 ∷ 2 ∷ []) [] ∷ []) ≡ None
unfolding judging
row16swapped43 = refl

row23 : fault_from 0 (start (record { words = (codes "diskRun=1") ∷ text0 ∷ text1 ∷ []; faults = 0 } ∷ record { words = (codes "diskRun=1") ∷ text0 ∷ text1 ∷ []; faults = 0 } ∷ [])) (Woke [] ∷ Rooted text2 ∷ Listed true ∷ Listens 8123 true ∷ wait true [] [] ∷ Clock 784111777 ∷ wait true [] [] ∷ Opened 1 ∷ wait true (1 ∷ []) [] ∷ CanRead 1 ∷ Heard 1 text9 ∷ Noted (Taken 1 0 Pass) ∷ Dialled 2 (codes "h") 80 ∷ wait true (1 ∷ []) [] ∷ Reached 2 ∷ wait true (1 ∷ 2 ∷ []) (2 ∷ []) ∷ CanWrite 2 ∷ Asked 2 text10 ∷ wait true (1 ∷ 2 ∷ []) [] ∷ CanRead 2 ∷ Got 2 text11 ∷ wait true (1 ∷ 2 ∷ []) (1 ∷ []) ∷ CanWrite 1 ∷ Said 1 80 text12 ∷ wait true (1 ∷ 2 ∷ []) (1 ∷ []) ∷ CanWrite 1 ∷ Said 1 5 (codes "hello") ∷ wait true (1 ∷ 2 ∷ []) [] ∷ CanRead 2 ∷ Ended 2 ∷ Noted (Cut 1 Short) ∷ Shut 1 ∷ Dropped 2 ∷ wait true [] [] ∷ []) ≡ None
unfolding judging
row23 = refl

row23deleted0 : is_some (fault_from 0 (start (record { words = (codes "diskRun=1") ∷ text0 ∷ text1 ∷ []; faults = 0 } ∷ record { words = (codes "diskRun=1") ∷ text0 ∷ text1 ∷ []; faults = 0 } ∷ [])) (Rooted text2 ∷ Listed true ∷ Listens 8123 true ∷ wait true [] [] ∷ Clock 784111777 ∷ wait true [] [] ∷ Opened 1 ∷ wait true (1 ∷ []) [] ∷ CanRead 1 ∷ Heard 1 text9 ∷ Noted (Taken 1 0 Pass) ∷ Dialled 2 (codes "h") 80 ∷ wait true (1 ∷ []) [] ∷ Reached 2 ∷ wait true (1 ∷ 2 ∷ []) (2 ∷ []) ∷ CanWrite 2 ∷ Asked 2 text10 ∷ wait true (1 ∷ 2 ∷ []) [] ∷ CanRead 2 ∷ Got 2 text11 ∷ wait true (1 ∷ 2 ∷ []) (1 ∷ []) ∷ CanWrite 1 ∷ Said 1 80 text12 ∷ wait true (1 ∷ 2 ∷ []) (1 ∷ []) ∷ CanWrite 1 ∷ Said 1 5 (codes "hello") ∷ wait true (1 ∷ 2 ∷ []) [] ∷ CanRead 2 ∷ Ended 2 ∷ Noted (Cut 1 Short) ∷ Shut 1 ∷ Dropped 2 ∷ wait true [] [] ∷ [])) ≡ true
unfolding judging
row23deleted0 = refl

row23deleted1 : is_some (fault_from 0 (start (record { words = (codes "diskRun=1") ∷ text0 ∷ text1 ∷ []; faults = 0 } ∷ record { words = (codes "diskRun=1") ∷ text0 ∷ text1 ∷ []; faults = 0 } ∷ [])) (Woke [] ∷ Listed true ∷ Listens 8123 true ∷ wait true [] [] ∷ Clock 784111777 ∷ wait true [] [] ∷ Opened 1 ∷ wait true (1 ∷ []) [] ∷ CanRead 1 ∷ Heard 1 text9 ∷ Noted (Taken 1 0 Pass) ∷ Dialled 2 (codes "h") 80 ∷ wait true (1 ∷ []) [] ∷ Reached 2 ∷ wait true (1 ∷ 2 ∷ []) (2 ∷ []) ∷ CanWrite 2 ∷ Asked 2 text10 ∷ wait true (1 ∷ 2 ∷ []) [] ∷ CanRead 2 ∷ Got 2 text11 ∷ wait true (1 ∷ 2 ∷ []) (1 ∷ []) ∷ CanWrite 1 ∷ Said 1 80 text12 ∷ wait true (1 ∷ 2 ∷ []) (1 ∷ []) ∷ CanWrite 1 ∷ Said 1 5 (codes "hello") ∷ wait true (1 ∷ 2 ∷ []) [] ∷ CanRead 2 ∷ Ended 2 ∷ Noted (Cut 1 Short) ∷ Shut 1 ∷ Dropped 2 ∷ wait true [] [] ∷ [])) ≡ true
unfolding judging
row23deleted1 = refl

row23deleted2 : is_some (fault_from 0 (start (record { words = (codes "diskRun=1") ∷ text0 ∷ text1 ∷ []; faults = 0 } ∷ record { words = (codes "diskRun=1") ∷ text0 ∷ text1 ∷ []; faults = 0 } ∷ [])) (Woke [] ∷ Rooted text2 ∷ Listens 8123 true ∷ wait true [] [] ∷ Clock 784111777 ∷ wait true [] [] ∷ Opened 1 ∷ wait true (1 ∷ []) [] ∷ CanRead 1 ∷ Heard 1 text9 ∷ Noted (Taken 1 0 Pass) ∷ Dialled 2 (codes "h") 80 ∷ wait true (1 ∷ []) [] ∷ Reached 2 ∷ wait true (1 ∷ 2 ∷ []) (2 ∷ []) ∷ CanWrite 2 ∷ Asked 2 text10 ∷ wait true (1 ∷ 2 ∷ []) [] ∷ CanRead 2 ∷ Got 2 text11 ∷ wait true (1 ∷ 2 ∷ []) (1 ∷ []) ∷ CanWrite 1 ∷ Said 1 80 text12 ∷ wait true (1 ∷ 2 ∷ []) (1 ∷ []) ∷ CanWrite 1 ∷ Said 1 5 (codes "hello") ∷ wait true (1 ∷ 2 ∷ []) [] ∷ CanRead 2 ∷ Ended 2 ∷ Noted (Cut 1 Short) ∷ Shut 1 ∷ Dropped 2 ∷ wait true [] [] ∷ [])) ≡ true
unfolding judging
row23deleted2 = refl

row23deleted3 : is_some (fault_from 0 (start (record { words = (codes "diskRun=1") ∷ text0 ∷ text1 ∷ []; faults = 0 } ∷ record { words = (codes "diskRun=1") ∷ text0 ∷ text1 ∷ []; faults = 0 } ∷ [])) (Woke [] ∷ Rooted text2 ∷ Listed true ∷ wait true [] [] ∷ Clock 784111777 ∷ wait true [] [] ∷ Opened 1 ∷ wait true (1 ∷ []) [] ∷ CanRead 1 ∷ Heard 1 text9 ∷ Noted (Taken 1 0 Pass) ∷ Dialled 2 (codes "h") 80 ∷ wait true (1 ∷ []) [] ∷ Reached 2 ∷ wait true (1 ∷ 2 ∷ []) (2 ∷ []) ∷ CanWrite 2 ∷ Asked 2 text10 ∷ wait true (1 ∷ 2 ∷ []) [] ∷ CanRead 2 ∷ Got 2 text11 ∷ wait true (1 ∷ 2 ∷ []) (1 ∷ []) ∷ CanWrite 1 ∷ Said 1 80 text12 ∷ wait true (1 ∷ 2 ∷ []) (1 ∷ []) ∷ CanWrite 1 ∷ Said 1 5 (codes "hello") ∷ wait true (1 ∷ 2 ∷ []) [] ∷ CanRead 2 ∷ Ended 2 ∷ Noted (Cut 1 Short) ∷ Shut 1 ∷ Dropped 2 ∷ wait true [] [] ∷ [])) ≡ true
unfolding judging
row23deleted3 = refl

row23deleted4 : is_some (fault_from 0 (start (record { words = (codes "diskRun=1") ∷ text0 ∷ text1 ∷ []; faults = 0 } ∷ record { words = (codes "diskRun=1") ∷ text0 ∷ text1 ∷ []; faults = 0 } ∷ [])) (Woke [] ∷ Rooted text2 ∷ Listed true ∷ Listens 8123 true ∷ Clock 784111777 ∷ wait true [] [] ∷ Opened 1 ∷ wait true (1 ∷ []) [] ∷ CanRead 1 ∷ Heard 1 text9 ∷ Noted (Taken 1 0 Pass) ∷ Dialled 2 (codes "h") 80 ∷ wait true (1 ∷ []) [] ∷ Reached 2 ∷ wait true (1 ∷ 2 ∷ []) (2 ∷ []) ∷ CanWrite 2 ∷ Asked 2 text10 ∷ wait true (1 ∷ 2 ∷ []) [] ∷ CanRead 2 ∷ Got 2 text11 ∷ wait true (1 ∷ 2 ∷ []) (1 ∷ []) ∷ CanWrite 1 ∷ Said 1 80 text12 ∷ wait true (1 ∷ 2 ∷ []) (1 ∷ []) ∷ CanWrite 1 ∷ Said 1 5 (codes "hello") ∷ wait true (1 ∷ 2 ∷ []) [] ∷ CanRead 2 ∷ Ended 2 ∷ Noted (Cut 1 Short) ∷ Shut 1 ∷ Dropped 2 ∷ wait true [] [] ∷ [])) ≡ true
unfolding judging
row23deleted4 = refl

row23deleted5 : is_some (fault_from 0 (start (record { words = (codes "diskRun=1") ∷ text0 ∷ text1 ∷ []; faults = 0 } ∷ record { words = (codes "diskRun=1") ∷ text0 ∷ text1 ∷ []; faults = 0 } ∷ [])) (Woke [] ∷ Rooted text2 ∷ Listed true ∷ Listens 8123 true ∷ wait true [] [] ∷ wait true [] [] ∷ Opened 1 ∷ wait true (1 ∷ []) [] ∷ CanRead 1 ∷ Heard 1 text9 ∷ Noted (Taken 1 0 Pass) ∷ Dialled 2 (codes "h") 80 ∷ wait true (1 ∷ []) [] ∷ Reached 2 ∷ wait true (1 ∷ 2 ∷ []) (2 ∷ []) ∷ CanWrite 2 ∷ Asked 2 text10 ∷ wait true (1 ∷ 2 ∷ []) [] ∷ CanRead 2 ∷ Got 2 text11 ∷ wait true (1 ∷ 2 ∷ []) (1 ∷ []) ∷ CanWrite 1 ∷ Said 1 80 text12 ∷ wait true (1 ∷ 2 ∷ []) (1 ∷ []) ∷ CanWrite 1 ∷ Said 1 5 (codes "hello") ∷ wait true (1 ∷ 2 ∷ []) [] ∷ CanRead 2 ∷ Ended 2 ∷ Noted (Cut 1 Short) ∷ Shut 1 ∷ Dropped 2 ∷ wait true [] [] ∷ [])) ≡ true
unfolding judging
row23deleted5 = refl

row23deleted6 : is_some (fault_from 0 (start (record { words = (codes "diskRun=1") ∷ text0 ∷ text1 ∷ []; faults = 0 } ∷ record { words = (codes "diskRun=1") ∷ text0 ∷ text1 ∷ []; faults = 0 } ∷ [])) (Woke [] ∷ Rooted text2 ∷ Listed true ∷ Listens 8123 true ∷ wait true [] [] ∷ Clock 784111777 ∷ Opened 1 ∷ wait true (1 ∷ []) [] ∷ CanRead 1 ∷ Heard 1 text9 ∷ Noted (Taken 1 0 Pass) ∷ Dialled 2 (codes "h") 80 ∷ wait true (1 ∷ []) [] ∷ Reached 2 ∷ wait true (1 ∷ 2 ∷ []) (2 ∷ []) ∷ CanWrite 2 ∷ Asked 2 text10 ∷ wait true (1 ∷ 2 ∷ []) [] ∷ CanRead 2 ∷ Got 2 text11 ∷ wait true (1 ∷ 2 ∷ []) (1 ∷ []) ∷ CanWrite 1 ∷ Said 1 80 text12 ∷ wait true (1 ∷ 2 ∷ []) (1 ∷ []) ∷ CanWrite 1 ∷ Said 1 5 (codes "hello") ∷ wait true (1 ∷ 2 ∷ []) [] ∷ CanRead 2 ∷ Ended 2 ∷ Noted (Cut 1 Short) ∷ Shut 1 ∷ Dropped 2 ∷ wait true [] [] ∷ [])) ≡ true
unfolding judging
row23deleted6 = refl

row23deleted7 : is_some (fault_from 0 (start (record { words = (codes "diskRun=1") ∷ text0 ∷ text1 ∷ []; faults = 0 } ∷ record { words = (codes "diskRun=1") ∷ text0 ∷ text1 ∷ []; faults = 0 } ∷ [])) (Woke [] ∷ Rooted text2 ∷ Listed true ∷ Listens 8123 true ∷ wait true [] [] ∷ Clock 784111777 ∷ wait true [] [] ∷ wait true (1 ∷ []) [] ∷ CanRead 1 ∷ Heard 1 text9 ∷ Noted (Taken 1 0 Pass) ∷ Dialled 2 (codes "h") 80 ∷ wait true (1 ∷ []) [] ∷ Reached 2 ∷ wait true (1 ∷ 2 ∷ []) (2 ∷ []) ∷ CanWrite 2 ∷ Asked 2 text10 ∷ wait true (1 ∷ 2 ∷ []) [] ∷ CanRead 2 ∷ Got 2 text11 ∷ wait true (1 ∷ 2 ∷ []) (1 ∷ []) ∷ CanWrite 1 ∷ Said 1 80 text12 ∷ wait true (1 ∷ 2 ∷ []) (1 ∷ []) ∷ CanWrite 1 ∷ Said 1 5 (codes "hello") ∷ wait true (1 ∷ 2 ∷ []) [] ∷ CanRead 2 ∷ Ended 2 ∷ Noted (Cut 1 Short) ∷ Shut 1 ∷ Dropped 2 ∷ wait true [] [] ∷ [])) ≡ true
unfolding judging
row23deleted7 = refl

row23deleted8 : is_some (fault_from 0 (start (record { words = (codes "diskRun=1") ∷ text0 ∷ text1 ∷ []; faults = 0 } ∷ record { words = (codes "diskRun=1") ∷ text0 ∷ text1 ∷ []; faults = 0 } ∷ [])) (Woke [] ∷ Rooted text2 ∷ Listed true ∷ Listens 8123 true ∷ wait true [] [] ∷ Clock 784111777 ∷ wait true [] [] ∷ Opened 1 ∷ CanRead 1 ∷ Heard 1 text9 ∷ Noted (Taken 1 0 Pass) ∷ Dialled 2 (codes "h") 80 ∷ wait true (1 ∷ []) [] ∷ Reached 2 ∷ wait true (1 ∷ 2 ∷ []) (2 ∷ []) ∷ CanWrite 2 ∷ Asked 2 text10 ∷ wait true (1 ∷ 2 ∷ []) [] ∷ CanRead 2 ∷ Got 2 text11 ∷ wait true (1 ∷ 2 ∷ []) (1 ∷ []) ∷ CanWrite 1 ∷ Said 1 80 text12 ∷ wait true (1 ∷ 2 ∷ []) (1 ∷ []) ∷ CanWrite 1 ∷ Said 1 5 (codes "hello") ∷ wait true (1 ∷ 2 ∷ []) [] ∷ CanRead 2 ∷ Ended 2 ∷ Noted (Cut 1 Short) ∷ Shut 1 ∷ Dropped 2 ∷ wait true [] [] ∷ [])) ≡ true
unfolding judging
row23deleted8 = refl

row23deleted9 : is_some (fault_from 0 (start (record { words = (codes "diskRun=1") ∷ text0 ∷ text1 ∷ []; faults = 0 } ∷ record { words = (codes "diskRun=1") ∷ text0 ∷ text1 ∷ []; faults = 0 } ∷ [])) (Woke [] ∷ Rooted text2 ∷ Listed true ∷ Listens 8123 true ∷ wait true [] [] ∷ Clock 784111777 ∷ wait true [] [] ∷ Opened 1 ∷ wait true (1 ∷ []) [] ∷ Heard 1 text9 ∷ Noted (Taken 1 0 Pass) ∷ Dialled 2 (codes "h") 80 ∷ wait true (1 ∷ []) [] ∷ Reached 2 ∷ wait true (1 ∷ 2 ∷ []) (2 ∷ []) ∷ CanWrite 2 ∷ Asked 2 text10 ∷ wait true (1 ∷ 2 ∷ []) [] ∷ CanRead 2 ∷ Got 2 text11 ∷ wait true (1 ∷ 2 ∷ []) (1 ∷ []) ∷ CanWrite 1 ∷ Said 1 80 text12 ∷ wait true (1 ∷ 2 ∷ []) (1 ∷ []) ∷ CanWrite 1 ∷ Said 1 5 (codes "hello") ∷ wait true (1 ∷ 2 ∷ []) [] ∷ CanRead 2 ∷ Ended 2 ∷ Noted (Cut 1 Short) ∷ Shut 1 ∷ Dropped 2 ∷ wait true [] [] ∷ [])) ≡ true
unfolding judging
row23deleted9 = refl

row23deleted10 : is_some (fault_from 0 (start (record { words = (codes "diskRun=1") ∷ text0 ∷ text1 ∷ []; faults = 0 } ∷ record { words = (codes "diskRun=1") ∷ text0 ∷ text1 ∷ []; faults = 0 } ∷ [])) (Woke [] ∷ Rooted text2 ∷ Listed true ∷ Listens 8123 true ∷ wait true [] [] ∷ Clock 784111777 ∷ wait true [] [] ∷ Opened 1 ∷ wait true (1 ∷ []) [] ∷ CanRead 1 ∷ Noted (Taken 1 0 Pass) ∷ Dialled 2 (codes "h") 80 ∷ wait true (1 ∷ []) [] ∷ Reached 2 ∷ wait true (1 ∷ 2 ∷ []) (2 ∷ []) ∷ CanWrite 2 ∷ Asked 2 text10 ∷ wait true (1 ∷ 2 ∷ []) [] ∷ CanRead 2 ∷ Got 2 text11 ∷ wait true (1 ∷ 2 ∷ []) (1 ∷ []) ∷ CanWrite 1 ∷ Said 1 80 text12 ∷ wait true (1 ∷ 2 ∷ []) (1 ∷ []) ∷ CanWrite 1 ∷ Said 1 5 (codes "hello") ∷ wait true (1 ∷ 2 ∷ []) [] ∷ CanRead 2 ∷ Ended 2 ∷ Noted (Cut 1 Short) ∷ Shut 1 ∷ Dropped 2 ∷ wait true [] [] ∷ [])) ≡ true
unfolding judging
row23deleted10 = refl

row23deleted11 : is_some (fault_from 0 (start (record { words = (codes "diskRun=1") ∷ text0 ∷ text1 ∷ []; faults = 0 } ∷ record { words = (codes "diskRun=1") ∷ text0 ∷ text1 ∷ []; faults = 0 } ∷ [])) (Woke [] ∷ Rooted text2 ∷ Listed true ∷ Listens 8123 true ∷ wait true [] [] ∷ Clock 784111777 ∷ wait true [] [] ∷ Opened 1 ∷ wait true (1 ∷ []) [] ∷ CanRead 1 ∷ Heard 1 text9 ∷ Dialled 2 (codes "h") 80 ∷ wait true (1 ∷ []) [] ∷ Reached 2 ∷ wait true (1 ∷ 2 ∷ []) (2 ∷ []) ∷ CanWrite 2 ∷ Asked 2 text10 ∷ wait true (1 ∷ 2 ∷ []) [] ∷ CanRead 2 ∷ Got 2 text11 ∷ wait true (1 ∷ 2 ∷ []) (1 ∷ []) ∷ CanWrite 1 ∷ Said 1 80 text12 ∷ wait true (1 ∷ 2 ∷ []) (1 ∷ []) ∷ CanWrite 1 ∷ Said 1 5 (codes "hello") ∷ wait true (1 ∷ 2 ∷ []) [] ∷ CanRead 2 ∷ Ended 2 ∷ Noted (Cut 1 Short) ∷ Shut 1 ∷ Dropped 2 ∷ wait true [] [] ∷ [])) ≡ true
unfolding judging
row23deleted11 = refl

row23deleted12 : is_some (fault_from 0 (start (record { words = (codes "diskRun=1") ∷ text0 ∷ text1 ∷ []; faults = 0 } ∷ record { words = (codes "diskRun=1") ∷ text0 ∷ text1 ∷ []; faults = 0 } ∷ [])) (Woke [] ∷ Rooted text2 ∷ Listed true ∷ Listens 8123 true ∷ wait true [] [] ∷ Clock 784111777 ∷ wait true [] [] ∷ Opened 1 ∷ wait true (1 ∷ []) [] ∷ CanRead 1 ∷ Heard 1 text9 ∷ Noted (Taken 1 0 Pass) ∷ wait true (1 ∷ []) [] ∷ Reached 2 ∷ wait true (1 ∷ 2 ∷ []) (2 ∷ []) ∷ CanWrite 2 ∷ Asked 2 text10 ∷ wait true (1 ∷ 2 ∷ []) [] ∷ CanRead 2 ∷ Got 2 text11 ∷ wait true (1 ∷ 2 ∷ []) (1 ∷ []) ∷ CanWrite 1 ∷ Said 1 80 text12 ∷ wait true (1 ∷ 2 ∷ []) (1 ∷ []) ∷ CanWrite 1 ∷ Said 1 5 (codes "hello") ∷ wait true (1 ∷ 2 ∷ []) [] ∷ CanRead 2 ∷ Ended 2 ∷ Noted (Cut 1 Short) ∷ Shut 1 ∷ Dropped 2 ∷ wait true [] [] ∷ [])) ≡ true
unfolding judging
row23deleted12 = refl

row23deleted13 : is_some (fault_from 0 (start (record { words = (codes "diskRun=1") ∷ text0 ∷ text1 ∷ []; faults = 0 } ∷ record { words = (codes "diskRun=1") ∷ text0 ∷ text1 ∷ []; faults = 0 } ∷ [])) (Woke [] ∷ Rooted text2 ∷ Listed true ∷ Listens 8123 true ∷ wait true [] [] ∷ Clock 784111777 ∷ wait true [] [] ∷ Opened 1 ∷ wait true (1 ∷ []) [] ∷ CanRead 1 ∷ Heard 1 text9 ∷ Noted (Taken 1 0 Pass) ∷ Dialled 2 (codes "h") 80 ∷ Reached 2 ∷ wait true (1 ∷ 2 ∷ []) (2 ∷ []) ∷ CanWrite 2 ∷ Asked 2 text10 ∷ wait true (1 ∷ 2 ∷ []) [] ∷ CanRead 2 ∷ Got 2 text11 ∷ wait true (1 ∷ 2 ∷ []) (1 ∷ []) ∷ CanWrite 1 ∷ Said 1 80 text12 ∷ wait true (1 ∷ 2 ∷ []) (1 ∷ []) ∷ CanWrite 1 ∷ Said 1 5 (codes "hello") ∷ wait true (1 ∷ 2 ∷ []) [] ∷ CanRead 2 ∷ Ended 2 ∷ Noted (Cut 1 Short) ∷ Shut 1 ∷ Dropped 2 ∷ wait true [] [] ∷ [])) ≡ true
unfolding judging
row23deleted13 = refl

row23deleted14 : is_some (fault_from 0 (start (record { words = (codes "diskRun=1") ∷ text0 ∷ text1 ∷ []; faults = 0 } ∷ record { words = (codes "diskRun=1") ∷ text0 ∷ text1 ∷ []; faults = 0 } ∷ [])) (Woke [] ∷ Rooted text2 ∷ Listed true ∷ Listens 8123 true ∷ wait true [] [] ∷ Clock 784111777 ∷ wait true [] [] ∷ Opened 1 ∷ wait true (1 ∷ []) [] ∷ CanRead 1 ∷ Heard 1 text9 ∷ Noted (Taken 1 0 Pass) ∷ Dialled 2 (codes "h") 80 ∷ wait true (1 ∷ []) [] ∷ wait true (1 ∷ 2 ∷ []) (2 ∷ []) ∷ CanWrite 2 ∷ Asked 2 text10 ∷ wait true (1 ∷ 2 ∷ []) [] ∷ CanRead 2 ∷ Got 2 text11 ∷ wait true (1 ∷ 2 ∷ []) (1 ∷ []) ∷ CanWrite 1 ∷ Said 1 80 text12 ∷ wait true (1 ∷ 2 ∷ []) (1 ∷ []) ∷ CanWrite 1 ∷ Said 1 5 (codes "hello") ∷ wait true (1 ∷ 2 ∷ []) [] ∷ CanRead 2 ∷ Ended 2 ∷ Noted (Cut 1 Short) ∷ Shut 1 ∷ Dropped 2 ∷ wait true [] [] ∷ [])) ≡ true
unfolding judging
row23deleted14 = refl

row23deleted15 : is_some (fault_from 0 (start (record { words = (codes "diskRun=1") ∷ text0 ∷ text1 ∷ []; faults = 0 } ∷ record { words = (codes "diskRun=1") ∷ text0 ∷ text1 ∷ []; faults = 0 } ∷ [])) (Woke [] ∷ Rooted text2 ∷ Listed true ∷ Listens 8123 true ∷ wait true [] [] ∷ Clock 784111777 ∷ wait true [] [] ∷ Opened 1 ∷ wait true (1 ∷ []) [] ∷ CanRead 1 ∷ Heard 1 text9 ∷ Noted (Taken 1 0 Pass) ∷ Dialled 2 (codes "h") 80 ∷ wait true (1 ∷ []) [] ∷ Reached 2 ∷ CanWrite 2 ∷ Asked 2 text10 ∷ wait true (1 ∷ 2 ∷ []) [] ∷ CanRead 2 ∷ Got 2 text11 ∷ wait true (1 ∷ 2 ∷ []) (1 ∷ []) ∷ CanWrite 1 ∷ Said 1 80 text12 ∷ wait true (1 ∷ 2 ∷ []) (1 ∷ []) ∷ CanWrite 1 ∷ Said 1 5 (codes "hello") ∷ wait true (1 ∷ 2 ∷ []) [] ∷ CanRead 2 ∷ Ended 2 ∷ Noted (Cut 1 Short) ∷ Shut 1 ∷ Dropped 2 ∷ wait true [] [] ∷ [])) ≡ true
unfolding judging
row23deleted15 = refl

row23deleted16 : is_some (fault_from 0 (start (record { words = (codes "diskRun=1") ∷ text0 ∷ text1 ∷ []; faults = 0 } ∷ record { words = (codes "diskRun=1") ∷ text0 ∷ text1 ∷ []; faults = 0 } ∷ [])) (Woke [] ∷ Rooted text2 ∷ Listed true ∷ Listens 8123 true ∷ wait true [] [] ∷ Clock 784111777 ∷ wait true [] [] ∷ Opened 1 ∷ wait true (1 ∷ []) [] ∷ CanRead 1 ∷ Heard 1 text9 ∷ Noted (Taken 1 0 Pass) ∷ Dialled 2 (codes "h") 80 ∷ wait true (1 ∷ []) [] ∷ Reached 2 ∷ wait true (1 ∷ 2 ∷ []) (2 ∷ []) ∷ Asked 2 text10 ∷ wait true (1 ∷ 2 ∷ []) [] ∷ CanRead 2 ∷ Got 2 text11 ∷ wait true (1 ∷ 2 ∷ []) (1 ∷ []) ∷ CanWrite 1 ∷ Said 1 80 text12 ∷ wait true (1 ∷ 2 ∷ []) (1 ∷ []) ∷ CanWrite 1 ∷ Said 1 5 (codes "hello") ∷ wait true (1 ∷ 2 ∷ []) [] ∷ CanRead 2 ∷ Ended 2 ∷ Noted (Cut 1 Short) ∷ Shut 1 ∷ Dropped 2 ∷ wait true [] [] ∷ [])) ≡ true
unfolding judging
row23deleted16 = refl

row23deleted17 : is_some (fault_from 0 (start (record { words = (codes "diskRun=1") ∷ text0 ∷ text1 ∷ []; faults = 0 } ∷ record { words = (codes "diskRun=1") ∷ text0 ∷ text1 ∷ []; faults = 0 } ∷ [])) (Woke [] ∷ Rooted text2 ∷ Listed true ∷ Listens 8123 true ∷ wait true [] [] ∷ Clock 784111777 ∷ wait true [] [] ∷ Opened 1 ∷ wait true (1 ∷ []) [] ∷ CanRead 1 ∷ Heard 1 text9 ∷ Noted (Taken 1 0 Pass) ∷ Dialled 2 (codes "h") 80 ∷ wait true (1 ∷ []) [] ∷ Reached 2 ∷ wait true (1 ∷ 2 ∷ []) (2 ∷ []) ∷ CanWrite 2 ∷ wait true (1 ∷ 2 ∷ []) [] ∷ CanRead 2 ∷ Got 2 text11 ∷ wait true (1 ∷ 2 ∷ []) (1 ∷ []) ∷ CanWrite 1 ∷ Said 1 80 text12 ∷ wait true (1 ∷ 2 ∷ []) (1 ∷ []) ∷ CanWrite 1 ∷ Said 1 5 (codes "hello") ∷ wait true (1 ∷ 2 ∷ []) [] ∷ CanRead 2 ∷ Ended 2 ∷ Noted (Cut 1 Short) ∷ Shut 1 ∷ Dropped 2 ∷ wait true [] [] ∷ [])) ≡ true
unfolding judging
row23deleted17 = refl

row23deleted18 : is_some (fault_from 0 (start (record { words = (codes "diskRun=1") ∷ text0 ∷ text1 ∷ []; faults = 0 } ∷ record { words = (codes "diskRun=1") ∷ text0 ∷ text1 ∷ []; faults = 0 } ∷ [])) (Woke [] ∷ Rooted text2 ∷ Listed true ∷ Listens 8123 true ∷ wait true [] [] ∷ Clock 784111777 ∷ wait true [] [] ∷ Opened 1 ∷ wait true (1 ∷ []) [] ∷ CanRead 1 ∷ Heard 1 text9 ∷ Noted (Taken 1 0 Pass) ∷ Dialled 2 (codes "h") 80 ∷ wait true (1 ∷ []) [] ∷ Reached 2 ∷ wait true (1 ∷ 2 ∷ []) (2 ∷ []) ∷ CanWrite 2 ∷ Asked 2 text10 ∷ CanRead 2 ∷ Got 2 text11 ∷ wait true (1 ∷ 2 ∷ []) (1 ∷ []) ∷ CanWrite 1 ∷ Said 1 80 text12 ∷ wait true (1 ∷ 2 ∷ []) (1 ∷ []) ∷ CanWrite 1 ∷ Said 1 5 (codes "hello") ∷ wait true (1 ∷ 2 ∷ []) [] ∷ CanRead 2 ∷ Ended 2 ∷ Noted (Cut 1 Short) ∷ Shut 1 ∷ Dropped 2 ∷ wait true [] [] ∷ [])) ≡ true
unfolding judging
row23deleted18 = refl

row23deleted19 : is_some (fault_from 0 (start (record { words = (codes "diskRun=1") ∷ text0 ∷ text1 ∷ []; faults = 0 } ∷ record { words = (codes "diskRun=1") ∷ text0 ∷ text1 ∷ []; faults = 0 } ∷ [])) (Woke [] ∷ Rooted text2 ∷ Listed true ∷ Listens 8123 true ∷ wait true [] [] ∷ Clock 784111777 ∷ wait true [] [] ∷ Opened 1 ∷ wait true (1 ∷ []) [] ∷ CanRead 1 ∷ Heard 1 text9 ∷ Noted (Taken 1 0 Pass) ∷ Dialled 2 (codes "h") 80 ∷ wait true (1 ∷ []) [] ∷ Reached 2 ∷ wait true (1 ∷ 2 ∷ []) (2 ∷ []) ∷ CanWrite 2 ∷ Asked 2 text10 ∷ wait true (1 ∷ 2 ∷ []) [] ∷ Got 2 text11 ∷ wait true (1 ∷ 2 ∷ []) (1 ∷ []) ∷ CanWrite 1 ∷ Said 1 80 text12 ∷ wait true (1 ∷ 2 ∷ []) (1 ∷ []) ∷ CanWrite 1 ∷ Said 1 5 (codes "hello") ∷ wait true (1 ∷ 2 ∷ []) [] ∷ CanRead 2 ∷ Ended 2 ∷ Noted (Cut 1 Short) ∷ Shut 1 ∷ Dropped 2 ∷ wait true [] [] ∷ [])) ≡ true
unfolding judging
row23deleted19 = refl

row23deleted20 : is_some (fault_from 0 (start (record { words = (codes "diskRun=1") ∷ text0 ∷ text1 ∷ []; faults = 0 } ∷ record { words = (codes "diskRun=1") ∷ text0 ∷ text1 ∷ []; faults = 0 } ∷ [])) (Woke [] ∷ Rooted text2 ∷ Listed true ∷ Listens 8123 true ∷ wait true [] [] ∷ Clock 784111777 ∷ wait true [] [] ∷ Opened 1 ∷ wait true (1 ∷ []) [] ∷ CanRead 1 ∷ Heard 1 text9 ∷ Noted (Taken 1 0 Pass) ∷ Dialled 2 (codes "h") 80 ∷ wait true (1 ∷ []) [] ∷ Reached 2 ∷ wait true (1 ∷ 2 ∷ []) (2 ∷ []) ∷ CanWrite 2 ∷ Asked 2 text10 ∷ wait true (1 ∷ 2 ∷ []) [] ∷ CanRead 2 ∷ wait true (1 ∷ 2 ∷ []) (1 ∷ []) ∷ CanWrite 1 ∷ Said 1 80 text12 ∷ wait true (1 ∷ 2 ∷ []) (1 ∷ []) ∷ CanWrite 1 ∷ Said 1 5 (codes "hello") ∷ wait true (1 ∷ 2 ∷ []) [] ∷ CanRead 2 ∷ Ended 2 ∷ Noted (Cut 1 Short) ∷ Shut 1 ∷ Dropped 2 ∷ wait true [] [] ∷ [])) ≡ true
unfolding judging
row23deleted20 = refl

row23deleted21 : is_some (fault_from 0 (start (record { words = (codes "diskRun=1") ∷ text0 ∷ text1 ∷ []; faults = 0 } ∷ record { words = (codes "diskRun=1") ∷ text0 ∷ text1 ∷ []; faults = 0 } ∷ [])) (Woke [] ∷ Rooted text2 ∷ Listed true ∷ Listens 8123 true ∷ wait true [] [] ∷ Clock 784111777 ∷ wait true [] [] ∷ Opened 1 ∷ wait true (1 ∷ []) [] ∷ CanRead 1 ∷ Heard 1 text9 ∷ Noted (Taken 1 0 Pass) ∷ Dialled 2 (codes "h") 80 ∷ wait true (1 ∷ []) [] ∷ Reached 2 ∷ wait true (1 ∷ 2 ∷ []) (2 ∷ []) ∷ CanWrite 2 ∷ Asked 2 text10 ∷ wait true (1 ∷ 2 ∷ []) [] ∷ CanRead 2 ∷ Got 2 text11 ∷ CanWrite 1 ∷ Said 1 80 text12 ∷ wait true (1 ∷ 2 ∷ []) (1 ∷ []) ∷ CanWrite 1 ∷ Said 1 5 (codes "hello") ∷ wait true (1 ∷ 2 ∷ []) [] ∷ CanRead 2 ∷ Ended 2 ∷ Noted (Cut 1 Short) ∷ Shut 1 ∷ Dropped 2 ∷ wait true [] [] ∷ [])) ≡ true
unfolding judging
row23deleted21 = refl

row23deleted22 : is_some (fault_from 0 (start (record { words = (codes "diskRun=1") ∷ text0 ∷ text1 ∷ []; faults = 0 } ∷ record { words = (codes "diskRun=1") ∷ text0 ∷ text1 ∷ []; faults = 0 } ∷ [])) (Woke [] ∷ Rooted text2 ∷ Listed true ∷ Listens 8123 true ∷ wait true [] [] ∷ Clock 784111777 ∷ wait true [] [] ∷ Opened 1 ∷ wait true (1 ∷ []) [] ∷ CanRead 1 ∷ Heard 1 text9 ∷ Noted (Taken 1 0 Pass) ∷ Dialled 2 (codes "h") 80 ∷ wait true (1 ∷ []) [] ∷ Reached 2 ∷ wait true (1 ∷ 2 ∷ []) (2 ∷ []) ∷ CanWrite 2 ∷ Asked 2 text10 ∷ wait true (1 ∷ 2 ∷ []) [] ∷ CanRead 2 ∷ Got 2 text11 ∷ wait true (1 ∷ 2 ∷ []) (1 ∷ []) ∷ Said 1 80 text12 ∷ wait true (1 ∷ 2 ∷ []) (1 ∷ []) ∷ CanWrite 1 ∷ Said 1 5 (codes "hello") ∷ wait true (1 ∷ 2 ∷ []) [] ∷ CanRead 2 ∷ Ended 2 ∷ Noted (Cut 1 Short) ∷ Shut 1 ∷ Dropped 2 ∷ wait true [] [] ∷ [])) ≡ true
unfolding judging
row23deleted22 = refl

row23deleted23 : is_some (fault_from 0 (start (record { words = (codes "diskRun=1") ∷ text0 ∷ text1 ∷ []; faults = 0 } ∷ record { words = (codes "diskRun=1") ∷ text0 ∷ text1 ∷ []; faults = 0 } ∷ [])) (Woke [] ∷ Rooted text2 ∷ Listed true ∷ Listens 8123 true ∷ wait true [] [] ∷ Clock 784111777 ∷ wait true [] [] ∷ Opened 1 ∷ wait true (1 ∷ []) [] ∷ CanRead 1 ∷ Heard 1 text9 ∷ Noted (Taken 1 0 Pass) ∷ Dialled 2 (codes "h") 80 ∷ wait true (1 ∷ []) [] ∷ Reached 2 ∷ wait true (1 ∷ 2 ∷ []) (2 ∷ []) ∷ CanWrite 2 ∷ Asked 2 text10 ∷ wait true (1 ∷ 2 ∷ []) [] ∷ CanRead 2 ∷ Got 2 text11 ∷ wait true (1 ∷ 2 ∷ []) (1 ∷ []) ∷ CanWrite 1 ∷ wait true (1 ∷ 2 ∷ []) (1 ∷ []) ∷ CanWrite 1 ∷ Said 1 5 (codes "hello") ∷ wait true (1 ∷ 2 ∷ []) [] ∷ CanRead 2 ∷ Ended 2 ∷ Noted (Cut 1 Short) ∷ Shut 1 ∷ Dropped 2 ∷ wait true [] [] ∷ [])) ≡ true
unfolding judging
row23deleted23 = refl

row23deleted24 : is_some (fault_from 0 (start (record { words = (codes "diskRun=1") ∷ text0 ∷ text1 ∷ []; faults = 0 } ∷ record { words = (codes "diskRun=1") ∷ text0 ∷ text1 ∷ []; faults = 0 } ∷ [])) (Woke [] ∷ Rooted text2 ∷ Listed true ∷ Listens 8123 true ∷ wait true [] [] ∷ Clock 784111777 ∷ wait true [] [] ∷ Opened 1 ∷ wait true (1 ∷ []) [] ∷ CanRead 1 ∷ Heard 1 text9 ∷ Noted (Taken 1 0 Pass) ∷ Dialled 2 (codes "h") 80 ∷ wait true (1 ∷ []) [] ∷ Reached 2 ∷ wait true (1 ∷ 2 ∷ []) (2 ∷ []) ∷ CanWrite 2 ∷ Asked 2 text10 ∷ wait true (1 ∷ 2 ∷ []) [] ∷ CanRead 2 ∷ Got 2 text11 ∷ wait true (1 ∷ 2 ∷ []) (1 ∷ []) ∷ CanWrite 1 ∷ Said 1 80 text12 ∷ CanWrite 1 ∷ Said 1 5 (codes "hello") ∷ wait true (1 ∷ 2 ∷ []) [] ∷ CanRead 2 ∷ Ended 2 ∷ Noted (Cut 1 Short) ∷ Shut 1 ∷ Dropped 2 ∷ wait true [] [] ∷ [])) ≡ true
unfolding judging
row23deleted24 = refl

row23deleted25 : is_some (fault_from 0 (start (record { words = (codes "diskRun=1") ∷ text0 ∷ text1 ∷ []; faults = 0 } ∷ record { words = (codes "diskRun=1") ∷ text0 ∷ text1 ∷ []; faults = 0 } ∷ [])) (Woke [] ∷ Rooted text2 ∷ Listed true ∷ Listens 8123 true ∷ wait true [] [] ∷ Clock 784111777 ∷ wait true [] [] ∷ Opened 1 ∷ wait true (1 ∷ []) [] ∷ CanRead 1 ∷ Heard 1 text9 ∷ Noted (Taken 1 0 Pass) ∷ Dialled 2 (codes "h") 80 ∷ wait true (1 ∷ []) [] ∷ Reached 2 ∷ wait true (1 ∷ 2 ∷ []) (2 ∷ []) ∷ CanWrite 2 ∷ Asked 2 text10 ∷ wait true (1 ∷ 2 ∷ []) [] ∷ CanRead 2 ∷ Got 2 text11 ∷ wait true (1 ∷ 2 ∷ []) (1 ∷ []) ∷ CanWrite 1 ∷ Said 1 80 text12 ∷ wait true (1 ∷ 2 ∷ []) (1 ∷ []) ∷ Said 1 5 (codes "hello") ∷ wait true (1 ∷ 2 ∷ []) [] ∷ CanRead 2 ∷ Ended 2 ∷ Noted (Cut 1 Short) ∷ Shut 1 ∷ Dropped 2 ∷ wait true [] [] ∷ [])) ≡ true
unfolding judging
row23deleted25 = refl

row23deleted26 : is_some (fault_from 0 (start (record { words = (codes "diskRun=1") ∷ text0 ∷ text1 ∷ []; faults = 0 } ∷ record { words = (codes "diskRun=1") ∷ text0 ∷ text1 ∷ []; faults = 0 } ∷ [])) (Woke [] ∷ Rooted text2 ∷ Listed true ∷ Listens 8123 true ∷ wait true [] [] ∷ Clock 784111777 ∷ wait true [] [] ∷ Opened 1 ∷ wait true (1 ∷ []) [] ∷ CanRead 1 ∷ Heard 1 text9 ∷ Noted (Taken 1 0 Pass) ∷ Dialled 2 (codes "h") 80 ∷ wait true (1 ∷ []) [] ∷ Reached 2 ∷ wait true (1 ∷ 2 ∷ []) (2 ∷ []) ∷ CanWrite 2 ∷ Asked 2 text10 ∷ wait true (1 ∷ 2 ∷ []) [] ∷ CanRead 2 ∷ Got 2 text11 ∷ wait true (1 ∷ 2 ∷ []) (1 ∷ []) ∷ CanWrite 1 ∷ Said 1 80 text12 ∷ wait true (1 ∷ 2 ∷ []) (1 ∷ []) ∷ CanWrite 1 ∷ wait true (1 ∷ 2 ∷ []) [] ∷ CanRead 2 ∷ Ended 2 ∷ Noted (Cut 1 Short) ∷ Shut 1 ∷ Dropped 2 ∷ wait true [] [] ∷ [])) ≡ true
unfolding judging
row23deleted26 = refl

row23deleted27 : is_some (fault_from 0 (start (record { words = (codes "diskRun=1") ∷ text0 ∷ text1 ∷ []; faults = 0 } ∷ record { words = (codes "diskRun=1") ∷ text0 ∷ text1 ∷ []; faults = 0 } ∷ [])) (Woke [] ∷ Rooted text2 ∷ Listed true ∷ Listens 8123 true ∷ wait true [] [] ∷ Clock 784111777 ∷ wait true [] [] ∷ Opened 1 ∷ wait true (1 ∷ []) [] ∷ CanRead 1 ∷ Heard 1 text9 ∷ Noted (Taken 1 0 Pass) ∷ Dialled 2 (codes "h") 80 ∷ wait true (1 ∷ []) [] ∷ Reached 2 ∷ wait true (1 ∷ 2 ∷ []) (2 ∷ []) ∷ CanWrite 2 ∷ Asked 2 text10 ∷ wait true (1 ∷ 2 ∷ []) [] ∷ CanRead 2 ∷ Got 2 text11 ∷ wait true (1 ∷ 2 ∷ []) (1 ∷ []) ∷ CanWrite 1 ∷ Said 1 80 text12 ∷ wait true (1 ∷ 2 ∷ []) (1 ∷ []) ∷ CanWrite 1 ∷ Said 1 5 (codes "hello") ∷ CanRead 2 ∷ Ended 2 ∷ Noted (Cut 1 Short) ∷ Shut 1 ∷ Dropped 2 ∷ wait true [] [] ∷ [])) ≡ true
unfolding judging
row23deleted27 = refl

row23deleted28 : is_some (fault_from 0 (start (record { words = (codes "diskRun=1") ∷ text0 ∷ text1 ∷ []; faults = 0 } ∷ record { words = (codes "diskRun=1") ∷ text0 ∷ text1 ∷ []; faults = 0 } ∷ [])) (Woke [] ∷ Rooted text2 ∷ Listed true ∷ Listens 8123 true ∷ wait true [] [] ∷ Clock 784111777 ∷ wait true [] [] ∷ Opened 1 ∷ wait true (1 ∷ []) [] ∷ CanRead 1 ∷ Heard 1 text9 ∷ Noted (Taken 1 0 Pass) ∷ Dialled 2 (codes "h") 80 ∷ wait true (1 ∷ []) [] ∷ Reached 2 ∷ wait true (1 ∷ 2 ∷ []) (2 ∷ []) ∷ CanWrite 2 ∷ Asked 2 text10 ∷ wait true (1 ∷ 2 ∷ []) [] ∷ CanRead 2 ∷ Got 2 text11 ∷ wait true (1 ∷ 2 ∷ []) (1 ∷ []) ∷ CanWrite 1 ∷ Said 1 80 text12 ∷ wait true (1 ∷ 2 ∷ []) (1 ∷ []) ∷ CanWrite 1 ∷ Said 1 5 (codes "hello") ∷ wait true (1 ∷ 2 ∷ []) [] ∷ Ended 2 ∷ Noted (Cut 1 Short) ∷ Shut 1 ∷ Dropped 2 ∷ wait true [] [] ∷ [])) ≡ true
unfolding judging
row23deleted28 = refl

row23deleted29 : is_some (fault_from 0 (start (record { words = (codes "diskRun=1") ∷ text0 ∷ text1 ∷ []; faults = 0 } ∷ record { words = (codes "diskRun=1") ∷ text0 ∷ text1 ∷ []; faults = 0 } ∷ [])) (Woke [] ∷ Rooted text2 ∷ Listed true ∷ Listens 8123 true ∷ wait true [] [] ∷ Clock 784111777 ∷ wait true [] [] ∷ Opened 1 ∷ wait true (1 ∷ []) [] ∷ CanRead 1 ∷ Heard 1 text9 ∷ Noted (Taken 1 0 Pass) ∷ Dialled 2 (codes "h") 80 ∷ wait true (1 ∷ []) [] ∷ Reached 2 ∷ wait true (1 ∷ 2 ∷ []) (2 ∷ []) ∷ CanWrite 2 ∷ Asked 2 text10 ∷ wait true (1 ∷ 2 ∷ []) [] ∷ CanRead 2 ∷ Got 2 text11 ∷ wait true (1 ∷ 2 ∷ []) (1 ∷ []) ∷ CanWrite 1 ∷ Said 1 80 text12 ∷ wait true (1 ∷ 2 ∷ []) (1 ∷ []) ∷ CanWrite 1 ∷ Said 1 5 (codes "hello") ∷ wait true (1 ∷ 2 ∷ []) [] ∷ CanRead 2 ∷ Noted (Cut 1 Short) ∷ Shut 1 ∷ Dropped 2 ∷ wait true [] [] ∷ [])) ≡ true
unfolding judging
row23deleted29 = refl

row23deleted30 : is_some (fault_from 0 (start (record { words = (codes "diskRun=1") ∷ text0 ∷ text1 ∷ []; faults = 0 } ∷ record { words = (codes "diskRun=1") ∷ text0 ∷ text1 ∷ []; faults = 0 } ∷ [])) (Woke [] ∷ Rooted text2 ∷ Listed true ∷ Listens 8123 true ∷ wait true [] [] ∷ Clock 784111777 ∷ wait true [] [] ∷ Opened 1 ∷ wait true (1 ∷ []) [] ∷ CanRead 1 ∷ Heard 1 text9 ∷ Noted (Taken 1 0 Pass) ∷ Dialled 2 (codes "h") 80 ∷ wait true (1 ∷ []) [] ∷ Reached 2 ∷ wait true (1 ∷ 2 ∷ []) (2 ∷ []) ∷ CanWrite 2 ∷ Asked 2 text10 ∷ wait true (1 ∷ 2 ∷ []) [] ∷ CanRead 2 ∷ Got 2 text11 ∷ wait true (1 ∷ 2 ∷ []) (1 ∷ []) ∷ CanWrite 1 ∷ Said 1 80 text12 ∷ wait true (1 ∷ 2 ∷ []) (1 ∷ []) ∷ CanWrite 1 ∷ Said 1 5 (codes "hello") ∷ wait true (1 ∷ 2 ∷ []) [] ∷ CanRead 2 ∷ Ended 2 ∷ Shut 1 ∷ Dropped 2 ∷ wait true [] [] ∷ [])) ≡ true
unfolding judging
row23deleted30 = refl

row23deleted31 : is_some (fault_from 0 (start (record { words = (codes "diskRun=1") ∷ text0 ∷ text1 ∷ []; faults = 0 } ∷ record { words = (codes "diskRun=1") ∷ text0 ∷ text1 ∷ []; faults = 0 } ∷ [])) (Woke [] ∷ Rooted text2 ∷ Listed true ∷ Listens 8123 true ∷ wait true [] [] ∷ Clock 784111777 ∷ wait true [] [] ∷ Opened 1 ∷ wait true (1 ∷ []) [] ∷ CanRead 1 ∷ Heard 1 text9 ∷ Noted (Taken 1 0 Pass) ∷ Dialled 2 (codes "h") 80 ∷ wait true (1 ∷ []) [] ∷ Reached 2 ∷ wait true (1 ∷ 2 ∷ []) (2 ∷ []) ∷ CanWrite 2 ∷ Asked 2 text10 ∷ wait true (1 ∷ 2 ∷ []) [] ∷ CanRead 2 ∷ Got 2 text11 ∷ wait true (1 ∷ 2 ∷ []) (1 ∷ []) ∷ CanWrite 1 ∷ Said 1 80 text12 ∷ wait true (1 ∷ 2 ∷ []) (1 ∷ []) ∷ CanWrite 1 ∷ Said 1 5 (codes "hello") ∷ wait true (1 ∷ 2 ∷ []) [] ∷ CanRead 2 ∷ Ended 2 ∷ Noted (Cut 1 Short) ∷ Dropped 2 ∷ wait true [] [] ∷ [])) ≡ true
unfolding judging
row23deleted31 = refl

row23deleted32 : is_some (fault_from 0 (start (record { words = (codes "diskRun=1") ∷ text0 ∷ text1 ∷ []; faults = 0 } ∷ record { words = (codes "diskRun=1") ∷ text0 ∷ text1 ∷ []; faults = 0 } ∷ [])) (Woke [] ∷ Rooted text2 ∷ Listed true ∷ Listens 8123 true ∷ wait true [] [] ∷ Clock 784111777 ∷ wait true [] [] ∷ Opened 1 ∷ wait true (1 ∷ []) [] ∷ CanRead 1 ∷ Heard 1 text9 ∷ Noted (Taken 1 0 Pass) ∷ Dialled 2 (codes "h") 80 ∷ wait true (1 ∷ []) [] ∷ Reached 2 ∷ wait true (1 ∷ 2 ∷ []) (2 ∷ []) ∷ CanWrite 2 ∷ Asked 2 text10 ∷ wait true (1 ∷ 2 ∷ []) [] ∷ CanRead 2 ∷ Got 2 text11 ∷ wait true (1 ∷ 2 ∷ []) (1 ∷ []) ∷ CanWrite 1 ∷ Said 1 80 text12 ∷ wait true (1 ∷ 2 ∷ []) (1 ∷ []) ∷ CanWrite 1 ∷ Said 1 5 (codes "hello") ∷ wait true (1 ∷ 2 ∷ []) [] ∷ CanRead 2 ∷ Ended 2 ∷ Noted (Cut 1 Short) ∷ Shut 1 ∷ wait true [] [] ∷ [])) ≡ true
unfolding judging
row23deleted32 = refl

row23deleted33 : fault_from 0 (start (record { words = (codes "diskRun=1") ∷ text0 ∷ text1 ∷ []; faults = 0 } ∷ record { words = (codes "diskRun=1") ∷ text0 ∷ text1 ∷ []; faults = 0 } ∷ [])) (Woke [] ∷ Rooted text2 ∷ Listed true ∷ Listens 8123 true ∷ wait true [] [] ∷ Clock 784111777 ∷ wait true [] [] ∷ Opened 1 ∷ wait true (1 ∷ []) [] ∷ CanRead 1 ∷ Heard 1 text9 ∷ Noted (Taken 1 0 Pass) ∷ Dialled 2 (codes "h") 80 ∷ wait true (1 ∷ []) [] ∷ Reached 2 ∷ wait true (1 ∷ 2 ∷ []) (2 ∷ []) ∷ CanWrite 2 ∷ Asked 2 text10 ∷ wait true (1 ∷ 2 ∷ []) [] ∷ CanRead 2 ∷ Got 2 text11 ∷ wait true (1 ∷ 2 ∷ []) (1 ∷ []) ∷ CanWrite 1 ∷ Said 1 80 text12 ∷ wait true (1 ∷ 2 ∷ []) (1 ∷ []) ∷ CanWrite 1 ∷ Said 1 5 (codes "hello") ∷ wait true (1 ∷ 2 ∷ []) [] ∷ CanRead 2 ∷ Ended 2 ∷ Noted (Cut 1 Short) ∷ Shut 1 ∷ Dropped 2 ∷ []) ≡ None
unfolding judging
row23deleted33 = refl

row23doubled0 : fault_from 0 (start (record { words = (codes "diskRun=1") ∷ text0 ∷ text1 ∷ []; faults = 0 } ∷ record { words = (codes "diskRun=1") ∷ text0 ∷ text1 ∷ []; faults = 0 } ∷ [])) (Woke [] ∷ Woke [] ∷ Rooted text2 ∷ Listed true ∷ Listens 8123 true ∷ wait true [] [] ∷ Clock 784111777 ∷ wait true [] [] ∷ Opened 1 ∷ wait true (1 ∷ []) [] ∷ CanRead 1 ∷ Heard 1 text9 ∷ Noted (Taken 1 0 Pass) ∷ Dialled 2 (codes "h") 80 ∷ wait true (1 ∷ []) [] ∷ Reached 2 ∷ wait true (1 ∷ 2 ∷ []) (2 ∷ []) ∷ CanWrite 2 ∷ Asked 2 text10 ∷ wait true (1 ∷ 2 ∷ []) [] ∷ CanRead 2 ∷ Got 2 text11 ∷ wait true (1 ∷ 2 ∷ []) (1 ∷ []) ∷ CanWrite 1 ∷ Said 1 80 text12 ∷ wait true (1 ∷ 2 ∷ []) (1 ∷ []) ∷ CanWrite 1 ∷ Said 1 5 (codes "hello") ∷ wait true (1 ∷ 2 ∷ []) [] ∷ CanRead 2 ∷ Ended 2 ∷ Noted (Cut 1 Short) ∷ Shut 1 ∷ Dropped 2 ∷ wait true [] [] ∷ []) ≡ None
unfolding judging
row23doubled0 = refl

row23doubled1 : is_some (fault_from 0 (start (record { words = (codes "diskRun=1") ∷ text0 ∷ text1 ∷ []; faults = 0 } ∷ record { words = (codes "diskRun=1") ∷ text0 ∷ text1 ∷ []; faults = 0 } ∷ [])) (Woke [] ∷ Rooted text2 ∷ Rooted text2 ∷ Listed true ∷ Listens 8123 true ∷ wait true [] [] ∷ Clock 784111777 ∷ wait true [] [] ∷ Opened 1 ∷ wait true (1 ∷ []) [] ∷ CanRead 1 ∷ Heard 1 text9 ∷ Noted (Taken 1 0 Pass) ∷ Dialled 2 (codes "h") 80 ∷ wait true (1 ∷ []) [] ∷ Reached 2 ∷ wait true (1 ∷ 2 ∷ []) (2 ∷ []) ∷ CanWrite 2 ∷ Asked 2 text10 ∷ wait true (1 ∷ 2 ∷ []) [] ∷ CanRead 2 ∷ Got 2 text11 ∷ wait true (1 ∷ 2 ∷ []) (1 ∷ []) ∷ CanWrite 1 ∷ Said 1 80 text12 ∷ wait true (1 ∷ 2 ∷ []) (1 ∷ []) ∷ CanWrite 1 ∷ Said 1 5 (codes "hello") ∷ wait true (1 ∷ 2 ∷ []) [] ∷ CanRead 2 ∷ Ended 2 ∷ Noted (Cut 1 Short) ∷ Shut 1 ∷ Dropped 2 ∷ wait true [] [] ∷ [])) ≡ true
unfolding judging
row23doubled1 = refl

row23doubled2 : is_some (fault_from 0 (start (record { words = (codes "diskRun=1") ∷ text0 ∷ text1 ∷ []; faults = 0 } ∷ record { words = (codes "diskRun=1") ∷ text0 ∷ text1 ∷ []; faults = 0 } ∷ [])) (Woke [] ∷ Rooted text2 ∷ Listed true ∷ Listed true ∷ Listens 8123 true ∷ wait true [] [] ∷ Clock 784111777 ∷ wait true [] [] ∷ Opened 1 ∷ wait true (1 ∷ []) [] ∷ CanRead 1 ∷ Heard 1 text9 ∷ Noted (Taken 1 0 Pass) ∷ Dialled 2 (codes "h") 80 ∷ wait true (1 ∷ []) [] ∷ Reached 2 ∷ wait true (1 ∷ 2 ∷ []) (2 ∷ []) ∷ CanWrite 2 ∷ Asked 2 text10 ∷ wait true (1 ∷ 2 ∷ []) [] ∷ CanRead 2 ∷ Got 2 text11 ∷ wait true (1 ∷ 2 ∷ []) (1 ∷ []) ∷ CanWrite 1 ∷ Said 1 80 text12 ∷ wait true (1 ∷ 2 ∷ []) (1 ∷ []) ∷ CanWrite 1 ∷ Said 1 5 (codes "hello") ∷ wait true (1 ∷ 2 ∷ []) [] ∷ CanRead 2 ∷ Ended 2 ∷ Noted (Cut 1 Short) ∷ Shut 1 ∷ Dropped 2 ∷ wait true [] [] ∷ [])) ≡ true
unfolding judging
row23doubled2 = refl
