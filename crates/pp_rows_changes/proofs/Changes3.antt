-- The verdicts of transcripts/changes.log, written by transcripts/make_rows.
use Rattle.std.proofs.Common.{◌≡◌, refl, ℕ, List, [], ◌∷◌, ◌++◌, true, false, Bool, Option, None, Some, codes}
use Rattle.std.specs.Prelude.{replicate, is_some}
use Rattle.pp_world.specs.Log.{Log}
use Rattle.pp_world.specs.declared.happening.Happening.{Happening}
use Rattle.pp_world.specs.declared.happening.Happening.TheVariants.{Woke, Waits, Clock, Opened, CanRead, CanWrite, Heard, HungUp, Said, Shut, Dialled, Undialled, Reached, Ended, Broke, Asked, Got, Dropped, NoneYet, Began, Did, Unread, Noted, Rooted, Listed, Listens, Configured, Printed, Stopped}
use Rattle.pp_world.specs.declared.note.Decision.TheVariants.{Refuse, Hit, Part, Head, NotModified, Unsatisfiable, Relay, Validate, Fetch, Pass}
use Rattle.pp_world.specs.declared.note.Cause.TheVariants.{Superseded, Origin, Short, Idle, Memory, Stop}
use Rattle.pp_world.specs.declared.note.Remark.TheVariants.{Taken, Cut, Kept, Gone, Forgotten, Evicted, Loaded}
use Rattle.pp_world.specs.declared.op.DiskOp.TheVariants.{Draft, SyncDraft, Publish, Write, Sync, Remove}
use Rattle.pp_law.specs.Lists.{Bytes}
use Rattle.pp_law.specs.State.{State, start}
use Rattle.pp_law.specs.Lawful.{fault_from, Fault, ImageNotLeft, OpeningOutOfOrder, EventOutOfTurn, ReadNotAskedFor, FailureMadeUp, WrongReply, WrongAsk, WrongDecision, WrongCut, NotToBeClosed, NotToBeDialled, NotToBeEvicted, NotToBeForgotten, NotToBeLoaded, NotSealed, NotGone, WrongDiskOperation, StepUnfinished, AcceptsWrongly, ClientForgotten, ConnectionForgotten, ExchangeForgotten, WantsTooMuch}
use Rattle.pp_pieces.proofs.Forced.{judge, arrived, judging, told, tell}

abbrev wait : Bool → List ℕ → List ℕ → Happening
wait accept read write = Waits (record { accept = accept; read = record { items = read }; write = record { items = write } })

abbrev text0 : Bytes
text0 = (codes "pipelineAsks=1")

abbrev text1 : Bytes
text1 = (codes "hostConnections=4")

abbrev text2 : Bytes
text2 = (codes "polipo-cache")

abbrev text3 : Bytes
text3 = (codes "GET http://h/a HTTP/1.1\r\nHost: h\r\n\r\n")

abbrev text4 : Bytes
text4 = (codes "GET /a HTTP/1.1\r\nhost: h\r\nvia: 1.1 polipo\r\n\r\n")

abbrev text5 : Bytes
text5 = (codes "HTTP/1.1 200 OK\r\nDate: Sun, 06 Nov 1994 08:49:37 GMT\r\nETag: \"x\"\r\nCache-Control: max-age=60\r\nContent-Length: 5\r\n\r\nhello")

abbrev text6 : Bytes
text6 = (codes "HTTP/1.1 200 OK\r\netag: \"x\"\r\ndate: Sun, 06 Nov 1994 08:49:37 GMT\r\ncache-control: max-age=60\r\nX-Polipo-Location: http://h/a\r\nX-Polipo-Date: 784111777\r\nX-Polipo-Age: 0\r\nX-Polipo-Length: 5\r\nX-Polipo-Body-Offset: 12288\r\n\r\n" ++ replicate 12071 0)

abbrev text7 : Bytes
text7 = (codes "2ce7276502725c281e6d5ae4e55aed55")

abbrev text8 : Bytes
text8 = (codes "HTTP/1.1 200 OK\r\netag: \"x\"\r\ndate: Sun, 06 Nov 1994 08:49:37 GMT\r\ncache-control: max-age=60\r\nvia: 1.1 polipo\r\ncontent-length: 5\r\nconnection: keep-alive\r\n\r\n")

row16deleted42 : is_some (fault_from 0 (start (record { words = (codes "diskRun=1") ∷ text0 ∷ text1 ∷ []; faults = 0 } ∷ record { words = (codes "diskRun=1") ∷ text0 ∷ text1 ∷ []; faults = 0 } ∷ [])) (Woke [] ∷ Rooted text2 ∷ Listed true ∷ Listens 8123 true ∷ wait true [] [] ∷ Clock 784111777 ∷ wait true [] [] ∷ Opened 1 ∷ wait true (1 ∷ []) [] ∷ CanRead 1 ∷ Heard 1 text3 ∷ Noted (Taken 1 0 Fetch) ∷ Dialled 2 (codes "h") 80 ∷ wait true (1 ∷ []) [] ∷ Reached 2 ∷ wait true (1 ∷ 2 ∷ []) (2 ∷ []) ∷ CanWrite 2 ∷ Asked 2 text4 ∷ wait true (1 ∷ 2 ∷ []) [] ∷ CanRead 2 ∷ Got 2 text5 ∷ Began (Draft text6) ∷ Did (Draft text6) true ∷ Began SyncDraft ∷ Did SyncDraft true ∷ Began (Publish text7) ∷ Did (Publish text7) true ∷ Began (Write text7 12288 (codes "hello")) ∷ Did (Write text7 12288 (codes "hello")) true ∷ Began (Sync text7) ∷ Did (Sync text7) true ∷ Began (Write text7 8192 ((1 ∷ []))) ∷ Did (Write text7 8192 ((1 ∷ []))) true ∷ Began (Sync text7) ∷ Did (Sync text7) true ∷ Noted (Kept (codes "http://h/a") (codes "\"x\"") 5 5) ∷ Noted (Taken 1 0 (Hit 0 5)) ∷ wait true (1 ∷ 2 ∷ []) (1 ∷ []) ∷ CanWrite 1 ∷ Said 1 154 text8 ∷ wait true (1 ∷ 2 ∷ []) (1 ∷ []) ∷ CanWrite 1 ∷ wait true (1 ∷ 2 ∷ []) [] ∷ [])) ≡ true
unfolding judging
row16deleted42 = refl

row16deleted43 : fault_from 0 (start (record { words = (codes "diskRun=1") ∷ text0 ∷ text1 ∷ []; faults = 0 } ∷ record { words = (codes "diskRun=1") ∷ text0 ∷ text1 ∷ []; faults = 0 } ∷ [])) (Woke [] ∷ Rooted text2 ∷ Listed true ∷ Listens 8123 true ∷ wait true [] [] ∷ Clock 784111777 ∷ wait true [] [] ∷ Opened 1 ∷ wait true (1 ∷ []) [] ∷ CanRead 1 ∷ Heard 1 text3 ∷ Noted (Taken 1 0 Fetch) ∷ Dialled 2 (codes "h") 80 ∷ wait true (1 ∷ []) [] ∷ Reached 2 ∷ wait true (1 ∷ 2 ∷ []) (2 ∷ []) ∷ CanWrite 2 ∷ Asked 2 text4 ∷ wait true (1 ∷ 2 ∷ []) [] ∷ CanRead 2 ∷ Got 2 text5 ∷ Began (Draft text6) ∷ Did (Draft text6) true ∷ Began SyncDraft ∷ Did SyncDraft true ∷ Began (Publish text7) ∷ Did (Publish text7) true ∷ Began (Write text7 12288 (codes "hello")) ∷ Did (Write text7 12288 (codes "hello")) true ∷ Began (Sync text7) ∷ Did (Sync text7) true ∷ Began (Write text7 8192 ((1 ∷ []))) ∷ Did (Write text7 8192 ((1 ∷ []))) true ∷ Began (Sync text7) ∷ Did (Sync text7) true ∷ Noted (Kept (codes "http://h/a") (codes "\"x\"") 5 5) ∷ Noted (Taken 1 0 (Hit 0 5)) ∷ wait true (1 ∷ 2 ∷ []) (1 ∷ []) ∷ CanWrite 1 ∷ Said 1 154 text8 ∷ wait true (1 ∷ 2 ∷ []) (1 ∷ []) ∷ CanWrite 1 ∷ Said 1 5 (codes "hello") ∷ []) ≡ None
unfolding judging
row16deleted43 = refl

row16doubled0 : fault_from 0 (start (record { words = (codes "diskRun=1") ∷ text0 ∷ text1 ∷ []; faults = 0 } ∷ record { words = (codes "diskRun=1") ∷ text0 ∷ text1 ∷ []; faults = 0 } ∷ [])) (Woke [] ∷ Woke [] ∷ Rooted text2 ∷ Listed true ∷ Listens 8123 true ∷ wait true [] [] ∷ Clock 784111777 ∷ wait true [] [] ∷ Opened 1 ∷ wait true (1 ∷ []) [] ∷ CanRead 1 ∷ Heard 1 text3 ∷ Noted (Taken 1 0 Fetch) ∷ Dialled 2 (codes "h") 80 ∷ wait true (1 ∷ []) [] ∷ Reached 2 ∷ wait true (1 ∷ 2 ∷ []) (2 ∷ []) ∷ CanWrite 2 ∷ Asked 2 text4 ∷ wait true (1 ∷ 2 ∷ []) [] ∷ CanRead 2 ∷ Got 2 text5 ∷ Began (Draft text6) ∷ Did (Draft text6) true ∷ Began SyncDraft ∷ Did SyncDraft true ∷ Began (Publish text7) ∷ Did (Publish text7) true ∷ Began (Write text7 12288 (codes "hello")) ∷ Did (Write text7 12288 (codes "hello")) true ∷ Began (Sync text7) ∷ Did (Sync text7) true ∷ Began (Write text7 8192 ((1 ∷ []))) ∷ Did (Write text7 8192 ((1 ∷ []))) true ∷ Began (Sync text7) ∷ Did (Sync text7) true ∷ Noted (Kept (codes "http://h/a") (codes "\"x\"") 5 5) ∷ Noted (Taken 1 0 (Hit 0 5)) ∷ wait true (1 ∷ 2 ∷ []) (1 ∷ []) ∷ CanWrite 1 ∷ Said 1 154 text8 ∷ wait true (1 ∷ 2 ∷ []) (1 ∷ []) ∷ CanWrite 1 ∷ Said 1 5 (codes "hello") ∷ wait true (1 ∷ 2 ∷ []) [] ∷ []) ≡ None
unfolding judging
row16doubled0 = refl

row16doubled1 : is_some (fault_from 0 (start (record { words = (codes "diskRun=1") ∷ text0 ∷ text1 ∷ []; faults = 0 } ∷ record { words = (codes "diskRun=1") ∷ text0 ∷ text1 ∷ []; faults = 0 } ∷ [])) (Woke [] ∷ Rooted text2 ∷ Rooted text2 ∷ Listed true ∷ Listens 8123 true ∷ wait true [] [] ∷ Clock 784111777 ∷ wait true [] [] ∷ Opened 1 ∷ wait true (1 ∷ []) [] ∷ CanRead 1 ∷ Heard 1 text3 ∷ Noted (Taken 1 0 Fetch) ∷ Dialled 2 (codes "h") 80 ∷ wait true (1 ∷ []) [] ∷ Reached 2 ∷ wait true (1 ∷ 2 ∷ []) (2 ∷ []) ∷ CanWrite 2 ∷ Asked 2 text4 ∷ wait true (1 ∷ 2 ∷ []) [] ∷ CanRead 2 ∷ Got 2 text5 ∷ Began (Draft text6) ∷ Did (Draft text6) true ∷ Began SyncDraft ∷ Did SyncDraft true ∷ Began (Publish text7) ∷ Did (Publish text7) true ∷ Began (Write text7 12288 (codes "hello")) ∷ Did (Write text7 12288 (codes "hello")) true ∷ Began (Sync text7) ∷ Did (Sync text7) true ∷ Began (Write text7 8192 ((1 ∷ []))) ∷ Did (Write text7 8192 ((1 ∷ []))) true ∷ Began (Sync text7) ∷ Did (Sync text7) true ∷ Noted (Kept (codes "http://h/a") (codes "\"x\"") 5 5) ∷ Noted (Taken 1 0 (Hit 0 5)) ∷ wait true (1 ∷ 2 ∷ []) (1 ∷ []) ∷ CanWrite 1 ∷ Said 1 154 text8 ∷ wait true (1 ∷ 2 ∷ []) (1 ∷ []) ∷ CanWrite 1 ∷ Said 1 5 (codes "hello") ∷ wait true (1 ∷ 2 ∷ []) [] ∷ [])) ≡ true
unfolding judging
row16doubled1 = refl

row16doubled2 : is_some (fault_from 0 (start (record { words = (codes "diskRun=1") ∷ text0 ∷ text1 ∷ []; faults = 0 } ∷ record { words = (codes "diskRun=1") ∷ text0 ∷ text1 ∷ []; faults = 0 } ∷ [])) (Woke [] ∷ Rooted text2 ∷ Listed true ∷ Listed true ∷ Listens 8123 true ∷ wait true [] [] ∷ Clock 784111777 ∷ wait true [] [] ∷ Opened 1 ∷ wait true (1 ∷ []) [] ∷ CanRead 1 ∷ Heard 1 text3 ∷ Noted (Taken 1 0 Fetch) ∷ Dialled 2 (codes "h") 80 ∷ wait true (1 ∷ []) [] ∷ Reached 2 ∷ wait true (1 ∷ 2 ∷ []) (2 ∷ []) ∷ CanWrite 2 ∷ Asked 2 text4 ∷ wait true (1 ∷ 2 ∷ []) [] ∷ CanRead 2 ∷ Got 2 text5 ∷ Began (Draft text6) ∷ Did (Draft text6) true ∷ Began SyncDraft ∷ Did SyncDraft true ∷ Began (Publish text7) ∷ Did (Publish text7) true ∷ Began (Write text7 12288 (codes "hello")) ∷ Did (Write text7 12288 (codes "hello")) true ∷ Began (Sync text7) ∷ Did (Sync text7) true ∷ Began (Write text7 8192 ((1 ∷ []))) ∷ Did (Write text7 8192 ((1 ∷ []))) true ∷ Began (Sync text7) ∷ Did (Sync text7) true ∷ Noted (Kept (codes "http://h/a") (codes "\"x\"") 5 5) ∷ Noted (Taken 1 0 (Hit 0 5)) ∷ wait true (1 ∷ 2 ∷ []) (1 ∷ []) ∷ CanWrite 1 ∷ Said 1 154 text8 ∷ wait true (1 ∷ 2 ∷ []) (1 ∷ []) ∷ CanWrite 1 ∷ Said 1 5 (codes "hello") ∷ wait true (1 ∷ 2 ∷ []) [] ∷ [])) ≡ true
unfolding judging
row16doubled2 = refl

row16doubled3 : is_some (fault_from 0 (start (record { words = (codes "diskRun=1") ∷ text0 ∷ text1 ∷ []; faults = 0 } ∷ record { words = (codes "diskRun=1") ∷ text0 ∷ text1 ∷ []; faults = 0 } ∷ [])) (Woke [] ∷ Rooted text2 ∷ Listed true ∷ Listens 8123 true ∷ Listens 8123 true ∷ wait true [] [] ∷ Clock 784111777 ∷ wait true [] [] ∷ Opened 1 ∷ wait true (1 ∷ []) [] ∷ CanRead 1 ∷ Heard 1 text3 ∷ Noted (Taken 1 0 Fetch) ∷ Dialled 2 (codes "h") 80 ∷ wait true (1 ∷ []) [] ∷ Reached 2 ∷ wait true (1 ∷ 2 ∷ []) (2 ∷ []) ∷ CanWrite 2 ∷ Asked 2 text4 ∷ wait true (1 ∷ 2 ∷ []) [] ∷ CanRead 2 ∷ Got 2 text5 ∷ Began (Draft text6) ∷ Did (Draft text6) true ∷ Began SyncDraft ∷ Did SyncDraft true ∷ Began (Publish text7) ∷ Did (Publish text7) true ∷ Began (Write text7 12288 (codes "hello")) ∷ Did (Write text7 12288 (codes "hello")) true ∷ Began (Sync text7) ∷ Did (Sync text7) true ∷ Began (Write text7 8192 ((1 ∷ []))) ∷ Did (Write text7 8192 ((1 ∷ []))) true ∷ Began (Sync text7) ∷ Did (Sync text7) true ∷ Noted (Kept (codes "http://h/a") (codes "\"x\"") 5 5) ∷ Noted (Taken 1 0 (Hit 0 5)) ∷ wait true (1 ∷ 2 ∷ []) (1 ∷ []) ∷ CanWrite 1 ∷ Said 1 154 text8 ∷ wait true (1 ∷ 2 ∷ []) (1 ∷ []) ∷ CanWrite 1 ∷ Said 1 5 (codes "hello") ∷ wait true (1 ∷ 2 ∷ []) [] ∷ [])) ≡ true
unfolding judging
row16doubled3 = refl

row16doubled4 : is_some (fault_from 0 (start (record { words = (codes "diskRun=1") ∷ text0 ∷ text1 ∷ []; faults = 0 } ∷ record { words = (codes "diskRun=1") ∷ text0 ∷ text1 ∷ []; faults = 0 } ∷ [])) (Woke [] ∷ Rooted text2 ∷ Listed true ∷ Listens 8123 true ∷ wait true [] [] ∷ wait true [] [] ∷ Clock 784111777 ∷ wait true [] [] ∷ Opened 1 ∷ wait true (1 ∷ []) [] ∷ CanRead 1 ∷ Heard 1 text3 ∷ Noted (Taken 1 0 Fetch) ∷ Dialled 2 (codes "h") 80 ∷ wait true (1 ∷ []) [] ∷ Reached 2 ∷ wait true (1 ∷ 2 ∷ []) (2 ∷ []) ∷ CanWrite 2 ∷ Asked 2 text4 ∷ wait true (1 ∷ 2 ∷ []) [] ∷ CanRead 2 ∷ Got 2 text5 ∷ Began (Draft text6) ∷ Did (Draft text6) true ∷ Began SyncDraft ∷ Did SyncDraft true ∷ Began (Publish text7) ∷ Did (Publish text7) true ∷ Began (Write text7 12288 (codes "hello")) ∷ Did (Write text7 12288 (codes "hello")) true ∷ Began (Sync text7) ∷ Did (Sync text7) true ∷ Began (Write text7 8192 ((1 ∷ []))) ∷ Did (Write text7 8192 ((1 ∷ []))) true ∷ Began (Sync text7) ∷ Did (Sync text7) true ∷ Noted (Kept (codes "http://h/a") (codes "\"x\"") 5 5) ∷ Noted (Taken 1 0 (Hit 0 5)) ∷ wait true (1 ∷ 2 ∷ []) (1 ∷ []) ∷ CanWrite 1 ∷ Said 1 154 text8 ∷ wait true (1 ∷ 2 ∷ []) (1 ∷ []) ∷ CanWrite 1 ∷ Said 1 5 (codes "hello") ∷ wait true (1 ∷ 2 ∷ []) [] ∷ [])) ≡ true
unfolding judging
row16doubled4 = refl

row16doubled5 : is_some (fault_from 0 (start (record { words = (codes "diskRun=1") ∷ text0 ∷ text1 ∷ []; faults = 0 } ∷ record { words = (codes "diskRun=1") ∷ text0 ∷ text1 ∷ []; faults = 0 } ∷ [])) (Woke [] ∷ Rooted text2 ∷ Listed true ∷ Listens 8123 true ∷ wait true [] [] ∷ Clock 784111777 ∷ Clock 784111777 ∷ wait true [] [] ∷ Opened 1 ∷ wait true (1 ∷ []) [] ∷ CanRead 1 ∷ Heard 1 text3 ∷ Noted (Taken 1 0 Fetch) ∷ Dialled 2 (codes "h") 80 ∷ wait true (1 ∷ []) [] ∷ Reached 2 ∷ wait true (1 ∷ 2 ∷ []) (2 ∷ []) ∷ CanWrite 2 ∷ Asked 2 text4 ∷ wait true (1 ∷ 2 ∷ []) [] ∷ CanRead 2 ∷ Got 2 text5 ∷ Began (Draft text6) ∷ Did (Draft text6) true ∷ Began SyncDraft ∷ Did SyncDraft true ∷ Began (Publish text7) ∷ Did (Publish text7) true ∷ Began (Write text7 12288 (codes "hello")) ∷ Did (Write text7 12288 (codes "hello")) true ∷ Began (Sync text7) ∷ Did (Sync text7) true ∷ Began (Write text7 8192 ((1 ∷ []))) ∷ Did (Write text7 8192 ((1 ∷ []))) true ∷ Began (Sync text7) ∷ Did (Sync text7) true ∷ Noted (Kept (codes "http://h/a") (codes "\"x\"") 5 5) ∷ Noted (Taken 1 0 (Hit 0 5)) ∷ wait true (1 ∷ 2 ∷ []) (1 ∷ []) ∷ CanWrite 1 ∷ Said 1 154 text8 ∷ wait true (1 ∷ 2 ∷ []) (1 ∷ []) ∷ CanWrite 1 ∷ Said 1 5 (codes "hello") ∷ wait true (1 ∷ 2 ∷ []) [] ∷ [])) ≡ true
unfolding judging
row16doubled5 = refl

row16doubled6 : is_some (fault_from 0 (start (record { words = (codes "diskRun=1") ∷ text0 ∷ text1 ∷ []; faults = 0 } ∷ record { words = (codes "diskRun=1") ∷ text0 ∷ text1 ∷ []; faults = 0 } ∷ [])) (Woke [] ∷ Rooted text2 ∷ Listed true ∷ Listens 8123 true ∷ wait true [] [] ∷ Clock 784111777 ∷ wait true [] [] ∷ wait true [] [] ∷ Opened 1 ∷ wait true (1 ∷ []) [] ∷ CanRead 1 ∷ Heard 1 text3 ∷ Noted (Taken 1 0 Fetch) ∷ Dialled 2 (codes "h") 80 ∷ wait true (1 ∷ []) [] ∷ Reached 2 ∷ wait true (1 ∷ 2 ∷ []) (2 ∷ []) ∷ CanWrite 2 ∷ Asked 2 text4 ∷ wait true (1 ∷ 2 ∷ []) [] ∷ CanRead 2 ∷ Got 2 text5 ∷ Began (Draft text6) ∷ Did (Draft text6) true ∷ Began SyncDraft ∷ Did SyncDraft true ∷ Began (Publish text7) ∷ Did (Publish text7) true ∷ Began (Write text7 12288 (codes "hello")) ∷ Did (Write text7 12288 (codes "hello")) true ∷ Began (Sync text7) ∷ Did (Sync text7) true ∷ Began (Write text7 8192 ((1 ∷ []))) ∷ Did (Write text7 8192 ((1 ∷ []))) true ∷ Began (Sync text7) ∷ Did (Sync text7) true ∷ Noted (Kept (codes "http://h/a") (codes "\"x\"") 5 5) ∷ Noted (Taken 1 0 (Hit 0 5)) ∷ wait true (1 ∷ 2 ∷ []) (1 ∷ []) ∷ CanWrite 1 ∷ Said 1 154 text8 ∷ wait true (1 ∷ 2 ∷ []) (1 ∷ []) ∷ CanWrite 1 ∷ Said 1 5 (codes "hello") ∷ wait true (1 ∷ 2 ∷ []) [] ∷ [])) ≡ true
unfolding judging
row16doubled6 = refl

row16doubled7 : is_some (fault_from 0 (start (record { words = (codes "diskRun=1") ∷ text0 ∷ text1 ∷ []; faults = 0 } ∷ record { words = (codes "diskRun=1") ∷ text0 ∷ text1 ∷ []; faults = 0 } ∷ [])) (Woke [] ∷ Rooted text2 ∷ Listed true ∷ Listens 8123 true ∷ wait true [] [] ∷ Clock 784111777 ∷ wait true [] [] ∷ Opened 1 ∷ Opened 1 ∷ wait true (1 ∷ []) [] ∷ CanRead 1 ∷ Heard 1 text3 ∷ Noted (Taken 1 0 Fetch) ∷ Dialled 2 (codes "h") 80 ∷ wait true (1 ∷ []) [] ∷ Reached 2 ∷ wait true (1 ∷ 2 ∷ []) (2 ∷ []) ∷ CanWrite 2 ∷ Asked 2 text4 ∷ wait true (1 ∷ 2 ∷ []) [] ∷ CanRead 2 ∷ Got 2 text5 ∷ Began (Draft text6) ∷ Did (Draft text6) true ∷ Began SyncDraft ∷ Did SyncDraft true ∷ Began (Publish text7) ∷ Did (Publish text7) true ∷ Began (Write text7 12288 (codes "hello")) ∷ Did (Write text7 12288 (codes "hello")) true ∷ Began (Sync text7) ∷ Did (Sync text7) true ∷ Began (Write text7 8192 ((1 ∷ []))) ∷ Did (Write text7 8192 ((1 ∷ []))) true ∷ Began (Sync text7) ∷ Did (Sync text7) true ∷ Noted (Kept (codes "http://h/a") (codes "\"x\"") 5 5) ∷ Noted (Taken 1 0 (Hit 0 5)) ∷ wait true (1 ∷ 2 ∷ []) (1 ∷ []) ∷ CanWrite 1 ∷ Said 1 154 text8 ∷ wait true (1 ∷ 2 ∷ []) (1 ∷ []) ∷ CanWrite 1 ∷ Said 1 5 (codes "hello") ∷ wait true (1 ∷ 2 ∷ []) [] ∷ [])) ≡ true
unfolding judging
row16doubled7 = refl

row16doubled8 : is_some (fault_from 0 (start (record { words = (codes "diskRun=1") ∷ text0 ∷ text1 ∷ []; faults = 0 } ∷ record { words = (codes "diskRun=1") ∷ text0 ∷ text1 ∷ []; faults = 0 } ∷ [])) (Woke [] ∷ Rooted text2 ∷ Listed true ∷ Listens 8123 true ∷ wait true [] [] ∷ Clock 784111777 ∷ wait true [] [] ∷ Opened 1 ∷ wait true (1 ∷ []) [] ∷ wait true (1 ∷ []) [] ∷ CanRead 1 ∷ Heard 1 text3 ∷ Noted (Taken 1 0 Fetch) ∷ Dialled 2 (codes "h") 80 ∷ wait true (1 ∷ []) [] ∷ Reached 2 ∷ wait true (1 ∷ 2 ∷ []) (2 ∷ []) ∷ CanWrite 2 ∷ Asked 2 text4 ∷ wait true (1 ∷ 2 ∷ []) [] ∷ CanRead 2 ∷ Got 2 text5 ∷ Began (Draft text6) ∷ Did (Draft text6) true ∷ Began SyncDraft ∷ Did SyncDraft true ∷ Began (Publish text7) ∷ Did (Publish text7) true ∷ Began (Write text7 12288 (codes "hello")) ∷ Did (Write text7 12288 (codes "hello")) true ∷ Began (Sync text7) ∷ Did (Sync text7) true ∷ Began (Write text7 8192 ((1 ∷ []))) ∷ Did (Write text7 8192 ((1 ∷ []))) true ∷ Began (Sync text7) ∷ Did (Sync text7) true ∷ Noted (Kept (codes "http://h/a") (codes "\"x\"") 5 5) ∷ Noted (Taken 1 0 (Hit 0 5)) ∷ wait true (1 ∷ 2 ∷ []) (1 ∷ []) ∷ CanWrite 1 ∷ Said 1 154 text8 ∷ wait true (1 ∷ 2 ∷ []) (1 ∷ []) ∷ CanWrite 1 ∷ Said 1 5 (codes "hello") ∷ wait true (1 ∷ 2 ∷ []) [] ∷ [])) ≡ true
unfolding judging
row16doubled8 = refl

row16doubled9 : is_some (fault_from 0 (start (record { words = (codes "diskRun=1") ∷ text0 ∷ text1 ∷ []; faults = 0 } ∷ record { words = (codes "diskRun=1") ∷ text0 ∷ text1 ∷ []; faults = 0 } ∷ [])) (Woke [] ∷ Rooted text2 ∷ Listed true ∷ Listens 8123 true ∷ wait true [] [] ∷ Clock 784111777 ∷ wait true [] [] ∷ Opened 1 ∷ wait true (1 ∷ []) [] ∷ CanRead 1 ∷ CanRead 1 ∷ Heard 1 text3 ∷ Noted (Taken 1 0 Fetch) ∷ Dialled 2 (codes "h") 80 ∷ wait true (1 ∷ []) [] ∷ Reached 2 ∷ wait true (1 ∷ 2 ∷ []) (2 ∷ []) ∷ CanWrite 2 ∷ Asked 2 text4 ∷ wait true (1 ∷ 2 ∷ []) [] ∷ CanRead 2 ∷ Got 2 text5 ∷ Began (Draft text6) ∷ Did (Draft text6) true ∷ Began SyncDraft ∷ Did SyncDraft true ∷ Began (Publish text7) ∷ Did (Publish text7) true ∷ Began (Write text7 12288 (codes "hello")) ∷ Did (Write text7 12288 (codes "hello")) true ∷ Began (Sync text7) ∷ Did (Sync text7) true ∷ Began (Write text7 8192 ((1 ∷ []))) ∷ Did (Write text7 8192 ((1 ∷ []))) true ∷ Began (Sync text7) ∷ Did (Sync text7) true ∷ Noted (Kept (codes "http://h/a") (codes "\"x\"") 5 5) ∷ Noted (Taken 1 0 (Hit 0 5)) ∷ wait true (1 ∷ 2 ∷ []) (1 ∷ []) ∷ CanWrite 1 ∷ Said 1 154 text8 ∷ wait true (1 ∷ 2 ∷ []) (1 ∷ []) ∷ CanWrite 1 ∷ Said 1 5 (codes "hello") ∷ wait true (1 ∷ 2 ∷ []) [] ∷ [])) ≡ true
unfolding judging
row16doubled9 = refl

row16doubled10 : is_some (fault_from 0 (start (record { words = (codes "diskRun=1") ∷ text0 ∷ text1 ∷ []; faults = 0 } ∷ record { words = (codes "diskRun=1") ∷ text0 ∷ text1 ∷ []; faults = 0 } ∷ [])) (Woke [] ∷ Rooted text2 ∷ Listed true ∷ Listens 8123 true ∷ wait true [] [] ∷ Clock 784111777 ∷ wait true [] [] ∷ Opened 1 ∷ wait true (1 ∷ []) [] ∷ CanRead 1 ∷ Heard 1 text3 ∷ Heard 1 text3 ∷ Noted (Taken 1 0 Fetch) ∷ Dialled 2 (codes "h") 80 ∷ wait true (1 ∷ []) [] ∷ Reached 2 ∷ wait true (1 ∷ 2 ∷ []) (2 ∷ []) ∷ CanWrite 2 ∷ Asked 2 text4 ∷ wait true (1 ∷ 2 ∷ []) [] ∷ CanRead 2 ∷ Got 2 text5 ∷ Began (Draft text6) ∷ Did (Draft text6) true ∷ Began SyncDraft ∷ Did SyncDraft true ∷ Began (Publish text7) ∷ Did (Publish text7) true ∷ Began (Write text7 12288 (codes "hello")) ∷ Did (Write text7 12288 (codes "hello")) true ∷ Began (Sync text7) ∷ Did (Sync text7) true ∷ Began (Write text7 8192 ((1 ∷ []))) ∷ Did (Write text7 8192 ((1 ∷ []))) true ∷ Began (Sync text7) ∷ Did (Sync text7) true ∷ Noted (Kept (codes "http://h/a") (codes "\"x\"") 5 5) ∷ Noted (Taken 1 0 (Hit 0 5)) ∷ wait true (1 ∷ 2 ∷ []) (1 ∷ []) ∷ CanWrite 1 ∷ Said 1 154 text8 ∷ wait true (1 ∷ 2 ∷ []) (1 ∷ []) ∷ CanWrite 1 ∷ Said 1 5 (codes "hello") ∷ wait true (1 ∷ 2 ∷ []) [] ∷ [])) ≡ true
unfolding judging
row16doubled10 = refl

row16doubled11 : is_some (fault_from 0 (start (record { words = (codes "diskRun=1") ∷ text0 ∷ text1 ∷ []; faults = 0 } ∷ record { words = (codes "diskRun=1") ∷ text0 ∷ text1 ∷ []; faults = 0 } ∷ [])) (Woke [] ∷ Rooted text2 ∷ Listed true ∷ Listens 8123 true ∷ wait true [] [] ∷ Clock 784111777 ∷ wait true [] [] ∷ Opened 1 ∷ wait true (1 ∷ []) [] ∷ CanRead 1 ∷ Heard 1 text3 ∷ Noted (Taken 1 0 Fetch) ∷ Noted (Taken 1 0 Fetch) ∷ Dialled 2 (codes "h") 80 ∷ wait true (1 ∷ []) [] ∷ Reached 2 ∷ wait true (1 ∷ 2 ∷ []) (2 ∷ []) ∷ CanWrite 2 ∷ Asked 2 text4 ∷ wait true (1 ∷ 2 ∷ []) [] ∷ CanRead 2 ∷ Got 2 text5 ∷ Began (Draft text6) ∷ Did (Draft text6) true ∷ Began SyncDraft ∷ Did SyncDraft true ∷ Began (Publish text7) ∷ Did (Publish text7) true ∷ Began (Write text7 12288 (codes "hello")) ∷ Did (Write text7 12288 (codes "hello")) true ∷ Began (Sync text7) ∷ Did (Sync text7) true ∷ Began (Write text7 8192 ((1 ∷ []))) ∷ Did (Write text7 8192 ((1 ∷ []))) true ∷ Began (Sync text7) ∷ Did (Sync text7) true ∷ Noted (Kept (codes "http://h/a") (codes "\"x\"") 5 5) ∷ Noted (Taken 1 0 (Hit 0 5)) ∷ wait true (1 ∷ 2 ∷ []) (1 ∷ []) ∷ CanWrite 1 ∷ Said 1 154 text8 ∷ wait true (1 ∷ 2 ∷ []) (1 ∷ []) ∷ CanWrite 1 ∷ Said 1 5 (codes "hello") ∷ wait true (1 ∷ 2 ∷ []) [] ∷ [])) ≡ true
unfolding judging
row16doubled11 = refl

row16doubled12 : is_some (fault_from 0 (start (record { words = (codes "diskRun=1") ∷ text0 ∷ text1 ∷ []; faults = 0 } ∷ record { words = (codes "diskRun=1") ∷ text0 ∷ text1 ∷ []; faults = 0 } ∷ [])) (Woke [] ∷ Rooted text2 ∷ Listed true ∷ Listens 8123 true ∷ wait true [] [] ∷ Clock 784111777 ∷ wait true [] [] ∷ Opened 1 ∷ wait true (1 ∷ []) [] ∷ CanRead 1 ∷ Heard 1 text3 ∷ Noted (Taken 1 0 Fetch) ∷ Dialled 2 (codes "h") 80 ∷ Dialled 2 (codes "h") 80 ∷ wait true (1 ∷ []) [] ∷ Reached 2 ∷ wait true (1 ∷ 2 ∷ []) (2 ∷ []) ∷ CanWrite 2 ∷ Asked 2 text4 ∷ wait true (1 ∷ 2 ∷ []) [] ∷ CanRead 2 ∷ Got 2 text5 ∷ Began (Draft text6) ∷ Did (Draft text6) true ∷ Began SyncDraft ∷ Did SyncDraft true ∷ Began (Publish text7) ∷ Did (Publish text7) true ∷ Began (Write text7 12288 (codes "hello")) ∷ Did (Write text7 12288 (codes "hello")) true ∷ Began (Sync text7) ∷ Did (Sync text7) true ∷ Began (Write text7 8192 ((1 ∷ []))) ∷ Did (Write text7 8192 ((1 ∷ []))) true ∷ Began (Sync text7) ∷ Did (Sync text7) true ∷ Noted (Kept (codes "http://h/a") (codes "\"x\"") 5 5) ∷ Noted (Taken 1 0 (Hit 0 5)) ∷ wait true (1 ∷ 2 ∷ []) (1 ∷ []) ∷ CanWrite 1 ∷ Said 1 154 text8 ∷ wait true (1 ∷ 2 ∷ []) (1 ∷ []) ∷ CanWrite 1 ∷ Said 1 5 (codes "hello") ∷ wait true (1 ∷ 2 ∷ []) [] ∷ [])) ≡ true
unfolding judging
row16doubled12 = refl

row16doubled13 : is_some (fault_from 0 (start (record { words = (codes "diskRun=1") ∷ text0 ∷ text1 ∷ []; faults = 0 } ∷ record { words = (codes "diskRun=1") ∷ text0 ∷ text1 ∷ []; faults = 0 } ∷ [])) (Woke [] ∷ Rooted text2 ∷ Listed true ∷ Listens 8123 true ∷ wait true [] [] ∷ Clock 784111777 ∷ wait true [] [] ∷ Opened 1 ∷ wait true (1 ∷ []) [] ∷ CanRead 1 ∷ Heard 1 text3 ∷ Noted (Taken 1 0 Fetch) ∷ Dialled 2 (codes "h") 80 ∷ wait true (1 ∷ []) [] ∷ wait true (1 ∷ []) [] ∷ Reached 2 ∷ wait true (1 ∷ 2 ∷ []) (2 ∷ []) ∷ CanWrite 2 ∷ Asked 2 text4 ∷ wait true (1 ∷ 2 ∷ []) [] ∷ CanRead 2 ∷ Got 2 text5 ∷ Began (Draft text6) ∷ Did (Draft text6) true ∷ Began SyncDraft ∷ Did SyncDraft true ∷ Began (Publish text7) ∷ Did (Publish text7) true ∷ Began (Write text7 12288 (codes "hello")) ∷ Did (Write text7 12288 (codes "hello")) true ∷ Began (Sync text7) ∷ Did (Sync text7) true ∷ Began (Write text7 8192 ((1 ∷ []))) ∷ Did (Write text7 8192 ((1 ∷ []))) true ∷ Began (Sync text7) ∷ Did (Sync text7) true ∷ Noted (Kept (codes "http://h/a") (codes "\"x\"") 5 5) ∷ Noted (Taken 1 0 (Hit 0 5)) ∷ wait true (1 ∷ 2 ∷ []) (1 ∷ []) ∷ CanWrite 1 ∷ Said 1 154 text8 ∷ wait true (1 ∷ 2 ∷ []) (1 ∷ []) ∷ CanWrite 1 ∷ Said 1 5 (codes "hello") ∷ wait true (1 ∷ 2 ∷ []) [] ∷ [])) ≡ true
unfolding judging
row16doubled13 = refl

row16doubled14 : is_some (fault_from 0 (start (record { words = (codes "diskRun=1") ∷ text0 ∷ text1 ∷ []; faults = 0 } ∷ record { words = (codes "diskRun=1") ∷ text0 ∷ text1 ∷ []; faults = 0 } ∷ [])) (Woke [] ∷ Rooted text2 ∷ Listed true ∷ Listens 8123 true ∷ wait true [] [] ∷ Clock 784111777 ∷ wait true [] [] ∷ Opened 1 ∷ wait true (1 ∷ []) [] ∷ CanRead 1 ∷ Heard 1 text3 ∷ Noted (Taken 1 0 Fetch) ∷ Dialled 2 (codes "h") 80 ∷ wait true (1 ∷ []) [] ∷ Reached 2 ∷ Reached 2 ∷ wait true (1 ∷ 2 ∷ []) (2 ∷ []) ∷ CanWrite 2 ∷ Asked 2 text4 ∷ wait true (1 ∷ 2 ∷ []) [] ∷ CanRead 2 ∷ Got 2 text5 ∷ Began (Draft text6) ∷ Did (Draft text6) true ∷ Began SyncDraft ∷ Did SyncDraft true ∷ Began (Publish text7) ∷ Did (Publish text7) true ∷ Began (Write text7 12288 (codes "hello")) ∷ Did (Write text7 12288 (codes "hello")) true ∷ Began (Sync text7) ∷ Did (Sync text7) true ∷ Began (Write text7 8192 ((1 ∷ []))) ∷ Did (Write text7 8192 ((1 ∷ []))) true ∷ Began (Sync text7) ∷ Did (Sync text7) true ∷ Noted (Kept (codes "http://h/a") (codes "\"x\"") 5 5) ∷ Noted (Taken 1 0 (Hit 0 5)) ∷ wait true (1 ∷ 2 ∷ []) (1 ∷ []) ∷ CanWrite 1 ∷ Said 1 154 text8 ∷ wait true (1 ∷ 2 ∷ []) (1 ∷ []) ∷ CanWrite 1 ∷ Said 1 5 (codes "hello") ∷ wait true (1 ∷ 2 ∷ []) [] ∷ [])) ≡ true
unfolding judging
row16doubled14 = refl

row16doubled15 : is_some (fault_from 0 (start (record { words = (codes "diskRun=1") ∷ text0 ∷ text1 ∷ []; faults = 0 } ∷ record { words = (codes "diskRun=1") ∷ text0 ∷ text1 ∷ []; faults = 0 } ∷ [])) (Woke [] ∷ Rooted text2 ∷ Listed true ∷ Listens 8123 true ∷ wait true [] [] ∷ Clock 784111777 ∷ wait true [] [] ∷ Opened 1 ∷ wait true (1 ∷ []) [] ∷ CanRead 1 ∷ Heard 1 text3 ∷ Noted (Taken 1 0 Fetch) ∷ Dialled 2 (codes "h") 80 ∷ wait true (1 ∷ []) [] ∷ Reached 2 ∷ wait true (1 ∷ 2 ∷ []) (2 ∷ []) ∷ wait true (1 ∷ 2 ∷ []) (2 ∷ []) ∷ CanWrite 2 ∷ Asked 2 text4 ∷ wait true (1 ∷ 2 ∷ []) [] ∷ CanRead 2 ∷ Got 2 text5 ∷ Began (Draft text6) ∷ Did (Draft text6) true ∷ Began SyncDraft ∷ Did SyncDraft true ∷ Began (Publish text7) ∷ Did (Publish text7) true ∷ Began (Write text7 12288 (codes "hello")) ∷ Did (Write text7 12288 (codes "hello")) true ∷ Began (Sync text7) ∷ Did (Sync text7) true ∷ Began (Write text7 8192 ((1 ∷ []))) ∷ Did (Write text7 8192 ((1 ∷ []))) true ∷ Began (Sync text7) ∷ Did (Sync text7) true ∷ Noted (Kept (codes "http://h/a") (codes "\"x\"") 5 5) ∷ Noted (Taken 1 0 (Hit 0 5)) ∷ wait true (1 ∷ 2 ∷ []) (1 ∷ []) ∷ CanWrite 1 ∷ Said 1 154 text8 ∷ wait true (1 ∷ 2 ∷ []) (1 ∷ []) ∷ CanWrite 1 ∷ Said 1 5 (codes "hello") ∷ wait true (1 ∷ 2 ∷ []) [] ∷ [])) ≡ true
unfolding judging
row16doubled15 = refl

row16doubled16 : is_some (fault_from 0 (start (record { words = (codes "diskRun=1") ∷ text0 ∷ text1 ∷ []; faults = 0 } ∷ record { words = (codes "diskRun=1") ∷ text0 ∷ text1 ∷ []; faults = 0 } ∷ [])) (Woke [] ∷ Rooted text2 ∷ Listed true ∷ Listens 8123 true ∷ wait true [] [] ∷ Clock 784111777 ∷ wait true [] [] ∷ Opened 1 ∷ wait true (1 ∷ []) [] ∷ CanRead 1 ∷ Heard 1 text3 ∷ Noted (Taken 1 0 Fetch) ∷ Dialled 2 (codes "h") 80 ∷ wait true (1 ∷ []) [] ∷ Reached 2 ∷ wait true (1 ∷ 2 ∷ []) (2 ∷ []) ∷ CanWrite 2 ∷ CanWrite 2 ∷ Asked 2 text4 ∷ wait true (1 ∷ 2 ∷ []) [] ∷ CanRead 2 ∷ Got 2 text5 ∷ Began (Draft text6) ∷ Did (Draft text6) true ∷ Began SyncDraft ∷ Did SyncDraft true ∷ Began (Publish text7) ∷ Did (Publish text7) true ∷ Began (Write text7 12288 (codes "hello")) ∷ Did (Write text7 12288 (codes "hello")) true ∷ Began (Sync text7) ∷ Did (Sync text7) true ∷ Began (Write text7 8192 ((1 ∷ []))) ∷ Did (Write text7 8192 ((1 ∷ []))) true ∷ Began (Sync text7) ∷ Did (Sync text7) true ∷ Noted (Kept (codes "http://h/a") (codes "\"x\"") 5 5) ∷ Noted (Taken 1 0 (Hit 0 5)) ∷ wait true (1 ∷ 2 ∷ []) (1 ∷ []) ∷ CanWrite 1 ∷ Said 1 154 text8 ∷ wait true (1 ∷ 2 ∷ []) (1 ∷ []) ∷ CanWrite 1 ∷ Said 1 5 (codes "hello") ∷ wait true (1 ∷ 2 ∷ []) [] ∷ [])) ≡ true
unfolding judging
row16doubled16 = refl

row16doubled17 : is_some (fault_from 0 (start (record { words = (codes "diskRun=1") ∷ text0 ∷ text1 ∷ []; faults = 0 } ∷ record { words = (codes "diskRun=1") ∷ text0 ∷ text1 ∷ []; faults = 0 } ∷ [])) (Woke [] ∷ Rooted text2 ∷ Listed true ∷ Listens 8123 true ∷ wait true [] [] ∷ Clock 784111777 ∷ wait true [] [] ∷ Opened 1 ∷ wait true (1 ∷ []) [] ∷ CanRead 1 ∷ Heard 1 text3 ∷ Noted (Taken 1 0 Fetch) ∷ Dialled 2 (codes "h") 80 ∷ wait true (1 ∷ []) [] ∷ Reached 2 ∷ wait true (1 ∷ 2 ∷ []) (2 ∷ []) ∷ CanWrite 2 ∷ Asked 2 text4 ∷ Asked 2 text4 ∷ wait true (1 ∷ 2 ∷ []) [] ∷ CanRead 2 ∷ Got 2 text5 ∷ Began (Draft text6) ∷ Did (Draft text6) true ∷ Began SyncDraft ∷ Did SyncDraft true ∷ Began (Publish text7) ∷ Did (Publish text7) true ∷ Began (Write text7 12288 (codes "hello")) ∷ Did (Write text7 12288 (codes "hello")) true ∷ Began (Sync text7) ∷ Did (Sync text7) true ∷ Began (Write text7 8192 ((1 ∷ []))) ∷ Did (Write text7 8192 ((1 ∷ []))) true ∷ Began (Sync text7) ∷ Did (Sync text7) true ∷ Noted (Kept (codes "http://h/a") (codes "\"x\"") 5 5) ∷ Noted (Taken 1 0 (Hit 0 5)) ∷ wait true (1 ∷ 2 ∷ []) (1 ∷ []) ∷ CanWrite 1 ∷ Said 1 154 text8 ∷ wait true (1 ∷ 2 ∷ []) (1 ∷ []) ∷ CanWrite 1 ∷ Said 1 5 (codes "hello") ∷ wait true (1 ∷ 2 ∷ []) [] ∷ [])) ≡ true
unfolding judging
row16doubled17 = refl

row16doubled18 : is_some (fault_from 0 (start (record { words = (codes "diskRun=1") ∷ text0 ∷ text1 ∷ []; faults = 0 } ∷ record { words = (codes "diskRun=1") ∷ text0 ∷ text1 ∷ []; faults = 0 } ∷ [])) (Woke [] ∷ Rooted text2 ∷ Listed true ∷ Listens 8123 true ∷ wait true [] [] ∷ Clock 784111777 ∷ wait true [] [] ∷ Opened 1 ∷ wait true (1 ∷ []) [] ∷ CanRead 1 ∷ Heard 1 text3 ∷ Noted (Taken 1 0 Fetch) ∷ Dialled 2 (codes "h") 80 ∷ wait true (1 ∷ []) [] ∷ Reached 2 ∷ wait true (1 ∷ 2 ∷ []) (2 ∷ []) ∷ CanWrite 2 ∷ Asked 2 text4 ∷ wait true (1 ∷ 2 ∷ []) [] ∷ wait true (1 ∷ 2 ∷ []) [] ∷ CanRead 2 ∷ Got 2 text5 ∷ Began (Draft text6) ∷ Did (Draft text6) true ∷ Began SyncDraft ∷ Did SyncDraft true ∷ Began (Publish text7) ∷ Did (Publish text7) true ∷ Began (Write text7 12288 (codes "hello")) ∷ Did (Write text7 12288 (codes "hello")) true ∷ Began (Sync text7) ∷ Did (Sync text7) true ∷ Began (Write text7 8192 ((1 ∷ []))) ∷ Did (Write text7 8192 ((1 ∷ []))) true ∷ Began (Sync text7) ∷ Did (Sync text7) true ∷ Noted (Kept (codes "http://h/a") (codes "\"x\"") 5 5) ∷ Noted (Taken 1 0 (Hit 0 5)) ∷ wait true (1 ∷ 2 ∷ []) (1 ∷ []) ∷ CanWrite 1 ∷ Said 1 154 text8 ∷ wait true (1 ∷ 2 ∷ []) (1 ∷ []) ∷ CanWrite 1 ∷ Said 1 5 (codes "hello") ∷ wait true (1 ∷ 2 ∷ []) [] ∷ [])) ≡ true
unfolding judging
row16doubled18 = refl

row16doubled19 : is_some (fault_from 0 (start (record { words = (codes "diskRun=1") ∷ text0 ∷ text1 ∷ []; faults = 0 } ∷ record { words = (codes "diskRun=1") ∷ text0 ∷ text1 ∷ []; faults = 0 } ∷ [])) (Woke [] ∷ Rooted text2 ∷ Listed true ∷ Listens 8123 true ∷ wait true [] [] ∷ Clock 784111777 ∷ wait true [] [] ∷ Opened 1 ∷ wait true (1 ∷ []) [] ∷ CanRead 1 ∷ Heard 1 text3 ∷ Noted (Taken 1 0 Fetch) ∷ Dialled 2 (codes "h") 80 ∷ wait true (1 ∷ []) [] ∷ Reached 2 ∷ wait true (1 ∷ 2 ∷ []) (2 ∷ []) ∷ CanWrite 2 ∷ Asked 2 text4 ∷ wait true (1 ∷ 2 ∷ []) [] ∷ CanRead 2 ∷ CanRead 2 ∷ Got 2 text5 ∷ Began (Draft text6) ∷ Did (Draft text6) true ∷ Began SyncDraft ∷ Did SyncDraft true ∷ Began (Publish text7) ∷ Did (Publish text7) true ∷ Began (Write text7 12288 (codes "hello")) ∷ Did (Write text7 12288 (codes "hello")) true ∷ Began (Sync text7) ∷ Did (Sync text7) true ∷ Began (Write text7 8192 ((1 ∷ []))) ∷ Did (Write text7 8192 ((1 ∷ []))) true ∷ Began (Sync text7) ∷ Did (Sync text7) true ∷ Noted (Kept (codes "http://h/a") (codes "\"x\"") 5 5) ∷ Noted (Taken 1 0 (Hit 0 5)) ∷ wait true (1 ∷ 2 ∷ []) (1 ∷ []) ∷ CanWrite 1 ∷ Said 1 154 text8 ∷ wait true (1 ∷ 2 ∷ []) (1 ∷ []) ∷ CanWrite 1 ∷ Said 1 5 (codes "hello") ∷ wait true (1 ∷ 2 ∷ []) [] ∷ [])) ≡ true
unfolding judging
row16doubled19 = refl

row16doubled20 : is_some (fault_from 0 (start (record { words = (codes "diskRun=1") ∷ text0 ∷ text1 ∷ []; faults = 0 } ∷ record { words = (codes "diskRun=1") ∷ text0 ∷ text1 ∷ []; faults = 0 } ∷ [])) (Woke [] ∷ Rooted text2 ∷ Listed true ∷ Listens 8123 true ∷ wait true [] [] ∷ Clock 784111777 ∷ wait true [] [] ∷ Opened 1 ∷ wait true (1 ∷ []) [] ∷ CanRead 1 ∷ Heard 1 text3 ∷ Noted (Taken 1 0 Fetch) ∷ Dialled 2 (codes "h") 80 ∷ wait true (1 ∷ []) [] ∷ Reached 2 ∷ wait true (1 ∷ 2 ∷ []) (2 ∷ []) ∷ CanWrite 2 ∷ Asked 2 text4 ∷ wait true (1 ∷ 2 ∷ []) [] ∷ CanRead 2 ∷ Got 2 text5 ∷ Got 2 text5 ∷ Began (Draft text6) ∷ Did (Draft text6) true ∷ Began SyncDraft ∷ Did SyncDraft true ∷ Began (Publish text7) ∷ Did (Publish text7) true ∷ Began (Write text7 12288 (codes "hello")) ∷ Did (Write text7 12288 (codes "hello")) true ∷ Began (Sync text7) ∷ Did (Sync text7) true ∷ Began (Write text7 8192 ((1 ∷ []))) ∷ Did (Write text7 8192 ((1 ∷ []))) true ∷ Began (Sync text7) ∷ Did (Sync text7) true ∷ Noted (Kept (codes "http://h/a") (codes "\"x\"") 5 5) ∷ Noted (Taken 1 0 (Hit 0 5)) ∷ wait true (1 ∷ 2 ∷ []) (1 ∷ []) ∷ CanWrite 1 ∷ Said 1 154 text8 ∷ wait true (1 ∷ 2 ∷ []) (1 ∷ []) ∷ CanWrite 1 ∷ Said 1 5 (codes "hello") ∷ wait true (1 ∷ 2 ∷ []) [] ∷ [])) ≡ true
unfolding judging
row16doubled20 = refl

row16doubled21 : is_some (fault_from 0 (start (record { words = (codes "diskRun=1") ∷ text0 ∷ text1 ∷ []; faults = 0 } ∷ record { words = (codes "diskRun=1") ∷ text0 ∷ text1 ∷ []; faults = 0 } ∷ [])) (Woke [] ∷ Rooted text2 ∷ Listed true ∷ Listens 8123 true ∷ wait true [] [] ∷ Clock 784111777 ∷ wait true [] [] ∷ Opened 1 ∷ wait true (1 ∷ []) [] ∷ CanRead 1 ∷ Heard 1 text3 ∷ Noted (Taken 1 0 Fetch) ∷ Dialled 2 (codes "h") 80 ∷ wait true (1 ∷ []) [] ∷ Reached 2 ∷ wait true (1 ∷ 2 ∷ []) (2 ∷ []) ∷ CanWrite 2 ∷ Asked 2 text4 ∷ wait true (1 ∷ 2 ∷ []) [] ∷ CanRead 2 ∷ Got 2 text5 ∷ Began (Draft text6) ∷ Began (Draft text6) ∷ Did (Draft text6) true ∷ Began SyncDraft ∷ Did SyncDraft true ∷ Began (Publish text7) ∷ Did (Publish text7) true ∷ Began (Write text7 12288 (codes "hello")) ∷ Did (Write text7 12288 (codes "hello")) true ∷ Began (Sync text7) ∷ Did (Sync text7) true ∷ Began (Write text7 8192 ((1 ∷ []))) ∷ Did (Write text7 8192 ((1 ∷ []))) true ∷ Began (Sync text7) ∷ Did (Sync text7) true ∷ Noted (Kept (codes "http://h/a") (codes "\"x\"") 5 5) ∷ Noted (Taken 1 0 (Hit 0 5)) ∷ wait true (1 ∷ 2 ∷ []) (1 ∷ []) ∷ CanWrite 1 ∷ Said 1 154 text8 ∷ wait true (1 ∷ 2 ∷ []) (1 ∷ []) ∷ CanWrite 1 ∷ Said 1 5 (codes "hello") ∷ wait true (1 ∷ 2 ∷ []) [] ∷ [])) ≡ true
unfolding judging
row16doubled21 = refl

row16doubled22 : is_some (fault_from 0 (start (record { words = (codes "diskRun=1") ∷ text0 ∷ text1 ∷ []; faults = 0 } ∷ record { words = (codes "diskRun=1") ∷ text0 ∷ text1 ∷ []; faults = 0 } ∷ [])) (Woke [] ∷ Rooted text2 ∷ Listed true ∷ Listens 8123 true ∷ wait true [] [] ∷ Clock 784111777 ∷ wait true [] [] ∷ Opened 1 ∷ wait true (1 ∷ []) [] ∷ CanRead 1 ∷ Heard 1 text3 ∷ Noted (Taken 1 0 Fetch) ∷ Dialled 2 (codes "h") 80 ∷ wait true (1 ∷ []) [] ∷ Reached 2 ∷ wait true (1 ∷ 2 ∷ []) (2 ∷ []) ∷ CanWrite 2 ∷ Asked 2 text4 ∷ wait true (1 ∷ 2 ∷ []) [] ∷ CanRead 2 ∷ Got 2 text5 ∷ Began (Draft text6) ∷ Did (Draft text6) true ∷ Did (Draft text6) true ∷ Began SyncDraft ∷ Did SyncDraft true ∷ Began (Publish text7) ∷ Did (Publish text7) true ∷ Began (Write text7 12288 (codes "hello")) ∷ Did (Write text7 12288 (codes "hello")) true ∷ Began (Sync text7) ∷ Did (Sync text7) true ∷ Began (Write text7 8192 ((1 ∷ []))) ∷ Did (Write text7 8192 ((1 ∷ []))) true ∷ Began (Sync text7) ∷ Did (Sync text7) true ∷ Noted (Kept (codes "http://h/a") (codes "\"x\"") 5 5) ∷ Noted (Taken 1 0 (Hit 0 5)) ∷ wait true (1 ∷ 2 ∷ []) (1 ∷ []) ∷ CanWrite 1 ∷ Said 1 154 text8 ∷ wait true (1 ∷ 2 ∷ []) (1 ∷ []) ∷ CanWrite 1 ∷ Said 1 5 (codes "hello") ∷ wait true (1 ∷ 2 ∷ []) [] ∷ [])) ≡ true
unfolding judging
row16doubled22 = refl

row16doubled23 : is_some (fault_from 0 (start (record { words = (codes "diskRun=1") ∷ text0 ∷ text1 ∷ []; faults = 0 } ∷ record { words = (codes "diskRun=1") ∷ text0 ∷ text1 ∷ []; faults = 0 } ∷ [])) (Woke [] ∷ Rooted text2 ∷ Listed true ∷ Listens 8123 true ∷ wait true [] [] ∷ Clock 784111777 ∷ wait true [] [] ∷ Opened 1 ∷ wait true (1 ∷ []) [] ∷ CanRead 1 ∷ Heard 1 text3 ∷ Noted (Taken 1 0 Fetch) ∷ Dialled 2 (codes "h") 80 ∷ wait true (1 ∷ []) [] ∷ Reached 2 ∷ wait true (1 ∷ 2 ∷ []) (2 ∷ []) ∷ CanWrite 2 ∷ Asked 2 text4 ∷ wait true (1 ∷ 2 ∷ []) [] ∷ CanRead 2 ∷ Got 2 text5 ∷ Began (Draft text6) ∷ Did (Draft text6) true ∷ Began SyncDraft ∷ Began SyncDraft ∷ Did SyncDraft true ∷ Began (Publish text7) ∷ Did (Publish text7) true ∷ Began (Write text7 12288 (codes "hello")) ∷ Did (Write text7 12288 (codes "hello")) true ∷ Began (Sync text7) ∷ Did (Sync text7) true ∷ Began (Write text7 8192 ((1 ∷ []))) ∷ Did (Write text7 8192 ((1 ∷ []))) true ∷ Began (Sync text7) ∷ Did (Sync text7) true ∷ Noted (Kept (codes "http://h/a") (codes "\"x\"") 5 5) ∷ Noted (Taken 1 0 (Hit 0 5)) ∷ wait true (1 ∷ 2 ∷ []) (1 ∷ []) ∷ CanWrite 1 ∷ Said 1 154 text8 ∷ wait true (1 ∷ 2 ∷ []) (1 ∷ []) ∷ CanWrite 1 ∷ Said 1 5 (codes "hello") ∷ wait true (1 ∷ 2 ∷ []) [] ∷ [])) ≡ true
unfolding judging
row16doubled23 = refl

row16doubled24 : is_some (fault_from 0 (start (record { words = (codes "diskRun=1") ∷ text0 ∷ text1 ∷ []; faults = 0 } ∷ record { words = (codes "diskRun=1") ∷ text0 ∷ text1 ∷ []; faults = 0 } ∷ [])) (Woke [] ∷ Rooted text2 ∷ Listed true ∷ Listens 8123 true ∷ wait true [] [] ∷ Clock 784111777 ∷ wait true [] [] ∷ Opened 1 ∷ wait true (1 ∷ []) [] ∷ CanRead 1 ∷ Heard 1 text3 ∷ Noted (Taken 1 0 Fetch) ∷ Dialled 2 (codes "h") 80 ∷ wait true (1 ∷ []) [] ∷ Reached 2 ∷ wait true (1 ∷ 2 ∷ []) (2 ∷ []) ∷ CanWrite 2 ∷ Asked 2 text4 ∷ wait true (1 ∷ 2 ∷ []) [] ∷ CanRead 2 ∷ Got 2 text5 ∷ Began (Draft text6) ∷ Did (Draft text6) true ∷ Began SyncDraft ∷ Did SyncDraft true ∷ Did SyncDraft true ∷ Began (Publish text7) ∷ Did (Publish text7) true ∷ Began (Write text7 12288 (codes "hello")) ∷ Did (Write text7 12288 (codes "hello")) true ∷ Began (Sync text7) ∷ Did (Sync text7) true ∷ Began (Write text7 8192 ((1 ∷ []))) ∷ Did (Write text7 8192 ((1 ∷ []))) true ∷ Began (Sync text7) ∷ Did (Sync text7) true ∷ Noted (Kept (codes "http://h/a") (codes "\"x\"") 5 5) ∷ Noted (Taken 1 0 (Hit 0 5)) ∷ wait true (1 ∷ 2 ∷ []) (1 ∷ []) ∷ CanWrite 1 ∷ Said 1 154 text8 ∷ wait true (1 ∷ 2 ∷ []) (1 ∷ []) ∷ CanWrite 1 ∷ Said 1 5 (codes "hello") ∷ wait true (1 ∷ 2 ∷ []) [] ∷ [])) ≡ true
unfolding judging
row16doubled24 = refl

row16doubled25 : is_some (fault_from 0 (start (record { words = (codes "diskRun=1") ∷ text0 ∷ text1 ∷ []; faults = 0 } ∷ record { words = (codes "diskRun=1") ∷ text0 ∷ text1 ∷ []; faults = 0 } ∷ [])) (Woke [] ∷ Rooted text2 ∷ Listed true ∷ Listens 8123 true ∷ wait true [] [] ∷ Clock 784111777 ∷ wait true [] [] ∷ Opened 1 ∷ wait true (1 ∷ []) [] ∷ CanRead 1 ∷ Heard 1 text3 ∷ Noted (Taken 1 0 Fetch) ∷ Dialled 2 (codes "h") 80 ∷ wait true (1 ∷ []) [] ∷ Reached 2 ∷ wait true (1 ∷ 2 ∷ []) (2 ∷ []) ∷ CanWrite 2 ∷ Asked 2 text4 ∷ wait true (1 ∷ 2 ∷ []) [] ∷ CanRead 2 ∷ Got 2 text5 ∷ Began (Draft text6) ∷ Did (Draft text6) true ∷ Began SyncDraft ∷ Did SyncDraft true ∷ Began (Publish text7) ∷ Began (Publish text7) ∷ Did (Publish text7) true ∷ Began (Write text7 12288 (codes "hello")) ∷ Did (Write text7 12288 (codes "hello")) true ∷ Began (Sync text7) ∷ Did (Sync text7) true ∷ Began (Write text7 8192 ((1 ∷ []))) ∷ Did (Write text7 8192 ((1 ∷ []))) true ∷ Began (Sync text7) ∷ Did (Sync text7) true ∷ Noted (Kept (codes "http://h/a") (codes "\"x\"") 5 5) ∷ Noted (Taken 1 0 (Hit 0 5)) ∷ wait true (1 ∷ 2 ∷ []) (1 ∷ []) ∷ CanWrite 1 ∷ Said 1 154 text8 ∷ wait true (1 ∷ 2 ∷ []) (1 ∷ []) ∷ CanWrite 1 ∷ Said 1 5 (codes "hello") ∷ wait true (1 ∷ 2 ∷ []) [] ∷ [])) ≡ true
unfolding judging
row16doubled25 = refl

row16doubled26 : is_some (fault_from 0 (start (record { words = (codes "diskRun=1") ∷ text0 ∷ text1 ∷ []; faults = 0 } ∷ record { words = (codes "diskRun=1") ∷ text0 ∷ text1 ∷ []; faults = 0 } ∷ [])) (Woke [] ∷ Rooted text2 ∷ Listed true ∷ Listens 8123 true ∷ wait true [] [] ∷ Clock 784111777 ∷ wait true [] [] ∷ Opened 1 ∷ wait true (1 ∷ []) [] ∷ CanRead 1 ∷ Heard 1 text3 ∷ Noted (Taken 1 0 Fetch) ∷ Dialled 2 (codes "h") 80 ∷ wait true (1 ∷ []) [] ∷ Reached 2 ∷ wait true (1 ∷ 2 ∷ []) (2 ∷ []) ∷ CanWrite 2 ∷ Asked 2 text4 ∷ wait true (1 ∷ 2 ∷ []) [] ∷ CanRead 2 ∷ Got 2 text5 ∷ Began (Draft text6) ∷ Did (Draft text6) true ∷ Began SyncDraft ∷ Did SyncDraft true ∷ Began (Publish text7) ∷ Did (Publish text7) true ∷ Did (Publish text7) true ∷ Began (Write text7 12288 (codes "hello")) ∷ Did (Write text7 12288 (codes "hello")) true ∷ Began (Sync text7) ∷ Did (Sync text7) true ∷ Began (Write text7 8192 ((1 ∷ []))) ∷ Did (Write text7 8192 ((1 ∷ []))) true ∷ Began (Sync text7) ∷ Did (Sync text7) true ∷ Noted (Kept (codes "http://h/a") (codes "\"x\"") 5 5) ∷ Noted (Taken 1 0 (Hit 0 5)) ∷ wait true (1 ∷ 2 ∷ []) (1 ∷ []) ∷ CanWrite 1 ∷ Said 1 154 text8 ∷ wait true (1 ∷ 2 ∷ []) (1 ∷ []) ∷ CanWrite 1 ∷ Said 1 5 (codes "hello") ∷ wait true (1 ∷ 2 ∷ []) [] ∷ [])) ≡ true
unfolding judging
row16doubled26 = refl

row16doubled27 : is_some (fault_from 0 (start (record { words = (codes "diskRun=1") ∷ text0 ∷ text1 ∷ []; faults = 0 } ∷ record { words = (codes "diskRun=1") ∷ text0 ∷ text1 ∷ []; faults = 0 } ∷ [])) (Woke [] ∷ Rooted text2 ∷ Listed true ∷ Listens 8123 true ∷ wait true [] [] ∷ Clock 784111777 ∷ wait true [] [] ∷ Opened 1 ∷ wait true (1 ∷ []) [] ∷ CanRead 1 ∷ Heard 1 text3 ∷ Noted (Taken 1 0 Fetch) ∷ Dialled 2 (codes "h") 80 ∷ wait true (1 ∷ []) [] ∷ Reached 2 ∷ wait true (1 ∷ 2 ∷ []) (2 ∷ []) ∷ CanWrite 2 ∷ Asked 2 text4 ∷ wait true (1 ∷ 2 ∷ []) [] ∷ CanRead 2 ∷ Got 2 text5 ∷ Began (Draft text6) ∷ Did (Draft text6) true ∷ Began SyncDraft ∷ Did SyncDraft true ∷ Began (Publish text7) ∷ Did (Publish text7) true ∷ Began (Write text7 12288 (codes "hello")) ∷ Began (Write text7 12288 (codes "hello")) ∷ Did (Write text7 12288 (codes "hello")) true ∷ Began (Sync text7) ∷ Did (Sync text7) true ∷ Began (Write text7 8192 ((1 ∷ []))) ∷ Did (Write text7 8192 ((1 ∷ []))) true ∷ Began (Sync text7) ∷ Did (Sync text7) true ∷ Noted (Kept (codes "http://h/a") (codes "\"x\"") 5 5) ∷ Noted (Taken 1 0 (Hit 0 5)) ∷ wait true (1 ∷ 2 ∷ []) (1 ∷ []) ∷ CanWrite 1 ∷ Said 1 154 text8 ∷ wait true (1 ∷ 2 ∷ []) (1 ∷ []) ∷ CanWrite 1 ∷ Said 1 5 (codes "hello") ∷ wait true (1 ∷ 2 ∷ []) [] ∷ [])) ≡ true
unfolding judging
row16doubled27 = refl

row16doubled28 : is_some (fault_from 0 (start (record { words = (codes "diskRun=1") ∷ text0 ∷ text1 ∷ []; faults = 0 } ∷ record { words = (codes "diskRun=1") ∷ text0 ∷ text1 ∷ []; faults = 0 } ∷ [])) (Woke [] ∷ Rooted text2 ∷ Listed true ∷ Listens 8123 true ∷ wait true [] [] ∷ Clock 784111777 ∷ wait true [] [] ∷ Opened 1 ∷ wait true (1 ∷ []) [] ∷ CanRead 1 ∷ Heard 1 text3 ∷ Noted (Taken 1 0 Fetch) ∷ Dialled 2 (codes "h") 80 ∷ wait true (1 ∷ []) [] ∷ Reached 2 ∷ wait true (1 ∷ 2 ∷ []) (2 ∷ []) ∷ CanWrite 2 ∷ Asked 2 text4 ∷ wait true (1 ∷ 2 ∷ []) [] ∷ CanRead 2 ∷ Got 2 text5 ∷ Began (Draft text6) ∷ Did (Draft text6) true ∷ Began SyncDraft ∷ Did SyncDraft true ∷ Began (Publish text7) ∷ Did (Publish text7) true ∷ Began (Write text7 12288 (codes "hello")) ∷ Did (Write text7 12288 (codes "hello")) true ∷ Did (Write text7 12288 (codes "hello")) true ∷ Began (Sync text7) ∷ Did (Sync text7) true ∷ Began (Write text7 8192 ((1 ∷ []))) ∷ Did (Write text7 8192 ((1 ∷ []))) true ∷ Began (Sync text7) ∷ Did (Sync text7) true ∷ Noted (Kept (codes "http://h/a") (codes "\"x\"") 5 5) ∷ Noted (Taken 1 0 (Hit 0 5)) ∷ wait true (1 ∷ 2 ∷ []) (1 ∷ []) ∷ CanWrite 1 ∷ Said 1 154 text8 ∷ wait true (1 ∷ 2 ∷ []) (1 ∷ []) ∷ CanWrite 1 ∷ Said 1 5 (codes "hello") ∷ wait true (1 ∷ 2 ∷ []) [] ∷ [])) ≡ true
unfolding judging
row16doubled28 = refl

row16doubled29 : is_some (fault_from 0 (start (record { words = (codes "diskRun=1") ∷ text0 ∷ text1 ∷ []; faults = 0 } ∷ record { words = (codes "diskRun=1") ∷ text0 ∷ text1 ∷ []; faults = 0 } ∷ [])) (Woke [] ∷ Rooted text2 ∷ Listed true ∷ Listens 8123 true ∷ wait true [] [] ∷ Clock 784111777 ∷ wait true [] [] ∷ Opened 1 ∷ wait true (1 ∷ []) [] ∷ CanRead 1 ∷ Heard 1 text3 ∷ Noted (Taken 1 0 Fetch) ∷ Dialled 2 (codes "h") 80 ∷ wait true (1 ∷ []) [] ∷ Reached 2 ∷ wait true (1 ∷ 2 ∷ []) (2 ∷ []) ∷ CanWrite 2 ∷ Asked 2 text4 ∷ wait true (1 ∷ 2 ∷ []) [] ∷ CanRead 2 ∷ Got 2 text5 ∷ Began (Draft text6) ∷ Did (Draft text6) true ∷ Began SyncDraft ∷ Did SyncDraft true ∷ Began (Publish text7) ∷ Did (Publish text7) true ∷ Began (Write text7 12288 (codes "hello")) ∷ Did (Write text7 12288 (codes "hello")) true ∷ Began (Sync text7) ∷ Began (Sync text7) ∷ Did (Sync text7) true ∷ Began (Write text7 8192 ((1 ∷ []))) ∷ Did (Write text7 8192 ((1 ∷ []))) true ∷ Began (Sync text7) ∷ Did (Sync text7) true ∷ Noted (Kept (codes "http://h/a") (codes "\"x\"") 5 5) ∷ Noted (Taken 1 0 (Hit 0 5)) ∷ wait true (1 ∷ 2 ∷ []) (1 ∷ []) ∷ CanWrite 1 ∷ Said 1 154 text8 ∷ wait true (1 ∷ 2 ∷ []) (1 ∷ []) ∷ CanWrite 1 ∷ Said 1 5 (codes "hello") ∷ wait true (1 ∷ 2 ∷ []) [] ∷ [])) ≡ true
unfolding judging
row16doubled29 = refl

row16doubled30 : is_some (fault_from 0 (start (record { words = (codes "diskRun=1") ∷ text0 ∷ text1 ∷ []; faults = 0 } ∷ record { words = (codes "diskRun=1") ∷ text0 ∷ text1 ∷ []; faults = 0 } ∷ [])) (Woke [] ∷ Rooted text2 ∷ Listed true ∷ Listens 8123 true ∷ wait true [] [] ∷ Clock 784111777 ∷ wait true [] [] ∷ Opened 1 ∷ wait true (1 ∷ []) [] ∷ CanRead 1 ∷ Heard 1 text3 ∷ Noted (Taken 1 0 Fetch) ∷ Dialled 2 (codes "h") 80 ∷ wait true (1 ∷ []) [] ∷ Reached 2 ∷ wait true (1 ∷ 2 ∷ []) (2 ∷ []) ∷ CanWrite 2 ∷ Asked 2 text4 ∷ wait true (1 ∷ 2 ∷ []) [] ∷ CanRead 2 ∷ Got 2 text5 ∷ Began (Draft text6) ∷ Did (Draft text6) true ∷ Began SyncDraft ∷ Did SyncDraft true ∷ Began (Publish text7) ∷ Did (Publish text7) true ∷ Began (Write text7 12288 (codes "hello")) ∷ Did (Write text7 12288 (codes "hello")) true ∷ Began (Sync text7) ∷ Did (Sync text7) true ∷ Did (Sync text7) true ∷ Began (Write text7 8192 ((1 ∷ []))) ∷ Did (Write text7 8192 ((1 ∷ []))) true ∷ Began (Sync text7) ∷ Did (Sync text7) true ∷ Noted (Kept (codes "http://h/a") (codes "\"x\"") 5 5) ∷ Noted (Taken 1 0 (Hit 0 5)) ∷ wait true (1 ∷ 2 ∷ []) (1 ∷ []) ∷ CanWrite 1 ∷ Said 1 154 text8 ∷ wait true (1 ∷ 2 ∷ []) (1 ∷ []) ∷ CanWrite 1 ∷ Said 1 5 (codes "hello") ∷ wait true (1 ∷ 2 ∷ []) [] ∷ [])) ≡ true
unfolding judging
row16doubled30 = refl

row16doubled31 : is_some (fault_from 0 (start (record { words = (codes "diskRun=1") ∷ text0 ∷ text1 ∷ []; faults = 0 } ∷ record { words = (codes "diskRun=1") ∷ text0 ∷ text1 ∷ []; faults = 0 } ∷ [])) (Woke [] ∷ Rooted text2 ∷ Listed true ∷ Listens 8123 true ∷ wait true [] [] ∷ Clock 784111777 ∷ wait true [] [] ∷ Opened 1 ∷ wait true (1 ∷ []) [] ∷ CanRead 1 ∷ Heard 1 text3 ∷ Noted (Taken 1 0 Fetch) ∷ Dialled 2 (codes "h") 80 ∷ wait true (1 ∷ []) [] ∷ Reached 2 ∷ wait true (1 ∷ 2 ∷ []) (2 ∷ []) ∷ CanWrite 2 ∷ Asked 2 text4 ∷ wait true (1 ∷ 2 ∷ []) [] ∷ CanRead 2 ∷ Got 2 text5 ∷ Began (Draft text6) ∷ Did (Draft text6) true ∷ Began SyncDraft ∷ Did SyncDraft true ∷ Began (Publish text7) ∷ Did (Publish text7) true ∷ Began (Write text7 12288 (codes "hello")) ∷ Did (Write text7 12288 (codes "hello")) true ∷ Began (Sync text7) ∷ Did (Sync text7) true ∷ Began (Write text7 8192 ((1 ∷ []))) ∷ Began (Write text7 8192 ((1 ∷ []))) ∷ Did (Write text7 8192 ((1 ∷ []))) true ∷ Began (Sync text7) ∷ Did (Sync text7) true ∷ Noted (Kept (codes "http://h/a") (codes "\"x\"") 5 5) ∷ Noted (Taken 1 0 (Hit 0 5)) ∷ wait true (1 ∷ 2 ∷ []) (1 ∷ []) ∷ CanWrite 1 ∷ Said 1 154 text8 ∷ wait true (1 ∷ 2 ∷ []) (1 ∷ []) ∷ CanWrite 1 ∷ Said 1 5 (codes "hello") ∷ wait true (1 ∷ 2 ∷ []) [] ∷ [])) ≡ true
unfolding judging
row16doubled31 = refl

row16doubled32 : is_some (fault_from 0 (start (record { words = (codes "diskRun=1") ∷ text0 ∷ text1 ∷ []; faults = 0 } ∷ record { words = (codes "diskRun=1") ∷ text0 ∷ text1 ∷ []; faults = 0 } ∷ [])) (Woke [] ∷ Rooted text2 ∷ Listed true ∷ Listens 8123 true ∷ wait true [] [] ∷ Clock 784111777 ∷ wait true [] [] ∷ Opened 1 ∷ wait true (1 ∷ []) [] ∷ CanRead 1 ∷ Heard 1 text3 ∷ Noted (Taken 1 0 Fetch) ∷ Dialled 2 (codes "h") 80 ∷ wait true (1 ∷ []) [] ∷ Reached 2 ∷ wait true (1 ∷ 2 ∷ []) (2 ∷ []) ∷ CanWrite 2 ∷ Asked 2 text4 ∷ wait true (1 ∷ 2 ∷ []) [] ∷ CanRead 2 ∷ Got 2 text5 ∷ Began (Draft text6) ∷ Did (Draft text6) true ∷ Began SyncDraft ∷ Did SyncDraft true ∷ Began (Publish text7) ∷ Did (Publish text7) true ∷ Began (Write text7 12288 (codes "hello")) ∷ Did (Write text7 12288 (codes "hello")) true ∷ Began (Sync text7) ∷ Did (Sync text7) true ∷ Began (Write text7 8192 ((1 ∷ []))) ∷ Did (Write text7 8192 ((1 ∷ []))) true ∷ Did (Write text7 8192 ((1 ∷ []))) true ∷ Began (Sync text7) ∷ Did (Sync text7) true ∷ Noted (Kept (codes "http://h/a") (codes "\"x\"") 5 5) ∷ Noted (Taken 1 0 (Hit 0 5)) ∷ wait true (1 ∷ 2 ∷ []) (1 ∷ []) ∷ CanWrite 1 ∷ Said 1 154 text8 ∷ wait true (1 ∷ 2 ∷ []) (1 ∷ []) ∷ CanWrite 1 ∷ Said 1 5 (codes "hello") ∷ wait true (1 ∷ 2 ∷ []) [] ∷ [])) ≡ true
unfolding judging
row16doubled32 = refl

row16doubled33 : is_some (fault_from 0 (start (record { words = (codes "diskRun=1") ∷ text0 ∷ text1 ∷ []; faults = 0 } ∷ record { words = (codes "diskRun=1") ∷ text0 ∷ text1 ∷ []; faults = 0 } ∷ [])) (Woke [] ∷ Rooted text2 ∷ Listed true ∷ Listens 8123 true ∷ wait true [] [] ∷ Clock 784111777 ∷ wait true [] [] ∷ Opened 1 ∷ wait true (1 ∷ []) [] ∷ CanRead 1 ∷ Heard 1 text3 ∷ Noted (Taken 1 0 Fetch) ∷ Dialled 2 (codes "h") 80 ∷ wait true (1 ∷ []) [] ∷ Reached 2 ∷ wait true (1 ∷ 2 ∷ []) (2 ∷ []) ∷ CanWrite 2 ∷ Asked 2 text4 ∷ wait true (1 ∷ 2 ∷ []) [] ∷ CanRead 2 ∷ Got 2 text5 ∷ Began (Draft text6) ∷ Did (Draft text6) true ∷ Began SyncDraft ∷ Did SyncDraft true ∷ Began (Publish text7) ∷ Did (Publish text7) true ∷ Began (Write text7 12288 (codes "hello")) ∷ Did (Write text7 12288 (codes "hello")) true ∷ Began (Sync text7) ∷ Did (Sync text7) true ∷ Began (Write text7 8192 ((1 ∷ []))) ∷ Did (Write text7 8192 ((1 ∷ []))) true ∷ Began (Sync text7) ∷ Began (Sync text7) ∷ Did (Sync text7) true ∷ Noted (Kept (codes "http://h/a") (codes "\"x\"") 5 5) ∷ Noted (Taken 1 0 (Hit 0 5)) ∷ wait true (1 ∷ 2 ∷ []) (1 ∷ []) ∷ CanWrite 1 ∷ Said 1 154 text8 ∷ wait true (1 ∷ 2 ∷ []) (1 ∷ []) ∷ CanWrite 1 ∷ Said 1 5 (codes "hello") ∷ wait true (1 ∷ 2 ∷ []) [] ∷ [])) ≡ true
unfolding judging
row16doubled33 = refl

row16doubled34 : is_some (fault_from 0 (start (record { words = (codes "diskRun=1") ∷ text0 ∷ text1 ∷ []; faults = 0 } ∷ record { words = (codes "diskRun=1") ∷ text0 ∷ text1 ∷ []; faults = 0 } ∷ [])) (Woke [] ∷ Rooted text2 ∷ Listed true ∷ Listens 8123 true ∷ wait true [] [] ∷ Clock 784111777 ∷ wait true [] [] ∷ Opened 1 ∷ wait true (1 ∷ []) [] ∷ CanRead 1 ∷ Heard 1 text3 ∷ Noted (Taken 1 0 Fetch) ∷ Dialled 2 (codes "h") 80 ∷ wait true (1 ∷ []) [] ∷ Reached 2 ∷ wait true (1 ∷ 2 ∷ []) (2 ∷ []) ∷ CanWrite 2 ∷ Asked 2 text4 ∷ wait true (1 ∷ 2 ∷ []) [] ∷ CanRead 2 ∷ Got 2 text5 ∷ Began (Draft text6) ∷ Did (Draft text6) true ∷ Began SyncDraft ∷ Did SyncDraft true ∷ Began (Publish text7) ∷ Did (Publish text7) true ∷ Began (Write text7 12288 (codes "hello")) ∷ Did (Write text7 12288 (codes "hello")) true ∷ Began (Sync text7) ∷ Did (Sync text7) true ∷ Began (Write text7 8192 ((1 ∷ []))) ∷ Did (Write text7 8192 ((1 ∷ []))) true ∷ Began (Sync text7) ∷ Did (Sync text7) true ∷ Did (Sync text7) true ∷ Noted (Kept (codes "http://h/a") (codes "\"x\"") 5 5) ∷ Noted (Taken 1 0 (Hit 0 5)) ∷ wait true (1 ∷ 2 ∷ []) (1 ∷ []) ∷ CanWrite 1 ∷ Said 1 154 text8 ∷ wait true (1 ∷ 2 ∷ []) (1 ∷ []) ∷ CanWrite 1 ∷ Said 1 5 (codes "hello") ∷ wait true (1 ∷ 2 ∷ []) [] ∷ [])) ≡ true
unfolding judging
row16doubled34 = refl

row16doubled35 : is_some (fault_from 0 (start (record { words = (codes "diskRun=1") ∷ text0 ∷ text1 ∷ []; faults = 0 } ∷ record { words = (codes "diskRun=1") ∷ text0 ∷ text1 ∷ []; faults = 0 } ∷ [])) (Woke [] ∷ Rooted text2 ∷ Listed true ∷ Listens 8123 true ∷ wait true [] [] ∷ Clock 784111777 ∷ wait true [] [] ∷ Opened 1 ∷ wait true (1 ∷ []) [] ∷ CanRead 1 ∷ Heard 1 text3 ∷ Noted (Taken 1 0 Fetch) ∷ Dialled 2 (codes "h") 80 ∷ wait true (1 ∷ []) [] ∷ Reached 2 ∷ wait true (1 ∷ 2 ∷ []) (2 ∷ []) ∷ CanWrite 2 ∷ Asked 2 text4 ∷ wait true (1 ∷ 2 ∷ []) [] ∷ CanRead 2 ∷ Got 2 text5 ∷ Began (Draft text6) ∷ Did (Draft text6) true ∷ Began SyncDraft ∷ Did SyncDraft true ∷ Began (Publish text7) ∷ Did (Publish text7) true ∷ Began (Write text7 12288 (codes "hello")) ∷ Did (Write text7 12288 (codes "hello")) true ∷ Began (Sync text7) ∷ Did (Sync text7) true ∷ Began (Write text7 8192 ((1 ∷ []))) ∷ Did (Write text7 8192 ((1 ∷ []))) true ∷ Began (Sync text7) ∷ Did (Sync text7) true ∷ Noted (Kept (codes "http://h/a") (codes "\"x\"") 5 5) ∷ Noted (Kept (codes "http://h/a") (codes "\"x\"") 5 5) ∷ Noted (Taken 1 0 (Hit 0 5)) ∷ wait true (1 ∷ 2 ∷ []) (1 ∷ []) ∷ CanWrite 1 ∷ Said 1 154 text8 ∷ wait true (1 ∷ 2 ∷ []) (1 ∷ []) ∷ CanWrite 1 ∷ Said 1 5 (codes "hello") ∷ wait true (1 ∷ 2 ∷ []) [] ∷ [])) ≡ true
unfolding judging
row16doubled35 = refl

row16doubled36 : is_some (fault_from 0 (start (record { words = (codes "diskRun=1") ∷ text0 ∷ text1 ∷ []; faults = 0 } ∷ record { words = (codes "diskRun=1") ∷ text0 ∷ text1 ∷ []; faults = 0 } ∷ [])) (Woke [] ∷ Rooted text2 ∷ Listed true ∷ Listens 8123 true ∷ wait true [] [] ∷ Clock 784111777 ∷ wait true [] [] ∷ Opened 1 ∷ wait true (1 ∷ []) [] ∷ CanRead 1 ∷ Heard 1 text3 ∷ Noted (Taken 1 0 Fetch) ∷ Dialled 2 (codes "h") 80 ∷ wait true (1 ∷ []) [] ∷ Reached 2 ∷ wait true (1 ∷ 2 ∷ []) (2 ∷ []) ∷ CanWrite 2 ∷ Asked 2 text4 ∷ wait true (1 ∷ 2 ∷ []) [] ∷ CanRead 2 ∷ Got 2 text5 ∷ Began (Draft text6) ∷ Did (Draft text6) true ∷ Began SyncDraft ∷ Did SyncDraft true ∷ Began (Publish text7) ∷ Did (Publish text7) true ∷ Began (Write text7 12288 (codes "hello")) ∷ Did (Write text7 12288 (codes "hello")) true ∷ Began (Sync text7) ∷ Did (Sync text7) true ∷ Began (Write text7 8192 ((1 ∷ []))) ∷ Did (Write text7 8192 ((1 ∷ []))) true ∷ Began (Sync text7) ∷ Did (Sync text7) true ∷ Noted (Kept (codes "http://h/a") (codes "\"x\"") 5 5) ∷ Noted (Taken 1 0 (Hit 0 5)) ∷ Noted (Taken 1 0 (Hit 0 5)) ∷ wait true (1 ∷ 2 ∷ []) (1 ∷ []) ∷ CanWrite 1 ∷ Said 1 154 text8 ∷ wait true (1 ∷ 2 ∷ []) (1 ∷ []) ∷ CanWrite 1 ∷ Said 1 5 (codes "hello") ∷ wait true (1 ∷ 2 ∷ []) [] ∷ [])) ≡ true
unfolding judging
row16doubled36 = refl

row16doubled37 : is_some (fault_from 0 (start (record { words = (codes "diskRun=1") ∷ text0 ∷ text1 ∷ []; faults = 0 } ∷ record { words = (codes "diskRun=1") ∷ text0 ∷ text1 ∷ []; faults = 0 } ∷ [])) (Woke [] ∷ Rooted text2 ∷ Listed true ∷ Listens 8123 true ∷ wait true [] [] ∷ Clock 784111777 ∷ wait true [] [] ∷ Opened 1 ∷ wait true (1 ∷ []) [] ∷ CanRead 1 ∷ Heard 1 text3 ∷ Noted (Taken 1 0 Fetch) ∷ Dialled 2 (codes "h") 80 ∷ wait true (1 ∷ []) [] ∷ Reached 2 ∷ wait true (1 ∷ 2 ∷ []) (2 ∷ []) ∷ CanWrite 2 ∷ Asked 2 text4 ∷ wait true (1 ∷ 2 ∷ []) [] ∷ CanRead 2 ∷ Got 2 text5 ∷ Began (Draft text6) ∷ Did (Draft text6) true ∷ Began SyncDraft ∷ Did SyncDraft true ∷ Began (Publish text7) ∷ Did (Publish text7) true ∷ Began (Write text7 12288 (codes "hello")) ∷ Did (Write text7 12288 (codes "hello")) true ∷ Began (Sync text7) ∷ Did (Sync text7) true ∷ Began (Write text7 8192 ((1 ∷ []))) ∷ Did (Write text7 8192 ((1 ∷ []))) true ∷ Began (Sync text7) ∷ Did (Sync text7) true ∷ Noted (Kept (codes "http://h/a") (codes "\"x\"") 5 5) ∷ Noted (Taken 1 0 (Hit 0 5)) ∷ wait true (1 ∷ 2 ∷ []) (1 ∷ []) ∷ wait true (1 ∷ 2 ∷ []) (1 ∷ []) ∷ CanWrite 1 ∷ Said 1 154 text8 ∷ wait true (1 ∷ 2 ∷ []) (1 ∷ []) ∷ CanWrite 1 ∷ Said 1 5 (codes "hello") ∷ wait true (1 ∷ 2 ∷ []) [] ∷ [])) ≡ true
unfolding judging
row16doubled37 = refl

row16doubled38 : is_some (fault_from 0 (start (record { words = (codes "diskRun=1") ∷ text0 ∷ text1 ∷ []; faults = 0 } ∷ record { words = (codes "diskRun=1") ∷ text0 ∷ text1 ∷ []; faults = 0 } ∷ [])) (Woke [] ∷ Rooted text2 ∷ Listed true ∷ Listens 8123 true ∷ wait true [] [] ∷ Clock 784111777 ∷ wait true [] [] ∷ Opened 1 ∷ wait true (1 ∷ []) [] ∷ CanRead 1 ∷ Heard 1 text3 ∷ Noted (Taken 1 0 Fetch) ∷ Dialled 2 (codes "h") 80 ∷ wait true (1 ∷ []) [] ∷ Reached 2 ∷ wait true (1 ∷ 2 ∷ []) (2 ∷ []) ∷ CanWrite 2 ∷ Asked 2 text4 ∷ wait true (1 ∷ 2 ∷ []) [] ∷ CanRead 2 ∷ Got 2 text5 ∷ Began (Draft text6) ∷ Did (Draft text6) true ∷ Began SyncDraft ∷ Did SyncDraft true ∷ Began (Publish text7) ∷ Did (Publish text7) true ∷ Began (Write text7 12288 (codes "hello")) ∷ Did (Write text7 12288 (codes "hello")) true ∷ Began (Sync text7) ∷ Did (Sync text7) true ∷ Began (Write text7 8192 ((1 ∷ []))) ∷ Did (Write text7 8192 ((1 ∷ []))) true ∷ Began (Sync text7) ∷ Did (Sync text7) true ∷ Noted (Kept (codes "http://h/a") (codes "\"x\"") 5 5) ∷ Noted (Taken 1 0 (Hit 0 5)) ∷ wait true (1 ∷ 2 ∷ []) (1 ∷ []) ∷ CanWrite 1 ∷ CanWrite 1 ∷ Said 1 154 text8 ∷ wait true (1 ∷ 2 ∷ []) (1 ∷ []) ∷ CanWrite 1 ∷ Said 1 5 (codes "hello") ∷ wait true (1 ∷ 2 ∷ []) [] ∷ [])) ≡ true
unfolding judging
row16doubled38 = refl

row16doubled39 : is_some (fault_from 0 (start (record { words = (codes "diskRun=1") ∷ text0 ∷ text1 ∷ []; faults = 0 } ∷ record { words = (codes "diskRun=1") ∷ text0 ∷ text1 ∷ []; faults = 0 } ∷ [])) (Woke [] ∷ Rooted text2 ∷ Listed true ∷ Listens 8123 true ∷ wait true [] [] ∷ Clock 784111777 ∷ wait true [] [] ∷ Opened 1 ∷ wait true (1 ∷ []) [] ∷ CanRead 1 ∷ Heard 1 text3 ∷ Noted (Taken 1 0 Fetch) ∷ Dialled 2 (codes "h") 80 ∷ wait true (1 ∷ []) [] ∷ Reached 2 ∷ wait true (1 ∷ 2 ∷ []) (2 ∷ []) ∷ CanWrite 2 ∷ Asked 2 text4 ∷ wait true (1 ∷ 2 ∷ []) [] ∷ CanRead 2 ∷ Got 2 text5 ∷ Began (Draft text6) ∷ Did (Draft text6) true ∷ Began SyncDraft ∷ Did SyncDraft true ∷ Began (Publish text7) ∷ Did (Publish text7) true ∷ Began (Write text7 12288 (codes "hello")) ∷ Did (Write text7 12288 (codes "hello")) true ∷ Began (Sync text7) ∷ Did (Sync text7) true ∷ Began (Write text7 8192 ((1 ∷ []))) ∷ Did (Write text7 8192 ((1 ∷ []))) true ∷ Began (Sync text7) ∷ Did (Sync text7) true ∷ Noted (Kept (codes "http://h/a") (codes "\"x\"") 5 5) ∷ Noted (Taken 1 0 (Hit 0 5)) ∷ wait true (1 ∷ 2 ∷ []) (1 ∷ []) ∷ CanWrite 1 ∷ Said 1 154 text8 ∷ Said 1 154 text8 ∷ wait true (1 ∷ 2 ∷ []) (1 ∷ []) ∷ CanWrite 1 ∷ Said 1 5 (codes "hello") ∷ wait true (1 ∷ 2 ∷ []) [] ∷ [])) ≡ true
unfolding judging
row16doubled39 = refl

row16doubled40 : is_some (fault_from 0 (start (record { words = (codes "diskRun=1") ∷ text0 ∷ text1 ∷ []; faults = 0 } ∷ record { words = (codes "diskRun=1") ∷ text0 ∷ text1 ∷ []; faults = 0 } ∷ [])) (Woke [] ∷ Rooted text2 ∷ Listed true ∷ Listens 8123 true ∷ wait true [] [] ∷ Clock 784111777 ∷ wait true [] [] ∷ Opened 1 ∷ wait true (1 ∷ []) [] ∷ CanRead 1 ∷ Heard 1 text3 ∷ Noted (Taken 1 0 Fetch) ∷ Dialled 2 (codes "h") 80 ∷ wait true (1 ∷ []) [] ∷ Reached 2 ∷ wait true (1 ∷ 2 ∷ []) (2 ∷ []) ∷ CanWrite 2 ∷ Asked 2 text4 ∷ wait true (1 ∷ 2 ∷ []) [] ∷ CanRead 2 ∷ Got 2 text5 ∷ Began (Draft text6) ∷ Did (Draft text6) true ∷ Began SyncDraft ∷ Did SyncDraft true ∷ Began (Publish text7) ∷ Did (Publish text7) true ∷ Began (Write text7 12288 (codes "hello")) ∷ Did (Write text7 12288 (codes "hello")) true ∷ Began (Sync text7) ∷ Did (Sync text7) true ∷ Began (Write text7 8192 ((1 ∷ []))) ∷ Did (Write text7 8192 ((1 ∷ []))) true ∷ Began (Sync text7) ∷ Did (Sync text7) true ∷ Noted (Kept (codes "http://h/a") (codes "\"x\"") 5 5) ∷ Noted (Taken 1 0 (Hit 0 5)) ∷ wait true (1 ∷ 2 ∷ []) (1 ∷ []) ∷ CanWrite 1 ∷ Said 1 154 text8 ∷ wait true (1 ∷ 2 ∷ []) (1 ∷ []) ∷ wait true (1 ∷ 2 ∷ []) (1 ∷ []) ∷ CanWrite 1 ∷ Said 1 5 (codes "hello") ∷ wait true (1 ∷ 2 ∷ []) [] ∷ [])) ≡ true
unfolding judging
row16doubled40 = refl

row16doubled41 : is_some (fault_from 0 (start (record { words = (codes "diskRun=1") ∷ text0 ∷ text1 ∷ []; faults = 0 } ∷ record { words = (codes "diskRun=1") ∷ text0 ∷ text1 ∷ []; faults = 0 } ∷ [])) (Woke [] ∷ Rooted text2 ∷ Listed true ∷ Listens 8123 true ∷ wait true [] [] ∷ Clock 784111777 ∷ wait true [] [] ∷ Opened 1 ∷ wait true (1 ∷ []) [] ∷ CanRead 1 ∷ Heard 1 text3 ∷ Noted (Taken 1 0 Fetch) ∷ Dialled 2 (codes "h") 80 ∷ wait true (1 ∷ []) [] ∷ Reached 2 ∷ wait true (1 ∷ 2 ∷ []) (2 ∷ []) ∷ CanWrite 2 ∷ Asked 2 text4 ∷ wait true (1 ∷ 2 ∷ []) [] ∷ CanRead 2 ∷ Got 2 text5 ∷ Began (Draft text6) ∷ Did (Draft text6) true ∷ Began SyncDraft ∷ Did SyncDraft true ∷ Began (Publish text7) ∷ Did (Publish text7) true ∷ Began (Write text7 12288 (codes "hello")) ∷ Did (Write text7 12288 (codes "hello")) true ∷ Began (Sync text7) ∷ Did (Sync text7) true ∷ Began (Write text7 8192 ((1 ∷ []))) ∷ Did (Write text7 8192 ((1 ∷ []))) true ∷ Began (Sync text7) ∷ Did (Sync text7) true ∷ Noted (Kept (codes "http://h/a") (codes "\"x\"") 5 5) ∷ Noted (Taken 1 0 (Hit 0 5)) ∷ wait true (1 ∷ 2 ∷ []) (1 ∷ []) ∷ CanWrite 1 ∷ Said 1 154 text8 ∷ wait true (1 ∷ 2 ∷ []) (1 ∷ []) ∷ CanWrite 1 ∷ CanWrite 1 ∷ Said 1 5 (codes "hello") ∷ wait true (1 ∷ 2 ∷ []) [] ∷ [])) ≡ true
unfolding judging
row16doubled41 = refl

row16doubled42 : is_some (fault_from 0 (start (record { words = (codes "diskRun=1") ∷ text0 ∷ text1 ∷ []; faults = 0 } ∷ record { words = (codes "diskRun=1") ∷ text0 ∷ text1 ∷ []; faults = 0 } ∷ [])) (Woke [] ∷ Rooted text2 ∷ Listed true ∷ Listens 8123 true ∷ wait true [] [] ∷ Clock 784111777 ∷ wait true [] [] ∷ Opened 1 ∷ wait true (1 ∷ []) [] ∷ CanRead 1 ∷ Heard 1 text3 ∷ Noted (Taken 1 0 Fetch) ∷ Dialled 2 (codes "h") 80 ∷ wait true (1 ∷ []) [] ∷ Reached 2 ∷ wait true (1 ∷ 2 ∷ []) (2 ∷ []) ∷ CanWrite 2 ∷ Asked 2 text4 ∷ wait true (1 ∷ 2 ∷ []) [] ∷ CanRead 2 ∷ Got 2 text5 ∷ Began (Draft text6) ∷ Did (Draft text6) true ∷ Began SyncDraft ∷ Did SyncDraft true ∷ Began (Publish text7) ∷ Did (Publish text7) true ∷ Began (Write text7 12288 (codes "hello")) ∷ Did (Write text7 12288 (codes "hello")) true ∷ Began (Sync text7) ∷ Did (Sync text7) true ∷ Began (Write text7 8192 ((1 ∷ []))) ∷ Did (Write text7 8192 ((1 ∷ []))) true ∷ Began (Sync text7) ∷ Did (Sync text7) true ∷ Noted (Kept (codes "http://h/a") (codes "\"x\"") 5 5) ∷ Noted (Taken 1 0 (Hit 0 5)) ∷ wait true (1 ∷ 2 ∷ []) (1 ∷ []) ∷ CanWrite 1 ∷ Said 1 154 text8 ∷ wait true (1 ∷ 2 ∷ []) (1 ∷ []) ∷ CanWrite 1 ∷ Said 1 5 (codes "hello") ∷ Said 1 5 (codes "hello") ∷ wait true (1 ∷ 2 ∷ []) [] ∷ [])) ≡ true
unfolding judging
row16doubled42 = refl

row16doubled43 : is_some (fault_from 0 (start (record { words = (codes "diskRun=1") ∷ text0 ∷ text1 ∷ []; faults = 0 } ∷ record { words = (codes "diskRun=1") ∷ text0 ∷ text1 ∷ []; faults = 0 } ∷ [])) (Woke [] ∷ Rooted text2 ∷ Listed true ∷ Listens 8123 true ∷ wait true [] [] ∷ Clock 784111777 ∷ wait true [] [] ∷ Opened 1 ∷ wait true (1 ∷ []) [] ∷ CanRead 1 ∷ Heard 1 text3 ∷ Noted (Taken 1 0 Fetch) ∷ Dialled 2 (codes "h") 80 ∷ wait true (1 ∷ []) [] ∷ Reached 2 ∷ wait true (1 ∷ 2 ∷ []) (2 ∷ []) ∷ CanWrite 2 ∷ Asked 2 text4 ∷ wait true (1 ∷ 2 ∷ []) [] ∷ CanRead 2 ∷ Got 2 text5 ∷ Began (Draft text6) ∷ Did (Draft text6) true ∷ Began SyncDraft ∷ Did SyncDraft true ∷ Began (Publish text7) ∷ Did (Publish text7) true ∷ Began (Write text7 12288 (codes "hello")) ∷ Did (Write text7 12288 (codes "hello")) true ∷ Began (Sync text7) ∷ Did (Sync text7) true ∷ Began (Write text7 8192 ((1 ∷ []))) ∷ Did (Write text7 8192 ((1 ∷ []))) true ∷ Began (Sync text7) ∷ Did (Sync text7) true ∷ Noted (Kept (codes "http://h/a") (codes "\"x\"") 5 5) ∷ Noted (Taken 1 0 (Hit 0 5)) ∷ wait true (1 ∷ 2 ∷ []) (1 ∷ []) ∷ CanWrite 1 ∷ Said 1 154 text8 ∷ wait true (1 ∷ 2 ∷ []) (1 ∷ []) ∷ CanWrite 1 ∷ Said 1 5 (codes "hello") ∷ wait true (1 ∷ 2 ∷ []) [] ∷ wait true (1 ∷ 2 ∷ []) [] ∷ [])) ≡ true
unfolding judging
row16doubled43 = refl

row16swapped0 : is_some (fault_from 0 (start (record { words = (codes "diskRun=1") ∷ text0 ∷ text1 ∷ []; faults = 0 } ∷ record { words = (codes "diskRun=1") ∷ text0 ∷ text1 ∷ []; faults = 0 } ∷ [])) (Rooted text2 ∷ Woke [] ∷ Listed true ∷ Listens 8123 true ∷ wait true [] [] ∷ Clock 784111777 ∷ wait true [] [] ∷ Opened 1 ∷ wait true (1 ∷ []) [] ∷ CanRead 1 ∷ Heard 1 text3 ∷ Noted (Taken 1 0 Fetch) ∷ Dialled 2 (codes "h") 80 ∷ wait true (1 ∷ []) [] ∷ Reached 2 ∷ wait true (1 ∷ 2 ∷ []) (2 ∷ []) ∷ CanWrite 2 ∷ Asked 2 text4 ∷ wait true (1 ∷ 2 ∷ []) [] ∷ CanRead 2 ∷ Got 2 text5 ∷ Began (Draft text6) ∷ Did (Draft text6) true ∷ Began SyncDraft ∷ Did SyncDraft true ∷ Began (Publish text7) ∷ Did (Publish text7) true ∷ Began (Write text7 12288 (codes "hello")) ∷ Did (Write text7 12288 (codes "hello")) true ∷ Began (Sync text7) ∷ Did (Sync text7) true ∷ Began (Write text7 8192 ((1 ∷ []))) ∷ Did (Write text7 8192 ((1 ∷ []))) true ∷ Began (Sync text7) ∷ Did (Sync text7) true ∷ Noted (Kept (codes "http://h/a") (codes "\"x\"") 5 5) ∷ Noted (Taken 1 0 (Hit 0 5)) ∷ wait true (1 ∷ 2 ∷ []) (1 ∷ []) ∷ CanWrite 1 ∷ Said 1 154 text8 ∷ wait true (1 ∷ 2 ∷ []) (1 ∷ []) ∷ CanWrite 1 ∷ Said 1 5 (codes "hello") ∷ wait true (1 ∷ 2 ∷ []) [] ∷ [])) ≡ true
unfolding judging
row16swapped0 = refl

row16swapped1 : is_some (fault_from 0 (start (record { words = (codes "diskRun=1") ∷ text0 ∷ text1 ∷ []; faults = 0 } ∷ record { words = (codes "diskRun=1") ∷ text0 ∷ text1 ∷ []; faults = 0 } ∷ [])) (Woke [] ∷ Listed true ∷ Rooted text2 ∷ Listens 8123 true ∷ wait true [] [] ∷ Clock 784111777 ∷ wait true [] [] ∷ Opened 1 ∷ wait true (1 ∷ []) [] ∷ CanRead 1 ∷ Heard 1 text3 ∷ Noted (Taken 1 0 Fetch) ∷ Dialled 2 (codes "h") 80 ∷ wait true (1 ∷ []) [] ∷ Reached 2 ∷ wait true (1 ∷ 2 ∷ []) (2 ∷ []) ∷ CanWrite 2 ∷ Asked 2 text4 ∷ wait true (1 ∷ 2 ∷ []) [] ∷ CanRead 2 ∷ Got 2 text5 ∷ Began (Draft text6) ∷ Did (Draft text6) true ∷ Began SyncDraft ∷ Did SyncDraft true ∷ Began (Publish text7) ∷ Did (Publish text7) true ∷ Began (Write text7 12288 (codes "hello")) ∷ Did (Write text7 12288 (codes "hello")) true ∷ Began (Sync text7) ∷ Did (Sync text7) true ∷ Began (Write text7 8192 ((1 ∷ []))) ∷ Did (Write text7 8192 ((1 ∷ []))) true ∷ Began (Sync text7) ∷ Did (Sync text7) true ∷ Noted (Kept (codes "http://h/a") (codes "\"x\"") 5 5) ∷ Noted (Taken 1 0 (Hit 0 5)) ∷ wait true (1 ∷ 2 ∷ []) (1 ∷ []) ∷ CanWrite 1 ∷ Said 1 154 text8 ∷ wait true (1 ∷ 2 ∷ []) (1 ∷ []) ∷ CanWrite 1 ∷ Said 1 5 (codes "hello") ∷ wait true (1 ∷ 2 ∷ []) [] ∷ [])) ≡ true
unfolding judging
row16swapped1 = refl

row16swapped2 : is_some (fault_from 0 (start (record { words = (codes "diskRun=1") ∷ text0 ∷ text1 ∷ []; faults = 0 } ∷ record { words = (codes "diskRun=1") ∷ text0 ∷ text1 ∷ []; faults = 0 } ∷ [])) (Woke [] ∷ Rooted text2 ∷ Listens 8123 true ∷ Listed true ∷ wait true [] [] ∷ Clock 784111777 ∷ wait true [] [] ∷ Opened 1 ∷ wait true (1 ∷ []) [] ∷ CanRead 1 ∷ Heard 1 text3 ∷ Noted (Taken 1 0 Fetch) ∷ Dialled 2 (codes "h") 80 ∷ wait true (1 ∷ []) [] ∷ Reached 2 ∷ wait true (1 ∷ 2 ∷ []) (2 ∷ []) ∷ CanWrite 2 ∷ Asked 2 text4 ∷ wait true (1 ∷ 2 ∷ []) [] ∷ CanRead 2 ∷ Got 2 text5 ∷ Began (Draft text6) ∷ Did (Draft text6) true ∷ Began SyncDraft ∷ Did SyncDraft true ∷ Began (Publish text7) ∷ Did (Publish text7) true ∷ Began (Write text7 12288 (codes "hello")) ∷ Did (Write text7 12288 (codes "hello")) true ∷ Began (Sync text7) ∷ Did (Sync text7) true ∷ Began (Write text7 8192 ((1 ∷ []))) ∷ Did (Write text7 8192 ((1 ∷ []))) true ∷ Began (Sync text7) ∷ Did (Sync text7) true ∷ Noted (Kept (codes "http://h/a") (codes "\"x\"") 5 5) ∷ Noted (Taken 1 0 (Hit 0 5)) ∷ wait true (1 ∷ 2 ∷ []) (1 ∷ []) ∷ CanWrite 1 ∷ Said 1 154 text8 ∷ wait true (1 ∷ 2 ∷ []) (1 ∷ []) ∷ CanWrite 1 ∷ Said 1 5 (codes "hello") ∷ wait true (1 ∷ 2 ∷ []) [] ∷ [])) ≡ true
unfolding judging
row16swapped2 = refl

row16swapped3 : is_some (fault_from 0 (start (record { words = (codes "diskRun=1") ∷ text0 ∷ text1 ∷ []; faults = 0 } ∷ record { words = (codes "diskRun=1") ∷ text0 ∷ text1 ∷ []; faults = 0 } ∷ [])) (Woke [] ∷ Rooted text2 ∷ Listed true ∷ wait true [] [] ∷ Listens 8123 true ∷ Clock 784111777 ∷ wait true [] [] ∷ Opened 1 ∷ wait true (1 ∷ []) [] ∷ CanRead 1 ∷ Heard 1 text3 ∷ Noted (Taken 1 0 Fetch) ∷ Dialled 2 (codes "h") 80 ∷ wait true (1 ∷ []) [] ∷ Reached 2 ∷ wait true (1 ∷ 2 ∷ []) (2 ∷ []) ∷ CanWrite 2 ∷ Asked 2 text4 ∷ wait true (1 ∷ 2 ∷ []) [] ∷ CanRead 2 ∷ Got 2 text5 ∷ Began (Draft text6) ∷ Did (Draft text6) true ∷ Began SyncDraft ∷ Did SyncDraft true ∷ Began (Publish text7) ∷ Did (Publish text7) true ∷ Began (Write text7 12288 (codes "hello")) ∷ Did (Write text7 12288 (codes "hello")) true ∷ Began (Sync text7) ∷ Did (Sync text7) true ∷ Began (Write text7 8192 ((1 ∷ []))) ∷ Did (Write text7 8192 ((1 ∷ []))) true ∷ Began (Sync text7) ∷ Did (Sync text7) true ∷ Noted (Kept (codes "http://h/a") (codes "\"x\"") 5 5) ∷ Noted (Taken 1 0 (Hit 0 5)) ∷ wait true (1 ∷ 2 ∷ []) (1 ∷ []) ∷ CanWrite 1 ∷ Said 1 154 text8 ∷ wait true (1 ∷ 2 ∷ []) (1 ∷ []) ∷ CanWrite 1 ∷ Said 1 5 (codes "hello") ∷ wait true (1 ∷ 2 ∷ []) [] ∷ [])) ≡ true
unfolding judging
row16swapped3 = refl

row16swapped4 : is_some (fault_from 0 (start (record { words = (codes "diskRun=1") ∷ text0 ∷ text1 ∷ []; faults = 0 } ∷ record { words = (codes "diskRun=1") ∷ text0 ∷ text1 ∷ []; faults = 0 } ∷ [])) (Woke [] ∷ Rooted text2 ∷ Listed true ∷ Listens 8123 true ∷ Clock 784111777 ∷ wait true [] [] ∷ wait true [] [] ∷ Opened 1 ∷ wait true (1 ∷ []) [] ∷ CanRead 1 ∷ Heard 1 text3 ∷ Noted (Taken 1 0 Fetch) ∷ Dialled 2 (codes "h") 80 ∷ wait true (1 ∷ []) [] ∷ Reached 2 ∷ wait true (1 ∷ 2 ∷ []) (2 ∷ []) ∷ CanWrite 2 ∷ Asked 2 text4 ∷ wait true (1 ∷ 2 ∷ []) [] ∷ CanRead 2 ∷ Got 2 text5 ∷ Began (Draft text6) ∷ Did (Draft text6) true ∷ Began SyncDraft ∷ Did SyncDraft true ∷ Began (Publish text7) ∷ Did (Publish text7) true ∷ Began (Write text7 12288 (codes "hello")) ∷ Did (Write text7 12288 (codes "hello")) true ∷ Began (Sync text7) ∷ Did (Sync text7) true ∷ Began (Write text7 8192 ((1 ∷ []))) ∷ Did (Write text7 8192 ((1 ∷ []))) true ∷ Began (Sync text7) ∷ Did (Sync text7) true ∷ Noted (Kept (codes "http://h/a") (codes "\"x\"") 5 5) ∷ Noted (Taken 1 0 (Hit 0 5)) ∷ wait true (1 ∷ 2 ∷ []) (1 ∷ []) ∷ CanWrite 1 ∷ Said 1 154 text8 ∷ wait true (1 ∷ 2 ∷ []) (1 ∷ []) ∷ CanWrite 1 ∷ Said 1 5 (codes "hello") ∷ wait true (1 ∷ 2 ∷ []) [] ∷ [])) ≡ true
unfolding judging
row16swapped4 = refl

row16swapped5 : is_some (fault_from 0 (start (record { words = (codes "diskRun=1") ∷ text0 ∷ text1 ∷ []; faults = 0 } ∷ record { words = (codes "diskRun=1") ∷ text0 ∷ text1 ∷ []; faults = 0 } ∷ [])) (Woke [] ∷ Rooted text2 ∷ Listed true ∷ Listens 8123 true ∷ wait true [] [] ∷ wait true [] [] ∷ Clock 784111777 ∷ Opened 1 ∷ wait true (1 ∷ []) [] ∷ CanRead 1 ∷ Heard 1 text3 ∷ Noted (Taken 1 0 Fetch) ∷ Dialled 2 (codes "h") 80 ∷ wait true (1 ∷ []) [] ∷ Reached 2 ∷ wait true (1 ∷ 2 ∷ []) (2 ∷ []) ∷ CanWrite 2 ∷ Asked 2 text4 ∷ wait true (1 ∷ 2 ∷ []) [] ∷ CanRead 2 ∷ Got 2 text5 ∷ Began (Draft text6) ∷ Did (Draft text6) true ∷ Began SyncDraft ∷ Did SyncDraft true ∷ Began (Publish text7) ∷ Did (Publish text7) true ∷ Began (Write text7 12288 (codes "hello")) ∷ Did (Write text7 12288 (codes "hello")) true ∷ Began (Sync text7) ∷ Did (Sync text7) true ∷ Began (Write text7 8192 ((1 ∷ []))) ∷ Did (Write text7 8192 ((1 ∷ []))) true ∷ Began (Sync text7) ∷ Did (Sync text7) true ∷ Noted (Kept (codes "http://h/a") (codes "\"x\"") 5 5) ∷ Noted (Taken 1 0 (Hit 0 5)) ∷ wait true (1 ∷ 2 ∷ []) (1 ∷ []) ∷ CanWrite 1 ∷ Said 1 154 text8 ∷ wait true (1 ∷ 2 ∷ []) (1 ∷ []) ∷ CanWrite 1 ∷ Said 1 5 (codes "hello") ∷ wait true (1 ∷ 2 ∷ []) [] ∷ [])) ≡ true
unfolding judging
row16swapped5 = refl

row16swapped6 : is_some (fault_from 0 (start (record { words = (codes "diskRun=1") ∷ text0 ∷ text1 ∷ []; faults = 0 } ∷ record { words = (codes "diskRun=1") ∷ text0 ∷ text1 ∷ []; faults = 0 } ∷ [])) (Woke [] ∷ Rooted text2 ∷ Listed true ∷ Listens 8123 true ∷ wait true [] [] ∷ Clock 784111777 ∷ Opened 1 ∷ wait true [] [] ∷ wait true (1 ∷ []) [] ∷ CanRead 1 ∷ Heard 1 text3 ∷ Noted (Taken 1 0 Fetch) ∷ Dialled 2 (codes "h") 80 ∷ wait true (1 ∷ []) [] ∷ Reached 2 ∷ wait true (1 ∷ 2 ∷ []) (2 ∷ []) ∷ CanWrite 2 ∷ Asked 2 text4 ∷ wait true (1 ∷ 2 ∷ []) [] ∷ CanRead 2 ∷ Got 2 text5 ∷ Began (Draft text6) ∷ Did (Draft text6) true ∷ Began SyncDraft ∷ Did SyncDraft true ∷ Began (Publish text7) ∷ Did (Publish text7) true ∷ Began (Write text7 12288 (codes "hello")) ∷ Did (Write text7 12288 (codes "hello")) true ∷ Began (Sync text7) ∷ Did (Sync text7) true ∷ Began (Write text7 8192 ((1 ∷ []))) ∷ Did (Write text7 8192 ((1 ∷ []))) true ∷ Began (Sync text7) ∷ Did (Sync text7) true ∷ Noted (Kept (codes "http://h/a") (codes "\"x\"") 5 5) ∷ Noted (Taken 1 0 (Hit 0 5)) ∷ wait true (1 ∷ 2 ∷ []) (1 ∷ []) ∷ CanWrite 1 ∷ Said 1 154 text8 ∷ wait true (1 ∷ 2 ∷ []) (1 ∷ []) ∷ CanWrite 1 ∷ Said 1 5 (codes "hello") ∷ wait true (1 ∷ 2 ∷ []) [] ∷ [])) ≡ true
unfolding judging
row16swapped6 = refl

row16swapped7 : is_some (fault_from 0 (start (record { words = (codes "diskRun=1") ∷ text0 ∷ text1 ∷ []; faults = 0 } ∷ record { words = (codes "diskRun=1") ∷ text0 ∷ text1 ∷ []; faults = 0 } ∷ [])) (Woke [] ∷ Rooted text2 ∷ Listed true ∷ Listens 8123 true ∷ wait true [] [] ∷ Clock 784111777 ∷ wait true [] [] ∷ wait true (1 ∷ []) [] ∷ Opened 1 ∷ CanRead 1 ∷ Heard 1 text3 ∷ Noted (Taken 1 0 Fetch) ∷ Dialled 2 (codes "h") 80 ∷ wait true (1 ∷ []) [] ∷ Reached 2 ∷ wait true (1 ∷ 2 ∷ []) (2 ∷ []) ∷ CanWrite 2 ∷ Asked 2 text4 ∷ wait true (1 ∷ 2 ∷ []) [] ∷ CanRead 2 ∷ Got 2 text5 ∷ Began (Draft text6) ∷ Did (Draft text6) true ∷ Began SyncDraft ∷ Did SyncDraft true ∷ Began (Publish text7) ∷ Did (Publish text7) true ∷ Began (Write text7 12288 (codes "hello")) ∷ Did (Write text7 12288 (codes "hello")) true ∷ Began (Sync text7) ∷ Did (Sync text7) true ∷ Began (Write text7 8192 ((1 ∷ []))) ∷ Did (Write text7 8192 ((1 ∷ []))) true ∷ Began (Sync text7) ∷ Did (Sync text7) true ∷ Noted (Kept (codes "http://h/a") (codes "\"x\"") 5 5) ∷ Noted (Taken 1 0 (Hit 0 5)) ∷ wait true (1 ∷ 2 ∷ []) (1 ∷ []) ∷ CanWrite 1 ∷ Said 1 154 text8 ∷ wait true (1 ∷ 2 ∷ []) (1 ∷ []) ∷ CanWrite 1 ∷ Said 1 5 (codes "hello") ∷ wait true (1 ∷ 2 ∷ []) [] ∷ [])) ≡ true
unfolding judging
row16swapped7 = refl

row16swapped8 : is_some (fault_from 0 (start (record { words = (codes "diskRun=1") ∷ text0 ∷ text1 ∷ []; faults = 0 } ∷ record { words = (codes "diskRun=1") ∷ text0 ∷ text1 ∷ []; faults = 0 } ∷ [])) (Woke [] ∷ Rooted text2 ∷ Listed true ∷ Listens 8123 true ∷ wait true [] [] ∷ Clock 784111777 ∷ wait true [] [] ∷ Opened 1 ∷ CanRead 1 ∷ wait true (1 ∷ []) [] ∷ Heard 1 text3 ∷ Noted (Taken 1 0 Fetch) ∷ Dialled 2 (codes "h") 80 ∷ wait true (1 ∷ []) [] ∷ Reached 2 ∷ wait true (1 ∷ 2 ∷ []) (2 ∷ []) ∷ CanWrite 2 ∷ Asked 2 text4 ∷ wait true (1 ∷ 2 ∷ []) [] ∷ CanRead 2 ∷ Got 2 text5 ∷ Began (Draft text6) ∷ Did (Draft text6) true ∷ Began SyncDraft ∷ Did SyncDraft true ∷ Began (Publish text7) ∷ Did (Publish text7) true ∷ Began (Write text7 12288 (codes "hello")) ∷ Did (Write text7 12288 (codes "hello")) true ∷ Began (Sync text7) ∷ Did (Sync text7) true ∷ Began (Write text7 8192 ((1 ∷ []))) ∷ Did (Write text7 8192 ((1 ∷ []))) true ∷ Began (Sync text7) ∷ Did (Sync text7) true ∷ Noted (Kept (codes "http://h/a") (codes "\"x\"") 5 5) ∷ Noted (Taken 1 0 (Hit 0 5)) ∷ wait true (1 ∷ 2 ∷ []) (1 ∷ []) ∷ CanWrite 1 ∷ Said 1 154 text8 ∷ wait true (1 ∷ 2 ∷ []) (1 ∷ []) ∷ CanWrite 1 ∷ Said 1 5 (codes "hello") ∷ wait true (1 ∷ 2 ∷ []) [] ∷ [])) ≡ true
unfolding judging
row16swapped8 = refl

row16swapped9 : is_some (fault_from 0 (start (record { words = (codes "diskRun=1") ∷ text0 ∷ text1 ∷ []; faults = 0 } ∷ record { words = (codes "diskRun=1") ∷ text0 ∷ text1 ∷ []; faults = 0 } ∷ [])) (Woke [] ∷ Rooted text2 ∷ Listed true ∷ Listens 8123 true ∷ wait true [] [] ∷ Clock 784111777 ∷ wait true [] [] ∷ Opened 1 ∷ wait true (1 ∷ []) [] ∷ Heard 1 text3 ∷ CanRead 1 ∷ Noted (Taken 1 0 Fetch) ∷ Dialled 2 (codes "h") 80 ∷ wait true (1 ∷ []) [] ∷ Reached 2 ∷ wait true (1 ∷ 2 ∷ []) (2 ∷ []) ∷ CanWrite 2 ∷ Asked 2 text4 ∷ wait true (1 ∷ 2 ∷ []) [] ∷ CanRead 2 ∷ Got 2 text5 ∷ Began (Draft text6) ∷ Did (Draft text6) true ∷ Began SyncDraft ∷ Did SyncDraft true ∷ Began (Publish text7) ∷ Did (Publish text7) true ∷ Began (Write text7 12288 (codes "hello")) ∷ Did (Write text7 12288 (codes "hello")) true ∷ Began (Sync text7) ∷ Did (Sync text7) true ∷ Began (Write text7 8192 ((1 ∷ []))) ∷ Did (Write text7 8192 ((1 ∷ []))) true ∷ Began (Sync text7) ∷ Did (Sync text7) true ∷ Noted (Kept (codes "http://h/a") (codes "\"x\"") 5 5) ∷ Noted (Taken 1 0 (Hit 0 5)) ∷ wait true (1 ∷ 2 ∷ []) (1 ∷ []) ∷ CanWrite 1 ∷ Said 1 154 text8 ∷ wait true (1 ∷ 2 ∷ []) (1 ∷ []) ∷ CanWrite 1 ∷ Said 1 5 (codes "hello") ∷ wait true (1 ∷ 2 ∷ []) [] ∷ [])) ≡ true
unfolding judging
row16swapped9 = refl

row16swapped10 : is_some (fault_from 0 (start (record { words = (codes "diskRun=1") ∷ text0 ∷ text1 ∷ []; faults = 0 } ∷ record { words = (codes "diskRun=1") ∷ text0 ∷ text1 ∷ []; faults = 0 } ∷ [])) (Woke [] ∷ Rooted text2 ∷ Listed true ∷ Listens 8123 true ∷ wait true [] [] ∷ Clock 784111777 ∷ wait true [] [] ∷ Opened 1 ∷ wait true (1 ∷ []) [] ∷ CanRead 1 ∷ Noted (Taken 1 0 Fetch) ∷ Heard 1 text3 ∷ Dialled 2 (codes "h") 80 ∷ wait true (1 ∷ []) [] ∷ Reached 2 ∷ wait true (1 ∷ 2 ∷ []) (2 ∷ []) ∷ CanWrite 2 ∷ Asked 2 text4 ∷ wait true (1 ∷ 2 ∷ []) [] ∷ CanRead 2 ∷ Got 2 text5 ∷ Began (Draft text6) ∷ Did (Draft text6) true ∷ Began SyncDraft ∷ Did SyncDraft true ∷ Began (Publish text7) ∷ Did (Publish text7) true ∷ Began (Write text7 12288 (codes "hello")) ∷ Did (Write text7 12288 (codes "hello")) true ∷ Began (Sync text7) ∷ Did (Sync text7) true ∷ Began (Write text7 8192 ((1 ∷ []))) ∷ Did (Write text7 8192 ((1 ∷ []))) true ∷ Began (Sync text7) ∷ Did (Sync text7) true ∷ Noted (Kept (codes "http://h/a") (codes "\"x\"") 5 5) ∷ Noted (Taken 1 0 (Hit 0 5)) ∷ wait true (1 ∷ 2 ∷ []) (1 ∷ []) ∷ CanWrite 1 ∷ Said 1 154 text8 ∷ wait true (1 ∷ 2 ∷ []) (1 ∷ []) ∷ CanWrite 1 ∷ Said 1 5 (codes "hello") ∷ wait true (1 ∷ 2 ∷ []) [] ∷ [])) ≡ true
unfolding judging
row16swapped10 = refl

row16swapped11 : is_some (fault_from 0 (start (record { words = (codes "diskRun=1") ∷ text0 ∷ text1 ∷ []; faults = 0 } ∷ record { words = (codes "diskRun=1") ∷ text0 ∷ text1 ∷ []; faults = 0 } ∷ [])) (Woke [] ∷ Rooted text2 ∷ Listed true ∷ Listens 8123 true ∷ wait true [] [] ∷ Clock 784111777 ∷ wait true [] [] ∷ Opened 1 ∷ wait true (1 ∷ []) [] ∷ CanRead 1 ∷ Heard 1 text3 ∷ Dialled 2 (codes "h") 80 ∷ Noted (Taken 1 0 Fetch) ∷ wait true (1 ∷ []) [] ∷ Reached 2 ∷ wait true (1 ∷ 2 ∷ []) (2 ∷ []) ∷ CanWrite 2 ∷ Asked 2 text4 ∷ wait true (1 ∷ 2 ∷ []) [] ∷ CanRead 2 ∷ Got 2 text5 ∷ Began (Draft text6) ∷ Did (Draft text6) true ∷ Began SyncDraft ∷ Did SyncDraft true ∷ Began (Publish text7) ∷ Did (Publish text7) true ∷ Began (Write text7 12288 (codes "hello")) ∷ Did (Write text7 12288 (codes "hello")) true ∷ Began (Sync text7) ∷ Did (Sync text7) true ∷ Began (Write text7 8192 ((1 ∷ []))) ∷ Did (Write text7 8192 ((1 ∷ []))) true ∷ Began (Sync text7) ∷ Did (Sync text7) true ∷ Noted (Kept (codes "http://h/a") (codes "\"x\"") 5 5) ∷ Noted (Taken 1 0 (Hit 0 5)) ∷ wait true (1 ∷ 2 ∷ []) (1 ∷ []) ∷ CanWrite 1 ∷ Said 1 154 text8 ∷ wait true (1 ∷ 2 ∷ []) (1 ∷ []) ∷ CanWrite 1 ∷ Said 1 5 (codes "hello") ∷ wait true (1 ∷ 2 ∷ []) [] ∷ [])) ≡ true
unfolding judging
row16swapped11 = refl

row16swapped12 : is_some (fault_from 0 (start (record { words = (codes "diskRun=1") ∷ text0 ∷ text1 ∷ []; faults = 0 } ∷ record { words = (codes "diskRun=1") ∷ text0 ∷ text1 ∷ []; faults = 0 } ∷ [])) (Woke [] ∷ Rooted text2 ∷ Listed true ∷ Listens 8123 true ∷ wait true [] [] ∷ Clock 784111777 ∷ wait true [] [] ∷ Opened 1 ∷ wait true (1 ∷ []) [] ∷ CanRead 1 ∷ Heard 1 text3 ∷ Noted (Taken 1 0 Fetch) ∷ wait true (1 ∷ []) [] ∷ Dialled 2 (codes "h") 80 ∷ Reached 2 ∷ wait true (1 ∷ 2 ∷ []) (2 ∷ []) ∷ CanWrite 2 ∷ Asked 2 text4 ∷ wait true (1 ∷ 2 ∷ []) [] ∷ CanRead 2 ∷ Got 2 text5 ∷ Began (Draft text6) ∷ Did (Draft text6) true ∷ Began SyncDraft ∷ Did SyncDraft true ∷ Began (Publish text7) ∷ Did (Publish text7) true ∷ Began (Write text7 12288 (codes "hello")) ∷ Did (Write text7 12288 (codes "hello")) true ∷ Began (Sync text7) ∷ Did (Sync text7) true ∷ Began (Write text7 8192 ((1 ∷ []))) ∷ Did (Write text7 8192 ((1 ∷ []))) true ∷ Began (Sync text7) ∷ Did (Sync text7) true ∷ Noted (Kept (codes "http://h/a") (codes "\"x\"") 5 5) ∷ Noted (Taken 1 0 (Hit 0 5)) ∷ wait true (1 ∷ 2 ∷ []) (1 ∷ []) ∷ CanWrite 1 ∷ Said 1 154 text8 ∷ wait true (1 ∷ 2 ∷ []) (1 ∷ []) ∷ CanWrite 1 ∷ Said 1 5 (codes "hello") ∷ wait true (1 ∷ 2 ∷ []) [] ∷ [])) ≡ true
unfolding judging
row16swapped12 = refl

row16swapped13 : is_some (fault_from 0 (start (record { words = (codes "diskRun=1") ∷ text0 ∷ text1 ∷ []; faults = 0 } ∷ record { words = (codes "diskRun=1") ∷ text0 ∷ text1 ∷ []; faults = 0 } ∷ [])) (Woke [] ∷ Rooted text2 ∷ Listed true ∷ Listens 8123 true ∷ wait true [] [] ∷ Clock 784111777 ∷ wait true [] [] ∷ Opened 1 ∷ wait true (1 ∷ []) [] ∷ CanRead 1 ∷ Heard 1 text3 ∷ Noted (Taken 1 0 Fetch) ∷ Dialled 2 (codes "h") 80 ∷ Reached 2 ∷ wait true (1 ∷ []) [] ∷ wait true (1 ∷ 2 ∷ []) (2 ∷ []) ∷ CanWrite 2 ∷ Asked 2 text4 ∷ wait true (1 ∷ 2 ∷ []) [] ∷ CanRead 2 ∷ Got 2 text5 ∷ Began (Draft text6) ∷ Did (Draft text6) true ∷ Began SyncDraft ∷ Did SyncDraft true ∷ Began (Publish text7) ∷ Did (Publish text7) true ∷ Began (Write text7 12288 (codes "hello")) ∷ Did (Write text7 12288 (codes "hello")) true ∷ Began (Sync text7) ∷ Did (Sync text7) true ∷ Began (Write text7 8192 ((1 ∷ []))) ∷ Did (Write text7 8192 ((1 ∷ []))) true ∷ Began (Sync text7) ∷ Did (Sync text7) true ∷ Noted (Kept (codes "http://h/a") (codes "\"x\"") 5 5) ∷ Noted (Taken 1 0 (Hit 0 5)) ∷ wait true (1 ∷ 2 ∷ []) (1 ∷ []) ∷ CanWrite 1 ∷ Said 1 154 text8 ∷ wait true (1 ∷ 2 ∷ []) (1 ∷ []) ∷ CanWrite 1 ∷ Said 1 5 (codes "hello") ∷ wait true (1 ∷ 2 ∷ []) [] ∷ [])) ≡ true
unfolding judging
row16swapped13 = refl

row16swapped14 : is_some (fault_from 0 (start (record { words = (codes "diskRun=1") ∷ text0 ∷ text1 ∷ []; faults = 0 } ∷ record { words = (codes "diskRun=1") ∷ text0 ∷ text1 ∷ []; faults = 0 } ∷ [])) (Woke [] ∷ Rooted text2 ∷ Listed true ∷ Listens 8123 true ∷ wait true [] [] ∷ Clock 784111777 ∷ wait true [] [] ∷ Opened 1 ∷ wait true (1 ∷ []) [] ∷ CanRead 1 ∷ Heard 1 text3 ∷ Noted (Taken 1 0 Fetch) ∷ Dialled 2 (codes "h") 80 ∷ wait true (1 ∷ []) [] ∷ wait true (1 ∷ 2 ∷ []) (2 ∷ []) ∷ Reached 2 ∷ CanWrite 2 ∷ Asked 2 text4 ∷ wait true (1 ∷ 2 ∷ []) [] ∷ CanRead 2 ∷ Got 2 text5 ∷ Began (Draft text6) ∷ Did (Draft text6) true ∷ Began SyncDraft ∷ Did SyncDraft true ∷ Began (Publish text7) ∷ Did (Publish text7) true ∷ Began (Write text7 12288 (codes "hello")) ∷ Did (Write text7 12288 (codes "hello")) true ∷ Began (Sync text7) ∷ Did (Sync text7) true ∷ Began (Write text7 8192 ((1 ∷ []))) ∷ Did (Write text7 8192 ((1 ∷ []))) true ∷ Began (Sync text7) ∷ Did (Sync text7) true ∷ Noted (Kept (codes "http://h/a") (codes "\"x\"") 5 5) ∷ Noted (Taken 1 0 (Hit 0 5)) ∷ wait true (1 ∷ 2 ∷ []) (1 ∷ []) ∷ CanWrite 1 ∷ Said 1 154 text8 ∷ wait true (1 ∷ 2 ∷ []) (1 ∷ []) ∷ CanWrite 1 ∷ Said 1 5 (codes "hello") ∷ wait true (1 ∷ 2 ∷ []) [] ∷ [])) ≡ true
unfolding judging
row16swapped14 = refl

row16swapped15 : is_some (fault_from 0 (start (record { words = (codes "diskRun=1") ∷ text0 ∷ text1 ∷ []; faults = 0 } ∷ record { words = (codes "diskRun=1") ∷ text0 ∷ text1 ∷ []; faults = 0 } ∷ [])) (Woke [] ∷ Rooted text2 ∷ Listed true ∷ Listens 8123 true ∷ wait true [] [] ∷ Clock 784111777 ∷ wait true [] [] ∷ Opened 1 ∷ wait true (1 ∷ []) [] ∷ CanRead 1 ∷ Heard 1 text3 ∷ Noted (Taken 1 0 Fetch) ∷ Dialled 2 (codes "h") 80 ∷ wait true (1 ∷ []) [] ∷ Reached 2 ∷ CanWrite 2 ∷ wait true (1 ∷ 2 ∷ []) (2 ∷ []) ∷ Asked 2 text4 ∷ wait true (1 ∷ 2 ∷ []) [] ∷ CanRead 2 ∷ Got 2 text5 ∷ Began (Draft text6) ∷ Did (Draft text6) true ∷ Began SyncDraft ∷ Did SyncDraft true ∷ Began (Publish text7) ∷ Did (Publish text7) true ∷ Began (Write text7 12288 (codes "hello")) ∷ Did (Write text7 12288 (codes "hello")) true ∷ Began (Sync text7) ∷ Did (Sync text7) true ∷ Began (Write text7 8192 ((1 ∷ []))) ∷ Did (Write text7 8192 ((1 ∷ []))) true ∷ Began (Sync text7) ∷ Did (Sync text7) true ∷ Noted (Kept (codes "http://h/a") (codes "\"x\"") 5 5) ∷ Noted (Taken 1 0 (Hit 0 5)) ∷ wait true (1 ∷ 2 ∷ []) (1 ∷ []) ∷ CanWrite 1 ∷ Said 1 154 text8 ∷ wait true (1 ∷ 2 ∷ []) (1 ∷ []) ∷ CanWrite 1 ∷ Said 1 5 (codes "hello") ∷ wait true (1 ∷ 2 ∷ []) [] ∷ [])) ≡ true
unfolding judging
row16swapped15 = refl

row16swapped16 : is_some (fault_from 0 (start (record { words = (codes "diskRun=1") ∷ text0 ∷ text1 ∷ []; faults = 0 } ∷ record { words = (codes "diskRun=1") ∷ text0 ∷ text1 ∷ []; faults = 0 } ∷ [])) (Woke [] ∷ Rooted text2 ∷ Listed true ∷ Listens 8123 true ∷ wait true [] [] ∷ Clock 784111777 ∷ wait true [] [] ∷ Opened 1 ∷ wait true (1 ∷ []) [] ∷ CanRead 1 ∷ Heard 1 text3 ∷ Noted (Taken 1 0 Fetch) ∷ Dialled 2 (codes "h") 80 ∷ wait true (1 ∷ []) [] ∷ Reached 2 ∷ wait true (1 ∷ 2 ∷ []) (2 ∷ []) ∷ Asked 2 text4 ∷ CanWrite 2 ∷ wait true (1 ∷ 2 ∷ []) [] ∷ CanRead 2 ∷ Got 2 text5 ∷ Began (Draft text6) ∷ Did (Draft text6) true ∷ Began SyncDraft ∷ Did SyncDraft true ∷ Began (Publish text7) ∷ Did (Publish text7) true ∷ Began (Write text7 12288 (codes "hello")) ∷ Did (Write text7 12288 (codes "hello")) true ∷ Began (Sync text7) ∷ Did (Sync text7) true ∷ Began (Write text7 8192 ((1 ∷ []))) ∷ Did (Write text7 8192 ((1 ∷ []))) true ∷ Began (Sync text7) ∷ Did (Sync text7) true ∷ Noted (Kept (codes "http://h/a") (codes "\"x\"") 5 5) ∷ Noted (Taken 1 0 (Hit 0 5)) ∷ wait true (1 ∷ 2 ∷ []) (1 ∷ []) ∷ CanWrite 1 ∷ Said 1 154 text8 ∷ wait true (1 ∷ 2 ∷ []) (1 ∷ []) ∷ CanWrite 1 ∷ Said 1 5 (codes "hello") ∷ wait true (1 ∷ 2 ∷ []) [] ∷ [])) ≡ true
unfolding judging
row16swapped16 = refl

row16swapped17 : is_some (fault_from 0 (start (record { words = (codes "diskRun=1") ∷ text0 ∷ text1 ∷ []; faults = 0 } ∷ record { words = (codes "diskRun=1") ∷ text0 ∷ text1 ∷ []; faults = 0 } ∷ [])) (Woke [] ∷ Rooted text2 ∷ Listed true ∷ Listens 8123 true ∷ wait true [] [] ∷ Clock 784111777 ∷ wait true [] [] ∷ Opened 1 ∷ wait true (1 ∷ []) [] ∷ CanRead 1 ∷ Heard 1 text3 ∷ Noted (Taken 1 0 Fetch) ∷ Dialled 2 (codes "h") 80 ∷ wait true (1 ∷ []) [] ∷ Reached 2 ∷ wait true (1 ∷ 2 ∷ []) (2 ∷ []) ∷ CanWrite 2 ∷ wait true (1 ∷ 2 ∷ []) [] ∷ Asked 2 text4 ∷ CanRead 2 ∷ Got 2 text5 ∷ Began (Draft text6) ∷ Did (Draft text6) true ∷ Began SyncDraft ∷ Did SyncDraft true ∷ Began (Publish text7) ∷ Did (Publish text7) true ∷ Began (Write text7 12288 (codes "hello")) ∷ Did (Write text7 12288 (codes "hello")) true ∷ Began (Sync text7) ∷ Did (Sync text7) true ∷ Began (Write text7 8192 ((1 ∷ []))) ∷ Did (Write text7 8192 ((1 ∷ []))) true ∷ Began (Sync text7) ∷ Did (Sync text7) true ∷ Noted (Kept (codes "http://h/a") (codes "\"x\"") 5 5) ∷ Noted (Taken 1 0 (Hit 0 5)) ∷ wait true (1 ∷ 2 ∷ []) (1 ∷ []) ∷ CanWrite 1 ∷ Said 1 154 text8 ∷ wait true (1 ∷ 2 ∷ []) (1 ∷ []) ∷ CanWrite 1 ∷ Said 1 5 (codes "hello") ∷ wait true (1 ∷ 2 ∷ []) [] ∷ [])) ≡ true
unfolding judging
row16swapped17 = refl
