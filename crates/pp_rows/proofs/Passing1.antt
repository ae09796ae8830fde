-- The verdicts of transcripts/passing.log, written by transcripts/make_rows.
use Rattle.std.proofs.Common.{◌≡◌, refl, ℕ, List, [], ◌∷◌, ◌++◌, true, false, Bool, Option, None, Some, codes}
use Rattle.std.specs.Prelude.{replicate, is_some}
use Rattle.pp_world.specs.Log.{Log}
use Rattle.pp_world.specs.declared.happening.Happening.{Happening}
use Rattle.pp_world.specs.declared.happening.Happening.TheVariants.{Woke, Waits, Clock, Opened, CanRead, CanWrite, Heard, HungUp, Said, Shut, Dialled, Undialled, Reached, Ended, Broke, Asked, Got, Dropped, NoneYet, Began, Did, Unread, Noted, Rooted, Listed, Listens, Configured, Printed, Stopped}
use Rattle.pp_world.specs.declared.note.Decision.TheVariants.{Refuse, Hit, Part, Head, NotModified, Unsatisfiable, Relay, Validate, Fetch, Pass}
use Rattle.pp_world.specs.declared.note.Cause.TheVariants.{Superseded, Origin, Short, Idle, Memory, Stop}
use Rattle.pp_world.specs.declared.note.Remark.TheVariants.{Taken, Cut, Kept, Gone, Forgotten, Evicted, Loaded}
use Rattle.pp_world.specs.declared.op.DiskOp.TheVariants.{Draft, SyncDraft, Publish, Write, Sync, Remove}
use Rattle.pp_law.specs.Lists.{Bytes}
use Rattle.pp_law.specs.State.{State, start}
use Rattle.pp_law.specs.Lawful.{fault_from, Fault, ImageNotLeft, OpeningOutOfOrder, EventOutOfTurn, ReadNotAskedFor, FailureMadeUp, WrongReply, WrongAsk, WrongDecision, WrongCut, NotToBeClosed, NotToBeDialled, NotToBeEvicted, NotToBeForgotten, NotToBeLoaded, NotSealed, NotGone, WrongDiskOperation, StepUnfinished, AcceptsWrongly, ClientForgotten, ConnectionForgotten, ExchangeForgotten, WantsTooMuch}
use Rattle.pp_pieces.proofs.Forced.{judge, arrived, judging, told, tell}

abbrev wait : Bool → List ℕ → List ℕ → Happening
wait accept read write = Waits (record { accept = accept; read = record { items = read }; write = record { items = write } })

abbrev text0 : Bytes
text0 = (codes "pipelineAsks=1")

abbrev text1 : Bytes
text1 = (codes "hostConnections=4")

abbrev text2 : Bytes
text2 = (codes "polipo-cache")

abbrev front0 : Log
front0 = Woke [] ∷ Rooted text2 ∷ Listed true ∷ Listens 8123 true ∷ wait true [] [] ∷ Clock 784111777 ∷ wait true [] [] ∷ []

abbrev text3 : Bytes
text3 = (codes "GET http://h/a HTTP/1.1\r\nHost: h\r\nCache-Control: no-store\r\n\r\n")

abbrev text4 : Bytes
text4 = (codes "GET /a HTTP/1.1\r\nhost: h\r\ncache-control: no-store\r\nvia: 1.1 polipo\r\n\r\n")

abbrev text5 : Bytes
text5 = (codes "HTTP/1.1 200 OK\r\nContent-Length: 5\r\n\r\nhello")

abbrev text6 : Bytes
text6 = (codes "HTTP/1.1 200 OK\r\nvia: 1.1 polipo\r\ncontent-length: 5\r\nconnection: keep-alive\r\n\r\n")

abbrev text7 : Bytes
text7 = (codes "GET http://h/a HTTP/1.1\r\nHost: h\r\nCache-Control: no-store\r\n\r\nGET http://h/a HTTP/1.1\r\nHost: h\r\nCache-Control: no-store\r\n\r\n")

abbrev text8 : Bytes
text8 = (codes "HTTP/1.1 200 OK\r\nvia: 1.1 polipo\r\ncontent-length: 6\r\nconnection: keep-alive\r\n\r\n")

abbrev text9 : Bytes
text9 = (codes "HTTP/1.1 200 OK\r\ncontent-length: 5\r\nconnection: keep-alive\r\n\r\n")

abbrev front1 : Log
front1 = Woke [] ∷ Rooted text2 ∷ Listed true ∷ Listens 8123 true ∷ wait true [] [] ∷ Clock 784111777 ∷ wait true [] [] ∷ Opened 1 ∷ wait true (1 ∷ []) [] ∷ CanRead 1 ∷ Heard 1 text3 ∷ Noted (Taken 1 0 Pass) ∷ Dialled 2 (codes "h") 80 ∷ wait true (1 ∷ []) [] ∷ Reached 2 ∷ wait true (1 ∷ 2 ∷ []) (2 ∷ []) ∷ CanWrite 2 ∷ Asked 2 text4 ∷ wait true (1 ∷ 2 ∷ []) [] ∷ []

abbrev text10 : Bytes
text10 = (codes "HTTP/1.1 200 OK\r\n\r\nhello")

abbrev text11 : Bytes
text11 = (codes "HTTP/1.1 200 OK\r\nvia: 1.1 polipo\r\ntransfer-encoding: chunked\r\nconnection: keep-alive\r\n\r\n")

abbrev text12 : Bytes
text12 = (codes "5\r\nhello\r\n0\r\n\r\n")

abbrev text13 : Bytes
text13 = (codes "HTTP/1.1 200 OK\r\nContent-Length: 10\r\n\r\nhello")

abbrev text14 : Bytes
text14 = (codes "HTTP/1.1 200 OK\r\nvia: 1.1 polipo\r\ncontent-length: 10\r\nconnection: keep-alive\r\n\r\n")

abbrev text15 : Bytes
text15 = (codes "HTTP/1.0 200 OK\r\nConnection: close, keep-alive\r\nContent-Length: 5\r\n\r\nhello")

abbrev text16 : Bytes
text16 = (codes "HTTP/1.1 502 Bad Gateway\r\ncontent-type: text/plain\r\ncontent-length: 16\r\nconnection: keep-alive\r\n\r\n502 Bad Gateway\n")

abbrev text17 : Bytes
text17 = (codes "HTTP/1.1 200 OK\r\nTransfer-Encoding: gzip, chunked\r\n\r\n")

abbrev front2 : Log
front2 = Woke [] ∷ Rooted text2 ∷ Listed true ∷ Listens 8123 true ∷ wait true [] [] ∷ Clock 784111777 ∷ wait true [] [] ∷ Opened 1 ∷ wait true (1 ∷ []) [] ∷ CanRead 1 ∷ []

abbrev text18 : Bytes
text18 = (codes "POST http://h/a HTTP/1.1\r\nExpect: 100-continue\r\nContent-Length: 5\r\n\r\n")

abbrev text19 : Bytes
text19 = (codes "HTTP/1.1 100 Continue\r\n\r\n")

abbrev text20 : Bytes
text20 = (codes "POST /a HTTP/1.1\r\nhost: h\r\ncontent-length: 5\r\nvia: 1.1 polipo\r\n\r\n")

abbrev text21 : Bytes
text21 = (codes "POST http://h/a HTTP/1.1\r\nContent-Length: 5\r\n\r\n")

abbrev text22 : Bytes
text22 = (codes "POST http://h/a HTTP/1.1\r\nContent-Length: 5\r\n\r\nhello")

abbrev front3 : Log
front3 = Woke [] ∷ Rooted text2 ∷ Listed true ∷ Listens 8123 true ∷ wait true [] [] ∷ Clock 784111777 ∷ wait true [] [] ∷ Opened 1 ∷ wait true (1 ∷ []) [] ∷ CanRead 1 ∷ Heard 1 text3 ∷ []

row14 : fault_from 0 (start (record { words = (codes "diskRun=1") ∷ text0 ∷ text1 ∷ []; faults = 0 } ∷ [])) (front0 ++ Opened 1 ∷ wait true (1 ∷ []) [] ∷ CanRead 1 ∷ Heard 1 text3 ∷ Noted (Taken 1 0 Pass) ∷ Dialled 2 (codes "h") 80 ∷ wait true (1 ∷ []) [] ∷ Reached 2 ∷ wait true (1 ∷ 2 ∷ []) (2 ∷ []) ∷ CanWrite 2 ∷ Asked 2 text4 ∷ wait true (1 ∷ 2 ∷ []) [] ∷ CanRead 2 ∷ Got 2 text5 ∷ wait true (1 ∷ 2 ∷ []) (1 ∷ []) ∷ CanWrite 1 ∷ Said 1 79 text6 ∷ wait true (1 ∷ 2 ∷ []) (1 ∷ []) ∷ CanWrite 1 ∷ Said 1 5 (codes "hello") ∷ wait true (1 ∷ 2 ∷ []) [] ∷ []) ≡ None
unfolding judging
row14 = refl

row17 : fault_from 0 (start (record { words = (codes "diskRun=1") ∷ text0 ∷ text1 ∷ []; faults = 0 } ∷ [])) (front0 ++ Opened 1 ∷ wait true (1 ∷ []) [] ∷ CanRead 1 ∷ Heard 1 text7 ∷ Noted (Taken 1 0 Pass) ∷ Dialled 2 (codes "h") 80 ∷ wait true (1 ∷ []) [] ∷ Reached 2 ∷ wait true (1 ∷ 2 ∷ []) (2 ∷ []) ∷ CanWrite 2 ∷ Asked 2 text4 ∷ wait true (1 ∷ 2 ∷ []) [] ∷ CanRead 2 ∷ Got 2 text5 ∷ wait true (1 ∷ 2 ∷ []) (1 ∷ []) ∷ CanWrite 1 ∷ Said 1 79 text6 ∷ wait true (1 ∷ 2 ∷ []) (1 ∷ []) ∷ CanWrite 1 ∷ Said 1 5 (codes "hello") ∷ Noted (Taken 1 1 Pass) ∷ wait true (1 ∷ 2 ∷ []) (2 ∷ []) ∷ CanWrite 2 ∷ Asked 2 text4 ∷ wait true (1 ∷ 2 ∷ []) [] ∷ []) ≡ None
unfolding judging
row17 = refl

row30 : fault_from 0 (start (record { words = (codes "diskRun=1") ∷ text0 ∷ text1 ∷ []; faults = 0 } ∷ [])) (front0 ++ Opened 1 ∷ wait true (1 ∷ []) [] ∷ CanRead 1 ∷ Heard 1 text3 ∷ Noted (Taken 1 0 Pass) ∷ Dialled 2 (codes "h") 80 ∷ wait true (1 ∷ []) [] ∷ Reached 2 ∷ wait true (1 ∷ 2 ∷ []) (2 ∷ []) ∷ CanWrite 2 ∷ Asked 2 text4 ∷ wait true (1 ∷ 2 ∷ []) [] ∷ CanRead 2 ∷ Got 2 text5 ∷ wait true (1 ∷ 2 ∷ []) (1 ∷ []) ∷ CanWrite 1 ∷ Said 1 5 (codes "hello") ∷ []) ≡ Some (record { at = 23; rule = WrongReply })
unfolding judging
row30 = refl

row36 : fault_from 0 (start (record { words = (codes "diskRun=1") ∷ text0 ∷ text1 ∷ []; faults = 0 } ∷ [])) (front0 ++ Opened 1 ∷ wait true (1 ∷ []) [] ∷ CanRead 1 ∷ Heard 1 text3 ∷ Noted (Taken 1 0 Pass) ∷ Dialled 2 (codes "h") 80 ∷ wait true (1 ∷ []) [] ∷ Reached 2 ∷ wait true (1 ∷ 2 ∷ []) (2 ∷ []) ∷ CanWrite 2 ∷ Asked 2 text4 ∷ wait true (1 ∷ 2 ∷ []) [] ∷ CanRead 2 ∷ Got 2 text5 ∷ wait true (1 ∷ 2 ∷ []) (1 ∷ []) ∷ CanWrite 1 ∷ Said 1 79 text6 ∷ wait true (1 ∷ 2 ∷ []) (1 ∷ []) ∷ CanWrite 1 ∷ Said 1 6 (codes "hello!") ∷ []) ≡ Some (record { at = 26; rule = WrongReply })
unfolding judging
row36 = refl

row45 : fault_from 0 (start (record { words = (codes "diskRun=1") ∷ text0 ∷ text1 ∷ []; faults = 0 } ∷ [])) (front0 ++ Opened 1 ∷ wait true (1 ∷ []) [] ∷ CanRead 1 ∷ Heard 1 text3 ∷ Noted (Taken 1 0 Pass) ∷ Dialled 2 (codes "h") 80 ∷ wait true (1 ∷ []) [] ∷ Reached 2 ∷ wait true (1 ∷ 2 ∷ []) (2 ∷ []) ∷ CanWrite 2 ∷ Asked 2 text4 ∷ wait true (1 ∷ 2 ∷ []) [] ∷ CanRead 2 ∷ Got 2 text5 ∷ wait true (1 ∷ 2 ∷ []) (1 ∷ []) ∷ CanWrite 1 ∷ Said 1 79 text6 ∷ wait true (1 ∷ 2 ∷ []) (1 ∷ []) ∷ CanWrite 1 ∷ Said 1 5 (codes "jello") ∷ []) ≡ Some (record { at = 26; rule = WrongReply })
unfolding judging
row45 = refl

row54 : fault_from 0 (start (record { words = (codes "diskRun=1") ∷ text0 ∷ text1 ∷ []; faults = 0 } ∷ [])) (front0 ++ Opened 1 ∷ wait true (1 ∷ []) [] ∷ CanRead 1 ∷ Heard 1 text3 ∷ Noted (Taken 1 0 Pass) ∷ Dialled 2 (codes "h") 80 ∷ wait true (1 ∷ []) [] ∷ Reached 2 ∷ wait true (1 ∷ 2 ∷ []) (2 ∷ []) ∷ CanWrite 2 ∷ Asked 2 text4 ∷ wait true (1 ∷ 2 ∷ []) [] ∷ CanRead 2 ∷ Got 2 text5 ∷ wait true (1 ∷ 2 ∷ []) (1 ∷ []) ∷ CanWrite 1 ∷ Said 1 79 text6 ∷ wait true (1 ∷ 2 ∷ []) (1 ∷ []) ∷ CanWrite 1 ∷ Said 1 5 (codes "hello") ∷ Said 1 5 (codes "hello") ∷ []) ≡ Some (record { at = 27; rule = WrongReply })
unfolding judging
row54 = refl

row64 : fault_from 0 (start (record { words = (codes "diskRun=1") ∷ text0 ∷ text1 ∷ []; faults = 0 } ∷ [])) (front0 ++ Opened 1 ∷ wait true (1 ∷ []) [] ∷ CanRead 1 ∷ Heard 1 text3 ∷ Noted (Taken 1 0 Pass) ∷ Dialled 2 (codes "h") 80 ∷ wait true (1 ∷ []) [] ∷ Reached 2 ∷ wait true (1 ∷ 2 ∷ []) (2 ∷ []) ∷ CanWrite 2 ∷ Asked 2 text4 ∷ wait true (1 ∷ 2 ∷ []) [] ∷ CanRead 2 ∷ Got 2 text5 ∷ wait true (1 ∷ 2 ∷ []) (1 ∷ []) ∷ CanWrite 1 ∷ Said 1 79 text8 ∷ []) ≡ Some (record { at = 23; rule = WrongReply })
unfolding judging
row64 = refl

row70 : fault_from 0 (start (record { words = (codes "diskRun=1") ∷ text0 ∷ text1 ∷ []; faults = 0 } ∷ [])) (front0 ++ Opened 1 ∷ wait true (1 ∷ []) [] ∷ CanRead 1 ∷ Heard 1 text3 ∷ Noted (Taken 1 0 Pass) ∷ Dialled 2 (codes "h") 80 ∷ wait true (1 ∷ []) [] ∷ Reached 2 ∷ wait true (1 ∷ 2 ∷ []) (2 ∷ []) ∷ CanWrite 2 ∷ Asked 2 text4 ∷ wait true (1 ∷ 2 ∷ []) [] ∷ CanRead 2 ∷ Got 2 text5 ∷ wait true (1 ∷ 2 ∷ []) (1 ∷ []) ∷ CanWrite 1 ∷ Said 1 62 text9 ∷ []) ≡ Some (record { at = 23; rule = WrongReply })
unfolding judging
row70 = refl

row76 : fault_from 0 (start (record { words = (codes "diskRun=1") ∷ text0 ∷ text1 ∷ []; faults = 0 } ∷ [])) (front0 ++ Opened 1 ∷ wait true (1 ∷ []) [] ∷ CanRead 1 ∷ Heard 1 text7 ∷ Noted (Taken 1 1 Pass) ∷ []) ≡ Some (record { at = 11; rule = WrongDecision })
unfolding judging
row76 = refl

row81 : fault_from 0 (start (record { words = (codes "diskRun=1") ∷ text0 ∷ text1 ∷ []; faults = 0 } ∷ [])) (front0 ++ Opened 1 ∷ wait true (1 ∷ []) [] ∷ CanRead 1 ∷ Heard 1 text7 ∷ Noted (Taken 1 0 Pass) ∷ Dialled 2 (codes "h") 80 ∷ wait true (1 ∷ []) [] ∷ Reached 2 ∷ wait true (1 ∷ 2 ∷ []) (2 ∷ []) ∷ CanWrite 2 ∷ Asked 2 text4 ∷ wait true (1 ∷ 2 ∷ []) [] ∷ CanRead 2 ∷ Got 2 text5 ∷ Noted (Taken 1 1 Pass) ∷ []) ≡ Some (record { at = 21; rule = WrongDecision })
unfolding judging
row81 = refl

row88 : fault_from 0 (start (record { words = (codes "diskRun=1") ∷ text0 ∷ text1 ∷ []; faults = 0 } ∷ [])) (front0 ++ Opened 1 ∷ wait true (1 ∷ []) [] ∷ CanRead 1 ∷ Heard 1 text3 ∷ Noted (Taken 1 0 Fetch) ∷ []) ≡ Some (record { at = 11; rule = WrongDecision })
unfolding judging
row88 = refl

row93 : fault_from 0 (start (record { words = (codes "diskRun=1") ∷ text0 ∷ text1 ∷ []; faults = 0 } ∷ [])) (front0 ++ Opened 1 ∷ wait true (1 ∷ []) [] ∷ CanRead 1 ∷ Heard 1 text7 ∷ Noted (Taken 1 0 Pass) ∷ Dialled 2 (codes "h") 80 ∷ wait true (1 ∷ []) [] ∷ Reached 2 ∷ wait true (1 ∷ 2 ∷ []) (2 ∷ []) ∷ CanWrite 2 ∷ Asked 2 text4 ∷ wait true (1 ∷ 2 ∷ []) [] ∷ CanRead 2 ∷ Got 2 text5 ∷ wait true (1 ∷ 2 ∷ []) (1 ∷ []) ∷ CanWrite 1 ∷ Said 1 79 text6 ∷ wait true (1 ∷ 2 ∷ []) (1 ∷ []) ∷ CanWrite 1 ∷ Said 1 5 (codes "hello") ∷ wait true (1 ∷ 2 ∷ []) [] ∷ []) ≡ Some (record { at = 27; rule = StepUnfinished })
unfolding judging
row93 = refl

row140 : fault_from 0 (start (record { words = (codes "diskRun=1") ∷ text0 ∷ text1 ∷ []; faults = 0 } ∷ [])) (front1 ++ CanRead 2 ∷ Got 2 text10 ∷ wait true (1 ∷ 2 ∷ []) (1 ∷ []) ∷ CanRead 2 ∷ Ended 2 ∷ Dropped 2 ∷ wait true (1 ∷ []) (1 ∷ []) ∷ CanWrite 1 ∷ Said 1 88 text11 ∷ wait true (1 ∷ []) (1 ∷ []) ∷ CanWrite 1 ∷ Said 1 15 text12 ∷ wait true (1 ∷ []) [] ∷ []) ≡ None
unfolding judging
row140 = refl

row151 : fault_from 0 (start (record { words = (codes "diskRun=1") ∷ text0 ∷ text1 ∷ []; faults = 0 } ∷ [])) (front1 ++ CanRead 2 ∷ Got 2 text13 ∷ wait true (1 ∷ 2 ∷ []) (1 ∷ []) ∷ CanRead 2 ∷ Ended 2 ∷ Dropped 2 ∷ wait true (1 ∷ []) (1 ∷ []) ∷ CanWrite 1 ∷ Said 1 80 text14 ∷ wait true (1 ∷ []) (1 ∷ []) ∷ CanWrite 1 ∷ Said 1 5 (codes "hello") ∷ Noted (Cut 1 Short) ∷ Shut 1 ∷ wait true [] [] ∷ []) ≡ None
unfolding judging
row151 = refl

row157 : fault_from 0 (start (record { words = (codes "diskRun=1") ∷ text0 ∷ text1 ∷ []; faults = 0 } ∷ [])) (front1 ++ CanRead 2 ∷ Got 2 text5 ∷ wait true (1 ∷ 2 ∷ []) (1 ∷ []) ∷ Stopped ∷ Noted (Cut 1 Stop) ∷ Dropped 2 ∷ Shut 1 ∷ []) ≡ None
unfolding judging
row157 = refl

row164 : fault_from 0 (start (record { words = (codes "diskRun=1") ∷ text0 ∷ text1 ∷ []; faults = 0 } ∷ [])) (front1 ++ CanRead 2 ∷ Got 2 text10 ∷ wait true (1 ∷ 2 ∷ []) (1 ∷ []) ∷ CanRead 2 ∷ Ended 2 ∷ Dropped 2 ∷ wait true (1 ∷ []) (1 ∷ []) ∷ CanWrite 1 ∷ Said 1 88 text11 ∷ wait true (1 ∷ []) (1 ∷ []) ∷ CanWrite 1 ∷ Said 1 5 (codes "hello") ∷ []) ≡ Some (record { at = 30; rule = WrongReply })
unfolding judging
row164 = refl

row175 : fault_from 0 (start (record { words = (codes "diskRun=1") ∷ text0 ∷ text1 ∷ []; faults = 0 } ∷ [])) (front1 ++ CanRead 2 ∷ Got 2 text10 ∷ wait true (1 ∷ 2 ∷ []) (1 ∷ []) ∷ CanWrite 1 ∷ Said 1 88 text11 ∷ wait true (1 ∷ 2 ∷ []) (1 ∷ []) ∷ CanWrite 1 ∷ Said 1 15 text12 ∷ []) ≡ Some (record { at = 26; rule = WrongReply })
unfolding judging
row175 = refl

row186 : fault_from 0 (start (record { words = (codes "diskRun=1") ∷ text0 ∷ text1 ∷ []; faults = 0 } ∷ [])) (front1 ++ CanRead 2 ∷ Got 2 text13 ∷ wait true (1 ∷ 2 ∷ []) (1 ∷ []) ∷ CanRead 2 ∷ NoneYet 2 ∷ Noted (Cut 1 Short) ∷ []) ≡ Some (record { at = 24; rule = WrongCut })
unfolding judging
row186 = refl

row193 : fault_from 0 (start (record { words = (codes "diskRun=1") ∷ text0 ∷ text1 ∷ []; faults = 0 } ∷ [])) (front1 ++ CanRead 2 ∷ Got 2 text13 ∷ wait true (1 ∷ 2 ∷ []) (1 ∷ []) ∷ CanRead 2 ∷ Ended 2 ∷ Noted (Cut 1 Origin) ∷ []) ≡ Some (record { at = 24; rule = WrongCut })
unfolding judging
row193 = refl

row200 : fault_from 0 (start (record { words = (codes "diskRun=1") ∷ text0 ∷ text1 ∷ []; faults = 0 } ∷ [])) (front1 ++ CanRead 2 ∷ Got 2 text5 ∷ wait true (1 ∷ 2 ∷ []) (1 ∷ []) ∷ CanRead 2 ∷ Ended 2 ∷ Noted (Cut 1 Short) ∷ []) ≡ Some (record { at = 24; rule = WrongCut })
unfolding judging
row200 = refl

row207 : fault_from 0 (start (record { words = (codes "diskRun=1") ∷ text0 ∷ text1 ∷ []; faults = 0 } ∷ [])) (front1 ++ CanRead 2 ∷ Got 2 text13 ∷ wait true (1 ∷ 2 ∷ []) (1 ∷ []) ∷ CanRead 2 ∷ Ended 2 ∷ Noted (Cut 1 Short) ∷ []) ≡ Some (record { at = 24; rule = WrongCut })
unfolding judging
row207 = refl

row214 : fault_from 0 (start (record { words = (codes "diskRun=1") ∷ text0 ∷ text1 ∷ []; faults = 0 } ∷ [])) (front1 ++ CanRead 2 ∷ Got 2 text13 ∷ wait true (1 ∷ 2 ∷ []) (1 ∷ []) ∷ CanRead 2 ∷ Ended 2 ∷ Dropped 2 ∷ wait true (1 ∷ []) (1 ∷ []) ∷ CanWrite 1 ∷ Said 1 80 text14 ∷ wait true (1 ∷ []) (1 ∷ []) ∷ CanWrite 1 ∷ Said 1 5 (codes "hello") ∷ wait true (1 ∷ []) [] ∷ []) ≡ Some (record { at = 31; rule = StepUnfinished })
unfolding judging
row214 = refl

row219 : fault_from 0 (start (record { words = (codes "diskRun=1") ∷ text0 ∷ text1 ∷ []; faults = 0 } ∷ [])) (front1 ++ CanRead 2 ∷ Got 2 text10 ∷ wait true (1 ∷ 2 ∷ []) (1 ∷ []) ∷ CanRead 2 ∷ Ended 2 ∷ wait true (1 ∷ 2 ∷ []) (1 ∷ []) ∷ []) ≡ Some (record { at = 24; rule = StepUnfinished })
unfolding judging
row219 = refl

row224 : fault_from 0 (start (record { words = (codes "diskRun=1") ∷ text0 ∷ text1 ∷ []; faults = 0 } ∷ [])) (front1 ++ CanRead 2 ∷ Got 2 text13 ∷ wait true (1 ∷ 2 ∷ []) (1 ∷ []) ∷ CanRead 2 ∷ Ended 2 ∷ Dropped 2 ∷ wait true (1 ∷ []) (1 ∷ []) ∷ CanWrite 1 ∷ Said 1 80 text14 ∷ wait true (1 ∷ []) (1 ∷ []) ∷ CanWrite 1 ∷ Said 1 5 (codes "hello") ∷ Noted (Cut 1 Short) ∷ wait true (1 ∷ []) [] ∷ []) ≡ Some (record { at = 32; rule = StepUnfinished })
unfolding judging
row224 = refl

row230 : fault_from 0 (start (record { words = (codes "diskRun=1") ∷ text0 ∷ text1 ∷ []; faults = 0 } ∷ [])) (front1 ++ CanRead 2 ∷ Got 2 text5 ∷ wait true (1 ∷ 2 ∷ []) (1 ∷ []) ∷ Stopped ∷ Dropped 2 ∷ []) ≡ Some (record { at = 23; rule = NotToBeClosed })
unfolding judging
row230 = refl

row236 : fault_from 0 (start (record { words = (codes "diskRun=1") ∷ text0 ∷ text1 ∷ []; faults = 0 } ∷ [])) (front1 ++ CanRead 2 ∷ Got 2 text15 ∷ Dropped 2 ∷ wait true (1 ∷ []) (1 ∷ []) ∷ []) ≡ None
unfolding judging
row236 = refl

row241 : fault_from 0 (start (record { words = (codes "diskRun=1") ∷ text0 ∷ text1 ∷ []; faults = 0 } ∷ [])) (front1 ++ CanRead 2 ∷ Got 2 text15 ∷ wait true (1 ∷ 2 ∷ []) (1 ∷ []) ∷ []) ≡ Some (record { at = 21; rule = StepUnfinished })
unfolding judging
row241 = refl

row246 : fault_from 0 (start (record { words = (codes "diskRun=1") ∷ text0 ∷ text1 ∷ []; faults = 0 } ∷ [])) (front1 ++ CanRead 2 ∷ Got 2 text5 ∷ wait true (1 ∷ 2 ∷ []) (1 ∷ []) ∷ CanWrite 1 ∷ Said 1 79 text6 ∷ Dropped 2 ∷ []) ≡ Some (record { at = 24; rule = NotToBeClosed })
unfolding judging
row246 = refl

row268 : fault_from 0 (start (record { words = (codes "diskRun=1") ∷ text0 ∷ text1 ∷ []; faults = 0 } ∷ [])) (front1 ++ Broke 2 ∷ Dropped 2 ∷ Dialled 3 (codes "h") 80 ∷ wait true (1 ∷ []) [] ∷ Broke 3 ∷ Dropped 3 ∷ Dialled 4 (codes "h") 80 ∷ wait true (1 ∷ []) [] ∷ Broke 4 ∷ Noted (Taken 1 0 (Refuse 502)) ∷ Dropped 4 ∷ wait true (1 ∷ []) (1 ∷ []) ∷ CanWrite 1 ∷ Said 1 114 text16 ∷ wait true (1 ∷ []) [] ∷ []) ≡ None
unfolding judging
row268 = refl

row278 : fault_from 0 (start (record { words = (codes "diskRun=1") ∷ text0 ∷ text1 ∷ []; faults = 0 } ∷ [])) (front1 ++ CanRead 2 ∷ Got 2 text17 ∷ Noted (Taken 1 0 (Refuse 502)) ∷ Dropped 2 ∷ wait true (1 ∷ []) (1 ∷ []) ∷ CanWrite 1 ∷ Said 1 114 text16 ∷ wait true (1 ∷ []) [] ∷ []) ≡ None
unfolding judging
row278 = refl

row288 : fault_from 0 (start (record { words = (codes "diskRun=1") ∷ text0 ∷ text1 ∷ []; faults = 0 } ∷ [])) (front1 ++ Broke 2 ∷ Noted (Taken 1 0 (Refuse 502)) ∷ []) ≡ Some (record { at = 20; rule = WrongDecision })
unfolding judging
row288 = refl

row293 : fault_from 0 (start (record { words = (codes "diskRun=1") ∷ text0 ∷ text1 ∷ []; faults = 0 } ∷ [])) (front1 ++ Broke 2 ∷ Dropped 2 ∷ Dialled 3 (codes "h") 80 ∷ wait true (1 ∷ []) [] ∷ Broke 3 ∷ Dropped 3 ∷ Dialled 4 (codes "h") 80 ∷ wait true (1 ∷ []) [] ∷ Broke 4 ∷ Dropped 4 ∷ []) ≡ Some (record { at = 28; rule = NotToBeClosed })
unfolding judging
row293 = refl

row299 : fault_from 0 (start (record { words = (codes "diskRun=1") ∷ text0 ∷ text1 ∷ []; faults = 0 } ∷ [])) (front1 ++ Broke 2 ∷ Dialled 3 (codes "h") 80 ∷ []) ≡ Some (record { at = 20; rule = NotToBeDialled })
unfolding judging
row299 = refl

row304 : fault_from 0 (start (record { words = (codes "diskRun=1") ∷ text0 ∷ text1 ∷ []; faults = 0 } ∷ [])) (front1 ++ Broke 2 ∷ Dropped 2 ∷ wait true (1 ∷ []) [] ∷ []) ≡ Some (record { at = 21; rule = StepUnfinished })
unfolding judging
row304 = refl

row310 : fault_from 0 (start (record { words = (codes "diskRun=1") ∷ text0 ∷ text1 ∷ []; faults = 0 } ∷ [])) (front1 ++ CanRead 2 ∷ Got 2 text17 ∷ Dropped 2 ∷ []) ≡ Some (record { at = 21; rule = NotToBeClosed })
unfolding judging
row310 = refl

row371 : fault_from 0 (start (record { words = (codes "diskRun=1") ∷ text0 ∷ text1 ∷ []; faults = 0 } ∷ [])) (front2 ++ Heard 1 text18 ∷ Noted (Taken 1 0 Pass) ∷ Dialled 2 (codes "h") 80 ∷ wait true (1 ∷ []) (1 ∷ []) ∷ CanWrite 1 ∷ Said 1 25 text19 ∷ wait true (1 ∷ []) [] ∷ Reached 2 ∷ wait true (1 ∷ []) (2 ∷ []) ∷ CanWrite 2 ∷ Asked 2 text20 ∷ wait true (1 ∷ 2 ∷ []) [] ∷ CanRead 1 ∷ Heard 1 (codes "hello") ∷ wait true (1 ∷ 2 ∷ []) (2 ∷ []) ∷ CanWrite 2 ∷ Asked 2 (codes "hello") ∷ wait true (1 ∷ 2 ∷ []) [] ∷ []) ≡ None
unfolding judging
row371 = refl

row381 : fault_from 0 (start (record { words = (codes "diskRun=1") ∷ text0 ∷ text1 ∷ []; faults = 0 } ∷ [])) (front2 ++ Heard 1 text21 ∷ Noted (Taken 1 0 Pass) ∷ Dialled 2 (codes "h") 80 ∷ wait true (1 ∷ []) [] ∷ Reached 2 ∷ wait true (1 ∷ []) (2 ∷ []) ∷ CanWrite 2 ∷ Asked 2 text20 ∷ wait true (1 ∷ 2 ∷ []) [] ∷ CanRead 1 ∷ HungUp 1 ∷ Shut 1 ∷ Dropped 2 ∷ wait true [] [] ∷ []) ≡ None
unfolding judging
row381 = refl

row387 : fault_from 0 (start (record { words = (codes "diskRun=1") ∷ text0 ∷ text1 ∷ []; faults = 0 } ∷ [])) (front2 ++ Heard 1 text22 ∷ Noted (Taken 1 0 Pass) ∷ Dialled 2 (codes "h") 80 ∷ wait true [] [] ∷ Reached 2 ∷ wait true [] (2 ∷ []) ∷ CanWrite 2 ∷ Asked 2 text20 ∷ wait true (2 ∷ []) (2 ∷ []) ∷ CanWrite 2 ∷ Asked 2 (codes "hello") ∷ wait true (2 ∷ []) [] ∷ CanRead 2 ∷ Got 2 text13 ∷ wait true (1 ∷ 2 ∷ []) (1 ∷ []) ∷ CanRead 2 ∷ Ended 2 ∷ Dropped 2 ∷ wait true [] (1 ∷ []) ∷ CanWrite 1 ∷ Said 1 80 text14 ∷ wait true [] (1 ∷ []) ∷ CanWrite 1 ∷ Said 1 5 (codes "hello") ∷ Noted (Cut 1 Short) ∷ Shut 1 ∷ wait true [] [] ∷ []) ≡ None
unfolding judging
row387 = refl

row400 : fault_from 0 (start (record { words = (codes "diskRun=1") ∷ text0 ∷ text1 ∷ []; faults = 0 } ∷ [])) (front2 ++ Heard 1 text18 ∷ Noted (Taken 1 0 Pass) ∷ Dialled 2 (codes "h") 80 ∷ wait true (1 ∷ []) [] ∷ []) ≡ Some (record { at = 13; rule = ClientForgotten })
unfolding judging
row400 = refl

row407 : fault_from 0 (start (record { words = (codes "diskRun=1") ∷ text0 ∷ text1 ∷ []; faults = 0 } ∷ [])) (front2 ++ Heard 1 text18 ∷ Noted (Taken 1 0 Pass) ∷ Dialled 2 (codes "h") 80 ∷ wait true (1 ∷ []) (1 ∷ []) ∷ CanWrite 1 ∷ Said 1 25 text19 ∷ wait true (1 ∷ []) [] ∷ Reached 2 ∷ wait true (1 ∷ []) (2 ∷ []) ∷ CanWrite 2 ∷ Asked 2 text20 ∷ wait true (2 ∷ []) [] ∷ []) ≡ Some (record { at = 21; rule = ExchangeForgotten })
unfolding judging
row407 = refl

row412 : fault_from 0 (start (record { words = (codes "diskRun=1") ∷ text0 ∷ text1 ∷ []; faults = 0 } ∷ [])) (front2 ++ Heard 1 text18 ∷ Noted (Taken 1 0 Pass) ∷ Dialled 2 (codes "h") 80 ∷ wait true (1 ∷ []) (1 ∷ []) ∷ CanWrite 1 ∷ Said 1 25 text19 ∷ wait true (1 ∷ []) [] ∷ Reached 2 ∷ wait true (1 ∷ []) (2 ∷ []) ∷ CanWrite 2 ∷ Asked 2 text20 ∷ wait true (1 ∷ 2 ∷ []) [] ∷ CanRead 1 ∷ Heard 1 (codes "hello") ∷ wait true (1 ∷ 2 ∷ []) [] ∷ []) ≡ Some (record { at = 24; rule = ConnectionForgotten })
unfolding judging
row412 = refl

row420 : fault_from 0 (start (record { words = (codes "diskRun=1") ∷ text0 ∷ text1 ∷ []; faults = 0 } ∷ [])) (front2 ++ Heard 1 text18 ∷ Noted (Taken 1 0 Pass) ∷ Dialled 2 (codes "h") 80 ∷ wait true (1 ∷ []) (1 ∷ []) ∷ CanWrite 1 ∷ Said 1 25 text19 ∷ wait true (1 ∷ []) [] ∷ Reached 2 ∷ wait true (1 ∷ []) (2 ∷ []) ∷ CanWrite 2 ∷ Asked 2 text20 ∷ wait true (1 ∷ 2 ∷ []) [] ∷ CanRead 1 ∷ Heard 1 (codes "hel") ∷ wait true (1 ∷ 2 ∷ []) (2 ∷ []) ∷ CanWrite 2 ∷ Asked 2 (codes "hello") ∷ []) ≡ Some (record { at = 26; rule = WrongAsk })
unfolding judging
row420 = refl

row430 : fault_from 0 (start (record { words = (codes "diskRun=1") ∷ text0 ∷ text1 ∷ []; faults = 0 } ∷ [])) (front2 ++ Heard 1 text18 ∷ Noted (Taken 1 0 Pass) ∷ Dialled 2 (codes "h") 80 ∷ wait true (1 ∷ []) (1 ∷ []) ∷ CanWrite 1 ∷ Said 1 25 text19 ∷ wait true (1 ∷ []) [] ∷ Reached 2 ∷ wait true (1 ∷ []) (2 ∷ []) ∷ CanWrite 2 ∷ Asked 2 text20 ∷ wait true (1 ∷ 2 ∷ []) [] ∷ CanWrite 2 ∷ Asked 2 (codes "hello") ∷ []) ≡ Some (record { at = 23; rule = WrongAsk })
unfolding judging
row430 = refl

row437 : fault_from 0 (start (record { words = (codes "diskRun=1") ∷ text0 ∷ text1 ∷ []; faults = 0 } ∷ [])) (front2 ++ Heard 1 text21 ∷ Noted (Taken 1 0 Pass) ∷ Dialled 2 (codes "h") 80 ∷ wait true (1 ∷ []) [] ∷ Reached 2 ∷ wait true (1 ∷ []) (2 ∷ []) ∷ CanWrite 2 ∷ Asked 2 text20 ∷ wait true (1 ∷ 2 ∷ []) [] ∷ CanRead 1 ∷ HungUp 1 ∷ wait true (1 ∷ 2 ∷ []) [] ∷ []) ≡ Some (record { at = 21; rule = StepUnfinished })
unfolding judging
row437 = refl

row442 : fault_from 0 (start (record { words = (codes "diskRun=1") ∷ text0 ∷ text1 ∷ []; faults = 0 } ∷ [])) (front2 ++ Heard 1 text18 ∷ Noted (Taken 1 0 Pass) ∷ Dialled 2 (codes "h") 80 ∷ wait true (1 ∷ []) (1 ∷ []) ∷ CanWrite 1 ∷ Said 1 25 text19 ∷ wait true (1 ∷ []) [] ∷ Reached 2 ∷ wait true (1 ∷ []) (2 ∷ []) ∷ CanWrite 2 ∷ Asked 2 text20 ∷ wait true (1 ∷ 2 ∷ []) [] ∷ Broke 2 ∷ Noted (Taken 1 0 (Refuse 502)) ∷ Dropped 2 ∷ Dialled 3 (codes "h") 80 ∷ []) ≡ Some (record { at = 25; rule = NotToBeDialled })
unfolding judging
row442 = refl

row451 : fault_from 0 (start (record { words = (codes "diskRun=1") ∷ text0 ∷ text1 ∷ []; faults = 0 } ∷ [])) (front2 ++ Heard 1 text22 ∷ Noted (Taken 1 0 Pass) ∷ Dialled 2 (codes "h") 80 ∷ wait true [] [] ∷ Reached 2 ∷ wait true [] (2 ∷ []) ∷ CanWrite 2 ∷ Asked 2 text20 ∷ wait true (2 ∷ []) (2 ∷ []) ∷ CanWrite 2 ∷ Asked 2 (codes "hello") ∷ wait true (2 ∷ []) [] ∷ CanRead 2 ∷ Got 2 text13 ∷ wait true (1 ∷ 2 ∷ []) (1 ∷ []) ∷ CanRead 2 ∷ Ended 2 ∷ Noted (Cut 1 Origin) ∷ []) ≡ Some (record { at = 27; rule = WrongCut })
unfolding judging
row451 = refl

row469 : fault_from 0 (start (record { words = (codes "diskRun=1") ∷ text0 ∷ text1 ∷ []; faults = 0 } ∷ [])) (front3 ++ Noted (Taken 1 0 Pass) ∷ Dialled 2 (codes "h") 80 ∷ wait true (1 ∷ []) [] ∷ Reached 2 ∷ wait true (1 ∷ 2 ∷ []) (2 ∷ []) ∷ CanRead 2 ∷ Got 2 text19 ∷ Dropped 2 ∷ Dialled 3 (codes "h") 80 ∷ wait true (1 ∷ []) [] ∷ []) ≡ None
unfolding judging
row469 = refl

row476 : fault_from 0 (start (record { words = (codes "diskRun=1") ∷ text0 ∷ text1 ∷ []; faults = 0 } ∷ [])) (front3 ++ Noted (Taken 1 0 Pass) ∷ Dialled 2 (codes "h") 80 ∷ wait true (1 ∷ []) [] ∷ Reached 2 ∷ wait true (1 ∷ 2 ∷ []) (2 ∷ []) ∷ CanRead 2 ∷ Got 2 (codes "H") ∷ Dropped 2 ∷ Dialled 3 (codes "h") 80 ∷ wait true (1 ∷ []) [] ∷ []) ≡ None
unfolding judging
row476 = refl

row483 : fault_from 0 (start (record { words = (codes "diskRun=1") ∷ text0 ∷ text1 ∷ []; faults = 0 } ∷ [])) (front3 ++ Noted (Taken 1 0 Pass) ∷ Dialled 2 (codes "h") 80 ∷ wait true (1 ∷ []) [] ∷ Reached 2 ∷ wait true (1 ∷ 2 ∷ []) (2 ∷ []) ∷ CanRead 2 ∷ Got 2 (codes "H") ∷ Noted (Taken 1 0 (Refuse 502)) ∷ []) ≡ Some (record { at = 18; rule = WrongDecision })
unfolding judging
row483 = refl

row489 : fault_from 0 (start (record { words = (codes "diskRun=1") ∷ text0 ∷ text1 ∷ []; faults = 0 } ∷ [])) (front3 ++ Noted (Taken 1 0 Pass) ∷ Dialled 2 (codes "h") 80 ∷ wait true (1 ∷ []) [] ∷ Reached 2 ∷ wait true (1 ∷ 2 ∷ []) (2 ∷ []) ∷ CanRead 2 ∷ Got 2 text19 ∷ wait true (1 ∷ 2 ∷ []) (2 ∷ []) ∷ []) ≡ Some (record { at = 18; rule = StepUnfinished })
unfolding judging
row489 = refl

row495 : fault_from 0 (start (record { words = (codes "diskRun=1") ∷ text0 ∷ text1 ∷ []; faults = 0 } ∷ [])) (front3 ++ Noted (Taken 1 0 Pass) ∷ Dialled 2 (codes "h") 80 ∷ wait true (1 ∷ []) [] ∷ Reached 2 ∷ wait true (1 ∷ 2 ∷ []) (2 ∷ []) ∷ CanWrite 2 ∷ Asked 2 text4 ∷ wait true (1 ∷ 2 ∷ []) [] ∷ CanRead 2 ∷ Got 2 text5 ∷ wait true (1 ∷ 2 ∷ []) (1 ∷ []) ∷ CanWrite 1 ∷ Said 1 79 text6 ∷ wait true (1 ∷ 2 ∷ []) (1 ∷ []) ∷ CanWrite 1 ∷ Said 1 5 (codes "hello") ∷ wait true (1 ∷ 2 ∷ []) [] ∷ CanRead 2 ∷ Got 2 (codes "\r") ∷ Dropped 2 ∷ wait true (1 ∷ []) [] ∷ []) ≡ None
unfolding judging
row495 = refl

row502 : fault_from 0 (start (record { words = (codes "diskRun=1") ∷ text0 ∷ text1 ∷ []; faults = 0 } ∷ [])) (front3 ++ Noted (Taken 1 0 Pass) ∷ Dialled 2 (codes "h") 80 ∷ wait true (1 ∷ []) [] ∷ Reached 2 ∷ wait true (1 ∷ 2 ∷ []) (2 ∷ []) ∷ CanWrite 2 ∷ Asked 2 text4 ∷ wait true (1 ∷ 2 ∷ []) [] ∷ CanRead 2 ∷ Got 2 text5 ∷ wait true (1 ∷ 2 ∷ []) (1 ∷ []) ∷ CanWrite 1 ∷ Said 1 79 text6 ∷ wait true (1 ∷ 2 ∷ []) (1 ∷ []) ∷ CanWrite 1 ∷ Said 1 5 (codes "hello") ∷ wait true (1 ∷ 2 ∷ []) [] ∷ CanRead 2 ∷ Got 2 (codes "\r") ∷ wait true (1 ∷ 2 ∷ []) [] ∷ []) ≡ Some (record { at = 30; rule = StepUnfinished })
unfolding judging
row502 = refl

row519 : fault_from 0 (start (record { words = (codes "diskRun=1") ∷ text0 ∷ text1 ∷ []; faults = 0 } ∷ [])) (front0 ++ Opened 1 ∷ Dialled 2 (codes "h") 80 ∷ []) ≡ Some (record { at = 8; rule = NotToBeDialled })
unfolding judging
row519 = refl

row524 : fault_from 0 (start (record { words = (codes "diskRun=1") ∷ text0 ∷ text1 ∷ []; faults = 0 } ∷ [])) (front0 ++ Opened 1 ∷ wait true (1 ∷ []) [] ∷ CanRead 1 ∷ Heard 1 text3 ∷ Dialled 2 (codes "h") 80 ∷ []) ≡ Some (record { at = 11; rule = NotToBeDialled })
unfolding judging
row524 = refl

row529 : fault_from 0 (start (record { words = (codes "diskRun=1") ∷ text0 ∷ text1 ∷ []; faults = 0 } ∷ [])) (front0 ++ Opened 1 ∷ wait true (1 ∷ []) [] ∷ CanRead 1 ∷ Heard 1 text3 ∷ Noted (Taken 1 0 Pass) ∷ Dialled 2 (codes "i") 80 ∷ []) ≡ Some (record { at = 12; rule = NotToBeDialled })
unfolding judging
row529 = refl

row535 : fault_from 0 (start (record { words = (codes "diskRun=1") ∷ text0 ∷ text1 ∷ []; faults = 0 } ∷ [])) (front0 ++ Opened 1 ∷ wait true (1 ∷ []) [] ∷ CanRead 1 ∷ Heard 1 text3 ∷ Noted (Taken 1 0 Pass) ∷ Dialled 2 (codes "h") 8080 ∷ []) ≡ Some (record { at = 12; rule = NotToBeDialled })
unfolding judging
row535 = refl

row541 : fault_from 0 (start (record { words = (codes "diskRun=1") ∷ text0 ∷ text1 ∷ []; faults = 0 } ∷ [])) (front0 ++ Opened 1 ∷ wait true (1 ∷ []) [] ∷ CanRead 1 ∷ Heard 1 text3 ∷ Noted (Taken 1 0 Pass) ∷ Dialled 1 (codes "h") 80 ∷ []) ≡ Some (record { at = 12; rule = NotToBeDialled })
unfolding judging
row541 = refl

row547 : fault_from 0 (start (record { words = (codes "diskRun=1") ∷ text0 ∷ text1 ∷ []; faults = 0 } ∷ [])) (front0 ++ Opened 1 ∷ wait true (1 ∷ []) [] ∷ CanRead 1 ∷ Heard 1 text3 ∷ Noted (Taken 1 0 Pass) ∷ Dialled 2 (codes "h") 80 ∷ Dialled 3 (codes "h") 80 ∷ []) ≡ Some (record { at = 13; rule = NotToBeDialled })
unfolding judging
row547 = refl

row554 : fault_from 0 (start (record { words = (codes "diskRun=1") ∷ text0 ∷ text1 ∷ []; faults = 0 } ∷ [])) (front0 ++ Opened 1 ∷ wait true (1 ∷ []) [] ∷ CanRead 1 ∷ Heard 1 text3 ∷ Noted (Taken 1 0 Pass) ∷ Undialled (codes "h") 80 ∷ []) ≡ Some (record { at = 12; rule = FailureMadeUp })
unfolding judging
row554 = refl

row560 : fault_from 0 (start (record { words = (codes "diskRun=1") ∷ text0 ∷ text1 ∷ []; faults = 0 } ∷ [])) (front0 ++ Opened 1 ∷ wait true (1 ∷ []) [] ∷ CanRead 1 ∷ Heard 1 text3 ∷ Noted (Taken 1 0 Pass) ∷ wait true (1 ∷ []) [] ∷ []) ≡ Some (record { at = 12; rule = StepUnfinished })
unfolding judging
row560 = refl

row566 : fault_from 0 (start (record { words = (codes "diskRun=1") ∷ text0 ∷ text1 ∷ []; faults = 0 } ∷ [])) (front0 ++ Opened 1 ∷ wait true (1 ∷ []) [] ∷ CanRead 1 ∷ Heard 1 text3 ∷ Noted (Taken 1 0 Pass) ∷ Dialled 2 (codes "h") 80 ∷ wait true (1 ∷ []) [] ∷ Reached 2 ∷ wait true (1 ∷ 2 ∷ []) (2 ∷ []) ∷ CanWrite 2 ∷ Asked 2 (codes "GET /b") ∷ []) ≡ Some (record { at = 17; rule = WrongAsk })
unfolding judging
row566 = refl

row574 : fault_from 0 (start (record { words = (codes "diskRun=1") ∷ text0 ∷ text1 ∷ []; faults = 0 } ∷ [])) (front0 ++ Opened 1 ∷ wait true (1 ∷ []) [] ∷ CanRead 1 ∷ Heard 1 text3 ∷ Noted (Taken 1 0 Pass) ∷ Dialled 2 (codes "h") 80 ∷ wait true (1 ∷ []) [] ∷ Reached 2 ∷ wait true (1 ∷ 2 ∷ []) (2 ∷ []) ∷ CanWrite 2 ∷ Asked 2 text4 ∷ wait true (1 ∷ 2 ∷ []) [] ∷ CanWrite 2 ∷ Asked 2 text4 ∷ []) ≡ Some (record { at = 20; rule = WrongAsk })
unfolding judging
row574 = refl

row580 : fault_from 0 (start (record { words = (codes "diskRun=1") ∷ text0 ∷ text1 ∷ []; faults = 0 } ∷ [])) (front0 ++ Opened 1 ∷ wait true (1 ∷ []) [] ∷ CanRead 1 ∷ Heard 1 text3 ∷ Noted (Taken 1 0 Pass) ∷ Dialled 2 (codes "h") 80 ∷ wait true (1 ∷ []) [] ∷ Reached 2 ∷ Asked 2 text4 ∷ []) ≡ Some (record { at = 15; rule = WrongAsk })
unfolding judging
row580 = refl

row586 : fault_from 0 (start (record { words = (codes "diskRun=1") ∷ text0 ∷ text1 ∷ []; faults = 0 } ∷ [])) (front0 ++ Opened 1 ∷ wait true (1 ∷ []) [] ∷ CanRead 1 ∷ Heard 1 text3 ∷ Noted (Taken 1 0 Pass) ∷ Dialled 2 (codes "h") 80 ∷ wait true (1 ∷ []) [] ∷ Reached 2 ∷ wait true (1 ∷ 2 ∷ []) [] ∷ []) ≡ Some (record { at = 15; rule = ConnectionForgotten })
unfolding judging
row586 = refl
