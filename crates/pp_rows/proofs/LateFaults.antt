-- The verdicts of transcripts/late_faults.log, written by transcripts/make_rows.
use Rattle.std.proofs.Common.{◌≡◌, refl, ℕ, List, [], ◌∷◌, ◌++◌, true, false, Bool, Option, None, Some, codes}
use Rattle.std.specs.Prelude.{replicate, is_some}
use Rattle.pp_world.specs.Log.{Log}
use Rattle.pp_world.specs.declared.happening.Happening.{Happening}
use Rattle.pp_world.specs.declared.happening.Happening.TheVariants.{Woke, Waits, Clock, Opened, CanRead, CanWrite, Heard, HungUp, Said, Shut, Dialled, Undialled, Reached, Ended, Broke, Asked, Got, Dropped, NoneYet, Began, Did, Unread, Noted, Rooted, Listed, Listens, Configured, Printed, Stopped}
use Rattle.pp_world.specs.declared.note.Decision.TheVariants.{Refuse, Hit, Part, Head, NotModified, Unsatisfiable, Relay, Validate, Fetch, Pass}
use Rattle.pp_world.specs.declared.note.Cause.TheVariants.{Superseded, Origin, Short, Idle, Memory, Stop}
use Rattle.pp_world.specs.declared.note.Remark.TheVariants.{Taken, Cut, Kept, Gone, Forgotten, Evicted, Loaded}
use Rattle.pp_world.specs.declared.op.DiskOp.TheVariants.{Draft, SyncDraft, Publish, Write, Sync, Remove}
use Rattle.pp_law.specs.Lists.{Bytes}
use Rattle.pp_law.specs.State.{State, start}
use Rattle.pp_law.specs.Lawful.{fault_from, Fault, ImageNotLeft, OpeningOutOfOrder, EventOutOfTurn, ReadNotAskedFor, FailureMadeUp, WrongReply, WrongAsk, WrongDecision, WrongCut, NotToBeClosed, NotToBeDialled, NotToBeEvicted, NotToBeForgotten, NotToBeLoaded, NotSealed, NotGone, WrongDiskOperation, StepUnfinished, AcceptsWrongly, ClientForgotten, ConnectionForgotten, ExchangeForgotten, WantsTooMuch}
use Rattle.pp_pieces.proofs.Forced.{judge, arrived, judging, told, tell}

abbrev wait : Bool → List ℕ → List ℕ → Happening
wait accept read write = Waits (record { accept = accept; read = record { items = read }; write = record { items = write } })

abbrev text0 : Bytes
text0 = (codes "pipelineAsks=1")

abbrev text1 : Bytes
text1 = (codes "hostConnections=1")

abbrev text2 : Bytes
text2 = (codes "polipo-cache")

abbrev text3 : Bytes
text3 = (codes "GET http://h/d HTTP/1.1\r\nRange: bytes=0-3\r\n\r\n")

abbrev text4 : Bytes
text4 = (codes "GET http://h/d HTTP/1.1\r\nRange: bytes=5000-5003\r\n\r\n")

abbrev text5 : Bytes
text5 = (codes "GET /d HTTP/1.1\r\nhost: h\r\nrange: bytes=0-3\r\nvia: 1.1 polipo\r\n\r\n")

abbrev text6 : Bytes
text6 = (codes "HTTP/1.1 206 Partial Content\r\nETag: \"x\"\r\nCache-Control: max-age=60\r\nContent-Range: bytes 0-3/9000\r\nContent-Length: 4\r\n\r\nabcd")

abbrev text7 : Bytes
text7 = (codes "GET /d HTTP/1.1\r\nhost: h\r\nrange: bytes=4096-5003\r\nvia: 1.1 polipo\r\n\r\n")

abbrev text8 : Bytes
text8 = (codes "HTTP/1.1 206 Partial Content\r\netag: \"x\"\r\ndate: Sun, 06 Nov 1994 08:49:37 GMT\r\ncache-control: max-age=60\r\nvia: 1.1 polipo\r\ncontent-range: bytes 0-3/9000\r\ncontent-length: 4\r\nconnection: keep-alive\r\n\r\nabcd")

abbrev text9 : Bytes
text9 = (codes "GET /d HTTP/1.1\r\nhost: h\r\nrange: bytes=4096-5003\r\nif-range: \"x\"\r\nvia: 1.1 polipo\r\n\r\n")

abbrev text10 : Bytes
text10 = (codes "HTTP/1.1 206 Partial Content\r\nETag: \"x\"\r\nCache-Control: max-age=60\r\nContent-Range: bytes 4096-5003/9000\r\nContent-Length: 908\r\n\r\n" ++ replicate 908 97 ++ codes "HTTP/1.1 404 Not Found\r\nTransfer-Encoding: chunked\r\n\r\nzz\r\n")

abbrev front0 : Log
front0 = Woke [] ∷ Rooted text2 ∷ Listed true ∷ Listens 8123 true ∷ wait true [] [] ∷ Clock 784111777 ∷ wait true [] [] ∷ Opened 1 ∷ wait true (1 ∷ []) [] ∷ CanRead 1 ∷ Heard 1 text3 ∷ Noted (Taken 1 0 Fetch) ∷ Dialled 2 (codes "h") 80 ∷ wait true (1 ∷ []) [] ∷ Opened 3 ∷ wait true (1 ∷ 3 ∷ []) [] ∷ CanRead 3 ∷ Heard 3 text4 ∷ Noted (Taken 3 0 Fetch) ∷ wait true [] [] ∷ Reached 2 ∷ wait true (2 ∷ []) (2 ∷ []) ∷ CanWrite 2 ∷ Asked 2 text5 ∷ wait true (2 ∷ []) [] ∷ CanRead 2 ∷ Got 2 text6 ∷ Noted (Taken 1 0 (Hit 0 4)) ∷ wait true (2 ∷ []) (1 ∷ 2 ∷ []) ∷ CanWrite 2 ∷ Asked 2 text7 ∷ wait true (2 ∷ []) (1 ∷ []) ∷ CanWrite 1 ∷ Said 1 202 text8 ∷ wait true (1 ∷ 2 ∷ []) [] ∷ CanRead 1 ∷ Heard 1 text4 ∷ Noted (Taken 1 1 (Part 5000 5004)) ∷ wait true (2 ∷ []) (2 ∷ []) ∷ CanWrite 2 ∷ Asked 2 text9 ∷ wait true (2 ∷ []) [] ∷ CanRead 2 ∷ Got 2 text10 ∷ []

abbrev text11 : Bytes
text11 = (codes "HTTP/1.1 502 Bad Gateway\r\ncontent-type: text/plain\r\ncontent-length: 16\r\nconnection: keep-alive\r\n\r\n502 Bad Gateway\n")

row57 : fault_from 0 (start (record { words = (codes "diskRun=1") ∷ text0 ∷ text1 ∷ []; faults = 0 } ∷ [])) (front0 ++ Noted (Taken 1 1 (Refuse 502)) ∷ Noted (Taken 3 0 Fetch) ∷ Dropped 2 ∷ Dialled 4 (codes "h") 80 ∷ wait true (1 ∷ 3 ∷ []) (1 ∷ []) ∷ CanWrite 1 ∷ Said 1 114 text11 ∷ wait true (1 ∷ 3 ∷ []) [] ∷ []) ≡ None
unfolding judging
row57 = refl

row67 : fault_from 0 (start (record { words = (codes "diskRun=1") ∷ text0 ∷ text1 ∷ []; faults = 0 } ∷ [])) (front0 ++ Noted (Taken 1 1 Relay) ∷ []) ≡ Some (record { at = 44; rule = WrongDecision })
unfolding judging
row67 = refl

row71 : fault_from 0 (start (record { words = (codes "diskRun=1") ∷ text0 ∷ text1 ∷ []; faults = 0 } ∷ [])) (front0 ++ Noted (Taken 3 0 Fetch) ∷ []) ≡ Some (record { at = 44; rule = WrongDecision })
unfolding judging
row71 = refl
