-- The verdicts of transcripts/closings.log, written by transcripts/make_rows.
use Rattle.std.proofs.Common.{◌≡◌, refl, ℕ, List, [], ◌∷◌, ◌++◌, true, false, Bool, Option, None, Some, codes}
use Rattle.std.specs.Prelude.{replicate, is_some}
use Rattle.pp_world.specs.Log.{Log}
use Rattle.pp_world.specs.declared.happening.Happening.{Happening}
use Rattle.pp_world.specs.declared.happening.Happening.TheVariants.{Woke, Waits, Clock, Opened, CanRead, CanWrite, Heard, HungUp, Said, Shut, Dialled, Undialled, Reached, Ended, Broke, Asked, Got, Dropped, NoneYet, Began, Did, Unread, Noted, Rooted, Listed, Listens, Configured, Printed, Stopped}
use Rattle.pp_world.specs.declared.note.Decision.TheVariants.{Refuse, Hit, Part, Head, NotModified, Unsatisfiable, Relay, Validate, Fetch, Pass}
use Rattle.pp_world.specs.declared.note.Cause.TheVariants.{Superseded, Origin, Short, Idle, Memory, Stop}
use Rattle.pp_world.specs.declared.note.Remark.TheVariants.{Taken, Cut, Kept, Gone, Forgotten, Evicted, Loaded}
use Rattle.pp_world.specs.declared.op.DiskOp.TheVariants.{Draft, SyncDraft, Publish, Write, Sync, Remove}
use Rattle.pp_law.specs.Lists.{Bytes}
use Rattle.pp_law.specs.State.{State, start}
use Rattle.pp_law.specs.Lawful.{fault_from, Fault, ImageNotLeft, OpeningOutOfOrder, EventOutOfTurn, ReadNotAskedFor, FailureMadeUp, WrongReply, WrongAsk, WrongDecision, WrongCut, NotToBeClosed, NotToBeDialled, NotToBeEvicted, NotToBeForgotten, NotToBeLoaded, NotSealed, NotGone, WrongDiskOperation, StepUnfinished, AcceptsWrongly, ClientForgotten, ConnectionForgotten, ExchangeForgotten, WantsTooMuch}
use Rattle.pp_pieces.proofs.Forced.{judge, arrived, judging, told, tell}

abbrev wait : Bool → List ℕ → List ℕ → Happening
wait accept read write = Waits (record { accept = accept; read = record { items = read }; write = record { items = write } })

abbrev text0 : Bytes
text0 = (codes "polipo-cache")

abbrev text1 : Bytes
text1 = (codes "GET http://h/b HTTP/1.1\r\nRange: bytes=4096-4099\r\n\r\n")

abbrev text2 : Bytes
text2 = (codes "GET /b HTTP/1.1\r\nhost: h\r\nrange: bytes=4096-4099\r\nvia: 1.1 polipo\r\n\r\n")

abbrev text3 : Bytes
text3 = (codes "HTTP/1.1 206 Partial Content\r\nETag: \"x\"\r\nCache-Control: max-age=60\r\nContent-Range: bytes 4096-4099/4100\r\nContent-Length: 4\r\n\r\nlast")

abbrev text4 : Bytes
text4 = (codes "HTTP/1.1 206 Partial Content\r\netag: \"x\"\r\ndate: Sun, 06 Nov 1994 08:49:37 GMT\r\ncache-control: max-age=60\r\nvia: 1.1 polipo\r\ncontent-range: bytes 4096-4099/4100\r\ncontent-length: 4\r\nconnection: keep-alive\r\n\r\n")

abbrev front0 : Log
front0 = Woke [] ∷ Rooted text0 ∷ Listed true ∷ Listens 8123 true ∷ wait true [] [] ∷ Clock 784111777 ∷ wait true [] [] ∷ Opened 1 ∷ wait true (1 ∷ []) [] ∷ CanRead 1 ∷ Heard 1 text1 ∷ Noted (Taken 1 0 Fetch) ∷ Dialled 2 (codes "h") 80 ∷ wait true (1 ∷ []) [] ∷ Reached 2 ∷ wait true (1 ∷ 2 ∷ []) (2 ∷ []) ∷ CanWrite 2 ∷ Asked 2 text2 ∷ wait true (1 ∷ 2 ∷ []) [] ∷ CanRead 2 ∷ Got 2 text3 ∷ Noted (Taken 1 0 (Hit 4096 4100)) ∷ wait true (1 ∷ 2 ∷ []) (1 ∷ []) ∷ CanWrite 1 ∷ Said 1 204 text4 ∷ wait true (1 ∷ 2 ∷ []) (1 ∷ []) ∷ CanWrite 1 ∷ Said 1 4 (codes "last") ∷ wait true (1 ∷ 2 ∷ []) [] ∷ []

abbrev text5 : Bytes
text5 = (codes "GET http://h/b HTTP/1.1\r\n\r\n")

abbrev text6 : Bytes
text6 = (codes "HTTP/1.1 206 Partial Content\r\n")

abbrev text7 : Bytes
text7 = (codes "GET http://h/c HTTP/1.1\r\n\r\n")

abbrev text8 : Bytes
text8 = (codes "HTTP/1.1 408 Request Timeout\r\nConnection: close\r\nContent-Length: 0\r\n\r\n")

abbrev front1 : Log
front1 = Woke [] ∷ Rooted text0 ∷ Listed true ∷ Listens 8123 true ∷ wait true [] [] ∷ Clock 784111777 ∷ wait true [] [] ∷ Opened 1 ∷ wait true (1 ∷ []) [] ∷ CanRead 1 ∷ []

abbrev text9 : Bytes
text9 = (codes "220 welcome\r\n")

abbrev text10 : Bytes
text10 = (codes "GET /b HTTP/1.1\r\nhost: h\r\nvia: 1.1 polipo\r\n\r\n")

abbrev text11 : Bytes
text11 = (codes "HTTP/1.1 200 OK\r\nETag: \"x\"\r\nCache-Control: max-age=60\r\nContent-Length: 10\r\n\r\nabc")

abbrev text12 : Bytes
text12 = (codes "HTTP/1.1 200 OK\r\netag: \"x\"\r\ndate: Sun, 06 Nov 1994 08:49:37 GMT\r\ncache-control: max-age=60\r\nvia: 1.1 polipo\r\ncontent-length: 10\r\nconnection: keep-alive\r\n\r\n")

abbrev text13 : Bytes
text13 = (codes "GET http://h/c HTTP/1.1\r\n: \r\n\r\n")

row25 : fault_from 0 (start (record { words = []; faults = 0 } ∷ [])) (front0 ++ Opened 3 ∷ wait true (1 ∷ 2 ∷ 3 ∷ []) [] ∷ CanRead 3 ∷ Heard 3 text5 ∷ Noted (Taken 3 0 (Part 0 4100)) ∷ wait true (1 ∷ 3 ∷ []) (2 ∷ []) ∷ Opened 6 ∷ wait true (1 ∷ 3 ∷ 6 ∷ []) (2 ∷ []) ∷ CanRead 6 ∷ Heard 6 text5 ∷ Noted (Taken 6 0 (Part 0 4100)) ∷ wait true (1 ∷ 3 ∷ []) (2 ∷ []) ∷ CanRead 3 ∷ HungUp 3 ∷ wait true (1 ∷ []) (2 ∷ []) ∷ Clock 784111778 ∷ Shut 3 ∷ []) ≡ Some (record { at = 45; rule = NotToBeClosed })
unfolding judging
row25 = refl

row45 : fault_from 0 (start (record { words = []; faults = 0 } ∷ [])) (front0 ++ Opened 3 ∷ wait true (1 ∷ 2 ∷ 3 ∷ []) [] ∷ CanRead 3 ∷ Heard 3 text1 ∷ Noted (Taken 3 0 (Hit 4096 4100)) ∷ wait true (1 ∷ 2 ∷ 3 ∷ []) (3 ∷ []) ∷ CanWrite 3 ∷ Said 3 30 text6 ∷ wait true (1 ∷ 2 ∷ 3 ∷ []) (3 ∷ []) ∷ CanRead 3 ∷ HungUp 3 ∷ wait true (1 ∷ 2 ∷ []) (3 ∷ []) ∷ Clock 784111778 ∷ Shut 3 ∷ []) ≡ Some (record { at = 42; rule = NotToBeClosed })
unfolding judging
row45 = refl

row62 : fault_from 0 (start (record { words = []; faults = 0 } ∷ [])) (front0 ++ CanRead 1 ∷ Heard 1 text7 ∷ Noted (Taken 1 1 Fetch) ∷ wait true (2 ∷ []) (2 ∷ []) ∷ CanRead 2 ∷ Got 2 text8 ∷ Dropped 2 ∷ Dialled 3 (codes "h") 80 ∷ wait true [] [] ∷ []) ≡ None
unfolding judging
row62 = refl

row68 : fault_from 0 (start (record { words = []; faults = 0 } ∷ [])) (front0 ++ CanRead 1 ∷ Heard 1 text7 ∷ Noted (Taken 1 1 Fetch) ∷ wait true (2 ∷ []) (2 ∷ []) ∷ CanRead 2 ∷ Got 2 text8 ∷ Noted (Taken 1 1 (Refuse 502)) ∷ []) ≡ Some (record { at = 35; rule = WrongDecision })
unfolding judging
row68 = refl

row100 : fault_from 0 (start (record { words = []; faults = 0 } ∷ [])) (front1 ++ Heard 1 text7 ∷ Noted (Taken 1 0 Fetch) ∷ Dialled 2 (codes "h") 80 ∷ wait true [] [] ∷ Reached 2 ∷ wait true (2 ∷ []) (2 ∷ []) ∷ CanRead 2 ∷ Got 2 text9 ∷ Dropped 2 ∷ Dialled 3 (codes "h") 80 ∷ wait true [] [] ∷ Reached 3 ∷ wait true (3 ∷ []) (3 ∷ []) ∷ CanRead 3 ∷ Got 3 text9 ∷ Dropped 3 ∷ Dialled 4 (codes "h") 80 ∷ wait true [] [] ∷ Reached 4 ∷ wait true (4 ∷ []) (4 ∷ []) ∷ CanRead 4 ∷ Got 4 text9 ∷ Noted (Taken 1 0 (Refuse 502)) ∷ Dropped 4 ∷ wait true [] (1 ∷ []) ∷ []) ≡ None
unfolding judging
row100 = refl

row106 : fault_from 0 (start (record { words = []; faults = 0 } ∷ [])) (front1 ++ Heard 1 text7 ∷ Noted (Taken 1 0 Fetch) ∷ Dialled 2 (codes "h") 80 ∷ wait true [] [] ∷ Reached 2 ∷ wait true (2 ∷ []) (2 ∷ []) ∷ CanRead 2 ∷ Got 2 text9 ∷ Dropped 2 ∷ Dialled 3 (codes "h") 80 ∷ wait true [] [] ∷ Reached 3 ∷ wait true (3 ∷ []) (3 ∷ []) ∷ CanRead 3 ∷ Got 3 text9 ∷ Dropped 3 ∷ Dialled 4 (codes "h") 80 ∷ wait true [] [] ∷ Reached 4 ∷ wait true (4 ∷ []) (4 ∷ []) ∷ CanRead 4 ∷ Got 4 text9 ∷ Dropped 4 ∷ []) ≡ Some (record { at = 32; rule = NotToBeClosed })
unfolding judging
row106 = refl

row131 : fault_from 0 (start (record { words = []; faults = 0 } ∷ [])) (front1 ++ Heard 1 text5 ∷ Noted (Taken 1 0 Fetch) ∷ Dialled 2 (codes "h") 80 ∷ wait true [] [] ∷ Reached 2 ∷ wait true [] (2 ∷ []) ∷ CanWrite 2 ∷ Asked 2 text10 ∷ wait true (2 ∷ []) [] ∷ CanRead 2 ∷ Got 2 text11 ∷ Noted (Taken 1 0 (Refuse 500)) ∷ wait true (2 ∷ []) (1 ∷ []) ∷ CanRead 2 ∷ Ended 2 ∷ Dropped 2 ∷ wait true [] (1 ∷ []) ∷ []) ≡ None
unfolding judging
row131 = refl

row136 : fault_from 0 (start (record { words = []; faults = 0 } ∷ [])) (front1 ++ Heard 1 text5 ∷ Noted (Taken 1 0 Fetch) ∷ Dialled 2 (codes "h") 80 ∷ wait true [] [] ∷ Reached 2 ∷ wait true [] (2 ∷ []) ∷ CanWrite 2 ∷ Asked 2 text10 ∷ wait true (2 ∷ []) [] ∷ CanRead 2 ∷ Got 2 text11 ∷ Noted (Taken 1 0 (Refuse 500)) ∷ wait true (2 ∷ []) (1 ∷ []) ∷ CanRead 2 ∷ Ended 2 ∷ Noted (Cut 1 Origin) ∷ []) ≡ Some (record { at = 25; rule = WrongCut })
unfolding judging
row136 = refl

row164 : fault_from 0 (start (record { words = []; faults = 0 } ∷ [])) (front1 ++ Heard 1 text5 ∷ Noted (Taken 1 0 Fetch) ∷ Dialled 2 (codes "h") 80 ∷ wait true [] [] ∷ Reached 2 ∷ wait true [] (2 ∷ []) ∷ CanWrite 2 ∷ Asked 2 text10 ∷ wait true (2 ∷ []) [] ∷ CanRead 2 ∷ Got 2 text11 ∷ Noted (Taken 1 0 (Part 0 10)) ∷ wait true (2 ∷ []) (1 ∷ []) ∷ CanRead 2 ∷ Ended 2 ∷ Dropped 2 ∷ wait true [] (1 ∷ []) ∷ CanWrite 1 ∷ Said 1 155 text12 ∷ wait true [] (1 ∷ []) ∷ CanWrite 1 ∷ Said 1 3 (codes "abc") ∷ Dialled 3 (codes "h") 80 ∷ wait true [] [] ∷ []) ≡ None
unfolding judging
row164 = refl

row171 : fault_from 0 (start (record { words = []; faults = 0 } ∷ [])) (front1 ++ Heard 1 text5 ∷ Noted (Taken 1 0 Fetch) ∷ Dialled 2 (codes "h") 80 ∷ wait true [] [] ∷ Reached 2 ∷ wait true [] (2 ∷ []) ∷ CanWrite 2 ∷ Asked 2 text10 ∷ wait true (2 ∷ []) [] ∷ CanRead 2 ∷ Got 2 text11 ∷ Noted (Taken 1 0 (Part 0 10)) ∷ wait true (2 ∷ []) (1 ∷ []) ∷ CanRead 2 ∷ Ended 2 ∷ Dropped 2 ∷ wait true [] (1 ∷ []) ∷ CanWrite 1 ∷ Said 1 155 text12 ∷ wait true [] (1 ∷ []) ∷ Clock 784111778 ∷ Noted (Cut 1 Origin) ∷ []) ≡ Some (record { at = 31; rule = WrongCut })
unfolding judging
row171 = refl

row179 : fault_from 0 (start (record { words = []; faults = 0 } ∷ [])) (front1 ++ Heard 1 text13 ∷ Noted (Taken 1 0 (Refuse 500)) ∷ []) ≡ Some (record { at = 11; rule = WrongDecision })
unfolding judging
row179 = refl

row184 : fault_from 0 (start (record { words = []; faults = 0 } ∷ [])) (front1 ++ Heard 1 text13 ∷ Noted (Taken 1 0 (Refuse 400)) ∷ wait true [] (1 ∷ []) ∷ []) ≡ None
unfolding judging
row184 = refl
