-- The verdicts of transcripts/pages.log, written by transcripts/make_rows.
use Rattle.std.proofs.Common.{◌≡◌, refl, ℕ, List, [], ◌∷◌, ◌++◌, true, false, Bool, Option, None, Some, codes}
use Rattle.std.specs.Prelude.{replicate, is_some}
use Rattle.pp_world.specs.Log.{Log}
use Rattle.pp_world.specs.declared.happening.Happening.{Happening}
use Rattle.pp_world.specs.declared.happening.Happening.TheVariants.{Woke, Waits, Clock, Opened, CanRead, CanWrite, Heard, HungUp, Said, Shut, Dialled, Undialled, Reached, Ended, Broke, Asked, Got, Dropped, NoneYet, Began, Did, Unread, Noted, Rooted, Listed, Listens, Configured, Printed, Stopped}
use Rattle.pp_world.specs.declared.note.Decision.TheVariants.{Refuse, Hit, Part, Head, NotModified, Unsatisfiable, Relay, Validate, Fetch, Pass}
use Rattle.pp_world.specs.declared.note.Cause.TheVariants.{Superseded, Origin, Short, Idle, Memory, Stop}
use Rattle.pp_world.specs.declared.note.Remark.TheVariants.{Taken, Cut, Kept, Gone, Forgotten, Evicted, Loaded}
use Rattle.pp_world.specs.declared.op.DiskOp.TheVariants.{Draft, SyncDraft, Publish, Write, Sync, Remove}
use Rattle.pp_law.specs.Lists.{Bytes}
use Rattle.pp_law.specs.State.{State, start}
use Rattle.pp_law.specs.Lawful.{fault_from, Fault, ImageNotLeft, OpeningOutOfOrder, EventOutOfTurn, ReadNotAskedFor, FailureMadeUp, WrongReply, WrongAsk, WrongDecision, WrongCut, NotToBeClosed, NotToBeDialled, NotToBeEvicted, NotToBeForgotten, NotToBeLoaded, NotSealed, NotGone, WrongDiskOperation, StepUnfinished, AcceptsWrongly, ClientForgotten, ConnectionForgotten, ExchangeForgotten, WantsTooMuch}
use Rattle.pp_pieces.proofs.Forced.{judge, arrived, judging, told, tell}

abbrev wait : Bool → List ℕ → List ℕ → Happening
wait accept read write = Waits (record { accept = accept; read = record { items = read }; write = record { items = write } })

abbrev text0 : Bytes
text0 = (codes "pipelineAsks=1")

abbrev text1 : Bytes
text1 = (codes "hostConnections=4")

abbrev text2 : Bytes
text2 = (codes "polipo-cache")

abbrev text3 : Bytes
text3 = (codes "GET http://h/a HTTP/1.1\r\na: b\r\na: b\r\na: b\r\na: b\r\na: b\r\na: b\r\na: b\r\na: b\r\na: b\r\na: b\r\na: b\r\na: b\r\na: b\r\na: b\r\na: b\r\na: b\r\na: b\r\na: b\r\na: b\r\na: b\r\na: b\r\na: b\r\na: b\r\na: b\r\na: b\r\na: b\r\na: b\r\na: b\r\na: b\r\na: b\r\na: b\r\na: b\r\na: b\r\na: b\r\na: b\r\na: b\r\na: b\r\na: b\r\na: b\r\na: b\r\na: b\r\na: b\r\na: b\r\na: b\r\na: b\r\na: b\r\na: b\r\na: b\r\na: b\r\na: b\r\na: b\r\na: b\r\na: b\r\na: b\r\na: b\r\na: b\r\na: b\r\na: b\r\na: b\r\na: b\r\na: b\r\na: b\r\na: b\r\na: b\r\na: b\r\na: b\r\na: b\r\na: b\r\na: b\r\na: b\r\na: b\r\na: b\r\na: b\r\na: b\r\na: b\r\na: b\r\na: b\r\na: b\r\na: b\r\na: b\r\na: b\r\na: b\r\na: b\r\na: b\r\na: b\r\na: b\r\na: b\r\na: b\r\na: b\r\na: b\r\na: b\r\na: b\r\na: b\r\na: b\r\na: b\r\na: b\r\na: b\r\na: b\r\na: b\r\na: b\r\na: b\r\n")

abbrev front0 : Log
front0 = Woke [] ∷ Rooted text2 ∷ Listed true ∷ Listens 8123 true ∷ wait true [] [] ∷ Clock 784111777 ∷ wait true [] [] ∷ Opened 1 ∷ wait true (1 ∷ []) [] ∷ CanRead 1 ∷ Heard 1 text3 ∷ []

abbrev text4 : Bytes
text4 = (codes "HTTP/1.1 431 Request Header Fields Too Large\r\ncontent-type: text/plain\r\ncontent-length: 36\r\nconnection: close\r\n\r\n431 Request Header Fields Too Large\n")

abbrev text5 : Bytes
text5 = (codes "HTTP/1.1 400")

abbrev front1 : Log
front1 = Woke [] ∷ Rooted text2 ∷ Listed true ∷ Listens 8123 true ∷ wait true [] [] ∷ Clock 784111777 ∷ wait true [] [] ∷ Opened 1 ∷ wait true (1 ∷ []) [] ∷ CanRead 1 ∷ []

abbrev text6 : Bytes
text6 = (codes "GET /a HTTP/1.1\r\n\r\n")

abbrev text7 : Bytes
text7 = (codes "HTTP/1.1 400 Bad Request\r\ncontent-type: text/plain\r\ncontent-length: 16\r\nconnection: close\r\n\r\n400 Bad Request\n")

abbrev text8 : Bytes
text8 = (codes "POST http://h/a HTTP/1.1\r\nTransfer-Encoding: chunked\r\n\r\n")

abbrev text9 : Bytes
text9 = (codes "GET http://h/a HTTP/1.1\r\nHost: h\r\n")

row23 : fault_from 0 (start (record { words = (codes "diskRun=1") ∷ text0 ∷ text1 ∷ []; faults = 0 } ∷ [])) (front0 ++ Noted (Taken 1 0 (Refuse 431)) ∷ wait true (1 ∷ []) (1 ∷ []) ∷ CanWrite 1 ∷ Said 1 149 text4 ∷ Shut 1 ∷ wait true [] [] ∷ []) ≡ None
unfolding judging
row23 = refl

row30 : fault_from 0 (start (record { words = (codes "diskRun=1") ∷ text0 ∷ text1 ∷ []; faults = 0 } ∷ [])) (front0 ++ Noted (Taken 1 0 (Refuse 431)) ∷ wait true (1 ∷ []) (1 ∷ []) ∷ CanWrite 1 ∷ Said 1 149 (codes "HTTP") ∷ wait true [] (1 ∷ []) ∷ CanWrite 1 ∷ Said 1 5 (codes "/1.1 ") ∷ wait true [] (1 ∷ []) ∷ []) ≡ None
unfolding judging
row30 = refl

row39 : fault_from 0 (start (record { words = (codes "diskRun=1") ∷ text0 ∷ text1 ∷ []; faults = 0 } ∷ [])) (front0 ++ Noted (Taken 1 0 (Refuse 431)) ∷ wait true (1 ∷ []) (1 ∷ []) ∷ Stopped ∷ Noted (Cut 1 Stop) ∷ Shut 1 ∷ []) ≡ None
unfolding judging
row39 = refl

row45 : fault_from 0 (start (record { words = (codes "diskRun=1") ∷ text0 ∷ text1 ∷ []; faults = 0 } ∷ [])) (front0 ++ Noted (Taken 1 0 (Refuse 431)) ∷ wait true (1 ∷ []) (1 ∷ []) ∷ CanWrite 1 ∷ Said 1 12 text5 ∷ []) ≡ Some (record { at = 14; rule = WrongReply })
unfolding judging
row45 = refl

row51 : fault_from 0 (start (record { words = (codes "diskRun=1") ∷ text0 ∷ text1 ∷ []; faults = 0 } ∷ [])) (front0 ++ Noted (Taken 1 0 (Refuse 431)) ∷ wait true (1 ∷ []) (1 ∷ []) ∷ CanWrite 1 ∷ Said 1 150 (codes "HTTP") ∷ []) ≡ Some (record { at = 14; rule = WrongReply })
unfolding judging
row51 = refl

row57 : fault_from 0 (start (record { words = (codes "diskRun=1") ∷ text0 ∷ text1 ∷ []; faults = 0 } ∷ [])) (front0 ++ Noted (Taken 1 0 (Refuse 431)) ∷ wait true (1 ∷ []) (1 ∷ []) ∷ CanWrite 1 ∷ Said 1 0 [] ∷ []) ≡ Some (record { at = 14; rule = WrongReply })
unfolding judging
row57 = refl

row63 : fault_from 0 (start (record { words = (codes "diskRun=1") ∷ text0 ∷ text1 ∷ []; faults = 0 } ∷ [])) (front0 ++ Noted (Taken 1 0 (Refuse 431)) ∷ wait true (1 ∷ []) (1 ∷ []) ∷ CanWrite 1 ∷ Said 1 3 (codes "HTTP") ∷ []) ≡ Some (record { at = 14; rule = WrongReply })
unfolding judging
row63 = refl

row69 : fault_from 0 (start (record { words = (codes "diskRun=1") ∷ text0 ∷ text1 ∷ []; faults = 0 } ∷ [])) (front0 ++ Noted (Taken 1 0 (Refuse 431)) ∷ wait true (1 ∷ []) (1 ∷ []) ∷ CanWrite 1 ∷ Said 1 149 (codes "HTTP") ∷ wait true [] (1 ∷ []) ∷ CanWrite 1 ∷ Said 1 5 (codes "P/1.1") ∷ []) ≡ Some (record { at = 17; rule = WrongReply })
unfolding judging
row69 = refl

row78 : fault_from 0 (start (record { words = (codes "diskRun=1") ∷ text0 ∷ text1 ∷ []; faults = 0 } ∷ [])) (front0 ++ Noted (Taken 1 0 (Refuse 431)) ∷ Said 1 149 text4 ∷ []) ≡ Some (record { at = 12; rule = WrongReply })
unfolding judging
row78 = refl

row83 : fault_from 0 (start (record { words = (codes "diskRun=1") ∷ text0 ∷ text1 ∷ []; faults = 0 } ∷ [])) (front0 ++ Noted (Taken 1 0 (Refuse 400)) ∷ []) ≡ Some (record { at = 11; rule = WrongDecision })
unfolding judging
row83 = refl

row87 : fault_from 0 (start (record { words = (codes "diskRun=1") ∷ text0 ∷ text1 ∷ []; faults = 0 } ∷ [])) (front0 ++ Noted (Taken 1 0 (Refuse 431)) ∷ Noted (Taken 1 0 (Refuse 431)) ∷ []) ≡ Some (record { at = 12; rule = WrongDecision })
unfolding judging
row87 = refl

row92 : fault_from 0 (start (record { words = (codes "diskRun=1") ∷ text0 ∷ text1 ∷ []; faults = 0 } ∷ [])) (front0 ++ Noted (Taken 2 0 (Refuse 431)) ∷ []) ≡ Some (record { at = 11; rule = WrongDecision })
unfolding judging
row92 = refl

row96 : fault_from 0 (start (record { words = (codes "diskRun=1") ∷ text0 ∷ text1 ∷ []; faults = 0 } ∷ [])) (front0 ++ wait true [] (1 ∷ []) ∷ []) ≡ Some (record { at = 11; rule = StepUnfinished })
unfolding judging
row96 = refl

row100 : fault_from 0 (start (record { words = (codes "diskRun=1") ∷ text0 ∷ text1 ∷ []; faults = 0 } ∷ [])) (front0 ++ Noted (Taken 1 0 (Refuse 431)) ∷ wait true (1 ∷ []) [] ∷ []) ≡ Some (record { at = 12; rule = ClientForgotten })
unfolding judging
row100 = refl

row105 : fault_from 0 (start (record { words = (codes "diskRun=1") ∷ text0 ∷ text1 ∷ []; faults = 0 } ∷ [])) (front0 ++ Noted (Taken 1 0 (Refuse 431)) ∷ wait true (1 ∷ []) (1 ∷ []) ∷ CanWrite 1 ∷ Said 1 149 (codes "HTTP") ∷ Shut 1 ∷ []) ≡ Some (record { at = 15; rule = NotToBeClosed })
unfolding judging
row105 = refl

row112 : fault_from 0 (start (record { words = (codes "diskRun=1") ∷ text0 ∷ text1 ∷ []; faults = 0 } ∷ [])) (front0 ++ Noted (Taken 1 0 (Refuse 431)) ∷ wait true (1 ∷ []) (1 ∷ []) ∷ CanWrite 1 ∷ Said 1 149 text4 ∷ wait true (1 ∷ []) [] ∷ []) ≡ Some (record { at = 15; rule = StepUnfinished })
unfolding judging
row112 = refl

row119 : fault_from 0 (start (record { words = (codes "diskRun=1") ∷ text0 ∷ text1 ∷ []; faults = 0 } ∷ [])) (front0 ++ Noted (Taken 1 0 (Refuse 431)) ∷ wait true (1 ∷ []) (1 ∷ []) ∷ CanWrite 1 ∷ Said 1 149 text4 ∷ Shut 1 ∷ Shut 1 ∷ []) ≡ Some (record { at = 16; rule = NotToBeClosed })
unfolding judging
row119 = refl

row127 : fault_from 0 (start (record { words = (codes "diskRun=1") ∷ text0 ∷ text1 ∷ []; faults = 0 } ∷ [])) (front0 ++ Noted (Taken 1 0 (Refuse 431)) ∷ wait true (1 ∷ []) (1 ∷ []) ∷ CanWrite 1 ∷ HungUp 1 ∷ wait true (1 ∷ []) (1 ∷ []) ∷ []) ≡ Some (record { at = 15; rule = StepUnfinished })
unfolding judging
row127 = refl

row134 : fault_from 0 (start (record { words = (codes "diskRun=1") ∷ text0 ∷ text1 ∷ []; faults = 0 } ∷ [])) (front0 ++ Noted (Taken 1 0 (Refuse 431)) ∷ wait true (1 ∷ []) (1 ∷ []) ∷ Stopped ∷ Noted (Cut 1 Idle) ∷ []) ≡ Some (record { at = 14; rule = WrongCut })
unfolding judging
row134 = refl

row140 : fault_from 0 (start (record { words = (codes "diskRun=1") ∷ text0 ∷ text1 ∷ []; faults = 0 } ∷ [])) (front0 ++ Noted (Taken 1 0 (Refuse 431)) ∷ wait true (1 ∷ []) (1 ∷ []) ∷ Stopped ∷ Shut 1 ∷ []) ≡ Some (record { at = 14; rule = NotToBeClosed })
unfolding judging
row140 = refl

row146 : fault_from 0 (start (record { words = (codes "diskRun=1") ∷ text0 ∷ text1 ∷ []; faults = 0 } ∷ [])) (front0 ++ Noted (Taken 1 0 (Refuse 431)) ∷ wait true (1 ∷ []) (1 ∷ []) ∷ Stopped ∷ Noted (Cut 1 Stop) ∷ Shut 1 ∷ wait true [] [] ∷ []) ≡ Some (record { at = 16; rule = StepUnfinished })
unfolding judging
row146 = refl

row168 : fault_from 0 (start (record { words = (codes "diskRun=1") ∷ text0 ∷ text1 ∷ []; faults = 0 } ∷ [])) (front1 ++ Heard 1 text6 ∷ Noted (Taken 1 0 (Refuse 400)) ∷ wait true (1 ∷ []) (1 ∷ []) ∷ CanRead 1 ∷ HungUp 1 ∷ wait true [] (1 ∷ []) ∷ CanWrite 1 ∷ Said 1 109 text7 ∷ Shut 1 ∷ wait true [] [] ∷ []) ≡ None
unfolding judging
row168 = refl

row176 : fault_from 0 (start (record { words = (codes "diskRun=1") ∷ text0 ∷ text1 ∷ []; faults = 0 } ∷ [])) (front1 ++ Heard 1 text6 ∷ Noted (Taken 1 0 (Refuse 400)) ∷ wait true (1 ∷ []) (1 ∷ []) ∷ CanRead 1 ∷ HungUp 1 ∷ Shut 1 ∷ []) ≡ Some (record { at = 15; rule = NotToBeClosed })
unfolding judging
row176 = refl

row181 : fault_from 0 (start (record { words = (codes "diskRun=1") ∷ text0 ∷ text1 ∷ []; faults = 0 } ∷ [])) (front1 ++ Heard 1 (codes "GET ") ∷ wait true (1 ∷ []) [] ∷ CanRead 1 ∷ HungUp 1 ∷ wait true (1 ∷ []) [] ∷ []) ≡ Some (record { at = 14; rule = StepUnfinished })
unfolding judging
row181 = refl

row189 : fault_from 0 (start (record { words = (codes "diskRun=1") ∷ text0 ∷ text1 ∷ []; faults = 0 } ∷ [])) (front1 ++ Heard 1 text6 ∷ Noted (Taken 1 0 (Refuse 400)) ∷ wait true (1 ∷ []) (1 ∷ []) ∷ CanRead 1 ∷ HungUp 1 ∷ wait true (1 ∷ []) (1 ∷ []) ∷ []) ≡ Some (record { at = 15; rule = WantsTooMuch })
unfolding judging
row189 = refl

row194 : fault_from 0 (start (record { words = (codes "diskRun=1") ∷ text0 ∷ text1 ∷ []; faults = 0 } ∷ [])) (front1 ++ Heard 1 text6 ∷ Noted (Taken 1 0 (Refuse 400)) ∷ wait true (1 ∷ []) (1 ∷ []) ∷ CanRead 1 ∷ HungUp 1 ∷ wait true [] [] ∷ []) ≡ Some (record { at = 15; rule = ClientForgotten })
unfolding judging
row194 = refl

row201 : fault_from 0 (start (record { words = (codes "diskRun=1") ∷ text0 ∷ text1 ∷ []; faults = 0 } ∷ [])) (front1 ++ Heard 1 text6 ∷ Noted (Taken 1 0 Pass) ∷ []) ≡ Some (record { at = 11; rule = WrongDecision })
unfolding judging
row201 = refl

row206 : fault_from 0 (start (record { words = (codes "diskRun=1") ∷ text0 ∷ text1 ∷ []; faults = 0 } ∷ [])) (front1 ++ Heard 1 text8 ∷ Noted (Taken 1 0 Pass) ∷ []) ≡ Some (record { at = 11; rule = WrongDecision })
unfolding judging
row206 = refl

row211 : fault_from 0 (start (record { words = (codes "diskRun=1") ∷ text0 ∷ text1 ∷ []; faults = 0 } ∷ [])) (front1 ++ Heard 1 text9 ∷ Noted (Taken 1 0 Fetch) ∷ []) ≡ Some (record { at = 11; rule = WrongDecision })
unfolding judging
row211 = refl
