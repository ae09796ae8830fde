-- The verdicts of transcripts/real_origins.log, written by transcripts/make_rows.
use Rattle.std.proofs.Common.{◌≡◌, refl, ℕ, List, [], ◌∷◌, ◌++◌, true, false, Bool, Option, None, Some, codes}
use Rattle.std.specs.Prelude.{replicate, is_some}
use Rattle.pp_world.specs.Log.{Log}
use Rattle.pp_world.specs.declared.happening.Happening.{Happening}
use Rattle.pp_world.specs.declared.happening.Happening.TheVariants.{Woke, Waits, Clock, Opened, CanRead, CanWrite, Heard, HungUp, Said, Shut, Dialled, Undialled, Reached, Ended, Broke, Asked, Got, Dropped, NoneYet, Began, Did, Unread, Noted, Rooted, Listed, Listens, Configured, Printed, Stopped}
use Rattle.pp_world.specs.declared.note.Decision.TheVariants.{Refuse, Hit, Part, Head, NotModified, Unsatisfiable, Relay, Validate, Fetch, Pass}
use Rattle.pp_world.specs.declared.note.Cause.TheVariants.{Superseded, Origin, Short, Idle, Memory, Stop}
use Rattle.pp_world.specs.declared.note.Remark.TheVariants.{Taken, Cut, Kept, Gone, Forgotten, Evicted, Loaded}
use Rattle.pp_world.specs.declared.op.DiskOp.TheVariants.{Draft, SyncDraft, Publish, Write, Sync, Remove}
use Rattle.pp_law.specs.Lists.{Bytes}
use Rattle.pp_law.specs.State.{State, start}
use Rattle.pp_law.specs.Lawful.{fault_from, Fault, ImageNotLeft, OpeningOutOfOrder, EventOutOfTurn, ReadNotAskedFor, FailureMadeUp, WrongReply, WrongAsk, WrongDecision, WrongCut, NotToBeClosed, NotToBeDialled, NotToBeEvicted, NotToBeForgotten, NotToBeLoaded, NotSealed, NotGone, WrongDiskOperation, StepUnfinished, AcceptsWrongly, ClientForgotten, ConnectionForgotten, ExchangeForgotten, WantsTooMuch}
use Rattle.pp_pieces.proofs.Forced.{judge, arrived, judging, told, tell}

abbrev wait : Bool → List ℕ → List ℕ → Happening
wait accept read write = Waits (record { accept = accept; read = record { items = read }; write = record { items = write } })

abbrev text0 : Bytes
text0 = (codes "polipo-cache")

abbrev front0 : Log
front0 = Woke [] ∷ Rooted text0 ∷ Listed true ∷ Listens 8123 true ∷ wait true [] [] ∷ Clock 784111777 ∷ wait true [] [] ∷ Opened 1 ∷ wait true (1 ∷ []) [] ∷ CanRead 1 ∷ []

abbrev text1 : Bytes
text1 = (codes "GET http://h/a HTTP/1.1\r\nCookie: c=d\r\n\r\n")

abbrev text2 : Bytes
text2 = (codes "GET /a HTTP/1.1\r\nhost: h\r\ncookie: c=d\r\nvia: 1.1 polipo\r\n\r\n")

abbrev text3 : Bytes
text3 = (codes "HTTP/1.1 200 OK\r\nDate: Sun, 06 Nov 1994 08:49:37 GMT\r\nETag: \"x\"\r\nLast-Modified: Thu, 27 Oct 1994 08:49:37 GMT\r\nContent-Length: 5\r\n\r\nhello")

abbrev text4 : Bytes
text4 = (codes "GET http://h/a HTTP/1.1\r\n\r\n")

abbrev text5 : Bytes
text5 = (codes "GET http://h/a HTTP/1.1\r\nAccept-Encoding: gzip\r\n\r\n")

abbrev text6 : Bytes
text6 = (codes "GET /a HTTP/1.1\r\nhost: h\r\naccept-encoding: gzip\r\nvia: 1.1 polipo\r\n\r\n")

abbrev text7 : Bytes
text7 = (codes "HTTP/1.1 200 OK\r\nETag: \"x\"\r\nCache-Control: max-age=60\r\nContent-Encoding: gzip\r\nContent-Length: 5\r\n\r\nhello")

abbrev text8 : Bytes
text8 = (codes "CONNECT http://h/a HTTP/1.1\r\n\r\n")

abbrev text9 : Bytes
text9 = (codes "GET http://h/a HTTP/1.1\r\nHost: h\r\n\r\n")

abbrev text10 : Bytes
text10 = (codes "GET /a HTTP/1.1\r\nhost: h\r\nvia: 1.1 polipo\r\n\r\n")

abbrev front1 : Log
front1 = Woke [] ∷ Rooted text0 ∷ Listed true ∷ Listens 8123 true ∷ wait true [] [] ∷ Clock 784111777 ∷ wait true [] [] ∷ Opened 1 ∷ wait true (1 ∷ []) [] ∷ CanRead 1 ∷ Heard 1 text9 ∷ Noted (Taken 1 0 Fetch) ∷ Dialled 2 (codes "h") 80 ∷ wait true (1 ∷ []) [] ∷ Reached 2 ∷ wait true (1 ∷ 2 ∷ []) (2 ∷ []) ∷ CanWrite 2 ∷ Asked 2 text10 ∷ wait true (1 ∷ 2 ∷ []) [] ∷ []

abbrev text11 : Bytes
text11 = (codes "HTTP/1.1 099 Odd\r\nContent-Length: 2\r\n\r\nhi")

abbrev text12 : Bytes
text12 = (codes "HTTP/1.1 200 OK\r\nContent-Type: multipart/byteranges; boundary=b\r\nContent-Length: 7\r\n\r\n--b--\r\n")

abbrev text13 : Bytes
text13 = (codes "HTTP/1.1 206 Partial Content\r\nContent-Type: multipart/byteranges; boundary=b\r\nContent-Length: 7\r\n\r\n--b--\r\n")

row879 : fault_from 0 (start (record { words = []; faults = 0 } ∷ [])) (front0 ++ Heard 1 text1 ∷ Noted (Taken 1 0 Fetch) ∷ Dialled 2 (codes "h") 80 ∷ wait true [] [] ∷ Reached 2 ∷ wait true [] (2 ∷ []) ∷ CanWrite 2 ∷ Asked 2 text2 ∷ wait true (2 ∷ []) [] ∷ CanRead 2 ∷ Got 2 text3 ∷ Noted (Taken 1 0 (Hit 0 5)) ∷ wait true (2 ∷ []) (1 ∷ []) ∷ Opened 3 ∷ wait true (2 ∷ 3 ∷ []) (1 ∷ []) ∷ CanRead 3 ∷ Heard 3 text4 ∷ Noted (Taken 3 0 Validate) ∷ []) ≡ None
unfolding judging
row879 = refl

row884 : fault_from 0 (start (record { words = []; faults = 0 } ∷ [])) (front0 ++ Heard 1 text1 ∷ Noted (Taken 1 0 Fetch) ∷ Dialled 2 (codes "h") 80 ∷ wait true [] [] ∷ Reached 2 ∷ wait true [] (2 ∷ []) ∷ CanWrite 2 ∷ Asked 2 text2 ∷ wait true (2 ∷ []) [] ∷ CanRead 2 ∷ Got 2 text3 ∷ Noted (Taken 1 0 (Hit 0 5)) ∷ wait true (2 ∷ []) (1 ∷ []) ∷ Opened 3 ∷ wait true (2 ∷ 3 ∷ []) (1 ∷ []) ∷ CanRead 3 ∷ Heard 3 text4 ∷ Noted (Taken 3 0 (Hit 0 5)) ∷ []) ≡ Some (record { at = 27; rule = WrongDecision })
unfolding judging
row884 = refl

row904 : fault_from 0 (start (record { words = []; faults = 0 } ∷ [])) (front0 ++ Heard 1 text5 ∷ Noted (Taken 1 0 Fetch) ∷ Dialled 2 (codes "h") 80 ∷ wait true [] [] ∷ Reached 2 ∷ wait true [] (2 ∷ []) ∷ CanWrite 2 ∷ Asked 2 text6 ∷ wait true (2 ∷ []) [] ∷ CanRead 2 ∷ Got 2 text7 ∷ Noted (Taken 1 0 Relay) ∷ wait true (2 ∷ []) (1 ∷ []) ∷ []) ≡ None
unfolding judging
row904 = refl

row909 : fault_from 0 (start (record { words = []; faults = 0 } ∷ [])) (front0 ++ Heard 1 text5 ∷ Noted (Taken 1 0 Fetch) ∷ Dialled 2 (codes "h") 80 ∷ wait true [] [] ∷ Reached 2 ∷ wait true [] (2 ∷ []) ∷ CanWrite 2 ∷ Asked 2 text6 ∷ wait true (2 ∷ []) [] ∷ CanRead 2 ∷ Got 2 text7 ∷ Noted (Taken 1 0 (Hit 0 5)) ∷ []) ≡ Some (record { at = 21; rule = WrongDecision })
unfolding judging
row909 = refl

row916 : fault_from 0 (start (record { words = []; faults = 0 } ∷ [])) (front0 ++ Heard 1 text8 ∷ Noted (Taken 1 0 (Refuse 400)) ∷ wait true [] (1 ∷ []) ∷ []) ≡ None
unfolding judging
row916 = refl

row923 : fault_from 0 (start (record { words = []; faults = 0 } ∷ [])) (front1 ++ CanRead 2 ∷ Got 2 text11 ∷ Noted (Taken 1 0 (Refuse 502)) ∷ Dropped 2 ∷ wait true (1 ∷ []) (1 ∷ []) ∷ []) ≡ None
unfolding judging
row923 = refl

row930 : fault_from 0 (start (record { words = []; faults = 0 } ∷ [])) (front1 ++ CanRead 2 ∷ Got 2 text12 ∷ Noted (Taken 1 0 Relay) ∷ wait true (1 ∷ 2 ∷ []) (1 ∷ []) ∷ []) ≡ None
unfolding judging
row930 = refl

row936 : fault_from 0 (start (record { words = []; faults = 0 } ∷ [])) (front1 ++ CanRead 2 ∷ Got 2 text13 ∷ Noted (Taken 1 0 (Refuse 502)) ∷ Dropped 2 ∷ wait true (1 ∷ []) (1 ∷ []) ∷ []) ≡ None
unfolding judging
row936 = refl
