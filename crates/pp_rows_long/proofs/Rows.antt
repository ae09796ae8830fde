-- The verdicts of transcripts/rows.log, written by transcripts/make_rows.
use Rattle.std.proofs.Common.{◌≡◌, refl, ℕ, List, [], ◌∷◌, ◌++◌, true, false, Bool, Option, None, Some, codes}
use Rattle.std.specs.Prelude.{replicate, is_some}
use Rattle.pp_world.specs.Log.{Log}
use Rattle.pp_world.specs.declared.happening.Happening.{Happening}
use Rattle.pp_world.specs.declared.happening.Happening.TheVariants.{Woke, Waits, Clock, Opened, CanRead, CanWrite, Heard, HungUp, Said, Shut, Dialled, Undialled, Reached, Ended, Broke, Asked, Got, Dropped, NoneYet, Began, Did, Unread, Noted, Rooted, Listed, Listens, Configured, Printed, Stopped}
use Rattle.pp_world.specs.declared.note.Decision.TheVariants.{Refuse, Hit, Part, Head, NotModified, Unsatisfiable, Relay, Validate, Fetch, Pass}
use Rattle.pp_world.specs.declared.note.Cause.TheVariants.{Superseded, Origin, Short, Idle, Memory, Stop}
use Rattle.pp_world.specs.declared.note.Remark.TheVariants.{Taken, Cut, Kept, Gone, Forgotten, Evicted, Loaded}
use Rattle.pp_world.specs.declared.op.DiskOp.TheVariants.{Draft, SyncDraft, Publish, Write, Sync, Remove}
use Rattle.pp_law.specs.Lists.{Bytes}
use Rattle.pp_law.specs.State.{State, start}
use Rattle.pp_law.specs.Lawful.{fault_from, Fault, ImageNotLeft, OpeningOutOfOrder, EventOutOfTurn, ReadNotAskedFor, FailureMadeUp, WrongReply, WrongAsk, WrongDecision, WrongCut, NotToBeClosed, NotToBeDialled, NotToBeEvicted, NotToBeForgotten, NotToBeLoaded, NotSealed, NotGone, WrongDiskOperation, StepUnfinished, AcceptsWrongly, ClientForgotten, ConnectionForgotten, ExchangeForgotten, WantsTooMuch}
use Rattle.pp_pieces.proofs.Forced.{judge, arrived, judging, told, tell}

abbrev wait : Bool → List ℕ → List ℕ → Happening
wait accept read write = Waits (record { accept = accept; read = record { items = read }; write = record { items = write } })

abbrev text0 : Bytes
text0 = (codes "pipelineAsks=1")

abbrev text1 : Bytes
text1 = (codes "hostConnections=4")

abbrev text2 : Bytes
text2 = (codes "polipo-cache")

abbrev text3 : Bytes
text3 = (codes "GET http://h/0 HTTP/1.1\r\n\r\n")

abbrev text4 : Bytes
text4 = (codes "GET /0 HTTP/1.1\r\nhost: h\r\nvia: 1.1 polipo\r\n\r\n")

abbrev text5 : Bytes
text5 = (codes "HTTP/1.1 200 OK\r\nETag: \"x\"\r\nCache-Control: max-age=60\r\nContent-Length: 0\r\n\r\n")

abbrev text6 : Bytes
text6 = (codes "HTTP/1.1 200 OK\r\netag: \"x\"\r\ndate: Sun, 06 Nov 1994 08:49:37 GMT\r\ncache-control: max-age=60\r\nvia: 1.1 polipo\r\ncontent-length: 0\r\nconnection: keep-alive\r\n\r\n")

abbrev text7 : Bytes
text7 = (codes "GET http://h/1 HTTP/1.1\r\n\r\n")

abbrev text8 : Bytes
text8 = (codes "GET /1 HTTP/1.1\r\nhost: h\r\nvia: 1.1 polipo\r\n\r\n")

abbrev text9 : Bytes
text9 = (codes "GET http://h/2 HTTP/1.1\r\n\r\n")

abbrev text10 : Bytes
text10 = (codes "GET /2 HTTP/1.1\r\nhost: h\r\nvia: 1.1 polipo\r\n\r\n")

abbrev text11 : Bytes
text11 = (codes "GET http://h/3 HTTP/1.1\r\n\r\n")

abbrev text12 : Bytes
text12 = (codes "GET /3 HTTP/1.1\r\nhost: h\r\nvia: 1.1 polipo\r\n\r\n")

abbrev text13 : Bytes
text13 = (codes "GET http://h/4 HTTP/1.1\r\n\r\n")

abbrev text14 : Bytes
text14 = (codes "GET /4 HTTP/1.1\r\nhost: h\r\nvia: 1.1 polipo\r\n\r\n")

abbrev text15 : Bytes
text15 = (codes "GET http://h/5 HTTP/1.1\r\n\r\n")

abbrev text16 : Bytes
text16 = (codes "GET /5 HTTP/1.1\r\nhost: h\r\nvia: 1.1 polipo\r\n\r\n")

abbrev text17 : Bytes
text17 = (codes "GET http://h/6 HTTP/1.1\r\n\r\n")

abbrev text18 : Bytes
text18 = (codes "GET /6 HTTP/1.1\r\nhost: h\r\nvia: 1.1 polipo\r\n\r\n")

abbrev text19 : Bytes
text19 = (codes "GET http://h/7 HTTP/1.1\r\n\r\n")

abbrev text20 : Bytes
text20 = (codes "GET /7 HTTP/1.1\r\nhost: h\r\nvia: 1.1 polipo\r\n\r\n")

abbrev text21 : Bytes
text21 = (codes "GET http://h/8 HTTP/1.1\r\n\r\n")

abbrev text22 : Bytes
text22 = (codes "GET /8 HTTP/1.1\r\nhost: h\r\nvia: 1.1 polipo\r\n\r\n")

abbrev text23 : Bytes
text23 = (codes "GET http://h/9 HTTP/1.1\r\n\r\n")

abbrev text24 : Bytes
text24 = (codes "GET /9 HTTP/1.1\r\nhost: h\r\nvia: 1.1 polipo\r\n\r\n")

abbrev text25 : Bytes
text25 = (codes "GET http://h/10 HTTP/1.1\r\n\r\n")

abbrev text26 : Bytes
text26 = (codes "GET /10 HTTP/1.1\r\nhost: h\r\nvia: 1.1 polipo\r\n\r\n")

abbrev text27 : Bytes
text27 = (codes "GET http://h/11 HTTP/1.1\r\n\r\n")

abbrev text28 : Bytes
text28 = (codes "GET /11 HTTP/1.1\r\nhost: h\r\nvia: 1.1 polipo\r\n\r\n")

abbrev text29 : Bytes
text29 = (codes "GET http://h/12 HTTP/1.1\r\n\r\n")

abbrev text30 : Bytes
text30 = (codes "GET /12 HTTP/1.1\r\nhost: h\r\nvia: 1.1 polipo\r\n\r\n")

abbrev text31 : Bytes
text31 = (codes "GET http://h/13 HTTP/1.1\r\n\r\n")

abbrev text32 : Bytes
text32 = (codes "GET /13 HTTP/1.1\r\nhost: h\r\nvia: 1.1 polipo\r\n\r\n")

abbrev text33 : Bytes
text33 = (codes "GET http://h/14 HTTP/1.1\r\n\r\n")

abbrev text34 : Bytes
text34 = (codes "GET /14 HTTP/1.1\r\nhost: h\r\nvia: 1.1 polipo\r\n\r\n")

abbrev text35 : Bytes
text35 = (codes "GET http://h/15 HTTP/1.1\r\n\r\n")

abbrev text36 : Bytes
text36 = (codes "GET /15 HTTP/1.1\r\nhost: h\r\nvia: 1.1 polipo\r\n\r\n")

abbrev text37 : Bytes
text37 = (codes "GET http://h/16 HTTP/1.1\r\n\r\n")

abbrev text38 : Bytes
text38 = (codes "GET /16 HTTP/1.1\r\nhost: h\r\nvia: 1.1 polipo\r\n\r\n")

abbrev text39 : Bytes
text39 = (codes "GET http://h/17 HTTP/1.1\r\n\r\n")

abbrev text40 : Bytes
text40 = (codes "GET /17 HTTP/1.1\r\nhost: h\r\nvia: 1.1 polipo\r\n\r\n")

abbrev text41 : Bytes
text41 = (codes "GET http://h/18 HTTP/1.1\r\n\r\n")

abbrev text42 : Bytes
text42 = (codes "GET /18 HTTP/1.1\r\nhost: h\r\nvia: 1.1 polipo\r\n\r\n")

abbrev text43 : Bytes
text43 = (codes "GET http://h/19 HTTP/1.1\r\n\r\n")

abbrev text44 : Bytes
text44 = (codes "GET /19 HTTP/1.1\r\nhost: h\r\nvia: 1.1 polipo\r\n\r\n")

abbrev text45 : Bytes
text45 = (codes "GET http://h/20 HTTP/1.1\r\n\r\n")

abbrev text46 : Bytes
text46 = (codes "GET /20 HTTP/1.1\r\nhost: h\r\nvia: 1.1 polipo\r\n\r\n")

abbrev text47 : Bytes
text47 = (codes "GET http://h/21 HTTP/1.1\r\n\r\n")

abbrev text48 : Bytes
text48 = (codes "GET /21 HTTP/1.1\r\nhost: h\r\nvia: 1.1 polipo\r\n\r\n")

abbrev text49 : Bytes
text49 = (codes "GET http://h/22 HTTP/1.1\r\n\r\n")

abbrev text50 : Bytes
text50 = (codes "GET /22 HTTP/1.1\r\nhost: h\r\nvia: 1.1 polipo\r\n\r\n")

abbrev text51 : Bytes
text51 = (codes "GET http://h/23 HTTP/1.1\r\n\r\n")

abbrev text52 : Bytes
text52 = (codes "GET /23 HTTP/1.1\r\nhost: h\r\nvia: 1.1 polipo\r\n\r\n")

abbrev text53 : Bytes
text53 = (codes "GET http://h/24 HTTP/1.1\r\n\r\n")

abbrev text54 : Bytes
text54 = (codes "GET /24 HTTP/1.1\r\nhost: h\r\nvia: 1.1 polipo\r\n\r\n")

abbrev text55 : Bytes
text55 = (codes "GET http://h/25 HTTP/1.1\r\n\r\n")

abbrev text56 : Bytes
text56 = (codes "GET /25 HTTP/1.1\r\nhost: h\r\nvia: 1.1 polipo\r\n\r\n")

abbrev text57 : Bytes
text57 = (codes "GET http://h/26 HTTP/1.1\r\n\r\n")

abbrev text58 : Bytes
text58 = (codes "GET /26 HTTP/1.1\r\nhost: h\r\nvia: 1.1 polipo\r\n\r\n")

abbrev text59 : Bytes
text59 = (codes "GET http://h/27 HTTP/1.1\r\n\r\n")

abbrev text60 : Bytes
text60 = (codes "GET /27 HTTP/1.1\r\nhost: h\r\nvia: 1.1 polipo\r\n\r\n")

abbrev text61 : Bytes
text61 = (codes "GET http://h/28 HTTP/1.1\r\n\r\n")

abbrev text62 : Bytes
text62 = (codes "GET /28 HTTP/1.1\r\nhost: h\r\nvia: 1.1 polipo\r\n\r\n")

abbrev text63 : Bytes
text63 = (codes "GET http://h/29 HTTP/1.1\r\n\r\n")

abbrev text64 : Bytes
text64 = (codes "GET /29 HTTP/1.1\r\nhost: h\r\nvia: 1.1 polipo\r\n\r\n")

abbrev text65 : Bytes
text65 = (codes "GET http://h/30 HTTP/1.1\r\n\r\n")

abbrev text66 : Bytes
text66 = (codes "GET /30 HTTP/1.1\r\nhost: h\r\nvia: 1.1 polipo\r\n\r\n")

abbrev text67 : Bytes
text67 = (codes "GET http://h/31 HTTP/1.1\r\n\r\n")

abbrev text68 : Bytes
text68 = (codes "GET /31 HTTP/1.1\r\nhost: h\r\nvia: 1.1 polipo\r\n\r\n")

abbrev text69 : Bytes
text69 = (codes "GET http://h/32 HTTP/1.1\r\n\r\n")

abbrev text70 : Bytes
text70 = (codes "GET /32 HTTP/1.1\r\nhost: h\r\nvia: 1.1 polipo\r\n\r\n")

abbrev text71 : Bytes
text71 = (codes "GET http://h/33 HTTP/1.1\r\n\r\n")

abbrev text72 : Bytes
text72 = (codes "GET /33 HTTP/1.1\r\nhost: h\r\nvia: 1.1 polipo\r\n\r\n")

abbrev text73 : Bytes
text73 = (codes "GET http://h/34 HTTP/1.1\r\n\r\n")

abbrev text74 : Bytes
text74 = (codes "GET /34 HTTP/1.1\r\nhost: h\r\nvia: 1.1 polipo\r\n\r\n")

abbrev text75 : Bytes
text75 = (codes "GET http://h/35 HTTP/1.1\r\n\r\n")

abbrev text76 : Bytes
text76 = (codes "GET /35 HTTP/1.1\r\nhost: h\r\nvia: 1.1 polipo\r\n\r\n")

abbrev text77 : Bytes
text77 = (codes "GET http://h/36 HTTP/1.1\r\n\r\n")

abbrev text78 : Bytes
text78 = (codes "GET /36 HTTP/1.1\r\nhost: h\r\nvia: 1.1 polipo\r\n\r\n")

abbrev text79 : Bytes
text79 = (codes "GET http://h/37 HTTP/1.1\r\n\r\n")

abbrev text80 : Bytes
text80 = (codes "GET /37 HTTP/1.1\r\nhost: h\r\nvia: 1.1 polipo\r\n\r\n")

abbrev text81 : Bytes
text81 = (codes "GET http://h/38 HTTP/1.1\r\n\r\n")

abbrev text82 : Bytes
text82 = (codes "GET /38 HTTP/1.1\r\nhost: h\r\nvia: 1.1 polipo\r\n\r\n")

abbrev text83 : Bytes
text83 = (codes "GET http://h/39 HTTP/1.1\r\n\r\n")

abbrev text84 : Bytes
text84 = (codes "GET /39 HTTP/1.1\r\nhost: h\r\nvia: 1.1 polipo\r\n\r\n")

abbrev text85 : Bytes
text85 = (codes "GET http://h/40 HTTP/1.1\r\n\r\n")

abbrev text86 : Bytes
text86 = (codes "GET /40 HTTP/1.1\r\nhost: h\r\nvia: 1.1 polipo\r\n\r\n")

abbrev text87 : Bytes
text87 = (codes "GET http://h/41 HTTP/1.1\r\n\r\n")

abbrev text88 : Bytes
text88 = (codes "GET /41 HTTP/1.1\r\nhost: h\r\nvia: 1.1 polipo\r\n\r\n")

abbrev text89 : Bytes
text89 = (codes "GET http://h/42 HTTP/1.1\r\n\r\n")

abbrev text90 : Bytes
text90 = (codes "GET /42 HTTP/1.1\r\nhost: h\r\nvia: 1.1 polipo\r\n\r\n")

abbrev text91 : Bytes
text91 = (codes "GET http://h/43 HTTP/1.1\r\n\r\n")

abbrev text92 : Bytes
text92 = (codes "GET /43 HTTP/1.1\r\nhost: h\r\nvia: 1.1 polipo\r\n\r\n")

abbrev text93 : Bytes
text93 = (codes "GET http://h/44 HTTP/1.1\r\n\r\n")

abbrev text94 : Bytes
text94 = (codes "GET /44 HTTP/1.1\r\nhost: h\r\nvia: 1.1 polipo\r\n\r\n")

abbrev text95 : Bytes
text95 = (codes "GET http://h/45 HTTP/1.1\r\n\r\n")

abbrev text96 : Bytes
text96 = (codes "GET /45 HTTP/1.1\r\nhost: h\r\nvia: 1.1 polipo\r\n\r\n")

abbrev text97 : Bytes
text97 = (codes "GET http://h/46 HTTP/1.1\r\n\r\n")

abbrev text98 : Bytes
text98 = (codes "GET /46 HTTP/1.1\r\nhost: h\r\nvia: 1.1 polipo\r\n\r\n")

abbrev text99 : Bytes
text99 = (codes "GET http://h/47 HTTP/1.1\r\n\r\n")

abbrev text100 : Bytes
text100 = (codes "GET /47 HTTP/1.1\r\nhost: h\r\nvia: 1.1 polipo\r\n\r\n")

abbrev text101 : Bytes
text101 = (codes "GET http://h/48 HTTP/1.1\r\n\r\n")

abbrev text102 : Bytes
text102 = (codes "GET /48 HTTP/1.1\r\nhost: h\r\nvia: 1.1 polipo\r\n\r\n")

abbrev text103 : Bytes
text103 = (codes "GET http://h/49 HTTP/1.1\r\n\r\n")

abbrev text104 : Bytes
text104 = (codes "GET /49 HTTP/1.1\r\nhost: h\r\nvia: 1.1 polipo\r\n\r\n")

abbrev text105 : Bytes
text105 = (codes "GET http://h/50 HTTP/1.1\r\n\r\n")

abbrev text106 : Bytes
text106 = (codes "GET /50 HTTP/1.1\r\nhost: h\r\nvia: 1.1 polipo\r\n\r\n")

abbrev text107 : Bytes
text107 = (codes "GET http://h/51 HTTP/1.1\r\n\r\n")

abbrev text108 : Bytes
text108 = (codes "GET /51 HTTP/1.1\r\nhost: h\r\nvia: 1.1 polipo\r\n\r\n")

abbrev text109 : Bytes
text109 = (codes "GET http://h/52 HTTP/1.1\r\n\r\n")

abbrev text110 : Bytes
text110 = (codes "GET /52 HTTP/1.1\r\nhost: h\r\nvia: 1.1 polipo\r\n\r\n")

abbrev text111 : Bytes
text111 = (codes "GET http://h/53 HTTP/1.1\r\n\r\n")

abbrev text112 : Bytes
text112 = (codes "GET /53 HTTP/1.1\r\nhost: h\r\nvia: 1.1 polipo\r\n\r\n")

abbrev text113 : Bytes
text113 = (codes "GET http://h/54 HTTP/1.1\r\n\r\n")

abbrev text114 : Bytes
text114 = (codes "GET /54 HTTP/1.1\r\nhost: h\r\nvia: 1.1 polipo\r\n\r\n")

abbrev text115 : Bytes
text115 = (codes "GET http://h/55 HTTP/1.1\r\n\r\n")

abbrev text116 : Bytes
text116 = (codes "GET /55 HTTP/1.1\r\nhost: h\r\nvia: 1.1 polipo\r\n\r\n")

abbrev text117 : Bytes
text117 = (codes "GET http://h/56 HTTP/1.1\r\n\r\n")

abbrev text118 : Bytes
text118 = (codes "GET /56 HTTP/1.1\r\nhost: h\r\nvia: 1.1 polipo\r\n\r\n")

abbrev text119 : Bytes
text119 = (codes "GET http://h/57 HTTP/1.1\r\n\r\n")

abbrev text120 : Bytes
text120 = (codes "GET /57 HTTP/1.1\r\nhost: h\r\nvia: 1.1 polipo\r\n\r\n")

abbrev text121 : Bytes
text121 = (codes "GET http://h/58 HTTP/1.1\r\n\r\n")

abbrev text122 : Bytes
text122 = (codes "GET /58 HTTP/1.1\r\nhost: h\r\nvia: 1.1 polipo\r\n\r\n")

abbrev text123 : Bytes
text123 = (codes "GET http://h/59 HTTP/1.1\r\n\r\n")

abbrev text124 : Bytes
text124 = (codes "GET /59 HTTP/1.1\r\nhost: h\r\nvia: 1.1 polipo\r\n\r\n")

abbrev text125 : Bytes
text125 = (codes "GET http://h/60 HTTP/1.1\r\n\r\n")

abbrev text126 : Bytes
text126 = (codes "GET /60 HTTP/1.1\r\nhost: h\r\nvia: 1.1 polipo\r\n\r\n")

abbrev text127 : Bytes
text127 = (codes "GET http://h/61 HTTP/1.1\r\n\r\n")

abbrev text128 : Bytes
text128 = (codes "GET /61 HTTP/1.1\r\nhost: h\r\nvia: 1.1 polipo\r\n\r\n")

abbrev text129 : Bytes
text129 = (codes "GET http://h/62 HTTP/1.1\r\n\r\n")

abbrev text130 : Bytes
text130 = (codes "GET /62 HTTP/1.1\r\nhost: h\r\nvia: 1.1 polipo\r\n\r\n")

abbrev text131 : Bytes
text131 = (codes "GET http://h/63 HTTP/1.1\r\n\r\n")

abbrev text132 : Bytes
text132 = (codes "GET /63 HTTP/1.1\r\nhost: h\r\nvia: 1.1 polipo\r\n\r\n")

abbrev text133 : Bytes
text133 = (codes "GET http://h/64 HTTP/1.1\r\n\r\n")

abbrev text134 : Bytes
text134 = (codes "GET /64 HTTP/1.1\r\nhost: h\r\nvia: 1.1 polipo\r\n\r\n")

abbrev text135 : Bytes
text135 = (codes "GET http://h/65 HTTP/1.1\r\n\r\n")

abbrev text136 : Bytes
text136 = (codes "GET /65 HTTP/1.1\r\nhost: h\r\nvia: 1.1 polipo\r\n\r\n")

abbrev text137 : Bytes
text137 = (codes "GET http://h/66 HTTP/1.1\r\n\r\n")

abbrev text138 : Bytes
text138 = (codes "GET /66 HTTP/1.1\r\nhost: h\r\nvia: 1.1 polipo\r\n\r\n")

abbrev text139 : Bytes
text139 = (codes "GET http://h/67 HTTP/1.1\r\n\r\n")

abbrev text140 : Bytes
text140 = (codes "GET /67 HTTP/1.1\r\nhost: h\r\nvia: 1.1 polipo\r\n\r\n")

abbrev text141 : Bytes
text141 = (codes "GET http://h/68 HTTP/1.1\r\n\r\n")

abbrev text142 : Bytes
text142 = (codes "GET /68 HTTP/1.1\r\nhost: h\r\nvia: 1.1 polipo\r\n\r\n")

abbrev text143 : Bytes
text143 = (codes "GET http://h/69 HTTP/1.1\r\n\r\n")

abbrev text144 : Bytes
text144 = (codes "GET /69 HTTP/1.1\r\nhost: h\r\nvia: 1.1 polipo\r\n\r\n")

abbrev text145 : Bytes
text145 = (codes "GET http://h/70 HTTP/1.1\r\n\r\n")

abbrev text146 : Bytes
text146 = (codes "GET /70 HTTP/1.1\r\nhost: h\r\nvia: 1.1 polipo\r\n\r\n")

abbrev text147 : Bytes
text147 = (codes "GET http://h/71 HTTP/1.1\r\n\r\n")

abbrev text148 : Bytes
text148 = (codes "GET /71 HTTP/1.1\r\nhost: h\r\nvia: 1.1 polipo\r\n\r\n")

abbrev text149 : Bytes
text149 = (codes "GET http://h/72 HTTP/1.1\r\n\r\n")

abbrev text150 : Bytes
text150 = (codes "GET /72 HTTP/1.1\r\nhost: h\r\nvia: 1.1 polipo\r\n\r\n")

abbrev text151 : Bytes
text151 = (codes "GET http://h/73 HTTP/1.1\r\n\r\n")

abbrev text152 : Bytes
text152 = (codes "GET /73 HTTP/1.1\r\nhost: h\r\nvia: 1.1 polipo\r\n\r\n")

abbrev text153 : Bytes
text153 = (codes "GET http://h/74 HTTP/1.1\r\n\r\n")

abbrev text154 : Bytes
text154 = (codes "GET /74 HTTP/1.1\r\nhost: h\r\nvia: 1.1 polipo\r\n\r\n")

abbrev text155 : Bytes
text155 = (codes "GET http://h/75 HTTP/1.1\r\n\r\n")

abbrev text156 : Bytes
text156 = (codes "GET /75 HTTP/1.1\r\nhost: h\r\nvia: 1.1 polipo\r\n\r\n")

abbrev text157 : Bytes
text157 = (codes "GET http://h/76 HTTP/1.1\r\n\r\n")

abbrev text158 : Bytes
text158 = (codes "GET /76 HTTP/1.1\r\nhost: h\r\nvia: 1.1 polipo\r\n\r\n")

abbrev text159 : Bytes
text159 = (codes "GET http://h/77 HTTP/1.1\r\n\r\n")

abbrev text160 : Bytes
text160 = (codes "GET /77 HTTP/1.1\r\nhost: h\r\nvia: 1.1 polipo\r\n\r\n")

abbrev text161 : Bytes
text161 = (codes "GET http://h/78 HTTP/1.1\r\n\r\n")

abbrev text162 : Bytes
text162 = (codes "GET /78 HTTP/1.1\r\nhost: h\r\nvia: 1.1 polipo\r\n\r\n")

abbrev text163 : Bytes
text163 = (codes "GET http://h/79 HTTP/1.1\r\n\r\n")

abbrev text164 : Bytes
text164 = (codes "GET /79 HTTP/1.1\r\nhost: h\r\nvia: 1.1 polipo\r\n\r\n")

abbrev text165 : Bytes
text165 = (codes "GET http://h/80 HTTP/1.1\r\n\r\n")

abbrev text166 : Bytes
text166 = (codes "GET /80 HTTP/1.1\r\nhost: h\r\nvia: 1.1 polipo\r\n\r\n")

abbrev text167 : Bytes
text167 = (codes "GET http://h/81 HTTP/1.1\r\n\r\n")

abbrev text168 : Bytes
text168 = (codes "GET /81 HTTP/1.1\r\nhost: h\r\nvia: 1.1 polipo\r\n\r\n")

abbrev text169 : Bytes
text169 = (codes "GET http://h/82 HTTP/1.1\r\n\r\n")

abbrev text170 : Bytes
text170 = (codes "GET /82 HTTP/1.1\r\nhost: h\r\nvia: 1.1 polipo\r\n\r\n")

abbrev text171 : Bytes
text171 = (codes "GET http://h/83 HTTP/1.1\r\n\r\n")

abbrev text172 : Bytes
text172 = (codes "GET /83 HTTP/1.1\r\nhost: h\r\nvia: 1.1 polipo\r\n\r\n")

abbrev text173 : Bytes
text173 = (codes "GET http://h/84 HTTP/1.1\r\n\r\n")

abbrev text174 : Bytes
text174 = (codes "GET /84 HTTP/1.1\r\nhost: h\r\nvia: 1.1 polipo\r\n\r\n")

abbrev text175 : Bytes
text175 = (codes "GET http://h/85 HTTP/1.1\r\n\r\n")

abbrev text176 : Bytes
text176 = (codes "GET /85 HTTP/1.1\r\nhost: h\r\nvia: 1.1 polipo\r\n\r\n")

abbrev text177 : Bytes
text177 = (codes "GET http://h/86 HTTP/1.1\r\n\r\n")

abbrev text178 : Bytes
text178 = (codes "GET /86 HTTP/1.1\r\nhost: h\r\nvia: 1.1 polipo\r\n\r\n")

abbrev text179 : Bytes
text179 = (codes "GET http://h/87 HTTP/1.1\r\n\r\n")

abbrev text180 : Bytes
text180 = (codes "GET /87 HTTP/1.1\r\nhost: h\r\nvia: 1.1 polipo\r\n\r\n")

abbrev text181 : Bytes
text181 = (codes "GET http://h/88 HTTP/1.1\r\n\r\n")

abbrev text182 : Bytes
text182 = (codes "GET /88 HTTP/1.1\r\nhost: h\r\nvia: 1.1 polipo\r\n\r\n")

abbrev text183 : Bytes
text183 = (codes "GET http://h/89 HTTP/1.1\r\n\r\n")

abbrev text184 : Bytes
text184 = (codes "GET /89 HTTP/1.1\r\nhost: h\r\nvia: 1.1 polipo\r\n\r\n")

abbrev text185 : Bytes
text185 = (codes "GET http://h/90 HTTP/1.1\r\n\r\n")

abbrev text186 : Bytes
text186 = (codes "GET /90 HTTP/1.1\r\nhost: h\r\nvia: 1.1 polipo\r\n\r\n")

abbrev text187 : Bytes
text187 = (codes "GET http://h/91 HTTP/1.1\r\n\r\n")

abbrev text188 : Bytes
text188 = (codes "GET /91 HTTP/1.1\r\nhost: h\r\nvia: 1.1 polipo\r\n\r\n")

abbrev text189 : Bytes
text189 = (codes "GET http://h/92 HTTP/1.1\r\n\r\n")

abbrev text190 : Bytes
text190 = (codes "GET /92 HTTP/1.1\r\nhost: h\r\nvia: 1.1 polipo\r\n\r\n")

abbrev text191 : Bytes
text191 = (codes "GET http://h/93 HTTP/1.1\r\n\r\n")

abbrev text192 : Bytes
text192 = (codes "GET /93 HTTP/1.1\r\nhost: h\r\nvia: 1.1 polipo\r\n\r\n")

abbrev text193 : Bytes
text193 = (codes "GET http://h/94 HTTP/1.1\r\n\r\n")

abbrev text194 : Bytes
text194 = (codes "GET /94 HTTP/1.1\r\nhost: h\r\nvia: 1.1 polipo\r\n\r\n")

abbrev text195 : Bytes
text195 = (codes "GET http://h/95 HTTP/1.1\r\n\r\n")

abbrev text196 : Bytes
text196 = (codes "GET /95 HTTP/1.1\r\nhost: h\r\nvia: 1.1 polipo\r\n\r\n")

abbrev text197 : Bytes
text197 = (codes "GET http://h/96 HTTP/1.1\r\n\r\n")

abbrev text198 : Bytes
text198 = (codes "GET /96 HTTP/1.1\r\nhost: h\r\nvia: 1.1 polipo\r\n\r\n")

abbrev text199 : Bytes
text199 = (codes "GET http://h/97 HTTP/1.1\r\n\r\n")

abbrev text200 : Bytes
text200 = (codes "GET /97 HTTP/1.1\r\nhost: h\r\nvia: 1.1 polipo\r\n\r\n")

abbrev text201 : Bytes
text201 = (codes "GET http://h/98 HTTP/1.1\r\n\r\n")

abbrev text202 : Bytes
text202 = (codes "GET /98 HTTP/1.1\r\nhost: h\r\nvia: 1.1 polipo\r\n\r\n")

abbrev text203 : Bytes
text203 = (codes "GET http://h/99 HTTP/1.1\r\n\r\n")

abbrev text204 : Bytes
text204 = (codes "GET /99 HTTP/1.1\r\nhost: h\r\nvia: 1.1 polipo\r\n\r\n")

abbrev text205 : Bytes
text205 = (codes "GET http://h/100 HTTP/1.1\r\n\r\n")

abbrev text206 : Bytes
text206 = (codes "GET /100 HTTP/1.1\r\nhost: h\r\nvia: 1.1 polipo\r\n\r\n")

abbrev text207 : Bytes
text207 = (codes "GET http://h/101 HTTP/1.1\r\n\r\n")

abbrev text208 : Bytes
text208 = (codes "GET /101 HTTP/1.1\r\nhost: h\r\nvia: 1.1 polipo\r\n\r\n")

abbrev text209 : Bytes
text209 = (codes "GET http://h/102 HTTP/1.1\r\n\r\n")

abbrev text210 : Bytes
text210 = (codes "GET /102 HTTP/1.1\r\nhost: h\r\nvia: 1.1 polipo\r\n\r\n")

abbrev text211 : Bytes
text211 = (codes "GET http://h/103 HTTP/1.1\r\n\r\n")

abbrev text212 : Bytes
text212 = (codes "GET /103 HTTP/1.1\r\nhost: h\r\nvia: 1.1 polipo\r\n\r\n")

abbrev text213 : Bytes
text213 = (codes "GET http://h/104 HTTP/1.1\r\n\r\n")

abbrev text214 : Bytes
text214 = (codes "GET /104 HTTP/1.1\r\nhost: h\r\nvia: 1.1 polipo\r\n\r\n")

abbrev text215 : Bytes
text215 = (codes "GET http://h/105 HTTP/1.1\r\n\r\n")

abbrev text216 : Bytes
text216 = (codes "GET /105 HTTP/1.1\r\nhost: h\r\nvia: 1.1 polipo\r\n\r\n")

abbrev text217 : Bytes
text217 = (codes "GET http://h/106 HTTP/1.1\r\n\r\n")

abbrev text218 : Bytes
text218 = (codes "GET /106 HTTP/1.1\r\nhost: h\r\nvia: 1.1 polipo\r\n\r\n")

abbrev text219 : Bytes
text219 = (codes "GET http://h/107 HTTP/1.1\r\n\r\n")

abbrev text220 : Bytes
text220 = (codes "GET /107 HTTP/1.1\r\nhost: h\r\nvia: 1.1 polipo\r\n\r\n")

abbrev text221 : Bytes
text221 = (codes "GET http://h/108 HTTP/1.1\r\n\r\n")

abbrev text222 : Bytes
text222 = (codes "GET /108 HTTP/1.1\r\nhost: h\r\nvia: 1.1 polipo\r\n\r\n")

abbrev text223 : Bytes
text223 = (codes "GET http://h/109 HTTP/1.1\r\n\r\n")

abbrev text224 : Bytes
text224 = (codes "GET /109 HTTP/1.1\r\nhost: h\r\nvia: 1.1 polipo\r\n\r\n")

abbrev text225 : Bytes
text225 = (codes "GET http://h/110 HTTP/1.1\r\n\r\n")

abbrev text226 : Bytes
text226 = (codes "GET /110 HTTP/1.1\r\nhost: h\r\nvia: 1.1 polipo\r\n\r\n")

abbrev text227 : Bytes
text227 = (codes "GET http://h/111 HTTP/1.1\r\n\r\n")

abbrev text228 : Bytes
text228 = (codes "GET /111 HTTP/1.1\r\nhost: h\r\nvia: 1.1 polipo\r\n\r\n")

abbrev text229 : Bytes
text229 = (codes "GET http://h/112 HTTP/1.1\r\n\r\n")

abbrev text230 : Bytes
text230 = (codes "GET /112 HTTP/1.1\r\nhost: h\r\nvia: 1.1 polipo\r\n\r\n")

abbrev text231 : Bytes
text231 = (codes "GET http://h/113 HTTP/1.1\r\n\r\n")

abbrev text232 : Bytes
text232 = (codes "GET /113 HTTP/1.1\r\nhost: h\r\nvia: 1.1 polipo\r\n\r\n")

abbrev text233 : Bytes
text233 = (codes "GET http://h/114 HTTP/1.1\r\n\r\n")

abbrev text234 : Bytes
text234 = (codes "GET /114 HTTP/1.1\r\nhost: h\r\nvia: 1.1 polipo\r\n\r\n")

abbrev text235 : Bytes
text235 = (codes "GET http://h/115 HTTP/1.1\r\n\r\n")

abbrev text236 : Bytes
text236 = (codes "GET /115 HTTP/1.1\r\nhost: h\r\nvia: 1.1 polipo\r\n\r\n")

abbrev text237 : Bytes
text237 = (codes "GET http://h/116 HTTP/1.1\r\n\r\n")

abbrev text238 : Bytes
text238 = (codes "GET /116 HTTP/1.1\r\nhost: h\r\nvia: 1.1 polipo\r\n\r\n")

abbrev text239 : Bytes
text239 = (codes "GET http://h/117 HTTP/1.1\r\n\r\n")

abbrev text240 : Bytes
text240 = (codes "GET /117 HTTP/1.1\r\nhost: h\r\nvia: 1.1 polipo\r\n\r\n")

abbrev text241 : Bytes
text241 = (codes "GET http://h/118 HTTP/1.1\r\n\r\n")

abbrev text242 : Bytes
text242 = (codes "GET /118 HTTP/1.1\r\nhost: h\r\nvia: 1.1 polipo\r\n\r\n")

abbrev text243 : Bytes
text243 = (codes "GET http://h/119 HTTP/1.1\r\n\r\n")

abbrev text244 : Bytes
text244 = (codes "GET /119 HTTP/1.1\r\nhost: h\r\nvia: 1.1 polipo\r\n\r\n")

abbrev text245 : Bytes
text245 = (codes "GET http://h/120 HTTP/1.1\r\n\r\n")

abbrev text246 : Bytes
text246 = (codes "GET /120 HTTP/1.1\r\nhost: h\r\nvia: 1.1 polipo\r\n\r\n")

abbrev text247 : Bytes
text247 = (codes "GET http://h/121 HTTP/1.1\r\n\r\n")

abbrev text248 : Bytes
text248 = (codes "GET /121 HTTP/1.1\r\nhost: h\r\nvia: 1.1 polipo\r\n\r\n")

abbrev text249 : Bytes
text249 = (codes "GET http://h/122 HTTP/1.1\r\n\r\n")

abbrev text250 : Bytes
text250 = (codes "GET /122 HTTP/1.1\r\nhost: h\r\nvia: 1.1 polipo\r\n\r\n")

abbrev text251 : Bytes
text251 = (codes "GET http://h/123 HTTP/1.1\r\n\r\n")

abbrev text252 : Bytes
text252 = (codes "GET /123 HTTP/1.1\r\nhost: h\r\nvia: 1.1 polipo\r\n\r\n")

abbrev text253 : Bytes
text253 = (codes "GET http://h/124 HTTP/1.1\r\n\r\n")

abbrev text254 : Bytes
text254 = (codes "GET /124 HTTP/1.1\r\nhost: h\r\nvia: 1.1 polipo\r\n\r\n")

abbrev text255 : Bytes
text255 = (codes "GET http://h/125 HTTP/1.1\r\n\r\n")

abbrev text256 : Bytes
text256 = (codes "GET /125 HTTP/1.1\r\nhost: h\r\nvia: 1.1 polipo\r\n\r\n")

abbrev text257 : Bytes
text257 = (codes "GET http://h/126 HTTP/1.1\r\n\r\n")

abbrev text258 : Bytes
text258 = (codes "GET /126 HTTP/1.1\r\nhost: h\r\nvia: 1.1 polipo\r\n\r\n")

abbrev text259 : Bytes
text259 = (codes "GET http://h/127 HTTP/1.1\r\n\r\n")

abbrev text260 : Bytes
text260 = (codes "GET /127 HTTP/1.1\r\nhost: h\r\nvia: 1.1 polipo\r\n\r\n")

abbrev text261 : Bytes
text261 = (codes "GET http://h/128 HTTP/1.1\r\n\r\n")

abbrev text262 : Bytes
text262 = (codes "GET /128 HTTP/1.1\r\nhost: h\r\nvia: 1.1 polipo\r\n\r\n")

abbrev text263 : Bytes
text263 = (codes "GET http://h/129 HTTP/1.1\r\n\r\n")

abbrev text264 : Bytes
text264 = (codes "GET /129 HTTP/1.1\r\nhost: h\r\nvia: 1.1 polipo\r\n\r\n")

abbrev text265 : Bytes
text265 = (codes "GET http://h/130 HTTP/1.1\r\n\r\n")

abbrev text266 : Bytes
text266 = (codes "GET /130 HTTP/1.1\r\nhost: h\r\nvia: 1.1 polipo\r\n\r\n")

abbrev text267 : Bytes
text267 = (codes "GET http://h/131 HTTP/1.1\r\n\r\n")

abbrev text268 : Bytes
text268 = (codes "GET /131 HTTP/1.1\r\nhost: h\r\nvia: 1.1 polipo\r\n\r\n")

abbrev text269 : Bytes
text269 = (codes "GET http://h/132 HTTP/1.1\r\n\r\n")

abbrev text270 : Bytes
text270 = (codes "GET /132 HTTP/1.1\r\nhost: h\r\nvia: 1.1 polipo\r\n\r\n")

abbrev text271 : Bytes
text271 = (codes "GET http://h/133 HTTP/1.1\r\n\r\n")

abbrev text272 : Bytes
text272 = (codes "GET /133 HTTP/1.1\r\nhost: h\r\nvia: 1.1 polipo\r\n\r\n")

abbrev text273 : Bytes
text273 = (codes "GET http://h/134 HTTP/1.1\r\n\r\n")

abbrev text274 : Bytes
text274 = (codes "GET /134 HTTP/1.1\r\nhost: h\r\nvia: 1.1 polipo\r\n\r\n")

abbrev text275 : Bytes
text275 = (codes "GET http://h/135 HTTP/1.1\r\n\r\n")

abbrev text276 : Bytes
text276 = (codes "GET /135 HTTP/1.1\r\nhost: h\r\nvia: 1.1 polipo\r\n\r\n")

abbrev text277 : Bytes
text277 = (codes "GET http://h/136 HTTP/1.1\r\n\r\n")

abbrev text278 : Bytes
text278 = (codes "GET /136 HTTP/1.1\r\nhost: h\r\nvia: 1.1 polipo\r\n\r\n")

abbrev text279 : Bytes
text279 = (codes "GET http://h/137 HTTP/1.1\r\n\r\n")

abbrev text280 : Bytes
text280 = (codes "GET /137 HTTP/1.1\r\nhost: h\r\nvia: 1.1 polipo\r\n\r\n")

abbrev text281 : Bytes
text281 = (codes "GET http://h/138 HTTP/1.1\r\n\r\n")

abbrev text282 : Bytes
text282 = (codes "GET /138 HTTP/1.1\r\nhost: h\r\nvia: 1.1 polipo\r\n\r\n")

abbrev text283 : Bytes
text283 = (codes "GET http://h/139 HTTP/1.1\r\n\r\n")

abbrev text284 : Bytes
text284 = (codes "GET /139 HTTP/1.1\r\nhost: h\r\nvia: 1.1 polipo\r\n\r\n")

abbrev text285 : Bytes
text285 = (codes "GET http://h/140 HTTP/1.1\r\n\r\n")

abbrev text286 : Bytes
text286 = (codes "GET /140 HTTP/1.1\r\nhost: h\r\nvia: 1.1 polipo\r\n\r\n")

abbrev text287 : Bytes
text287 = (codes "GET http://h/141 HTTP/1.1\r\n\r\n")

abbrev text288 : Bytes
text288 = (codes "GET /141 HTTP/1.1\r\nhost: h\r\nvia: 1.1 polipo\r\n\r\n")

abbrev text289 : Bytes
text289 = (codes "GET http://h/142 HTTP/1.1\r\n\r\n")

abbrev text290 : Bytes
text290 = (codes "GET /142 HTTP/1.1\r\nhost: h\r\nvia: 1.1 polipo\r\n\r\n")

abbrev text291 : Bytes
text291 = (codes "GET http://h/143 HTTP/1.1\r\n\r\n")

abbrev text292 : Bytes
text292 = (codes "GET /143 HTTP/1.1\r\nhost: h\r\nvia: 1.1 polipo\r\n\r\n")

abbrev text293 : Bytes
text293 = (codes "GET http://h/144 HTTP/1.1\r\n\r\n")

abbrev text294 : Bytes
text294 = (codes "GET /144 HTTP/1.1\r\nhost: h\r\nvia: 1.1 polipo\r\n\r\n")

abbrev text295 : Bytes
text295 = (codes "GET http://h/145 HTTP/1.1\r\n\r\n")

abbrev text296 : Bytes
text296 = (codes "GET /145 HTTP/1.1\r\nhost: h\r\nvia: 1.1 polipo\r\n\r\n")

abbrev text297 : Bytes
text297 = (codes "GET http://h/146 HTTP/1.1\r\n\r\n")

abbrev text298 : Bytes
text298 = (codes "GET /146 HTTP/1.1\r\nhost: h\r\nvia: 1.1 polipo\r\n\r\n")

abbrev text299 : Bytes
text299 = (codes "GET http://h/147 HTTP/1.1\r\n\r\n")

abbrev text300 : Bytes
text300 = (codes "GET /147 HTTP/1.1\r\nhost: h\r\nvia: 1.1 polipo\r\n\r\n")

abbrev text301 : Bytes
text301 = (codes "GET http://h/148 HTTP/1.1\r\n\r\n")

abbrev text302 : Bytes
text302 = (codes "GET /148 HTTP/1.1\r\nhost: h\r\nvia: 1.1 polipo\r\n\r\n")

abbrev text303 : Bytes
text303 = (codes "GET http://h/149 HTTP/1.1\r\n\r\n")

abbrev text304 : Bytes
text304 = (codes "GET /149 HTTP/1.1\r\nhost: h\r\nvia: 1.1 polipo\r\n\r\n")

abbrev text305 : Bytes
text305 = (codes "GET http://h/150 HTTP/1.1\r\n\r\n")

abbrev text306 : Bytes
text306 = (codes "GET /150 HTTP/1.1\r\nhost: h\r\nvia: 1.1 polipo\r\n\r\n")

abbrev text307 : Bytes
text307 = (codes "GET http://h/151 HTTP/1.1\r\n\r\n")

abbrev text308 : Bytes
text308 = (codes "GET /151 HTTP/1.1\r\nhost: h\r\nvia: 1.1 polipo\r\n\r\n")

abbrev text309 : Bytes
text309 = (codes "GET http://h/152 HTTP/1.1\r\n\r\n")

abbrev text310 : Bytes
text310 = (codes "GET /152 HTTP/1.1\r\nhost: h\r\nvia: 1.1 polipo\r\n\r\n")

abbrev text311 : Bytes
text311 = (codes "GET http://h/153 HTTP/1.1\r\n\r\n")

abbrev text312 : Bytes
text312 = (codes "GET /153 HTTP/1.1\r\nhost: h\r\nvia: 1.1 polipo\r\n\r\n")

abbrev text313 : Bytes
text313 = (codes "GET http://h/154 HTTP/1.1\r\n\r\n")

abbrev text314 : Bytes
text314 = (codes "GET /154 HTTP/1.1\r\nhost: h\r\nvia: 1.1 polipo\r\n\r\n")

abbrev text315 : Bytes
text315 = (codes "GET http://h/155 HTTP/1.1\r\n\r\n")

abbrev text316 : Bytes
text316 = (codes "GET /155 HTTP/1.1\r\nhost: h\r\nvia: 1.1 polipo\r\n\r\n")

abbrev text317 : Bytes
text317 = (codes "GET http://h/156 HTTP/1.1\r\n\r\n")

abbrev text318 : Bytes
text318 = (codes "GET /156 HTTP/1.1\r\nhost: h\r\nvia: 1.1 polipo\r\n\r\n")

abbrev text319 : Bytes
text319 = (codes "GET http://h/157 HTTP/1.1\r\n\r\n")

abbrev text320 : Bytes
text320 = (codes "GET /157 HTTP/1.1\r\nhost: h\r\nvia: 1.1 polipo\r\n\r\n")

abbrev text321 : Bytes
text321 = (codes "GET http://h/158 HTTP/1.1\r\n\r\n")

abbrev text322 : Bytes
text322 = (codes "GET /158 HTTP/1.1\r\nhost: h\r\nvia: 1.1 polipo\r\n\r\n")

abbrev text323 : Bytes
text323 = (codes "GET http://h/159 HTTP/1.1\r\n\r\n")

abbrev text324 : Bytes
text324 = (codes "GET /159 HTTP/1.1\r\nhost: h\r\nvia: 1.1 polipo\r\n\r\n")

abbrev text325 : Bytes
text325 = (codes "GET http://h/160 HTTP/1.1\r\n\r\n")

abbrev text326 : Bytes
text326 = (codes "GET /160 HTTP/1.1\r\nhost: h\r\nvia: 1.1 polipo\r\n\r\n")

abbrev text327 : Bytes
text327 = (codes "GET http://h/161 HTTP/1.1\r\n\r\n")

abbrev text328 : Bytes
text328 = (codes "GET /161 HTTP/1.1\r\nhost: h\r\nvia: 1.1 polipo\r\n\r\n")

abbrev text329 : Bytes
text329 = (codes "GET http://h/162 HTTP/1.1\r\n\r\n")

abbrev text330 : Bytes
text330 = (codes "GET /162 HTTP/1.1\r\nhost: h\r\nvia: 1.1 polipo\r\n\r\n")

abbrev text331 : Bytes
text331 = (codes "GET http://h/163 HTTP/1.1\r\n\r\n")

abbrev text332 : Bytes
text332 = (codes "GET /163 HTTP/1.1\r\nhost: h\r\nvia: 1.1 polipo\r\n\r\n")

abbrev text333 : Bytes
text333 = (codes "GET http://h/164 HTTP/1.1\r\n\r\n")

abbrev text334 : Bytes
text334 = (codes "GET /164 HTTP/1.1\r\nhost: h\r\nvia: 1.1 polipo\r\n\r\n")

abbrev text335 : Bytes
text335 = (codes "GET http://h/165 HTTP/1.1\r\n\r\n")

abbrev text336 : Bytes
text336 = (codes "GET /165 HTTP/1.1\r\nhost: h\r\nvia: 1.1 polipo\r\n\r\n")

abbrev text337 : Bytes
text337 = (codes "GET http://h/166 HTTP/1.1\r\n\r\n")

abbrev text338 : Bytes
text338 = (codes "GET /166 HTTP/1.1\r\nhost: h\r\nvia: 1.1 polipo\r\n\r\n")

abbrev text339 : Bytes
text339 = (codes "GET http://h/167 HTTP/1.1\r\n\r\n")

abbrev text340 : Bytes
text340 = (codes "GET /167 HTTP/1.1\r\nhost: h\r\nvia: 1.1 polipo\r\n\r\n")

abbrev text341 : Bytes
text341 = (codes "GET http://h/168 HTTP/1.1\r\n\r\n")

abbrev text342 : Bytes
text342 = (codes "GET /168 HTTP/1.1\r\nhost: h\r\nvia: 1.1 polipo\r\n\r\n")

abbrev text343 : Bytes
text343 = (codes "GET http://h/169 HTTP/1.1\r\n\r\n")

abbrev text344 : Bytes
text344 = (codes "GET /169 HTTP/1.1\r\nhost: h\r\nvia: 1.1 polipo\r\n\r\n")

abbrev text345 : Bytes
text345 = (codes "GET http://h/170 HTTP/1.1\r\n\r\n")

abbrev text346 : Bytes
text346 = (codes "GET /170 HTTP/1.1\r\nhost: h\r\nvia: 1.1 polipo\r\n\r\n")

abbrev text347 : Bytes
text347 = (codes "GET http://h/171 HTTP/1.1\r\n\r\n")

abbrev text348 : Bytes
text348 = (codes "GET /171 HTTP/1.1\r\nhost: h\r\nvia: 1.1 polipo\r\n\r\n")

abbrev text349 : Bytes
text349 = (codes "GET http://h/172 HTTP/1.1\r\n\r\n")

abbrev text350 : Bytes
text350 = (codes "GET /172 HTTP/1.1\r\nhost: h\r\nvia: 1.1 polipo\r\n\r\n")

abbrev text351 : Bytes
text351 = (codes "GET http://h/173 HTTP/1.1\r\n\r\n")

abbrev text352 : Bytes
text352 = (codes "GET /173 HTTP/1.1\r\nhost: h\r\nvia: 1.1 polipo\r\n\r\n")

abbrev text353 : Bytes
text353 = (codes "GET http://h/174 HTTP/1.1\r\n\r\n")

abbrev text354 : Bytes
text354 = (codes "GET /174 HTTP/1.1\r\nhost: h\r\nvia: 1.1 polipo\r\n\r\n")

abbrev text355 : Bytes
text355 = (codes "GET http://h/175 HTTP/1.1\r\n\r\n")

abbrev text356 : Bytes
text356 = (codes "GET /175 HTTP/1.1\r\nhost: h\r\nvia: 1.1 polipo\r\n\r\n")

abbrev text357 : Bytes
text357 = (codes "GET http://h/176 HTTP/1.1\r\n\r\n")

abbrev text358 : Bytes
text358 = (codes "GET /176 HTTP/1.1\r\nhost: h\r\nvia: 1.1 polipo\r\n\r\n")

abbrev text359 : Bytes
text359 = (codes "GET http://h/177 HTTP/1.1\r\n\r\n")

abbrev text360 : Bytes
text360 = (codes "GET /177 HTTP/1.1\r\nhost: h\r\nvia: 1.1 polipo\r\n\r\n")

abbrev text361 : Bytes
text361 = (codes "GET http://h/178 HTTP/1.1\r\n\r\n")

abbrev text362 : Bytes
text362 = (codes "GET /178 HTTP/1.1\r\nhost: h\r\nvia: 1.1 polipo\r\n\r\n")

abbrev text363 : Bytes
text363 = (codes "GET http://h/179 HTTP/1.1\r\n\r\n")

abbrev text364 : Bytes
text364 = (codes "GET /179 HTTP/1.1\r\nhost: h\r\nvia: 1.1 polipo\r\n\r\n")

abbrev text365 : Bytes
text365 = (codes "GET http://h/180 HTTP/1.1\r\n\r\n")

abbrev text366 : Bytes
text366 = (codes "GET /180 HTTP/1.1\r\nhost: h\r\nvia: 1.1 polipo\r\n\r\n")

abbrev text367 : Bytes
text367 = (codes "GET http://h/181 HTTP/1.1\r\n\r\n")

abbrev text368 : Bytes
text368 = (codes "GET /181 HTTP/1.1\r\nhost: h\r\nvia: 1.1 polipo\r\n\r\n")

abbrev text369 : Bytes
text369 = (codes "GET http://h/182 HTTP/1.1\r\n\r\n")

abbrev text370 : Bytes
text370 = (codes "GET /182 HTTP/1.1\r\nhost: h\r\nvia: 1.1 polipo\r\n\r\n")

abbrev text371 : Bytes
text371 = (codes "GET http://h/183 HTTP/1.1\r\n\r\n")

abbrev text372 : Bytes
text372 = (codes "GET /183 HTTP/1.1\r\nhost: h\r\nvia: 1.1 polipo\r\n\r\n")

abbrev text373 : Bytes
text373 = (codes "GET http://h/184 HTTP/1.1\r\n\r\n")

abbrev text374 : Bytes
text374 = (codes "GET /184 HTTP/1.1\r\nhost: h\r\nvia: 1.1 polipo\r\n\r\n")

abbrev text375 : Bytes
text375 = (codes "GET http://h/185 HTTP/1.1\r\n\r\n")

abbrev text376 : Bytes
text376 = (codes "GET /185 HTTP/1.1\r\nhost: h\r\nvia: 1.1 polipo\r\n\r\n")

abbrev text377 : Bytes
text377 = (codes "GET http://h/186 HTTP/1.1\r\n\r\n")

abbrev text378 : Bytes
text378 = (codes "GET /186 HTTP/1.1\r\nhost: h\r\nvia: 1.1 polipo\r\n\r\n")

abbrev text379 : Bytes
text379 = (codes "GET http://h/187 HTTP/1.1\r\n\r\n")

abbrev text380 : Bytes
text380 = (codes "GET /187 HTTP/1.1\r\nhost: h\r\nvia: 1.1 polipo\r\n\r\n")

abbrev text381 : Bytes
text381 = (codes "GET http://h/188 HTTP/1.1\r\n\r\n")

abbrev text382 : Bytes
text382 = (codes "GET /188 HTTP/1.1\r\nhost: h\r\nvia: 1.1 polipo\r\n\r\n")

abbrev text383 : Bytes
text383 = (codes "GET http://h/189 HTTP/1.1\r\n\r\n")

abbrev text384 : Bytes
text384 = (codes "GET /189 HTTP/1.1\r\nhost: h\r\nvia: 1.1 polipo\r\n\r\n")

abbrev text385 : Bytes
text385 = (codes "GET http://h/190 HTTP/1.1\r\n\r\n")

abbrev text386 : Bytes
text386 = (codes "GET /190 HTTP/1.1\r\nhost: h\r\nvia: 1.1 polipo\r\n\r\n")

abbrev text387 : Bytes
text387 = (codes "GET http://h/191 HTTP/1.1\r\n\r\n")

abbrev text388 : Bytes
text388 = (codes "GET /191 HTTP/1.1\r\nhost: h\r\nvia: 1.1 polipo\r\n\r\n")

abbrev text389 : Bytes
text389 = (codes "GET http://h/192 HTTP/1.1\r\n\r\n")

abbrev text390 : Bytes
text390 = (codes "GET /192 HTTP/1.1\r\nhost: h\r\nvia: 1.1 polipo\r\n\r\n")

abbrev text391 : Bytes
text391 = (codes "GET http://h/193 HTTP/1.1\r\n\r\n")

abbrev text392 : Bytes
text392 = (codes "GET /193 HTTP/1.1\r\nhost: h\r\nvia: 1.1 polipo\r\n\r\n")

abbrev text393 : Bytes
text393 = (codes "GET http://h/194 HTTP/1.1\r\n\r\n")

abbrev text394 : Bytes
text394 = (codes "GET /194 HTTP/1.1\r\nhost: h\r\nvia: 1.1 polipo\r\n\r\n")

abbrev text395 : Bytes
text395 = (codes "GET http://h/195 HTTP/1.1\r\n\r\n")

abbrev text396 : Bytes
text396 = (codes "GET /195 HTTP/1.1\r\nhost: h\r\nvia: 1.1 polipo\r\n\r\n")

abbrev text397 : Bytes
text397 = (codes "GET http://h/196 HTTP/1.1\r\n\r\n")

abbrev text398 : Bytes
text398 = (codes "GET /196 HTTP/1.1\r\nhost: h\r\nvia: 1.1 polipo\r\n\r\n")

abbrev text399 : Bytes
text399 = (codes "GET http://h/197 HTTP/1.1\r\n\r\n")

abbrev text400 : Bytes
text400 = (codes "GET /197 HTTP/1.1\r\nhost: h\r\nvia: 1.1 polipo\r\n\r\n")

abbrev text401 : Bytes
text401 = (codes "GET http://h/198 HTTP/1.1\r\n\r\n")

abbrev text402 : Bytes
text402 = (codes "GET /198 HTTP/1.1\r\nhost: h\r\nvia: 1.1 polipo\r\n\r\n")

abbrev text403 : Bytes
text403 = (codes "GET http://h/199 HTTP/1.1\r\n\r\n")

abbrev text404 : Bytes
text404 = (codes "GET /199 HTTP/1.1\r\nhost: h\r\nvia: 1.1 polipo\r\n\r\n")

abbrev text405 : Bytes
text405 = (codes "GET http://h/200 HTTP/1.1\r\n\r\n")

abbrev text406 : Bytes
text406 = (codes "GET /200 HTTP/1.1\r\nhost: h\r\nvia: 1.1 polipo\r\n\r\n")

abbrev text407 : Bytes
text407 = (codes "GET http://h/201 HTTP/1.1\r\n\r\n")

abbrev text408 : Bytes
text408 = (codes "GET /201 HTTP/1.1\r\nhost: h\r\nvia: 1.1 polipo\r\n\r\n")

abbrev text409 : Bytes
text409 = (codes "GET http://h/202 HTTP/1.1\r\n\r\n")

abbrev text410 : Bytes
text410 = (codes "GET /202 HTTP/1.1\r\nhost: h\r\nvia: 1.1 polipo\r\n\r\n")

abbrev text411 : Bytes
text411 = (codes "GET http://h/203 HTTP/1.1\r\n\r\n")

abbrev text412 : Bytes
text412 = (codes "GET /203 HTTP/1.1\r\nhost: h\r\nvia: 1.1 polipo\r\n\r\n")

abbrev text413 : Bytes
text413 = (codes "GET http://h/204 HTTP/1.1\r\n\r\n")

abbrev text414 : Bytes
text414 = (codes "GET /204 HTTP/1.1\r\nhost: h\r\nvia: 1.1 polipo\r\n\r\n")

abbrev text415 : Bytes
text415 = (codes "GET http://h/205 HTTP/1.1\r\n\r\n")

abbrev text416 : Bytes
text416 = (codes "GET /205 HTTP/1.1\r\nhost: h\r\nvia: 1.1 polipo\r\n\r\n")

abbrev text417 : Bytes
text417 = (codes "GET http://h/206 HTTP/1.1\r\n\r\n")

abbrev text418 : Bytes
text418 = (codes "GET /206 HTTP/1.1\r\nhost: h\r\nvia: 1.1 polipo\r\n\r\n")

abbrev text419 : Bytes
text419 = (codes "GET http://h/207 HTTP/1.1\r\n\r\n")

abbrev text420 : Bytes
text420 = (codes "GET /207 HTTP/1.1\r\nhost: h\r\nvia: 1.1 polipo\r\n\r\n")

abbrev text421 : Bytes
text421 = (codes "GET http://h/208 HTTP/1.1\r\n\r\n")

abbrev text422 : Bytes
text422 = (codes "GET /208 HTTP/1.1\r\nhost: h\r\nvia: 1.1 polipo\r\n\r\n")

abbrev text423 : Bytes
text423 = (codes "GET http://h/209 HTTP/1.1\r\n\r\n")

abbrev text424 : Bytes
text424 = (codes "GET /209 HTTP/1.1\r\nhost: h\r\nvia: 1.1 polipo\r\n\r\n")

abbrev text425 : Bytes
text425 = (codes "GET http://h/210 HTTP/1.1\r\n\r\n")

abbrev text426 : Bytes
text426 = (codes "GET /210 HTTP/1.1\r\nhost: h\r\nvia: 1.1 polipo\r\n\r\n")

abbrev text427 : Bytes
text427 = (codes "GET http://h/211 HTTP/1.1\r\n\r\n")

abbrev text428 : Bytes
text428 = (codes "GET /211 HTTP/1.1\r\nhost: h\r\nvia: 1.1 polipo\r\n\r\n")

abbrev text429 : Bytes
text429 = (codes "GET http://h/212 HTTP/1.1\r\n\r\n")

abbrev text430 : Bytes
text430 = (codes "GET /212 HTTP/1.1\r\nhost: h\r\nvia: 1.1 polipo\r\n\r\n")

abbrev text431 : Bytes
text431 = (codes "GET http://h/213 HTTP/1.1\r\n\r\n")

abbrev text432 : Bytes
text432 = (codes "GET /213 HTTP/1.1\r\nhost: h\r\nvia: 1.1 polipo\r\n\r\n")

abbrev text433 : Bytes
text433 = (codes "GET http://h/214 HTTP/1.1\r\n\r\n")

abbrev text434 : Bytes
text434 = (codes "GET /214 HTTP/1.1\r\nhost: h\r\nvia: 1.1 polipo\r\n\r\n")

abbrev text435 : Bytes
text435 = (codes "GET http://h/215 HTTP/1.1\r\n\r\n")

abbrev text436 : Bytes
text436 = (codes "GET /215 HTTP/1.1\r\nhost: h\r\nvia: 1.1 polipo\r\n\r\n")

abbrev text437 : Bytes
text437 = (codes "GET http://h/216 HTTP/1.1\r\n\r\n")

abbrev text438 : Bytes
text438 = (codes "GET /216 HTTP/1.1\r\nhost: h\r\nvia: 1.1 polipo\r\n\r\n")

abbrev text439 : Bytes
text439 = (codes "GET http://h/217 HTTP/1.1\r\n\r\n")

abbrev text440 : Bytes
text440 = (codes "GET /217 HTTP/1.1\r\nhost: h\r\nvia: 1.1 polipo\r\n\r\n")

abbrev text441 : Bytes
text441 = (codes "GET http://h/218 HTTP/1.1\r\n\r\n")

abbrev text442 : Bytes
text442 = (codes "GET /218 HTTP/1.1\r\nhost: h\r\nvia: 1.1 polipo\r\n\r\n")

abbrev text443 : Bytes
text443 = (codes "GET http://h/219 HTTP/1.1\r\n\r\n")

abbrev text444 : Bytes
text444 = (codes "GET /219 HTTP/1.1\r\nhost: h\r\nvia: 1.1 polipo\r\n\r\n")

abbrev text445 : Bytes
text445 = (codes "GET http://h/220 HTTP/1.1\r\n\r\n")

abbrev text446 : Bytes
text446 = (codes "GET /220 HTTP/1.1\r\nhost: h\r\nvia: 1.1 polipo\r\n\r\n")

abbrev text447 : Bytes
text447 = (codes "GET http://h/221 HTTP/1.1\r\n\r\n")

abbrev text448 : Bytes
text448 = (codes "GET /221 HTTP/1.1\r\nhost: h\r\nvia: 1.1 polipo\r\n\r\n")

abbrev text449 : Bytes
text449 = (codes "GET http://h/222 HTTP/1.1\r\n\r\n")

abbrev text450 : Bytes
text450 = (codes "GET /222 HTTP/1.1\r\nhost: h\r\nvia: 1.1 polipo\r\n\r\n")

abbrev text451 : Bytes
text451 = (codes "GET http://h/223 HTTP/1.1\r\n\r\n")

abbrev text452 : Bytes
text452 = (codes "GET /223 HTTP/1.1\r\nhost: h\r\nvia: 1.1 polipo\r\n\r\n")

abbrev text453 : Bytes
text453 = (codes "GET http://h/224 HTTP/1.1\r\n\r\n")

abbrev text454 : Bytes
text454 = (codes "GET /224 HTTP/1.1\r\nhost: h\r\nvia: 1.1 polipo\r\n\r\n")

abbrev text455 : Bytes
text455 = (codes "GET http://h/225 HTTP/1.1\r\n\r\n")

abbrev text456 : Bytes
text456 = (codes "GET /225 HTTP/1.1\r\nhost: h\r\nvia: 1.1 polipo\r\n\r\n")

abbrev text457 : Bytes
text457 = (codes "GET http://h/226 HTTP/1.1\r\n\r\n")

abbrev text458 : Bytes
text458 = (codes "GET /226 HTTP/1.1\r\nhost: h\r\nvia: 1.1 polipo\r\n\r\n")

abbrev text459 : Bytes
text459 = (codes "GET http://h/227 HTTP/1.1\r\n\r\n")

abbrev text460 : Bytes
text460 = (codes "GET /227 HTTP/1.1\r\nhost: h\r\nvia: 1.1 polipo\r\n\r\n")

abbrev text461 : Bytes
text461 = (codes "GET http://h/228 HTTP/1.1\r\n\r\n")

abbrev text462 : Bytes
text462 = (codes "GET /228 HTTP/1.1\r\nhost: h\r\nvia: 1.1 polipo\r\n\r\n")

abbrev text463 : Bytes
text463 = (codes "GET http://h/229 HTTP/1.1\r\n\r\n")

abbrev text464 : Bytes
text464 = (codes "GET /229 HTTP/1.1\r\nhost: h\r\nvia: 1.1 polipo\r\n\r\n")

abbrev text465 : Bytes
text465 = (codes "GET http://h/230 HTTP/1.1\r\n\r\n")

abbrev text466 : Bytes
text466 = (codes "GET /230 HTTP/1.1\r\nhost: h\r\nvia: 1.1 polipo\r\n\r\n")

abbrev text467 : Bytes
text467 = (codes "GET http://h/231 HTTP/1.1\r\n\r\n")

abbrev text468 : Bytes
text468 = (codes "GET /231 HTTP/1.1\r\nhost: h\r\nvia: 1.1 polipo\r\n\r\n")

abbrev text469 : Bytes
text469 = (codes "GET http://h/232 HTTP/1.1\r\n\r\n")

abbrev text470 : Bytes
text470 = (codes "GET /232 HTTP/1.1\r\nhost: h\r\nvia: 1.1 polipo\r\n\r\n")

abbrev text471 : Bytes
text471 = (codes "GET http://h/233 HTTP/1.1\r\n\r\n")

abbrev text472 : Bytes
text472 = (codes "GET /233 HTTP/1.1\r\nhost: h\r\nvia: 1.1 polipo\r\n\r\n")

abbrev text473 : Bytes
text473 = (codes "GET http://h/234 HTTP/1.1\r\n\r\n")

abbrev text474 : Bytes
text474 = (codes "GET /234 HTTP/1.1\r\nhost: h\r\nvia: 1.1 polipo\r\n\r\n")

abbrev text475 : Bytes
text475 = (codes "GET http://h/235 HTTP/1.1\r\n\r\n")

abbrev text476 : Bytes
text476 = (codes "GET /235 HTTP/1.1\r\nhost: h\r\nvia: 1.1 polipo\r\n\r\n")

abbrev text477 : Bytes
text477 = (codes "GET http://h/236 HTTP/1.1\r\n\r\n")

abbrev text478 : Bytes
text478 = (codes "GET /236 HTTP/1.1\r\nhost: h\r\nvia: 1.1 polipo\r\n\r\n")

abbrev text479 : Bytes
text479 = (codes "GET http://h/237 HTTP/1.1\r\n\r\n")

abbrev text480 : Bytes
text480 = (codes "GET /237 HTTP/1.1\r\nhost: h\r\nvia: 1.1 polipo\r\n\r\n")

abbrev text481 : Bytes
text481 = (codes "GET http://h/238 HTTP/1.1\r\n\r\n")

abbrev text482 : Bytes
text482 = (codes "GET /238 HTTP/1.1\r\nhost: h\r\nvia: 1.1 polipo\r\n\r\n")

abbrev text483 : Bytes
text483 = (codes "GET http://h/239 HTTP/1.1\r\n\r\n")

abbrev text484 : Bytes
text484 = (codes "GET /239 HTTP/1.1\r\nhost: h\r\nvia: 1.1 polipo\r\n\r\n")

abbrev text485 : Bytes
text485 = (codes "GET http://h/240 HTTP/1.1\r\n\r\n")

abbrev text486 : Bytes
text486 = (codes "GET /240 HTTP/1.1\r\nhost: h\r\nvia: 1.1 polipo\r\n\r\n")

abbrev text487 : Bytes
text487 = (codes "GET http://h/241 HTTP/1.1\r\n\r\n")

abbrev text488 : Bytes
text488 = (codes "GET /241 HTTP/1.1\r\nhost: h\r\nvia: 1.1 polipo\r\n\r\n")

abbrev text489 : Bytes
text489 = (codes "GET http://h/242 HTTP/1.1\r\n\r\n")

abbrev text490 : Bytes
text490 = (codes "GET /242 HTTP/1.1\r\nhost: h\r\nvia: 1.1 polipo\r\n\r\n")

abbrev text491 : Bytes
text491 = (codes "GET http://h/243 HTTP/1.1\r\n\r\n")

abbrev text492 : Bytes
text492 = (codes "GET /243 HTTP/1.1\r\nhost: h\r\nvia: 1.1 polipo\r\n\r\n")

abbrev text493 : Bytes
text493 = (codes "GET http://h/244 HTTP/1.1\r\n\r\n")

abbrev text494 : Bytes
text494 = (codes "GET /244 HTTP/1.1\r\nhost: h\r\nvia: 1.1 polipo\r\n\r\n")

abbrev text495 : Bytes
text495 = (codes "GET http://h/245 HTTP/1.1\r\n\r\n")

abbrev text496 : Bytes
text496 = (codes "GET /245 HTTP/1.1\r\nhost: h\r\nvia: 1.1 polipo\r\n\r\n")

abbrev text497 : Bytes
text497 = (codes "GET http://h/246 HTTP/1.1\r\n\r\n")

abbrev text498 : Bytes
text498 = (codes "GET /246 HTTP/1.1\r\nhost: h\r\nvia: 1.1 polipo\r\n\r\n")

abbrev text499 : Bytes
text499 = (codes "GET http://h/247 HTTP/1.1\r\n\r\n")

abbrev text500 : Bytes
text500 = (codes "GET /247 HTTP/1.1\r\nhost: h\r\nvia: 1.1 polipo\r\n\r\n")

abbrev text501 : Bytes
text501 = (codes "GET http://h/248 HTTP/1.1\r\n\r\n")

abbrev text502 : Bytes
text502 = (codes "GET /248 HTTP/1.1\r\nhost: h\r\nvia: 1.1 polipo\r\n\r\n")

abbrev text503 : Bytes
text503 = (codes "GET http://h/249 HTTP/1.1\r\n\r\n")

abbrev text504 : Bytes
text504 = (codes "GET /249 HTTP/1.1\r\nhost: h\r\nvia: 1.1 polipo\r\n\r\n")

abbrev text505 : Bytes
text505 = (codes "GET http://h/250 HTTP/1.1\r\n\r\n")

abbrev text506 : Bytes
text506 = (codes "GET /250 HTTP/1.1\r\nhost: h\r\nvia: 1.1 polipo\r\n\r\n")

abbrev text507 : Bytes
text507 = (codes "GET http://h/251 HTTP/1.1\r\n\r\n")

abbrev text508 : Bytes
text508 = (codes "GET /251 HTTP/1.1\r\nhost: h\r\nvia: 1.1 polipo\r\n\r\n")

abbrev text509 : Bytes
text509 = (codes "GET http://h/252 HTTP/1.1\r\n\r\n")

abbrev text510 : Bytes
text510 = (codes "GET /252 HTTP/1.1\r\nhost: h\r\nvia: 1.1 polipo\r\n\r\n")

abbrev text511 : Bytes
text511 = (codes "GET http://h/253 HTTP/1.1\r\n\r\n")

abbrev text512 : Bytes
text512 = (codes "GET /253 HTTP/1.1\r\nhost: h\r\nvia: 1.1 polipo\r\n\r\n")

abbrev text513 : Bytes
text513 = (codes "GET http://h/254 HTTP/1.1\r\n\r\n")

abbrev text514 : Bytes
text514 = (codes "GET /254 HTTP/1.1\r\nhost: h\r\nvia: 1.1 polipo\r\n\r\n")

abbrev text515 : Bytes
text515 = (codes "GET http://h/255 HTTP/1.1\r\n\r\n")

abbrev text516 : Bytes
text516 = (codes "GET /255 HTTP/1.1\r\nhost: h\r\nvia: 1.1 polipo\r\n\r\n")

abbrev text517 : Bytes
text517 = (codes "GET http://h/256 HTTP/1.1\r\n\r\n")

abbrev text518 : Bytes
text518 = (codes "GET /256 HTTP/1.1\r\nhost: h\r\nvia: 1.1 polipo\r\n\r\n")

abbrev text519 : Bytes
text519 = (codes "GET http://h/257 HTTP/1.1\r\n\r\n")

abbrev text520 : Bytes
text520 = (codes "GET /257 HTTP/1.1\r\nhost: h\r\nvia: 1.1 polipo\r\n\r\n")

abbrev text521 : Bytes
text521 = (codes "GET http://h/258 HTTP/1.1\r\n\r\n")

abbrev text522 : Bytes
text522 = (codes "GET /258 HTTP/1.1\r\nhost: h\r\nvia: 1.1 polipo\r\n\r\n")

abbrev text523 : Bytes
text523 = (codes "GET http://h/259 HTTP/1.1\r\n\r\n")

abbrev text524 : Bytes
text524 = (codes "GET /259 HTTP/1.1\r\nhost: h\r\nvia: 1.1 polipo\r\n\r\n")

abbrev text525 : Bytes
text525 = (codes "GET http://h/260 HTTP/1.1\r\n\r\n")

abbrev text526 : Bytes
text526 = (codes "GET /260 HTTP/1.1\r\nhost: h\r\nvia: 1.1 polipo\r\n\r\n")

abbrev text527 : Bytes
text527 = (codes "GET http://h/261 HTTP/1.1\r\n\r\n")

abbrev text528 : Bytes
text528 = (codes "GET /261 HTTP/1.1\r\nhost: h\r\nvia: 1.1 polipo\r\n\r\n")

abbrev text529 : Bytes
text529 = (codes "GET http://h/262 HTTP/1.1\r\n\r\n")

abbrev text530 : Bytes
text530 = (codes "GET /262 HTTP/1.1\r\nhost: h\r\nvia: 1.1 polipo\r\n\r\n")

abbrev text531 : Bytes
text531 = (codes "GET http://h/263 HTTP/1.1\r\n\r\n")

abbrev text532 : Bytes
text532 = (codes "GET /263 HTTP/1.1\r\nhost: h\r\nvia: 1.1 polipo\r\n\r\n")

abbrev text533 : Bytes
text533 = (codes "GET http://h/264 HTTP/1.1\r\n\r\n")

abbrev text534 : Bytes
text534 = (codes "GET /264 HTTP/1.1\r\nhost: h\r\nvia: 1.1 polipo\r\n\r\n")

abbrev text535 : Bytes
text535 = (codes "GET http://h/265 HTTP/1.1\r\n\r\n")

abbrev text536 : Bytes
text536 = (codes "GET /265 HTTP/1.1\r\nhost: h\r\nvia: 1.1 polipo\r\n\r\n")

abbrev text537 : Bytes
text537 = (codes "GET http://h/266 HTTP/1.1\r\n\r\n")

abbrev text538 : Bytes
text538 = (codes "GET /266 HTTP/1.1\r\nhost: h\r\nvia: 1.1 polipo\r\n\r\n")

abbrev text539 : Bytes
text539 = (codes "GET http://h/267 HTTP/1.1\r\n\r\n")

abbrev text540 : Bytes
text540 = (codes "GET /267 HTTP/1.1\r\nhost: h\r\nvia: 1.1 polipo\r\n\r\n")

abbrev text541 : Bytes
text541 = (codes "GET http://h/268 HTTP/1.1\r\n\r\n")

abbrev text542 : Bytes
text542 = (codes "GET /268 HTTP/1.1\r\nhost: h\r\nvia: 1.1 polipo\r\n\r\n")

abbrev text543 : Bytes
text543 = (codes "GET http://h/269 HTTP/1.1\r\n\r\n")

abbrev text544 : Bytes
text544 = (codes "GET /269 HTTP/1.1\r\nhost: h\r\nvia: 1.1 polipo\r\n\r\n")

abbrev text545 : Bytes
text545 = (codes "GET http://h/270 HTTP/1.1\r\n\r\n")

abbrev text546 : Bytes
text546 = (codes "GET /270 HTTP/1.1\r\nhost: h\r\nvia: 1.1 polipo\r\n\r\n")

abbrev text547 : Bytes
text547 = (codes "GET http://h/271 HTTP/1.1\r\n\r\n")

abbrev text548 : Bytes
text548 = (codes "GET /271 HTTP/1.1\r\nhost: h\r\nvia: 1.1 polipo\r\n\r\n")

abbrev text549 : Bytes
text549 = (codes "GET http://h/272 HTTP/1.1\r\n\r\n")

abbrev text550 : Bytes
text550 = (codes "GET /272 HTTP/1.1\r\nhost: h\r\nvia: 1.1 polipo\r\n\r\n")

abbrev text551 : Bytes
text551 = (codes "GET http://h/273 HTTP/1.1\r\n\r\n")

abbrev text552 : Bytes
text552 = (codes "GET /273 HTTP/1.1\r\nhost: h\r\nvia: 1.1 polipo\r\n\r\n")

abbrev text553 : Bytes
text553 = (codes "GET http://h/274 HTTP/1.1\r\n\r\n")

abbrev text554 : Bytes
text554 = (codes "GET /274 HTTP/1.1\r\nhost: h\r\nvia: 1.1 polipo\r\n\r\n")

abbrev text555 : Bytes
text555 = (codes "GET http://h/275 HTTP/1.1\r\n\r\n")

abbrev text556 : Bytes
text556 = (codes "GET /275 HTTP/1.1\r\nhost: h\r\nvia: 1.1 polipo\r\n\r\n")

abbrev text557 : Bytes
text557 = (codes "GET http://h/276 HTTP/1.1\r\n\r\n")

abbrev text558 : Bytes
text558 = (codes "GET /276 HTTP/1.1\r\nhost: h\r\nvia: 1.1 polipo\r\n\r\n")

abbrev text559 : Bytes
text559 = (codes "GET http://h/277 HTTP/1.1\r\n\r\n")

abbrev text560 : Bytes
text560 = (codes "GET /277 HTTP/1.1\r\nhost: h\r\nvia: 1.1 polipo\r\n\r\n")

abbrev text561 : Bytes
text561 = (codes "GET http://h/278 HTTP/1.1\r\n\r\n")

abbrev text562 : Bytes
text562 = (codes "GET /278 HTTP/1.1\r\nhost: h\r\nvia: 1.1 polipo\r\n\r\n")

abbrev text563 : Bytes
text563 = (codes "GET http://h/279 HTTP/1.1\r\n\r\n")

abbrev text564 : Bytes
text564 = (codes "GET /279 HTTP/1.1\r\nhost: h\r\nvia: 1.1 polipo\r\n\r\n")

abbrev text565 : Bytes
text565 = (codes "GET http://h/280 HTTP/1.1\r\n\r\n")

abbrev text566 : Bytes
text566 = (codes "GET /280 HTTP/1.1\r\nhost: h\r\nvia: 1.1 polipo\r\n\r\n")

abbrev text567 : Bytes
text567 = (codes "GET http://h/281 HTTP/1.1\r\n\r\n")

abbrev text568 : Bytes
text568 = (codes "GET /281 HTTP/1.1\r\nhost: h\r\nvia: 1.1 polipo\r\n\r\n")

abbrev text569 : Bytes
text569 = (codes "GET http://h/282 HTTP/1.1\r\n\r\n")

abbrev text570 : Bytes
text570 = (codes "GET /282 HTTP/1.1\r\nhost: h\r\nvia: 1.1 polipo\r\n\r\n")

abbrev text571 : Bytes
text571 = (codes "GET http://h/283 HTTP/1.1\r\n\r\n")

abbrev text572 : Bytes
text572 = (codes "GET /283 HTTP/1.1\r\nhost: h\r\nvia: 1.1 polipo\r\n\r\n")

abbrev text573 : Bytes
text573 = (codes "GET http://h/284 HTTP/1.1\r\n\r\n")

abbrev text574 : Bytes
text574 = (codes "GET /284 HTTP/1.1\r\nhost: h\r\nvia: 1.1 polipo\r\n\r\n")

abbrev text575 : Bytes
text575 = (codes "GET http://h/285 HTTP/1.1\r\n\r\n")

abbrev text576 : Bytes
text576 = (codes "GET /285 HTTP/1.1\r\nhost: h\r\nvia: 1.1 polipo\r\n\r\n")

abbrev text577 : Bytes
text577 = (codes "GET http://h/286 HTTP/1.1\r\n\r\n")

abbrev text578 : Bytes
text578 = (codes "GET /286 HTTP/1.1\r\nhost: h\r\nvia: 1.1 polipo\r\n\r\n")

abbrev text579 : Bytes
text579 = (codes "GET http://h/287 HTTP/1.1\r\n\r\n")

abbrev text580 : Bytes
text580 = (codes "GET /287 HTTP/1.1\r\nhost: h\r\nvia: 1.1 polipo\r\n\r\n")

abbrev text581 : Bytes
text581 = (codes "GET http://h/288 HTTP/1.1\r\n\r\n")

abbrev text582 : Bytes
text582 = (codes "GET /288 HTTP/1.1\r\nhost: h\r\nvia: 1.1 polipo\r\n\r\n")

abbrev text583 : Bytes
text583 = (codes "GET http://h/289 HTTP/1.1\r\n\r\n")

abbrev text584 : Bytes
text584 = (codes "GET /289 HTTP/1.1\r\nhost: h\r\nvia: 1.1 polipo\r\n\r\n")

abbrev text585 : Bytes
text585 = (codes "GET http://h/290 HTTP/1.1\r\n\r\n")

abbrev text586 : Bytes
text586 = (codes "GET /290 HTTP/1.1\r\nhost: h\r\nvia: 1.1 polipo\r\n\r\n")

abbrev text587 : Bytes
text587 = (codes "GET http://h/291 HTTP/1.1\r\n\r\n")

abbrev text588 : Bytes
text588 = (codes "GET /291 HTTP/1.1\r\nhost: h\r\nvia: 1.1 polipo\r\n\r\n")

abbrev text589 : Bytes
text589 = (codes "GET http://h/292 HTTP/1.1\r\n\r\n")

abbrev text590 : Bytes
text590 = (codes "GET /292 HTTP/1.1\r\nhost: h\r\nvia: 1.1 polipo\r\n\r\n")

abbrev text591 : Bytes
text591 = (codes "GET http://h/293 HTTP/1.1\r\n\r\n")

abbrev text592 : Bytes
text592 = (codes "GET /293 HTTP/1.1\r\nhost: h\r\nvia: 1.1 polipo\r\n\r\n")

abbrev text593 : Bytes
text593 = (codes "GET http://h/294 HTTP/1.1\r\n\r\n")

abbrev text594 : Bytes
text594 = (codes "GET /294 HTTP/1.1\r\nhost: h\r\nvia: 1.1 polipo\r\n\r\n")

abbrev text595 : Bytes
text595 = (codes "GET http://h/295 HTTP/1.1\r\n\r\n")

abbrev text596 : Bytes
text596 = (codes "GET /295 HTTP/1.1\r\nhost: h\r\nvia: 1.1 polipo\r\n\r\n")

abbrev text597 : Bytes
text597 = (codes "GET http://h/296 HTTP/1.1\r\n\r\n")

abbrev text598 : Bytes
text598 = (codes "GET /296 HTTP/1.1\r\nhost: h\r\nvia: 1.1 polipo\r\n\r\n")

abbrev text599 : Bytes
text599 = (codes "GET http://h/297 HTTP/1.1\r\n\r\n")

abbrev text600 : Bytes
text600 = (codes "GET /297 HTTP/1.1\r\nhost: h\r\nvia: 1.1 polipo\r\n\r\n")

abbrev text601 : Bytes
text601 = (codes "GET http://h/298 HTTP/1.1\r\n\r\n")

abbrev text602 : Bytes
text602 = (codes "GET /298 HTTP/1.1\r\nhost: h\r\nvia: 1.1 polipo\r\n\r\n")

abbrev text603 : Bytes
text603 = (codes "GET http://h/299 HTTP/1.1\r\n\r\n")

abbrev text604 : Bytes
text604 = (codes "GET /299 HTTP/1.1\r\nhost: h\r\nvia: 1.1 polipo\r\n\r\n")

abbrev text605 : Bytes
text605 = (codes "GET http://h/300 HTTP/1.1\r\n\r\n")

abbrev text606 : Bytes
text606 = (codes "GET /300 HTTP/1.1\r\nhost: h\r\nvia: 1.1 polipo\r\n\r\n")

abbrev text607 : Bytes
text607 = (codes "GET http://h/301 HTTP/1.1\r\n\r\n")

abbrev text608 : Bytes
text608 = (codes "GET /301 HTTP/1.1\r\nhost: h\r\nvia: 1.1 polipo\r\n\r\n")

abbrev text609 : Bytes
text609 = (codes "GET http://h/302 HTTP/1.1\r\n\r\n")

abbrev text610 : Bytes
text610 = (codes "GET /302 HTTP/1.1\r\nhost: h\r\nvia: 1.1 polipo\r\n\r\n")

abbrev text611 : Bytes
text611 = (codes "GET http://h/303 HTTP/1.1\r\n\r\n")

abbrev text612 : Bytes
text612 = (codes "GET /303 HTTP/1.1\r\nhost: h\r\nvia: 1.1 polipo\r\n\r\n")

abbrev text613 : Bytes
text613 = (codes "GET http://h/304 HTTP/1.1\r\n\r\n")

abbrev text614 : Bytes
text614 = (codes "GET /304 HTTP/1.1\r\nhost: h\r\nvia: 1.1 polipo\r\n\r\n")

abbrev text615 : Bytes
text615 = (codes "GET http://h/305 HTTP/1.1\r\n\r\n")

abbrev text616 : Bytes
text616 = (codes "GET /305 HTTP/1.1\r\nhost: h\r\nvia: 1.1 polipo\r\n\r\n")

abbrev text617 : Bytes
text617 = (codes "GET http://h/306 HTTP/1.1\r\n\r\n")

abbrev text618 : Bytes
text618 = (codes "GET /306 HTTP/1.1\r\nhost: h\r\nvia: 1.1 polipo\r\n\r\n")

abbrev text619 : Bytes
text619 = (codes "GET http://h/307 HTTP/1.1\r\n\r\n")

abbrev text620 : Bytes
text620 = (codes "GET /307 HTTP/1.1\r\nhost: h\r\nvia: 1.1 polipo\r\n\r\n")

abbrev text621 : Bytes
text621 = (codes "GET http://h/308 HTTP/1.1\r\n\r\n")

abbrev text622 : Bytes
text622 = (codes "GET /308 HTTP/1.1\r\nhost: h\r\nvia: 1.1 polipo\r\n\r\n")

abbrev text623 : Bytes
text623 = (codes "GET http://h/309 HTTP/1.1\r\n\r\n")

abbrev text624 : Bytes
text624 = (codes "GET /309 HTTP/1.1\r\nhost: h\r\nvia: 1.1 polipo\r\n\r\n")

abbrev text625 : Bytes
text625 = (codes "GET http://h/310 HTTP/1.1\r\n\r\n")

abbrev text626 : Bytes
text626 = (codes "GET /310 HTTP/1.1\r\nhost: h\r\nvia: 1.1 polipo\r\n\r\n")

abbrev text627 : Bytes
text627 = (codes "GET http://h/311 HTTP/1.1\r\n\r\n")

abbrev text628 : Bytes
text628 = (codes "GET /311 HTTP/1.1\r\nhost: h\r\nvia: 1.1 polipo\r\n\r\n")

abbrev text629 : Bytes
text629 = (codes "GET http://h/312 HTTP/1.1\r\n\r\n")

abbrev text630 : Bytes
text630 = (codes "GET /312 HTTP/1.1\r\nhost: h\r\nvia: 1.1 polipo\r\n\r\n")

abbrev text631 : Bytes
text631 = (codes "GET http://h/313 HTTP/1.1\r\n\r\n")

abbrev text632 : Bytes
text632 = (codes "GET /313 HTTP/1.1\r\nhost: h\r\nvia: 1.1 polipo\r\n\r\n")

abbrev text633 : Bytes
text633 = (codes "GET http://h/314 HTTP/1.1\r\n\r\n")

abbrev text634 : Bytes
text634 = (codes "GET /314 HTTP/1.1\r\nhost: h\r\nvia: 1.1 polipo\r\n\r\n")

abbrev text635 : Bytes
text635 = (codes "GET http://h/315 HTTP/1.1\r\n\r\n")

abbrev text636 : Bytes
text636 = (codes "GET /315 HTTP/1.1\r\nhost: h\r\nvia: 1.1 polipo\r\n\r\n")

abbrev text637 : Bytes
text637 = (codes "GET http://h/316 HTTP/1.1\r\n\r\n")

abbrev text638 : Bytes
text638 = (codes "GET /316 HTTP/1.1\r\nhost: h\r\nvia: 1.1 polipo\r\n\r\n")

abbrev text639 : Bytes
text639 = (codes "GET http://h/317 HTTP/1.1\r\n\r\n")

abbrev text640 : Bytes
text640 = (codes "GET /317 HTTP/1.1\r\nhost: h\r\nvia: 1.1 polipo\r\n\r\n")

abbrev text641 : Bytes
text641 = (codes "GET http://h/318 HTTP/1.1\r\n\r\n")

abbrev text642 : Bytes
text642 = (codes "GET /318 HTTP/1.1\r\nhost: h\r\nvia: 1.1 polipo\r\n\r\n")

abbrev text643 : Bytes
text643 = (codes "GET http://h/319 HTTP/1.1\r\n\r\n")

abbrev text644 : Bytes
text644 = (codes "GET /319 HTTP/1.1\r\nhost: h\r\nvia: 1.1 polipo\r\n\r\n")

abbrev text645 : Bytes
text645 = (codes "GET http://h/320 HTTP/1.1\r\n\r\n")

abbrev text646 : Bytes
text646 = (codes "GET /320 HTTP/1.1\r\nhost: h\r\nvia: 1.1 polipo\r\n\r\n")

abbrev text647 : Bytes
text647 = (codes "GET http://h/321 HTTP/1.1\r\n\r\n")

abbrev text648 : Bytes
text648 = (codes "GET /321 HTTP/1.1\r\nhost: h\r\nvia: 1.1 polipo\r\n\r\n")

abbrev text649 : Bytes
text649 = (codes "GET http://h/322 HTTP/1.1\r\n\r\n")

abbrev text650 : Bytes
text650 = (codes "GET /322 HTTP/1.1\r\nhost: h\r\nvia: 1.1 polipo\r\n\r\n")

abbrev text651 : Bytes
text651 = (codes "GET http://h/323 HTTP/1.1\r\n\r\n")

abbrev text652 : Bytes
text652 = (codes "GET /323 HTTP/1.1\r\nhost: h\r\nvia: 1.1 polipo\r\n\r\n")

abbrev text653 : Bytes
text653 = (codes "GET http://h/324 HTTP/1.1\r\n\r\n")

abbrev text654 : Bytes
text654 = (codes "GET /324 HTTP/1.1\r\nhost: h\r\nvia: 1.1 polipo\r\n\r\n")

abbrev text655 : Bytes
text655 = (codes "GET http://h/325 HTTP/1.1\r\n\r\n")

abbrev text656 : Bytes
text656 = (codes "GET /325 HTTP/1.1\r\nhost: h\r\nvia: 1.1 polipo\r\n\r\n")

abbrev text657 : Bytes
text657 = (codes "GET http://h/326 HTTP/1.1\r\n\r\n")

abbrev text658 : Bytes
text658 = (codes "GET /326 HTTP/1.1\r\nhost: h\r\nvia: 1.1 polipo\r\n\r\n")

abbrev text659 : Bytes
text659 = (codes "GET http://h/327 HTTP/1.1\r\n\r\n")

abbrev text660 : Bytes
text660 = (codes "GET /327 HTTP/1.1\r\nhost: h\r\nvia: 1.1 polipo\r\n\r\n")

abbrev text661 : Bytes
text661 = (codes "GET http://h/328 HTTP/1.1\r\n\r\n")

abbrev text662 : Bytes
text662 = (codes "GET /328 HTTP/1.1\r\nhost: h\r\nvia: 1.1 polipo\r\n\r\n")

abbrev text663 : Bytes
text663 = (codes "GET http://h/329 HTTP/1.1\r\n\r\n")

abbrev text664 : Bytes
text664 = (codes "GET /329 HTTP/1.1\r\nhost: h\r\nvia: 1.1 polipo\r\n\r\n")

abbrev text665 : Bytes
text665 = (codes "GET http://h/330 HTTP/1.1\r\n\r\n")

abbrev text666 : Bytes
text666 = (codes "GET /330 HTTP/1.1\r\nhost: h\r\nvia: 1.1 polipo\r\n\r\n")

abbrev text667 : Bytes
text667 = (codes "GET http://h/331 HTTP/1.1\r\n\r\n")

abbrev text668 : Bytes
text668 = (codes "GET /331 HTTP/1.1\r\nhost: h\r\nvia: 1.1 polipo\r\n\r\n")

abbrev text669 : Bytes
text669 = (codes "GET http://h/332 HTTP/1.1\r\n\r\n")

abbrev text670 : Bytes
text670 = (codes "GET /332 HTTP/1.1\r\nhost: h\r\nvia: 1.1 polipo\r\n\r\n")

abbrev text671 : Bytes
text671 = (codes "GET http://h/333 HTTP/1.1\r\n\r\n")

abbrev text672 : Bytes
text672 = (codes "GET /333 HTTP/1.1\r\nhost: h\r\nvia: 1.1 polipo\r\n\r\n")

abbrev text673 : Bytes
text673 = (codes "GET http://h/334 HTTP/1.1\r\n\r\n")

abbrev text674 : Bytes
text674 = (codes "GET /334 HTTP/1.1\r\nhost: h\r\nvia: 1.1 polipo\r\n\r\n")

abbrev text675 : Bytes
text675 = (codes "GET http://h/335 HTTP/1.1\r\n\r\n")

abbrev text676 : Bytes
text676 = (codes "GET /335 HTTP/1.1\r\nhost: h\r\nvia: 1.1 polipo\r\n\r\n")

abbrev text677 : Bytes
text677 = (codes "GET http://h/336 HTTP/1.1\r\n\r\n")

abbrev text678 : Bytes
text678 = (codes "GET /336 HTTP/1.1\r\nhost: h\r\nvia: 1.1 polipo\r\n\r\n")

abbrev text679 : Bytes
text679 = (codes "GET http://h/337 HTTP/1.1\r\n\r\n")

abbrev text680 : Bytes
text680 = (codes "GET /337 HTTP/1.1\r\nhost: h\r\nvia: 1.1 polipo\r\n\r\n")

abbrev text681 : Bytes
text681 = (codes "GET http://h/338 HTTP/1.1\r\n\r\n")

abbrev text682 : Bytes
text682 = (codes "GET /338 HTTP/1.1\r\nhost: h\r\nvia: 1.1 polipo\r\n\r\n")

abbrev text683 : Bytes
text683 = (codes "GET http://h/339 HTTP/1.1\r\n\r\n")

abbrev text684 : Bytes
text684 = (codes "GET /339 HTTP/1.1\r\nhost: h\r\nvia: 1.1 polipo\r\n\r\n")

abbrev text685 : Bytes
text685 = (codes "GET http://h/340 HTTP/1.1\r\n\r\n")

abbrev text686 : Bytes
text686 = (codes "GET /340 HTTP/1.1\r\nhost: h\r\nvia: 1.1 polipo\r\n\r\n")

abbrev text687 : Bytes
text687 = (codes "GET http://h/341 HTTP/1.1\r\n\r\n")

abbrev text688 : Bytes
text688 = (codes "GET /341 HTTP/1.1\r\nhost: h\r\nvia: 1.1 polipo\r\n\r\n")

abbrev text689 : Bytes
text689 = (codes "GET http://h/342 HTTP/1.1\r\n\r\n")

abbrev text690 : Bytes
text690 = (codes "GET /342 HTTP/1.1\r\nhost: h\r\nvia: 1.1 polipo\r\n\r\n")

abbrev text691 : Bytes
text691 = (codes "GET http://h/343 HTTP/1.1\r\n\r\n")

abbrev text692 : Bytes
text692 = (codes "GET /343 HTTP/1.1\r\nhost: h\r\nvia: 1.1 polipo\r\n\r\n")

abbrev text693 : Bytes
text693 = (codes "GET http://h/344 HTTP/1.1\r\n\r\n")

abbrev text694 : Bytes
text694 = (codes "GET /344 HTTP/1.1\r\nhost: h\r\nvia: 1.1 polipo\r\n\r\n")

abbrev text695 : Bytes
text695 = (codes "GET http://h/345 HTTP/1.1\r\n\r\n")

abbrev text696 : Bytes
text696 = (codes "GET /345 HTTP/1.1\r\nhost: h\r\nvia: 1.1 polipo\r\n\r\n")

abbrev text697 : Bytes
text697 = (codes "GET http://h/346 HTTP/1.1\r\n\r\n")

abbrev text698 : Bytes
text698 = (codes "GET /346 HTTP/1.1\r\nhost: h\r\nvia: 1.1 polipo\r\n\r\n")

abbrev text699 : Bytes
text699 = (codes "GET http://h/347 HTTP/1.1\r\n\r\n")

abbrev text700 : Bytes
text700 = (codes "GET /347 HTTP/1.1\r\nhost: h\r\nvia: 1.1 polipo\r\n\r\n")

abbrev text701 : Bytes
text701 = (codes "GET http://h/348 HTTP/1.1\r\n\r\n")

abbrev text702 : Bytes
text702 = (codes "GET /348 HTTP/1.1\r\nhost: h\r\nvia: 1.1 polipo\r\n\r\n")

abbrev text703 : Bytes
text703 = (codes "GET http://h/349 HTTP/1.1\r\n\r\n")

abbrev text704 : Bytes
text704 = (codes "GET /349 HTTP/1.1\r\nhost: h\r\nvia: 1.1 polipo\r\n\r\n")

abbrev text705 : Bytes
text705 = (codes "GET http://h/350 HTTP/1.1\r\n\r\n")

abbrev text706 : Bytes
text706 = (codes "GET /350 HTTP/1.1\r\nhost: h\r\nvia: 1.1 polipo\r\n\r\n")

abbrev text707 : Bytes
text707 = (codes "GET http://h/351 HTTP/1.1\r\n\r\n")

abbrev text708 : Bytes
text708 = (codes "GET /351 HTTP/1.1\r\nhost: h\r\nvia: 1.1 polipo\r\n\r\n")

abbrev text709 : Bytes
text709 = (codes "GET http://h/352 HTTP/1.1\r\n\r\n")

abbrev text710 : Bytes
text710 = (codes "GET /352 HTTP/1.1\r\nhost: h\r\nvia: 1.1 polipo\r\n\r\n")

abbrev text711 : Bytes
text711 = (codes "GET http://h/353 HTTP/1.1\r\n\r\n")

abbrev text712 : Bytes
text712 = (codes "GET /353 HTTP/1.1\r\nhost: h\r\nvia: 1.1 polipo\r\n\r\n")

abbrev text713 : Bytes
text713 = (codes "GET http://h/354 HTTP/1.1\r\n\r\n")

abbrev text714 : Bytes
text714 = (codes "GET /354 HTTP/1.1\r\nhost: h\r\nvia: 1.1 polipo\r\n\r\n")

abbrev text715 : Bytes
text715 = (codes "GET http://h/355 HTTP/1.1\r\n\r\n")

abbrev text716 : Bytes
text716 = (codes "GET /355 HTTP/1.1\r\nhost: h\r\nvia: 1.1 polipo\r\n\r\n")

abbrev text717 : Bytes
text717 = (codes "GET http://h/356 HTTP/1.1\r\n\r\n")

abbrev text718 : Bytes
text718 = (codes "GET /356 HTTP/1.1\r\nhost: h\r\nvia: 1.1 polipo\r\n\r\n")

abbrev text719 : Bytes
text719 = (codes "GET http://h/357 HTTP/1.1\r\n\r\n")

abbrev text720 : Bytes
text720 = (codes "GET /357 HTTP/1.1\r\nhost: h\r\nvia: 1.1 polipo\r\n\r\n")

abbrev text721 : Bytes
text721 = (codes "GET http://h/358 HTTP/1.1\r\n\r\n")

abbrev text722 : Bytes
text722 = (codes "GET /358 HTTP/1.1\r\nhost: h\r\nvia: 1.1 polipo\r\n\r\n")

abbrev text723 : Bytes
text723 = (codes "GET http://h/359 HTTP/1.1\r\n\r\n")

abbrev text724 : Bytes
text724 = (codes "GET /359 HTTP/1.1\r\nhost: h\r\nvia: 1.1 polipo\r\n\r\n")

abbrev text725 : Bytes
text725 = (codes "GET http://h/360 HTTP/1.1\r\n\r\n")

abbrev text726 : Bytes
text726 = (codes "GET /360 HTTP/1.1\r\nhost: h\r\nvia: 1.1 polipo\r\n\r\n")

abbrev text727 : Bytes
text727 = (codes "GET http://h/361 HTTP/1.1\r\n\r\n")

abbrev text728 : Bytes
text728 = (codes "GET /361 HTTP/1.1\r\nhost: h\r\nvia: 1.1 polipo\r\n\r\n")

abbrev text729 : Bytes
text729 = (codes "GET http://h/362 HTTP/1.1\r\n\r\n")

abbrev text730 : Bytes
text730 = (codes "GET /362 HTTP/1.1\r\nhost: h\r\nvia: 1.1 polipo\r\n\r\n")

abbrev text731 : Bytes
text731 = (codes "GET http://h/363 HTTP/1.1\r\n\r\n")

abbrev text732 : Bytes
text732 = (codes "GET /363 HTTP/1.1\r\nhost: h\r\nvia: 1.1 polipo\r\n\r\n")

abbrev text733 : Bytes
text733 = (codes "GET http://h/364 HTTP/1.1\r\n\r\n")

abbrev text734 : Bytes
text734 = (codes "GET /364 HTTP/1.1\r\nhost: h\r\nvia: 1.1 polipo\r\n\r\n")

abbrev text735 : Bytes
text735 = (codes "GET http://h/365 HTTP/1.1\r\n\r\n")

abbrev text736 : Bytes
text736 = (codes "GET /365 HTTP/1.1\r\nhost: h\r\nvia: 1.1 polipo\r\n\r\n")

abbrev text737 : Bytes
text737 = (codes "GET http://h/366 HTTP/1.1\r\n\r\n")

abbrev text738 : Bytes
text738 = (codes "GET /366 HTTP/1.1\r\nhost: h\r\nvia: 1.1 polipo\r\n\r\n")

abbrev text739 : Bytes
text739 = (codes "GET http://h/367 HTTP/1.1\r\n\r\n")

abbrev text740 : Bytes
text740 = (codes "GET /367 HTTP/1.1\r\nhost: h\r\nvia: 1.1 polipo\r\n\r\n")

abbrev text741 : Bytes
text741 = (codes "GET http://h/368 HTTP/1.1\r\n\r\n")

abbrev text742 : Bytes
text742 = (codes "GET /368 HTTP/1.1\r\nhost: h\r\nvia: 1.1 polipo\r\n\r\n")

abbrev text743 : Bytes
text743 = (codes "GET http://h/369 HTTP/1.1\r\n\r\n")

abbrev text744 : Bytes
text744 = (codes "GET /369 HTTP/1.1\r\nhost: h\r\nvia: 1.1 polipo\r\n\r\n")

abbrev text745 : Bytes
text745 = (codes "GET http://h/370 HTTP/1.1\r\n\r\n")

abbrev text746 : Bytes
text746 = (codes "GET /370 HTTP/1.1\r\nhost: h\r\nvia: 1.1 polipo\r\n\r\n")

abbrev text747 : Bytes
text747 = (codes "GET http://h/371 HTTP/1.1\r\n\r\n")

abbrev text748 : Bytes
text748 = (codes "GET /371 HTTP/1.1\r\nhost: h\r\nvia: 1.1 polipo\r\n\r\n")

abbrev text749 : Bytes
text749 = (codes "GET http://h/372 HTTP/1.1\r\n\r\n")

abbrev text750 : Bytes
text750 = (codes "GET /372 HTTP/1.1\r\nhost: h\r\nvia: 1.1 polipo\r\n\r\n")

abbrev text751 : Bytes
text751 = (codes "GET http://h/373 HTTP/1.1\r\n\r\n")

abbrev text752 : Bytes
text752 = (codes "GET /373 HTTP/1.1\r\nhost: h\r\nvia: 1.1 polipo\r\n\r\n")

abbrev text753 : Bytes
text753 = (codes "GET http://h/374 HTTP/1.1\r\n\r\n")

abbrev text754 : Bytes
text754 = (codes "GET /374 HTTP/1.1\r\nhost: h\r\nvia: 1.1 polipo\r\n\r\n")

abbrev text755 : Bytes
text755 = (codes "GET http://h/375 HTTP/1.1\r\n\r\n")

abbrev text756 : Bytes
text756 = (codes "GET /375 HTTP/1.1\r\nhost: h\r\nvia: 1.1 polipo\r\n\r\n")

abbrev text757 : Bytes
text757 = (codes "GET http://h/376 HTTP/1.1\r\n\r\n")

abbrev text758 : Bytes
text758 = (codes "GET /376 HTTP/1.1\r\nhost: h\r\nvia: 1.1 polipo\r\n\r\n")

abbrev text759 : Bytes
text759 = (codes "GET http://h/377 HTTP/1.1\r\n\r\n")

abbrev text760 : Bytes
text760 = (codes "GET /377 HTTP/1.1\r\nhost: h\r\nvia: 1.1 polipo\r\n\r\n")

abbrev text761 : Bytes
text761 = (codes "GET http://h/378 HTTP/1.1\r\n\r\n")

abbrev text762 : Bytes
text762 = (codes "GET /378 HTTP/1.1\r\nhost: h\r\nvia: 1.1 polipo\r\n\r\n")

abbrev text763 : Bytes
text763 = (codes "GET http://h/379 HTTP/1.1\r\n\r\n")

abbrev text764 : Bytes
text764 = (codes "GET /379 HTTP/1.1\r\nhost: h\r\nvia: 1.1 polipo\r\n\r\n")

abbrev text765 : Bytes
text765 = (codes "GET http://h/380 HTTP/1.1\r\n\r\n")

abbrev text766 : Bytes
text766 = (codes "GET /380 HTTP/1.1\r\nhost: h\r\nvia: 1.1 polipo\r\n\r\n")

abbrev text767 : Bytes
text767 = (codes "GET http://h/381 HTTP/1.1\r\n\r\n")

abbrev text768 : Bytes
text768 = (codes "GET /381 HTTP/1.1\r\nhost: h\r\nvia: 1.1 polipo\r\n\r\n")

abbrev text769 : Bytes
text769 = (codes "GET http://h/382 HTTP/1.1\r\n\r\n")

abbrev text770 : Bytes
text770 = (codes "GET /382 HTTP/1.1\r\nhost: h\r\nvia: 1.1 polipo\r\n\r\n")

abbrev text771 : Bytes
text771 = (codes "GET http://h/383 HTTP/1.1\r\n\r\n")

abbrev text772 : Bytes
text772 = (codes "GET /383 HTTP/1.1\r\nhost: h\r\nvia: 1.1 polipo\r\n\r\n")

abbrev text773 : Bytes
text773 = (codes "GET http://h/384 HTTP/1.1\r\n\r\n")

abbrev text774 : Bytes
text774 = (codes "GET /384 HTTP/1.1\r\nhost: h\r\nvia: 1.1 polipo\r\n\r\n")

abbrev text775 : Bytes
text775 = (codes "GET http://h/385 HTTP/1.1\r\n\r\n")

abbrev text776 : Bytes
text776 = (codes "GET /385 HTTP/1.1\r\nhost: h\r\nvia: 1.1 polipo\r\n\r\n")

abbrev text777 : Bytes
text777 = (codes "GET http://h/386 HTTP/1.1\r\n\r\n")

abbrev text778 : Bytes
text778 = (codes "GET /386 HTTP/1.1\r\nhost: h\r\nvia: 1.1 polipo\r\n\r\n")

abbrev text779 : Bytes
text779 = (codes "GET http://h/387 HTTP/1.1\r\n\r\n")

abbrev text780 : Bytes
text780 = (codes "GET /387 HTTP/1.1\r\nhost: h\r\nvia: 1.1 polipo\r\n\r\n")

abbrev text781 : Bytes
text781 = (codes "GET http://h/388 HTTP/1.1\r\n\r\n")

abbrev text782 : Bytes
text782 = (codes "GET /388 HTTP/1.1\r\nhost: h\r\nvia: 1.1 polipo\r\n\r\n")

abbrev text783 : Bytes
text783 = (codes "GET http://h/389 HTTP/1.1\r\n\r\n")

abbrev text784 : Bytes
text784 = (codes "GET /389 HTTP/1.1\r\nhost: h\r\nvia: 1.1 polipo\r\n\r\n")

abbrev text785 : Bytes
text785 = (codes "GET http://h/390 HTTP/1.1\r\n\r\n")

abbrev text786 : Bytes
text786 = (codes "GET /390 HTTP/1.1\r\nhost: h\r\nvia: 1.1 polipo\r\n\r\n")

abbrev text787 : Bytes
text787 = (codes "GET http://h/391 HTTP/1.1\r\n\r\n")

abbrev text788 : Bytes
text788 = (codes "GET /391 HTTP/1.1\r\nhost: h\r\nvia: 1.1 polipo\r\n\r\n")

abbrev text789 : Bytes
text789 = (codes "GET http://h/392 HTTP/1.1\r\n\r\n")

abbrev text790 : Bytes
text790 = (codes "GET /392 HTTP/1.1\r\nhost: h\r\nvia: 1.1 polipo\r\n\r\n")

abbrev text791 : Bytes
text791 = (codes "GET http://h/393 HTTP/1.1\r\n\r\n")

abbrev text792 : Bytes
text792 = (codes "GET /393 HTTP/1.1\r\nhost: h\r\nvia: 1.1 polipo\r\n\r\n")

abbrev text793 : Bytes
text793 = (codes "GET http://h/394 HTTP/1.1\r\n\r\n")

abbrev text794 : Bytes
text794 = (codes "GET /394 HTTP/1.1\r\nhost: h\r\nvia: 1.1 polipo\r\n\r\n")

abbrev text795 : Bytes
text795 = (codes "GET http://h/395 HTTP/1.1\r\n\r\n")

abbrev text796 : Bytes
text796 = (codes "GET /395 HTTP/1.1\r\nhost: h\r\nvia: 1.1 polipo\r\n\r\n")

abbrev text797 : Bytes
text797 = (codes "GET http://h/396 HTTP/1.1\r\n\r\n")

abbrev text798 : Bytes
text798 = (codes "GET /396 HTTP/1.1\r\nhost: h\r\nvia: 1.1 polipo\r\n\r\n")

abbrev text799 : Bytes
text799 = (codes "GET http://h/397 HTTP/1.1\r\n\r\n")

abbrev text800 : Bytes
text800 = (codes "GET /397 HTTP/1.1\r\nhost: h\r\nvia: 1.1 polipo\r\n\r\n")

abbrev text801 : Bytes
text801 = (codes "GET http://h/398 HTTP/1.1\r\n\r\n")

abbrev text802 : Bytes
text802 = (codes "GET /398 HTTP/1.1\r\nhost: h\r\nvia: 1.1 polipo\r\n\r\n")

abbrev text803 : Bytes
text803 = (codes "GET http://h/399 HTTP/1.1\r\n\r\n")

abbrev text804 : Bytes
text804 = (codes "GET /399 HTTP/1.1\r\nhost: h\r\nvia: 1.1 polipo\r\n\r\n")

abbrev text805 : Bytes
text805 = (codes "GET http://h/400 HTTP/1.1\r\n\r\n")

abbrev text806 : Bytes
text806 = (codes "GET /400 HTTP/1.1\r\nhost: h\r\nvia: 1.1 polipo\r\n\r\n")

abbrev text807 : Bytes
text807 = (codes "GET http://h/401 HTTP/1.1\r\n\r\n")

abbrev text808 : Bytes
text808 = (codes "GET /401 HTTP/1.1\r\nhost: h\r\nvia: 1.1 polipo\r\n\r\n")

abbrev text809 : Bytes
text809 = (codes "GET http://h/402 HTTP/1.1\r\n\r\n")

abbrev text810 : Bytes
text810 = (codes "GET /402 HTTP/1.1\r\nhost: h\r\nvia: 1.1 polipo\r\n\r\n")

abbrev text811 : Bytes
text811 = (codes "GET http://h/403 HTTP/1.1\r\n\r\n")

abbrev text812 : Bytes
text812 = (codes "GET /403 HTTP/1.1\r\nhost: h\r\nvia: 1.1 polipo\r\n\r\n")

abbrev text813 : Bytes
text813 = (codes "GET http://h/404 HTTP/1.1\r\n\r\n")

abbrev text814 : Bytes
text814 = (codes "GET /404 HTTP/1.1\r\nhost: h\r\nvia: 1.1 polipo\r\n\r\n")

abbrev text815 : Bytes
text815 = (codes "GET http://h/405 HTTP/1.1\r\n\r\n")

abbrev text816 : Bytes
text816 = (codes "GET /405 HTTP/1.1\r\nhost: h\r\nvia: 1.1 polipo\r\n\r\n")

abbrev text817 : Bytes
text817 = (codes "GET http://h/406 HTTP/1.1\r\n\r\n")

abbrev text818 : Bytes
text818 = (codes "GET /406 HTTP/1.1\r\nhost: h\r\nvia: 1.1 polipo\r\n\r\n")

abbrev text819 : Bytes
text819 = (codes "GET http://h/407 HTTP/1.1\r\n\r\n")

abbrev text820 : Bytes
text820 = (codes "GET /407 HTTP/1.1\r\nhost: h\r\nvia: 1.1 polipo\r\n\r\n")

abbrev text821 : Bytes
text821 = (codes "GET http://h/408 HTTP/1.1\r\n\r\n")

abbrev text822 : Bytes
text822 = (codes "GET /408 HTTP/1.1\r\nhost: h\r\nvia: 1.1 polipo\r\n\r\n")

abbrev text823 : Bytes
text823 = (codes "GET http://h/409 HTTP/1.1\r\n\r\n")

abbrev text824 : Bytes
text824 = (codes "GET /409 HTTP/1.1\r\nhost: h\r\nvia: 1.1 polipo\r\n\r\n")

abbrev text825 : Bytes
text825 = (codes "GET http://h/410 HTTP/1.1\r\n\r\n")

abbrev text826 : Bytes
text826 = (codes "GET /410 HTTP/1.1\r\nhost: h\r\nvia: 1.1 polipo\r\n\r\n")

abbrev text827 : Bytes
text827 = (codes "GET http://h/411 HTTP/1.1\r\n\r\n")

abbrev text828 : Bytes
text828 = (codes "GET /411 HTTP/1.1\r\nhost: h\r\nvia: 1.1 polipo\r\n\r\n")

abbrev text829 : Bytes
text829 = (codes "GET http://h/412 HTTP/1.1\r\n\r\n")

abbrev text830 : Bytes
text830 = (codes "GET /412 HTTP/1.1\r\nhost: h\r\nvia: 1.1 polipo\r\n\r\n")

abbrev text831 : Bytes
text831 = (codes "GET http://h/413 HTTP/1.1\r\n\r\n")

abbrev text832 : Bytes
text832 = (codes "GET /413 HTTP/1.1\r\nhost: h\r\nvia: 1.1 polipo\r\n\r\n")

abbrev text833 : Bytes
text833 = (codes "GET http://h/414 HTTP/1.1\r\n\r\n")

abbrev text834 : Bytes
text834 = (codes "GET /414 HTTP/1.1\r\nhost: h\r\nvia: 1.1 polipo\r\n\r\n")

abbrev text835 : Bytes
text835 = (codes "GET http://h/415 HTTP/1.1\r\n\r\n")

abbrev text836 : Bytes
text836 = (codes "GET /415 HTTP/1.1\r\nhost: h\r\nvia: 1.1 polipo\r\n\r\n")

abbrev text837 : Bytes
text837 = (codes "GET http://h/416 HTTP/1.1\r\n\r\n")

abbrev text838 : Bytes
text838 = (codes "GET /416 HTTP/1.1\r\nhost: h\r\nvia: 1.1 polipo\r\n\r\n")

abbrev text839 : Bytes
text839 = (codes "GET http://h/417 HTTP/1.1\r\n\r\n")

abbrev text840 : Bytes
text840 = (codes "GET /417 HTTP/1.1\r\nhost: h\r\nvia: 1.1 polipo\r\n\r\n")

abbrev text841 : Bytes
text841 = (codes "GET http://h/418 HTTP/1.1\r\n\r\n")

abbrev text842 : Bytes
text842 = (codes "GET /418 HTTP/1.1\r\nhost: h\r\nvia: 1.1 polipo\r\n\r\n")

abbrev text843 : Bytes
text843 = (codes "GET http://h/419 HTTP/1.1\r\n\r\n")

abbrev text844 : Bytes
text844 = (codes "GET /419 HTTP/1.1\r\nhost: h\r\nvia: 1.1 polipo\r\n\r\n")

abbrev text845 : Bytes
text845 = (codes "GET http://h/420 HTTP/1.1\r\n\r\n")

abbrev text846 : Bytes
text846 = (codes "GET /420 HTTP/1.1\r\nhost: h\r\nvia: 1.1 polipo\r\n\r\n")

abbrev text847 : Bytes
text847 = (codes "GET http://h/421 HTTP/1.1\r\n\r\n")

abbrev text848 : Bytes
text848 = (codes "GET /421 HTTP/1.1\r\nhost: h\r\nvia: 1.1 polipo\r\n\r\n")

abbrev text849 : Bytes
text849 = (codes "GET http://h/422 HTTP/1.1\r\n\r\n")

abbrev text850 : Bytes
text850 = (codes "GET /422 HTTP/1.1\r\nhost: h\r\nvia: 1.1 polipo\r\n\r\n")

abbrev text851 : Bytes
text851 = (codes "GET http://h/423 HTTP/1.1\r\n\r\n")

abbrev text852 : Bytes
text852 = (codes "GET /423 HTTP/1.1\r\nhost: h\r\nvia: 1.1 polipo\r\n\r\n")

abbrev text853 : Bytes
text853 = (codes "GET http://h/424 HTTP/1.1\r\n\r\n")

abbrev text854 : Bytes
text854 = (codes "GET /424 HTTP/1.1\r\nhost: h\r\nvia: 1.1 polipo\r\n\r\n")

abbrev text855 : Bytes
text855 = (codes "GET http://h/425 HTTP/1.1\r\n\r\n")

abbrev text856 : Bytes
text856 = (codes "GET /425 HTTP/1.1\r\nhost: h\r\nvia: 1.1 polipo\r\n\r\n")

abbrev text857 : Bytes
text857 = (codes "GET http://h/426 HTTP/1.1\r\n\r\n")

abbrev text858 : Bytes
text858 = (codes "GET /426 HTTP/1.1\r\nhost: h\r\nvia: 1.1 polipo\r\n\r\n")

abbrev text859 : Bytes
text859 = (codes "GET http://h/427 HTTP/1.1\r\n\r\n")

abbrev text860 : Bytes
text860 = (codes "GET /427 HTTP/1.1\r\nhost: h\r\nvia: 1.1 polipo\r\n\r\n")

abbrev text861 : Bytes
text861 = (codes "GET http://h/428 HTTP/1.1\r\n\r\n")

abbrev text862 : Bytes
text862 = (codes "GET /428 HTTP/1.1\r\nhost: h\r\nvia: 1.1 polipo\r\n\r\n")

abbrev text863 : Bytes
text863 = (codes "GET http://h/429 HTTP/1.1\r\n\r\n")

abbrev text864 : Bytes
text864 = (codes "GET /429 HTTP/1.1\r\nhost: h\r\nvia: 1.1 polipo\r\n\r\n")

abbrev text865 : Bytes
text865 = (codes "GET http://h/430 HTTP/1.1\r\n\r\n")

abbrev text866 : Bytes
text866 = (codes "GET /430 HTTP/1.1\r\nhost: h\r\nvia: 1.1 polipo\r\n\r\n")

abbrev text867 : Bytes
text867 = (codes "GET http://h/431 HTTP/1.1\r\n\r\n")

abbrev text868 : Bytes
text868 = (codes "GET /431 HTTP/1.1\r\nhost: h\r\nvia: 1.1 polipo\r\n\r\n")

abbrev text869 : Bytes
text869 = (codes "GET http://h/432 HTTP/1.1\r\n\r\n")

abbrev text870 : Bytes
text870 = (codes "GET /432 HTTP/1.1\r\nhost: h\r\nvia: 1.1 polipo\r\n\r\n")

abbrev text871 : Bytes
text871 = (codes "GET http://h/433 HTTP/1.1\r\n\r\n")

abbrev text872 : Bytes
text872 = (codes "GET /433 HTTP/1.1\r\nhost: h\r\nvia: 1.1 polipo\r\n\r\n")

abbrev text873 : Bytes
text873 = (codes "GET http://h/434 HTTP/1.1\r\n\r\n")

abbrev text874 : Bytes
text874 = (codes "GET /434 HTTP/1.1\r\nhost: h\r\nvia: 1.1 polipo\r\n\r\n")

abbrev text875 : Bytes
text875 = (codes "GET http://h/435 HTTP/1.1\r\n\r\n")

abbrev text876 : Bytes
text876 = (codes "GET /435 HTTP/1.1\r\nhost: h\r\nvia: 1.1 polipo\r\n\r\n")

abbrev text877 : Bytes
text877 = (codes "GET http://h/436 HTTP/1.1\r\n\r\n")

abbrev text878 : Bytes
text878 = (codes "GET /436 HTTP/1.1\r\nhost: h\r\nvia: 1.1 polipo\r\n\r\n")

abbrev text879 : Bytes
text879 = (codes "GET http://h/437 HTTP/1.1\r\n\r\n")

abbrev text880 : Bytes
text880 = (codes "GET /437 HTTP/1.1\r\nhost: h\r\nvia: 1.1 polipo\r\n\r\n")

abbrev text881 : Bytes
text881 = (codes "GET http://h/438 HTTP/1.1\r\n\r\n")

abbrev text882 : Bytes
text882 = (codes "GET /438 HTTP/1.1\r\nhost: h\r\nvia: 1.1 polipo\r\n\r\n")

abbrev text883 : Bytes
text883 = (codes "GET http://h/439 HTTP/1.1\r\n\r\n")

abbrev text884 : Bytes
text884 = (codes "GET /439 HTTP/1.1\r\nhost: h\r\nvia: 1.1 polipo\r\n\r\n")

abbrev text885 : Bytes
text885 = (codes "GET http://h/440 HTTP/1.1\r\n\r\n")

abbrev text886 : Bytes
text886 = (codes "GET /440 HTTP/1.1\r\nhost: h\r\nvia: 1.1 polipo\r\n\r\n")

abbrev text887 : Bytes
text887 = (codes "GET http://h/441 HTTP/1.1\r\n\r\n")

abbrev text888 : Bytes
text888 = (codes "GET /441 HTTP/1.1\r\nhost: h\r\nvia: 1.1 polipo\r\n\r\n")

abbrev text889 : Bytes
text889 = (codes "GET http://h/442 HTTP/1.1\r\n\r\n")

abbrev text890 : Bytes
text890 = (codes "GET /442 HTTP/1.1\r\nhost: h\r\nvia: 1.1 polipo\r\n\r\n")

abbrev text891 : Bytes
text891 = (codes "GET http://h/443 HTTP/1.1\r\n\r\n")

abbrev text892 : Bytes
text892 = (codes "GET /443 HTTP/1.1\r\nhost: h\r\nvia: 1.1 polipo\r\n\r\n")

abbrev text893 : Bytes
text893 = (codes "GET http://h/444 HTTP/1.1\r\n\r\n")

abbrev text894 : Bytes
text894 = (codes "GET /444 HTTP/1.1\r\nhost: h\r\nvia: 1.1 polipo\r\n\r\n")

abbrev text895 : Bytes
text895 = (codes "GET http://h/445 HTTP/1.1\r\n\r\n")

abbrev text896 : Bytes
text896 = (codes "GET /445 HTTP/1.1\r\nhost: h\r\nvia: 1.1 polipo\r\n\r\n")

abbrev text897 : Bytes
text897 = (codes "GET http://h/446 HTTP/1.1\r\n\r\n")

abbrev text898 : Bytes
text898 = (codes "GET /446 HTTP/1.1\r\nhost: h\r\nvia: 1.1 polipo\r\n\r\n")

abbrev text899 : Bytes
text899 = (codes "GET http://h/447 HTTP/1.1\r\n\r\n")

abbrev text900 : Bytes
text900 = (codes "GET /447 HTTP/1.1\r\nhost: h\r\nvia: 1.1 polipo\r\n\r\n")

abbrev text901 : Bytes
text901 = (codes "GET http://h/448 HTTP/1.1\r\n\r\n")

abbrev text902 : Bytes
text902 = (codes "GET /448 HTTP/1.1\r\nhost: h\r\nvia: 1.1 polipo\r\n\r\n")

abbrev text903 : Bytes
text903 = (codes "GET http://h/449 HTTP/1.1\r\n\r\n")

abbrev text904 : Bytes
text904 = (codes "GET /449 HTTP/1.1\r\nhost: h\r\nvia: 1.1 polipo\r\n\r\n")

abbrev text905 : Bytes
text905 = (codes "GET http://h/450 HTTP/1.1\r\n\r\n")

abbrev text906 : Bytes
text906 = (codes "GET /450 HTTP/1.1\r\nhost: h\r\nvia: 1.1 polipo\r\n\r\n")

abbrev text907 : Bytes
text907 = (codes "GET http://h/451 HTTP/1.1\r\n\r\n")

abbrev text908 : Bytes
text908 = (codes "GET /451 HTTP/1.1\r\nhost: h\r\nvia: 1.1 polipo\r\n\r\n")

abbrev text909 : Bytes
text909 = (codes "GET http://h/452 HTTP/1.1\r\n\r\n")

abbrev text910 : Bytes
text910 = (codes "GET /452 HTTP/1.1\r\nhost: h\r\nvia: 1.1 polipo\r\n\r\n")

abbrev text911 : Bytes
text911 = (codes "GET http://h/453 HTTP/1.1\r\n\r\n")

abbrev text912 : Bytes
text912 = (codes "GET /453 HTTP/1.1\r\nhost: h\r\nvia: 1.1 polipo\r\n\r\n")

abbrev text913 : Bytes
text913 = (codes "GET http://h/454 HTTP/1.1\r\n\r\n")

abbrev text914 : Bytes
text914 = (codes "GET /454 HTTP/1.1\r\nhost: h\r\nvia: 1.1 polipo\r\n\r\n")

abbrev text915 : Bytes
text915 = (codes "GET http://h/455 HTTP/1.1\r\n\r\n")

abbrev text916 : Bytes
text916 = (codes "GET /455 HTTP/1.1\r\nhost: h\r\nvia: 1.1 polipo\r\n\r\n")

abbrev text917 : Bytes
text917 = (codes "GET http://h/456 HTTP/1.1\r\n\r\n")

abbrev text918 : Bytes
text918 = (codes "GET /456 HTTP/1.1\r\nhost: h\r\nvia: 1.1 polipo\r\n\r\n")

abbrev text919 : Bytes
text919 = (codes "GET http://h/457 HTTP/1.1\r\n\r\n")

abbrev text920 : Bytes
text920 = (codes "GET /457 HTTP/1.1\r\nhost: h\r\nvia: 1.1 polipo\r\n\r\n")

abbrev text921 : Bytes
text921 = (codes "GET http://h/458 HTTP/1.1\r\n\r\n")

abbrev text922 : Bytes
text922 = (codes "GET /458 HTTP/1.1\r\nhost: h\r\nvia: 1.1 polipo\r\n\r\n")

abbrev text923 : Bytes
text923 = (codes "GET http://h/459 HTTP/1.1\r\n\r\n")

abbrev text924 : Bytes
text924 = (codes "GET /459 HTTP/1.1\r\nhost: h\r\nvia: 1.1 polipo\r\n\r\n")

abbrev text925 : Bytes
text925 = (codes "GET http://h/460 HTTP/1.1\r\n\r\n")

abbrev text926 : Bytes
text926 = (codes "GET /460 HTTP/1.1\r\nhost: h\r\nvia: 1.1 polipo\r\n\r\n")

abbrev text927 : Bytes
text927 = (codes "GET http://h/461 HTTP/1.1\r\n\r\n")

abbrev text928 : Bytes
text928 = (codes "GET /461 HTTP/1.1\r\nhost: h\r\nvia: 1.1 polipo\r\n\r\n")

abbrev text929 : Bytes
text929 = (codes "GET http://h/462 HTTP/1.1\r\n\r\n")

abbrev text930 : Bytes
text930 = (codes "GET /462 HTTP/1.1\r\nhost: h\r\nvia: 1.1 polipo\r\n\r\n")

abbrev text931 : Bytes
text931 = (codes "GET http://h/463 HTTP/1.1\r\n\r\n")

abbrev text932 : Bytes
text932 = (codes "GET /463 HTTP/1.1\r\nhost: h\r\nvia: 1.1 polipo\r\n\r\n")

abbrev text933 : Bytes
text933 = (codes "GET http://h/464 HTTP/1.1\r\n\r\n")

abbrev text934 : Bytes
text934 = (codes "GET /464 HTTP/1.1\r\nhost: h\r\nvia: 1.1 polipo\r\n\r\n")

abbrev text935 : Bytes
text935 = (codes "GET http://h/465 HTTP/1.1\r\n\r\n")

abbrev text936 : Bytes
text936 = (codes "GET /465 HTTP/1.1\r\nhost: h\r\nvia: 1.1 polipo\r\n\r\n")

abbrev text937 : Bytes
text937 = (codes "GET http://h/466 HTTP/1.1\r\n\r\n")

abbrev text938 : Bytes
text938 = (codes "GET /466 HTTP/1.1\r\nhost: h\r\nvia: 1.1 polipo\r\n\r\n")

abbrev text939 : Bytes
text939 = (codes "GET http://h/467 HTTP/1.1\r\n\r\n")

abbrev text940 : Bytes
text940 = (codes "GET /467 HTTP/1.1\r\nhost: h\r\nvia: 1.1 polipo\r\n\r\n")

abbrev text941 : Bytes
text941 = (codes "GET http://h/468 HTTP/1.1\r\n\r\n")

abbrev text942 : Bytes
text942 = (codes "GET /468 HTTP/1.1\r\nhost: h\r\nvia: 1.1 polipo\r\n\r\n")

abbrev text943 : Bytes
text943 = (codes "GET http://h/469 HTTP/1.1\r\n\r\n")

abbrev text944 : Bytes
text944 = (codes "GET /469 HTTP/1.1\r\nhost: h\r\nvia: 1.1 polipo\r\n\r\n")

abbrev text945 : Bytes
text945 = (codes "GET http://h/470 HTTP/1.1\r\n\r\n")

abbrev text946 : Bytes
text946 = (codes "GET /470 HTTP/1.1\r\nhost: h\r\nvia: 1.1 polipo\r\n\r\n")

abbrev text947 : Bytes
text947 = (codes "GET http://h/471 HTTP/1.1\r\n\r\n")

abbrev text948 : Bytes
text948 = (codes "GET /471 HTTP/1.1\r\nhost: h\r\nvia: 1.1 polipo\r\n\r\n")

abbrev text949 : Bytes
text949 = (codes "GET http://h/472 HTTP/1.1\r\n\r\n")

abbrev text950 : Bytes
text950 = (codes "GET /472 HTTP/1.1\r\nhost: h\r\nvia: 1.1 polipo\r\n\r\n")

abbrev text951 : Bytes
text951 = (codes "GET http://h/473 HTTP/1.1\r\n\r\n")

abbrev text952 : Bytes
text952 = (codes "GET /473 HTTP/1.1\r\nhost: h\r\nvia: 1.1 polipo\r\n\r\n")

abbrev text953 : Bytes
text953 = (codes "GET http://h/474 HTTP/1.1\r\n\r\n")

abbrev text954 : Bytes
text954 = (codes "GET /474 HTTP/1.1\r\nhost: h\r\nvia: 1.1 polipo\r\n\r\n")

abbrev text955 : Bytes
text955 = (codes "GET http://h/475 HTTP/1.1\r\n\r\n")

abbrev text956 : Bytes
text956 = (codes "GET /475 HTTP/1.1\r\nhost: h\r\nvia: 1.1 polipo\r\n\r\n")

abbrev text957 : Bytes
text957 = (codes "GET http://h/476 HTTP/1.1\r\n\r\n")

abbrev text958 : Bytes
text958 = (codes "GET /476 HTTP/1.1\r\nhost: h\r\nvia: 1.1 polipo\r\n\r\n")

abbrev text959 : Bytes
text959 = (codes "GET http://h/477 HTTP/1.1\r\n\r\n")

abbrev text960 : Bytes
text960 = (codes "GET /477 HTTP/1.1\r\nhost: h\r\nvia: 1.1 polipo\r\n\r\n")

abbrev text961 : Bytes
text961 = (codes "GET http://h/478 HTTP/1.1\r\n\r\n")

abbrev text962 : Bytes
text962 = (codes "GET /478 HTTP/1.1\r\nhost: h\r\nvia: 1.1 polipo\r\n\r\n")

abbrev text963 : Bytes
text963 = (codes "GET http://h/479 HTTP/1.1\r\n\r\n")

abbrev text964 : Bytes
text964 = (codes "GET /479 HTTP/1.1\r\nhost: h\r\nvia: 1.1 polipo\r\n\r\n")

abbrev text965 : Bytes
text965 = (codes "GET http://h/480 HTTP/1.1\r\n\r\n")

abbrev text966 : Bytes
text966 = (codes "GET /480 HTTP/1.1\r\nhost: h\r\nvia: 1.1 polipo\r\n\r\n")

abbrev text967 : Bytes
text967 = (codes "GET http://h/481 HTTP/1.1\r\n\r\n")

abbrev text968 : Bytes
text968 = (codes "GET /481 HTTP/1.1\r\nhost: h\r\nvia: 1.1 polipo\r\n\r\n")

abbrev text969 : Bytes
text969 = (codes "GET http://h/482 HTTP/1.1\r\n\r\n")

abbrev text970 : Bytes
text970 = (codes "GET /482 HTTP/1.1\r\nhost: h\r\nvia: 1.1 polipo\r\n\r\n")

abbrev text971 : Bytes
text971 = (codes "GET http://h/483 HTTP/1.1\r\n\r\n")

abbrev text972 : Bytes
text972 = (codes "GET /483 HTTP/1.1\r\nhost: h\r\nvia: 1.1 polipo\r\n\r\n")

abbrev text973 : Bytes
text973 = (codes "GET http://h/484 HTTP/1.1\r\n\r\n")

abbrev text974 : Bytes
text974 = (codes "GET /484 HTTP/1.1\r\nhost: h\r\nvia: 1.1 polipo\r\n\r\n")

abbrev text975 : Bytes
text975 = (codes "GET http://h/485 HTTP/1.1\r\n\r\n")

abbrev text976 : Bytes
text976 = (codes "GET /485 HTTP/1.1\r\nhost: h\r\nvia: 1.1 polipo\r\n\r\n")

abbrev text977 : Bytes
text977 = (codes "GET http://h/486 HTTP/1.1\r\n\r\n")

abbrev text978 : Bytes
text978 = (codes "GET /486 HTTP/1.1\r\nhost: h\r\nvia: 1.1 polipo\r\n\r\n")

abbrev text979 : Bytes
text979 = (codes "GET http://h/487 HTTP/1.1\r\n\r\n")

abbrev text980 : Bytes
text980 = (codes "GET /487 HTTP/1.1\r\nhost: h\r\nvia: 1.1 polipo\r\n\r\n")

abbrev text981 : Bytes
text981 = (codes "GET http://h/488 HTTP/1.1\r\n\r\n")

abbrev text982 : Bytes
text982 = (codes "GET /488 HTTP/1.1\r\nhost: h\r\nvia: 1.1 polipo\r\n\r\n")

abbrev text983 : Bytes
text983 = (codes "GET http://h/489 HTTP/1.1\r\n\r\n")

abbrev text984 : Bytes
text984 = (codes "GET /489 HTTP/1.1\r\nhost: h\r\nvia: 1.1 polipo\r\n\r\n")

abbrev text985 : Bytes
text985 = (codes "GET http://h/490 HTTP/1.1\r\n\r\n")

abbrev text986 : Bytes
text986 = (codes "GET /490 HTTP/1.1\r\nhost: h\r\nvia: 1.1 polipo\r\n\r\n")

abbrev text987 : Bytes
text987 = (codes "GET http://h/491 HTTP/1.1\r\n\r\n")

abbrev text988 : Bytes
text988 = (codes "GET /491 HTTP/1.1\r\nhost: h\r\nvia: 1.1 polipo\r\n\r\n")

abbrev text989 : Bytes
text989 = (codes "GET http://h/492 HTTP/1.1\r\n\r\n")

abbrev text990 : Bytes
text990 = (codes "GET /492 HTTP/1.1\r\nhost: h\r\nvia: 1.1 polipo\r\n\r\n")

abbrev text991 : Bytes
text991 = (codes "GET http://h/493 HTTP/1.1\r\n\r\n")

abbrev text992 : Bytes
text992 = (codes "GET /493 HTTP/1.1\r\nhost: h\r\nvia: 1.1 polipo\r\n\r\n")

abbrev text993 : Bytes
text993 = (codes "GET http://h/494 HTTP/1.1\r\n\r\n")

abbrev text994 : Bytes
text994 = (codes "GET /494 HTTP/1.1\r\nhost: h\r\nvia: 1.1 polipo\r\n\r\n")

abbrev text995 : Bytes
text995 = (codes "GET http://h/495 HTTP/1.1\r\n\r\n")

abbrev text996 : Bytes
text996 = (codes "GET /495 HTTP/1.1\r\nhost: h\r\nvia: 1.1 polipo\r\n\r\n")

abbrev text997 : Bytes
text997 = (codes "GET http://h/496 HTTP/1.1\r\n\r\n")

abbrev text998 : Bytes
text998 = (codes "GET /496 HTTP/1.1\r\nhost: h\r\nvia: 1.1 polipo\r\n\r\n")

abbrev text999 : Bytes
text999 = (codes "GET http://h/497 HTTP/1.1\r\n\r\n")

abbrev text1000 : Bytes
text1000 = (codes "GET /497 HTTP/1.1\r\nhost: h\r\nvia: 1.1 polipo\r\n\r\n")

abbrev text1001 : Bytes
text1001 = (codes "GET http://h/498 HTTP/1.1\r\n\r\n")

abbrev text1002 : Bytes
text1002 = (codes "GET /498 HTTP/1.1\r\nhost: h\r\nvia: 1.1 polipo\r\n\r\n")

abbrev text1003 : Bytes
text1003 = (codes "GET http://h/499 HTTP/1.1\r\n\r\n")

abbrev text1004 : Bytes
text1004 = (codes "GET /499 HTTP/1.1\r\nhost: h\r\nvia: 1.1 polipo\r\n\r\n")

abbrev text1005 : Bytes
text1005 = (codes "GET http://h/500 HTTP/1.1\r\n\r\n")

abbrev text1006 : Bytes
text1006 = (codes "GET /500 HTTP/1.1\r\nhost: h\r\nvia: 1.1 polipo\r\n\r\n")

abbrev text1007 : Bytes
text1007 = (codes "GET http://h/501 HTTP/1.1\r\n\r\n")

abbrev text1008 : Bytes
text1008 = (codes "GET /501 HTTP/1.1\r\nhost: h\r\nvia: 1.1 polipo\r\n\r\n")

abbrev text1009 : Bytes
text1009 = (codes "GET http://h/502 HTTP/1.1\r\n\r\n")

abbrev text1010 : Bytes
text1010 = (codes "GET /502 HTTP/1.1\r\nhost: h\r\nvia: 1.1 polipo\r\n\r\n")

abbrev text1011 : Bytes
text1011 = (codes "GET http://h/503 HTTP/1.1\r\n\r\n")

abbrev text1012 : Bytes
text1012 = (codes "GET /503 HTTP/1.1\r\nhost: h\r\nvia: 1.1 polipo\r\n\r\n")

abbrev text1013 : Bytes
text1013 = (codes "GET http://h/504 HTTP/1.1\r\n\r\n")

abbrev text1014 : Bytes
text1014 = (codes "GET /504 HTTP/1.1\r\nhost: h\r\nvia: 1.1 polipo\r\n\r\n")

abbrev text1015 : Bytes
text1015 = (codes "GET http://h/505 HTTP/1.1\r\n\r\n")

abbrev text1016 : Bytes
text1016 = (codes "GET /505 HTTP/1.1\r\nhost: h\r\nvia: 1.1 polipo\r\n\r\n")

abbrev text1017 : Bytes
text1017 = (codes "GET http://h/506 HTTP/1.1\r\n\r\n")

abbrev text1018 : Bytes
text1018 = (codes "GET /506 HTTP/1.1\r\nhost: h\r\nvia: 1.1 polipo\r\n\r\n")

abbrev text1019 : Bytes
text1019 = (codes "GET http://h/507 HTTP/1.1\r\n\r\n")

abbrev text1020 : Bytes
text1020 = (codes "GET /507 HTTP/1.1\r\nhost: h\r\nvia: 1.1 polipo\r\n\r\n")

abbrev text1021 : Bytes
text1021 = (codes "GET http://h/508 HTTP/1.1\r\n\r\n")

abbrev text1022 : Bytes
text1022 = (codes "GET /508 HTTP/1.1\r\nhost: h\r\nvia: 1.1 polipo\r\n\r\n")

abbrev text1023 : Bytes
text1023 = (codes "GET http://h/509 HTTP/1.1\r\n\r\n")

abbrev text1024 : Bytes
text1024 = (codes "GET /509 HTTP/1.1\r\nhost: h\r\nvia: 1.1 polipo\r\n\r\n")

abbrev text1025 : Bytes
text1025 = (codes "GET http://h/510 HTTP/1.1\r\n\r\n")

abbrev text1026 : Bytes
text1026 = (codes "GET /510 HTTP/1.1\r\nhost: h\r\nvia: 1.1 polipo\r\n\r\n")

abbrev text1027 : Bytes
text1027 = (codes "GET http://h/511 HTTP/1.1\r\n\r\n")

abbrev text1028 : Bytes
text1028 = (codes "GET /511 HTTP/1.1\r\nhost: h\r\nvia: 1.1 polipo\r\n\r\n")

abbrev text1029 : Bytes
text1029 = (codes "GET http://h/512 HTTP/1.1\r\n\r\n")

abbrev text1030 : Bytes
text1030 = (codes "GET /512 HTTP/1.1\r\nhost: h\r\nvia: 1.1 polipo\r\n\r\n")

abbrev text1031 : Bytes
text1031 = (codes "GET http://h/513 HTTP/1.1\r\n\r\n")

abbrev text1032 : Bytes
text1032 = (codes "GET /513 HTTP/1.1\r\nhost: h\r\nvia: 1.1 polipo\r\n\r\n")

abbrev text1033 : Bytes
text1033 = (codes "GET http://h/514 HTTP/1.1\r\n\r\n")

abbrev text1034 : Bytes
text1034 = (codes "GET /514 HTTP/1.1\r\nhost: h\r\nvia: 1.1 polipo\r\n\r\n")

abbrev text1035 : Bytes
text1035 = (codes "GET http://h/515 HTTP/1.1\r\n\r\n")

abbrev text1036 : Bytes
text1036 = (codes "GET /515 HTTP/1.1\r\nhost: h\r\nvia: 1.1 polipo\r\n\r\n")

abbrev text1037 : Bytes
text1037 = (codes "GET http://h/516 HTTP/1.1\r\n\r\n")

abbrev text1038 : Bytes
text1038 = (codes "GET /516 HTTP/1.1\r\nhost: h\r\nvia: 1.1 polipo\r\n\r\n")

abbrev text1039 : Bytes
text1039 = (codes "GET http://h/517 HTTP/1.1\r\n\r\n")

abbrev text1040 : Bytes
text1040 = (codes "GET /517 HTTP/1.1\r\nhost: h\r\nvia: 1.1 polipo\r\n\r\n")

abbrev text1041 : Bytes
text1041 = (codes "GET http://h/518 HTTP/1.1\r\n\r\n")

abbrev text1042 : Bytes
text1042 = (codes "GET /518 HTTP/1.1\r\nhost: h\r\nvia: 1.1 polipo\r\n\r\n")

abbrev text1043 : Bytes
text1043 = (codes "GET http://h/519 HTTP/1.1\r\n\r\n")

abbrev text1044 : Bytes
text1044 = (codes "GET /519 HTTP/1.1\r\nhost: h\r\nvia: 1.1 polipo\r\n\r\n")

abbrev text1045 : Bytes
text1045 = (codes "GET http://h/520 HTTP/1.1\r\n\r\n")

abbrev text1046 : Bytes
text1046 = (codes "GET /520 HTTP/1.1\r\nhost: h\r\nvia: 1.1 polipo\r\n\r\n")

abbrev text1047 : Bytes
text1047 = (codes "GET http://h/521 HTTP/1.1\r\n\r\n")

abbrev text1048 : Bytes
text1048 = (codes "GET /521 HTTP/1.1\r\nhost: h\r\nvia: 1.1 polipo\r\n\r\n")

abbrev text1049 : Bytes
text1049 = (codes "GET http://h/522 HTTP/1.1\r\n\r\n")

abbrev text1050 : Bytes
text1050 = (codes "GET /522 HTTP/1.1\r\nhost: h\r\nvia: 1.1 polipo\r\n\r\n")

abbrev text1051 : Bytes
text1051 = (codes "GET http://h/523 HTTP/1.1\r\n\r\n")

abbrev text1052 : Bytes
text1052 = (codes "GET /523 HTTP/1.1\r\nhost: h\r\nvia: 1.1 polipo\r\n\r\n")

abbrev text1053 : Bytes
text1053 = (codes "GET http://h/524 HTTP/1.1\r\n\r\n")

abbrev text1054 : Bytes
text1054 = (codes "GET /524 HTTP/1.1\r\nhost: h\r\nvia: 1.1 polipo\r\n\r\n")

abbrev text1055 : Bytes
text1055 = (codes "GET http://h/525 HTTP/1.1\r\n\r\n")

abbrev text1056 : Bytes
text1056 = (codes "GET /525 HTTP/1.1\r\nhost: h\r\nvia: 1.1 polipo\r\n\r\n")

abbrev text1057 : Bytes
text1057 = (codes "GET http://h/526 HTTP/1.1\r\n\r\n")

abbrev text1058 : Bytes
text1058 = (codes "GET /526 HTTP/1.1\r\nhost: h\r\nvia: 1.1 polipo\r\n\r\n")

abbrev text1059 : Bytes
text1059 = (codes "GET http://h/527 HTTP/1.1\r\n\r\n")

abbrev text1060 : Bytes
text1060 = (codes "GET /527 HTTP/1.1\r\nhost: h\r\nvia: 1.1 polipo\r\n\r\n")

abbrev text1061 : Bytes
text1061 = (codes "GET http://h/528 HTTP/1.1\r\n\r\n")

abbrev text1062 : Bytes
text1062 = (codes "GET /528 HTTP/1.1\r\nhost: h\r\nvia: 1.1 polipo\r\n\r\n")

abbrev text1063 : Bytes
text1063 = (codes "GET http://h/529 HTTP/1.1\r\n\r\n")

abbrev text1064 : Bytes
text1064 = (codes "GET /529 HTTP/1.1\r\nhost: h\r\nvia: 1.1 polipo\r\n\r\n")

abbrev text1065 : Bytes
text1065 = (codes "GET http://h/530 HTTP/1.1\r\n\r\n")

abbrev text1066 : Bytes
text1066 = (codes "GET /530 HTTP/1.1\r\nhost: h\r\nvia: 1.1 polipo\r\n\r\n")

abbrev text1067 : Bytes
text1067 = (codes "GET http://h/531 HTTP/1.1\r\n\r\n")

abbrev text1068 : Bytes
text1068 = (codes "GET /531 HTTP/1.1\r\nhost: h\r\nvia: 1.1 polipo\r\n\r\n")

abbrev text1069 : Bytes
text1069 = (codes "GET http://h/532 HTTP/1.1\r\n\r\n")

abbrev text1070 : Bytes
text1070 = (codes "GET /532 HTTP/1.1\r\nhost: h\r\nvia: 1.1 polipo\r\n\r\n")

abbrev text1071 : Bytes
text1071 = (codes "GET http://h/533 HTTP/1.1\r\n\r\n")

abbrev text1072 : Bytes
text1072 = (codes "GET /533 HTTP/1.1\r\nhost: h\r\nvia: 1.1 polipo\r\n\r\n")

abbrev text1073 : Bytes
text1073 = (codes "GET http://h/534 HTTP/1.1\r\n\r\n")

abbrev text1074 : Bytes
text1074 = (codes "GET /534 HTTP/1.1\r\nhost: h\r\nvia: 1.1 polipo\r\n\r\n")

abbrev text1075 : Bytes
text1075 = (codes "GET http://h/535 HTTP/1.1\r\n\r\n")

abbrev text1076 : Bytes
text1076 = (codes "GET /535 HTTP/1.1\r\nhost: h\r\nvia: 1.1 polipo\r\n\r\n")

abbrev text1077 : Bytes
text1077 = (codes "GET http://h/536 HTTP/1.1\r\n\r\n")

abbrev text1078 : Bytes
text1078 = (codes "GET /536 HTTP/1.1\r\nhost: h\r\nvia: 1.1 polipo\r\n\r\n")

abbrev text1079 : Bytes
text1079 = (codes "GET http://h/537 HTTP/1.1\r\n\r\n")

abbrev text1080 : Bytes
text1080 = (codes "GET /537 HTTP/1.1\r\nhost: h\r\nvia: 1.1 polipo\r\n\r\n")

abbrev text1081 : Bytes
text1081 = (codes "GET http://h/538 HTTP/1.1\r\n\r\n")

abbrev text1082 : Bytes
text1082 = (codes "GET /538 HTTP/1.1\r\nhost: h\r\nvia: 1.1 polipo\r\n\r\n")

abbrev text1083 : Bytes
text1083 = (codes "GET http://h/539 HTTP/1.1\r\n\r\n")

abbrev text1084 : Bytes
text1084 = (codes "GET /539 HTTP/1.1\r\nhost: h\r\nvia: 1.1 polipo\r\n\r\n")

abbrev text1085 : Bytes
text1085 = (codes "GET http://h/540 HTTP/1.1\r\n\r\n")

abbrev text1086 : Bytes
text1086 = (codes "GET /540 HTTP/1.1\r\nhost: h\r\nvia: 1.1 polipo\r\n\r\n")

abbrev text1087 : Bytes
text1087 = (codes "GET http://h/541 HTTP/1.1\r\n\r\n")

abbrev text1088 : Bytes
text1088 = (codes "GET /541 HTTP/1.1\r\nhost: h\r\nvia: 1.1 polipo\r\n\r\n")

abbrev text1089 : Bytes
text1089 = (codes "GET http://h/542 HTTP/1.1\r\n\r\n")

abbrev text1090 : Bytes
text1090 = (codes "GET /542 HTTP/1.1\r\nhost: h\r\nvia: 1.1 polipo\r\n\r\n")

abbrev text1091 : Bytes
text1091 = (codes "GET http://h/543 HTTP/1.1\r\n\r\n")

abbrev text1092 : Bytes
text1092 = (codes "GET /543 HTTP/1.1\r\nhost: h\r\nvia: 1.1 polipo\r\n\r\n")

abbrev text1093 : Bytes
text1093 = (codes "GET http://h/544 HTTP/1.1\r\n\r\n")

abbrev text1094 : Bytes
text1094 = (codes "GET /544 HTTP/1.1\r\nhost: h\r\nvia: 1.1 polipo\r\n\r\n")

abbrev text1095 : Bytes
text1095 = (codes "GET http://h/545 HTTP/1.1\r\n\r\n")

abbrev text1096 : Bytes
text1096 = (codes "GET /545 HTTP/1.1\r\nhost: h\r\nvia: 1.1 polipo\r\n\r\n")

abbrev text1097 : Bytes
text1097 = (codes "GET http://h/546 HTTP/1.1\r\n\r\n")

abbrev text1098 : Bytes
text1098 = (codes "GET /546 HTTP/1.1\r\nhost: h\r\nvia: 1.1 polipo\r\n\r\n")

abbrev text1099 : Bytes
text1099 = (codes "GET http://h/547 HTTP/1.1\r\n\r\n")

abbrev text1100 : Bytes
text1100 = (codes "GET /547 HTTP/1.1\r\nhost: h\r\nvia: 1.1 polipo\r\n\r\n")

abbrev text1101 : Bytes
text1101 = (codes "GET http://h/548 HTTP/1.1\r\n\r\n")

abbrev text1102 : Bytes
text1102 = (codes "GET /548 HTTP/1.1\r\nhost: h\r\nvia: 1.1 polipo\r\n\r\n")

abbrev text1103 : Bytes
text1103 = (codes "GET http://h/549 HTTP/1.1\r\n\r\n")

abbrev text1104 : Bytes
text1104 = (codes "GET /549 HTTP/1.1\r\nhost: h\r\nvia: 1.1 polipo\r\n\r\n")

abbrev text1105 : Bytes
text1105 = (codes "GET http://h/550 HTTP/1.1\r\n\r\n")

abbrev text1106 : Bytes
text1106 = (codes "GET /550 HTTP/1.1\r\nhost: h\r\nvia: 1.1 polipo\r\n\r\n")

abbrev text1107 : Bytes
text1107 = (codes "GET http://h/551 HTTP/1.1\r\n\r\n")

abbrev text1108 : Bytes
text1108 = (codes "GET /551 HTTP/1.1\r\nhost: h\r\nvia: 1.1 polipo\r\n\r\n")

abbrev text1109 : Bytes
text1109 = (codes "GET http://h/552 HTTP/1.1\r\n\r\n")

abbrev text1110 : Bytes
text1110 = (codes "GET /552 HTTP/1.1\r\nhost: h\r\nvia: 1.1 polipo\r\n\r\n")

abbrev text1111 : Bytes
text1111 = (codes "GET http://h/553 HTTP/1.1\r\n\r\n")

abbrev text1112 : Bytes
text1112 = (codes "GET /553 HTTP/1.1\r\nhost: h\r\nvia: 1.1 polipo\r\n\r\n")

abbrev text1113 : Bytes
text1113 = (codes "GET http://h/554 HTTP/1.1\r\n\r\n")

abbrev text1114 : Bytes
text1114 = (codes "GET /554 HTTP/1.1\r\nhost: h\r\nvia: 1.1 polipo\r\n\r\n")

abbrev text1115 : Bytes
text1115 = (codes "GET http://h/555 HTTP/1.1\r\n\r\n")

abbrev text1116 : Bytes
text1116 = (codes "GET /555 HTTP/1.1\r\nhost: h\r\nvia: 1.1 polipo\r\n\r\n")

abbrev text1117 : Bytes
text1117 = (codes "GET http://h/556 HTTP/1.1\r\n\r\n")

abbrev text1118 : Bytes
text1118 = (codes "GET /556 HTTP/1.1\r\nhost: h\r\nvia: 1.1 polipo\r\n\r\n")

abbrev text1119 : Bytes
text1119 = (codes "GET http://h/557 HTTP/1.1\r\n\r\n")

abbrev text1120 : Bytes
text1120 = (codes "GET /557 HTTP/1.1\r\nhost: h\r\nvia: 1.1 polipo\r\n\r\n")

abbrev text1121 : Bytes
text1121 = (codes "GET http://h/558 HTTP/1.1\r\n\r\n")

abbrev text1122 : Bytes
text1122 = (codes "GET /558 HTTP/1.1\r\nhost: h\r\nvia: 1.1 polipo\r\n\r\n")

abbrev text1123 : Bytes
text1123 = (codes "GET http://h/559 HTTP/1.1\r\n\r\n")

abbrev text1124 : Bytes
text1124 = (codes "GET /559 HTTP/1.1\r\nhost: h\r\nvia: 1.1 polipo\r\n\r\n")

abbrev text1125 : Bytes
text1125 = (codes "GET http://h/560 HTTP/1.1\r\n\r\n")

abbrev text1126 : Bytes
text1126 = (codes "GET /560 HTTP/1.1\r\nhost: h\r\nvia: 1.1 polipo\r\n\r\n")

abbrev text1127 : Bytes
text1127 = (codes "GET http://h/561 HTTP/1.1\r\n\r\n")

abbrev text1128 : Bytes
text1128 = (codes "GET /561 HTTP/1.1\r\nhost: h\r\nvia: 1.1 polipo\r\n\r\n")

abbrev text1129 : Bytes
text1129 = (codes "GET http://h/562 HTTP/1.1\r\n\r\n")

abbrev text1130 : Bytes
text1130 = (codes "GET /562 HTTP/1.1\r\nhost: h\r\nvia: 1.1 polipo\r\n\r\n")

abbrev text1131 : Bytes
text1131 = (codes "GET http://h/563 HTTP/1.1\r\n\r\n")

abbrev text1132 : Bytes
text1132 = (codes "GET /563 HTTP/1.1\r\nhost: h\r\nvia: 1.1 polipo\r\n\r\n")

abbrev text1133 : Bytes
text1133 = (codes "GET http://h/564 HTTP/1.1\r\n\r\n")

abbrev text1134 : Bytes
text1134 = (codes "GET /564 HTTP/1.1\r\nhost: h\r\nvia: 1.1 polipo\r\n\r\n")

abbrev text1135 : Bytes
text1135 = (codes "GET http://h/565 HTTP/1.1\r\n\r\n")

abbrev text1136 : Bytes
text1136 = (codes "GET /565 HTTP/1.1\r\nhost: h\r\nvia: 1.1 polipo\r\n\r\n")

abbrev text1137 : Bytes
text1137 = (codes "GET http://h/566 HTTP/1.1\r\n\r\n")

abbrev text1138 : Bytes
text1138 = (codes "GET /566 HTTP/1.1\r\nhost: h\r\nvia: 1.1 polipo\r\n\r\n")

abbrev text1139 : Bytes
text1139 = (codes "GET http://h/567 HTTP/1.1\r\n\r\n")

abbrev text1140 : Bytes
text1140 = (codes "GET /567 HTTP/1.1\r\nhost: h\r\nvia: 1.1 polipo\r\n\r\n")

abbrev text1141 : Bytes
text1141 = (codes "GET http://h/568 HTTP/1.1\r\n\r\n")

abbrev text1142 : Bytes
text1142 = (codes "GET /568 HTTP/1.1\r\nhost: h\r\nvia: 1.1 polipo\r\n\r\n")

abbrev text1143 : Bytes
text1143 = (codes "GET http://h/569 HTTP/1.1\r\n\r\n")

abbrev text1144 : Bytes
text1144 = (codes "GET /569 HTTP/1.1\r\nhost: h\r\nvia: 1.1 polipo\r\n\r\n")

abbrev text1145 : Bytes
text1145 = (codes "GET http://h/570 HTTP/1.1\r\n\r\n")

abbrev text1146 : Bytes
text1146 = (codes "GET /570 HTTP/1.1\r\nhost: h\r\nvia: 1.1 polipo\r\n\r\n")

abbrev text1147 : Bytes
text1147 = (codes "GET http://h/571 HTTP/1.1\r\n\r\n")

abbrev text1148 : Bytes
text1148 = (codes "GET /571 HTTP/1.1\r\nhost: h\r\nvia: 1.1 polipo\r\n\r\n")

abbrev text1149 : Bytes
text1149 = (codes "GET http://h/572 HTTP/1.1\r\n\r\n")

abbrev text1150 : Bytes
text1150 = (codes "GET /572 HTTP/1.1\r\nhost: h\r\nvia: 1.1 polipo\r\n\r\n")

abbrev text1151 : Bytes
text1151 = (codes "GET http://h/573 HTTP/1.1\r\n\r\n")

abbrev text1152 : Bytes
text1152 = (codes "GET /573 HTTP/1.1\r\nhost: h\r\nvia: 1.1 polipo\r\n\r\n")

abbrev text1153 : Bytes
text1153 = (codes "GET http://h/574 HTTP/1.1\r\n\r\n")

abbrev text1154 : Bytes
text1154 = (codes "GET /574 HTTP/1.1\r\nhost: h\r\nvia: 1.1 polipo\r\n\r\n")

abbrev text1155 : Bytes
text1155 = (codes "GET http://h/575 HTTP/1.1\r\n\r\n")

abbrev text1156 : Bytes
text1156 = (codes "GET /575 HTTP/1.1\r\nhost: h\r\nvia: 1.1 polipo\r\n\r\n")

abbrev text1157 : Bytes
text1157 = (codes "GET http://h/576 HTTP/1.1\r\n\r\n")

abbrev text1158 : Bytes
text1158 = (codes "GET /576 HTTP/1.1\r\nhost: h\r\nvia: 1.1 polipo\r\n\r\n")

abbrev text1159 : Bytes
text1159 = (codes "GET http://h/577 HTTP/1.1\r\n\r\n")

abbrev text1160 : Bytes
text1160 = (codes "GET /577 HTTP/1.1\r\nhost: h\r\nvia: 1.1 polipo\r\n\r\n")

abbrev text1161 : Bytes
text1161 = (codes "GET http://h/578 HTTP/1.1\r\n\r\n")

abbrev text1162 : Bytes
text1162 = (codes "GET /578 HTTP/1.1\r\nhost: h\r\nvia: 1.1 polipo\r\n\r\n")

abbrev text1163 : Bytes
text1163 = (codes "GET http://h/579 HTTP/1.1\r\n\r\n")

abbrev text1164 : Bytes
text1164 = (codes "GET /579 HTTP/1.1\r\nhost: h\r\nvia: 1.1 polipo\r\n\r\n")

abbrev text1165 : Bytes
text1165 = (codes "GET http://h/580 HTTP/1.1\r\n\r\n")

abbrev text1166 : Bytes
text1166 = (codes "GET /580 HTTP/1.1\r\nhost: h\r\nvia: 1.1 polipo\r\n\r\n")

abbrev text1167 : Bytes
text1167 = (codes "GET http://h/581 HTTP/1.1\r\n\r\n")

abbrev text1168 : Bytes
text1168 = (codes "GET /581 HTTP/1.1\r\nhost: h\r\nvia: 1.1 polipo\r\n\r\n")

abbrev text1169 : Bytes
text1169 = (codes "GET http://h/582 HTTP/1.1\r\n\r\n")

abbrev text1170 : Bytes
text1170 = (codes "GET /582 HTTP/1.1\r\nhost: h\r\nvia: 1.1 polipo\r\n\r\n")

abbrev text1171 : Bytes
text1171 = (codes "GET http://h/583 HTTP/1.1\r\n\r\n")

abbrev text1172 : Bytes
text1172 = (codes "GET /583 HTTP/1.1\r\nhost: h\r\nvia: 1.1 polipo\r\n\r\n")

abbrev text1173 : Bytes
text1173 = (codes "GET http://h/584 HTTP/1.1\r\n\r\n")

abbrev text1174 : Bytes
text1174 = (codes "GET /584 HTTP/1.1\r\nhost: h\r\nvia: 1.1 polipo\r\n\r\n")

abbrev text1175 : Bytes
text1175 = (codes "GET http://h/585 HTTP/1.1\r\n\r\n")

abbrev text1176 : Bytes
text1176 = (codes "GET /585 HTTP/1.1\r\nhost: h\r\nvia: 1.1 polipo\r\n\r\n")

abbrev text1177 : Bytes
text1177 = (codes "GET http://h/586 HTTP/1.1\r\n\r\n")

abbrev text1178 : Bytes
text1178 = (codes "GET /586 HTTP/1.1\r\nhost: h\r\nvia: 1.1 polipo\r\n\r\n")

abbrev text1179 : Bytes
text1179 = (codes "GET http://h/587 HTTP/1.1\r\n\r\n")

abbrev text1180 : Bytes
text1180 = (codes "GET /587 HTTP/1.1\r\nhost: h\r\nvia: 1.1 polipo\r\n\r\n")

abbrev text1181 : Bytes
text1181 = (codes "GET http://h/588 HTTP/1.1\r\n\r\n")

abbrev text1182 : Bytes
text1182 = (codes "GET /588 HTTP/1.1\r\nhost: h\r\nvia: 1.1 polipo\r\n\r\n")

abbrev text1183 : Bytes
text1183 = (codes "GET http://h/589 HTTP/1.1\r\n\r\n")

abbrev text1184 : Bytes
text1184 = (codes "GET /589 HTTP/1.1\r\nhost: h\r\nvia: 1.1 polipo\r\n\r\n")

abbrev text1185 : Bytes
text1185 = (codes "GET http://h/590 HTTP/1.1\r\n\r\n")

abbrev text1186 : Bytes
text1186 = (codes "GET /590 HTTP/1.1\r\nhost: h\r\nvia: 1.1 polipo\r\n\r\n")

abbrev text1187 : Bytes
text1187 = (codes "GET http://h/591 HTTP/1.1\r\n\r\n")

abbrev text1188 : Bytes
text1188 = (codes "GET /591 HTTP/1.1\r\nhost: h\r\nvia: 1.1 polipo\r\n\r\n")

abbrev text1189 : Bytes
text1189 = (codes "GET http://h/592 HTTP/1.1\r\n\r\n")

abbrev text1190 : Bytes
text1190 = (codes "GET /592 HTTP/1.1\r\nhost: h\r\nvia: 1.1 polipo\r\n\r\n")

abbrev text1191 : Bytes
text1191 = (codes "GET http://h/593 HTTP/1.1\r\n\r\n")

abbrev text1192 : Bytes
text1192 = (codes "GET /593 HTTP/1.1\r\nhost: h\r\nvia: 1.1 polipo\r\n\r\n")

abbrev text1193 : Bytes
text1193 = (codes "GET http://h/594 HTTP/1.1\r\n\r\n")

abbrev text1194 : Bytes
text1194 = (codes "GET /594 HTTP/1.1\r\nhost: h\r\nvia: 1.1 polipo\r\n\r\n")

abbrev text1195 : Bytes
text1195 = (codes "GET http://h/595 HTTP/1.1\r\n\r\n")

abbrev text1196 : Bytes
text1196 = (codes "GET /595 HTTP/1.1\r\nhost: h\r\nvia: 1.1 polipo\r\n\r\n")

abbrev text1197 : Bytes
text1197 = (codes "GET http://h/596 HTTP/1.1\r\n\r\n")

abbrev text1198 : Bytes
text1198 = (codes "GET /596 HTTP/1.1\r\nhost: h\r\nvia: 1.1 polipo\r\n\r\n")

abbrev text1199 : Bytes
text1199 = (codes "GET http://h/597 HTTP/1.1\r\n\r\n")

abbrev text1200 : Bytes
text1200 = (codes "GET /597 HTTP/1.1\r\nhost: h\r\nvia: 1.1 polipo\r\n\r\n")

abbrev text1201 : Bytes
text1201 = (codes "GET http://h/598 HTTP/1.1\r\n\r\n")

abbrev text1202 : Bytes
text1202 = (codes "GET /598 HTTP/1.1\r\nhost: h\r\nvia: 1.1 polipo\r\n\r\n")

abbrev text1203 : Bytes
text1203 = (codes "GET http://h/599 HTTP/1.1\r\n\r\n")

abbrev text1204 : Bytes
text1204 = (codes "GET /599 HTTP/1.1\r\nhost: h\r\nvia: 1.1 polipo\r\n\r\n")

abbrev text1205 : Bytes
text1205 = (codes "GET http://h/600 HTTP/1.1\r\n\r\n")

abbrev text1206 : Bytes
text1206 = (codes "GET /600 HTTP/1.1\r\nhost: h\r\nvia: 1.1 polipo\r\n\r\n")

abbrev text1207 : Bytes
text1207 = (codes "GET http://h/601 HTTP/1.1\r\n\r\n")

abbrev text1208 : Bytes
text1208 = (codes "GET /601 HTTP/1.1\r\nhost: h\r\nvia: 1.1 polipo\r\n\r\n")

abbrev text1209 : Bytes
text1209 = (codes "GET http://h/602 HTTP/1.1\r\n\r\n")

abbrev text1210 : Bytes
text1210 = (codes "GET /602 HTTP/1.1\r\nhost: h\r\nvia: 1.1 polipo\r\n\r\n")

abbrev text1211 : Bytes
text1211 = (codes "GET http://h/603 HTTP/1.1\r\n\r\n")

abbrev text1212 : Bytes
text1212 = (codes "GET /603 HTTP/1.1\r\nhost: h\r\nvia: 1.1 polipo\r\n\r\n")

abbrev text1213 : Bytes
text1213 = (codes "GET http://h/604 HTTP/1.1\r\n\r\n")

abbrev text1214 : Bytes
text1214 = (codes "GET /604 HTTP/1.1\r\nhost: h\r\nvia: 1.1 polipo\r\n\r\n")

abbrev text1215 : Bytes
text1215 = (codes "GET http://h/605 HTTP/1.1\r\n\r\n")

abbrev text1216 : Bytes
text1216 = (codes "GET /605 HTTP/1.1\r\nhost: h\r\nvia: 1.1 polipo\r\n\r\n")

abbrev text1217 : Bytes
text1217 = (codes "GET http://h/606 HTTP/1.1\r\n\r\n")

abbrev text1218 : Bytes
text1218 = (codes "GET /606 HTTP/1.1\r\nhost: h\r\nvia: 1.1 polipo\r\n\r\n")

abbrev text1219 : Bytes
text1219 = (codes "GET http://h/607 HTTP/1.1\r\n\r\n")

abbrev text1220 : Bytes
text1220 = (codes "GET /607 HTTP/1.1\r\nhost: h\r\nvia: 1.1 polipo\r\n\r\n")

abbrev text1221 : Bytes
text1221 = (codes "GET http://h/608 HTTP/1.1\r\n\r\n")

abbrev text1222 : Bytes
text1222 = (codes "GET /608 HTTP/1.1\r\nhost: h\r\nvia: 1.1 polipo\r\n\r\n")

abbrev text1223 : Bytes
text1223 = (codes "GET http://h/609 HTTP/1.1\r\n\r\n")

abbrev text1224 : Bytes
text1224 = (codes "GET /609 HTTP/1.1\r\nhost: h\r\nvia: 1.1 polipo\r\n\r\n")

abbrev text1225 : Bytes
text1225 = (codes "GET http://h/610 HTTP/1.1\r\n\r\n")

abbrev text1226 : Bytes
text1226 = (codes "GET /610 HTTP/1.1\r\nhost: h\r\nvia: 1.1 polipo\r\n\r\n")

abbrev text1227 : Bytes
text1227 = (codes "GET http://h/611 HTTP/1.1\r\n\r\n")

abbrev text1228 : Bytes
text1228 = (codes "GET /611 HTTP/1.1\r\nhost: h\r\nvia: 1.1 polipo\r\n\r\n")

abbrev text1229 : Bytes
text1229 = (codes "GET http://h/612 HTTP/1.1\r\n\r\n")

abbrev text1230 : Bytes
text1230 = (codes "GET /612 HTTP/1.1\r\nhost: h\r\nvia: 1.1 polipo\r\n\r\n")

abbrev text1231 : Bytes
text1231 = (codes "GET http://h/613 HTTP/1.1\r\n\r\n")

abbrev text1232 : Bytes
text1232 = (codes "GET /613 HTTP/1.1\r\nhost: h\r\nvia: 1.1 polipo\r\n\r\n")

abbrev text1233 : Bytes
text1233 = (codes "GET http://h/614 HTTP/1.1\r\n\r\n")

abbrev text1234 : Bytes
text1234 = (codes "GET /614 HTTP/1.1\r\nhost: h\r\nvia: 1.1 polipo\r\n\r\n")

abbrev text1235 : Bytes
text1235 = (codes "GET http://h/615 HTTP/1.1\r\n\r\n")

abbrev text1236 : Bytes
text1236 = (codes "GET /615 HTTP/1.1\r\nhost: h\r\nvia: 1.1 polipo\r\n\r\n")

abbrev text1237 : Bytes
text1237 = (codes "GET http://h/616 HTTP/1.1\r\n\r\n")

abbrev text1238 : Bytes
text1238 = (codes "GET /616 HTTP/1.1\r\nhost: h\r\nvia: 1.1 polipo\r\n\r\n")

abbrev text1239 : Bytes
text1239 = (codes "GET http://h/617 HTTP/1.1\r\n\r\n")

abbrev text1240 : Bytes
text1240 = (codes "GET /617 HTTP/1.1\r\nhost: h\r\nvia: 1.1 polipo\r\n\r\n")

abbrev text1241 : Bytes
text1241 = (codes "GET http://h/618 HTTP/1.1\r\n\r\n")

abbrev text1242 : Bytes
text1242 = (codes "GET /618 HTTP/1.1\r\nhost: h\r\nvia: 1.1 polipo\r\n\r\n")

abbrev text1243 : Bytes
text1243 = (codes "GET http://h/619 HTTP/1.1\r\n\r\n")

abbrev text1244 : Bytes
text1244 = (codes "GET /619 HTTP/1.1\r\nhost: h\r\nvia: 1.1 polipo\r\n\r\n")

abbrev text1245 : Bytes
text1245 = (codes "GET http://h/620 HTTP/1.1\r\n\r\n")

abbrev text1246 : Bytes
text1246 = (codes "GET /620 HTTP/1.1\r\nhost: h\r\nvia: 1.1 polipo\r\n\r\n")

abbrev text1247 : Bytes
text1247 = (codes "GET http://h/621 HTTP/1.1\r\n\r\n")

abbrev text1248 : Bytes
text1248 = (codes "GET /621 HTTP/1.1\r\nhost: h\r\nvia: 1.1 polipo\r\n\r\n")

abbrev text1249 : Bytes
text1249 = (codes "GET http://h/622 HTTP/1.1\r\n\r\n")

abbrev text1250 : Bytes
text1250 = (codes "GET /622 HTTP/1.1\r\nhost: h\r\nvia: 1.1 polipo\r\n\r\n")

abbrev text1251 : Bytes
text1251 = (codes "GET http://h/623 HTTP/1.1\r\n\r\n")

abbrev text1252 : Bytes
text1252 = (codes "GET /623 HTTP/1.1\r\nhost: h\r\nvia: 1.1 polipo\r\n\r\n")

abbrev text1253 : Bytes
text1253 = (codes "GET http://h/624 HTTP/1.1\r\n\r\n")

abbrev text1254 : Bytes
text1254 = (codes "GET /624 HTTP/1.1\r\nhost: h\r\nvia: 1.1 polipo\r\n\r\n")

abbrev text1255 : Bytes
text1255 = (codes "GET http://h/625 HTTP/1.1\r\n\r\n")

abbrev text1256 : Bytes
text1256 = (codes "GET /625 HTTP/1.1\r\nhost: h\r\nvia: 1.1 polipo\r\n\r\n")

abbrev text1257 : Bytes
text1257 = (codes "GET http://h/626 HTTP/1.1\r\n\r\n")

abbrev text1258 : Bytes
text1258 = (codes "GET /626 HTTP/1.1\r\nhost: h\r\nvia: 1.1 polipo\r\n\r\n")

abbrev text1259 : Bytes
text1259 = (codes "GET http://h/627 HTTP/1.1\r\n\r\n")

abbrev text1260 : Bytes
text1260 = (codes "GET /627 HTTP/1.1\r\nhost: h\r\nvia: 1.1 polipo\r\n\r\n")

abbrev text1261 : Bytes
text1261 = (codes "GET http://h/628 HTTP/1.1\r\n\r\n")

abbrev text1262 : Bytes
text1262 = (codes "GET /628 HTTP/1.1\r\nhost: h\r\nvia: 1.1 polipo\r\n\r\n")

abbrev text1263 : Bytes
text1263 = (codes "GET http://h/629 HTTP/1.1\r\n\r\n")

abbrev text1264 : Bytes
text1264 = (codes "GET /629 HTTP/1.1\r\nhost: h\r\nvia: 1.1 polipo\r\n\r\n")

abbrev text1265 : Bytes
text1265 = (codes "GET http://h/630 HTTP/1.1\r\n\r\n")

abbrev text1266 : Bytes
text1266 = (codes "GET /630 HTTP/1.1\r\nhost: h\r\nvia: 1.1 polipo\r\n\r\n")

abbrev text1267 : Bytes
text1267 = (codes "GET http://h/631 HTTP/1.1\r\n\r\n")

abbrev text1268 : Bytes
text1268 = (codes "GET /631 HTTP/1.1\r\nhost: h\r\nvia: 1.1 polipo\r\n\r\n")

abbrev text1269 : Bytes
text1269 = (codes "GET http://h/632 HTTP/1.1\r\n\r\n")

abbrev text1270 : Bytes
text1270 = (codes "GET /632 HTTP/1.1\r\nhost: h\r\nvia: 1.1 polipo\r\n\r\n")

abbrev text1271 : Bytes
text1271 = (codes "GET http://h/633 HTTP/1.1\r\n\r\n")

abbrev text1272 : Bytes
text1272 = (codes "GET /633 HTTP/1.1\r\nhost: h\r\nvia: 1.1 polipo\r\n\r\n")

abbrev text1273 : Bytes
text1273 = (codes "GET http://h/634 HTTP/1.1\r\n\r\n")

abbrev text1274 : Bytes
text1274 = (codes "GET /634 HTTP/1.1\r\nhost: h\r\nvia: 1.1 polipo\r\n\r\n")

abbrev text1275 : Bytes
text1275 = (codes "GET http://h/635 HTTP/1.1\r\n\r\n")

abbrev text1276 : Bytes
text1276 = (codes "GET /635 HTTP/1.1\r\nhost: h\r\nvia: 1.1 polipo\r\n\r\n")

abbrev text1277 : Bytes
text1277 = (codes "GET http://h/636 HTTP/1.1\r\n\r\n")

abbrev text1278 : Bytes
text1278 = (codes "GET /636 HTTP/1.1\r\nhost: h\r\nvia: 1.1 polipo\r\n\r\n")

abbrev text1279 : Bytes
text1279 = (codes "GET http://h/637 HTTP/1.1\r\n\r\n")

abbrev text1280 : Bytes
text1280 = (codes "GET /637 HTTP/1.1\r\nhost: h\r\nvia: 1.1 polipo\r\n\r\n")

abbrev text1281 : Bytes
text1281 = (codes "GET http://h/638 HTTP/1.1\r\n\r\n")

abbrev text1282 : Bytes
text1282 = (codes "GET /638 HTTP/1.1\r\nhost: h\r\nvia: 1.1 polipo\r\n\r\n")

abbrev text1283 : Bytes
text1283 = (codes "GET http://h/639 HTTP/1.1\r\n\r\n")

abbrev text1284 : Bytes
text1284 = (codes "GET /639 HTTP/1.1\r\nhost: h\r\nvia: 1.1 polipo\r\n\r\n")

abbrev text1285 : Bytes
text1285 = (codes "GET http://h/640 HTTP/1.1\r\n\r\n")

abbrev text1286 : Bytes
text1286 = (codes "GET /640 HTTP/1.1\r\nhost: h\r\nvia: 1.1 polipo\r\n\r\n")

abbrev text1287 : Bytes
text1287 = (codes "GET http://h/641 HTTP/1.1\r\n\r\n")

abbrev text1288 : Bytes
text1288 = (codes "GET /641 HTTP/1.1\r\nhost: h\r\nvia: 1.1 polipo\r\n\r\n")

abbrev text1289 : Bytes
text1289 = (codes "GET http://h/642 HTTP/1.1\r\n\r\n")

abbrev text1290 : Bytes
text1290 = (codes "GET /642 HTTP/1.1\r\nhost: h\r\nvia: 1.1 polipo\r\n\r\n")

abbrev text1291 : Bytes
text1291 = (codes "GET http://h/643 HTTP/1.1\r\n\r\n")

abbrev text1292 : Bytes
text1292 = (codes "GET /643 HTTP/1.1\r\nhost: h\r\nvia: 1.1 polipo\r\n\r\n")

abbrev text1293 : Bytes
text1293 = (codes "GET http://h/644 HTTP/1.1\r\n\r\n")

abbrev text1294 : Bytes
text1294 = (codes "GET /644 HTTP/1.1\r\nhost: h\r\nvia: 1.1 polipo\r\n\r\n")

abbrev text1295 : Bytes
text1295 = (codes "GET http://h/645 HTTP/1.1\r\n\r\n")

abbrev text1296 : Bytes
text1296 = (codes "GET /645 HTTP/1.1\r\nhost: h\r\nvia: 1.1 polipo\r\n\r\n")

abbrev text1297 : Bytes
text1297 = (codes "GET http://h/646 HTTP/1.1\r\n\r\n")

abbrev text1298 : Bytes
text1298 = (codes "GET /646 HTTP/1.1\r\nhost: h\r\nvia: 1.1 polipo\r\n\r\n")

abbrev text1299 : Bytes
text1299 = (codes "GET http://h/647 HTTP/1.1\r\n\r\n")

abbrev text1300 : Bytes
text1300 = (codes "GET /647 HTTP/1.1\r\nhost: h\r\nvia: 1.1 polipo\r\n\r\n")

abbrev text1301 : Bytes
text1301 = (codes "GET http://h/648 HTTP/1.1\r\n\r\n")

abbrev text1302 : Bytes
text1302 = (codes "GET /648 HTTP/1.1\r\nhost: h\r\nvia: 1.1 polipo\r\n\r\n")

abbrev text1303 : Bytes
text1303 = (codes "GET http://h/649 HTTP/1.1\r\n\r\n")

abbrev text1304 : Bytes
text1304 = (codes "GET /649 HTTP/1.1\r\nhost: h\r\nvia: 1.1 polipo\r\n\r\n")

abbrev text1305 : Bytes
text1305 = (codes "GET http://h/650 HTTP/1.1\r\n\r\n")

abbrev text1306 : Bytes
text1306 = (codes "GET /650 HTTP/1.1\r\nhost: h\r\nvia: 1.1 polipo\r\n\r\n")

abbrev text1307 : Bytes
text1307 = (codes "GET http://h/651 HTTP/1.1\r\n\r\n")

abbrev text1308 : Bytes
text1308 = (codes "GET /651 HTTP/1.1\r\nhost: h\r\nvia: 1.1 polipo\r\n\r\n")

abbrev text1309 : Bytes
text1309 = (codes "GET http://h/652 HTTP/1.1\r\n\r\n")

abbrev text1310 : Bytes
text1310 = (codes "GET /652 HTTP/1.1\r\nhost: h\r\nvia: 1.1 polipo\r\n\r\n")

abbrev text1311 : Bytes
text1311 = (codes "GET http://h/653 HTTP/1.1\r\n\r\n")

abbrev text1312 : Bytes
text1312 = (codes "GET /653 HTTP/1.1\r\nhost: h\r\nvia: 1.1 polipo\r\n\r\n")

abbrev text1313 : Bytes
text1313 = (codes "GET http://h/654 HTTP/1.1\r\n\r\n")

abbrev text1314 : Bytes
text1314 = (codes "GET /654 HTTP/1.1\r\nhost: h\r\nvia: 1.1 polipo\r\n\r\n")

abbrev text1315 : Bytes
text1315 = (codes "GET http://h/655 HTTP/1.1\r\n\r\n")

abbrev text1316 : Bytes
text1316 = (codes "GET /655 HTTP/1.1\r\nhost: h\r\nvia: 1.1 polipo\r\n\r\n")

abbrev text1317 : Bytes
text1317 = (codes "GET http://h/656 HTTP/1.1\r\n\r\n")

abbrev text1318 : Bytes
text1318 = (codes "GET /656 HTTP/1.1\r\nhost: h\r\nvia: 1.1 polipo\r\n\r\n")

abbrev text1319 : Bytes
text1319 = (codes "GET http://h/657 HTTP/1.1\r\n\r\n")

abbrev text1320 : Bytes
text1320 = (codes "GET /657 HTTP/1.1\r\nhost: h\r\nvia: 1.1 polipo\r\n\r\n")

abbrev text1321 : Bytes
text1321 = (codes "GET http://h/658 HTTP/1.1\r\n\r\n")

abbrev text1322 : Bytes
text1322 = (codes "GET /658 HTTP/1.1\r\nhost: h\r\nvia: 1.1 polipo\r\n\r\n")

abbrev text1323 : Bytes
text1323 = (codes "GET http://h/659 HTTP/1.1\r\n\r\n")

abbrev text1324 : Bytes
text1324 = (codes "GET /659 HTTP/1.1\r\nhost: h\r\nvia: 1.1 polipo\r\n\r\n")

abbrev text1325 : Bytes
text1325 = (codes "GET http://h/660 HTTP/1.1\r\n\r\n")

abbrev text1326 : Bytes
text1326 = (codes "GET /660 HTTP/1.1\r\nhost: h\r\nvia: 1.1 polipo\r\n\r\n")

abbrev text1327 : Bytes
text1327 = (codes "GET http://h/661 HTTP/1.1\r\n\r\n")

abbrev text1328 : Bytes
text1328 = (codes "GET /661 HTTP/1.1\r\nhost: h\r\nvia: 1.1 polipo\r\n\r\n")

abbrev text1329 : Bytes
text1329 = (codes "GET http://h/662 HTTP/1.1\r\n\r\n")

abbrev text1330 : Bytes
text1330 = (codes "GET /662 HTTP/1.1\r\nhost: h\r\nvia: 1.1 polipo\r\n\r\n")

abbrev text1331 : Bytes
text1331 = (codes "GET http://h/663 HTTP/1.1\r\n\r\n")

abbrev text1332 : Bytes
text1332 = (codes "GET /663 HTTP/1.1\r\nhost: h\r\nvia: 1.1 polipo\r\n\r\n")

abbrev text1333 : Bytes
text1333 = (codes "GET http://h/664 HTTP/1.1\r\n\r\n")

abbrev text1334 : Bytes
text1334 = (codes "GET /664 HTTP/1.1\r\nhost: h\r\nvia: 1.1 polipo\r\n\r\n")

abbrev text1335 : Bytes
text1335 = (codes "GET http://h/665 HTTP/1.1\r\n\r\n")

abbrev text1336 : Bytes
text1336 = (codes "GET /665 HTTP/1.1\r\nhost: h\r\nvia: 1.1 polipo\r\n\r\n")

abbrev text1337 : Bytes
text1337 = (codes "GET http://h/666 HTTP/1.1\r\n\r\n")

abbrev text1338 : Bytes
text1338 = (codes "GET /666 HTTP/1.1\r\nhost: h\r\nvia: 1.1 polipo\r\n\r\n")

abbrev text1339 : Bytes
text1339 = (codes "GET http://h/667 HTTP/1.1\r\n\r\n")

abbrev text1340 : Bytes
text1340 = (codes "GET /667 HTTP/1.1\r\nhost: h\r\nvia: 1.1 polipo\r\n\r\n")

abbrev text1341 : Bytes
text1341 = (codes "GET http://h/668 HTTP/1.1\r\n\r\n")

abbrev text1342 : Bytes
text1342 = (codes "GET /668 HTTP/1.1\r\nhost: h\r\nvia: 1.1 polipo\r\n\r\n")

abbrev text1343 : Bytes
text1343 = (codes "GET http://h/669 HTTP/1.1\r\n\r\n")

abbrev text1344 : Bytes
text1344 = (codes "GET /669 HTTP/1.1\r\nhost: h\r\nvia: 1.1 polipo\r\n\r\n")

abbrev text1345 : Bytes
text1345 = (codes "GET http://h/670 HTTP/1.1\r\n\r\n")

abbrev text1346 : Bytes
text1346 = (codes "GET /670 HTTP/1.1\r\nhost: h\r\nvia: 1.1 polipo\r\n\r\n")

abbrev text1347 : Bytes
text1347 = (codes "GET http://h/671 HTTP/1.1\r\n\r\n")

abbrev text1348 : Bytes
text1348 = (codes "GET /671 HTTP/1.1\r\nhost: h\r\nvia: 1.1 polipo\r\n\r\n")

abbrev text1349 : Bytes
text1349 = (codes "GET http://h/672 HTTP/1.1\r\n\r\n")

abbrev text1350 : Bytes
text1350 = (codes "GET /672 HTTP/1.1\r\nhost: h\r\nvia: 1.1 polipo\r\n\r\n")

abbrev text1351 : Bytes
text1351 = (codes "GET http://h/673 HTTP/1.1\r\n\r\n")

abbrev text1352 : Bytes
text1352 = (codes "GET /673 HTTP/1.1\r\nhost: h\r\nvia: 1.1 polipo\r\n\r\n")

abbrev text1353 : Bytes
text1353 = (codes "GET http://h/674 HTTP/1.1\r\n\r\n")

abbrev text1354 : Bytes
text1354 = (codes "GET /674 HTTP/1.1\r\nhost: h\r\nvia: 1.1 polipo\r\n\r\n")

abbrev text1355 : Bytes
text1355 = (codes "GET http://h/675 HTTP/1.1\r\n\r\n")

abbrev text1356 : Bytes
text1356 = (codes "GET /675 HTTP/1.1\r\nhost: h\r\nvia: 1.1 polipo\r\n\r\n")

abbrev text1357 : Bytes
text1357 = (codes "GET http://h/676 HTTP/1.1\r\n\r\n")

abbrev text1358 : Bytes
text1358 = (codes "GET /676 HTTP/1.1\r\nhost: h\r\nvia: 1.1 polipo\r\n\r\n")

abbrev text1359 : Bytes
text1359 = (codes "GET http://h/677 HTTP/1.1\r\n\r\n")

abbrev text1360 : Bytes
text1360 = (codes "GET /677 HTTP/1.1\r\nhost: h\r\nvia: 1.1 polipo\r\n\r\n")

abbrev text1361 : Bytes
text1361 = (codes "GET http://h/678 HTTP/1.1\r\n\r\n")

abbrev text1362 : Bytes
text1362 = (codes "GET /678 HTTP/1.1\r\nhost: h\r\nvia: 1.1 polipo\r\n\r\n")

abbrev text1363 : Bytes
text1363 = (codes "GET http://h/679 HTTP/1.1\r\n\r\n")

abbrev text1364 : Bytes
text1364 = (codes "GET /679 HTTP/1.1\r\nhost: h\r\nvia: 1.1 polipo\r\n\r\n")

abbrev text1365 : Bytes
text1365 = (codes "GET http://h/680 HTTP/1.1\r\n\r\n")

abbrev text1366 : Bytes
text1366 = (codes "GET /680 HTTP/1.1\r\nhost: h\r\nvia: 1.1 polipo\r\n\r\n")

abbrev text1367 : Bytes
text1367 = (codes "GET http://h/681 HTTP/1.1\r\n\r\n")

abbrev text1368 : Bytes
text1368 = (codes "GET /681 HTTP/1.1\r\nhost: h\r\nvia: 1.1 polipo\r\n\r\n")

abbrev text1369 : Bytes
text1369 = (codes "GET http://h/682 HTTP/1.1\r\n\r\n")

abbrev text1370 : Bytes
text1370 = (codes "GET /682 HTTP/1.1\r\nhost: h\r\nvia: 1.1 polipo\r\n\r\n")

abbrev text1371 : Bytes
text1371 = (codes "GET http://h/683 HTTP/1.1\r\n\r\n")

abbrev text1372 : Bytes
text1372 = (codes "GET /683 HTTP/1.1\r\nhost: h\r\nvia: 1.1 polipo\r\n\r\n")

abbrev text1373 : Bytes
text1373 = (codes "GET http://h/684 HTTP/1.1\r\n\r\n")

abbrev text1374 : Bytes
text1374 = (codes "GET /684 HTTP/1.1\r\nhost: h\r\nvia: 1.1 polipo\r\n\r\n")

abbrev text1375 : Bytes
text1375 = (codes "GET http://h/685 HTTP/1.1\r\n\r\n")

abbrev text1376 : Bytes
text1376 = (codes "GET /685 HTTP/1.1\r\nhost: h\r\nvia: 1.1 polipo\r\n\r\n")

abbrev text1377 : Bytes
text1377 = (codes "GET http://h/686 HTTP/1.1\r\n\r\n")

abbrev text1378 : Bytes
text1378 = (codes "GET /686 HTTP/1.1\r\nhost: h\r\nvia: 1.1 polipo\r\n\r\n")

abbrev text1379 : Bytes
text1379 = (codes "GET http://h/687 HTTP/1.1\r\n\r\n")

abbrev text1380 : Bytes
text1380 = (codes "GET /687 HTTP/1.1\r\nhost: h\r\nvia: 1.1 polipo\r\n\r\n")

abbrev text1381 : Bytes
text1381 = (codes "GET http://h/688 HTTP/1.1\r\n\r\n")

abbrev text1382 : Bytes
text1382 = (codes "GET /688 HTTP/1.1\r\nhost: h\r\nvia: 1.1 polipo\r\n\r\n")

abbrev text1383 : Bytes
text1383 = (codes "GET http://h/689 HTTP/1.1\r\n\r\n")

abbrev text1384 : Bytes
text1384 = (codes "GET /689 HTTP/1.1\r\nhost: h\r\nvia: 1.1 polipo\r\n\r\n")

abbrev text1385 : Bytes
text1385 = (codes "GET http://h/690 HTTP/1.1\r\n\r\n")

abbrev text1386 : Bytes
text1386 = (codes "GET /690 HTTP/1.1\r\nhost: h\r\nvia: 1.1 polipo\r\n\r\n")

abbrev text1387 : Bytes
text1387 = (codes "GET http://h/691 HTTP/1.1\r\n\r\n")

abbrev text1388 : Bytes
text1388 = (codes "GET /691 HTTP/1.1\r\nhost: h\r\nvia: 1.1 polipo\r\n\r\n")

abbrev text1389 : Bytes
text1389 = (codes "GET http://h/692 HTTP/1.1\r\n\r\n")

abbrev text1390 : Bytes
text1390 = (codes "GET /692 HTTP/1.1\r\nhost: h\r\nvia: 1.1 polipo\r\n\r\n")

abbrev text1391 : Bytes
text1391 = (codes "GET http://h/693 HTTP/1.1\r\n\r\n")

abbrev text1392 : Bytes
text1392 = (codes "GET /693 HTTP/1.1\r\nhost: h\r\nvia: 1.1 polipo\r\n\r\n")

abbrev text1393 : Bytes
text1393 = (codes "GET http://h/694 HTTP/1.1\r\n\r\n")

abbrev text1394 : Bytes
text1394 = (codes "GET /694 HTTP/1.1\r\nhost: h\r\nvia: 1.1 polipo\r\n\r\n")

abbrev text1395 : Bytes
text1395 = (codes "GET http://h/695 HTTP/1.1\r\n\r\n")

abbrev text1396 : Bytes
text1396 = (codes "GET /695 HTTP/1.1\r\nhost: h\r\nvia: 1.1 polipo\r\n\r\n")

abbrev text1397 : Bytes
text1397 = (codes "GET http://h/696 HTTP/1.1\r\n\r\n")

abbrev text1398 : Bytes
text1398 = (codes "GET /696 HTTP/1.1\r\nhost: h\r\nvia: 1.1 polipo\r\n\r\n")

abbrev text1399 : Bytes
text1399 = (codes "GET http://h/697 HTTP/1.1\r\n\r\n")

abbrev text1400 : Bytes
text1400 = (codes "GET /697 HTTP/1.1\r\nhost: h\r\nvia: 1.1 polipo\r\n\r\n")

abbrev text1401 : Bytes
text1401 = (codes "GET http://h/698 HTTP/1.1\r\n\r\n")

abbrev text1402 : Bytes
text1402 = (codes "GET /698 HTTP/1.1\r\nhost: h\r\nvia: 1.1 polipo\r\n\r\n")

abbrev text1403 : Bytes
text1403 = (codes "GET http://h/699 HTTP/1.1\r\n\r\n")

abbrev text1404 : Bytes
text1404 = (codes "GET /699 HTTP/1.1\r\nhost: h\r\nvia: 1.1 polipo\r\n\r\n")

abbrev text1405 : Bytes
text1405 = (codes "GET http://h/700 HTTP/1.1\r\n\r\n")

abbrev text1406 : Bytes
text1406 = (codes "GET /700 HTTP/1.1\r\nhost: h\r\nvia: 1.1 polipo\r\n\r\n")

abbrev text1407 : Bytes
text1407 = (codes "GET http://h/701 HTTP/1.1\r\n\r\n")

abbrev text1408 : Bytes
text1408 = (codes "GET /701 HTTP/1.1\r\nhost: h\r\nvia: 1.1 polipo\r\n\r\n")

abbrev text1409 : Bytes
text1409 = (codes "GET http://h/702 HTTP/1.1\r\n\r\n")

abbrev text1410 : Bytes
text1410 = (codes "GET /702 HTTP/1.1\r\nhost: h\r\nvia: 1.1 polipo\r\n\r\n")

abbrev text1411 : Bytes
text1411 = (codes "GET http://h/703 HTTP/1.1\r\n\r\n")

abbrev text1412 : Bytes
text1412 = (codes "GET /703 HTTP/1.1\r\nhost: h\r\nvia: 1.1 polipo\r\n\r\n")

abbrev text1413 : Bytes
text1413 = (codes "GET http://h/704 HTTP/1.1\r\n\r\n")

abbrev text1414 : Bytes
text1414 = (codes "GET /704 HTTP/1.1\r\nhost: h\r\nvia: 1.1 polipo\r\n\r\n")

abbrev text1415 : Bytes
text1415 = (codes "GET http://h/705 HTTP/1.1\r\n\r\n")

abbrev text1416 : Bytes
text1416 = (codes "GET /705 HTTP/1.1\r\nhost: h\r\nvia: 1.1 polipo\r\n\r\n")

abbrev text1417 : Bytes
text1417 = (codes "GET http://h/706 HTTP/1.1\r\n\r\n")

abbrev text1418 : Bytes
text1418 = (codes "GET /706 HTTP/1.1\r\nhost: h\r\nvia: 1.1 polipo\r\n\r\n")

abbrev text1419 : Bytes
text1419 = (codes "GET http://h/707 HTTP/1.1\r\n\r\n")

abbrev text1420 : Bytes
text1420 = (codes "GET /707 HTTP/1.1\r\nhost: h\r\nvia: 1.1 polipo\r\n\r\n")

abbrev text1421 : Bytes
text1421 = (codes "GET http://h/708 HTTP/1.1\r\n\r\n")

abbrev text1422 : Bytes
text1422 = (codes "GET /708 HTTP/1.1\r\nhost: h\r\nvia: 1.1 polipo\r\n\r\n")

abbrev text1423 : Bytes
text1423 = (codes "GET http://h/709 HTTP/1.1\r\n\r\n")

abbrev text1424 : Bytes
text1424 = (codes "GET /709 HTTP/1.1\r\nhost: h\r\nvia: 1.1 polipo\r\n\r\n")

abbrev text1425 : Bytes
text1425 = (codes "GET http://h/710 HTTP/1.1\r\n\r\n")

abbrev text1426 : Bytes
text1426 = (codes "GET /710 HTTP/1.1\r\nhost: h\r\nvia: 1.1 polipo\r\n\r\n")

abbrev text1427 : Bytes
text1427 = (codes "GET http://h/711 HTTP/1.1\r\n\r\n")

abbrev text1428 : Bytes
text1428 = (codes "GET /711 HTTP/1.1\r\nhost: h\r\nvia: 1.1 polipo\r\n\r\n")

abbrev text1429 : Bytes
text1429 = (codes "GET http://h/712 HTTP/1.1\r\n\r\n")

abbrev text1430 : Bytes
text1430 = (codes "GET /712 HTTP/1.1\r\nhost: h\r\nvia: 1.1 polipo\r\n\r\n")

abbrev text1431 : Bytes
text1431 = (codes "GET http://h/713 HTTP/1.1\r\n\r\n")

abbrev text1432 : Bytes
text1432 = (codes "GET /713 HTTP/1.1\r\nhost: h\r\nvia: 1.1 polipo\r\n\r\n")

abbrev text1433 : Bytes
text1433 = (codes "GET http://h/714 HTTP/1.1\r\n\r\n")

abbrev text1434 : Bytes
text1434 = (codes "GET /714 HTTP/1.1\r\nhost: h\r\nvia: 1.1 polipo\r\n\r\n")

abbrev text1435 : Bytes
text1435 = (codes "GET http://h/715 HTTP/1.1\r\n\r\n")

abbrev text1436 : Bytes
text1436 = (codes "GET /715 HTTP/1.1\r\nhost: h\r\nvia: 1.1 polipo\r\n\r\n")

abbrev text1437 : Bytes
text1437 = (codes "GET http://h/716 HTTP/1.1\r\n\r\n")

abbrev text1438 : Bytes
text1438 = (codes "GET /716 HTTP/1.1\r\nhost: h\r\nvia: 1.1 polipo\r\n\r\n")

abbrev text1439 : Bytes
text1439 = (codes "GET http://h/717 HTTP/1.1\r\n\r\n")

abbrev text1440 : Bytes
text1440 = (codes "GET /717 HTTP/1.1\r\nhost: h\r\nvia: 1.1 polipo\r\n\r\n")

abbrev text1441 : Bytes
text1441 = (codes "GET http://h/718 HTTP/1.1\r\n\r\n")

abbrev text1442 : Bytes
text1442 = (codes "GET /718 HTTP/1.1\r\nhost: h\r\nvia: 1.1 polipo\r\n\r\n")

abbrev text1443 : Bytes
text1443 = (codes "GET http://h/719 HTTP/1.1\r\n\r\n")

abbrev text1444 : Bytes
text1444 = (codes "GET /719 HTTP/1.1\r\nhost: h\r\nvia: 1.1 polipo\r\n\r\n")

abbrev text1445 : Bytes
text1445 = (codes "GET http://h/720 HTTP/1.1\r\n\r\n")

abbrev text1446 : Bytes
text1446 = (codes "GET /720 HTTP/1.1\r\nhost: h\r\nvia: 1.1 polipo\r\n\r\n")

abbrev text1447 : Bytes
text1447 = (codes "GET http://h/721 HTTP/1.1\r\n\r\n")

abbrev text1448 : Bytes
text1448 = (codes "GET /721 HTTP/1.1\r\nhost: h\r\nvia: 1.1 polipo\r\n\r\n")

abbrev text1449 : Bytes
text1449 = (codes "GET http://h/722 HTTP/1.1\r\n\r\n")

abbrev text1450 : Bytes
text1450 = (codes "GET /722 HTTP/1.1\r\nhost: h\r\nvia: 1.1 polipo\r\n\r\n")

abbrev text1451 : Bytes
text1451 = (codes "GET http://h/723 HTTP/1.1\r\n\r\n")

abbrev text1452 : Bytes
text1452 = (codes "GET /723 HTTP/1.1\r\nhost: h\r\nvia: 1.1 polipo\r\n\r\n")

abbrev text1453 : Bytes
text1453 = (codes "GET http://h/724 HTTP/1.1\r\n\r\n")

abbrev text1454 : Bytes
text1454 = (codes "GET /724 HTTP/1.1\r\nhost: h\r\nvia: 1.1 polipo\r\n\r\n")

abbrev text1455 : Bytes
text1455 = (codes "GET http://h/725 HTTP/1.1\r\n\r\n")

abbrev text1456 : Bytes
text1456 = (codes "GET /725 HTTP/1.1\r\nhost: h\r\nvia: 1.1 polipo\r\n\r\n")

abbrev text1457 : Bytes
text1457 = (codes "GET http://h/726 HTTP/1.1\r\n\r\n")

abbrev text1458 : Bytes
text1458 = (codes "GET /726 HTTP/1.1\r\nhost: h\r\nvia: 1.1 polipo\r\n\r\n")

abbrev text1459 : Bytes
text1459 = (codes "GET http://h/727 HTTP/1.1\r\n\r\n")

abbrev text1460 : Bytes
text1460 = (codes "GET /727 HTTP/1.1\r\nhost: h\r\nvia: 1.1 polipo\r\n\r\n")

abbrev text1461 : Bytes
text1461 = (codes "GET http://h/728 HTTP/1.1\r\n\r\n")

abbrev text1462 : Bytes
text1462 = (codes "GET /728 HTTP/1.1\r\nhost: h\r\nvia: 1.1 polipo\r\n\r\n")

abbrev text1463 : Bytes
text1463 = (codes "GET http://h/729 HTTP/1.1\r\n\r\n")

abbrev text1464 : Bytes
text1464 = (codes "GET /729 HTTP/1.1\r\nhost: h\r\nvia: 1.1 polipo\r\n\r\n")

abbrev text1465 : Bytes
text1465 = (codes "GET http://h/730 HTTP/1.1\r\n\r\n")

abbrev text1466 : Bytes
text1466 = (codes "GET /730 HTTP/1.1\r\nhost: h\r\nvia: 1.1 polipo\r\n\r\n")

abbrev text1467 : Bytes
text1467 = (codes "GET http://h/731 HTTP/1.1\r\n\r\n")

abbrev text1468 : Bytes
text1468 = (codes "GET /731 HTTP/1.1\r\nhost: h\r\nvia: 1.1 polipo\r\n\r\n")

abbrev text1469 : Bytes
text1469 = (codes "GET http://h/732 HTTP/1.1\r\n\r\n")

abbrev text1470 : Bytes
text1470 = (codes "GET /732 HTTP/1.1\r\nhost: h\r\nvia: 1.1 polipo\r\n\r\n")

abbrev text1471 : Bytes
text1471 = (codes "GET http://h/733 HTTP/1.1\r\n\r\n")

abbrev text1472 : Bytes
text1472 = (codes "GET /733 HTTP/1.1\r\nhost: h\r\nvia: 1.1 polipo\r\n\r\n")

abbrev text1473 : Bytes
text1473 = (codes "GET http://h/734 HTTP/1.1\r\n\r\n")

abbrev text1474 : Bytes
text1474 = (codes "GET /734 HTTP/1.1\r\nhost: h\r\nvia: 1.1 polipo\r\n\r\n")

abbrev text1475 : Bytes
text1475 = (codes "GET http://h/735 HTTP/1.1\r\n\r\n")

abbrev text1476 : Bytes
text1476 = (codes "GET /735 HTTP/1.1\r\nhost: h\r\nvia: 1.1 polipo\r\n\r\n")

abbrev text1477 : Bytes
text1477 = (codes "GET http://h/736 HTTP/1.1\r\n\r\n")

abbrev text1478 : Bytes
text1478 = (codes "GET /736 HTTP/1.1\r\nhost: h\r\nvia: 1.1 polipo\r\n\r\n")

abbrev text1479 : Bytes
text1479 = (codes "GET http://h/737 HTTP/1.1\r\n\r\n")

abbrev text1480 : Bytes
text1480 = (codes "GET /737 HTTP/1.1\r\nhost: h\r\nvia: 1.1 polipo\r\n\r\n")

abbrev text1481 : Bytes
text1481 = (codes "GET http://h/738 HTTP/1.1\r\n\r\n")

abbrev text1482 : Bytes
text1482 = (codes "GET /738 HTTP/1.1\r\nhost: h\r\nvia: 1.1 polipo\r\n\r\n")

abbrev text1483 : Bytes
text1483 = (codes "GET http://h/739 HTTP/1.1\r\n\r\n")

abbrev text1484 : Bytes
text1484 = (codes "GET /739 HTTP/1.1\r\nhost: h\r\nvia: 1.1 polipo\r\n\r\n")

abbrev text1485 : Bytes
text1485 = (codes "GET http://h/740 HTTP/1.1\r\n\r\n")

abbrev text1486 : Bytes
text1486 = (codes "GET /740 HTTP/1.1\r\nhost: h\r\nvia: 1.1 polipo\r\n\r\n")

abbrev text1487 : Bytes
text1487 = (codes "GET http://h/741 HTTP/1.1\r\n\r\n")

abbrev text1488 : Bytes
text1488 = (codes "GET /741 HTTP/1.1\r\nhost: h\r\nvia: 1.1 polipo\r\n\r\n")

abbrev text1489 : Bytes
text1489 = (codes "GET http://h/742 HTTP/1.1\r\n\r\n")

abbrev text1490 : Bytes
text1490 = (codes "GET /742 HTTP/1.1\r\nhost: h\r\nvia: 1.1 polipo\r\n\r\n")

abbrev text1491 : Bytes
text1491 = (codes "GET http://h/743 HTTP/1.1\r\n\r\n")

abbrev text1492 : Bytes
text1492 = (codes "GET /743 HTTP/1.1\r\nhost: h\r\nvia: 1.1 polipo\r\n\r\n")

abbrev text1493 : Bytes
text1493 = (codes "GET http://h/744 HTTP/1.1\r\n\r\n")

abbrev text1494 : Bytes
text1494 = (codes "GET /744 HTTP/1.1\r\nhost: h\r\nvia: 1.1 polipo\r\n\r\n")

abbrev text1495 : Bytes
text1495 = (codes "GET http://h/745 HTTP/1.1\r\n\r\n")

abbrev text1496 : Bytes
text1496 = (codes "GET /745 HTTP/1.1\r\nhost: h\r\nvia: 1.1 polipo\r\n\r\n")

abbrev text1497 : Bytes
text1497 = (codes "GET http://h/746 HTTP/1.1\r\n\r\n")

abbrev text1498 : Bytes
text1498 = (codes "GET /746 HTTP/1.1\r\nhost: h\r\nvia: 1.1 polipo\r\n\r\n")

abbrev text1499 : Bytes
text1499 = (codes "GET http://h/747 HTTP/1.1\r\n\r\n")

abbrev text1500 : Bytes
text1500 = (codes "GET /747 HTTP/1.1\r\nhost: h\r\nvia: 1.1 polipo\r\n\r\n")

abbrev text1501 : Bytes
text1501 = (codes "GET http://h/748 HTTP/1.1\r\n\r\n")

abbrev text1502 : Bytes
text1502 = (codes "GET /748 HTTP/1.1\r\nhost: h\r\nvia: 1.1 polipo\r\n\r\n")

abbrev text1503 : Bytes
text1503 = (codes "GET http://h/749 HTTP/1.1\r\n\r\n")

abbrev text1504 : Bytes
text1504 = (codes "GET /749 HTTP/1.1\r\nhost: h\r\nvia: 1.1 polipo\r\n\r\n")

abbrev text1505 : Bytes
text1505 = (codes "GET http://h/750 HTTP/1.1\r\n\r\n")

abbrev text1506 : Bytes
text1506 = (codes "GET /750 HTTP/1.1\r\nhost: h\r\nvia: 1.1 polipo\r\n\r\n")

abbrev text1507 : Bytes
text1507 = (codes "GET http://h/751 HTTP/1.1\r\n\r\n")

abbrev text1508 : Bytes
text1508 = (codes "GET /751 HTTP/1.1\r\nhost: h\r\nvia: 1.1 polipo\r\n\r\n")

abbrev text1509 : Bytes
text1509 = (codes "GET http://h/752 HTTP/1.1\r\n\r\n")

abbrev text1510 : Bytes
text1510 = (codes "GET /752 HTTP/1.1\r\nhost: h\r\nvia: 1.1 polipo\r\n\r\n")

abbrev text1511 : Bytes
text1511 = (codes "GET http://h/753 HTTP/1.1\r\n\r\n")

abbrev text1512 : Bytes
text1512 = (codes "GET /753 HTTP/1.1\r\nhost: h\r\nvia: 1.1 polipo\r\n\r\n")

abbrev text1513 : Bytes
text1513 = (codes "GET http://h/754 HTTP/1.1\r\n\r\n")

abbrev text1514 : Bytes
text1514 = (codes "GET /754 HTTP/1.1\r\nhost: h\r\nvia: 1.1 polipo\r\n\r\n")

abbrev text1515 : Bytes
text1515 = (codes "GET http://h/755 HTTP/1.1\r\n\r\n")

abbrev text1516 : Bytes
text1516 = (codes "GET /755 HTTP/1.1\r\nhost: h\r\nvia: 1.1 polipo\r\n\r\n")

abbrev text1517 : Bytes
text1517 = (codes "GET http://h/756 HTTP/1.1\r\n\r\n")

abbrev text1518 : Bytes
text1518 = (codes "GET /756 HTTP/1.1\r\nhost: h\r\nvia: 1.1 polipo\r\n\r\n")

abbrev text1519 : Bytes
text1519 = (codes "GET http://h/757 HTTP/1.1\r\n\r\n")

abbrev text1520 : Bytes
text1520 = (codes "GET /757 HTTP/1.1\r\nhost: h\r\nvia: 1.1 polipo\r\n\r\n")

abbrev text1521 : Bytes
text1521 = (codes "GET http://h/758 HTTP/1.1\r\n\r\n")

abbrev text1522 : Bytes
text1522 = (codes "GET /758 HTTP/1.1\r\nhost: h\r\nvia: 1.1 polipo\r\n\r\n")

abbrev text1523 : Bytes
text1523 = (codes "GET http://h/759 HTTP/1.1\r\n\r\n")

abbrev text1524 : Bytes
text1524 = (codes "GET /759 HTTP/1.1\r\nhost: h\r\nvia: 1.1 polipo\r\n\r\n")

abbrev text1525 : Bytes
text1525 = (codes "GET http://h/760 HTTP/1.1\r\n\r\n")

abbrev text1526 : Bytes
text1526 = (codes "GET /760 HTTP/1.1\r\nhost: h\r\nvia: 1.1 polipo\r\n\r\n")

abbrev text1527 : Bytes
text1527 = (codes "GET http://h/761 HTTP/1.1\r\n\r\n")

abbrev text1528 : Bytes
text1528 = (codes "GET /761 HTTP/1.1\r\nhost: h\r\nvia: 1.1 polipo\r\n\r\n")

abbrev text1529 : Bytes
text1529 = (codes "GET http://h/762 HTTP/1.1\r\n\r\n")

abbrev text1530 : Bytes
text1530 = (codes "GET /762 HTTP/1.1\r\nhost: h\r\nvia: 1.1 polipo\r\n\r\n")

abbrev text1531 : Bytes
text1531 = (codes "GET http://h/763 HTTP/1.1\r\n\r\n")

abbrev text1532 : Bytes
text1532 = (codes "GET /763 HTTP/1.1\r\nhost: h\r\nvia: 1.1 polipo\r\n\r\n")

abbrev text1533 : Bytes
text1533 = (codes "GET http://h/764 HTTP/1.1\r\n\r\n")

abbrev text1534 : Bytes
text1534 = (codes "GET /764 HTTP/1.1\r\nhost: h\r\nvia: 1.1 polipo\r\n\r\n")

abbrev text1535 : Bytes
text1535 = (codes "GET http://h/765 HTTP/1.1\r\n\r\n")

abbrev text1536 : Bytes
text1536 = (codes "GET /765 HTTP/1.1\r\nhost: h\r\nvia: 1.1 polipo\r\n\r\n")

abbrev text1537 : Bytes
text1537 = (codes "GET http://h/766 HTTP/1.1\r\n\r\n")

abbrev text1538 : Bytes
text1538 = (codes "GET /766 HTTP/1.1\r\nhost: h\r\nvia: 1.1 polipo\r\n\r\n")

abbrev text1539 : Bytes
text1539 = (codes "GET http://h/767 HTTP/1.1\r\n\r\n")

abbrev text1540 : Bytes
text1540 = (codes "GET /767 HTTP/1.1\r\nhost: h\r\nvia: 1.1 polipo\r\n\r\n")

abbrev text1541 : Bytes
text1541 = (codes "GET http://h/768 HTTP/1.1\r\n\r\n")

abbrev text1542 : Bytes
text1542 = (codes "GET /768 HTTP/1.1\r\nhost: h\r\nvia: 1.1 polipo\r\n\r\n")

abbrev text1543 : Bytes
text1543 = (codes "GET http://h/769 HTTP/1.1\r\n\r\n")

abbrev text1544 : Bytes
text1544 = (codes "GET /769 HTTP/1.1\r\nhost: h\r\nvia: 1.1 polipo\r\n\r\n")

abbrev text1545 : Bytes
text1545 = (codes "GET http://h/770 HTTP/1.1\r\n\r\n")

abbrev text1546 : Bytes
text1546 = (codes "GET /770 HTTP/1.1\r\nhost: h\r\nvia: 1.1 polipo\r\n\r\n")

abbrev text1547 : Bytes
text1547 = (codes "GET http://h/771 HTTP/1.1\r\n\r\n")

abbrev text1548 : Bytes
text1548 = (codes "GET /771 HTTP/1.1\r\nhost: h\r\nvia: 1.1 polipo\r\n\r\n")

abbrev text1549 : Bytes
text1549 = (codes "GET http://h/772 HTTP/1.1\r\n\r\n")

abbrev text1550 : Bytes
text1550 = (codes "GET /772 HTTP/1.1\r\nhost: h\r\nvia: 1.1 polipo\r\n\r\n")

abbrev text1551 : Bytes
text1551 = (codes "GET http://h/773 HTTP/1.1\r\n\r\n")

abbrev text1552 : Bytes
text1552 = (codes "GET /773 HTTP/1.1\r\nhost: h\r\nvia: 1.1 polipo\r\n\r\n")

abbrev text1553 : Bytes
text1553 = (codes "GET http://h/774 HTTP/1.1\r\n\r\n")

abbrev text1554 : Bytes
text1554 = (codes "GET /774 HTTP/1.1\r\nhost: h\r\nvia: 1.1 polipo\r\n\r\n")

abbrev text1555 : Bytes
text1555 = (codes "GET http://h/775 HTTP/1.1\r\n\r\n")

abbrev text1556 : Bytes
text1556 = (codes "GET /775 HTTP/1.1\r\nhost: h\r\nvia: 1.1 polipo\r\n\r\n")

abbrev text1557 : Bytes
text1557 = (codes "GET http://h/776 HTTP/1.1\r\n\r\n")

abbrev text1558 : Bytes
text1558 = (codes "GET /776 HTTP/1.1\r\nhost: h\r\nvia: 1.1 polipo\r\n\r\n")

abbrev text1559 : Bytes
text1559 = (codes "GET http://h/777 HTTP/1.1\r\n\r\n")

abbrev text1560 : Bytes
text1560 = (codes "GET /777 HTTP/1.1\r\nhost: h\r\nvia: 1.1 polipo\r\n\r\n")

abbrev text1561 : Bytes
text1561 = (codes "GET http://h/778 HTTP/1.1\r\n\r\n")

abbrev text1562 : Bytes
text1562 = (codes "GET /778 HTTP/1.1\r\nhost: h\r\nvia: 1.1 polipo\r\n\r\n")

abbrev text1563 : Bytes
text1563 = (codes "GET http://h/779 HTTP/1.1\r\n\r\n")

abbrev text1564 : Bytes
text1564 = (codes "GET /779 HTTP/1.1\r\nhost: h\r\nvia: 1.1 polipo\r\n\r\n")

abbrev text1565 : Bytes
text1565 = (codes "GET http://h/780 HTTP/1.1\r\n\r\n")

abbrev text1566 : Bytes
text1566 = (codes "GET /780 HTTP/1.1\r\nhost: h\r\nvia: 1.1 polipo\r\n\r\n")

abbrev text1567 : Bytes
text1567 = (codes "GET http://h/781 HTTP/1.1\r\n\r\n")

abbrev text1568 : Bytes
text1568 = (codes "GET /781 HTTP/1.1\r\nhost: h\r\nvia: 1.1 polipo\r\n\r\n")

abbrev text1569 : Bytes
text1569 = (codes "GET http://h/782 HTTP/1.1\r\n\r\n")

abbrev text1570 : Bytes
text1570 = (codes "GET /782 HTTP/1.1\r\nhost: h\r\nvia: 1.1 polipo\r\n\r\n")

abbrev text1571 : Bytes
text1571 = (codes "GET http://h/783 HTTP/1.1\r\n\r\n")

abbrev text1572 : Bytes
text1572 = (codes "GET /783 HTTP/1.1\r\nhost: h\r\nvia: 1.1 polipo\r\n\r\n")

abbrev text1573 : Bytes
text1573 = (codes "GET http://h/784 HTTP/1.1\r\n\r\n")

abbrev text1574 : Bytes
text1574 = (codes "GET /784 HTTP/1.1\r\nhost: h\r\nvia: 1.1 polipo\r\n\r\n")

abbrev text1575 : Bytes
text1575 = (codes "GET http://h/785 HTTP/1.1\r\n\r\n")

abbrev text1576 : Bytes
text1576 = (codes "GET /785 HTTP/1.1\r\nhost: h\r\nvia: 1.1 polipo\r\n\r\n")

abbrev text1577 : Bytes
text1577 = (codes "GET http://h/786 HTTP/1.1\r\n\r\n")

abbrev text1578 : Bytes
text1578 = (codes "GET /786 HTTP/1.1\r\nhost: h\r\nvia: 1.1 polipo\r\n\r\n")

abbrev text1579 : Bytes
text1579 = (codes "GET http://h/787 HTTP/1.1\r\n\r\n")

abbrev text1580 : Bytes
text1580 = (codes "GET /787 HTTP/1.1\r\nhost: h\r\nvia: 1.1 polipo\r\n\r\n")

abbrev text1581 : Bytes
text1581 = (codes "GET http://h/788 HTTP/1.1\r\n\r\n")

abbrev text1582 : Bytes
text1582 = (codes "GET /788 HTTP/1.1\r\nhost: h\r\nvia: 1.1 polipo\r\n\r\n")

abbrev text1583 : Bytes
text1583 = (codes "GET http://h/789 HTTP/1.1\r\n\r\n")

abbrev text1584 : Bytes
text1584 = (codes "GET /789 HTTP/1.1\r\nhost: h\r\nvia: 1.1 polipo\r\n\r\n")

abbrev text1585 : Bytes
text1585 = (codes "GET http://h/790 HTTP/1.1\r\n\r\n")

abbrev text1586 : Bytes
text1586 = (codes "GET /790 HTTP/1.1\r\nhost: h\r\nvia: 1.1 polipo\r\n\r\n")

abbrev text1587 : Bytes
text1587 = (codes "GET http://h/791 HTTP/1.1\r\n\r\n")

abbrev text1588 : Bytes
text1588 = (codes "GET /791 HTTP/1.1\r\nhost: h\r\nvia: 1.1 polipo\r\n\r\n")

abbrev text1589 : Bytes
text1589 = (codes "GET http://h/792 HTTP/1.1\r\n\r\n")

abbrev text1590 : Bytes
text1590 = (codes "GET /792 HTTP/1.1\r\nhost: h\r\nvia: 1.1 polipo\r\n\r\n")

abbrev text1591 : Bytes
text1591 = (codes "GET http://h/793 HTTP/1.1\r\n\r\n")

abbrev text1592 : Bytes
text1592 = (codes "GET /793 HTTP/1.1\r\nhost: h\r\nvia: 1.1 polipo\r\n\r\n")

abbrev text1593 : Bytes
text1593 = (codes "GET http://h/794 HTTP/1.1\r\n\r\n")

abbrev text1594 : Bytes
text1594 = (codes "GET /794 HTTP/1.1\r\nhost: h\r\nvia: 1.1 polipo\r\n\r\n")

abbrev text1595 : Bytes
text1595 = (codes "GET http://h/795 HTTP/1.1\r\n\r\n")

abbrev text1596 : Bytes
text1596 = (codes "GET /795 HTTP/1.1\r\nhost: h\r\nvia: 1.1 polipo\r\n\r\n")

abbrev text1597 : Bytes
text1597 = (codes "GET http://h/796 HTTP/1.1\r\n\r\n")

abbrev text1598 : Bytes
text1598 = (codes "GET /796 HTTP/1.1\r\nhost: h\r\nvia: 1.1 polipo\r\n\r\n")

abbrev text1599 : Bytes
text1599 = (codes "GET http://h/797 HTTP/1.1\r\n\r\n")

abbrev text1600 : Bytes
text1600 = (codes "GET /797 HTTP/1.1\r\nhost: h\r\nvia: 1.1 polipo\r\n\r\n")

abbrev text1601 : Bytes
text1601 = (codes "GET http://h/798 HTTP/1.1\r\n\r\n")

abbrev text1602 : Bytes
text1602 = (codes "GET /798 HTTP/1.1\r\nhost: h\r\nvia: 1.1 polipo\r\n\r\n")

abbrev text1603 : Bytes
text1603 = (codes "GET http://h/799 HTTP/1.1\r\n\r\n")

abbrev text1604 : Bytes
text1604 = (codes "GET /799 HTTP/1.1\r\nhost: h\r\nvia: 1.1 polipo\r\n\r\n")

abbrev text1605 : Bytes
text1605 = (codes "GET http://h/800 HTTP/1.1\r\n\r\n")

abbrev text1606 : Bytes
text1606 = (codes "GET /800 HTTP/1.1\r\nhost: h\r\nvia: 1.1 polipo\r\n\r\n")

abbrev text1607 : Bytes
text1607 = (codes "GET http://h/801 HTTP/1.1\r\n\r\n")

abbrev text1608 : Bytes
text1608 = (codes "GET /801 HTTP/1.1\r\nhost: h\r\nvia: 1.1 polipo\r\n\r\n")

abbrev text1609 : Bytes
text1609 = (codes "GET http://h/802 HTTP/1.1\r\n\r\n")

abbrev text1610 : Bytes
text1610 = (codes "GET /802 HTTP/1.1\r\nhost: h\r\nvia: 1.1 polipo\r\n\r\n")

abbrev text1611 : Bytes
text1611 = (codes "GET http://h/803 HTTP/1.1\r\n\r\n")

abbrev text1612 : Bytes
text1612 = (codes "GET /803 HTTP/1.1\r\nhost: h\r\nvia: 1.1 polipo\r\n\r\n")

abbrev text1613 : Bytes
text1613 = (codes "GET http://h/804 HTTP/1.1\r\n\r\n")

abbrev text1614 : Bytes
text1614 = (codes "GET /804 HTTP/1.1\r\nhost: h\r\nvia: 1.1 polipo\r\n\r\n")

abbrev text1615 : Bytes
text1615 = (codes "GET http://h/805 HTTP/1.1\r\n\r\n")

abbrev text1616 : Bytes
text1616 = (codes "GET /805 HTTP/1.1\r\nhost: h\r\nvia: 1.1 polipo\r\n\r\n")

abbrev text1617 : Bytes
text1617 = (codes "GET http://h/806 HTTP/1.1\r\n\r\n")

abbrev text1618 : Bytes
text1618 = (codes "GET /806 HTTP/1.1\r\nhost: h\r\nvia: 1.1 polipo\r\n\r\n")

abbrev text1619 : Bytes
text1619 = (codes "GET http://h/807 HTTP/1.1\r\n\r\n")

abbrev text1620 : Bytes
text1620 = (codes "GET /807 HTTP/1.1\r\nhost: h\r\nvia: 1.1 polipo\r\n\r\n")

abbrev text1621 : Bytes
text1621 = (codes "GET http://h/808 HTTP/1.1\r\n\r\n")

abbrev text1622 : Bytes
text1622 = (codes "GET /808 HTTP/1.1\r\nhost: h\r\nvia: 1.1 polipo\r\n\r\n")

abbrev text1623 : Bytes
text1623 = (codes "GET http://h/809 HTTP/1.1\r\n\r\n")

abbrev text1624 : Bytes
text1624 = (codes "GET /809 HTTP/1.1\r\nhost: h\r\nvia: 1.1 polipo\r\n\r\n")

abbrev text1625 : Bytes
text1625 = (codes "GET http://h/810 HTTP/1.1\r\n\r\n")

abbrev text1626 : Bytes
text1626 = (codes "GET /810 HTTP/1.1\r\nhost: h\r\nvia: 1.1 polipo\r\n\r\n")

abbrev text1627 : Bytes
text1627 = (codes "GET http://h/811 HTTP/1.1\r\n\r\n")

abbrev text1628 : Bytes
text1628 = (codes "GET /811 HTTP/1.1\r\nhost: h\r\nvia: 1.1 polipo\r\n\r\n")

abbrev text1629 : Bytes
text1629 = (codes "GET http://h/812 HTTP/1.1\r\n\r\n")

abbrev text1630 : Bytes
text1630 = (codes "GET /812 HTTP/1.1\r\nhost: h\r\nvia: 1.1 polipo\r\n\r\n")

abbrev text1631 : Bytes
text1631 = (codes "GET http://h/813 HTTP/1.1\r\n\r\n")

abbrev text1632 : Bytes
text1632 = (codes "GET /813 HTTP/1.1\r\nhost: h\r\nvia: 1.1 polipo\r\n\r\n")

abbrev text1633 : Bytes
text1633 = (codes "GET http://h/814 HTTP/1.1\r\n\r\n")

abbrev text1634 : Bytes
text1634 = (codes "GET /814 HTTP/1.1\r\nhost: h\r\nvia: 1.1 polipo\r\n\r\n")

abbrev text1635 : Bytes
text1635 = (codes "GET http://h/815 HTTP/1.1\r\n\r\n")

abbrev text1636 : Bytes
text1636 = (codes "GET /815 HTTP/1.1\r\nhost: h\r\nvia: 1.1 polipo\r\n\r\n")

abbrev text1637 : Bytes
text1637 = (codes "GET http://h/816 HTTP/1.1\r\n\r\n")

abbrev text1638 : Bytes
text1638 = (codes "GET /816 HTTP/1.1\r\nhost: h\r\nvia: 1.1 polipo\r\n\r\n")

abbrev text1639 : Bytes
text1639 = (codes "GET http://h/817 HTTP/1.1\r\n\r\n")

abbrev text1640 : Bytes
text1640 = (codes "GET /817 HTTP/1.1\r\nhost: h\r\nvia: 1.1 polipo\r\n\r\n")

abbrev text1641 : Bytes
text1641 = (codes "GET http://h/818 HTTP/1.1\r\n\r\n")

abbrev text1642 : Bytes
text1642 = (codes "GET /818 HTTP/1.1\r\nhost: h\r\nvia: 1.1 polipo\r\n\r\n")

abbrev text1643 : Bytes
text1643 = (codes "GET http://h/819 HTTP/1.1\r\n\r\n")

abbrev text1644 : Bytes
text1644 = (codes "GET /819 HTTP/1.1\r\nhost: h\r\nvia: 1.1 polipo\r\n\r\n")

abbrev text1645 : Bytes
text1645 = (codes "GET http://h/820 HTTP/1.1\r\n\r\n")

abbrev text1646 : Bytes
text1646 = (codes "GET /820 HTTP/1.1\r\nhost: h\r\nvia: 1.1 polipo\r\n\r\n")

abbrev text1647 : Bytes
text1647 = (codes "GET http://h/821 HTTP/1.1\r\n\r\n")

abbrev text1648 : Bytes
text1648 = (codes "GET /821 HTTP/1.1\r\nhost: h\r\nvia: 1.1 polipo\r\n\r\n")

abbrev text1649 : Bytes
text1649 = (codes "GET http://h/822 HTTP/1.1\r\n\r\n")

abbrev text1650 : Bytes
text1650 = (codes "GET /822 HTTP/1.1\r\nhost: h\r\nvia: 1.1 polipo\r\n\r\n")

abbrev text1651 : Bytes
text1651 = (codes "GET http://h/823 HTTP/1.1\r\n\r\n")

abbrev text1652 : Bytes
text1652 = (codes "GET /823 HTTP/1.1\r\nhost: h\r\nvia: 1.1 polipo\r\n\r\n")

abbrev text1653 : Bytes
text1653 = (codes "GET http://h/824 HTTP/1.1\r\n\r\n")

abbrev text1654 : Bytes
text1654 = (codes "GET /824 HTTP/1.1\r\nhost: h\r\nvia: 1.1 polipo\r\n\r\n")

abbrev text1655 : Bytes
text1655 = (codes "GET http://h/825 HTTP/1.1\r\n\r\n")

abbrev text1656 : Bytes
text1656 = (codes "GET /825 HTTP/1.1\r\nhost: h\r\nvia: 1.1 polipo\r\n\r\n")

abbrev text1657 : Bytes
text1657 = (codes "GET http://h/826 HTTP/1.1\r\n\r\n")

abbrev text1658 : Bytes
text1658 = (codes "GET /826 HTTP/1.1\r\nhost: h\r\nvia: 1.1 polipo\r\n\r\n")

abbrev text1659 : Bytes
text1659 = (codes "GET http://h/827 HTTP/1.1\r\n\r\n")

abbrev text1660 : Bytes
text1660 = (codes "GET /827 HTTP/1.1\r\nhost: h\r\nvia: 1.1 polipo\r\n\r\n")

abbrev text1661 : Bytes
text1661 = (codes "GET http://h/828 HTTP/1.1\r\n\r\n")

abbrev text1662 : Bytes
text1662 = (codes "GET /828 HTTP/1.1\r\nhost: h\r\nvia: 1.1 polipo\r\n\r\n")

abbrev text1663 : Bytes
text1663 = (codes "GET http://h/829 HTTP/1.1\r\n\r\n")

abbrev text1664 : Bytes
text1664 = (codes "GET /829 HTTP/1.1\r\nhost: h\r\nvia: 1.1 polipo\r\n\r\n")

abbrev text1665 : Bytes
text1665 = (codes "GET http://h/830 HTTP/1.1\r\n\r\n")

abbrev text1666 : Bytes
text1666 = (codes "GET /830 HTTP/1.1\r\nhost: h\r\nvia: 1.1 polipo\r\n\r\n")

abbrev text1667 : Bytes
text1667 = (codes "GET http://h/831 HTTP/1.1\r\n\r\n")

abbrev text1668 : Bytes
text1668 = (codes "GET /831 HTTP/1.1\r\nhost: h\r\nvia: 1.1 polipo\r\n\r\n")

abbrev text1669 : Bytes
text1669 = (codes "GET http://h/832 HTTP/1.1\r\n\r\n")

abbrev text1670 : Bytes
text1670 = (codes "GET /832 HTTP/1.1\r\nhost: h\r\nvia: 1.1 polipo\r\n\r\n")

abbrev text1671 : Bytes
text1671 = (codes "GET http://h/833 HTTP/1.1\r\n\r\n")

abbrev text1672 : Bytes
text1672 = (codes "GET /833 HTTP/1.1\r\nhost: h\r\nvia: 1.1 polipo\r\n\r\n")

abbrev text1673 : Bytes
text1673 = (codes "GET http://h/834 HTTP/1.1\r\n\r\n")

abbrev text1674 : Bytes
text1674 = (codes "GET /834 HTTP/1.1\r\nhost: h\r\nvia: 1.1 polipo\r\n\r\n")

abbrev text1675 : Bytes
text1675 = (codes "GET http://h/835 HTTP/1.1\r\n\r\n")

abbrev text1676 : Bytes
text1676 = (codes "GET /835 HTTP/1.1\r\nhost: h\r\nvia: 1.1 polipo\r\n\r\n")

abbrev text1677 : Bytes
text1677 = (codes "GET http://h/836 HTTP/1.1\r\n\r\n")

abbrev text1678 : Bytes
text1678 = (codes "GET /836 HTTP/1.1\r\nhost: h\r\nvia: 1.1 polipo\r\n\r\n")

abbrev text1679 : Bytes
text1679 = (codes "GET http://h/837 HTTP/1.1\r\n\r\n")

abbrev text1680 : Bytes
text1680 = (codes "GET /837 HTTP/1.1\r\nhost: h\r\nvia: 1.1 polipo\r\n\r\n")

abbrev text1681 : Bytes
text1681 = (codes "GET http://h/838 HTTP/1.1\r\n\r\n")

abbrev text1682 : Bytes
text1682 = (codes "GET /838 HTTP/1.1\r\nhost: h\r\nvia: 1.1 polipo\r\n\r\n")

abbrev text1683 : Bytes
text1683 = (codes "GET http://h/839 HTTP/1.1\r\n\r\n")

abbrev text1684 : Bytes
text1684 = (codes "GET /839 HTTP/1.1\r\nhost: h\r\nvia: 1.1 polipo\r\n\r\n")

abbrev text1685 : Bytes
text1685 = (codes "GET http://h/840 HTTP/1.1\r\n\r\n")

abbrev text1686 : Bytes
text1686 = (codes "GET /840 HTTP/1.1\r\nhost: h\r\nvia: 1.1 polipo\r\n\r\n")

abbrev text1687 : Bytes
text1687 = (codes "GET http://h/841 HTTP/1.1\r\n\r\n")

abbrev text1688 : Bytes
text1688 = (codes "GET /841 HTTP/1.1\r\nhost: h\r\nvia: 1.1 polipo\r\n\r\n")

abbrev text1689 : Bytes
text1689 = (codes "GET http://h/842 HTTP/1.1\r\n\r\n")

abbrev text1690 : Bytes
text1690 = (codes "GET /842 HTTP/1.1\r\nhost: h\r\nvia: 1.1 polipo\r\n\r\n")

abbrev text1691 : Bytes
text1691 = (codes "GET http://h/843 HTTP/1.1\r\n\r\n")

abbrev text1692 : Bytes
text1692 = (codes "GET /843 HTTP/1.1\r\nhost: h\r\nvia: 1.1 polipo\r\n\r\n")

abbrev text1693 : Bytes
text1693 = (codes "GET http://h/844 HTTP/1.1\r\n\r\n")

abbrev text1694 : Bytes
text1694 = (codes "GET /844 HTTP/1.1\r\nhost: h\r\nvia: 1.1 polipo\r\n\r\n")

abbrev text1695 : Bytes
text1695 = (codes "GET http://h/845 HTTP/1.1\r\n\r\n")

abbrev text1696 : Bytes
text1696 = (codes "GET /845 HTTP/1.1\r\nhost: h\r\nvia: 1.1 polipo\r\n\r\n")

abbrev text1697 : Bytes
text1697 = (codes "GET http://h/846 HTTP/1.1\r\n\r\n")

abbrev text1698 : Bytes
text1698 = (codes "GET /846 HTTP/1.1\r\nhost: h\r\nvia: 1.1 polipo\r\n\r\n")

abbrev text1699 : Bytes
text1699 = (codes "GET http://h/847 HTTP/1.1\r\n\r\n")

abbrev text1700 : Bytes
text1700 = (codes "GET /847 HTTP/1.1\r\nhost: h\r\nvia: 1.1 polipo\r\n\r\n")

abbrev text1701 : Bytes
text1701 = (codes "GET http://h/848 HTTP/1.1\r\n\r\n")

abbrev text1702 : Bytes
text1702 = (codes "GET /848 HTTP/1.1\r\nhost: h\r\nvia: 1.1 polipo\r\n\r\n")

abbrev text1703 : Bytes
text1703 = (codes "GET http://h/849 HTTP/1.1\r\n\r\n")

abbrev text1704 : Bytes
text1704 = (codes "GET /849 HTTP/1.1\r\nhost: h\r\nvia: 1.1 polipo\r\n\r\n")

abbrev text1705 : Bytes
text1705 = (codes "GET http://h/850 HTTP/1.1\r\n\r\n")

abbrev text1706 : Bytes
text1706 = (codes "GET /850 HTTP/1.1\r\nhost: h\r\nvia: 1.1 polipo\r\n\r\n")

abbrev text1707 : Bytes
text1707 = (codes "GET http://h/851 HTTP/1.1\r\n\r\n")

abbrev text1708 : Bytes
text1708 = (codes "GET /851 HTTP/1.1\r\nhost: h\r\nvia: 1.1 polipo\r\n\r\n")

abbrev text1709 : Bytes
text1709 = (codes "GET http://h/852 HTTP/1.1\r\n\r\n")

abbrev text1710 : Bytes
text1710 = (codes "GET /852 HTTP/1.1\r\nhost: h\r\nvia: 1.1 polipo\r\n\r\n")

abbrev text1711 : Bytes
text1711 = (codes "GET http://h/853 HTTP/1.1\r\n\r\n")

abbrev text1712 : Bytes
text1712 = (codes "GET /853 HTTP/1.1\r\nhost: h\r\nvia: 1.1 polipo\r\n\r\n")

abbrev text1713 : Bytes
text1713 = (codes "GET http://h/854 HTTP/1.1\r\n\r\n")

abbrev text1714 : Bytes
text1714 = (codes "GET /854 HTTP/1.1\r\nhost: h\r\nvia: 1.1 polipo\r\n\r\n")

abbrev text1715 : Bytes
text1715 = (codes "GET http://h/855 HTTP/1.1\r\n\r\n")

abbrev text1716 : Bytes
text1716 = (codes "GET /855 HTTP/1.1\r\nhost: h\r\nvia: 1.1 polipo\r\n\r\n")

abbrev text1717 : Bytes
text1717 = (codes "GET http://h/856 HTTP/1.1\r\n\r\n")

abbrev text1718 : Bytes
text1718 = (codes "GET /856 HTTP/1.1\r\nhost: h\r\nvia: 1.1 polipo\r\n\r\n")

abbrev text1719 : Bytes
text1719 = (codes "GET http://h/857 HTTP/1.1\r\n\r\n")

abbrev text1720 : Bytes
text1720 = (codes "GET /857 HTTP/1.1\r\nhost: h\r\nvia: 1.1 polipo\r\n\r\n")

abbrev text1721 : Bytes
text1721 = (codes "GET http://h/858 HTTP/1.1\r\n\r\n")

abbrev text1722 : Bytes
text1722 = (codes "GET /858 HTTP/1.1\r\nhost: h\r\nvia: 1.1 polipo\r\n\r\n")

abbrev text1723 : Bytes
text1723 = (codes "GET http://h/859 HTTP/1.1\r\n\r\n")

abbrev text1724 : Bytes
text1724 = (codes "GET /859 HTTP/1.1\r\nhost: h\r\nvia: 1.1 polipo\r\n\r\n")

abbrev text1725 : Bytes
text1725 = (codes "GET http://h/860 HTTP/1.1\r\n\r\n")

abbrev text1726 : Bytes
text1726 = (codes "GET /860 HTTP/1.1\r\nhost: h\r\nvia: 1.1 polipo\r\n\r\n")

abbrev text1727 : Bytes
text1727 = (codes "GET http://h/861 HTTP/1.1\r\n\r\n")

abbrev text1728 : Bytes
text1728 = (codes "GET /861 HTTP/1.1\r\nhost: h\r\nvia: 1.1 polipo\r\n\r\n")

abbrev text1729 : Bytes
text1729 = (codes "GET http://h/862 HTTP/1.1\r\n\r\n")

abbrev text1730 : Bytes
text1730 = (codes "GET /862 HTTP/1.1\r\nhost: h\r\nvia: 1.1 polipo\r\n\r\n")

abbrev text1731 : Bytes
text1731 = (codes "GET http://h/863 HTTP/1.1\r\n\r\n")

abbrev text1732 : Bytes
text1732 = (codes "GET /863 HTTP/1.1\r\nhost: h\r\nvia: 1.1 polipo\r\n\r\n")

abbrev text1733 : Bytes
text1733 = (codes "GET http://h/864 HTTP/1.1\r\n\r\n")

abbrev text1734 : Bytes
text1734 = (codes "GET /864 HTTP/1.1\r\nhost: h\r\nvia: 1.1 polipo\r\n\r\n")

abbrev text1735 : Bytes
text1735 = (codes "GET http://h/865 HTTP/1.1\r\n\r\n")

abbrev text1736 : Bytes
text1736 = (codes "GET /865 HTTP/1.1\r\nhost: h\r\nvia: 1.1 polipo\r\n\r\n")

abbrev text1737 : Bytes
text1737 = (codes "GET http://h/866 HTTP/1.1\r\n\r\n")

abbrev text1738 : Bytes
text1738 = (codes "GET /866 HTTP/1.1\r\nhost: h\r\nvia: 1.1 polipo\r\n\r\n")

abbrev text1739 : Bytes
text1739 = (codes "GET http://h/867 HTTP/1.1\r\n\r\n")

abbrev text1740 : Bytes
text1740 = (codes "GET /867 HTTP/1.1\r\nhost: h\r\nvia: 1.1 polipo\r\n\r\n")

abbrev text1741 : Bytes
text1741 = (codes "GET http://h/868 HTTP/1.1\r\n\r\n")

abbrev text1742 : Bytes
text1742 = (codes "GET /868 HTTP/1.1\r\nhost: h\r\nvia: 1.1 polipo\r\n\r\n")

abbrev text1743 : Bytes
text1743 = (codes "GET http://h/869 HTTP/1.1\r\n\r\n")

abbrev text1744 : Bytes
text1744 = (codes "GET /869 HTTP/1.1\r\nhost: h\r\nvia: 1.1 polipo\r\n\r\n")

abbrev text1745 : Bytes
text1745 = (codes "GET http://h/870 HTTP/1.1\r\n\r\n")

abbrev text1746 : Bytes
text1746 = (codes "GET /870 HTTP/1.1\r\nhost: h\r\nvia: 1.1 polipo\r\n\r\n")

abbrev text1747 : Bytes
text1747 = (codes "GET http://h/871 HTTP/1.1\r\n\r\n")

abbrev text1748 : Bytes
text1748 = (codes "GET /871 HTTP/1.1\r\nhost: h\r\nvia: 1.1 polipo\r\n\r\n")

abbrev text1749 : Bytes
text1749 = (codes "GET http://h/872 HTTP/1.1\r\n\r\n")

abbrev text1750 : Bytes
text1750 = (codes "GET /872 HTTP/1.1\r\nhost: h\r\nvia: 1.1 polipo\r\n\r\n")

abbrev text1751 : Bytes
text1751 = (codes "GET http://h/873 HTTP/1.1\r\n\r\n")

abbrev text1752 : Bytes
text1752 = (codes "GET /873 HTTP/1.1\r\nhost: h\r\nvia: 1.1 polipo\r\n\r\n")

abbrev text1753 : Bytes
text1753 = (codes "GET http://h/874 HTTP/1.1\r\n\r\n")

abbrev text1754 : Bytes
text1754 = (codes "GET /874 HTTP/1.1\r\nhost: h\r\nvia: 1.1 polipo\r\n\r\n")

abbrev text1755 : Bytes
text1755 = (codes "GET http://h/875 HTTP/1.1\r\n\r\n")

abbrev text1756 : Bytes
text1756 = (codes "GET /875 HTTP/1.1\r\nhost: h\r\nvia: 1.1 polipo\r\n\r\n")

abbrev text1757 : Bytes
text1757 = (codes "GET http://h/876 HTTP/1.1\r\n\r\n")

abbrev text1758 : Bytes
text1758 = (codes "GET /876 HTTP/1.1\r\nhost: h\r\nvia: 1.1 polipo\r\n\r\n")

abbrev text1759 : Bytes
text1759 = (codes "GET http://h/877 HTTP/1.1\r\n\r\n")

abbrev text1760 : Bytes
text1760 = (codes "GET /877 HTTP/1.1\r\nhost: h\r\nvia: 1.1 polipo\r\n\r\n")

abbrev text1761 : Bytes
text1761 = (codes "GET http://h/878 HTTP/1.1\r\n\r\n")

abbrev text1762 : Bytes
text1762 = (codes "GET /878 HTTP/1.1\r\nhost: h\r\nvia: 1.1 polipo\r\n\r\n")

abbrev text1763 : Bytes
text1763 = (codes "GET http://h/879 HTTP/1.1\r\n\r\n")

abbrev text1764 : Bytes
text1764 = (codes "GET /879 HTTP/1.1\r\nhost: h\r\nvia: 1.1 polipo\r\n\r\n")

abbrev text1765 : Bytes
text1765 = (codes "GET http://h/880 HTTP/1.1\r\n\r\n")

abbrev text1766 : Bytes
text1766 = (codes "GET /880 HTTP/1.1\r\nhost: h\r\nvia: 1.1 polipo\r\n\r\n")

abbrev text1767 : Bytes
text1767 = (codes "GET http://h/881 HTTP/1.1\r\n\r\n")

abbrev text1768 : Bytes
text1768 = (codes "GET /881 HTTP/1.1\r\nhost: h\r\nvia: 1.1 polipo\r\n\r\n")

abbrev text1769 : Bytes
text1769 = (codes "GET http://h/882 HTTP/1.1\r\n\r\n")

abbrev text1770 : Bytes
text1770 = (codes "GET /882 HTTP/1.1\r\nhost: h\r\nvia: 1.1 polipo\r\n\r\n")

abbrev text1771 : Bytes
text1771 = (codes "GET http://h/883 HTTP/1.1\r\n\r\n")

abbrev text1772 : Bytes
text1772 = (codes "GET /883 HTTP/1.1\r\nhost: h\r\nvia: 1.1 polipo\r\n\r\n")

abbrev text1773 : Bytes
text1773 = (codes "GET http://h/884 HTTP/1.1\r\n\r\n")

abbrev text1774 : Bytes
text1774 = (codes "GET /884 HTTP/1.1\r\nhost: h\r\nvia: 1.1 polipo\r\n\r\n")

abbrev text1775 : Bytes
text1775 = (codes "GET http://h/885 HTTP/1.1\r\n\r\n")

abbrev text1776 : Bytes
text1776 = (codes "GET /885 HTTP/1.1\r\nhost: h\r\nvia: 1.1 polipo\r\n\r\n")

abbrev text1777 : Bytes
text1777 = (codes "GET http://h/886 HTTP/1.1\r\n\r\n")

abbrev text1778 : Bytes
text1778 = (codes "GET /886 HTTP/1.1\r\nhost: h\r\nvia: 1.1 polipo\r\n\r\n")

abbrev text1779 : Bytes
text1779 = (codes "GET http://h/887 HTTP/1.1\r\n\r\n")

abbrev text1780 : Bytes
text1780 = (codes "GET /887 HTTP/1.1\r\nhost: h\r\nvia: 1.1 polipo\r\n\r\n")

abbrev text1781 : Bytes
text1781 = (codes "GET http://h/888 HTTP/1.1\r\n\r\n")

abbrev text1782 : Bytes
text1782 = (codes "GET /888 HTTP/1.1\r\nhost: h\r\nvia: 1.1 polipo\r\n\r\n")

abbrev text1783 : Bytes
text1783 = (codes "GET http://h/889 HTTP/1.1\r\n\r\n")

abbrev text1784 : Bytes
text1784 = (codes "GET /889 HTTP/1.1\r\nhost: h\r\nvia: 1.1 polipo\r\n\r\n")

abbrev text1785 : Bytes
text1785 = (codes "GET http://h/890 HTTP/1.1\r\n\r\n")

abbrev text1786 : Bytes
text1786 = (codes "GET /890 HTTP/1.1\r\nhost: h\r\nvia: 1.1 polipo\r\n\r\n")

abbrev text1787 : Bytes
text1787 = (codes "GET http://h/891 HTTP/1.1\r\n\r\n")

abbrev text1788 : Bytes
text1788 = (codes "GET /891 HTTP/1.1\r\nhost: h\r\nvia: 1.1 polipo\r\n\r\n")

abbrev text1789 : Bytes
text1789 = (codes "GET http://h/892 HTTP/1.1\r\n\r\n")

abbrev text1790 : Bytes
text1790 = (codes "GET /892 HTTP/1.1\r\nhost: h\r\nvia: 1.1 polipo\r\n\r\n")

abbrev text1791 : Bytes
text1791 = (codes "GET http://h/893 HTTP/1.1\r\n\r\n")

abbrev text1792 : Bytes
text1792 = (codes "GET /893 HTTP/1.1\r\nhost: h\r\nvia: 1.1 polipo\r\n\r\n")

abbrev text1793 : Bytes
text1793 = (codes "GET http://h/894 HTTP/1.1\r\n\r\n")

abbrev text1794 : Bytes
text1794 = (codes "GET /894 HTTP/1.1\r\nhost: h\r\nvia: 1.1 polipo\r\n\r\n")

abbrev text1795 : Bytes
text1795 = (codes "GET http://h/895 HTTP/1.1\r\n\r\n")

abbrev text1796 : Bytes
text1796 = (codes "GET /895 HTTP/1.1\r\nhost: h\r\nvia: 1.1 polipo\r\n\r\n")

abbrev text1797 : Bytes
text1797 = (codes "GET http://h/896 HTTP/1.1\r\n\r\n")

abbrev text1798 : Bytes
text1798 = (codes "GET /896 HTTP/1.1\r\nhost: h\r\nvia: 1.1 polipo\r\n\r\n")

abbrev text1799 : Bytes
text1799 = (codes "GET http://h/897 HTTP/1.1\r\n\r\n")

abbrev text1800 : Bytes
text1800 = (codes "GET /897 HTTP/1.1\r\nhost: h\r\nvia: 1.1 polipo\r\n\r\n")

abbrev text1801 : Bytes
text1801 = (codes "GET http://h/898 HTTP/1.1\r\n\r\n")

abbrev text1802 : Bytes
text1802 = (codes "GET /898 HTTP/1.1\r\nhost: h\r\nvia: 1.1 polipo\r\n\r\n")

abbrev text1803 : Bytes
text1803 = (codes "GET http://h/899 HTTP/1.1\r\n\r\n")

abbrev text1804 : Bytes
text1804 = (codes "GET /899 HTTP/1.1\r\nhost: h\r\nvia: 1.1 polipo\r\n\r\n")

abbrev text1805 : Bytes
text1805 = (codes "GET http://h/900 HTTP/1.1\r\n\r\n")

abbrev text1806 : Bytes
text1806 = (codes "GET /900 HTTP/1.1\r\nhost: h\r\nvia: 1.1 polipo\r\n\r\n")

abbrev text1807 : Bytes
text1807 = (codes "GET http://h/901 HTTP/1.1\r\n\r\n")

abbrev text1808 : Bytes
text1808 = (codes "GET /901 HTTP/1.1\r\nhost: h\r\nvia: 1.1 polipo\r\n\r\n")

abbrev text1809 : Bytes
text1809 = (codes "GET http://h/902 HTTP/1.1\r\n\r\n")

abbrev text1810 : Bytes
text1810 = (codes "GET /902 HTTP/1.1\r\nhost: h\r\nvia: 1.1 polipo\r\n\r\n")

abbrev text1811 : Bytes
text1811 = (codes "GET http://h/903 HTTP/1.1\r\n\r\n")

abbrev text1812 : Bytes
text1812 = (codes "GET /903 HTTP/1.1\r\nhost: h\r\nvia: 1.1 polipo\r\n\r\n")

abbrev text1813 : Bytes
text1813 = (codes "GET http://h/904 HTTP/1.1\r\n\r\n")

abbrev text1814 : Bytes
text1814 = (codes "GET /904 HTTP/1.1\r\nhost: h\r\nvia: 1.1 polipo\r\n\r\n")

abbrev text1815 : Bytes
text1815 = (codes "GET http://h/905 HTTP/1.1\r\n\r\n")

abbrev text1816 : Bytes
text1816 = (codes "GET /905 HTTP/1.1\r\nhost: h\r\nvia: 1.1 polipo\r\n\r\n")

abbrev text1817 : Bytes
text1817 = (codes "GET http://h/906 HTTP/1.1\r\n\r\n")

abbrev text1818 : Bytes
text1818 = (codes "GET /906 HTTP/1.1\r\nhost: h\r\nvia: 1.1 polipo\r\n\r\n")

abbrev text1819 : Bytes
text1819 = (codes "GET http://h/907 HTTP/1.1\r\n\r\n")

abbrev text1820 : Bytes
text1820 = (codes "GET /907 HTTP/1.1\r\nhost: h\r\nvia: 1.1 polipo\r\n\r\n")

abbrev text1821 : Bytes
text1821 = (codes "GET http://h/908 HTTP/1.1\r\n\r\n")

abbrev text1822 : Bytes
text1822 = (codes "GET /908 HTTP/1.1\r\nhost: h\r\nvia: 1.1 polipo\r\n\r\n")

abbrev text1823 : Bytes
text1823 = (codes "GET http://h/909 HTTP/1.1\r\n\r\n")

abbrev text1824 : Bytes
text1824 = (codes "GET /909 HTTP/1.1\r\nhost: h\r\nvia: 1.1 polipo\r\n\r\n")

abbrev text1825 : Bytes
text1825 = (codes "GET http://h/910 HTTP/1.1\r\n\r\n")

abbrev text1826 : Bytes
text1826 = (codes "GET /910 HTTP/1.1\r\nhost: h\r\nvia: 1.1 polipo\r\n\r\n")

abbrev text1827 : Bytes
text1827 = (codes "GET http://h/911 HTTP/1.1\r\n\r\n")

abbrev text1828 : Bytes
text1828 = (codes "GET /911 HTTP/1.1\r\nhost: h\r\nvia: 1.1 polipo\r\n\r\n")

abbrev text1829 : Bytes
text1829 = (codes "GET http://h/912 HTTP/1.1\r\n\r\n")

abbrev text1830 : Bytes
text1830 = (codes "GET /912 HTTP/1.1\r\nhost: h\r\nvia: 1.1 polipo\r\n\r\n")

abbrev text1831 : Bytes
text1831 = (codes "GET http://h/913 HTTP/1.1\r\n\r\n")

abbrev text1832 : Bytes
text1832 = (codes "GET /913 HTTP/1.1\r\nhost: h\r\nvia: 1.1 polipo\r\n\r\n")

abbrev text1833 : Bytes
text1833 = (codes "GET http://h/914 HTTP/1.1\r\n\r\n")

abbrev text1834 : Bytes
text1834 = (codes "GET /914 HTTP/1.1\r\nhost: h\r\nvia: 1.1 polipo\r\n\r\n")

abbrev text1835 : Bytes
text1835 = (codes "GET http://h/915 HTTP/1.1\r\n\r\n")

abbrev text1836 : Bytes
text1836 = (codes "GET /915 HTTP/1.1\r\nhost: h\r\nvia: 1.1 polipo\r\n\r\n")

abbrev text1837 : Bytes
text1837 = (codes "GET http://h/916 HTTP/1.1\r\n\r\n")

abbrev text1838 : Bytes
text1838 = (codes "GET /916 HTTP/1.1\r\nhost: h\r\nvia: 1.1 polipo\r\n\r\n")

abbrev text1839 : Bytes
text1839 = (codes "GET http://h/917 HTTP/1.1\r\n\r\n")

abbrev text1840 : Bytes
text1840 = (codes "GET /917 HTTP/1.1\r\nhost: h\r\nvia: 1.1 polipo\r\n\r\n")

abbrev text1841 : Bytes
text1841 = (codes "GET http://h/918 HTTP/1.1\r\n\r\n")

abbrev text1842 : Bytes
text1842 = (codes "GET /918 HTTP/1.1\r\nhost: h\r\nvia: 1.1 polipo\r\n\r\n")

abbrev text1843 : Bytes
text1843 = (codes "GET http://h/919 HTTP/1.1\r\n\r\n")

abbrev text1844 : Bytes
text1844 = (codes "GET /919 HTTP/1.1\r\nhost: h\r\nvia: 1.1 polipo\r\n\r\n")

abbrev text1845 : Bytes
text1845 = (codes "GET http://h/920 HTTP/1.1\r\n\r\n")

abbrev text1846 : Bytes
text1846 = (codes "GET /920 HTTP/1.1\r\nhost: h\r\nvia: 1.1 polipo\r\n\r\n")

abbrev text1847 : Bytes
text1847 = (codes "GET http://h/921 HTTP/1.1\r\n\r\n")

abbrev text1848 : Bytes
text1848 = (codes "GET /921 HTTP/1.1\r\nhost: h\r\nvia: 1.1 polipo\r\n\r\n")

abbrev text1849 : Bytes
text1849 = (codes "GET http://h/922 HTTP/1.1\r\n\r\n")

abbrev text1850 : Bytes
text1850 = (codes "GET /922 HTTP/1.1\r\nhost: h\r\nvia: 1.1 polipo\r\n\r\n")

abbrev text1851 : Bytes
text1851 = (codes "GET http://h/923 HTTP/1.1\r\n\r\n")

abbrev text1852 : Bytes
text1852 = (codes "GET /923 HTTP/1.1\r\nhost: h\r\nvia: 1.1 polipo\r\n\r\n")

abbrev text1853 : Bytes
text1853 = (codes "GET http://h/924 HTTP/1.1\r\n\r\n")

abbrev text1854 : Bytes
text1854 = (codes "GET /924 HTTP/1.1\r\nhost: h\r\nvia: 1.1 polipo\r\n\r\n")

abbrev text1855 : Bytes
text1855 = (codes "GET http://h/925 HTTP/1.1\r\n\r\n")

abbrev text1856 : Bytes
text1856 = (codes "GET /925 HTTP/1.1\r\nhost: h\r\nvia: 1.1 polipo\r\n\r\n")

abbrev text1857 : Bytes
text1857 = (codes "GET http://h/926 HTTP/1.1\r\n\r\n")

abbrev text1858 : Bytes
text1858 = (codes "GET /926 HTTP/1.1\r\nhost: h\r\nvia: 1.1 polipo\r\n\r\n")

abbrev text1859 : Bytes
text1859 = (codes "GET http://h/927 HTTP/1.1\r\n\r\n")

abbrev text1860 : Bytes
text1860 = (codes "GET /927 HTTP/1.1\r\nhost: h\r\nvia: 1.1 polipo\r\n\r\n")

abbrev text1861 : Bytes
text1861 = (codes "GET http://h/928 HTTP/1.1\r\n\r\n")

abbrev text1862 : Bytes
text1862 = (codes "GET /928 HTTP/1.1\r\nhost: h\r\nvia: 1.1 polipo\r\n\r\n")

abbrev text1863 : Bytes
text1863 = (codes "GET http://h/929 HTTP/1.1\r\n\r\n")

abbrev text1864 : Bytes
text1864 = (codes "GET /929 HTTP/1.1\r\nhost: h\r\nvia: 1.1 polipo\r\n\r\n")

abbrev text1865 : Bytes
text1865 = (codes "GET http://h/930 HTTP/1.1\r\n\r\n")

abbrev text1866 : Bytes
text1866 = (codes "GET /930 HTTP/1.1\r\nhost: h\r\nvia: 1.1 polipo\r\n\r\n")

abbrev text1867 : Bytes
text1867 = (codes "GET http://h/931 HTTP/1.1\r\n\r\n")

abbrev text1868 : Bytes
text1868 = (codes "GET /931 HTTP/1.1\r\nhost: h\r\nvia: 1.1 polipo\r\n\r\n")

abbrev text1869 : Bytes
text1869 = (codes "GET http://h/932 HTTP/1.1\r\n\r\n")

abbrev text1870 : Bytes
text1870 = (codes "GET /932 HTTP/1.1\r\nhost: h\r\nvia: 1.1 polipo\r\n\r\n")

abbrev text1871 : Bytes
text1871 = (codes "GET http://h/933 HTTP/1.1\r\n\r\n")

abbrev text1872 : Bytes
text1872 = (codes "GET /933 HTTP/1.1\r\nhost: h\r\nvia: 1.1 polipo\r\n\r\n")

abbrev text1873 : Bytes
text1873 = (codes "GET http://h/934 HTTP/1.1\r\n\r\n")

abbrev text1874 : Bytes
text1874 = (codes "GET /934 HTTP/1.1\r\nhost: h\r\nvia: 1.1 polipo\r\n\r\n")

abbrev text1875 : Bytes
text1875 = (codes "GET http://h/935 HTTP/1.1\r\n\r\n")

abbrev text1876 : Bytes
text1876 = (codes "GET /935 HTTP/1.1\r\nhost: h\r\nvia: 1.1 polipo\r\n\r\n")

abbrev text1877 : Bytes
text1877 = (codes "GET http://h/936 HTTP/1.1\r\n\r\n")

abbrev text1878 : Bytes
text1878 = (codes "GET /936 HTTP/1.1\r\nhost: h\r\nvia: 1.1 polipo\r\n\r\n")

abbrev text1879 : Bytes
text1879 = (codes "GET http://h/937 HTTP/1.1\r\n\r\n")

abbrev text1880 : Bytes
text1880 = (codes "GET /937 HTTP/1.1\r\nhost: h\r\nvia: 1.1 polipo\r\n\r\n")

abbrev text1881 : Bytes
text1881 = (codes "GET http://h/938 HTTP/1.1\r\n\r\n")

abbrev text1882 : Bytes
text1882 = (codes "GET /938 HTTP/1.1\r\nhost: h\r\nvia: 1.1 polipo\r\n\r\n")

abbrev text1883 : Bytes
text1883 = (codes "GET http://h/939 HTTP/1.1\r\n\r\n")

abbrev text1884 : Bytes
text1884 = (codes "GET /939 HTTP/1.1\r\nhost: h\r\nvia: 1.1 polipo\r\n\r\n")

abbrev text1885 : Bytes
text1885 = (codes "GET http://h/940 HTTP/1.1\r\n\r\n")

abbrev text1886 : Bytes
text1886 = (codes "GET /940 HTTP/1.1\r\nhost: h\r\nvia: 1.1 polipo\r\n\r\n")

abbrev text1887 : Bytes
text1887 = (codes "GET http://h/941 HTTP/1.1\r\n\r\n")

abbrev text1888 : Bytes
text1888 = (codes "GET /941 HTTP/1.1\r\nhost: h\r\nvia: 1.1 polipo\r\n\r\n")

abbrev text1889 : Bytes
text1889 = (codes "GET http://h/942 HTTP/1.1\r\n\r\n")

abbrev text1890 : Bytes
text1890 = (codes "GET /942 HTTP/1.1\r\nhost: h\r\nvia: 1.1 polipo\r\n\r\n")

abbrev text1891 : Bytes
text1891 = (codes "GET http://h/943 HTTP/1.1\r\n\r\n")

abbrev text1892 : Bytes
text1892 = (codes "GET /943 HTTP/1.1\r\nhost: h\r\nvia: 1.1 polipo\r\n\r\n")

abbrev text1893 : Bytes
text1893 = (codes "GET http://h/944 HTTP/1.1\r\n\r\n")

abbrev text1894 : Bytes
text1894 = (codes "GET /944 HTTP/1.1\r\nhost: h\r\nvia: 1.1 polipo\r\n\r\n")

abbrev text1895 : Bytes
text1895 = (codes "GET http://h/945 HTTP/1.1\r\n\r\n")

abbrev text1896 : Bytes
text1896 = (codes "GET /945 HTTP/1.1\r\nhost: h\r\nvia: 1.1 polipo\r\n\r\n")

abbrev text1897 : Bytes
text1897 = (codes "GET http://h/946 HTTP/1.1\r\n\r\n")

abbrev text1898 : Bytes
text1898 = (codes "GET /946 HTTP/1.1\r\nhost: h\r\nvia: 1.1 polipo\r\n\r\n")

abbrev text1899 : Bytes
text1899 = (codes "GET http://h/947 HTTP/1.1\r\n\r\n")

abbrev text1900 : Bytes
text1900 = (codes "GET /947 HTTP/1.1\r\nhost: h\r\nvia: 1.1 polipo\r\n\r\n")

abbrev text1901 : Bytes
text1901 = (codes "GET http://h/948 HTTP/1.1\r\n\r\n")

abbrev text1902 : Bytes
text1902 = (codes "GET /948 HTTP/1.1\r\nhost: h\r\nvia: 1.1 polipo\r\n\r\n")

abbrev text1903 : Bytes
text1903 = (codes "GET http://h/949 HTTP/1.1\r\n\r\n")

abbrev text1904 : Bytes
text1904 = (codes "GET /949 HTTP/1.1\r\nhost: h\r\nvia: 1.1 polipo\r\n\r\n")

abbrev text1905 : Bytes
text1905 = (codes "GET http://h/950 HTTP/1.1\r\n\r\n")

abbrev text1906 : Bytes
text1906 = (codes "GET /950 HTTP/1.1\r\nhost: h\r\nvia: 1.1 polipo\r\n\r\n")

abbrev text1907 : Bytes
text1907 = (codes "GET http://h/951 HTTP/1.1\r\n\r\n")

abbrev text1908 : Bytes
text1908 = (codes "GET /951 HTTP/1.1\r\nhost: h\r\nvia: 1.1 polipo\r\n\r\n")

abbrev text1909 : Bytes
text1909 = (codes "GET http://h/952 HTTP/1.1\r\n\r\n")

abbrev text1910 : Bytes
text1910 = (codes "GET /952 HTTP/1.1\r\nhost: h\r\nvia: 1.1 polipo\r\n\r\n")

abbrev text1911 : Bytes
text1911 = (codes "GET http://h/953 HTTP/1.1\r\n\r\n")

abbrev text1912 : Bytes
text1912 = (codes "GET /953 HTTP/1.1\r\nhost: h\r\nvia: 1.1 polipo\r\n\r\n")

abbrev text1913 : Bytes
text1913 = (codes "GET http://h/954 HTTP/1.1\r\n\r\n")

abbrev text1914 : Bytes
text1914 = (codes "GET /954 HTTP/1.1\r\nhost: h\r\nvia: 1.1 polipo\r\n\r\n")

abbrev text1915 : Bytes
text1915 = (codes "GET http://h/955 HTTP/1.1\r\n\r\n")

abbrev text1916 : Bytes
text1916 = (codes "GET /955 HTTP/1.1\r\nhost: h\r\nvia: 1.1 polipo\r\n\r\n")

abbrev text1917 : Bytes
text1917 = (codes "GET http://h/956 HTTP/1.1\r\n\r\n")

abbrev text1918 : Bytes
text1918 = (codes "GET /956 HTTP/1.1\r\nhost: h\r\nvia: 1.1 polipo\r\n\r\n")

abbrev text1919 : Bytes
text1919 = (codes "GET http://h/957 HTTP/1.1\r\n\r\n")

abbrev text1920 : Bytes
text1920 = (codes "GET /957 HTTP/1.1\r\nhost: h\r\nvia: 1.1 polipo\r\n\r\n")

abbrev text1921 : Bytes
text1921 = (codes "GET http://h/958 HTTP/1.1\r\n\r\n")

abbrev text1922 : Bytes
text1922 = (codes "GET /958 HTTP/1.1\r\nhost: h\r\nvia: 1.1 polipo\r\n\r\n")

abbrev text1923 : Bytes
text1923 = (codes "GET http://h/959 HTTP/1.1\r\n\r\n")

abbrev text1924 : Bytes
text1924 = (codes "GET /959 HTTP/1.1\r\nhost: h\r\nvia: 1.1 polipo\r\n\r\n")

abbrev text1925 : Bytes
text1925 = (codes "GET http://h/960 HTTP/1.1\r\n\r\n")

abbrev text1926 : Bytes
text1926 = (codes "GET /960 HTTP/1.1\r\nhost: h\r\nvia: 1.1 polipo\r\n\r\n")

abbrev text1927 : Bytes
text1927 = (codes "GET http://h/961 HTTP/1.1\r\n\r\n")

abbrev text1928 : Bytes
text1928 = (codes "GET /961 HTTP/1.1\r\nhost: h\r\nvia: 1.1 polipo\r\n\r\n")

abbrev text1929 : Bytes
text1929 = (codes "GET http://h/962 HTTP/1.1\r\n\r\n")

abbrev text1930 : Bytes
text1930 = (codes "GET /962 HTTP/1.1\r\nhost: h\r\nvia: 1.1 polipo\r\n\r\n")

abbrev text1931 : Bytes
text1931 = (codes "GET http://h/963 HTTP/1.1\r\n\r\n")

abbrev text1932 : Bytes
text1932 = (codes "GET /963 HTTP/1.1\r\nhost: h\r\nvia: 1.1 polipo\r\n\r\n")

abbrev text1933 : Bytes
text1933 = (codes "GET http://h/964 HTTP/1.1\r\n\r\n")

abbrev text1934 : Bytes
text1934 = (codes "GET /964 HTTP/1.1\r\nhost: h\r\nvia: 1.1 polipo\r\n\r\n")

abbrev text1935 : Bytes
text1935 = (codes "GET http://h/965 HTTP/1.1\r\n\r\n")

abbrev text1936 : Bytes
text1936 = (codes "GET /965 HTTP/1.1\r\nhost: h\r\nvia: 1.1 polipo\r\n\r\n")

abbrev text1937 : Bytes
text1937 = (codes "GET http://h/966 HTTP/1.1\r\n\r\n")

abbrev text1938 : Bytes
text1938 = (codes "GET /966 HTTP/1.1\r\nhost: h\r\nvia: 1.1 polipo\r\n\r\n")

abbrev text1939 : Bytes
text1939 = (codes "GET http://h/967 HTTP/1.1\r\n\r\n")

abbrev text1940 : Bytes
text1940 = (codes "GET /967 HTTP/1.1\r\nhost: h\r\nvia: 1.1 polipo\r\n\r\n")

abbrev text1941 : Bytes
text1941 = (codes "GET http://h/968 HTTP/1.1\r\n\r\n")

abbrev text1942 : Bytes
text1942 = (codes "GET /968 HTTP/1.1\r\nhost: h\r\nvia: 1.1 polipo\r\n\r\n")

abbrev text1943 : Bytes
text1943 = (codes "GET http://h/969 HTTP/1.1\r\n\r\n")

abbrev text1944 : Bytes
text1944 = (codes "GET /969 HTTP/1.1\r\nhost: h\r\nvia: 1.1 polipo\r\n\r\n")

abbrev text1945 : Bytes
text1945 = (codes "GET http://h/970 HTTP/1.1\r\n\r\n")

abbrev text1946 : Bytes
text1946 = (codes "GET /970 HTTP/1.1\r\nhost: h\r\nvia: 1.1 polipo\r\n\r\n")

abbrev text1947 : Bytes
text1947 = (codes "GET http://h/971 HTTP/1.1\r\n\r\n")

abbrev text1948 : Bytes
text1948 = (codes "GET /971 HTTP/1.1\r\nhost: h\r\nvia: 1.1 polipo\r\n\r\n")

abbrev text1949 : Bytes
text1949 = (codes "GET http://h/972 HTTP/1.1\r\n\r\n")

abbrev text1950 : Bytes
text1950 = (codes "GET /972 HTTP/1.1\r\nhost: h\r\nvia: 1.1 polipo\r\n\r\n")

abbrev text1951 : Bytes
text1951 = (codes "GET http://h/973 HTTP/1.1\r\n\r\n")

abbrev text1952 : Bytes
text1952 = (codes "GET /973 HTTP/1.1\r\nhost: h\r\nvia: 1.1 polipo\r\n\r\n")

abbrev text1953 : Bytes
text1953 = (codes "GET http://h/974 HTTP/1.1\r\n\r\n")

abbrev text1954 : Bytes
text1954 = (codes "GET /974 HTTP/1.1\r\nhost: h\r\nvia: 1.1 polipo\r\n\r\n")

abbrev text1955 : Bytes
text1955 = (codes "GET http://h/975 HTTP/1.1\r\n\r\n")

abbrev text1956 : Bytes
text1956 = (codes "GET /975 HTTP/1.1\r\nhost: h\r\nvia: 1.1 polipo\r\n\r\n")

abbrev text1957 : Bytes
text1957 = (codes "GET http://h/976 HTTP/1.1\r\n\r\n")

abbrev text1958 : Bytes
text1958 = (codes "GET /976 HTTP/1.1\r\nhost: h\r\nvia: 1.1 polipo\r\n\r\n")

abbrev text1959 : Bytes
text1959 = (codes "GET http://h/977 HTTP/1.1\r\n\r\n")

abbrev text1960 : Bytes
text1960 = (codes "GET /977 HTTP/1.1\r\nhost: h\r\nvia: 1.1 polipo\r\n\r\n")

abbrev text1961 : Bytes
text1961 = (codes "GET http://h/978 HTTP/1.1\r\n\r\n")

abbrev text1962 : Bytes
text1962 = (codes "GET /978 HTTP/1.1\r\nhost: h\r\nvia: 1.1 polipo\r\n\r\n")

abbrev text1963 : Bytes
text1963 = (codes "GET http://h/979 HTTP/1.1\r\n\r\n")

abbrev text1964 : Bytes
text1964 = (codes "GET /979 HTTP/1.1\r\nhost: h\r\nvia: 1.1 polipo\r\n\r\n")

abbrev text1965 : Bytes
text1965 = (codes "GET http://h/980 HTTP/1.1\r\n\r\n")

abbrev text1966 : Bytes
text1966 = (codes "GET /980 HTTP/1.1\r\nhost: h\r\nvia: 1.1 polipo\r\n\r\n")

abbrev text1967 : Bytes
text1967 = (codes "GET http://h/981 HTTP/1.1\r\n\r\n")

abbrev text1968 : Bytes
text1968 = (codes "GET /981 HTTP/1.1\r\nhost: h\r\nvia: 1.1 polipo\r\n\r\n")

abbrev text1969 : Bytes
text1969 = (codes "GET http://h/982 HTTP/1.1\r\n\r\n")

abbrev text1970 : Bytes
text1970 = (codes "GET /982 HTTP/1.1\r\nhost: h\r\nvia: 1.1 polipo\r\n\r\n")

abbrev text1971 : Bytes
text1971 = (codes "GET http://h/983 HTTP/1.1\r\n\r\n")

abbrev text1972 : Bytes
text1972 = (codes "GET /983 HTTP/1.1\r\nhost: h\r\nvia: 1.1 polipo\r\n\r\n")

abbrev text1973 : Bytes
text1973 = (codes "GET http://h/984 HTTP/1.1\r\n\r\n")

abbrev text1974 : Bytes
text1974 = (codes "GET /984 HTTP/1.1\r\nhost: h\r\nvia: 1.1 polipo\r\n\r\n")

abbrev text1975 : Bytes
text1975 = (codes "GET http://h/985 HTTP/1.1\r\n\r\n")

abbrev text1976 : Bytes
text1976 = (codes "GET /985 HTTP/1.1\r\nhost: h\r\nvia: 1.1 polipo\r\n\r\n")

abbrev text1977 : Bytes
text1977 = (codes "GET http://h/986 HTTP/1.1\r\n\r\n")

abbrev text1978 : Bytes
text1978 = (codes "GET /986 HTTP/1.1\r\nhost: h\r\nvia: 1.1 polipo\r\n\r\n")

abbrev text1979 : Bytes
text1979 = (codes "GET http://h/987 HTTP/1.1\r\n\r\n")

abbrev text1980 : Bytes
text1980 = (codes "GET /987 HTTP/1.1\r\nhost: h\r\nvia: 1.1 polipo\r\n\r\n")

abbrev text1981 : Bytes
text1981 = (codes "GET http://h/988 HTTP/1.1\r\n\r\n")

abbrev text1982 : Bytes
text1982 = (codes "GET /988 HTTP/1.1\r\nhost: h\r\nvia: 1.1 polipo\r\n\r\n")

abbrev text1983 : Bytes
text1983 = (codes "GET http://h/989 HTTP/1.1\r\n\r\n")

abbrev text1984 : Bytes
text1984 = (codes "GET /989 HTTP/1.1\r\nhost: h\r\nvia: 1.1 polipo\r\n\r\n")

abbrev text1985 : Bytes
text1985 = (codes "GET http://h/990 HTTP/1.1\r\n\r\n")

abbrev text1986 : Bytes
text1986 = (codes "GET /990 HTTP/1.1\r\nhost: h\r\nvia: 1.1 polipo\r\n\r\n")

abbrev text1987 : Bytes
text1987 = (codes "GET http://h/991 HTTP/1.1\r\n\r\n")

abbrev text1988 : Bytes
text1988 = (codes "GET /991 HTTP/1.1\r\nhost: h\r\nvia: 1.1 polipo\r\n\r\n")

abbrev text1989 : Bytes
text1989 = (codes "GET http://h/992 HTTP/1.1\r\n\r\n")

abbrev text1990 : Bytes
text1990 = (codes "GET /992 HTTP/1.1\r\nhost: h\r\nvia: 1.1 polipo\r\n\r\n")

abbrev text1991 : Bytes
text1991 = (codes "GET http://h/993 HTTP/1.1\r\n\r\n")

abbrev text1992 : Bytes
text1992 = (codes "GET /993 HTTP/1.1\r\nhost: h\r\nvia: 1.1 polipo\r\n\r\n")

abbrev text1993 : Bytes
text1993 = (codes "GET http://h/994 HTTP/1.1\r\n\r\n")

abbrev text1994 : Bytes
text1994 = (codes "GET /994 HTTP/1.1\r\nhost: h\r\nvia: 1.1 polipo\r\n\r\n")

abbrev text1995 : Bytes
text1995 = (codes "GET http://h/995 HTTP/1.1\r\n\r\n")

abbrev text1996 : Bytes
text1996 = (codes "GET /995 HTTP/1.1\r\nhost: h\r\nvia: 1.1 polipo\r\n\r\n")

abbrev text1997 : Bytes
text1997 = (codes "GET http://h/996 HTTP/1.1\r\n\r\n")

abbrev text1998 : Bytes
text1998 = (codes "GET /996 HTTP/1.1\r\nhost: h\r\nvia: 1.1 polipo\r\n\r\n")

abbrev text1999 : Bytes
text1999 = (codes "GET http://h/997 HTTP/1.1\r\n\r\n")

abbrev text2000 : Bytes
text2000 = (codes "GET /997 HTTP/1.1\r\nhost: h\r\nvia: 1.1 polipo\r\n\r\n")

abbrev text2001 : Bytes
text2001 = (codes "GET http://h/998 HTTP/1.1\r\n\r\n")

abbrev text2002 : Bytes
text2002 = (codes "GET /998 HTTP/1.1\r\nhost: h\r\nvia: 1.1 polipo\r\n\r\n")

abbrev text2003 : Bytes
text2003 = (codes "GET http://h/999 HTTP/1.1\r\n\r\n")

abbrev text2004 : Bytes
text2004 = (codes "GET /999 HTTP/1.1\r\nhost: h\r\nvia: 1.1 polipo\r\n\r\n")

abbrev text2005 : Bytes
text2005 = (codes "GET http://h/1000 HTTP/1.1\r\n\r\n")

abbrev text2006 : Bytes
text2006 = (codes "GET /1000 HTTP/1.1\r\nhost: h\r\nvia: 1.1 polipo\r\n\r\n")

abbrev text2007 : Bytes
text2007 = (codes "GET http://h/1001 HTTP/1.1\r\n\r\n")

abbrev text2008 : Bytes
text2008 = (codes "GET /1001 HTTP/1.1\r\nhost: h\r\nvia: 1.1 polipo\r\n\r\n")

abbrev text2009 : Bytes
text2009 = (codes "GET http://h/1002 HTTP/1.1\r\n\r\n")

abbrev text2010 : Bytes
text2010 = (codes "GET /1002 HTTP/1.1\r\nhost: h\r\nvia: 1.1 polipo\r\n\r\n")

abbrev text2011 : Bytes
text2011 = (codes "GET http://h/1003 HTTP/1.1\r\n\r\n")

abbrev text2012 : Bytes
text2012 = (codes "GET /1003 HTTP/1.1\r\nhost: h\r\nvia: 1.1 polipo\r\n\r\n")

abbrev text2013 : Bytes
text2013 = (codes "GET http://h/1004 HTTP/1.1\r\n\r\n")

abbrev text2014 : Bytes
text2014 = (codes "GET /1004 HTTP/1.1\r\nhost: h\r\nvia: 1.1 polipo\r\n\r\n")

abbrev text2015 : Bytes
text2015 = (codes "GET http://h/1005 HTTP/1.1\r\n\r\n")

abbrev text2016 : Bytes
text2016 = (codes "GET /1005 HTTP/1.1\r\nhost: h\r\nvia: 1.1 polipo\r\n\r\n")

abbrev text2017 : Bytes
text2017 = (codes "GET http://h/1006 HTTP/1.1\r\n\r\n")

abbrev text2018 : Bytes
text2018 = (codes "GET /1006 HTTP/1.1\r\nhost: h\r\nvia: 1.1 polipo\r\n\r\n")

abbrev text2019 : Bytes
text2019 = (codes "GET http://h/1007 HTTP/1.1\r\n\r\n")

abbrev text2020 : Bytes
text2020 = (codes "GET /1007 HTTP/1.1\r\nhost: h\r\nvia: 1.1 polipo\r\n\r\n")

abbrev text2021 : Bytes
text2021 = (codes "GET http://h/1008 HTTP/1.1\r\n\r\n")

abbrev text2022 : Bytes
text2022 = (codes "GET /1008 HTTP/1.1\r\nhost: h\r\nvia: 1.1 polipo\r\n\r\n")

abbrev text2023 : Bytes
text2023 = (codes "GET http://h/1009 HTTP/1.1\r\n\r\n")

abbrev text2024 : Bytes
text2024 = (codes "GET /1009 HTTP/1.1\r\nhost: h\r\nvia: 1.1 polipo\r\n\r\n")

abbrev text2025 : Bytes
text2025 = (codes "GET http://h/1010 HTTP/1.1\r\n\r\n")

abbrev text2026 : Bytes
text2026 = (codes "GET /1010 HTTP/1.1\r\nhost: h\r\nvia: 1.1 polipo\r\n\r\n")

abbrev text2027 : Bytes
text2027 = (codes "GET http://h/1011 HTTP/1.1\r\n\r\n")

abbrev text2028 : Bytes
text2028 = (codes "GET /1011 HTTP/1.1\r\nhost: h\r\nvia: 1.1 polipo\r\n\r\n")

abbrev text2029 : Bytes
text2029 = (codes "GET http://h/1012 HTTP/1.1\r\n\r\n")

abbrev text2030 : Bytes
text2030 = (codes "GET /1012 HTTP/1.1\r\nhost: h\r\nvia: 1.1 polipo\r\n\r\n")

abbrev text2031 : Bytes
text2031 = (codes "GET http://h/1013 HTTP/1.1\r\n\r\n")

abbrev text2032 : Bytes
text2032 = (codes "GET /1013 HTTP/1.1\r\nhost: h\r\nvia: 1.1 polipo\r\n\r\n")

abbrev text2033 : Bytes
text2033 = (codes "GET http://h/1014 HTTP/1.1\r\n\r\n")

abbrev text2034 : Bytes
text2034 = (codes "GET /1014 HTTP/1.1\r\nhost: h\r\nvia: 1.1 polipo\r\n\r\n")

abbrev text2035 : Bytes
text2035 = (codes "GET http://h/1015 HTTP/1.1\r\n\r\n")

abbrev text2036 : Bytes
text2036 = (codes "GET /1015 HTTP/1.1\r\nhost: h\r\nvia: 1.1 polipo\r\n\r\n")

abbrev text2037 : Bytes
text2037 = (codes "GET http://h/1016 HTTP/1.1\r\n\r\n")

abbrev text2038 : Bytes
text2038 = (codes "GET /1016 HTTP/1.1\r\nhost: h\r\nvia: 1.1 polipo\r\n\r\n")

abbrev text2039 : Bytes
text2039 = (codes "GET http://h/1017 HTTP/1.1\r\n\r\n")

abbrev text2040 : Bytes
text2040 = (codes "GET /1017 HTTP/1.1\r\nhost: h\r\nvia: 1.1 polipo\r\n\r\n")

abbrev text2041 : Bytes
text2041 = (codes "GET http://h/1018 HTTP/1.1\r\n\r\n")

abbrev text2042 : Bytes
text2042 = (codes "GET /1018 HTTP/1.1\r\nhost: h\r\nvia: 1.1 polipo\r\n\r\n")

abbrev text2043 : Bytes
text2043 = (codes "GET http://h/1019 HTTP/1.1\r\n\r\n")

abbrev text2044 : Bytes
text2044 = (codes "GET /1019 HTTP/1.1\r\nhost: h\r\nvia: 1.1 polipo\r\n\r\n")

abbrev text2045 : Bytes
text2045 = (codes "GET http://h/1020 HTTP/1.1\r\n\r\n")

abbrev text2046 : Bytes
text2046 = (codes "GET /1020 HTTP/1.1\r\nhost: h\r\nvia: 1.1 polipo\r\n\r\n")

abbrev text2047 : Bytes
text2047 = (codes "GET http://h/1021 HTTP/1.1\r\n\r\n")

abbrev text2048 : Bytes
text2048 = (codes "GET /1021 HTTP/1.1\r\nhost: h\r\nvia: 1.1 polipo\r\n\r\n")

abbrev text2049 : Bytes
text2049 = (codes "GET http://h/1022 HTTP/1.1\r\n\r\n")

abbrev text2050 : Bytes
text2050 = (codes "GET /1022 HTTP/1.1\r\nhost: h\r\nvia: 1.1 polipo\r\n\r\n")

abbrev text2051 : Bytes
text2051 = (codes "GET http://h/1023 HTTP/1.1\r\n\r\n")

abbrev text2052 : Bytes
text2052 = (codes "GET /1023 HTTP/1.1\r\nhost: h\r\nvia: 1.1 polipo\r\n\r\n")

abbrev text2053 : Bytes
text2053 = (codes "GET http://h/1024 HTTP/1.1\r\n\r\n")

abbrev text2054 : Bytes
text2054 = (codes "GET /1024 HTTP/1.1\r\nhost: h\r\nvia: 1.1 polipo\r\n\r\n")

abbrev text2055 : Bytes
text2055 = (codes "HTTP/1.1 200 OK\r\netag: \"x\"\r\ndate: Sun, 06 Nov 1994 08:49:37 GMT\r\ncache-control: max-age=60\r\nage: 0\r\nvia: 1.1 polipo\r\ncontent-length: 0\r\nconnection: keep-alive\r\n\r\n")

front0x0 : (s : State) × (arrived s ≡ judge 0 (start (record { words = (codes "diskRun=1") ∷ text0 ∷ text1 ∷ []; faults = 0 } ∷ [])) (Woke [] ∷ Rooted text2 ∷ Listed true ∷ Listens 8123 true ∷ wait true [] [] ∷ Clock 784111777 ∷ wait true [] [] ∷ Opened 1 ∷ wait true (1 ∷ []) [] ∷ CanRead 1 ∷ Heard 1 text3 ∷ Noted (Taken 1 0 Fetch) ∷ Dialled 2 (codes "h") 80 ∷ wait true (1 ∷ []) [] ∷ Reached 2 ∷ wait true (1 ∷ 2 ∷ []) (2 ∷ []) ∷ CanWrite 2 ∷ Asked 2 text4 ∷ wait true (1 ∷ 2 ∷ []) [] ∷ CanRead 2 ∷ Got 2 text5 ∷ Noted (Taken 1 0 (Hit 0 0)) ∷ wait true (1 ∷ 2 ∷ []) (1 ∷ []) ∷ CanWrite 1 ∷ Said 1 154 text6 ∷ wait true (1 ∷ 2 ∷ []) [] ∷ CanRead 1 ∷ Heard 1 text7 ∷ Noted (Taken 1 1 Fetch) ∷ wait true (1 ∷ 2 ∷ []) (2 ∷ []) ∷ CanWrite 2 ∷ Asked 2 text8 ∷ wait true (1 ∷ 2 ∷ []) [] ∷ CanRead 2 ∷ Got 2 text5 ∷ Noted (Taken 1 1 (Hit 0 0)) ∷ wait true (1 ∷ 2 ∷ []) (1 ∷ []) ∷ CanWrite 1 ∷ Said 1 154 text6 ∷ wait true (1 ∷ 2 ∷ []) [] ∷ CanRead 1 ∷ Heard 1 text9 ∷ Noted (Taken 1 2 Fetch) ∷ wait true (1 ∷ 2 ∷ []) (2 ∷ []) ∷ CanWrite 2 ∷ Asked 2 text10 ∷ wait true (1 ∷ 2 ∷ []) [] ∷ CanRead 2 ∷ Got 2 text5 ∷ Noted (Taken 1 2 (Hit 0 0)) ∷ wait true (1 ∷ 2 ∷ []) (1 ∷ []) ∷ CanWrite 1 ∷ Said 1 154 text6 ∷ wait true (1 ∷ 2 ∷ []) [] ∷ CanRead 1 ∷ Heard 1 text11 ∷ Noted (Taken 1 3 Fetch) ∷ wait true (1 ∷ 2 ∷ []) (2 ∷ []) ∷ CanWrite 2 ∷ Asked 2 text12 ∷ wait true (1 ∷ 2 ∷ []) [] ∷ CanRead 2 ∷ Got 2 text5 ∷ Noted (Taken 1 3 (Hit 0 0)) ∷ wait true (1 ∷ 2 ∷ []) (1 ∷ []) ∷ CanWrite 1 ∷ Said 1 154 text6 ∷ wait true (1 ∷ 2 ∷ []) [] ∷ CanRead 1 ∷ Heard 1 text13 ∷ Noted (Taken 1 4 Fetch) ∷ wait true (1 ∷ 2 ∷ []) (2 ∷ []) ∷ CanWrite 2 ∷ Asked 2 text14 ∷ wait true (1 ∷ 2 ∷ []) [] ∷ CanRead 2 ∷ Got 2 text5 ∷ Noted (Taken 1 4 (Hit 0 0)) ∷ wait true (1 ∷ 2 ∷ []) (1 ∷ []) ∷ CanWrite 1 ∷ Said 1 154 text6 ∷ wait true (1 ∷ 2 ∷ []) [] ∷ CanRead 1 ∷ Heard 1 text15 ∷ Noted (Taken 1 5 Fetch) ∷ wait true (1 ∷ 2 ∷ []) (2 ∷ []) ∷ CanWrite 2 ∷ Asked 2 text16 ∷ wait true (1 ∷ 2 ∷ []) [] ∷ CanRead 2 ∷ Got 2 text5 ∷ Noted (Taken 1 5 (Hit 0 0)) ∷ wait true (1 ∷ 2 ∷ []) (1 ∷ []) ∷ CanWrite 1 ∷ Said 1 154 text6 ∷ wait true (1 ∷ 2 ∷ []) [] ∷ CanRead 1 ∷ Heard 1 text17 ∷ Noted (Taken 1 6 Fetch) ∷ wait true (1 ∷ 2 ∷ []) (2 ∷ []) ∷ CanWrite 2 ∷ Asked 2 text18 ∷ wait true (1 ∷ 2 ∷ []) [] ∷ CanRead 2 ∷ Got 2 text5 ∷ Noted (Taken 1 6 (Hit 0 0)) ∷ wait true (1 ∷ 2 ∷ []) (1 ∷ []) ∷ CanWrite 1 ∷ Said 1 154 text6 ∷ wait true (1 ∷ 2 ∷ []) [] ∷ CanRead 1 ∷ Heard 1 text19 ∷ Noted (Taken 1 7 Fetch) ∷ wait true (1 ∷ 2 ∷ []) (2 ∷ []) ∷ CanWrite 2 ∷ Asked 2 text20 ∷ wait true (1 ∷ 2 ∷ []) [] ∷ CanRead 2 ∷ Got 2 text5 ∷ Noted (Taken 1 7 (Hit 0 0)) ∷ wait true (1 ∷ 2 ∷ []) (1 ∷ []) ∷ CanWrite 1 ∷ Said 1 154 text6 ∷ wait true (1 ∷ 2 ∷ []) [] ∷ CanRead 1 ∷ Heard 1 text21 ∷ Noted (Taken 1 8 Fetch) ∷ wait true (1 ∷ 2 ∷ []) (2 ∷ []) ∷ CanWrite 2 ∷ Asked 2 text22 ∷ wait true (1 ∷ 2 ∷ []) [] ∷ CanRead 2 ∷ Got 2 text5 ∷ Noted (Taken 1 8 (Hit 0 0)) ∷ wait true (1 ∷ 2 ∷ []) (1 ∷ []) ∷ CanWrite 1 ∷ Said 1 154 text6 ∷ wait true (1 ∷ 2 ∷ []) [] ∷ CanRead 1 ∷ Heard 1 text23 ∷ Noted (Taken 1 9 Fetch) ∷ wait true (1 ∷ 2 ∷ []) (2 ∷ []) ∷ CanWrite 2 ∷ Asked 2 text24 ∷ wait true (1 ∷ 2 ∷ []) [] ∷ CanRead 2 ∷ Got 2 text5 ∷ Noted (Taken 1 9 (Hit 0 0)) ∷ wait true (1 ∷ 2 ∷ []) (1 ∷ []) ∷ CanWrite 1 ∷ Said 1 154 text6 ∷ wait true (1 ∷ 2 ∷ []) [] ∷ CanRead 1 ∷ Heard 1 text25 ∷ Noted (Taken 1 10 Fetch) ∷ wait true (1 ∷ 2 ∷ []) (2 ∷ []) ∷ CanWrite 2 ∷ Asked 2 text26 ∷ wait true (1 ∷ 2 ∷ []) [] ∷ CanRead 2 ∷ Got 2 text5 ∷ Noted (Taken 1 10 (Hit 0 0)) ∷ wait true (1 ∷ 2 ∷ []) (1 ∷ []) ∷ CanWrite 1 ∷ Said 1 154 text6 ∷ wait true (1 ∷ 2 ∷ []) [] ∷ CanRead 1 ∷ Heard 1 text27 ∷ Noted (Taken 1 11 Fetch) ∷ wait true (1 ∷ 2 ∷ []) (2 ∷ []) ∷ CanWrite 2 ∷ Asked 2 text28 ∷ wait true (1 ∷ 2 ∷ []) [] ∷ CanRead 2 ∷ Got 2 text5 ∷ Noted (Taken 1 11 (Hit 0 0)) ∷ wait true (1 ∷ 2 ∷ []) (1 ∷ []) ∷ CanWrite 1 ∷ Said 1 154 text6 ∷ wait true (1 ∷ 2 ∷ []) [] ∷ CanRead 1 ∷ Heard 1 text29 ∷ Noted (Taken 1 12 Fetch) ∷ wait true (1 ∷ 2 ∷ []) (2 ∷ []) ∷ CanWrite 2 ∷ Asked 2 text30 ∷ wait true (1 ∷ 2 ∷ []) [] ∷ CanRead 2 ∷ Got 2 text5 ∷ Noted (Taken 1 12 (Hit 0 0)) ∷ wait true (1 ∷ 2 ∷ []) (1 ∷ []) ∷ CanWrite 1 ∷ Said 1 154 text6 ∷ wait true (1 ∷ 2 ∷ []) [] ∷ CanRead 1 ∷ Heard 1 text31 ∷ Noted (Taken 1 13 Fetch) ∷ wait true (1 ∷ 2 ∷ []) (2 ∷ []) ∷ CanWrite 2 ∷ Asked 2 text32 ∷ wait true (1 ∷ 2 ∷ []) [] ∷ CanRead 2 ∷ Got 2 text5 ∷ Noted (Taken 1 13 (Hit 0 0)) ∷ wait true (1 ∷ 2 ∷ []) (1 ∷ []) ∷ CanWrite 1 ∷ Said 1 154 text6 ∷ wait true (1 ∷ 2 ∷ []) [] ∷ CanRead 1 ∷ Heard 1 text33 ∷ Noted (Taken 1 14 Fetch) ∷ wait true (1 ∷ 2 ∷ []) (2 ∷ []) ∷ CanWrite 2 ∷ Asked 2 text34 ∷ wait true (1 ∷ 2 ∷ []) [] ∷ CanRead 2 ∷ Got 2 text5 ∷ Noted (Taken 1 14 (Hit 0 0)) ∷ wait true (1 ∷ 2 ∷ []) (1 ∷ []) ∷ CanWrite 1 ∷ Said 1 154 text6 ∷ wait true (1 ∷ 2 ∷ []) [] ∷ CanRead 1 ∷ Heard 1 text35 ∷ Noted (Taken 1 15 Fetch) ∷ wait true (1 ∷ 2 ∷ []) (2 ∷ []) ∷ CanWrite 2 ∷ Asked 2 text36 ∷ wait true (1 ∷ 2 ∷ []) [] ∷ CanRead 2 ∷ Got 2 text5 ∷ Noted (Taken 1 15 (Hit 0 0)) ∷ wait true (1 ∷ 2 ∷ []) (1 ∷ []) ∷ CanWrite 1 ∷ Said 1 154 text6 ∷ wait true (1 ∷ 2 ∷ []) [] ∷ CanRead 1 ∷ Heard 1 text37 ∷ Noted (Taken 1 16 Fetch) ∷ wait true (1 ∷ 2 ∷ []) (2 ∷ []) ∷ []))
unfolding judging
front0x0 = (_, refl)

front0x1 : (s : State) × (arrived s ≡ judge 240 front0x0.0 (CanWrite 2 ∷ Asked 2 text38 ∷ wait true (1 ∷ 2 ∷ []) [] ∷ CanRead 2 ∷ Got 2 text5 ∷ Noted (Taken 1 16 (Hit 0 0)) ∷ wait true (1 ∷ 2 ∷ []) (1 ∷ []) ∷ CanWrite 1 ∷ Said 1 154 text6 ∷ wait true (1 ∷ 2 ∷ []) [] ∷ CanRead 1 ∷ Heard 1 text39 ∷ Noted (Taken 1 17 Fetch) ∷ wait true (1 ∷ 2 ∷ []) (2 ∷ []) ∷ CanWrite 2 ∷ Asked 2 text40 ∷ wait true (1 ∷ 2 ∷ []) [] ∷ CanRead 2 ∷ Got 2 text5 ∷ Noted (Taken 1 17 (Hit 0 0)) ∷ wait true (1 ∷ 2 ∷ []) (1 ∷ []) ∷ CanWrite 1 ∷ Said 1 154 text6 ∷ wait true (1 ∷ 2 ∷ []) [] ∷ CanRead 1 ∷ Heard 1 text41 ∷ Noted (Taken 1 18 Fetch) ∷ wait true (1 ∷ 2 ∷ []) (2 ∷ []) ∷ CanWrite 2 ∷ Asked 2 text42 ∷ wait true (1 ∷ 2 ∷ []) [] ∷ CanRead 2 ∷ Got 2 text5 ∷ Noted (Taken 1 18 (Hit 0 0)) ∷ wait true (1 ∷ 2 ∷ []) (1 ∷ []) ∷ CanWrite 1 ∷ Said 1 154 text6 ∷ wait true (1 ∷ 2 ∷ []) [] ∷ CanRead 1 ∷ Heard 1 text43 ∷ Noted (Taken 1 19 Fetch) ∷ wait true (1 ∷ 2 ∷ []) (2 ∷ []) ∷ CanWrite 2 ∷ Asked 2 text44 ∷ wait true (1 ∷ 2 ∷ []) [] ∷ CanRead 2 ∷ Got 2 text5 ∷ Noted (Taken 1 19 (Hit 0 0)) ∷ wait true (1 ∷ 2 ∷ []) (1 ∷ []) ∷ CanWrite 1 ∷ Said 1 154 text6 ∷ wait true (1 ∷ 2 ∷ []) [] ∷ CanRead 1 ∷ Heard 1 text45 ∷ Noted (Taken 1 20 Fetch) ∷ wait true (1 ∷ 2 ∷ []) (2 ∷ []) ∷ CanWrite 2 ∷ Asked 2 text46 ∷ wait true (1 ∷ 2 ∷ []) [] ∷ CanRead 2 ∷ Got 2 text5 ∷ Noted (Taken 1 20 (Hit 0 0)) ∷ wait true (1 ∷ 2 ∷ []) (1 ∷ []) ∷ CanWrite 1 ∷ Said 1 154 text6 ∷ wait true (1 ∷ 2 ∷ []) [] ∷ CanRead 1 ∷ Heard 1 text47 ∷ Noted (Taken 1 21 Fetch) ∷ wait true (1 ∷ 2 ∷ []) (2 ∷ []) ∷ CanWrite 2 ∷ Asked 2 text48 ∷ wait true (1 ∷ 2 ∷ []) [] ∷ CanRead 2 ∷ Got 2 text5 ∷ Noted (Taken 1 21 (Hit 0 0)) ∷ wait true (1 ∷ 2 ∷ []) (1 ∷ []) ∷ CanWrite 1 ∷ Said 1 154 text6 ∷ wait true (1 ∷ 2 ∷ []) [] ∷ CanRead 1 ∷ Heard 1 text49 ∷ Noted (Taken 1 22 Fetch) ∷ wait true (1 ∷ 2 ∷ []) (2 ∷ []) ∷ CanWrite 2 ∷ Asked 2 text50 ∷ wait true (1 ∷ 2 ∷ []) [] ∷ CanRead 2 ∷ Got 2 text5 ∷ Noted (Taken 1 22 (Hit 0 0)) ∷ wait true (1 ∷ 2 ∷ []) (1 ∷ []) ∷ CanWrite 1 ∷ Said 1 154 text6 ∷ wait true (1 ∷ 2 ∷ []) [] ∷ CanRead 1 ∷ Heard 1 text51 ∷ Noted (Taken 1 23 Fetch) ∷ wait true (1 ∷ 2 ∷ []) (2 ∷ []) ∷ CanWrite 2 ∷ Asked 2 text52 ∷ wait true (1 ∷ 2 ∷ []) [] ∷ CanRead 2 ∷ Got 2 text5 ∷ Noted (Taken 1 23 (Hit 0 0)) ∷ wait true (1 ∷ 2 ∷ []) (1 ∷ []) ∷ CanWrite 1 ∷ Said 1 154 text6 ∷ wait true (1 ∷ 2 ∷ []) [] ∷ CanRead 1 ∷ Heard 1 text53 ∷ Noted (Taken 1 24 Fetch) ∷ wait true (1 ∷ 2 ∷ []) (2 ∷ []) ∷ CanWrite 2 ∷ Asked 2 text54 ∷ wait true (1 ∷ 2 ∷ []) [] ∷ CanRead 2 ∷ Got 2 text5 ∷ Noted (Taken 1 24 (Hit 0 0)) ∷ wait true (1 ∷ 2 ∷ []) (1 ∷ []) ∷ CanWrite 1 ∷ Said 1 154 text6 ∷ wait true (1 ∷ 2 ∷ []) [] ∷ CanRead 1 ∷ Heard 1 text55 ∷ Noted (Taken 1 25 Fetch) ∷ wait true (1 ∷ 2 ∷ []) (2 ∷ []) ∷ CanWrite 2 ∷ Asked 2 text56 ∷ wait true (1 ∷ 2 ∷ []) [] ∷ CanRead 2 ∷ Got 2 text5 ∷ Noted (Taken 1 25 (Hit 0 0)) ∷ wait true (1 ∷ 2 ∷ []) (1 ∷ []) ∷ CanWrite 1 ∷ Said 1 154 text6 ∷ wait true (1 ∷ 2 ∷ []) [] ∷ CanRead 1 ∷ Heard 1 text57 ∷ Noted (Taken 1 26 Fetch) ∷ wait true (1 ∷ 2 ∷ []) (2 ∷ []) ∷ CanWrite 2 ∷ Asked 2 text58 ∷ wait true (1 ∷ 2 ∷ []) [] ∷ CanRead 2 ∷ Got 2 text5 ∷ Noted (Taken 1 26 (Hit 0 0)) ∷ wait true (1 ∷ 2 ∷ []) (1 ∷ []) ∷ CanWrite 1 ∷ Said 1 154 text6 ∷ wait true (1 ∷ 2 ∷ []) [] ∷ CanRead 1 ∷ Heard 1 text59 ∷ Noted (Taken 1 27 Fetch) ∷ wait true (1 ∷ 2 ∷ []) (2 ∷ []) ∷ CanWrite 2 ∷ Asked 2 text60 ∷ wait true (1 ∷ 2 ∷ []) [] ∷ CanRead 2 ∷ Got 2 text5 ∷ Noted (Taken 1 27 (Hit 0 0)) ∷ wait true (1 ∷ 2 ∷ []) (1 ∷ []) ∷ CanWrite 1 ∷ Said 1 154 text6 ∷ wait true (1 ∷ 2 ∷ []) [] ∷ CanRead 1 ∷ Heard 1 text61 ∷ Noted (Taken 1 28 Fetch) ∷ wait true (1 ∷ 2 ∷ []) (2 ∷ []) ∷ CanWrite 2 ∷ Asked 2 text62 ∷ wait true (1 ∷ 2 ∷ []) [] ∷ CanRead 2 ∷ Got 2 text5 ∷ Noted (Taken 1 28 (Hit 0 0)) ∷ wait true (1 ∷ 2 ∷ []) (1 ∷ []) ∷ CanWrite 1 ∷ Said 1 154 text6 ∷ wait true (1 ∷ 2 ∷ []) [] ∷ CanRead 1 ∷ Heard 1 text63 ∷ Noted (Taken 1 29 Fetch) ∷ wait true (1 ∷ 2 ∷ []) (2 ∷ []) ∷ CanWrite 2 ∷ Asked 2 text64 ∷ wait true (1 ∷ 2 ∷ []) [] ∷ CanRead 2 ∷ Got 2 text5 ∷ Noted (Taken 1 29 (Hit 0 0)) ∷ wait true (1 ∷ 2 ∷ []) (1 ∷ []) ∷ CanWrite 1 ∷ Said 1 154 text6 ∷ wait true (1 ∷ 2 ∷ []) [] ∷ CanRead 1 ∷ Heard 1 text65 ∷ Noted (Taken 1 30 Fetch) ∷ wait true (1 ∷ 2 ∷ []) (2 ∷ []) ∷ CanWrite 2 ∷ Asked 2 text66 ∷ wait true (1 ∷ 2 ∷ []) [] ∷ CanRead 2 ∷ Got 2 text5 ∷ Noted (Taken 1 30 (Hit 0 0)) ∷ wait true (1 ∷ 2 ∷ []) (1 ∷ []) ∷ CanWrite 1 ∷ Said 1 154 text6 ∷ wait true (1 ∷ 2 ∷ []) [] ∷ CanRead 1 ∷ Heard 1 text67 ∷ Noted (Taken 1 31 Fetch) ∷ wait true (1 ∷ 2 ∷ []) (2 ∷ []) ∷ CanWrite 2 ∷ Asked 2 text68 ∷ wait true (1 ∷ 2 ∷ []) [] ∷ CanRead 2 ∷ Got 2 text5 ∷ Noted (Taken 1 31 (Hit 0 0)) ∷ wait true (1 ∷ 2 ∷ []) (1 ∷ []) ∷ CanWrite 1 ∷ Said 1 154 text6 ∷ wait true (1 ∷ 2 ∷ []) [] ∷ CanRead 1 ∷ Heard 1 text69 ∷ Noted (Taken 1 32 Fetch) ∷ wait true (1 ∷ 2 ∷ []) (2 ∷ []) ∷ CanWrite 2 ∷ Asked 2 text70 ∷ wait true (1 ∷ 2 ∷ []) [] ∷ CanRead 2 ∷ Got 2 text5 ∷ Noted (Taken 1 32 (Hit 0 0)) ∷ wait true (1 ∷ 2 ∷ []) (1 ∷ []) ∷ CanWrite 1 ∷ Said 1 154 text6 ∷ wait true (1 ∷ 2 ∷ []) [] ∷ CanRead 1 ∷ Heard 1 text71 ∷ Noted (Taken 1 33 Fetch) ∷ wait true (1 ∷ 2 ∷ []) (2 ∷ []) ∷ CanWrite 2 ∷ Asked 2 text72 ∷ []))
unfolding judging front0x0
front0x1 = (_, refl)

front0x2 : (s : State) × (arrived s ≡ judge 480 front0x1.0 (wait true (1 ∷ 2 ∷ []) [] ∷ CanRead 2 ∷ Got 2 text5 ∷ Noted (Taken 1 33 (Hit 0 0)) ∷ wait true (1 ∷ 2 ∷ []) (1 ∷ []) ∷ CanWrite 1 ∷ Said 1 154 text6 ∷ wait true (1 ∷ 2 ∷ []) [] ∷ CanRead 1 ∷ Heard 1 text73 ∷ Noted (Taken 1 34 Fetch) ∷ wait true (1 ∷ 2 ∷ []) (2 ∷ []) ∷ CanWrite 2 ∷ Asked 2 text74 ∷ wait true (1 ∷ 2 ∷ []) [] ∷ CanRead 2 ∷ Got 2 text5 ∷ Noted (Taken 1 34 (Hit 0 0)) ∷ wait true (1 ∷ 2 ∷ []) (1 ∷ []) ∷ CanWrite 1 ∷ Said 1 154 text6 ∷ wait true (1 ∷ 2 ∷ []) [] ∷ CanRead 1 ∷ Heard 1 text75 ∷ Noted (Taken 1 35 Fetch) ∷ wait true (1 ∷ 2 ∷ []) (2 ∷ []) ∷ CanWrite 2 ∷ Asked 2 text76 ∷ wait true (1 ∷ 2 ∷ []) [] ∷ CanRead 2 ∷ Got 2 text5 ∷ Noted (Taken 1 35 (Hit 0 0)) ∷ wait true (1 ∷ 2 ∷ []) (1 ∷ []) ∷ CanWrite 1 ∷ Said 1 154 text6 ∷ wait true (1 ∷ 2 ∷ []) [] ∷ CanRead 1 ∷ Heard 1 text77 ∷ Noted (Taken 1 36 Fetch) ∷ wait true (1 ∷ 2 ∷ []) (2 ∷ []) ∷ CanWrite 2 ∷ Asked 2 text78 ∷ wait true (1 ∷ 2 ∷ []) [] ∷ CanRead 2 ∷ Got 2 text5 ∷ Noted (Taken 1 36 (Hit 0 0)) ∷ wait true (1 ∷ 2 ∷ []) (1 ∷ []) ∷ CanWrite 1 ∷ Said 1 154 text6 ∷ wait true (1 ∷ 2 ∷ []) [] ∷ CanRead 1 ∷ Heard 1 text79 ∷ Noted (Taken 1 37 Fetch) ∷ wait true (1 ∷ 2 ∷ []) (2 ∷ []) ∷ CanWrite 2 ∷ Asked 2 text80 ∷ wait true (1 ∷ 2 ∷ []) [] ∷ CanRead 2 ∷ Got 2 text5 ∷ Noted (Taken 1 37 (Hit 0 0)) ∷ wait true (1 ∷ 2 ∷ []) (1 ∷ []) ∷ CanWrite 1 ∷ Said 1 154 text6 ∷ wait true (1 ∷ 2 ∷ []) [] ∷ CanRead 1 ∷ Heard 1 text81 ∷ Noted (Taken 1 38 Fetch) ∷ wait true (1 ∷ 2 ∷ []) (2 ∷ []) ∷ CanWrite 2 ∷ Asked 2 text82 ∷ wait true (1 ∷ 2 ∷ []) [] ∷ CanRead 2 ∷ Got 2 text5 ∷ Noted (Taken 1 38 (Hit 0 0)) ∷ wait true (1 ∷ 2 ∷ []) (1 ∷ []) ∷ CanWrite 1 ∷ Said 1 154 text6 ∷ wait true (1 ∷ 2 ∷ []) [] ∷ CanRead 1 ∷ Heard 1 text83 ∷ Noted (Taken 1 39 Fetch) ∷ wait true (1 ∷ 2 ∷ []) (2 ∷ []) ∷ CanWrite 2 ∷ Asked 2 text84 ∷ wait true (1 ∷ 2 ∷ []) [] ∷ CanRead 2 ∷ Got 2 text5 ∷ Noted (Taken 1 39 (Hit 0 0)) ∷ wait true (1 ∷ 2 ∷ []) (1 ∷ []) ∷ CanWrite 1 ∷ Said 1 154 text6 ∷ wait true (1 ∷ 2 ∷ []) [] ∷ CanRead 1 ∷ Heard 1 text85 ∷ Noted (Taken 1 40 Fetch) ∷ wait true (1 ∷ 2 ∷ []) (2 ∷ []) ∷ CanWrite 2 ∷ Asked 2 text86 ∷ wait true (1 ∷ 2 ∷ []) [] ∷ CanRead 2 ∷ Got 2 text5 ∷ Noted (Taken 1 40 (Hit 0 0)) ∷ wait true (1 ∷ 2 ∷ []) (1 ∷ []) ∷ CanWrite 1 ∷ Said 1 154 text6 ∷ wait true (1 ∷ 2 ∷ []) [] ∷ CanRead 1 ∷ Heard 1 text87 ∷ Noted (Taken 1 41 Fetch) ∷ wait true (1 ∷ 2 ∷ []) (2 ∷ []) ∷ CanWrite 2 ∷ Asked 2 text88 ∷ wait true (1 ∷ 2 ∷ []) [] ∷ CanRead 2 ∷ Got 2 text5 ∷ Noted (Taken 1 41 (Hit 0 0)) ∷ wait true (1 ∷ 2 ∷ []) (1 ∷ []) ∷ CanWrite 1 ∷ Said 1 154 text6 ∷ wait true (1 ∷ 2 ∷ []) [] ∷ CanRead 1 ∷ Heard 1 text89 ∷ Noted (Taken 1 42 Fetch) ∷ wait true (1 ∷ 2 ∷ []) (2 ∷ []) ∷ CanWrite 2 ∷ Asked 2 text90 ∷ wait true (1 ∷ 2 ∷ []) [] ∷ CanRead 2 ∷ Got 2 text5 ∷ Noted (Taken 1 42 (Hit 0 0)) ∷ wait true (1 ∷ 2 ∷ []) (1 ∷ []) ∷ CanWrite 1 ∷ Said 1 154 text6 ∷ wait true (1 ∷ 2 ∷ []) [] ∷ CanRead 1 ∷ Heard 1 text91 ∷ Noted (Taken 1 43 Fetch) ∷ wait true (1 ∷ 2 ∷ []) (2 ∷ []) ∷ CanWrite 2 ∷ Asked 2 text92 ∷ wait true (1 ∷ 2 ∷ []) [] ∷ CanRead 2 ∷ Got 2 text5 ∷ Noted (Taken 1 43 (Hit 0 0)) ∷ wait true (1 ∷ 2 ∷ []) (1 ∷ []) ∷ CanWrite 1 ∷ Said 1 154 text6 ∷ wait true (1 ∷ 2 ∷ []) [] ∷ CanRead 1 ∷ Heard 1 text93 ∷ Noted (Taken 1 44 Fetch) ∷ wait true (1 ∷ 2 ∷ []) (2 ∷ []) ∷ CanWrite 2 ∷ Asked 2 text94 ∷ wait true (1 ∷ 2 ∷ []) [] ∷ CanRead 2 ∷ Got 2 text5 ∷ Noted (Taken 1 44 (Hit 0 0)) ∷ wait true (1 ∷ 2 ∷ []) (1 ∷ []) ∷ CanWrite 1 ∷ Said 1 154 text6 ∷ wait true (1 ∷ 2 ∷ []) [] ∷ CanRead 1 ∷ Heard 1 text95 ∷ Noted (Taken 1 45 Fetch) ∷ wait true (1 ∷ 2 ∷ []) (2 ∷ []) ∷ CanWrite 2 ∷ Asked 2 text96 ∷ wait true (1 ∷ 2 ∷ []) [] ∷ CanRead 2 ∷ Got 2 text5 ∷ Noted (Taken 1 45 (Hit 0 0)) ∷ wait true (1 ∷ 2 ∷ []) (1 ∷ []) ∷ CanWrite 1 ∷ Said 1 154 text6 ∷ wait true (1 ∷ 2 ∷ []) [] ∷ CanRead 1 ∷ Heard 1 text97 ∷ Noted (Taken 1 46 Fetch) ∷ wait true (1 ∷ 2 ∷ []) (2 ∷ []) ∷ CanWrite 2 ∷ Asked 2 text98 ∷ wait true (1 ∷ 2 ∷ []) [] ∷ CanRead 2 ∷ Got 2 text5 ∷ Noted (Taken 1 46 (Hit 0 0)) ∷ wait true (1 ∷ 2 ∷ []) (1 ∷ []) ∷ CanWrite 1 ∷ Said 1 154 text6 ∷ wait true (1 ∷ 2 ∷ []) [] ∷ CanRead 1 ∷ Heard 1 text99 ∷ Noted (Taken 1 47 Fetch) ∷ wait true (1 ∷ 2 ∷ []) (2 ∷ []) ∷ CanWrite 2 ∷ Asked 2 text100 ∷ wait true (1 ∷ 2 ∷ []) [] ∷ CanRead 2 ∷ Got 2 text5 ∷ Noted (Taken 1 47 (Hit 0 0)) ∷ wait true (1 ∷ 2 ∷ []) (1 ∷ []) ∷ CanWrite 1 ∷ Said 1 154 text6 ∷ wait true (1 ∷ 2 ∷ []) [] ∷ CanRead 1 ∷ Heard 1 text101 ∷ Noted (Taken 1 48 Fetch) ∷ wait true (1 ∷ 2 ∷ []) (2 ∷ []) ∷ CanWrite 2 ∷ Asked 2 text102 ∷ wait true (1 ∷ 2 ∷ []) [] ∷ CanRead 2 ∷ Got 2 text5 ∷ Noted (Taken 1 48 (Hit 0 0)) ∷ wait true (1 ∷ 2 ∷ []) (1 ∷ []) ∷ CanWrite 1 ∷ Said 1 154 text6 ∷ wait true (1 ∷ 2 ∷ []) [] ∷ CanRead 1 ∷ Heard 1 text103 ∷ Noted (Taken 1 49 Fetch) ∷ wait true (1 ∷ 2 ∷ []) (2 ∷ []) ∷ CanWrite 2 ∷ Asked 2 text104 ∷ wait true (1 ∷ 2 ∷ []) [] ∷ CanRead 2 ∷ Got 2 text5 ∷ Noted (Taken 1 49 (Hit 0 0)) ∷ wait true (1 ∷ 2 ∷ []) (1 ∷ []) ∷ CanWrite 1 ∷ Said 1 154 text6 ∷ wait true (1 ∷ 2 ∷ []) [] ∷ CanRead 1 ∷ Heard 1 text105 ∷ Noted (Taken 1 50 Fetch) ∷ wait true (1 ∷ 2 ∷ []) (2 ∷ []) ∷ CanWrite 2 ∷ Asked 2 text106 ∷ wait true (1 ∷ 2 ∷ []) [] ∷ CanRead 2 ∷ []))
unfolding judging front0x1
front0x2 = (_, refl)

front0x3 : (s : State) × (arrived s ≡ judge 720 front0x2.0 (Got 2 text5 ∷ Noted (Taken 1 50 (Hit 0 0)) ∷ wait true (1 ∷ 2 ∷ []) (1 ∷ []) ∷ CanWrite 1 ∷ Said 1 154 text6 ∷ wait true (1 ∷ 2 ∷ []) [] ∷ CanRead 1 ∷ Heard 1 text107 ∷ Noted (Taken 1 51 Fetch) ∷ wait true (1 ∷ 2 ∷ []) (2 ∷ []) ∷ CanWrite 2 ∷ Asked 2 text108 ∷ wait true (1 ∷ 2 ∷ []) [] ∷ CanRead 2 ∷ Got 2 text5 ∷ Noted (Taken 1 51 (Hit 0 0)) ∷ wait true (1 ∷ 2 ∷ []) (1 ∷ []) ∷ CanWrite 1 ∷ Said 1 154 text6 ∷ wait true (1 ∷ 2 ∷ []) [] ∷ CanRead 1 ∷ Heard 1 text109 ∷ Noted (Taken 1 52 Fetch) ∷ wait true (1 ∷ 2 ∷ []) (2 ∷ []) ∷ CanWrite 2 ∷ Asked 2 text110 ∷ wait true (1 ∷ 2 ∷ []) [] ∷ CanRead 2 ∷ Got 2 text5 ∷ Noted (Taken 1 52 (Hit 0 0)) ∷ wait true (1 ∷ 2 ∷ []) (1 ∷ []) ∷ CanWrite 1 ∷ Said 1 154 text6 ∷ wait true (1 ∷ 2 ∷ []) [] ∷ CanRead 1 ∷ Heard 1 text111 ∷ Noted (Taken 1 53 Fetch) ∷ wait true (1 ∷ 2 ∷ []) (2 ∷ []) ∷ CanWrite 2 ∷ Asked 2 text112 ∷ wait true (1 ∷ 2 ∷ []) [] ∷ CanRead 2 ∷ Got 2 text5 ∷ Noted (Taken 1 53 (Hit 0 0)) ∷ wait true (1 ∷ 2 ∷ []) (1 ∷ []) ∷ CanWrite 1 ∷ Said 1 154 text6 ∷ wait true (1 ∷ 2 ∷ []) [] ∷ CanRead 1 ∷ Heard 1 text113 ∷ Noted (Taken 1 54 Fetch) ∷ wait true (1 ∷ 2 ∷ []) (2 ∷ []) ∷ CanWrite 2 ∷ Asked 2 text114 ∷ wait true (1 ∷ 2 ∷ []) [] ∷ CanRead 2 ∷ Got 2 text5 ∷ Noted (Taken 1 54 (Hit 0 0)) ∷ wait true (1 ∷ 2 ∷ []) (1 ∷ []) ∷ CanWrite 1 ∷ Said 1 154 text6 ∷ wait true (1 ∷ 2 ∷ []) [] ∷ CanRead 1 ∷ Heard 1 text115 ∷ Noted (Taken 1 55 Fetch) ∷ wait true (1 ∷ 2 ∷ []) (2 ∷ []) ∷ CanWrite 2 ∷ Asked 2 text116 ∷ wait true (1 ∷ 2 ∷ []) [] ∷ CanRead 2 ∷ Got 2 text5 ∷ Noted (Taken 1 55 (Hit 0 0)) ∷ wait true (1 ∷ 2 ∷ []) (1 ∷ []) ∷ CanWrite 1 ∷ Said 1 154 text6 ∷ wait true (1 ∷ 2 ∷ []) [] ∷ CanRead 1 ∷ Heard 1 text117 ∷ Noted (Taken 1 56 Fetch) ∷ wait true (1 ∷ 2 ∷ []) (2 ∷ []) ∷ CanWrite 2 ∷ Asked 2 text118 ∷ wait true (1 ∷ 2 ∷ []) [] ∷ CanRead 2 ∷ Got 2 text5 ∷ Noted (Taken 1 56 (Hit 0 0)) ∷ wait true (1 ∷ 2 ∷ []) (1 ∷ []) ∷ CanWrite 1 ∷ Said 1 154 text6 ∷ wait true (1 ∷ 2 ∷ []) [] ∷ CanRead 1 ∷ Heard 1 text119 ∷ Noted (Taken 1 57 Fetch) ∷ wait true (1 ∷ 2 ∷ []) (2 ∷ []) ∷ CanWrite 2 ∷ Asked 2 text120 ∷ wait true (1 ∷ 2 ∷ []) [] ∷ CanRead 2 ∷ Got 2 text5 ∷ Noted (Taken 1 57 (Hit 0 0)) ∷ wait true (1 ∷ 2 ∷ []) (1 ∷ []) ∷ CanWrite 1 ∷ Said 1 154 text6 ∷ wait true (1 ∷ 2 ∷ []) [] ∷ CanRead 1 ∷ Heard 1 text121 ∷ Noted (Taken 1 58 Fetch) ∷ wait true (1 ∷ 2 ∷ []) (2 ∷ []) ∷ CanWrite 2 ∷ Asked 2 text122 ∷ wait true (1 ∷ 2 ∷ []) [] ∷ CanRead 2 ∷ Got 2 text5 ∷ Noted (Taken 1 58 (Hit 0 0)) ∷ wait true (1 ∷ 2 ∷ []) (1 ∷ []) ∷ CanWrite 1 ∷ Said 1 154 text6 ∷ wait true (1 ∷ 2 ∷ []) [] ∷ CanRead 1 ∷ Heard 1 text123 ∷ Noted (Taken 1 59 Fetch) ∷ wait true (1 ∷ 2 ∷ []) (2 ∷ []) ∷ CanWrite 2 ∷ Asked 2 text124 ∷ wait true (1 ∷ 2 ∷ []) [] ∷ CanRead 2 ∷ Got 2 text5 ∷ Noted (Taken 1 59 (Hit 0 0)) ∷ wait true (1 ∷ 2 ∷ []) (1 ∷ []) ∷ CanWrite 1 ∷ Said 1 154 text6 ∷ wait true (1 ∷ 2 ∷ []) [] ∷ CanRead 1 ∷ Heard 1 text125 ∷ Noted (Taken 1 60 Fetch) ∷ wait true (1 ∷ 2 ∷ []) (2 ∷ []) ∷ CanWrite 2 ∷ Asked 2 text126 ∷ wait true (1 ∷ 2 ∷ []) [] ∷ CanRead 2 ∷ Got 2 text5 ∷ Noted (Taken 1 60 (Hit 0 0)) ∷ wait true (1 ∷ 2 ∷ []) (1 ∷ []) ∷ CanWrite 1 ∷ Said 1 154 text6 ∷ wait true (1 ∷ 2 ∷ []) [] ∷ CanRead 1 ∷ Heard 1 text127 ∷ Noted (Taken 1 61 Fetch) ∷ wait true (1 ∷ 2 ∷ []) (2 ∷ []) ∷ CanWrite 2 ∷ Asked 2 text128 ∷ wait true (1 ∷ 2 ∷ []) [] ∷ CanRead 2 ∷ Got 2 text5 ∷ Noted (Taken 1 61 (Hit 0 0)) ∷ wait true (1 ∷ 2 ∷ []) (1 ∷ []) ∷ CanWrite 1 ∷ Said 1 154 text6 ∷ wait true (1 ∷ 2 ∷ []) [] ∷ CanRead 1 ∷ Heard 1 text129 ∷ Noted (Taken 1 62 Fetch) ∷ wait true (1 ∷ 2 ∷ []) (2 ∷ []) ∷ CanWrite 2 ∷ Asked 2 text130 ∷ wait true (1 ∷ 2 ∷ []) [] ∷ CanRead 2 ∷ Got 2 text5 ∷ Noted (Taken 1 62 (Hit 0 0)) ∷ wait true (1 ∷ 2 ∷ []) (1 ∷ []) ∷ CanWrite 1 ∷ Said 1 154 text6 ∷ wait true (1 ∷ 2 ∷ []) [] ∷ CanRead 1 ∷ Heard 1 text131 ∷ Noted (Taken 1 63 Fetch) ∷ wait true (1 ∷ 2 ∷ []) (2 ∷ []) ∷ CanWrite 2 ∷ Asked 2 text132 ∷ wait true (1 ∷ 2 ∷ []) [] ∷ CanRead 2 ∷ Got 2 text5 ∷ Noted (Taken 1 63 (Hit 0 0)) ∷ wait true (1 ∷ 2 ∷ []) (1 ∷ []) ∷ CanWrite 1 ∷ Said 1 154 text6 ∷ wait true (1 ∷ 2 ∷ []) [] ∷ CanRead 1 ∷ Heard 1 text133 ∷ Noted (Taken 1 64 Fetch) ∷ wait true (1 ∷ 2 ∷ []) (2 ∷ []) ∷ CanWrite 2 ∷ Asked 2 text134 ∷ wait true (1 ∷ 2 ∷ []) [] ∷ CanRead 2 ∷ Got 2 text5 ∷ Noted (Taken 1 64 (Hit 0 0)) ∷ wait true (1 ∷ 2 ∷ []) (1 ∷ []) ∷ CanWrite 1 ∷ Said 1 154 text6 ∷ wait true (1 ∷ 2 ∷ []) [] ∷ CanRead 1 ∷ Heard 1 text135 ∷ Noted (Taken 1 65 Fetch) ∷ wait true (1 ∷ 2 ∷ []) (2 ∷ []) ∷ CanWrite 2 ∷ Asked 2 text136 ∷ wait true (1 ∷ 2 ∷ []) [] ∷ CanRead 2 ∷ Got 2 text5 ∷ Noted (Taken 1 65 (Hit 0 0)) ∷ wait true (1 ∷ 2 ∷ []) (1 ∷ []) ∷ CanWrite 1 ∷ Said 1 154 text6 ∷ wait true (1 ∷ 2 ∷ []) [] ∷ CanRead 1 ∷ Heard 1 text137 ∷ Noted (Taken 1 66 Fetch) ∷ wait true (1 ∷ 2 ∷ []) (2 ∷ []) ∷ CanWrite 2 ∷ Asked 2 text138 ∷ wait true (1 ∷ 2 ∷ []) [] ∷ CanRead 2 ∷ Got 2 text5 ∷ Noted (Taken 1 66 (Hit 0 0)) ∷ wait true (1 ∷ 2 ∷ []) (1 ∷ []) ∷ CanWrite 1 ∷ Said 1 154 text6 ∷ wait true (1 ∷ 2 ∷ []) [] ∷ CanRead 1 ∷ Heard 1 text139 ∷ Noted (Taken 1 67 Fetch) ∷ wait true (1 ∷ 2 ∷ []) (2 ∷ []) ∷ CanWrite 2 ∷ Asked 2 text140 ∷ wait true (1 ∷ 2 ∷ []) [] ∷ CanRead 2 ∷ Got 2 text5 ∷ Noted (Taken 1 67 (Hit 0 0)) ∷ []))
unfolding judging front0x2
front0x3 = (_, refl)

front0x4 : (s : State) × (arrived s ≡ judge 960 front0x3.0 (wait true (1 ∷ 2 ∷ []) (1 ∷ []) ∷ CanWrite 1 ∷ Said 1 154 text6 ∷ wait true (1 ∷ 2 ∷ []) [] ∷ CanRead 1 ∷ Heard 1 text141 ∷ Noted (Taken 1 68 Fetch) ∷ wait true (1 ∷ 2 ∷ []) (2 ∷ []) ∷ CanWrite 2 ∷ Asked 2 text142 ∷ wait true (1 ∷ 2 ∷ []) [] ∷ CanRead 2 ∷ Got 2 text5 ∷ Noted (Taken 1 68 (Hit 0 0)) ∷ wait true (1 ∷ 2 ∷ []) (1 ∷ []) ∷ CanWrite 1 ∷ Said 1 154 text6 ∷ wait true (1 ∷ 2 ∷ []) [] ∷ CanRead 1 ∷ Heard 1 text143 ∷ Noted (Taken 1 69 Fetch) ∷ wait true (1 ∷ 2 ∷ []) (2 ∷ []) ∷ CanWrite 2 ∷ Asked 2 text144 ∷ wait true (1 ∷ 2 ∷ []) [] ∷ CanRead 2 ∷ Got 2 text5 ∷ Noted (Taken 1 69 (Hit 0 0)) ∷ wait true (1 ∷ 2 ∷ []) (1 ∷ []) ∷ CanWrite 1 ∷ Said 1 154 text6 ∷ wait true (1 ∷ 2 ∷ []) [] ∷ CanRead 1 ∷ Heard 1 text145 ∷ Noted (Taken 1 70 Fetch) ∷ wait true (1 ∷ 2 ∷ []) (2 ∷ []) ∷ CanWrite 2 ∷ Asked 2 text146 ∷ wait true (1 ∷ 2 ∷ []) [] ∷ CanRead 2 ∷ Got 2 text5 ∷ Noted (Taken 1 70 (Hit 0 0)) ∷ wait true (1 ∷ 2 ∷ []) (1 ∷ []) ∷ CanWrite 1 ∷ Said 1 154 text6 ∷ wait true (1 ∷ 2 ∷ []) [] ∷ CanRead 1 ∷ Heard 1 text147 ∷ Noted (Taken 1 71 Fetch) ∷ wait true (1 ∷ 2 ∷ []) (2 ∷ []) ∷ CanWrite 2 ∷ Asked 2 text148 ∷ wait true (1 ∷ 2 ∷ []) [] ∷ CanRead 2 ∷ Got 2 text5 ∷ Noted (Taken 1 71 (Hit 0 0)) ∷ wait true (1 ∷ 2 ∷ []) (1 ∷ []) ∷ CanWrite 1 ∷ Said 1 154 text6 ∷ wait true (1 ∷ 2 ∷ []) [] ∷ CanRead 1 ∷ Heard 1 text149 ∷ Noted (Taken 1 72 Fetch) ∷ wait true (1 ∷ 2 ∷ []) (2 ∷ []) ∷ CanWrite 2 ∷ Asked 2 text150 ∷ wait true (1 ∷ 2 ∷ []) [] ∷ CanRead 2 ∷ Got 2 text5 ∷ Noted (Taken 1 72 (Hit 0 0)) ∷ wait true (1 ∷ 2 ∷ []) (1 ∷ []) ∷ CanWrite 1 ∷ Said 1 154 text6 ∷ wait true (1 ∷ 2 ∷ []) [] ∷ CanRead 1 ∷ Heard 1 text151 ∷ Noted (Taken 1 73 Fetch) ∷ wait true (1 ∷ 2 ∷ []) (2 ∷ []) ∷ CanWrite 2 ∷ Asked 2 text152 ∷ wait true (1 ∷ 2 ∷ []) [] ∷ CanRead 2 ∷ Got 2 text5 ∷ Noted (Taken 1 73 (Hit 0 0)) ∷ wait true (1 ∷ 2 ∷ []) (1 ∷ []) ∷ CanWrite 1 ∷ Said 1 154 text6 ∷ wait true (1 ∷ 2 ∷ []) [] ∷ CanRead 1 ∷ Heard 1 text153 ∷ Noted (Taken 1 74 Fetch) ∷ wait true (1 ∷ 2 ∷ []) (2 ∷ []) ∷ CanWrite 2 ∷ Asked 2 text154 ∷ wait true (1 ∷ 2 ∷ []) [] ∷ CanRead 2 ∷ Got 2 text5 ∷ Noted (Taken 1 74 (Hit 0 0)) ∷ wait true (1 ∷ 2 ∷ []) (1 ∷ []) ∷ CanWrite 1 ∷ Said 1 154 text6 ∷ wait true (1 ∷ 2 ∷ []) [] ∷ CanRead 1 ∷ Heard 1 text155 ∷ Noted (Taken 1 75 Fetch) ∷ wait true (1 ∷ 2 ∷ []) (2 ∷ []) ∷ CanWrite 2 ∷ Asked 2 text156 ∷ wait true (1 ∷ 2 ∷ []) [] ∷ CanRead 2 ∷ Got 2 text5 ∷ Noted (Taken 1 75 (Hit 0 0)) ∷ wait true (1 ∷ 2 ∷ []) (1 ∷ []) ∷ CanWrite 1 ∷ Said 1 154 text6 ∷ wait true (1 ∷ 2 ∷ []) [] ∷ CanRead 1 ∷ Heard 1 text157 ∷ Noted (Taken 1 76 Fetch) ∷ wait true (1 ∷ 2 ∷ []) (2 ∷ []) ∷ CanWrite 2 ∷ Asked 2 text158 ∷ wait true (1 ∷ 2 ∷ []) [] ∷ CanRead 2 ∷ Got 2 text5 ∷ Noted (Taken 1 76 (Hit 0 0)) ∷ wait true (1 ∷ 2 ∷ []) (1 ∷ []) ∷ CanWrite 1 ∷ Said 1 154 text6 ∷ wait true (1 ∷ 2 ∷ []) [] ∷ CanRead 1 ∷ Heard 1 text159 ∷ Noted (Taken 1 77 Fetch) ∷ wait true (1 ∷ 2 ∷ []) (2 ∷ []) ∷ CanWrite 2 ∷ Asked 2 text160 ∷ wait true (1 ∷ 2 ∷ []) [] ∷ CanRead 2 ∷ Got 2 text5 ∷ Noted (Taken 1 77 (Hit 0 0)) ∷ wait true (1 ∷ 2 ∷ []) (1 ∷ []) ∷ CanWrite 1 ∷ Said 1 154 text6 ∷ wait true (1 ∷ 2 ∷ []) [] ∷ CanRead 1 ∷ Heard 1 text161 ∷ Noted (Taken 1 78 Fetch) ∷ wait true (1 ∷ 2 ∷ []) (2 ∷ []) ∷ CanWrite 2 ∷ Asked 2 text162 ∷ wait true (1 ∷ 2 ∷ []) [] ∷ CanRead 2 ∷ Got 2 text5 ∷ Noted (Taken 1 78 (Hit 0 0)) ∷ wait true (1 ∷ 2 ∷ []) (1 ∷ []) ∷ CanWrite 1 ∷ Said 1 154 text6 ∷ wait true (1 ∷ 2 ∷ []) [] ∷ CanRead 1 ∷ Heard 1 text163 ∷ Noted (Taken 1 79 Fetch) ∷ wait true (1 ∷ 2 ∷ []) (2 ∷ []) ∷ CanWrite 2 ∷ Asked 2 text164 ∷ wait true (1 ∷ 2 ∷ []) [] ∷ CanRead 2 ∷ Got 2 text5 ∷ Noted (Taken 1 79 (Hit 0 0)) ∷ wait true (1 ∷ 2 ∷ []) (1 ∷ []) ∷ CanWrite 1 ∷ Said 1 154 text6 ∷ wait true (1 ∷ 2 ∷ []) [] ∷ CanRead 1 ∷ Heard 1 text165 ∷ Noted (Taken 1 80 Fetch) ∷ wait true (1 ∷ 2 ∷ []) (2 ∷ []) ∷ CanWrite 2 ∷ Asked 2 text166 ∷ wait true (1 ∷ 2 ∷ []) [] ∷ CanRead 2 ∷ Got 2 text5 ∷ Noted (Taken 1 80 (Hit 0 0)) ∷ wait true (1 ∷ 2 ∷ []) (1 ∷ []) ∷ CanWrite 1 ∷ Said 1 154 text6 ∷ wait true (1 ∷ 2 ∷ []) [] ∷ CanRead 1 ∷ Heard 1 text167 ∷ Noted (Taken 1 81 Fetch) ∷ wait true (1 ∷ 2 ∷ []) (2 ∷ []) ∷ CanWrite 2 ∷ Asked 2 text168 ∷ wait true (1 ∷ 2 ∷ []) [] ∷ CanRead 2 ∷ Got 2 text5 ∷ Noted (Taken 1 81 (Hit 0 0)) ∷ wait true (1 ∷ 2 ∷ []) (1 ∷ []) ∷ CanWrite 1 ∷ Said 1 154 text6 ∷ wait true (1 ∷ 2 ∷ []) [] ∷ CanRead 1 ∷ Heard 1 text169 ∷ Noted (Taken 1 82 Fetch) ∷ wait true (1 ∷ 2 ∷ []) (2 ∷ []) ∷ CanWrite 2 ∷ Asked 2 text170 ∷ wait true (1 ∷ 2 ∷ []) [] ∷ CanRead 2 ∷ Got 2 text5 ∷ Noted (Taken 1 82 (Hit 0 0)) ∷ wait true (1 ∷ 2 ∷ []) (1 ∷ []) ∷ CanWrite 1 ∷ Said 1 154 text6 ∷ wait true (1 ∷ 2 ∷ []) [] ∷ CanRead 1 ∷ Heard 1 text171 ∷ Noted (Taken 1 83 Fetch) ∷ wait true (1 ∷ 2 ∷ []) (2 ∷ []) ∷ CanWrite 2 ∷ Asked 2 text172 ∷ wait true (1 ∷ 2 ∷ []) [] ∷ CanRead 2 ∷ Got 2 text5 ∷ Noted (Taken 1 83 (Hit 0 0)) ∷ wait true (1 ∷ 2 ∷ []) (1 ∷ []) ∷ CanWrite 1 ∷ Said 1 154 text6 ∷ wait true (1 ∷ 2 ∷ []) [] ∷ CanRead 1 ∷ Heard 1 text173 ∷ Noted (Taken 1 84 Fetch) ∷ wait true (1 ∷ 2 ∷ []) (2 ∷ []) ∷ CanWrite 2 ∷ Asked 2 text174 ∷ wait true (1 ∷ 2 ∷ []) [] ∷ CanRead 2 ∷ Got 2 text5 ∷ Noted (Taken 1 84 (Hit 0 0)) ∷ wait true (1 ∷ 2 ∷ []) (1 ∷ []) ∷ CanWrite 1 ∷ []))
unfolding judging front0x3
front0x4 = (_, refl)

front0x5 : (s : State) × (arrived s ≡ judge 1200 front0x4.0 (Said 1 154 text6 ∷ wait true (1 ∷ 2 ∷ []) [] ∷ CanRead 1 ∷ Heard 1 text175 ∷ Noted (Taken 1 85 Fetch) ∷ wait true (1 ∷ 2 ∷ []) (2 ∷ []) ∷ CanWrite 2 ∷ Asked 2 text176 ∷ wait true (1 ∷ 2 ∷ []) [] ∷ CanRead 2 ∷ Got 2 text5 ∷ Noted (Taken 1 85 (Hit 0 0)) ∷ wait true (1 ∷ 2 ∷ []) (1 ∷ []) ∷ CanWrite 1 ∷ Said 1 154 text6 ∷ wait true (1 ∷ 2 ∷ []) [] ∷ CanRead 1 ∷ Heard 1 text177 ∷ Noted (Taken 1 86 Fetch) ∷ wait true (1 ∷ 2 ∷ []) (2 ∷ []) ∷ CanWrite 2 ∷ Asked 2 text178 ∷ wait true (1 ∷ 2 ∷ []) [] ∷ CanRead 2 ∷ Got 2 text5 ∷ Noted (Taken 1 86 (Hit 0 0)) ∷ wait true (1 ∷ 2 ∷ []) (1 ∷ []) ∷ CanWrite 1 ∷ Said 1 154 text6 ∷ wait true (1 ∷ 2 ∷ []) [] ∷ CanRead 1 ∷ Heard 1 text179 ∷ Noted (Taken 1 87 Fetch) ∷ wait true (1 ∷ 2 ∷ []) (2 ∷ []) ∷ CanWrite 2 ∷ Asked 2 text180 ∷ wait true (1 ∷ 2 ∷ []) [] ∷ CanRead 2 ∷ Got 2 text5 ∷ Noted (Taken 1 87 (Hit 0 0)) ∷ wait true (1 ∷ 2 ∷ []) (1 ∷ []) ∷ CanWrite 1 ∷ Said 1 154 text6 ∷ wait true (1 ∷ 2 ∷ []) [] ∷ CanRead 1 ∷ Heard 1 text181 ∷ Noted (Taken 1 88 Fetch) ∷ wait true (1 ∷ 2 ∷ []) (2 ∷ []) ∷ CanWrite 2 ∷ Asked 2 text182 ∷ wait true (1 ∷ 2 ∷ []) [] ∷ CanRead 2 ∷ Got 2 text5 ∷ Noted (Taken 1 88 (Hit 0 0)) ∷ wait true (1 ∷ 2 ∷ []) (1 ∷ []) ∷ CanWrite 1 ∷ Said 1 154 text6 ∷ wait true (1 ∷ 2 ∷ []) [] ∷ CanRead 1 ∷ Heard 1 text183 ∷ Noted (Taken 1 89 Fetch) ∷ wait true (1 ∷ 2 ∷ []) (2 ∷ []) ∷ CanWrite 2 ∷ Asked 2 text184 ∷ wait true (1 ∷ 2 ∷ []) [] ∷ CanRead 2 ∷ Got 2 text5 ∷ Noted (Taken 1 89 (Hit 0 0)) ∷ wait true (1 ∷ 2 ∷ []) (1 ∷ []) ∷ CanWrite 1 ∷ Said 1 154 text6 ∷ wait true (1 ∷ 2 ∷ []) [] ∷ CanRead 1 ∷ Heard 1 text185 ∷ Noted (Taken 1 90 Fetch) ∷ wait true (1 ∷ 2 ∷ []) (2 ∷ []) ∷ CanWrite 2 ∷ Asked 2 text186 ∷ wait true (1 ∷ 2 ∷ []) [] ∷ CanRead 2 ∷ Got 2 text5 ∷ Noted (Taken 1 90 (Hit 0 0)) ∷ wait true (1 ∷ 2 ∷ []) (1 ∷ []) ∷ CanWrite 1 ∷ Said 1 154 text6 ∷ wait true (1 ∷ 2 ∷ []) [] ∷ CanRead 1 ∷ Heard 1 text187 ∷ Noted (Taken 1 91 Fetch) ∷ wait true (1 ∷ 2 ∷ []) (2 ∷ []) ∷ CanWrite 2 ∷ Asked 2 text188 ∷ wait true (1 ∷ 2 ∷ []) [] ∷ CanRead 2 ∷ Got 2 text5 ∷ Noted (Taken 1 91 (Hit 0 0)) ∷ wait true (1 ∷ 2 ∷ []) (1 ∷ []) ∷ CanWrite 1 ∷ Said 1 154 text6 ∷ wait true (1 ∷ 2 ∷ []) [] ∷ CanRead 1 ∷ Heard 1 text189 ∷ Noted (Taken 1 92 Fetch) ∷ wait true (1 ∷ 2 ∷ []) (2 ∷ []) ∷ CanWrite 2 ∷ Asked 2 text190 ∷ wait true (1 ∷ 2 ∷ []) [] ∷ CanRead 2 ∷ Got 2 text5 ∷ Noted (Taken 1 92 (Hit 0 0)) ∷ wait true (1 ∷ 2 ∷ []) (1 ∷ []) ∷ CanWrite 1 ∷ Said 1 154 text6 ∷ wait true (1 ∷ 2 ∷ []) [] ∷ CanRead 1 ∷ Heard 1 text191 ∷ Noted (Taken 1 93 Fetch) ∷ wait true (1 ∷ 2 ∷ []) (2 ∷ []) ∷ CanWrite 2 ∷ Asked 2 text192 ∷ wait true (1 ∷ 2 ∷ []) [] ∷ CanRead 2 ∷ Got 2 text5 ∷ Noted (Taken 1 93 (Hit 0 0)) ∷ wait true (1 ∷ 2 ∷ []) (1 ∷ []) ∷ CanWrite 1 ∷ Said 1 154 text6 ∷ wait true (1 ∷ 2 ∷ []) [] ∷ CanRead 1 ∷ Heard 1 text193 ∷ Noted (Taken 1 94 Fetch) ∷ wait true (1 ∷ 2 ∷ []) (2 ∷ []) ∷ CanWrite 2 ∷ Asked 2 text194 ∷ wait true (1 ∷ 2 ∷ []) [] ∷ CanRead 2 ∷ Got 2 text5 ∷ Noted (Taken 1 94 (Hit 0 0)) ∷ wait true (1 ∷ 2 ∷ []) (1 ∷ []) ∷ CanWrite 1 ∷ Said 1 154 text6 ∷ wait true (1 ∷ 2 ∷ []) [] ∷ CanRead 1 ∷ Heard 1 text195 ∷ Noted (Taken 1 95 Fetch) ∷ wait true (1 ∷ 2 ∷ []) (2 ∷ []) ∷ CanWrite 2 ∷ Asked 2 text196 ∷ wait true (1 ∷ 2 ∷ []) [] ∷ CanRead 2 ∷ Got 2 text5 ∷ Noted (Taken 1 95 (Hit 0 0)) ∷ wait true (1 ∷ 2 ∷ []) (1 ∷ []) ∷ CanWrite 1 ∷ Said 1 154 text6 ∷ wait true (1 ∷ 2 ∷ []) [] ∷ CanRead 1 ∷ Heard 1 text197 ∷ Noted (Taken 1 96 Fetch) ∷ wait true (1 ∷ 2 ∷ []) (2 ∷ []) ∷ CanWrite 2 ∷ Asked 2 text198 ∷ wait true (1 ∷ 2 ∷ []) [] ∷ CanRead 2 ∷ Got 2 text5 ∷ Noted (Taken 1 96 (Hit 0 0)) ∷ wait true (1 ∷ 2 ∷ []) (1 ∷ []) ∷ CanWrite 1 ∷ Said 1 154 text6 ∷ wait true (1 ∷ 2 ∷ []) [] ∷ CanRead 1 ∷ Heard 1 text199 ∷ Noted (Taken 1 97 Fetch) ∷ wait true (1 ∷ 2 ∷ []) (2 ∷ []) ∷ CanWrite 2 ∷ Asked 2 text200 ∷ wait true (1 ∷ 2 ∷ []) [] ∷ CanRead 2 ∷ Got 2 text5 ∷ Noted (Taken 1 97 (Hit 0 0)) ∷ wait true (1 ∷ 2 ∷ []) (1 ∷ []) ∷ CanWrite 1 ∷ Said 1 154 text6 ∷ wait true (1 ∷ 2 ∷ []) [] ∷ CanRead 1 ∷ Heard 1 text201 ∷ Noted (Taken 1 98 Fetch) ∷ wait true (1 ∷ 2 ∷ []) (2 ∷ []) ∷ CanWrite 2 ∷ Asked 2 text202 ∷ wait true (1 ∷ 2 ∷ []) [] ∷ CanRead 2 ∷ Got 2 text5 ∷ Noted (Taken 1 98 (Hit 0 0)) ∷ wait true (1 ∷ 2 ∷ []) (1 ∷ []) ∷ CanWrite 1 ∷ Said 1 154 text6 ∷ wait true (1 ∷ 2 ∷ []) [] ∷ CanRead 1 ∷ Heard 1 text203 ∷ Noted (Taken 1 99 Fetch) ∷ wait true (1 ∷ 2 ∷ []) (2 ∷ []) ∷ CanWrite 2 ∷ Asked 2 text204 ∷ wait true (1 ∷ 2 ∷ []) [] ∷ CanRead 2 ∷ Got 2 text5 ∷ Noted (Taken 1 99 (Hit 0 0)) ∷ wait true (1 ∷ 2 ∷ []) (1 ∷ []) ∷ CanWrite 1 ∷ Said 1 154 text6 ∷ wait true (1 ∷ 2 ∷ []) [] ∷ CanRead 1 ∷ Heard 1 text205 ∷ Noted (Taken 1 100 Fetch) ∷ wait true (1 ∷ 2 ∷ []) (2 ∷ []) ∷ CanWrite 2 ∷ Asked 2 text206 ∷ wait true (1 ∷ 2 ∷ []) [] ∷ CanRead 2 ∷ Got 2 text5 ∷ Noted (Taken 1 100 (Hit 0 0)) ∷ wait true (1 ∷ 2 ∷ []) (1 ∷ []) ∷ CanWrite 1 ∷ Said 1 154 text6 ∷ wait true (1 ∷ 2 ∷ []) [] ∷ CanRead 1 ∷ Heard 1 text207 ∷ Noted (Taken 1 101 Fetch) ∷ wait true (1 ∷ 2 ∷ []) (2 ∷ []) ∷ CanWrite 2 ∷ Asked 2 text208 ∷ wait true (1 ∷ 2 ∷ []) [] ∷ CanRead 2 ∷ Got 2 text5 ∷ Noted (Taken 1 101 (Hit 0 0)) ∷ wait true (1 ∷ 2 ∷ []) (1 ∷ []) ∷ CanWrite 1 ∷ Said 1 154 text6 ∷ wait true (1 ∷ 2 ∷ []) [] ∷ []))
unfolding judging front0x4
front0x5 = (_, refl)

front0x6 : (s : State) × (arrived s ≡ judge 1440 front0x5.0 (CanRead 1 ∷ Heard 1 text209 ∷ Noted (Taken 1 102 Fetch) ∷ wait true (1 ∷ 2 ∷ []) (2 ∷ []) ∷ CanWrite 2 ∷ Asked 2 text210 ∷ wait true (1 ∷ 2 ∷ []) [] ∷ CanRead 2 ∷ Got 2 text5 ∷ Noted (Taken 1 102 (Hit 0 0)) ∷ wait true (1 ∷ 2 ∷ []) (1 ∷ []) ∷ CanWrite 1 ∷ Said 1 154 text6 ∷ wait true (1 ∷ 2 ∷ []) [] ∷ CanRead 1 ∷ Heard 1 text211 ∷ Noted (Taken 1 103 Fetch) ∷ wait true (1 ∷ 2 ∷ []) (2 ∷ []) ∷ CanWrite 2 ∷ Asked 2 text212 ∷ wait true (1 ∷ 2 ∷ []) [] ∷ CanRead 2 ∷ Got 2 text5 ∷ Noted (Taken 1 103 (Hit 0 0)) ∷ wait true (1 ∷ 2 ∷ []) (1 ∷ []) ∷ CanWrite 1 ∷ Said 1 154 text6 ∷ wait true (1 ∷ 2 ∷ []) [] ∷ CanRead 1 ∷ Heard 1 text213 ∷ Noted (Taken 1 104 Fetch) ∷ wait true (1 ∷ 2 ∷ []) (2 ∷ []) ∷ CanWrite 2 ∷ Asked 2 text214 ∷ wait true (1 ∷ 2 ∷ []) [] ∷ CanRead 2 ∷ Got 2 text5 ∷ Noted (Taken 1 104 (Hit 0 0)) ∷ wait true (1 ∷ 2 ∷ []) (1 ∷ []) ∷ CanWrite 1 ∷ Said 1 154 text6 ∷ wait true (1 ∷ 2 ∷ []) [] ∷ CanRead 1 ∷ Heard 1 text215 ∷ Noted (Taken 1 105 Fetch) ∷ wait true (1 ∷ 2 ∷ []) (2 ∷ []) ∷ CanWrite 2 ∷ Asked 2 text216 ∷ wait true (1 ∷ 2 ∷ []) [] ∷ CanRead 2 ∷ Got 2 text5 ∷ Noted (Taken 1 105 (Hit 0 0)) ∷ wait true (1 ∷ 2 ∷ []) (1 ∷ []) ∷ CanWrite 1 ∷ Said 1 154 text6 ∷ wait true (1 ∷ 2 ∷ []) [] ∷ CanRead 1 ∷ Heard 1 text217 ∷ Noted (Taken 1 106 Fetch) ∷ wait true (1 ∷ 2 ∷ []) (2 ∷ []) ∷ CanWrite 2 ∷ Asked 2 text218 ∷ wait true (1 ∷ 2 ∷ []) [] ∷ CanRead 2 ∷ Got 2 text5 ∷ Noted (Taken 1 106 (Hit 0 0)) ∷ wait true (1 ∷ 2 ∷ []) (1 ∷ []) ∷ CanWrite 1 ∷ Said 1 154 text6 ∷ wait true (1 ∷ 2 ∷ []) [] ∷ CanRead 1 ∷ Heard 1 text219 ∷ Noted (Taken 1 107 Fetch) ∷ wait true (1 ∷ 2 ∷ []) (2 ∷ []) ∷ CanWrite 2 ∷ Asked 2 text220 ∷ wait true (1 ∷ 2 ∷ []) [] ∷ CanRead 2 ∷ Got 2 text5 ∷ Noted (Taken 1 107 (Hit 0 0)) ∷ wait true (1 ∷ 2 ∷ []) (1 ∷ []) ∷ CanWrite 1 ∷ Said 1 154 text6 ∷ wait true (1 ∷ 2 ∷ []) [] ∷ CanRead 1 ∷ Heard 1 text221 ∷ Noted (Taken 1 108 Fetch) ∷ wait true (1 ∷ 2 ∷ []) (2 ∷ []) ∷ CanWrite 2 ∷ Asked 2 text222 ∷ wait true (1 ∷ 2 ∷ []) [] ∷ CanRead 2 ∷ Got 2 text5 ∷ Noted (Taken 1 108 (Hit 0 0)) ∷ wait true (1 ∷ 2 ∷ []) (1 ∷ []) ∷ CanWrite 1 ∷ Said 1 154 text6 ∷ wait true (1 ∷ 2 ∷ []) [] ∷ CanRead 1 ∷ Heard 1 text223 ∷ Noted (Taken 1 109 Fetch) ∷ wait true (1 ∷ 2 ∷ []) (2 ∷ []) ∷ CanWrite 2 ∷ Asked 2 text224 ∷ wait true (1 ∷ 2 ∷ []) [] ∷ CanRead 2 ∷ Got 2 text5 ∷ Noted (Taken 1 109 (Hit 0 0)) ∷ wait true (1 ∷ 2 ∷ []) (1 ∷ []) ∷ CanWrite 1 ∷ Said 1 154 text6 ∷ wait true (1 ∷ 2 ∷ []) [] ∷ CanRead 1 ∷ Heard 1 text225 ∷ Noted (Taken 1 110 Fetch) ∷ wait true (1 ∷ 2 ∷ []) (2 ∷ []) ∷ CanWrite 2 ∷ Asked 2 text226 ∷ wait true (1 ∷ 2 ∷ []) [] ∷ CanRead 2 ∷ Got 2 text5 ∷ Noted (Taken 1 110 (Hit 0 0)) ∷ wait true (1 ∷ 2 ∷ []) (1 ∷ []) ∷ CanWrite 1 ∷ Said 1 154 text6 ∷ wait true (1 ∷ 2 ∷ []) [] ∷ CanRead 1 ∷ Heard 1 text227 ∷ Noted (Taken 1 111 Fetch) ∷ wait true (1 ∷ 2 ∷ []) (2 ∷ []) ∷ CanWrite 2 ∷ Asked 2 text228 ∷ wait true (1 ∷ 2 ∷ []) [] ∷ CanRead 2 ∷ Got 2 text5 ∷ Noted (Taken 1 111 (Hit 0 0)) ∷ wait true (1 ∷ 2 ∷ []) (1 ∷ []) ∷ CanWrite 1 ∷ Said 1 154 text6 ∷ wait true (1 ∷ 2 ∷ []) [] ∷ CanRead 1 ∷ Heard 1 text229 ∷ Noted (Taken 1 112 Fetch) ∷ wait true (1 ∷ 2 ∷ []) (2 ∷ []) ∷ CanWrite 2 ∷ Asked 2 text230 ∷ wait true (1 ∷ 2 ∷ []) [] ∷ CanRead 2 ∷ Got 2 text5 ∷ Noted (Taken 1 112 (Hit 0 0)) ∷ wait true (1 ∷ 2 ∷ []) (1 ∷ []) ∷ CanWrite 1 ∷ Said 1 154 text6 ∷ wait true (1 ∷ 2 ∷ []) [] ∷ CanRead 1 ∷ Heard 1 text231 ∷ Noted (Taken 1 113 Fetch) ∷ wait true (1 ∷ 2 ∷ []) (2 ∷ []) ∷ CanWrite 2 ∷ Asked 2 text232 ∷ wait true (1 ∷ 2 ∷ []) [] ∷ CanRead 2 ∷ Got 2 text5 ∷ Noted (Taken 1 113 (Hit 0 0)) ∷ wait true (1 ∷ 2 ∷ []) (1 ∷ []) ∷ CanWrite 1 ∷ Said 1 154 text6 ∷ wait true (1 ∷ 2 ∷ []) [] ∷ CanRead 1 ∷ Heard 1 text233 ∷ Noted (Taken 1 114 Fetch) ∷ wait true (1 ∷ 2 ∷ []) (2 ∷ []) ∷ CanWrite 2 ∷ Asked 2 text234 ∷ wait true (1 ∷ 2 ∷ []) [] ∷ CanRead 2 ∷ Got 2 text5 ∷ Noted (Taken 1 114 (Hit 0 0)) ∷ wait true (1 ∷ 2 ∷ []) (1 ∷ []) ∷ CanWrite 1 ∷ Said 1 154 text6 ∷ wait true (1 ∷ 2 ∷ []) [] ∷ CanRead 1 ∷ Heard 1 text235 ∷ Noted (Taken 1 115 Fetch) ∷ wait true (1 ∷ 2 ∷ []) (2 ∷ []) ∷ CanWrite 2 ∷ Asked 2 text236 ∷ wait true (1 ∷ 2 ∷ []) [] ∷ CanRead 2 ∷ Got 2 text5 ∷ Noted (Taken 1 115 (Hit 0 0)) ∷ wait true (1 ∷ 2 ∷ []) (1 ∷ []) ∷ CanWrite 1 ∷ Said 1 154 text6 ∷ wait true (1 ∷ 2 ∷ []) [] ∷ CanRead 1 ∷ Heard 1 text237 ∷ Noted (Taken 1 116 Fetch) ∷ wait true (1 ∷ 2 ∷ []) (2 ∷ []) ∷ CanWrite 2 ∷ Asked 2 text238 ∷ wait true (1 ∷ 2 ∷ []) [] ∷ CanRead 2 ∷ Got 2 text5 ∷ Noted (Taken 1 116 (Hit 0 0)) ∷ wait true (1 ∷ 2 ∷ []) (1 ∷ []) ∷ CanWrite 1 ∷ Said 1 154 text6 ∷ wait true (1 ∷ 2 ∷ []) [] ∷ CanRead 1 ∷ Heard 1 text239 ∷ Noted (Taken 1 117 Fetch) ∷ wait true (1 ∷ 2 ∷ []) (2 ∷ []) ∷ CanWrite 2 ∷ Asked 2 text240 ∷ wait true (1 ∷ 2 ∷ []) [] ∷ CanRead 2 ∷ Got 2 text5 ∷ Noted (Taken 1 117 (Hit 0 0)) ∷ wait true (1 ∷ 2 ∷ []) (1 ∷ []) ∷ CanWrite 1 ∷ Said 1 154 text6 ∷ wait true (1 ∷ 2 ∷ []) [] ∷ CanRead 1 ∷ Heard 1 text241 ∷ Noted (Taken 1 118 Fetch) ∷ wait true (1 ∷ 2 ∷ []) (2 ∷ []) ∷ CanWrite 2 ∷ Asked 2 text242 ∷ wait true (1 ∷ 2 ∷ []) [] ∷ CanRead 2 ∷ Got 2 text5 ∷ Noted (Taken 1 118 (Hit 0 0)) ∷ wait true (1 ∷ 2 ∷ []) (1 ∷ []) ∷ CanWrite 1 ∷ Said 1 154 text6 ∷ wait true (1 ∷ 2 ∷ []) [] ∷ CanRead 1 ∷ Heard 1 text243 ∷ []))
unfolding judging front0x5
front0x6 = (_, refl)

front0x7 : (s : State) × (arrived s ≡ judge 1680 front0x6.0 (Noted (Taken 1 119 Fetch) ∷ wait true (1 ∷ 2 ∷ []) (2 ∷ []) ∷ CanWrite 2 ∷ Asked 2 text244 ∷ wait true (1 ∷ 2 ∷ []) [] ∷ CanRead 2 ∷ Got 2 text5 ∷ Noted (Taken 1 119 (Hit 0 0)) ∷ wait true (1 ∷ 2 ∷ []) (1 ∷ []) ∷ CanWrite 1 ∷ Said 1 154 text6 ∷ wait true (1 ∷ 2 ∷ []) [] ∷ CanRead 1 ∷ Heard 1 text245 ∷ Noted (Taken 1 120 Fetch) ∷ wait true (1 ∷ 2 ∷ []) (2 ∷ []) ∷ CanWrite 2 ∷ Asked 2 text246 ∷ wait true (1 ∷ 2 ∷ []) [] ∷ CanRead 2 ∷ Got 2 text5 ∷ Noted (Taken 1 120 (Hit 0 0)) ∷ wait true (1 ∷ 2 ∷ []) (1 ∷ []) ∷ CanWrite 1 ∷ Said 1 154 text6 ∷ wait true (1 ∷ 2 ∷ []) [] ∷ CanRead 1 ∷ Heard 1 text247 ∷ Noted (Taken 1 121 Fetch) ∷ wait true (1 ∷ 2 ∷ []) (2 ∷ []) ∷ CanWrite 2 ∷ Asked 2 text248 ∷ wait true (1 ∷ 2 ∷ []) [] ∷ CanRead 2 ∷ Got 2 text5 ∷ Noted (Taken 1 121 (Hit 0 0)) ∷ wait true (1 ∷ 2 ∷ []) (1 ∷ []) ∷ CanWrite 1 ∷ Said 1 154 text6 ∷ wait true (1 ∷ 2 ∷ []) [] ∷ CanRead 1 ∷ Heard 1 text249 ∷ Noted (Taken 1 122 Fetch) ∷ wait true (1 ∷ 2 ∷ []) (2 ∷ []) ∷ CanWrite 2 ∷ Asked 2 text250 ∷ wait true (1 ∷ 2 ∷ []) [] ∷ CanRead 2 ∷ Got 2 text5 ∷ Noted (Taken 1 122 (Hit 0 0)) ∷ wait true (1 ∷ 2 ∷ []) (1 ∷ []) ∷ CanWrite 1 ∷ Said 1 154 text6 ∷ wait true (1 ∷ 2 ∷ []) [] ∷ CanRead 1 ∷ Heard 1 text251 ∷ Noted (Taken 1 123 Fetch) ∷ wait true (1 ∷ 2 ∷ []) (2 ∷ []) ∷ CanWrite 2 ∷ Asked 2 text252 ∷ wait true (1 ∷ 2 ∷ []) [] ∷ CanRead 2 ∷ Got 2 text5 ∷ Noted (Taken 1 123 (Hit 0 0)) ∷ wait true (1 ∷ 2 ∷ []) (1 ∷ []) ∷ CanWrite 1 ∷ Said 1 154 text6 ∷ wait true (1 ∷ 2 ∷ []) [] ∷ CanRead 1 ∷ Heard 1 text253 ∷ Noted (Taken 1 124 Fetch) ∷ wait true (1 ∷ 2 ∷ []) (2 ∷ []) ∷ CanWrite 2 ∷ Asked 2 text254 ∷ wait true (1 ∷ 2 ∷ []) [] ∷ CanRead 2 ∷ Got 2 text5 ∷ Noted (Taken 1 124 (Hit 0 0)) ∷ wait true (1 ∷ 2 ∷ []) (1 ∷ []) ∷ CanWrite 1 ∷ Said 1 154 text6 ∷ wait true (1 ∷ 2 ∷ []) [] ∷ CanRead 1 ∷ Heard 1 text255 ∷ Noted (Taken 1 125 Fetch) ∷ wait true (1 ∷ 2 ∷ []) (2 ∷ []) ∷ CanWrite 2 ∷ Asked 2 text256 ∷ wait true (1 ∷ 2 ∷ []) [] ∷ CanRead 2 ∷ Got 2 text5 ∷ Noted (Taken 1 125 (Hit 0 0)) ∷ wait true (1 ∷ 2 ∷ []) (1 ∷ []) ∷ CanWrite 1 ∷ Said 1 154 text6 ∷ wait true (1 ∷ 2 ∷ []) [] ∷ CanRead 1 ∷ Heard 1 text257 ∷ Noted (Taken 1 126 Fetch) ∷ wait true (1 ∷ 2 ∷ []) (2 ∷ []) ∷ CanWrite 2 ∷ Asked 2 text258 ∷ wait true (1 ∷ 2 ∷ []) [] ∷ CanRead 2 ∷ Got 2 text5 ∷ Noted (Taken 1 126 (Hit 0 0)) ∷ wait true (1 ∷ 2 ∷ []) (1 ∷ []) ∷ CanWrite 1 ∷ Said 1 154 text6 ∷ wait true (1 ∷ 2 ∷ []) [] ∷ CanRead 1 ∷ Heard 1 text259 ∷ Noted (Taken 1 127 Fetch) ∷ wait true (1 ∷ 2 ∷ []) (2 ∷ []) ∷ CanWrite 2 ∷ Asked 2 text260 ∷ wait true (1 ∷ 2 ∷ []) [] ∷ CanRead 2 ∷ Got 2 text5 ∷ Noted (Taken 1 127 (Hit 0 0)) ∷ wait true (1 ∷ 2 ∷ []) (1 ∷ []) ∷ CanWrite 1 ∷ Said 1 154 text6 ∷ wait true (1 ∷ 2 ∷ []) [] ∷ CanRead 1 ∷ Heard 1 text261 ∷ Noted (Taken 1 128 Fetch) ∷ wait true (1 ∷ 2 ∷ []) (2 ∷ []) ∷ CanWrite 2 ∷ Asked 2 text262 ∷ wait true (1 ∷ 2 ∷ []) [] ∷ CanRead 2 ∷ Got 2 text5 ∷ Noted (Taken 1 128 (Hit 0 0)) ∷ wait true (1 ∷ 2 ∷ []) (1 ∷ []) ∷ CanWrite 1 ∷ Said 1 154 text6 ∷ wait true (1 ∷ 2 ∷ []) [] ∷ CanRead 1 ∷ Heard 1 text263 ∷ Noted (Taken 1 129 Fetch) ∷ wait true (1 ∷ 2 ∷ []) (2 ∷ []) ∷ CanWrite 2 ∷ Asked 2 text264 ∷ wait true (1 ∷ 2 ∷ []) [] ∷ CanRead 2 ∷ Got 2 text5 ∷ Noted (Taken 1 129 (Hit 0 0)) ∷ wait true (1 ∷ 2 ∷ []) (1 ∷ []) ∷ CanWrite 1 ∷ Said 1 154 text6 ∷ wait true (1 ∷ 2 ∷ []) [] ∷ CanRead 1 ∷ Heard 1 text265 ∷ Noted (Taken 1 130 Fetch) ∷ wait true (1 ∷ 2 ∷ []) (2 ∷ []) ∷ CanWrite 2 ∷ Asked 2 text266 ∷ wait true (1 ∷ 2 ∷ []) [] ∷ CanRead 2 ∷ Got 2 text5 ∷ Noted (Taken 1 130 (Hit 0 0)) ∷ wait true (1 ∷ 2 ∷ []) (1 ∷ []) ∷ CanWrite 1 ∷ Said 1 154 text6 ∷ wait true (1 ∷ 2 ∷ []) [] ∷ CanRead 1 ∷ Heard 1 text267 ∷ Noted (Taken 1 131 Fetch) ∷ wait true (1 ∷ 2 ∷ []) (2 ∷ []) ∷ CanWrite 2 ∷ Asked 2 text268 ∷ wait true (1 ∷ 2 ∷ []) [] ∷ CanRead 2 ∷ Got 2 text5 ∷ Noted (Taken 1 131 (Hit 0 0)) ∷ wait true (1 ∷ 2 ∷ []) (1 ∷ []) ∷ CanWrite 1 ∷ Said 1 154 text6 ∷ wait true (1 ∷ 2 ∷ []) [] ∷ CanRead 1 ∷ Heard 1 text269 ∷ Noted (Taken 1 132 Fetch) ∷ wait true (1 ∷ 2 ∷ []) (2 ∷ []) ∷ CanWrite 2 ∷ Asked 2 text270 ∷ wait true (1 ∷ 2 ∷ []) [] ∷ CanRead 2 ∷ Got 2 text5 ∷ Noted (Taken 1 132 (Hit 0 0)) ∷ wait true (1 ∷ 2 ∷ []) (1 ∷ []) ∷ CanWrite 1 ∷ Said 1 154 text6 ∷ wait true (1 ∷ 2 ∷ []) [] ∷ CanRead 1 ∷ Heard 1 text271 ∷ Noted (Taken 1 133 Fetch) ∷ wait true (1 ∷ 2 ∷ []) (2 ∷ []) ∷ CanWrite 2 ∷ Asked 2 text272 ∷ wait true (1 ∷ 2 ∷ []) [] ∷ CanRead 2 ∷ Got 2 text5 ∷ Noted (Taken 1 133 (Hit 0 0)) ∷ wait true (1 ∷ 2 ∷ []) (1 ∷ []) ∷ CanWrite 1 ∷ Said 1 154 text6 ∷ wait true (1 ∷ 2 ∷ []) [] ∷ CanRead 1 ∷ Heard 1 text273 ∷ Noted (Taken 1 134 Fetch) ∷ wait true (1 ∷ 2 ∷ []) (2 ∷ []) ∷ CanWrite 2 ∷ Asked 2 text274 ∷ wait true (1 ∷ 2 ∷ []) [] ∷ CanRead 2 ∷ Got 2 text5 ∷ Noted (Taken 1 134 (Hit 0 0)) ∷ wait true (1 ∷ 2 ∷ []) (1 ∷ []) ∷ CanWrite 1 ∷ Said 1 154 text6 ∷ wait true (1 ∷ 2 ∷ []) [] ∷ CanRead 1 ∷ Heard 1 text275 ∷ Noted (Taken 1 135 Fetch) ∷ wait true (1 ∷ 2 ∷ []) (2 ∷ []) ∷ CanWrite 2 ∷ Asked 2 text276 ∷ wait true (1 ∷ 2 ∷ []) [] ∷ CanRead 2 ∷ Got 2 text5 ∷ Noted (Taken 1 135 (Hit 0 0)) ∷ wait true (1 ∷ 2 ∷ []) (1 ∷ []) ∷ CanWrite 1 ∷ Said 1 154 text6 ∷ wait true (1 ∷ 2 ∷ []) [] ∷ CanRead 1 ∷ Heard 1 text277 ∷ Noted (Taken 1 136 Fetch) ∷ wait true (1 ∷ 2 ∷ []) (2 ∷ []) ∷ []))
unfolding judging front0x6
front0x7 = (_, refl)

front0x8 : (s : State) × (arrived s ≡ judge 1920 front0x7.0 (CanWrite 2 ∷ Asked 2 text278 ∷ wait true (1 ∷ 2 ∷ []) [] ∷ CanRead 2 ∷ Got 2 text5 ∷ Noted (Taken 1 136 (Hit 0 0)) ∷ wait true (1 ∷ 2 ∷ []) (1 ∷ []) ∷ CanWrite 1 ∷ Said 1 154 text6 ∷ wait true (1 ∷ 2 ∷ []) [] ∷ CanRead 1 ∷ Heard 1 text279 ∷ Noted (Taken 1 137 Fetch) ∷ wait true (1 ∷ 2 ∷ []) (2 ∷ []) ∷ CanWrite 2 ∷ Asked 2 text280 ∷ wait true (1 ∷ 2 ∷ []) [] ∷ CanRead 2 ∷ Got 2 text5 ∷ Noted (Taken 1 137 (Hit 0 0)) ∷ wait true (1 ∷ 2 ∷ []) (1 ∷ []) ∷ CanWrite 1 ∷ Said 1 154 text6 ∷ wait true (1 ∷ 2 ∷ []) [] ∷ CanRead 1 ∷ Heard 1 text281 ∷ Noted (Taken 1 138 Fetch) ∷ wait true (1 ∷ 2 ∷ []) (2 ∷ []) ∷ CanWrite 2 ∷ Asked 2 text282 ∷ wait true (1 ∷ 2 ∷ []) [] ∷ CanRead 2 ∷ Got 2 text5 ∷ Noted (Taken 1 138 (Hit 0 0)) ∷ wait true (1 ∷ 2 ∷ []) (1 ∷ []) ∷ CanWrite 1 ∷ Said 1 154 text6 ∷ wait true (1 ∷ 2 ∷ []) [] ∷ CanRead 1 ∷ Heard 1 text283 ∷ Noted (Taken 1 139 Fetch) ∷ wait true (1 ∷ 2 ∷ []) (2 ∷ []) ∷ CanWrite 2 ∷ Asked 2 text284 ∷ wait true (1 ∷ 2 ∷ []) [] ∷ CanRead 2 ∷ Got 2 text5 ∷ Noted (Taken 1 139 (Hit 0 0)) ∷ wait true (1 ∷ 2 ∷ []) (1 ∷ []) ∷ CanWrite 1 ∷ Said 1 154 text6 ∷ wait true (1 ∷ 2 ∷ []) [] ∷ CanRead 1 ∷ Heard 1 text285 ∷ Noted (Taken 1 140 Fetch) ∷ wait true (1 ∷ 2 ∷ []) (2 ∷ []) ∷ CanWrite 2 ∷ Asked 2 text286 ∷ wait true (1 ∷ 2 ∷ []) [] ∷ CanRead 2 ∷ Got 2 text5 ∷ Noted (Taken 1 140 (Hit 0 0)) ∷ wait true (1 ∷ 2 ∷ []) (1 ∷ []) ∷ CanWrite 1 ∷ Said 1 154 text6 ∷ wait true (1 ∷ 2 ∷ []) [] ∷ CanRead 1 ∷ Heard 1 text287 ∷ Noted (Taken 1 141 Fetch) ∷ wait true (1 ∷ 2 ∷ []) (2 ∷ []) ∷ CanWrite 2 ∷ Asked 2 text288 ∷ wait true (1 ∷ 2 ∷ []) [] ∷ CanRead 2 ∷ Got 2 text5 ∷ Noted (Taken 1 141 (Hit 0 0)) ∷ wait true (1 ∷ 2 ∷ []) (1 ∷ []) ∷ CanWrite 1 ∷ Said 1 154 text6 ∷ wait true (1 ∷ 2 ∷ []) [] ∷ CanRead 1 ∷ Heard 1 text289 ∷ Noted (Taken 1 142 Fetch) ∷ wait true (1 ∷ 2 ∷ []) (2 ∷ []) ∷ CanWrite 2 ∷ Asked 2 text290 ∷ wait true (1 ∷ 2 ∷ []) [] ∷ CanRead 2 ∷ Got 2 text5 ∷ Noted (Taken 1 142 (Hit 0 0)) ∷ wait true (1 ∷ 2 ∷ []) (1 ∷ []) ∷ CanWrite 1 ∷ Said 1 154 text6 ∷ wait true (1 ∷ 2 ∷ []) [] ∷ CanRead 1 ∷ Heard 1 text291 ∷ Noted (Taken 1 143 Fetch) ∷ wait true (1 ∷ 2 ∷ []) (2 ∷ []) ∷ CanWrite 2 ∷ Asked 2 text292 ∷ wait true (1 ∷ 2 ∷ []) [] ∷ CanRead 2 ∷ Got 2 text5 ∷ Noted (Taken 1 143 (Hit 0 0)) ∷ wait true (1 ∷ 2 ∷ []) (1 ∷ []) ∷ CanWrite 1 ∷ Said 1 154 text6 ∷ wait true (1 ∷ 2 ∷ []) [] ∷ CanRead 1 ∷ Heard 1 text293 ∷ Noted (Taken 1 144 Fetch) ∷ wait true (1 ∷ 2 ∷ []) (2 ∷ []) ∷ CanWrite 2 ∷ Asked 2 text294 ∷ wait true (1 ∷ 2 ∷ []) [] ∷ CanRead 2 ∷ Got 2 text5 ∷ Noted (Taken 1 144 (Hit 0 0)) ∷ wait true (1 ∷ 2 ∷ []) (1 ∷ []) ∷ CanWrite 1 ∷ Said 1 154 text6 ∷ wait true (1 ∷ 2 ∷ []) [] ∷ CanRead 1 ∷ Heard 1 text295 ∷ Noted (Taken 1 145 Fetch) ∷ wait true (1 ∷ 2 ∷ []) (2 ∷ []) ∷ CanWrite 2 ∷ Asked 2 text296 ∷ wait true (1 ∷ 2 ∷ []) [] ∷ CanRead 2 ∷ Got 2 text5 ∷ Noted (Taken 1 145 (Hit 0 0)) ∷ wait true (1 ∷ 2 ∷ []) (1 ∷ []) ∷ CanWrite 1 ∷ Said 1 154 text6 ∷ wait true (1 ∷ 2 ∷ []) [] ∷ CanRead 1 ∷ Heard 1 text297 ∷ Noted (Taken 1 146 Fetch) ∷ wait true (1 ∷ 2 ∷ []) (2 ∷ []) ∷ CanWrite 2 ∷ Asked 2 text298 ∷ wait true (1 ∷ 2 ∷ []) [] ∷ CanRead 2 ∷ Got 2 text5 ∷ Noted (Taken 1 146 (Hit 0 0)) ∷ wait true (1 ∷ 2 ∷ []) (1 ∷ []) ∷ CanWrite 1 ∷ Said 1 154 text6 ∷ wait true (1 ∷ 2 ∷ []) [] ∷ CanRead 1 ∷ Heard 1 text299 ∷ Noted (Taken 1 147 Fetch) ∷ wait true (1 ∷ 2 ∷ []) (2 ∷ []) ∷ CanWrite 2 ∷ Asked 2 text300 ∷ wait true (1 ∷ 2 ∷ []) [] ∷ CanRead 2 ∷ Got 2 text5 ∷ Noted (Taken 1 147 (Hit 0 0)) ∷ wait true (1 ∷ 2 ∷ []) (1 ∷ []) ∷ CanWrite 1 ∷ Said 1 154 text6 ∷ wait true (1 ∷ 2 ∷ []) [] ∷ CanRead 1 ∷ Heard 1 text301 ∷ Noted (Taken 1 148 Fetch) ∷ wait true (1 ∷ 2 ∷ []) (2 ∷ []) ∷ CanWrite 2 ∷ Asked 2 text302 ∷ wait true (1 ∷ 2 ∷ []) [] ∷ CanRead 2 ∷ Got 2 text5 ∷ Noted (Taken 1 148 (Hit 0 0)) ∷ wait true (1 ∷ 2 ∷ []) (1 ∷ []) ∷ CanWrite 1 ∷ Said 1 154 text6 ∷ wait true (1 ∷ 2 ∷ []) [] ∷ CanRead 1 ∷ Heard 1 text303 ∷ Noted (Taken 1 149 Fetch) ∷ wait true (1 ∷ 2 ∷ []) (2 ∷ []) ∷ CanWrite 2 ∷ Asked 2 text304 ∷ wait true (1 ∷ 2 ∷ []) [] ∷ CanRead 2 ∷ Got 2 text5 ∷ Noted (Taken 1 149 (Hit 0 0)) ∷ wait true (1 ∷ 2 ∷ []) (1 ∷ []) ∷ CanWrite 1 ∷ Said 1 154 text6 ∷ wait true (1 ∷ 2 ∷ []) [] ∷ CanRead 1 ∷ Heard 1 text305 ∷ Noted (Taken 1 150 Fetch) ∷ wait true (1 ∷ 2 ∷ []) (2 ∷ []) ∷ CanWrite 2 ∷ Asked 2 text306 ∷ wait true (1 ∷ 2 ∷ []) [] ∷ CanRead 2 ∷ Got 2 text5 ∷ Noted (Taken 1 150 (Hit 0 0)) ∷ wait true (1 ∷ 2 ∷ []) (1 ∷ []) ∷ CanWrite 1 ∷ Said 1 154 text6 ∷ wait true (1 ∷ 2 ∷ []) [] ∷ CanRead 1 ∷ Heard 1 text307 ∷ Noted (Taken 1 151 Fetch) ∷ wait true (1 ∷ 2 ∷ []) (2 ∷ []) ∷ CanWrite 2 ∷ Asked 2 text308 ∷ wait true (1 ∷ 2 ∷ []) [] ∷ CanRead 2 ∷ Got 2 text5 ∷ Noted (Taken 1 151 (Hit 0 0)) ∷ wait true (1 ∷ 2 ∷ []) (1 ∷ []) ∷ CanWrite 1 ∷ Said 1 154 text6 ∷ wait true (1 ∷ 2 ∷ []) [] ∷ CanRead 1 ∷ Heard 1 text309 ∷ Noted (Taken 1 152 Fetch) ∷ wait true (1 ∷ 2 ∷ []) (2 ∷ []) ∷ CanWrite 2 ∷ Asked 2 text310 ∷ wait true (1 ∷ 2 ∷ []) [] ∷ CanRead 2 ∷ Got 2 text5 ∷ Noted (Taken 1 152 (Hit 0 0)) ∷ wait true (1 ∷ 2 ∷ []) (1 ∷ []) ∷ CanWrite 1 ∷ Said 1 154 text6 ∷ wait true (1 ∷ 2 ∷ []) [] ∷ CanRead 1 ∷ Heard 1 text311 ∷ Noted (Taken 1 153 Fetch) ∷ wait true (1 ∷ 2 ∷ []) (2 ∷ []) ∷ CanWrite 2 ∷ Asked 2 text312 ∷ []))
unfolding judging front0x7
front0x8 = (_, refl)

front0x9 : (s : State) × (arrived s ≡ judge 2160 front0x8.0 (wait true (1 ∷ 2 ∷ []) [] ∷ CanRead 2 ∷ Got 2 text5 ∷ Noted (Taken 1 153 (Hit 0 0)) ∷ wait true (1 ∷ 2 ∷ []) (1 ∷ []) ∷ CanWrite 1 ∷ Said 1 154 text6 ∷ wait true (1 ∷ 2 ∷ []) [] ∷ CanRead 1 ∷ Heard 1 text313 ∷ Noted (Taken 1 154 Fetch) ∷ wait true (1 ∷ 2 ∷ []) (2 ∷ []) ∷ CanWrite 2 ∷ Asked 2 text314 ∷ wait true (1 ∷ 2 ∷ []) [] ∷ CanRead 2 ∷ Got 2 text5 ∷ Noted (Taken 1 154 (Hit 0 0)) ∷ wait true (1 ∷ 2 ∷ []) (1 ∷ []) ∷ CanWrite 1 ∷ Said 1 154 text6 ∷ wait true (1 ∷ 2 ∷ []) [] ∷ CanRead 1 ∷ Heard 1 text315 ∷ Noted (Taken 1 155 Fetch) ∷ wait true (1 ∷ 2 ∷ []) (2 ∷ []) ∷ CanWrite 2 ∷ Asked 2 text316 ∷ wait true (1 ∷ 2 ∷ []) [] ∷ CanRead 2 ∷ Got 2 text5 ∷ Noted (Taken 1 155 (Hit 0 0)) ∷ wait true (1 ∷ 2 ∷ []) (1 ∷ []) ∷ CanWrite 1 ∷ Said 1 154 text6 ∷ wait true (1 ∷ 2 ∷ []) [] ∷ CanRead 1 ∷ Heard 1 text317 ∷ Noted (Taken 1 156 Fetch) ∷ wait true (1 ∷ 2 ∷ []) (2 ∷ []) ∷ CanWrite 2 ∷ Asked 2 text318 ∷ wait true (1 ∷ 2 ∷ []) [] ∷ CanRead 2 ∷ Got 2 text5 ∷ Noted (Taken 1 156 (Hit 0 0)) ∷ wait true (1 ∷ 2 ∷ []) (1 ∷ []) ∷ CanWrite 1 ∷ Said 1 154 text6 ∷ wait true (1 ∷ 2 ∷ []) [] ∷ CanRead 1 ∷ Heard 1 text319 ∷ Noted (Taken 1 157 Fetch) ∷ wait true (1 ∷ 2 ∷ []) (2 ∷ []) ∷ CanWrite 2 ∷ Asked 2 text320 ∷ wait true (1 ∷ 2 ∷ []) [] ∷ CanRead 2 ∷ Got 2 text5 ∷ Noted (Taken 1 157 (Hit 0 0)) ∷ wait true (1 ∷ 2 ∷ []) (1 ∷ []) ∷ CanWrite 1 ∷ Said 1 154 text6 ∷ wait true (1 ∷ 2 ∷ []) [] ∷ CanRead 1 ∷ Heard 1 text321 ∷ Noted (Taken 1 158 Fetch) ∷ wait true (1 ∷ 2 ∷ []) (2 ∷ []) ∷ CanWrite 2 ∷ Asked 2 text322 ∷ wait true (1 ∷ 2 ∷ []) [] ∷ CanRead 2 ∷ Got 2 text5 ∷ Noted (Taken 1 158 (Hit 0 0)) ∷ wait true (1 ∷ 2 ∷ []) (1 ∷ []) ∷ CanWrite 1 ∷ Said 1 154 text6 ∷ wait true (1 ∷ 2 ∷ []) [] ∷ CanRead 1 ∷ Heard 1 text323 ∷ Noted (Taken 1 159 Fetch) ∷ wait true (1 ∷ 2 ∷ []) (2 ∷ []) ∷ CanWrite 2 ∷ Asked 2 text324 ∷ wait true (1 ∷ 2 ∷ []) [] ∷ CanRead 2 ∷ Got 2 text5 ∷ Noted (Taken 1 159 (Hit 0 0)) ∷ wait true (1 ∷ 2 ∷ []) (1 ∷ []) ∷ CanWrite 1 ∷ Said 1 154 text6 ∷ wait true (1 ∷ 2 ∷ []) [] ∷ CanRead 1 ∷ Heard 1 text325 ∷ Noted (Taken 1 160 Fetch) ∷ wait true (1 ∷ 2 ∷ []) (2 ∷ []) ∷ CanWrite 2 ∷ Asked 2 text326 ∷ wait true (1 ∷ 2 ∷ []) [] ∷ CanRead 2 ∷ Got 2 text5 ∷ Noted (Taken 1 160 (Hit 0 0)) ∷ wait true (1 ∷ 2 ∷ []) (1 ∷ []) ∷ CanWrite 1 ∷ Said 1 154 text6 ∷ wait true (1 ∷ 2 ∷ []) [] ∷ CanRead 1 ∷ Heard 1 text327 ∷ Noted (Taken 1 161 Fetch) ∷ wait true (1 ∷ 2 ∷ []) (2 ∷ []) ∷ CanWrite 2 ∷ Asked 2 text328 ∷ wait true (1 ∷ 2 ∷ []) [] ∷ CanRead 2 ∷ Got 2 text5 ∷ Noted (Taken 1 161 (Hit 0 0)) ∷ wait true (1 ∷ 2 ∷ []) (1 ∷ []) ∷ CanWrite 1 ∷ Said 1 154 text6 ∷ wait true (1 ∷ 2 ∷ []) [] ∷ CanRead 1 ∷ Heard 1 text329 ∷ Noted (Taken 1 162 Fetch) ∷ wait true (1 ∷ 2 ∷ []) (2 ∷ []) ∷ CanWrite 2 ∷ Asked 2 text330 ∷ wait true (1 ∷ 2 ∷ []) [] ∷ CanRead 2 ∷ Got 2 text5 ∷ Noted (Taken 1 162 (Hit 0 0)) ∷ wait true (1 ∷ 2 ∷ []) (1 ∷ []) ∷ CanWrite 1 ∷ Said 1 154 text6 ∷ wait true (1 ∷ 2 ∷ []) [] ∷ CanRead 1 ∷ Heard 1 text331 ∷ Noted (Taken 1 163 Fetch) ∷ wait true (1 ∷ 2 ∷ []) (2 ∷ []) ∷ CanWrite 2 ∷ Asked 2 text332 ∷ wait true (1 ∷ 2 ∷ []) [] ∷ CanRead 2 ∷ Got 2 text5 ∷ Noted (Taken 1 163 (Hit 0 0)) ∷ wait true (1 ∷ 2 ∷ []) (1 ∷ []) ∷ CanWrite 1 ∷ Said 1 154 text6 ∷ wait true (1 ∷ 2 ∷ []) [] ∷ CanRead 1 ∷ Heard 1 text333 ∷ Noted (Taken 1 164 Fetch) ∷ wait true (1 ∷ 2 ∷ []) (2 ∷ []) ∷ CanWrite 2 ∷ Asked 2 text334 ∷ wait true (1 ∷ 2 ∷ []) [] ∷ CanRead 2 ∷ Got 2 text5 ∷ Noted (Taken 1 164 (Hit 0 0)) ∷ wait true (1 ∷ 2 ∷ []) (1 ∷ []) ∷ CanWrite 1 ∷ Said 1 154 text6 ∷ wait true (1 ∷ 2 ∷ []) [] ∷ CanRead 1 ∷ Heard 1 text335 ∷ Noted (Taken 1 165 Fetch) ∷ wait true (1 ∷ 2 ∷ []) (2 ∷ []) ∷ CanWrite 2 ∷ Asked 2 text336 ∷ wait true (1 ∷ 2 ∷ []) [] ∷ CanRead 2 ∷ Got 2 text5 ∷ Noted (Taken 1 165 (Hit 0 0)) ∷ wait true (1 ∷ 2 ∷ []) (1 ∷ []) ∷ CanWrite 1 ∷ Said 1 154 text6 ∷ wait true (1 ∷ 2 ∷ []) [] ∷ CanRead 1 ∷ Heard 1 text337 ∷ Noted (Taken 1 166 Fetch) ∷ wait true (1 ∷ 2 ∷ []) (2 ∷ []) ∷ CanWrite 2 ∷ Asked 2 text338 ∷ wait true (1 ∷ 2 ∷ []) [] ∷ CanRead 2 ∷ Got 2 text5 ∷ Noted (Taken 1 166 (Hit 0 0)) ∷ wait true (1 ∷ 2 ∷ []) (1 ∷ []) ∷ CanWrite 1 ∷ Said 1 154 text6 ∷ wait true (1 ∷ 2 ∷ []) [] ∷ CanRead 1 ∷ Heard 1 text339 ∷ Noted (Taken 1 167 Fetch) ∷ wait true (1 ∷ 2 ∷ []) (2 ∷ []) ∷ CanWrite 2 ∷ Asked 2 text340 ∷ wait true (1 ∷ 2 ∷ []) [] ∷ CanRead 2 ∷ Got 2 text5 ∷ Noted (Taken 1 167 (Hit 0 0)) ∷ wait true (1 ∷ 2 ∷ []) (1 ∷ []) ∷ CanWrite 1 ∷ Said 1 154 text6 ∷ wait true (1 ∷ 2 ∷ []) [] ∷ CanRead 1 ∷ Heard 1 text341 ∷ Noted (Taken 1 168 Fetch) ∷ wait true (1 ∷ 2 ∷ []) (2 ∷ []) ∷ CanWrite 2 ∷ Asked 2 text342 ∷ wait true (1 ∷ 2 ∷ []) [] ∷ CanRead 2 ∷ Got 2 text5 ∷ Noted (Taken 1 168 (Hit 0 0)) ∷ wait true (1 ∷ 2 ∷ []) (1 ∷ []) ∷ CanWrite 1 ∷ Said 1 154 text6 ∷ wait true (1 ∷ 2 ∷ []) [] ∷ CanRead 1 ∷ Heard 1 text343 ∷ Noted (Taken 1 169 Fetch) ∷ wait true (1 ∷ 2 ∷ []) (2 ∷ []) ∷ CanWrite 2 ∷ Asked 2 text344 ∷ wait true (1 ∷ 2 ∷ []) [] ∷ CanRead 2 ∷ Got 2 text5 ∷ Noted (Taken 1 169 (Hit 0 0)) ∷ wait true (1 ∷ 2 ∷ []) (1 ∷ []) ∷ CanWrite 1 ∷ Said 1 154 text6 ∷ wait true (1 ∷ 2 ∷ []) [] ∷ CanRead 1 ∷ Heard 1 text345 ∷ Noted (Taken 1 170 Fetch) ∷ wait true (1 ∷ 2 ∷ []) (2 ∷ []) ∷ CanWrite 2 ∷ Asked 2 text346 ∷ wait true (1 ∷ 2 ∷ []) [] ∷ CanRead 2 ∷ []))
unfolding judging front0x8
front0x9 = (_, refl)

front0x10 : (s : State) × (arrived s ≡ judge 2400 front0x9.0 (Got 2 text5 ∷ Noted (Taken 1 170 (Hit 0 0)) ∷ wait true (1 ∷ 2 ∷ []) (1 ∷ []) ∷ CanWrite 1 ∷ Said 1 154 text6 ∷ wait true (1 ∷ 2 ∷ []) [] ∷ CanRead 1 ∷ Heard 1 text347 ∷ Noted (Taken 1 171 Fetch) ∷ wait true (1 ∷ 2 ∷ []) (2 ∷ []) ∷ CanWrite 2 ∷ Asked 2 text348 ∷ wait true (1 ∷ 2 ∷ []) [] ∷ CanRead 2 ∷ Got 2 text5 ∷ Noted (Taken 1 171 (Hit 0 0)) ∷ wait true (1 ∷ 2 ∷ []) (1 ∷ []) ∷ CanWrite 1 ∷ Said 1 154 text6 ∷ wait true (1 ∷ 2 ∷ []) [] ∷ CanRead 1 ∷ Heard 1 text349 ∷ Noted (Taken 1 172 Fetch) ∷ wait true (1 ∷ 2 ∷ []) (2 ∷ []) ∷ CanWrite 2 ∷ Asked 2 text350 ∷ wait true (1 ∷ 2 ∷ []) [] ∷ CanRead 2 ∷ Got 2 text5 ∷ Noted (Taken 1 172 (Hit 0 0)) ∷ wait true (1 ∷ 2 ∷ []) (1 ∷ []) ∷ CanWrite 1 ∷ Said 1 154 text6 ∷ wait true (1 ∷ 2 ∷ []) [] ∷ CanRead 1 ∷ Heard 1 text351 ∷ Noted (Taken 1 173 Fetch) ∷ wait true (1 ∷ 2 ∷ []) (2 ∷ []) ∷ CanWrite 2 ∷ Asked 2 text352 ∷ wait true (1 ∷ 2 ∷ []) [] ∷ CanRead 2 ∷ Got 2 text5 ∷ Noted (Taken 1 173 (Hit 0 0)) ∷ wait true (1 ∷ 2 ∷ []) (1 ∷ []) ∷ CanWrite 1 ∷ Said 1 154 text6 ∷ wait true (1 ∷ 2 ∷ []) [] ∷ CanRead 1 ∷ Heard 1 text353 ∷ Noted (Taken 1 174 Fetch) ∷ wait true (1 ∷ 2 ∷ []) (2 ∷ []) ∷ CanWrite 2 ∷ Asked 2 text354 ∷ wait true (1 ∷ 2 ∷ []) [] ∷ CanRead 2 ∷ Got 2 text5 ∷ Noted (Taken 1 174 (Hit 0 0)) ∷ wait true (1 ∷ 2 ∷ []) (1 ∷ []) ∷ CanWrite 1 ∷ Said 1 154 text6 ∷ wait true (1 ∷ 2 ∷ []) [] ∷ CanRead 1 ∷ Heard 1 text355 ∷ Noted (Taken 1 175 Fetch) ∷ wait true (1 ∷ 2 ∷ []) (2 ∷ []) ∷ CanWrite 2 ∷ Asked 2 text356 ∷ wait true (1 ∷ 2 ∷ []) [] ∷ CanRead 2 ∷ Got 2 text5 ∷ Noted (Taken 1 175 (Hit 0 0)) ∷ wait true (1 ∷ 2 ∷ []) (1 ∷ []) ∷ CanWrite 1 ∷ Said 1 154 text6 ∷ wait true (1 ∷ 2 ∷ []) [] ∷ CanRead 1 ∷ Heard 1 text357 ∷ Noted (Taken 1 176 Fetch) ∷ wait true (1 ∷ 2 ∷ []) (2 ∷ []) ∷ CanWrite 2 ∷ Asked 2 text358 ∷ wait true (1 ∷ 2 ∷ []) [] ∷ CanRead 2 ∷ Got 2 text5 ∷ Noted (Taken 1 176 (Hit 0 0)) ∷ wait true (1 ∷ 2 ∷ []) (1 ∷ []) ∷ CanWrite 1 ∷ Said 1 154 text6 ∷ wait true (1 ∷ 2 ∷ []) [] ∷ CanRead 1 ∷ Heard 1 text359 ∷ Noted (Taken 1 177 Fetch) ∷ wait true (1 ∷ 2 ∷ []) (2 ∷ []) ∷ CanWrite 2 ∷ Asked 2 text360 ∷ wait true (1 ∷ 2 ∷ []) [] ∷ CanRead 2 ∷ Got 2 text5 ∷ Noted (Taken 1 177 (Hit 0 0)) ∷ wait true (1 ∷ 2 ∷ []) (1 ∷ []) ∷ CanWrite 1 ∷ Said 1 154 text6 ∷ wait true (1 ∷ 2 ∷ []) [] ∷ CanRead 1 ∷ Heard 1 text361 ∷ Noted (Taken 1 178 Fetch) ∷ wait true (1 ∷ 2 ∷ []) (2 ∷ []) ∷ CanWrite 2 ∷ Asked 2 text362 ∷ wait true (1 ∷ 2 ∷ []) [] ∷ CanRead 2 ∷ Got 2 text5 ∷ Noted (Taken 1 178 (Hit 0 0)) ∷ wait true (1 ∷ 2 ∷ []) (1 ∷ []) ∷ CanWrite 1 ∷ Said 1 154 text6 ∷ wait true (1 ∷ 2 ∷ []) [] ∷ CanRead 1 ∷ Heard 1 text363 ∷ Noted (Taken 1 179 Fetch) ∷ wait true (1 ∷ 2 ∷ []) (2 ∷ []) ∷ CanWrite 2 ∷ Asked 2 text364 ∷ wait true (1 ∷ 2 ∷ []) [] ∷ CanRead 2 ∷ Got 2 text5 ∷ Noted (Taken 1 179 (Hit 0 0)) ∷ wait true (1 ∷ 2 ∷ []) (1 ∷ []) ∷ CanWrite 1 ∷ Said 1 154 text6 ∷ wait true (1 ∷ 2 ∷ []) [] ∷ CanRead 1 ∷ Heard 1 text365 ∷ Noted (Taken 1 180 Fetch) ∷ wait true (1 ∷ 2 ∷ []) (2 ∷ []) ∷ CanWrite 2 ∷ Asked 2 text366 ∷ wait true (1 ∷ 2 ∷ []) [] ∷ CanRead 2 ∷ Got 2 text5 ∷ Noted (Taken 1 180 (Hit 0 0)) ∷ wait true (1 ∷ 2 ∷ []) (1 ∷ []) ∷ CanWrite 1 ∷ Said 1 154 text6 ∷ wait true (1 ∷ 2 ∷ []) [] ∷ CanRead 1 ∷ Heard 1 text367 ∷ Noted (Taken 1 181 Fetch) ∷ wait true (1 ∷ 2 ∷ []) (2 ∷ []) ∷ CanWrite 2 ∷ Asked 2 text368 ∷ wait true (1 ∷ 2 ∷ []) [] ∷ CanRead 2 ∷ Got 2 text5 ∷ Noted (Taken 1 181 (Hit 0 0)) ∷ wait true (1 ∷ 2 ∷ []) (1 ∷ []) ∷ CanWrite 1 ∷ Said 1 154 text6 ∷ wait true (1 ∷ 2 ∷ []) [] ∷ CanRead 1 ∷ Heard 1 text369 ∷ Noted (Taken 1 182 Fetch) ∷ wait true (1 ∷ 2 ∷ []) (2 ∷ []) ∷ CanWrite 2 ∷ Asked 2 text370 ∷ wait true (1 ∷ 2 ∷ []) [] ∷ CanRead 2 ∷ Got 2 text5 ∷ Noted (Taken 1 182 (Hit 0 0)) ∷ wait true (1 ∷ 2 ∷ []) (1 ∷ []) ∷ CanWrite 1 ∷ Said 1 154 text6 ∷ wait true (1 ∷ 2 ∷ []) [] ∷ CanRead 1 ∷ Heard 1 text371 ∷ Noted (Taken 1 183 Fetch) ∷ wait true (1 ∷ 2 ∷ []) (2 ∷ []) ∷ CanWrite 2 ∷ Asked 2 text372 ∷ wait true (1 ∷ 2 ∷ []) [] ∷ CanRead 2 ∷ Got 2 text5 ∷ Noted (Taken 1 183 (Hit 0 0)) ∷ wait true (1 ∷ 2 ∷ []) (1 ∷ []) ∷ CanWrite 1 ∷ Said 1 154 text6 ∷ wait true (1 ∷ 2 ∷ []) [] ∷ CanRead 1 ∷ Heard 1 text373 ∷ Noted (Taken 1 184 Fetch) ∷ wait true (1 ∷ 2 ∷ []) (2 ∷ []) ∷ CanWrite 2 ∷ Asked 2 text374 ∷ wait true (1 ∷ 2 ∷ []) [] ∷ CanRead 2 ∷ Got 2 text5 ∷ Noted (Taken 1 184 (Hit 0 0)) ∷ wait true (1 ∷ 2 ∷ []) (1 ∷ []) ∷ CanWrite 1 ∷ Said 1 154 text6 ∷ wait true (1 ∷ 2 ∷ []) [] ∷ CanRead 1 ∷ Heard 1 text375 ∷ Noted (Taken 1 185 Fetch) ∷ wait true (1 ∷ 2 ∷ []) (2 ∷ []) ∷ CanWrite 2 ∷ Asked 2 text376 ∷ wait true (1 ∷ 2 ∷ []) [] ∷ CanRead 2 ∷ Got 2 text5 ∷ Noted (Taken 1 185 (Hit 0 0)) ∷ wait true (1 ∷ 2 ∷ []) (1 ∷ []) ∷ CanWrite 1 ∷ Said 1 154 text6 ∷ wait true (1 ∷ 2 ∷ []) [] ∷ CanRead 1 ∷ Heard 1 text377 ∷ Noted (Taken 1 186 Fetch) ∷ wait true (1 ∷ 2 ∷ []) (2 ∷ []) ∷ CanWrite 2 ∷ Asked 2 text378 ∷ wait true (1 ∷ 2 ∷ []) [] ∷ CanRead 2 ∷ Got 2 text5 ∷ Noted (Taken 1 186 (Hit 0 0)) ∷ wait true (1 ∷ 2 ∷ []) (1 ∷ []) ∷ CanWrite 1 ∷ Said 1 154 text6 ∷ wait true (1 ∷ 2 ∷ []) [] ∷ CanRead 1 ∷ Heard 1 text379 ∷ Noted (Taken 1 187 Fetch) ∷ wait true (1 ∷ 2 ∷ []) (2 ∷ []) ∷ CanWrite 2 ∷ Asked 2 text380 ∷ wait true (1 ∷ 2 ∷ []) [] ∷ CanRead 2 ∷ Got 2 text5 ∷ Noted (Taken 1 187 (Hit 0 0)) ∷ []))
unfolding judging front0x9
front0x10 = (_, refl)

front0x11 : (s : State) × (arrived s ≡ judge 2640 front0x10.0 (wait true (1 ∷ 2 ∷ []) (1 ∷ []) ∷ CanWrite 1 ∷ Said 1 154 text6 ∷ wait true (1 ∷ 2 ∷ []) [] ∷ CanRead 1 ∷ Heard 1 text381 ∷ Noted (Taken 1 188 Fetch) ∷ wait true (1 ∷ 2 ∷ []) (2 ∷ []) ∷ CanWrite 2 ∷ Asked 2 text382 ∷ wait true (1 ∷ 2 ∷ []) [] ∷ CanRead 2 ∷ Got 2 text5 ∷ Noted (Taken 1 188 (Hit 0 0)) ∷ wait true (1 ∷ 2 ∷ []) (1 ∷ []) ∷ CanWrite 1 ∷ Said 1 154 text6 ∷ wait true (1 ∷ 2 ∷ []) [] ∷ CanRead 1 ∷ Heard 1 text383 ∷ Noted (Taken 1 189 Fetch) ∷ wait true (1 ∷ 2 ∷ []) (2 ∷ []) ∷ CanWrite 2 ∷ Asked 2 text384 ∷ wait true (1 ∷ 2 ∷ []) [] ∷ CanRead 2 ∷ Got 2 text5 ∷ Noted (Taken 1 189 (Hit 0 0)) ∷ wait true (1 ∷ 2 ∷ []) (1 ∷ []) ∷ CanWrite 1 ∷ Said 1 154 text6 ∷ wait true (1 ∷ 2 ∷ []) [] ∷ CanRead 1 ∷ Heard 1 text385 ∷ Noted (Taken 1 190 Fetch) ∷ wait true (1 ∷ 2 ∷ []) (2 ∷ []) ∷ CanWrite 2 ∷ Asked 2 text386 ∷ wait true (1 ∷ 2 ∷ []) [] ∷ CanRead 2 ∷ Got 2 text5 ∷ Noted (Taken 1 190 (Hit 0 0)) ∷ wait true (1 ∷ 2 ∷ []) (1 ∷ []) ∷ CanWrite 1 ∷ Said 1 154 text6 ∷ wait true (1 ∷ 2 ∷ []) [] ∷ CanRead 1 ∷ Heard 1 text387 ∷ Noted (Taken 1 191 Fetch) ∷ wait true (1 ∷ 2 ∷ []) (2 ∷ []) ∷ CanWrite 2 ∷ Asked 2 text388 ∷ wait true (1 ∷ 2 ∷ []) [] ∷ CanRead 2 ∷ Got 2 text5 ∷ Noted (Taken 1 191 (Hit 0 0)) ∷ wait true (1 ∷ 2 ∷ []) (1 ∷ []) ∷ CanWrite 1 ∷ Said 1 154 text6 ∷ wait true (1 ∷ 2 ∷ []) [] ∷ CanRead 1 ∷ Heard 1 text389 ∷ Noted (Taken 1 192 Fetch) ∷ wait true (1 ∷ 2 ∷ []) (2 ∷ []) ∷ CanWrite 2 ∷ Asked 2 text390 ∷ wait true (1 ∷ 2 ∷ []) [] ∷ CanRead 2 ∷ Got 2 text5 ∷ Noted (Taken 1 192 (Hit 0 0)) ∷ wait true (1 ∷ 2 ∷ []) (1 ∷ []) ∷ CanWrite 1 ∷ Said 1 154 text6 ∷ wait true (1 ∷ 2 ∷ []) [] ∷ CanRead 1 ∷ Heard 1 text391 ∷ Noted (Taken 1 193 Fetch) ∷ wait true (1 ∷ 2 ∷ []) (2 ∷ []) ∷ CanWrite 2 ∷ Asked 2 text392 ∷ wait true (1 ∷ 2 ∷ []) [] ∷ CanRead 2 ∷ Got 2 text5 ∷ Noted (Taken 1 193 (Hit 0 0)) ∷ wait true (1 ∷ 2 ∷ []) (1 ∷ []) ∷ CanWrite 1 ∷ Said 1 154 text6 ∷ wait true (1 ∷ 2 ∷ []) [] ∷ CanRead 1 ∷ Heard 1 text393 ∷ Noted (Taken 1 194 Fetch) ∷ wait true (1 ∷ 2 ∷ []) (2 ∷ []) ∷ CanWrite 2 ∷ Asked 2 text394 ∷ wait true (1 ∷ 2 ∷ []) [] ∷ CanRead 2 ∷ Got 2 text5 ∷ Noted (Taken 1 194 (Hit 0 0)) ∷ wait true (1 ∷ 2 ∷ []) (1 ∷ []) ∷ CanWrite 1 ∷ Said 1 154 text6 ∷ wait true (1 ∷ 2 ∷ []) [] ∷ CanRead 1 ∷ Heard 1 text395 ∷ Noted (Taken 1 195 Fetch) ∷ wait true (1 ∷ 2 ∷ []) (2 ∷ []) ∷ CanWrite 2 ∷ Asked 2 text396 ∷ wait true (1 ∷ 2 ∷ []) [] ∷ CanRead 2 ∷ Got 2 text5 ∷ Noted (Taken 1 195 (Hit 0 0)) ∷ wait true (1 ∷ 2 ∷ []) (1 ∷ []) ∷ CanWrite 1 ∷ Said 1 154 text6 ∷ wait true (1 ∷ 2 ∷ []) [] ∷ CanRead 1 ∷ Heard 1 text397 ∷ Noted (Taken 1 196 Fetch) ∷ wait true (1 ∷ 2 ∷ []) (2 ∷ []) ∷ CanWrite 2 ∷ Asked 2 text398 ∷ wait true (1 ∷ 2 ∷ []) [] ∷ CanRead 2 ∷ Got 2 text5 ∷ Noted (Taken 1 196 (Hit 0 0)) ∷ wait true (1 ∷ 2 ∷ []) (1 ∷ []) ∷ CanWrite 1 ∷ Said 1 154 text6 ∷ wait true (1 ∷ 2 ∷ []) [] ∷ CanRead 1 ∷ Heard 1 text399 ∷ Noted (Taken 1 197 Fetch) ∷ wait true (1 ∷ 2 ∷ []) (2 ∷ []) ∷ CanWrite 2 ∷ Asked 2 text400 ∷ wait true (1 ∷ 2 ∷ []) [] ∷ CanRead 2 ∷ Got 2 text5 ∷ Noted (Taken 1 197 (Hit 0 0)) ∷ wait true (1 ∷ 2 ∷ []) (1 ∷ []) ∷ CanWrite 1 ∷ Said 1 154 text6 ∷ wait true (1 ∷ 2 ∷ []) [] ∷ CanRead 1 ∷ Heard 1 text401 ∷ Noted (Taken 1 198 Fetch) ∷ wait true (1 ∷ 2 ∷ []) (2 ∷ []) ∷ CanWrite 2 ∷ Asked 2 text402 ∷ wait true (1 ∷ 2 ∷ []) [] ∷ CanRead 2 ∷ Got 2 text5 ∷ Noted (Taken 1 198 (Hit 0 0)) ∷ wait true (1 ∷ 2 ∷ []) (1 ∷ []) ∷ CanWrite 1 ∷ Said 1 154 text6 ∷ wait true (1 ∷ 2 ∷ []) [] ∷ CanRead 1 ∷ Heard 1 text403 ∷ Noted (Taken 1 199 Fetch) ∷ wait true (1 ∷ 2 ∷ []) (2 ∷ []) ∷ CanWrite 2 ∷ Asked 2 text404 ∷ wait true (1 ∷ 2 ∷ []) [] ∷ CanRead 2 ∷ Got 2 text5 ∷ Noted (Taken 1 199 (Hit 0 0)) ∷ wait true (1 ∷ 2 ∷ []) (1 ∷ []) ∷ CanWrite 1 ∷ Said 1 154 text6 ∷ wait true (1 ∷ 2 ∷ []) [] ∷ CanRead 1 ∷ Heard 1 text405 ∷ Noted (Taken 1 200 Fetch) ∷ wait true (1 ∷ 2 ∷ []) (2 ∷ []) ∷ CanWrite 2 ∷ Asked 2 text406 ∷ wait true (1 ∷ 2 ∷ []) [] ∷ CanRead 2 ∷ Got 2 text5 ∷ Noted (Taken 1 200 (Hit 0 0)) ∷ wait true (1 ∷ 2 ∷ []) (1 ∷ []) ∷ CanWrite 1 ∷ Said 1 154 text6 ∷ wait true (1 ∷ 2 ∷ []) [] ∷ CanRead 1 ∷ Heard 1 text407 ∷ Noted (Taken 1 201 Fetch) ∷ wait true (1 ∷ 2 ∷ []) (2 ∷ []) ∷ CanWrite 2 ∷ Asked 2 text408 ∷ wait true (1 ∷ 2 ∷ []) [] ∷ CanRead 2 ∷ Got 2 text5 ∷ Noted (Taken 1 201 (Hit 0 0)) ∷ wait true (1 ∷ 2 ∷ []) (1 ∷ []) ∷ CanWrite 1 ∷ Said 1 154 text6 ∷ wait true (1 ∷ 2 ∷ []) [] ∷ CanRead 1 ∷ Heard 1 text409 ∷ Noted (Taken 1 202 Fetch) ∷ wait true (1 ∷ 2 ∷ []) (2 ∷ []) ∷ CanWrite 2 ∷ Asked 2 text410 ∷ wait true (1 ∷ 2 ∷ []) [] ∷ CanRead 2 ∷ Got 2 text5 ∷ Noted (Taken 1 202 (Hit 0 0)) ∷ wait true (1 ∷ 2 ∷ []) (1 ∷ []) ∷ CanWrite 1 ∷ Said 1 154 text6 ∷ wait true (1 ∷ 2 ∷ []) [] ∷ CanRead 1 ∷ Heard 1 text411 ∷ Noted (Taken 1 203 Fetch) ∷ wait true (1 ∷ 2 ∷ []) (2 ∷ []) ∷ CanWrite 2 ∷ Asked 2 text412 ∷ wait true (1 ∷ 2 ∷ []) [] ∷ CanRead 2 ∷ Got 2 text5 ∷ Noted (Taken 1 203 (Hit 0 0)) ∷ wait true (1 ∷ 2 ∷ []) (1 ∷ []) ∷ CanWrite 1 ∷ Said 1 154 text6 ∷ wait true (1 ∷ 2 ∷ []) [] ∷ CanRead 1 ∷ Heard 1 text413 ∷ Noted (Taken 1 204 Fetch) ∷ wait true (1 ∷ 2 ∷ []) (2 ∷ []) ∷ CanWrite 2 ∷ Asked 2 text414 ∷ wait true (1 ∷ 2 ∷ []) [] ∷ CanRead 2 ∷ Got 2 text5 ∷ Noted (Taken 1 204 (Hit 0 0)) ∷ wait true (1 ∷ 2 ∷ []) (1 ∷ []) ∷ CanWrite 1 ∷ []))
unfolding judging front0x10
front0x11 = (_, refl)

front0x12 : (s : State) × (arrived s ≡ judge 2880 front0x11.0 (Said 1 154 text6 ∷ wait true (1 ∷ 2 ∷ []) [] ∷ CanRead 1 ∷ Heard 1 text415 ∷ Noted (Taken 1 205 Fetch) ∷ wait true (1 ∷ 2 ∷ []) (2 ∷ []) ∷ CanWrite 2 ∷ Asked 2 text416 ∷ wait true (1 ∷ 2 ∷ []) [] ∷ CanRead 2 ∷ Got 2 text5 ∷ Noted (Taken 1 205 (Hit 0 0)) ∷ wait true (1 ∷ 2 ∷ []) (1 ∷ []) ∷ CanWrite 1 ∷ Said 1 154 text6 ∷ wait true (1 ∷ 2 ∷ []) [] ∷ CanRead 1 ∷ Heard 1 text417 ∷ Noted (Taken 1 206 Fetch) ∷ wait true (1 ∷ 2 ∷ []) (2 ∷ []) ∷ CanWrite 2 ∷ Asked 2 text418 ∷ wait true (1 ∷ 2 ∷ []) [] ∷ CanRead 2 ∷ Got 2 text5 ∷ Noted (Taken 1 206 (Hit 0 0)) ∷ wait true (1 ∷ 2 ∷ []) (1 ∷ []) ∷ CanWrite 1 ∷ Said 1 154 text6 ∷ wait true (1 ∷ 2 ∷ []) [] ∷ CanRead 1 ∷ Heard 1 text419 ∷ Noted (Taken 1 207 Fetch) ∷ wait true (1 ∷ 2 ∷ []) (2 ∷ []) ∷ CanWrite 2 ∷ Asked 2 text420 ∷ wait true (1 ∷ 2 ∷ []) [] ∷ CanRead 2 ∷ Got 2 text5 ∷ Noted (Taken 1 207 (Hit 0 0)) ∷ wait true (1 ∷ 2 ∷ []) (1 ∷ []) ∷ CanWrite 1 ∷ Said 1 154 text6 ∷ wait true (1 ∷ 2 ∷ []) [] ∷ CanRead 1 ∷ Heard 1 text421 ∷ Noted (Taken 1 208 Fetch) ∷ wait true (1 ∷ 2 ∷ []) (2 ∷ []) ∷ CanWrite 2 ∷ Asked 2 text422 ∷ wait true (1 ∷ 2 ∷ []) [] ∷ CanRead 2 ∷ Got 2 text5 ∷ Noted (Taken 1 208 (Hit 0 0)) ∷ wait true (1 ∷ 2 ∷ []) (1 ∷ []) ∷ CanWrite 1 ∷ Said 1 154 text6 ∷ wait true (1 ∷ 2 ∷ []) [] ∷ CanRead 1 ∷ Heard 1 text423 ∷ Noted (Taken 1 209 Fetch) ∷ wait true (1 ∷ 2 ∷ []) (2 ∷ []) ∷ CanWrite 2 ∷ Asked 2 text424 ∷ wait true (1 ∷ 2 ∷ []) [] ∷ CanRead 2 ∷ Got 2 text5 ∷ Noted (Taken 1 209 (Hit 0 0)) ∷ wait true (1 ∷ 2 ∷ []) (1 ∷ []) ∷ CanWrite 1 ∷ Said 1 154 text6 ∷ wait true (1 ∷ 2 ∷ []) [] ∷ CanRead 1 ∷ Heard 1 text425 ∷ Noted (Taken 1 210 Fetch) ∷ wait true (1 ∷ 2 ∷ []) (2 ∷ []) ∷ CanWrite 2 ∷ Asked 2 text426 ∷ wait true (1 ∷ 2 ∷ []) [] ∷ CanRead 2 ∷ Got 2 text5 ∷ Noted (Taken 1 210 (Hit 0 0)) ∷ wait true (1 ∷ 2 ∷ []) (1 ∷ []) ∷ CanWrite 1 ∷ Said 1 154 text6 ∷ wait true (1 ∷ 2 ∷ []) [] ∷ CanRead 1 ∷ Heard 1 text427 ∷ Noted (Taken 1 211 Fetch) ∷ wait true (1 ∷ 2 ∷ []) (2 ∷ []) ∷ CanWrite 2 ∷ Asked 2 text428 ∷ wait true (1 ∷ 2 ∷ []) [] ∷ CanRead 2 ∷ Got 2 text5 ∷ Noted (Taken 1 211 (Hit 0 0)) ∷ wait true (1 ∷ 2 ∷ []) (1 ∷ []) ∷ CanWrite 1 ∷ Said 1 154 text6 ∷ wait true (1 ∷ 2 ∷ []) [] ∷ CanRead 1 ∷ Heard 1 text429 ∷ Noted (Taken 1 212 Fetch) ∷ wait true (1 ∷ 2 ∷ []) (2 ∷ []) ∷ CanWrite 2 ∷ Asked 2 text430 ∷ wait true (1 ∷ 2 ∷ []) [] ∷ CanRead 2 ∷ Got 2 text5 ∷ Noted (Taken 1 212 (Hit 0 0)) ∷ wait true (1 ∷ 2 ∷ []) (1 ∷ []) ∷ CanWrite 1 ∷ Said 1 154 text6 ∷ wait true (1 ∷ 2 ∷ []) [] ∷ CanRead 1 ∷ Heard 1 text431 ∷ Noted (Taken 1 213 Fetch) ∷ wait true (1 ∷ 2 ∷ []) (2 ∷ []) ∷ CanWrite 2 ∷ Asked 2 text432 ∷ wait true (1 ∷ 2 ∷ []) [] ∷ CanRead 2 ∷ Got 2 text5 ∷ Noted (Taken 1 213 (Hit 0 0)) ∷ wait true (1 ∷ 2 ∷ []) (1 ∷ []) ∷ CanWrite 1 ∷ Said 1 154 text6 ∷ wait true (1 ∷ 2 ∷ []) [] ∷ CanRead 1 ∷ Heard 1 text433 ∷ Noted (Taken 1 214 Fetch) ∷ wait true (1 ∷ 2 ∷ []) (2 ∷ []) ∷ CanWrite 2 ∷ Asked 2 text434 ∷ wait true (1 ∷ 2 ∷ []) [] ∷ CanRead 2 ∷ Got 2 text5 ∷ Noted (Taken 1 214 (Hit 0 0)) ∷ wait true (1 ∷ 2 ∷ []) (1 ∷ []) ∷ CanWrite 1 ∷ Said 1 154 text6 ∷ wait true (1 ∷ 2 ∷ []) [] ∷ CanRead 1 ∷ Heard 1 text435 ∷ Noted (Taken 1 215 Fetch) ∷ wait true (1 ∷ 2 ∷ []) (2 ∷ []) ∷ CanWrite 2 ∷ Asked 2 text436 ∷ wait true (1 ∷ 2 ∷ []) [] ∷ CanRead 2 ∷ Got 2 text5 ∷ Noted (Taken 1 215 (Hit 0 0)) ∷ wait true (1 ∷ 2 ∷ []) (1 ∷ []) ∷ CanWrite 1 ∷ Said 1 154 text6 ∷ wait true (1 ∷ 2 ∷ []) [] ∷ CanRead 1 ∷ Heard 1 text437 ∷ Noted (Taken 1 216 Fetch) ∷ wait true (1 ∷ 2 ∷ []) (2 ∷ []) ∷ CanWrite 2 ∷ Asked 2 text438 ∷ wait true (1 ∷ 2 ∷ []) [] ∷ CanRead 2 ∷ Got 2 text5 ∷ Noted (Taken 1 216 (Hit 0 0)) ∷ wait true (1 ∷ 2 ∷ []) (1 ∷ []) ∷ CanWrite 1 ∷ Said 1 154 text6 ∷ wait true (1 ∷ 2 ∷ []) [] ∷ CanRead 1 ∷ Heard 1 text439 ∷ Noted (Taken 1 217 Fetch) ∷ wait true (1 ∷ 2 ∷ []) (2 ∷ []) ∷ CanWrite 2 ∷ Asked 2 text440 ∷ wait true (1 ∷ 2 ∷ []) [] ∷ CanRead 2 ∷ Got 2 text5 ∷ Noted (Taken 1 217 (Hit 0 0)) ∷ wait true (1 ∷ 2 ∷ []) (1 ∷ []) ∷ CanWrite 1 ∷ Said 1 154 text6 ∷ wait true (1 ∷ 2 ∷ []) [] ∷ CanRead 1 ∷ Heard 1 text441 ∷ Noted (Taken 1 218 Fetch) ∷ wait true (1 ∷ 2 ∷ []) (2 ∷ []) ∷ CanWrite 2 ∷ Asked 2 text442 ∷ wait true (1 ∷ 2 ∷ []) [] ∷ CanRead 2 ∷ Got 2 text5 ∷ Noted (Taken 1 218 (Hit 0 0)) ∷ wait true (1 ∷ 2 ∷ []) (1 ∷ []) ∷ CanWrite 1 ∷ Said 1 154 text6 ∷ wait true (1 ∷ 2 ∷ []) [] ∷ CanRead 1 ∷ Heard 1 text443 ∷ Noted (Taken 1 219 Fetch) ∷ wait true (1 ∷ 2 ∷ []) (2 ∷ []) ∷ CanWrite 2 ∷ Asked 2 text444 ∷ wait true (1 ∷ 2 ∷ []) [] ∷ CanRead 2 ∷ Got 2 text5 ∷ Noted (Taken 1 219 (Hit 0 0)) ∷ wait true (1 ∷ 2 ∷ []) (1 ∷ []) ∷ CanWrite 1 ∷ Said 1 154 text6 ∷ wait true (1 ∷ 2 ∷ []) [] ∷ CanRead 1 ∷ Heard 1 text445 ∷ Noted (Taken 1 220 Fetch) ∷ wait true (1 ∷ 2 ∷ []) (2 ∷ []) ∷ CanWrite 2 ∷ Asked 2 text446 ∷ wait true (1 ∷ 2 ∷ []) [] ∷ CanRead 2 ∷ Got 2 text5 ∷ Noted (Taken 1 220 (Hit 0 0)) ∷ wait true (1 ∷ 2 ∷ []) (1 ∷ []) ∷ CanWrite 1 ∷ Said 1 154 text6 ∷ wait true (1 ∷ 2 ∷ []) [] ∷ CanRead 1 ∷ Heard 1 text447 ∷ Noted (Taken 1 221 Fetch) ∷ wait true (1 ∷ 2 ∷ []) (2 ∷ []) ∷ CanWrite 2 ∷ Asked 2 text448 ∷ wait true (1 ∷ 2 ∷ []) [] ∷ CanRead 2 ∷ Got 2 text5 ∷ Noted (Taken 1 221 (Hit 0 0)) ∷ wait true (1 ∷ 2 ∷ []) (1 ∷ []) ∷ CanWrite 1 ∷ Said 1 154 text6 ∷ wait true (1 ∷ 2 ∷ []) [] ∷ []))
unfolding judging front0x11
front0x12 = (_, refl)

front0x13 : (s : State) × (arrived s ≡ judge 3120 front0x12.0 (CanRead 1 ∷ Heard 1 text449 ∷ Noted (Taken 1 222 Fetch) ∷ wait true (1 ∷ 2 ∷ []) (2 ∷ []) ∷ CanWrite 2 ∷ Asked 2 text450 ∷ wait true (1 ∷ 2 ∷ []) [] ∷ CanRead 2 ∷ Got 2 text5 ∷ Noted (Taken 1 222 (Hit 0 0)) ∷ wait true (1 ∷ 2 ∷ []) (1 ∷ []) ∷ CanWrite 1 ∷ Said 1 154 text6 ∷ wait true (1 ∷ 2 ∷ []) [] ∷ CanRead 1 ∷ Heard 1 text451 ∷ Noted (Taken 1 223 Fetch) ∷ wait true (1 ∷ 2 ∷ []) (2 ∷ []) ∷ CanWrite 2 ∷ Asked 2 text452 ∷ wait true (1 ∷ 2 ∷ []) [] ∷ CanRead 2 ∷ Got 2 text5 ∷ Noted (Taken 1 223 (Hit 0 0)) ∷ wait true (1 ∷ 2 ∷ []) (1 ∷ []) ∷ CanWrite 1 ∷ Said 1 154 text6 ∷ wait true (1 ∷ 2 ∷ []) [] ∷ CanRead 1 ∷ Heard 1 text453 ∷ Noted (Taken 1 224 Fetch) ∷ wait true (1 ∷ 2 ∷ []) (2 ∷ []) ∷ CanWrite 2 ∷ Asked 2 text454 ∷ wait true (1 ∷ 2 ∷ []) [] ∷ CanRead 2 ∷ Got 2 text5 ∷ Noted (Taken 1 224 (Hit 0 0)) ∷ wait true (1 ∷ 2 ∷ []) (1 ∷ []) ∷ CanWrite 1 ∷ Said 1 154 text6 ∷ wait true (1 ∷ 2 ∷ []) [] ∷ CanRead 1 ∷ Heard 1 text455 ∷ Noted (Taken 1 225 Fetch) ∷ wait true (1 ∷ 2 ∷ []) (2 ∷ []) ∷ CanWrite 2 ∷ Asked 2 text456 ∷ wait true (1 ∷ 2 ∷ []) [] ∷ CanRead 2 ∷ Got 2 text5 ∷ Noted (Taken 1 225 (Hit 0 0)) ∷ wait true (1 ∷ 2 ∷ []) (1 ∷ []) ∷ CanWrite 1 ∷ Said 1 154 text6 ∷ wait true (1 ∷ 2 ∷ []) [] ∷ CanRead 1 ∷ Heard 1 text457 ∷ Noted (Taken 1 226 Fetch) ∷ wait true (1 ∷ 2 ∷ []) (2 ∷ []) ∷ CanWrite 2 ∷ Asked 2 text458 ∷ wait true (1 ∷ 2 ∷ []) [] ∷ CanRead 2 ∷ Got 2 text5 ∷ Noted (Taken 1 226 (Hit 0 0)) ∷ wait true (1 ∷ 2 ∷ []) (1 ∷ []) ∷ CanWrite 1 ∷ Said 1 154 text6 ∷ wait true (1 ∷ 2 ∷ []) [] ∷ CanRead 1 ∷ Heard 1 text459 ∷ Noted (Taken 1 227 Fetch) ∷ wait true (1 ∷ 2 ∷ []) (2 ∷ []) ∷ CanWrite 2 ∷ Asked 2 text460 ∷ wait true (1 ∷ 2 ∷ []) [] ∷ CanRead 2 ∷ Got 2 text5 ∷ Noted (Taken 1 227 (Hit 0 0)) ∷ wait true (1 ∷ 2 ∷ []) (1 ∷ []) ∷ CanWrite 1 ∷ Said 1 154 text6 ∷ wait true (1 ∷ 2 ∷ []) [] ∷ CanRead 1 ∷ Heard 1 text461 ∷ Noted (Taken 1 228 Fetch) ∷ wait true (1 ∷ 2 ∷ []) (2 ∷ []) ∷ CanWrite 2 ∷ Asked 2 text462 ∷ wait true (1 ∷ 2 ∷ []) [] ∷ CanRead 2 ∷ Got 2 text5 ∷ Noted (Taken 1 228 (Hit 0 0)) ∷ wait true (1 ∷ 2 ∷ []) (1 ∷ []) ∷ CanWrite 1 ∷ Said 1 154 text6 ∷ wait true (1 ∷ 2 ∷ []) [] ∷ CanRead 1 ∷ Heard 1 text463 ∷ Noted (Taken 1 229 Fetch) ∷ wait true (1 ∷ 2 ∷ []) (2 ∷ []) ∷ CanWrite 2 ∷ Asked 2 text464 ∷ wait true (1 ∷ 2 ∷ []) [] ∷ CanRead 2 ∷ Got 2 text5 ∷ Noted (Taken 1 229 (Hit 0 0)) ∷ wait true (1 ∷ 2 ∷ []) (1 ∷ []) ∷ CanWrite 1 ∷ Said 1 154 text6 ∷ wait true (1 ∷ 2 ∷ []) [] ∷ CanRead 1 ∷ Heard 1 text465 ∷ Noted (Taken 1 230 Fetch) ∷ wait true (1 ∷ 2 ∷ []) (2 ∷ []) ∷ CanWrite 2 ∷ Asked 2 text466 ∷ wait true (1 ∷ 2 ∷ []) [] ∷ CanRead 2 ∷ Got 2 text5 ∷ Noted (Taken 1 230 (Hit 0 0)) ∷ wait true (1 ∷ 2 ∷ []) (1 ∷ []) ∷ CanWrite 1 ∷ Said 1 154 text6 ∷ wait true (1 ∷ 2 ∷ []) [] ∷ CanRead 1 ∷ Heard 1 text467 ∷ Noted (Taken 1 231 Fetch) ∷ wait true (1 ∷ 2 ∷ []) (2 ∷ []) ∷ CanWrite 2 ∷ Asked 2 text468 ∷ wait true (1 ∷ 2 ∷ []) [] ∷ CanRead 2 ∷ Got 2 text5 ∷ Noted (Taken 1 231 (Hit 0 0)) ∷ wait true (1 ∷ 2 ∷ []) (1 ∷ []) ∷ CanWrite 1 ∷ Said 1 154 text6 ∷ wait true (1 ∷ 2 ∷ []) [] ∷ CanRead 1 ∷ Heard 1 text469 ∷ Noted (Taken 1 232 Fetch) ∷ wait true (1 ∷ 2 ∷ []) (2 ∷ []) ∷ CanWrite 2 ∷ Asked 2 text470 ∷ wait true (1 ∷ 2 ∷ []) [] ∷ CanRead 2 ∷ Got 2 text5 ∷ Noted (Taken 1 232 (Hit 0 0)) ∷ wait true (1 ∷ 2 ∷ []) (1 ∷ []) ∷ CanWrite 1 ∷ Said 1 154 text6 ∷ wait true (1 ∷ 2 ∷ []) [] ∷ CanRead 1 ∷ Heard 1 text471 ∷ Noted (Taken 1 233 Fetch) ∷ wait true (1 ∷ 2 ∷ []) (2 ∷ []) ∷ CanWrite 2 ∷ Asked 2 text472 ∷ wait true (1 ∷ 2 ∷ []) [] ∷ CanRead 2 ∷ Got 2 text5 ∷ Noted (Taken 1 233 (Hit 0 0)) ∷ wait true (1 ∷ 2 ∷ []) (1 ∷ []) ∷ CanWrite 1 ∷ Said 1 154 text6 ∷ wait true (1 ∷ 2 ∷ []) [] ∷ CanRead 1 ∷ Heard 1 text473 ∷ Noted (Taken 1 234 Fetch) ∷ wait true (1 ∷ 2 ∷ []) (2 ∷ []) ∷ CanWrite 2 ∷ Asked 2 text474 ∷ wait true (1 ∷ 2 ∷ []) [] ∷ CanRead 2 ∷ Got 2 text5 ∷ Noted (Taken 1 234 (Hit 0 0)) ∷ wait true (1 ∷ 2 ∷ []) (1 ∷ []) ∷ CanWrite 1 ∷ Said 1 154 text6 ∷ wait true (1 ∷ 2 ∷ []) [] ∷ CanRead 1 ∷ Heard 1 text475 ∷ Noted (Taken 1 235 Fetch) ∷ wait true (1 ∷ 2 ∷ []) (2 ∷ []) ∷ CanWrite 2 ∷ Asked 2 text476 ∷ wait true (1 ∷ 2 ∷ []) [] ∷ CanRead 2 ∷ Got 2 text5 ∷ Noted (Taken 1 235 (Hit 0 0)) ∷ wait true (1 ∷ 2 ∷ []) (1 ∷ []) ∷ CanWrite 1 ∷ Said 1 154 text6 ∷ wait true (1 ∷ 2 ∷ []) [] ∷ CanRead 1 ∷ Heard 1 text477 ∷ Noted (Taken 1 236 Fetch) ∷ wait true (1 ∷ 2 ∷ []) (2 ∷ []) ∷ CanWrite 2 ∷ Asked 2 text478 ∷ wait true (1 ∷ 2 ∷ []) [] ∷ CanRead 2 ∷ Got 2 text5 ∷ Noted (Taken 1 236 (Hit 0 0)) ∷ wait true (1 ∷ 2 ∷ []) (1 ∷ []) ∷ CanWrite 1 ∷ Said 1 154 text6 ∷ wait true (1 ∷ 2 ∷ []) [] ∷ CanRead 1 ∷ Heard 1 text479 ∷ Noted (Taken 1 237 Fetch) ∷ wait true (1 ∷ 2 ∷ []) (2 ∷ []) ∷ CanWrite 2 ∷ Asked 2 text480 ∷ wait true (1 ∷ 2 ∷ []) [] ∷ CanRead 2 ∷ Got 2 text5 ∷ Noted (Taken 1 237 (Hit 0 0)) ∷ wait true (1 ∷ 2 ∷ []) (1 ∷ []) ∷ CanWrite 1 ∷ Said 1 154 text6 ∷ wait true (1 ∷ 2 ∷ []) [] ∷ CanRead 1 ∷ Heard 1 text481 ∷ Noted (Taken 1 238 Fetch) ∷ wait true (1 ∷ 2 ∷ []) (2 ∷ []) ∷ CanWrite 2 ∷ Asked 2 text482 ∷ wait true (1 ∷ 2 ∷ []) [] ∷ CanRead 2 ∷ Got 2 text5 ∷ Noted (Taken 1 238 (Hit 0 0)) ∷ wait true (1 ∷ 2 ∷ []) (1 ∷ []) ∷ CanWrite 1 ∷ Said 1 154 text6 ∷ wait true (1 ∷ 2 ∷ []) [] ∷ CanRead 1 ∷ Heard 1 text483 ∷ []))
unfolding judging front0x12
front0x13 = (_, refl)

front0x14 : (s : State) × (arrived s ≡ judge 3360 front0x13.0 (Noted (Taken 1 239 Fetch) ∷ wait true (1 ∷ 2 ∷ []) (2 ∷ []) ∷ CanWrite 2 ∷ Asked 2 text484 ∷ wait true (1 ∷ 2 ∷ []) [] ∷ CanRead 2 ∷ Got 2 text5 ∷ Noted (Taken 1 239 (Hit 0 0)) ∷ wait true (1 ∷ 2 ∷ []) (1 ∷ []) ∷ CanWrite 1 ∷ Said 1 154 text6 ∷ wait true (1 ∷ 2 ∷ []) [] ∷ CanRead 1 ∷ Heard 1 text485 ∷ Noted (Taken 1 240 Fetch) ∷ wait true (1 ∷ 2 ∷ []) (2 ∷ []) ∷ CanWrite 2 ∷ Asked 2 text486 ∷ wait true (1 ∷ 2 ∷ []) [] ∷ CanRead 2 ∷ Got 2 text5 ∷ Noted (Taken 1 240 (Hit 0 0)) ∷ wait true (1 ∷ 2 ∷ []) (1 ∷ []) ∷ CanWrite 1 ∷ Said 1 154 text6 ∷ wait true (1 ∷ 2 ∷ []) [] ∷ CanRead 1 ∷ Heard 1 text487 ∷ Noted (Taken 1 241 Fetch) ∷ wait true (1 ∷ 2 ∷ []) (2 ∷ []) ∷ CanWrite 2 ∷ Asked 2 text488 ∷ wait true (1 ∷ 2 ∷ []) [] ∷ CanRead 2 ∷ Got 2 text5 ∷ Noted (Taken 1 241 (Hit 0 0)) ∷ wait true (1 ∷ 2 ∷ []) (1 ∷ []) ∷ CanWrite 1 ∷ Said 1 154 text6 ∷ wait true (1 ∷ 2 ∷ []) [] ∷ CanRead 1 ∷ Heard 1 text489 ∷ Noted (Taken 1 242 Fetch) ∷ wait true (1 ∷ 2 ∷ []) (2 ∷ []) ∷ CanWrite 2 ∷ Asked 2 text490 ∷ wait true (1 ∷ 2 ∷ []) [] ∷ CanRead 2 ∷ Got 2 text5 ∷ Noted (Taken 1 242 (Hit 0 0)) ∷ wait true (1 ∷ 2 ∷ []) (1 ∷ []) ∷ CanWrite 1 ∷ Said 1 154 text6 ∷ wait true (1 ∷ 2 ∷ []) [] ∷ CanRead 1 ∷ Heard 1 text491 ∷ Noted (Taken 1 243 Fetch) ∷ wait true (1 ∷ 2 ∷ []) (2 ∷ []) ∷ CanWrite 2 ∷ Asked 2 text492 ∷ wait true (1 ∷ 2 ∷ []) [] ∷ CanRead 2 ∷ Got 2 text5 ∷ Noted (Taken 1 243 (Hit 0 0)) ∷ wait true (1 ∷ 2 ∷ []) (1 ∷ []) ∷ CanWrite 1 ∷ Said 1 154 text6 ∷ wait true (1 ∷ 2 ∷ []) [] ∷ CanRead 1 ∷ Heard 1 text493 ∷ Noted (Taken 1 244 Fetch) ∷ wait true (1 ∷ 2 ∷ []) (2 ∷ []) ∷ CanWrite 2 ∷ Asked 2 text494 ∷ wait true (1 ∷ 2 ∷ []) [] ∷ CanRead 2 ∷ Got 2 text5 ∷ Noted (Taken 1 244 (Hit 0 0)) ∷ wait true (1 ∷ 2 ∷ []) (1 ∷ []) ∷ CanWrite 1 ∷ Said 1 154 text6 ∷ wait true (1 ∷ 2 ∷ []) [] ∷ CanRead 1 ∷ Heard 1 text495 ∷ Noted (Taken 1 245 Fetch) ∷ wait true (1 ∷ 2 ∷ []) (2 ∷ []) ∷ CanWrite 2 ∷ Asked 2 text496 ∷ wait true (1 ∷ 2 ∷ []) [] ∷ CanRead 2 ∷ Got 2 text5 ∷ Noted (Taken 1 245 (Hit 0 0)) ∷ wait true (1 ∷ 2 ∷ []) (1 ∷ []) ∷ CanWrite 1 ∷ Said 1 154 text6 ∷ wait true (1 ∷ 2 ∷ []) [] ∷ CanRead 1 ∷ Heard 1 text497 ∷ Noted (Taken 1 246 Fetch) ∷ wait true (1 ∷ 2 ∷ []) (2 ∷ []) ∷ CanWrite 2 ∷ Asked 2 text498 ∷ wait true (1 ∷ 2 ∷ []) [] ∷ CanRead 2 ∷ Got 2 text5 ∷ Noted (Taken 1 246 (Hit 0 0)) ∷ wait true (1 ∷ 2 ∷ []) (1 ∷ []) ∷ CanWrite 1 ∷ Said 1 154 text6 ∷ wait true (1 ∷ 2 ∷ []) [] ∷ CanRead 1 ∷ Heard 1 text499 ∷ Noted (Taken 1 247 Fetch) ∷ wait true (1 ∷ 2 ∷ []) (2 ∷ []) ∷ CanWrite 2 ∷ Asked 2 text500 ∷ wait true (1 ∷ 2 ∷ []) [] ∷ CanRead 2 ∷ Got 2 text5 ∷ Noted (Taken 1 247 (Hit 0 0)) ∷ wait true (1 ∷ 2 ∷ []) (1 ∷ []) ∷ CanWrite 1 ∷ Said 1 154 text6 ∷ wait true (1 ∷ 2 ∷ []) [] ∷ CanRead 1 ∷ Heard 1 text501 ∷ Noted (Taken 1 248 Fetch) ∷ wait true (1 ∷ 2 ∷ []) (2 ∷ []) ∷ CanWrite 2 ∷ Asked 2 text502 ∷ wait true (1 ∷ 2 ∷ []) [] ∷ CanRead 2 ∷ Got 2 text5 ∷ Noted (Taken 1 248 (Hit 0 0)) ∷ wait true (1 ∷ 2 ∷ []) (1 ∷ []) ∷ CanWrite 1 ∷ Said 1 154 text6 ∷ wait true (1 ∷ 2 ∷ []) [] ∷ CanRead 1 ∷ Heard 1 text503 ∷ Noted (Taken 1 249 Fetch) ∷ wait true (1 ∷ 2 ∷ []) (2 ∷ []) ∷ CanWrite 2 ∷ Asked 2 text504 ∷ wait true (1 ∷ 2 ∷ []) [] ∷ CanRead 2 ∷ Got 2 text5 ∷ Noted (Taken 1 249 (Hit 0 0)) ∷ wait true (1 ∷ 2 ∷ []) (1 ∷ []) ∷ CanWrite 1 ∷ Said 1 154 text6 ∷ wait true (1 ∷ 2 ∷ []) [] ∷ CanRead 1 ∷ Heard 1 text505 ∷ Noted (Taken 1 250 Fetch) ∷ wait true (1 ∷ 2 ∷ []) (2 ∷ []) ∷ CanWrite 2 ∷ Asked 2 text506 ∷ wait true (1 ∷ 2 ∷ []) [] ∷ CanRead 2 ∷ Got 2 text5 ∷ Noted (Taken 1 250 (Hit 0 0)) ∷ wait true (1 ∷ 2 ∷ []) (1 ∷ []) ∷ CanWrite 1 ∷ Said 1 154 text6 ∷ wait true (1 ∷ 2 ∷ []) [] ∷ CanRead 1 ∷ Heard 1 text507 ∷ Noted (Taken 1 251 Fetch) ∷ wait true (1 ∷ 2 ∷ []) (2 ∷ []) ∷ CanWrite 2 ∷ Asked 2 text508 ∷ wait true (1 ∷ 2 ∷ []) [] ∷ CanRead 2 ∷ Got 2 text5 ∷ Noted (Taken 1 251 (Hit 0 0)) ∷ wait true (1 ∷ 2 ∷ []) (1 ∷ []) ∷ CanWrite 1 ∷ Said 1 154 text6 ∷ wait true (1 ∷ 2 ∷ []) [] ∷ CanRead 1 ∷ Heard 1 text509 ∷ Noted (Taken 1 252 Fetch) ∷ wait true (1 ∷ 2 ∷ []) (2 ∷ []) ∷ CanWrite 2 ∷ Asked 2 text510 ∷ wait true (1 ∷ 2 ∷ []) [] ∷ CanRead 2 ∷ Got 2 text5 ∷ Noted (Taken 1 252 (Hit 0 0)) ∷ wait true (1 ∷ 2 ∷ []) (1 ∷ []) ∷ CanWrite 1 ∷ Said 1 154 text6 ∷ wait true (1 ∷ 2 ∷ []) [] ∷ CanRead 1 ∷ Heard 1 text511 ∷ Noted (Taken 1 253 Fetch) ∷ wait true (1 ∷ 2 ∷ []) (2 ∷ []) ∷ CanWrite 2 ∷ Asked 2 text512 ∷ wait true (1 ∷ 2 ∷ []) [] ∷ CanRead 2 ∷ Got 2 text5 ∷ Noted (Taken 1 253 (Hit 0 0)) ∷ wait true (1 ∷ 2 ∷ []) (1 ∷ []) ∷ CanWrite 1 ∷ Said 1 154 text6 ∷ wait true (1 ∷ 2 ∷ []) [] ∷ CanRead 1 ∷ Heard 1 text513 ∷ Noted (Taken 1 254 Fetch) ∷ wait true (1 ∷ 2 ∷ []) (2 ∷ []) ∷ CanWrite 2 ∷ Asked 2 text514 ∷ wait true (1 ∷ 2 ∷ []) [] ∷ CanRead 2 ∷ Got 2 text5 ∷ Noted (Taken 1 254 (Hit 0 0)) ∷ wait true (1 ∷ 2 ∷ []) (1 ∷ []) ∷ CanWrite 1 ∷ Said 1 154 text6 ∷ wait true (1 ∷ 2 ∷ []) [] ∷ CanRead 1 ∷ Heard 1 text515 ∷ Noted (Taken 1 255 Fetch) ∷ wait true (1 ∷ 2 ∷ []) (2 ∷ []) ∷ CanWrite 2 ∷ Asked 2 text516 ∷ wait true (1 ∷ 2 ∷ []) [] ∷ CanRead 2 ∷ Got 2 text5 ∷ Noted (Taken 1 255 (Hit 0 0)) ∷ wait true (1 ∷ 2 ∷ []) (1 ∷ []) ∷ CanWrite 1 ∷ Said 1 154 text6 ∷ wait true (1 ∷ 2 ∷ []) [] ∷ CanRead 1 ∷ Heard 1 text517 ∷ Noted (Taken 1 256 Fetch) ∷ wait true (1 ∷ 2 ∷ []) (2 ∷ []) ∷ []))
unfolding judging front0x13
front0x14 = (_, refl)

front0x15 : (s : State) × (arrived s ≡ judge 3600 front0x14.0 (CanWrite 2 ∷ Asked 2 text518 ∷ wait true (1 ∷ 2 ∷ []) [] ∷ CanRead 2 ∷ Got 2 text5 ∷ Noted (Taken 1 256 (Hit 0 0)) ∷ wait true (1 ∷ 2 ∷ []) (1 ∷ []) ∷ CanWrite 1 ∷ Said 1 154 text6 ∷ wait true (1 ∷ 2 ∷ []) [] ∷ CanRead 1 ∷ Heard 1 text519 ∷ Noted (Taken 1 257 Fetch) ∷ wait true (1 ∷ 2 ∷ []) (2 ∷ []) ∷ CanWrite 2 ∷ Asked 2 text520 ∷ wait true (1 ∷ 2 ∷ []) [] ∷ CanRead 2 ∷ Got 2 text5 ∷ Noted (Taken 1 257 (Hit 0 0)) ∷ wait true (1 ∷ 2 ∷ []) (1 ∷ []) ∷ CanWrite 1 ∷ Said 1 154 text6 ∷ wait true (1 ∷ 2 ∷ []) [] ∷ CanRead 1 ∷ Heard 1 text521 ∷ Noted (Taken 1 258 Fetch) ∷ wait true (1 ∷ 2 ∷ []) (2 ∷ []) ∷ CanWrite 2 ∷ Asked 2 text522 ∷ wait true (1 ∷ 2 ∷ []) [] ∷ CanRead 2 ∷ Got 2 text5 ∷ Noted (Taken 1 258 (Hit 0 0)) ∷ wait true (1 ∷ 2 ∷ []) (1 ∷ []) ∷ CanWrite 1 ∷ Said 1 154 text6 ∷ wait true (1 ∷ 2 ∷ []) [] ∷ CanRead 1 ∷ Heard 1 text523 ∷ Noted (Taken 1 259 Fetch) ∷ wait true (1 ∷ 2 ∷ []) (2 ∷ []) ∷ CanWrite 2 ∷ Asked 2 text524 ∷ wait true (1 ∷ 2 ∷ []) [] ∷ CanRead 2 ∷ Got 2 text5 ∷ Noted (Taken 1 259 (Hit 0 0)) ∷ wait true (1 ∷ 2 ∷ []) (1 ∷ []) ∷ CanWrite 1 ∷ Said 1 154 text6 ∷ wait true (1 ∷ 2 ∷ []) [] ∷ CanRead 1 ∷ Heard 1 text525 ∷ Noted (Taken 1 260 Fetch) ∷ wait true (1 ∷ 2 ∷ []) (2 ∷ []) ∷ CanWrite 2 ∷ Asked 2 text526 ∷ wait true (1 ∷ 2 ∷ []) [] ∷ CanRead 2 ∷ Got 2 text5 ∷ Noted (Taken 1 260 (Hit 0 0)) ∷ wait true (1 ∷ 2 ∷ []) (1 ∷ []) ∷ CanWrite 1 ∷ Said 1 154 text6 ∷ wait true (1 ∷ 2 ∷ []) [] ∷ CanRead 1 ∷ Heard 1 text527 ∷ Noted (Taken 1 261 Fetch) ∷ wait true (1 ∷ 2 ∷ []) (2 ∷ []) ∷ CanWrite 2 ∷ Asked 2 text528 ∷ wait true (1 ∷ 2 ∷ []) [] ∷ CanRead 2 ∷ Got 2 text5 ∷ Noted (Taken 1 261 (Hit 0 0)) ∷ wait true (1 ∷ 2 ∷ []) (1 ∷ []) ∷ CanWrite 1 ∷ Said 1 154 text6 ∷ wait true (1 ∷ 2 ∷ []) [] ∷ CanRead 1 ∷ Heard 1 text529 ∷ Noted (Taken 1 262 Fetch) ∷ wait true (1 ∷ 2 ∷ []) (2 ∷ []) ∷ CanWrite 2 ∷ Asked 2 text530 ∷ wait true (1 ∷ 2 ∷ []) [] ∷ CanRead 2 ∷ Got 2 text5 ∷ Noted (Taken 1 262 (Hit 0 0)) ∷ wait true (1 ∷ 2 ∷ []) (1 ∷ []) ∷ CanWrite 1 ∷ Said 1 154 text6 ∷ wait true (1 ∷ 2 ∷ []) [] ∷ CanRead 1 ∷ Heard 1 text531 ∷ Noted (Taken 1 263 Fetch) ∷ wait true (1 ∷ 2 ∷ []) (2 ∷ []) ∷ CanWrite 2 ∷ Asked 2 text532 ∷ wait true (1 ∷ 2 ∷ []) [] ∷ CanRead 2 ∷ Got 2 text5 ∷ Noted (Taken 1 263 (Hit 0 0)) ∷ wait true (1 ∷ 2 ∷ []) (1 ∷ []) ∷ CanWrite 1 ∷ Said 1 154 text6 ∷ wait true (1 ∷ 2 ∷ []) [] ∷ CanRead 1 ∷ Heard 1 text533 ∷ Noted (Taken 1 264 Fetch) ∷ wait true (1 ∷ 2 ∷ []) (2 ∷ []) ∷ CanWrite 2 ∷ Asked 2 text534 ∷ wait true (1 ∷ 2 ∷ []) [] ∷ CanRead 2 ∷ Got 2 text5 ∷ Noted (Taken 1 264 (Hit 0 0)) ∷ wait true (1 ∷ 2 ∷ []) (1 ∷ []) ∷ CanWrite 1 ∷ Said 1 154 text6 ∷ wait true (1 ∷ 2 ∷ []) [] ∷ CanRead 1 ∷ Heard 1 text535 ∷ Noted (Taken 1 265 Fetch) ∷ wait true (1 ∷ 2 ∷ []) (2 ∷ []) ∷ CanWrite 2 ∷ Asked 2 text536 ∷ wait true (1 ∷ 2 ∷ []) [] ∷ CanRead 2 ∷ Got 2 text5 ∷ Noted (Taken 1 265 (Hit 0 0)) ∷ wait true (1 ∷ 2 ∷ []) (1 ∷ []) ∷ CanWrite 1 ∷ Said 1 154 text6 ∷ wait true (1 ∷ 2 ∷ []) [] ∷ CanRead 1 ∷ Heard 1 text537 ∷ Noted (Taken 1 266 Fetch) ∷ wait true (1 ∷ 2 ∷ []) (2 ∷ []) ∷ CanWrite 2 ∷ Asked 2 text538 ∷ wait true (1 ∷ 2 ∷ []) [] ∷ CanRead 2 ∷ Got 2 text5 ∷ Noted (Taken 1 266 (Hit 0 0)) ∷ wait true (1 ∷ 2 ∷ []) (1 ∷ []) ∷ CanWrite 1 ∷ Said 1 154 text6 ∷ wait true (1 ∷ 2 ∷ []) [] ∷ CanRead 1 ∷ Heard 1 text539 ∷ Noted (Taken 1 267 Fetch) ∷ wait true (1 ∷ 2 ∷ []) (2 ∷ []) ∷ CanWrite 2 ∷ Asked 2 text540 ∷ wait true (1 ∷ 2 ∷ []) [] ∷ CanRead 2 ∷ Got 2 text5 ∷ Noted (Taken 1 267 (Hit 0 0)) ∷ wait true (1 ∷ 2 ∷ []) (1 ∷ []) ∷ CanWrite 1 ∷ Said 1 154 text6 ∷ wait true (1 ∷ 2 ∷ []) [] ∷ CanRead 1 ∷ Heard 1 text541 ∷ Noted (Taken 1 268 Fetch) ∷ wait true (1 ∷ 2 ∷ []) (2 ∷ []) ∷ CanWrite 2 ∷ Asked 2 text542 ∷ wait true (1 ∷ 2 ∷ []) [] ∷ CanRead 2 ∷ Got 2 text5 ∷ Noted (Taken 1 268 (Hit 0 0)) ∷ wait true (1 ∷ 2 ∷ []) (1 ∷ []) ∷ CanWrite 1 ∷ Said 1 154 text6 ∷ wait true (1 ∷ 2 ∷ []) [] ∷ CanRead 1 ∷ Heard 1 text543 ∷ Noted (Taken 1 269 Fetch) ∷ wait true (1 ∷ 2 ∷ []) (2 ∷ []) ∷ CanWrite 2 ∷ Asked 2 text544 ∷ wait true (1 ∷ 2 ∷ []) [] ∷ CanRead 2 ∷ Got 2 text5 ∷ Noted (Taken 1 269 (Hit 0 0)) ∷ wait true (1 ∷ 2 ∷ []) (1 ∷ []) ∷ CanWrite 1 ∷ Said 1 154 text6 ∷ wait true (1 ∷ 2 ∷ []) [] ∷ CanRead 1 ∷ Heard 1 text545 ∷ Noted (Taken 1 270 Fetch) ∷ wait true (1 ∷ 2 ∷ []) (2 ∷ []) ∷ CanWrite 2 ∷ Asked 2 text546 ∷ wait true (1 ∷ 2 ∷ []) [] ∷ CanRead 2 ∷ Got 2 text5 ∷ Noted (Taken 1 270 (Hit 0 0)) ∷ wait true (1 ∷ 2 ∷ []) (1 ∷ []) ∷ CanWrite 1 ∷ Said 1 154 text6 ∷ wait true (1 ∷ 2 ∷ []) [] ∷ CanRead 1 ∷ Heard 1 text547 ∷ Noted (Taken 1 271 Fetch) ∷ wait true (1 ∷ 2 ∷ []) (2 ∷ []) ∷ CanWrite 2 ∷ Asked 2 text548 ∷ wait true (1 ∷ 2 ∷ []) [] ∷ CanRead 2 ∷ Got 2 text5 ∷ Noted (Taken 1 271 (Hit 0 0)) ∷ wait true (1 ∷ 2 ∷ []) (1 ∷ []) ∷ CanWrite 1 ∷ Said 1 154 text6 ∷ wait true (1 ∷ 2 ∷ []) [] ∷ CanRead 1 ∷ Heard 1 text549 ∷ Noted (Taken 1 272 Fetch) ∷ wait true (1 ∷ 2 ∷ []) (2 ∷ []) ∷ CanWrite 2 ∷ Asked 2 text550 ∷ wait true (1 ∷ 2 ∷ []) [] ∷ CanRead 2 ∷ Got 2 text5 ∷ Noted (Taken 1 272 (Hit 0 0)) ∷ wait true (1 ∷ 2 ∷ []) (1 ∷ []) ∷ CanWrite 1 ∷ Said 1 154 text6 ∷ wait true (1 ∷ 2 ∷ []) [] ∷ CanRead 1 ∷ Heard 1 text551 ∷ Noted (Taken 1 273 Fetch) ∷ wait true (1 ∷ 2 ∷ []) (2 ∷ []) ∷ CanWrite 2 ∷ Asked 2 text552 ∷ []))
unfolding judging front0x14
front0x15 = (_, refl)

front0x16 : (s : State) × (arrived s ≡ judge 3840 front0x15.0 (wait true (1 ∷ 2 ∷ []) [] ∷ CanRead 2 ∷ Got 2 text5 ∷ Noted (Taken 1 273 (Hit 0 0)) ∷ wait true (1 ∷ 2 ∷ []) (1 ∷ []) ∷ CanWrite 1 ∷ Said 1 154 text6 ∷ wait true (1 ∷ 2 ∷ []) [] ∷ CanRead 1 ∷ Heard 1 text553 ∷ Noted (Taken 1 274 Fetch) ∷ wait true (1 ∷ 2 ∷ []) (2 ∷ []) ∷ CanWrite 2 ∷ Asked 2 text554 ∷ wait true (1 ∷ 2 ∷ []) [] ∷ CanRead 2 ∷ Got 2 text5 ∷ Noted (Taken 1 274 (Hit 0 0)) ∷ wait true (1 ∷ 2 ∷ []) (1 ∷ []) ∷ CanWrite 1 ∷ Said 1 154 text6 ∷ wait true (1 ∷ 2 ∷ []) [] ∷ CanRead 1 ∷ Heard 1 text555 ∷ Noted (Taken 1 275 Fetch) ∷ wait true (1 ∷ 2 ∷ []) (2 ∷ []) ∷ CanWrite 2 ∷ Asked 2 text556 ∷ wait true (1 ∷ 2 ∷ []) [] ∷ CanRead 2 ∷ Got 2 text5 ∷ Noted (Taken 1 275 (Hit 0 0)) ∷ wait true (1 ∷ 2 ∷ []) (1 ∷ []) ∷ CanWrite 1 ∷ Said 1 154 text6 ∷ wait true (1 ∷ 2 ∷ []) [] ∷ CanRead 1 ∷ Heard 1 text557 ∷ Noted (Taken 1 276 Fetch) ∷ wait true (1 ∷ 2 ∷ []) (2 ∷ []) ∷ CanWrite 2 ∷ Asked 2 text558 ∷ wait true (1 ∷ 2 ∷ []) [] ∷ CanRead 2 ∷ Got 2 text5 ∷ Noted (Taken 1 276 (Hit 0 0)) ∷ wait true (1 ∷ 2 ∷ []) (1 ∷ []) ∷ CanWrite 1 ∷ Said 1 154 text6 ∷ wait true (1 ∷ 2 ∷ []) [] ∷ CanRead 1 ∷ Heard 1 text559 ∷ Noted (Taken 1 277 Fetch) ∷ wait true (1 ∷ 2 ∷ []) (2 ∷ []) ∷ CanWrite 2 ∷ Asked 2 text560 ∷ wait true (1 ∷ 2 ∷ []) [] ∷ CanRead 2 ∷ Got 2 text5 ∷ Noted (Taken 1 277 (Hit 0 0)) ∷ wait true (1 ∷ 2 ∷ []) (1 ∷ []) ∷ CanWrite 1 ∷ Said 1 154 text6 ∷ wait true (1 ∷ 2 ∷ []) [] ∷ CanRead 1 ∷ Heard 1 text561 ∷ Noted (Taken 1 278 Fetch) ∷ wait true (1 ∷ 2 ∷ []) (2 ∷ []) ∷ CanWrite 2 ∷ Asked 2 text562 ∷ wait true (1 ∷ 2 ∷ []) [] ∷ CanRead 2 ∷ Got 2 text5 ∷ Noted (Taken 1 278 (Hit 0 0)) ∷ wait true (1 ∷ 2 ∷ []) (1 ∷ []) ∷ CanWrite 1 ∷ Said 1 154 text6 ∷ wait true (1 ∷ 2 ∷ []) [] ∷ CanRead 1 ∷ Heard 1 text563 ∷ Noted (Taken 1 279 Fetch) ∷ wait true (1 ∷ 2 ∷ []) (2 ∷ []) ∷ CanWrite 2 ∷ Asked 2 text564 ∷ wait true (1 ∷ 2 ∷ []) [] ∷ CanRead 2 ∷ Got 2 text5 ∷ Noted (Taken 1 279 (Hit 0 0)) ∷ wait true (1 ∷ 2 ∷ []) (1 ∷ []) ∷ CanWrite 1 ∷ Said 1 154 text6 ∷ wait true (1 ∷ 2 ∷ []) [] ∷ CanRead 1 ∷ Heard 1 text565 ∷ Noted (Taken 1 280 Fetch) ∷ wait true (1 ∷ 2 ∷ []) (2 ∷ []) ∷ CanWrite 2 ∷ Asked 2 text566 ∷ wait true (1 ∷ 2 ∷ []) [] ∷ CanRead 2 ∷ Got 2 text5 ∷ Noted (Taken 1 280 (Hit 0 0)) ∷ wait true (1 ∷ 2 ∷ []) (1 ∷ []) ∷ CanWrite 1 ∷ Said 1 154 text6 ∷ wait true (1 ∷ 2 ∷ []) [] ∷ CanRead 1 ∷ Heard 1 text567 ∷ Noted (Taken 1 281 Fetch) ∷ wait true (1 ∷ 2 ∷ []) (2 ∷ []) ∷ CanWrite 2 ∷ Asked 2 text568 ∷ wait true (1 ∷ 2 ∷ []) [] ∷ CanRead 2 ∷ Got 2 text5 ∷ Noted (Taken 1 281 (Hit 0 0)) ∷ wait true (1 ∷ 2 ∷ []) (1 ∷ []) ∷ CanWrite 1 ∷ Said 1 154 text6 ∷ wait true (1 ∷ 2 ∷ []) [] ∷ CanRead 1 ∷ Heard 1 text569 ∷ Noted (Taken 1 282 Fetch) ∷ wait true (1 ∷ 2 ∷ []) (2 ∷ []) ∷ CanWrite 2 ∷ Asked 2 text570 ∷ wait true (1 ∷ 2 ∷ []) [] ∷ CanRead 2 ∷ Got 2 text5 ∷ Noted (Taken 1 282 (Hit 0 0)) ∷ wait true (1 ∷ 2 ∷ []) (1 ∷ []) ∷ CanWrite 1 ∷ Said 1 154 text6 ∷ wait true (1 ∷ 2 ∷ []) [] ∷ CanRead 1 ∷ Heard 1 text571 ∷ Noted (Taken 1 283 Fetch) ∷ wait true (1 ∷ 2 ∷ []) (2 ∷ []) ∷ CanWrite 2 ∷ Asked 2 text572 ∷ wait true (1 ∷ 2 ∷ []) [] ∷ CanRead 2 ∷ Got 2 text5 ∷ Noted (Taken 1 283 (Hit 0 0)) ∷ wait true (1 ∷ 2 ∷ []) (1 ∷ []) ∷ CanWrite 1 ∷ Said 1 154 text6 ∷ wait true (1 ∷ 2 ∷ []) [] ∷ CanRead 1 ∷ Heard 1 text573 ∷ Noted (Taken 1 284 Fetch) ∷ wait true (1 ∷ 2 ∷ []) (2 ∷ []) ∷ CanWrite 2 ∷ Asked 2 text574 ∷ wait true (1 ∷ 2 ∷ []) [] ∷ CanRead 2 ∷ Got 2 text5 ∷ Noted (Taken 1 284 (Hit 0 0)) ∷ wait true (1 ∷ 2 ∷ []) (1 ∷ []) ∷ CanWrite 1 ∷ Said 1 154 text6 ∷ wait true (1 ∷ 2 ∷ []) [] ∷ CanRead 1 ∷ Heard 1 text575 ∷ Noted (Taken 1 285 Fetch) ∷ wait true (1 ∷ 2 ∷ []) (2 ∷ []) ∷ CanWrite 2 ∷ Asked 2 text576 ∷ wait true (1 ∷ 2 ∷ []) [] ∷ CanRead 2 ∷ Got 2 text5 ∷ Noted (Taken 1 285 (Hit 0 0)) ∷ wait true (1 ∷ 2 ∷ []) (1 ∷ []) ∷ CanWrite 1 ∷ Said 1 154 text6 ∷ wait true (1 ∷ 2 ∷ []) [] ∷ CanRead 1 ∷ Heard 1 text577 ∷ Noted (Taken 1 286 Fetch) ∷ wait true (1 ∷ 2 ∷ []) (2 ∷ []) ∷ CanWrite 2 ∷ Asked 2 text578 ∷ wait true (1 ∷ 2 ∷ []) [] ∷ CanRead 2 ∷ Got 2 text5 ∷ Noted (Taken 1 286 (Hit 0 0)) ∷ wait true (1 ∷ 2 ∷ []) (1 ∷ []) ∷ CanWrite 1 ∷ Said 1 154 text6 ∷ wait true (1 ∷ 2 ∷ []) [] ∷ CanRead 1 ∷ Heard 1 text579 ∷ Noted (Taken 1 287 Fetch) ∷ wait true (1 ∷ 2 ∷ []) (2 ∷ []) ∷ CanWrite 2 ∷ Asked 2 text580 ∷ wait true (1 ∷ 2 ∷ []) [] ∷ CanRead 2 ∷ Got 2 text5 ∷ Noted (Taken 1 287 (Hit 0 0)) ∷ wait true (1 ∷ 2 ∷ []) (1 ∷ []) ∷ CanWrite 1 ∷ Said 1 154 text6 ∷ wait true (1 ∷ 2 ∷ []) [] ∷ CanRead 1 ∷ Heard 1 text581 ∷ Noted (Taken 1 288 Fetch) ∷ wait true (1 ∷ 2 ∷ []) (2 ∷ []) ∷ CanWrite 2 ∷ Asked 2 text582 ∷ wait true (1 ∷ 2 ∷ []) [] ∷ CanRead 2 ∷ Got 2 text5 ∷ Noted (Taken 1 288 (Hit 0 0)) ∷ wait true (1 ∷ 2 ∷ []) (1 ∷ []) ∷ CanWrite 1 ∷ Said 1 154 text6 ∷ wait true (1 ∷ 2 ∷ []) [] ∷ CanRead 1 ∷ Heard 1 text583 ∷ Noted (Taken 1 289 Fetch) ∷ wait true (1 ∷ 2 ∷ []) (2 ∷ []) ∷ CanWrite 2 ∷ Asked 2 text584 ∷ wait true (1 ∷ 2 ∷ []) [] ∷ CanRead 2 ∷ Got 2 text5 ∷ Noted (Taken 1 289 (Hit 0 0)) ∷ wait true (1 ∷ 2 ∷ []) (1 ∷ []) ∷ CanWrite 1 ∷ Said 1 154 text6 ∷ wait true (1 ∷ 2 ∷ []) [] ∷ CanRead 1 ∷ Heard 1 text585 ∷ Noted (Taken 1 290 Fetch) ∷ wait true (1 ∷ 2 ∷ []) (2 ∷ []) ∷ CanWrite 2 ∷ Asked 2 text586 ∷ wait true (1 ∷ 2 ∷ []) [] ∷ CanRead 2 ∷ []))
unfolding judging front0x15
front0x16 = (_, refl)

front0x17 : (s : State) × (arrived s ≡ judge 4080 front0x16.0 (Got 2 text5 ∷ Noted (Taken 1 290 (Hit 0 0)) ∷ wait true (1 ∷ 2 ∷ []) (1 ∷ []) ∷ CanWrite 1 ∷ Said 1 154 text6 ∷ wait true (1 ∷ 2 ∷ []) [] ∷ CanRead 1 ∷ Heard 1 text587 ∷ Noted (Taken 1 291 Fetch) ∷ wait true (1 ∷ 2 ∷ []) (2 ∷ []) ∷ CanWrite 2 ∷ Asked 2 text588 ∷ wait true (1 ∷ 2 ∷ []) [] ∷ CanRead 2 ∷ Got 2 text5 ∷ Noted (Taken 1 291 (Hit 0 0)) ∷ wait true (1 ∷ 2 ∷ []) (1 ∷ []) ∷ CanWrite 1 ∷ Said 1 154 text6 ∷ wait true (1 ∷ 2 ∷ []) [] ∷ CanRead 1 ∷ Heard 1 text589 ∷ Noted (Taken 1 292 Fetch) ∷ wait true (1 ∷ 2 ∷ []) (2 ∷ []) ∷ CanWrite 2 ∷ Asked 2 text590 ∷ wait true (1 ∷ 2 ∷ []) [] ∷ CanRead 2 ∷ Got 2 text5 ∷ Noted (Taken 1 292 (Hit 0 0)) ∷ wait true (1 ∷ 2 ∷ []) (1 ∷ []) ∷ CanWrite 1 ∷ Said 1 154 text6 ∷ wait true (1 ∷ 2 ∷ []) [] ∷ CanRead 1 ∷ Heard 1 text591 ∷ Noted (Taken 1 293 Fetch) ∷ wait true (1 ∷ 2 ∷ []) (2 ∷ []) ∷ CanWrite 2 ∷ Asked 2 text592 ∷ wait true (1 ∷ 2 ∷ []) [] ∷ CanRead 2 ∷ Got 2 text5 ∷ Noted (Taken 1 293 (Hit 0 0)) ∷ wait true (1 ∷ 2 ∷ []) (1 ∷ []) ∷ CanWrite 1 ∷ Said 1 154 text6 ∷ wait true (1 ∷ 2 ∷ []) [] ∷ CanRead 1 ∷ Heard 1 text593 ∷ Noted (Taken 1 294 Fetch) ∷ wait true (1 ∷ 2 ∷ []) (2 ∷ []) ∷ CanWrite 2 ∷ Asked 2 text594 ∷ wait true (1 ∷ 2 ∷ []) [] ∷ CanRead 2 ∷ Got 2 text5 ∷ Noted (Taken 1 294 (Hit 0 0)) ∷ wait true (1 ∷ 2 ∷ []) (1 ∷ []) ∷ CanWrite 1 ∷ Said 1 154 text6 ∷ wait true (1 ∷ 2 ∷ []) [] ∷ CanRead 1 ∷ Heard 1 text595 ∷ Noted (Taken 1 295 Fetch) ∷ wait true (1 ∷ 2 ∷ []) (2 ∷ []) ∷ CanWrite 2 ∷ Asked 2 text596 ∷ wait true (1 ∷ 2 ∷ []) [] ∷ CanRead 2 ∷ Got 2 text5 ∷ Noted (Taken 1 295 (Hit 0 0)) ∷ wait true (1 ∷ 2 ∷ []) (1 ∷ []) ∷ CanWrite 1 ∷ Said 1 154 text6 ∷ wait true (1 ∷ 2 ∷ []) [] ∷ CanRead 1 ∷ Heard 1 text597 ∷ Noted (Taken 1 296 Fetch) ∷ wait true (1 ∷ 2 ∷ []) (2 ∷ []) ∷ CanWrite 2 ∷ Asked 2 text598 ∷ wait true (1 ∷ 2 ∷ []) [] ∷ CanRead 2 ∷ Got 2 text5 ∷ Noted (Taken 1 296 (Hit 0 0)) ∷ wait true (1 ∷ 2 ∷ []) (1 ∷ []) ∷ CanWrite 1 ∷ Said 1 154 text6 ∷ wait true (1 ∷ 2 ∷ []) [] ∷ CanRead 1 ∷ Heard 1 text599 ∷ Noted (Taken 1 297 Fetch) ∷ wait true (1 ∷ 2 ∷ []) (2 ∷ []) ∷ CanWrite 2 ∷ Asked 2 text600 ∷ wait true (1 ∷ 2 ∷ []) [] ∷ CanRead 2 ∷ Got 2 text5 ∷ Noted (Taken 1 297 (Hit 0 0)) ∷ wait true (1 ∷ 2 ∷ []) (1 ∷ []) ∷ CanWrite 1 ∷ Said 1 154 text6 ∷ wait true (1 ∷ 2 ∷ []) [] ∷ CanRead 1 ∷ Heard 1 text601 ∷ Noted (Taken 1 298 Fetch) ∷ wait true (1 ∷ 2 ∷ []) (2 ∷ []) ∷ CanWrite 2 ∷ Asked 2 text602 ∷ wait true (1 ∷ 2 ∷ []) [] ∷ CanRead 2 ∷ Got 2 text5 ∷ Noted (Taken 1 298 (Hit 0 0)) ∷ wait true (1 ∷ 2 ∷ []) (1 ∷ []) ∷ CanWrite 1 ∷ Said 1 154 text6 ∷ wait true (1 ∷ 2 ∷ []) [] ∷ CanRead 1 ∷ Heard 1 text603 ∷ Noted (Taken 1 299 Fetch) ∷ wait true (1 ∷ 2 ∷ []) (2 ∷ []) ∷ CanWrite 2 ∷ Asked 2 text604 ∷ wait true (1 ∷ 2 ∷ []) [] ∷ CanRead 2 ∷ Got 2 text5 ∷ Noted (Taken 1 299 (Hit 0 0)) ∷ wait true (1 ∷ 2 ∷ []) (1 ∷ []) ∷ CanWrite 1 ∷ Said 1 154 text6 ∷ wait true (1 ∷ 2 ∷ []) [] ∷ CanRead 1 ∷ Heard 1 text605 ∷ Noted (Taken 1 300 Fetch) ∷ wait true (1 ∷ 2 ∷ []) (2 ∷ []) ∷ CanWrite 2 ∷ Asked 2 text606 ∷ wait true (1 ∷ 2 ∷ []) [] ∷ CanRead 2 ∷ Got 2 text5 ∷ Noted (Taken 1 300 (Hit 0 0)) ∷ wait true (1 ∷ 2 ∷ []) (1 ∷ []) ∷ CanWrite 1 ∷ Said 1 154 text6 ∷ wait true (1 ∷ 2 ∷ []) [] ∷ CanRead 1 ∷ Heard 1 text607 ∷ Noted (Taken 1 301 Fetch) ∷ wait true (1 ∷ 2 ∷ []) (2 ∷ []) ∷ CanWrite 2 ∷ Asked 2 text608 ∷ wait true (1 ∷ 2 ∷ []) [] ∷ CanRead 2 ∷ Got 2 text5 ∷ Noted (Taken 1 301 (Hit 0 0)) ∷ wait true (1 ∷ 2 ∷ []) (1 ∷ []) ∷ CanWrite 1 ∷ Said 1 154 text6 ∷ wait true (1 ∷ 2 ∷ []) [] ∷ CanRead 1 ∷ Heard 1 text609 ∷ Noted (Taken 1 302 Fetch) ∷ wait true (1 ∷ 2 ∷ []) (2 ∷ []) ∷ CanWrite 2 ∷ Asked 2 text610 ∷ wait true (1 ∷ 2 ∷ []) [] ∷ CanRead 2 ∷ Got 2 text5 ∷ Noted (Taken 1 302 (Hit 0 0)) ∷ wait true (1 ∷ 2 ∷ []) (1 ∷ []) ∷ CanWrite 1 ∷ Said 1 154 text6 ∷ wait true (1 ∷ 2 ∷ []) [] ∷ CanRead 1 ∷ Heard 1 text611 ∷ Noted (Taken 1 303 Fetch) ∷ wait true (1 ∷ 2 ∷ []) (2 ∷ []) ∷ CanWrite 2 ∷ Asked 2 text612 ∷ wait true (1 ∷ 2 ∷ []) [] ∷ CanRead 2 ∷ Got 2 text5 ∷ Noted (Taken 1 303 (Hit 0 0)) ∷ wait true (1 ∷ 2 ∷ []) (1 ∷ []) ∷ CanWrite 1 ∷ Said 1 154 text6 ∷ wait true (1 ∷ 2 ∷ []) [] ∷ CanRead 1 ∷ Heard 1 text613 ∷ Noted (Taken 1 304 Fetch) ∷ wait true (1 ∷ 2 ∷ []) (2 ∷ []) ∷ CanWrite 2 ∷ Asked 2 text614 ∷ wait true (1 ∷ 2 ∷ []) [] ∷ CanRead 2 ∷ Got 2 text5 ∷ Noted (Taken 1 304 (Hit 0 0)) ∷ wait true (1 ∷ 2 ∷ []) (1 ∷ []) ∷ CanWrite 1 ∷ Said 1 154 text6 ∷ wait true (1 ∷ 2 ∷ []) [] ∷ CanRead 1 ∷ Heard 1 text615 ∷ Noted (Taken 1 305 Fetch) ∷ wait true (1 ∷ 2 ∷ []) (2 ∷ []) ∷ CanWrite 2 ∷ Asked 2 text616 ∷ wait true (1 ∷ 2 ∷ []) [] ∷ CanRead 2 ∷ Got 2 text5 ∷ Noted (Taken 1 305 (Hit 0 0)) ∷ wait true (1 ∷ 2 ∷ []) (1 ∷ []) ∷ CanWrite 1 ∷ Said 1 154 text6 ∷ wait true (1 ∷ 2 ∷ []) [] ∷ CanRead 1 ∷ Heard 1 text617 ∷ Noted (Taken 1 306 Fetch) ∷ wait true (1 ∷ 2 ∷ []) (2 ∷ []) ∷ CanWrite 2 ∷ Asked 2 text618 ∷ wait true (1 ∷ 2 ∷ []) [] ∷ CanRead 2 ∷ Got 2 text5 ∷ Noted (Taken 1 306 (Hit 0 0)) ∷ wait true (1 ∷ 2 ∷ []) (1 ∷ []) ∷ CanWrite 1 ∷ Said 1 154 text6 ∷ wait true (1 ∷ 2 ∷ []) [] ∷ CanRead 1 ∷ Heard 1 text619 ∷ Noted (Taken 1 307 Fetch) ∷ wait true (1 ∷ 2 ∷ []) (2 ∷ []) ∷ CanWrite 2 ∷ Asked 2 text620 ∷ wait true (1 ∷ 2 ∷ []) [] ∷ CanRead 2 ∷ Got 2 text5 ∷ Noted (Taken 1 307 (Hit 0 0)) ∷ []))
unfolding judging front0x16
front0x17 = (_, refl)

front0x18 : (s : State) × (arrived s ≡ judge 4320 front0x17.0 (wait true (1 ∷ 2 ∷ []) (1 ∷ []) ∷ CanWrite 1 ∷ Said 1 154 text6 ∷ wait true (1 ∷ 2 ∷ []) [] ∷ CanRead 1 ∷ Heard 1 text621 ∷ Noted (Taken 1 308 Fetch) ∷ wait true (1 ∷ 2 ∷ []) (2 ∷ []) ∷ CanWrite 2 ∷ Asked 2 text622 ∷ wait true (1 ∷ 2 ∷ []) [] ∷ CanRead 2 ∷ Got 2 text5 ∷ Noted (Taken 1 308 (Hit 0 0)) ∷ wait true (1 ∷ 2 ∷ []) (1 ∷ []) ∷ CanWrite 1 ∷ Said 1 154 text6 ∷ wait true (1 ∷ 2 ∷ []) [] ∷ CanRead 1 ∷ Heard 1 text623 ∷ Noted (Taken 1 309 Fetch) ∷ wait true (1 ∷ 2 ∷ []) (2 ∷ []) ∷ CanWrite 2 ∷ Asked 2 text624 ∷ wait true (1 ∷ 2 ∷ []) [] ∷ CanRead 2 ∷ Got 2 text5 ∷ Noted (Taken 1 309 (Hit 0 0)) ∷ wait true (1 ∷ 2 ∷ []) (1 ∷ []) ∷ CanWrite 1 ∷ Said 1 154 text6 ∷ wait true (1 ∷ 2 ∷ []) [] ∷ CanRead 1 ∷ Heard 1 text625 ∷ Noted (Taken 1 310 Fetch) ∷ wait true (1 ∷ 2 ∷ []) (2 ∷ []) ∷ CanWrite 2 ∷ Asked 2 text626 ∷ wait true (1 ∷ 2 ∷ []) [] ∷ CanRead 2 ∷ Got 2 text5 ∷ Noted (Taken 1 310 (Hit 0 0)) ∷ wait true (1 ∷ 2 ∷ []) (1 ∷ []) ∷ CanWrite 1 ∷ Said 1 154 text6 ∷ wait true (1 ∷ 2 ∷ []) [] ∷ CanRead 1 ∷ Heard 1 text627 ∷ Noted (Taken 1 311 Fetch) ∷ wait true (1 ∷ 2 ∷ []) (2 ∷ []) ∷ CanWrite 2 ∷ Asked 2 text628 ∷ wait true (1 ∷ 2 ∷ []) [] ∷ CanRead 2 ∷ Got 2 text5 ∷ Noted (Taken 1 311 (Hit 0 0)) ∷ wait true (1 ∷ 2 ∷ []) (1 ∷ []) ∷ CanWrite 1 ∷ Said 1 154 text6 ∷ wait true (1 ∷ 2 ∷ []) [] ∷ CanRead 1 ∷ Heard 1 text629 ∷ Noted (Taken 1 312 Fetch) ∷ wait true (1 ∷ 2 ∷ []) (2 ∷ []) ∷ CanWrite 2 ∷ Asked 2 text630 ∷ wait true (1 ∷ 2 ∷ []) [] ∷ CanRead 2 ∷ Got 2 text5 ∷ Noted (Taken 1 312 (Hit 0 0)) ∷ wait true (1 ∷ 2 ∷ []) (1 ∷ []) ∷ CanWrite 1 ∷ Said 1 154 text6 ∷ wait true (1 ∷ 2 ∷ []) [] ∷ CanRead 1 ∷ Heard 1 text631 ∷ Noted (Taken 1 313 Fetch) ∷ wait true (1 ∷ 2 ∷ []) (2 ∷ []) ∷ CanWrite 2 ∷ Asked 2 text632 ∷ wait true (1 ∷ 2 ∷ []) [] ∷ CanRead 2 ∷ Got 2 text5 ∷ Noted (Taken 1 313 (Hit 0 0)) ∷ wait true (1 ∷ 2 ∷ []) (1 ∷ []) ∷ CanWrite 1 ∷ Said 1 154 text6 ∷ wait true (1 ∷ 2 ∷ []) [] ∷ CanRead 1 ∷ Heard 1 text633 ∷ Noted (Taken 1 314 Fetch) ∷ wait true (1 ∷ 2 ∷ []) (2 ∷ []) ∷ CanWrite 2 ∷ Asked 2 text634 ∷ wait true (1 ∷ 2 ∷ []) [] ∷ CanRead 2 ∷ Got 2 text5 ∷ Noted (Taken 1 314 (Hit 0 0)) ∷ wait true (1 ∷ 2 ∷ []) (1 ∷ []) ∷ CanWrite 1 ∷ Said 1 154 text6 ∷ wait true (1 ∷ 2 ∷ []) [] ∷ CanRead 1 ∷ Heard 1 text635 ∷ Noted (Taken 1 315 Fetch) ∷ wait true (1 ∷ 2 ∷ []) (2 ∷ []) ∷ CanWrite 2 ∷ Asked 2 text636 ∷ wait true (1 ∷ 2 ∷ []) [] ∷ CanRead 2 ∷ Got 2 text5 ∷ Noted (Taken 1 315 (Hit 0 0)) ∷ wait true (1 ∷ 2 ∷ []) (1 ∷ []) ∷ CanWrite 1 ∷ Said 1 154 text6 ∷ wait true (1 ∷ 2 ∷ []) [] ∷ CanRead 1 ∷ Heard 1 text637 ∷ Noted (Taken 1 316 Fetch) ∷ wait true (1 ∷ 2 ∷ []) (2 ∷ []) ∷ CanWrite 2 ∷ Asked 2 text638 ∷ wait true (1 ∷ 2 ∷ []) [] ∷ CanRead 2 ∷ Got 2 text5 ∷ Noted (Taken 1 316 (Hit 0 0)) ∷ wait true (1 ∷ 2 ∷ []) (1 ∷ []) ∷ CanWrite 1 ∷ Said 1 154 text6 ∷ wait true (1 ∷ 2 ∷ []) [] ∷ CanRead 1 ∷ Heard 1 text639 ∷ Noted (Taken 1 317 Fetch) ∷ wait true (1 ∷ 2 ∷ []) (2 ∷ []) ∷ CanWrite 2 ∷ Asked 2 text640 ∷ wait true (1 ∷ 2 ∷ []) [] ∷ CanRead 2 ∷ Got 2 text5 ∷ Noted (Taken 1 317 (Hit 0 0)) ∷ wait true (1 ∷ 2 ∷ []) (1 ∷ []) ∷ CanWrite 1 ∷ Said 1 154 text6 ∷ wait true (1 ∷ 2 ∷ []) [] ∷ CanRead 1 ∷ Heard 1 text641 ∷ Noted (Taken 1 318 Fetch) ∷ wait true (1 ∷ 2 ∷ []) (2 ∷ []) ∷ CanWrite 2 ∷ Asked 2 text642 ∷ wait true (1 ∷ 2 ∷ []) [] ∷ CanRead 2 ∷ Got 2 text5 ∷ Noted (Taken 1 318 (Hit 0 0)) ∷ wait true (1 ∷ 2 ∷ []) (1 ∷ []) ∷ CanWrite 1 ∷ Said 1 154 text6 ∷ wait true (1 ∷ 2 ∷ []) [] ∷ CanRead 1 ∷ Heard 1 text643 ∷ Noted (Taken 1 319 Fetch) ∷ wait true (1 ∷ 2 ∷ []) (2 ∷ []) ∷ CanWrite 2 ∷ Asked 2 text644 ∷ wait true (1 ∷ 2 ∷ []) [] ∷ CanRead 2 ∷ Got 2 text5 ∷ Noted (Taken 1 319 (Hit 0 0)) ∷ wait true (1 ∷ 2 ∷ []) (1 ∷ []) ∷ CanWrite 1 ∷ Said 1 154 text6 ∷ wait true (1 ∷ 2 ∷ []) [] ∷ CanRead 1 ∷ Heard 1 text645 ∷ Noted (Taken 1 320 Fetch) ∷ wait true (1 ∷ 2 ∷ []) (2 ∷ []) ∷ CanWrite 2 ∷ Asked 2 text646 ∷ wait true (1 ∷ 2 ∷ []) [] ∷ CanRead 2 ∷ Got 2 text5 ∷ Noted (Taken 1 320 (Hit 0 0)) ∷ wait true (1 ∷ 2 ∷ []) (1 ∷ []) ∷ CanWrite 1 ∷ Said 1 154 text6 ∷ wait true (1 ∷ 2 ∷ []) [] ∷ CanRead 1 ∷ Heard 1 text647 ∷ Noted (Taken 1 321 Fetch) ∷ wait true (1 ∷ 2 ∷ []) (2 ∷ []) ∷ CanWrite 2 ∷ Asked 2 text648 ∷ wait true (1 ∷ 2 ∷ []) [] ∷ CanRead 2 ∷ Got 2 text5 ∷ Noted (Taken 1 321 (Hit 0 0)) ∷ wait true (1 ∷ 2 ∷ []) (1 ∷ []) ∷ CanWrite 1 ∷ Said 1 154 text6 ∷ wait true (1 ∷ 2 ∷ []) [] ∷ CanRead 1 ∷ Heard 1 text649 ∷ Noted (Taken 1 322 Fetch) ∷ wait true (1 ∷ 2 ∷ []) (2 ∷ []) ∷ CanWrite 2 ∷ Asked 2 text650 ∷ wait true (1 ∷ 2 ∷ []) [] ∷ CanRead 2 ∷ Got 2 text5 ∷ Noted (Taken 1 322 (Hit 0 0)) ∷ wait true (1 ∷ 2 ∷ []) (1 ∷ []) ∷ CanWrite 1 ∷ Said 1 154 text6 ∷ wait true (1 ∷ 2 ∷ []) [] ∷ CanRead 1 ∷ Heard 1 text651 ∷ Noted (Taken 1 323 Fetch) ∷ wait true (1 ∷ 2 ∷ []) (2 ∷ []) ∷ CanWrite 2 ∷ Asked 2 text652 ∷ wait true (1 ∷ 2 ∷ []) [] ∷ CanRead 2 ∷ Got 2 text5 ∷ Noted (Taken 1 323 (Hit 0 0)) ∷ wait true (1 ∷ 2 ∷ []) (1 ∷ []) ∷ CanWrite 1 ∷ Said 1 154 text6 ∷ wait true (1 ∷ 2 ∷ []) [] ∷ CanRead 1 ∷ Heard 1 text653 ∷ Noted (Taken 1 324 Fetch) ∷ wait true (1 ∷ 2 ∷ []) (2 ∷ []) ∷ CanWrite 2 ∷ Asked 2 text654 ∷ wait true (1 ∷ 2 ∷ []) [] ∷ CanRead 2 ∷ Got 2 text5 ∷ Noted (Taken 1 324 (Hit 0 0)) ∷ wait true (1 ∷ 2 ∷ []) (1 ∷ []) ∷ CanWrite 1 ∷ []))
unfolding judging front0x17
front0x18 = (_, refl)

front0x19 : (s : State) × (arrived s ≡ judge 4560 front0x18.0 (Said 1 154 text6 ∷ wait true (1 ∷ 2 ∷ []) [] ∷ CanRead 1 ∷ Heard 1 text655 ∷ Noted (Taken 1 325 Fetch) ∷ wait true (1 ∷ 2 ∷ []) (2 ∷ []) ∷ CanWrite 2 ∷ Asked 2 text656 ∷ wait true (1 ∷ 2 ∷ []) [] ∷ CanRead 2 ∷ Got 2 text5 ∷ Noted (Taken 1 325 (Hit 0 0)) ∷ wait true (1 ∷ 2 ∷ []) (1 ∷ []) ∷ CanWrite 1 ∷ Said 1 154 text6 ∷ wait true (1 ∷ 2 ∷ []) [] ∷ CanRead 1 ∷ Heard 1 text657 ∷ Noted (Taken 1 326 Fetch) ∷ wait true (1 ∷ 2 ∷ []) (2 ∷ []) ∷ CanWrite 2 ∷ Asked 2 text658 ∷ wait true (1 ∷ 2 ∷ []) [] ∷ CanRead 2 ∷ Got 2 text5 ∷ Noted (Taken 1 326 (Hit 0 0)) ∷ wait true (1 ∷ 2 ∷ []) (1 ∷ []) ∷ CanWrite 1 ∷ Said 1 154 text6 ∷ wait true (1 ∷ 2 ∷ []) [] ∷ CanRead 1 ∷ Heard 1 text659 ∷ Noted (Taken 1 327 Fetch) ∷ wait true (1 ∷ 2 ∷ []) (2 ∷ []) ∷ CanWrite 2 ∷ Asked 2 text660 ∷ wait true (1 ∷ 2 ∷ []) [] ∷ CanRead 2 ∷ Got 2 text5 ∷ Noted (Taken 1 327 (Hit 0 0)) ∷ wait true (1 ∷ 2 ∷ []) (1 ∷ []) ∷ CanWrite 1 ∷ Said 1 154 text6 ∷ wait true (1 ∷ 2 ∷ []) [] ∷ CanRead 1 ∷ Heard 1 text661 ∷ Noted (Taken 1 328 Fetch) ∷ wait true (1 ∷ 2 ∷ []) (2 ∷ []) ∷ CanWrite 2 ∷ Asked 2 text662 ∷ wait true (1 ∷ 2 ∷ []) [] ∷ CanRead 2 ∷ Got 2 text5 ∷ Noted (Taken 1 328 (Hit 0 0)) ∷ wait true (1 ∷ 2 ∷ []) (1 ∷ []) ∷ CanWrite 1 ∷ Said 1 154 text6 ∷ wait true (1 ∷ 2 ∷ []) [] ∷ CanRead 1 ∷ Heard 1 text663 ∷ Noted (Taken 1 329 Fetch) ∷ wait true (1 ∷ 2 ∷ []) (2 ∷ []) ∷ CanWrite 2 ∷ Asked 2 text664 ∷ wait true (1 ∷ 2 ∷ []) [] ∷ CanRead 2 ∷ Got 2 text5 ∷ Noted (Taken 1 329 (Hit 0 0)) ∷ wait true (1 ∷ 2 ∷ []) (1 ∷ []) ∷ CanWrite 1 ∷ Said 1 154 text6 ∷ wait true (1 ∷ 2 ∷ []) [] ∷ CanRead 1 ∷ Heard 1 text665 ∷ Noted (Taken 1 330 Fetch) ∷ wait true (1 ∷ 2 ∷ []) (2 ∷ []) ∷ CanWrite 2 ∷ Asked 2 text666 ∷ wait true (1 ∷ 2 ∷ []) [] ∷ CanRead 2 ∷ Got 2 text5 ∷ Noted (Taken 1 330 (Hit 0 0)) ∷ wait true (1 ∷ 2 ∷ []) (1 ∷ []) ∷ CanWrite 1 ∷ Said 1 154 text6 ∷ wait true (1 ∷ 2 ∷ []) [] ∷ CanRead 1 ∷ Heard 1 text667 ∷ Noted (Taken 1 331 Fetch) ∷ wait true (1 ∷ 2 ∷ []) (2 ∷ []) ∷ CanWrite 2 ∷ Asked 2 text668 ∷ wait true (1 ∷ 2 ∷ []) [] ∷ CanRead 2 ∷ Got 2 text5 ∷ Noted (Taken 1 331 (Hit 0 0)) ∷ wait true (1 ∷ 2 ∷ []) (1 ∷ []) ∷ CanWrite 1 ∷ Said 1 154 text6 ∷ wait true (1 ∷ 2 ∷ []) [] ∷ CanRead 1 ∷ Heard 1 text669 ∷ Noted (Taken 1 332 Fetch) ∷ wait true (1 ∷ 2 ∷ []) (2 ∷ []) ∷ CanWrite 2 ∷ Asked 2 text670 ∷ wait true (1 ∷ 2 ∷ []) [] ∷ CanRead 2 ∷ Got 2 text5 ∷ Noted (Taken 1 332 (Hit 0 0)) ∷ wait true (1 ∷ 2 ∷ []) (1 ∷ []) ∷ CanWrite 1 ∷ Said 1 154 text6 ∷ wait true (1 ∷ 2 ∷ []) [] ∷ CanRead 1 ∷ Heard 1 text671 ∷ Noted (Taken 1 333 Fetch) ∷ wait true (1 ∷ 2 ∷ []) (2 ∷ []) ∷ CanWrite 2 ∷ Asked 2 text672 ∷ wait true (1 ∷ 2 ∷ []) [] ∷ CanRead 2 ∷ Got 2 text5 ∷ Noted (Taken 1 333 (Hit 0 0)) ∷ wait true (1 ∷ 2 ∷ []) (1 ∷ []) ∷ CanWrite 1 ∷ Said 1 154 text6 ∷ wait true (1 ∷ 2 ∷ []) [] ∷ CanRead 1 ∷ Heard 1 text673 ∷ Noted (Taken 1 334 Fetch) ∷ wait true (1 ∷ 2 ∷ []) (2 ∷ []) ∷ CanWrite 2 ∷ Asked 2 text674 ∷ wait true (1 ∷ 2 ∷ []) [] ∷ CanRead 2 ∷ Got 2 text5 ∷ Noted (Taken 1 334 (Hit 0 0)) ∷ wait true (1 ∷ 2 ∷ []) (1 ∷ []) ∷ CanWrite 1 ∷ Said 1 154 text6 ∷ wait true (1 ∷ 2 ∷ []) [] ∷ CanRead 1 ∷ Heard 1 text675 ∷ Noted (Taken 1 335 Fetch) ∷ wait true (1 ∷ 2 ∷ []) (2 ∷ []) ∷ CanWrite 2 ∷ Asked 2 text676 ∷ wait true (1 ∷ 2 ∷ []) [] ∷ CanRead 2 ∷ Got 2 text5 ∷ Noted (Taken 1 335 (Hit 0 0)) ∷ wait true (1 ∷ 2 ∷ []) (1 ∷ []) ∷ CanWrite 1 ∷ Said 1 154 text6 ∷ wait true (1 ∷ 2 ∷ []) [] ∷ CanRead 1 ∷ Heard 1 text677 ∷ Noted (Taken 1 336 Fetch) ∷ wait true (1 ∷ 2 ∷ []) (2 ∷ []) ∷ CanWrite 2 ∷ Asked 2 text678 ∷ wait true (1 ∷ 2 ∷ []) [] ∷ CanRead 2 ∷ Got 2 text5 ∷ Noted (Taken 1 336 (Hit 0 0)) ∷ wait true (1 ∷ 2 ∷ []) (1 ∷ []) ∷ CanWrite 1 ∷ Said 1 154 text6 ∷ wait true (1 ∷ 2 ∷ []) [] ∷ CanRead 1 ∷ Heard 1 text679 ∷ Noted (Taken 1 337 Fetch) ∷ wait true (1 ∷ 2 ∷ []) (2 ∷ []) ∷ CanWrite 2 ∷ Asked 2 text680 ∷ wait true (1 ∷ 2 ∷ []) [] ∷ CanRead 2 ∷ Got 2 text5 ∷ Noted (Taken 1 337 (Hit 0 0)) ∷ wait true (1 ∷ 2 ∷ []) (1 ∷ []) ∷ CanWrite 1 ∷ Said 1 154 text6 ∷ wait true (1 ∷ 2 ∷ []) [] ∷ CanRead 1 ∷ Heard 1 text681 ∷ Noted (Taken 1 338 Fetch) ∷ wait true (1 ∷ 2 ∷ []) (2 ∷ []) ∷ CanWrite 2 ∷ Asked 2 text682 ∷ wait true (1 ∷ 2 ∷ []) [] ∷ CanRead 2 ∷ Got 2 text5 ∷ Noted (Taken 1 338 (Hit 0 0)) ∷ wait true (1 ∷ 2 ∷ []) (1 ∷ []) ∷ CanWrite 1 ∷ Said 1 154 text6 ∷ wait true (1 ∷ 2 ∷ []) [] ∷ CanRead 1 ∷ Heard 1 text683 ∷ Noted (Taken 1 339 Fetch) ∷ wait true (1 ∷ 2 ∷ []) (2 ∷ []) ∷ CanWrite 2 ∷ Asked 2 text684 ∷ wait true (1 ∷ 2 ∷ []) [] ∷ CanRead 2 ∷ Got 2 text5 ∷ Noted (Taken 1 339 (Hit 0 0)) ∷ wait true (1 ∷ 2 ∷ []) (1 ∷ []) ∷ CanWrite 1 ∷ Said 1 154 text6 ∷ wait true (1 ∷ 2 ∷ []) [] ∷ CanRead 1 ∷ Heard 1 text685 ∷ Noted (Taken 1 340 Fetch) ∷ wait true (1 ∷ 2 ∷ []) (2 ∷ []) ∷ CanWrite 2 ∷ Asked 2 text686 ∷ wait true (1 ∷ 2 ∷ []) [] ∷ CanRead 2 ∷ Got 2 text5 ∷ Noted (Taken 1 340 (Hit 0 0)) ∷ wait true (1 ∷ 2 ∷ []) (1 ∷ []) ∷ CanWrite 1 ∷ Said 1 154 text6 ∷ wait true (1 ∷ 2 ∷ []) [] ∷ CanRead 1 ∷ Heard 1 text687 ∷ Noted (Taken 1 341 Fetch) ∷ wait true (1 ∷ 2 ∷ []) (2 ∷ []) ∷ CanWrite 2 ∷ Asked 2 text688 ∷ wait true (1 ∷ 2 ∷ []) [] ∷ CanRead 2 ∷ Got 2 text5 ∷ Noted (Taken 1 341 (Hit 0 0)) ∷ wait true (1 ∷ 2 ∷ []) (1 ∷ []) ∷ CanWrite 1 ∷ Said 1 154 text6 ∷ wait true (1 ∷ 2 ∷ []) [] ∷ []))
unfolding judging front0x18
front0x19 = (_, refl)

front0x20 : (s : State) × (arrived s ≡ judge 4800 front0x19.0 (CanRead 1 ∷ Heard 1 text689 ∷ Noted (Taken 1 342 Fetch) ∷ wait true (1 ∷ 2 ∷ []) (2 ∷ []) ∷ CanWrite 2 ∷ Asked 2 text690 ∷ wait true (1 ∷ 2 ∷ []) [] ∷ CanRead 2 ∷ Got 2 text5 ∷ Noted (Taken 1 342 (Hit 0 0)) ∷ wait true (1 ∷ 2 ∷ []) (1 ∷ []) ∷ CanWrite 1 ∷ Said 1 154 text6 ∷ wait true (1 ∷ 2 ∷ []) [] ∷ CanRead 1 ∷ Heard 1 text691 ∷ Noted (Taken 1 343 Fetch) ∷ wait true (1 ∷ 2 ∷ []) (2 ∷ []) ∷ CanWrite 2 ∷ Asked 2 text692 ∷ wait true (1 ∷ 2 ∷ []) [] ∷ CanRead 2 ∷ Got 2 text5 ∷ Noted (Taken 1 343 (Hit 0 0)) ∷ wait true (1 ∷ 2 ∷ []) (1 ∷ []) ∷ CanWrite 1 ∷ Said 1 154 text6 ∷ wait true (1 ∷ 2 ∷ []) [] ∷ CanRead 1 ∷ Heard 1 text693 ∷ Noted (Taken 1 344 Fetch) ∷ wait true (1 ∷ 2 ∷ []) (2 ∷ []) ∷ CanWrite 2 ∷ Asked 2 text694 ∷ wait true (1 ∷ 2 ∷ []) [] ∷ CanRead 2 ∷ Got 2 text5 ∷ Noted (Taken 1 344 (Hit 0 0)) ∷ wait true (1 ∷ 2 ∷ []) (1 ∷ []) ∷ CanWrite 1 ∷ Said 1 154 text6 ∷ wait true (1 ∷ 2 ∷ []) [] ∷ CanRead 1 ∷ Heard 1 text695 ∷ Noted (Taken 1 345 Fetch) ∷ wait true (1 ∷ 2 ∷ []) (2 ∷ []) ∷ CanWrite 2 ∷ Asked 2 text696 ∷ wait true (1 ∷ 2 ∷ []) [] ∷ CanRead 2 ∷ Got 2 text5 ∷ Noted (Taken 1 345 (Hit 0 0)) ∷ wait true (1 ∷ 2 ∷ []) (1 ∷ []) ∷ CanWrite 1 ∷ Said 1 154 text6 ∷ wait true (1 ∷ 2 ∷ []) [] ∷ CanRead 1 ∷ Heard 1 text697 ∷ Noted (Taken 1 346 Fetch) ∷ wait true (1 ∷ 2 ∷ []) (2 ∷ []) ∷ CanWrite 2 ∷ Asked 2 text698 ∷ wait true (1 ∷ 2 ∷ []) [] ∷ CanRead 2 ∷ Got 2 text5 ∷ Noted (Taken 1 346 (Hit 0 0)) ∷ wait true (1 ∷ 2 ∷ []) (1 ∷ []) ∷ CanWrite 1 ∷ Said 1 154 text6 ∷ wait true (1 ∷ 2 ∷ []) [] ∷ CanRead 1 ∷ Heard 1 text699 ∷ Noted (Taken 1 347 Fetch) ∷ wait true (1 ∷ 2 ∷ []) (2 ∷ []) ∷ CanWrite 2 ∷ Asked 2 text700 ∷ wait true (1 ∷ 2 ∷ []) [] ∷ CanRead 2 ∷ Got 2 text5 ∷ Noted (Taken 1 347 (Hit 0 0)) ∷ wait true (1 ∷ 2 ∷ []) (1 ∷ []) ∷ CanWrite 1 ∷ Said 1 154 text6 ∷ wait true (1 ∷ 2 ∷ []) [] ∷ CanRead 1 ∷ Heard 1 text701 ∷ Noted (Taken 1 348 Fetch) ∷ wait true (1 ∷ 2 ∷ []) (2 ∷ []) ∷ CanWrite 2 ∷ Asked 2 text702 ∷ wait true (1 ∷ 2 ∷ []) [] ∷ CanRead 2 ∷ Got 2 text5 ∷ Noted (Taken 1 348 (Hit 0 0)) ∷ wait true (1 ∷ 2 ∷ []) (1 ∷ []) ∷ CanWrite 1 ∷ Said 1 154 text6 ∷ wait true (1 ∷ 2 ∷ []) [] ∷ CanRead 1 ∷ Heard 1 text703 ∷ Noted (Taken 1 349 Fetch) ∷ wait true (1 ∷ 2 ∷ []) (2 ∷ []) ∷ CanWrite 2 ∷ Asked 2 text704 ∷ wait true (1 ∷ 2 ∷ []) [] ∷ CanRead 2 ∷ Got 2 text5 ∷ Noted (Taken 1 349 (Hit 0 0)) ∷ wait true (1 ∷ 2 ∷ []) (1 ∷ []) ∷ CanWrite 1 ∷ Said 1 154 text6 ∷ wait true (1 ∷ 2 ∷ []) [] ∷ CanRead 1 ∷ Heard 1 text705 ∷ Noted (Taken 1 350 Fetch) ∷ wait true (1 ∷ 2 ∷ []) (2 ∷ []) ∷ CanWrite 2 ∷ Asked 2 text706 ∷ wait true (1 ∷ 2 ∷ []) [] ∷ CanRead 2 ∷ Got 2 text5 ∷ Noted (Taken 1 350 (Hit 0 0)) ∷ wait true (1 ∷ 2 ∷ []) (1 ∷ []) ∷ CanWrite 1 ∷ Said 1 154 text6 ∷ wait true (1 ∷ 2 ∷ []) [] ∷ CanRead 1 ∷ Heard 1 text707 ∷ Noted (Taken 1 351 Fetch) ∷ wait true (1 ∷ 2 ∷ []) (2 ∷ []) ∷ CanWrite 2 ∷ Asked 2 text708 ∷ wait true (1 ∷ 2 ∷ []) [] ∷ CanRead 2 ∷ Got 2 text5 ∷ Noted (Taken 1 351 (Hit 0 0)) ∷ wait true (1 ∷ 2 ∷ []) (1 ∷ []) ∷ CanWrite 1 ∷ Said 1 154 text6 ∷ wait true (1 ∷ 2 ∷ []) [] ∷ CanRead 1 ∷ Heard 1 text709 ∷ Noted (Taken 1 352 Fetch) ∷ wait true (1 ∷ 2 ∷ []) (2 ∷ []) ∷ CanWrite 2 ∷ Asked 2 text710 ∷ wait true (1 ∷ 2 ∷ []) [] ∷ CanRead 2 ∷ Got 2 text5 ∷ Noted (Taken 1 352 (Hit 0 0)) ∷ wait true (1 ∷ 2 ∷ []) (1 ∷ []) ∷ CanWrite 1 ∷ Said 1 154 text6 ∷ wait true (1 ∷ 2 ∷ []) [] ∷ CanRead 1 ∷ Heard 1 text711 ∷ Noted (Taken 1 353 Fetch) ∷ wait true (1 ∷ 2 ∷ []) (2 ∷ []) ∷ CanWrite 2 ∷ Asked 2 text712 ∷ wait true (1 ∷ 2 ∷ []) [] ∷ CanRead 2 ∷ Got 2 text5 ∷ Noted (Taken 1 353 (Hit 0 0)) ∷ wait true (1 ∷ 2 ∷ []) (1 ∷ []) ∷ CanWrite 1 ∷ Said 1 154 text6 ∷ wait true (1 ∷ 2 ∷ []) [] ∷ CanRead 1 ∷ Heard 1 text713 ∷ Noted (Taken 1 354 Fetch) ∷ wait true (1 ∷ 2 ∷ []) (2 ∷ []) ∷ CanWrite 2 ∷ Asked 2 text714 ∷ wait true (1 ∷ 2 ∷ []) [] ∷ CanRead 2 ∷ Got 2 text5 ∷ Noted (Taken 1 354 (Hit 0 0)) ∷ wait true (1 ∷ 2 ∷ []) (1 ∷ []) ∷ CanWrite 1 ∷ Said 1 154 text6 ∷ wait true (1 ∷ 2 ∷ []) [] ∷ CanRead 1 ∷ Heard 1 text715 ∷ Noted (Taken 1 355 Fetch) ∷ wait true (1 ∷ 2 ∷ []) (2 ∷ []) ∷ CanWrite 2 ∷ Asked 2 text716 ∷ wait true (1 ∷ 2 ∷ []) [] ∷ CanRead 2 ∷ Got 2 text5 ∷ Noted (Taken 1 355 (Hit 0 0)) ∷ wait true (1 ∷ 2 ∷ []) (1 ∷ []) ∷ CanWrite 1 ∷ Said 1 154 text6 ∷ wait true (1 ∷ 2 ∷ []) [] ∷ CanRead 1 ∷ Heard 1 text717 ∷ Noted (Taken 1 356 Fetch) ∷ wait true (1 ∷ 2 ∷ []) (2 ∷ []) ∷ CanWrite 2 ∷ Asked 2 text718 ∷ wait true (1 ∷ 2 ∷ []) [] ∷ CanRead 2 ∷ Got 2 text5 ∷ Noted (Taken 1 356 (Hit 0 0)) ∷ wait true (1 ∷ 2 ∷ []) (1 ∷ []) ∷ CanWrite 1 ∷ Said 1 154 text6 ∷ wait true (1 ∷ 2 ∷ []) [] ∷ CanRead 1 ∷ Heard 1 text719 ∷ Noted (Taken 1 357 Fetch) ∷ wait true (1 ∷ 2 ∷ []) (2 ∷ []) ∷ CanWrite 2 ∷ Asked 2 text720 ∷ wait true (1 ∷ 2 ∷ []) [] ∷ CanRead 2 ∷ Got 2 text5 ∷ Noted (Taken 1 357 (Hit 0 0)) ∷ wait true (1 ∷ 2 ∷ []) (1 ∷ []) ∷ CanWrite 1 ∷ Said 1 154 text6 ∷ wait true (1 ∷ 2 ∷ []) [] ∷ CanRead 1 ∷ Heard 1 text721 ∷ Noted (Taken 1 358 Fetch) ∷ wait true (1 ∷ 2 ∷ []) (2 ∷ []) ∷ CanWrite 2 ∷ Asked 2 text722 ∷ wait true (1 ∷ 2 ∷ []) [] ∷ CanRead 2 ∷ Got 2 text5 ∷ Noted (Taken 1 358 (Hit 0 0)) ∷ wait true (1 ∷ 2 ∷ []) (1 ∷ []) ∷ CanWrite 1 ∷ Said 1 154 text6 ∷ wait true (1 ∷ 2 ∷ []) [] ∷ CanRead 1 ∷ Heard 1 text723 ∷ []))
unfolding judging front0x19
front0x20 = (_, refl)

front0x21 : (s : State) × (arrived s ≡ judge 5040 front0x20.0 (Noted (Taken 1 359 Fetch) ∷ wait true (1 ∷ 2 ∷ []) (2 ∷ []) ∷ CanWrite 2 ∷ Asked 2 text724 ∷ wait true (1 ∷ 2 ∷ []) [] ∷ CanRead 2 ∷ Got 2 text5 ∷ Noted (Taken 1 359 (Hit 0 0)) ∷ wait true (1 ∷ 2 ∷ []) (1 ∷ []) ∷ CanWrite 1 ∷ Said 1 154 text6 ∷ wait true (1 ∷ 2 ∷ []) [] ∷ CanRead 1 ∷ Heard 1 text725 ∷ Noted (Taken 1 360 Fetch) ∷ wait true (1 ∷ 2 ∷ []) (2 ∷ []) ∷ CanWrite 2 ∷ Asked 2 text726 ∷ wait true (1 ∷ 2 ∷ []) [] ∷ CanRead 2 ∷ Got 2 text5 ∷ Noted (Taken 1 360 (Hit 0 0)) ∷ wait true (1 ∷ 2 ∷ []) (1 ∷ []) ∷ CanWrite 1 ∷ Said 1 154 text6 ∷ wait true (1 ∷ 2 ∷ []) [] ∷ CanRead 1 ∷ Heard 1 text727 ∷ Noted (Taken 1 361 Fetch) ∷ wait true (1 ∷ 2 ∷ []) (2 ∷ []) ∷ CanWrite 2 ∷ Asked 2 text728 ∷ wait true (1 ∷ 2 ∷ []) [] ∷ CanRead 2 ∷ Got 2 text5 ∷ Noted (Taken 1 361 (Hit 0 0)) ∷ wait true (1 ∷ 2 ∷ []) (1 ∷ []) ∷ CanWrite 1 ∷ Said 1 154 text6 ∷ wait true (1 ∷ 2 ∷ []) [] ∷ CanRead 1 ∷ Heard 1 text729 ∷ Noted (Taken 1 362 Fetch) ∷ wait true (1 ∷ 2 ∷ []) (2 ∷ []) ∷ CanWrite 2 ∷ Asked 2 text730 ∷ wait true (1 ∷ 2 ∷ []) [] ∷ CanRead 2 ∷ Got 2 text5 ∷ Noted (Taken 1 362 (Hit 0 0)) ∷ wait true (1 ∷ 2 ∷ []) (1 ∷ []) ∷ CanWrite 1 ∷ Said 1 154 text6 ∷ wait true (1 ∷ 2 ∷ []) [] ∷ CanRead 1 ∷ Heard 1 text731 ∷ Noted (Taken 1 363 Fetch) ∷ wait true (1 ∷ 2 ∷ []) (2 ∷ []) ∷ CanWrite 2 ∷ Asked 2 text732 ∷ wait true (1 ∷ 2 ∷ []) [] ∷ CanRead 2 ∷ Got 2 text5 ∷ Noted (Taken 1 363 (Hit 0 0)) ∷ wait true (1 ∷ 2 ∷ []) (1 ∷ []) ∷ CanWrite 1 ∷ Said 1 154 text6 ∷ wait true (1 ∷ 2 ∷ []) [] ∷ CanRead 1 ∷ Heard 1 text733 ∷ Noted (Taken 1 364 Fetch) ∷ wait true (1 ∷ 2 ∷ []) (2 ∷ []) ∷ CanWrite 2 ∷ Asked 2 text734 ∷ wait true (1 ∷ 2 ∷ []) [] ∷ CanRead 2 ∷ Got 2 text5 ∷ Noted (Taken 1 364 (Hit 0 0)) ∷ wait true (1 ∷ 2 ∷ []) (1 ∷ []) ∷ CanWrite 1 ∷ Said 1 154 text6 ∷ wait true (1 ∷ 2 ∷ []) [] ∷ CanRead 1 ∷ Heard 1 text735 ∷ Noted (Taken 1 365 Fetch) ∷ wait true (1 ∷ 2 ∷ []) (2 ∷ []) ∷ CanWrite 2 ∷ Asked 2 text736 ∷ wait true (1 ∷ 2 ∷ []) [] ∷ CanRead 2 ∷ Got 2 text5 ∷ Noted (Taken 1 365 (Hit 0 0)) ∷ wait true (1 ∷ 2 ∷ []) (1 ∷ []) ∷ CanWrite 1 ∷ Said 1 154 text6 ∷ wait true (1 ∷ 2 ∷ []) [] ∷ CanRead 1 ∷ Heard 1 text737 ∷ Noted (Taken 1 366 Fetch) ∷ wait true (1 ∷ 2 ∷ []) (2 ∷ []) ∷ CanWrite 2 ∷ Asked 2 text738 ∷ wait true (1 ∷ 2 ∷ []) [] ∷ CanRead 2 ∷ Got 2 text5 ∷ Noted (Taken 1 366 (Hit 0 0)) ∷ wait true (1 ∷ 2 ∷ []) (1 ∷ []) ∷ CanWrite 1 ∷ Said 1 154 text6 ∷ wait true (1 ∷ 2 ∷ []) [] ∷ CanRead 1 ∷ Heard 1 text739 ∷ Noted (Taken 1 367 Fetch) ∷ wait true (1 ∷ 2 ∷ []) (2 ∷ []) ∷ CanWrite 2 ∷ Asked 2 text740 ∷ wait true (1 ∷ 2 ∷ []) [] ∷ CanRead 2 ∷ Got 2 text5 ∷ Noted (Taken 1 367 (Hit 0 0)) ∷ wait true (1 ∷ 2 ∷ []) (1 ∷ []) ∷ CanWrite 1 ∷ Said 1 154 text6 ∷ wait true (1 ∷ 2 ∷ []) [] ∷ CanRead 1 ∷ Heard 1 text741 ∷ Noted (Taken 1 368 Fetch) ∷ wait true (1 ∷ 2 ∷ []) (2 ∷ []) ∷ CanWrite 2 ∷ Asked 2 text742 ∷ wait true (1 ∷ 2 ∷ []) [] ∷ CanRead 2 ∷ Got 2 text5 ∷ Noted (Taken 1 368 (Hit 0 0)) ∷ wait true (1 ∷ 2 ∷ []) (1 ∷ []) ∷ CanWrite 1 ∷ Said 1 154 text6 ∷ wait true (1 ∷ 2 ∷ []) [] ∷ CanRead 1 ∷ Heard 1 text743 ∷ Noted (Taken 1 369 Fetch) ∷ wait true (1 ∷ 2 ∷ []) (2 ∷ []) ∷ CanWrite 2 ∷ Asked 2 text744 ∷ wait true (1 ∷ 2 ∷ []) [] ∷ CanRead 2 ∷ Got 2 text5 ∷ Noted (Taken 1 369 (Hit 0 0)) ∷ wait true (1 ∷ 2 ∷ []) (1 ∷ []) ∷ CanWrite 1 ∷ Said 1 154 text6 ∷ wait true (1 ∷ 2 ∷ []) [] ∷ CanRead 1 ∷ Heard 1 text745 ∷ Noted (Taken 1 370 Fetch) ∷ wait true (1 ∷ 2 ∷ []) (2 ∷ []) ∷ CanWrite 2 ∷ Asked 2 text746 ∷ wait true (1 ∷ 2 ∷ []) [] ∷ CanRead 2 ∷ Got 2 text5 ∷ Noted (Taken 1 370 (Hit 0 0)) ∷ wait true (1 ∷ 2 ∷ []) (1 ∷ []) ∷ CanWrite 1 ∷ Said 1 154 text6 ∷ wait true (1 ∷ 2 ∷ []) [] ∷ CanRead 1 ∷ Heard 1 text747 ∷ Noted (Taken 1 371 Fetch) ∷ wait true (1 ∷ 2 ∷ []) (2 ∷ []) ∷ CanWrite 2 ∷ Asked 2 text748 ∷ wait true (1 ∷ 2 ∷ []) [] ∷ CanRead 2 ∷ Got 2 text5 ∷ Noted (Taken 1 371 (Hit 0 0)) ∷ wait true (1 ∷ 2 ∷ []) (1 ∷ []) ∷ CanWrite 1 ∷ Said 1 154 text6 ∷ wait true (1 ∷ 2 ∷ []) [] ∷ CanRead 1 ∷ Heard 1 text749 ∷ Noted (Taken 1 372 Fetch) ∷ wait true (1 ∷ 2 ∷ []) (2 ∷ []) ∷ CanWrite 2 ∷ Asked 2 text750 ∷ wait true (1 ∷ 2 ∷ []) [] ∷ CanRead 2 ∷ Got 2 text5 ∷ Noted (Taken 1 372 (Hit 0 0)) ∷ wait true (1 ∷ 2 ∷ []) (1 ∷ []) ∷ CanWrite 1 ∷ Said 1 154 text6 ∷ wait true (1 ∷ 2 ∷ []) [] ∷ CanRead 1 ∷ Heard 1 text751 ∷ Noted (Taken 1 373 Fetch) ∷ wait true (1 ∷ 2 ∷ []) (2 ∷ []) ∷ CanWrite 2 ∷ Asked 2 text752 ∷ wait true (1 ∷ 2 ∷ []) [] ∷ CanRead 2 ∷ Got 2 text5 ∷ Noted (Taken 1 373 (Hit 0 0)) ∷ wait true (1 ∷ 2 ∷ []) (1 ∷ []) ∷ CanWrite 1 ∷ Said 1 154 text6 ∷ wait true (1 ∷ 2 ∷ []) [] ∷ CanRead 1 ∷ Heard 1 text753 ∷ Noted (Taken 1 374 Fetch) ∷ wait true (1 ∷ 2 ∷ []) (2 ∷ []) ∷ CanWrite 2 ∷ Asked 2 text754 ∷ wait true (1 ∷ 2 ∷ []) [] ∷ CanRead 2 ∷ Got 2 text5 ∷ Noted (Taken 1 374 (Hit 0 0)) ∷ wait true (1 ∷ 2 ∷ []) (1 ∷ []) ∷ CanWrite 1 ∷ Said 1 154 text6 ∷ wait true (1 ∷ 2 ∷ []) [] ∷ CanRead 1 ∷ Heard 1 text755 ∷ Noted (Taken 1 375 Fetch) ∷ wait true (1 ∷ 2 ∷ []) (2 ∷ []) ∷ CanWrite 2 ∷ Asked 2 text756 ∷ wait true (1 ∷ 2 ∷ []) [] ∷ CanRead 2 ∷ Got 2 text5 ∷ Noted (Taken 1 375 (Hit 0 0)) ∷ wait true (1 ∷ 2 ∷ []) (1 ∷ []) ∷ CanWrite 1 ∷ Said 1 154 text6 ∷ wait true (1 ∷ 2 ∷ []) [] ∷ CanRead 1 ∷ Heard 1 text757 ∷ Noted (Taken 1 376 Fetch) ∷ wait true (1 ∷ 2 ∷ []) (2 ∷ []) ∷ []))
unfolding judging front0x20
front0x21 = (_, refl)

front0x22 : (s : State) × (arrived s ≡ judge 5280 front0x21.0 (CanWrite 2 ∷ Asked 2 text758 ∷ wait true (1 ∷ 2 ∷ []) [] ∷ CanRead 2 ∷ Got 2 text5 ∷ Noted (Taken 1 376 (Hit 0 0)) ∷ wait true (1 ∷ 2 ∷ []) (1 ∷ []) ∷ CanWrite 1 ∷ Said 1 154 text6 ∷ wait true (1 ∷ 2 ∷ []) [] ∷ CanRead 1 ∷ Heard 1 text759 ∷ Noted (Taken 1 377 Fetch) ∷ wait true (1 ∷ 2 ∷ []) (2 ∷ []) ∷ CanWrite 2 ∷ Asked 2 text760 ∷ wait true (1 ∷ 2 ∷ []) [] ∷ CanRead 2 ∷ Got 2 text5 ∷ Noted (Taken 1 377 (Hit 0 0)) ∷ wait true (1 ∷ 2 ∷ []) (1 ∷ []) ∷ CanWrite 1 ∷ Said 1 154 text6 ∷ wait true (1 ∷ 2 ∷ []) [] ∷ CanRead 1 ∷ Heard 1 text761 ∷ Noted (Taken 1 378 Fetch) ∷ wait true (1 ∷ 2 ∷ []) (2 ∷ []) ∷ CanWrite 2 ∷ Asked 2 text762 ∷ wait true (1 ∷ 2 ∷ []) [] ∷ CanRead 2 ∷ Got 2 text5 ∷ Noted (Taken 1 378 (Hit 0 0)) ∷ wait true (1 ∷ 2 ∷ []) (1 ∷ []) ∷ CanWrite 1 ∷ Said 1 154 text6 ∷ wait true (1 ∷ 2 ∷ []) [] ∷ CanRead 1 ∷ Heard 1 text763 ∷ Noted (Taken 1 379 Fetch) ∷ wait true (1 ∷ 2 ∷ []) (2 ∷ []) ∷ CanWrite 2 ∷ Asked 2 text764 ∷ wait true (1 ∷ 2 ∷ []) [] ∷ CanRead 2 ∷ Got 2 text5 ∷ Noted (Taken 1 379 (Hit 0 0)) ∷ wait true (1 ∷ 2 ∷ []) (1 ∷ []) ∷ CanWrite 1 ∷ Said 1 154 text6 ∷ wait true (1 ∷ 2 ∷ []) [] ∷ CanRead 1 ∷ Heard 1 text765 ∷ Noted (Taken 1 380 Fetch) ∷ wait true (1 ∷ 2 ∷ []) (2 ∷ []) ∷ CanWrite 2 ∷ Asked 2 text766 ∷ wait true (1 ∷ 2 ∷ []) [] ∷ CanRead 2 ∷ Got 2 text5 ∷ Noted (Taken 1 380 (Hit 0 0)) ∷ wait true (1 ∷ 2 ∷ []) (1 ∷ []) ∷ CanWrite 1 ∷ Said 1 154 text6 ∷ wait true (1 ∷ 2 ∷ []) [] ∷ CanRead 1 ∷ Heard 1 text767 ∷ Noted (Taken 1 381 Fetch) ∷ wait true (1 ∷ 2 ∷ []) (2 ∷ []) ∷ CanWrite 2 ∷ Asked 2 text768 ∷ wait true (1 ∷ 2 ∷ []) [] ∷ CanRead 2 ∷ Got 2 text5 ∷ Noted (Taken 1 381 (Hit 0 0)) ∷ wait true (1 ∷ 2 ∷ []) (1 ∷ []) ∷ CanWrite 1 ∷ Said 1 154 text6 ∷ wait true (1 ∷ 2 ∷ []) [] ∷ CanRead 1 ∷ Heard 1 text769 ∷ Noted (Taken 1 382 Fetch) ∷ wait true (1 ∷ 2 ∷ []) (2 ∷ []) ∷ CanWrite 2 ∷ Asked 2 text770 ∷ wait true (1 ∷ 2 ∷ []) [] ∷ CanRead 2 ∷ Got 2 text5 ∷ Noted (Taken 1 382 (Hit 0 0)) ∷ wait true (1 ∷ 2 ∷ []) (1 ∷ []) ∷ CanWrite 1 ∷ Said 1 154 text6 ∷ wait true (1 ∷ 2 ∷ []) [] ∷ CanRead 1 ∷ Heard 1 text771 ∷ Noted (Taken 1 383 Fetch) ∷ wait true (1 ∷ 2 ∷ []) (2 ∷ []) ∷ CanWrite 2 ∷ Asked 2 text772 ∷ wait true (1 ∷ 2 ∷ []) [] ∷ CanRead 2 ∷ Got 2 text5 ∷ Noted (Taken 1 383 (Hit 0 0)) ∷ wait true (1 ∷ 2 ∷ []) (1 ∷ []) ∷ CanWrite 1 ∷ Said 1 154 text6 ∷ wait true (1 ∷ 2 ∷ []) [] ∷ CanRead 1 ∷ Heard 1 text773 ∷ Noted (Taken 1 384 Fetch) ∷ wait true (1 ∷ 2 ∷ []) (2 ∷ []) ∷ CanWrite 2 ∷ Asked 2 text774 ∷ wait true (1 ∷ 2 ∷ []) [] ∷ CanRead 2 ∷ Got 2 text5 ∷ Noted (Taken 1 384 (Hit 0 0)) ∷ wait true (1 ∷ 2 ∷ []) (1 ∷ []) ∷ CanWrite 1 ∷ Said 1 154 text6 ∷ wait true (1 ∷ 2 ∷ []) [] ∷ CanRead 1 ∷ Heard 1 text775 ∷ Noted (Taken 1 385 Fetch) ∷ wait true (1 ∷ 2 ∷ []) (2 ∷ []) ∷ CanWrite 2 ∷ Asked 2 text776 ∷ wait true (1 ∷ 2 ∷ []) [] ∷ CanRead 2 ∷ Got 2 text5 ∷ Noted (Taken 1 385 (Hit 0 0)) ∷ wait true (1 ∷ 2 ∷ []) (1 ∷ []) ∷ CanWrite 1 ∷ Said 1 154 text6 ∷ wait true (1 ∷ 2 ∷ []) [] ∷ CanRead 1 ∷ Heard 1 text777 ∷ Noted (Taken 1 386 Fetch) ∷ wait true (1 ∷ 2 ∷ []) (2 ∷ []) ∷ CanWrite 2 ∷ Asked 2 text778 ∷ wait true (1 ∷ 2 ∷ []) [] ∷ CanRead 2 ∷ Got 2 text5 ∷ Noted (Taken 1 386 (Hit 0 0)) ∷ wait true (1 ∷ 2 ∷ []) (1 ∷ []) ∷ CanWrite 1 ∷ Said 1 154 text6 ∷ wait true (1 ∷ 2 ∷ []) [] ∷ CanRead 1 ∷ Heard 1 text779 ∷ Noted (Taken 1 387 Fetch) ∷ wait true (1 ∷ 2 ∷ []) (2 ∷ []) ∷ CanWrite 2 ∷ Asked 2 text780 ∷ wait true (1 ∷ 2 ∷ []) [] ∷ CanRead 2 ∷ Got 2 text5 ∷ Noted (Taken 1 387 (Hit 0 0)) ∷ wait true (1 ∷ 2 ∷ []) (1 ∷ []) ∷ CanWrite 1 ∷ Said 1 154 text6 ∷ wait true (1 ∷ 2 ∷ []) [] ∷ CanRead 1 ∷ Heard 1 text781 ∷ Noted (Taken 1 388 Fetch) ∷ wait true (1 ∷ 2 ∷ []) (2 ∷ []) ∷ CanWrite 2 ∷ Asked 2 text782 ∷ wait true (1 ∷ 2 ∷ []) [] ∷ CanRead 2 ∷ Got 2 text5 ∷ Noted (Taken 1 388 (Hit 0 0)) ∷ wait true (1 ∷ 2 ∷ []) (1 ∷ []) ∷ CanWrite 1 ∷ Said 1 154 text6 ∷ wait true (1 ∷ 2 ∷ []) [] ∷ CanRead 1 ∷ Heard 1 text783 ∷ Noted (Taken 1 389 Fetch) ∷ wait true (1 ∷ 2 ∷ []) (2 ∷ []) ∷ CanWrite 2 ∷ Asked 2 text784 ∷ wait true (1 ∷ 2 ∷ []) [] ∷ CanRead 2 ∷ Got 2 text5 ∷ Noted (Taken 1 389 (Hit 0 0)) ∷ wait true (1 ∷ 2 ∷ []) (1 ∷ []) ∷ CanWrite 1 ∷ Said 1 154 text6 ∷ wait true (1 ∷ 2 ∷ []) [] ∷ CanRead 1 ∷ Heard 1 text785 ∷ Noted (Taken 1 390 Fetch) ∷ wait true (1 ∷ 2 ∷ []) (2 ∷ []) ∷ CanWrite 2 ∷ Asked 2 text786 ∷ wait true (1 ∷ 2 ∷ []) [] ∷ CanRead 2 ∷ Got 2 text5 ∷ Noted (Taken 1 390 (Hit 0 0)) ∷ wait true (1 ∷ 2 ∷ []) (1 ∷ []) ∷ CanWrite 1 ∷ Said 1 154 text6 ∷ wait true (1 ∷ 2 ∷ []) [] ∷ CanRead 1 ∷ Heard 1 text787 ∷ Noted (Taken 1 391 Fetch) ∷ wait true (1 ∷ 2 ∷ []) (2 ∷ []) ∷ CanWrite 2 ∷ Asked 2 text788 ∷ wait true (1 ∷ 2 ∷ []) [] ∷ CanRead 2 ∷ Got 2 text5 ∷ Noted (Taken 1 391 (Hit 0 0)) ∷ wait true (1 ∷ 2 ∷ []) (1 ∷ []) ∷ CanWrite 1 ∷ Said 1 154 text6 ∷ wait true (1 ∷ 2 ∷ []) [] ∷ CanRead 1 ∷ Heard 1 text789 ∷ Noted (Taken 1 392 Fetch) ∷ wait true (1 ∷ 2 ∷ []) (2 ∷ []) ∷ CanWrite 2 ∷ Asked 2 text790 ∷ wait true (1 ∷ 2 ∷ []) [] ∷ CanRead 2 ∷ Got 2 text5 ∷ Noted (Taken 1 392 (Hit 0 0)) ∷ wait true (1 ∷ 2 ∷ []) (1 ∷ []) ∷ CanWrite 1 ∷ Said 1 154 text6 ∷ wait true (1 ∷ 2 ∷ []) [] ∷ CanRead 1 ∷ Heard 1 text791 ∷ Noted (Taken 1 393 Fetch) ∷ wait true (1 ∷ 2 ∷ []) (2 ∷ []) ∷ CanWrite 2 ∷ Asked 2 text792 ∷ []))
unfolding judging front0x21
front0x22 = (_, refl)

front0x23 : (s : State) × (arrived s ≡ judge 5520 front0x22.0 (wait true (1 ∷ 2 ∷ []) [] ∷ CanRead 2 ∷ Got 2 text5 ∷ Noted (Taken 1 393 (Hit 0 0)) ∷ wait true (1 ∷ 2 ∷ []) (1 ∷ []) ∷ CanWrite 1 ∷ Said 1 154 text6 ∷ wait true (1 ∷ 2 ∷ []) [] ∷ CanRead 1 ∷ Heard 1 text793 ∷ Noted (Taken 1 394 Fetch) ∷ wait true (1 ∷ 2 ∷ []) (2 ∷ []) ∷ CanWrite 2 ∷ Asked 2 text794 ∷ wait true (1 ∷ 2 ∷ []) [] ∷ CanRead 2 ∷ Got 2 text5 ∷ Noted (Taken 1 394 (Hit 0 0)) ∷ wait true (1 ∷ 2 ∷ []) (1 ∷ []) ∷ CanWrite 1 ∷ Said 1 154 text6 ∷ wait true (1 ∷ 2 ∷ []) [] ∷ CanRead 1 ∷ Heard 1 text795 ∷ Noted (Taken 1 395 Fetch) ∷ wait true (1 ∷ 2 ∷ []) (2 ∷ []) ∷ CanWrite 2 ∷ Asked 2 text796 ∷ wait true (1 ∷ 2 ∷ []) [] ∷ CanRead 2 ∷ Got 2 text5 ∷ Noted (Taken 1 395 (Hit 0 0)) ∷ wait true (1 ∷ 2 ∷ []) (1 ∷ []) ∷ CanWrite 1 ∷ Said 1 154 text6 ∷ wait true (1 ∷ 2 ∷ []) [] ∷ CanRead 1 ∷ Heard 1 text797 ∷ Noted (Taken 1 396 Fetch) ∷ wait true (1 ∷ 2 ∷ []) (2 ∷ []) ∷ CanWrite 2 ∷ Asked 2 text798 ∷ wait true (1 ∷ 2 ∷ []) [] ∷ CanRead 2 ∷ Got 2 text5 ∷ Noted (Taken 1 396 (Hit 0 0)) ∷ wait true (1 ∷ 2 ∷ []) (1 ∷ []) ∷ CanWrite 1 ∷ Said 1 154 text6 ∷ wait true (1 ∷ 2 ∷ []) [] ∷ CanRead 1 ∷ Heard 1 text799 ∷ Noted (Taken 1 397 Fetch) ∷ wait true (1 ∷ 2 ∷ []) (2 ∷ []) ∷ CanWrite 2 ∷ Asked 2 text800 ∷ wait true (1 ∷ 2 ∷ []) [] ∷ CanRead 2 ∷ Got 2 text5 ∷ Noted (Taken 1 397 (Hit 0 0)) ∷ wait true (1 ∷ 2 ∷ []) (1 ∷ []) ∷ CanWrite 1 ∷ Said 1 154 text6 ∷ wait true (1 ∷ 2 ∷ []) [] ∷ CanRead 1 ∷ Heard 1 text801 ∷ Noted (Taken 1 398 Fetch) ∷ wait true (1 ∷ 2 ∷ []) (2 ∷ []) ∷ CanWrite 2 ∷ Asked 2 text802 ∷ wait true (1 ∷ 2 ∷ []) [] ∷ CanRead 2 ∷ Got 2 text5 ∷ Noted (Taken 1 398 (Hit 0 0)) ∷ wait true (1 ∷ 2 ∷ []) (1 ∷ []) ∷ CanWrite 1 ∷ Said 1 154 text6 ∷ wait true (1 ∷ 2 ∷ []) [] ∷ CanRead 1 ∷ Heard 1 text803 ∷ Noted (Taken 1 399 Fetch) ∷ wait true (1 ∷ 2 ∷ []) (2 ∷ []) ∷ CanWrite 2 ∷ Asked 2 text804 ∷ wait true (1 ∷ 2 ∷ []) [] ∷ CanRead 2 ∷ Got 2 text5 ∷ Noted (Taken 1 399 (Hit 0 0)) ∷ wait true (1 ∷ 2 ∷ []) (1 ∷ []) ∷ CanWrite 1 ∷ Said 1 154 text6 ∷ wait true (1 ∷ 2 ∷ []) [] ∷ CanRead 1 ∷ Heard 1 text805 ∷ Noted (Taken 1 400 Fetch) ∷ wait true (1 ∷ 2 ∷ []) (2 ∷ []) ∷ CanWrite 2 ∷ Asked 2 text806 ∷ wait true (1 ∷ 2 ∷ []) [] ∷ CanRead 2 ∷ Got 2 text5 ∷ Noted (Taken 1 400 (Hit 0 0)) ∷ wait true (1 ∷ 2 ∷ []) (1 ∷ []) ∷ CanWrite 1 ∷ Said 1 154 text6 ∷ wait true (1 ∷ 2 ∷ []) [] ∷ CanRead 1 ∷ Heard 1 text807 ∷ Noted (Taken 1 401 Fetch) ∷ wait true (1 ∷ 2 ∷ []) (2 ∷ []) ∷ CanWrite 2 ∷ Asked 2 text808 ∷ wait true (1 ∷ 2 ∷ []) [] ∷ CanRead 2 ∷ Got 2 text5 ∷ Noted (Taken 1 401 (Hit 0 0)) ∷ wait true (1 ∷ 2 ∷ []) (1 ∷ []) ∷ CanWrite 1 ∷ Said 1 154 text6 ∷ wait true (1 ∷ 2 ∷ []) [] ∷ CanRead 1 ∷ Heard 1 text809 ∷ Noted (Taken 1 402 Fetch) ∷ wait true (1 ∷ 2 ∷ []) (2 ∷ []) ∷ CanWrite 2 ∷ Asked 2 text810 ∷ wait true (1 ∷ 2 ∷ []) [] ∷ CanRead 2 ∷ Got 2 text5 ∷ Noted (Taken 1 402 (Hit 0 0)) ∷ wait true (1 ∷ 2 ∷ []) (1 ∷ []) ∷ CanWrite 1 ∷ Said 1 154 text6 ∷ wait true (1 ∷ 2 ∷ []) [] ∷ CanRead 1 ∷ Heard 1 text811 ∷ Noted (Taken 1 403 Fetch) ∷ wait true (1 ∷ 2 ∷ []) (2 ∷ []) ∷ CanWrite 2 ∷ Asked 2 text812 ∷ wait true (1 ∷ 2 ∷ []) [] ∷ CanRead 2 ∷ Got 2 text5 ∷ Noted (Taken 1 403 (Hit 0 0)) ∷ wait true (1 ∷ 2 ∷ []) (1 ∷ []) ∷ CanWrite 1 ∷ Said 1 154 text6 ∷ wait true (1 ∷ 2 ∷ []) [] ∷ CanRead 1 ∷ Heard 1 text813 ∷ Noted (Taken 1 404 Fetch) ∷ wait true (1 ∷ 2 ∷ []) (2 ∷ []) ∷ CanWrite 2 ∷ Asked 2 text814 ∷ wait true (1 ∷ 2 ∷ []) [] ∷ CanRead 2 ∷ Got 2 text5 ∷ Noted (Taken 1 404 (Hit 0 0)) ∷ wait true (1 ∷ 2 ∷ []) (1 ∷ []) ∷ CanWrite 1 ∷ Said 1 154 text6 ∷ wait true (1 ∷ 2 ∷ []) [] ∷ CanRead 1 ∷ Heard 1 text815 ∷ Noted (Taken 1 405 Fetch) ∷ wait true (1 ∷ 2 ∷ []) (2 ∷ []) ∷ CanWrite 2 ∷ Asked 2 text816 ∷ wait true (1 ∷ 2 ∷ []) [] ∷ CanRead 2 ∷ Got 2 text5 ∷ Noted (Taken 1 405 (Hit 0 0)) ∷ wait true (1 ∷ 2 ∷ []) (1 ∷ []) ∷ CanWrite 1 ∷ Said 1 154 text6 ∷ wait true (1 ∷ 2 ∷ []) [] ∷ CanRead 1 ∷ Heard 1 text817 ∷ Noted (Taken 1 406 Fetch) ∷ wait true (1 ∷ 2 ∷ []) (2 ∷ []) ∷ CanWrite 2 ∷ Asked 2 text818 ∷ wait true (1 ∷ 2 ∷ []) [] ∷ CanRead 2 ∷ Got 2 text5 ∷ Noted (Taken 1 406 (Hit 0 0)) ∷ wait true (1 ∷ 2 ∷ []) (1 ∷ []) ∷ CanWrite 1 ∷ Said 1 154 text6 ∷ wait true (1 ∷ 2 ∷ []) [] ∷ CanRead 1 ∷ Heard 1 text819 ∷ Noted (Taken 1 407 Fetch) ∷ wait true (1 ∷ 2 ∷ []) (2 ∷ []) ∷ CanWrite 2 ∷ Asked 2 text820 ∷ wait true (1 ∷ 2 ∷ []) [] ∷ CanRead 2 ∷ Got 2 text5 ∷ Noted (Taken 1 407 (Hit 0 0)) ∷ wait true (1 ∷ 2 ∷ []) (1 ∷ []) ∷ CanWrite 1 ∷ Said 1 154 text6 ∷ wait true (1 ∷ 2 ∷ []) [] ∷ CanRead 1 ∷ Heard 1 text821 ∷ Noted (Taken 1 408 Fetch) ∷ wait true (1 ∷ 2 ∷ []) (2 ∷ []) ∷ CanWrite 2 ∷ Asked 2 text822 ∷ wait true (1 ∷ 2 ∷ []) [] ∷ CanRead 2 ∷ Got 2 text5 ∷ Noted (Taken 1 408 (Hit 0 0)) ∷ wait true (1 ∷ 2 ∷ []) (1 ∷ []) ∷ CanWrite 1 ∷ Said 1 154 text6 ∷ wait true (1 ∷ 2 ∷ []) [] ∷ CanRead 1 ∷ Heard 1 text823 ∷ Noted (Taken 1 409 Fetch) ∷ wait true (1 ∷ 2 ∷ []) (2 ∷ []) ∷ CanWrite 2 ∷ Asked 2 text824 ∷ wait true (1 ∷ 2 ∷ []) [] ∷ CanRead 2 ∷ Got 2 text5 ∷ Noted (Taken 1 409 (Hit 0 0)) ∷ wait true (1 ∷ 2 ∷ []) (1 ∷ []) ∷ CanWrite 1 ∷ Said 1 154 text6 ∷ wait true (1 ∷ 2 ∷ []) [] ∷ CanRead 1 ∷ Heard 1 text825 ∷ Noted (Taken 1 410 Fetch) ∷ wait true (1 ∷ 2 ∷ []) (2 ∷ []) ∷ CanWrite 2 ∷ Asked 2 text826 ∷ wait true (1 ∷ 2 ∷ []) [] ∷ CanRead 2 ∷ []))
unfolding judging front0x22
front0x23 = (_, refl)

front0x24 : (s : State) × (arrived s ≡ judge 5760 front0x23.0 (Got 2 text5 ∷ Noted (Taken 1 410 (Hit 0 0)) ∷ wait true (1 ∷ 2 ∷ []) (1 ∷ []) ∷ CanWrite 1 ∷ Said 1 154 text6 ∷ wait true (1 ∷ 2 ∷ []) [] ∷ CanRead 1 ∷ Heard 1 text827 ∷ Noted (Taken 1 411 Fetch) ∷ wait true (1 ∷ 2 ∷ []) (2 ∷ []) ∷ CanWrite 2 ∷ Asked 2 text828 ∷ wait true (1 ∷ 2 ∷ []) [] ∷ CanRead 2 ∷ Got 2 text5 ∷ Noted (Taken 1 411 (Hit 0 0)) ∷ wait true (1 ∷ 2 ∷ []) (1 ∷ []) ∷ CanWrite 1 ∷ Said 1 154 text6 ∷ wait true (1 ∷ 2 ∷ []) [] ∷ CanRead 1 ∷ Heard 1 text829 ∷ Noted (Taken 1 412 Fetch) ∷ wait true (1 ∷ 2 ∷ []) (2 ∷ []) ∷ CanWrite 2 ∷ Asked 2 text830 ∷ wait true (1 ∷ 2 ∷ []) [] ∷ CanRead 2 ∷ Got 2 text5 ∷ Noted (Taken 1 412 (Hit 0 0)) ∷ wait true (1 ∷ 2 ∷ []) (1 ∷ []) ∷ CanWrite 1 ∷ Said 1 154 text6 ∷ wait true (1 ∷ 2 ∷ []) [] ∷ CanRead 1 ∷ Heard 1 text831 ∷ Noted (Taken 1 413 Fetch) ∷ wait true (1 ∷ 2 ∷ []) (2 ∷ []) ∷ CanWrite 2 ∷ Asked 2 text832 ∷ wait true (1 ∷ 2 ∷ []) [] ∷ CanRead 2 ∷ Got 2 text5 ∷ Noted (Taken 1 413 (Hit 0 0)) ∷ wait true (1 ∷ 2 ∷ []) (1 ∷ []) ∷ CanWrite 1 ∷ Said 1 154 text6 ∷ wait true (1 ∷ 2 ∷ []) [] ∷ CanRead 1 ∷ Heard 1 text833 ∷ Noted (Taken 1 414 Fetch) ∷ wait true (1 ∷ 2 ∷ []) (2 ∷ []) ∷ CanWrite 2 ∷ Asked 2 text834 ∷ wait true (1 ∷ 2 ∷ []) [] ∷ CanRead 2 ∷ Got 2 text5 ∷ Noted (Taken 1 414 (Hit 0 0)) ∷ wait true (1 ∷ 2 ∷ []) (1 ∷ []) ∷ CanWrite 1 ∷ Said 1 154 text6 ∷ wait true (1 ∷ 2 ∷ []) [] ∷ CanRead 1 ∷ Heard 1 text835 ∷ Noted (Taken 1 415 Fetch) ∷ wait true (1 ∷ 2 ∷ []) (2 ∷ []) ∷ CanWrite 2 ∷ Asked 2 text836 ∷ wait true (1 ∷ 2 ∷ []) [] ∷ CanRead 2 ∷ Got 2 text5 ∷ Noted (Taken 1 415 (Hit 0 0)) ∷ wait true (1 ∷ 2 ∷ []) (1 ∷ []) ∷ CanWrite 1 ∷ Said 1 154 text6 ∷ wait true (1 ∷ 2 ∷ []) [] ∷ CanRead 1 ∷ Heard 1 text837 ∷ Noted (Taken 1 416 Fetch) ∷ wait true (1 ∷ 2 ∷ []) (2 ∷ []) ∷ CanWrite 2 ∷ Asked 2 text838 ∷ wait true (1 ∷ 2 ∷ []) [] ∷ CanRead 2 ∷ Got 2 text5 ∷ Noted (Taken 1 416 (Hit 0 0)) ∷ wait true (1 ∷ 2 ∷ []) (1 ∷ []) ∷ CanWrite 1 ∷ Said 1 154 text6 ∷ wait true (1 ∷ 2 ∷ []) [] ∷ CanRead 1 ∷ Heard 1 text839 ∷ Noted (Taken 1 417 Fetch) ∷ wait true (1 ∷ 2 ∷ []) (2 ∷ []) ∷ CanWrite 2 ∷ Asked 2 text840 ∷ wait true (1 ∷ 2 ∷ []) [] ∷ CanRead 2 ∷ Got 2 text5 ∷ Noted (Taken 1 417 (Hit 0 0)) ∷ wait true (1 ∷ 2 ∷ []) (1 ∷ []) ∷ CanWrite 1 ∷ Said 1 154 text6 ∷ wait true (1 ∷ 2 ∷ []) [] ∷ CanRead 1 ∷ Heard 1 text841 ∷ Noted (Taken 1 418 Fetch) ∷ wait true (1 ∷ 2 ∷ []) (2 ∷ []) ∷ CanWrite 2 ∷ Asked 2 text842 ∷ wait true (1 ∷ 2 ∷ []) [] ∷ CanRead 2 ∷ Got 2 text5 ∷ Noted (Taken 1 418 (Hit 0 0)) ∷ wait true (1 ∷ 2 ∷ []) (1 ∷ []) ∷ CanWrite 1 ∷ Said 1 154 text6 ∷ wait true (1 ∷ 2 ∷ []) [] ∷ CanRead 1 ∷ Heard 1 text843 ∷ Noted (Taken 1 419 Fetch) ∷ wait true (1 ∷ 2 ∷ []) (2 ∷ []) ∷ CanWrite 2 ∷ Asked 2 text844 ∷ wait true (1 ∷ 2 ∷ []) [] ∷ CanRead 2 ∷ Got 2 text5 ∷ Noted (Taken 1 419 (Hit 0 0)) ∷ wait true (1 ∷ 2 ∷ []) (1 ∷ []) ∷ CanWrite 1 ∷ Said 1 154 text6 ∷ wait true (1 ∷ 2 ∷ []) [] ∷ CanRead 1 ∷ Heard 1 text845 ∷ Noted (Taken 1 420 Fetch) ∷ wait true (1 ∷ 2 ∷ []) (2 ∷ []) ∷ CanWrite 2 ∷ Asked 2 text846 ∷ wait true (1 ∷ 2 ∷ []) [] ∷ CanRead 2 ∷ Got 2 text5 ∷ Noted (Taken 1 420 (Hit 0 0)) ∷ wait true (1 ∷ 2 ∷ []) (1 ∷ []) ∷ CanWrite 1 ∷ Said 1 154 text6 ∷ wait true (1 ∷ 2 ∷ []) [] ∷ CanRead 1 ∷ Heard 1 text847 ∷ Noted (Taken 1 421 Fetch) ∷ wait true (1 ∷ 2 ∷ []) (2 ∷ []) ∷ CanWrite 2 ∷ Asked 2 text848 ∷ wait true (1 ∷ 2 ∷ []) [] ∷ CanRead 2 ∷ Got 2 text5 ∷ Noted (Taken 1 421 (Hit 0 0)) ∷ wait true (1 ∷ 2 ∷ []) (1 ∷ []) ∷ CanWrite 1 ∷ Said 1 154 text6 ∷ wait true (1 ∷ 2 ∷ []) [] ∷ CanRead 1 ∷ Heard 1 text849 ∷ Noted (Taken 1 422 Fetch) ∷ wait true (1 ∷ 2 ∷ []) (2 ∷ []) ∷ CanWrite 2 ∷ Asked 2 text850 ∷ wait true (1 ∷ 2 ∷ []) [] ∷ CanRead 2 ∷ Got 2 text5 ∷ Noted (Taken 1 422 (Hit 0 0)) ∷ wait true (1 ∷ 2 ∷ []) (1 ∷ []) ∷ CanWrite 1 ∷ Said 1 154 text6 ∷ wait true (1 ∷ 2 ∷ []) [] ∷ CanRead 1 ∷ Heard 1 text851 ∷ Noted (Taken 1 423 Fetch) ∷ wait true (1 ∷ 2 ∷ []) (2 ∷ []) ∷ CanWrite 2 ∷ Asked 2 text852 ∷ wait true (1 ∷ 2 ∷ []) [] ∷ CanRead 2 ∷ Got 2 text5 ∷ Noted (Taken 1 423 (Hit 0 0)) ∷ wait true (1 ∷ 2 ∷ []) (1 ∷ []) ∷ CanWrite 1 ∷ Said 1 154 text6 ∷ wait true (1 ∷ 2 ∷ []) [] ∷ CanRead 1 ∷ Heard 1 text853 ∷ Noted (Taken 1 424 Fetch) ∷ wait true (1 ∷ 2 ∷ []) (2 ∷ []) ∷ CanWrite 2 ∷ Asked 2 text854 ∷ wait true (1 ∷ 2 ∷ []) [] ∷ CanRead 2 ∷ Got 2 text5 ∷ Noted (Taken 1 424 (Hit 0 0)) ∷ wait true (1 ∷ 2 ∷ []) (1 ∷ []) ∷ CanWrite 1 ∷ Said 1 154 text6 ∷ wait true (1 ∷ 2 ∷ []) [] ∷ CanRead 1 ∷ Heard 1 text855 ∷ Noted (Taken 1 425 Fetch) ∷ wait true (1 ∷ 2 ∷ []) (2 ∷ []) ∷ CanWrite 2 ∷ Asked 2 text856 ∷ wait true (1 ∷ 2 ∷ []) [] ∷ CanRead 2 ∷ Got 2 text5 ∷ Noted (Taken 1 425 (Hit 0 0)) ∷ wait true (1 ∷ 2 ∷ []) (1 ∷ []) ∷ CanWrite 1 ∷ Said 1 154 text6 ∷ wait true (1 ∷ 2 ∷ []) [] ∷ CanRead 1 ∷ Heard 1 text857 ∷ Noted (Taken 1 426 Fetch) ∷ wait true (1 ∷ 2 ∷ []) (2 ∷ []) ∷ CanWrite 2 ∷ Asked 2 text858 ∷ wait true (1 ∷ 2 ∷ []) [] ∷ CanRead 2 ∷ Got 2 text5 ∷ Noted (Taken 1 426 (Hit 0 0)) ∷ wait true (1 ∷ 2 ∷ []) (1 ∷ []) ∷ CanWrite 1 ∷ Said 1 154 text6 ∷ wait true (1 ∷ 2 ∷ []) [] ∷ CanRead 1 ∷ Heard 1 text859 ∷ Noted (Taken 1 427 Fetch) ∷ wait true (1 ∷ 2 ∷ []) (2 ∷ []) ∷ CanWrite 2 ∷ Asked 2 text860 ∷ wait true (1 ∷ 2 ∷ []) [] ∷ CanRead 2 ∷ Got 2 text5 ∷ Noted (Taken 1 427 (Hit 0 0)) ∷ []))
unfolding judging front0x23
front0x24 = (_, refl)

front0x25 : (s : State) × (arrived s ≡ judge 6000 front0x24.0 (wait true (1 ∷ 2 ∷ []) (1 ∷ []) ∷ CanWrite 1 ∷ Said 1 154 text6 ∷ wait true (1 ∷ 2 ∷ []) [] ∷ CanRead 1 ∷ Heard 1 text861 ∷ Noted (Taken 1 428 Fetch) ∷ wait true (1 ∷ 2 ∷ []) (2 ∷ []) ∷ CanWrite 2 ∷ Asked 2 text862 ∷ wait true (1 ∷ 2 ∷ []) [] ∷ CanRead 2 ∷ Got 2 text5 ∷ Noted (Taken 1 428 (Hit 0 0)) ∷ wait true (1 ∷ 2 ∷ []) (1 ∷ []) ∷ CanWrite 1 ∷ Said 1 154 text6 ∷ wait true (1 ∷ 2 ∷ []) [] ∷ CanRead 1 ∷ Heard 1 text863 ∷ Noted (Taken 1 429 Fetch) ∷ wait true (1 ∷ 2 ∷ []) (2 ∷ []) ∷ CanWrite 2 ∷ Asked 2 text864 ∷ wait true (1 ∷ 2 ∷ []) [] ∷ CanRead 2 ∷ Got 2 text5 ∷ Noted (Taken 1 429 (Hit 0 0)) ∷ wait true (1 ∷ 2 ∷ []) (1 ∷ []) ∷ CanWrite 1 ∷ Said 1 154 text6 ∷ wait true (1 ∷ 2 ∷ []) [] ∷ CanRead 1 ∷ Heard 1 text865 ∷ Noted (Taken 1 430 Fetch) ∷ wait true (1 ∷ 2 ∷ []) (2 ∷ []) ∷ CanWrite 2 ∷ Asked 2 text866 ∷ wait true (1 ∷ 2 ∷ []) [] ∷ CanRead 2 ∷ Got 2 text5 ∷ Noted (Taken 1 430 (Hit 0 0)) ∷ wait true (1 ∷ 2 ∷ []) (1 ∷ []) ∷ CanWrite 1 ∷ Said 1 154 text6 ∷ wait true (1 ∷ 2 ∷ []) [] ∷ CanRead 1 ∷ Heard 1 text867 ∷ Noted (Taken 1 431 Fetch) ∷ wait true (1 ∷ 2 ∷ []) (2 ∷ []) ∷ CanWrite 2 ∷ Asked 2 text868 ∷ wait true (1 ∷ 2 ∷ []) [] ∷ CanRead 2 ∷ Got 2 text5 ∷ Noted (Taken 1 431 (Hit 0 0)) ∷ wait true (1 ∷ 2 ∷ []) (1 ∷ []) ∷ CanWrite 1 ∷ Said 1 154 text6 ∷ wait true (1 ∷ 2 ∷ []) [] ∷ CanRead 1 ∷ Heard 1 text869 ∷ Noted (Taken 1 432 Fetch) ∷ wait true (1 ∷ 2 ∷ []) (2 ∷ []) ∷ CanWrite 2 ∷ Asked 2 text870 ∷ wait true (1 ∷ 2 ∷ []) [] ∷ CanRead 2 ∷ Got 2 text5 ∷ Noted (Taken 1 432 (Hit 0 0)) ∷ wait true (1 ∷ 2 ∷ []) (1 ∷ []) ∷ CanWrite 1 ∷ Said 1 154 text6 ∷ wait true (1 ∷ 2 ∷ []) [] ∷ CanRead 1 ∷ Heard 1 text871 ∷ Noted (Taken 1 433 Fetch) ∷ wait true (1 ∷ 2 ∷ []) (2 ∷ []) ∷ CanWrite 2 ∷ Asked 2 text872 ∷ wait true (1 ∷ 2 ∷ []) [] ∷ CanRead 2 ∷ Got 2 text5 ∷ Noted (Taken 1 433 (Hit 0 0)) ∷ wait true (1 ∷ 2 ∷ []) (1 ∷ []) ∷ CanWrite 1 ∷ Said 1 154 text6 ∷ wait true (1 ∷ 2 ∷ []) [] ∷ CanRead 1 ∷ Heard 1 text873 ∷ Noted (Taken 1 434 Fetch) ∷ wait true (1 ∷ 2 ∷ []) (2 ∷ []) ∷ CanWrite 2 ∷ Asked 2 text874 ∷ wait true (1 ∷ 2 ∷ []) [] ∷ CanRead 2 ∷ Got 2 text5 ∷ Noted (Taken 1 434 (Hit 0 0)) ∷ wait true (1 ∷ 2 ∷ []) (1 ∷ []) ∷ CanWrite 1 ∷ Said 1 154 text6 ∷ wait true (1 ∷ 2 ∷ []) [] ∷ CanRead 1 ∷ Heard 1 text875 ∷ Noted (Taken 1 435 Fetch) ∷ wait true (1 ∷ 2 ∷ []) (2 ∷ []) ∷ CanWrite 2 ∷ Asked 2 text876 ∷ wait true (1 ∷ 2 ∷ []) [] ∷ CanRead 2 ∷ Got 2 text5 ∷ Noted (Taken 1 435 (Hit 0 0)) ∷ wait true (1 ∷ 2 ∷ []) (1 ∷ []) ∷ CanWrite 1 ∷ Said 1 154 text6 ∷ wait true (1 ∷ 2 ∷ []) [] ∷ CanRead 1 ∷ Heard 1 text877 ∷ Noted (Taken 1 436 Fetch) ∷ wait true (1 ∷ 2 ∷ []) (2 ∷ []) ∷ CanWrite 2 ∷ Asked 2 text878 ∷ wait true (1 ∷ 2 ∷ []) [] ∷ CanRead 2 ∷ Got 2 text5 ∷ Noted (Taken 1 436 (Hit 0 0)) ∷ wait true (1 ∷ 2 ∷ []) (1 ∷ []) ∷ CanWrite 1 ∷ Said 1 154 text6 ∷ wait true (1 ∷ 2 ∷ []) [] ∷ CanRead 1 ∷ Heard 1 text879 ∷ Noted (Taken 1 437 Fetch) ∷ wait true (1 ∷ 2 ∷ []) (2 ∷ []) ∷ CanWrite 2 ∷ Asked 2 text880 ∷ wait true (1 ∷ 2 ∷ []) [] ∷ CanRead 2 ∷ Got 2 text5 ∷ Noted (Taken 1 437 (Hit 0 0)) ∷ wait true (1 ∷ 2 ∷ []) (1 ∷ []) ∷ CanWrite 1 ∷ Said 1 154 text6 ∷ wait true (1 ∷ 2 ∷ []) [] ∷ CanRead 1 ∷ Heard 1 text881 ∷ Noted (Taken 1 438 Fetch) ∷ wait true (1 ∷ 2 ∷ []) (2 ∷ []) ∷ CanWrite 2 ∷ Asked 2 text882 ∷ wait true (1 ∷ 2 ∷ []) [] ∷ CanRead 2 ∷ Got 2 text5 ∷ Noted (Taken 1 438 (Hit 0 0)) ∷ wait true (1 ∷ 2 ∷ []) (1 ∷ []) ∷ CanWrite 1 ∷ Said 1 154 text6 ∷ wait true (1 ∷ 2 ∷ []) [] ∷ CanRead 1 ∷ Heard 1 text883 ∷ Noted (Taken 1 439 Fetch) ∷ wait true (1 ∷ 2 ∷ []) (2 ∷ []) ∷ CanWrite 2 ∷ Asked 2 text884 ∷ wait true (1 ∷ 2 ∷ []) [] ∷ CanRead 2 ∷ Got 2 text5 ∷ Noted (Taken 1 439 (Hit 0 0)) ∷ wait true (1 ∷ 2 ∷ []) (1 ∷ []) ∷ CanWrite 1 ∷ Said 1 154 text6 ∷ wait true (1 ∷ 2 ∷ []) [] ∷ CanRead 1 ∷ Heard 1 text885 ∷ Noted (Taken 1 440 Fetch) ∷ wait true (1 ∷ 2 ∷ []) (2 ∷ []) ∷ CanWrite 2 ∷ Asked 2 text886 ∷ wait true (1 ∷ 2 ∷ []) [] ∷ CanRead 2 ∷ Got 2 text5 ∷ Noted (Taken 1 440 (Hit 0 0)) ∷ wait true (1 ∷ 2 ∷ []) (1 ∷ []) ∷ CanWrite 1 ∷ Said 1 154 text6 ∷ wait true (1 ∷ 2 ∷ []) [] ∷ CanRead 1 ∷ Heard 1 text887 ∷ Noted (Taken 1 441 Fetch) ∷ wait true (1 ∷ 2 ∷ []) (2 ∷ []) ∷ CanWrite 2 ∷ Asked 2 text888 ∷ wait true (1 ∷ 2 ∷ []) [] ∷ CanRead 2 ∷ Got 2 text5 ∷ Noted (Taken 1 441 (Hit 0 0)) ∷ wait true (1 ∷ 2 ∷ []) (1 ∷ []) ∷ CanWrite 1 ∷ Said 1 154 text6 ∷ wait true (1 ∷ 2 ∷ []) [] ∷ CanRead 1 ∷ Heard 1 text889 ∷ Noted (Taken 1 442 Fetch) ∷ wait true (1 ∷ 2 ∷ []) (2 ∷ []) ∷ CanWrite 2 ∷ Asked 2 text890 ∷ wait true (1 ∷ 2 ∷ []) [] ∷ CanRead 2 ∷ Got 2 text5 ∷ Noted (Taken 1 442 (Hit 0 0)) ∷ wait true (1 ∷ 2 ∷ []) (1 ∷ []) ∷ CanWrite 1 ∷ Said 1 154 text6 ∷ wait true (1 ∷ 2 ∷ []) [] ∷ CanRead 1 ∷ Heard 1 text891 ∷ Noted (Taken 1 443 Fetch) ∷ wait true (1 ∷ 2 ∷ []) (2 ∷ []) ∷ CanWrite 2 ∷ Asked 2 text892 ∷ wait true (1 ∷ 2 ∷ []) [] ∷ CanRead 2 ∷ Got 2 text5 ∷ Noted (Taken 1 443 (Hit 0 0)) ∷ wait true (1 ∷ 2 ∷ []) (1 ∷ []) ∷ CanWrite 1 ∷ Said 1 154 text6 ∷ wait true (1 ∷ 2 ∷ []) [] ∷ CanRead 1 ∷ Heard 1 text893 ∷ Noted (Taken 1 444 Fetch) ∷ wait true (1 ∷ 2 ∷ []) (2 ∷ []) ∷ CanWrite 2 ∷ Asked 2 text894 ∷ wait true (1 ∷ 2 ∷ []) [] ∷ CanRead 2 ∷ Got 2 text5 ∷ Noted (Taken 1 444 (Hit 0 0)) ∷ wait true (1 ∷ 2 ∷ []) (1 ∷ []) ∷ CanWrite 1 ∷ []))
unfolding judging front0x24
front0x25 = (_, refl)

front0x26 : (s : State) × (arrived s ≡ judge 6240 front0x25.0 (Said 1 154 text6 ∷ wait true (1 ∷ 2 ∷ []) [] ∷ CanRead 1 ∷ Heard 1 text895 ∷ Noted (Taken 1 445 Fetch) ∷ wait true (1 ∷ 2 ∷ []) (2 ∷ []) ∷ CanWrite 2 ∷ Asked 2 text896 ∷ wait true (1 ∷ 2 ∷ []) [] ∷ CanRead 2 ∷ Got 2 text5 ∷ Noted (Taken 1 445 (Hit 0 0)) ∷ wait true (1 ∷ 2 ∷ []) (1 ∷ []) ∷ CanWrite 1 ∷ Said 1 154 text6 ∷ wait true (1 ∷ 2 ∷ []) [] ∷ CanRead 1 ∷ Heard 1 text897 ∷ Noted (Taken 1 446 Fetch) ∷ wait true (1 ∷ 2 ∷ []) (2 ∷ []) ∷ CanWrite 2 ∷ Asked 2 text898 ∷ wait true (1 ∷ 2 ∷ []) [] ∷ CanRead 2 ∷ Got 2 text5 ∷ Noted (Taken 1 446 (Hit 0 0)) ∷ wait true (1 ∷ 2 ∷ []) (1 ∷ []) ∷ CanWrite 1 ∷ Said 1 154 text6 ∷ wait true (1 ∷ 2 ∷ []) [] ∷ CanRead 1 ∷ Heard 1 text899 ∷ Noted (Taken 1 447 Fetch) ∷ wait true (1 ∷ 2 ∷ []) (2 ∷ []) ∷ CanWrite 2 ∷ Asked 2 text900 ∷ wait true (1 ∷ 2 ∷ []) [] ∷ CanRead 2 ∷ Got 2 text5 ∷ Noted (Taken 1 447 (Hit 0 0)) ∷ wait true (1 ∷ 2 ∷ []) (1 ∷ []) ∷ CanWrite 1 ∷ Said 1 154 text6 ∷ wait true (1 ∷ 2 ∷ []) [] ∷ CanRead 1 ∷ Heard 1 text901 ∷ Noted (Taken 1 448 Fetch) ∷ wait true (1 ∷ 2 ∷ []) (2 ∷ []) ∷ CanWrite 2 ∷ Asked 2 text902 ∷ wait true (1 ∷ 2 ∷ []) [] ∷ CanRead 2 ∷ Got 2 text5 ∷ Noted (Taken 1 448 (Hit 0 0)) ∷ wait true (1 ∷ 2 ∷ []) (1 ∷ []) ∷ CanWrite 1 ∷ Said 1 154 text6 ∷ wait true (1 ∷ 2 ∷ []) [] ∷ CanRead 1 ∷ Heard 1 text903 ∷ Noted (Taken 1 449 Fetch) ∷ wait true (1 ∷ 2 ∷ []) (2 ∷ []) ∷ CanWrite 2 ∷ Asked 2 text904 ∷ wait true (1 ∷ 2 ∷ []) [] ∷ CanRead 2 ∷ Got 2 text5 ∷ Noted (Taken 1 449 (Hit 0 0)) ∷ wait true (1 ∷ 2 ∷ []) (1 ∷ []) ∷ CanWrite 1 ∷ Said 1 154 text6 ∷ wait true (1 ∷ 2 ∷ []) [] ∷ CanRead 1 ∷ Heard 1 text905 ∷ Noted (Taken 1 450 Fetch) ∷ wait true (1 ∷ 2 ∷ []) (2 ∷ []) ∷ CanWrite 2 ∷ Asked 2 text906 ∷ wait true (1 ∷ 2 ∷ []) [] ∷ CanRead 2 ∷ Got 2 text5 ∷ Noted (Taken 1 450 (Hit 0 0)) ∷ wait true (1 ∷ 2 ∷ []) (1 ∷ []) ∷ CanWrite 1 ∷ Said 1 154 text6 ∷ wait true (1 ∷ 2 ∷ []) [] ∷ CanRead 1 ∷ Heard 1 text907 ∷ Noted (Taken 1 451 Fetch) ∷ wait true (1 ∷ 2 ∷ []) (2 ∷ []) ∷ CanWrite 2 ∷ Asked 2 text908 ∷ wait true (1 ∷ 2 ∷ []) [] ∷ CanRead 2 ∷ Got 2 text5 ∷ Noted (Taken 1 451 (Hit 0 0)) ∷ wait true (1 ∷ 2 ∷ []) (1 ∷ []) ∷ CanWrite 1 ∷ Said 1 154 text6 ∷ wait true (1 ∷ 2 ∷ []) [] ∷ CanRead 1 ∷ Heard 1 text909 ∷ Noted (Taken 1 452 Fetch) ∷ wait true (1 ∷ 2 ∷ []) (2 ∷ []) ∷ CanWrite 2 ∷ Asked 2 text910 ∷ wait true (1 ∷ 2 ∷ []) [] ∷ CanRead 2 ∷ Got 2 text5 ∷ Noted (Taken 1 452 (Hit 0 0)) ∷ wait true (1 ∷ 2 ∷ []) (1 ∷ []) ∷ CanWrite 1 ∷ Said 1 154 text6 ∷ wait true (1 ∷ 2 ∷ []) [] ∷ CanRead 1 ∷ Heard 1 text911 ∷ Noted (Taken 1 453 Fetch) ∷ wait true (1 ∷ 2 ∷ []) (2 ∷ []) ∷ CanWrite 2 ∷ Asked 2 text912 ∷ wait true (1 ∷ 2 ∷ []) [] ∷ CanRead 2 ∷ Got 2 text5 ∷ Noted (Taken 1 453 (Hit 0 0)) ∷ wait true (1 ∷ 2 ∷ []) (1 ∷ []) ∷ CanWrite 1 ∷ Said 1 154 text6 ∷ wait true (1 ∷ 2 ∷ []) [] ∷ CanRead 1 ∷ Heard 1 text913 ∷ Noted (Taken 1 454 Fetch) ∷ wait true (1 ∷ 2 ∷ []) (2 ∷ []) ∷ CanWrite 2 ∷ Asked 2 text914 ∷ wait true (1 ∷ 2 ∷ []) [] ∷ CanRead 2 ∷ Got 2 text5 ∷ Noted (Taken 1 454 (Hit 0 0)) ∷ wait true (1 ∷ 2 ∷ []) (1 ∷ []) ∷ CanWrite 1 ∷ Said 1 154 text6 ∷ wait true (1 ∷ 2 ∷ []) [] ∷ CanRead 1 ∷ Heard 1 text915 ∷ Noted (Taken 1 455 Fetch) ∷ wait true (1 ∷ 2 ∷ []) (2 ∷ []) ∷ CanWrite 2 ∷ Asked 2 text916 ∷ wait true (1 ∷ 2 ∷ []) [] ∷ CanRead 2 ∷ Got 2 text5 ∷ Noted (Taken 1 455 (Hit 0 0)) ∷ wait true (1 ∷ 2 ∷ []) (1 ∷ []) ∷ CanWrite 1 ∷ Said 1 154 text6 ∷ wait true (1 ∷ 2 ∷ []) [] ∷ CanRead 1 ∷ Heard 1 text917 ∷ Noted (Taken 1 456 Fetch) ∷ wait true (1 ∷ 2 ∷ []) (2 ∷ []) ∷ CanWrite 2 ∷ Asked 2 text918 ∷ wait true (1 ∷ 2 ∷ []) [] ∷ CanRead 2 ∷ Got 2 text5 ∷ Noted (Taken 1 456 (Hit 0 0)) ∷ wait true (1 ∷ 2 ∷ []) (1 ∷ []) ∷ CanWrite 1 ∷ Said 1 154 text6 ∷ wait true (1 ∷ 2 ∷ []) [] ∷ CanRead 1 ∷ Heard 1 text919 ∷ Noted (Taken 1 457 Fetch) ∷ wait true (1 ∷ 2 ∷ []) (2 ∷ []) ∷ CanWrite 2 ∷ Asked 2 text920 ∷ wait true (1 ∷ 2 ∷ []) [] ∷ CanRead 2 ∷ Got 2 text5 ∷ Noted (Taken 1 457 (Hit 0 0)) ∷ wait true (1 ∷ 2 ∷ []) (1 ∷ []) ∷ CanWrite 1 ∷ Said 1 154 text6 ∷ wait true (1 ∷ 2 ∷ []) [] ∷ CanRead 1 ∷ Heard 1 text921 ∷ Noted (Taken 1 458 Fetch) ∷ wait true (1 ∷ 2 ∷ []) (2 ∷ []) ∷ CanWrite 2 ∷ Asked 2 text922 ∷ wait true (1 ∷ 2 ∷ []) [] ∷ CanRead 2 ∷ Got 2 text5 ∷ Noted (Taken 1 458 (Hit 0 0)) ∷ wait true (1 ∷ 2 ∷ []) (1 ∷ []) ∷ CanWrite 1 ∷ Said 1 154 text6 ∷ wait true (1 ∷ 2 ∷ []) [] ∷ CanRead 1 ∷ Heard 1 text923 ∷ Noted (Taken 1 459 Fetch) ∷ wait true (1 ∷ 2 ∷ []) (2 ∷ []) ∷ CanWrite 2 ∷ Asked 2 text924 ∷ wait true (1 ∷ 2 ∷ []) [] ∷ CanRead 2 ∷ Got 2 text5 ∷ Noted (Taken 1 459 (Hit 0 0)) ∷ wait true (1 ∷ 2 ∷ []) (1 ∷ []) ∷ CanWrite 1 ∷ Said 1 154 text6 ∷ wait true (1 ∷ 2 ∷ []) [] ∷ CanRead 1 ∷ Heard 1 text925 ∷ Noted (Taken 1 460 Fetch) ∷ wait true (1 ∷ 2 ∷ []) (2 ∷ []) ∷ CanWrite 2 ∷ Asked 2 text926 ∷ wait true (1 ∷ 2 ∷ []) [] ∷ CanRead 2 ∷ Got 2 text5 ∷ Noted (Taken 1 460 (Hit 0 0)) ∷ wait true (1 ∷ 2 ∷ []) (1 ∷ []) ∷ CanWrite 1 ∷ Said 1 154 text6 ∷ wait true (1 ∷ 2 ∷ []) [] ∷ CanRead 1 ∷ Heard 1 text927 ∷ Noted (Taken 1 461 Fetch) ∷ wait true (1 ∷ 2 ∷ []) (2 ∷ []) ∷ CanWrite 2 ∷ Asked 2 text928 ∷ wait true (1 ∷ 2 ∷ []) [] ∷ CanRead 2 ∷ Got 2 text5 ∷ Noted (Taken 1 461 (Hit 0 0)) ∷ wait true (1 ∷ 2 ∷ []) (1 ∷ []) ∷ CanWrite 1 ∷ Said 1 154 text6 ∷ wait true (1 ∷ 2 ∷ []) [] ∷ []))
unfolding judging front0x25
front0x26 = (_, refl)

front0x27 : (s : State) × (arrived s ≡ judge 6480 front0x26.0 (CanRead 1 ∷ Heard 1 text929 ∷ Noted (Taken 1 462 Fetch) ∷ wait true (1 ∷ 2 ∷ []) (2 ∷ []) ∷ CanWrite 2 ∷ Asked 2 text930 ∷ wait true (1 ∷ 2 ∷ []) [] ∷ CanRead 2 ∷ Got 2 text5 ∷ Noted (Taken 1 462 (Hit 0 0)) ∷ wait true (1 ∷ 2 ∷ []) (1 ∷ []) ∷ CanWrite 1 ∷ Said 1 154 text6 ∷ wait true (1 ∷ 2 ∷ []) [] ∷ CanRead 1 ∷ Heard 1 text931 ∷ Noted (Taken 1 463 Fetch) ∷ wait true (1 ∷ 2 ∷ []) (2 ∷ []) ∷ CanWrite 2 ∷ Asked 2 text932 ∷ wait true (1 ∷ 2 ∷ []) [] ∷ CanRead 2 ∷ Got 2 text5 ∷ Noted (Taken 1 463 (Hit 0 0)) ∷ wait true (1 ∷ 2 ∷ []) (1 ∷ []) ∷ CanWrite 1 ∷ Said 1 154 text6 ∷ wait true (1 ∷ 2 ∷ []) [] ∷ CanRead 1 ∷ Heard 1 text933 ∷ Noted (Taken 1 464 Fetch) ∷ wait true (1 ∷ 2 ∷ []) (2 ∷ []) ∷ CanWrite 2 ∷ Asked 2 text934 ∷ wait true (1 ∷ 2 ∷ []) [] ∷ CanRead 2 ∷ Got 2 text5 ∷ Noted (Taken 1 464 (Hit 0 0)) ∷ wait true (1 ∷ 2 ∷ []) (1 ∷ []) ∷ CanWrite 1 ∷ Said 1 154 text6 ∷ wait true (1 ∷ 2 ∷ []) [] ∷ CanRead 1 ∷ Heard 1 text935 ∷ Noted (Taken 1 465 Fetch) ∷ wait true (1 ∷ 2 ∷ []) (2 ∷ []) ∷ CanWrite 2 ∷ Asked 2 text936 ∷ wait true (1 ∷ 2 ∷ []) [] ∷ CanRead 2 ∷ Got 2 text5 ∷ Noted (Taken 1 465 (Hit 0 0)) ∷ wait true (1 ∷ 2 ∷ []) (1 ∷ []) ∷ CanWrite 1 ∷ Said 1 154 text6 ∷ wait true (1 ∷ 2 ∷ []) [] ∷ CanRead 1 ∷ Heard 1 text937 ∷ Noted (Taken 1 466 Fetch) ∷ wait true (1 ∷ 2 ∷ []) (2 ∷ []) ∷ CanWrite 2 ∷ Asked 2 text938 ∷ wait true (1 ∷ 2 ∷ []) [] ∷ CanRead 2 ∷ Got 2 text5 ∷ Noted (Taken 1 466 (Hit 0 0)) ∷ wait true (1 ∷ 2 ∷ []) (1 ∷ []) ∷ CanWrite 1 ∷ Said 1 154 text6 ∷ wait true (1 ∷ 2 ∷ []) [] ∷ CanRead 1 ∷ Heard 1 text939 ∷ Noted (Taken 1 467 Fetch) ∷ wait true (1 ∷ 2 ∷ []) (2 ∷ []) ∷ CanWrite 2 ∷ Asked 2 text940 ∷ wait true (1 ∷ 2 ∷ []) [] ∷ CanRead 2 ∷ Got 2 text5 ∷ Noted (Taken 1 467 (Hit 0 0)) ∷ wait true (1 ∷ 2 ∷ []) (1 ∷ []) ∷ CanWrite 1 ∷ Said 1 154 text6 ∷ wait true (1 ∷ 2 ∷ []) [] ∷ CanRead 1 ∷ Heard 1 text941 ∷ Noted (Taken 1 468 Fetch) ∷ wait true (1 ∷ 2 ∷ []) (2 ∷ []) ∷ CanWrite 2 ∷ Asked 2 text942 ∷ wait true (1 ∷ 2 ∷ []) [] ∷ CanRead 2 ∷ Got 2 text5 ∷ Noted (Taken 1 468 (Hit 0 0)) ∷ wait true (1 ∷ 2 ∷ []) (1 ∷ []) ∷ CanWrite 1 ∷ Said 1 154 text6 ∷ wait true (1 ∷ 2 ∷ []) [] ∷ CanRead 1 ∷ Heard 1 text943 ∷ Noted (Taken 1 469 Fetch) ∷ wait true (1 ∷ 2 ∷ []) (2 ∷ []) ∷ CanWrite 2 ∷ Asked 2 text944 ∷ wait true (1 ∷ 2 ∷ []) [] ∷ CanRead 2 ∷ Got 2 text5 ∷ Noted (Taken 1 469 (Hit 0 0)) ∷ wait true (1 ∷ 2 ∷ []) (1 ∷ []) ∷ CanWrite 1 ∷ Said 1 154 text6 ∷ wait true (1 ∷ 2 ∷ []) [] ∷ CanRead 1 ∷ Heard 1 text945 ∷ Noted (Taken 1 470 Fetch) ∷ wait true (1 ∷ 2 ∷ []) (2 ∷ []) ∷ CanWrite 2 ∷ Asked 2 text946 ∷ wait true (1 ∷ 2 ∷ []) [] ∷ CanRead 2 ∷ Got 2 text5 ∷ Noted (Taken 1 470 (Hit 0 0)) ∷ wait true (1 ∷ 2 ∷ []) (1 ∷ []) ∷ CanWrite 1 ∷ Said 1 154 text6 ∷ wait true (1 ∷ 2 ∷ []) [] ∷ CanRead 1 ∷ Heard 1 text947 ∷ Noted (Taken 1 471 Fetch) ∷ wait true (1 ∷ 2 ∷ []) (2 ∷ []) ∷ CanWrite 2 ∷ Asked 2 text948 ∷ wait true (1 ∷ 2 ∷ []) [] ∷ CanRead 2 ∷ Got 2 text5 ∷ Noted (Taken 1 471 (Hit 0 0)) ∷ wait true (1 ∷ 2 ∷ []) (1 ∷ []) ∷ CanWrite 1 ∷ Said 1 154 text6 ∷ wait true (1 ∷ 2 ∷ []) [] ∷ CanRead 1 ∷ Heard 1 text949 ∷ Noted (Taken 1 472 Fetch) ∷ wait true (1 ∷ 2 ∷ []) (2 ∷ []) ∷ CanWrite 2 ∷ Asked 2 text950 ∷ wait true (1 ∷ 2 ∷ []) [] ∷ CanRead 2 ∷ Got 2 text5 ∷ Noted (Taken 1 472 (Hit 0 0)) ∷ wait true (1 ∷ 2 ∷ []) (1 ∷ []) ∷ CanWrite 1 ∷ Said 1 154 text6 ∷ wait true (1 ∷ 2 ∷ []) [] ∷ CanRead 1 ∷ Heard 1 text951 ∷ Noted (Taken 1 473 Fetch) ∷ wait true (1 ∷ 2 ∷ []) (2 ∷ []) ∷ CanWrite 2 ∷ Asked 2 text952 ∷ wait true (1 ∷ 2 ∷ []) [] ∷ CanRead 2 ∷ Got 2 text5 ∷ Noted (Taken 1 473 (Hit 0 0)) ∷ wait true (1 ∷ 2 ∷ []) (1 ∷ []) ∷ CanWrite 1 ∷ Said 1 154 text6 ∷ wait true (1 ∷ 2 ∷ []) [] ∷ CanRead 1 ∷ Heard 1 text953 ∷ Noted (Taken 1 474 Fetch) ∷ wait true (1 ∷ 2 ∷ []) (2 ∷ []) ∷ CanWrite 2 ∷ Asked 2 text954 ∷ wait true (1 ∷ 2 ∷ []) [] ∷ CanRead 2 ∷ Got 2 text5 ∷ Noted (Taken 1 474 (Hit 0 0)) ∷ wait true (1 ∷ 2 ∷ []) (1 ∷ []) ∷ CanWrite 1 ∷ Said 1 154 text6 ∷ wait true (1 ∷ 2 ∷ []) [] ∷ CanRead 1 ∷ Heard 1 text955 ∷ Noted (Taken 1 475 Fetch) ∷ wait true (1 ∷ 2 ∷ []) (2 ∷ []) ∷ CanWrite 2 ∷ Asked 2 text956 ∷ wait true (1 ∷ 2 ∷ []) [] ∷ CanRead 2 ∷ Got 2 text5 ∷ Noted (Taken 1 475 (Hit 0 0)) ∷ wait true (1 ∷ 2 ∷ []) (1 ∷ []) ∷ CanWrite 1 ∷ Said 1 154 text6 ∷ wait true (1 ∷ 2 ∷ []) [] ∷ CanRead 1 ∷ Heard 1 text957 ∷ Noted (Taken 1 476 Fetch) ∷ wait true (1 ∷ 2 ∷ []) (2 ∷ []) ∷ CanWrite 2 ∷ Asked 2 text958 ∷ wait true (1 ∷ 2 ∷ []) [] ∷ CanRead 2 ∷ Got 2 text5 ∷ Noted (Taken 1 476 (Hit 0 0)) ∷ wait true (1 ∷ 2 ∷ []) (1 ∷ []) ∷ CanWrite 1 ∷ Said 1 154 text6 ∷ wait true (1 ∷ 2 ∷ []) [] ∷ CanRead 1 ∷ Heard 1 text959 ∷ Noted (Taken 1 477 Fetch) ∷ wait true (1 ∷ 2 ∷ []) (2 ∷ []) ∷ CanWrite 2 ∷ Asked 2 text960 ∷ wait true (1 ∷ 2 ∷ []) [] ∷ CanRead 2 ∷ Got 2 text5 ∷ Noted (Taken 1 477 (Hit 0 0)) ∷ wait true (1 ∷ 2 ∷ []) (1 ∷ []) ∷ CanWrite 1 ∷ Said 1 154 text6 ∷ wait true (1 ∷ 2 ∷ []) [] ∷ CanRead 1 ∷ Heard 1 text961 ∷ Noted (Taken 1 478 Fetch) ∷ wait true (1 ∷ 2 ∷ []) (2 ∷ []) ∷ CanWrite 2 ∷ Asked 2 text962 ∷ wait true (1 ∷ 2 ∷ []) [] ∷ CanRead 2 ∷ Got 2 text5 ∷ Noted (Taken 1 478 (Hit 0 0)) ∷ wait true (1 ∷ 2 ∷ []) (1 ∷ []) ∷ CanWrite 1 ∷ Said 1 154 text6 ∷ wait true (1 ∷ 2 ∷ []) [] ∷ CanRead 1 ∷ Heard 1 text963 ∷ []))
unfolding judging front0x26
front0x27 = (_, refl)

front0x28 : (s : State) × (arrived s ≡ judge 6720 front0x27.0 (Noted (Taken 1 479 Fetch) ∷ wait true (1 ∷ 2 ∷ []) (2 ∷ []) ∷ CanWrite 2 ∷ Asked 2 text964 ∷ wait true (1 ∷ 2 ∷ []) [] ∷ CanRead 2 ∷ Got 2 text5 ∷ Noted (Taken 1 479 (Hit 0 0)) ∷ wait true (1 ∷ 2 ∷ []) (1 ∷ []) ∷ CanWrite 1 ∷ Said 1 154 text6 ∷ wait true (1 ∷ 2 ∷ []) [] ∷ CanRead 1 ∷ Heard 1 text965 ∷ Noted (Taken 1 480 Fetch) ∷ wait true (1 ∷ 2 ∷ []) (2 ∷ []) ∷ CanWrite 2 ∷ Asked 2 text966 ∷ wait true (1 ∷ 2 ∷ []) [] ∷ CanRead 2 ∷ Got 2 text5 ∷ Noted (Taken 1 480 (Hit 0 0)) ∷ wait true (1 ∷ 2 ∷ []) (1 ∷ []) ∷ CanWrite 1 ∷ Said 1 154 text6 ∷ wait true (1 ∷ 2 ∷ []) [] ∷ CanRead 1 ∷ Heard 1 text967 ∷ Noted (Taken 1 481 Fetch) ∷ wait true (1 ∷ 2 ∷ []) (2 ∷ []) ∷ CanWrite 2 ∷ Asked 2 text968 ∷ wait true (1 ∷ 2 ∷ []) [] ∷ CanRead 2 ∷ Got 2 text5 ∷ Noted (Taken 1 481 (Hit 0 0)) ∷ wait true (1 ∷ 2 ∷ []) (1 ∷ []) ∷ CanWrite 1 ∷ Said 1 154 text6 ∷ wait true (1 ∷ 2 ∷ []) [] ∷ CanRead 1 ∷ Heard 1 text969 ∷ Noted (Taken 1 482 Fetch) ∷ wait true (1 ∷ 2 ∷ []) (2 ∷ []) ∷ CanWrite 2 ∷ Asked 2 text970 ∷ wait true (1 ∷ 2 ∷ []) [] ∷ CanRead 2 ∷ Got 2 text5 ∷ Noted (Taken 1 482 (Hit 0 0)) ∷ wait true (1 ∷ 2 ∷ []) (1 ∷ []) ∷ CanWrite 1 ∷ Said 1 154 text6 ∷ wait true (1 ∷ 2 ∷ []) [] ∷ CanRead 1 ∷ Heard 1 text971 ∷ Noted (Taken 1 483 Fetch) ∷ wait true (1 ∷ 2 ∷ []) (2 ∷ []) ∷ CanWrite 2 ∷ Asked 2 text972 ∷ wait true (1 ∷ 2 ∷ []) [] ∷ CanRead 2 ∷ Got 2 text5 ∷ Noted (Taken 1 483 (Hit 0 0)) ∷ wait true (1 ∷ 2 ∷ []) (1 ∷ []) ∷ CanWrite 1 ∷ Said 1 154 text6 ∷ wait true (1 ∷ 2 ∷ []) [] ∷ CanRead 1 ∷ Heard 1 text973 ∷ Noted (Taken 1 484 Fetch) ∷ wait true (1 ∷ 2 ∷ []) (2 ∷ []) ∷ CanWrite 2 ∷ Asked 2 text974 ∷ wait true (1 ∷ 2 ∷ []) [] ∷ CanRead 2 ∷ Got 2 text5 ∷ Noted (Taken 1 484 (Hit 0 0)) ∷ wait true (1 ∷ 2 ∷ []) (1 ∷ []) ∷ CanWrite 1 ∷ Said 1 154 text6 ∷ wait true (1 ∷ 2 ∷ []) [] ∷ CanRead 1 ∷ Heard 1 text975 ∷ Noted (Taken 1 485 Fetch) ∷ wait true (1 ∷ 2 ∷ []) (2 ∷ []) ∷ CanWrite 2 ∷ Asked 2 text976 ∷ wait true (1 ∷ 2 ∷ []) [] ∷ CanRead 2 ∷ Got 2 text5 ∷ Noted (Taken 1 485 (Hit 0 0)) ∷ wait true (1 ∷ 2 ∷ []) (1 ∷ []) ∷ CanWrite 1 ∷ Said 1 154 text6 ∷ wait true (1 ∷ 2 ∷ []) [] ∷ CanRead 1 ∷ Heard 1 text977 ∷ Noted (Taken 1 486 Fetch) ∷ wait true (1 ∷ 2 ∷ []) (2 ∷ []) ∷ CanWrite 2 ∷ Asked 2 text978 ∷ wait true (1 ∷ 2 ∷ []) [] ∷ CanRead 2 ∷ Got 2 text5 ∷ Noted (Taken 1 486 (Hit 0 0)) ∷ wait true (1 ∷ 2 ∷ []) (1 ∷ []) ∷ CanWrite 1 ∷ Said 1 154 text6 ∷ wait true (1 ∷ 2 ∷ []) [] ∷ CanRead 1 ∷ Heard 1 text979 ∷ Noted (Taken 1 487 Fetch) ∷ wait true (1 ∷ 2 ∷ []) (2 ∷ []) ∷ CanWrite 2 ∷ Asked 2 text980 ∷ wait true (1 ∷ 2 ∷ []) [] ∷ CanRead 2 ∷ Got 2 text5 ∷ Noted (Taken 1 487 (Hit 0 0)) ∷ wait true (1 ∷ 2 ∷ []) (1 ∷ []) ∷ CanWrite 1 ∷ Said 1 154 text6 ∷ wait true (1 ∷ 2 ∷ []) [] ∷ CanRead 1 ∷ Heard 1 text981 ∷ Noted (Taken 1 488 Fetch) ∷ wait true (1 ∷ 2 ∷ []) (2 ∷ []) ∷ CanWrite 2 ∷ Asked 2 text982 ∷ wait true (1 ∷ 2 ∷ []) [] ∷ CanRead 2 ∷ Got 2 text5 ∷ Noted (Taken 1 488 (Hit 0 0)) ∷ wait true (1 ∷ 2 ∷ []) (1 ∷ []) ∷ CanWrite 1 ∷ Said 1 154 text6 ∷ wait true (1 ∷ 2 ∷ []) [] ∷ CanRead 1 ∷ Heard 1 text983 ∷ Noted (Taken 1 489 Fetch) ∷ wait true (1 ∷ 2 ∷ []) (2 ∷ []) ∷ CanWrite 2 ∷ Asked 2 text984 ∷ wait true (1 ∷ 2 ∷ []) [] ∷ CanRead 2 ∷ Got 2 text5 ∷ Noted (Taken 1 489 (Hit 0 0)) ∷ wait true (1 ∷ 2 ∷ []) (1 ∷ []) ∷ CanWrite 1 ∷ Said 1 154 text6 ∷ wait true (1 ∷ 2 ∷ []) [] ∷ CanRead 1 ∷ Heard 1 text985 ∷ Noted (Taken 1 490 Fetch) ∷ wait true (1 ∷ 2 ∷ []) (2 ∷ []) ∷ CanWrite 2 ∷ Asked 2 text986 ∷ wait true (1 ∷ 2 ∷ []) [] ∷ CanRead 2 ∷ Got 2 text5 ∷ Noted (Taken 1 490 (Hit 0 0)) ∷ wait true (1 ∷ 2 ∷ []) (1 ∷ []) ∷ CanWrite 1 ∷ Said 1 154 text6 ∷ wait true (1 ∷ 2 ∷ []) [] ∷ CanRead 1 ∷ Heard 1 text987 ∷ Noted (Taken 1 491 Fetch) ∷ wait true (1 ∷ 2 ∷ []) (2 ∷ []) ∷ CanWrite 2 ∷ Asked 2 text988 ∷ wait true (1 ∷ 2 ∷ []) [] ∷ CanRead 2 ∷ Got 2 text5 ∷ Noted (Taken 1 491 (Hit 0 0)) ∷ wait true (1 ∷ 2 ∷ []) (1 ∷ []) ∷ CanWrite 1 ∷ Said 1 154 text6 ∷ wait true (1 ∷ 2 ∷ []) [] ∷ CanRead 1 ∷ Heard 1 text989 ∷ Noted (Taken 1 492 Fetch) ∷ wait true (1 ∷ 2 ∷ []) (2 ∷ []) ∷ CanWrite 2 ∷ Asked 2 text990 ∷ wait true (1 ∷ 2 ∷ []) [] ∷ CanRead 2 ∷ Got 2 text5 ∷ Noted (Taken 1 492 (Hit 0 0)) ∷ wait true (1 ∷ 2 ∷ []) (1 ∷ []) ∷ CanWrite 1 ∷ Said 1 154 text6 ∷ wait true (1 ∷ 2 ∷ []) [] ∷ CanRead 1 ∷ Heard 1 text991 ∷ Noted (Taken 1 493 Fetch) ∷ wait true (1 ∷ 2 ∷ []) (2 ∷ []) ∷ CanWrite 2 ∷ Asked 2 text992 ∷ wait true (1 ∷ 2 ∷ []) [] ∷ CanRead 2 ∷ Got 2 text5 ∷ Noted (Taken 1 493 (Hit 0 0)) ∷ wait true (1 ∷ 2 ∷ []) (1 ∷ []) ∷ CanWrite 1 ∷ Said 1 154 text6 ∷ wait true (1 ∷ 2 ∷ []) [] ∷ CanRead 1 ∷ Heard 1 text993 ∷ Noted (Taken 1 494 Fetch) ∷ wait true (1 ∷ 2 ∷ []) (2 ∷ []) ∷ CanWrite 2 ∷ Asked 2 text994 ∷ wait true (1 ∷ 2 ∷ []) [] ∷ CanRead 2 ∷ Got 2 text5 ∷ Noted (Taken 1 494 (Hit 0 0)) ∷ wait true (1 ∷ 2 ∷ []) (1 ∷ []) ∷ CanWrite 1 ∷ Said 1 154 text6 ∷ wait true (1 ∷ 2 ∷ []) [] ∷ CanRead 1 ∷ Heard 1 text995 ∷ Noted (Taken 1 495 Fetch) ∷ wait true (1 ∷ 2 ∷ []) (2 ∷ []) ∷ CanWrite 2 ∷ Asked 2 text996 ∷ wait true (1 ∷ 2 ∷ []) [] ∷ CanRead 2 ∷ Got 2 text5 ∷ Noted (Taken 1 495 (Hit 0 0)) ∷ wait true (1 ∷ 2 ∷ []) (1 ∷ []) ∷ CanWrite 1 ∷ Said 1 154 text6 ∷ wait true (1 ∷ 2 ∷ []) [] ∷ CanRead 1 ∷ Heard 1 text997 ∷ Noted (Taken 1 496 Fetch) ∷ wait true (1 ∷ 2 ∷ []) (2 ∷ []) ∷ []))
unfolding judging front0x27
front0x28 = (_, refl)

front0x29 : (s : State) × (arrived s ≡ judge 6960 front0x28.0 (CanWrite 2 ∷ Asked 2 text998 ∷ wait true (1 ∷ 2 ∷ []) [] ∷ CanRead 2 ∷ Got 2 text5 ∷ Noted (Taken 1 496 (Hit 0 0)) ∷ wait true (1 ∷ 2 ∷ []) (1 ∷ []) ∷ CanWrite 1 ∷ Said 1 154 text6 ∷ wait true (1 ∷ 2 ∷ []) [] ∷ CanRead 1 ∷ Heard 1 text999 ∷ Noted (Taken 1 497 Fetch) ∷ wait true (1 ∷ 2 ∷ []) (2 ∷ []) ∷ CanWrite 2 ∷ Asked 2 text1000 ∷ wait true (1 ∷ 2 ∷ []) [] ∷ CanRead 2 ∷ Got 2 text5 ∷ Noted (Taken 1 497 (Hit 0 0)) ∷ wait true (1 ∷ 2 ∷ []) (1 ∷ []) ∷ CanWrite 1 ∷ Said 1 154 text6 ∷ wait true (1 ∷ 2 ∷ []) [] ∷ CanRead 1 ∷ Heard 1 text1001 ∷ Noted (Taken 1 498 Fetch) ∷ wait true (1 ∷ 2 ∷ []) (2 ∷ []) ∷ CanWrite 2 ∷ Asked 2 text1002 ∷ wait true (1 ∷ 2 ∷ []) [] ∷ CanRead 2 ∷ Got 2 text5 ∷ Noted (Taken 1 498 (Hit 0 0)) ∷ wait true (1 ∷ 2 ∷ []) (1 ∷ []) ∷ CanWrite 1 ∷ Said 1 154 text6 ∷ wait true (1 ∷ 2 ∷ []) [] ∷ CanRead 1 ∷ Heard 1 text1003 ∷ Noted (Taken 1 499 Fetch) ∷ wait true (1 ∷ 2 ∷ []) (2 ∷ []) ∷ CanWrite 2 ∷ Asked 2 text1004 ∷ wait true (1 ∷ 2 ∷ []) [] ∷ CanRead 2 ∷ Got 2 text5 ∷ Noted (Taken 1 499 (Hit 0 0)) ∷ wait true (1 ∷ 2 ∷ []) (1 ∷ []) ∷ CanWrite 1 ∷ Said 1 154 text6 ∷ wait true (1 ∷ 2 ∷ []) [] ∷ CanRead 1 ∷ Heard 1 text1005 ∷ Noted (Taken 1 500 Fetch) ∷ wait true (1 ∷ 2 ∷ []) (2 ∷ []) ∷ CanWrite 2 ∷ Asked 2 text1006 ∷ wait true (1 ∷ 2 ∷ []) [] ∷ CanRead 2 ∷ Got 2 text5 ∷ Noted (Taken 1 500 (Hit 0 0)) ∷ wait true (1 ∷ 2 ∷ []) (1 ∷ []) ∷ CanWrite 1 ∷ Said 1 154 text6 ∷ wait true (1 ∷ 2 ∷ []) [] ∷ CanRead 1 ∷ Heard 1 text1007 ∷ Noted (Taken 1 501 Fetch) ∷ wait true (1 ∷ 2 ∷ []) (2 ∷ []) ∷ CanWrite 2 ∷ Asked 2 text1008 ∷ wait true (1 ∷ 2 ∷ []) [] ∷ CanRead 2 ∷ Got 2 text5 ∷ Noted (Taken 1 501 (Hit 0 0)) ∷ wait true (1 ∷ 2 ∷ []) (1 ∷ []) ∷ CanWrite 1 ∷ Said 1 154 text6 ∷ wait true (1 ∷ 2 ∷ []) [] ∷ CanRead 1 ∷ Heard 1 text1009 ∷ Noted (Taken 1 502 Fetch) ∷ wait true (1 ∷ 2 ∷ []) (2 ∷ []) ∷ CanWrite 2 ∷ Asked 2 text1010 ∷ wait true (1 ∷ 2 ∷ []) [] ∷ CanRead 2 ∷ Got 2 text5 ∷ Noted (Taken 1 502 (Hit 0 0)) ∷ wait true (1 ∷ 2 ∷ []) (1 ∷ []) ∷ CanWrite 1 ∷ Said 1 154 text6 ∷ wait true (1 ∷ 2 ∷ []) [] ∷ CanRead 1 ∷ Heard 1 text1011 ∷ Noted (Taken 1 503 Fetch) ∷ wait true (1 ∷ 2 ∷ []) (2 ∷ []) ∷ CanWrite 2 ∷ Asked 2 text1012 ∷ wait true (1 ∷ 2 ∷ []) [] ∷ CanRead 2 ∷ Got 2 text5 ∷ Noted (Taken 1 503 (Hit 0 0)) ∷ wait true (1 ∷ 2 ∷ []) (1 ∷ []) ∷ CanWrite 1 ∷ Said 1 154 text6 ∷ wait true (1 ∷ 2 ∷ []) [] ∷ CanRead 1 ∷ Heard 1 text1013 ∷ Noted (Taken 1 504 Fetch) ∷ wait true (1 ∷ 2 ∷ []) (2 ∷ []) ∷ CanWrite 2 ∷ Asked 2 text1014 ∷ wait true (1 ∷ 2 ∷ []) [] ∷ CanRead 2 ∷ Got 2 text5 ∷ Noted (Taken 1 504 (Hit 0 0)) ∷ wait true (1 ∷ 2 ∷ []) (1 ∷ []) ∷ CanWrite 1 ∷ Said 1 154 text6 ∷ wait true (1 ∷ 2 ∷ []) [] ∷ CanRead 1 ∷ Heard 1 text1015 ∷ Noted (Taken 1 505 Fetch) ∷ wait true (1 ∷ 2 ∷ []) (2 ∷ []) ∷ CanWrite 2 ∷ Asked 2 text1016 ∷ wait true (1 ∷ 2 ∷ []) [] ∷ CanRead 2 ∷ Got 2 text5 ∷ Noted (Taken 1 505 (Hit 0 0)) ∷ wait true (1 ∷ 2 ∷ []) (1 ∷ []) ∷ CanWrite 1 ∷ Said 1 154 text6 ∷ wait true (1 ∷ 2 ∷ []) [] ∷ CanRead 1 ∷ Heard 1 text1017 ∷ Noted (Taken 1 506 Fetch) ∷ wait true (1 ∷ 2 ∷ []) (2 ∷ []) ∷ CanWrite 2 ∷ Asked 2 text1018 ∷ wait true (1 ∷ 2 ∷ []) [] ∷ CanRead 2 ∷ Got 2 text5 ∷ Noted (Taken 1 506 (Hit 0 0)) ∷ wait true (1 ∷ 2 ∷ []) (1 ∷ []) ∷ CanWrite 1 ∷ Said 1 154 text6 ∷ wait true (1 ∷ 2 ∷ []) [] ∷ CanRead 1 ∷ Heard 1 text1019 ∷ Noted (Taken 1 507 Fetch) ∷ wait true (1 ∷ 2 ∷ []) (2 ∷ []) ∷ CanWrite 2 ∷ Asked 2 text1020 ∷ wait true (1 ∷ 2 ∷ []) [] ∷ CanRead 2 ∷ Got 2 text5 ∷ Noted (Taken 1 507 (Hit 0 0)) ∷ wait true (1 ∷ 2 ∷ []) (1 ∷ []) ∷ CanWrite 1 ∷ Said 1 154 text6 ∷ wait true (1 ∷ 2 ∷ []) [] ∷ CanRead 1 ∷ Heard 1 text1021 ∷ Noted (Taken 1 508 Fetch) ∷ wait true (1 ∷ 2 ∷ []) (2 ∷ []) ∷ CanWrite 2 ∷ Asked 2 text1022 ∷ wait true (1 ∷ 2 ∷ []) [] ∷ CanRead 2 ∷ Got 2 text5 ∷ Noted (Taken 1 508 (Hit 0 0)) ∷ wait true (1 ∷ 2 ∷ []) (1 ∷ []) ∷ CanWrite 1 ∷ Said 1 154 text6 ∷ wait true (1 ∷ 2 ∷ []) [] ∷ CanRead 1 ∷ Heard 1 text1023 ∷ Noted (Taken 1 509 Fetch) ∷ wait true (1 ∷ 2 ∷ []) (2 ∷ []) ∷ CanWrite 2 ∷ Asked 2 text1024 ∷ wait true (1 ∷ 2 ∷ []) [] ∷ CanRead 2 ∷ Got 2 text5 ∷ Noted (Taken 1 509 (Hit 0 0)) ∷ wait true (1 ∷ 2 ∷ []) (1 ∷ []) ∷ CanWrite 1 ∷ Said 1 154 text6 ∷ wait true (1 ∷ 2 ∷ []) [] ∷ CanRead 1 ∷ Heard 1 text1025 ∷ Noted (Taken 1 510 Fetch) ∷ wait true (1 ∷ 2 ∷ []) (2 ∷ []) ∷ CanWrite 2 ∷ Asked 2 text1026 ∷ wait true (1 ∷ 2 ∷ []) [] ∷ CanRead 2 ∷ Got 2 text5 ∷ Noted (Taken 1 510 (Hit 0 0)) ∷ wait true (1 ∷ 2 ∷ []) (1 ∷ []) ∷ CanWrite 1 ∷ Said 1 154 text6 ∷ wait true (1 ∷ 2 ∷ []) [] ∷ CanRead 1 ∷ Heard 1 text1027 ∷ Noted (Taken 1 511 Fetch) ∷ wait true (1 ∷ 2 ∷ []) (2 ∷ []) ∷ CanWrite 2 ∷ Asked 2 text1028 ∷ wait true (1 ∷ 2 ∷ []) [] ∷ CanRead 2 ∷ Got 2 text5 ∷ Noted (Taken 1 511 (Hit 0 0)) ∷ wait true (1 ∷ 2 ∷ []) (1 ∷ []) ∷ CanWrite 1 ∷ Said 1 154 text6 ∷ wait true (1 ∷ 2 ∷ []) [] ∷ CanRead 1 ∷ Heard 1 text1029 ∷ Noted (Taken 1 512 Fetch) ∷ wait true (1 ∷ 2 ∷ []) (2 ∷ []) ∷ CanWrite 2 ∷ Asked 2 text1030 ∷ wait true (1 ∷ 2 ∷ []) [] ∷ CanRead 2 ∷ Got 2 text5 ∷ Noted (Taken 1 512 (Hit 0 0)) ∷ wait true (1 ∷ 2 ∷ []) (1 ∷ []) ∷ CanWrite 1 ∷ Said 1 154 text6 ∷ wait true (1 ∷ 2 ∷ []) [] ∷ CanRead 1 ∷ Heard 1 text1031 ∷ Noted (Taken 1 513 Fetch) ∷ wait true (1 ∷ 2 ∷ []) (2 ∷ []) ∷ CanWrite 2 ∷ Asked 2 text1032 ∷ []))
unfolding judging front0x28
front0x29 = (_, refl)

front0x30 : (s : State) × (arrived s ≡ judge 7200 front0x29.0 (wait true (1 ∷ 2 ∷ []) [] ∷ CanRead 2 ∷ Got 2 text5 ∷ Noted (Taken 1 513 (Hit 0 0)) ∷ wait true (1 ∷ 2 ∷ []) (1 ∷ []) ∷ CanWrite 1 ∷ Said 1 154 text6 ∷ wait true (1 ∷ 2 ∷ []) [] ∷ CanRead 1 ∷ Heard 1 text1033 ∷ Noted (Taken 1 514 Fetch) ∷ wait true (1 ∷ 2 ∷ []) (2 ∷ []) ∷ CanWrite 2 ∷ Asked 2 text1034 ∷ wait true (1 ∷ 2 ∷ []) [] ∷ CanRead 2 ∷ Got 2 text5 ∷ Noted (Taken 1 514 (Hit 0 0)) ∷ wait true (1 ∷ 2 ∷ []) (1 ∷ []) ∷ CanWrite 1 ∷ Said 1 154 text6 ∷ wait true (1 ∷ 2 ∷ []) [] ∷ CanRead 1 ∷ Heard 1 text1035 ∷ Noted (Taken 1 515 Fetch) ∷ wait true (1 ∷ 2 ∷ []) (2 ∷ []) ∷ CanWrite 2 ∷ Asked 2 text1036 ∷ wait true (1 ∷ 2 ∷ []) [] ∷ CanRead 2 ∷ Got 2 text5 ∷ Noted (Taken 1 515 (Hit 0 0)) ∷ wait true (1 ∷ 2 ∷ []) (1 ∷ []) ∷ CanWrite 1 ∷ Said 1 154 text6 ∷ wait true (1 ∷ 2 ∷ []) [] ∷ CanRead 1 ∷ Heard 1 text1037 ∷ Noted (Taken 1 516 Fetch) ∷ wait true (1 ∷ 2 ∷ []) (2 ∷ []) ∷ CanWrite 2 ∷ Asked 2 text1038 ∷ wait true (1 ∷ 2 ∷ []) [] ∷ CanRead 2 ∷ Got 2 text5 ∷ Noted (Taken 1 516 (Hit 0 0)) ∷ wait true (1 ∷ 2 ∷ []) (1 ∷ []) ∷ CanWrite 1 ∷ Said 1 154 text6 ∷ wait true (1 ∷ 2 ∷ []) [] ∷ CanRead 1 ∷ Heard 1 text1039 ∷ Noted (Taken 1 517 Fetch) ∷ wait true (1 ∷ 2 ∷ []) (2 ∷ []) ∷ CanWrite 2 ∷ Asked 2 text1040 ∷ wait true (1 ∷ 2 ∷ []) [] ∷ CanRead 2 ∷ Got 2 text5 ∷ Noted (Taken 1 517 (Hit 0 0)) ∷ wait true (1 ∷ 2 ∷ []) (1 ∷ []) ∷ CanWrite 1 ∷ Said 1 154 text6 ∷ wait true (1 ∷ 2 ∷ []) [] ∷ CanRead 1 ∷ Heard 1 text1041 ∷ Noted (Taken 1 518 Fetch) ∷ wait true (1 ∷ 2 ∷ []) (2 ∷ []) ∷ CanWrite 2 ∷ Asked 2 text1042 ∷ wait true (1 ∷ 2 ∷ []) [] ∷ CanRead 2 ∷ Got 2 text5 ∷ Noted (Taken 1 518 (Hit 0 0)) ∷ wait true (1 ∷ 2 ∷ []) (1 ∷ []) ∷ CanWrite 1 ∷ Said 1 154 text6 ∷ wait true (1 ∷ 2 ∷ []) [] ∷ CanRead 1 ∷ Heard 1 text1043 ∷ Noted (Taken 1 519 Fetch) ∷ wait true (1 ∷ 2 ∷ []) (2 ∷ []) ∷ CanWrite 2 ∷ Asked 2 text1044 ∷ wait true (1 ∷ 2 ∷ []) [] ∷ CanRead 2 ∷ Got 2 text5 ∷ Noted (Taken 1 519 (Hit 0 0)) ∷ wait true (1 ∷ 2 ∷ []) (1 ∷ []) ∷ CanWrite 1 ∷ Said 1 154 text6 ∷ wait true (1 ∷ 2 ∷ []) [] ∷ CanRead 1 ∷ Heard 1 text1045 ∷ Noted (Taken 1 520 Fetch) ∷ wait true (1 ∷ 2 ∷ []) (2 ∷ []) ∷ CanWrite 2 ∷ Asked 2 text1046 ∷ wait true (1 ∷ 2 ∷ []) [] ∷ CanRead 2 ∷ Got 2 text5 ∷ Noted (Taken 1 520 (Hit 0 0)) ∷ wait true (1 ∷ 2 ∷ []) (1 ∷ []) ∷ CanWrite 1 ∷ Said 1 154 text6 ∷ wait true (1 ∷ 2 ∷ []) [] ∷ CanRead 1 ∷ Heard 1 text1047 ∷ Noted (Taken 1 521 Fetch) ∷ wait true (1 ∷ 2 ∷ []) (2 ∷ []) ∷ CanWrite 2 ∷ Asked 2 text1048 ∷ wait true (1 ∷ 2 ∷ []) [] ∷ CanRead 2 ∷ Got 2 text5 ∷ Noted (Taken 1 521 (Hit 0 0)) ∷ wait true (1 ∷ 2 ∷ []) (1 ∷ []) ∷ CanWrite 1 ∷ Said 1 154 text6 ∷ wait true (1 ∷ 2 ∷ []) [] ∷ CanRead 1 ∷ Heard 1 text1049 ∷ Noted (Taken 1 522 Fetch) ∷ wait true (1 ∷ 2 ∷ []) (2 ∷ []) ∷ CanWrite 2 ∷ Asked 2 text1050 ∷ wait true (1 ∷ 2 ∷ []) [] ∷ CanRead 2 ∷ Got 2 text5 ∷ Noted (Taken 1 522 (Hit 0 0)) ∷ wait true (1 ∷ 2 ∷ []) (1 ∷ []) ∷ CanWrite 1 ∷ Said 1 154 text6 ∷ wait true (1 ∷ 2 ∷ []) [] ∷ CanRead 1 ∷ Heard 1 text1051 ∷ Noted (Taken 1 523 Fetch) ∷ wait true (1 ∷ 2 ∷ []) (2 ∷ []) ∷ CanWrite 2 ∷ Asked 2 text1052 ∷ wait true (1 ∷ 2 ∷ []) [] ∷ CanRead 2 ∷ Got 2 text5 ∷ Noted (Taken 1 523 (Hit 0 0)) ∷ wait true (1 ∷ 2 ∷ []) (1 ∷ []) ∷ CanWrite 1 ∷ Said 1 154 text6 ∷ wait true (1 ∷ 2 ∷ []) [] ∷ CanRead 1 ∷ Heard 1 text1053 ∷ Noted (Taken 1 524 Fetch) ∷ wait true (1 ∷ 2 ∷ []) (2 ∷ []) ∷ CanWrite 2 ∷ Asked 2 text1054 ∷ wait true (1 ∷ 2 ∷ []) [] ∷ CanRead 2 ∷ Got 2 text5 ∷ Noted (Taken 1 524 (Hit 0 0)) ∷ wait true (1 ∷ 2 ∷ []) (1 ∷ []) ∷ CanWrite 1 ∷ Said 1 154 text6 ∷ wait true (1 ∷ 2 ∷ []) [] ∷ CanRead 1 ∷ Heard 1 text1055 ∷ Noted (Taken 1 525 Fetch) ∷ wait true (1 ∷ 2 ∷ []) (2 ∷ []) ∷ CanWrite 2 ∷ Asked 2 text1056 ∷ wait true (1 ∷ 2 ∷ []) [] ∷ CanRead 2 ∷ Got 2 text5 ∷ Noted (Taken 1 525 (Hit 0 0)) ∷ wait true (1 ∷ 2 ∷ []) (1 ∷ []) ∷ CanWrite 1 ∷ Said 1 154 text6 ∷ wait true (1 ∷ 2 ∷ []) [] ∷ CanRead 1 ∷ Heard 1 text1057 ∷ Noted (Taken 1 526 Fetch) ∷ wait true (1 ∷ 2 ∷ []) (2 ∷ []) ∷ CanWrite 2 ∷ Asked 2 text1058 ∷ wait true (1 ∷ 2 ∷ []) [] ∷ CanRead 2 ∷ Got 2 text5 ∷ Noted (Taken 1 526 (Hit 0 0)) ∷ wait true (1 ∷ 2 ∷ []) (1 ∷ []) ∷ CanWrite 1 ∷ Said 1 154 text6 ∷ wait true (1 ∷ 2 ∷ []) [] ∷ CanRead 1 ∷ Heard 1 text1059 ∷ Noted (Taken 1 527 Fetch) ∷ wait true (1 ∷ 2 ∷ []) (2 ∷ []) ∷ CanWrite 2 ∷ Asked 2 text1060 ∷ wait true (1 ∷ 2 ∷ []) [] ∷ CanRead 2 ∷ Got 2 text5 ∷ Noted (Taken 1 527 (Hit 0 0)) ∷ wait true (1 ∷ 2 ∷ []) (1 ∷ []) ∷ CanWrite 1 ∷ Said 1 154 text6 ∷ wait true (1 ∷ 2 ∷ []) [] ∷ CanRead 1 ∷ Heard 1 text1061 ∷ Noted (Taken 1 528 Fetch) ∷ wait true (1 ∷ 2 ∷ []) (2 ∷ []) ∷ CanWrite 2 ∷ Asked 2 text1062 ∷ wait true (1 ∷ 2 ∷ []) [] ∷ CanRead 2 ∷ Got 2 text5 ∷ Noted (Taken 1 528 (Hit 0 0)) ∷ wait true (1 ∷ 2 ∷ []) (1 ∷ []) ∷ CanWrite 1 ∷ Said 1 154 text6 ∷ wait true (1 ∷ 2 ∷ []) [] ∷ CanRead 1 ∷ Heard 1 text1063 ∷ Noted (Taken 1 529 Fetch) ∷ wait true (1 ∷ 2 ∷ []) (2 ∷ []) ∷ CanWrite 2 ∷ Asked 2 text1064 ∷ wait true (1 ∷ 2 ∷ []) [] ∷ CanRead 2 ∷ Got 2 text5 ∷ Noted (Taken 1 529 (Hit 0 0)) ∷ wait true (1 ∷ 2 ∷ []) (1 ∷ []) ∷ CanWrite 1 ∷ Said 1 154 text6 ∷ wait true (1 ∷ 2 ∷ []) [] ∷ CanRead 1 ∷ Heard 1 text1065 ∷ Noted (Taken 1 530 Fetch) ∷ wait true (1 ∷ 2 ∷ []) (2 ∷ []) ∷ CanWrite 2 ∷ Asked 2 text1066 ∷ wait true (1 ∷ 2 ∷ []) [] ∷ CanRead 2 ∷ []))
unfolding judging front0x29
front0x30 = (_, refl)

front0x31 : (s : State) × (arrived s ≡ judge 7440 front0x30.0 (Got 2 text5 ∷ Noted (Taken 1 530 (Hit 0 0)) ∷ wait true (1 ∷ 2 ∷ []) (1 ∷ []) ∷ CanWrite 1 ∷ Said 1 154 text6 ∷ wait true (1 ∷ 2 ∷ []) [] ∷ CanRead 1 ∷ Heard 1 text1067 ∷ Noted (Taken 1 531 Fetch) ∷ wait true (1 ∷ 2 ∷ []) (2 ∷ []) ∷ CanWrite 2 ∷ Asked 2 text1068 ∷ wait true (1 ∷ 2 ∷ []) [] ∷ CanRead 2 ∷ Got 2 text5 ∷ Noted (Taken 1 531 (Hit 0 0)) ∷ wait true (1 ∷ 2 ∷ []) (1 ∷ []) ∷ CanWrite 1 ∷ Said 1 154 text6 ∷ wait true (1 ∷ 2 ∷ []) [] ∷ CanRead 1 ∷ Heard 1 text1069 ∷ Noted (Taken 1 532 Fetch) ∷ wait true (1 ∷ 2 ∷ []) (2 ∷ []) ∷ CanWrite 2 ∷ Asked 2 text1070 ∷ wait true (1 ∷ 2 ∷ []) [] ∷ CanRead 2 ∷ Got 2 text5 ∷ Noted (Taken 1 532 (Hit 0 0)) ∷ wait true (1 ∷ 2 ∷ []) (1 ∷ []) ∷ CanWrite 1 ∷ Said 1 154 text6 ∷ wait true (1 ∷ 2 ∷ []) [] ∷ CanRead 1 ∷ Heard 1 text1071 ∷ Noted (Taken 1 533 Fetch) ∷ wait true (1 ∷ 2 ∷ []) (2 ∷ []) ∷ CanWrite 2 ∷ Asked 2 text1072 ∷ wait true (1 ∷ 2 ∷ []) [] ∷ CanRead 2 ∷ Got 2 text5 ∷ Noted (Taken 1 533 (Hit 0 0)) ∷ wait true (1 ∷ 2 ∷ []) (1 ∷ []) ∷ CanWrite 1 ∷ Said 1 154 text6 ∷ wait true (1 ∷ 2 ∷ []) [] ∷ CanRead 1 ∷ Heard 1 text1073 ∷ Noted (Taken 1 534 Fetch) ∷ wait true (1 ∷ 2 ∷ []) (2 ∷ []) ∷ CanWrite 2 ∷ Asked 2 text1074 ∷ wait true (1 ∷ 2 ∷ []) [] ∷ CanRead 2 ∷ Got 2 text5 ∷ Noted (Taken 1 534 (Hit 0 0)) ∷ wait true (1 ∷ 2 ∷ []) (1 ∷ []) ∷ CanWrite 1 ∷ Said 1 154 text6 ∷ wait true (1 ∷ 2 ∷ []) [] ∷ CanRead 1 ∷ Heard 1 text1075 ∷ Noted (Taken 1 535 Fetch) ∷ wait true (1 ∷ 2 ∷ []) (2 ∷ []) ∷ CanWrite 2 ∷ Asked 2 text1076 ∷ wait true (1 ∷ 2 ∷ []) [] ∷ CanRead 2 ∷ Got 2 text5 ∷ Noted (Taken 1 535 (Hit 0 0)) ∷ wait true (1 ∷ 2 ∷ []) (1 ∷ []) ∷ CanWrite 1 ∷ Said 1 154 text6 ∷ wait true (1 ∷ 2 ∷ []) [] ∷ CanRead 1 ∷ Heard 1 text1077 ∷ Noted (Taken 1 536 Fetch) ∷ wait true (1 ∷ 2 ∷ []) (2 ∷ []) ∷ CanWrite 2 ∷ Asked 2 text1078 ∷ wait true (1 ∷ 2 ∷ []) [] ∷ CanRead 2 ∷ Got 2 text5 ∷ Noted (Taken 1 536 (Hit 0 0)) ∷ wait true (1 ∷ 2 ∷ []) (1 ∷ []) ∷ CanWrite 1 ∷ Said 1 154 text6 ∷ wait true (1 ∷ 2 ∷ []) [] ∷ CanRead 1 ∷ Heard 1 text1079 ∷ Noted (Taken 1 537 Fetch) ∷ wait true (1 ∷ 2 ∷ []) (2 ∷ []) ∷ CanWrite 2 ∷ Asked 2 text1080 ∷ wait true (1 ∷ 2 ∷ []) [] ∷ CanRead 2 ∷ Got 2 text5 ∷ Noted (Taken 1 537 (Hit 0 0)) ∷ wait true (1 ∷ 2 ∷ []) (1 ∷ []) ∷ CanWrite 1 ∷ Said 1 154 text6 ∷ wait true (1 ∷ 2 ∷ []) [] ∷ CanRead 1 ∷ Heard 1 text1081 ∷ Noted (Taken 1 538 Fetch) ∷ wait true (1 ∷ 2 ∷ []) (2 ∷ []) ∷ CanWrite 2 ∷ Asked 2 text1082 ∷ wait true (1 ∷ 2 ∷ []) [] ∷ CanRead 2 ∷ Got 2 text5 ∷ Noted (Taken 1 538 (Hit 0 0)) ∷ wait true (1 ∷ 2 ∷ []) (1 ∷ []) ∷ CanWrite 1 ∷ Said 1 154 text6 ∷ wait true (1 ∷ 2 ∷ []) [] ∷ CanRead 1 ∷ Heard 1 text1083 ∷ Noted (Taken 1 539 Fetch) ∷ wait true (1 ∷ 2 ∷ []) (2 ∷ []) ∷ CanWrite 2 ∷ Asked 2 text1084 ∷ wait true (1 ∷ 2 ∷ []) [] ∷ CanRead 2 ∷ Got 2 text5 ∷ Noted (Taken 1 539 (Hit 0 0)) ∷ wait true (1 ∷ 2 ∷ []) (1 ∷ []) ∷ CanWrite 1 ∷ Said 1 154 text6 ∷ wait true (1 ∷ 2 ∷ []) [] ∷ CanRead 1 ∷ Heard 1 text1085 ∷ Noted (Taken 1 540 Fetch) ∷ wait true (1 ∷ 2 ∷ []) (2 ∷ []) ∷ CanWrite 2 ∷ Asked 2 text1086 ∷ wait true (1 ∷ 2 ∷ []) [] ∷ CanRead 2 ∷ Got 2 text5 ∷ Noted (Taken 1 540 (Hit 0 0)) ∷ wait true (1 ∷ 2 ∷ []) (1 ∷ []) ∷ CanWrite 1 ∷ Said 1 154 text6 ∷ wait true (1 ∷ 2 ∷ []) [] ∷ CanRead 1 ∷ Heard 1 text1087 ∷ Noted (Taken 1 541 Fetch) ∷ wait true (1 ∷ 2 ∷ []) (2 ∷ []) ∷ CanWrite 2 ∷ Asked 2 text1088 ∷ wait true (1 ∷ 2 ∷ []) [] ∷ CanRead 2 ∷ Got 2 text5 ∷ Noted (Taken 1 541 (Hit 0 0)) ∷ wait true (1 ∷ 2 ∷ []) (1 ∷ []) ∷ CanWrite 1 ∷ Said 1 154 text6 ∷ wait true (1 ∷ 2 ∷ []) [] ∷ CanRead 1 ∷ Heard 1 text1089 ∷ Noted (Taken 1 542 Fetch) ∷ wait true (1 ∷ 2 ∷ []) (2 ∷ []) ∷ CanWrite 2 ∷ Asked 2 text1090 ∷ wait true (1 ∷ 2 ∷ []) [] ∷ CanRead 2 ∷ Got 2 text5 ∷ Noted (Taken 1 542 (Hit 0 0)) ∷ wait true (1 ∷ 2 ∷ []) (1 ∷ []) ∷ CanWrite 1 ∷ Said 1 154 text6 ∷ wait true (1 ∷ 2 ∷ []) [] ∷ CanRead 1 ∷ Heard 1 text1091 ∷ Noted (Taken 1 543 Fetch) ∷ wait true (1 ∷ 2 ∷ []) (2 ∷ []) ∷ CanWrite 2 ∷ Asked 2 text1092 ∷ wait true (1 ∷ 2 ∷ []) [] ∷ CanRead 2 ∷ Got 2 text5 ∷ Noted (Taken 1 543 (Hit 0 0)) ∷ wait true (1 ∷ 2 ∷ []) (1 ∷ []) ∷ CanWrite 1 ∷ Said 1 154 text6 ∷ wait true (1 ∷ 2 ∷ []) [] ∷ CanRead 1 ∷ Heard 1 text1093 ∷ Noted (Taken 1 544 Fetch) ∷ wait true (1 ∷ 2 ∷ []) (2 ∷ []) ∷ CanWrite 2 ∷ Asked 2 text1094 ∷ wait true (1 ∷ 2 ∷ []) [] ∷ CanRead 2 ∷ Got 2 text5 ∷ Noted (Taken 1 544 (Hit 0 0)) ∷ wait true (1 ∷ 2 ∷ []) (1 ∷ []) ∷ CanWrite 1 ∷ Said 1 154 text6 ∷ wait true (1 ∷ 2 ∷ []) [] ∷ CanRead 1 ∷ Heard 1 text1095 ∷ Noted (Taken 1 545 Fetch) ∷ wait true (1 ∷ 2 ∷ []) (2 ∷ []) ∷ CanWrite 2 ∷ Asked 2 text1096 ∷ wait true (1 ∷ 2 ∷ []) [] ∷ CanRead 2 ∷ Got 2 text5 ∷ Noted (Taken 1 545 (Hit 0 0)) ∷ wait true (1 ∷ 2 ∷ []) (1 ∷ []) ∷ CanWrite 1 ∷ Said 1 154 text6 ∷ wait true (1 ∷ 2 ∷ []) [] ∷ CanRead 1 ∷ Heard 1 text1097 ∷ Noted (Taken 1 546 Fetch) ∷ wait true (1 ∷ 2 ∷ []) (2 ∷ []) ∷ CanWrite 2 ∷ Asked 2 text1098 ∷ wait true (1 ∷ 2 ∷ []) [] ∷ CanRead 2 ∷ Got 2 text5 ∷ Noted (Taken 1 546 (Hit 0 0)) ∷ wait true (1 ∷ 2 ∷ []) (1 ∷ []) ∷ CanWrite 1 ∷ Said 1 154 text6 ∷ wait true (1 ∷ 2 ∷ []) [] ∷ CanRead 1 ∷ Heard 1 text1099 ∷ Noted (Taken 1 547 Fetch) ∷ wait true (1 ∷ 2 ∷ []) (2 ∷ []) ∷ CanWrite 2 ∷ Asked 2 text1100 ∷ wait true (1 ∷ 2 ∷ []) [] ∷ CanRead 2 ∷ Got 2 text5 ∷ Noted (Taken 1 547 (Hit 0 0)) ∷ []))
unfolding judging front0x30
front0x31 = (_, refl)

front0x32 : (s : State) × (arrived s ≡ judge 7680 front0x31.0 (wait true (1 ∷ 2 ∷ []) (1 ∷ []) ∷ CanWrite 1 ∷ Said 1 154 text6 ∷ wait true (1 ∷ 2 ∷ []) [] ∷ CanRead 1 ∷ Heard 1 text1101 ∷ Noted (Taken 1 548 Fetch) ∷ wait true (1 ∷ 2 ∷ []) (2 ∷ []) ∷ CanWrite 2 ∷ Asked 2 text1102 ∷ wait true (1 ∷ 2 ∷ []) [] ∷ CanRead 2 ∷ Got 2 text5 ∷ Noted (Taken 1 548 (Hit 0 0)) ∷ wait true (1 ∷ 2 ∷ []) (1 ∷ []) ∷ CanWrite 1 ∷ Said 1 154 text6 ∷ wait true (1 ∷ 2 ∷ []) [] ∷ CanRead 1 ∷ Heard 1 text1103 ∷ Noted (Taken 1 549 Fetch) ∷ wait true (1 ∷ 2 ∷ []) (2 ∷ []) ∷ CanWrite 2 ∷ Asked 2 text1104 ∷ wait true (1 ∷ 2 ∷ []) [] ∷ CanRead 2 ∷ Got 2 text5 ∷ Noted (Taken 1 549 (Hit 0 0)) ∷ wait true (1 ∷ 2 ∷ []) (1 ∷ []) ∷ CanWrite 1 ∷ Said 1 154 text6 ∷ wait true (1 ∷ 2 ∷ []) [] ∷ CanRead 1 ∷ Heard 1 text1105 ∷ Noted (Taken 1 550 Fetch) ∷ wait true (1 ∷ 2 ∷ []) (2 ∷ []) ∷ CanWrite 2 ∷ Asked 2 text1106 ∷ wait true (1 ∷ 2 ∷ []) [] ∷ CanRead 2 ∷ Got 2 text5 ∷ Noted (Taken 1 550 (Hit 0 0)) ∷ wait true (1 ∷ 2 ∷ []) (1 ∷ []) ∷ CanWrite 1 ∷ Said 1 154 text6 ∷ wait true (1 ∷ 2 ∷ []) [] ∷ CanRead 1 ∷ Heard 1 text1107 ∷ Noted (Taken 1 551 Fetch) ∷ wait true (1 ∷ 2 ∷ []) (2 ∷ []) ∷ CanWrite 2 ∷ Asked 2 text1108 ∷ wait true (1 ∷ 2 ∷ []) [] ∷ CanRead 2 ∷ Got 2 text5 ∷ Noted (Taken 1 551 (Hit 0 0)) ∷ wait true (1 ∷ 2 ∷ []) (1 ∷ []) ∷ CanWrite 1 ∷ Said 1 154 text6 ∷ wait true (1 ∷ 2 ∷ []) [] ∷ CanRead 1 ∷ Heard 1 text1109 ∷ Noted (Taken 1 552 Fetch) ∷ wait true (1 ∷ 2 ∷ []) (2 ∷ []) ∷ CanWrite 2 ∷ Asked 2 text1110 ∷ wait true (1 ∷ 2 ∷ []) [] ∷ CanRead 2 ∷ Got 2 text5 ∷ Noted (Taken 1 552 (Hit 0 0)) ∷ wait true (1 ∷ 2 ∷ []) (1 ∷ []) ∷ CanWrite 1 ∷ Said 1 154 text6 ∷ wait true (1 ∷ 2 ∷ []) [] ∷ CanRead 1 ∷ Heard 1 text1111 ∷ Noted (Taken 1 553 Fetch) ∷ wait true (1 ∷ 2 ∷ []) (2 ∷ []) ∷ CanWrite 2 ∷ Asked 2 text1112 ∷ wait true (1 ∷ 2 ∷ []) [] ∷ CanRead 2 ∷ Got 2 text5 ∷ Noted (Taken 1 553 (Hit 0 0)) ∷ wait true (1 ∷ 2 ∷ []) (1 ∷ []) ∷ CanWrite 1 ∷ Said 1 154 text6 ∷ wait true (1 ∷ 2 ∷ []) [] ∷ CanRead 1 ∷ Heard 1 text1113 ∷ Noted (Taken 1 554 Fetch) ∷ wait true (1 ∷ 2 ∷ []) (2 ∷ []) ∷ CanWrite 2 ∷ Asked 2 text1114 ∷ wait true (1 ∷ 2 ∷ []) [] ∷ CanRead 2 ∷ Got 2 text5 ∷ Noted (Taken 1 554 (Hit 0 0)) ∷ wait true (1 ∷ 2 ∷ []) (1 ∷ []) ∷ CanWrite 1 ∷ Said 1 154 text6 ∷ wait true (1 ∷ 2 ∷ []) [] ∷ CanRead 1 ∷ Heard 1 text1115 ∷ Noted (Taken 1 555 Fetch) ∷ wait true (1 ∷ 2 ∷ []) (2 ∷ []) ∷ CanWrite 2 ∷ Asked 2 text1116 ∷ wait true (1 ∷ 2 ∷ []) [] ∷ CanRead 2 ∷ Got 2 text5 ∷ Noted (Taken 1 555 (Hit 0 0)) ∷ wait true (1 ∷ 2 ∷ []) (1 ∷ []) ∷ CanWrite 1 ∷ Said 1 154 text6 ∷ wait true (1 ∷ 2 ∷ []) [] ∷ CanRead 1 ∷ Heard 1 text1117 ∷ Noted (Taken 1 556 Fetch) ∷ wait true (1 ∷ 2 ∷ []) (2 ∷ []) ∷ CanWrite 2 ∷ Asked 2 text1118 ∷ wait true (1 ∷ 2 ∷ []) [] ∷ CanRead 2 ∷ Got 2 text5 ∷ Noted (Taken 1 556 (Hit 0 0)) ∷ wait true (1 ∷ 2 ∷ []) (1 ∷ []) ∷ CanWrite 1 ∷ Said 1 154 text6 ∷ wait true (1 ∷ 2 ∷ []) [] ∷ CanRead 1 ∷ Heard 1 text1119 ∷ Noted (Taken 1 557 Fetch) ∷ wait true (1 ∷ 2 ∷ []) (2 ∷ []) ∷ CanWrite 2 ∷ Asked 2 text1120 ∷ wait true (1 ∷ 2 ∷ []) [] ∷ CanRead 2 ∷ Got 2 text5 ∷ Noted (Taken 1 557 (Hit 0 0)) ∷ wait true (1 ∷ 2 ∷ []) (1 ∷ []) ∷ CanWrite 1 ∷ Said 1 154 text6 ∷ wait true (1 ∷ 2 ∷ []) [] ∷ CanRead 1 ∷ Heard 1 text1121 ∷ Noted (Taken 1 558 Fetch) ∷ wait true (1 ∷ 2 ∷ []) (2 ∷ []) ∷ CanWrite 2 ∷ Asked 2 text1122 ∷ wait true (1 ∷ 2 ∷ []) [] ∷ CanRead 2 ∷ Got 2 text5 ∷ Noted (Taken 1 558 (Hit 0 0)) ∷ wait true (1 ∷ 2 ∷ []) (1 ∷ []) ∷ CanWrite 1 ∷ Said 1 154 text6 ∷ wait true (1 ∷ 2 ∷ []) [] ∷ CanRead 1 ∷ Heard 1 text1123 ∷ Noted (Taken 1 559 Fetch) ∷ wait true (1 ∷ 2 ∷ []) (2 ∷ []) ∷ CanWrite 2 ∷ Asked 2 text1124 ∷ wait true (1 ∷ 2 ∷ []) [] ∷ CanRead 2 ∷ Got 2 text5 ∷ Noted (Taken 1 559 (Hit 0 0)) ∷ wait true (1 ∷ 2 ∷ []) (1 ∷ []) ∷ CanWrite 1 ∷ Said 1 154 text6 ∷ wait true (1 ∷ 2 ∷ []) [] ∷ CanRead 1 ∷ Heard 1 text1125 ∷ Noted (Taken 1 560 Fetch) ∷ wait true (1 ∷ 2 ∷ []) (2 ∷ []) ∷ CanWrite 2 ∷ Asked 2 text1126 ∷ wait true (1 ∷ 2 ∷ []) [] ∷ CanRead 2 ∷ Got 2 text5 ∷ Noted (Taken 1 560 (Hit 0 0)) ∷ wait true (1 ∷ 2 ∷ []) (1 ∷ []) ∷ CanWrite 1 ∷ Said 1 154 text6 ∷ wait true (1 ∷ 2 ∷ []) [] ∷ CanRead 1 ∷ Heard 1 text1127 ∷ Noted (Taken 1 561 Fetch) ∷ wait true (1 ∷ 2 ∷ []) (2 ∷ []) ∷ CanWrite 2 ∷ Asked 2 text1128 ∷ wait true (1 ∷ 2 ∷ []) [] ∷ CanRead 2 ∷ Got 2 text5 ∷ Noted (Taken 1 561 (Hit 0 0)) ∷ wait true (1 ∷ 2 ∷ []) (1 ∷ []) ∷ CanWrite 1 ∷ Said 1 154 text6 ∷ wait true (1 ∷ 2 ∷ []) [] ∷ CanRead 1 ∷ Heard 1 text1129 ∷ Noted (Taken 1 562 Fetch) ∷ wait true (1 ∷ 2 ∷ []) (2 ∷ []) ∷ CanWrite 2 ∷ Asked 2 text1130 ∷ wait true (1 ∷ 2 ∷ []) [] ∷ CanRead 2 ∷ Got 2 text5 ∷ Noted (Taken 1 562 (Hit 0 0)) ∷ wait true (1 ∷ 2 ∷ []) (1 ∷ []) ∷ CanWrite 1 ∷ Said 1 154 text6 ∷ wait true (1 ∷ 2 ∷ []) [] ∷ CanRead 1 ∷ Heard 1 text1131 ∷ Noted (Taken 1 563 Fetch) ∷ wait true (1 ∷ 2 ∷ []) (2 ∷ []) ∷ CanWrite 2 ∷ Asked 2 text1132 ∷ wait true (1 ∷ 2 ∷ []) [] ∷ CanRead 2 ∷ Got 2 text5 ∷ Noted (Taken 1 563 (Hit 0 0)) ∷ wait true (1 ∷ 2 ∷ []) (1 ∷ []) ∷ CanWrite 1 ∷ Said 1 154 text6 ∷ wait true (1 ∷ 2 ∷ []) [] ∷ CanRead 1 ∷ Heard 1 text1133 ∷ Noted (Taken 1 564 Fetch) ∷ wait true (1 ∷ 2 ∷ []) (2 ∷ []) ∷ CanWrite 2 ∷ Asked 2 text1134 ∷ wait true (1 ∷ 2 ∷ []) [] ∷ CanRead 2 ∷ Got 2 text5 ∷ Noted (Taken 1 564 (Hit 0 0)) ∷ wait true (1 ∷ 2 ∷ []) (1 ∷ []) ∷ CanWrite 1 ∷ []))
unfolding judging front0x31
front0x32 = (_, refl)

front0x33 : (s : State) × (arrived s ≡ judge 7920 front0x32.0 (Said 1 154 text6 ∷ wait true (1 ∷ 2 ∷ []) [] ∷ CanRead 1 ∷ Heard 1 text1135 ∷ Noted (Taken 1 565 Fetch) ∷ wait true (1 ∷ 2 ∷ []) (2 ∷ []) ∷ CanWrite 2 ∷ Asked 2 text1136 ∷ wait true (1 ∷ 2 ∷ []) [] ∷ CanRead 2 ∷ Got 2 text5 ∷ Noted (Taken 1 565 (Hit 0 0)) ∷ wait true (1 ∷ 2 ∷ []) (1 ∷ []) ∷ CanWrite 1 ∷ Said 1 154 text6 ∷ wait true (1 ∷ 2 ∷ []) [] ∷ CanRead 1 ∷ Heard 1 text1137 ∷ Noted (Taken 1 566 Fetch) ∷ wait true (1 ∷ 2 ∷ []) (2 ∷ []) ∷ CanWrite 2 ∷ Asked 2 text1138 ∷ wait true (1 ∷ 2 ∷ []) [] ∷ CanRead 2 ∷ Got 2 text5 ∷ Noted (Taken 1 566 (Hit 0 0)) ∷ wait true (1 ∷ 2 ∷ []) (1 ∷ []) ∷ CanWrite 1 ∷ Said 1 154 text6 ∷ wait true (1 ∷ 2 ∷ []) [] ∷ CanRead 1 ∷ Heard 1 text1139 ∷ Noted (Taken 1 567 Fetch) ∷ wait true (1 ∷ 2 ∷ []) (2 ∷ []) ∷ CanWrite 2 ∷ Asked 2 text1140 ∷ wait true (1 ∷ 2 ∷ []) [] ∷ CanRead 2 ∷ Got 2 text5 ∷ Noted (Taken 1 567 (Hit 0 0)) ∷ wait true (1 ∷ 2 ∷ []) (1 ∷ []) ∷ CanWrite 1 ∷ Said 1 154 text6 ∷ wait true (1 ∷ 2 ∷ []) [] ∷ CanRead 1 ∷ Heard 1 text1141 ∷ Noted (Taken 1 568 Fetch) ∷ wait true (1 ∷ 2 ∷ []) (2 ∷ []) ∷ CanWrite 2 ∷ Asked 2 text1142 ∷ wait true (1 ∷ 2 ∷ []) [] ∷ CanRead 2 ∷ Got 2 text5 ∷ Noted (Taken 1 568 (Hit 0 0)) ∷ wait true (1 ∷ 2 ∷ []) (1 ∷ []) ∷ CanWrite 1 ∷ Said 1 154 text6 ∷ wait true (1 ∷ 2 ∷ []) [] ∷ CanRead 1 ∷ Heard 1 text1143 ∷ Noted (Taken 1 569 Fetch) ∷ wait true (1 ∷ 2 ∷ []) (2 ∷ []) ∷ CanWrite 2 ∷ Asked 2 text1144 ∷ wait true (1 ∷ 2 ∷ []) [] ∷ CanRead 2 ∷ Got 2 text5 ∷ Noted (Taken 1 569 (Hit 0 0)) ∷ wait true (1 ∷ 2 ∷ []) (1 ∷ []) ∷ CanWrite 1 ∷ Said 1 154 text6 ∷ wait true (1 ∷ 2 ∷ []) [] ∷ CanRead 1 ∷ Heard 1 text1145 ∷ Noted (Taken 1 570 Fetch) ∷ wait true (1 ∷ 2 ∷ []) (2 ∷ []) ∷ CanWrite 2 ∷ Asked 2 text1146 ∷ wait true (1 ∷ 2 ∷ []) [] ∷ CanRead 2 ∷ Got 2 text5 ∷ Noted (Taken 1 570 (Hit 0 0)) ∷ wait true (1 ∷ 2 ∷ []) (1 ∷ []) ∷ CanWrite 1 ∷ Said 1 154 text6 ∷ wait true (1 ∷ 2 ∷ []) [] ∷ CanRead 1 ∷ Heard 1 text1147 ∷ Noted (Taken 1 571 Fetch) ∷ wait true (1 ∷ 2 ∷ []) (2 ∷ []) ∷ CanWrite 2 ∷ Asked 2 text1148 ∷ wait true (1 ∷ 2 ∷ []) [] ∷ CanRead 2 ∷ Got 2 text5 ∷ Noted (Taken 1 571 (Hit 0 0)) ∷ wait true (1 ∷ 2 ∷ []) (1 ∷ []) ∷ CanWrite 1 ∷ Said 1 154 text6 ∷ wait true (1 ∷ 2 ∷ []) [] ∷ CanRead 1 ∷ Heard 1 text1149 ∷ Noted (Taken 1 572 Fetch) ∷ wait true (1 ∷ 2 ∷ []) (2 ∷ []) ∷ CanWrite 2 ∷ Asked 2 text1150 ∷ wait true (1 ∷ 2 ∷ []) [] ∷ CanRead 2 ∷ Got 2 text5 ∷ Noted (Taken 1 572 (Hit 0 0)) ∷ wait true (1 ∷ 2 ∷ []) (1 ∷ []) ∷ CanWrite 1 ∷ Said 1 154 text6 ∷ wait true (1 ∷ 2 ∷ []) [] ∷ CanRead 1 ∷ Heard 1 text1151 ∷ Noted (Taken 1 573 Fetch) ∷ wait true (1 ∷ 2 ∷ []) (2 ∷ []) ∷ CanWrite 2 ∷ Asked 2 text1152 ∷ wait true (1 ∷ 2 ∷ []) [] ∷ CanRead 2 ∷ Got 2 text5 ∷ Noted (Taken 1 573 (Hit 0 0)) ∷ wait true (1 ∷ 2 ∷ []) (1 ∷ []) ∷ CanWrite 1 ∷ Said 1 154 text6 ∷ wait true (1 ∷ 2 ∷ []) [] ∷ CanRead 1 ∷ Heard 1 text1153 ∷ Noted (Taken 1 574 Fetch) ∷ wait true (1 ∷ 2 ∷ []) (2 ∷ []) ∷ CanWrite 2 ∷ Asked 2 text1154 ∷ wait true (1 ∷ 2 ∷ []) [] ∷ CanRead 2 ∷ Got 2 text5 ∷ Noted (Taken 1 574 (Hit 0 0)) ∷ wait true (1 ∷ 2 ∷ []) (1 ∷ []) ∷ CanWrite 1 ∷ Said 1 154 text6 ∷ wait true (1 ∷ 2 ∷ []) [] ∷ CanRead 1 ∷ Heard 1 text1155 ∷ Noted (Taken 1 575 Fetch) ∷ wait true (1 ∷ 2 ∷ []) (2 ∷ []) ∷ CanWrite 2 ∷ Asked 2 text1156 ∷ wait true (1 ∷ 2 ∷ []) [] ∷ CanRead 2 ∷ Got 2 text5 ∷ Noted (Taken 1 575 (Hit 0 0)) ∷ wait true (1 ∷ 2 ∷ []) (1 ∷ []) ∷ CanWrite 1 ∷ Said 1 154 text6 ∷ wait true (1 ∷ 2 ∷ []) [] ∷ CanRead 1 ∷ Heard 1 text1157 ∷ Noted (Taken 1 576 Fetch) ∷ wait true (1 ∷ 2 ∷ []) (2 ∷ []) ∷ CanWrite 2 ∷ Asked 2 text1158 ∷ wait true (1 ∷ 2 ∷ []) [] ∷ CanRead 2 ∷ Got 2 text5 ∷ Noted (Taken 1 576 (Hit 0 0)) ∷ wait true (1 ∷ 2 ∷ []) (1 ∷ []) ∷ CanWrite 1 ∷ Said 1 154 text6 ∷ wait true (1 ∷ 2 ∷ []) [] ∷ CanRead 1 ∷ Heard 1 text1159 ∷ Noted (Taken 1 577 Fetch) ∷ wait true (1 ∷ 2 ∷ []) (2 ∷ []) ∷ CanWrite 2 ∷ Asked 2 text1160 ∷ wait true (1 ∷ 2 ∷ []) [] ∷ CanRead 2 ∷ Got 2 text5 ∷ Noted (Taken 1 577 (Hit 0 0)) ∷ wait true (1 ∷ 2 ∷ []) (1 ∷ []) ∷ CanWrite 1 ∷ Said 1 154 text6 ∷ wait true (1 ∷ 2 ∷ []) [] ∷ CanRead 1 ∷ Heard 1 text1161 ∷ Noted (Taken 1 578 Fetch) ∷ wait true (1 ∷ 2 ∷ []) (2 ∷ []) ∷ CanWrite 2 ∷ Asked 2 text1162 ∷ wait true (1 ∷ 2 ∷ []) [] ∷ CanRead 2 ∷ Got 2 text5 ∷ Noted (Taken 1 578 (Hit 0 0)) ∷ wait true (1 ∷ 2 ∷ []) (1 ∷ []) ∷ CanWrite 1 ∷ Said 1 154 text6 ∷ wait true (1 ∷ 2 ∷ []) [] ∷ CanRead 1 ∷ Heard 1 text1163 ∷ Noted (Taken 1 579 Fetch) ∷ wait true (1 ∷ 2 ∷ []) (2 ∷ []) ∷ CanWrite 2 ∷ Asked 2 text1164 ∷ wait true (1 ∷ 2 ∷ []) [] ∷ CanRead 2 ∷ Got 2 text5 ∷ Noted (Taken 1 579 (Hit 0 0)) ∷ wait true (1 ∷ 2 ∷ []) (1 ∷ []) ∷ CanWrite 1 ∷ Said 1 154 text6 ∷ wait true (1 ∷ 2 ∷ []) [] ∷ CanRead 1 ∷ Heard 1 text1165 ∷ Noted (Taken 1 580 Fetch) ∷ wait true (1 ∷ 2 ∷ []) (2 ∷ []) ∷ CanWrite 2 ∷ Asked 2 text1166 ∷ wait true (1 ∷ 2 ∷ []) [] ∷ CanRead 2 ∷ Got 2 text5 ∷ Noted (Taken 1 580 (Hit 0 0)) ∷ wait true (1 ∷ 2 ∷ []) (1 ∷ []) ∷ CanWrite 1 ∷ Said 1 154 text6 ∷ wait true (1 ∷ 2 ∷ []) [] ∷ CanRead 1 ∷ Heard 1 text1167 ∷ Noted (Taken 1 581 Fetch) ∷ wait true (1 ∷ 2 ∷ []) (2 ∷ []) ∷ CanWrite 2 ∷ Asked 2 text1168 ∷ wait true (1 ∷ 2 ∷ []) [] ∷ CanRead 2 ∷ Got 2 text5 ∷ Noted (Taken 1 581 (Hit 0 0)) ∷ wait true (1 ∷ 2 ∷ []) (1 ∷ []) ∷ CanWrite 1 ∷ Said 1 154 text6 ∷ wait true (1 ∷ 2 ∷ []) [] ∷ []))
unfolding judging front0x32
front0x33 = (_, refl)

front0x34 : (s : State) × (arrived s ≡ judge 8160 front0x33.0 (CanRead 1 ∷ Heard 1 text1169 ∷ Noted (Taken 1 582 Fetch) ∷ wait true (1 ∷ 2 ∷ []) (2 ∷ []) ∷ CanWrite 2 ∷ Asked 2 text1170 ∷ wait true (1 ∷ 2 ∷ []) [] ∷ CanRead 2 ∷ Got 2 text5 ∷ Noted (Taken 1 582 (Hit 0 0)) ∷ wait true (1 ∷ 2 ∷ []) (1 ∷ []) ∷ CanWrite 1 ∷ Said 1 154 text6 ∷ wait true (1 ∷ 2 ∷ []) [] ∷ CanRead 1 ∷ Heard 1 text1171 ∷ Noted (Taken 1 583 Fetch) ∷ wait true (1 ∷ 2 ∷ []) (2 ∷ []) ∷ CanWrite 2 ∷ Asked 2 text1172 ∷ wait true (1 ∷ 2 ∷ []) [] ∷ CanRead 2 ∷ Got 2 text5 ∷ Noted (Taken 1 583 (Hit 0 0)) ∷ wait true (1 ∷ 2 ∷ []) (1 ∷ []) ∷ CanWrite 1 ∷ Said 1 154 text6 ∷ wait true (1 ∷ 2 ∷ []) [] ∷ CanRead 1 ∷ Heard 1 text1173 ∷ Noted (Taken 1 584 Fetch) ∷ wait true (1 ∷ 2 ∷ []) (2 ∷ []) ∷ CanWrite 2 ∷ Asked 2 text1174 ∷ wait true (1 ∷ 2 ∷ []) [] ∷ CanRead 2 ∷ Got 2 text5 ∷ Noted (Taken 1 584 (Hit 0 0)) ∷ wait true (1 ∷ 2 ∷ []) (1 ∷ []) ∷ CanWrite 1 ∷ Said 1 154 text6 ∷ wait true (1 ∷ 2 ∷ []) [] ∷ CanRead 1 ∷ Heard 1 text1175 ∷ Noted (Taken 1 585 Fetch) ∷ wait true (1 ∷ 2 ∷ []) (2 ∷ []) ∷ CanWrite 2 ∷ Asked 2 text1176 ∷ wait true (1 ∷ 2 ∷ []) [] ∷ CanRead 2 ∷ Got 2 text5 ∷ Noted (Taken 1 585 (Hit 0 0)) ∷ wait true (1 ∷ 2 ∷ []) (1 ∷ []) ∷ CanWrite 1 ∷ Said 1 154 text6 ∷ wait true (1 ∷ 2 ∷ []) [] ∷ CanRead 1 ∷ Heard 1 text1177 ∷ Noted (Taken 1 586 Fetch) ∷ wait true (1 ∷ 2 ∷ []) (2 ∷ []) ∷ CanWrite 2 ∷ Asked 2 text1178 ∷ wait true (1 ∷ 2 ∷ []) [] ∷ CanRead 2 ∷ Got 2 text5 ∷ Noted (Taken 1 586 (Hit 0 0)) ∷ wait true (1 ∷ 2 ∷ []) (1 ∷ []) ∷ CanWrite 1 ∷ Said 1 154 text6 ∷ wait true (1 ∷ 2 ∷ []) [] ∷ CanRead 1 ∷ Heard 1 text1179 ∷ Noted (Taken 1 587 Fetch) ∷ wait true (1 ∷ 2 ∷ []) (2 ∷ []) ∷ CanWrite 2 ∷ Asked 2 text1180 ∷ wait true (1 ∷ 2 ∷ []) [] ∷ CanRead 2 ∷ Got 2 text5 ∷ Noted (Taken 1 587 (Hit 0 0)) ∷ wait true (1 ∷ 2 ∷ []) (1 ∷ []) ∷ CanWrite 1 ∷ Said 1 154 text6 ∷ wait true (1 ∷ 2 ∷ []) [] ∷ CanRead 1 ∷ Heard 1 text1181 ∷ Noted (Taken 1 588 Fetch) ∷ wait true (1 ∷ 2 ∷ []) (2 ∷ []) ∷ CanWrite 2 ∷ Asked 2 text1182 ∷ wait true (1 ∷ 2 ∷ []) [] ∷ CanRead 2 ∷ Got 2 text5 ∷ Noted (Taken 1 588 (Hit 0 0)) ∷ wait true (1 ∷ 2 ∷ []) (1 ∷ []) ∷ CanWrite 1 ∷ Said 1 154 text6 ∷ wait true (1 ∷ 2 ∷ []) [] ∷ CanRead 1 ∷ Heard 1 text1183 ∷ Noted (Taken 1 589 Fetch) ∷ wait true (1 ∷ 2 ∷ []) (2 ∷ []) ∷ CanWrite 2 ∷ Asked 2 text1184 ∷ wait true (1 ∷ 2 ∷ []) [] ∷ CanRead 2 ∷ Got 2 text5 ∷ Noted (Taken 1 589 (Hit 0 0)) ∷ wait true (1 ∷ 2 ∷ []) (1 ∷ []) ∷ CanWrite 1 ∷ Said 1 154 text6 ∷ wait true (1 ∷ 2 ∷ []) [] ∷ CanRead 1 ∷ Heard 1 text1185 ∷ Noted (Taken 1 590 Fetch) ∷ wait true (1 ∷ 2 ∷ []) (2 ∷ []) ∷ CanWrite 2 ∷ Asked 2 text1186 ∷ wait true (1 ∷ 2 ∷ []) [] ∷ CanRead 2 ∷ Got 2 text5 ∷ Noted (Taken 1 590 (Hit 0 0)) ∷ wait true (1 ∷ 2 ∷ []) (1 ∷ []) ∷ CanWrite 1 ∷ Said 1 154 text6 ∷ wait true (1 ∷ 2 ∷ []) [] ∷ CanRead 1 ∷ Heard 1 text1187 ∷ Noted (Taken 1 591 Fetch) ∷ wait true (1 ∷ 2 ∷ []) (2 ∷ []) ∷ CanWrite 2 ∷ Asked 2 text1188 ∷ wait true (1 ∷ 2 ∷ []) [] ∷ CanRead 2 ∷ Got 2 text5 ∷ Noted (Taken 1 591 (Hit 0 0)) ∷ wait true (1 ∷ 2 ∷ []) (1 ∷ []) ∷ CanWrite 1 ∷ Said 1 154 text6 ∷ wait true (1 ∷ 2 ∷ []) [] ∷ CanRead 1 ∷ Heard 1 text1189 ∷ Noted (Taken 1 592 Fetch) ∷ wait true (1 ∷ 2 ∷ []) (2 ∷ []) ∷ CanWrite 2 ∷ Asked 2 text1190 ∷ wait true (1 ∷ 2 ∷ []) [] ∷ CanRead 2 ∷ Got 2 text5 ∷ Noted (Taken 1 592 (Hit 0 0)) ∷ wait true (1 ∷ 2 ∷ []) (1 ∷ []) ∷ CanWrite 1 ∷ Said 1 154 text6 ∷ wait true (1 ∷ 2 ∷ []) [] ∷ CanRead 1 ∷ Heard 1 text1191 ∷ Noted (Taken 1 593 Fetch) ∷ wait true (1 ∷ 2 ∷ []) (2 ∷ []) ∷ CanWrite 2 ∷ Asked 2 text1192 ∷ wait true (1 ∷ 2 ∷ []) [] ∷ CanRead 2 ∷ Got 2 text5 ∷ Noted (Taken 1 593 (Hit 0 0)) ∷ wait true (1 ∷ 2 ∷ []) (1 ∷ []) ∷ CanWrite 1 ∷ Said 1 154 text6 ∷ wait true (1 ∷ 2 ∷ []) [] ∷ CanRead 1 ∷ Heard 1 text1193 ∷ Noted (Taken 1 594 Fetch) ∷ wait true (1 ∷ 2 ∷ []) (2 ∷ []) ∷ CanWrite 2 ∷ Asked 2 text1194 ∷ wait true (1 ∷ 2 ∷ []) [] ∷ CanRead 2 ∷ Got 2 text5 ∷ Noted (Taken 1 594 (Hit 0 0)) ∷ wait true (1 ∷ 2 ∷ []) (1 ∷ []) ∷ CanWrite 1 ∷ Said 1 154 text6 ∷ wait true (1 ∷ 2 ∷ []) [] ∷ CanRead 1 ∷ Heard 1 text1195 ∷ Noted (Taken 1 595 Fetch) ∷ wait true (1 ∷ 2 ∷ []) (2 ∷ []) ∷ CanWrite 2 ∷ Asked 2 text1196 ∷ wait true (1 ∷ 2 ∷ []) [] ∷ CanRead 2 ∷ Got 2 text5 ∷ Noted (Taken 1 595 (Hit 0 0)) ∷ wait true (1 ∷ 2 ∷ []) (1 ∷ []) ∷ CanWrite 1 ∷ Said 1 154 text6 ∷ wait true (1 ∷ 2 ∷ []) [] ∷ CanRead 1 ∷ Heard 1 text1197 ∷ Noted (Taken 1 596 Fetch) ∷ wait true (1 ∷ 2 ∷ []) (2 ∷ []) ∷ CanWrite 2 ∷ Asked 2 text1198 ∷ wait true (1 ∷ 2 ∷ []) [] ∷ CanRead 2 ∷ Got 2 text5 ∷ Noted (Taken 1 596 (Hit 0 0)) ∷ wait true (1 ∷ 2 ∷ []) (1 ∷ []) ∷ CanWrite 1 ∷ Said 1 154 text6 ∷ wait true (1 ∷ 2 ∷ []) [] ∷ CanRead 1 ∷ Heard 1 text1199 ∷ Noted (Taken 1 597 Fetch) ∷ wait true (1 ∷ 2 ∷ []) (2 ∷ []) ∷ CanWrite 2 ∷ Asked 2 text1200 ∷ wait true (1 ∷ 2 ∷ []) [] ∷ CanRead 2 ∷ Got 2 text5 ∷ Noted (Taken 1 597 (Hit 0 0)) ∷ wait true (1 ∷ 2 ∷ []) (1 ∷ []) ∷ CanWrite 1 ∷ Said 1 154 text6 ∷ wait true (1 ∷ 2 ∷ []) [] ∷ CanRead 1 ∷ Heard 1 text1201 ∷ Noted (Taken 1 598 Fetch) ∷ wait true (1 ∷ 2 ∷ []) (2 ∷ []) ∷ CanWrite 2 ∷ Asked 2 text1202 ∷ wait true (1 ∷ 2 ∷ []) [] ∷ CanRead 2 ∷ Got 2 text5 ∷ Noted (Taken 1 598 (Hit 0 0)) ∷ wait true (1 ∷ 2 ∷ []) (1 ∷ []) ∷ CanWrite 1 ∷ Said 1 154 text6 ∷ wait true (1 ∷ 2 ∷ []) [] ∷ CanRead 1 ∷ Heard 1 text1203 ∷ []))
unfolding judging front0x33
front0x34 = (_, refl)

front0x35 : (s : State) × (arrived s ≡ judge 8400 front0x34.0 (Noted (Taken 1 599 Fetch) ∷ wait true (1 ∷ 2 ∷ []) (2 ∷ []) ∷ CanWrite 2 ∷ Asked 2 text1204 ∷ wait true (1 ∷ 2 ∷ []) [] ∷ CanRead 2 ∷ Got 2 text5 ∷ Noted (Taken 1 599 (Hit 0 0)) ∷ wait true (1 ∷ 2 ∷ []) (1 ∷ []) ∷ CanWrite 1 ∷ Said 1 154 text6 ∷ wait true (1 ∷ 2 ∷ []) [] ∷ CanRead 1 ∷ Heard 1 text1205 ∷ Noted (Taken 1 600 Fetch) ∷ wait true (1 ∷ 2 ∷ []) (2 ∷ []) ∷ CanWrite 2 ∷ Asked 2 text1206 ∷ wait true (1 ∷ 2 ∷ []) [] ∷ CanRead 2 ∷ Got 2 text5 ∷ Noted (Taken 1 600 (Hit 0 0)) ∷ wait true (1 ∷ 2 ∷ []) (1 ∷ []) ∷ CanWrite 1 ∷ Said 1 154 text6 ∷ wait true (1 ∷ 2 ∷ []) [] ∷ CanRead 1 ∷ Heard 1 text1207 ∷ Noted (Taken 1 601 Fetch) ∷ wait true (1 ∷ 2 ∷ []) (2 ∷ []) ∷ CanWrite 2 ∷ Asked 2 text1208 ∷ wait true (1 ∷ 2 ∷ []) [] ∷ CanRead 2 ∷ Got 2 text5 ∷ Noted (Taken 1 601 (Hit 0 0)) ∷ wait true (1 ∷ 2 ∷ []) (1 ∷ []) ∷ CanWrite 1 ∷ Said 1 154 text6 ∷ wait true (1 ∷ 2 ∷ []) [] ∷ CanRead 1 ∷ Heard 1 text1209 ∷ Noted (Taken 1 602 Fetch) ∷ wait true (1 ∷ 2 ∷ []) (2 ∷ []) ∷ CanWrite 2 ∷ Asked 2 text1210 ∷ wait true (1 ∷ 2 ∷ []) [] ∷ CanRead 2 ∷ Got 2 text5 ∷ Noted (Taken 1 602 (Hit 0 0)) ∷ wait true (1 ∷ 2 ∷ []) (1 ∷ []) ∷ CanWrite 1 ∷ Said 1 154 text6 ∷ wait true (1 ∷ 2 ∷ []) [] ∷ CanRead 1 ∷ Heard 1 text1211 ∷ Noted (Taken 1 603 Fetch) ∷ wait true (1 ∷ 2 ∷ []) (2 ∷ []) ∷ CanWrite 2 ∷ Asked 2 text1212 ∷ wait true (1 ∷ 2 ∷ []) [] ∷ CanRead 2 ∷ Got 2 text5 ∷ Noted (Taken 1 603 (Hit 0 0)) ∷ wait true (1 ∷ 2 ∷ []) (1 ∷ []) ∷ CanWrite 1 ∷ Said 1 154 text6 ∷ wait true (1 ∷ 2 ∷ []) [] ∷ CanRead 1 ∷ Heard 1 text1213 ∷ Noted (Taken 1 604 Fetch) ∷ wait true (1 ∷ 2 ∷ []) (2 ∷ []) ∷ CanWrite 2 ∷ Asked 2 text1214 ∷ wait true (1 ∷ 2 ∷ []) [] ∷ CanRead 2 ∷ Got 2 text5 ∷ Noted (Taken 1 604 (Hit 0 0)) ∷ wait true (1 ∷ 2 ∷ []) (1 ∷ []) ∷ CanWrite 1 ∷ Said 1 154 text6 ∷ wait true (1 ∷ 2 ∷ []) [] ∷ CanRead 1 ∷ Heard 1 text1215 ∷ Noted (Taken 1 605 Fetch) ∷ wait true (1 ∷ 2 ∷ []) (2 ∷ []) ∷ CanWrite 2 ∷ Asked 2 text1216 ∷ wait true (1 ∷ 2 ∷ []) [] ∷ CanRead 2 ∷ Got 2 text5 ∷ Noted (Taken 1 605 (Hit 0 0)) ∷ wait true (1 ∷ 2 ∷ []) (1 ∷ []) ∷ CanWrite 1 ∷ Said 1 154 text6 ∷ wait true (1 ∷ 2 ∷ []) [] ∷ CanRead 1 ∷ Heard 1 text1217 ∷ Noted (Taken 1 606 Fetch) ∷ wait true (1 ∷ 2 ∷ []) (2 ∷ []) ∷ CanWrite 2 ∷ Asked 2 text1218 ∷ wait true (1 ∷ 2 ∷ []) [] ∷ CanRead 2 ∷ Got 2 text5 ∷ Noted (Taken 1 606 (Hit 0 0)) ∷ wait true (1 ∷ 2 ∷ []) (1 ∷ []) ∷ CanWrite 1 ∷ Said 1 154 text6 ∷ wait true (1 ∷ 2 ∷ []) [] ∷ CanRead 1 ∷ Heard 1 text1219 ∷ Noted (Taken 1 607 Fetch) ∷ wait true (1 ∷ 2 ∷ []) (2 ∷ []) ∷ CanWrite 2 ∷ Asked 2 text1220 ∷ wait true (1 ∷ 2 ∷ []) [] ∷ CanRead 2 ∷ Got 2 text5 ∷ Noted (Taken 1 607 (Hit 0 0)) ∷ wait true (1 ∷ 2 ∷ []) (1 ∷ []) ∷ CanWrite 1 ∷ Said 1 154 text6 ∷ wait true (1 ∷ 2 ∷ []) [] ∷ CanRead 1 ∷ Heard 1 text1221 ∷ Noted (Taken 1 608 Fetch) ∷ wait true (1 ∷ 2 ∷ []) (2 ∷ []) ∷ CanWrite 2 ∷ Asked 2 text1222 ∷ wait true (1 ∷ 2 ∷ []) [] ∷ CanRead 2 ∷ Got 2 text5 ∷ Noted (Taken 1 608 (Hit 0 0)) ∷ wait true (1 ∷ 2 ∷ []) (1 ∷ []) ∷ CanWrite 1 ∷ Said 1 154 text6 ∷ wait true (1 ∷ 2 ∷ []) [] ∷ CanRead 1 ∷ Heard 1 text1223 ∷ Noted (Taken 1 609 Fetch) ∷ wait true (1 ∷ 2 ∷ []) (2 ∷ []) ∷ CanWrite 2 ∷ Asked 2 text1224 ∷ wait true (1 ∷ 2 ∷ []) [] ∷ CanRead 2 ∷ Got 2 text5 ∷ Noted (Taken 1 609 (Hit 0 0)) ∷ wait true (1 ∷ 2 ∷ []) (1 ∷ []) ∷ CanWrite 1 ∷ Said 1 154 text6 ∷ wait true (1 ∷ 2 ∷ []) [] ∷ CanRead 1 ∷ Heard 1 text1225 ∷ Noted (Taken 1 610 Fetch) ∷ wait true (1 ∷ 2 ∷ []) (2 ∷ []) ∷ CanWrite 2 ∷ Asked 2 text1226 ∷ wait true (1 ∷ 2 ∷ []) [] ∷ CanRead 2 ∷ Got 2 text5 ∷ Noted (Taken 1 610 (Hit 0 0)) ∷ wait true (1 ∷ 2 ∷ []) (1 ∷ []) ∷ CanWrite 1 ∷ Said 1 154 text6 ∷ wait true (1 ∷ 2 ∷ []) [] ∷ CanRead 1 ∷ Heard 1 text1227 ∷ Noted (Taken 1 611 Fetch) ∷ wait true (1 ∷ 2 ∷ []) (2 ∷ []) ∷ CanWrite 2 ∷ Asked 2 text1228 ∷ wait true (1 ∷ 2 ∷ []) [] ∷ CanRead 2 ∷ Got 2 text5 ∷ Noted (Taken 1 611 (Hit 0 0)) ∷ wait true (1 ∷ 2 ∷ []) (1 ∷ []) ∷ CanWrite 1 ∷ Said 1 154 text6 ∷ wait true (1 ∷ 2 ∷ []) [] ∷ CanRead 1 ∷ Heard 1 text1229 ∷ Noted (Taken 1 612 Fetch) ∷ wait true (1 ∷ 2 ∷ []) (2 ∷ []) ∷ CanWrite 2 ∷ Asked 2 text1230 ∷ wait true (1 ∷ 2 ∷ []) [] ∷ CanRead 2 ∷ Got 2 text5 ∷ Noted (Taken 1 612 (Hit 0 0)) ∷ wait true (1 ∷ 2 ∷ []) (1 ∷ []) ∷ CanWrite 1 ∷ Said 1 154 text6 ∷ wait true (1 ∷ 2 ∷ []) [] ∷ CanRead 1 ∷ Heard 1 text1231 ∷ Noted (Taken 1 613 Fetch) ∷ wait true (1 ∷ 2 ∷ []) (2 ∷ []) ∷ CanWrite 2 ∷ Asked 2 text1232 ∷ wait true (1 ∷ 2 ∷ []) [] ∷ CanRead 2 ∷ Got 2 text5 ∷ Noted (Taken 1 613 (Hit 0 0)) ∷ wait true (1 ∷ 2 ∷ []) (1 ∷ []) ∷ CanWrite 1 ∷ Said 1 154 text6 ∷ wait true (1 ∷ 2 ∷ []) [] ∷ CanRead 1 ∷ Heard 1 text1233 ∷ Noted (Taken 1 614 Fetch) ∷ wait true (1 ∷ 2 ∷ []) (2 ∷ []) ∷ CanWrite 2 ∷ Asked 2 text1234 ∷ wait true (1 ∷ 2 ∷ []) [] ∷ CanRead 2 ∷ Got 2 text5 ∷ Noted (Taken 1 614 (Hit 0 0)) ∷ wait true (1 ∷ 2 ∷ []) (1 ∷ []) ∷ CanWrite 1 ∷ Said 1 154 text6 ∷ wait true (1 ∷ 2 ∷ []) [] ∷ CanRead 1 ∷ Heard 1 text1235 ∷ Noted (Taken 1 615 Fetch) ∷ wait true (1 ∷ 2 ∷ []) (2 ∷ []) ∷ CanWrite 2 ∷ Asked 2 text1236 ∷ wait true (1 ∷ 2 ∷ []) [] ∷ CanRead 2 ∷ Got 2 text5 ∷ Noted (Taken 1 615 (Hit 0 0)) ∷ wait true (1 ∷ 2 ∷ []) (1 ∷ []) ∷ CanWrite 1 ∷ Said 1 154 text6 ∷ wait true (1 ∷ 2 ∷ []) [] ∷ CanRead 1 ∷ Heard 1 text1237 ∷ Noted (Taken 1 616 Fetch) ∷ wait true (1 ∷ 2 ∷ []) (2 ∷ []) ∷ []))
unfolding judging front0x34
front0x35 = (_, refl)

front0x36 : (s : State) × (arrived s ≡ judge 8640 front0x35.0 (CanWrite 2 ∷ Asked 2 text1238 ∷ wait true (1 ∷ 2 ∷ []) [] ∷ CanRead 2 ∷ Got 2 text5 ∷ Noted (Taken 1 616 (Hit 0 0)) ∷ wait true (1 ∷ 2 ∷ []) (1 ∷ []) ∷ CanWrite 1 ∷ Said 1 154 text6 ∷ wait true (1 ∷ 2 ∷ []) [] ∷ CanRead 1 ∷ Heard 1 text1239 ∷ Noted (Taken 1 617 Fetch) ∷ wait true (1 ∷ 2 ∷ []) (2 ∷ []) ∷ CanWrite 2 ∷ Asked 2 text1240 ∷ wait true (1 ∷ 2 ∷ []) [] ∷ CanRead 2 ∷ Got 2 text5 ∷ Noted (Taken 1 617 (Hit 0 0)) ∷ wait true (1 ∷ 2 ∷ []) (1 ∷ []) ∷ CanWrite 1 ∷ Said 1 154 text6 ∷ wait true (1 ∷ 2 ∷ []) [] ∷ CanRead 1 ∷ Heard 1 text1241 ∷ Noted (Taken 1 618 Fetch) ∷ wait true (1 ∷ 2 ∷ []) (2 ∷ []) ∷ CanWrite 2 ∷ Asked 2 text1242 ∷ wait true (1 ∷ 2 ∷ []) [] ∷ CanRead 2 ∷ Got 2 text5 ∷ Noted (Taken 1 618 (Hit 0 0)) ∷ wait true (1 ∷ 2 ∷ []) (1 ∷ []) ∷ CanWrite 1 ∷ Said 1 154 text6 ∷ wait true (1 ∷ 2 ∷ []) [] ∷ CanRead 1 ∷ Heard 1 text1243 ∷ Noted (Taken 1 619 Fetch) ∷ wait true (1 ∷ 2 ∷ []) (2 ∷ []) ∷ CanWrite 2 ∷ Asked 2 text1244 ∷ wait true (1 ∷ 2 ∷ []) [] ∷ CanRead 2 ∷ Got 2 text5 ∷ Noted (Taken 1 619 (Hit 0 0)) ∷ wait true (1 ∷ 2 ∷ []) (1 ∷ []) ∷ CanWrite 1 ∷ Said 1 154 text6 ∷ wait true (1 ∷ 2 ∷ []) [] ∷ CanRead 1 ∷ Heard 1 text1245 ∷ Noted (Taken 1 620 Fetch) ∷ wait true (1 ∷ 2 ∷ []) (2 ∷ []) ∷ CanWrite 2 ∷ Asked 2 text1246 ∷ wait true (1 ∷ 2 ∷ []) [] ∷ CanRead 2 ∷ Got 2 text5 ∷ Noted (Taken 1 620 (Hit 0 0)) ∷ wait true (1 ∷ 2 ∷ []) (1 ∷ []) ∷ CanWrite 1 ∷ Said 1 154 text6 ∷ wait true (1 ∷ 2 ∷ []) [] ∷ CanRead 1 ∷ Heard 1 text1247 ∷ Noted (Taken 1 621 Fetch) ∷ wait true (1 ∷ 2 ∷ []) (2 ∷ []) ∷ CanWrite 2 ∷ Asked 2 text1248 ∷ wait true (1 ∷ 2 ∷ []) [] ∷ CanRead 2 ∷ Got 2 text5 ∷ Noted (Taken 1 621 (Hit 0 0)) ∷ wait true (1 ∷ 2 ∷ []) (1 ∷ []) ∷ CanWrite 1 ∷ Said 1 154 text6 ∷ wait true (1 ∷ 2 ∷ []) [] ∷ CanRead 1 ∷ Heard 1 text1249 ∷ Noted (Taken 1 622 Fetch) ∷ wait true (1 ∷ 2 ∷ []) (2 ∷ []) ∷ CanWrite 2 ∷ Asked 2 text1250 ∷ wait true (1 ∷ 2 ∷ []) [] ∷ CanRead 2 ∷ Got 2 text5 ∷ Noted (Taken 1 622 (Hit 0 0)) ∷ wait true (1 ∷ 2 ∷ []) (1 ∷ []) ∷ CanWrite 1 ∷ Said 1 154 text6 ∷ wait true (1 ∷ 2 ∷ []) [] ∷ CanRead 1 ∷ Heard 1 text1251 ∷ Noted (Taken 1 623 Fetch) ∷ wait true (1 ∷ 2 ∷ []) (2 ∷ []) ∷ CanWrite 2 ∷ Asked 2 text1252 ∷ wait true (1 ∷ 2 ∷ []) [] ∷ CanRead 2 ∷ Got 2 text5 ∷ Noted (Taken 1 623 (Hit 0 0)) ∷ wait true (1 ∷ 2 ∷ []) (1 ∷ []) ∷ CanWrite 1 ∷ Said 1 154 text6 ∷ wait true (1 ∷ 2 ∷ []) [] ∷ CanRead 1 ∷ Heard 1 text1253 ∷ Noted (Taken 1 624 Fetch) ∷ wait true (1 ∷ 2 ∷ []) (2 ∷ []) ∷ CanWrite 2 ∷ Asked 2 text1254 ∷ wait true (1 ∷ 2 ∷ []) [] ∷ CanRead 2 ∷ Got 2 text5 ∷ Noted (Taken 1 624 (Hit 0 0)) ∷ wait true (1 ∷ 2 ∷ []) (1 ∷ []) ∷ CanWrite 1 ∷ Said 1 154 text6 ∷ wait true (1 ∷ 2 ∷ []) [] ∷ CanRead 1 ∷ Heard 1 text1255 ∷ Noted (Taken 1 625 Fetch) ∷ wait true (1 ∷ 2 ∷ []) (2 ∷ []) ∷ CanWrite 2 ∷ Asked 2 text1256 ∷ wait true (1 ∷ 2 ∷ []) [] ∷ CanRead 2 ∷ Got 2 text5 ∷ Noted (Taken 1 625 (Hit 0 0)) ∷ wait true (1 ∷ 2 ∷ []) (1 ∷ []) ∷ CanWrite 1 ∷ Said 1 154 text6 ∷ wait true (1 ∷ 2 ∷ []) [] ∷ CanRead 1 ∷ Heard 1 text1257 ∷ Noted (Taken 1 626 Fetch) ∷ wait true (1 ∷ 2 ∷ []) (2 ∷ []) ∷ CanWrite 2 ∷ Asked 2 text1258 ∷ wait true (1 ∷ 2 ∷ []) [] ∷ CanRead 2 ∷ Got 2 text5 ∷ Noted (Taken 1 626 (Hit 0 0)) ∷ wait true (1 ∷ 2 ∷ []) (1 ∷ []) ∷ CanWrite 1 ∷ Said 1 154 text6 ∷ wait true (1 ∷ 2 ∷ []) [] ∷ CanRead 1 ∷ Heard 1 text1259 ∷ Noted (Taken 1 627 Fetch) ∷ wait true (1 ∷ 2 ∷ []) (2 ∷ []) ∷ CanWrite 2 ∷ Asked 2 text1260 ∷ wait true (1 ∷ 2 ∷ []) [] ∷ CanRead 2 ∷ Got 2 text5 ∷ Noted (Taken 1 627 (Hit 0 0)) ∷ wait true (1 ∷ 2 ∷ []) (1 ∷ []) ∷ CanWrite 1 ∷ Said 1 154 text6 ∷ wait true (1 ∷ 2 ∷ []) [] ∷ CanRead 1 ∷ Heard 1 text1261 ∷ Noted (Taken 1 628 Fetch) ∷ wait true (1 ∷ 2 ∷ []) (2 ∷ []) ∷ CanWrite 2 ∷ Asked 2 text1262 ∷ wait true (1 ∷ 2 ∷ []) [] ∷ CanRead 2 ∷ Got 2 text5 ∷ Noted (Taken 1 628 (Hit 0 0)) ∷ wait true (1 ∷ 2 ∷ []) (1 ∷ []) ∷ CanWrite 1 ∷ Said 1 154 text6 ∷ wait true (1 ∷ 2 ∷ []) [] ∷ CanRead 1 ∷ Heard 1 text1263 ∷ Noted (Taken 1 629 Fetch) ∷ wait true (1 ∷ 2 ∷ []) (2 ∷ []) ∷ CanWrite 2 ∷ Asked 2 text1264 ∷ wait true (1 ∷ 2 ∷ []) [] ∷ CanRead 2 ∷ Got 2 text5 ∷ Noted (Taken 1 629 (Hit 0 0)) ∷ wait true (1 ∷ 2 ∷ []) (1 ∷ []) ∷ CanWrite 1 ∷ Said 1 154 text6 ∷ wait true (1 ∷ 2 ∷ []) [] ∷ CanRead 1 ∷ Heard 1 text1265 ∷ Noted (Taken 1 630 Fetch) ∷ wait true (1 ∷ 2 ∷ []) (2 ∷ []) ∷ CanWrite 2 ∷ Asked 2 text1266 ∷ wait true (1 ∷ 2 ∷ []) [] ∷ CanRead 2 ∷ Got 2 text5 ∷ Noted (Taken 1 630 (Hit 0 0)) ∷ wait true (1 ∷ 2 ∷ []) (1 ∷ []) ∷ CanWrite 1 ∷ Said 1 154 text6 ∷ wait true (1 ∷ 2 ∷ []) [] ∷ CanRead 1 ∷ Heard 1 text1267 ∷ Noted (Taken 1 631 Fetch) ∷ wait true (1 ∷ 2 ∷ []) (2 ∷ []) ∷ CanWrite 2 ∷ Asked 2 text1268 ∷ wait true (1 ∷ 2 ∷ []) [] ∷ CanRead 2 ∷ Got 2 text5 ∷ Noted (Taken 1 631 (Hit 0 0)) ∷ wait true (1 ∷ 2 ∷ []) (1 ∷ []) ∷ CanWrite 1 ∷ Said 1 154 text6 ∷ wait true (1 ∷ 2 ∷ []) [] ∷ CanRead 1 ∷ Heard 1 text1269 ∷ Noted (Taken 1 632 Fetch) ∷ wait true (1 ∷ 2 ∷ []) (2 ∷ []) ∷ CanWrite 2 ∷ Asked 2 text1270 ∷ wait true (1 ∷ 2 ∷ []) [] ∷ CanRead 2 ∷ Got 2 text5 ∷ Noted (Taken 1 632 (Hit 0 0)) ∷ wait true (1 ∷ 2 ∷ []) (1 ∷ []) ∷ CanWrite 1 ∷ Said 1 154 text6 ∷ wait true (1 ∷ 2 ∷ []) [] ∷ CanRead 1 ∷ Heard 1 text1271 ∷ Noted (Taken 1 633 Fetch) ∷ wait true (1 ∷ 2 ∷ []) (2 ∷ []) ∷ CanWrite 2 ∷ Asked 2 text1272 ∷ []))
unfolding judging front0x35
front0x36 = (_, refl)

front0x37 : (s : State) × (arrived s ≡ judge 8880 front0x36.0 (wait true (1 ∷ 2 ∷ []) [] ∷ CanRead 2 ∷ Got 2 text5 ∷ Noted (Taken 1 633 (Hit 0 0)) ∷ wait true (1 ∷ 2 ∷ []) (1 ∷ []) ∷ CanWrite 1 ∷ Said 1 154 text6 ∷ wait true (1 ∷ 2 ∷ []) [] ∷ CanRead 1 ∷ Heard 1 text1273 ∷ Noted (Taken 1 634 Fetch) ∷ wait true (1 ∷ 2 ∷ []) (2 ∷ []) ∷ CanWrite 2 ∷ Asked 2 text1274 ∷ wait true (1 ∷ 2 ∷ []) [] ∷ CanRead 2 ∷ Got 2 text5 ∷ Noted (Taken 1 634 (Hit 0 0)) ∷ wait true (1 ∷ 2 ∷ []) (1 ∷ []) ∷ CanWrite 1 ∷ Said 1 154 text6 ∷ wait true (1 ∷ 2 ∷ []) [] ∷ CanRead 1 ∷ Heard 1 text1275 ∷ Noted (Taken 1 635 Fetch) ∷ wait true (1 ∷ 2 ∷ []) (2 ∷ []) ∷ CanWrite 2 ∷ Asked 2 text1276 ∷ wait true (1 ∷ 2 ∷ []) [] ∷ CanRead 2 ∷ Got 2 text5 ∷ Noted (Taken 1 635 (Hit 0 0)) ∷ wait true (1 ∷ 2 ∷ []) (1 ∷ []) ∷ CanWrite 1 ∷ Said 1 154 text6 ∷ wait true (1 ∷ 2 ∷ []) [] ∷ CanRead 1 ∷ Heard 1 text1277 ∷ Noted (Taken 1 636 Fetch) ∷ wait true (1 ∷ 2 ∷ []) (2 ∷ []) ∷ CanWrite 2 ∷ Asked 2 text1278 ∷ wait true (1 ∷ 2 ∷ []) [] ∷ CanRead 2 ∷ Got 2 text5 ∷ Noted (Taken 1 636 (Hit 0 0)) ∷ wait true (1 ∷ 2 ∷ []) (1 ∷ []) ∷ CanWrite 1 ∷ Said 1 154 text6 ∷ wait true (1 ∷ 2 ∷ []) [] ∷ CanRead 1 ∷ Heard 1 text1279 ∷ Noted (Taken 1 637 Fetch) ∷ wait true (1 ∷ 2 ∷ []) (2 ∷ []) ∷ CanWrite 2 ∷ Asked 2 text1280 ∷ wait true (1 ∷ 2 ∷ []) [] ∷ CanRead 2 ∷ Got 2 text5 ∷ Noted (Taken 1 637 (Hit 0 0)) ∷ wait true (1 ∷ 2 ∷ []) (1 ∷ []) ∷ CanWrite 1 ∷ Said 1 154 text6 ∷ wait true (1 ∷ 2 ∷ []) [] ∷ CanRead 1 ∷ Heard 1 text1281 ∷ Noted (Taken 1 638 Fetch) ∷ wait true (1 ∷ 2 ∷ []) (2 ∷ []) ∷ CanWrite 2 ∷ Asked 2 text1282 ∷ wait true (1 ∷ 2 ∷ []) [] ∷ CanRead 2 ∷ Got 2 text5 ∷ Noted (Taken 1 638 (Hit 0 0)) ∷ wait true (1 ∷ 2 ∷ []) (1 ∷ []) ∷ CanWrite 1 ∷ Said 1 154 text6 ∷ wait true (1 ∷ 2 ∷ []) [] ∷ CanRead 1 ∷ Heard 1 text1283 ∷ Noted (Taken 1 639 Fetch) ∷ wait true (1 ∷ 2 ∷ []) (2 ∷ []) ∷ CanWrite 2 ∷ Asked 2 text1284 ∷ wait true (1 ∷ 2 ∷ []) [] ∷ CanRead 2 ∷ Got 2 text5 ∷ Noted (Taken 1 639 (Hit 0 0)) ∷ wait true (1 ∷ 2 ∷ []) (1 ∷ []) ∷ CanWrite 1 ∷ Said 1 154 text6 ∷ wait true (1 ∷ 2 ∷ []) [] ∷ CanRead 1 ∷ Heard 1 text1285 ∷ Noted (Taken 1 640 Fetch) ∷ wait true (1 ∷ 2 ∷ []) (2 ∷ []) ∷ CanWrite 2 ∷ Asked 2 text1286 ∷ wait true (1 ∷ 2 ∷ []) [] ∷ CanRead 2 ∷ Got 2 text5 ∷ Noted (Taken 1 640 (Hit 0 0)) ∷ wait true (1 ∷ 2 ∷ []) (1 ∷ []) ∷ CanWrite 1 ∷ Said 1 154 text6 ∷ wait true (1 ∷ 2 ∷ []) [] ∷ CanRead 1 ∷ Heard 1 text1287 ∷ Noted (Taken 1 641 Fetch) ∷ wait true (1 ∷ 2 ∷ []) (2 ∷ []) ∷ CanWrite 2 ∷ Asked 2 text1288 ∷ wait true (1 ∷ 2 ∷ []) [] ∷ CanRead 2 ∷ Got 2 text5 ∷ Noted (Taken 1 641 (Hit 0 0)) ∷ wait true (1 ∷ 2 ∷ []) (1 ∷ []) ∷ CanWrite 1 ∷ Said 1 154 text6 ∷ wait true (1 ∷ 2 ∷ []) [] ∷ CanRead 1 ∷ Heard 1 text1289 ∷ Noted (Taken 1 642 Fetch) ∷ wait true (1 ∷ 2 ∷ []) (2 ∷ []) ∷ CanWrite 2 ∷ Asked 2 text1290 ∷ wait true (1 ∷ 2 ∷ []) [] ∷ CanRead 2 ∷ Got 2 text5 ∷ Noted (Taken 1 642 (Hit 0 0)) ∷ wait true (1 ∷ 2 ∷ []) (1 ∷ []) ∷ CanWrite 1 ∷ Said 1 154 text6 ∷ wait true (1 ∷ 2 ∷ []) [] ∷ CanRead 1 ∷ Heard 1 text1291 ∷ Noted (Taken 1 643 Fetch) ∷ wait true (1 ∷ 2 ∷ []) (2 ∷ []) ∷ CanWrite 2 ∷ Asked 2 text1292 ∷ wait true (1 ∷ 2 ∷ []) [] ∷ CanRead 2 ∷ Got 2 text5 ∷ Noted (Taken 1 643 (Hit 0 0)) ∷ wait true (1 ∷ 2 ∷ []) (1 ∷ []) ∷ CanWrite 1 ∷ Said 1 154 text6 ∷ wait true (1 ∷ 2 ∷ []) [] ∷ CanRead 1 ∷ Heard 1 text1293 ∷ Noted (Taken 1 644 Fetch) ∷ wait true (1 ∷ 2 ∷ []) (2 ∷ []) ∷ CanWrite 2 ∷ Asked 2 text1294 ∷ wait true (1 ∷ 2 ∷ []) [] ∷ CanRead 2 ∷ Got 2 text5 ∷ Noted (Taken 1 644 (Hit 0 0)) ∷ wait true (1 ∷ 2 ∷ []) (1 ∷ []) ∷ CanWrite 1 ∷ Said 1 154 text6 ∷ wait true (1 ∷ 2 ∷ []) [] ∷ CanRead 1 ∷ Heard 1 text1295 ∷ Noted (Taken 1 645 Fetch) ∷ wait true (1 ∷ 2 ∷ []) (2 ∷ []) ∷ CanWrite 2 ∷ Asked 2 text1296 ∷ wait true (1 ∷ 2 ∷ []) [] ∷ CanRead 2 ∷ Got 2 text5 ∷ Noted (Taken 1 645 (Hit 0 0)) ∷ wait true (1 ∷ 2 ∷ []) (1 ∷ []) ∷ CanWrite 1 ∷ Said 1 154 text6 ∷ wait true (1 ∷ 2 ∷ []) [] ∷ CanRead 1 ∷ Heard 1 text1297 ∷ Noted (Taken 1 646 Fetch) ∷ wait true (1 ∷ 2 ∷ []) (2 ∷ []) ∷ CanWrite 2 ∷ Asked 2 text1298 ∷ wait true (1 ∷ 2 ∷ []) [] ∷ CanRead 2 ∷ Got 2 text5 ∷ Noted (Taken 1 646 (Hit 0 0)) ∷ wait true (1 ∷ 2 ∷ []) (1 ∷ []) ∷ CanWrite 1 ∷ Said 1 154 text6 ∷ wait true (1 ∷ 2 ∷ []) [] ∷ CanRead 1 ∷ Heard 1 text1299 ∷ Noted (Taken 1 647 Fetch) ∷ wait true (1 ∷ 2 ∷ []) (2 ∷ []) ∷ CanWrite 2 ∷ Asked 2 text1300 ∷ wait true (1 ∷ 2 ∷ []) [] ∷ CanRead 2 ∷ Got 2 text5 ∷ Noted (Taken 1 647 (Hit 0 0)) ∷ wait true (1 ∷ 2 ∷ []) (1 ∷ []) ∷ CanWrite 1 ∷ Said 1 154 text6 ∷ wait true (1 ∷ 2 ∷ []) [] ∷ CanRead 1 ∷ Heard 1 text1301 ∷ Noted (Taken 1 648 Fetch) ∷ wait true (1 ∷ 2 ∷ []) (2 ∷ []) ∷ CanWrite 2 ∷ Asked 2 text1302 ∷ wait true (1 ∷ 2 ∷ []) [] ∷ CanRead 2 ∷ Got 2 text5 ∷ Noted (Taken 1 648 (Hit 0 0)) ∷ wait true (1 ∷ 2 ∷ []) (1 ∷ []) ∷ CanWrite 1 ∷ Said 1 154 text6 ∷ wait true (1 ∷ 2 ∷ []) [] ∷ CanRead 1 ∷ Heard 1 text1303 ∷ Noted (Taken 1 649 Fetch) ∷ wait true (1 ∷ 2 ∷ []) (2 ∷ []) ∷ CanWrite 2 ∷ Asked 2 text1304 ∷ wait true (1 ∷ 2 ∷ []) [] ∷ CanRead 2 ∷ Got 2 text5 ∷ Noted (Taken 1 649 (Hit 0 0)) ∷ wait true (1 ∷ 2 ∷ []) (1 ∷ []) ∷ CanWrite 1 ∷ Said 1 154 text6 ∷ wait true (1 ∷ 2 ∷ []) [] ∷ CanRead 1 ∷ Heard 1 text1305 ∷ Noted (Taken 1 650 Fetch) ∷ wait true (1 ∷ 2 ∷ []) (2 ∷ []) ∷ CanWrite 2 ∷ Asked 2 text1306 ∷ wait true (1 ∷ 2 ∷ []) [] ∷ CanRead 2 ∷ []))
unfolding judging front0x36
front0x37 = (_, refl)

front0x38 : (s : State) × (arrived s ≡ judge 9120 front0x37.0 (Got 2 text5 ∷ Noted (Taken 1 650 (Hit 0 0)) ∷ wait true (1 ∷ 2 ∷ []) (1 ∷ []) ∷ CanWrite 1 ∷ Said 1 154 text6 ∷ wait true (1 ∷ 2 ∷ []) [] ∷ CanRead 1 ∷ Heard 1 text1307 ∷ Noted (Taken 1 651 Fetch) ∷ wait true (1 ∷ 2 ∷ []) (2 ∷ []) ∷ CanWrite 2 ∷ Asked 2 text1308 ∷ wait true (1 ∷ 2 ∷ []) [] ∷ CanRead 2 ∷ Got 2 text5 ∷ Noted (Taken 1 651 (Hit 0 0)) ∷ wait true (1 ∷ 2 ∷ []) (1 ∷ []) ∷ CanWrite 1 ∷ Said 1 154 text6 ∷ wait true (1 ∷ 2 ∷ []) [] ∷ CanRead 1 ∷ Heard 1 text1309 ∷ Noted (Taken 1 652 Fetch) ∷ wait true (1 ∷ 2 ∷ []) (2 ∷ []) ∷ CanWrite 2 ∷ Asked 2 text1310 ∷ wait true (1 ∷ 2 ∷ []) [] ∷ CanRead 2 ∷ Got 2 text5 ∷ Noted (Taken 1 652 (Hit 0 0)) ∷ wait true (1 ∷ 2 ∷ []) (1 ∷ []) ∷ CanWrite 1 ∷ Said 1 154 text6 ∷ wait true (1 ∷ 2 ∷ []) [] ∷ CanRead 1 ∷ Heard 1 text1311 ∷ Noted (Taken 1 653 Fetch) ∷ wait true (1 ∷ 2 ∷ []) (2 ∷ []) ∷ CanWrite 2 ∷ Asked 2 text1312 ∷ wait true (1 ∷ 2 ∷ []) [] ∷ CanRead 2 ∷ Got 2 text5 ∷ Noted (Taken 1 653 (Hit 0 0)) ∷ wait true (1 ∷ 2 ∷ []) (1 ∷ []) ∷ CanWrite 1 ∷ Said 1 154 text6 ∷ wait true (1 ∷ 2 ∷ []) [] ∷ CanRead 1 ∷ Heard 1 text1313 ∷ Noted (Taken 1 654 Fetch) ∷ wait true (1 ∷ 2 ∷ []) (2 ∷ []) ∷ CanWrite 2 ∷ Asked 2 text1314 ∷ wait true (1 ∷ 2 ∷ []) [] ∷ CanRead 2 ∷ Got 2 text5 ∷ Noted (Taken 1 654 (Hit 0 0)) ∷ wait true (1 ∷ 2 ∷ []) (1 ∷ []) ∷ CanWrite 1 ∷ Said 1 154 text6 ∷ wait true (1 ∷ 2 ∷ []) [] ∷ CanRead 1 ∷ Heard 1 text1315 ∷ Noted (Taken 1 655 Fetch) ∷ wait true (1 ∷ 2 ∷ []) (2 ∷ []) ∷ CanWrite 2 ∷ Asked 2 text1316 ∷ wait true (1 ∷ 2 ∷ []) [] ∷ CanRead 2 ∷ Got 2 text5 ∷ Noted (Taken 1 655 (Hit 0 0)) ∷ wait true (1 ∷ 2 ∷ []) (1 ∷ []) ∷ CanWrite 1 ∷ Said 1 154 text6 ∷ wait true (1 ∷ 2 ∷ []) [] ∷ CanRead 1 ∷ Heard 1 text1317 ∷ Noted (Taken 1 656 Fetch) ∷ wait true (1 ∷ 2 ∷ []) (2 ∷ []) ∷ CanWrite 2 ∷ Asked 2 text1318 ∷ wait true (1 ∷ 2 ∷ []) [] ∷ CanRead 2 ∷ Got 2 text5 ∷ Noted (Taken 1 656 (Hit 0 0)) ∷ wait true (1 ∷ 2 ∷ []) (1 ∷ []) ∷ CanWrite 1 ∷ Said 1 154 text6 ∷ wait true (1 ∷ 2 ∷ []) [] ∷ CanRead 1 ∷ Heard 1 text1319 ∷ Noted (Taken 1 657 Fetch) ∷ wait true (1 ∷ 2 ∷ []) (2 ∷ []) ∷ CanWrite 2 ∷ Asked 2 text1320 ∷ wait true (1 ∷ 2 ∷ []) [] ∷ CanRead 2 ∷ Got 2 text5 ∷ Noted (Taken 1 657 (Hit 0 0)) ∷ wait true (1 ∷ 2 ∷ []) (1 ∷ []) ∷ CanWrite 1 ∷ Said 1 154 text6 ∷ wait true (1 ∷ 2 ∷ []) [] ∷ CanRead 1 ∷ Heard 1 text1321 ∷ Noted (Taken 1 658 Fetch) ∷ wait true (1 ∷ 2 ∷ []) (2 ∷ []) ∷ CanWrite 2 ∷ Asked 2 text1322 ∷ wait true (1 ∷ 2 ∷ []) [] ∷ CanRead 2 ∷ Got 2 text5 ∷ Noted (Taken 1 658 (Hit 0 0)) ∷ wait true (1 ∷ 2 ∷ []) (1 ∷ []) ∷ CanWrite 1 ∷ Said 1 154 text6 ∷ wait true (1 ∷ 2 ∷ []) [] ∷ CanRead 1 ∷ Heard 1 text1323 ∷ Noted (Taken 1 659 Fetch) ∷ wait true (1 ∷ 2 ∷ []) (2 ∷ []) ∷ CanWrite 2 ∷ Asked 2 text1324 ∷ wait true (1 ∷ 2 ∷ []) [] ∷ CanRead 2 ∷ Got 2 text5 ∷ Noted (Taken 1 659 (Hit 0 0)) ∷ wait true (1 ∷ 2 ∷ []) (1 ∷ []) ∷ CanWrite 1 ∷ Said 1 154 text6 ∷ wait true (1 ∷ 2 ∷ []) [] ∷ CanRead 1 ∷ Heard 1 text1325 ∷ Noted (Taken 1 660 Fetch) ∷ wait true (1 ∷ 2 ∷ []) (2 ∷ []) ∷ CanWrite 2 ∷ Asked 2 text1326 ∷ wait true (1 ∷ 2 ∷ []) [] ∷ CanRead 2 ∷ Got 2 text5 ∷ Noted (Taken 1 660 (Hit 0 0)) ∷ wait true (1 ∷ 2 ∷ []) (1 ∷ []) ∷ CanWrite 1 ∷ Said 1 154 text6 ∷ wait true (1 ∷ 2 ∷ []) [] ∷ CanRead 1 ∷ Heard 1 text1327 ∷ Noted (Taken 1 661 Fetch) ∷ wait true (1 ∷ 2 ∷ []) (2 ∷ []) ∷ CanWrite 2 ∷ Asked 2 text1328 ∷ wait true (1 ∷ 2 ∷ []) [] ∷ CanRead 2 ∷ Got 2 text5 ∷ Noted (Taken 1 661 (Hit 0 0)) ∷ wait true (1 ∷ 2 ∷ []) (1 ∷ []) ∷ CanWrite 1 ∷ Said 1 154 text6 ∷ wait true (1 ∷ 2 ∷ []) [] ∷ CanRead 1 ∷ Heard 1 text1329 ∷ Noted (Taken 1 662 Fetch) ∷ wait true (1 ∷ 2 ∷ []) (2 ∷ []) ∷ CanWrite 2 ∷ Asked 2 text1330 ∷ wait true (1 ∷ 2 ∷ []) [] ∷ CanRead 2 ∷ Got 2 text5 ∷ Noted (Taken 1 662 (Hit 0 0)) ∷ wait true (1 ∷ 2 ∷ []) (1 ∷ []) ∷ CanWrite 1 ∷ Said 1 154 text6 ∷ wait true (1 ∷ 2 ∷ []) [] ∷ CanRead 1 ∷ Heard 1 text1331 ∷ Noted (Taken 1 663 Fetch) ∷ wait true (1 ∷ 2 ∷ []) (2 ∷ []) ∷ CanWrite 2 ∷ Asked 2 text1332 ∷ wait true (1 ∷ 2 ∷ []) [] ∷ CanRead 2 ∷ Got 2 text5 ∷ Noted (Taken 1 663 (Hit 0 0)) ∷ wait true (1 ∷ 2 ∷ []) (1 ∷ []) ∷ CanWrite 1 ∷ Said 1 154 text6 ∷ wait true (1 ∷ 2 ∷ []) [] ∷ CanRead 1 ∷ Heard 1 text1333 ∷ Noted (Taken 1 664 Fetch) ∷ wait true (1 ∷ 2 ∷ []) (2 ∷ []) ∷ CanWrite 2 ∷ Asked 2 text1334 ∷ wait true (1 ∷ 2 ∷ []) [] ∷ CanRead 2 ∷ Got 2 text5 ∷ Noted (Taken 1 664 (Hit 0 0)) ∷ wait true (1 ∷ 2 ∷ []) (1 ∷ []) ∷ CanWrite 1 ∷ Said 1 154 text6 ∷ wait true (1 ∷ 2 ∷ []) [] ∷ CanRead 1 ∷ Heard 1 text1335 ∷ Noted (Taken 1 665 Fetch) ∷ wait true (1 ∷ 2 ∷ []) (2 ∷ []) ∷ CanWrite 2 ∷ Asked 2 text1336 ∷ wait true (1 ∷ 2 ∷ []) [] ∷ CanRead 2 ∷ Got 2 text5 ∷ Noted (Taken 1 665 (Hit 0 0)) ∷ wait true (1 ∷ 2 ∷ []) (1 ∷ []) ∷ CanWrite 1 ∷ Said 1 154 text6 ∷ wait true (1 ∷ 2 ∷ []) [] ∷ CanRead 1 ∷ Heard 1 text1337 ∷ Noted (Taken 1 666 Fetch) ∷ wait true (1 ∷ 2 ∷ []) (2 ∷ []) ∷ CanWrite 2 ∷ Asked 2 text1338 ∷ wait true (1 ∷ 2 ∷ []) [] ∷ CanRead 2 ∷ Got 2 text5 ∷ Noted (Taken 1 666 (Hit 0 0)) ∷ wait true (1 ∷ 2 ∷ []) (1 ∷ []) ∷ CanWrite 1 ∷ Said 1 154 text6 ∷ wait true (1 ∷ 2 ∷ []) [] ∷ CanRead 1 ∷ Heard 1 text1339 ∷ Noted (Taken 1 667 Fetch) ∷ wait true (1 ∷ 2 ∷ []) (2 ∷ []) ∷ CanWrite 2 ∷ Asked 2 text1340 ∷ wait true (1 ∷ 2 ∷ []) [] ∷ CanRead 2 ∷ Got 2 text5 ∷ Noted (Taken 1 667 (Hit 0 0)) ∷ []))
unfolding judging front0x37
front0x38 = (_, refl)

front0x39 : (s : State) × (arrived s ≡ judge 9360 front0x38.0 (wait true (1 ∷ 2 ∷ []) (1 ∷ []) ∷ CanWrite 1 ∷ Said 1 154 text6 ∷ wait true (1 ∷ 2 ∷ []) [] ∷ CanRead 1 ∷ Heard 1 text1341 ∷ Noted (Taken 1 668 Fetch) ∷ wait true (1 ∷ 2 ∷ []) (2 ∷ []) ∷ CanWrite 2 ∷ Asked 2 text1342 ∷ wait true (1 ∷ 2 ∷ []) [] ∷ CanRead 2 ∷ Got 2 text5 ∷ Noted (Taken 1 668 (Hit 0 0)) ∷ wait true (1 ∷ 2 ∷ []) (1 ∷ []) ∷ CanWrite 1 ∷ Said 1 154 text6 ∷ wait true (1 ∷ 2 ∷ []) [] ∷ CanRead 1 ∷ Heard 1 text1343 ∷ Noted (Taken 1 669 Fetch) ∷ wait true (1 ∷ 2 ∷ []) (2 ∷ []) ∷ CanWrite 2 ∷ Asked 2 text1344 ∷ wait true (1 ∷ 2 ∷ []) [] ∷ CanRead 2 ∷ Got 2 text5 ∷ Noted (Taken 1 669 (Hit 0 0)) ∷ wait true (1 ∷ 2 ∷ []) (1 ∷ []) ∷ CanWrite 1 ∷ Said 1 154 text6 ∷ wait true (1 ∷ 2 ∷ []) [] ∷ CanRead 1 ∷ Heard 1 text1345 ∷ Noted (Taken 1 670 Fetch) ∷ wait true (1 ∷ 2 ∷ []) (2 ∷ []) ∷ CanWrite 2 ∷ Asked 2 text1346 ∷ wait true (1 ∷ 2 ∷ []) [] ∷ CanRead 2 ∷ Got 2 text5 ∷ Noted (Taken 1 670 (Hit 0 0)) ∷ wait true (1 ∷ 2 ∷ []) (1 ∷ []) ∷ CanWrite 1 ∷ Said 1 154 text6 ∷ wait true (1 ∷ 2 ∷ []) [] ∷ CanRead 1 ∷ Heard 1 text1347 ∷ Noted (Taken 1 671 Fetch) ∷ wait true (1 ∷ 2 ∷ []) (2 ∷ []) ∷ CanWrite 2 ∷ Asked 2 text1348 ∷ wait true (1 ∷ 2 ∷ []) [] ∷ CanRead 2 ∷ Got 2 text5 ∷ Noted (Taken 1 671 (Hit 0 0)) ∷ wait true (1 ∷ 2 ∷ []) (1 ∷ []) ∷ CanWrite 1 ∷ Said 1 154 text6 ∷ wait true (1 ∷ 2 ∷ []) [] ∷ CanRead 1 ∷ Heard 1 text1349 ∷ Noted (Taken 1 672 Fetch) ∷ wait true (1 ∷ 2 ∷ []) (2 ∷ []) ∷ CanWrite 2 ∷ Asked 2 text1350 ∷ wait true (1 ∷ 2 ∷ []) [] ∷ CanRead 2 ∷ Got 2 text5 ∷ Noted (Taken 1 672 (Hit 0 0)) ∷ wait true (1 ∷ 2 ∷ []) (1 ∷ []) ∷ CanWrite 1 ∷ Said 1 154 text6 ∷ wait true (1 ∷ 2 ∷ []) [] ∷ CanRead 1 ∷ Heard 1 text1351 ∷ Noted (Taken 1 673 Fetch) ∷ wait true (1 ∷ 2 ∷ []) (2 ∷ []) ∷ CanWrite 2 ∷ Asked 2 text1352 ∷ wait true (1 ∷ 2 ∷ []) [] ∷ CanRead 2 ∷ Got 2 text5 ∷ Noted (Taken 1 673 (Hit 0 0)) ∷ wait true (1 ∷ 2 ∷ []) (1 ∷ []) ∷ CanWrite 1 ∷ Said 1 154 text6 ∷ wait true (1 ∷ 2 ∷ []) [] ∷ CanRead 1 ∷ Heard 1 text1353 ∷ Noted (Taken 1 674 Fetch) ∷ wait true (1 ∷ 2 ∷ []) (2 ∷ []) ∷ CanWrite 2 ∷ Asked 2 text1354 ∷ wait true (1 ∷ 2 ∷ []) [] ∷ CanRead 2 ∷ Got 2 text5 ∷ Noted (Taken 1 674 (Hit 0 0)) ∷ wait true (1 ∷ 2 ∷ []) (1 ∷ []) ∷ CanWrite 1 ∷ Said 1 154 text6 ∷ wait true (1 ∷ 2 ∷ []) [] ∷ CanRead 1 ∷ Heard 1 text1355 ∷ Noted (Taken 1 675 Fetch) ∷ wait true (1 ∷ 2 ∷ []) (2 ∷ []) ∷ CanWrite 2 ∷ Asked 2 text1356 ∷ wait true (1 ∷ 2 ∷ []) [] ∷ CanRead 2 ∷ Got 2 text5 ∷ Noted (Taken 1 675 (Hit 0 0)) ∷ wait true (1 ∷ 2 ∷ []) (1 ∷ []) ∷ CanWrite 1 ∷ Said 1 154 text6 ∷ wait true (1 ∷ 2 ∷ []) [] ∷ CanRead 1 ∷ Heard 1 text1357 ∷ Noted (Taken 1 676 Fetch) ∷ wait true (1 ∷ 2 ∷ []) (2 ∷ []) ∷ CanWrite 2 ∷ Asked 2 text1358 ∷ wait true (1 ∷ 2 ∷ []) [] ∷ CanRead 2 ∷ Got 2 text5 ∷ Noted (Taken 1 676 (Hit 0 0)) ∷ wait true (1 ∷ 2 ∷ []) (1 ∷ []) ∷ CanWrite 1 ∷ Said 1 154 text6 ∷ wait true (1 ∷ 2 ∷ []) [] ∷ CanRead 1 ∷ Heard 1 text1359 ∷ Noted (Taken 1 677 Fetch) ∷ wait true (1 ∷ 2 ∷ []) (2 ∷ []) ∷ CanWrite 2 ∷ Asked 2 text1360 ∷ wait true (1 ∷ 2 ∷ []) [] ∷ CanRead 2 ∷ Got 2 text5 ∷ Noted (Taken 1 677 (Hit 0 0)) ∷ wait true (1 ∷ 2 ∷ []) (1 ∷ []) ∷ CanWrite 1 ∷ Said 1 154 text6 ∷ wait true (1 ∷ 2 ∷ []) [] ∷ CanRead 1 ∷ Heard 1 text1361 ∷ Noted (Taken 1 678 Fetch) ∷ wait true (1 ∷ 2 ∷ []) (2 ∷ []) ∷ CanWrite 2 ∷ Asked 2 text1362 ∷ wait true (1 ∷ 2 ∷ []) [] ∷ CanRead 2 ∷ Got 2 text5 ∷ Noted (Taken 1 678 (Hit 0 0)) ∷ wait true (1 ∷ 2 ∷ []) (1 ∷ []) ∷ CanWrite 1 ∷ Said 1 154 text6 ∷ wait true (1 ∷ 2 ∷ []) [] ∷ CanRead 1 ∷ Heard 1 text1363 ∷ Noted (Taken 1 679 Fetch) ∷ wait true (1 ∷ 2 ∷ []) (2 ∷ []) ∷ CanWrite 2 ∷ Asked 2 text1364 ∷ wait true (1 ∷ 2 ∷ []) [] ∷ CanRead 2 ∷ Got 2 text5 ∷ Noted (Taken 1 679 (Hit 0 0)) ∷ wait true (1 ∷ 2 ∷ []) (1 ∷ []) ∷ CanWrite 1 ∷ Said 1 154 text6 ∷ wait true (1 ∷ 2 ∷ []) [] ∷ CanRead 1 ∷ Heard 1 text1365 ∷ Noted (Taken 1 680 Fetch) ∷ wait true (1 ∷ 2 ∷ []) (2 ∷ []) ∷ CanWrite 2 ∷ Asked 2 text1366 ∷ wait true (1 ∷ 2 ∷ []) [] ∷ CanRead 2 ∷ Got 2 text5 ∷ Noted (Taken 1 680 (Hit 0 0)) ∷ wait true (1 ∷ 2 ∷ []) (1 ∷ []) ∷ CanWrite 1 ∷ Said 1 154 text6 ∷ wait true (1 ∷ 2 ∷ []) [] ∷ CanRead 1 ∷ Heard 1 text1367 ∷ Noted (Taken 1 681 Fetch) ∷ wait true (1 ∷ 2 ∷ []) (2 ∷ []) ∷ CanWrite 2 ∷ Asked 2 text1368 ∷ wait true (1 ∷ 2 ∷ []) [] ∷ CanRead 2 ∷ Got 2 text5 ∷ Noted (Taken 1 681 (Hit 0 0)) ∷ wait true (1 ∷ 2 ∷ []) (1 ∷ []) ∷ CanWrite 1 ∷ Said 1 154 text6 ∷ wait true (1 ∷ 2 ∷ []) [] ∷ CanRead 1 ∷ Heard 1 text1369 ∷ Noted (Taken 1 682 Fetch) ∷ wait true (1 ∷ 2 ∷ []) (2 ∷ []) ∷ CanWrite 2 ∷ Asked 2 text1370 ∷ wait true (1 ∷ 2 ∷ []) [] ∷ CanRead 2 ∷ Got 2 text5 ∷ Noted (Taken 1 682 (Hit 0 0)) ∷ wait true (1 ∷ 2 ∷ []) (1 ∷ []) ∷ CanWrite 1 ∷ Said 1 154 text6 ∷ wait true (1 ∷ 2 ∷ []) [] ∷ CanRead 1 ∷ Heard 1 text1371 ∷ Noted (Taken 1 683 Fetch) ∷ wait true (1 ∷ 2 ∷ []) (2 ∷ []) ∷ CanWrite 2 ∷ Asked 2 text1372 ∷ wait true (1 ∷ 2 ∷ []) [] ∷ CanRead 2 ∷ Got 2 text5 ∷ Noted (Taken 1 683 (Hit 0 0)) ∷ wait true (1 ∷ 2 ∷ []) (1 ∷ []) ∷ CanWrite 1 ∷ Said 1 154 text6 ∷ wait true (1 ∷ 2 ∷ []) [] ∷ CanRead 1 ∷ Heard 1 text1373 ∷ Noted (Taken 1 684 Fetch) ∷ wait true (1 ∷ 2 ∷ []) (2 ∷ []) ∷ CanWrite 2 ∷ Asked 2 text1374 ∷ wait true (1 ∷ 2 ∷ []) [] ∷ CanRead 2 ∷ Got 2 text5 ∷ Noted (Taken 1 684 (Hit 0 0)) ∷ wait true (1 ∷ 2 ∷ []) (1 ∷ []) ∷ CanWrite 1 ∷ []))
unfolding judging front0x38
front0x39 = (_, refl)

front0x40 : (s : State) × (arrived s ≡ judge 9600 front0x39.0 (Said 1 154 text6 ∷ wait true (1 ∷ 2 ∷ []) [] ∷ CanRead 1 ∷ Heard 1 text1375 ∷ Noted (Taken 1 685 Fetch) ∷ wait true (1 ∷ 2 ∷ []) (2 ∷ []) ∷ CanWrite 2 ∷ Asked 2 text1376 ∷ wait true (1 ∷ 2 ∷ []) [] ∷ CanRead 2 ∷ Got 2 text5 ∷ Noted (Taken 1 685 (Hit 0 0)) ∷ wait true (1 ∷ 2 ∷ []) (1 ∷ []) ∷ CanWrite 1 ∷ Said 1 154 text6 ∷ wait true (1 ∷ 2 ∷ []) [] ∷ CanRead 1 ∷ Heard 1 text1377 ∷ Noted (Taken 1 686 Fetch) ∷ wait true (1 ∷ 2 ∷ []) (2 ∷ []) ∷ CanWrite 2 ∷ Asked 2 text1378 ∷ wait true (1 ∷ 2 ∷ []) [] ∷ CanRead 2 ∷ Got 2 text5 ∷ Noted (Taken 1 686 (Hit 0 0)) ∷ wait true (1 ∷ 2 ∷ []) (1 ∷ []) ∷ CanWrite 1 ∷ Said 1 154 text6 ∷ wait true (1 ∷ 2 ∷ []) [] ∷ CanRead 1 ∷ Heard 1 text1379 ∷ Noted (Taken 1 687 Fetch) ∷ wait true (1 ∷ 2 ∷ []) (2 ∷ []) ∷ CanWrite 2 ∷ Asked 2 text1380 ∷ wait true (1 ∷ 2 ∷ []) [] ∷ CanRead 2 ∷ Got 2 text5 ∷ Noted (Taken 1 687 (Hit 0 0)) ∷ wait true (1 ∷ 2 ∷ []) (1 ∷ []) ∷ CanWrite 1 ∷ Said 1 154 text6 ∷ wait true (1 ∷ 2 ∷ []) [] ∷ CanRead 1 ∷ Heard 1 text1381 ∷ Noted (Taken 1 688 Fetch) ∷ wait true (1 ∷ 2 ∷ []) (2 ∷ []) ∷ CanWrite 2 ∷ Asked 2 text1382 ∷ wait true (1 ∷ 2 ∷ []) [] ∷ CanRead 2 ∷ Got 2 text5 ∷ Noted (Taken 1 688 (Hit 0 0)) ∷ wait true (1 ∷ 2 ∷ []) (1 ∷ []) ∷ CanWrite 1 ∷ Said 1 154 text6 ∷ wait true (1 ∷ 2 ∷ []) [] ∷ CanRead 1 ∷ Heard 1 text1383 ∷ Noted (Taken 1 689 Fetch) ∷ wait true (1 ∷ 2 ∷ []) (2 ∷ []) ∷ CanWrite 2 ∷ Asked 2 text1384 ∷ wait true (1 ∷ 2 ∷ []) [] ∷ CanRead 2 ∷ Got 2 text5 ∷ Noted (Taken 1 689 (Hit 0 0)) ∷ wait true (1 ∷ 2 ∷ []) (1 ∷ []) ∷ CanWrite 1 ∷ Said 1 154 text6 ∷ wait true (1 ∷ 2 ∷ []) [] ∷ CanRead 1 ∷ Heard 1 text1385 ∷ Noted (Taken 1 690 Fetch) ∷ wait true (1 ∷ 2 ∷ []) (2 ∷ []) ∷ CanWrite 2 ∷ Asked 2 text1386 ∷ wait true (1 ∷ 2 ∷ []) [] ∷ CanRead 2 ∷ Got 2 text5 ∷ Noted (Taken 1 690 (Hit 0 0)) ∷ wait true (1 ∷ 2 ∷ []) (1 ∷ []) ∷ CanWrite 1 ∷ Said 1 154 text6 ∷ wait true (1 ∷ 2 ∷ []) [] ∷ CanRead 1 ∷ Heard 1 text1387 ∷ Noted (Taken 1 691 Fetch) ∷ wait true (1 ∷ 2 ∷ []) (2 ∷ []) ∷ CanWrite 2 ∷ Asked 2 text1388 ∷ wait true (1 ∷ 2 ∷ []) [] ∷ CanRead 2 ∷ Got 2 text5 ∷ Noted (Taken 1 691 (Hit 0 0)) ∷ wait true (1 ∷ 2 ∷ []) (1 ∷ []) ∷ CanWrite 1 ∷ Said 1 154 text6 ∷ wait true (1 ∷ 2 ∷ []) [] ∷ CanRead 1 ∷ Heard 1 text1389 ∷ Noted (Taken 1 692 Fetch) ∷ wait true (1 ∷ 2 ∷ []) (2 ∷ []) ∷ CanWrite 2 ∷ Asked 2 text1390 ∷ wait true (1 ∷ 2 ∷ []) [] ∷ CanRead 2 ∷ Got 2 text5 ∷ Noted (Taken 1 692 (Hit 0 0)) ∷ wait true (1 ∷ 2 ∷ []) (1 ∷ []) ∷ CanWrite 1 ∷ Said 1 154 text6 ∷ wait true (1 ∷ 2 ∷ []) [] ∷ CanRead 1 ∷ Heard 1 text1391 ∷ Noted (Taken 1 693 Fetch) ∷ wait true (1 ∷ 2 ∷ []) (2 ∷ []) ∷ CanWrite 2 ∷ Asked 2 text1392 ∷ wait true (1 ∷ 2 ∷ []) [] ∷ CanRead 2 ∷ Got 2 text5 ∷ Noted (Taken 1 693 (Hit 0 0)) ∷ wait true (1 ∷ 2 ∷ []) (1 ∷ []) ∷ CanWrite 1 ∷ Said 1 154 text6 ∷ wait true (1 ∷ 2 ∷ []) [] ∷ CanRead 1 ∷ Heard 1 text1393 ∷ Noted (Taken 1 694 Fetch) ∷ wait true (1 ∷ 2 ∷ []) (2 ∷ []) ∷ CanWrite 2 ∷ Asked 2 text1394 ∷ wait true (1 ∷ 2 ∷ []) [] ∷ CanRead 2 ∷ Got 2 text5 ∷ Noted (Taken 1 694 (Hit 0 0)) ∷ wait true (1 ∷ 2 ∷ []) (1 ∷ []) ∷ CanWrite 1 ∷ Said 1 154 text6 ∷ wait true (1 ∷ 2 ∷ []) [] ∷ CanRead 1 ∷ Heard 1 text1395 ∷ Noted (Taken 1 695 Fetch) ∷ wait true (1 ∷ 2 ∷ []) (2 ∷ []) ∷ CanWrite 2 ∷ Asked 2 text1396 ∷ wait true (1 ∷ 2 ∷ []) [] ∷ CanRead 2 ∷ Got 2 text5 ∷ Noted (Taken 1 695 (Hit 0 0)) ∷ wait true (1 ∷ 2 ∷ []) (1 ∷ []) ∷ CanWrite 1 ∷ Said 1 154 text6 ∷ wait true (1 ∷ 2 ∷ []) [] ∷ CanRead 1 ∷ Heard 1 text1397 ∷ Noted (Taken 1 696 Fetch) ∷ wait true (1 ∷ 2 ∷ []) (2 ∷ []) ∷ CanWrite 2 ∷ Asked 2 text1398 ∷ wait true (1 ∷ 2 ∷ []) [] ∷ CanRead 2 ∷ Got 2 text5 ∷ Noted (Taken 1 696 (Hit 0 0)) ∷ wait true (1 ∷ 2 ∷ []) (1 ∷ []) ∷ CanWrite 1 ∷ Said 1 154 text6 ∷ wait true (1 ∷ 2 ∷ []) [] ∷ CanRead 1 ∷ Heard 1 text1399 ∷ Noted (Taken 1 697 Fetch) ∷ wait true (1 ∷ 2 ∷ []) (2 ∷ []) ∷ CanWrite 2 ∷ Asked 2 text1400 ∷ wait true (1 ∷ 2 ∷ []) [] ∷ CanRead 2 ∷ Got 2 text5 ∷ Noted (Taken 1 697 (Hit 0 0)) ∷ wait true (1 ∷ 2 ∷ []) (1 ∷ []) ∷ CanWrite 1 ∷ Said 1 154 text6 ∷ wait true (1 ∷ 2 ∷ []) [] ∷ CanRead 1 ∷ Heard 1 text1401 ∷ Noted (Taken 1 698 Fetch) ∷ wait true (1 ∷ 2 ∷ []) (2 ∷ []) ∷ CanWrite 2 ∷ Asked 2 text1402 ∷ wait true (1 ∷ 2 ∷ []) [] ∷ CanRead 2 ∷ Got 2 text5 ∷ Noted (Taken 1 698 (Hit 0 0)) ∷ wait true (1 ∷ 2 ∷ []) (1 ∷ []) ∷ CanWrite 1 ∷ Said 1 154 text6 ∷ wait true (1 ∷ 2 ∷ []) [] ∷ CanRead 1 ∷ Heard 1 text1403 ∷ Noted (Taken 1 699 Fetch) ∷ wait true (1 ∷ 2 ∷ []) (2 ∷ []) ∷ CanWrite 2 ∷ Asked 2 text1404 ∷ wait true (1 ∷ 2 ∷ []) [] ∷ CanRead 2 ∷ Got 2 text5 ∷ Noted (Taken 1 699 (Hit 0 0)) ∷ wait true (1 ∷ 2 ∷ []) (1 ∷ []) ∷ CanWrite 1 ∷ Said 1 154 text6 ∷ wait true (1 ∷ 2 ∷ []) [] ∷ CanRead 1 ∷ Heard 1 text1405 ∷ Noted (Taken 1 700 Fetch) ∷ wait true (1 ∷ 2 ∷ []) (2 ∷ []) ∷ CanWrite 2 ∷ Asked 2 text1406 ∷ wait true (1 ∷ 2 ∷ []) [] ∷ CanRead 2 ∷ Got 2 text5 ∷ Noted (Taken 1 700 (Hit 0 0)) ∷ wait true (1 ∷ 2 ∷ []) (1 ∷ []) ∷ CanWrite 1 ∷ Said 1 154 text6 ∷ wait true (1 ∷ 2 ∷ []) [] ∷ CanRead 1 ∷ Heard 1 text1407 ∷ Noted (Taken 1 701 Fetch) ∷ wait true (1 ∷ 2 ∷ []) (2 ∷ []) ∷ CanWrite 2 ∷ Asked 2 text1408 ∷ wait true (1 ∷ 2 ∷ []) [] ∷ CanRead 2 ∷ Got 2 text5 ∷ Noted (Taken 1 701 (Hit 0 0)) ∷ wait true (1 ∷ 2 ∷ []) (1 ∷ []) ∷ CanWrite 1 ∷ Said 1 154 text6 ∷ wait true (1 ∷ 2 ∷ []) [] ∷ []))
unfolding judging front0x39
front0x40 = (_, refl)

front0x41 : (s : State) × (arrived s ≡ judge 9840 front0x40.0 (CanRead 1 ∷ Heard 1 text1409 ∷ Noted (Taken 1 702 Fetch) ∷ wait true (1 ∷ 2 ∷ []) (2 ∷ []) ∷ CanWrite 2 ∷ Asked 2 text1410 ∷ wait true (1 ∷ 2 ∷ []) [] ∷ CanRead 2 ∷ Got 2 text5 ∷ Noted (Taken 1 702 (Hit 0 0)) ∷ wait true (1 ∷ 2 ∷ []) (1 ∷ []) ∷ CanWrite 1 ∷ Said 1 154 text6 ∷ wait true (1 ∷ 2 ∷ []) [] ∷ CanRead 1 ∷ Heard 1 text1411 ∷ Noted (Taken 1 703 Fetch) ∷ wait true (1 ∷ 2 ∷ []) (2 ∷ []) ∷ CanWrite 2 ∷ Asked 2 text1412 ∷ wait true (1 ∷ 2 ∷ []) [] ∷ CanRead 2 ∷ Got 2 text5 ∷ Noted (Taken 1 703 (Hit 0 0)) ∷ wait true (1 ∷ 2 ∷ []) (1 ∷ []) ∷ CanWrite 1 ∷ Said 1 154 text6 ∷ wait true (1 ∷ 2 ∷ []) [] ∷ CanRead 1 ∷ Heard 1 text1413 ∷ Noted (Taken 1 704 Fetch) ∷ wait true (1 ∷ 2 ∷ []) (2 ∷ []) ∷ CanWrite 2 ∷ Asked 2 text1414 ∷ wait true (1 ∷ 2 ∷ []) [] ∷ CanRead 2 ∷ Got 2 text5 ∷ Noted (Taken 1 704 (Hit 0 0)) ∷ wait true (1 ∷ 2 ∷ []) (1 ∷ []) ∷ CanWrite 1 ∷ Said 1 154 text6 ∷ wait true (1 ∷ 2 ∷ []) [] ∷ CanRead 1 ∷ Heard 1 text1415 ∷ Noted (Taken 1 705 Fetch) ∷ wait true (1 ∷ 2 ∷ []) (2 ∷ []) ∷ CanWrite 2 ∷ Asked 2 text1416 ∷ wait true (1 ∷ 2 ∷ []) [] ∷ CanRead 2 ∷ Got 2 text5 ∷ Noted (Taken 1 705 (Hit 0 0)) ∷ wait true (1 ∷ 2 ∷ []) (1 ∷ []) ∷ CanWrite 1 ∷ Said 1 154 text6 ∷ wait true (1 ∷ 2 ∷ []) [] ∷ CanRead 1 ∷ Heard 1 text1417 ∷ Noted (Taken 1 706 Fetch) ∷ wait true (1 ∷ 2 ∷ []) (2 ∷ []) ∷ CanWrite 2 ∷ Asked 2 text1418 ∷ wait true (1 ∷ 2 ∷ []) [] ∷ CanRead 2 ∷ Got 2 text5 ∷ Noted (Taken 1 706 (Hit 0 0)) ∷ wait true (1 ∷ 2 ∷ []) (1 ∷ []) ∷ CanWrite 1 ∷ Said 1 154 text6 ∷ wait true (1 ∷ 2 ∷ []) [] ∷ CanRead 1 ∷ Heard 1 text1419 ∷ Noted (Taken 1 707 Fetch) ∷ wait true (1 ∷ 2 ∷ []) (2 ∷ []) ∷ CanWrite 2 ∷ Asked 2 text1420 ∷ wait true (1 ∷ 2 ∷ []) [] ∷ CanRead 2 ∷ Got 2 text5 ∷ Noted (Taken 1 707 (Hit 0 0)) ∷ wait true (1 ∷ 2 ∷ []) (1 ∷ []) ∷ CanWrite 1 ∷ Said 1 154 text6 ∷ wait true (1 ∷ 2 ∷ []) [] ∷ CanRead 1 ∷ Heard 1 text1421 ∷ Noted (Taken 1 708 Fetch) ∷ wait true (1 ∷ 2 ∷ []) (2 ∷ []) ∷ CanWrite 2 ∷ Asked 2 text1422 ∷ wait true (1 ∷ 2 ∷ []) [] ∷ CanRead 2 ∷ Got 2 text5 ∷ Noted (Taken 1 708 (Hit 0 0)) ∷ wait true (1 ∷ 2 ∷ []) (1 ∷ []) ∷ CanWrite 1 ∷ Said 1 154 text6 ∷ wait true (1 ∷ 2 ∷ []) [] ∷ CanRead 1 ∷ Heard 1 text1423 ∷ Noted (Taken 1 709 Fetch) ∷ wait true (1 ∷ 2 ∷ []) (2 ∷ []) ∷ CanWrite 2 ∷ Asked 2 text1424 ∷ wait true (1 ∷ 2 ∷ []) [] ∷ CanRead 2 ∷ Got 2 text5 ∷ Noted (Taken 1 709 (Hit 0 0)) ∷ wait true (1 ∷ 2 ∷ []) (1 ∷ []) ∷ CanWrite 1 ∷ Said 1 154 text6 ∷ wait true (1 ∷ 2 ∷ []) [] ∷ CanRead 1 ∷ Heard 1 text1425 ∷ Noted (Taken 1 710 Fetch) ∷ wait true (1 ∷ 2 ∷ []) (2 ∷ []) ∷ CanWrite 2 ∷ Asked 2 text1426 ∷ wait true (1 ∷ 2 ∷ []) [] ∷ CanRead 2 ∷ Got 2 text5 ∷ Noted (Taken 1 710 (Hit 0 0)) ∷ wait true (1 ∷ 2 ∷ []) (1 ∷ []) ∷ CanWrite 1 ∷ Said 1 154 text6 ∷ wait true (1 ∷ 2 ∷ []) [] ∷ CanRead 1 ∷ Heard 1 text1427 ∷ Noted (Taken 1 711 Fetch) ∷ wait true (1 ∷ 2 ∷ []) (2 ∷ []) ∷ CanWrite 2 ∷ Asked 2 text1428 ∷ wait true (1 ∷ 2 ∷ []) [] ∷ CanRead 2 ∷ Got 2 text5 ∷ Noted (Taken 1 711 (Hit 0 0)) ∷ wait true (1 ∷ 2 ∷ []) (1 ∷ []) ∷ CanWrite 1 ∷ Said 1 154 text6 ∷ wait true (1 ∷ 2 ∷ []) [] ∷ CanRead 1 ∷ Heard 1 text1429 ∷ Noted (Taken 1 712 Fetch) ∷ wait true (1 ∷ 2 ∷ []) (2 ∷ []) ∷ CanWrite 2 ∷ Asked 2 text1430 ∷ wait true (1 ∷ 2 ∷ []) [] ∷ CanRead 2 ∷ Got 2 text5 ∷ Noted (Taken 1 712 (Hit 0 0)) ∷ wait true (1 ∷ 2 ∷ []) (1 ∷ []) ∷ CanWrite 1 ∷ Said 1 154 text6 ∷ wait true (1 ∷ 2 ∷ []) [] ∷ CanRead 1 ∷ Heard 1 text1431 ∷ Noted (Taken 1 713 Fetch) ∷ wait true (1 ∷ 2 ∷ []) (2 ∷ []) ∷ CanWrite 2 ∷ Asked 2 text1432 ∷ wait true (1 ∷ 2 ∷ []) [] ∷ CanRead 2 ∷ Got 2 text5 ∷ Noted (Taken 1 713 (Hit 0 0)) ∷ wait true (1 ∷ 2 ∷ []) (1 ∷ []) ∷ CanWrite 1 ∷ Said 1 154 text6 ∷ wait true (1 ∷ 2 ∷ []) [] ∷ CanRead 1 ∷ Heard 1 text1433 ∷ Noted (Taken 1 714 Fetch) ∷ wait true (1 ∷ 2 ∷ []) (2 ∷ []) ∷ CanWrite 2 ∷ Asked 2 text1434 ∷ wait true (1 ∷ 2 ∷ []) [] ∷ CanRead 2 ∷ Got 2 text5 ∷ Noted (Taken 1 714 (Hit 0 0)) ∷ wait true (1 ∷ 2 ∷ []) (1 ∷ []) ∷ CanWrite 1 ∷ Said 1 154 text6 ∷ wait true (1 ∷ 2 ∷ []) [] ∷ CanRead 1 ∷ Heard 1 text1435 ∷ Noted (Taken 1 715 Fetch) ∷ wait true (1 ∷ 2 ∷ []) (2 ∷ []) ∷ CanWrite 2 ∷ Asked 2 text1436 ∷ wait true (1 ∷ 2 ∷ []) [] ∷ CanRead 2 ∷ Got 2 text5 ∷ Noted (Taken 1 715 (Hit 0 0)) ∷ wait true (1 ∷ 2 ∷ []) (1 ∷ []) ∷ CanWrite 1 ∷ Said 1 154 text6 ∷ wait true (1 ∷ 2 ∷ []) [] ∷ CanRead 1 ∷ Heard 1 text1437 ∷ Noted (Taken 1 716 Fetch) ∷ wait true (1 ∷ 2 ∷ []) (2 ∷ []) ∷ CanWrite 2 ∷ Asked 2 text1438 ∷ wait true (1 ∷ 2 ∷ []) [] ∷ CanRead 2 ∷ Got 2 text5 ∷ Noted (Taken 1 716 (Hit 0 0)) ∷ wait true (1 ∷ 2 ∷ []) (1 ∷ []) ∷ CanWrite 1 ∷ Said 1 154 text6 ∷ wait true (1 ∷ 2 ∷ []) [] ∷ CanRead 1 ∷ Heard 1 text1439 ∷ Noted (Taken 1 717 Fetch) ∷ wait true (1 ∷ 2 ∷ []) (2 ∷ []) ∷ CanWrite 2 ∷ Asked 2 text1440 ∷ wait true (1 ∷ 2 ∷ []) [] ∷ CanRead 2 ∷ Got 2 text5 ∷ Noted (Taken 1 717 (Hit 0 0)) ∷ wait true (1 ∷ 2 ∷ []) (1 ∷ []) ∷ CanWrite 1 ∷ Said 1 154 text6 ∷ wait true (1 ∷ 2 ∷ []) [] ∷ CanRead 1 ∷ Heard 1 text1441 ∷ Noted (Taken 1 718 Fetch) ∷ wait true (1 ∷ 2 ∷ []) (2 ∷ []) ∷ CanWrite 2 ∷ Asked 2 text1442 ∷ wait true (1 ∷ 2 ∷ []) [] ∷ CanRead 2 ∷ Got 2 text5 ∷ Noted (Taken 1 718 (Hit 0 0)) ∷ wait true (1 ∷ 2 ∷ []) (1 ∷ []) ∷ CanWrite 1 ∷ Said 1 154 text6 ∷ wait true (1 ∷ 2 ∷ []) [] ∷ CanRead 1 ∷ Heard 1 text1443 ∷ []))
unfolding judging front0x40
front0x41 = (_, refl)

front0x42 : (s : State) × (arrived s ≡ judge 10080 front0x41.0 (Noted (Taken 1 719 Fetch) ∷ wait true (1 ∷ 2 ∷ []) (2 ∷ []) ∷ CanWrite 2 ∷ Asked 2 text1444 ∷ wait true (1 ∷ 2 ∷ []) [] ∷ CanRead 2 ∷ Got 2 text5 ∷ Noted (Taken 1 719 (Hit 0 0)) ∷ wait true (1 ∷ 2 ∷ []) (1 ∷ []) ∷ CanWrite 1 ∷ Said 1 154 text6 ∷ wait true (1 ∷ 2 ∷ []) [] ∷ CanRead 1 ∷ Heard 1 text1445 ∷ Noted (Taken 1 720 Fetch) ∷ wait true (1 ∷ 2 ∷ []) (2 ∷ []) ∷ CanWrite 2 ∷ Asked 2 text1446 ∷ wait true (1 ∷ 2 ∷ []) [] ∷ CanRead 2 ∷ Got 2 text5 ∷ Noted (Taken 1 720 (Hit 0 0)) ∷ wait true (1 ∷ 2 ∷ []) (1 ∷ []) ∷ CanWrite 1 ∷ Said 1 154 text6 ∷ wait true (1 ∷ 2 ∷ []) [] ∷ CanRead 1 ∷ Heard 1 text1447 ∷ Noted (Taken 1 721 Fetch) ∷ wait true (1 ∷ 2 ∷ []) (2 ∷ []) ∷ CanWrite 2 ∷ Asked 2 text1448 ∷ wait true (1 ∷ 2 ∷ []) [] ∷ CanRead 2 ∷ Got 2 text5 ∷ Noted (Taken 1 721 (Hit 0 0)) ∷ wait true (1 ∷ 2 ∷ []) (1 ∷ []) ∷ CanWrite 1 ∷ Said 1 154 text6 ∷ wait true (1 ∷ 2 ∷ []) [] ∷ CanRead 1 ∷ Heard 1 text1449 ∷ Noted (Taken 1 722 Fetch) ∷ wait true (1 ∷ 2 ∷ []) (2 ∷ []) ∷ CanWrite 2 ∷ Asked 2 text1450 ∷ wait true (1 ∷ 2 ∷ []) [] ∷ CanRead 2 ∷ Got 2 text5 ∷ Noted (Taken 1 722 (Hit 0 0)) ∷ wait true (1 ∷ 2 ∷ []) (1 ∷ []) ∷ CanWrite 1 ∷ Said 1 154 text6 ∷ wait true (1 ∷ 2 ∷ []) [] ∷ CanRead 1 ∷ Heard 1 text1451 ∷ Noted (Taken 1 723 Fetch) ∷ wait true (1 ∷ 2 ∷ []) (2 ∷ []) ∷ CanWrite 2 ∷ Asked 2 text1452 ∷ wait true (1 ∷ 2 ∷ []) [] ∷ CanRead 2 ∷ Got 2 text5 ∷ Noted (Taken 1 723 (Hit 0 0)) ∷ wait true (1 ∷ 2 ∷ []) (1 ∷ []) ∷ CanWrite 1 ∷ Said 1 154 text6 ∷ wait true (1 ∷ 2 ∷ []) [] ∷ CanRead 1 ∷ Heard 1 text1453 ∷ Noted (Taken 1 724 Fetch) ∷ wait true (1 ∷ 2 ∷ []) (2 ∷ []) ∷ CanWrite 2 ∷ Asked 2 text1454 ∷ wait true (1 ∷ 2 ∷ []) [] ∷ CanRead 2 ∷ Got 2 text5 ∷ Noted (Taken 1 724 (Hit 0 0)) ∷ wait true (1 ∷ 2 ∷ []) (1 ∷ []) ∷ CanWrite 1 ∷ Said 1 154 text6 ∷ wait true (1 ∷ 2 ∷ []) [] ∷ CanRead 1 ∷ Heard 1 text1455 ∷ Noted (Taken 1 725 Fetch) ∷ wait true (1 ∷ 2 ∷ []) (2 ∷ []) ∷ CanWrite 2 ∷ Asked 2 text1456 ∷ wait true (1 ∷ 2 ∷ []) [] ∷ CanRead 2 ∷ Got 2 text5 ∷ Noted (Taken 1 725 (Hit 0 0)) ∷ wait true (1 ∷ 2 ∷ []) (1 ∷ []) ∷ CanWrite 1 ∷ Said 1 154 text6 ∷ wait true (1 ∷ 2 ∷ []) [] ∷ CanRead 1 ∷ Heard 1 text1457 ∷ Noted (Taken 1 726 Fetch) ∷ wait true (1 ∷ 2 ∷ []) (2 ∷ []) ∷ CanWrite 2 ∷ Asked 2 text1458 ∷ wait true (1 ∷ 2 ∷ []) [] ∷ CanRead 2 ∷ Got 2 text5 ∷ Noted (Taken 1 726 (Hit 0 0)) ∷ wait true (1 ∷ 2 ∷ []) (1 ∷ []) ∷ CanWrite 1 ∷ Said 1 154 text6 ∷ wait true (1 ∷ 2 ∷ []) [] ∷ CanRead 1 ∷ Heard 1 text1459 ∷ Noted (Taken 1 727 Fetch) ∷ wait true (1 ∷ 2 ∷ []) (2 ∷ []) ∷ CanWrite 2 ∷ Asked 2 text1460 ∷ wait true (1 ∷ 2 ∷ []) [] ∷ CanRead 2 ∷ Got 2 text5 ∷ Noted (Taken 1 727 (Hit 0 0)) ∷ wait true (1 ∷ 2 ∷ []) (1 ∷ []) ∷ CanWrite 1 ∷ Said 1 154 text6 ∷ wait true (1 ∷ 2 ∷ []) [] ∷ CanRead 1 ∷ Heard 1 text1461 ∷ Noted (Taken 1 728 Fetch) ∷ wait true (1 ∷ 2 ∷ []) (2 ∷ []) ∷ CanWrite 2 ∷ Asked 2 text1462 ∷ wait true (1 ∷ 2 ∷ []) [] ∷ CanRead 2 ∷ Got 2 text5 ∷ Noted (Taken 1 728 (Hit 0 0)) ∷ wait true (1 ∷ 2 ∷ []) (1 ∷ []) ∷ CanWrite 1 ∷ Said 1 154 text6 ∷ wait true (1 ∷ 2 ∷ []) [] ∷ CanRead 1 ∷ Heard 1 text1463 ∷ Noted (Taken 1 729 Fetch) ∷ wait true (1 ∷ 2 ∷ []) (2 ∷ []) ∷ CanWrite 2 ∷ Asked 2 text1464 ∷ wait true (1 ∷ 2 ∷ []) [] ∷ CanRead 2 ∷ Got 2 text5 ∷ Noted (Taken 1 729 (Hit 0 0)) ∷ wait true (1 ∷ 2 ∷ []) (1 ∷ []) ∷ CanWrite 1 ∷ Said 1 154 text6 ∷ wait true (1 ∷ 2 ∷ []) [] ∷ CanRead 1 ∷ Heard 1 text1465 ∷ Noted (Taken 1 730 Fetch) ∷ wait true (1 ∷ 2 ∷ []) (2 ∷ []) ∷ CanWrite 2 ∷ Asked 2 text1466 ∷ wait true (1 ∷ 2 ∷ []) [] ∷ CanRead 2 ∷ Got 2 text5 ∷ Noted (Taken 1 730 (Hit 0 0)) ∷ wait true (1 ∷ 2 ∷ []) (1 ∷ []) ∷ CanWrite 1 ∷ Said 1 154 text6 ∷ wait true (1 ∷ 2 ∷ []) [] ∷ CanRead 1 ∷ Heard 1 text1467 ∷ Noted (Taken 1 731 Fetch) ∷ wait true (1 ∷ 2 ∷ []) (2 ∷ []) ∷ CanWrite 2 ∷ Asked 2 text1468 ∷ wait true (1 ∷ 2 ∷ []) [] ∷ CanRead 2 ∷ Got 2 text5 ∷ Noted (Taken 1 731 (Hit 0 0)) ∷ wait true (1 ∷ 2 ∷ []) (1 ∷ []) ∷ CanWrite 1 ∷ Said 1 154 text6 ∷ wait true (1 ∷ 2 ∷ []) [] ∷ CanRead 1 ∷ Heard 1 text1469 ∷ Noted (Taken 1 732 Fetch) ∷ wait true (1 ∷ 2 ∷ []) (2 ∷ []) ∷ CanWrite 2 ∷ Asked 2 text1470 ∷ wait true (1 ∷ 2 ∷ []) [] ∷ CanRead 2 ∷ Got 2 text5 ∷ Noted (Taken 1 732 (Hit 0 0)) ∷ wait true (1 ∷ 2 ∷ []) (1 ∷ []) ∷ CanWrite 1 ∷ Said 1 154 text6 ∷ wait true (1 ∷ 2 ∷ []) [] ∷ CanRead 1 ∷ Heard 1 text1471 ∷ Noted (Taken 1 733 Fetch) ∷ wait true (1 ∷ 2 ∷ []) (2 ∷ []) ∷ CanWrite 2 ∷ Asked 2 text1472 ∷ wait true (1 ∷ 2 ∷ []) [] ∷ CanRead 2 ∷ Got 2 text5 ∷ Noted (Taken 1 733 (Hit 0 0)) ∷ wait true (1 ∷ 2 ∷ []) (1 ∷ []) ∷ CanWrite 1 ∷ Said 1 154 text6 ∷ wait true (1 ∷ 2 ∷ []) [] ∷ CanRead 1 ∷ Heard 1 text1473 ∷ Noted (Taken 1 734 Fetch) ∷ wait true (1 ∷ 2 ∷ []) (2 ∷ []) ∷ CanWrite 2 ∷ Asked 2 text1474 ∷ wait true (1 ∷ 2 ∷ []) [] ∷ CanRead 2 ∷ Got 2 text5 ∷ Noted (Taken 1 734 (Hit 0 0)) ∷ wait true (1 ∷ 2 ∷ []) (1 ∷ []) ∷ CanWrite 1 ∷ Said 1 154 text6 ∷ wait true (1 ∷ 2 ∷ []) [] ∷ CanRead 1 ∷ Heard 1 text1475 ∷ Noted (Taken 1 735 Fetch) ∷ wait true (1 ∷ 2 ∷ []) (2 ∷ []) ∷ CanWrite 2 ∷ Asked 2 text1476 ∷ wait true (1 ∷ 2 ∷ []) [] ∷ CanRead 2 ∷ Got 2 text5 ∷ Noted (Taken 1 735 (Hit 0 0)) ∷ wait true (1 ∷ 2 ∷ []) (1 ∷ []) ∷ CanWrite 1 ∷ Said 1 154 text6 ∷ wait true (1 ∷ 2 ∷ []) [] ∷ CanRead 1 ∷ Heard 1 text1477 ∷ Noted (Taken 1 736 Fetch) ∷ wait true (1 ∷ 2 ∷ []) (2 ∷ []) ∷ []))
unfolding judging front0x41
front0x42 = (_, refl)

front0x43 : (s : State) × (arrived s ≡ judge 10320 front0x42.0 (CanWrite 2 ∷ Asked 2 text1478 ∷ wait true (1 ∷ 2 ∷ []) [] ∷ CanRead 2 ∷ Got 2 text5 ∷ Noted (Taken 1 736 (Hit 0 0)) ∷ wait true (1 ∷ 2 ∷ []) (1 ∷ []) ∷ CanWrite 1 ∷ Said 1 154 text6 ∷ wait true (1 ∷ 2 ∷ []) [] ∷ CanRead 1 ∷ Heard 1 text1479 ∷ Noted (Taken 1 737 Fetch) ∷ wait true (1 ∷ 2 ∷ []) (2 ∷ []) ∷ CanWrite 2 ∷ Asked 2 text1480 ∷ wait true (1 ∷ 2 ∷ []) [] ∷ CanRead 2 ∷ Got 2 text5 ∷ Noted (Taken 1 737 (Hit 0 0)) ∷ wait true (1 ∷ 2 ∷ []) (1 ∷ []) ∷ CanWrite 1 ∷ Said 1 154 text6 ∷ wait true (1 ∷ 2 ∷ []) [] ∷ CanRead 1 ∷ Heard 1 text1481 ∷ Noted (Taken 1 738 Fetch) ∷ wait true (1 ∷ 2 ∷ []) (2 ∷ []) ∷ CanWrite 2 ∷ Asked 2 text1482 ∷ wait true (1 ∷ 2 ∷ []) [] ∷ CanRead 2 ∷ Got 2 text5 ∷ Noted (Taken 1 738 (Hit 0 0)) ∷ wait true (1 ∷ 2 ∷ []) (1 ∷ []) ∷ CanWrite 1 ∷ Said 1 154 text6 ∷ wait true (1 ∷ 2 ∷ []) [] ∷ CanRead 1 ∷ Heard 1 text1483 ∷ Noted (Taken 1 739 Fetch) ∷ wait true (1 ∷ 2 ∷ []) (2 ∷ []) ∷ CanWrite 2 ∷ Asked 2 text1484 ∷ wait true (1 ∷ 2 ∷ []) [] ∷ CanRead 2 ∷ Got 2 text5 ∷ Noted (Taken 1 739 (Hit 0 0)) ∷ wait true (1 ∷ 2 ∷ []) (1 ∷ []) ∷ CanWrite 1 ∷ Said 1 154 text6 ∷ wait true (1 ∷ 2 ∷ []) [] ∷ CanRead 1 ∷ Heard 1 text1485 ∷ Noted (Taken 1 740 Fetch) ∷ wait true (1 ∷ 2 ∷ []) (2 ∷ []) ∷ CanWrite 2 ∷ Asked 2 text1486 ∷ wait true (1 ∷ 2 ∷ []) [] ∷ CanRead 2 ∷ Got 2 text5 ∷ Noted (Taken 1 740 (Hit 0 0)) ∷ wait true (1 ∷ 2 ∷ []) (1 ∷ []) ∷ CanWrite 1 ∷ Said 1 154 text6 ∷ wait true (1 ∷ 2 ∷ []) [] ∷ CanRead 1 ∷ Heard 1 text1487 ∷ Noted (Taken 1 741 Fetch) ∷ wait true (1 ∷ 2 ∷ []) (2 ∷ []) ∷ CanWrite 2 ∷ Asked 2 text1488 ∷ wait true (1 ∷ 2 ∷ []) [] ∷ CanRead 2 ∷ Got 2 text5 ∷ Noted (Taken 1 741 (Hit 0 0)) ∷ wait true (1 ∷ 2 ∷ []) (1 ∷ []) ∷ CanWrite 1 ∷ Said 1 154 text6 ∷ wait true (1 ∷ 2 ∷ []) [] ∷ CanRead 1 ∷ Heard 1 text1489 ∷ Noted (Taken 1 742 Fetch) ∷ wait true (1 ∷ 2 ∷ []) (2 ∷ []) ∷ CanWrite 2 ∷ Asked 2 text1490 ∷ wait true (1 ∷ 2 ∷ []) [] ∷ CanRead 2 ∷ Got 2 text5 ∷ Noted (Taken 1 742 (Hit 0 0)) ∷ wait true (1 ∷ 2 ∷ []) (1 ∷ []) ∷ CanWrite 1 ∷ Said 1 154 text6 ∷ wait true (1 ∷ 2 ∷ []) [] ∷ CanRead 1 ∷ Heard 1 text1491 ∷ Noted (Taken 1 743 Fetch) ∷ wait true (1 ∷ 2 ∷ []) (2 ∷ []) ∷ CanWrite 2 ∷ Asked 2 text1492 ∷ wait true (1 ∷ 2 ∷ []) [] ∷ CanRead 2 ∷ Got 2 text5 ∷ Noted (Taken 1 743 (Hit 0 0)) ∷ wait true (1 ∷ 2 ∷ []) (1 ∷ []) ∷ CanWrite 1 ∷ Said 1 154 text6 ∷ wait true (1 ∷ 2 ∷ []) [] ∷ CanRead 1 ∷ Heard 1 text1493 ∷ Noted (Taken 1 744 Fetch) ∷ wait true (1 ∷ 2 ∷ []) (2 ∷ []) ∷ CanWrite 2 ∷ Asked 2 text1494 ∷ wait true (1 ∷ 2 ∷ []) [] ∷ CanRead 2 ∷ Got 2 text5 ∷ Noted (Taken 1 744 (Hit 0 0)) ∷ wait true (1 ∷ 2 ∷ []) (1 ∷ []) ∷ CanWrite 1 ∷ Said 1 154 text6 ∷ wait true (1 ∷ 2 ∷ []) [] ∷ CanRead 1 ∷ Heard 1 text1495 ∷ Noted (Taken 1 745 Fetch) ∷ wait true (1 ∷ 2 ∷ []) (2 ∷ []) ∷ CanWrite 2 ∷ Asked 2 text1496 ∷ wait true (1 ∷ 2 ∷ []) [] ∷ CanRead 2 ∷ Got 2 text5 ∷ Noted (Taken 1 745 (Hit 0 0)) ∷ wait true (1 ∷ 2 ∷ []) (1 ∷ []) ∷ CanWrite 1 ∷ Said 1 154 text6 ∷ wait true (1 ∷ 2 ∷ []) [] ∷ CanRead 1 ∷ Heard 1 text1497 ∷ Noted (Taken 1 746 Fetch) ∷ wait true (1 ∷ 2 ∷ []) (2 ∷ []) ∷ CanWrite 2 ∷ Asked 2 text1498 ∷ wait true (1 ∷ 2 ∷ []) [] ∷ CanRead 2 ∷ Got 2 text5 ∷ Noted (Taken 1 746 (Hit 0 0)) ∷ wait true (1 ∷ 2 ∷ []) (1 ∷ []) ∷ CanWrite 1 ∷ Said 1 154 text6 ∷ wait true (1 ∷ 2 ∷ []) [] ∷ CanRead 1 ∷ Heard 1 text1499 ∷ Noted (Taken 1 747 Fetch) ∷ wait true (1 ∷ 2 ∷ []) (2 ∷ []) ∷ CanWrite 2 ∷ Asked 2 text1500 ∷ wait true (1 ∷ 2 ∷ []) [] ∷ CanRead 2 ∷ Got 2 text5 ∷ Noted (Taken 1 747 (Hit 0 0)) ∷ wait true (1 ∷ 2 ∷ []) (1 ∷ []) ∷ CanWrite 1 ∷ Said 1 154 text6 ∷ wait true (1 ∷ 2 ∷ []) [] ∷ CanRead 1 ∷ Heard 1 text1501 ∷ Noted (Taken 1 748 Fetch) ∷ wait true (1 ∷ 2 ∷ []) (2 ∷ []) ∷ CanWrite 2 ∷ Asked 2 text1502 ∷ wait true (1 ∷ 2 ∷ []) [] ∷ CanRead 2 ∷ Got 2 text5 ∷ Noted (Taken 1 748 (Hit 0 0)) ∷ wait true (1 ∷ 2 ∷ []) (1 ∷ []) ∷ CanWrite 1 ∷ Said 1 154 text6 ∷ wait true (1 ∷ 2 ∷ []) [] ∷ CanRead 1 ∷ Heard 1 text1503 ∷ Noted (Taken 1 749 Fetch) ∷ wait true (1 ∷ 2 ∷ []) (2 ∷ []) ∷ CanWrite 2 ∷ Asked 2 text1504 ∷ wait true (1 ∷ 2 ∷ []) [] ∷ CanRead 2 ∷ Got 2 text5 ∷ Noted (Taken 1 749 (Hit 0 0)) ∷ wait true (1 ∷ 2 ∷ []) (1 ∷ []) ∷ CanWrite 1 ∷ Said 1 154 text6 ∷ wait true (1 ∷ 2 ∷ []) [] ∷ CanRead 1 ∷ Heard 1 text1505 ∷ Noted (Taken 1 750 Fetch) ∷ wait true (1 ∷ 2 ∷ []) (2 ∷ []) ∷ CanWrite 2 ∷ Asked 2 text1506 ∷ wait true (1 ∷ 2 ∷ []) [] ∷ CanRead 2 ∷ Got 2 text5 ∷ Noted (Taken 1 750 (Hit 0 0)) ∷ wait true (1 ∷ 2 ∷ []) (1 ∷ []) ∷ CanWrite 1 ∷ Said 1 154 text6 ∷ wait true (1 ∷ 2 ∷ []) [] ∷ CanRead 1 ∷ Heard 1 text1507 ∷ Noted (Taken 1 751 Fetch) ∷ wait true (1 ∷ 2 ∷ []) (2 ∷ []) ∷ CanWrite 2 ∷ Asked 2 text1508 ∷ wait true (1 ∷ 2 ∷ []) [] ∷ CanRead 2 ∷ Got 2 text5 ∷ Noted (Taken 1 751 (Hit 0 0)) ∷ wait true (1 ∷ 2 ∷ []) (1 ∷ []) ∷ CanWrite 1 ∷ Said 1 154 text6 ∷ wait true (1 ∷ 2 ∷ []) [] ∷ CanRead 1 ∷ Heard 1 text1509 ∷ Noted (Taken 1 752 Fetch) ∷ wait true (1 ∷ 2 ∷ []) (2 ∷ []) ∷ CanWrite 2 ∷ Asked 2 text1510 ∷ wait true (1 ∷ 2 ∷ []) [] ∷ CanRead 2 ∷ Got 2 text5 ∷ Noted (Taken 1 752 (Hit 0 0)) ∷ wait true (1 ∷ 2 ∷ []) (1 ∷ []) ∷ CanWrite 1 ∷ Said 1 154 text6 ∷ wait true (1 ∷ 2 ∷ []) [] ∷ CanRead 1 ∷ Heard 1 text1511 ∷ Noted (Taken 1 753 Fetch) ∷ wait true (1 ∷ 2 ∷ []) (2 ∷ []) ∷ CanWrite 2 ∷ Asked 2 text1512 ∷ []))
unfolding judging front0x42
front0x43 = (_, refl)

front0x44 : (s : State) × (arrived s ≡ judge 10560 front0x43.0 (wait true (1 ∷ 2 ∷ []) [] ∷ CanRead 2 ∷ Got 2 text5 ∷ Noted (Taken 1 753 (Hit 0 0)) ∷ wait true (1 ∷ 2 ∷ []) (1 ∷ []) ∷ CanWrite 1 ∷ Said 1 154 text6 ∷ wait true (1 ∷ 2 ∷ []) [] ∷ CanRead 1 ∷ Heard 1 text1513 ∷ Noted (Taken 1 754 Fetch) ∷ wait true (1 ∷ 2 ∷ []) (2 ∷ []) ∷ CanWrite 2 ∷ Asked 2 text1514 ∷ wait true (1 ∷ 2 ∷ []) [] ∷ CanRead 2 ∷ Got 2 text5 ∷ Noted (Taken 1 754 (Hit 0 0)) ∷ wait true (1 ∷ 2 ∷ []) (1 ∷ []) ∷ CanWrite 1 ∷ Said 1 154 text6 ∷ wait true (1 ∷ 2 ∷ []) [] ∷ CanRead 1 ∷ Heard 1 text1515 ∷ Noted (Taken 1 755 Fetch) ∷ wait true (1 ∷ 2 ∷ []) (2 ∷ []) ∷ CanWrite 2 ∷ Asked 2 text1516 ∷ wait true (1 ∷ 2 ∷ []) [] ∷ CanRead 2 ∷ Got 2 text5 ∷ Noted (Taken 1 755 (Hit 0 0)) ∷ wait true (1 ∷ 2 ∷ []) (1 ∷ []) ∷ CanWrite 1 ∷ Said 1 154 text6 ∷ wait true (1 ∷ 2 ∷ []) [] ∷ CanRead 1 ∷ Heard 1 text1517 ∷ Noted (Taken 1 756 Fetch) ∷ wait true (1 ∷ 2 ∷ []) (2 ∷ []) ∷ CanWrite 2 ∷ Asked 2 text1518 ∷ wait true (1 ∷ 2 ∷ []) [] ∷ CanRead 2 ∷ Got 2 text5 ∷ Noted (Taken 1 756 (Hit 0 0)) ∷ wait true (1 ∷ 2 ∷ []) (1 ∷ []) ∷ CanWrite 1 ∷ Said 1 154 text6 ∷ wait true (1 ∷ 2 ∷ []) [] ∷ CanRead 1 ∷ Heard 1 text1519 ∷ Noted (Taken 1 757 Fetch) ∷ wait true (1 ∷ 2 ∷ []) (2 ∷ []) ∷ CanWrite 2 ∷ Asked 2 text1520 ∷ wait true (1 ∷ 2 ∷ []) [] ∷ CanRead 2 ∷ Got 2 text5 ∷ Noted (Taken 1 757 (Hit 0 0)) ∷ wait true (1 ∷ 2 ∷ []) (1 ∷ []) ∷ CanWrite 1 ∷ Said 1 154 text6 ∷ wait true (1 ∷ 2 ∷ []) [] ∷ CanRead 1 ∷ Heard 1 text1521 ∷ Noted (Taken 1 758 Fetch) ∷ wait true (1 ∷ 2 ∷ []) (2 ∷ []) ∷ CanWrite 2 ∷ Asked 2 text1522 ∷ wait true (1 ∷ 2 ∷ []) [] ∷ CanRead 2 ∷ Got 2 text5 ∷ Noted (Taken 1 758 (Hit 0 0)) ∷ wait true (1 ∷ 2 ∷ []) (1 ∷ []) ∷ CanWrite 1 ∷ Said 1 154 text6 ∷ wait true (1 ∷ 2 ∷ []) [] ∷ CanRead 1 ∷ Heard 1 text1523 ∷ Noted (Taken 1 759 Fetch) ∷ wait true (1 ∷ 2 ∷ []) (2 ∷ []) ∷ CanWrite 2 ∷ Asked 2 text1524 ∷ wait true (1 ∷ 2 ∷ []) [] ∷ CanRead 2 ∷ Got 2 text5 ∷ Noted (Taken 1 759 (Hit 0 0)) ∷ wait true (1 ∷ 2 ∷ []) (1 ∷ []) ∷ CanWrite 1 ∷ Said 1 154 text6 ∷ wait true (1 ∷ 2 ∷ []) [] ∷ CanRead 1 ∷ Heard 1 text1525 ∷ Noted (Taken 1 760 Fetch) ∷ wait true (1 ∷ 2 ∷ []) (2 ∷ []) ∷ CanWrite 2 ∷ Asked 2 text1526 ∷ wait true (1 ∷ 2 ∷ []) [] ∷ CanRead 2 ∷ Got 2 text5 ∷ Noted (Taken 1 760 (Hit 0 0)) ∷ wait true (1 ∷ 2 ∷ []) (1 ∷ []) ∷ CanWrite 1 ∷ Said 1 154 text6 ∷ wait true (1 ∷ 2 ∷ []) [] ∷ CanRead 1 ∷ Heard 1 text1527 ∷ Noted (Taken 1 761 Fetch) ∷ wait true (1 ∷ 2 ∷ []) (2 ∷ []) ∷ CanWrite 2 ∷ Asked 2 text1528 ∷ wait true (1 ∷ 2 ∷ []) [] ∷ CanRead 2 ∷ Got 2 text5 ∷ Noted (Taken 1 761 (Hit 0 0)) ∷ wait true (1 ∷ 2 ∷ []) (1 ∷ []) ∷ CanWrite 1 ∷ Said 1 154 text6 ∷ wait true (1 ∷ 2 ∷ []) [] ∷ CanRead 1 ∷ Heard 1 text1529 ∷ Noted (Taken 1 762 Fetch) ∷ wait true (1 ∷ 2 ∷ []) (2 ∷ []) ∷ CanWrite 2 ∷ Asked 2 text1530 ∷ wait true (1 ∷ 2 ∷ []) [] ∷ CanRead 2 ∷ Got 2 text5 ∷ Noted (Taken 1 762 (Hit 0 0)) ∷ wait true (1 ∷ 2 ∷ []) (1 ∷ []) ∷ CanWrite 1 ∷ Said 1 154 text6 ∷ wait true (1 ∷ 2 ∷ []) [] ∷ CanRead 1 ∷ Heard 1 text1531 ∷ Noted (Taken 1 763 Fetch) ∷ wait true (1 ∷ 2 ∷ []) (2 ∷ []) ∷ CanWrite 2 ∷ Asked 2 text1532 ∷ wait true (1 ∷ 2 ∷ []) [] ∷ CanRead 2 ∷ Got 2 text5 ∷ Noted (Taken 1 763 (Hit 0 0)) ∷ wait true (1 ∷ 2 ∷ []) (1 ∷ []) ∷ CanWrite 1 ∷ Said 1 154 text6 ∷ wait true (1 ∷ 2 ∷ []) [] ∷ CanRead 1 ∷ Heard 1 text1533 ∷ Noted (Taken 1 764 Fetch) ∷ wait true (1 ∷ 2 ∷ []) (2 ∷ []) ∷ CanWrite 2 ∷ Asked 2 text1534 ∷ wait true (1 ∷ 2 ∷ []) [] ∷ CanRead 2 ∷ Got 2 text5 ∷ Noted (Taken 1 764 (Hit 0 0)) ∷ wait true (1 ∷ 2 ∷ []) (1 ∷ []) ∷ CanWrite 1 ∷ Said 1 154 text6 ∷ wait true (1 ∷ 2 ∷ []) [] ∷ CanRead 1 ∷ Heard 1 text1535 ∷ Noted (Taken 1 765 Fetch) ∷ wait true (1 ∷ 2 ∷ []) (2 ∷ []) ∷ CanWrite 2 ∷ Asked 2 text1536 ∷ wait true (1 ∷ 2 ∷ []) [] ∷ CanRead 2 ∷ Got 2 text5 ∷ Noted (Taken 1 765 (Hit 0 0)) ∷ wait true (1 ∷ 2 ∷ []) (1 ∷ []) ∷ CanWrite 1 ∷ Said 1 154 text6 ∷ wait true (1 ∷ 2 ∷ []) [] ∷ CanRead 1 ∷ Heard 1 text1537 ∷ Noted (Taken 1 766 Fetch) ∷ wait true (1 ∷ 2 ∷ []) (2 ∷ []) ∷ CanWrite 2 ∷ Asked 2 text1538 ∷ wait true (1 ∷ 2 ∷ []) [] ∷ CanRead 2 ∷ Got 2 text5 ∷ Noted (Taken 1 766 (Hit 0 0)) ∷ wait true (1 ∷ 2 ∷ []) (1 ∷ []) ∷ CanWrite 1 ∷ Said 1 154 text6 ∷ wait true (1 ∷ 2 ∷ []) [] ∷ CanRead 1 ∷ Heard 1 text1539 ∷ Noted (Taken 1 767 Fetch) ∷ wait true (1 ∷ 2 ∷ []) (2 ∷ []) ∷ CanWrite 2 ∷ Asked 2 text1540 ∷ wait true (1 ∷ 2 ∷ []) [] ∷ CanRead 2 ∷ Got 2 text5 ∷ Noted (Taken 1 767 (Hit 0 0)) ∷ wait true (1 ∷ 2 ∷ []) (1 ∷ []) ∷ CanWrite 1 ∷ Said 1 154 text6 ∷ wait true (1 ∷ 2 ∷ []) [] ∷ CanRead 1 ∷ Heard 1 text1541 ∷ Noted (Taken 1 768 Fetch) ∷ wait true (1 ∷ 2 ∷ []) (2 ∷ []) ∷ CanWrite 2 ∷ Asked 2 text1542 ∷ wait true (1 ∷ 2 ∷ []) [] ∷ CanRead 2 ∷ Got 2 text5 ∷ Noted (Taken 1 768 (Hit 0 0)) ∷ wait true (1 ∷ 2 ∷ []) (1 ∷ []) ∷ CanWrite 1 ∷ Said 1 154 text6 ∷ wait true (1 ∷ 2 ∷ []) [] ∷ CanRead 1 ∷ Heard 1 text1543 ∷ Noted (Taken 1 769 Fetch) ∷ wait true (1 ∷ 2 ∷ []) (2 ∷ []) ∷ CanWrite 2 ∷ Asked 2 text1544 ∷ wait true (1 ∷ 2 ∷ []) [] ∷ CanRead 2 ∷ Got 2 text5 ∷ Noted (Taken 1 769 (Hit 0 0)) ∷ wait true (1 ∷ 2 ∷ []) (1 ∷ []) ∷ CanWrite 1 ∷ Said 1 154 text6 ∷ wait true (1 ∷ 2 ∷ []) [] ∷ CanRead 1 ∷ Heard 1 text1545 ∷ Noted (Taken 1 770 Fetch) ∷ wait true (1 ∷ 2 ∷ []) (2 ∷ []) ∷ CanWrite 2 ∷ Asked 2 text1546 ∷ wait true (1 ∷ 2 ∷ []) [] ∷ CanRead 2 ∷ []))
unfolding judging front0x43
front0x44 = (_, refl)

front0x45 : (s : State) × (arrived s ≡ judge 10800 front0x44.0 (Got 2 text5 ∷ Noted (Taken 1 770 (Hit 0 0)) ∷ wait true (1 ∷ 2 ∷ []) (1 ∷ []) ∷ CanWrite 1 ∷ Said 1 154 text6 ∷ wait true (1 ∷ 2 ∷ []) [] ∷ CanRead 1 ∷ Heard 1 text1547 ∷ Noted (Taken 1 771 Fetch) ∷ wait true (1 ∷ 2 ∷ []) (2 ∷ []) ∷ CanWrite 2 ∷ Asked 2 text1548 ∷ wait true (1 ∷ 2 ∷ []) [] ∷ CanRead 2 ∷ Got 2 text5 ∷ Noted (Taken 1 771 (Hit 0 0)) ∷ wait true (1 ∷ 2 ∷ []) (1 ∷ []) ∷ CanWrite 1 ∷ Said 1 154 text6 ∷ wait true (1 ∷ 2 ∷ []) [] ∷ CanRead 1 ∷ Heard 1 text1549 ∷ Noted (Taken 1 772 Fetch) ∷ wait true (1 ∷ 2 ∷ []) (2 ∷ []) ∷ CanWrite 2 ∷ Asked 2 text1550 ∷ wait true (1 ∷ 2 ∷ []) [] ∷ CanRead 2 ∷ Got 2 text5 ∷ Noted (Taken 1 772 (Hit 0 0)) ∷ wait true (1 ∷ 2 ∷ []) (1 ∷ []) ∷ CanWrite 1 ∷ Said 1 154 text6 ∷ wait true (1 ∷ 2 ∷ []) [] ∷ CanRead 1 ∷ Heard 1 text1551 ∷ Noted (Taken 1 773 Fetch) ∷ wait true (1 ∷ 2 ∷ []) (2 ∷ []) ∷ CanWrite 2 ∷ Asked 2 text1552 ∷ wait true (1 ∷ 2 ∷ []) [] ∷ CanRead 2 ∷ Got 2 text5 ∷ Noted (Taken 1 773 (Hit 0 0)) ∷ wait true (1 ∷ 2 ∷ []) (1 ∷ []) ∷ CanWrite 1 ∷ Said 1 154 text6 ∷ wait true (1 ∷ 2 ∷ []) [] ∷ CanRead 1 ∷ Heard 1 text1553 ∷ Noted (Taken 1 774 Fetch) ∷ wait true (1 ∷ 2 ∷ []) (2 ∷ []) ∷ CanWrite 2 ∷ Asked 2 text1554 ∷ wait true (1 ∷ 2 ∷ []) [] ∷ CanRead 2 ∷ Got 2 text5 ∷ Noted (Taken 1 774 (Hit 0 0)) ∷ wait true (1 ∷ 2 ∷ []) (1 ∷ []) ∷ CanWrite 1 ∷ Said 1 154 text6 ∷ wait true (1 ∷ 2 ∷ []) [] ∷ CanRead 1 ∷ Heard 1 text1555 ∷ Noted (Taken 1 775 Fetch) ∷ wait true (1 ∷ 2 ∷ []) (2 ∷ []) ∷ CanWrite 2 ∷ Asked 2 text1556 ∷ wait true (1 ∷ 2 ∷ []) [] ∷ CanRead 2 ∷ Got 2 text5 ∷ Noted (Taken 1 775 (Hit 0 0)) ∷ wait true (1 ∷ 2 ∷ []) (1 ∷ []) ∷ CanWrite 1 ∷ Said 1 154 text6 ∷ wait true (1 ∷ 2 ∷ []) [] ∷ CanRead 1 ∷ Heard 1 text1557 ∷ Noted (Taken 1 776 Fetch) ∷ wait true (1 ∷ 2 ∷ []) (2 ∷ []) ∷ CanWrite 2 ∷ Asked 2 text1558 ∷ wait true (1 ∷ 2 ∷ []) [] ∷ CanRead 2 ∷ Got 2 text5 ∷ Noted (Taken 1 776 (Hit 0 0)) ∷ wait true (1 ∷ 2 ∷ []) (1 ∷ []) ∷ CanWrite 1 ∷ Said 1 154 text6 ∷ wait true (1 ∷ 2 ∷ []) [] ∷ CanRead 1 ∷ Heard 1 text1559 ∷ Noted (Taken 1 777 Fetch) ∷ wait true (1 ∷ 2 ∷ []) (2 ∷ []) ∷ CanWrite 2 ∷ Asked 2 text1560 ∷ wait true (1 ∷ 2 ∷ []) [] ∷ CanRead 2 ∷ Got 2 text5 ∷ Noted (Taken 1 777 (Hit 0 0)) ∷ wait true (1 ∷ 2 ∷ []) (1 ∷ []) ∷ CanWrite 1 ∷ Said 1 154 text6 ∷ wait true (1 ∷ 2 ∷ []) [] ∷ CanRead 1 ∷ Heard 1 text1561 ∷ Noted (Taken 1 778 Fetch) ∷ wait true (1 ∷ 2 ∷ []) (2 ∷ []) ∷ CanWrite 2 ∷ Asked 2 text1562 ∷ wait true (1 ∷ 2 ∷ []) [] ∷ CanRead 2 ∷ Got 2 text5 ∷ Noted (Taken 1 778 (Hit 0 0)) ∷ wait true (1 ∷ 2 ∷ []) (1 ∷ []) ∷ CanWrite 1 ∷ Said 1 154 text6 ∷ wait true (1 ∷ 2 ∷ []) [] ∷ CanRead 1 ∷ Heard 1 text1563 ∷ Noted (Taken 1 779 Fetch) ∷ wait true (1 ∷ 2 ∷ []) (2 ∷ []) ∷ CanWrite 2 ∷ Asked 2 text1564 ∷ wait true (1 ∷ 2 ∷ []) [] ∷ CanRead 2 ∷ Got 2 text5 ∷ Noted (Taken 1 779 (Hit 0 0)) ∷ wait true (1 ∷ 2 ∷ []) (1 ∷ []) ∷ CanWrite 1 ∷ Said 1 154 text6 ∷ wait true (1 ∷ 2 ∷ []) [] ∷ CanRead 1 ∷ Heard 1 text1565 ∷ Noted (Taken 1 780 Fetch) ∷ wait true (1 ∷ 2 ∷ []) (2 ∷ []) ∷ CanWrite 2 ∷ Asked 2 text1566 ∷ wait true (1 ∷ 2 ∷ []) [] ∷ CanRead 2 ∷ Got 2 text5 ∷ Noted (Taken 1 780 (Hit 0 0)) ∷ wait true (1 ∷ 2 ∷ []) (1 ∷ []) ∷ CanWrite 1 ∷ Said 1 154 text6 ∷ wait true (1 ∷ 2 ∷ []) [] ∷ CanRead 1 ∷ Heard 1 text1567 ∷ Noted (Taken 1 781 Fetch) ∷ wait true (1 ∷ 2 ∷ []) (2 ∷ []) ∷ CanWrite 2 ∷ Asked 2 text1568 ∷ wait true (1 ∷ 2 ∷ []) [] ∷ CanRead 2 ∷ Got 2 text5 ∷ Noted (Taken 1 781 (Hit 0 0)) ∷ wait true (1 ∷ 2 ∷ []) (1 ∷ []) ∷ CanWrite 1 ∷ Said 1 154 text6 ∷ wait true (1 ∷ 2 ∷ []) [] ∷ CanRead 1 ∷ Heard 1 text1569 ∷ Noted (Taken 1 782 Fetch) ∷ wait true (1 ∷ 2 ∷ []) (2 ∷ []) ∷ CanWrite 2 ∷ Asked 2 text1570 ∷ wait true (1 ∷ 2 ∷ []) [] ∷ CanRead 2 ∷ Got 2 text5 ∷ Noted (Taken 1 782 (Hit 0 0)) ∷ wait true (1 ∷ 2 ∷ []) (1 ∷ []) ∷ CanWrite 1 ∷ Said 1 154 text6 ∷ wait true (1 ∷ 2 ∷ []) [] ∷ CanRead 1 ∷ Heard 1 text1571 ∷ Noted (Taken 1 783 Fetch) ∷ wait true (1 ∷ 2 ∷ []) (2 ∷ []) ∷ CanWrite 2 ∷ Asked 2 text1572 ∷ wait true (1 ∷ 2 ∷ []) [] ∷ CanRead 2 ∷ Got 2 text5 ∷ Noted (Taken 1 783 (Hit 0 0)) ∷ wait true (1 ∷ 2 ∷ []) (1 ∷ []) ∷ CanWrite 1 ∷ Said 1 154 text6 ∷ wait true (1 ∷ 2 ∷ []) [] ∷ CanRead 1 ∷ Heard 1 text1573 ∷ Noted (Taken 1 784 Fetch) ∷ wait true (1 ∷ 2 ∷ []) (2 ∷ []) ∷ CanWrite 2 ∷ Asked 2 text1574 ∷ wait true (1 ∷ 2 ∷ []) [] ∷ CanRead 2 ∷ Got 2 text5 ∷ Noted (Taken 1 784 (Hit 0 0)) ∷ wait true (1 ∷ 2 ∷ []) (1 ∷ []) ∷ CanWrite 1 ∷ Said 1 154 text6 ∷ wait true (1 ∷ 2 ∷ []) [] ∷ CanRead 1 ∷ Heard 1 text1575 ∷ Noted (Taken 1 785 Fetch) ∷ wait true (1 ∷ 2 ∷ []) (2 ∷ []) ∷ CanWrite 2 ∷ Asked 2 text1576 ∷ wait true (1 ∷ 2 ∷ []) [] ∷ CanRead 2 ∷ Got 2 text5 ∷ Noted (Taken 1 785 (Hit 0 0)) ∷ wait true (1 ∷ 2 ∷ []) (1 ∷ []) ∷ CanWrite 1 ∷ Said 1 154 text6 ∷ wait true (1 ∷ 2 ∷ []) [] ∷ CanRead 1 ∷ Heard 1 text1577 ∷ Noted (Taken 1 786 Fetch) ∷ wait true (1 ∷ 2 ∷ []) (2 ∷ []) ∷ CanWrite 2 ∷ Asked 2 text1578 ∷ wait true (1 ∷ 2 ∷ []) [] ∷ CanRead 2 ∷ Got 2 text5 ∷ Noted (Taken 1 786 (Hit 0 0)) ∷ wait true (1 ∷ 2 ∷ []) (1 ∷ []) ∷ CanWrite 1 ∷ Said 1 154 text6 ∷ wait true (1 ∷ 2 ∷ []) [] ∷ CanRead 1 ∷ Heard 1 text1579 ∷ Noted (Taken 1 787 Fetch) ∷ wait true (1 ∷ 2 ∷ []) (2 ∷ []) ∷ CanWrite 2 ∷ Asked 2 text1580 ∷ wait true (1 ∷ 2 ∷ []) [] ∷ CanRead 2 ∷ Got 2 text5 ∷ Noted (Taken 1 787 (Hit 0 0)) ∷ []))
unfolding judging front0x44
front0x45 = (_, refl)

front0x46 : (s : State) × (arrived s ≡ judge 11040 front0x45.0 (wait true (1 ∷ 2 ∷ []) (1 ∷ []) ∷ CanWrite 1 ∷ Said 1 154 text6 ∷ wait true (1 ∷ 2 ∷ []) [] ∷ CanRead 1 ∷ Heard 1 text1581 ∷ Noted (Taken 1 788 Fetch) ∷ wait true (1 ∷ 2 ∷ []) (2 ∷ []) ∷ CanWrite 2 ∷ Asked 2 text1582 ∷ wait true (1 ∷ 2 ∷ []) [] ∷ CanRead 2 ∷ Got 2 text5 ∷ Noted (Taken 1 788 (Hit 0 0)) ∷ wait true (1 ∷ 2 ∷ []) (1 ∷ []) ∷ CanWrite 1 ∷ Said 1 154 text6 ∷ wait true (1 ∷ 2 ∷ []) [] ∷ CanRead 1 ∷ Heard 1 text1583 ∷ Noted (Taken 1 789 Fetch) ∷ wait true (1 ∷ 2 ∷ []) (2 ∷ []) ∷ CanWrite 2 ∷ Asked 2 text1584 ∷ wait true (1 ∷ 2 ∷ []) [] ∷ CanRead 2 ∷ Got 2 text5 ∷ Noted (Taken 1 789 (Hit 0 0)) ∷ wait true (1 ∷ 2 ∷ []) (1 ∷ []) ∷ CanWrite 1 ∷ Said 1 154 text6 ∷ wait true (1 ∷ 2 ∷ []) [] ∷ CanRead 1 ∷ Heard 1 text1585 ∷ Noted (Taken 1 790 Fetch) ∷ wait true (1 ∷ 2 ∷ []) (2 ∷ []) ∷ CanWrite 2 ∷ Asked 2 text1586 ∷ wait true (1 ∷ 2 ∷ []) [] ∷ CanRead 2 ∷ Got 2 text5 ∷ Noted (Taken 1 790 (Hit 0 0)) ∷ wait true (1 ∷ 2 ∷ []) (1 ∷ []) ∷ CanWrite 1 ∷ Said 1 154 text6 ∷ wait true (1 ∷ 2 ∷ []) [] ∷ CanRead 1 ∷ Heard 1 text1587 ∷ Noted (Taken 1 791 Fetch) ∷ wait true (1 ∷ 2 ∷ []) (2 ∷ []) ∷ CanWrite 2 ∷ Asked 2 text1588 ∷ wait true (1 ∷ 2 ∷ []) [] ∷ CanRead 2 ∷ Got 2 text5 ∷ Noted (Taken 1 791 (Hit 0 0)) ∷ wait true (1 ∷ 2 ∷ []) (1 ∷ []) ∷ CanWrite 1 ∷ Said 1 154 text6 ∷ wait true (1 ∷ 2 ∷ []) [] ∷ CanRead 1 ∷ Heard 1 text1589 ∷ Noted (Taken 1 792 Fetch) ∷ wait true (1 ∷ 2 ∷ []) (2 ∷ []) ∷ CanWrite 2 ∷ Asked 2 text1590 ∷ wait true (1 ∷ 2 ∷ []) [] ∷ CanRead 2 ∷ Got 2 text5 ∷ Noted (Taken 1 792 (Hit 0 0)) ∷ wait true (1 ∷ 2 ∷ []) (1 ∷ []) ∷ CanWrite 1 ∷ Said 1 154 text6 ∷ wait true (1 ∷ 2 ∷ []) [] ∷ CanRead 1 ∷ Heard 1 text1591 ∷ Noted (Taken 1 793 Fetch) ∷ wait true (1 ∷ 2 ∷ []) (2 ∷ []) ∷ CanWrite 2 ∷ Asked 2 text1592 ∷ wait true (1 ∷ 2 ∷ []) [] ∷ CanRead 2 ∷ Got 2 text5 ∷ Noted (Taken 1 793 (Hit 0 0)) ∷ wait true (1 ∷ 2 ∷ []) (1 ∷ []) ∷ CanWrite 1 ∷ Said 1 154 text6 ∷ wait true (1 ∷ 2 ∷ []) [] ∷ CanRead 1 ∷ Heard 1 text1593 ∷ Noted (Taken 1 794 Fetch) ∷ wait true (1 ∷ 2 ∷ []) (2 ∷ []) ∷ CanWrite 2 ∷ Asked 2 text1594 ∷ wait true (1 ∷ 2 ∷ []) [] ∷ CanRead 2 ∷ Got 2 text5 ∷ Noted (Taken 1 794 (Hit 0 0)) ∷ wait true (1 ∷ 2 ∷ []) (1 ∷ []) ∷ CanWrite 1 ∷ Said 1 154 text6 ∷ wait true (1 ∷ 2 ∷ []) [] ∷ CanRead 1 ∷ Heard 1 text1595 ∷ Noted (Taken 1 795 Fetch) ∷ wait true (1 ∷ 2 ∷ []) (2 ∷ []) ∷ CanWrite 2 ∷ Asked 2 text1596 ∷ wait true (1 ∷ 2 ∷ []) [] ∷ CanRead 2 ∷ Got 2 text5 ∷ Noted (Taken 1 795 (Hit 0 0)) ∷ wait true (1 ∷ 2 ∷ []) (1 ∷ []) ∷ CanWrite 1 ∷ Said 1 154 text6 ∷ wait true (1 ∷ 2 ∷ []) [] ∷ CanRead 1 ∷ Heard 1 text1597 ∷ Noted (Taken 1 796 Fetch) ∷ wait true (1 ∷ 2 ∷ []) (2 ∷ []) ∷ CanWrite 2 ∷ Asked 2 text1598 ∷ wait true (1 ∷ 2 ∷ []) [] ∷ CanRead 2 ∷ Got 2 text5 ∷ Noted (Taken 1 796 (Hit 0 0)) ∷ wait true (1 ∷ 2 ∷ []) (1 ∷ []) ∷ CanWrite 1 ∷ Said 1 154 text6 ∷ wait true (1 ∷ 2 ∷ []) [] ∷ CanRead 1 ∷ Heard 1 text1599 ∷ Noted (Taken 1 797 Fetch) ∷ wait true (1 ∷ 2 ∷ []) (2 ∷ []) ∷ CanWrite 2 ∷ Asked 2 text1600 ∷ wait true (1 ∷ 2 ∷ []) [] ∷ CanRead 2 ∷ Got 2 text5 ∷ Noted (Taken 1 797 (Hit 0 0)) ∷ wait true (1 ∷ 2 ∷ []) (1 ∷ []) ∷ CanWrite 1 ∷ Said 1 154 text6 ∷ wait true (1 ∷ 2 ∷ []) [] ∷ CanRead 1 ∷ Heard 1 text1601 ∷ Noted (Taken 1 798 Fetch) ∷ wait true (1 ∷ 2 ∷ []) (2 ∷ []) ∷ CanWrite 2 ∷ Asked 2 text1602 ∷ wait true (1 ∷ 2 ∷ []) [] ∷ CanRead 2 ∷ Got 2 text5 ∷ Noted (Taken 1 798 (Hit 0 0)) ∷ wait true (1 ∷ 2 ∷ []) (1 ∷ []) ∷ CanWrite 1 ∷ Said 1 154 text6 ∷ wait true (1 ∷ 2 ∷ []) [] ∷ CanRead 1 ∷ Heard 1 text1603 ∷ Noted (Taken 1 799 Fetch) ∷ wait true (1 ∷ 2 ∷ []) (2 ∷ []) ∷ CanWrite 2 ∷ Asked 2 text1604 ∷ wait true (1 ∷ 2 ∷ []) [] ∷ CanRead 2 ∷ Got 2 text5 ∷ Noted (Taken 1 799 (Hit 0 0)) ∷ wait true (1 ∷ 2 ∷ []) (1 ∷ []) ∷ CanWrite 1 ∷ Said 1 154 text6 ∷ wait true (1 ∷ 2 ∷ []) [] ∷ CanRead 1 ∷ Heard 1 text1605 ∷ Noted (Taken 1 800 Fetch) ∷ wait true (1 ∷ 2 ∷ []) (2 ∷ []) ∷ CanWrite 2 ∷ Asked 2 text1606 ∷ wait true (1 ∷ 2 ∷ []) [] ∷ CanRead 2 ∷ Got 2 text5 ∷ Noted (Taken 1 800 (Hit 0 0)) ∷ wait true (1 ∷ 2 ∷ []) (1 ∷ []) ∷ CanWrite 1 ∷ Said 1 154 text6 ∷ wait true (1 ∷ 2 ∷ []) [] ∷ CanRead 1 ∷ Heard 1 text1607 ∷ Noted (Taken 1 801 Fetch) ∷ wait true (1 ∷ 2 ∷ []) (2 ∷ []) ∷ CanWrite 2 ∷ Asked 2 text1608 ∷ wait true (1 ∷ 2 ∷ []) [] ∷ CanRead 2 ∷ Got 2 text5 ∷ Noted (Taken 1 801 (Hit 0 0)) ∷ wait true (1 ∷ 2 ∷ []) (1 ∷ []) ∷ CanWrite 1 ∷ Said 1 154 text6 ∷ wait true (1 ∷ 2 ∷ []) [] ∷ CanRead 1 ∷ Heard 1 text1609 ∷ Noted (Taken 1 802 Fetch) ∷ wait true (1 ∷ 2 ∷ []) (2 ∷ []) ∷ CanWrite 2 ∷ Asked 2 text1610 ∷ wait true (1 ∷ 2 ∷ []) [] ∷ CanRead 2 ∷ Got 2 text5 ∷ Noted (Taken 1 802 (Hit 0 0)) ∷ wait true (1 ∷ 2 ∷ []) (1 ∷ []) ∷ CanWrite 1 ∷ Said 1 154 text6 ∷ wait true (1 ∷ 2 ∷ []) [] ∷ CanRead 1 ∷ Heard 1 text1611 ∷ Noted (Taken 1 803 Fetch) ∷ wait true (1 ∷ 2 ∷ []) (2 ∷ []) ∷ CanWrite 2 ∷ Asked 2 text1612 ∷ wait true (1 ∷ 2 ∷ []) [] ∷ CanRead 2 ∷ Got 2 text5 ∷ Noted (Taken 1 803 (Hit 0 0)) ∷ wait true (1 ∷ 2 ∷ []) (1 ∷ []) ∷ CanWrite 1 ∷ Said 1 154 text6 ∷ wait true (1 ∷ 2 ∷ []) [] ∷ CanRead 1 ∷ Heard 1 text1613 ∷ Noted (Taken 1 804 Fetch) ∷ wait true (1 ∷ 2 ∷ []) (2 ∷ []) ∷ CanWrite 2 ∷ Asked 2 text1614 ∷ wait true (1 ∷ 2 ∷ []) [] ∷ CanRead 2 ∷ Got 2 text5 ∷ Noted (Taken 1 804 (Hit 0 0)) ∷ wait true (1 ∷ 2 ∷ []) (1 ∷ []) ∷ CanWrite 1 ∷ []))
unfolding judging front0x45
front0x46 = (_, refl)

front0x47 : (s : State) × (arrived s ≡ judge 11280 front0x46.0 (Said 1 154 text6 ∷ wait true (1 ∷ 2 ∷ []) [] ∷ CanRead 1 ∷ Heard 1 text1615 ∷ Noted (Taken 1 805 Fetch) ∷ wait true (1 ∷ 2 ∷ []) (2 ∷ []) ∷ CanWrite 2 ∷ Asked 2 text1616 ∷ wait true (1 ∷ 2 ∷ []) [] ∷ CanRead 2 ∷ Got 2 text5 ∷ Noted (Taken 1 805 (Hit 0 0)) ∷ wait true (1 ∷ 2 ∷ []) (1 ∷ []) ∷ CanWrite 1 ∷ Said 1 154 text6 ∷ wait true (1 ∷ 2 ∷ []) [] ∷ CanRead 1 ∷ Heard 1 text1617 ∷ Noted (Taken 1 806 Fetch) ∷ wait true (1 ∷ 2 ∷ []) (2 ∷ []) ∷ CanWrite 2 ∷ Asked 2 text1618 ∷ wait true (1 ∷ 2 ∷ []) [] ∷ CanRead 2 ∷ Got 2 text5 ∷ Noted (Taken 1 806 (Hit 0 0)) ∷ wait true (1 ∷ 2 ∷ []) (1 ∷ []) ∷ CanWrite 1 ∷ Said 1 154 text6 ∷ wait true (1 ∷ 2 ∷ []) [] ∷ CanRead 1 ∷ Heard 1 text1619 ∷ Noted (Taken 1 807 Fetch) ∷ wait true (1 ∷ 2 ∷ []) (2 ∷ []) ∷ CanWrite 2 ∷ Asked 2 text1620 ∷ wait true (1 ∷ 2 ∷ []) [] ∷ CanRead 2 ∷ Got 2 text5 ∷ Noted (Taken 1 807 (Hit 0 0)) ∷ wait true (1 ∷ 2 ∷ []) (1 ∷ []) ∷ CanWrite 1 ∷ Said 1 154 text6 ∷ wait true (1 ∷ 2 ∷ []) [] ∷ CanRead 1 ∷ Heard 1 text1621 ∷ Noted (Taken 1 808 Fetch) ∷ wait true (1 ∷ 2 ∷ []) (2 ∷ []) ∷ CanWrite 2 ∷ Asked 2 text1622 ∷ wait true (1 ∷ 2 ∷ []) [] ∷ CanRead 2 ∷ Got 2 text5 ∷ Noted (Taken 1 808 (Hit 0 0)) ∷ wait true (1 ∷ 2 ∷ []) (1 ∷ []) ∷ CanWrite 1 ∷ Said 1 154 text6 ∷ wait true (1 ∷ 2 ∷ []) [] ∷ CanRead 1 ∷ Heard 1 text1623 ∷ Noted (Taken 1 809 Fetch) ∷ wait true (1 ∷ 2 ∷ []) (2 ∷ []) ∷ CanWrite 2 ∷ Asked 2 text1624 ∷ wait true (1 ∷ 2 ∷ []) [] ∷ CanRead 2 ∷ Got 2 text5 ∷ Noted (Taken 1 809 (Hit 0 0)) ∷ wait true (1 ∷ 2 ∷ []) (1 ∷ []) ∷ CanWrite 1 ∷ Said 1 154 text6 ∷ wait true (1 ∷ 2 ∷ []) [] ∷ CanRead 1 ∷ Heard 1 text1625 ∷ Noted (Taken 1 810 Fetch) ∷ wait true (1 ∷ 2 ∷ []) (2 ∷ []) ∷ CanWrite 2 ∷ Asked 2 text1626 ∷ wait true (1 ∷ 2 ∷ []) [] ∷ CanRead 2 ∷ Got 2 text5 ∷ Noted (Taken 1 810 (Hit 0 0)) ∷ wait true (1 ∷ 2 ∷ []) (1 ∷ []) ∷ CanWrite 1 ∷ Said 1 154 text6 ∷ wait true (1 ∷ 2 ∷ []) [] ∷ CanRead 1 ∷ Heard 1 text1627 ∷ Noted (Taken 1 811 Fetch) ∷ wait true (1 ∷ 2 ∷ []) (2 ∷ []) ∷ CanWrite 2 ∷ Asked 2 text1628 ∷ wait true (1 ∷ 2 ∷ []) [] ∷ CanRead 2 ∷ Got 2 text5 ∷ Noted (Taken 1 811 (Hit 0 0)) ∷ wait true (1 ∷ 2 ∷ []) (1 ∷ []) ∷ CanWrite 1 ∷ Said 1 154 text6 ∷ wait true (1 ∷ 2 ∷ []) [] ∷ CanRead 1 ∷ Heard 1 text1629 ∷ Noted (Taken 1 812 Fetch) ∷ wait true (1 ∷ 2 ∷ []) (2 ∷ []) ∷ CanWrite 2 ∷ Asked 2 text1630 ∷ wait true (1 ∷ 2 ∷ []) [] ∷ CanRead 2 ∷ Got 2 text5 ∷ Noted (Taken 1 812 (Hit 0 0)) ∷ wait true (1 ∷ 2 ∷ []) (1 ∷ []) ∷ CanWrite 1 ∷ Said 1 154 text6 ∷ wait true (1 ∷ 2 ∷ []) [] ∷ CanRead 1 ∷ Heard 1 text1631 ∷ Noted (Taken 1 813 Fetch) ∷ wait true (1 ∷ 2 ∷ []) (2 ∷ []) ∷ CanWrite 2 ∷ Asked 2 text1632 ∷ wait true (1 ∷ 2 ∷ []) [] ∷ CanRead 2 ∷ Got 2 text5 ∷ Noted (Taken 1 813 (Hit 0 0)) ∷ wait true (1 ∷ 2 ∷ []) (1 ∷ []) ∷ CanWrite 1 ∷ Said 1 154 text6 ∷ wait true (1 ∷ 2 ∷ []) [] ∷ CanRead 1 ∷ Heard 1 text1633 ∷ Noted (Taken 1 814 Fetch) ∷ wait true (1 ∷ 2 ∷ []) (2 ∷ []) ∷ CanWrite 2 ∷ Asked 2 text1634 ∷ wait true (1 ∷ 2 ∷ []) [] ∷ CanRead 2 ∷ Got 2 text5 ∷ Noted (Taken 1 814 (Hit 0 0)) ∷ wait true (1 ∷ 2 ∷ []) (1 ∷ []) ∷ CanWrite 1 ∷ Said 1 154 text6 ∷ wait true (1 ∷ 2 ∷ []) [] ∷ CanRead 1 ∷ Heard 1 text1635 ∷ Noted (Taken 1 815 Fetch) ∷ wait true (1 ∷ 2 ∷ []) (2 ∷ []) ∷ CanWrite 2 ∷ Asked 2 text1636 ∷ wait true (1 ∷ 2 ∷ []) [] ∷ CanRead 2 ∷ Got 2 text5 ∷ Noted (Taken 1 815 (Hit 0 0)) ∷ wait true (1 ∷ 2 ∷ []) (1 ∷ []) ∷ CanWrite 1 ∷ Said 1 154 text6 ∷ wait true (1 ∷ 2 ∷ []) [] ∷ CanRead 1 ∷ Heard 1 text1637 ∷ Noted (Taken 1 816 Fetch) ∷ wait true (1 ∷ 2 ∷ []) (2 ∷ []) ∷ CanWrite 2 ∷ Asked 2 text1638 ∷ wait true (1 ∷ 2 ∷ []) [] ∷ CanRead 2 ∷ Got 2 text5 ∷ Noted (Taken 1 816 (Hit 0 0)) ∷ wait true (1 ∷ 2 ∷ []) (1 ∷ []) ∷ CanWrite 1 ∷ Said 1 154 text6 ∷ wait true (1 ∷ 2 ∷ []) [] ∷ CanRead 1 ∷ Heard 1 text1639 ∷ Noted (Taken 1 817 Fetch) ∷ wait true (1 ∷ 2 ∷ []) (2 ∷ []) ∷ CanWrite 2 ∷ Asked 2 text1640 ∷ wait true (1 ∷ 2 ∷ []) [] ∷ CanRead 2 ∷ Got 2 text5 ∷ Noted (Taken 1 817 (Hit 0 0)) ∷ wait true (1 ∷ 2 ∷ []) (1 ∷ []) ∷ CanWrite 1 ∷ Said 1 154 text6 ∷ wait true (1 ∷ 2 ∷ []) [] ∷ CanRead 1 ∷ Heard 1 text1641 ∷ Noted (Taken 1 818 Fetch) ∷ wait true (1 ∷ 2 ∷ []) (2 ∷ []) ∷ CanWrite 2 ∷ Asked 2 text1642 ∷ wait true (1 ∷ 2 ∷ []) [] ∷ CanRead 2 ∷ Got 2 text5 ∷ Noted (Taken 1 818 (Hit 0 0)) ∷ wait true (1 ∷ 2 ∷ []) (1 ∷ []) ∷ CanWrite 1 ∷ Said 1 154 text6 ∷ wait true (1 ∷ 2 ∷ []) [] ∷ CanRead 1 ∷ Heard 1 text1643 ∷ Noted (Taken 1 819 Fetch) ∷ wait true (1 ∷ 2 ∷ []) (2 ∷ []) ∷ CanWrite 2 ∷ Asked 2 text1644 ∷ wait true (1 ∷ 2 ∷ []) [] ∷ CanRead 2 ∷ Got 2 text5 ∷ Noted (Taken 1 819 (Hit 0 0)) ∷ wait true (1 ∷ 2 ∷ []) (1 ∷ []) ∷ CanWrite 1 ∷ Said 1 154 text6 ∷ wait true (1 ∷ 2 ∷ []) [] ∷ CanRead 1 ∷ Heard 1 text1645 ∷ Noted (Taken 1 820 Fetch) ∷ wait true (1 ∷ 2 ∷ []) (2 ∷ []) ∷ CanWrite 2 ∷ Asked 2 text1646 ∷ wait true (1 ∷ 2 ∷ []) [] ∷ CanRead 2 ∷ Got 2 text5 ∷ Noted (Taken 1 820 (Hit 0 0)) ∷ wait true (1 ∷ 2 ∷ []) (1 ∷ []) ∷ CanWrite 1 ∷ Said 1 154 text6 ∷ wait true (1 ∷ 2 ∷ []) [] ∷ CanRead 1 ∷ Heard 1 text1647 ∷ Noted (Taken 1 821 Fetch) ∷ wait true (1 ∷ 2 ∷ []) (2 ∷ []) ∷ CanWrite 2 ∷ Asked 2 text1648 ∷ wait true (1 ∷ 2 ∷ []) [] ∷ CanRead 2 ∷ Got 2 text5 ∷ Noted (Taken 1 821 (Hit 0 0)) ∷ wait true (1 ∷ 2 ∷ []) (1 ∷ []) ∷ CanWrite 1 ∷ Said 1 154 text6 ∷ wait true (1 ∷ 2 ∷ []) [] ∷ []))
unfolding judging front0x46
front0x47 = (_, refl)

front0x48 : (s : State) × (arrived s ≡ judge 11520 front0x47.0 (CanRead 1 ∷ Heard 1 text1649 ∷ Noted (Taken 1 822 Fetch) ∷ wait true (1 ∷ 2 ∷ []) (2 ∷ []) ∷ CanWrite 2 ∷ Asked 2 text1650 ∷ wait true (1 ∷ 2 ∷ []) [] ∷ CanRead 2 ∷ Got 2 text5 ∷ Noted (Taken 1 822 (Hit 0 0)) ∷ wait true (1 ∷ 2 ∷ []) (1 ∷ []) ∷ CanWrite 1 ∷ Said 1 154 text6 ∷ wait true (1 ∷ 2 ∷ []) [] ∷ CanRead 1 ∷ Heard 1 text1651 ∷ Noted (Taken 1 823 Fetch) ∷ wait true (1 ∷ 2 ∷ []) (2 ∷ []) ∷ CanWrite 2 ∷ Asked 2 text1652 ∷ wait true (1 ∷ 2 ∷ []) [] ∷ CanRead 2 ∷ Got 2 text5 ∷ Noted (Taken 1 823 (Hit 0 0)) ∷ wait true (1 ∷ 2 ∷ []) (1 ∷ []) ∷ CanWrite 1 ∷ Said 1 154 text6 ∷ wait true (1 ∷ 2 ∷ []) [] ∷ CanRead 1 ∷ Heard 1 text1653 ∷ Noted (Taken 1 824 Fetch) ∷ wait true (1 ∷ 2 ∷ []) (2 ∷ []) ∷ CanWrite 2 ∷ Asked 2 text1654 ∷ wait true (1 ∷ 2 ∷ []) [] ∷ CanRead 2 ∷ Got 2 text5 ∷ Noted (Taken 1 824 (Hit 0 0)) ∷ wait true (1 ∷ 2 ∷ []) (1 ∷ []) ∷ CanWrite 1 ∷ Said 1 154 text6 ∷ wait true (1 ∷ 2 ∷ []) [] ∷ CanRead 1 ∷ Heard 1 text1655 ∷ Noted (Taken 1 825 Fetch) ∷ wait true (1 ∷ 2 ∷ []) (2 ∷ []) ∷ CanWrite 2 ∷ Asked 2 text1656 ∷ wait true (1 ∷ 2 ∷ []) [] ∷ CanRead 2 ∷ Got 2 text5 ∷ Noted (Taken 1 825 (Hit 0 0)) ∷ wait true (1 ∷ 2 ∷ []) (1 ∷ []) ∷ CanWrite 1 ∷ Said 1 154 text6 ∷ wait true (1 ∷ 2 ∷ []) [] ∷ CanRead 1 ∷ Heard 1 text1657 ∷ Noted (Taken 1 826 Fetch) ∷ wait true (1 ∷ 2 ∷ []) (2 ∷ []) ∷ CanWrite 2 ∷ Asked 2 text1658 ∷ wait true (1 ∷ 2 ∷ []) [] ∷ CanRead 2 ∷ Got 2 text5 ∷ Noted (Taken 1 826 (Hit 0 0)) ∷ wait true (1 ∷ 2 ∷ []) (1 ∷ []) ∷ CanWrite 1 ∷ Said 1 154 text6 ∷ wait true (1 ∷ 2 ∷ []) [] ∷ CanRead 1 ∷ Heard 1 text1659 ∷ Noted (Taken 1 827 Fetch) ∷ wait true (1 ∷ 2 ∷ []) (2 ∷ []) ∷ CanWrite 2 ∷ Asked 2 text1660 ∷ wait true (1 ∷ 2 ∷ []) [] ∷ CanRead 2 ∷ Got 2 text5 ∷ Noted (Taken 1 827 (Hit 0 0)) ∷ wait true (1 ∷ 2 ∷ []) (1 ∷ []) ∷ CanWrite 1 ∷ Said 1 154 text6 ∷ wait true (1 ∷ 2 ∷ []) [] ∷ CanRead 1 ∷ Heard 1 text1661 ∷ Noted (Taken 1 828 Fetch) ∷ wait true (1 ∷ 2 ∷ []) (2 ∷ []) ∷ CanWrite 2 ∷ Asked 2 text1662 ∷ wait true (1 ∷ 2 ∷ []) [] ∷ CanRead 2 ∷ Got 2 text5 ∷ Noted (Taken 1 828 (Hit 0 0)) ∷ wait true (1 ∷ 2 ∷ []) (1 ∷ []) ∷ CanWrite 1 ∷ Said 1 154 text6 ∷ wait true (1 ∷ 2 ∷ []) [] ∷ CanRead 1 ∷ Heard 1 text1663 ∷ Noted (Taken 1 829 Fetch) ∷ wait true (1 ∷ 2 ∷ []) (2 ∷ []) ∷ CanWrite 2 ∷ Asked 2 text1664 ∷ wait true (1 ∷ 2 ∷ []) [] ∷ CanRead 2 ∷ Got 2 text5 ∷ Noted (Taken 1 829 (Hit 0 0)) ∷ wait true (1 ∷ 2 ∷ []) (1 ∷ []) ∷ CanWrite 1 ∷ Said 1 154 text6 ∷ wait true (1 ∷ 2 ∷ []) [] ∷ CanRead 1 ∷ Heard 1 text1665 ∷ Noted (Taken 1 830 Fetch) ∷ wait true (1 ∷ 2 ∷ []) (2 ∷ []) ∷ CanWrite 2 ∷ Asked 2 text1666 ∷ wait true (1 ∷ 2 ∷ []) [] ∷ CanRead 2 ∷ Got 2 text5 ∷ Noted (Taken 1 830 (Hit 0 0)) ∷ wait true (1 ∷ 2 ∷ []) (1 ∷ []) ∷ CanWrite 1 ∷ Said 1 154 text6 ∷ wait true (1 ∷ 2 ∷ []) [] ∷ CanRead 1 ∷ Heard 1 text1667 ∷ Noted (Taken 1 831 Fetch) ∷ wait true (1 ∷ 2 ∷ []) (2 ∷ []) ∷ CanWrite 2 ∷ Asked 2 text1668 ∷ wait true (1 ∷ 2 ∷ []) [] ∷ CanRead 2 ∷ Got 2 text5 ∷ Noted (Taken 1 831 (Hit 0 0)) ∷ wait true (1 ∷ 2 ∷ []) (1 ∷ []) ∷ CanWrite 1 ∷ Said 1 154 text6 ∷ wait true (1 ∷ 2 ∷ []) [] ∷ CanRead 1 ∷ Heard 1 text1669 ∷ Noted (Taken 1 832 Fetch) ∷ wait true (1 ∷ 2 ∷ []) (2 ∷ []) ∷ CanWrite 2 ∷ Asked 2 text1670 ∷ wait true (1 ∷ 2 ∷ []) [] ∷ CanRead 2 ∷ Got 2 text5 ∷ Noted (Taken 1 832 (Hit 0 0)) ∷ wait true (1 ∷ 2 ∷ []) (1 ∷ []) ∷ CanWrite 1 ∷ Said 1 154 text6 ∷ wait true (1 ∷ 2 ∷ []) [] ∷ CanRead 1 ∷ Heard 1 text1671 ∷ Noted (Taken 1 833 Fetch) ∷ wait true (1 ∷ 2 ∷ []) (2 ∷ []) ∷ CanWrite 2 ∷ Asked 2 text1672 ∷ wait true (1 ∷ 2 ∷ []) [] ∷ CanRead 2 ∷ Got 2 text5 ∷ Noted (Taken 1 833 (Hit 0 0)) ∷ wait true (1 ∷ 2 ∷ []) (1 ∷ []) ∷ CanWrite 1 ∷ Said 1 154 text6 ∷ wait true (1 ∷ 2 ∷ []) [] ∷ CanRead 1 ∷ Heard 1 text1673 ∷ Noted (Taken 1 834 Fetch) ∷ wait true (1 ∷ 2 ∷ []) (2 ∷ []) ∷ CanWrite 2 ∷ Asked 2 text1674 ∷ wait true (1 ∷ 2 ∷ []) [] ∷ CanRead 2 ∷ Got 2 text5 ∷ Noted (Taken 1 834 (Hit 0 0)) ∷ wait true (1 ∷ 2 ∷ []) (1 ∷ []) ∷ CanWrite 1 ∷ Said 1 154 text6 ∷ wait true (1 ∷ 2 ∷ []) [] ∷ CanRead 1 ∷ Heard 1 text1675 ∷ Noted (Taken 1 835 Fetch) ∷ wait true (1 ∷ 2 ∷ []) (2 ∷ []) ∷ CanWrite 2 ∷ Asked 2 text1676 ∷ wait true (1 ∷ 2 ∷ []) [] ∷ CanRead 2 ∷ Got 2 text5 ∷ Noted (Taken 1 835 (Hit 0 0)) ∷ wait true (1 ∷ 2 ∷ []) (1 ∷ []) ∷ CanWrite 1 ∷ Said 1 154 text6 ∷ wait true (1 ∷ 2 ∷ []) [] ∷ CanRead 1 ∷ Heard 1 text1677 ∷ Noted (Taken 1 836 Fetch) ∷ wait true (1 ∷ 2 ∷ []) (2 ∷ []) ∷ CanWrite 2 ∷ Asked 2 text1678 ∷ wait true (1 ∷ 2 ∷ []) [] ∷ CanRead 2 ∷ Got 2 text5 ∷ Noted (Taken 1 836 (Hit 0 0)) ∷ wait true (1 ∷ 2 ∷ []) (1 ∷ []) ∷ CanWrite 1 ∷ Said 1 154 text6 ∷ wait true (1 ∷ 2 ∷ []) [] ∷ CanRead 1 ∷ Heard 1 text1679 ∷ Noted (Taken 1 837 Fetch) ∷ wait true (1 ∷ 2 ∷ []) (2 ∷ []) ∷ CanWrite 2 ∷ Asked 2 text1680 ∷ wait true (1 ∷ 2 ∷ []) [] ∷ CanRead 2 ∷ Got 2 text5 ∷ Noted (Taken 1 837 (Hit 0 0)) ∷ wait true (1 ∷ 2 ∷ []) (1 ∷ []) ∷ CanWrite 1 ∷ Said 1 154 text6 ∷ wait true (1 ∷ 2 ∷ []) [] ∷ CanRead 1 ∷ Heard 1 text1681 ∷ Noted (Taken 1 838 Fetch) ∷ wait true (1 ∷ 2 ∷ []) (2 ∷ []) ∷ CanWrite 2 ∷ Asked 2 text1682 ∷ wait true (1 ∷ 2 ∷ []) [] ∷ CanRead 2 ∷ Got 2 text5 ∷ Noted (Taken 1 838 (Hit 0 0)) ∷ wait true (1 ∷ 2 ∷ []) (1 ∷ []) ∷ CanWrite 1 ∷ Said 1 154 text6 ∷ wait true (1 ∷ 2 ∷ []) [] ∷ CanRead 1 ∷ Heard 1 text1683 ∷ []))
unfolding judging front0x47
front0x48 = (_, refl)

front0x49 : (s : State) × (arrived s ≡ judge 11760 front0x48.0 (Noted (Taken 1 839 Fetch) ∷ wait true (1 ∷ 2 ∷ []) (2 ∷ []) ∷ CanWrite 2 ∷ Asked 2 text1684 ∷ wait true (1 ∷ 2 ∷ []) [] ∷ CanRead 2 ∷ Got 2 text5 ∷ Noted (Taken 1 839 (Hit 0 0)) ∷ wait true (1 ∷ 2 ∷ []) (1 ∷ []) ∷ CanWrite 1 ∷ Said 1 154 text6 ∷ wait true (1 ∷ 2 ∷ []) [] ∷ CanRead 1 ∷ Heard 1 text1685 ∷ Noted (Taken 1 840 Fetch) ∷ wait true (1 ∷ 2 ∷ []) (2 ∷ []) ∷ CanWrite 2 ∷ Asked 2 text1686 ∷ wait true (1 ∷ 2 ∷ []) [] ∷ CanRead 2 ∷ Got 2 text5 ∷ Noted (Taken 1 840 (Hit 0 0)) ∷ wait true (1 ∷ 2 ∷ []) (1 ∷ []) ∷ CanWrite 1 ∷ Said 1 154 text6 ∷ wait true (1 ∷ 2 ∷ []) [] ∷ CanRead 1 ∷ Heard 1 text1687 ∷ Noted (Taken 1 841 Fetch) ∷ wait true (1 ∷ 2 ∷ []) (2 ∷ []) ∷ CanWrite 2 ∷ Asked 2 text1688 ∷ wait true (1 ∷ 2 ∷ []) [] ∷ CanRead 2 ∷ Got 2 text5 ∷ Noted (Taken 1 841 (Hit 0 0)) ∷ wait true (1 ∷ 2 ∷ []) (1 ∷ []) ∷ CanWrite 1 ∷ Said 1 154 text6 ∷ wait true (1 ∷ 2 ∷ []) [] ∷ CanRead 1 ∷ Heard 1 text1689 ∷ Noted (Taken 1 842 Fetch) ∷ wait true (1 ∷ 2 ∷ []) (2 ∷ []) ∷ CanWrite 2 ∷ Asked 2 text1690 ∷ wait true (1 ∷ 2 ∷ []) [] ∷ CanRead 2 ∷ Got 2 text5 ∷ Noted (Taken 1 842 (Hit 0 0)) ∷ wait true (1 ∷ 2 ∷ []) (1 ∷ []) ∷ CanWrite 1 ∷ Said 1 154 text6 ∷ wait true (1 ∷ 2 ∷ []) [] ∷ CanRead 1 ∷ Heard 1 text1691 ∷ Noted (Taken 1 843 Fetch) ∷ wait true (1 ∷ 2 ∷ []) (2 ∷ []) ∷ CanWrite 2 ∷ Asked 2 text1692 ∷ wait true (1 ∷ 2 ∷ []) [] ∷ CanRead 2 ∷ Got 2 text5 ∷ Noted (Taken 1 843 (Hit 0 0)) ∷ wait true (1 ∷ 2 ∷ []) (1 ∷ []) ∷ CanWrite 1 ∷ Said 1 154 text6 ∷ wait true (1 ∷ 2 ∷ []) [] ∷ CanRead 1 ∷ Heard 1 text1693 ∷ Noted (Taken 1 844 Fetch) ∷ wait true (1 ∷ 2 ∷ []) (2 ∷ []) ∷ CanWrite 2 ∷ Asked 2 text1694 ∷ wait true (1 ∷ 2 ∷ []) [] ∷ CanRead 2 ∷ Got 2 text5 ∷ Noted (Taken 1 844 (Hit 0 0)) ∷ wait true (1 ∷ 2 ∷ []) (1 ∷ []) ∷ CanWrite 1 ∷ Said 1 154 text6 ∷ wait true (1 ∷ 2 ∷ []) [] ∷ CanRead 1 ∷ Heard 1 text1695 ∷ Noted (Taken 1 845 Fetch) ∷ wait true (1 ∷ 2 ∷ []) (2 ∷ []) ∷ CanWrite 2 ∷ Asked 2 text1696 ∷ wait true (1 ∷ 2 ∷ []) [] ∷ CanRead 2 ∷ Got 2 text5 ∷ Noted (Taken 1 845 (Hit 0 0)) ∷ wait true (1 ∷ 2 ∷ []) (1 ∷ []) ∷ CanWrite 1 ∷ Said 1 154 text6 ∷ wait true (1 ∷ 2 ∷ []) [] ∷ CanRead 1 ∷ Heard 1 text1697 ∷ Noted (Taken 1 846 Fetch) ∷ wait true (1 ∷ 2 ∷ []) (2 ∷ []) ∷ CanWrite 2 ∷ Asked 2 text1698 ∷ wait true (1 ∷ 2 ∷ []) [] ∷ CanRead 2 ∷ Got 2 text5 ∷ Noted (Taken 1 846 (Hit 0 0)) ∷ wait true (1 ∷ 2 ∷ []) (1 ∷ []) ∷ CanWrite 1 ∷ Said 1 154 text6 ∷ wait true (1 ∷ 2 ∷ []) [] ∷ CanRead 1 ∷ Heard 1 text1699 ∷ Noted (Taken 1 847 Fetch) ∷ wait true (1 ∷ 2 ∷ []) (2 ∷ []) ∷ CanWrite 2 ∷ Asked 2 text1700 ∷ wait true (1 ∷ 2 ∷ []) [] ∷ CanRead 2 ∷ Got 2 text5 ∷ Noted (Taken 1 847 (Hit 0 0)) ∷ wait true (1 ∷ 2 ∷ []) (1 ∷ []) ∷ CanWrite 1 ∷ Said 1 154 text6 ∷ wait true (1 ∷ 2 ∷ []) [] ∷ CanRead 1 ∷ Heard 1 text1701 ∷ Noted (Taken 1 848 Fetch) ∷ wait true (1 ∷ 2 ∷ []) (2 ∷ []) ∷ CanWrite 2 ∷ Asked 2 text1702 ∷ wait true (1 ∷ 2 ∷ []) [] ∷ CanRead 2 ∷ Got 2 text5 ∷ Noted (Taken 1 848 (Hit 0 0)) ∷ wait true (1 ∷ 2 ∷ []) (1 ∷ []) ∷ CanWrite 1 ∷ Said 1 154 text6 ∷ wait true (1 ∷ 2 ∷ []) [] ∷ CanRead 1 ∷ Heard 1 text1703 ∷ Noted (Taken 1 849 Fetch) ∷ wait true (1 ∷ 2 ∷ []) (2 ∷ []) ∷ CanWrite 2 ∷ Asked 2 text1704 ∷ wait true (1 ∷ 2 ∷ []) [] ∷ CanRead 2 ∷ Got 2 text5 ∷ Noted (Taken 1 849 (Hit 0 0)) ∷ wait true (1 ∷ 2 ∷ []) (1 ∷ []) ∷ CanWrite 1 ∷ Said 1 154 text6 ∷ wait true (1 ∷ 2 ∷ []) [] ∷ CanRead 1 ∷ Heard 1 text1705 ∷ Noted (Taken 1 850 Fetch) ∷ wait true (1 ∷ 2 ∷ []) (2 ∷ []) ∷ CanWrite 2 ∷ Asked 2 text1706 ∷ wait true (1 ∷ 2 ∷ []) [] ∷ CanRead 2 ∷ Got 2 text5 ∷ Noted (Taken 1 850 (Hit 0 0)) ∷ wait true (1 ∷ 2 ∷ []) (1 ∷ []) ∷ CanWrite 1 ∷ Said 1 154 text6 ∷ wait true (1 ∷ 2 ∷ []) [] ∷ CanRead 1 ∷ Heard 1 text1707 ∷ Noted (Taken 1 851 Fetch) ∷ wait true (1 ∷ 2 ∷ []) (2 ∷ []) ∷ CanWrite 2 ∷ Asked 2 text1708 ∷ wait true (1 ∷ 2 ∷ []) [] ∷ CanRead 2 ∷ Got 2 text5 ∷ Noted (Taken 1 851 (Hit 0 0)) ∷ wait true (1 ∷ 2 ∷ []) (1 ∷ []) ∷ CanWrite 1 ∷ Said 1 154 text6 ∷ wait true (1 ∷ 2 ∷ []) [] ∷ CanRead 1 ∷ Heard 1 text1709 ∷ Noted (Taken 1 852 Fetch) ∷ wait true (1 ∷ 2 ∷ []) (2 ∷ []) ∷ CanWrite 2 ∷ Asked 2 text1710 ∷ wait true (1 ∷ 2 ∷ []) [] ∷ CanRead 2 ∷ Got 2 text5 ∷ Noted (Taken 1 852 (Hit 0 0)) ∷ wait true (1 ∷ 2 ∷ []) (1 ∷ []) ∷ CanWrite 1 ∷ Said 1 154 text6 ∷ wait true (1 ∷ 2 ∷ []) [] ∷ CanRead 1 ∷ Heard 1 text1711 ∷ Noted (Taken 1 853 Fetch) ∷ wait true (1 ∷ 2 ∷ []) (2 ∷ []) ∷ CanWrite 2 ∷ Asked 2 text1712 ∷ wait true (1 ∷ 2 ∷ []) [] ∷ CanRead 2 ∷ Got 2 text5 ∷ Noted (Taken 1 853 (Hit 0 0)) ∷ wait true (1 ∷ 2 ∷ []) (1 ∷ []) ∷ CanWrite 1 ∷ Said 1 154 text6 ∷ wait true (1 ∷ 2 ∷ []) [] ∷ CanRead 1 ∷ Heard 1 text1713 ∷ Noted (Taken 1 854 Fetch) ∷ wait true (1 ∷ 2 ∷ []) (2 ∷ []) ∷ CanWrite 2 ∷ Asked 2 text1714 ∷ wait true (1 ∷ 2 ∷ []) [] ∷ CanRead 2 ∷ Got 2 text5 ∷ Noted (Taken 1 854 (Hit 0 0)) ∷ wait true (1 ∷ 2 ∷ []) (1 ∷ []) ∷ CanWrite 1 ∷ Said 1 154 text6 ∷ wait true (1 ∷ 2 ∷ []) [] ∷ CanRead 1 ∷ Heard 1 text1715 ∷ Noted (Taken 1 855 Fetch) ∷ wait true (1 ∷ 2 ∷ []) (2 ∷ []) ∷ CanWrite 2 ∷ Asked 2 text1716 ∷ wait true (1 ∷ 2 ∷ []) [] ∷ CanRead 2 ∷ Got 2 text5 ∷ Noted (Taken 1 855 (Hit 0 0)) ∷ wait true (1 ∷ 2 ∷ []) (1 ∷ []) ∷ CanWrite 1 ∷ Said 1 154 text6 ∷ wait true (1 ∷ 2 ∷ []) [] ∷ CanRead 1 ∷ Heard 1 text1717 ∷ Noted (Taken 1 856 Fetch) ∷ wait true (1 ∷ 2 ∷ []) (2 ∷ []) ∷ []))
unfolding judging front0x48
front0x49 = (_, refl)

front0x50 : (s : State) × (arrived s ≡ judge 12000 front0x49.0 (CanWrite 2 ∷ Asked 2 text1718 ∷ wait true (1 ∷ 2 ∷ []) [] ∷ CanRead 2 ∷ Got 2 text5 ∷ Noted (Taken 1 856 (Hit 0 0)) ∷ wait true (1 ∷ 2 ∷ []) (1 ∷ []) ∷ CanWrite 1 ∷ Said 1 154 text6 ∷ wait true (1 ∷ 2 ∷ []) [] ∷ CanRead 1 ∷ Heard 1 text1719 ∷ Noted (Taken 1 857 Fetch) ∷ wait true (1 ∷ 2 ∷ []) (2 ∷ []) ∷ CanWrite 2 ∷ Asked 2 text1720 ∷ wait true (1 ∷ 2 ∷ []) [] ∷ CanRead 2 ∷ Got 2 text5 ∷ Noted (Taken 1 857 (Hit 0 0)) ∷ wait true (1 ∷ 2 ∷ []) (1 ∷ []) ∷ CanWrite 1 ∷ Said 1 154 text6 ∷ wait true (1 ∷ 2 ∷ []) [] ∷ CanRead 1 ∷ Heard 1 text1721 ∷ Noted (Taken 1 858 Fetch) ∷ wait true (1 ∷ 2 ∷ []) (2 ∷ []) ∷ CanWrite 2 ∷ Asked 2 text1722 ∷ wait true (1 ∷ 2 ∷ []) [] ∷ CanRead 2 ∷ Got 2 text5 ∷ Noted (Taken 1 858 (Hit 0 0)) ∷ wait true (1 ∷ 2 ∷ []) (1 ∷ []) ∷ CanWrite 1 ∷ Said 1 154 text6 ∷ wait true (1 ∷ 2 ∷ []) [] ∷ CanRead 1 ∷ Heard 1 text1723 ∷ Noted (Taken 1 859 Fetch) ∷ wait true (1 ∷ 2 ∷ []) (2 ∷ []) ∷ CanWrite 2 ∷ Asked 2 text1724 ∷ wait true (1 ∷ 2 ∷ []) [] ∷ CanRead 2 ∷ Got 2 text5 ∷ Noted (Taken 1 859 (Hit 0 0)) ∷ wait true (1 ∷ 2 ∷ []) (1 ∷ []) ∷ CanWrite 1 ∷ Said 1 154 text6 ∷ wait true (1 ∷ 2 ∷ []) [] ∷ CanRead 1 ∷ Heard 1 text1725 ∷ Noted (Taken 1 860 Fetch) ∷ wait true (1 ∷ 2 ∷ []) (2 ∷ []) ∷ CanWrite 2 ∷ Asked 2 text1726 ∷ wait true (1 ∷ 2 ∷ []) [] ∷ CanRead 2 ∷ Got 2 text5 ∷ Noted (Taken 1 860 (Hit 0 0)) ∷ wait true (1 ∷ 2 ∷ []) (1 ∷ []) ∷ CanWrite 1 ∷ Said 1 154 text6 ∷ wait true (1 ∷ 2 ∷ []) [] ∷ CanRead 1 ∷ Heard 1 text1727 ∷ Noted (Taken 1 861 Fetch) ∷ wait true (1 ∷ 2 ∷ []) (2 ∷ []) ∷ CanWrite 2 ∷ Asked 2 text1728 ∷ wait true (1 ∷ 2 ∷ []) [] ∷ CanRead 2 ∷ Got 2 text5 ∷ Noted (Taken 1 861 (Hit 0 0)) ∷ wait true (1 ∷ 2 ∷ []) (1 ∷ []) ∷ CanWrite 1 ∷ Said 1 154 text6 ∷ wait true (1 ∷ 2 ∷ []) [] ∷ CanRead 1 ∷ Heard 1 text1729 ∷ Noted (Taken 1 862 Fetch) ∷ wait true (1 ∷ 2 ∷ []) (2 ∷ []) ∷ CanWrite 2 ∷ Asked 2 text1730 ∷ wait true (1 ∷ 2 ∷ []) [] ∷ CanRead 2 ∷ Got 2 text5 ∷ Noted (Taken 1 862 (Hit 0 0)) ∷ wait true (1 ∷ 2 ∷ []) (1 ∷ []) ∷ CanWrite 1 ∷ Said 1 154 text6 ∷ wait true (1 ∷ 2 ∷ []) [] ∷ CanRead 1 ∷ Heard 1 text1731 ∷ Noted (Taken 1 863 Fetch) ∷ wait true (1 ∷ 2 ∷ []) (2 ∷ []) ∷ CanWrite 2 ∷ Asked 2 text1732 ∷ wait true (1 ∷ 2 ∷ []) [] ∷ CanRead 2 ∷ Got 2 text5 ∷ Noted (Taken 1 863 (Hit 0 0)) ∷ wait true (1 ∷ 2 ∷ []) (1 ∷ []) ∷ CanWrite 1 ∷ Said 1 154 text6 ∷ wait true (1 ∷ 2 ∷ []) [] ∷ CanRead 1 ∷ Heard 1 text1733 ∷ Noted (Taken 1 864 Fetch) ∷ wait true (1 ∷ 2 ∷ []) (2 ∷ []) ∷ CanWrite 2 ∷ Asked 2 text1734 ∷ wait true (1 ∷ 2 ∷ []) [] ∷ CanRead 2 ∷ Got 2 text5 ∷ Noted (Taken 1 864 (Hit 0 0)) ∷ wait true (1 ∷ 2 ∷ []) (1 ∷ []) ∷ CanWrite 1 ∷ Said 1 154 text6 ∷ wait true (1 ∷ 2 ∷ []) [] ∷ CanRead 1 ∷ Heard 1 text1735 ∷ Noted (Taken 1 865 Fetch) ∷ wait true (1 ∷ 2 ∷ []) (2 ∷ []) ∷ CanWrite 2 ∷ Asked 2 text1736 ∷ wait true (1 ∷ 2 ∷ []) [] ∷ CanRead 2 ∷ Got 2 text5 ∷ Noted (Taken 1 865 (Hit 0 0)) ∷ wait true (1 ∷ 2 ∷ []) (1 ∷ []) ∷ CanWrite 1 ∷ Said 1 154 text6 ∷ wait true (1 ∷ 2 ∷ []) [] ∷ CanRead 1 ∷ Heard 1 text1737 ∷ Noted (Taken 1 866 Fetch) ∷ wait true (1 ∷ 2 ∷ []) (2 ∷ []) ∷ CanWrite 2 ∷ Asked 2 text1738 ∷ wait true (1 ∷ 2 ∷ []) [] ∷ CanRead 2 ∷ Got 2 text5 ∷ Noted (Taken 1 866 (Hit 0 0)) ∷ wait true (1 ∷ 2 ∷ []) (1 ∷ []) ∷ CanWrite 1 ∷ Said 1 154 text6 ∷ wait true (1 ∷ 2 ∷ []) [] ∷ CanRead 1 ∷ Heard 1 text1739 ∷ Noted (Taken 1 867 Fetch) ∷ wait true (1 ∷ 2 ∷ []) (2 ∷ []) ∷ CanWrite 2 ∷ Asked 2 text1740 ∷ wait true (1 ∷ 2 ∷ []) [] ∷ CanRead 2 ∷ Got 2 text5 ∷ Noted (Taken 1 867 (Hit 0 0)) ∷ wait true (1 ∷ 2 ∷ []) (1 ∷ []) ∷ CanWrite 1 ∷ Said 1 154 text6 ∷ wait true (1 ∷ 2 ∷ []) [] ∷ CanRead 1 ∷ Heard 1 text1741 ∷ Noted (Taken 1 868 Fetch) ∷ wait true (1 ∷ 2 ∷ []) (2 ∷ []) ∷ CanWrite 2 ∷ Asked 2 text1742 ∷ wait true (1 ∷ 2 ∷ []) [] ∷ CanRead 2 ∷ Got 2 text5 ∷ Noted (Taken 1 868 (Hit 0 0)) ∷ wait true (1 ∷ 2 ∷ []) (1 ∷ []) ∷ CanWrite 1 ∷ Said 1 154 text6 ∷ wait true (1 ∷ 2 ∷ []) [] ∷ CanRead 1 ∷ Heard 1 text1743 ∷ Noted (Taken 1 869 Fetch) ∷ wait true (1 ∷ 2 ∷ []) (2 ∷ []) ∷ CanWrite 2 ∷ Asked 2 text1744 ∷ wait true (1 ∷ 2 ∷ []) [] ∷ CanRead 2 ∷ Got 2 text5 ∷ Noted (Taken 1 869 (Hit 0 0)) ∷ wait true (1 ∷ 2 ∷ []) (1 ∷ []) ∷ CanWrite 1 ∷ Said 1 154 text6 ∷ wait true (1 ∷ 2 ∷ []) [] ∷ CanRead 1 ∷ Heard 1 text1745 ∷ Noted (Taken 1 870 Fetch) ∷ wait true (1 ∷ 2 ∷ []) (2 ∷ []) ∷ CanWrite 2 ∷ Asked 2 text1746 ∷ wait true (1 ∷ 2 ∷ []) [] ∷ CanRead 2 ∷ Got 2 text5 ∷ Noted (Taken 1 870 (Hit 0 0)) ∷ wait true (1 ∷ 2 ∷ []) (1 ∷ []) ∷ CanWrite 1 ∷ Said 1 154 text6 ∷ wait true (1 ∷ 2 ∷ []) [] ∷ CanRead 1 ∷ Heard 1 text1747 ∷ Noted (Taken 1 871 Fetch) ∷ wait true (1 ∷ 2 ∷ []) (2 ∷ []) ∷ CanWrite 2 ∷ Asked 2 text1748 ∷ wait true (1 ∷ 2 ∷ []) [] ∷ CanRead 2 ∷ Got 2 text5 ∷ Noted (Taken 1 871 (Hit 0 0)) ∷ wait true (1 ∷ 2 ∷ []) (1 ∷ []) ∷ CanWrite 1 ∷ Said 1 154 text6 ∷ wait true (1 ∷ 2 ∷ []) [] ∷ CanRead 1 ∷ Heard 1 text1749 ∷ Noted (Taken 1 872 Fetch) ∷ wait true (1 ∷ 2 ∷ []) (2 ∷ []) ∷ CanWrite 2 ∷ Asked 2 text1750 ∷ wait true (1 ∷ 2 ∷ []) [] ∷ CanRead 2 ∷ Got 2 text5 ∷ Noted (Taken 1 872 (Hit 0 0)) ∷ wait true (1 ∷ 2 ∷ []) (1 ∷ []) ∷ CanWrite 1 ∷ Said 1 154 text6 ∷ wait true (1 ∷ 2 ∷ []) [] ∷ CanRead 1 ∷ Heard 1 text1751 ∷ Noted (Taken 1 873 Fetch) ∷ wait true (1 ∷ 2 ∷ []) (2 ∷ []) ∷ CanWrite 2 ∷ Asked 2 text1752 ∷ []))
unfolding judging front0x49
front0x50 = (_, refl)

front0x51 : (s : State) × (arrived s ≡ judge 12240 front0x50.0 (wait true (1 ∷ 2 ∷ []) [] ∷ CanRead 2 ∷ Got 2 text5 ∷ Noted (Taken 1 873 (Hit 0 0)) ∷ wait true (1 ∷ 2 ∷ []) (1 ∷ []) ∷ CanWrite 1 ∷ Said 1 154 text6 ∷ wait true (1 ∷ 2 ∷ []) [] ∷ CanRead 1 ∷ Heard 1 text1753 ∷ Noted (Taken 1 874 Fetch) ∷ wait true (1 ∷ 2 ∷ []) (2 ∷ []) ∷ CanWrite 2 ∷ Asked 2 text1754 ∷ wait true (1 ∷ 2 ∷ []) [] ∷ CanRead 2 ∷ Got 2 text5 ∷ Noted (Taken 1 874 (Hit 0 0)) ∷ wait true (1 ∷ 2 ∷ []) (1 ∷ []) ∷ CanWrite 1 ∷ Said 1 154 text6 ∷ wait true (1 ∷ 2 ∷ []) [] ∷ CanRead 1 ∷ Heard 1 text1755 ∷ Noted (Taken 1 875 Fetch) ∷ wait true (1 ∷ 2 ∷ []) (2 ∷ []) ∷ CanWrite 2 ∷ Asked 2 text1756 ∷ wait true (1 ∷ 2 ∷ []) [] ∷ CanRead 2 ∷ Got 2 text5 ∷ Noted (Taken 1 875 (Hit 0 0)) ∷ wait true (1 ∷ 2 ∷ []) (1 ∷ []) ∷ CanWrite 1 ∷ Said 1 154 text6 ∷ wait true (1 ∷ 2 ∷ []) [] ∷ CanRead 1 ∷ Heard 1 text1757 ∷ Noted (Taken 1 876 Fetch) ∷ wait true (1 ∷ 2 ∷ []) (2 ∷ []) ∷ CanWrite 2 ∷ Asked 2 text1758 ∷ wait true (1 ∷ 2 ∷ []) [] ∷ CanRead 2 ∷ Got 2 text5 ∷ Noted (Taken 1 876 (Hit 0 0)) ∷ wait true (1 ∷ 2 ∷ []) (1 ∷ []) ∷ CanWrite 1 ∷ Said 1 154 text6 ∷ wait true (1 ∷ 2 ∷ []) [] ∷ CanRead 1 ∷ Heard 1 text1759 ∷ Noted (Taken 1 877 Fetch) ∷ wait true (1 ∷ 2 ∷ []) (2 ∷ []) ∷ CanWrite 2 ∷ Asked 2 text1760 ∷ wait true (1 ∷ 2 ∷ []) [] ∷ CanRead 2 ∷ Got 2 text5 ∷ Noted (Taken 1 877 (Hit 0 0)) ∷ wait true (1 ∷ 2 ∷ []) (1 ∷ []) ∷ CanWrite 1 ∷ Said 1 154 text6 ∷ wait true (1 ∷ 2 ∷ []) [] ∷ CanRead 1 ∷ Heard 1 text1761 ∷ Noted (Taken 1 878 Fetch) ∷ wait true (1 ∷ 2 ∷ []) (2 ∷ []) ∷ CanWrite 2 ∷ Asked 2 text1762 ∷ wait true (1 ∷ 2 ∷ []) [] ∷ CanRead 2 ∷ Got 2 text5 ∷ Noted (Taken 1 878 (Hit 0 0)) ∷ wait true (1 ∷ 2 ∷ []) (1 ∷ []) ∷ CanWrite 1 ∷ Said 1 154 text6 ∷ wait true (1 ∷ 2 ∷ []) [] ∷ CanRead 1 ∷ Heard 1 text1763 ∷ Noted (Taken 1 879 Fetch) ∷ wait true (1 ∷ 2 ∷ []) (2 ∷ []) ∷ CanWrite 2 ∷ Asked 2 text1764 ∷ wait true (1 ∷ 2 ∷ []) [] ∷ CanRead 2 ∷ Got 2 text5 ∷ Noted (Taken 1 879 (Hit 0 0)) ∷ wait true (1 ∷ 2 ∷ []) (1 ∷ []) ∷ CanWrite 1 ∷ Said 1 154 text6 ∷ wait true (1 ∷ 2 ∷ []) [] ∷ CanRead 1 ∷ Heard 1 text1765 ∷ Noted (Taken 1 880 Fetch) ∷ wait true (1 ∷ 2 ∷ []) (2 ∷ []) ∷ CanWrite 2 ∷ Asked 2 text1766 ∷ wait true (1 ∷ 2 ∷ []) [] ∷ CanRead 2 ∷ Got 2 text5 ∷ Noted (Taken 1 880 (Hit 0 0)) ∷ wait true (1 ∷ 2 ∷ []) (1 ∷ []) ∷ CanWrite 1 ∷ Said 1 154 text6 ∷ wait true (1 ∷ 2 ∷ []) [] ∷ CanRead 1 ∷ Heard 1 text1767 ∷ Noted (Taken 1 881 Fetch) ∷ wait true (1 ∷ 2 ∷ []) (2 ∷ []) ∷ CanWrite 2 ∷ Asked 2 text1768 ∷ wait true (1 ∷ 2 ∷ []) [] ∷ CanRead 2 ∷ Got 2 text5 ∷ Noted (Taken 1 881 (Hit 0 0)) ∷ wait true (1 ∷ 2 ∷ []) (1 ∷ []) ∷ CanWrite 1 ∷ Said 1 154 text6 ∷ wait true (1 ∷ 2 ∷ []) [] ∷ CanRead 1 ∷ Heard 1 text1769 ∷ Noted (Taken 1 882 Fetch) ∷ wait true (1 ∷ 2 ∷ []) (2 ∷ []) ∷ CanWrite 2 ∷ Asked 2 text1770 ∷ wait true (1 ∷ 2 ∷ []) [] ∷ CanRead 2 ∷ Got 2 text5 ∷ Noted (Taken 1 882 (Hit 0 0)) ∷ wait true (1 ∷ 2 ∷ []) (1 ∷ []) ∷ CanWrite 1 ∷ Said 1 154 text6 ∷ wait true (1 ∷ 2 ∷ []) [] ∷ CanRead 1 ∷ Heard 1 text1771 ∷ Noted (Taken 1 883 Fetch) ∷ wait true (1 ∷ 2 ∷ []) (2 ∷ []) ∷ CanWrite 2 ∷ Asked 2 text1772 ∷ wait true (1 ∷ 2 ∷ []) [] ∷ CanRead 2 ∷ Got 2 text5 ∷ Noted (Taken 1 883 (Hit 0 0)) ∷ wait true (1 ∷ 2 ∷ []) (1 ∷ []) ∷ CanWrite 1 ∷ Said 1 154 text6 ∷ wait true (1 ∷ 2 ∷ []) [] ∷ CanRead 1 ∷ Heard 1 text1773 ∷ Noted (Taken 1 884 Fetch) ∷ wait true (1 ∷ 2 ∷ []) (2 ∷ []) ∷ CanWrite 2 ∷ Asked 2 text1774 ∷ wait true (1 ∷ 2 ∷ []) [] ∷ CanRead 2 ∷ Got 2 text5 ∷ Noted (Taken 1 884 (Hit 0 0)) ∷ wait true (1 ∷ 2 ∷ []) (1 ∷ []) ∷ CanWrite 1 ∷ Said 1 154 text6 ∷ wait true (1 ∷ 2 ∷ []) [] ∷ CanRead 1 ∷ Heard 1 text1775 ∷ Noted (Taken 1 885 Fetch) ∷ wait true (1 ∷ 2 ∷ []) (2 ∷ []) ∷ CanWrite 2 ∷ Asked 2 text1776 ∷ wait true (1 ∷ 2 ∷ []) [] ∷ CanRead 2 ∷ Got 2 text5 ∷ Noted (Taken 1 885 (Hit 0 0)) ∷ wait true (1 ∷ 2 ∷ []) (1 ∷ []) ∷ CanWrite 1 ∷ Said 1 154 text6 ∷ wait true (1 ∷ 2 ∷ []) [] ∷ CanRead 1 ∷ Heard 1 text1777 ∷ Noted (Taken 1 886 Fetch) ∷ wait true (1 ∷ 2 ∷ []) (2 ∷ []) ∷ CanWrite 2 ∷ Asked 2 text1778 ∷ wait true (1 ∷ 2 ∷ []) [] ∷ CanRead 2 ∷ Got 2 text5 ∷ Noted (Taken 1 886 (Hit 0 0)) ∷ wait true (1 ∷ 2 ∷ []) (1 ∷ []) ∷ CanWrite 1 ∷ Said 1 154 text6 ∷ wait true (1 ∷ 2 ∷ []) [] ∷ CanRead 1 ∷ Heard 1 text1779 ∷ Noted (Taken 1 887 Fetch) ∷ wait true (1 ∷ 2 ∷ []) (2 ∷ []) ∷ CanWrite 2 ∷ Asked 2 text1780 ∷ wait true (1 ∷ 2 ∷ []) [] ∷ CanRead 2 ∷ Got 2 text5 ∷ Noted (Taken 1 887 (Hit 0 0)) ∷ wait true (1 ∷ 2 ∷ []) (1 ∷ []) ∷ CanWrite 1 ∷ Said 1 154 text6 ∷ wait true (1 ∷ 2 ∷ []) [] ∷ CanRead 1 ∷ Heard 1 text1781 ∷ Noted (Taken 1 888 Fetch) ∷ wait true (1 ∷ 2 ∷ []) (2 ∷ []) ∷ CanWrite 2 ∷ Asked 2 text1782 ∷ wait true (1 ∷ 2 ∷ []) [] ∷ CanRead 2 ∷ Got 2 text5 ∷ Noted (Taken 1 888 (Hit 0 0)) ∷ wait true (1 ∷ 2 ∷ []) (1 ∷ []) ∷ CanWrite 1 ∷ Said 1 154 text6 ∷ wait true (1 ∷ 2 ∷ []) [] ∷ CanRead 1 ∷ Heard 1 text1783 ∷ Noted (Taken 1 889 Fetch) ∷ wait true (1 ∷ 2 ∷ []) (2 ∷ []) ∷ CanWrite 2 ∷ Asked 2 text1784 ∷ wait true (1 ∷ 2 ∷ []) [] ∷ CanRead 2 ∷ Got 2 text5 ∷ Noted (Taken 1 889 (Hit 0 0)) ∷ wait true (1 ∷ 2 ∷ []) (1 ∷ []) ∷ CanWrite 1 ∷ Said 1 154 text6 ∷ wait true (1 ∷ 2 ∷ []) [] ∷ CanRead 1 ∷ Heard 1 text1785 ∷ Noted (Taken 1 890 Fetch) ∷ wait true (1 ∷ 2 ∷ []) (2 ∷ []) ∷ CanWrite 2 ∷ Asked 2 text1786 ∷ wait true (1 ∷ 2 ∷ []) [] ∷ CanRead 2 ∷ []))
unfolding judging front0x50
front0x51 = (_, refl)

front0x52 : (s : State) × (arrived s ≡ judge 12480 front0x51.0 (Got 2 text5 ∷ Noted (Taken 1 890 (Hit 0 0)) ∷ wait true (1 ∷ 2 ∷ []) (1 ∷ []) ∷ CanWrite 1 ∷ Said 1 154 text6 ∷ wait true (1 ∷ 2 ∷ []) [] ∷ CanRead 1 ∷ Heard 1 text1787 ∷ Noted (Taken 1 891 Fetch) ∷ wait true (1 ∷ 2 ∷ []) (2 ∷ []) ∷ CanWrite 2 ∷ Asked 2 text1788 ∷ wait true (1 ∷ 2 ∷ []) [] ∷ CanRead 2 ∷ Got 2 text5 ∷ Noted (Taken 1 891 (Hit 0 0)) ∷ wait true (1 ∷ 2 ∷ []) (1 ∷ []) ∷ CanWrite 1 ∷ Said 1 154 text6 ∷ wait true (1 ∷ 2 ∷ []) [] ∷ CanRead 1 ∷ Heard 1 text1789 ∷ Noted (Taken 1 892 Fetch) ∷ wait true (1 ∷ 2 ∷ []) (2 ∷ []) ∷ CanWrite 2 ∷ Asked 2 text1790 ∷ wait true (1 ∷ 2 ∷ []) [] ∷ CanRead 2 ∷ Got 2 text5 ∷ Noted (Taken 1 892 (Hit 0 0)) ∷ wait true (1 ∷ 2 ∷ []) (1 ∷ []) ∷ CanWrite 1 ∷ Said 1 154 text6 ∷ wait true (1 ∷ 2 ∷ []) [] ∷ CanRead 1 ∷ Heard 1 text1791 ∷ Noted (Taken 1 893 Fetch) ∷ wait true (1 ∷ 2 ∷ []) (2 ∷ []) ∷ CanWrite 2 ∷ Asked 2 text1792 ∷ wait true (1 ∷ 2 ∷ []) [] ∷ CanRead 2 ∷ Got 2 text5 ∷ Noted (Taken 1 893 (Hit 0 0)) ∷ wait true (1 ∷ 2 ∷ []) (1 ∷ []) ∷ CanWrite 1 ∷ Said 1 154 text6 ∷ wait true (1 ∷ 2 ∷ []) [] ∷ CanRead 1 ∷ Heard 1 text1793 ∷ Noted (Taken 1 894 Fetch) ∷ wait true (1 ∷ 2 ∷ []) (2 ∷ []) ∷ CanWrite 2 ∷ Asked 2 text1794 ∷ wait true (1 ∷ 2 ∷ []) [] ∷ CanRead 2 ∷ Got 2 text5 ∷ Noted (Taken 1 894 (Hit 0 0)) ∷ wait true (1 ∷ 2 ∷ []) (1 ∷ []) ∷ CanWrite 1 ∷ Said 1 154 text6 ∷ wait true (1 ∷ 2 ∷ []) [] ∷ CanRead 1 ∷ Heard 1 text1795 ∷ Noted (Taken 1 895 Fetch) ∷ wait true (1 ∷ 2 ∷ []) (2 ∷ []) ∷ CanWrite 2 ∷ Asked 2 text1796 ∷ wait true (1 ∷ 2 ∷ []) [] ∷ CanRead 2 ∷ Got 2 text5 ∷ Noted (Taken 1 895 (Hit 0 0)) ∷ wait true (1 ∷ 2 ∷ []) (1 ∷ []) ∷ CanWrite 1 ∷ Said 1 154 text6 ∷ wait true (1 ∷ 2 ∷ []) [] ∷ CanRead 1 ∷ Heard 1 text1797 ∷ Noted (Taken 1 896 Fetch) ∷ wait true (1 ∷ 2 ∷ []) (2 ∷ []) ∷ CanWrite 2 ∷ Asked 2 text1798 ∷ wait true (1 ∷ 2 ∷ []) [] ∷ CanRead 2 ∷ Got 2 text5 ∷ Noted (Taken 1 896 (Hit 0 0)) ∷ wait true (1 ∷ 2 ∷ []) (1 ∷ []) ∷ CanWrite 1 ∷ Said 1 154 text6 ∷ wait true (1 ∷ 2 ∷ []) [] ∷ CanRead 1 ∷ Heard 1 text1799 ∷ Noted (Taken 1 897 Fetch) ∷ wait true (1 ∷ 2 ∷ []) (2 ∷ []) ∷ CanWrite 2 ∷ Asked 2 text1800 ∷ wait true (1 ∷ 2 ∷ []) [] ∷ CanRead 2 ∷ Got 2 text5 ∷ Noted (Taken 1 897 (Hit 0 0)) ∷ wait true (1 ∷ 2 ∷ []) (1 ∷ []) ∷ CanWrite 1 ∷ Said 1 154 text6 ∷ wait true (1 ∷ 2 ∷ []) [] ∷ CanRead 1 ∷ Heard 1 text1801 ∷ Noted (Taken 1 898 Fetch) ∷ wait true (1 ∷ 2 ∷ []) (2 ∷ []) ∷ CanWrite 2 ∷ Asked 2 text1802 ∷ wait true (1 ∷ 2 ∷ []) [] ∷ CanRead 2 ∷ Got 2 text5 ∷ Noted (Taken 1 898 (Hit 0 0)) ∷ wait true (1 ∷ 2 ∷ []) (1 ∷ []) ∷ CanWrite 1 ∷ Said 1 154 text6 ∷ wait true (1 ∷ 2 ∷ []) [] ∷ CanRead 1 ∷ Heard 1 text1803 ∷ Noted (Taken 1 899 Fetch) ∷ wait true (1 ∷ 2 ∷ []) (2 ∷ []) ∷ CanWrite 2 ∷ Asked 2 text1804 ∷ wait true (1 ∷ 2 ∷ []) [] ∷ CanRead 2 ∷ Got 2 text5 ∷ Noted (Taken 1 899 (Hit 0 0)) ∷ wait true (1 ∷ 2 ∷ []) (1 ∷ []) ∷ CanWrite 1 ∷ Said 1 154 text6 ∷ wait true (1 ∷ 2 ∷ []) [] ∷ CanRead 1 ∷ Heard 1 text1805 ∷ Noted (Taken 1 900 Fetch) ∷ wait true (1 ∷ 2 ∷ []) (2 ∷ []) ∷ CanWrite 2 ∷ Asked 2 text1806 ∷ wait true (1 ∷ 2 ∷ []) [] ∷ CanRead 2 ∷ Got 2 text5 ∷ Noted (Taken 1 900 (Hit 0 0)) ∷ wait true (1 ∷ 2 ∷ []) (1 ∷ []) ∷ CanWrite 1 ∷ Said 1 154 text6 ∷ wait true (1 ∷ 2 ∷ []) [] ∷ CanRead 1 ∷ Heard 1 text1807 ∷ Noted (Taken 1 901 Fetch) ∷ wait true (1 ∷ 2 ∷ []) (2 ∷ []) ∷ CanWrite 2 ∷ Asked 2 text1808 ∷ wait true (1 ∷ 2 ∷ []) [] ∷ CanRead 2 ∷ Got 2 text5 ∷ Noted (Taken 1 901 (Hit 0 0)) ∷ wait true (1 ∷ 2 ∷ []) (1 ∷ []) ∷ CanWrite 1 ∷ Said 1 154 text6 ∷ wait true (1 ∷ 2 ∷ []) [] ∷ CanRead 1 ∷ Heard 1 text1809 ∷ Noted (Taken 1 902 Fetch) ∷ wait true (1 ∷ 2 ∷ []) (2 ∷ []) ∷ CanWrite 2 ∷ Asked 2 text1810 ∷ wait true (1 ∷ 2 ∷ []) [] ∷ CanRead 2 ∷ Got 2 text5 ∷ Noted (Taken 1 902 (Hit 0 0)) ∷ wait true (1 ∷ 2 ∷ []) (1 ∷ []) ∷ CanWrite 1 ∷ Said 1 154 text6 ∷ wait true (1 ∷ 2 ∷ []) [] ∷ CanRead 1 ∷ Heard 1 text1811 ∷ Noted (Taken 1 903 Fetch) ∷ wait true (1 ∷ 2 ∷ []) (2 ∷ []) ∷ CanWrite 2 ∷ Asked 2 text1812 ∷ wait true (1 ∷ 2 ∷ []) [] ∷ CanRead 2 ∷ Got 2 text5 ∷ Noted (Taken 1 903 (Hit 0 0)) ∷ wait true (1 ∷ 2 ∷ []) (1 ∷ []) ∷ CanWrite 1 ∷ Said 1 154 text6 ∷ wait true (1 ∷ 2 ∷ []) [] ∷ CanRead 1 ∷ Heard 1 text1813 ∷ Noted (Taken 1 904 Fetch) ∷ wait true (1 ∷ 2 ∷ []) (2 ∷ []) ∷ CanWrite 2 ∷ Asked 2 text1814 ∷ wait true (1 ∷ 2 ∷ []) [] ∷ CanRead 2 ∷ Got 2 text5 ∷ Noted (Taken 1 904 (Hit 0 0)) ∷ wait true (1 ∷ 2 ∷ []) (1 ∷ []) ∷ CanWrite 1 ∷ Said 1 154 text6 ∷ wait true (1 ∷ 2 ∷ []) [] ∷ CanRead 1 ∷ Heard 1 text1815 ∷ Noted (Taken 1 905 Fetch) ∷ wait true (1 ∷ 2 ∷ []) (2 ∷ []) ∷ CanWrite 2 ∷ Asked 2 text1816 ∷ wait true (1 ∷ 2 ∷ []) [] ∷ CanRead 2 ∷ Got 2 text5 ∷ Noted (Taken 1 905 (Hit 0 0)) ∷ wait true (1 ∷ 2 ∷ []) (1 ∷ []) ∷ CanWrite 1 ∷ Said 1 154 text6 ∷ wait true (1 ∷ 2 ∷ []) [] ∷ CanRead 1 ∷ Heard 1 text1817 ∷ Noted (Taken 1 906 Fetch) ∷ wait true (1 ∷ 2 ∷ []) (2 ∷ []) ∷ CanWrite 2 ∷ Asked 2 text1818 ∷ wait true (1 ∷ 2 ∷ []) [] ∷ CanRead 2 ∷ Got 2 text5 ∷ Noted (Taken 1 906 (Hit 0 0)) ∷ wait true (1 ∷ 2 ∷ []) (1 ∷ []) ∷ CanWrite 1 ∷ Said 1 154 text6 ∷ wait true (1 ∷ 2 ∷ []) [] ∷ CanRead 1 ∷ Heard 1 text1819 ∷ Noted (Taken 1 907 Fetch) ∷ wait true (1 ∷ 2 ∷ []) (2 ∷ []) ∷ CanWrite 2 ∷ Asked 2 text1820 ∷ wait true (1 ∷ 2 ∷ []) [] ∷ CanRead 2 ∷ Got 2 text5 ∷ Noted (Taken 1 907 (Hit 0 0)) ∷ []))
unfolding judging front0x51
front0x52 = (_, refl)

front0x53 : (s : State) × (arrived s ≡ judge 12720 front0x52.0 (wait true (1 ∷ 2 ∷ []) (1 ∷ []) ∷ CanWrite 1 ∷ Said 1 154 text6 ∷ wait true (1 ∷ 2 ∷ []) [] ∷ CanRead 1 ∷ Heard 1 text1821 ∷ Noted (Taken 1 908 Fetch) ∷ wait true (1 ∷ 2 ∷ []) (2 ∷ []) ∷ CanWrite 2 ∷ Asked 2 text1822 ∷ wait true (1 ∷ 2 ∷ []) [] ∷ CanRead 2 ∷ Got 2 text5 ∷ Noted (Taken 1 908 (Hit 0 0)) ∷ wait true (1 ∷ 2 ∷ []) (1 ∷ []) ∷ CanWrite 1 ∷ Said 1 154 text6 ∷ wait true (1 ∷ 2 ∷ []) [] ∷ CanRead 1 ∷ Heard 1 text1823 ∷ Noted (Taken 1 909 Fetch) ∷ wait true (1 ∷ 2 ∷ []) (2 ∷ []) ∷ CanWrite 2 ∷ Asked 2 text1824 ∷ wait true (1 ∷ 2 ∷ []) [] ∷ CanRead 2 ∷ Got 2 text5 ∷ Noted (Taken 1 909 (Hit 0 0)) ∷ wait true (1 ∷ 2 ∷ []) (1 ∷ []) ∷ CanWrite 1 ∷ Said 1 154 text6 ∷ wait true (1 ∷ 2 ∷ []) [] ∷ CanRead 1 ∷ Heard 1 text1825 ∷ Noted (Taken 1 910 Fetch) ∷ wait true (1 ∷ 2 ∷ []) (2 ∷ []) ∷ CanWrite 2 ∷ Asked 2 text1826 ∷ wait true (1 ∷ 2 ∷ []) [] ∷ CanRead 2 ∷ Got 2 text5 ∷ Noted (Taken 1 910 (Hit 0 0)) ∷ wait true (1 ∷ 2 ∷ []) (1 ∷ []) ∷ CanWrite 1 ∷ Said 1 154 text6 ∷ wait true (1 ∷ 2 ∷ []) [] ∷ CanRead 1 ∷ Heard 1 text1827 ∷ Noted (Taken 1 911 Fetch) ∷ wait true (1 ∷ 2 ∷ []) (2 ∷ []) ∷ CanWrite 2 ∷ Asked 2 text1828 ∷ wait true (1 ∷ 2 ∷ []) [] ∷ CanRead 2 ∷ Got 2 text5 ∷ Noted (Taken 1 911 (Hit 0 0)) ∷ wait true (1 ∷ 2 ∷ []) (1 ∷ []) ∷ CanWrite 1 ∷ Said 1 154 text6 ∷ wait true (1 ∷ 2 ∷ []) [] ∷ CanRead 1 ∷ Heard 1 text1829 ∷ Noted (Taken 1 912 Fetch) ∷ wait true (1 ∷ 2 ∷ []) (2 ∷ []) ∷ CanWrite 2 ∷ Asked 2 text1830 ∷ wait true (1 ∷ 2 ∷ []) [] ∷ CanRead 2 ∷ Got 2 text5 ∷ Noted (Taken 1 912 (Hit 0 0)) ∷ wait true (1 ∷ 2 ∷ []) (1 ∷ []) ∷ CanWrite 1 ∷ Said 1 154 text6 ∷ wait true (1 ∷ 2 ∷ []) [] ∷ CanRead 1 ∷ Heard 1 text1831 ∷ Noted (Taken 1 913 Fetch) ∷ wait true (1 ∷ 2 ∷ []) (2 ∷ []) ∷ CanWrite 2 ∷ Asked 2 text1832 ∷ wait true (1 ∷ 2 ∷ []) [] ∷ CanRead 2 ∷ Got 2 text5 ∷ Noted (Taken 1 913 (Hit 0 0)) ∷ wait true (1 ∷ 2 ∷ []) (1 ∷ []) ∷ CanWrite 1 ∷ Said 1 154 text6 ∷ wait true (1 ∷ 2 ∷ []) [] ∷ CanRead 1 ∷ Heard 1 text1833 ∷ Noted (Taken 1 914 Fetch) ∷ wait true (1 ∷ 2 ∷ []) (2 ∷ []) ∷ CanWrite 2 ∷ Asked 2 text1834 ∷ wait true (1 ∷ 2 ∷ []) [] ∷ CanRead 2 ∷ Got 2 text5 ∷ Noted (Taken 1 914 (Hit 0 0)) ∷ wait true (1 ∷ 2 ∷ []) (1 ∷ []) ∷ CanWrite 1 ∷ Said 1 154 text6 ∷ wait true (1 ∷ 2 ∷ []) [] ∷ CanRead 1 ∷ Heard 1 text1835 ∷ Noted (Taken 1 915 Fetch) ∷ wait true (1 ∷ 2 ∷ []) (2 ∷ []) ∷ CanWrite 2 ∷ Asked 2 text1836 ∷ wait true (1 ∷ 2 ∷ []) [] ∷ CanRead 2 ∷ Got 2 text5 ∷ Noted (Taken 1 915 (Hit 0 0)) ∷ wait true (1 ∷ 2 ∷ []) (1 ∷ []) ∷ CanWrite 1 ∷ Said 1 154 text6 ∷ wait true (1 ∷ 2 ∷ []) [] ∷ CanRead 1 ∷ Heard 1 text1837 ∷ Noted (Taken 1 916 Fetch) ∷ wait true (1 ∷ 2 ∷ []) (2 ∷ []) ∷ CanWrite 2 ∷ Asked 2 text1838 ∷ wait true (1 ∷ 2 ∷ []) [] ∷ CanRead 2 ∷ Got 2 text5 ∷ Noted (Taken 1 916 (Hit 0 0)) ∷ wait true (1 ∷ 2 ∷ []) (1 ∷ []) ∷ CanWrite 1 ∷ Said 1 154 text6 ∷ wait true (1 ∷ 2 ∷ []) [] ∷ CanRead 1 ∷ Heard 1 text1839 ∷ Noted (Taken 1 917 Fetch) ∷ wait true (1 ∷ 2 ∷ []) (2 ∷ []) ∷ CanWrite 2 ∷ Asked 2 text1840 ∷ wait true (1 ∷ 2 ∷ []) [] ∷ CanRead 2 ∷ Got 2 text5 ∷ Noted (Taken 1 917 (Hit 0 0)) ∷ wait true (1 ∷ 2 ∷ []) (1 ∷ []) ∷ CanWrite 1 ∷ Said 1 154 text6 ∷ wait true (1 ∷ 2 ∷ []) [] ∷ CanRead 1 ∷ Heard 1 text1841 ∷ Noted (Taken 1 918 Fetch) ∷ wait true (1 ∷ 2 ∷ []) (2 ∷ []) ∷ CanWrite 2 ∷ Asked 2 text1842 ∷ wait true (1 ∷ 2 ∷ []) [] ∷ CanRead 2 ∷ Got 2 text5 ∷ Noted (Taken 1 918 (Hit 0 0)) ∷ wait true (1 ∷ 2 ∷ []) (1 ∷ []) ∷ CanWrite 1 ∷ Said 1 154 text6 ∷ wait true (1 ∷ 2 ∷ []) [] ∷ CanRead 1 ∷ Heard 1 text1843 ∷ Noted (Taken 1 919 Fetch) ∷ wait true (1 ∷ 2 ∷ []) (2 ∷ []) ∷ CanWrite 2 ∷ Asked 2 text1844 ∷ wait true (1 ∷ 2 ∷ []) [] ∷ CanRead 2 ∷ Got 2 text5 ∷ Noted (Taken 1 919 (Hit 0 0)) ∷ wait true (1 ∷ 2 ∷ []) (1 ∷ []) ∷ CanWrite 1 ∷ Said 1 154 text6 ∷ wait true (1 ∷ 2 ∷ []) [] ∷ CanRead 1 ∷ Heard 1 text1845 ∷ Noted (Taken 1 920 Fetch) ∷ wait true (1 ∷ 2 ∷ []) (2 ∷ []) ∷ CanWrite 2 ∷ Asked 2 text1846 ∷ wait true (1 ∷ 2 ∷ []) [] ∷ CanRead 2 ∷ Got 2 text5 ∷ Noted (Taken 1 920 (Hit 0 0)) ∷ wait true (1 ∷ 2 ∷ []) (1 ∷ []) ∷ CanWrite 1 ∷ Said 1 154 text6 ∷ wait true (1 ∷ 2 ∷ []) [] ∷ CanRead 1 ∷ Heard 1 text1847 ∷ Noted (Taken 1 921 Fetch) ∷ wait true (1 ∷ 2 ∷ []) (2 ∷ []) ∷ CanWrite 2 ∷ Asked 2 text1848 ∷ wait true (1 ∷ 2 ∷ []) [] ∷ CanRead 2 ∷ Got 2 text5 ∷ Noted (Taken 1 921 (Hit 0 0)) ∷ wait true (1 ∷ 2 ∷ []) (1 ∷ []) ∷ CanWrite 1 ∷ Said 1 154 text6 ∷ wait true (1 ∷ 2 ∷ []) [] ∷ CanRead 1 ∷ Heard 1 text1849 ∷ Noted (Taken 1 922 Fetch) ∷ wait true (1 ∷ 2 ∷ []) (2 ∷ []) ∷ CanWrite 2 ∷ Asked 2 text1850 ∷ wait true (1 ∷ 2 ∷ []) [] ∷ CanRead 2 ∷ Got 2 text5 ∷ Noted (Taken 1 922 (Hit 0 0)) ∷ wait true (1 ∷ 2 ∷ []) (1 ∷ []) ∷ CanWrite 1 ∷ Said 1 154 text6 ∷ wait true (1 ∷ 2 ∷ []) [] ∷ CanRead 1 ∷ Heard 1 text1851 ∷ Noted (Taken 1 923 Fetch) ∷ wait true (1 ∷ 2 ∷ []) (2 ∷ []) ∷ CanWrite 2 ∷ Asked 2 text1852 ∷ wait true (1 ∷ 2 ∷ []) [] ∷ CanRead 2 ∷ Got 2 text5 ∷ Noted (Taken 1 923 (Hit 0 0)) ∷ wait true (1 ∷ 2 ∷ []) (1 ∷ []) ∷ CanWrite 1 ∷ Said 1 154 text6 ∷ wait true (1 ∷ 2 ∷ []) [] ∷ CanRead 1 ∷ Heard 1 text1853 ∷ Noted (Taken 1 924 Fetch) ∷ wait true (1 ∷ 2 ∷ []) (2 ∷ []) ∷ CanWrite 2 ∷ Asked 2 text1854 ∷ wait true (1 ∷ 2 ∷ []) [] ∷ CanRead 2 ∷ Got 2 text5 ∷ Noted (Taken 1 924 (Hit 0 0)) ∷ wait true (1 ∷ 2 ∷ []) (1 ∷ []) ∷ CanWrite 1 ∷ []))
unfolding judging front0x52
front0x53 = (_, refl)

front0x54 : (s : State) × (arrived s ≡ judge 12960 front0x53.0 (Said 1 154 text6 ∷ wait true (1 ∷ 2 ∷ []) [] ∷ CanRead 1 ∷ Heard 1 text1855 ∷ Noted (Taken 1 925 Fetch) ∷ wait true (1 ∷ 2 ∷ []) (2 ∷ []) ∷ CanWrite 2 ∷ Asked 2 text1856 ∷ wait true (1 ∷ 2 ∷ []) [] ∷ CanRead 2 ∷ Got 2 text5 ∷ Noted (Taken 1 925 (Hit 0 0)) ∷ wait true (1 ∷ 2 ∷ []) (1 ∷ []) ∷ CanWrite 1 ∷ Said 1 154 text6 ∷ wait true (1 ∷ 2 ∷ []) [] ∷ CanRead 1 ∷ Heard 1 text1857 ∷ Noted (Taken 1 926 Fetch) ∷ wait true (1 ∷ 2 ∷ []) (2 ∷ []) ∷ CanWrite 2 ∷ Asked 2 text1858 ∷ wait true (1 ∷ 2 ∷ []) [] ∷ CanRead 2 ∷ Got 2 text5 ∷ Noted (Taken 1 926 (Hit 0 0)) ∷ wait true (1 ∷ 2 ∷ []) (1 ∷ []) ∷ CanWrite 1 ∷ Said 1 154 text6 ∷ wait true (1 ∷ 2 ∷ []) [] ∷ CanRead 1 ∷ Heard 1 text1859 ∷ Noted (Taken 1 927 Fetch) ∷ wait true (1 ∷ 2 ∷ []) (2 ∷ []) ∷ CanWrite 2 ∷ Asked 2 text1860 ∷ wait true (1 ∷ 2 ∷ []) [] ∷ CanRead 2 ∷ Got 2 text5 ∷ Noted (Taken 1 927 (Hit 0 0)) ∷ wait true (1 ∷ 2 ∷ []) (1 ∷ []) ∷ CanWrite 1 ∷ Said 1 154 text6 ∷ wait true (1 ∷ 2 ∷ []) [] ∷ CanRead 1 ∷ Heard 1 text1861 ∷ Noted (Taken 1 928 Fetch) ∷ wait true (1 ∷ 2 ∷ []) (2 ∷ []) ∷ CanWrite 2 ∷ Asked 2 text1862 ∷ wait true (1 ∷ 2 ∷ []) [] ∷ CanRead 2 ∷ Got 2 text5 ∷ Noted (Taken 1 928 (Hit 0 0)) ∷ wait true (1 ∷ 2 ∷ []) (1 ∷ []) ∷ CanWrite 1 ∷ Said 1 154 text6 ∷ wait true (1 ∷ 2 ∷ []) [] ∷ CanRead 1 ∷ Heard 1 text1863 ∷ Noted (Taken 1 929 Fetch) ∷ wait true (1 ∷ 2 ∷ []) (2 ∷ []) ∷ CanWrite 2 ∷ Asked 2 text1864 ∷ wait true (1 ∷ 2 ∷ []) [] ∷ CanRead 2 ∷ Got 2 text5 ∷ Noted (Taken 1 929 (Hit 0 0)) ∷ wait true (1 ∷ 2 ∷ []) (1 ∷ []) ∷ CanWrite 1 ∷ Said 1 154 text6 ∷ wait true (1 ∷ 2 ∷ []) [] ∷ CanRead 1 ∷ Heard 1 text1865 ∷ Noted (Taken 1 930 Fetch) ∷ wait true (1 ∷ 2 ∷ []) (2 ∷ []) ∷ CanWrite 2 ∷ Asked 2 text1866 ∷ wait true (1 ∷ 2 ∷ []) [] ∷ CanRead 2 ∷ Got 2 text5 ∷ Noted (Taken 1 930 (Hit 0 0)) ∷ wait true (1 ∷ 2 ∷ []) (1 ∷ []) ∷ CanWrite 1 ∷ Said 1 154 text6 ∷ wait true (1 ∷ 2 ∷ []) [] ∷ CanRead 1 ∷ Heard 1 text1867 ∷ Noted (Taken 1 931 Fetch) ∷ wait true (1 ∷ 2 ∷ []) (2 ∷ []) ∷ CanWrite 2 ∷ Asked 2 text1868 ∷ wait true (1 ∷ 2 ∷ []) [] ∷ CanRead 2 ∷ Got 2 text5 ∷ Noted (Taken 1 931 (Hit 0 0)) ∷ wait true (1 ∷ 2 ∷ []) (1 ∷ []) ∷ CanWrite 1 ∷ Said 1 154 text6 ∷ wait true (1 ∷ 2 ∷ []) [] ∷ CanRead 1 ∷ Heard 1 text1869 ∷ Noted (Taken 1 932 Fetch) ∷ wait true (1 ∷ 2 ∷ []) (2 ∷ []) ∷ CanWrite 2 ∷ Asked 2 text1870 ∷ wait true (1 ∷ 2 ∷ []) [] ∷ CanRead 2 ∷ Got 2 text5 ∷ Noted (Taken 1 932 (Hit 0 0)) ∷ wait true (1 ∷ 2 ∷ []) (1 ∷ []) ∷ CanWrite 1 ∷ Said 1 154 text6 ∷ wait true (1 ∷ 2 ∷ []) [] ∷ CanRead 1 ∷ Heard 1 text1871 ∷ Noted (Taken 1 933 Fetch) ∷ wait true (1 ∷ 2 ∷ []) (2 ∷ []) ∷ CanWrite 2 ∷ Asked 2 text1872 ∷ wait true (1 ∷ 2 ∷ []) [] ∷ CanRead 2 ∷ Got 2 text5 ∷ Noted (Taken 1 933 (Hit 0 0)) ∷ wait true (1 ∷ 2 ∷ []) (1 ∷ []) ∷ CanWrite 1 ∷ Said 1 154 text6 ∷ wait true (1 ∷ 2 ∷ []) [] ∷ CanRead 1 ∷ Heard 1 text1873 ∷ Noted (Taken 1 934 Fetch) ∷ wait true (1 ∷ 2 ∷ []) (2 ∷ []) ∷ CanWrite 2 ∷ Asked 2 text1874 ∷ wait true (1 ∷ 2 ∷ []) [] ∷ CanRead 2 ∷ Got 2 text5 ∷ Noted (Taken 1 934 (Hit 0 0)) ∷ wait true (1 ∷ 2 ∷ []) (1 ∷ []) ∷ CanWrite 1 ∷ Said 1 154 text6 ∷ wait true (1 ∷ 2 ∷ []) [] ∷ CanRead 1 ∷ Heard 1 text1875 ∷ Noted (Taken 1 935 Fetch) ∷ wait true (1 ∷ 2 ∷ []) (2 ∷ []) ∷ CanWrite 2 ∷ Asked 2 text1876 ∷ wait true (1 ∷ 2 ∷ []) [] ∷ CanRead 2 ∷ Got 2 text5 ∷ Noted (Taken 1 935 (Hit 0 0)) ∷ wait true (1 ∷ 2 ∷ []) (1 ∷ []) ∷ CanWrite 1 ∷ Said 1 154 text6 ∷ wait true (1 ∷ 2 ∷ []) [] ∷ CanRead 1 ∷ Heard 1 text1877 ∷ Noted (Taken 1 936 Fetch) ∷ wait true (1 ∷ 2 ∷ []) (2 ∷ []) ∷ CanWrite 2 ∷ Asked 2 text1878 ∷ wait true (1 ∷ 2 ∷ []) [] ∷ CanRead 2 ∷ Got 2 text5 ∷ Noted (Taken 1 936 (Hit 0 0)) ∷ wait true (1 ∷ 2 ∷ []) (1 ∷ []) ∷ CanWrite 1 ∷ Said 1 154 text6 ∷ wait true (1 ∷ 2 ∷ []) [] ∷ CanRead 1 ∷ Heard 1 text1879 ∷ Noted (Taken 1 937 Fetch) ∷ wait true (1 ∷ 2 ∷ []) (2 ∷ []) ∷ CanWrite 2 ∷ Asked 2 text1880 ∷ wait true (1 ∷ 2 ∷ []) [] ∷ CanRead 2 ∷ Got 2 text5 ∷ Noted (Taken 1 937 (Hit 0 0)) ∷ wait true (1 ∷ 2 ∷ []) (1 ∷ []) ∷ CanWrite 1 ∷ Said 1 154 text6 ∷ wait true (1 ∷ 2 ∷ []) [] ∷ CanRead 1 ∷ Heard 1 text1881 ∷ Noted (Taken 1 938 Fetch) ∷ wait true (1 ∷ 2 ∷ []) (2 ∷ []) ∷ CanWrite 2 ∷ Asked 2 text1882 ∷ wait true (1 ∷ 2 ∷ []) [] ∷ CanRead 2 ∷ Got 2 text5 ∷ Noted (Taken 1 938 (Hit 0 0)) ∷ wait true (1 ∷ 2 ∷ []) (1 ∷ []) ∷ CanWrite 1 ∷ Said 1 154 text6 ∷ wait true (1 ∷ 2 ∷ []) [] ∷ CanRead 1 ∷ Heard 1 text1883 ∷ Noted (Taken 1 939 Fetch) ∷ wait true (1 ∷ 2 ∷ []) (2 ∷ []) ∷ CanWrite 2 ∷ Asked 2 text1884 ∷ wait true (1 ∷ 2 ∷ []) [] ∷ CanRead 2 ∷ Got 2 text5 ∷ Noted (Taken 1 939 (Hit 0 0)) ∷ wait true (1 ∷ 2 ∷ []) (1 ∷ []) ∷ CanWrite 1 ∷ Said 1 154 text6 ∷ wait true (1 ∷ 2 ∷ []) [] ∷ CanRead 1 ∷ Heard 1 text1885 ∷ Noted (Taken 1 940 Fetch) ∷ wait true (1 ∷ 2 ∷ []) (2 ∷ []) ∷ CanWrite 2 ∷ Asked 2 text1886 ∷ wait true (1 ∷ 2 ∷ []) [] ∷ CanRead 2 ∷ Got 2 text5 ∷ Noted (Taken 1 940 (Hit 0 0)) ∷ wait true (1 ∷ 2 ∷ []) (1 ∷ []) ∷ CanWrite 1 ∷ Said 1 154 text6 ∷ wait true (1 ∷ 2 ∷ []) [] ∷ CanRead 1 ∷ Heard 1 text1887 ∷ Noted (Taken 1 941 Fetch) ∷ wait true (1 ∷ 2 ∷ []) (2 ∷ []) ∷ CanWrite 2 ∷ Asked 2 text1888 ∷ wait true (1 ∷ 2 ∷ []) [] ∷ CanRead 2 ∷ Got 2 text5 ∷ Noted (Taken 1 941 (Hit 0 0)) ∷ wait true (1 ∷ 2 ∷ []) (1 ∷ []) ∷ CanWrite 1 ∷ Said 1 154 text6 ∷ wait true (1 ∷ 2 ∷ []) [] ∷ []))
unfolding judging front0x53
front0x54 = (_, refl)

front0x55 : (s : State) × (arrived s ≡ judge 13200 front0x54.0 (CanRead 1 ∷ Heard 1 text1889 ∷ Noted (Taken 1 942 Fetch) ∷ wait true (1 ∷ 2 ∷ []) (2 ∷ []) ∷ CanWrite 2 ∷ Asked 2 text1890 ∷ wait true (1 ∷ 2 ∷ []) [] ∷ CanRead 2 ∷ Got 2 text5 ∷ Noted (Taken 1 942 (Hit 0 0)) ∷ wait true (1 ∷ 2 ∷ []) (1 ∷ []) ∷ CanWrite 1 ∷ Said 1 154 text6 ∷ wait true (1 ∷ 2 ∷ []) [] ∷ CanRead 1 ∷ Heard 1 text1891 ∷ Noted (Taken 1 943 Fetch) ∷ wait true (1 ∷ 2 ∷ []) (2 ∷ []) ∷ CanWrite 2 ∷ Asked 2 text1892 ∷ wait true (1 ∷ 2 ∷ []) [] ∷ CanRead 2 ∷ Got 2 text5 ∷ Noted (Taken 1 943 (Hit 0 0)) ∷ wait true (1 ∷ 2 ∷ []) (1 ∷ []) ∷ CanWrite 1 ∷ Said 1 154 text6 ∷ wait true (1 ∷ 2 ∷ []) [] ∷ CanRead 1 ∷ Heard 1 text1893 ∷ Noted (Taken 1 944 Fetch) ∷ wait true (1 ∷ 2 ∷ []) (2 ∷ []) ∷ CanWrite 2 ∷ Asked 2 text1894 ∷ wait true (1 ∷ 2 ∷ []) [] ∷ CanRead 2 ∷ Got 2 text5 ∷ Noted (Taken 1 944 (Hit 0 0)) ∷ wait true (1 ∷ 2 ∷ []) (1 ∷ []) ∷ CanWrite 1 ∷ Said 1 154 text6 ∷ wait true (1 ∷ 2 ∷ []) [] ∷ CanRead 1 ∷ Heard 1 text1895 ∷ Noted (Taken 1 945 Fetch) ∷ wait true (1 ∷ 2 ∷ []) (2 ∷ []) ∷ CanWrite 2 ∷ Asked 2 text1896 ∷ wait true (1 ∷ 2 ∷ []) [] ∷ CanRead 2 ∷ Got 2 text5 ∷ Noted (Taken 1 945 (Hit 0 0)) ∷ wait true (1 ∷ 2 ∷ []) (1 ∷ []) ∷ CanWrite 1 ∷ Said 1 154 text6 ∷ wait true (1 ∷ 2 ∷ []) [] ∷ CanRead 1 ∷ Heard 1 text1897 ∷ Noted (Taken 1 946 Fetch) ∷ wait true (1 ∷ 2 ∷ []) (2 ∷ []) ∷ CanWrite 2 ∷ Asked 2 text1898 ∷ wait true (1 ∷ 2 ∷ []) [] ∷ CanRead 2 ∷ Got 2 text5 ∷ Noted (Taken 1 946 (Hit 0 0)) ∷ wait true (1 ∷ 2 ∷ []) (1 ∷ []) ∷ CanWrite 1 ∷ Said 1 154 text6 ∷ wait true (1 ∷ 2 ∷ []) [] ∷ CanRead 1 ∷ Heard 1 text1899 ∷ Noted (Taken 1 947 Fetch) ∷ wait true (1 ∷ 2 ∷ []) (2 ∷ []) ∷ CanWrite 2 ∷ Asked 2 text1900 ∷ wait true (1 ∷ 2 ∷ []) [] ∷ CanRead 2 ∷ Got 2 text5 ∷ Noted (Taken 1 947 (Hit 0 0)) ∷ wait true (1 ∷ 2 ∷ []) (1 ∷ []) ∷ CanWrite 1 ∷ Said 1 154 text6 ∷ wait true (1 ∷ 2 ∷ []) [] ∷ CanRead 1 ∷ Heard 1 text1901 ∷ Noted (Taken 1 948 Fetch) ∷ wait true (1 ∷ 2 ∷ []) (2 ∷ []) ∷ CanWrite 2 ∷ Asked 2 text1902 ∷ wait true (1 ∷ 2 ∷ []) [] ∷ CanRead 2 ∷ Got 2 text5 ∷ Noted (Taken 1 948 (Hit 0 0)) ∷ wait true (1 ∷ 2 ∷ []) (1 ∷ []) ∷ CanWrite 1 ∷ Said 1 154 text6 ∷ wait true (1 ∷ 2 ∷ []) [] ∷ CanRead 1 ∷ Heard 1 text1903 ∷ Noted (Taken 1 949 Fetch) ∷ wait true (1 ∷ 2 ∷ []) (2 ∷ []) ∷ CanWrite 2 ∷ Asked 2 text1904 ∷ wait true (1 ∷ 2 ∷ []) [] ∷ CanRead 2 ∷ Got 2 text5 ∷ Noted (Taken 1 949 (Hit 0 0)) ∷ wait true (1 ∷ 2 ∷ []) (1 ∷ []) ∷ CanWrite 1 ∷ Said 1 154 text6 ∷ wait true (1 ∷ 2 ∷ []) [] ∷ CanRead 1 ∷ Heard 1 text1905 ∷ Noted (Taken 1 950 Fetch) ∷ wait true (1 ∷ 2 ∷ []) (2 ∷ []) ∷ CanWrite 2 ∷ Asked 2 text1906 ∷ wait true (1 ∷ 2 ∷ []) [] ∷ CanRead 2 ∷ Got 2 text5 ∷ Noted (Taken 1 950 (Hit 0 0)) ∷ wait true (1 ∷ 2 ∷ []) (1 ∷ []) ∷ CanWrite 1 ∷ Said 1 154 text6 ∷ wait true (1 ∷ 2 ∷ []) [] ∷ CanRead 1 ∷ Heard 1 text1907 ∷ Noted (Taken 1 951 Fetch) ∷ wait true (1 ∷ 2 ∷ []) (2 ∷ []) ∷ CanWrite 2 ∷ Asked 2 text1908 ∷ wait true (1 ∷ 2 ∷ []) [] ∷ CanRead 2 ∷ Got 2 text5 ∷ Noted (Taken 1 951 (Hit 0 0)) ∷ wait true (1 ∷ 2 ∷ []) (1 ∷ []) ∷ CanWrite 1 ∷ Said 1 154 text6 ∷ wait true (1 ∷ 2 ∷ []) [] ∷ CanRead 1 ∷ Heard 1 text1909 ∷ Noted (Taken 1 952 Fetch) ∷ wait true (1 ∷ 2 ∷ []) (2 ∷ []) ∷ CanWrite 2 ∷ Asked 2 text1910 ∷ wait true (1 ∷ 2 ∷ []) [] ∷ CanRead 2 ∷ Got 2 text5 ∷ Noted (Taken 1 952 (Hit 0 0)) ∷ wait true (1 ∷ 2 ∷ []) (1 ∷ []) ∷ CanWrite 1 ∷ Said 1 154 text6 ∷ wait true (1 ∷ 2 ∷ []) [] ∷ CanRead 1 ∷ Heard 1 text1911 ∷ Noted (Taken 1 953 Fetch) ∷ wait true (1 ∷ 2 ∷ []) (2 ∷ []) ∷ CanWrite 2 ∷ Asked 2 text1912 ∷ wait true (1 ∷ 2 ∷ []) [] ∷ CanRead 2 ∷ Got 2 text5 ∷ Noted (Taken 1 953 (Hit 0 0)) ∷ wait true (1 ∷ 2 ∷ []) (1 ∷ []) ∷ CanWrite 1 ∷ Said 1 154 text6 ∷ wait true (1 ∷ 2 ∷ []) [] ∷ CanRead 1 ∷ Heard 1 text1913 ∷ Noted (Taken 1 954 Fetch) ∷ wait true (1 ∷ 2 ∷ []) (2 ∷ []) ∷ CanWrite 2 ∷ Asked 2 text1914 ∷ wait true (1 ∷ 2 ∷ []) [] ∷ CanRead 2 ∷ Got 2 text5 ∷ Noted (Taken 1 954 (Hit 0 0)) ∷ wait true (1 ∷ 2 ∷ []) (1 ∷ []) ∷ CanWrite 1 ∷ Said 1 154 text6 ∷ wait true (1 ∷ 2 ∷ []) [] ∷ CanRead 1 ∷ Heard 1 text1915 ∷ Noted (Taken 1 955 Fetch) ∷ wait true (1 ∷ 2 ∷ []) (2 ∷ []) ∷ CanWrite 2 ∷ Asked 2 text1916 ∷ wait true (1 ∷ 2 ∷ []) [] ∷ CanRead 2 ∷ Got 2 text5 ∷ Noted (Taken 1 955 (Hit 0 0)) ∷ wait true (1 ∷ 2 ∷ []) (1 ∷ []) ∷ CanWrite 1 ∷ Said 1 154 text6 ∷ wait true (1 ∷ 2 ∷ []) [] ∷ CanRead 1 ∷ Heard 1 text1917 ∷ Noted (Taken 1 956 Fetch) ∷ wait true (1 ∷ 2 ∷ []) (2 ∷ []) ∷ CanWrite 2 ∷ Asked 2 text1918 ∷ wait true (1 ∷ 2 ∷ []) [] ∷ CanRead 2 ∷ Got 2 text5 ∷ Noted (Taken 1 956 (Hit 0 0)) ∷ wait true (1 ∷ 2 ∷ []) (1 ∷ []) ∷ CanWrite 1 ∷ Said 1 154 text6 ∷ wait true (1 ∷ 2 ∷ []) [] ∷ CanRead 1 ∷ Heard 1 text1919 ∷ Noted (Taken 1 957 Fetch) ∷ wait true (1 ∷ 2 ∷ []) (2 ∷ []) ∷ CanWrite 2 ∷ Asked 2 text1920 ∷ wait true (1 ∷ 2 ∷ []) [] ∷ CanRead 2 ∷ Got 2 text5 ∷ Noted (Taken 1 957 (Hit 0 0)) ∷ wait true (1 ∷ 2 ∷ []) (1 ∷ []) ∷ CanWrite 1 ∷ Said 1 154 text6 ∷ wait true (1 ∷ 2 ∷ []) [] ∷ CanRead 1 ∷ Heard 1 text1921 ∷ Noted (Taken 1 958 Fetch) ∷ wait true (1 ∷ 2 ∷ []) (2 ∷ []) ∷ CanWrite 2 ∷ Asked 2 text1922 ∷ wait true (1 ∷ 2 ∷ []) [] ∷ CanRead 2 ∷ Got 2 text5 ∷ Noted (Taken 1 958 (Hit 0 0)) ∷ wait true (1 ∷ 2 ∷ []) (1 ∷ []) ∷ CanWrite 1 ∷ Said 1 154 text6 ∷ wait true (1 ∷ 2 ∷ []) [] ∷ CanRead 1 ∷ Heard 1 text1923 ∷ []))
unfolding judging front0x54
front0x55 = (_, refl)

front0x56 : (s : State) × (arrived s ≡ judge 13440 front0x55.0 (Noted (Taken 1 959 Fetch) ∷ wait true (1 ∷ 2 ∷ []) (2 ∷ []) ∷ CanWrite 2 ∷ Asked 2 text1924 ∷ wait true (1 ∷ 2 ∷ []) [] ∷ CanRead 2 ∷ Got 2 text5 ∷ Noted (Taken 1 959 (Hit 0 0)) ∷ wait true (1 ∷ 2 ∷ []) (1 ∷ []) ∷ CanWrite 1 ∷ Said 1 154 text6 ∷ wait true (1 ∷ 2 ∷ []) [] ∷ CanRead 1 ∷ Heard 1 text1925 ∷ Noted (Taken 1 960 Fetch) ∷ wait true (1 ∷ 2 ∷ []) (2 ∷ []) ∷ CanWrite 2 ∷ Asked 2 text1926 ∷ wait true (1 ∷ 2 ∷ []) [] ∷ CanRead 2 ∷ Got 2 text5 ∷ Noted (Taken 1 960 (Hit 0 0)) ∷ wait true (1 ∷ 2 ∷ []) (1 ∷ []) ∷ CanWrite 1 ∷ Said 1 154 text6 ∷ wait true (1 ∷ 2 ∷ []) [] ∷ CanRead 1 ∷ Heard 1 text1927 ∷ Noted (Taken 1 961 Fetch) ∷ wait true (1 ∷ 2 ∷ []) (2 ∷ []) ∷ CanWrite 2 ∷ Asked 2 text1928 ∷ wait true (1 ∷ 2 ∷ []) [] ∷ CanRead 2 ∷ Got 2 text5 ∷ Noted (Taken 1 961 (Hit 0 0)) ∷ wait true (1 ∷ 2 ∷ []) (1 ∷ []) ∷ CanWrite 1 ∷ Said 1 154 text6 ∷ wait true (1 ∷ 2 ∷ []) [] ∷ CanRead 1 ∷ Heard 1 text1929 ∷ Noted (Taken 1 962 Fetch) ∷ wait true (1 ∷ 2 ∷ []) (2 ∷ []) ∷ CanWrite 2 ∷ Asked 2 text1930 ∷ wait true (1 ∷ 2 ∷ []) [] ∷ CanRead 2 ∷ Got 2 text5 ∷ Noted (Taken 1 962 (Hit 0 0)) ∷ wait true (1 ∷ 2 ∷ []) (1 ∷ []) ∷ CanWrite 1 ∷ Said 1 154 text6 ∷ wait true (1 ∷ 2 ∷ []) [] ∷ CanRead 1 ∷ Heard 1 text1931 ∷ Noted (Taken 1 963 Fetch) ∷ wait true (1 ∷ 2 ∷ []) (2 ∷ []) ∷ CanWrite 2 ∷ Asked 2 text1932 ∷ wait true (1 ∷ 2 ∷ []) [] ∷ CanRead 2 ∷ Got 2 text5 ∷ Noted (Taken 1 963 (Hit 0 0)) ∷ wait true (1 ∷ 2 ∷ []) (1 ∷ []) ∷ CanWrite 1 ∷ Said 1 154 text6 ∷ wait true (1 ∷ 2 ∷ []) [] ∷ CanRead 1 ∷ Heard 1 text1933 ∷ Noted (Taken 1 964 Fetch) ∷ wait true (1 ∷ 2 ∷ []) (2 ∷ []) ∷ CanWrite 2 ∷ Asked 2 text1934 ∷ wait true (1 ∷ 2 ∷ []) [] ∷ CanRead 2 ∷ Got 2 text5 ∷ Noted (Taken 1 964 (Hit 0 0)) ∷ wait true (1 ∷ 2 ∷ []) (1 ∷ []) ∷ CanWrite 1 ∷ Said 1 154 text6 ∷ wait true (1 ∷ 2 ∷ []) [] ∷ CanRead 1 ∷ Heard 1 text1935 ∷ Noted (Taken 1 965 Fetch) ∷ wait true (1 ∷ 2 ∷ []) (2 ∷ []) ∷ CanWrite 2 ∷ Asked 2 text1936 ∷ wait true (1 ∷ 2 ∷ []) [] ∷ CanRead 2 ∷ Got 2 text5 ∷ Noted (Taken 1 965 (Hit 0 0)) ∷ wait true (1 ∷ 2 ∷ []) (1 ∷ []) ∷ CanWrite 1 ∷ Said 1 154 text6 ∷ wait true (1 ∷ 2 ∷ []) [] ∷ CanRead 1 ∷ Heard 1 text1937 ∷ Noted (Taken 1 966 Fetch) ∷ wait true (1 ∷ 2 ∷ []) (2 ∷ []) ∷ CanWrite 2 ∷ Asked 2 text1938 ∷ wait true (1 ∷ 2 ∷ []) [] ∷ CanRead 2 ∷ Got 2 text5 ∷ Noted (Taken 1 966 (Hit 0 0)) ∷ wait true (1 ∷ 2 ∷ []) (1 ∷ []) ∷ CanWrite 1 ∷ Said 1 154 text6 ∷ wait true (1 ∷ 2 ∷ []) [] ∷ CanRead 1 ∷ Heard 1 text1939 ∷ Noted (Taken 1 967 Fetch) ∷ wait true (1 ∷ 2 ∷ []) (2 ∷ []) ∷ CanWrite 2 ∷ Asked 2 text1940 ∷ wait true (1 ∷ 2 ∷ []) [] ∷ CanRead 2 ∷ Got 2 text5 ∷ Noted (Taken 1 967 (Hit 0 0)) ∷ wait true (1 ∷ 2 ∷ []) (1 ∷ []) ∷ CanWrite 1 ∷ Said 1 154 text6 ∷ wait true (1 ∷ 2 ∷ []) [] ∷ CanRead 1 ∷ Heard 1 text1941 ∷ Noted (Taken 1 968 Fetch) ∷ wait true (1 ∷ 2 ∷ []) (2 ∷ []) ∷ CanWrite 2 ∷ Asked 2 text1942 ∷ wait true (1 ∷ 2 ∷ []) [] ∷ CanRead 2 ∷ Got 2 text5 ∷ Noted (Taken 1 968 (Hit 0 0)) ∷ wait true (1 ∷ 2 ∷ []) (1 ∷ []) ∷ CanWrite 1 ∷ Said 1 154 text6 ∷ wait true (1 ∷ 2 ∷ []) [] ∷ CanRead 1 ∷ Heard 1 text1943 ∷ Noted (Taken 1 969 Fetch) ∷ wait true (1 ∷ 2 ∷ []) (2 ∷ []) ∷ CanWrite 2 ∷ Asked 2 text1944 ∷ wait true (1 ∷ 2 ∷ []) [] ∷ CanRead 2 ∷ Got 2 text5 ∷ Noted (Taken 1 969 (Hit 0 0)) ∷ wait true (1 ∷ 2 ∷ []) (1 ∷ []) ∷ CanWrite 1 ∷ Said 1 154 text6 ∷ wait true (1 ∷ 2 ∷ []) [] ∷ CanRead 1 ∷ Heard 1 text1945 ∷ Noted (Taken 1 970 Fetch) ∷ wait true (1 ∷ 2 ∷ []) (2 ∷ []) ∷ CanWrite 2 ∷ Asked 2 text1946 ∷ wait true (1 ∷ 2 ∷ []) [] ∷ CanRead 2 ∷ Got 2 text5 ∷ Noted (Taken 1 970 (Hit 0 0)) ∷ wait true (1 ∷ 2 ∷ []) (1 ∷ []) ∷ CanWrite 1 ∷ Said 1 154 text6 ∷ wait true (1 ∷ 2 ∷ []) [] ∷ CanRead 1 ∷ Heard 1 text1947 ∷ Noted (Taken 1 971 Fetch) ∷ wait true (1 ∷ 2 ∷ []) (2 ∷ []) ∷ CanWrite 2 ∷ Asked 2 text1948 ∷ wait true (1 ∷ 2 ∷ []) [] ∷ CanRead 2 ∷ Got 2 text5 ∷ Noted (Taken 1 971 (Hit 0 0)) ∷ wait true (1 ∷ 2 ∷ []) (1 ∷ []) ∷ CanWrite 1 ∷ Said 1 154 text6 ∷ wait true (1 ∷ 2 ∷ []) [] ∷ CanRead 1 ∷ Heard 1 text1949 ∷ Noted (Taken 1 972 Fetch) ∷ wait true (1 ∷ 2 ∷ []) (2 ∷ []) ∷ CanWrite 2 ∷ Asked 2 text1950 ∷ wait true (1 ∷ 2 ∷ []) [] ∷ CanRead 2 ∷ Got 2 text5 ∷ Noted (Taken 1 972 (Hit 0 0)) ∷ wait true (1 ∷ 2 ∷ []) (1 ∷ []) ∷ CanWrite 1 ∷ Said 1 154 text6 ∷ wait true (1 ∷ 2 ∷ []) [] ∷ CanRead 1 ∷ Heard 1 text1951 ∷ Noted (Taken 1 973 Fetch) ∷ wait true (1 ∷ 2 ∷ []) (2 ∷ []) ∷ CanWrite 2 ∷ Asked 2 text1952 ∷ wait true (1 ∷ 2 ∷ []) [] ∷ CanRead 2 ∷ Got 2 text5 ∷ Noted (Taken 1 973 (Hit 0 0)) ∷ wait true (1 ∷ 2 ∷ []) (1 ∷ []) ∷ CanWrite 1 ∷ Said 1 154 text6 ∷ wait true (1 ∷ 2 ∷ []) [] ∷ CanRead 1 ∷ Heard 1 text1953 ∷ Noted (Taken 1 974 Fetch) ∷ wait true (1 ∷ 2 ∷ []) (2 ∷ []) ∷ CanWrite 2 ∷ Asked 2 text1954 ∷ wait true (1 ∷ 2 ∷ []) [] ∷ CanRead 2 ∷ Got 2 text5 ∷ Noted (Taken 1 974 (Hit 0 0)) ∷ wait true (1 ∷ 2 ∷ []) (1 ∷ []) ∷ CanWrite 1 ∷ Said 1 154 text6 ∷ wait true (1 ∷ 2 ∷ []) [] ∷ CanRead 1 ∷ Heard 1 text1955 ∷ Noted (Taken 1 975 Fetch) ∷ wait true (1 ∷ 2 ∷ []) (2 ∷ []) ∷ CanWrite 2 ∷ Asked 2 text1956 ∷ wait true (1 ∷ 2 ∷ []) [] ∷ CanRead 2 ∷ Got 2 text5 ∷ Noted (Taken 1 975 (Hit 0 0)) ∷ wait true (1 ∷ 2 ∷ []) (1 ∷ []) ∷ CanWrite 1 ∷ Said 1 154 text6 ∷ wait true (1 ∷ 2 ∷ []) [] ∷ CanRead 1 ∷ Heard 1 text1957 ∷ Noted (Taken 1 976 Fetch) ∷ wait true (1 ∷ 2 ∷ []) (2 ∷ []) ∷ []))
unfolding judging front0x55
front0x56 = (_, refl)

front0x57 : (s : State) × (arrived s ≡ judge 13680 front0x56.0 (CanWrite 2 ∷ Asked 2 text1958 ∷ wait true (1 ∷ 2 ∷ []) [] ∷ CanRead 2 ∷ Got 2 text5 ∷ Noted (Taken 1 976 (Hit 0 0)) ∷ wait true (1 ∷ 2 ∷ []) (1 ∷ []) ∷ CanWrite 1 ∷ Said 1 154 text6 ∷ wait true (1 ∷ 2 ∷ []) [] ∷ CanRead 1 ∷ Heard 1 text1959 ∷ Noted (Taken 1 977 Fetch) ∷ wait true (1 ∷ 2 ∷ []) (2 ∷ []) ∷ CanWrite 2 ∷ Asked 2 text1960 ∷ wait true (1 ∷ 2 ∷ []) [] ∷ CanRead 2 ∷ Got 2 text5 ∷ Noted (Taken 1 977 (Hit 0 0)) ∷ wait true (1 ∷ 2 ∷ []) (1 ∷ []) ∷ CanWrite 1 ∷ Said 1 154 text6 ∷ wait true (1 ∷ 2 ∷ []) [] ∷ CanRead 1 ∷ Heard 1 text1961 ∷ Noted (Taken 1 978 Fetch) ∷ wait true (1 ∷ 2 ∷ []) (2 ∷ []) ∷ CanWrite 2 ∷ Asked 2 text1962 ∷ wait true (1 ∷ 2 ∷ []) [] ∷ CanRead 2 ∷ Got 2 text5 ∷ Noted (Taken 1 978 (Hit 0 0)) ∷ wait true (1 ∷ 2 ∷ []) (1 ∷ []) ∷ CanWrite 1 ∷ Said 1 154 text6 ∷ wait true (1 ∷ 2 ∷ []) [] ∷ CanRead 1 ∷ Heard 1 text1963 ∷ Noted (Taken 1 979 Fetch) ∷ wait true (1 ∷ 2 ∷ []) (2 ∷ []) ∷ CanWrite 2 ∷ Asked 2 text1964 ∷ wait true (1 ∷ 2 ∷ []) [] ∷ CanRead 2 ∷ Got 2 text5 ∷ Noted (Taken 1 979 (Hit 0 0)) ∷ wait true (1 ∷ 2 ∷ []) (1 ∷ []) ∷ CanWrite 1 ∷ Said 1 154 text6 ∷ wait true (1 ∷ 2 ∷ []) [] ∷ CanRead 1 ∷ Heard 1 text1965 ∷ Noted (Taken 1 980 Fetch) ∷ wait true (1 ∷ 2 ∷ []) (2 ∷ []) ∷ CanWrite 2 ∷ Asked 2 text1966 ∷ wait true (1 ∷ 2 ∷ []) [] ∷ CanRead 2 ∷ Got 2 text5 ∷ Noted (Taken 1 980 (Hit 0 0)) ∷ wait true (1 ∷ 2 ∷ []) (1 ∷ []) ∷ CanWrite 1 ∷ Said 1 154 text6 ∷ wait true (1 ∷ 2 ∷ []) [] ∷ CanRead 1 ∷ Heard 1 text1967 ∷ Noted (Taken 1 981 Fetch) ∷ wait true (1 ∷ 2 ∷ []) (2 ∷ []) ∷ CanWrite 2 ∷ Asked 2 text1968 ∷ wait true (1 ∷ 2 ∷ []) [] ∷ CanRead 2 ∷ Got 2 text5 ∷ Noted (Taken 1 981 (Hit 0 0)) ∷ wait true (1 ∷ 2 ∷ []) (1 ∷ []) ∷ CanWrite 1 ∷ Said 1 154 text6 ∷ wait true (1 ∷ 2 ∷ []) [] ∷ CanRead 1 ∷ Heard 1 text1969 ∷ Noted (Taken 1 982 Fetch) ∷ wait true (1 ∷ 2 ∷ []) (2 ∷ []) ∷ CanWrite 2 ∷ Asked 2 text1970 ∷ wait true (1 ∷ 2 ∷ []) [] ∷ CanRead 2 ∷ Got 2 text5 ∷ Noted (Taken 1 982 (Hit 0 0)) ∷ wait true (1 ∷ 2 ∷ []) (1 ∷ []) ∷ CanWrite 1 ∷ Said 1 154 text6 ∷ wait true (1 ∷ 2 ∷ []) [] ∷ CanRead 1 ∷ Heard 1 text1971 ∷ Noted (Taken 1 983 Fetch) ∷ wait true (1 ∷ 2 ∷ []) (2 ∷ []) ∷ CanWrite 2 ∷ Asked 2 text1972 ∷ wait true (1 ∷ 2 ∷ []) [] ∷ CanRead 2 ∷ Got 2 text5 ∷ Noted (Taken 1 983 (Hit 0 0)) ∷ wait true (1 ∷ 2 ∷ []) (1 ∷ []) ∷ CanWrite 1 ∷ Said 1 154 text6 ∷ wait true (1 ∷ 2 ∷ []) [] ∷ CanRead 1 ∷ Heard 1 text1973 ∷ Noted (Taken 1 984 Fetch) ∷ wait true (1 ∷ 2 ∷ []) (2 ∷ []) ∷ CanWrite 2 ∷ Asked 2 text1974 ∷ wait true (1 ∷ 2 ∷ []) [] ∷ CanRead 2 ∷ Got 2 text5 ∷ Noted (Taken 1 984 (Hit 0 0)) ∷ wait true (1 ∷ 2 ∷ []) (1 ∷ []) ∷ CanWrite 1 ∷ Said 1 154 text6 ∷ wait true (1 ∷ 2 ∷ []) [] ∷ CanRead 1 ∷ Heard 1 text1975 ∷ Noted (Taken 1 985 Fetch) ∷ wait true (1 ∷ 2 ∷ []) (2 ∷ []) ∷ CanWrite 2 ∷ Asked 2 text1976 ∷ wait true (1 ∷ 2 ∷ []) [] ∷ CanRead 2 ∷ Got 2 text5 ∷ Noted (Taken 1 985 (Hit 0 0)) ∷ wait true (1 ∷ 2 ∷ []) (1 ∷ []) ∷ CanWrite 1 ∷ Said 1 154 text6 ∷ wait true (1 ∷ 2 ∷ []) [] ∷ CanRead 1 ∷ Heard 1 text1977 ∷ Noted (Taken 1 986 Fetch) ∷ wait true (1 ∷ 2 ∷ []) (2 ∷ []) ∷ CanWrite 2 ∷ Asked 2 text1978 ∷ wait true (1 ∷ 2 ∷ []) [] ∷ CanRead 2 ∷ Got 2 text5 ∷ Noted (Taken 1 986 (Hit 0 0)) ∷ wait true (1 ∷ 2 ∷ []) (1 ∷ []) ∷ CanWrite 1 ∷ Said 1 154 text6 ∷ wait true (1 ∷ 2 ∷ []) [] ∷ CanRead 1 ∷ Heard 1 text1979 ∷ Noted (Taken 1 987 Fetch) ∷ wait true (1 ∷ 2 ∷ []) (2 ∷ []) ∷ CanWrite 2 ∷ Asked 2 text1980 ∷ wait true (1 ∷ 2 ∷ []) [] ∷ CanRead 2 ∷ Got 2 text5 ∷ Noted (Taken 1 987 (Hit 0 0)) ∷ wait true (1 ∷ 2 ∷ []) (1 ∷ []) ∷ CanWrite 1 ∷ Said 1 154 text6 ∷ wait true (1 ∷ 2 ∷ []) [] ∷ CanRead 1 ∷ Heard 1 text1981 ∷ Noted (Taken 1 988 Fetch) ∷ wait true (1 ∷ 2 ∷ []) (2 ∷ []) ∷ CanWrite 2 ∷ Asked 2 text1982 ∷ wait true (1 ∷ 2 ∷ []) [] ∷ CanRead 2 ∷ Got 2 text5 ∷ Noted (Taken 1 988 (Hit 0 0)) ∷ wait true (1 ∷ 2 ∷ []) (1 ∷ []) ∷ CanWrite 1 ∷ Said 1 154 text6 ∷ wait true (1 ∷ 2 ∷ []) [] ∷ CanRead 1 ∷ Heard 1 text1983 ∷ Noted (Taken 1 989 Fetch) ∷ wait true (1 ∷ 2 ∷ []) (2 ∷ []) ∷ CanWrite 2 ∷ Asked 2 text1984 ∷ wait true (1 ∷ 2 ∷ []) [] ∷ CanRead 2 ∷ Got 2 text5 ∷ Noted (Taken 1 989 (Hit 0 0)) ∷ wait true (1 ∷ 2 ∷ []) (1 ∷ []) ∷ CanWrite 1 ∷ Said 1 154 text6 ∷ wait true (1 ∷ 2 ∷ []) [] ∷ CanRead 1 ∷ Heard 1 text1985 ∷ Noted (Taken 1 990 Fetch) ∷ wait true (1 ∷ 2 ∷ []) (2 ∷ []) ∷ CanWrite 2 ∷ Asked 2 text1986 ∷ wait true (1 ∷ 2 ∷ []) [] ∷ CanRead 2 ∷ Got 2 text5 ∷ Noted (Taken 1 990 (Hit 0 0)) ∷ wait true (1 ∷ 2 ∷ []) (1 ∷ []) ∷ CanWrite 1 ∷ Said 1 154 text6 ∷ wait true (1 ∷ 2 ∷ []) [] ∷ CanRead 1 ∷ Heard 1 text1987 ∷ Noted (Taken 1 991 Fetch) ∷ wait true (1 ∷ 2 ∷ []) (2 ∷ []) ∷ CanWrite 2 ∷ Asked 2 text1988 ∷ wait true (1 ∷ 2 ∷ []) [] ∷ CanRead 2 ∷ Got 2 text5 ∷ Noted (Taken 1 991 (Hit 0 0)) ∷ wait true (1 ∷ 2 ∷ []) (1 ∷ []) ∷ CanWrite 1 ∷ Said 1 154 text6 ∷ wait true (1 ∷ 2 ∷ []) [] ∷ CanRead 1 ∷ Heard 1 text1989 ∷ Noted (Taken 1 992 Fetch) ∷ wait true (1 ∷ 2 ∷ []) (2 ∷ []) ∷ CanWrite 2 ∷ Asked 2 text1990 ∷ wait true (1 ∷ 2 ∷ []) [] ∷ CanRead 2 ∷ Got 2 text5 ∷ Noted (Taken 1 992 (Hit 0 0)) ∷ wait true (1 ∷ 2 ∷ []) (1 ∷ []) ∷ CanWrite 1 ∷ Said 1 154 text6 ∷ wait true (1 ∷ 2 ∷ []) [] ∷ CanRead 1 ∷ Heard 1 text1991 ∷ Noted (Taken 1 993 Fetch) ∷ wait true (1 ∷ 2 ∷ []) (2 ∷ []) ∷ CanWrite 2 ∷ Asked 2 text1992 ∷ []))
unfolding judging front0x56
front0x57 = (_, refl)

front0x58 : (s : State) × (arrived s ≡ judge 13920 front0x57.0 (wait true (1 ∷ 2 ∷ []) [] ∷ CanRead 2 ∷ Got 2 text5 ∷ Noted (Taken 1 993 (Hit 0 0)) ∷ wait true (1 ∷ 2 ∷ []) (1 ∷ []) ∷ CanWrite 1 ∷ Said 1 154 text6 ∷ wait true (1 ∷ 2 ∷ []) [] ∷ CanRead 1 ∷ Heard 1 text1993 ∷ Noted (Taken 1 994 Fetch) ∷ wait true (1 ∷ 2 ∷ []) (2 ∷ []) ∷ CanWrite 2 ∷ Asked 2 text1994 ∷ wait true (1 ∷ 2 ∷ []) [] ∷ CanRead 2 ∷ Got 2 text5 ∷ Noted (Taken 1 994 (Hit 0 0)) ∷ wait true (1 ∷ 2 ∷ []) (1 ∷ []) ∷ CanWrite 1 ∷ Said 1 154 text6 ∷ wait true (1 ∷ 2 ∷ []) [] ∷ CanRead 1 ∷ Heard 1 text1995 ∷ Noted (Taken 1 995 Fetch) ∷ wait true (1 ∷ 2 ∷ []) (2 ∷ []) ∷ CanWrite 2 ∷ Asked 2 text1996 ∷ wait true (1 ∷ 2 ∷ []) [] ∷ CanRead 2 ∷ Got 2 text5 ∷ Noted (Taken 1 995 (Hit 0 0)) ∷ wait true (1 ∷ 2 ∷ []) (1 ∷ []) ∷ CanWrite 1 ∷ Said 1 154 text6 ∷ wait true (1 ∷ 2 ∷ []) [] ∷ CanRead 1 ∷ Heard 1 text1997 ∷ Noted (Taken 1 996 Fetch) ∷ wait true (1 ∷ 2 ∷ []) (2 ∷ []) ∷ CanWrite 2 ∷ Asked 2 text1998 ∷ wait true (1 ∷ 2 ∷ []) [] ∷ CanRead 2 ∷ Got 2 text5 ∷ Noted (Taken 1 996 (Hit 0 0)) ∷ wait true (1 ∷ 2 ∷ []) (1 ∷ []) ∷ CanWrite 1 ∷ Said 1 154 text6 ∷ wait true (1 ∷ 2 ∷ []) [] ∷ CanRead 1 ∷ Heard 1 text1999 ∷ Noted (Taken 1 997 Fetch) ∷ wait true (1 ∷ 2 ∷ []) (2 ∷ []) ∷ CanWrite 2 ∷ Asked 2 text2000 ∷ wait true (1 ∷ 2 ∷ []) [] ∷ CanRead 2 ∷ Got 2 text5 ∷ Noted (Taken 1 997 (Hit 0 0)) ∷ wait true (1 ∷ 2 ∷ []) (1 ∷ []) ∷ CanWrite 1 ∷ Said 1 154 text6 ∷ wait true (1 ∷ 2 ∷ []) [] ∷ CanRead 1 ∷ Heard 1 text2001 ∷ Noted (Taken 1 998 Fetch) ∷ wait true (1 ∷ 2 ∷ []) (2 ∷ []) ∷ CanWrite 2 ∷ Asked 2 text2002 ∷ wait true (1 ∷ 2 ∷ []) [] ∷ CanRead 2 ∷ Got 2 text5 ∷ Noted (Taken 1 998 (Hit 0 0)) ∷ wait true (1 ∷ 2 ∷ []) (1 ∷ []) ∷ CanWrite 1 ∷ Said 1 154 text6 ∷ wait true (1 ∷ 2 ∷ []) [] ∷ CanRead 1 ∷ Heard 1 text2003 ∷ Noted (Taken 1 999 Fetch) ∷ wait true (1 ∷ 2 ∷ []) (2 ∷ []) ∷ CanWrite 2 ∷ Asked 2 text2004 ∷ wait true (1 ∷ 2 ∷ []) [] ∷ CanRead 2 ∷ Got 2 text5 ∷ Noted (Taken 1 999 (Hit 0 0)) ∷ wait true (1 ∷ 2 ∷ []) (1 ∷ []) ∷ CanWrite 1 ∷ Said 1 154 text6 ∷ wait true (1 ∷ 2 ∷ []) [] ∷ CanRead 1 ∷ Heard 1 text2005 ∷ Noted (Taken 1 1000 Fetch) ∷ wait true (1 ∷ 2 ∷ []) (2 ∷ []) ∷ CanWrite 2 ∷ Asked 2 text2006 ∷ wait true (1 ∷ 2 ∷ []) [] ∷ CanRead 2 ∷ Got 2 text5 ∷ Noted (Taken 1 1000 (Hit 0 0)) ∷ wait true (1 ∷ 2 ∷ []) (1 ∷ []) ∷ CanWrite 1 ∷ Said 1 154 text6 ∷ wait true (1 ∷ 2 ∷ []) [] ∷ CanRead 1 ∷ Heard 1 text2007 ∷ Noted (Taken 1 1001 Fetch) ∷ wait true (1 ∷ 2 ∷ []) (2 ∷ []) ∷ CanWrite 2 ∷ Asked 2 text2008 ∷ wait true (1 ∷ 2 ∷ []) [] ∷ CanRead 2 ∷ Got 2 text5 ∷ Noted (Taken 1 1001 (Hit 0 0)) ∷ wait true (1 ∷ 2 ∷ []) (1 ∷ []) ∷ CanWrite 1 ∷ Said 1 154 text6 ∷ wait true (1 ∷ 2 ∷ []) [] ∷ CanRead 1 ∷ Heard 1 text2009 ∷ Noted (Taken 1 1002 Fetch) ∷ wait true (1 ∷ 2 ∷ []) (2 ∷ []) ∷ CanWrite 2 ∷ Asked 2 text2010 ∷ wait true (1 ∷ 2 ∷ []) [] ∷ CanRead 2 ∷ Got 2 text5 ∷ Noted (Taken 1 1002 (Hit 0 0)) ∷ wait true (1 ∷ 2 ∷ []) (1 ∷ []) ∷ CanWrite 1 ∷ Said 1 154 text6 ∷ wait true (1 ∷ 2 ∷ []) [] ∷ CanRead 1 ∷ Heard 1 text2011 ∷ Noted (Taken 1 1003 Fetch) ∷ wait true (1 ∷ 2 ∷ []) (2 ∷ []) ∷ CanWrite 2 ∷ Asked 2 text2012 ∷ wait true (1 ∷ 2 ∷ []) [] ∷ CanRead 2 ∷ Got 2 text5 ∷ Noted (Taken 1 1003 (Hit 0 0)) ∷ wait true (1 ∷ 2 ∷ []) (1 ∷ []) ∷ CanWrite 1 ∷ Said 1 154 text6 ∷ wait true (1 ∷ 2 ∷ []) [] ∷ CanRead 1 ∷ Heard 1 text2013 ∷ Noted (Taken 1 1004 Fetch) ∷ wait true (1 ∷ 2 ∷ []) (2 ∷ []) ∷ CanWrite 2 ∷ Asked 2 text2014 ∷ wait true (1 ∷ 2 ∷ []) [] ∷ CanRead 2 ∷ Got 2 text5 ∷ Noted (Taken 1 1004 (Hit 0 0)) ∷ wait true (1 ∷ 2 ∷ []) (1 ∷ []) ∷ CanWrite 1 ∷ Said 1 154 text6 ∷ wait true (1 ∷ 2 ∷ []) [] ∷ CanRead 1 ∷ Heard 1 text2015 ∷ Noted (Taken 1 1005 Fetch) ∷ wait true (1 ∷ 2 ∷ []) (2 ∷ []) ∷ CanWrite 2 ∷ Asked 2 text2016 ∷ wait true (1 ∷ 2 ∷ []) [] ∷ CanRead 2 ∷ Got 2 text5 ∷ Noted (Taken 1 1005 (Hit 0 0)) ∷ wait true (1 ∷ 2 ∷ []) (1 ∷ []) ∷ CanWrite 1 ∷ Said 1 154 text6 ∷ wait true (1 ∷ 2 ∷ []) [] ∷ CanRead 1 ∷ Heard 1 text2017 ∷ Noted (Taken 1 1006 Fetch) ∷ wait true (1 ∷ 2 ∷ []) (2 ∷ []) ∷ CanWrite 2 ∷ Asked 2 text2018 ∷ wait true (1 ∷ 2 ∷ []) [] ∷ CanRead 2 ∷ Got 2 text5 ∷ Noted (Taken 1 1006 (Hit 0 0)) ∷ wait true (1 ∷ 2 ∷ []) (1 ∷ []) ∷ CanWrite 1 ∷ Said 1 154 text6 ∷ wait true (1 ∷ 2 ∷ []) [] ∷ CanRead 1 ∷ Heard 1 text2019 ∷ Noted (Taken 1 1007 Fetch) ∷ wait true (1 ∷ 2 ∷ []) (2 ∷ []) ∷ CanWrite 2 ∷ Asked 2 text2020 ∷ wait true (1 ∷ 2 ∷ []) [] ∷ CanRead 2 ∷ Got 2 text5 ∷ Noted (Taken 1 1007 (Hit 0 0)) ∷ wait true (1 ∷ 2 ∷ []) (1 ∷ []) ∷ CanWrite 1 ∷ Said 1 154 text6 ∷ wait true (1 ∷ 2 ∷ []) [] ∷ CanRead 1 ∷ Heard 1 text2021 ∷ Noted (Taken 1 1008 Fetch) ∷ wait true (1 ∷ 2 ∷ []) (2 ∷ []) ∷ CanWrite 2 ∷ Asked 2 text2022 ∷ wait true (1 ∷ 2 ∷ []) [] ∷ CanRead 2 ∷ Got 2 text5 ∷ Noted (Taken 1 1008 (Hit 0 0)) ∷ wait true (1 ∷ 2 ∷ []) (1 ∷ []) ∷ CanWrite 1 ∷ Said 1 154 text6 ∷ wait true (1 ∷ 2 ∷ []) [] ∷ CanRead 1 ∷ Heard 1 text2023 ∷ Noted (Taken 1 1009 Fetch) ∷ wait true (1 ∷ 2 ∷ []) (2 ∷ []) ∷ CanWrite 2 ∷ Asked 2 text2024 ∷ wait true (1 ∷ 2 ∷ []) [] ∷ CanRead 2 ∷ Got 2 text5 ∷ Noted (Taken 1 1009 (Hit 0 0)) ∷ wait true (1 ∷ 2 ∷ []) (1 ∷ []) ∷ CanWrite 1 ∷ Said 1 154 text6 ∷ wait true (1 ∷ 2 ∷ []) [] ∷ CanRead 1 ∷ Heard 1 text2025 ∷ Noted (Taken 1 1010 Fetch) ∷ wait true (1 ∷ 2 ∷ []) (2 ∷ []) ∷ CanWrite 2 ∷ Asked 2 text2026 ∷ wait true (1 ∷ 2 ∷ []) [] ∷ CanRead 2 ∷ []))
unfolding judging front0x57
front0x58 = (_, refl)

front0x59 : (s : State) × (arrived s ≡ judge 14160 front0x58.0 (Got 2 text5 ∷ Noted (Taken 1 1010 (Hit 0 0)) ∷ wait true (1 ∷ 2 ∷ []) (1 ∷ []) ∷ CanWrite 1 ∷ Said 1 154 text6 ∷ wait true (1 ∷ 2 ∷ []) [] ∷ CanRead 1 ∷ Heard 1 text2027 ∷ Noted (Taken 1 1011 Fetch) ∷ wait true (1 ∷ 2 ∷ []) (2 ∷ []) ∷ CanWrite 2 ∷ Asked 2 text2028 ∷ wait true (1 ∷ 2 ∷ []) [] ∷ CanRead 2 ∷ Got 2 text5 ∷ Noted (Taken 1 1011 (Hit 0 0)) ∷ wait true (1 ∷ 2 ∷ []) (1 ∷ []) ∷ CanWrite 1 ∷ Said 1 154 text6 ∷ wait true (1 ∷ 2 ∷ []) [] ∷ CanRead 1 ∷ Heard 1 text2029 ∷ Noted (Taken 1 1012 Fetch) ∷ wait true (1 ∷ 2 ∷ []) (2 ∷ []) ∷ CanWrite 2 ∷ Asked 2 text2030 ∷ wait true (1 ∷ 2 ∷ []) [] ∷ CanRead 2 ∷ Got 2 text5 ∷ Noted (Taken 1 1012 (Hit 0 0)) ∷ wait true (1 ∷ 2 ∷ []) (1 ∷ []) ∷ CanWrite 1 ∷ Said 1 154 text6 ∷ wait true (1 ∷ 2 ∷ []) [] ∷ CanRead 1 ∷ Heard 1 text2031 ∷ Noted (Taken 1 1013 Fetch) ∷ wait true (1 ∷ 2 ∷ []) (2 ∷ []) ∷ CanWrite 2 ∷ Asked 2 text2032 ∷ wait true (1 ∷ 2 ∷ []) [] ∷ CanRead 2 ∷ Got 2 text5 ∷ Noted (Taken 1 1013 (Hit 0 0)) ∷ wait true (1 ∷ 2 ∷ []) (1 ∷ []) ∷ CanWrite 1 ∷ Said 1 154 text6 ∷ wait true (1 ∷ 2 ∷ []) [] ∷ CanRead 1 ∷ Heard 1 text2033 ∷ Noted (Taken 1 1014 Fetch) ∷ wait true (1 ∷ 2 ∷ []) (2 ∷ []) ∷ CanWrite 2 ∷ Asked 2 text2034 ∷ wait true (1 ∷ 2 ∷ []) [] ∷ CanRead 2 ∷ Got 2 text5 ∷ Noted (Taken 1 1014 (Hit 0 0)) ∷ wait true (1 ∷ 2 ∷ []) (1 ∷ []) ∷ CanWrite 1 ∷ Said 1 154 text6 ∷ wait true (1 ∷ 2 ∷ []) [] ∷ CanRead 1 ∷ Heard 1 text2035 ∷ Noted (Taken 1 1015 Fetch) ∷ wait true (1 ∷ 2 ∷ []) (2 ∷ []) ∷ CanWrite 2 ∷ Asked 2 text2036 ∷ wait true (1 ∷ 2 ∷ []) [] ∷ CanRead 2 ∷ Got 2 text5 ∷ Noted (Taken 1 1015 (Hit 0 0)) ∷ wait true (1 ∷ 2 ∷ []) (1 ∷ []) ∷ CanWrite 1 ∷ Said 1 154 text6 ∷ wait true (1 ∷ 2 ∷ []) [] ∷ CanRead 1 ∷ Heard 1 text2037 ∷ Noted (Taken 1 1016 Fetch) ∷ wait true (1 ∷ 2 ∷ []) (2 ∷ []) ∷ CanWrite 2 ∷ Asked 2 text2038 ∷ wait true (1 ∷ 2 ∷ []) [] ∷ CanRead 2 ∷ Got 2 text5 ∷ Noted (Taken 1 1016 (Hit 0 0)) ∷ wait true (1 ∷ 2 ∷ []) (1 ∷ []) ∷ CanWrite 1 ∷ Said 1 154 text6 ∷ wait true (1 ∷ 2 ∷ []) [] ∷ CanRead 1 ∷ Heard 1 text2039 ∷ Noted (Taken 1 1017 Fetch) ∷ wait true (1 ∷ 2 ∷ []) (2 ∷ []) ∷ CanWrite 2 ∷ Asked 2 text2040 ∷ wait true (1 ∷ 2 ∷ []) [] ∷ CanRead 2 ∷ Got 2 text5 ∷ Noted (Taken 1 1017 (Hit 0 0)) ∷ wait true (1 ∷ 2 ∷ []) (1 ∷ []) ∷ CanWrite 1 ∷ Said 1 154 text6 ∷ wait true (1 ∷ 2 ∷ []) [] ∷ CanRead 1 ∷ Heard 1 text2041 ∷ Noted (Taken 1 1018 Fetch) ∷ wait true (1 ∷ 2 ∷ []) (2 ∷ []) ∷ CanWrite 2 ∷ Asked 2 text2042 ∷ wait true (1 ∷ 2 ∷ []) [] ∷ CanRead 2 ∷ Got 2 text5 ∷ Noted (Taken 1 1018 (Hit 0 0)) ∷ wait true (1 ∷ 2 ∷ []) (1 ∷ []) ∷ CanWrite 1 ∷ Said 1 154 text6 ∷ wait true (1 ∷ 2 ∷ []) [] ∷ CanRead 1 ∷ Heard 1 text2043 ∷ Noted (Taken 1 1019 Fetch) ∷ wait true (1 ∷ 2 ∷ []) (2 ∷ []) ∷ CanWrite 2 ∷ Asked 2 text2044 ∷ wait true (1 ∷ 2 ∷ []) [] ∷ CanRead 2 ∷ Got 2 text5 ∷ Noted (Taken 1 1019 (Hit 0 0)) ∷ wait true (1 ∷ 2 ∷ []) (1 ∷ []) ∷ CanWrite 1 ∷ Said 1 154 text6 ∷ wait true (1 ∷ 2 ∷ []) [] ∷ CanRead 1 ∷ Heard 1 text2045 ∷ Noted (Taken 1 1020 Fetch) ∷ wait true (1 ∷ 2 ∷ []) (2 ∷ []) ∷ CanWrite 2 ∷ Asked 2 text2046 ∷ wait true (1 ∷ 2 ∷ []) [] ∷ CanRead 2 ∷ Got 2 text5 ∷ Noted (Taken 1 1020 (Hit 0 0)) ∷ wait true (1 ∷ 2 ∷ []) (1 ∷ []) ∷ CanWrite 1 ∷ Said 1 154 text6 ∷ wait true (1 ∷ 2 ∷ []) [] ∷ CanRead 1 ∷ Heard 1 text2047 ∷ Noted (Taken 1 1021 Fetch) ∷ wait true (1 ∷ 2 ∷ []) (2 ∷ []) ∷ CanWrite 2 ∷ Asked 2 text2048 ∷ wait true (1 ∷ 2 ∷ []) [] ∷ CanRead 2 ∷ Got 2 text5 ∷ Noted (Taken 1 1021 (Hit 0 0)) ∷ wait true (1 ∷ 2 ∷ []) (1 ∷ []) ∷ CanWrite 1 ∷ Said 1 154 text6 ∷ wait true (1 ∷ 2 ∷ []) [] ∷ CanRead 1 ∷ Heard 1 text2049 ∷ Noted (Taken 1 1022 Fetch) ∷ wait true (1 ∷ 2 ∷ []) (2 ∷ []) ∷ CanWrite 2 ∷ Asked 2 text2050 ∷ wait true (1 ∷ 2 ∷ []) [] ∷ CanRead 2 ∷ Got 2 text5 ∷ Noted (Taken 1 1022 (Hit 0 0)) ∷ wait true (1 ∷ 2 ∷ []) (1 ∷ []) ∷ CanWrite 1 ∷ Said 1 154 text6 ∷ wait true (1 ∷ 2 ∷ []) [] ∷ []))
unfolding judging front0x58
front0x59 = (_, refl)

row82 : fault_from 14334 front0x59.0 (CanRead 1 ∷ Heard 1 text2051 ∷ Noted (Taken 1 1023 Fetch) ∷ wait true (1 ∷ 2 ∷ []) (2 ∷ []) ∷ CanWrite 2 ∷ Asked 2 text2052 ∷ wait true (1 ∷ 2 ∷ []) [] ∷ CanRead 2 ∷ Got 2 text5 ∷ Noted (Taken 1 1023 (Hit 0 0)) ∷ wait true (1 ∷ 2 ∷ []) (1 ∷ []) ∷ CanWrite 1 ∷ Said 1 154 text6 ∷ wait true (1 ∷ 2 ∷ []) [] ∷ []) ≡ None
unfolding judging front0x59
row82 = refl

row85 : fault_from 14334 front0x59.0 (CanRead 1 ∷ Heard 1 text2051 ∷ Noted (Taken 1 1023 Fetch) ∷ wait true (1 ∷ 2 ∷ []) (2 ∷ []) ∷ CanWrite 2 ∷ Asked 2 text2052 ∷ wait true (1 ∷ 2 ∷ []) [] ∷ CanRead 2 ∷ Got 2 text5 ∷ Noted (Forgotten (codes "http://h/0")) ∷ []) ≡ Some (record { at = 14343; rule = NotToBeForgotten })
unfolding judging front0x59
row85 = refl

row90 : fault_from 14334 front0x59.0 (CanRead 1 ∷ Heard 1 text2051 ∷ Noted (Taken 1 1023 Fetch) ∷ wait true (1 ∷ 2 ∷ []) (2 ∷ []) ∷ CanWrite 2 ∷ Asked 2 text2052 ∷ wait true (1 ∷ 2 ∷ []) [] ∷ CanRead 2 ∷ Got 2 text5 ∷ Noted (Taken 1 1023 (Hit 0 0)) ∷ wait true (1 ∷ 2 ∷ []) (1 ∷ []) ∷ CanWrite 1 ∷ Said 1 154 text6 ∷ wait true (1 ∷ 2 ∷ []) [] ∷ CanRead 1 ∷ Heard 1 text2053 ∷ Noted (Taken 1 1024 Fetch) ∷ wait true (1 ∷ 2 ∷ []) (2 ∷ []) ∷ CanWrite 2 ∷ Asked 2 text2054 ∷ wait true (1 ∷ 2 ∷ []) [] ∷ CanRead 2 ∷ Got 2 text5 ∷ Noted (Forgotten (codes "http://h/0")) ∷ Noted (Taken 1 1024 (Hit 0 0)) ∷ wait true (1 ∷ 2 ∷ []) (1 ∷ []) ∷ []) ≡ None
unfolding judging front0x59
row90 = refl

row96 : fault_from 14334 front0x59.0 (CanRead 1 ∷ Heard 1 text2051 ∷ Noted (Taken 1 1023 Fetch) ∷ wait true (1 ∷ 2 ∷ []) (2 ∷ []) ∷ CanWrite 2 ∷ Asked 2 text2052 ∷ wait true (1 ∷ 2 ∷ []) [] ∷ CanRead 2 ∷ Got 2 text5 ∷ Noted (Taken 1 1023 (Hit 0 0)) ∷ wait true (1 ∷ 2 ∷ []) (1 ∷ []) ∷ CanWrite 1 ∷ Said 1 154 text6 ∷ wait true (1 ∷ 2 ∷ []) [] ∷ CanRead 1 ∷ Heard 1 text2053 ∷ Noted (Taken 1 1024 Fetch) ∷ wait true (1 ∷ 2 ∷ []) (2 ∷ []) ∷ CanWrite 2 ∷ Asked 2 text2054 ∷ wait true (1 ∷ 2 ∷ []) [] ∷ CanRead 2 ∷ Got 2 text5 ∷ Noted (Taken 1 1024 (Hit 0 0)) ∷ []) ≡ Some (record { at = 14357; rule = WrongDecision })
unfolding judging front0x59
row96 = refl

row101 : fault_from 14334 front0x59.0 (CanRead 1 ∷ Heard 1 text2051 ∷ Noted (Taken 1 1023 Fetch) ∷ wait true (1 ∷ 2 ∷ []) (2 ∷ []) ∷ CanWrite 2 ∷ Asked 2 text2052 ∷ wait true (1 ∷ 2 ∷ []) [] ∷ CanRead 2 ∷ Got 2 text5 ∷ Noted (Taken 1 1023 (Hit 0 0)) ∷ wait true (1 ∷ 2 ∷ []) (1 ∷ []) ∷ CanWrite 1 ∷ Said 1 154 text6 ∷ wait true (1 ∷ 2 ∷ []) [] ∷ CanRead 1 ∷ Heard 1 text2053 ∷ Noted (Taken 1 1024 Fetch) ∷ wait true (1 ∷ 2 ∷ []) (2 ∷ []) ∷ CanWrite 2 ∷ Asked 2 text2054 ∷ wait true (1 ∷ 2 ∷ []) [] ∷ CanRead 2 ∷ Got 2 text5 ∷ Noted (Forgotten (codes "http://h/1")) ∷ []) ≡ Some (record { at = 14357; rule = NotToBeForgotten })
unfolding judging front0x59
row101 = refl

row106 : fault_from 14334 front0x59.0 (CanRead 1 ∷ Heard 1 text2051 ∷ Noted (Taken 1 1023 Fetch) ∷ wait true (1 ∷ 2 ∷ []) (2 ∷ []) ∷ CanWrite 2 ∷ Asked 2 text2052 ∷ wait true (1 ∷ 2 ∷ []) [] ∷ CanRead 2 ∷ Got 2 text5 ∷ Noted (Taken 1 1023 (Hit 0 0)) ∷ wait true (1 ∷ 2 ∷ []) (1 ∷ []) ∷ CanWrite 1 ∷ Said 1 154 text6 ∷ wait true (1 ∷ 2 ∷ []) [] ∷ CanRead 1 ∷ Heard 1 text2053 ∷ Noted (Taken 1 1024 Fetch) ∷ wait true (1 ∷ 2 ∷ []) (2 ∷ []) ∷ CanWrite 2 ∷ Asked 2 text2054 ∷ wait true (1 ∷ 2 ∷ []) [] ∷ CanRead 2 ∷ Got 2 text5 ∷ Noted (Forgotten (codes "http://h/0")) ∷ Noted (Forgotten (codes "http://h/1")) ∷ []) ≡ Some (record { at = 14358; rule = NotToBeForgotten })
unfolding judging front0x59
row106 = refl

row112 : fault_from 14334 front0x59.0 (CanRead 1 ∷ Heard 1 text2051 ∷ Noted (Taken 1 1023 Fetch) ∷ wait true (1 ∷ 2 ∷ []) (2 ∷ []) ∷ CanWrite 2 ∷ Asked 2 text2052 ∷ wait true (1 ∷ 2 ∷ []) [] ∷ CanRead 2 ∷ Got 2 text5 ∷ Noted (Taken 1 1023 (Hit 0 0)) ∷ wait true (1 ∷ 2 ∷ []) (1 ∷ []) ∷ CanWrite 1 ∷ Said 1 154 text6 ∷ wait true (1 ∷ 2 ∷ []) [] ∷ CanRead 1 ∷ Heard 1 text3 ∷ Noted (Taken 1 1024 (Hit 0 0)) ∷ wait true (1 ∷ 2 ∷ []) (1 ∷ []) ∷ CanWrite 1 ∷ Said 1 162 text2055 ∷ wait true (1 ∷ 2 ∷ []) [] ∷ CanRead 1 ∷ Heard 1 text2053 ∷ Noted (Taken 1 1025 Fetch) ∷ wait true (1 ∷ 2 ∷ []) (2 ∷ []) ∷ CanWrite 2 ∷ Asked 2 text2054 ∷ wait true (1 ∷ 2 ∷ []) [] ∷ CanRead 2 ∷ Got 2 text5 ∷ Noted (Forgotten (codes "http://h/1")) ∷ Noted (Taken 1 1025 (Hit 0 0)) ∷ wait true (1 ∷ 2 ∷ []) (1 ∷ []) ∷ []) ≡ None
unfolding judging front0x59
row112 = refl

row134 : fault_from 14334 front0x59.0 (CanRead 1 ∷ Heard 1 text2051 ∷ Noted (Taken 1 1023 Fetch) ∷ wait true (1 ∷ 2 ∷ []) (2 ∷ []) ∷ CanWrite 2 ∷ Asked 2 text2052 ∷ wait true (1 ∷ 2 ∷ []) [] ∷ CanRead 2 ∷ Got 2 text5 ∷ Noted (Taken 1 1023 (Hit 0 0)) ∷ wait true (1 ∷ 2 ∷ []) (1 ∷ []) ∷ CanWrite 1 ∷ Said 1 154 text6 ∷ wait true (1 ∷ 2 ∷ []) [] ∷ CanRead 1 ∷ Heard 1 text3 ∷ Noted (Taken 1 1024 (Hit 0 0)) ∷ wait true (1 ∷ 2 ∷ []) (1 ∷ []) ∷ CanWrite 1 ∷ Said 1 162 text2055 ∷ wait true (1 ∷ 2 ∷ []) [] ∷ CanRead 1 ∷ Heard 1 text2053 ∷ Noted (Taken 1 1025 Fetch) ∷ wait true (1 ∷ 2 ∷ []) (2 ∷ []) ∷ CanWrite 2 ∷ Asked 2 text2054 ∷ wait true (1 ∷ 2 ∷ []) [] ∷ CanRead 2 ∷ Got 2 text5 ∷ Noted (Forgotten (codes "http://h/0")) ∷ []) ≡ Some (record { at = 14364; rule = NotToBeForgotten })
unfolding judging front0x59
row134 = refl
