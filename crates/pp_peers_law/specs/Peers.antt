-- How a connection of the program stands for one of the law (RFC 2616, sections 8.1 and 8.1.2.2).
use Rattle.std.specs.Prelude.{◌≡◌, ℕ, ◌+◌, Bool, true, false, nat_lt, List, [], ◌∷◌, ◌++◌, length, drop, Option, Some, None, ⊤}
use Rattle.std.specs.List.{list_any}
use Rattle.pp_framing.specs.Body.{behind}
use Rattle.pp_framing.specs.Places.{first_place, is_unbounded, read_from}
use Rattle.pp_framing.specs.Rules.{body_of}
use Rattle.pp_framing.specs.declared.place.Place.{Place}
use Rattle.pp_head.specs.Response.{Response}
use Rattle.pp_law.specs.Connections.{exchange}
use Rattle.pp_law.specs.Lists.{Bytes, is_some_with}
use Rattle.pp_law.specs.Requests.{goes_alone}
use Rattle.pp_law.specs.Responses.{asks_head}
use Rattle.pp_law.specs.State.{State, Exchange, Conn, Answer}
use Rattle.pp_peers.specs.declared.peers.Peer.{Peer}
use Rattle.pp_pipe.specs.Front.{stays_open}
use Rattle.pp_pipe.specs.Reading.{Reading, Before, Within}
use Rattle.pp_pipe.specs.declared.asks.Ask.{Ask}

-- ---- its line

-- an ask of its pipe is that of an exchange: so much of its text is left there as was not asked. Of a request's body nothing stands in the
-- pipe: it is written as it is heard
pub record ShowsAsk (ask : Ask) (e : Exchange) : Type 0 where
  pub to_head : ask.head_request ≡ asks_head e
  pub is_begun : ask.is_begun ≡ nat_lt 0 e.asked
  pub text : e.asked + ask.text_left ≡ length e.text

-- one of them for each exchange of the line, in the order in which they are answered
abbrev pub ShowsLine : State → List ℕ → List Ask → Type 0
ShowsLine s [] [] = ⊤
ShowsLine s (n ∷ line) (ask ∷ asks) = ((e : Exchange) × (exchange s n ≡ Some e) × ShowsAsk ask e) × ShowsLine s line asks
ShowsLine s line asks = ⊥

-- what of the text of an exchange was not asked
abbrev pub rest_of : State → ℕ → Bytes
rest_of s n = elim (exchange s n) [ None ↦ [] | Some e ↦ drop e.asked e.text ]

abbrev pub rests_of : State → List ℕ → Bytes
rests_of s [] = []
rests_of s (n ∷ line) = rest_of s n ++ rests_of s line

-- "Clients SHOULD NOT pipeline requests using non-idempotent methods" (section 8.1.2.2): one that goes alone is asked on a new
-- connection, and nothing is asked behind it
abbrev pub has_alone : State → List ℕ → Bool
has_alone s line = list_any (λ n. is_some_with (λ e. goes_alone e.head) (exchange s n)) line

-- ---- what comes

-- within the body of a response whose head came: what comes behind these bytes is read on from there, and the end of the connection
-- ends it where that is its rule
pub record IsWithin (response : Response) (place : Place) (a : Answer) : Type 0 where
  pub head : response ≡ a.head
  pub goes_on : (more : Bytes) → body_of a.rule (a.raw ++ more) ≡ behind (body_of a.rule a.raw).payload (read_from place more)
  pub kind : is_unbounded place ≡ is_unbounded (first_place a.rule)

abbrev pub ShowsReading : Reading → Bytes → Option Answer → Type 0
ShowsReading (Before text) unread None = text ≡ unread
ShowsReading (Within response place) unread (Some a) = (unread ≡ []) × IsWithin response place a
ShowsReading reading unread answer = ⊥

-- whether it stays open behind the response that comes is what its head said
abbrev pub ShowsStaying : Bool → Option Answer → Type 0
ShowsStaying stays None = ⊤
ShowsStaying stays (Some a) = stays ≡ stays_open a.head

-- ---- the connection

-- as long as it is not closing: its line, the texts that are left, and the response that comes
pub record ShowsPipe (s : State) (p : Peer) (k : Conn) : Type 0 where
  pub line : ShowsLine s k.line p.pipe.asks
  pub stray : p.pipe.stray ≡ 0
  pub out : p.pipe.out ≡ rests_of s k.line
  pub reading : ShowsReading p.pipe.reading k.unread k.answer
  pub none_alone : k.may_pipeline ≡ true → has_alone s k.line ≡ false

-- a response that ends its connection may be one behind which others are pipelined: of one that is closing, nobody reads whether they are
pub record ShowsConn (s : State) (p : Peer) (k : Conn) : Type 0 where
  pub number : p.number ≡ k.number
  pub host : p.host.items ≡ k.host
  pub port : p.port ≡ k.port
  pub is_reached : p.is_reached ≡ k.is_reached
  pub has_brought : p.has_brought ≡ k.has_brought
  pub may_pipeline : k.is_closing ≡ false → p.pipe.may_pipeline ≡ k.may_pipeline
  pub is_closing : p.is_closing ≡ k.is_closing
  pub stays : k.is_closing ≡ false → ShowsStaying p.stays k.answer
  pub mark : p.mark ≡ k.mark
  pub has_waited : p.has_waited ≡ k.has_waited
  pub pipe : k.is_closing ≡ false → ShowsPipe s p k

-- all show all, one each, in the order in which they were dialled
abbrev pub ShowConns : State → List Peer → List Conn → Type 0
ShowConns s [] [] = ⊤
ShowConns s (p ∷ ps) (k ∷ ks) = ShowsConn s p k × ShowConns s ps ks
ShowConns s ps ks = ⊥
