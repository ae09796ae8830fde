-- What a decision asks an origin: that it asks at all tells the head, the key and the kind.
use Rattle.std.proofs.Common.{◌≡◌, refl, sym, subst, ap, ◌∙◌, ℕ, Bool, true, false, ◌&&◌, List, [], ◌∷◌, ◌++◌, Some, None, Option, option_map}
use Rattle.pp_ask.specs.declared.kind.AskKind.{AskKind}
use Rattle.pp_client.specs.Requests.{Front as Heading, Nothing, Begun, Asked as IsAsked, Refused, Heard, current_of, fault_of, front_in as heading_in, front_of as heading_of}
use Rattle.pp_cache.specs.Memory.{Memory}
use Rattle.pp_cache_law.proofs.Numbers.{some_is}
use Rattle.pp_flow.specs.Errands.{asks_as_asked, asks_range, named_by}
use Rattle.pp_flow.specs.declared.errand.Kind.{Kind}
use Rattle.pp_flow.specs.declared.errand.Kind.TheVariants.{Whole, Range, Check, Pass as AsPassed}
use Rattle.pp_flow_law.proofs.Entries.{none_some}
use Rattle.pp_framing.specs.Framing.{request_rule_of}
use Rattle.pp_head.specs.Read.{Read, Whole as IsWhole, TooLong, Bad, More}
use Rattle.pp_head.specs.Request.{Request, request_at}
use Rattle.pp_law.specs.Deciding.{is_pass, is_range, tag_named}
use Rattle.pp_law.specs.Decisions.{fetch_kind, kind_of as kind_of_law, lent}
use Rattle.pp_law.specs.Lists.{Bytes}
use Rattle.pp_law.specs.Requests.{Front, IsRequest, NoHead, NoHeadYet, Parsed, front_in, front_of, parsed_of}
use Rattle.pp_objects.specs.Instances.{row_of}
use Rattle.pp_plan.specs.Fetch.{fetch_range}
use Rattle.pp_plan.specs.Row.{Row}
use Rattle.pp_seats.specs.Fetches.{asked_as, fetch_by}
use Rattle.pp_seats.specs.Heads.{asked_in}
use Rattle.pp_seats.specs.declared.front.Asked.{Asked}
use Rattle.pp_seats.specs.declared.front.Front.{Front as SeatFront}
use Rattle.pp_seats.specs.declared.front.Front.TheVariants.{NoHeadYet as NoneYet, NoHead as NoneThere, Request as IsThere}
use Rattle.pp_seats.specs.declared.key.Key.{Key}
use Rattle.pp_seats.specs.declared.seat.Seat.{Seat}
use Rattle.pp_seats_law.specs.Exchanges.{is_ranged_in}
use Rattle.pp_seats_law.specs.Fronts.{IsHeadTaken, ShowsAsked, ShowsFront, ShowsHeard}
use Rattle.pp_valid.specs.declared.version.Version.{Version}
use Rattle.pp_world.specs.declared.note.Decision.{Decision}
use Rattle.pp_world.specs.declared.note.Decision.TheVariants.{Refuse, Hit, Part, Head, NotModified, Unsatisfiable, Relay, Validate, Fetch, Pass}
use Rattle.pp_decide.specs.Decide.{fits, kind_of, text_by}
use Rattle.pp_take.specs.Deciding.{Ask, asks_hole, ask_by, ask_for, ask_for_kind, by_asked, by_front, by_key, errand_by, is_pass as passes, of_request}

-- ---- what is asked, by the request

abbrev pub ask_as : List ℕ → Seat → Asked → Key → Request → Kind → Ask
ask_as name seat a key head kind = (of_request a seat.body_left head (errand_by a key head kind), text_by name head key kind)

pub record IsAskOf (name : List ℕ) (d : Decision) (m : Memory) (seat : Seat) (heading : Heading) (front : Option Asked) (ask : Ask) : Type 0 where
  pub a : Asked
  pub key : Key
  pub head : Request
  pub fault : Option ℕ
  pub kind : Kind
  pub asked : front ≡ Some a
  pub keyed : a.key ≡ Some key
  pub heard : heading ≡ IsAsked head fault
  pub asks : kind_of head (option_map (λ i. i.version) (row_of key.text.items m.instances)) d ≡ Some kind
  pub is : ask ≡ ask_as name seat a key head kind

record IsKind (name : List ℕ) (seat : Seat) (a : Asked) (key : Key) (head : Request) (o : Option Kind) (ask : Ask) : Type 0 where
  kind : Kind
  asks : o ≡ Some kind
  is : ask ≡ ask_as name seat a key head kind

fit_found : (name : List ℕ) (seat : Seat) (a : Asked) (key : Key) (head : Request) (kind : Kind) (ask : Ask) (b : Bool)
    → option_map (λ (x : Ask). let y : Ask = (of_request a seat.body_left head x.0, x.1) in y) (elim b as (λ t. Option Ask) [ true ↦ Some (errand_by a key head kind, text_by name head key kind) | false ↦ None ]) ≡ Some ask
    → ask ≡ ask_as name seat a key head kind
fit_found name seat a key head kind ask true is = sym (some_is (of_request a seat.body_left head (errand_by a key head kind), text_by name head key kind) ask is)
fit_found name seat a key head kind ask false is = absurd (none_some ask is)

kind_found : (name : List ℕ) (seat : Seat) (a : Asked) (key : Key) (head : Request) (o : Option Kind) (ask : Ask) → ask_for_kind name seat a key head o ≡ Some ask → IsKind name seat a key head o ask
kind_found name seat a key head None ask is = absurd (none_some ask is)
kind_found name seat a key head (Some kind) ask is = record { kind = kind; asks = refl; is = fit_found name seat a key head kind ask (fits (text_by name head key kind)) is }

front_found : (name : List ℕ) (d : Decision) (m : Memory) (seat : Seat) (heading : Heading) (a : Asked) (key : Key) (ask : Ask) → a.key ≡ Some key → by_front (ask_for name d m seat a key) heading ≡ Some ask → IsAskOf name d m seat heading (Some a) ask
front_found name d m seat Nothing a key ask keyed is = absurd (none_some ask is)
front_found name d m seat Begun a key ask keyed is = absurd (none_some ask is)
front_found name d m seat (Refused status) a key ask keyed is = absurd (none_some ask is)
front_found name d m seat (IsAsked head fault) a key ask keyed is =
    let one : IsKind name seat a key head (kind_of head (option_map (λ i. i.version) (row_of key.text.items m.instances)) d) ask = kind_found name seat a key head (kind_of head (option_map (λ i. i.version) (row_of key.text.items m.instances)) d) ask is in
    record { a = a; key = key; head = head; fault = fault; kind = one.kind; asked = refl; keyed = keyed; heard = refl; asks = one.asks; is = one.is }

key_found : (name : List ℕ) (d : Decision) (m : Memory) (seat : Seat) (heading : Heading) (a : Asked) (o : Option Key) (ask : Ask) → a.key ≡ o → by_key (ask_for name d m seat a) heading o ≡ Some ask → IsAskOf name d m seat heading (Some a) ask
key_found name d m seat heading a None ask keyed is = absurd (none_some ask is)
key_found name d m seat heading a (Some key) ask keyed is = front_found name d m seat heading a key ask keyed is

pub ask_found : (name : List ℕ) (d : Decision) (m : Memory) (seat : Seat) (heading : Heading) (o : Option Asked) (ask : Ask) → by_asked (ask_for name d m seat) heading o ≡ Some ask → IsAskOf name d m seat heading o ask
ask_found name d m seat heading None ask is = absurd (none_some ask is)
ask_found name d m seat heading (Some a) ask is = key_found name d m seat heading a a.key ask refl is

-- ---- the request of the law

pub record HasRequest (front : Front) (a : Asked) : Type 0 where
  pub request : Parsed
  pub is : front ≡ IsRequest request
  pub shows : ShowsAsked a request

pub has_request : (front : SeatFront) (other : Front) (a : Asked) → ShowsFront front other → asked_in front ≡ Some a → HasRequest other a
has_request NoneYet other a shows asked = absurd (none_some a asked)
has_request (NoneThere status) other a shows asked = absurd (none_some a asked)
has_request (IsThere b) NoHeadYet a shows asked = absurd shows
has_request (IsThere b) (NoHead status) a shows asked = absurd shows
has_request (IsThere b) (IsRequest r) a shows asked = record { request = r; is = refl; shows = subst (λ (x : Asked). ShowsAsked x r) (some_is b a asked) shows }

record IsAskedAs (heading : Heading) (head : Request) : Type 0 where
  fault : Option ℕ
  is : heading ≡ IsAsked head fault

read_as : (read : Read Request) (r : Parsed) → front_in read ≡ IsRequest r → IsAskedAs (heading_in read) r.head
read_as (IsWhole head) r is = let same : parsed_of head ≡ r = cc is in record { fault = fault_of (request_rule_of head.fields); is = ap (λ (q : Parsed). IsAsked q.head (fault_of (request_rule_of head.fields))) same }
read_as TooLong r is = absurd (cc is)
read_as Bad r is = absurd (cc is)
read_as More r is = absurd (cc is)

front_as : (head rest : Bytes) (r : Parsed) → IsHeadTaken head (IsRequest r) → front_of (head ++ rest) ≡ IsRequest r → IsAskedAs (heading_of (head ++ rest)) r.head
unfolding front_of
front_as [] rest r taken is = absurd taken
front_as (b ∷ head) rest r taken is = read_as (request_at ((b ∷ head) ++ rest)) r is

same_head : (head other : Request) (fault : Option ℕ) (heading : Heading) → heading ≡ IsAsked head fault → IsAskedAs heading other → head ≡ other
same_head head other fault heading is one = cc (is, one.is)

pub heads_same : (h : Heard) (front : Front) (heard : Bytes) (r : Parsed) (head : Request) (fault : Option ℕ) → ShowsHeard h front heard → front ≡ IsRequest r → current_of h ≡ IsAsked head fault → head ≡ r.head
heads_same h front heard r head fault shows is current =
    let same : ShowsHeard h (IsRequest r) heard = subst (λ (f : Front). ShowsHeard h f heard) is shows in
    same_head head r.head fault (current_of h) current (front_as h.head h.rest r same.head same.is_front)

-- ---- its kind

pub passes_same : (d : Decision) → passes d ≡ is_pass d
passes_same Pass = refl
passes_same Fetch = refl
passes_same Validate = refl
passes_same Relay = refl
passes_same (Refuse status) = refl
passes_same (Hit from to) = refl
passes_same (Part from to) = refl
passes_same Head = refl
passes_same NotModified = refl
passes_same Unsatisfiable = refl

pub record IsKindFor (head : Request) (row : Option Row) (d : Decision) (kind : Kind) : Type 0 where
  pub law : kind_of_law head row d ≡ Some (asked_as kind)
  pub named : named_by kind ≡ tag_named row d
  pub ranged : is_ranged_in kind ≡ is_range (asked_as kind)
  pub range : asks_range kind ≡ is_range (asked_as kind)
  pub passed : asks_as_asked kind ≡ is_pass d
  pub whole : asks_hole kind ≡ false

fetch_kinds : (head : Request) (row : Option Row) (range : Option (ℕ × Option ℕ)) → fetch_range head.fields ≡ range → IsKindFor head row Fetch (fetch_by range)
fetch_kinds head row None is = record { law = ap (λ (k : AskKind). Some k) (rw (fetch_kind, is) refl); named = refl; ranged = refl; range = refl; passed = refl; whole = refl }
fetch_kinds head row (Some r) is = record { law = ap (λ (k : AskKind). Some k) (rw (fetch_kind, is) refl); named = refl; ranged = refl; range = refl; passed = refl; whole = refl }

check_kinds : (head : Request) (row : Option Row) (kind : Kind) → option_map (λ (v : Version). Check v.tag) (option_map (λ (r : Row). r.version) row) ≡ Some kind → IsKindFor head row Validate kind
check_kinds head None kind is = absurd (none_some kind is)
check_kinds head (Some r) kind is = subst (λ (k : Kind). IsKindFor head (Some r) Validate k) (some_is (Check r.version.tag) kind is) (record { law = refl; named = refl; ranged = refl; range = refl; passed = refl; whole = refl })

pub kinds_for : (head : Request) (row : Option Row) (d : Decision) (kind : Kind) → kind_of head (option_map (λ (r : Row). r.version) row) d ≡ Some kind → IsKindFor head row d kind
kinds_for head row Fetch kind is = subst (λ (k : Kind). IsKindFor head row Fetch k) (some_is (fetch_by (fetch_range head.fields)) kind is) (fetch_kinds head row (fetch_range head.fields) refl)
kinds_for head row Validate kind is = check_kinds head row kind is
kinds_for head row Pass kind is = subst (λ (k : Kind). IsKindFor head row Pass k) (some_is AsPassed kind is) (record { law = refl; named = refl; ranged = refl; range = refl; passed = refl; whole = refl })
kinds_for head row Relay kind is = absurd (none_some kind is)
kinds_for head row (Refuse status) kind is = absurd (none_some kind is)
kinds_for head row (Hit from to) kind is = absurd (none_some kind is)
kinds_for head row (Part from to) kind is = absurd (none_some kind is)
kinds_for head row Head kind is = absurd (none_some kind is)
kinds_for head row NotModified kind is = absurd (none_some kind is)
kinds_for head row Unsatisfiable kind is = absurd (none_some kind is)
