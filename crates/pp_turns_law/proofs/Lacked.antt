-- The exchange for what a follower lacks: what is asked for it is what the law asks.
use Rattle.std.proofs.Common.{◌≡◌, refl, subst, ap, ◌∙◌, ℕ, ◌-◌, true, [], ◌∷◌, ◌++◌, Some, None, Option, Ok}
use Rattle.std.specs.Prelude.{is_some, slice_get}
use Rattle.pp_cache_law.proofs.Numbers.{some_is}
use Rattle.pp_client.specs.Requests.{Front as Heading, Heard, Asked as IsAsked, current_of, fault_of, front_in as heading_in, front_of as heading_of}
use Rattle.pp_turns_law.proofs.Found.{HasRequest, has_request}
use Rattle.pp_flow.specs.Entries.{begun_with}
use Rattle.pp_flow.specs.declared.entry.Aim.TheVariants.{Hole}
use Rattle.pp_flow.specs.declared.errand.Kind.{Kind}
use Rattle.pp_flow.specs.declared.errand.Kind.TheVariants.{Hole as AsHole}
use Rattle.pp_flow_law.proofs.Entries.{none_some}
use Rattle.pp_framing.specs.Framing.{request_rule_of}
use Rattle.pp_fresh.specs.Guessing.{allows_guess}
use Rattle.pp_head.specs.Read.{Read, Whole, TooLong, Bad, More}
use Rattle.pp_head.specs.Request.{Request, request_at}
use Rattle.pp_law.specs.Followers.{filling_exchange}
use Rattle.pp_law.specs.Lists.{Bytes}
use Rattle.pp_law.specs.Requests.{Front, IsRequest, Parsed, front_in, front_of, parsed_of}
use Rattle.pp_law.specs.State.{State, Client, Exchange}
use Rattle.pp_law.specs.Table.{Next}
use Rattle.pp_seats.specs.Heads.{asked_in, owned_in}
use Rattle.pp_seats.specs.declared.front.Asked.{Asked}
use Rattle.pp_seats.specs.declared.key.Key.{Key}
use Rattle.pp_seats.specs.declared.seat.Seat.{Seat}
use Rattle.pp_seats_law.specs.Exchanges.{ShowsExchange}
use Rattle.pp_seats_law.specs.Fronts.{IsHeadTaken, ShowsAsked, ShowsHeard, ShowsKey}
use Rattle.pp_seats_law.specs.Seats.{ShowsOpen}
use Rattle.pp_decide.specs.Decide.{text_by}
use Rattle.pp_take.specs.Deciding.{ask_by, by_asked, by_front, by_key, by_seat, errand_by}
use Rattle.pp_state.specs.Ends.{Parts}
use Rattle.pp_take.specs.Filling.{hole_ask, hole_ask_at}
use Rattle.pp_target.specs.Key.{key_in}
use Rattle.pp_valid.specs.declared.version.Version.{Version}

-- ---- its head is whole, in the program as in the law

record IsAskedAs (heading : Heading) (head : Request) : Type 0 where
  fault : Option ℕ
  is : heading ≡ IsAsked head fault

read_as : (read : Read Request) (r : Parsed) → front_in read ≡ IsRequest r → IsAskedAs (heading_in read) r.head
read_as (Whole head) r is = let same : parsed_of head ≡ r = cc is in record { fault = fault_of (request_rule_of head.fields); is = ap (λ (q : Parsed). IsAsked q.head (fault_of (request_rule_of head.fields))) same }
read_as TooLong r is = absurd (cc is)
read_as Bad r is = absurd (cc is)
read_as More r is = absurd (cc is)

front_as : (head rest : Bytes) (r : Parsed) → IsHeadTaken head (IsRequest r) → front_of (head ++ rest) ≡ IsRequest r → IsAskedAs (heading_of (head ++ rest)) r.head
unfolding front_of
front_as [] rest r taken is = absurd taken
front_as (b ∷ head) rest r taken is = read_as (request_at ((b ∷ head) ++ rest)) r is

heard_as : (h : Heard) (front : Front) (heard : Bytes) (r : Parsed) → ShowsHeard h front heard → front ≡ IsRequest r → IsAskedAs (current_of h) r.head
heard_as h front heard r shows is =
    let same : ShowsHeard h (IsRequest r) heard = subst (λ (f : Front). ShowsHeard h f heard) is shows in
    front_as h.head h.rest r same.head same.is_front

-- ---- its request, whose target has a key

pub record HasKey (seat : Seat) (c : Client) : Type 0 where
  pub a : Asked
  pub key : Key
  pub request : Parsed
  pub fault : Option ℕ
  pub asked : asked_in seat.front ≡ Some a
  pub keyed : a.key ≡ Some key
  pub heard : current_of seat.client.heard ≡ IsAsked request.head fault
  pub front : c.front ≡ IsRequest request
  pub shows : ShowsAsked a request
  pub named : request.key ≡ Ok (key_in key.text.items key.place)

key_named : (o : Option Key) (refusal : Option ℕ) (r : Parsed) (key : Key) → ShowsKey o refusal r → o ≡ Some key → r.key ≡ Ok (key_in key.text.items key.place)
key_named None refusal r key shows is = absurd (none_some key is)
key_named (Some other) refusal r key shows is = subst (λ (k : Key). r.key ≡ Ok (key_in k.text.items k.place)) (some_is other key is) shows.0

pub has_key : (number : ℕ → ℕ) (name : Bytes) (seat : Seat) (c : Client) → ShowsOpen number name [] seat c → is_some (owned_in (asked_in seat.front)) ≡ true → HasKey seat c
has_key number name seat c live keyed = by (asked_in seat.front) refl keyed
  where
    of : (a : Asked) (o : Option Key) → asked_in seat.front ≡ Some a → a.key ≡ o → is_some o ≡ true → HasKey seat c
    of a None asked own is = absurd (cc is)
    of a (Some key) asked own is =
        let has : HasRequest c.front a = has_request seat.front c.front a live.front asked in
        let heard : IsAskedAs (current_of seat.client.heard) has.request.head = heard_as seat.client.heard c.front c.heard has.request live.heard has.is in
        record {
          a = a;
          key = key;
          request = has.request;
          fault = heard.fault;
          asked = asked;
          keyed = own;
          heard = heard.is;
          front = has.is;
          shows = has.shows;
          named = key_named a.key a.refusal has.request key has.shows.key own;
        }

    by : (o : Option Asked) → asked_in seat.front ≡ o → is_some (owned_in o) ≡ true → HasKey seat c
    by None asked is = absurd (cc is)
    by (Some a) asked is = of a a.key asked refl is

-- ---- what is asked

abbrev pub kind_for : Version → ℕ × ℕ → Kind
kind_for version span = AsHole span.0 (span.1 - 1) version.tag

pub asks_hole : (name : Bytes) (i : ℕ) (version : Version) (span : ℕ × ℕ) (p : Parts) (seat : Seat) (c : Client) (has : HasKey seat c) → slice_get p.seats i ≡ Some seat
    → hole_ask_at name i version span p ≡ ask_by name has.a has.key has.request.head (kind_for version span)
asks_hole name i version span p seat c has here =
    ap (λ (o : Option Seat). by_seat (hole_ask name version span) o) here
    ∙ ap (λ (o : Option Asked). by_asked (hole_ask name version span seat) (current_of seat.client.heard) o) has.asked
    ∙ ap (λ (o : Option Key). by_key (hole_ask name version span seat has.a) (current_of seat.client.heard) o) has.keyed
    ∙ ap (λ (h : Heading). by_front (hole_ask name version span seat has.a has.key) h) has.heard

-- the exchange of the law
abbrev pub exchange_for : State → (seat : Seat) → (c : Client) → HasKey seat c → Next → ℕ × ℕ → Exchange
exchange_for s seat c has n span = filling_exchange s c has.request.head (key_in has.key.text.items has.key.place) n span

pub same_text : (name : Bytes) (s : State) (seat : Seat) (c : Client) (has : HasKey seat c) (n : Next) (span : ℕ × ℕ) → name ≡ s.settings.name
    → text_by name has.request.head has.key (kind_for n.source.version span) ≡ (exchange_for s seat c has n span).text
same_text name s seat c has n span named = ap (λ (m : Bytes). text_by m has.request.head has.key (kind_for n.source.version span)) named

pub exchange_shows : (number : ℕ → ℕ) (begun : ℕ) (name : Bytes) (s : State) (seat : Seat) (c : Client) (has : HasKey seat c) (n : Next) (span : ℕ × ℕ) → begun ≡ s.next_exchange → seat.client.id ≡ c.number → name ≡ s.settings.name
    → ShowsExchange number
    (begun_with begun seat.client.id has.key.text.items (Hole n.source.version span.0 span.1) (errand_by has.a has.key has.request.head (kind_for n.source.version span)) (text_by name has.request.head has.key (kind_for n.source.version span)))
    (exchange_for s seat c has n span)
exchange_shows number begun name s seat c has n span next client named = record {
  number = next;
  asker = ap (λ (m : ℕ). Some m) client;
  aim = refl;
  place = refl;
  text_key = has.key.within.spelled;
  parts = refl;
  named = refl;
  is_ranged = refl;
  is_moved = refl;
  is_asked_once = has.shows.is_asked_once;
  asks_head = refl;
  is_safe = has.shows.is_safe;
  binds = has.shows.binds_connection;
  identity = refl;
  guess = ap (λ (text : Bytes). allows_guess text has.request.head.fields) has.key.within.spelled;
  text = same_text name s seat c has n span named;
  asked = refl;
  body_left = refl;
  requested = refl;
  body = tt;
}
