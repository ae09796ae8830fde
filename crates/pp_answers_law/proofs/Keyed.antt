-- The key of an exchange that is passed, where what it changed is named: that of the target of its client's request; and where this life did not
-- go astray, each place that the response names was read.
use Rattle.std.proofs.Common.{◌≡◌, ◌<◌, ◌-◌, ◌+◌, refl, sym, ap, ap₂, ◌∙◌, ℕ, Bool, true, false, not, ◌&&◌, ◌||◌, drop, find, take, length, length-append, length-drop, List, [], ◌∷◌, ◌++◌, nat_le, nat_lt, Some, None, Option, Result, Ok, Err, arith}
use Rattle.std.specs.List.{list_any}
use Rattle.std.specs.Prelude.{bytes_eq, codes}
use Rattle.pp_cache_law.proofs.Numbers.{some_is, true_false}
use Rattle.pp_client.specs.Requests.{Front as Heading, Nothing, Begun as More, Asked as IsAsked, Refused, current_of}
use Rattle.pp_flow.specs.declared.entry.Entry.{Entry}
use Rattle.pp_flow_law.specs.Tables.{Leaving}
use Rattle.pp_framing.specs.Framing.{request_rule_of}
use Rattle.pp_framing.specs.declared.body.BodyRule.{BodyRule}
use Rattle.pp_head.specs.Request.{Request as AskedHead}
use Rattle.pp_head.specs.Response.{Response}
use Rattle.pp_law.specs.Connections.{is_client}
use Rattle.pp_law.specs.Lists.{Bytes, is_this}
use Rattle.pp_law.specs.Requests.{Front, IsRequest, NoHeadYet, NoHead, Parsed, body_len_by, front_of, goes_alone, is_safe, key_in, parsed_of}
use Rattle.pp_law.specs.State.{State, Client, Exchange}
use Rattle.pp_law.specs.ThroughHeads.{invalidates as law_invalidates}
use Rattle.pp_peers.specs.declared.peers.Peer.{Peer}
use Rattle.pp_pipe.specs.Authentication.{binds_connection}
use Rattle.pp_plan.specs.Requests.{is_get, is_head}
use Rattle.pp_seats.specs.declared.seat.Seat.{Seat}
use Rattle.pp_seats_law.proofs.AllSeats.{places}
use Rattle.pp_seats_law.proofs.Fronts.{front_from, same_front}
use Rattle.pp_seats_law.specs.Clients.{IsAt, IsFound}
use Rattle.pp_seats_law.specs.Exchanges.{ShowsExchange}
use Rattle.pp_seats_law.specs.Seats.{ShowsOpen}
use Rattle.pp_state.specs.Astray.{astray_where}
use Rattle.pp_state.specs.Ends.{Parts, cleared_key, cleared_of, cleared_row, numbers_of, seat_for}
use Rattle.pp_state.specs.Keys.{key_of}
use Rattle.pp_answers.specs.ThroughHeads.{ClearsEach, InvalidatesIf, InvalidatesRows, disproved, is_disproved, named_as, places_named as places_in}
use Rattle.pp_answers.specs.FinalHeads.{PassesHead}
use Rattle.pp_states_law.proofs.Charged.{same_entry}
use Rattle.pp_states_law.proofs.Places.{HasPlace, HasSeat, at_place, has_none, has_place, has_seat}
use Rattle.pp_states_law.specs.Charges.{IsFor}
use Rattle.pp_states_law.specs.Steps.{ShowsSteps}
use Rattle.pp_target.specs.Key.{Key, key_at, place_of, port_text, text_of}
use Rattle.pp_target.specs.declared.target.TargetFault.{TargetFault}
use Rattle.pp_answers_law.specs.Answers.{Asks, IsAnswered, Stands}
use Rattle.pp_answers_law.specs.Disproving.{HasClient}
use Rattle.pp_answers_law.specs.Outdates.{IsKeyed, WereRead, WereReadIf, WereReadOf}
use Rattle.pp_answers_law.specs.Takes.{MayPass}
use Rattle.pp_answers_law.proofs.Disproved.{any_there, still_now}
use Rattle.pp_answers_law.proofs.Dropped.{there_too}
use Rattle.pp_answers_law.proofs.Sites.{plain}

-- ---- what changes something goes alone

abbrev safe_by : AskedHead → Bool → Bool → Bool
safe_by head g h = g || h || bytes_eq head.method (codes "OPTIONS") || bytes_eq head.method (codes "TRACE")

abbrev alone_by : AskedHead → Bool → Bool → Bool
alone_by head g h = (not (g || h) || nat_lt 0 (body_len_by (request_rule_of head.fields))) || binds_connection head.fields

unsafe_alone : (head : AskedHead) → is_safe head ≡ false → goes_alone head ≡ true
unsafe_alone head unsafe = by (is_get head.method) (is_head head.method) refl refl
  where
    by : (g h : Bool) → is_get head.method ≡ g → is_head head.method ≡ h → goes_alone head ≡ true
    by true h is so = absurd (true_false (sym (ap (λ (b : Bool). safe_by head b (is_head head.method)) is) ∙ unsafe))
    by false true is so = absurd (true_false (sym (ap₂ (λ (b c : Bool). safe_by head b c) is so) ∙ unsafe))
    by false false is so = ap₂ (λ (b c : Bool). alone_by head b c) is so

changes_alone : (e : Exchange) (head : Response) → law_invalidates e head ≡ true → goes_alone e.head ≡ true
changes_alone e head changes = by (is_safe e.head) refl
  where
    by : (b : Bool) → is_safe e.head ≡ b → goes_alone e.head ≡ true
    by true is = absurd (true_false (sym changes ∙ ap (λ (b : Bool). not b && nat_le 200 head.status && nat_lt head.status 400) is))
    by false is = unsafe_alone e.head is

-- ---- whose target has its key

record HasTarget (r : Parsed) : Type 0 where
  target : Bytes
  key : key_at target ≡ r.key

target_in : (heading : Heading) (r : Parsed) → front_from heading ≡ IsRequest r → HasTarget r
target_in Nothing r is = absurd (let both : NoHeadYet ≡ IsRequest r = is in cc both)
target_in More r is = absurd (let both : NoHeadYet ≡ IsRequest r = is in cc both)
target_in (IsAsked head fault) r is =
    let both : IsRequest (parsed_of head) ≡ IsRequest r = is in
    let same : parsed_of head ≡ r = cc both in
    record { target = head.target; key = ap (λ (q : Parsed). q.key) same }
target_in (Refused status) r is = absurd (let both : NoHead status ≡ IsRequest r = is in cc both)

target_of : (number : ℕ → ℕ) (name : Bytes) (seat : Seat) (c : Client) (r : Parsed) → ShowsOpen number name [] seat c → c.front ≡ IsRequest r → HasTarget r
target_of number name seat c r shows front =
    target_in (current_of seat.client.heard) r
    (sym (same_front (seat.client.heard.head ++ seat.client.heard.rest)) ∙ still_now c.front (front_of (seat.client.heard.head ++ seat.client.heard.rest)) r front shows.heard.is_front)

its_key : (r : Result Key TargetFault) (key : Key) → (elim r as (λ t. Option Key) [ Ok k ↦ Some k | Err fault ↦ None ]) ≡ Some key → r ≡ Ok key
its_key (Ok k) key is = let same : k ≡ key = cc is in ap (λ (j : Key). Ok j) same
its_key (Err fault) key is = absurd (let both : None ≡ Some key = is in cc both)

named_key : (front : Front) (r : Parsed) (key : Key) → front ≡ IsRequest r → key_in front ≡ Some key → r.key ≡ Ok key
named_key front r key is named = its_key r.key key (sym (ap key_in is) ∙ named)

-- ---- where its path begins

placed_at : (key : Key) (n : ℕ) → 0 < length key.path → drop n (text_of key) ≡ key.path → n ≡ (place_of key).path
placed_at key n some is =
    let hosts : length (key.host ++ (port_text key.port ++ key.path)) ≡ length key.host + length (port_text key.port ++ key.path) = length-append key.host (port_text key.port ++ key.path) in
    let ports : length (port_text key.port ++ key.path) ≡ length (port_text key.port) + length key.path = length-append (port_text key.port) key.path in
    let rest : length (drop n (text_of key)) ≡ length (text_of key) - n = length-drop n (text_of key) in
    let same : length (drop n (text_of key)) ≡ length key.path = ap (λ (text : Bytes). length text) is in
    omega (arith, hosts, ports, rest, same, some)

-- ---- both

module _ (number : ℕ → ℕ) (name : Bytes) (l : Leaving) (peers : List Peer) (p : Parts) (s : State) (shows : ShowsSteps number name l peers p s) (n : ℕ) (x : Entry) (e : Exchange) (head : Response) (answered : IsAnswered n p s x e) (stands : IsFor s e Stands) (asks : IsFor s e (Asks e)) (may : MayPass s e head) (changes : law_invalidates e head ≡ true) where
  shown : ShowsExchange number x e
  shown = same_entry number name l peers p s shows n x e (there_too number name l peers p s shows n x e answered)

  has : HasClient s e
  has = may.client (changes_alone e head changes)

  its : Asks e has.client
  its = asks has.number has.client has.asker has.there

  named : its.request.key ≡ Ok e.key
  named = named_key has.client.front its.request e.key its.front (may.key has.number has.client has.asker has.there)

  target : HasTarget its.request
  target = by (seat_for x.exchange p.seats) refl
    where
      by : (o : Option ℕ) → seat_for x.exchange p.seats ≡ o → HasTarget its.request
      by None none =
          absurd
          (true_false
          (sym (any_there has.number s.clients has.client has.there)
          ∙ ap (λ (asker : Option ℕ). list_any (λ d. is_this d.number asker && true) s.clients) (sym (shown.asker ∙ has.asker))
          ∙ (has_none number name [] x.exchange.asker p.seats s.clients shows.shows.clients none).asks (λ c. true)))
      by (Some i) at =
          let one : HasPlace x.exchange.asker (numbers_of p.seats) i = has_place x.exchange.asker (numbers_of p.seats) i at in
          let here : IsAt one.client i p.seats = at_place one.client i p.seats shows.order one.place in
          let seat : HasSeat i p.seats = has_seat one.client i p.seats here in
          let found : IsFound number name [] seat.seat one.client s.clients = places number name [] p.seats s.clients one.client i seat.seat shows.shows.clients here seat.there in
          let same_asker : Some one.client ≡ Some has.number = sym one.asks ∙ shown.asker ∙ has.asker in
          let same : one.client ≡ has.number = cc same_asker in
          let client : found.client ≡ has.client = some_is found.client has.client (sym found.there ∙ ap (λ (m : ℕ). find (is_client m) s.clients) same ∙ has.there) in
          target_of number name seat.seat found.client its.request (found.shows.going (stands one.client found.client (sym shown.asker ∙ one.asks) found.there).on.going) (ap (λ (c : Client). c.front) client ∙ its.front)

  key : key_at target.target ≡ Ok e.key
  key = target.key ∙ named

  pub keyed : IsKeyed x e head
  keyed = record {
    target = target.target;
    key = key;
    place = placed_at e.key x.errand.place.path (plain target.target e.key key).path (ap (λ (text : Bytes). drop x.errand.place.path text) (sym shown.text_key) ∙ ap (λ (k : Key). k.path) shown.parts);
  }

-- ---- a life that went astray stays so

cleared_astray : (o : Option Bytes) (p : Parts) → (cleared_of o p).is_astray ≡ p.is_astray
cleared_astray None p = refl
cleared_astray (Some text) p = refl

stays_astray : (b : Bool) (p : Parts) → p.is_astray ≡ true → (astray_where b p).is_astray ≡ true
stays_astray true p is = refl
stays_astray false p is = is

each_astray : (site : Bytes) (texts : List Bytes) (p new : Parts) → ClearsEach site texts p new → p.is_astray ≡ true → new.is_astray ≡ true
each_astray site [] p new cleared is = ap (λ (q : Parts). q.is_astray) cleared ∙ is
each_astray site (text ∷ texts) p new cleared is =
    each_astray site texts cleared.0 new cleared.2
    (ap (λ (q : Parts). q.is_astray) cleared.1.cleared
    ∙ stays_astray (not cleared.1.is_read) (cleared_of (named_as cleared.1.is_read site text) p) (cleared_astray (named_as cleared.1.is_read site text) p ∙ is))

were_read : (site : Bytes) (texts : List Bytes) (p new : Parts) → (cleared : ClearsEach site texts p new) → new.is_astray ≡ false → WereRead site texts p new cleared
were_read site [] p new cleared straight = tt
were_read site (text ∷ texts) p new cleared straight = (by cleared.1.is_read refl, were_read site texts cleared.0 new cleared.2 straight)
  where
    by : (b : Bool) → cleared.1.is_read ≡ b → cleared.1.is_read ≡ true
    by true is = is
    by false is =
        absurd
        (true_false
        (sym
        (each_astray site texts cleared.0 new cleared.2
        (ap (λ (q : Parts). q.is_astray) cleared.1.cleared ∙ ap (λ (b : Bool). let q : Parts = astray_where (not b) (cleared_of (named_as b site text) p) in q.is_astray) is)) ∙ straight))

were_read_of : (o : Option Bytes) (path : ℕ) (head : Response) (p new : Parts) → (it : InvalidatesRows o path head p new) → new.is_astray ≡ false → WereReadOf o path head p new it
were_read_of None path head p new it straight = tt
were_read_of (Some key) path head p new it straight = were_read (take path key) (places_in head) (cleared_key key p) new it straight

pub each_read : (b : Bool) (o : Option Bytes) (path : ℕ) (head : Response) (p new : Parts) → (it : InvalidatesIf b o path head p new) → new.is_astray ≡ false → WereReadIf b o path head p new it
each_read false o path head p new it straight = tt
each_read true o path head p new it straight = were_read_of o path head p new it straight

-- so it is where it is passed then
disproved_astray : (x : Entry) (head : Response) (p : Parts) → (disproved x.exchange x.errand head p).is_astray ≡ p.is_astray
disproved_astray x head p = by (is_disproved x.exchange x.errand head p)
  where
    by : (b : Bool) → (let q : Parts = elim b as (λ t. Parts) [ true ↦ cleared_row x.exchange.number p | false ↦ p ] in q.is_astray) ≡ p.is_astray
    by true = cleared_astray (key_of x.exchange.number p.flow) p
    by false = refl

pub passed_straight : (name : Bytes) (x : Entry) (head : Response) (rule : BodyRule) (p new : Parts) → (passes : PassesHead name x.exchange x.errand head rule p new) → new.is_astray ≡ false → passes.outdated.between.is_astray ≡ false
passed_straight name x head rule p new passes straight =
    sym (disproved_astray x head passes.outdated.between) ∙ sym (ap (λ (q : Parts). q.is_astray) passes.outdated.cleared) ∙ sym (ap (λ (q : Parts). q.is_astray) passes.passed) ∙ straight
