-- The body of a response belongs to the row of its key, as the law has it.
use Rattle.std.proofs.Common.{◌≡◌, ◌≤◌, ◌<◌, refl, sym, subst, ap, ap₂, ◌∙◌, ℕ, Bool, true, false, not, ◌==◌, ◌&&◌, find, List, [], ◌∷◌, Some, None, Option}
use Rattle.std.specs.Prelude.{codes, count_by}
use Rattle.pp_cache_law.proofs.Alike.{rows_of}
use Rattle.pp_cache_law.proofs.Numbers.{Apart, instances_alike, is_same, number_of_shown, number_of_there, same_test, true_false}
use Rattle.pp_cache_law.proofs.PairLemmas.{counted}
use Rattle.pp_cache_law.specs.Pairs.{AreBoth}
use Rattle.pp_cache_law.specs.Tables.{ShowsInstance, number_in}
use Rattle.pp_flow.specs.Changes.{Exchanges}
use Rattle.pp_flow.specs.Entries.{Span, is_number}
use Rattle.pp_flow.specs.declared.entry.Aim.{Aim as SeatAim}
use Rattle.pp_flow.specs.declared.entry.Aim.TheVariants.{Own as OfItself, Hole, Pass}
use Rattle.pp_flow.specs.declared.entry.Entry.{Entry}
use Rattle.pp_flow.specs.declared.entry.Exchange.{Exchange as SeatExchange}
use Rattle.pp_flow.specs.declared.errand.Body.TheVariants.{Joining as IsJoining}
use Rattle.pp_flow_law.proofs.Standing.{none_waits}
use Rattle.pp_flow_law.proofs.Told.{found_alone}
use Rattle.pp_flow_law.specs.Tables.{Leaving}
use Rattle.pp_head.specs.Response.{Response}
use Rattle.pp_heads_law.proofs.Ruled.{ignores}
use Rattle.pp_law.specs.Connections.{is_for, on_client_of}
use Rattle.pp_law.specs.Lists.{Bytes, change}
use Rattle.pp_law.specs.OwnHeads.{key_of, settle_on, span_to_come, tell, use_body}
use Rattle.pp_law.specs.State.{State, Bound, Client, Exchange, Instance as Known, Joining, Joins}
use Rattle.pp_law.specs.Table.{instance, is_instance, is_row_of, row}
use Rattle.pp_objects.specs.Instances.{Instance, id_of, in_slot, is_in_slot, is_life, is_there}
use Rattle.pp_objects.specs.declared.id.ObjectId.{ObjectId}
use Rattle.pp_peers.specs.declared.peers.Peer.{Peer}
use Rattle.pp_seats.specs.declared.seat.Brought.TheVariants.{Joins as JoinsRow}
use Rattle.pp_seats.specs.declared.seat.Seat.{Seat}
use Rattle.pp_seats.specs.declared.account.Account.{Account}
use Rattle.pp_seats_law.specs.Exchanges.{IsBoundAs, ShowsExchange}
use Rattle.pp_seats_law.specs.Seats.{ShowsOpen, ShowsSeat}
use Rattle.pp_state.specs.Accounts.{brought_by, with_source}
use Rattle.pp_state.specs.Bodies.{on_place}
use Rattle.pp_state.specs.Ends.{Parts, bound_by, on_seat_where, seat_for, told, told_to}
use Rattle.pp_answers.specs.FinalHeads.{noted_body}
use Rattle.pp_answers.specs.OwnHeads.{span_to_come as span_coming}
use Rattle.pp_answers.specs.Rows.{accounted, joining, settled_on, span_for}
use Rattle.pp_states_law.proofs.Charged.{same_entry}
use Rattle.pp_states_law.specs.Charges.{IsFor}
use Rattle.pp_states_law.specs.Steps.{ShowsSteps}
use Rattle.pp_states_law.specs.Told.{IsTold}
use Rattle.pp_text.specs.Fields.{has_field}
use Rattle.pp_valid.specs.declared.version.Version.{Version}
use Rattle.pp_world.specs.declared.access.Source.{Source}
use Rattle.pp_world.specs.declared.access.Source.TheVariants.{Fetched}
use Rattle.pp_answers_law.specs.Answers.{IsAnswered, Stands}
use Rattle.pp_answers_law.specs.Settling.{HasRow, JoinsAreTheLaws}
use Rattle.pp_answers_law.proofs.Bodies.{TellsBound, body_noted, headed, heads, with_flow}
use Rattle.pp_answers_law.proofs.Dropped.{IsRead, read_now, still_for, there_too}
use Rattle.pp_answers_law.proofs.ToCome.{spans_same}
use Rattle.pp_answers_law.proofs.Told.{asker_changed, tells}

-- ---- what the operator's log is told is no part of the law

account_shown : (number : ℕ → ℕ) (name : Bytes) (owed : List Bytes) (seat : Seat) (c : Client) (account : Account) → ShowsSeat number name owed seat c → ShowsSeat number name owed (record seat { account = account }) c
account_shown number name owed seat c account shown = record { number = shown.number; closing = shown.closing; going = λ goes. again (shown.going goes) }
  where
    again : ShowsOpen number name owed seat c → ShowsOpen number name owed (record seat { account = account }) c
    again shows = record {
      hung_up = shows.hung_up;
      mark = shows.mark;
      heard = shows.heard;
      body = shows.body;
      over = shows.over;
      front = shows.front;
      body_left = shows.body_left;
      index = shows.index;
      stage = shows.stage;
      waits_on = shows.waits_on;
      fate = shows.fate;
      asked = shows.asked;
      piped = shows.piped;
      given_up = shows.given_up;
      interim = shows.interim;
      before_body = shows.before_body;
      closes = shows.closes;
    }

none_changed : (p : Client → Bool) (cs : List Client) → change p (λ c. c) cs ≡ cs
none_changed p [] = refl
none_changed p (c ∷ cs) = ap₂ (λ (d : Client) (ds : List Client). d ∷ ds) (by (p c)) (none_changed p cs)
  where
    by : (b : Bool) → elim b as (λ t. Client) [ true ↦ c | false ↦ c ] ≡ c
    by true = refl
    by false = refl

as_it_was : (e : Exchange) (s : State) → on_client_of e (λ c. c) s ≡ s
unfolding on_client_of
as_it_was e s = ap (λ (cs : List Client). record s { clients = cs }) (none_changed (is_for e) s.clients)

seats_placed : (o : Option ℕ) (f : Seat → Seat) (p : Parts) → record p { seats = on_place o f p.seats } ≡ on_seat_where o f p
seats_placed None f p = refl
seats_placed (Some i) f p = refl

pub accounts : (number : ℕ → ℕ) (name : Bytes) (l : Leaving) (peers : List Peer) (p : Parts) (s : State) → ShowsSteps number name l peers p s → (x : SeatExchange) (e : Exchange) (source : Source) → x.asker ≡ e.asker → ShowsSteps number name l peers (accounted x source p) s
accounts number name l peers p s shows x e source same = by x.aim
  where
    its : ShowsSteps number name l peers (on_seat_where (seat_for x p.seats) (with_source source) p) s
    its =
        subst (λ (t : State). ShowsSteps number name l peers (on_seat_where (seat_for x p.seats) (with_source source) p) t) (as_it_was e s)
        (asker_changed number name l peers p s shows x e (with_source source) (λ c. c) same
        (record { follows = λ id c. refl; id = λ seat. refl; shows = λ n i seat c asks there found shown. account_shown number name [] seat c (with_source source seat).account shown }))

    by : (aim : SeatAim) → ShowsSteps number name l peers (record p { seats = brought_by aim x source p.seats }) s
    by OfItself = subst (λ (q : Parts). ShowsSteps number name l peers q s) (sym (seats_placed (seat_for x p.seats) (with_source source) p)) its
    by (Hole v from to) = shows
    by Pass = shows

-- ---- its body belongs to an instance

same_flow : (o : Option ℕ) (f : Seat → Seat) (p : Parts) (flow : Exchanges) → on_seat_where o f (with_flow flow p) ≡ with_flow flow (on_seat_where o f p)
same_flow None f p flow = refl
same_flow (Some i) f p flow = refl

flow_same : (o : Option ℕ) (f : Seat → Seat) (p : Parts) → (on_seat_where o f p).flow ≡ p.flow
flow_same None f p = refl
flow_same (Some i) f p = refl

-- what its client is told and the log are no part of the exchanges
abbrev told_joined : SeatExchange → Span → Source → Bool → Parts → Parts
told_joined x span source plain p = told_to x (JoinsRow span.0 plain) (accounted x source p)

told_flow : (x : SeatExchange) (span : Span) (source : Source) (plain : Bool) (p : Parts) (flow : Exchanges) → told_joined x span source plain (with_flow flow p) ≡ with_flow flow (told_joined x span source plain p)
told_flow x span source plain p flow = same_flow (seat_for x (accounted x source p).seats) (told (JoinsRow span.0 plain)) (accounted x source p) flow

noted_joined : (n : ℕ) (p : Parts) (x : Entry) (own : SeatExchange) (span : Span) (source : Source) (plain : Bool) → find (is_number n) p.flow.placed ≡ Some x → find (is_number n) p.flow.waiting ≡ None
    → noted_body n (told_joined own span source plain (bound_by n (Some span) p)) ≡ told_joined own span source plain (with_flow (headed n (Some span) (IsJoining span.1) x p.flow) p)
noted_joined n p x own span source plain here none =
    ap (noted_body n) (told_flow own span source plain p (bound_by n (Some span) p).flow)
    ∙ ap (λ (f : Exchanges). with_flow f (told_joined own span source plain p)) (body_noted n p.flow x (Some span) (told_joined own span source plain p).seats here none)
    ∙ sym (told_flow own span source plain p (headed n (Some span) (IsJoining span.1) x p.flow))

pub joined : (number : ℕ → ℕ) (name : Bytes) (l : Leaving) (peers : List Peer) (p : Parts) (s : State) → ShowsSteps number name l peers p s → (n : ℕ) (x : Entry) (e : Exchange) (span : Span) (source : Source) (plain : Bool) (b : Bound) → IsAnswered n p s x e
    → IsFor s e Stands → IsBoundAs number span span.1 b → TellsBound number p s (Some span) → ShowsSteps number name l peers (noted_body n (joining x.exchange span source plain p)) (tell e (Joins b.instance plain) (use_body e (Joining b) s))
joined number name l peers p s shows n x e span source plain b answered stands fits one =
    subst (λ (m : ℕ). ShowsSteps number name l peers (noted_body n (told_joined x.exchange span source plain (bound_by m (Some span) p))) (tell e (Joins b.instance plain) (use_body e (Joining b) s))) (sym read.number)
    (subst (λ (q : Parts). ShowsSteps number name l peers q (tell e (Joins b.instance plain) (use_body e (Joining b) s)))
    (sym (noted_joined n p x x.exchange span source plain answered.placed (none_waits number l p.flow s shows.shows.exchanges n x answered.placed)))
    (tells number name l peers (accounted x.exchange source (with_flow (headed n (Some span) (IsJoining span.1) x p.flow) p)) (use_body e (Joining b) s)
    (accounts number name l peers (with_flow (headed n (Some span) (IsJoining span.1) x p.flow) p) (use_body e (Joining b) s) (heads number name l peers p s shows n x e (Some span) (IsJoining span.1) (Joining b) answered fits one) x.exchange e source read.asker)
    x.exchange e (JoinsRow span.0 plain) (Joins b.instance plain) read.asker (still_for e (Joining b) s Stands stands) (fits.joined, refl)))
  where
    read : IsRead n x.exchange e x e
    read = read_now number name l peers p s shows n x e answered

-- ---- to the row of its key

pub row_shown : (number : ℕ → ℕ) (name : Bytes) (l : Leaving) (peers : List Peer) (p : Parts) (s : State) → ShowsSteps number name l peers p s → (e : Exchange) (i : Instance) (y : Known) → HasRow p s e i y → ShowsInstance number p.cache s i y
row_shown number name l peers p s shows e i y has =
    subst (λ (o : Option Known). AreBoth (ShowsInstance number p.cache s) (Some i) o) has.there
    (subst (λ (o : Option Instance). AreBoth (ShowsInstance number p.cache s) o (row s (key_of e))) has.here (rows_of number p.cache s shows.shows.table.table (key_of e)))

-- it is the one of its number
pub row_known : (number : ℕ → ℕ) (name : Bytes) (l : Leaving) (peers : List Peer) (p : Parts) (s : State) → ShowsSteps number name l peers p s → (e : Exchange) (i : Instance) (y : Known) → HasRow p s e i y → instance s (number i.life) ≡ Some y
row_known number name l peers p s shows e i y has =
    ap (λ (n : ℕ). instance s n) shown.id ∙ found_alone (is_instance y.id) (is_row_of (key_of e)) s.instances y has.there (same_test y.id y.id refl) few
  where
    shown : ShowsInstance number p.cache s i y
    shown = row_shown number name l peers p s shows e i y has

    few : count_by (is_instance y.id) s.instances ≤ 1
    few =
        subst (λ (k : ℕ). k ≤ 1)
        (counted (ShowsInstance number p.cache s) (is_in_slot i.slot) (is_instance y.id) p.cache.instances s.instances
        (λ j z one. instances_alike number p.cache s i.slot y.id j z shows.shows.table.table.apart (number_of_shown number p.cache s i y shown) one) shows.shows.table.table.instances)
        (shows.shows.table.table.alone i.slot)

-- and is told by that
-- in one slot stands one life
same_ids : (number : ℕ → ℕ) (is : List Instance) (a la b lb : ℕ) → Apart number is → number_in number a is ≡ Some (number la) → number_in number b is ≡ Some (number lb) → (a ≡ b → la ≡ lb) → ((a == b) && (la == lb)) ≡ (number la == number lb)
same_ids number is a la b lb apart here there alone = by (a == b) (number la == number lb) refl refl
  where
    by : (t u : Bool) → (a == b) ≡ t → (number la == number lb) ≡ u → ((a == b) && (la == lb)) ≡ (number la == number lb)
    by true true is_a is_n = ap₂ (λ (x y : Bool). x && y) is_a (same_test la lb (alone (is_same a b is_a))) ∙ sym is_n
    by true false is_a is_n = absurd (true_false (sym (same_test (number la) (number lb) (ap number (alone (is_same a b is_a)))) ∙ is_n))
    by false true is_a is_n = absurd (true_false (sym (same_test a b (apart a b (number la) here (there ∙ ap (λ (k : ℕ). Some k) (sym (is_same (number la) (number lb) is_n))))) ∙ is_a))
    by false false is_a is_n = ap (λ (x : Bool). x && (la == lb)) is_a ∙ sym is_n

pub row_told : (number : ℕ → ℕ) (name : Bytes) (l : Leaving) (peers : List Peer) (p : Parts) (s : State) → ShowsSteps number name l peers p s → (e : Exchange) (i : Instance) (y : Known) → HasRow p s e i y → IsTold number p.cache s.next_instance (id_of i)
row_told number name l peers p s shows e i y has = record {
  given = shown.given;
  made = subst (λ (k : ℕ). k < s.next_instance) (sym shown.id) shown.made;
  apart = λ other there. same_ids number p.cache.instances i.slot i.life other.slot other.life shows.shows.table.table.apart (number_of_there number (id_of i) p.cache.instances here) (number_of_there number other p.cache.instances there) (alone other there);
}
  where
    shown : ShowsInstance number p.cache s i y
    shown = row_shown number name l peers p s shows e i y has

    here : is_there (id_of i) p.cache.instances ≡ true
    here = ap (λ (o : Option Instance). is_life i.life o) shown.there ∙ same_test i.life i.life refl

    alone : (other : ObjectId) → is_there other p.cache.instances ≡ true → i.slot ≡ other.slot → i.life ≡ other.life
    alone other there same =
        is_same i.life other.life (sym (ap (λ (o : Option Instance). is_life other.life o) shown.there) ∙ ap (λ (k : ℕ). is_life other.life (in_slot k p.cache.instances)) same ∙ there)

pub bound_shown : (number : ℕ → ℕ) (x : Entry) (e : Exchange) (head : Response) (v : Version) (id : ObjectId) (k : ℕ) → ShowsExchange number x e → number id.life ≡ k → IsBoundAs number (span_for x.errand head v id) (span_coming head v).0 (span_to_come e head v k)
bound_shown number x e head v id k shown is = record {
  joined = is;
  next = ap (λ (u : ℕ × ℕ). u.0) (spans_same head v);
  to = ap (λ (u : ℕ × ℕ). u.1) (spans_same head v);
  is_all = ignores number x e head shown v;
  wanted = ap (λ (u : ℕ × ℕ). u.0) (spans_same head v);
}

abbrev on_row : Exchange → Response → Version → State → Option Known → State
on_row e head v s o = elim o as (λ t. State) [
  | None ↦ s
  | Some x ↦ tell e (Joins x.id (not (has_field (codes "age") head.fields))) (use_body e (Joining (span_to_come e head v x.id)) s)
]

pub joins : JoinsAreTheLaws
unfolding settle_on
joins number name l peers p s shows n x e head v i y answered stands has =
    subst (λ (o : Option Known). ShowsSteps number name l peers (noted_body n (settled_on x.exchange x.errand head v (id_of i) p)) (on_row e head v s o)) (sym has.there)
    (joined number name l peers p s shows n x e (span_for x.errand head v (id_of i)) Fetched (not (has_field (codes "age") head.fields)) (span_to_come e head v y.id) answered stands
    (bound_shown number x e head v (id_of i) y.id (same_entry number name l peers p s shows n x e (there_too number name l peers p s shows n x e answered)) (row_shown number name l peers p s shows e i y has).id)
    (row_told number name l peers p s shows e i y has))
