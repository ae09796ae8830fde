-- The exchange that begins is the law's, and with it the request waits for it as the law has it.
use Rattle.std.proofs.Common.{◌≡◌, refl, sym, subst, ap, ap₂, ◌∙◌, ℕ, ◌%◌, Bool, true, false, ◌==◌, ◌&&◌, ◌||◌, not, find, List, [], ◌∷◌, ◌++◌, Some, None, Option, option_map, Result, Ok, Err}
use Rattle.std.specs.Prelude.{is_some, slice_get, slice_set, ⊤}
use Rattle.pp_ask.specs.declared.kind.AskKind.{AskKind}
use Rattle.pp_ask.specs.Texts.{ask_text}
use Rattle.pp_cache.specs.Memory.{Memory}
use Rattle.pp_cache_law.proofs.Alike.{rows_of}
use Rattle.pp_cache_law.proofs.Finds.{find_passes}
use Rattle.pp_cache_law.proofs.Numbers.{is_same, some_is}
use Rattle.pp_cache_law.specs.Pairs.{AreBoth}
use Rattle.pp_cache_law.specs.Tables.{ShowsInstance}
use Rattle.pp_client.specs.Requests.{current_of}
use Rattle.pp_flow.specs.Changes.{Exchanges}
use Rattle.pp_flow.specs.Entries.{begun_with}
use Rattle.pp_flow.specs.Errands.{asks_as_asked}
use Rattle.pp_flow.specs.declared.entry.Aim.{Aim}
use Rattle.pp_flow.specs.declared.entry.Entry.{Entry}
use Rattle.pp_flow.specs.declared.errand.Errand.{Errand}
use Rattle.pp_flow.specs.declared.errand.Kind.{Kind}
use Rattle.pp_flow_law.proofs.Entries.{none_some}
use Rattle.pp_flow_law.specs.Changes.{begun_by as flow_begun, left_by as flow_left}
use Rattle.pp_flow_law.specs.Tables.{Leaving, ShowsFlow}
use Rattle.pp_fresh.specs.Guessing.{allows_guess}
use Rattle.pp_head.specs.Request.{Request}
use Rattle.pp_law.specs.Closing.{forsake, is_of, is_over, leave}
use Rattle.pp_law.specs.Connections.{is_client, on_client}
use Rattle.pp_law.specs.Deciding.{add_exchange, ask_as as law_ask_as, ask_for as law_ask_for, ask_origin as law_ask_origin, asking_with, begin_exchange, is_moved_in as law_moved_in, is_pass as law_pass, new_exchange}
use Rattle.pp_law.specs.Decisions.{kind_of as kind_of_law}
use Rattle.pp_law.specs.Lists.{Bytes, is_some_with, is_this}
use Rattle.pp_law.specs.Requests.{Front, IsRequest, NoHead, NoHeadYet, Parsed}
use Rattle.pp_law.specs.Stages.{is_through}
use Rattle.pp_law.specs.State.{State, Aim as LawAim, Client, Entry as KeptEntry, Exchange, Filling, Instance as Known, Own, Reply, Stage, Through, Undecided, Waiting, Passing, Answering}
use Rattle.pp_law.specs.Table.{follows, of_entry, of_instance, row, row_for, row_on_disk, swept}
use Rattle.pp_objects.specs.Instances.{Instance, row_of}
use Rattle.pp_objects.specs.declared.id.ObjectId.{ObjectId}
use Rattle.pp_peers.specs.declared.peers.Peer.{Peer}
use Rattle.pp_plan.specs.Requests.{is_head}
use Rattle.pp_plan.specs.Row.{Row}
use Rattle.pp_ranges.specs.Ranges.{range_of}
use Rattle.pp_ranges.specs.declared.range.Range.{Range}
use Rattle.pp_ranges.specs.declared.range.Range.TheVariants.{Span, From, Last}
use Rattle.pp_seats.specs.Decided.{asking, with_interim}
use Rattle.pp_seats.specs.Fetches.{asked_as}
use Rattle.pp_seats.specs.Heads.{asked_in, owned_in}
use Rattle.pp_seats.specs.declared.front.Asked.{Asked}
use Rattle.pp_seats.specs.declared.key.Key.{Key as OwnedKey}
use Rattle.pp_seats.specs.declared.seat.Seat.{Seat}
use Rattle.pp_seats_law.proofs.Decided.{asks as seats_ask}
use Rattle.pp_seats_law.specs.Clients.{IsAt}
use Rattle.pp_seats_law.specs.Exchanges.{ShowsExchange}
use Rattle.pp_seats_law.specs.Fates.{aim_of}
use Rattle.pp_seats_law.specs.Fronts.{ShowsAsked, ShowsKey}
use Rattle.pp_seats_law.specs.Seats.{ShowsOpen, ShowsSeat}
use Rattle.pp_states_law.proofs.Decided.{begins as states_begin, leaves as states_leave}
use Rattle.pp_states_law.specs.Decisions.{AsksOnce}
use Rattle.pp_states_law.specs.States.{Parts as Whole, ShowsState}
use Rattle.pp_target.specs.Key.{Key, key_in, text_of}
use Rattle.pp_target.specs.declared.target.TargetFault.{TargetFault}
use Rattle.pp_valid.specs.Codings.{accepts_only_identity}
use Rattle.pp_valid.specs.declared.version.Version.{Version}
use Rattle.pp_world.specs.declared.note.Decision.{Decision}
use Rattle.pp_decide.specs.Decide.{kind_of, text_by}
use Rattle.pp_take.specs.Deciding.{Ask, aim_for, ask_at, ask_for, asked_by, asks_hole, by_seat, asked_with, errand_by, exchange_begun, is_moved_in, is_pass, of_request, origin_asked}
use Rattle.pp_state.specs.Ends.{AreInOrder, Parts, left_source, on_seat, source_of}
use Rattle.pp_states_law.proofs.Places.{numbers_set}
use Rattle.pp_states_law.proofs.Told.{are_told_on}
use Rattle.pp_states_law.specs.Steps.{ShowsSteps, whole}
use Rattle.pp_states_law.specs.Told.{AreTold, EachIsTold, IsToldBy}
use Rattle.pp_turns_law.proofs.Asked.{asked_is, begins_once}
use Rattle.pp_turns_law.proofs.Found.{HasRequest, IsAskOf, IsKindFor, ask_as, ask_found, has_request, heads_same, kinds_for, passes_same}
use Rattle.pp_turns_law.proofs.Left.{flow_number, told_by_left}
use Rattle.pp_turns_law.proofs.Quitting.{client_left, left_memory}
use Rattle.pp_turns_law.proofs.Refused.{followed_as, left_stands, once_swept}
use Rattle.pp_turns_law.proofs.Sitting.{interim_number, is_at, shown_at}
use Rattle.pp_turns_law.specs.Decides.{AsksAreTheLaws, IsDecided, MayAsk}

-- ---- field by field

aims : (b c : Bool) → b ≡ c → aim_of (aim_for b) ≡ (elim c as (λ t. LawAim) [ true ↦ Through | false ↦ Own ])
aims true true is = refl
aims false false is = refl
aims true false is = absurd (cc is)
aims false true is = absurd (cc is)

moved_same : (o : Option Range) → is_moved_in o ≡ law_moved_in o
moved_same None = refl
moved_same (Some (Span first last)) = refl
moved_same (Some (From first)) = refl
moved_same (Some (Last n)) = refl

versions_by : (number : ℕ → ℕ) (m : Memory) (s : State) (head : Request) (key : Bytes) (o : Option Instance) (q : Option Known) → AreBoth (ShowsInstance number m s) o q → (q ≡ None → row_on_disk s key ≡ None)
    → option_map (λ (i : Instance). i.version) o
    ≡ option_map (λ (r : Row). r.version) (elim q as (λ t. Option Row) [ Some x ↦ Some (of_instance s head x) | None ↦ elim (row_on_disk s key) as (λ t. Option Row) [ None ↦ None | Some e ↦ Some (of_entry head e) ] ])
versions_by number m s head key None None both kept =
    sym (ap (λ (e : Option KeptEntry). option_map (λ (r : Row). r.version) (elim e as (λ t. Option Row) [ None ↦ None | Some x ↦ Some (of_entry head x) ])) (kept refl))
versions_by number m s head key (Some i) (Some x) both kept = ap (λ (v : Version). Some v) both.version
versions_by number m s head key None (Some x) both kept = absurd both
versions_by number m s head key (Some i) None both kept = absurd both

heads_asked : (b : Bool) (d : Decision) (a other : Bool) → b ≡ law_pass d → a ≡ other → (b && a) ≡ (elim (elim (law_pass d) as (λ t. LawAim) [ true ↦ Through | false ↦ Own ]) as (λ t. Bool) [ Through ↦ other | Own ↦ false | Filling v from to ↦ false ])
heads_asked b d a other passes same = by (law_pass d) passes
  where
    by : (c : Bool) → b ≡ c → (b && a) ≡ (elim (elim c as (λ t. LawAim) [ true ↦ Through | false ↦ Own ]) as (λ t. Bool) [ Through ↦ other | Own ↦ false | Filling v from to ↦ false ])
    by true is = ap (λ (t : Bool). t && a) is ∙ same
    by false is = ap (λ (t : Bool). t && a) is

identity_asked : (b : Bool) (d : Decision) (wished : Bool) → b ≡ false
    → (b || wished) ≡ (elim (elim (law_pass d) as (λ t. LawAim) [ true ↦ Through | false ↦ Own ]) as (λ t. Bool) [ Through ↦ wished | Own ↦ wished | Filling v from to ↦ true ])
identity_asked b d wished whole = ap (λ (t : Bool). t || wished) whole ∙ by (law_pass d)
  where
    by : (c : Bool) → wished ≡ (elim (elim c as (λ t. LawAim) [ true ↦ Through | false ↦ Own ]) as (λ t. Bool) [ Through ↦ wished | Own ↦ wished | Filling v from to ↦ true ])
    by true = refl
    by false = refl

key_named : (o : Option OwnedKey) (refusal : Option ℕ) (r : Parsed) (key : OwnedKey) → ShowsKey o refusal r → o ≡ Some key → r.key ≡ Ok (key_in key.text.items key.place)
key_named None refusal r key shows is = absurd (none_some key is)
key_named (Some other) refusal r key shows is = subst (λ (k : OwnedKey). r.key ≡ Ok (key_in k.text.items k.place)) (some_is other key is) shows.0

-- the exchange that begins
exchange_shows : (number : ℕ → ℕ) (begun n : ℕ) (name : Bytes) (d : Decision) (s : State) (seat : Seat) (c : Client) (a : Asked) (key : OwnedKey) (r : Parsed) (kind : Kind) → begun ≡ s.next_exchange → n ≡ c.number → seat.body_left ≡ c.body_left
    → name ≡ s.settings.name → ShowsAsked a r → IsKindFor r.head (row_for s r.head (text_of (key_in key.text.items key.place))) d kind
    → ShowsExchange number (begun_with begun n key.text.items (aim_for (is_pass d)) (of_request a seat.body_left r.head (errand_by a key r.head kind)) (text_by name r.head key kind)) (new_exchange s c r.head (key_in key.text.items key.place) d (asked_as kind))
exchange_shows number begun n name d s seat c a key r kind next client left named shows kinds = record {
  number = next;
  asker = ap (λ (m : ℕ). Some m) client;
  aim = aims (is_pass d) (law_pass d) (passes_same d);
  place = refl;
  text_key = key.within.spelled;
  parts = refl;
  named = kinds.named;
  is_ranged = kinds.ranged;
  is_moved = ap₂ (λ (x y : Bool). x && y) kinds.range (moved_same (range_of r.head.fields));
  is_asked_once = shows.is_asked_once;
  asks_head = heads_asked (asks_as_asked kind) d a.is_head (is_head r.head.method) kinds.passed shows.is_head;
  is_safe = shows.is_safe;
  binds = shows.binds_connection;
  identity = identity_asked (asks_hole kind) d (accepts_only_identity r.head.fields) kinds.whole;
  guess = ap (λ (text : Bytes). allows_guess text r.head.fields) key.within.spelled;
  text = ap (λ (m : Bytes). ask_text (asked_as kind) r.head (key_in key.text.items key.place) m) named;
  asked = refl;
  body_left = ap₂ (λ (b : Bool) (m : ℕ). elim b as (λ t. ℕ) [ true ↦ m | false ↦ 0 ]) kinds.passed left;
  requested = refl;
  body = tt;
}

-- ---- what the law asks

record AsksInLaw (number : ℕ → ℕ) (name : Bytes) (d : Decision) (begun : ℕ) (s : State) (seat : Seat) (c : Client) (ask : Ask) : Type 0 where
  own : OwnedKey
  owned : owned_in (asked_in seat.front) ≡ Some own
  request : Parsed
  kind : AskKind
  leads : law_ask_origin c d s ≡ law_ask_for c d request.head (key_in own.text.items own.place) kind s
  shows : ShowsExchange number (begun_with begun seat.client.id own.text.items (aim_for (is_pass d)) ask.0 ask.1) (new_exchange s c request.head (key_in own.text.items own.place) d kind)

asks_leads : (c : Client) (d : Decision) (s : State) (r : Parsed) (key : Key) (kind : AskKind) → c.front ≡ IsRequest r → r.key ≡ Ok key → kind_of_law r.head (row_for s r.head (text_of key)) d ≡ Some kind → law_ask_origin c d s ≡ law_ask_for c d r.head key kind s
unfolding law_ask_origin law_ask_as
asks_leads c d s r key kind front named asks =
    ap (λ (f : Front). elim f as (λ t. State) [
      | NoHeadYet ↦ s
      | NoHead status ↦ s
      | IsRequest q ↦ elim q.key as (λ t. State) [ Ok k ↦ elim (kind_of_law q.head (row_for s q.head (text_of k)) d) as (λ t. State) [ None ↦ s | Some a ↦ law_ask_for c d q.head k a s ] | Err fault ↦ s ]
    ]) front
    ∙ ap (λ (o : Result Key TargetFault). elim o as (λ t. State) [ Ok k ↦ elim (kind_of_law r.head (row_for s r.head (text_of k)) d) as (λ t. State) [ None ↦ s | Some a ↦ law_ask_for c d r.head k a s ] | Err fault ↦ s ]) named
    ∙ ap (λ (o : Option AskKind). elim o as (λ t. State) [ None ↦ s | Some a ↦ law_ask_for c d r.head key a s ]) asks

owned_by : (o : Option Asked) (a : Asked) (key : OwnedKey) → o ≡ Some a → a.key ≡ Some key → owned_in o ≡ Some key
owned_by None a key is keyed = absurd (none_some a is)
owned_by (Some b) a key is keyed = ap (λ (x : Asked). x.key) (some_is b a is) ∙ keyed

in_law : (number : ℕ → ℕ) (name : Bytes) (d : Decision) (p : Parts) (s : State) (seat : Seat) (c : Client) (ask : Ask) → ShowsOpen number name [] seat c → seat.client.id ≡ c.number → p.flow.begun ≡ s.next_exchange → name ≡ s.settings.name
    → ((key : Bytes) → AreBoth (ShowsInstance number p.cache s) (row_of key p.cache.instances) (row s key)) → ((key : OwnedKey) → owned_in (asked_in seat.front) ≡ Some key → row s key.text.items ≡ None → row_on_disk s key.text.items ≡ None)
    → IsAskOf name d p.cache seat (current_of seat.client.heard) (asked_in seat.front) ask → AsksInLaw number name d p.flow.begun s seat c ask
in_law number name d p s seat c ask live client next named rows kept one =
    let has : HasRequest c.front one.a = has_request seat.front c.front one.a live.front one.asked in
    let r : Parsed = has.request in
    let key : Key = key_in one.key.text.items one.key.place in
    let owned : owned_in (asked_in seat.front) ≡ Some one.key = owned_by (asked_in seat.front) one.a one.key one.asked one.keyed in
    let head : one.head ≡ r.head = heads_same seat.client.heard c.front c.heard r one.head one.fault live.heard has.is one.heard in
    let versions : option_map (λ (i : Instance). i.version) (row_of one.key.text.items p.cache.instances) ≡ option_map (λ (x : Row). x.version) (row_for s r.head one.key.text.items) =
    versions_by number p.cache s r.head one.key.text.items (row_of one.key.text.items p.cache.instances) (row s one.key.text.items) (rows one.key.text.items) (kept one.key owned) in
    let asks : kind_of r.head (option_map (λ (x : Row). x.version) (row_for s r.head (text_of key))) d ≡ Some one.kind =
    ap (λ (text : Bytes). kind_of r.head (option_map (λ (x : Row). x.version) (row_for s r.head text)) d) (sym one.key.within.spelled)
    ∙ ap (λ (v : Option Version). kind_of r.head v d) (sym versions)
    ∙ ap (λ (h : Request). kind_of h (option_map (λ (i : Instance). i.version) (row_of one.key.text.items p.cache.instances)) d) (sym head) ∙ one.asks in
    let kinds : IsKindFor r.head (row_for s r.head (text_of key)) d one.kind = kinds_for r.head (row_for s r.head (text_of key)) d one.kind asks in
    let e : Exchange = new_exchange s c r.head key d (asked_as one.kind) in
    let n : ℕ = seat.client.id in
    record {
      own = one.key;
      owned = owned;
      request = r;
      kind = asked_as one.kind;
      leads = asks_leads c d s r key (asked_as one.kind) has.is (key_named one.a.key one.a.refusal r one.key has.shows.key one.keyed) kinds.law;
      shows =
          subst (λ (x : Ask). ShowsExchange number (begun_with p.flow.begun n one.key.text.items (aim_for (is_pass d)) x.0 x.1) e) (sym one.is)
          (subst (λ (h : Request). ShowsExchange number (begun_with p.flow.begun n one.key.text.items (aim_for (is_pass d)) (of_request one.a seat.body_left h (errand_by one.a one.key h one.kind)) (text_by name h one.key one.kind)) e) (sym head)
          (exchange_shows number p.flow.begun n name d s seat c one.a one.key r one.kind next client live.body_left named has.shows kinds));
    }

-- ---- in all

record IsSome (o : Option Ask) : Type 0 where
  ask : Ask
  is : o ≡ Some ask

some_of : (o : Option Ask) → is_some o ≡ true → IsSome o
some_of None is = absurd (cc is)
some_of (Some ask) is = record { ask = ask; is = refl }

program_asks : (name : Bytes) (i : ℕ) (d : Decision) (p : Parts) (ask : Ask) → ask_at name i d p ≡ Some ask
    → origin_asked name i d p ≡ on_seat i (asking (is_pass d)) (exchange_begun i (aim_for (is_pass d)) ask.0 ask.1 (left_source i (on_seat i with_interim p)))
unfolding asked_with
program_asks name i d p ask is = ap (λ (o : Option Ask). asked_by i d o p) is

ask_of_seat : (name : Bytes) (i : ℕ) (d : Decision) (p : Parts) (seat : Seat) (ask : Ask) → slice_get p.seats i ≡ Some seat → ask_at name i d p ≡ Some ask → IsAskOf name d p.cache seat (current_of seat.client.heard) (asked_in seat.front) ask
ask_of_seat name i d p seat ask here is =
    ask_found name d p.cache seat (current_of seat.client.heard) (asked_in seat.front) ask (sym (ap (λ (o : Option Seat). by_seat (ask_for name d p.cache) o) here) ∙ is)

asks_for_law : (c : Client) (d : Decision) (head : Request) (key : Key) (kind : AskKind) (s : State)
    → law_ask_for c d head key kind s ≡ swept (add_exchange (new_exchange s c head key d kind) (leave (is_of c.number) (on_client c.number (asking_with d) s)))
unfolding law_ask_for
asks_for_law c d head key kind s = ap swept (begins_once (new_exchange s c head key d kind) c.number (on_client c.number (asking_with d) s) refl)

sweep_last : (e : Exchange) (n : ℕ) (s : State) → add_exchange e (leave (is_of n) (swept s)) ≡ swept (add_exchange e (leave (is_of n) s))
unfolding add_exchange leave forsake swept
sweep_last e n s = refl

left_number : (c : ℕ) (f : Exchanges) → (flow_left c f).begun ≡ f.begun
left_number c f = flow_number c f

next_kept : (e : Exchange) (test : Exchange → Bool) (n : ℕ) (f : Client → Client) (s : State) → (swept (add_exchange e (leave test (on_client n f s)))).next_instance ≡ s.next_instance
unfolding add_exchange leave forsake on_client swept
next_kept e test n f s = refl

each_more : (number : ℕ → ℕ) (m : Memory) (next : ℕ) (xs : List Entry) (x : Entry) → x.exchange.bound ≡ None → EachIsTold number m next xs → EachIsTold number m next (xs ++ x ∷ [])
each_more number m next [] x none told = (subst (λ o. IsToldBy number m next o) (sym none) tt, tt)
each_more number m next (y ∷ ys) x none told = (told.0, each_more number m next ys x none told.1)

-- one that waits follows nothing
waits_alone : (d : Decision) (c : Client) (id : ℕ) → c.is_closing ≡ false → follows id (asking_with d c) ≡ false
waits_alone d c id going = by (law_pass d) ∙ ap (λ (b : Bool). not b && false) going
  where
    by : (b : Bool) → (not c.is_closing && is_some_with (λ r. is_this id r.source) (elim (elim b as (λ t. Stage) [ true ↦ Passing | false ↦ Waiting ]) as (λ t. Option Reply) [ Undecided ↦ None | Waiting ↦ None | Passing ↦ None | Answering r ↦ Some r ])) ≡ (not c.is_closing && false)
    by true = refl
    by false = refl

pub asks : AsksAreTheLaws
asks number name l peers p s steps i d seat c decided may =
    let found : IsSome (ask_at name i d p) = some_of (ask_at name i d p) may.asks in
    let ask : Ask = found.ask in
    let n : ℕ = seat.client.id in
    let here : slice_get p.seats i ≡ Some seat = decided.place.here in
    let at : IsAt n i p.seats = is_at i p.seats seat steps.order here in
    let same : c.number ≡ n = is_same c.number n (find_passes (is_client n) s.clients c decided.place.there) in
    let shown : ShowsSeat number name [] seat c = shown_at number name [] p.seats s.clients n i seat c steps.shows.clients at here decided.place.there in
    let live : ShowsOpen number name [] seat c = shown.going decided.going in
    let law : AsksInLaw number name d p.flow.begun s seat c ask =
    in_law number name d p s seat c ask live (sym same) steps.shows.exchanges.begun may.named (rows_of number p.cache s steps.shows.table.table) may.kept (ask_of_seat name i d p seat ask here found.is) in
    let e : Exchange = new_exchange s c law.request.head (key_in law.own.text.items law.own.place) d law.kind in
    let f : Client → Client = asking_with d in
    let new : Seat = asking (law_pass d) (with_interim seat) in
    let o : Option ObjectId = source_of seat in
    let first : Whole = record (whole p peers) { seats = slice_set p.seats i new; memory = left_memory o p.cache } in
    let changed : ShowsState number name [] l first (swept (on_client n f s)) =
    client_left number name [] l (whole p peers) s steps.shows n i new f c o at decided.place.there (λ id. waits_alone d c id decided.going) (followed_as number name i p seat c here live decided.going may.there)
    (λ other x here' there' shows'. subst (λ (y : Client). ShowsSeat number name [] new (f y)) (some_is c x (sym decided.place.there ∙ there')) (seats_ask number d name [] seat c shown decided.going decided.may may.given)) in
    let once : AsksOnce n s = subst (λ (m : ℕ). AsksOnce m s) same decided.asks in
    let left : ShowsState number name [] l (record first { flow = flow_left n p.flow }) (leave (is_of n) (swept (on_client n f s))) = states_leave number name [] l first (swept (on_client n f s)) changed n (once_swept n f s once) in
    let text : Bytes = law.own.text.items in
    let begun : Exchanges = flow_begun n text (aim_for (is_pass d)) ask.0 ask.1 (flow_left n p.flow) in
    let begins : ShowsState number name [] l (record first { flow = begun }) (swept (add_exchange e (leave (is_of n) (on_client n f s)))) =
    subst (λ (t : State). ShowsState number name [] l (record first { flow = begun }) t) (sweep_last e n (on_client n f s))
    (states_begin number name [] l (record first { flow = flow_left n p.flow }) (leave (is_of n) (swept (on_client n f s))) left n text (aim_for (is_pass d)) ask.0 ask.1 e
    (subst (λ (m : ℕ). ShowsExchange number (begun_with m n text (aim_for (is_pass d)) ask.0 ask.1) e) (sym (left_number n p.flow)) law.shows)) in
    let told : AreTold number (left_memory o p.cache) s.next_instance (flow_left n p.flow) =
    are_told_on number p.cache (left_memory o p.cache) s.next_instance s.next_instance (left_stands o p.cache s.next_instance) (flow_left n p.flow) (told_by_left number p s.next_instance n steps.told) in
    let whole_of : ShowsSteps number name l peers (record p { seats = slice_set p.seats i new; cache = left_memory o p.cache; flow = begun }) (swept (add_exchange e (leave (is_of n) (on_client n f s)))) = record {
      shows = begins;
      order = subst (λ (ns : List ℕ). AreInOrder ns) (sym (numbers_set i p.seats seat new here (interim_number seat))) steps.order;
      told = subst (λ (m : ℕ). AreTold number (left_memory o p.cache) m begun) (sym (next_kept e (is_of n) n f s)) (record {
        waiting = each_more number (left_memory o p.cache) s.next_instance (flow_left n p.flow).waiting (begun_with (flow_left n p.flow).begun n text (aim_for (is_pass d)) ask.0 ask.1) refl told.waiting;
        placed = told.placed;
      });
      refused = steps.refused;
    } in
    subst (λ (t : State). ShowsSteps number name l peers (origin_asked name i d p) t) (sym law.leads)
    (subst (λ (t : State). ShowsSteps number name l peers (origin_asked name i d p) t) (sym (asks_for_law c d law.request.head (key_in law.own.text.items law.own.place) law.kind s))
    (subst (λ (m : ℕ). ShowsSteps number name l peers (origin_asked name i d p) (swept (add_exchange e (leave (is_of m) (on_client m f s))))) (sym same)
    (subst (λ (q : Parts). ShowsSteps number name l peers q (swept (add_exchange e (leave (is_of n) (on_client n f s))))) (sym (program_asks name i d p ask found.is
    ∙ asked_is number l p s steps.shows.exchanges i (is_pass d) (aim_for (is_pass d)) ask.0 ask.1 seat law.own here law.owned may.room
    ∙ ap (λ (b : Bool). record p { seats = slice_set p.seats i (asking b (with_interim seat)); cache = left_memory o p.cache; flow = begun }) (passes_same d))) whole_of)))
