-- A decision that is taken is what the law makes of it, whichever it is.
use Rattle.std.proofs.Common.{◌≡◌, ◌≤◌, refl, sym, subst, ap, ◌∙◌, ℕ, Bool, true, false, ◌&&◌, not, find, length, List, [], Some, None, Option, option_map}
use Rattle.std.specs.Prelude.{count_by, is_some, option_and_then, slice_get}
use Rattle.std.specs.List.{list_any}
use Rattle.pp_cache.specs.Memory.{Memory}
use Rattle.pp_cache_law.proofs.Numbers.{some_is}
use Rattle.pp_conf.specs.Conf.{Settings}
use Rattle.pp_client.specs.Requests.{Front as Heading, Nothing, Begun, Asked as IsAsked, Refused, current_of}
use Rattle.pp_turns_law.proofs.Asks.{asks}
use Rattle.pp_turns_law.proofs.Changed.{get_set}
use Rattle.pp_turns_law.proofs.Refused.{refusals}
use Rattle.pp_turns_law.proofs.Relayed.{relays}
use Rattle.pp_turns_law.proofs.Sitting.{is_at, shown_at}
use Rattle.pp_turns_law.specs.Decides.{FollowsWhatIsThere, IsDecided, MayAsk, MayRefuse}
use Rattle.pp_flow_law.specs.Tables.{Leaving}
use Rattle.pp_turns_law.proofs.Followed.{replies}
use Rattle.pp_turns_law.proofs.Keyed.{keys_same}
use Rattle.pp_turns_law.specs.Follows.{MayFollow}
use Rattle.pp_law.specs.After.{take_decision}
use Rattle.pp_law.specs.Closing.{is_of, is_over}
use Rattle.pp_law.specs.Connections.{is_client, is_conn}
use Rattle.pp_law.specs.Deciding.{ask_origin, decided, decided_by, enter_row, follow, is_for_memory, relay, span_of}
use Rattle.pp_law.specs.Lists.{Bytes}
use Rattle.pp_law.specs.Replies.{regained}
use Rattle.pp_law.specs.Requests.{key_in}
use Rattle.pp_law.specs.State.{State, Client, Conn, Exchange}
use Rattle.pp_law.specs.Table.{row, row_on_disk}
use Rattle.pp_objects.specs.Instances.{Instance, is_there, row_of}
use Rattle.pp_objects.specs.declared.id.ObjectId.{ObjectId}
use Rattle.pp_peers.specs.declared.peers.Peer.{Peer}
use Rattle.pp_seats.specs.Accounts.{decided as account_of}
use Rattle.pp_seats.specs.Heads.{asked_in, owned_in}
use Rattle.pp_seats.specs.declared.front.Asked.{Asked}
use Rattle.pp_seats.specs.declared.key.Key.{Key as OwnedKey}
use Rattle.pp_seats.specs.declared.seat.Seat.{Seat}
use Rattle.pp_states_law.specs.Decisions.{AsksOnce}
use Rattle.pp_take.specs.Deciding.{Ask, Does, Takes, accounted, afforded, ask_at, ask_for, ask_for_kind, asks_origin, by_asked, by_front, by_key, by_seat, followed_at, key_for, marked_for, may_ask, may_ask_for, origin_asked}
use Rattle.pp_decide.specs.Decide.{kind_of}
use Rattle.pp_state.specs.Ends.{Parts, source_of}
use Rattle.pp_states_law.specs.Steps.{ShowsSteps}
use Rattle.pp_target.specs.Key.{Key, text_of}
use Rattle.pp_world.specs.declared.note.Decision.{Decision}
use Rattle.pp_world.specs.declared.note.Decision.TheVariants.{Refuse, Hit, Part, Head, NotModified, Unsatisfiable, Relay, Validate, Fetch, Pass}
use Rattle.pp_turns_law.proofs.Accounted.{accounted_as, accounted_is, accounts_show}
use Rattle.pp_turns_law.proofs.MarkedRow.{IsAsBefore, IsMarked, entered_is, marked_before, marked_by, marked_so, marks_for}
use Rattle.pp_turns_law.proofs.Moved.{one_known}
use Rattle.pp_turns_law.proofs.Noted.{noted}
use Rattle.pp_turns_law.specs.Takes.{HasItsRow, MayAskFor, MayDo, TakesAreTheLaws, TakingsRegain}

-- ---- what is asked is as before where the rows are

module _ (name : Bytes) (d : Decision) (m k : Memory) (seat : Seat) (rows : (key : Bytes) → row_of key m.instances ≡ row_of key k.instances) where
  by_heading : (a : Asked) (key : OwnedKey) (front : Heading) → by_front (ask_for name d m seat a key) front ≡ by_front (ask_for name d k seat a key) front
  by_heading a key Nothing = refl
  by_heading a key Begun = refl
  by_heading a key (Refused status) = refl
  by_heading a key (IsAsked head fault) = ap (λ (o : Option Instance). ask_for_kind name seat a key head (kind_of head (option_map (λ (x : Instance). x.version) o) d)) (rows key.text.items)

  by_owned : (a : Asked) (front : Heading) (o : Option OwnedKey) → by_key (ask_for name d m seat a) front o ≡ by_key (ask_for name d k seat a) front o
  by_owned a front None = refl
  by_owned a front (Some key) = by_heading a key front

  asks_same : (front : Heading) (o : Option Asked) → by_asked (ask_for name d m seat) front o ≡ by_asked (ask_for name d k seat) front o
  asks_same front None = refl
  asks_same front (Some a) = by_owned a front a.key

-- ---- a decision, with its row in memory

module _ (number : ℕ → ℕ) (name : Bytes) (l : Leaving) (peers : List Peer) (p : Parts) (s : State) (steps : ShowsSteps number name l peers p s) (i : ℕ) (d : Decision) (seat : Seat) (c : Client) (new : Parts)
    (room : asks_origin d ≡ true → may_ask p.flow ≡ true) (ready : IsDecided i p s seat c) (has : HasItsRow d s seat) (may : MayDo name i d p s seat c) (takes_it : Takes name i d p new) where
  abbrev its : Seat
  its = record seat { account = account_of d seat.account }

  abbrev texts : Option Bytes
  texts = option_map (λ (k : OwnedKey). k.text.items) (owned_in (asked_in seat.front))

  abbrev marked_law : State
  marked_law = marked_by (is_for_memory d) texts s

  abbrev told : Parts
  told = accounted_as i its its.account (marked_for i d p)

  marks_so : IsMarked p (marked_for i d p)
  marks_so = marked_so i d p steps.shows.table.table.rows

  before : IsAsBefore s marked_law
  before = marked_before (is_for_memory d) texts s (one_known number p.cache s steps.shows.table.table)

  here_marked : slice_get (marked_for i d p).seats i ≡ Some seat
  here_marked = ap (λ (seats : List Seat). slice_get seats i) marks_so.seats ∙ ready.place.here

  told_is : accounted i d (marked_for i d p) ≡ told
  told_is = accounted_is i (account_of d) (marked_for i d p) seat here_marked

  shows_told : ShowsSteps number name l peers told marked_law
  shows_told = accounts_show number name l peers (marked_for i d p) marked_law (marks_for number name l peers p s steps i d seat ready.place.here) i seat its.account here_marked

  here_told : slice_get told.seats i ≡ Some its
  here_told = get_set i (marked_for i d p).seats seat its here_marked

  there_told : (id : ObjectId) → is_there id told.cache.instances ≡ is_there id p.cache.instances
  there_told id = marks_so.there id

  follows_there : FollowsWhatIsThere i p → FollowsWhatIsThere i told
  follows_there there id source =
      there_told id
      ∙ there id (ap (λ (o : Option Seat). option_and_then source_of o) ready.place.here ∙ sym (ap (λ (o : Option Seat). option_and_then source_of o) here_told) ∙ source)

  once : AsksOnce c.number marked_law
  once = record {
    once = subst (λ (es : List Exchange). count_by (is_of c.number) es ≤ 1) (sym before.exchanges) ready.asks.once;
    going = ap (λ (es : List Exchange). list_any is_over es) before.exchanges ∙ ready.asks.going;
    apart = λ n. subst (λ (ks : List Conn). count_by (is_conn n) ks ≤ 1) (sym before.conns) (ready.asks.apart n);
  }

  ready_told : IsDecided i told marked_law its c
  ready_told = record {
    place = record { here = here_told; there = ap (λ (cs : List Client). find (is_client seat.client.id) cs) before.clients ∙ ready.place.there };
    going = ready.going;
    may = record { unbegun = ready.may.unbegun; first = ready.may.first; expects = ready.may.expects };
    asks = once;
  }

  may_refuse : (status : ℕ) → MayRefuse i status p seat → MayRefuse i status told its
  may_refuse status m = record { page = m.page; room = m.room; answers = m.answers; there = follows_there m.there }

  asks_told : (e : Decision) → ask_at name i e told ≡ ask_at name i e p
  asks_told e =
      ap (λ (o : Option Seat). by_seat (ask_for name e told.cache) o) here_told
      ∙ asks_same name e told.cache p.cache its marks_so.rows (current_of seat.client.heard) (asked_in seat.front) ∙ sym (ap (λ (o : Option Seat). by_seat (ask_for name e p.cache) o) ready.place.here)

  kept_told : is_for_memory d ≡ false → (key : OwnedKey) → owned_in (asked_in its.front) ≡ Some key → row marked_law key.text.items ≡ None → row_on_disk marked_law key.text.items ≡ None
  kept_told more key owned none = before.disk key.text.items ∙ has.kept more key owned (sym (before.rows key.text.items) ∙ none)

  may_ask_told : (e : Decision) → is_for_memory d ≡ false → may_ask p.flow ≡ true → MayAskFor name i e p s seat → MayAsk name i e told marked_law its
  may_ask_told e more free m = record {
    given = m.given;
    there = follows_there m.there;
    room = ap may_ask marks_so.flow ∙ free;
    asks = ap (λ (o : Option Ask). is_some o) (asks_told e) ∙ m.asks;
    kept = kept_told more;
    named = m.named ∙ ap (λ (t : Settings). t.name) (sym before.settings);
  }

  may_follow_told : MayFollow i p s seat c → MayFollow i told marked_law its c
  may_follow_told m = record {
    given = m.given;
    key = m.key;
    there = follows_there m.there;
    other = λ key x is. m.other key x (sym (before.rows key) ∙ is);
    few = subst (λ (cs : List Client). length cs ≤ 256) (sym before.clients) m.few;
  }

  -- ---- what it does

  asks_for : (e : Decision) → is_for_memory d ≡ false → may_ask p.flow ≡ true → MayAskFor name i e p s seat → new ≡ origin_asked name i e told → ShowsSteps number name l peers new (ask_origin c e marked_law)
  asks_for e more free m is = subst (λ (q : Parts). ShowsSteps number name l peers q (ask_origin c e marked_law)) (sym is) (asks number name l peers told marked_law shows_told i e its c ready_told (may_ask_told e more free m))

  follows_by : (e : Decision) → MayFollow i p s seat c → new ≡ followed_at i e (span_of e) told → ShowsSteps number name l peers new (follow c e marked_law)
  follows_by e m is = subst (λ (q : Parts). ShowsSteps number name l peers q (follow c e marked_law)) (sym is) (replies number name l peers told marked_law shows_told i e its c ready_told (may_follow_told m))

  by_kind : (e : Decision) → is_for_memory e ≡ is_for_memory d → (asks_origin e ≡ true → may_ask p.flow ≡ true) → MayDo name i e p s seat c → Does name i e told new → ShowsSteps number name l peers new (decided_by c e marked_law)
  unfolding decided_by
  by_kind (Refuse status) same free m is = refusals number name l peers told marked_law shows_told i status its c new ready_told (may_refuse status m) is
  by_kind Pass same free m is = asks_for Pass (sym same) (free refl) m is
  by_kind Fetch same free m is = asks_for Fetch (sym same) (free refl) m is
  by_kind Validate same free m is = asks_for Validate (sym same) (free refl) m is
  by_kind Relay same free m is = subst (λ (q : Parts). ShowsSteps number name l peers q (relay c marked_law)) (sym is) (relays number name l peers told marked_law shows_told i its c ready_told m.given (follows_there m.there))
  by_kind (Hit from to) same free m is = follows_by (Hit from to) m is
  by_kind (Part from to) same free m is = follows_by (Part from to) m is
  by_kind Head same free m is = follows_by Head m is
  by_kind NotModified same free m is = follows_by NotModified m is
  by_kind Unsatisfiable same free m is = follows_by Unsatisfiable m is

  -- ---- the law brings its row in, which is there

  keyed : is_for_memory d ≡ false → option_map text_of (key_in c.front) ≡ texts
  keyed more =
      keys_same seat.front c.front
      ((shown_at number name [] p.seats s.clients seat.client.id i seat c steps.shows.clients (is_at i p.seats seat steps.order ready.place.here) ready.place.here ready.place.there).going ready.going).front (has.key more)

  kept_law : is_for_memory d ≡ false → (key : Key) → key_in c.front ≡ Some key → row s (text_of key) ≡ None → row_on_disk s (text_of key) ≡ None
  kept_law more key is = by (owned_in (asked_in seat.front)) refl (ap (λ (o : Option Key). option_map text_of o) (sym is) ∙ keyed more)
    where
      by : (o : Option OwnedKey) → owned_in (asked_in seat.front) ≡ o → Some (text_of key) ≡ option_map (λ (k : OwnedKey). k.text.items) o → row s (text_of key) ≡ None → row_on_disk s (text_of key) ≡ None
      by None owned same = absurd (cc same)
      by (Some k) owned same = subst (λ (text : Bytes). row s text ≡ None → row_on_disk s text ≡ None) (sym (some_is (text_of key) k.text.items same)) (has.kept more k owned)

  entered_so : enter_row c d s ≡ marked_law
  entered_so = entered_is c d s kept_law ∙ by (is_for_memory d) refl
    where
      by : (b : Bool) → is_for_memory d ≡ b → marked_by b (option_map text_of (key_in c.front)) s ≡ marked_by b texts s
      by true is = refl
      by false more = ap (λ (o : Option Bytes). marked_by false o s) (keyed more)

  takes_so : ShowsSteps number name l peers new (decided c d s)
  unfolding decided
  takes_so = subst (λ (t : State). ShowsSteps number name l peers new (decided_by c d t)) (sym entered_so) (by_kind d refl room may (subst (λ (q : Parts). Does name i d q new) told_is takes_it))

-- ---- where there is no memory to ask, it is a refusal

room_for : (due : Decision) (free : Bool) (d : Decision) → (elim (asks_origin due && not free) as (λ t. Decision) [ true ↦ Refuse 500 | false ↦ due ]) ≡ d → asks_origin d ≡ true → free ≡ true
room_for due true d is asking = refl
room_for due false d is asking = by (asks_origin due) refl is
  where
    by : (b : Bool) → asks_origin due ≡ b → (elim (b && true) as (λ t. Decision) [ true ↦ Refuse 500 | false ↦ due ]) ≡ d → false ≡ true
    by true asks_it same = ap asks_origin same ∙ asking
    by false asks_none same = sym asks_none ∙ ap asks_origin same ∙ asking

both : (a b : Bool) → (a && b) ≡ true → b ≡ true
both true b is = is
both false b is = absurd (cc is)

pub takes : TakesAreTheLaws
takes number name l peers p s steps turn i due seat c new same ready has may it =
    noted number name l peers new (decided c (afforded i due turn) s)
    (takes_so number name l peers p s steps i (afforded i due turn) seat c new
    (λ asking. ap (λ (q : Parts). may_ask q.flow) (sym same) ∙ both (is_some (key_for i turn.seats.items)) (may_ask turn.flow) (room_for due (may_ask_for i turn) (afforded i due turn) refl asking)) ready has may it)

pub regains : TakingsRegain
unfolding take_decision
regains s n d c there = ap (λ (o : Option Client). elim o as (λ t. State) [ None ↦ s | Some x ↦ regained (record (decided x d s) { forgotten = []; made_room_for = None }) ]) there
