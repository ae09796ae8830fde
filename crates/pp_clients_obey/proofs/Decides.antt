-- A decision is what the law permits, and leads where the law leads.
use Rattle.std.proofs.Common.{◌≡◌, refl, sym, subst, ap, ap₂, ◌∙◌, ℕ, nat_lt, Bool, true, false, not, ◌&&◌, ◌||◌, is_some, List, [], Option, Some, None, option_map, Result, Ok, Err}
use Rattle.std.specs.Prelude.{slice_get, slice_set}
use Rattle.pp_ask.specs.declared.kind.AskKind.{AskKind}
use Rattle.pp_fresh.specs.declared.aging.Times.{Times}
use Rattle.pp_head.specs.Request.{Request}
use Rattle.pp_target.specs.Key.{Key, text_of}
use Rattle.pp_target.specs.declared.target.TargetFault.{TargetFault}
use Rattle.pp_text.specs.Fields.{Field}
use Rattle.pp_valid.specs.declared.version.Version.{Version}
use Rattle.pp_world.specs.declared.happening.Happening.TheVariants.{Noted}
use Rattle.pp_world.specs.declared.note.Decision.{Decision}
use Rattle.pp_world.specs.declared.note.Decision.TheVariants.{Refuse, Hit, Part, Head, NotModified, Unsatisfiable, Relay, Validate, Fetch, Pass}
use Rattle.pp_world.specs.declared.note.Remark.TheVariants.{Taken}
use Rattle.pp_law.specs.After.{take_decision}
use Rattle.pp_law.specs.Closing.{forsake, is_of, leave}
use Rattle.pp_law.specs.Connections.{client, is_client, on_client}
use Rattle.pp_law.specs.Deciding.{add_exchange, ask_as, ask_for, ask_origin, asking_with, answering_with, begin_exchange, decided, decided_by, enter_row, follow, follow_row, follow_with, is_for_memory, is_pass, mark_row_of, new_exchange, refuse, refused_with, relay, reply_by, serves, span_of}
use Rattle.pp_law.specs.Decisions.{kind_of}
use Rattle.pp_law.specs.Lists.{Bytes, change, is_some_with}
use Rattle.pp_law.specs.Phases.{in_phase}
use Rattle.pp_law.specs.Replies.{regained}
use Rattle.pp_law.specs.Requests.{Front, Parsed, NoHeadYet, NoHead, IsRequest, key_in, parsed_in}
use Rattle.pp_law.specs.State.{State, Client, Deciding, Entry, Exchange, Instance, Reply}
use Rattle.pp_law.specs.Table.{add_row, enter, forget, forget_row, idle_row, row_on_disk, mark_row, row, row_for, rows, swept, with_room}
use Rattle.pp_obeys.specs.Moves.{Goes}
use Rattle.pp_obeys.proofs.TurnHappenings.{goes_taken, goes_taken_behind}
use Rattle.pp_seats.specs.declared.front.Front.{Front as SeatFront}
use Rattle.pp_seats.specs.declared.front.Front.TheVariants.{NoHeadYet as NoneYet, NoHead as NoneThere, Request as IsThere}
use Rattle.pp_seats.specs.declared.seat.Seat.{Seat}
use Rattle.pp_seats.specs.Decided.{answering, asking, expects_in, paged, with_interim}
use Rattle.pp_seats.specs.Heads.{asked_in}
use Rattle.pp_seats_law.specs.Clients.{AreShown}
use Rattle.pp_seats_law.specs.Decided.{MayBeDecided, expects_of}
use Rattle.pp_seats_law.specs.Fronts.{ShowsFront}
use Rattle.pp_seats_law.specs.Seats.{ShowsOpen, ShowsSeat}
use Rattle.pp_seats_law.proofs.AllSeats.{changes_there}
use Rattle.pp_seats_law.proofs.Decided.{answers, asks, pages}
use Rattle.pp_seats_law.proofs.Stages.{begun, undecided}
use Rattle.pp_clients_obey.specs.Deciding.{AsksLead, FollowsLead, IsOpen, IsTaken, IsToTake, PagesLead, RelaysLead, taken, has_ask, is_ask, is_by_row, row_of_key}
use Rattle.pp_clients_obey.specs.Hearing.{Sits}
use Rattle.pp_clients_obey.proofs.Closes.{seen_on, seen_swept}
use Rattle.pp_clients_obey.proofs.Ends.{number_found}
use Rattle.pp_clients_obey.proofs.Hears.{leads_on, same_seat}
use Rattle.pp_clients_obey.proofs.Says.{seen}

-- ---- what of the table changes leaves the clients as they are

seen_if : (b : Bool) (s x y : State) → seen x ≡ seen s → seen y ≡ seen s → seen (elim b as (λ c. State) [ true ↦ x | false ↦ y ]) ≡ seen s
seen_if true s x y hx hy = hx
seen_if false s x y hx hy = hy

seen_of : {A : Type 0} (o : Option A) (s x : State) (y : A → State) → seen x ≡ seen s → ((a : A) → seen (y a) ≡ seen s) → seen (elim o as (λ c. State) [ None ↦ x | Some a ↦ y a ]) ≡ seen s
seen_of None s x y hx hy = hx
seen_of (Some a) s x y hx hy = hy a

seen_marked : (id : ℕ) (s : State) → seen (mark_row id s) ≡ seen s
unfolding mark_row
seen_marked id s = refl

seen_row : (key : Bytes) (s : State) → seen (mark_row_of key s) ≡ seen s
unfolding mark_row_of
seen_row key s = seen_of (row s key) s s (λ x. mark_row x.id s) refl (λ x. seen_marked x.id s)

seen_forgotten : (x : Instance) (s : State) → seen (forget_row x s) ≡ seen s
unfolding forget_row forget
seen_forgotten x s = refl

seen_room : (s : State) → seen (with_room s) ≡ seen s
unfolding with_room
seen_room s = seen_if (nat_lt (rows s) 1024) s s _ refl (seen_of (idle_row s) s s (λ x. forget_row x s) refl (λ x. seen_forgotten x s))

seen_added : (key : Bytes) (version : Version) (fields : List Field) (times : Times) (is_new : Bool) (s : State) → seen (add_row key version fields times is_new s) ≡ seen s
unfolding add_row
seen_added key version fields times is_new s = refl

seen_kept : (key : Bytes) (s : State) (o : Option Entry) → seen (elim o as (λ c. State) [ None ↦ s | Some e ↦ add_row key e.version e.fields e.times false (with_room s) ]) ≡ seen s
seen_kept key s None = refl
seen_kept key s (Some e) = seen_added key e.version e.fields e.times false (with_room s) ∙ seen_room s

seen_enters : (key : Bytes) (s : State) (o : Option Instance) → seen (elim o as (λ c. State) [ Some x ↦ s | None ↦ elim (row_on_disk s key) as (λ c. State) [ None ↦ s | Some e ↦ add_row key e.version e.fields e.times false (with_room s) ] ]) ≡ seen s
seen_enters key s None = seen_kept key s (row_on_disk s key)
seen_enters key s (Some x) = refl

seen_enter : (key : Bytes) (s : State) → seen (enter key false s) ≡ seen s
unfolding enter
seen_enter key s = seen_enters key s (row s key)

seen_key : (s : State) (o : Option Key) → seen (elim o as (λ c. State) [ None ↦ s | Some key ↦ mark_row_of (text_of key) (enter (text_of key) false s) ]) ≡ seen s
seen_key s None = refl
seen_key s (Some key) = seen_row (text_of key) (enter (text_of key) false s) ∙ seen_enter (text_of key) s

seen_entered : (c : Client) (d : Decision) (s : State) → seen (enter_row c d s) ≡ seen s
unfolding enter_row
seen_entered c d s = seen_if (is_for_memory d) s s _ refl (seen_key s (key_in c.front))

seen_leave : (test : Exchange → Bool) (s : State) → seen (leave test s) ≡ seen s
unfolding leave forsake
seen_leave test s = refl

-- ---- what is made of the clients

-- that one alone is changed so
abbrev IsChangedBy : ℕ → (Client → Client) → State → State → Type 0
IsChangedBy n f s t = seen t ≡ (s.settings.name, change (is_client n) f s.clients)

changed_on : (n : ℕ) (f : Client → Client) (r s t : State) → seen s ≡ seen r → IsChangedBy n f s t → IsChangedBy n f r t
changed_on n f r s t same is = is ∙ ap (λ (p : Bytes × List Client). (p.0, change (is_client n) f p.1)) same

page_changes : (c : Client) (status : ℕ) (s : State) → IsChangedBy c.number (refused_with status) s (refuse c status s)
unfolding refuse
page_changes c status s =
    seen_swept (leave (is_of c.number) (on_client c.number (refused_with status) s)) ∙ seen_leave (is_of c.number) (on_client c.number (refused_with status) s) ∙ seen_on c.number (refused_with status) s

page_decided : (c : Client) (status : ℕ) (s : State) → IsChangedBy c.number (refused_with status) s (decided c (Refuse status) s)
unfolding decided decided_by
page_decided c status s = changed_on c.number (refused_with status) s (enter_row c (Refuse status) s) (refuse c status (enter_row c (Refuse status) s)) (seen_entered c (Refuse status) s) (page_changes c status (enter_row c (Refuse status) s))

seen_begun : (e : Exchange) (s : State) → seen (begin_exchange e s) ≡ seen s
unfolding begin_exchange add_exchange
seen_begun e s = seen_leave (λ x. is_some_with (λ n. is_of n x) e.asker) s

ask_changes : (c : Client) (d : Decision) (head : Request) (key : Key) (kind : AskKind) (s : State) → IsChangedBy c.number (asking_with d) s (ask_for c d head key kind s)
unfolding ask_for
ask_changes c d head key kind s =
    let left : State = leave (is_of c.number) (on_client c.number (asking_with d) s) in
    let e : Exchange = new_exchange s c head key d kind in
    seen_swept (begin_exchange e left) ∙ seen_begun e left ∙ seen_leave (is_of c.number) (on_client c.number (asking_with d) s) ∙ seen_on c.number (asking_with d) s

kind_changes : (c : Client) (d : Decision) (head : Request) (key : Key) (s : State) (o : Option AskKind) → is_some o ≡ true → IsChangedBy c.number (asking_with d) s (elim o as (λ x. State) [ None ↦ s | Some kind ↦ ask_for c d head key kind s ])
kind_changes c d head key s None there = absurd (cc there)
kind_changes c d head key s (Some kind) there = ask_changes c d head key kind s

as_changes : (c : Client) (d : Decision) (head : Request) (key : Key) (s : State) → is_some (kind_of head (row_for s head (text_of key)) d) ≡ true → IsChangedBy c.number (asking_with d) s (ask_as c d head key s)
unfolding ask_as
as_changes c d head key s there = kind_changes c d head key s (kind_of head (row_for s head (text_of key)) d) there

key_changes : (c : Client) (d : Decision) (head : Request) (s : State) (key : Result Key TargetFault) → (elim key as (λ x. Bool) [ Ok k ↦ is_some (kind_of head (row_for s head (text_of k)) d) | Err fault ↦ false ]) ≡ true
    → IsChangedBy c.number (asking_with d) s (elim key as (λ x. State) [ Ok k ↦ ask_as c d head k s | Err fault ↦ s ])
key_changes c d head s (Ok k) there = as_changes c d head k s there
key_changes c d head s (Err fault) there = absurd (cc there)

front_changes : (c : Client) (d : Decision) (s : State) (front : Front) → is_some_with (λ (r : Parsed). elim r.key as (λ x. Bool) [ Ok k ↦ is_some (kind_of r.head (row_for s r.head (text_of k)) d) | Err fault ↦ false ]) (parsed_in front) ≡ true
    → IsChangedBy c.number (asking_with d) s (elim front as (λ x. State) [ NoHeadYet ↦ s | NoHead status ↦ s | IsRequest r ↦ elim r.key as (λ x. State) [ Ok k ↦ ask_as c d r.head k s | Err fault ↦ s ] ])
front_changes c d s NoHeadYet there = absurd (cc there)
front_changes c d s (NoHead status) there = absurd (cc there)
front_changes c d s (IsRequest r) there = key_changes c d r.head s r.key there

origin_changes : (c : Client) (d : Decision) (s : State) → has_ask s c d ≡ true → IsChangedBy c.number (asking_with d) s (ask_origin c d s)
unfolding ask_origin
origin_changes c d s there = front_changes c d s c.front there

asks_of : (c : Client) (d : Decision) (s : State) → is_ask d ≡ true → decided_by c d s ≡ ask_origin c d s
unfolding decided_by
asks_of c (Refuse status) s is = absurd (cc is)
asks_of c (Hit from to) s is = absurd (cc is)
asks_of c (Part from to) s is = absurd (cc is)
asks_of c Head s is = absurd (cc is)
asks_of c NotModified s is = absurd (cc is)
asks_of c Unsatisfiable s is = absurd (cc is)
asks_of c Relay s is = absurd (cc is)
asks_of c Validate s is = refl
asks_of c Fetch s is = refl
asks_of c Pass s is = refl

ask_decided : (c : Client) (d : Decision) (s : State) → is_ask d ≡ true → has_ask (enter_row c d s) c d ≡ true → IsChangedBy c.number (asking_with d) s (decided c d s)
unfolding decided
ask_decided c d s is there =
    changed_on c.number (asking_with d) s (enter_row c d s) (decided_by c d (enter_row c d s)) (seen_entered c d s) (ap seen (asks_of c d (enter_row c d s) is) ∙ origin_changes c d (enter_row c d s) there)

with_changes : (c : Client) (r : Reply) (x : Instance) (s : State) → IsChangedBy c.number (answering_with r) s (follow_with c r x s)
unfolding follow_with
with_changes c r x s =
    seen_swept (leave (λ e. is_of c.number e && not (serves x r e)) (on_client c.number (answering_with r) s)) ∙ seen_leave (λ e. is_of c.number e && not (serves x r e)) (on_client c.number (answering_with r) s) ∙ seen_on c.number (answering_with r) s

row_changes : (c : Client) (d : Decision) (id : ℕ) (s : State) (o : Option Instance) → option_map (λ (x : Instance). x.id) o ≡ Some id
    → IsChangedBy c.number (answering_with (reply_by d (Some id))) s (elim o as (λ x. State) [ None ↦ s | Some x ↦ follow_with c (reply_by d (Some x.id)) x s ])
row_changes c d id s None there = absurd (cc there)
row_changes c d id s (Some x) there =
    subst (λ (o : Option ℕ). IsChangedBy c.number (answering_with (reply_by d o)) s (follow_with c (reply_by d (Some x.id)) x s)) there (with_changes c (reply_by d (Some x.id)) x s)

follow_row_changes : (c : Client) (d : Decision) (id : ℕ) (key : Bytes) (s : State) → option_map (λ (x : Instance). x.id) (row s key) ≡ Some id → IsChangedBy c.number (answering_with (reply_by d (Some id))) s (follow_row c d key s)
unfolding follow_row
follow_row_changes c d id key s there = row_changes c d id s (row s key) there

keyed_changes : (c : Client) (d : Decision) (id : ℕ) (s : State) (o : Option Key) → (elim o as (λ x. Option ℕ) [ None ↦ None | Some key ↦ option_map (λ (x : Instance). x.id) (row s (text_of key)) ]) ≡ Some id
    → IsChangedBy c.number (answering_with (reply_by d (Some id))) s (elim o as (λ x. State) [ None ↦ s | Some key ↦ follow_row c d (text_of key) s ])
keyed_changes c d id s None there = absurd (cc there)
keyed_changes c d id s (Some key) there = follow_row_changes c d id (text_of key) s there

follow_changes : (c : Client) (d : Decision) (id : ℕ) (s : State) → row_of_key s c ≡ Some id → IsChangedBy c.number (answering_with (reply_by d (Some id))) s (follow c d s)
unfolding follow
follow_changes c d id s there = keyed_changes c d id s (key_in c.front) there

follows_of : (c : Client) (d : Decision) (s : State) → is_by_row d ≡ true → decided_by c d s ≡ follow c d s
unfolding decided_by
follows_of c (Refuse status) s is = absurd (cc is)
follows_of c (Hit from to) s is = refl
follows_of c (Part from to) s is = refl
follows_of c Head s is = refl
follows_of c NotModified s is = refl
follows_of c Unsatisfiable s is = refl
follows_of c Relay s is = absurd (cc is)
follows_of c Validate s is = absurd (cc is)
follows_of c Fetch s is = absurd (cc is)
follows_of c Pass s is = absurd (cc is)

follow_decided : (c : Client) (d : Decision) (id : ℕ) (s : State) → is_by_row d ≡ true → row_of_key (enter_row c d s) c ≡ Some id → IsChangedBy c.number (answering_with (reply_by d (Some id))) s (decided c d s)
unfolding decided
follow_decided c d id s is there =
    changed_on c.number (answering_with (reply_by d (Some id))) s (enter_row c d s) (decided_by c d (enter_row c d s)) (seen_entered c d s) (ap seen (follows_of c d (enter_row c d s) is) ∙ follow_changes c d id (enter_row c d s) there)

relay_decided : (c : Client) (s : State) → IsChangedBy c.number (answering_with (reply_by Relay None)) s (decided c Relay s)
unfolding decided decided_by relay
relay_decided c s =
    let t : State = on_client c.number (answering_with (reply_by Relay None)) (enter_row c Relay s) in
    changed_on c.number (answering_with (reply_by Relay None)) s (enter_row c Relay s) (swept t) (seen_entered c Relay s) (seen_swept t ∙ seen_on c.number (answering_with (reply_by Relay None)) (enter_row c Relay s))

-- ---- the seat of that client

same_request : (front : SeatFront) (f : Front) → ShowsFront front f → is_some (asked_in front) ≡ is_some (parsed_in f)
same_request NoneYet NoHeadYet shows = refl
same_request (NoneThere status) (NoHead other) shows = refl
same_request (IsThere a) (IsRequest r) shows = refl
same_request front f shows = absurd shows

may_decide : (number : ℕ → ℕ) (name : Bytes) (owed : List Bytes) (seat : Seat) (c : Client) → ShowsOpen number name owed seat c → IsOpen seat → expects_in (asked_in seat.front) ≡ expects_of c.front → MayBeDecided seat c
may_decide number name owed seat c shows open_seat expects = record {
  unbegun = sym (begun number name owed seat c shows) ∙ open_seat.unbegun;
  first = ap₂ (λ (a b : Bool). a || b) (sym (undecided number name owed seat c shows)) (sym (same_request seat.front c.front shows.front)) ∙ open_seat.first;
  expects = expects;
}

-- ---- the decision is taken

taken_is : (n : ℕ) (d : Decision) (c : Client) (s : State) → client s n ≡ Some c → take_decision n d s ≡ regained (record (decided c d s) { forgotten = []; has_made_room = None })
unfolding take_decision
taken_is n d c s found = ap (λ (o : Option Client). elim o as (λ x. State) [ None ↦ s | Some y ↦ regained (record (decided y d s) { forgotten = []; has_made_room = None }) ]) found

goes_by_room : (number : ℕ → ℕ) (s : State) (n index : ℕ) (d : Decision) (owed : List Bytes) (seat : Seat) (seats : List Seat) (room : Option ℕ) → s.has_made_room ≡ room → IsToTake number owed n index d seat seats s → Goes s (Noted (Taken n index d)) (take_decision n d (in_phase Deciding s))
goes_by_room number s n index d owed seat seats (Some who) made to = goes_taken_behind s n index d who made to.taking to.may (to.behind (ap is_some made))
goes_by_room number s n index d owed seat seats None none to = goes_taken s n index d none to.taking to.may

taken_leads : (number : ℕ → ℕ) (owed : List Bytes) (n i index : ℕ) (d : Decision) (seats : List Seat) (seat new : Seat) (f : Client → Client) (c : Client) (s : State) → client s n ≡ Some c → Sits n i seats seat → IsToTake number owed n index d seat seats s
    → IsChangedBy c.number f (in_phase Deciding s) (decided c d (in_phase Deciding s)) → (ShowsSeat number s.settings.name owed seat c → ShowsSeat number s.settings.name owed new (f c)) → IsTaken number owed n index d (slice_set seats i new) c s
taken_leads number owed n i index d seats seat new f c s there sits to leads shows =
    let led : seen (decided c d (in_phase Deciding s)) ≡ (s.settings.name, change (is_client n) f s.clients) = leads ∙ ap (λ (m : ℕ). (s.settings.name, change (is_client m) f s.clients)) (number_found n s.clients c there) in (
      leads_on refl (goes_by_room number s n index d owed seat seats s.has_made_room refl to) (regained (taken c d s)) (taken_is n d c (in_phase Deciding s) there),
      subst (λ (p : Bytes × List Client). AreShown number p.0 owed (slice_set seats i new) p.1) (sym led) (changes_there number s.settings.name owed seats s.clients n i new f to.shown sits.at (λ other x at found here. its x other at found here)),
    )
  where
    its : (x : Client) (other : Seat) → slice_get seats i ≡ Some other → client s n ≡ Some x → ShowsSeat number s.settings.name owed other x → ShowsSeat number s.settings.name owed new (f x)
    its x other at found here =
        let same : x ≡ c = let e : Some x ≡ Some c = sym found ∙ there in cc e in
        let own : ShowsSeat number s.settings.name owed seat c = subst (λ (y : Client). ShowsSeat number s.settings.name owed seat y) same (subst (λ (y : Seat). ShowsSeat number s.settings.name owed y x) (same_seat seat other (sym sits.there ∙ at)) here) in
        subst (λ (y : Client). ShowsSeat number s.settings.name owed new (f y)) (sym same) (shows own)

-- ---- a page

pub pages_lead : PagesLead
pages_lead number n i index status account owed seats seat c s there sits open_seat has fits to =
    taken_leads number owed n i index (Refuse status) seats seat (record (paged status (with_interim seat)) { account = account }) (refused_with status) c s there sits to (page_decided c status (in_phase Deciding s))
    (λ shows.
    let going : c.is_closing ≡ false = sym shows.closing ∙ sits.going in
    pages number status account s.settings.name owed seat c shows going (may_decide number s.settings.name owed seat c (shows.going going) open_seat (to.expects c there)) has fits)

-- ---- an ask

pub asks_lead : AsksLead
asks_lead number n i index d owed seats seat c s there sits open_seat is isnt to =
    taken_leads number owed n i index d seats seat (asking (is_pass d) (with_interim seat)) (asking_with d) c s there sits to.take (ask_decided c d (in_phase Deciding s) is (to.asks c there))
    (λ shows.
    let going : c.is_closing ≡ false = sym shows.closing ∙ sits.going in
    asks number d s.settings.name owed seat c shows going (may_decide number s.settings.name owed seat c (shows.going going) open_seat (to.take.expects c there)) isnt)

-- ---- a reply by the row

pub follows_lead : FollowsLead
follows_lead number n i index d id owed seats seat c s there sits open_seat is isnt to =
    taken_leads number owed n i index d seats seat (answering d (Some id) (span_of d) (with_interim seat)) (answering_with (reply_by d (Some (number id.life)))) c s there sits to.take
    (follow_decided c d (number id.life) (in_phase Deciding s) is (to.known c there))
    (λ shows.
    let going : c.is_closing ≡ false = sym shows.closing ∙ sits.going in
    answers number d (Some id) s.settings.name owed seat c shows going (may_decide number s.settings.name owed seat c (shows.going going) open_seat (to.take.expects c there)) isnt)

pub relays_lead : RelaysLead
relays_lead number n i index owed seats seat c s there sits open_seat isnt to =
    taken_leads number owed n i index Relay seats seat (answering Relay None (0, 0) (with_interim seat)) (answering_with (reply_by Relay None)) c s there sits to (relay_decided c (in_phase Deciding s))
    (λ shows.
    let going : c.is_closing ≡ false = sym shows.closing ∙ sits.going in
    answers number Relay None s.settings.name owed seat c shows going (may_decide number s.settings.name owed seat c (shows.going going) open_seat (to.expects c there)) isnt)
