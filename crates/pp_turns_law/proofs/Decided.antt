-- What is decided for a seat is what is decided for its client.
use Rattle.std.proofs.Common.{◌≡◌, ◌⊎◌, inl, inr, refl, sym, subst, ap, ap₂, ◌∙◌, ℕ, Bool, true, false, length, nat_le, List, [], ◌∷◌, ◌++◌, Option, Some, None, option_map}
use Rattle.pp_ask.specs.Texts.{ask_text}
use Rattle.pp_ask.specs.declared.kind.AskKind.{AskKind}
use Rattle.pp_ask.specs.declared.kind.AskKind.TheVariants.{Whole as AsWhole, Range as AsRange, Check as AsCheck}
use Rattle.pp_cache.specs.Memory.{Memory}
use Rattle.pp_cache_law.proofs.Alike.{rows_of}
use Rattle.pp_cache_law.specs.Pairs.{AreBoth}
use Rattle.pp_cache_law.specs.Reads.{AreFronts}
use Rattle.pp_cache_law.specs.Tables.{ShowsInstance, ShowsTable}
use Rattle.pp_client.specs.Requests.{Front as Heading, Heard, Asked, current_of, fault_of, front_in as heading_in, front_of as heading_of}
use Rattle.pp_flow.specs.declared.errand.Kind.{Kind}
use Rattle.pp_flow.specs.declared.errand.Kind.TheVariants.{Check}
use Rattle.pp_flow_law.specs.Tables.{Leaving}
use Rattle.pp_framing.specs.Framing.{request_rule_of}
use Rattle.pp_fresh.specs.declared.aging.Times.{Times}
use Rattle.pp_head.specs.Read.{Read, Whole, TooLong, Bad, More}
use Rattle.pp_head.specs.Request.{Request, request_at}
use Rattle.pp_law.specs.Decisions.{begun_now, decide as decide_by_law, decide_head, if_fits as if_fits_law, kind_of as kind_of_law, lent}
use Rattle.pp_law.specs.Lists.{Bytes}
use Rattle.pp_law.specs.Requests.{Front, NoHeadYet, NoHead, IsRequest, Parsed, front_in, front_of, parsed_of}
use Rattle.pp_law.specs.State.{State, Client, Entry, Instance as Known}
use Rattle.pp_law.specs.Table.{is_span_held as held_by_law, row_on_disk, of_entry, of_instance, row, row_for}
use Rattle.pp_objects.specs.Instances.{Instance, id_of, row_of}
use Rattle.pp_plan.specs.Decision.{decision}
use Rattle.pp_plan.specs.Fetch.{fetch_range}
use Rattle.pp_plan.specs.Row.{Row}
use Rattle.pp_plan.specs.declared.table.Begun.{Begun}
use Rattle.pp_peers.specs.declared.peers.Peer.{Peer}
use Rattle.pp_seats.specs.declared.front.Front.{Front as SeatFront}
use Rattle.pp_seats.specs.declared.front.Front.TheVariants.{NoHeadYet as NoneYet, NoHead as NoneThere, Request as IsThere}
use Rattle.pp_seats.specs.declared.key.Key.{Key as OwnedKey}
use Rattle.pp_seats.specs.declared.seat.Seat.{Seat}
use Rattle.pp_seats.specs.Dues.{begun_in, refused_for, refused_in}
use Rattle.pp_seats.specs.Fetches.{asked_as, fetch_by}
use Rattle.pp_seats.specs.Heads.{asked_in, owned_in}
use Rattle.pp_seats_law.proofs.HeadDues.{brought_counts_so, heads, rows_decide}
use Rattle.pp_seats_law.specs.Dues.{IsByRow}
use Rattle.pp_seats_law.specs.Fronts.{IsHeadTaken, ShowsFront, ShowsHeard}
use Rattle.pp_seats_law.specs.Replies.{source_number}
use Rattle.pp_seats_law.specs.Seats.{ShowsOpen}
use Rattle.pp_target.specs.Key.{Key, key_in}
use Rattle.pp_text.specs.Fields.{Field}
use Rattle.pp_valid.specs.declared.version.Version.{Version}
use Rattle.pp_world.specs.declared.note.Decision.{Decision}
use Rattle.pp_world.specs.declared.note.Decision.TheVariants.{Refuse, Hit, Part, Head, NotModified, Unsatisfiable, Relay, Validate, Fetch, Pass}
use Rattle.pp_state.specs.Bringing.{is_span_held as held_in_turn}
use Rattle.pp_decide.specs.Decide.{decide_for, decide_front, decide_request, if_fits, kind_of, row_seen, shown_span}
use Rattle.pp_state.specs.declared.state.State.{State as Turn}
use Rattle.pp_turns_law.proofs.Held.{held_same, shown_within}
use Rattle.pp_turns_law.specs.Dues.{DecidesAsTheLaw}
use Rattle.pp_turns_law.specs.Turns.{IsDecidable, ShowsTurn}

-- ---- what is asked

fetch_same : (range : Option (ℕ × Option ℕ)) → asked_as (fetch_by range) ≡ (elim range as (λ c. AskKind) [ None ↦ AsWhole | Some r ↦ AsRange r.0 r.1 ])
fetch_same None = refl
fetch_same (Some r) = refl

check_same : (row : Option Row) → option_map asked_as (option_map (λ (v : Version). Check v.tag) (option_map (λ (r : Row). r.version) row)) ≡ option_map (λ (r : Row). AsCheck (lent r.version.tag)) row
check_same None = refl
check_same (Some r) = refl

pub kinds : (head : Request) (row : Option Row) (d : Decision) → option_map asked_as (kind_of head (option_map (λ (r : Row). r.version) row) d) ≡ kind_of_law head row d
kinds head row Fetch = ap (λ (k : AskKind). Some k) (fetch_same (fetch_range head.fields))
kinds head row Validate = check_same row
kinds head row Pass = refl
kinds head row (Refuse status) = refl
kinds head row (Hit from to) = refl
kinds head row (Part from to) = refl
kinds head row Head = refl
kinds head row NotModified = refl
kinds head row Unsatisfiable = refl
kinds head row Relay = refl

pub fits_same : (p : Turn) (s : State) (head : Request) (key : OwnedKey) (kind : Option Kind) (d : Decision) → p.name.items ≡ s.settings.name → if_fits p head key kind d ≡ if_fits_law s head (key_in key.text.items key.place) (option_map asked_as kind) d
fits_same p s head key None d name = refl
fits_same p s head key (Some kind) d name =
    ap (λ (n : Bytes). elim (nat_le (length (ask_text (asked_as kind) head (key_in key.text.items key.place) n)) 16384) as (λ c. Decision) [ true ↦ d | false ↦ Refuse 431 ]) name

-- ---- the row

row_with : Version → List Field → Times → Bool → Row
row_with version fields times held = record { version = version; fields = fields; times = times; held = held }

seen_same : (number : ℕ → ℕ) (m : Memory) (s : State) (head : Request) (i : Instance) (x : Known) → ShowsTable number m s → AreFronts i.slot m.chunks → ShowsInstance number m s i x → row_seen m head i ≡ of_instance s head x
unfolding row_with
seen_same number m s head i x table fronts shows =
    ap (λ (v : Version). record (row_seen m head i) { version = v; held = held_in_turn (id_of i) (shown_span head v) m }) shows.version
    ∙ ap₂ (λ (fs : List Field) (h : Bool). row_with x.version fs i.times h) shows.fields (held_same number m s i x (shown_span head x.version) table fronts shows (shown_within head.fields x.version))
    ∙ ap (λ (t : Times). row_with x.version x.fields t (held_by_law s x (shown_span head x.version))) shows.times

abbrev row_by : State → Request → Bytes → Option Known → Option Row
row_by s head key o = elim o [ Some x ↦ Some (of_instance s head x) | None ↦ elim (row_on_disk s key) [ None ↦ None | Some e ↦ Some (of_entry head e) ] ]

rows_same : (number : ℕ → ℕ) (m : Memory) (s : State) (head : Request) (key : Bytes) (o : Option Instance) (q : Option Known) → ShowsTable number m s → ((slot : ℕ) → AreFronts slot m.chunks) → AreBoth (ShowsInstance number m s) o q → (q ≡ None → row_on_disk s key ≡ None)
    → option_map (row_seen m head) o ≡ row_by s head key q
rows_same number m s head key None None table fronts both kept = sym (ap (λ (e : Option Entry). elim e as (λ c. Option Row) [ None ↦ None | Some x ↦ Some (of_entry head x) ]) (kept refl))
rows_same number m s head key (Some i) (Some x) table fronts both kept = ap (λ (r : Row). Some r) (seen_same number m s head i x table (fronts i.slot) both)
rows_same number m s head key None (Some x) table fronts both kept = absurd both
rows_same number m s head key (Some i) None table fronts both kept = absurd both

ids_same : (number : ℕ → ℕ) (m : Memory) (s : State) (o : Option Instance) (q : Option Known) → AreBoth (ShowsInstance number m s) o q → source_number number (option_map id_of o) ≡ option_map (λ (x : Known). x.id) q
ids_same number m s None None both = refl
ids_same number m s (Some i) (Some x) both = ap (λ (n : ℕ). Some n) both.id
ids_same number m s None (Some x) both = absurd both
ids_same number m s (Some i) None both = absurd both

versions_seen : (m : Memory) (head : Request) (o : Option Instance) → option_map (λ (i : Instance). i.version) o ≡ option_map (λ (r : Row). r.version) (option_map (row_seen m head) o)
versions_seen m head None = refl
versions_seen m head (Some i) = refl

-- ---- by the row

unfoldable pub decide_with : State → Request → Key → Option Row → Begun → ℕ → Decision
decide_with s head key seen begun now = let d = decision head seen begun now in if_fits_law s head key (kind_of_law head seen d) d

by_row : (number : ℕ → ℕ) (p : Turn) (s : State) (name : Bytes) (seat : Seat) (c : Client) (head : Request) (key : OwnedKey) → p.name.items ≡ s.settings.name → p.now ≡ s.clock → ShowsTable number p.cache s → ((slot : ℕ) → AreFronts slot p.cache.chunks)
    → (row s key.text.items ≡ None → row_on_disk s key.text.items ≡ None) → begun_in seat.brought (option_map id_of (row_of key.text.items p.cache.instances)) ≡ begun_now s c key.text.items
    → decide_request p seat head key (row_of key.text.items p.cache.instances) ≡ decide_with s head (key_in key.text.items key.place) (row_for s head key.text.items) (begun_now s c key.text.items) s.clock
unfolding decide_with
by_row number p s name seat c head key names clock table fronts kept begun =
    let o : Option Instance = row_of key.text.items p.cache.instances in
    let seen : Option Row = option_map (row_seen p.cache head) o in
    let d : Decision = decision head seen (begun_in seat.brought (option_map id_of o)) p.now in
    let same : seen ≡ row_for s head key.text.items = rows_same number p.cache s head key.text.items o (row s key.text.items) table fronts (rows_of number p.cache s table key.text.items) kept in
    fits_same p s head key (kind_of head (option_map (λ (i : Instance). i.version) o) d) d names
    ∙ ap (λ (v : Option Version). if_fits_law s head (key_in key.text.items key.place) (option_map asked_as (kind_of head v d)) d) (versions_seen p.cache head o)
    ∙ ap (λ (k : Option AskKind). if_fits_law s head (key_in key.text.items key.place) k d) (kinds head seen d)
    ∙ ap₂ (λ (b : Begun) (n : ℕ). decide_with s head (key_in key.text.items key.place) seen b n) begun clock
    ∙ ap (λ (r : Option Row). decide_with s head (key_in key.text.items key.place) r (begun_now s c key.text.items) s.clock) same

-- ---- the request at the front

pub record IsAskedAs (heading : Heading) (head : Request) : Type 0 where
  pub fault : Option ℕ
  pub is : heading ≡ Asked head fault

read_as : (read : Read Request) (r : Parsed) → front_in read ≡ IsRequest r → IsAskedAs (heading_in read) r.head
read_as (Whole head) r is = let same : parsed_of head ≡ r = cc is in record { fault = fault_of (request_rule_of head.fields); is = ap (λ (q : Parsed). Asked q.head (fault_of (request_rule_of head.fields))) same }
read_as TooLong r is = absurd (cc is)
read_as Bad r is = absurd (cc is)
read_as More r is = absurd (cc is)

front_as : (head rest : Bytes) (r : Parsed) → IsHeadTaken head (IsRequest r) → front_of (head ++ rest) ≡ IsRequest r → IsAskedAs (heading_of (head ++ rest)) r.head
unfolding front_of
front_as [] rest r taken is = absurd taken
front_as (b ∷ head) rest r taken is = read_as (request_at ((b ∷ head) ++ rest)) r is

pub heard_as : (h : Heard) (front : Front) (heard : Bytes) (r : Parsed) → ShowsHeard h front heard → front ≡ IsRequest r → IsAskedAs (current_of h) r.head
heard_as h front heard r shows is =
    let same : ShowsHeard h (IsRequest r) heard = subst (λ (f : Front). ShowsHeard h f heard) is shows in
    front_as h.head h.rest r same.head same.is_front

-- ---- by its head, or by the row of its key

not_refused : (refusal : Option ℕ) (key : Option OwnedKey) → refused_for refusal key ≡ None → key ≡ None → ⊥
not_refused (Some status) key isnt is = absurd (cc isnt)
not_refused None None isnt is = absurd (cc isnt)
not_refused None (Some key) isnt is = absurd (cc is)

none_asked : (s : State) (c : Client) (front : SeatFront) (f : Front) → c.front ≡ f → ShowsFront front f → refused_in front ≡ None → owned_in (asked_in front) ≡ None → decide_by_law s c ≡ None
none_asked s c NoneYet NoHeadYet same shows isnt none = ap (λ (g : Front). elim g as (λ x. Option Decision) [ NoHeadYet ↦ None | NoHead status ↦ Some (Refuse status) | IsRequest r ↦ Some (decide_head s c r) ]) same
none_asked s c (NoneThere status) f same shows isnt none = absurd (cc isnt)
none_asked s c (IsThere a) f same shows isnt none = absurd (not_refused a.refusal a.key isnt none)
none_asked s c NoneYet (NoHead status) same shows isnt none = absurd shows
none_asked s c NoneYet (IsRequest r) same shows isnt none = absurd shows

refused_same : (s : State) (c : Client) (seat : Seat) (status : ℕ) → (Some status ≡ Some 500 → ⊥) → (status ≡ 500) ⊎ (decide_by_law s c ≡ Some (Refuse status)) → Some (Refuse status) ≡ decide_by_law s c
refused_same s c seat status not_memory (inl memory) = absurd (not_memory (ap (λ (n : ℕ). Some n) memory))
refused_same s c seat status not_memory (inr is) = sym is

of_key : (number : ℕ → ℕ) (l : Leaving) (peers : List Peer) (p : Turn) (s : State) (name : Bytes) (seat : Seat) (c : Client) (key : OwnedKey) → ShowsTurn number l peers p s → ShowsOpen number name [] seat c → IsDecidable number p s seat c
    → refused_in seat.front ≡ None → owned_in (asked_in seat.front) ≡ Some key → Some (decide_for p seat key) ≡ decide_by_law s c
unfolding decide_with
of_key number l peers p s name seat c key shows live may isnt is =
    let one : IsByRow s c (key_in key.text.items key.place) = rows_decide s key number name [] seat c live isnt is in
    let asked : IsAskedAs (current_of seat.client.heard) one.request.head = heard_as seat.client.heard c.front c.heard one.request live.heard one.front in
    let both : AreBoth (ShowsInstance number p.cache s) (row_of key.text.items p.cache.instances) (row s key.text.items) = rows_of number p.cache s shows.steps.shows.table.table key.text.items in
    let begun : begun_in seat.brought (option_map id_of (row_of key.text.items p.cache.instances)) ≡ begun_now s c key.text.items =
    brought_counts_so s (option_map id_of (row_of key.text.items p.cache.instances)) key.text.items number name [] seat c live may.brought (ids_same number p.cache s (row_of key.text.items p.cache.instances) (row s key.text.items) both) (may.apart key is) in
    ap (λ (h : Heading). Some (decide_front p seat key h)) asked.is
    ∙ ap (λ (d : Decision). Some d) (by_row number p s name seat c one.request.head key shows.name shows.clock shows.steps.shows.table.table (λ slot index. shows.bounded.fronts slot index) (may.kept key is) begun
    ∙ ap (λ (text : Bytes). decide_with s one.request.head (key_in key.text.items key.place) (row_for s one.request.head text) (begun_now s c text) s.clock) key.within.spelled)
    ∙ sym one.decides

by_front : (number : ℕ → ℕ) (l : Leaving) (peers : List Peer) (p : Turn) (s : State) (name : Bytes) (seat : Seat) (c : Client) (refused : Option ℕ) (owned : Option OwnedKey) → ShowsTurn number l peers p s → ShowsOpen number name [] seat c → IsDecidable number p s seat c
    → refused_in seat.front ≡ refused → owned_in (asked_in seat.front) ≡ owned
    → (elim refused as (λ x. Option Decision) [ Some status ↦ Some (Refuse status) | None ↦ option_map (decide_for p seat) owned ]) ≡ decide_by_law s c
by_front number l peers p s name seat c (Some status) owned shows live may refused is = refused_same s c seat status (λ memory. may.key (refused ∙ memory)) (heads s status number name [] seat c live refused)
by_front number l peers p s name seat c None None shows live may refused is = sym (none_asked s c seat.front c.front refl live.front refused is)
by_front number l peers p s name seat c None (Some key) shows live may refused is = of_key number l peers p s name seat c key shows live may refused is

pub decided : DecidesAsTheLaw
decided number l peers p s name seat c shows seen going may = by_front number l peers p s name seat c (refused_in seat.front) (owned_in (asked_in seat.front)) shows (seen.going going) may refl refl
