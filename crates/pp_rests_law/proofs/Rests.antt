-- Field by field, what a decision rests on.
use Rattle.std.proofs.Common.{◌≡◌, ◌⊎◌, ◌≤◌, ◌<◌, inl, inr, refl, sym, subst, ap, ap₂, ◌∙◌, ℕ, ◌+◌, ◌-◌, ◌^◌, Bool, true, false, not, ◌&&◌, ◌||◌, nat_lt, filter, filter_map, length, List, [], Option, Some, None, option_map, Result, Ok, Err, arith}
use Rattle.std.proofs.lemmas.Bool.Decides.{nat_tests}
use Rattle.std.specs.Prelude.{is_some, option_and_then, slice_get}
use Rattle.pp_turns_law.specs.Decides.{FollowsWhatIsThere}
use Rattle.pp_turns_law.specs.Follows.{FollowsNoRow}
use Rattle.pp_turns_law.specs.Ways.{left_for}
use Rattle.pp_deciding_law.proofs.Framed.{row_beside}
use Rattle.pp_deciding_law.specs.Takes.{MayDoNext, room_made, to_take}
use Rattle.pp_due.specs.Entering.{key_at}
use Rattle.pp_due.specs.Due.{cut_of}
use Rattle.pp_flow_law.proofs.Told.{counts}
use Rattle.pp_flow_law.specs.Tables.{none_leaves}
use Rattle.pp_law.specs.Deciding.{is_for_memory}
use Rattle.pp_law.specs.Due.{first_due}
use Rattle.pp_law.specs.Leaving.{forgets_next}
use Rattle.pp_law.specs.Lists.{Bytes}
use Rattle.pp_law.specs.Opening.{is_at}
use Rattle.pp_law.specs.Requests.{Front, NoHead, key_in, parsed_in}
use Rattle.pp_law.specs.Stages.{is_page}
use Rattle.pp_law.specs.State.{State, Client, Entry, Exchange, Instance as Known, Phase, Deciding, DecidingAgain}
use Rattle.pp_law.specs.Table.{add_row, forget, idle_row, is_instance}
use Rattle.pp_laws.proofs.Lists.{in_filter, in_push}
use Rattle.pp_laws.specs.Runs.{IsIn}
use Rattle.pp_laws_bounds.specs.Bounds.{belongs_to_row}
use Rattle.pp_laws_coming.proofs.Laws.{asks_told}
use Rattle.pp_laws_coming.specs.Coming.{IsToldOn, is_behind_evicting}
use Rattle.pp_laws_left.proofs.Fine.{Places, all_of}
use Rattle.pp_laws_left.proofs.Turns.{fine_on}
use Rattle.pp_laws_turn.proofs.Laws.{sound_turns}
use Rattle.pp_laws_turn.specs.SoundTurn.{IsSoundTurn}
use Rattle.pp_obeys.proofs.Come.{same_phase}
use Rattle.pp_objects.specs.Instances.{Instance, row_of}
use Rattle.pp_reply.specs.Texts.{has_page}
use Rattle.pp_seats.specs.Dues.{is_refused_in}
use Rattle.pp_seats.specs.Heads.{asked_in, owned_in}
use Rattle.pp_seats.specs.declared.key.Key.{Key as OwnedKey}
use Rattle.pp_seats.specs.declared.seat.Seat.{Seat}
use Rattle.pp_seats_law.proofs.Begins.{may_begin}
use Rattle.pp_client.specs.Clients.{IsAnswerable}
use Rattle.pp_client.specs.Replies.{has_begun}
use Rattle.pp_client.specs.declared.reply.Stage.{Stage as SaidStage}
use Rattle.pp_state.specs.Ends.{parts}
use Rattle.pp_state.specs.Passing.{may_answer}
use Rattle.pp_state.specs.Pins.{busy_row, exchanges_of}
use Rattle.pp_state.specs.declared.state.State.{State as Turn}
use Rattle.pp_steps.specs.Evicting.{given_way, row_in_way, without_row}
use Rattle.pp_take.specs.Deciding.{afforded, ask_at, ask_for, asks_origin, by_seat, may_ask, may_ask_for}
use Rattle.pp_target.specs.Key.{Key, text_of}
use Rattle.pp_target.specs.declared.target.TargetFault.{TargetFault}
use Rattle.pp_turns_law.specs.Firsts.{with_row_if}
use Rattle.pp_turns_law.specs.Rows.{kept_alone, with_entry}
use Rattle.pp_world.specs.declared.note.Decision.{Decision}
use Rattle.pp_world.specs.declared.note.Decision.TheVariants.{Refuse, Hit, Part, Head, NotModified, Unsatisfiable, Relay, Validate, Fetch, Pass}
use Rattle.pp_rests_law.proofs.Asks.{asks_no_page, some_asked}
use Rattle.pp_rests_law.proofs.Busy.{few_busy}
use Rattle.pp_rests_law.proofs.FrontTurns.{heads_paged}
use Rattle.pp_rests_law.proofs.LateLaws.{few_rows}
use Rattle.pp_rests_law.proofs.Moment.{IsFound, is_found}
use Rattle.pp_rests_law.proofs.Old.{old}
use Rattle.pp_rests_law.proofs.Pages.{asked, first, has_its_page, is_not_for_memory, is_paged, page_room}
use Rattle.pp_rests_law.proofs.Plans.{IsNamed, decided_else, named_else}
use Rattle.pp_rests_law.proofs.Rows.{AreRowsFrom, follows_none}
use Rattle.pp_rests_law.proofs.Way.{follows_there, in_way, row_there}
use Rattle.pp_rests_law.specs.Rests.{DecisionsRest}

-- ---- a kept row that comes in leaves all else

entry_next : (text : Bytes) (o : Option Entry) (s : State) → (with_entry text o s).next_exchange ≡ s.next_exchange
unfolding add_row
entry_next text None s = refl
entry_next text (Some e) s = refl

row_next : (text : Option Bytes) (s : State) → (with_row_if text s).next_exchange ≡ s.next_exchange
row_next None s = refl
row_next (Some text) s = entry_next text (kept_alone s text) s

-- each instance with it was there, or is made just now; and a row that leaves makes none
entry_from : (text : Bytes) (o : Option Entry) (s : State) → AreRowsFrom s (with_entry text o s)
unfolding add_row
entry_from text None s x i = inl i
entry_from text (Some e) s x i = by (in_push x s.instances _ i)
  where
    by : IsIn x s.instances ⊎ (x ≡ record { id = s.next_instance; key = text; version = e.version; fields = e.fields; times = e.times; is_retired = false; is_new = false }) → IsIn x s.instances ⊎ (x.id ≡ s.next_instance)
    by (inl old) = inl old
    by (inr new) = inr (ap (λ (y : Known). y.id) new)

row_from : (text : Option Bytes) (s : State) → AreRowsFrom s (with_row_if text s)
row_from None s x i = inl i
row_from (Some text) s x i = entry_from text (kept_alone s text) s x i

-- the instances of before, at the same next one
record IsLess (s t : State) : Type 0 where
  rows : (x : Known) → IsIn x t.instances → IsIn x s.instances
  next : t.next_instance ≡ s.next_instance

left_less : (x : Known) (s : State) → IsLess s (left_for x s)
unfolding forget
left_less x s = record { rows = λ y i. (in_filter (λ z. not (is_instance x.id z)) y s.instances i).0; next = refl }

made_less : (d : Decision) (s : State) → IsLess s (room_made d s)
made_less d s = by (is_for_memory d || not (forgets_next s (first_due s))) (idle_row s)
  where
    by : (b : Bool) (o : Option Known) → IsLess s (elim b as (λ t. State) [ true ↦ s | false ↦ elim o as (λ t. State) [ None ↦ s | Some x ↦ left_for x s ] ])
    by true o = record { rows = λ x i. i; next = refl }
    by false None = record { rows = λ x i. i; next = refl }
    by false (Some x) = left_less x s

taken_from : (text : Option Bytes) (d : Decision) (s : State) → AreRowsFrom s (with_row_if text (to_take d s))
taken_from text d s x i = by (row_from text (to_take d s) x i)
  where
    by : IsIn x (room_made d s).instances ⊎ (x.id ≡ (room_made d s).next_instance) → IsIn x s.instances ⊎ (x.id ≡ s.next_instance)
    by (inl old) = inl ((made_less d s).rows x old)
    by (inr new) = inr (new ∙ (made_less d s).next)

-- ---- small tests

some_mapped : {A B : Type 0} (f : A → B) (o : Option A) → is_some (option_map f o) ≡ is_some o
some_mapped f None = refl
some_mapped f (Some x) = refl

and_no : (b : Bool) → (b && false) ≡ false
and_no true = refl
and_no false = refl

room_for_one : (n begun : ℕ) → n ≤ 768 → begun < 2 ^ 64 - 1 → (nat_lt n 1024 && nat_lt begun 18446744073709551615) ≡ true
room_for_one n begun few near = ap₂ (λ (a b : Bool). a && b) one two
  where
    one : nat_lt n 1024 ≡ true
    one = grind (arith, nat_tests, few)

    two : nat_lt begun 18446744073709551615 ≡ true
    two = grind (arith, nat_tests, near)

is_phase : (p : Phase) (s : State) → is_at p s ≡ true → s.phase ≡ p
is_phase p s at = sym (same_phase p s.phase at)

-- ---- of a decision that is found

module _ (i : ℕ) (due : Decision) (p q : Turn) (s : State) (seat : Seat) (c : Client) (sound : IsSoundTurn s) (h : IsFound i due p q s seat c) where
  abbrev text : Option Bytes
  text = key_at i p

  -- ---- an ask has memory

  named_key : is_page due ≡ false → is_some (owned_in (asked_in seat.front)) ≡ true
  named_key page =
      let named : IsNamed c = named_else s c due page (decided_else s c due page h.is_due) in
      let key : key_in c.front ≡ Some named.key =
      ap (λ (f : Front). key_in f) named.front ∙ ap (λ (k : Result Key TargetFault). elim k as (λ t. Option Key) [ Ok key ↦ Some key | Err fault ↦ None ]) named.names in
      sym (some_mapped (λ (k : OwnedKey). k.text.items) (owned_in (asked_in seat.front))) ∙ sym (ap (λ (o : Option Bytes). is_some o) h.keyed) ∙ some_mapped text_of (key_in c.front) ∙ ap (λ (o : Option Key). is_some o) key

  has_room : s.next_exchange < 2 ^ 64 - 1 → may_ask q.flow ≡ true
  has_room near =
      let same : (length q.flow.waiting + length q.flow.placed ≡ length (with_row_if text s).exchanges) × (q.flow.begun ≡ (with_row_if text s).next_exchange) = counts h.number none_leaves q.flow (with_row_if text s) h.flow in
      ap₂ (λ (n b : ℕ). nat_lt n 1024 && nat_lt b 18446744073709551615) (same.0 ∙ ap (λ (es : List Exchange). length es) (row_beside text s).exchanges) (same.1 ∙ row_next text s)
      ∙ room_for_one (length s.exchanges) s.next_exchange (sound.bounded.exchanges h.running) near

  affords : s.next_exchange < 2 ^ 64 - 1 → afforded i due q ≡ due
  affords near = by (asks_origin due) refl
    where
      by : (b : Bool) → asks_origin due ≡ b → afforded i due q ≡ due
      by false asks = ap (λ (b : Bool). elim (b && not (may_ask_for i q)) as (λ t. Decision) [ true ↦ Refuse 500 | false ↦ due ]) asks
      by true asks =
          let key : is_some (option_and_then (λ (x : Seat). owned_in (asked_in x.front)) (slice_get q.seats.items i)) ≡ true =
          ap (λ (o : Option Seat). is_some (option_and_then (λ (x : Seat). owned_in (asked_in x.front)) o)) h.here ∙ named_key (asks_no_page due asks) in
          let may : may_ask_for i q ≡ true = ap₂ (λ (a b : Bool). a && b) key (has_room near) in
          ap₂ (λ (a b : Bool). elim (a && not b) as (λ t. Decision) [ true ↦ Refuse 500 | false ↦ due ]) asks may

  -- ---- one for want of memory brings no row in

  bare : is_for_memory due ≡ true → text ≡ None
  bare memory = by (is_refused_in seat.brought) refl
    where
      by : (b : Bool) → is_refused_in seat.brought ≡ b → text ≡ None
      by true refused =
          h.text
          ∙ ap (λ (b : Bool). elim (not (is_some (cut_of p seat)) && not b) as (λ t. Option Bytes) [ true ↦ option_map (λ (k : OwnedKey). k.text.items) (owned_in (asked_in seat.front)) | false ↦ None ]) refused
          ∙ ap (λ (b : Bool). elim b as (λ t. Option Bytes) [ true ↦ option_map (λ (k : OwnedKey). k.text.items) (owned_in (asked_in seat.front)) | false ↦ None ]) (and_no (not (is_some (cut_of p seat))))
      by false given =
          let not_so : not (is_for_memory due) ≡ true = is_not_for_memory h.number q.name.items [] seat.client.reply seat.course seat.brought seat.front s c due given h.own.fate h.own.front h.ready.key h.is_due in
          let both : false ≡ true = sym (ap not memory) ∙ not_so in
          absurd (cc both)

  -- ---- as many bodies as may come

  busy : length (filter_map busy_row (exchanges_of q.flow)) ≤ 64
  busy = few_busy h.number none_leaves q.flow (with_row_if text s) h.flow (subst (λ (es : List Exchange). length (filter belongs_to_row es) ≤ 64) (sym (row_beside text s).exchanges) sound.bounded.bodies)

  -- ---- what it follows is there

  clients_in : IsIn c (with_row_if text s).clients
  clients_in = subst (λ (cs : List Client). IsIn c cs) (sym (row_beside text s).clients) h.there

  there : FollowsWhatIsThere i (parts (given_way due i q))
  there = follows_there h.number q.name.items i q (with_row_if text s) seat c h.table h.here h.own clients_in h.going h.ready.follows (row_in_way due i q) (in_way i due q)

  same_row : (key : OwnedKey) → owned_in (asked_in seat.front) ≡ Some key → row_of key.text.items (given_way due i q).cache.instances ≡ row_of key.text.items q.cache.instances
  same_row key owned = row_there h.number q.name.items i q (with_row_if text s) seat c h.table h.here h.own clients_in h.going h.ready.follows (row_in_way due i q) (in_way i due q) key owned

  same_seats : (o : Option Instance) → slice_get (without_row o q).seats.items i ≡ Some seat
  same_seats None = h.here
  same_seats (Some j) = h.here

  -- ---- what it asks fits

  asks : asks_origin due ≡ true → is_some (ask_at q.name.items i due (parts (given_way due i q))) ≡ true
  asks origin =
      ap (λ (o : Option Seat). is_some (by_seat (ask_for q.name.items due (given_way due i q).cache) o)) (same_seats (row_in_way due i q))
      ∙ some_asked q seat due origin h.its (given_way due i q).cache same_row

  -- ---- it was answered by no such row before

  no_row : is_page due ≡ false → FollowsNoRow (with_row_if text (to_take due s)) c
  no_row page key x found = follows_none s c due (with_row_if text (to_take due s)) sound h.there h.going page h.is_due (taken_from text due s) key x found

  -- ---- a page has what it needs

  page_of : ((status : ℕ) → c.front ≡ NoHead status → has_page status ≡ true) → (status : ℕ) → due ≡ Refuse status → has_page status ≡ true
  page_of pages status is = subst (λ (d : Decision). is_paged d ≡ true) is (has_its_page s c due pages h.is_due)

  module _ (places : parsed_in c.front ≡ None → Places c.stage) (pages : (status : ℕ) → c.front ≡ NoHead status → has_page status ≡ true) where
    answers : may_answer seat.client ≡ true
    answers =
        let may : IsAnswerable seat.client = may_begin h.number q.name.items [] seat c h.own (asked s c due places h.is_due h.unbegun) h.unbegun in
        ap₂ (λ (a : Bool) (t : SaidStage). a && not (has_begun t)) may.current may.due

    may_for : (d : Decision) → due ≡ d → MayDoNext q.name.items i d (parts (given_way due i q)) (with_row_if text (to_take due s)) seat c
    may_for (Refuse status) is = record { page = page_of pages status is; room = page_room status seat.front; answers = answers; there = there }
    may_for Pass is = record { there = there; asks = subst (λ (d : Decision). is_some (ask_at q.name.items i d (parts (given_way due i q))) ≡ true) is (asks (ap asks_origin is)) }
    may_for Fetch is = record { there = there; asks = subst (λ (d : Decision). is_some (ask_at q.name.items i d (parts (given_way due i q))) ≡ true) is (asks (ap asks_origin is)) }
    may_for Validate is = record { there = there; asks = subst (λ (d : Decision). is_some (ask_at q.name.items i d (parts (given_way due i q))) ≡ true) is (asks (ap asks_origin is)) }
    may_for Relay is = there
    may_for (Hit from to) is = record { there = there; other = no_row (ap is_page is) }
    may_for (Part from to) is = record { there = there; other = no_row (ap is_page is) }
    may_for Head is = record { there = there; other = no_row (ap is_page is) }
    may_for NotModified is = record { there = there; other = no_row (ap is_page is) }
    may_for Unsatisfiable is = record { there = there; other = no_row (ap is_page is) }

-- ---- late in a turn no exchange is nobody's and nowhere

late_phase : (s : State) → (is_at Deciding s || is_at DecidingAgain s) ≡ true → is_behind_evicting s.phase ≡ true
late_phase s at = by (is_at Deciding s) refl at
  where
    by : (b : Bool) → is_at Deciding s ≡ b → (b || is_at DecidingAgain s) ≡ true → is_behind_evicting s.phase ≡ true
    by true here any = ap is_behind_evicting (is_phase Deciding s here)
    by false here any = ap is_behind_evicting (is_phase DecidingAgain s any)

pub decisions_rest : DecisionsRest
decisions_rest number peers shelf terms before i due p q s seat c stands moment next =
    let sound : IsSoundTurn s = sound_turns terms s before moment.obeys in
    let told : IsToldOn s = asks_told terms s before moment.obeys in
    let h : IsFound i due p q s seat c = is_found number peers shelf i due p q s seat c stands sound next in
    let places : parsed_in c.front ≡ None → Places c.stage = (all_of (fine_on terms s before moment.obeys) c h.there).place in
    record {
      affords = affords i due p q s seat c sound h moment.numbers;
      bare = bare i due p q s seat c sound h;
      first = first s c due places h.is_due h.unbegun;
      going = told.going (late_phase s stands.deciding.at);
      busy = busy i due p q s seat c sound h;
      old = old s sound (few_rows terms s before moment.obeys);
      may = may_for i due p q s seat c sound h places (λ status is. heads_paged terms s before moment.obeys c status h.there is) due refl;
    }
