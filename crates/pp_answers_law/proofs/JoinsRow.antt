-- Where what comes to the ask of a follower belongs to a row, what its follower is answered from is there as before; and else it belongs to none. Of
-- the program alone, but for what shows that rows stand apart.
use Rattle.std.proofs.Common.{◌≡◌, ◌⊎◌, inl, inr, refl, sym, subst, ap, ◌∙◌, ℕ, Bool, true, false, not, ◌==◌, ◌&&◌, codes, cond, filter, find, is_some, nat_le, List, [], ◌∷◌, ◌++◌, Some, None, Option, arith}
use Rattle.std.proofs.lemmas.Bool.Decides.{nat_tests}
use Rattle.std.specs.List.{list_any}
use Rattle.std.specs.Prelude.{count_by, option_and_then, option_map}
use Rattle.pp_cache.specs.Memory.{Memory, with_outdated, with_row}
use Rattle.pp_cache.specs.Notes.{unnoted}
use Rattle.pp_cache_law.proofs.Finds.{find_joined, find_passes, first_of_two}
use Rattle.pp_cache_law.proofs.Moves.{changed_if, in_slot-changed, in_slot-marked}
use Rattle.pp_cache_law.proofs.Numbers.{some_is, true_false}
use Rattle.pp_cache_law.specs.Pairs.{AreAll}
use Rattle.pp_cache_law.specs.Tables.{ShowsInstance, ShowsTable}
use Rattle.pp_flow.specs.Changes.{Exchanges, changed, entry_of, first_of}
use Rattle.pp_flow.specs.Entries.{Span, bound_to, is_number, nobodys}
use Rattle.pp_flow.specs.Errands.{attempts_in, named_by}
use Rattle.pp_flow.specs.declared.entry.Aim.{Aim as SeatAim}
use Rattle.pp_flow.specs.declared.entry.Aim.TheVariants.{Hole}
use Rattle.pp_flow.specs.declared.entry.Entry.{Entry}
use Rattle.pp_flow.specs.declared.entry.Exchange.{Exchange as SeatExchange}
use Rattle.pp_flow.specs.declared.errand.Errand.{Errand}
use Rattle.pp_flow_law.proofs.Entries.{find_changed, none_some}
use Rattle.pp_fresh.specs.declared.aging.Times.{Times}
use Rattle.pp_fresh.specs.Ready.{may_store}
use Rattle.pp_framing.specs.declared.body.BodyRule.{BodyRule}
use Rattle.pp_head.specs.Response.{Response}
use Rattle.pp_law.specs.State.{State, Instance as Known}
use Rattle.pp_objects.specs.Changes.{changed_in, new_row, refreshed, retired, retired_from, without_slot, is_elsewhere}
use Rattle.pp_objects.specs.Instances.{Instance, id_of, in_slot, is_idle, is_in_slot, is_row, is_row_of, is_same_id, row_of}
use Rattle.pp_objects.specs.Kept.{kept_of}
use Rattle.pp_objects.specs.declared.id.ObjectId.{ObjectId}
use Rattle.pp_seats.specs.Courses.{lost_one, without_shared_row}
use Rattle.pp_seats.specs.declared.seat.Brought.{Brought as SeatBrought}
use Rattle.pp_seats.specs.declared.seat.Brought.TheVariants.{Joins, Refused, Useless}
use Rattle.pp_seats.specs.declared.seat.Seat.{Seat}
use Rattle.pp_state.specs.Accounts.{brought_by}
use Rattle.pp_state.specs.Ends.{Parts, all_decided_anew, bound_by, charged_at, cleared_of, cleared_row, given_up_row, is_unfilled_at, lost_attempt, made_useless, on_seat_where, parts, seat_for, told, told_to, dropped_row, on_seat, with_course}
use Rattle.pp_state.specs.Keys.{key_of}
use Rattle.pp_state.specs.Known.{row_for}
use Rattle.pp_state.specs.Pins.{busy_rows, forgotten_row, idle_row, with_room, without_instance}
use Rattle.pp_state.specs.declared.state.State.{State as Turn}
use Rattle.pp_text.specs.Fields.{Field, has_field}
use Rattle.pp_turns_law.proofs.StandingRow.{found_kept}
use Rattle.pp_valid.specs.Conditions.{names_other_tag}
use Rattle.pp_valid.specs.declared.version.Version.{Version}
use Rattle.pp_world.specs.declared.access.Source.{Source}
use Rattle.pp_world.specs.declared.access.Source.TheVariants.{Checked, Fetched}
use Rattle.pp_answers.specs.Answers.{not_shared, on_its}
use Rattle.pp_answers.specs.FinalHeads.{TakesPart, other_part, part_without_version, relayed, shared_part}
use Rattle.pp_answers.specs.Heads.{names_tag}
use Rattle.pp_answers.specs.OwnHeads.{clears_row, is_private_part}
use Rattle.pp_answers.specs.Rows.{MakesRow, MakesRowOf, Settles, SettlesRow, accounted, in_memory, is_bound, joining, may_join, may_refresh, not_refused, nothing_of, refreshed_at, refreshed_row, refused_row, refusing, refusing_key, renewed, row_or_none, span_for, times_for, with_room_for}
use Rattle.pp_answers_law.proofs.Lacking.{IsKeyedAt}
use Rattle.pp_answers_law.proofs.Renewed.{said, said_is}

-- ---- an instance that somebody follows stays

pub record IsFollowed (id : ObjectId) (m : Memory) : Type 0 where
  pub instance : Instance
  pub here : in_slot id.slot m.instances ≡ Some instance
  pub life : (instance.life == id.life) ≡ true
  pub some : (instance.followers == 0) ≡ false

-- it is there, of its key
abbrev pub StillThere : Memory → Memory → Type 0
StillThere m k = (id : ObjectId) (on : IsFollowed id m) → IsKeyedAt id on.instance.key k

abbrev StaysFollowed : Memory → Memory → Type 0
StaysFollowed m k = (id : ObjectId) (on : IsFollowed id m) → in_slot id.slot k.instances ≡ Some on.instance

abbrev follows_on : (m k : Memory) → StaysFollowed m k → (id : ObjectId) → IsFollowed id m → IsFollowed id k
follows_on m k stays id on = record { instance = on.instance; here = stays id on; life = on.life; some = on.some }

-- each in memory is alone in its slot
abbrev AreApart : Memory → Type 0
AreApart m = (p : Instance → Bool) (i : Instance) → find p m.instances ≡ Some i → in_slot i.slot m.instances ≡ Some i

found_there : (number : ℕ → ℕ) (m : Memory) (s : State) (p : Instance → Bool) (is : List Instance) (xs : List Known) (i : Instance) → AreAll (ShowsInstance number m s) is xs → find p is ≡ Some i → in_slot i.slot m.instances ≡ Some i
found_there number m s p [] xs i all found = absurd (none_some i found)
found_there number m s p (j ∷ is) [] i all found = absurd all
found_there number m s p (j ∷ is) (x ∷ xs) i all found = by (p j) found (λ it. found_there number m s p is xs i all.1 it)
  where
    by : (b : Bool) → cond b (Some j) (find p is) ≡ Some i → (find p is ≡ Some i → in_slot i.slot m.instances ≡ Some i) → in_slot i.slot m.instances ≡ Some i
    by true it rest = let same : j ≡ i = some_is j i it in subst (λ (z : Instance). in_slot z.slot m.instances ≡ Some z) same all.0.there
    by false it rest = rest it

pub shown_apart : (number : ℕ → ℕ) (m : Memory) (s : State) → ShowsTable number m s → AreApart m
shown_apart number m s table p i found = found_there number m s p m.instances s.instances i table.instances found

other_slot : (m : Memory) (id : ObjectId) (on : IsFollowed id m) (i : Instance) → in_slot i.slot m.instances ≡ Some i → (i.followers == 0) ≡ true → not (on.instance.slot == i.slot) ≡ true
other_slot m id on i here none = by (on.instance.slot == i.slot) refl
  where
    slots : (a b : ℕ) → (a == b) ≡ true → a ≡ b
    slots a b is = grind (arith, nat_tests)

    its : on.instance.slot ≡ id.slot
    its = slots on.instance.slot id.slot (find_passes (is_in_slot id.slot) m.instances on.instance on.here)

    by : (b : Bool) → (on.instance.slot == i.slot) ≡ b → not (on.instance.slot == i.slot) ≡ true
    by false is = ap not is
    by true is =
        let same : on.instance ≡ i = some_is on.instance i (sym on.here ∙ ap (λ (k : ℕ). in_slot k m.instances) (sym its ∙ slots on.instance.slot i.slot is) ∙ here) in
        absurd (true_false (sym none ∙ ap (λ (z : Instance). z.followers == 0) (sym same) ∙ on.some))

-- ---- where a row leaves memory, and where one comes in

without_idle : (m : Memory) (i : Instance) → in_slot i.slot m.instances ≡ Some i → (i.followers == 0) ≡ true → StaysFollowed m (without_instance i m)
without_idle m i here none id on = found_kept (is_in_slot id.slot) (is_elsewhere i.slot) on.instance m.instances on.here (other_slot m id on i here none)

pub room_keeps : (t : Turn) → AreApart t.cache → StaysFollowed t.cache (with_room t).cache
room_keeps t apart = by (nat_le 1024 (count_by is_row t.cache.instances)) (idle_row t) refl
  where
    idle_none : (b : Bool) (c d : Bool) → (b && (c && d)) ≡ true → c ≡ true
    idle_none true true d is = refl
    idle_none true false d is = absurd (true_false (sym is))
    idle_none false c d is = absurd (true_false (sym is))

    by : (b : Bool) (o : Option Instance) → idle_row t ≡ o → StaysFollowed t.cache (elim b as (λ u. Turn) [ true ↦ forgotten_row o t | false ↦ t ]).cache
    by true None is = λ id on. on.here
    by true (Some i) is =
        without_idle t.cache i (apart (is_idle (busy_rows t.flow)) i is)
        (idle_none (is_row i) (i.followers == 0) (not (list_any (is_same_id (id_of i)) (busy_rows t.flow))) (find_passes (is_idle (busy_rows t.flow)) t.cache.instances i is))
    by false o is = λ id on. on.here

found_filtered : (p q : Instance → Bool) (is : List Instance) → find p (filter q is) ≡ find (λ i. q i && p i) is
found_filtered p q [] = refl
found_filtered p q (i ∷ is) = by (q i) (found_filtered p q is)
  where
    by : (b : Bool) → find p (filter q is) ≡ find (λ j. q j && p j) is → find p (cond b (i ∷ filter q is) (filter q is)) ≡ cond (b && p i) (Some i) (find (λ j. q j && p j) is)
    by true rest = ap (λ (o : Option Instance). cond (p i) (Some i) o) rest
    by false rest = rest

first_true : (a b : Bool) → (a && b) ≡ true → a ≡ true
first_true true b is = refl
first_true false b is = is

apart_without : (m : Memory) (k : Instance) → AreApart m → AreApart (without_instance k m)
apart_without m k apart p i found =
    let both : find (λ j. is_elsewhere k.slot j && p j) m.instances ≡ Some i = sym (found_filtered p (is_elsewhere k.slot) m.instances) ∙ found in
    found_kept (is_in_slot i.slot) (is_elsewhere k.slot) i m.instances (apart (λ j. is_elsewhere k.slot j && p j) i both) (first_true (is_elsewhere k.slot i) (p i) (find_passes (λ j. is_elsewhere k.slot j && p j) m.instances i both))

room_apart : (t : Turn) → AreApart t.cache → AreApart (with_room t).cache
room_apart t apart = by (nat_le 1024 (count_by is_row t.cache.instances)) (idle_row t)
  where
    by : (b : Bool) (o : Option Instance) → AreApart (elim b as (λ u. Turn) [ true ↦ forgotten_row o t | false ↦ t ]).cache
    by true None = apart
    by true (Some i) = apart_without t.cache i apart
    by false o = apart

-- it is changed in what is neither its slot nor its key
changed_there : (slot : ℕ) (f : Instance → Instance) (id : ObjectId) (i : Instance) (is : List Instance) → ((j : Instance) → ((f j).slot ≡ j.slot) × ((f j).life ≡ j.life) × ((f j).key ≡ j.key)) → in_slot id.slot is ≡ Some i → (i.life == id.life) ≡ true
    → (j : Instance) × (in_slot id.slot (changed_in slot f is) ≡ Some j) × ((j.life == id.life) ≡ true) × (j.key ≡ i.key)
changed_there slot f id i is same here life =
    let last = by (is_in_slot slot i) in
    (changed_if slot f i, in_slot-changed id.slot slot f is (λ j. (same j).0) ∙ ap (λ (o : Option Instance). option_map (changed_if slot f) o) here, last.0, last.1)
  where
    by : (b : Bool) → (let j : Instance = cond b (f i) i in ((j.life == id.life) ≡ true) × (j.key ≡ i.key))
    by true = (ap (λ (m : ℕ). m == id.life) (same i).1 ∙ life, (same i).2)
    by false = (life, refl)

row_keeps : (id : ObjectId) (key : List ℕ) (v : Version) (fields : List Field) (times : Times) (m : Memory) → AreApart m → StillThere m (with_outdated key (with_row id key v fields times m))
unfolding with_outdated with_row
row_keeps id key v fields times m apart other on = let one = of (row_of key m.instances) refl in record { now = one.0; here = one.1; life = one.2; key = one.3 }
  where
    made : Instance
    made = new_row id key v (kept_of fields times) times

    grown : List Instance
    grown = m.instances ++ made ∷ []

    here : in_slot other.slot grown ≡ Some on.instance
    here = find_joined (is_in_slot other.slot) m.instances (made ∷ []) ∙ ap (λ (o : Option Instance). first_of_two o (in_slot other.slot (made ∷ []))) on.here

    Stands : List Instance → Type 0
    Stands is = (j : Instance) × (in_slot other.slot is ≡ Some j) × ((j.life == other.life) ≡ true) × (j.key ≡ on.instance.key)

    of : (o : Option Instance) → row_of key m.instances ≡ o → Stands (retired_from o grown)
    of None is = (on.instance, here, on.life, refl)
    of (Some i) is = at (i.followers == 0) refl
      where
        at : (b : Bool) → (i.followers == 0) ≡ b → Stands (cond b (without_slot i.slot grown) (changed_in i.slot retired grown))
        at true none = (on.instance, found_kept (is_in_slot other.slot) (is_elsewhere i.slot) on.instance grown here (other_slot m other on i (apart (is_row_of key) i is) none), on.life, refl)
        at false some = changed_there i.slot retired other on.instance grown (λ j. (refl, refl, refl)) here on.life

-- ---- what becomes of the body

pub record GoesToRow (x : SeatExchange) (t new : Parts) : Type 0 where
  pub span : Span
  pub brought : SeatBrought
  pub old : Parts
  pub is : new ≡ told_to x brought (bound_by x.number (Some span) old)
  pub seats : old.seats ≡ t.seats
  pub flow : old.flow ≡ t.flow
  pub refused : old.refused ≡ []
  pub there : StillThere t.cache old.cache

abbrev pub MayGoToRow : SeatExchange → Parts → Parts → Type 0
MayGoToRow x t new = GoesToRow x t new ⊎ (is_bound x.number new.flow ≡ false)

-- none waits for a place under this number
abbrev NoneWaits : ℕ → Parts → Type 0
NoneWaits n p = find (is_number n) p.flow.waiting ≡ None

on_flow : (o : Option ℕ) (f : Seat → Seat) (p : Parts) → (on_seat_where o f p).flow ≡ p.flow
on_flow None f p = refl
on_flow (Some i) f p = refl

cleared_flow : (o : Option (List ℕ)) (p : Parts) → (cleared_of o p).flow ≡ p.flow
cleared_flow None p = refl
cleared_flow (Some key) p = refl

none_bound : (n : ℕ) (p : Parts) → NoneWaits n p → is_bound n (bound_by n None p).flow ≡ false
none_bound n p none =
    ap (λ (o : Option Entry). is_some (option_and_then (λ x. x.exchange.bound) (first_of o (find (is_number n) (changed n (bound_to None) p.flow.placed))))) none
    ∙ ap (λ (o : Option Entry). is_some (option_and_then (λ x. x.exchange.bound) o)) (find_changed n (bound_to None) (λ y. (refl, refl)) p.flow.placed) ∙ by (find (is_number n) p.flow.placed)
  where
    by : (o : Option Entry) → is_some (option_and_then (λ x. x.exchange.bound) (option_map (bound_to None) o)) ≡ false
    by None = refl
    by (Some y) = refl

told_unbound : (x : SeatExchange) (b : SeatBrought) (p : Parts) → NoneWaits x.number p → is_bound x.number (told_to x b (bound_by x.number None p)).flow ≡ false
told_unbound x b p none = ap (λ (f : Exchanges). is_bound x.number f) (on_flow (seat_for x (bound_by x.number None p).seats) (told b) (bound_by x.number None p)) ∙ none_bound x.number p none

-- an attempt that is lost leaves nobody waiting who did not
lost_waits : (x : SeatExchange) (p : Parts) → NoneWaits x.number p → NoneWaits x.number (lost_attempt x p)
unfolding charged_at given_up_row
lost_waits x p none = by (entry_of x.number p.flow)
  where
    cleared_waits : (o : Option (List ℕ)) (q : Parts) → NoneWaits x.number q → find (is_number x.number) (changed x.number nobodys (cleared_of o q).flow.waiting) ≡ None
    cleared_waits o q waits =
        find_changed x.number nobodys (λ y. (refl, refl)) (cleared_of o q).flow.waiting ∙ ap (λ (f : Exchanges). option_map nobodys (find (is_number x.number) f.waiting)) (cleared_flow o q) ∙ ap (λ (o : Option Entry). option_map nobodys o) waits

    unfilled : (i : ℕ) (b : Bool) (q : Parts) → NoneWaits x.number q → NoneWaits x.number (cond b (dropped_row i x q) q)
    unfilled i true q waits = cleared_waits (key_of x.number q.flow) q waits
    unfilled i false q waits = waits

    charged : (o : Option ℕ) (most : ℕ) → NoneWaits x.number (charged_at o (lost_one most) x p)
    charged None most = none
    charged (Some i) most = unfilled i (is_unfilled_at i x (on_seat i (with_course (lost_one most)) p)) (on_seat i (with_course (lost_one most)) p) none

    by : (o : Option Entry) → NoneWaits x.number (elim o as (λ u. Parts) [ None ↦ p | Some y ↦ charged_at (seat_for x p.seats) (lost_one (attempts_in y.errand.is_asked_once)) x p ])
    by None = none
    by (Some y) = charged (seat_for x p.seats) (attempts_in y.errand.is_asked_once)

useless_unbound : (x : SeatExchange) (p : Parts) → NoneWaits x.number p → is_bound x.number (made_useless x p).flow ≡ false
useless_unbound x p none = told_unbound x Useless (lost_attempt x p) (lost_waits x p none)

cleared_none : (x : SeatExchange) (p : Parts) → NoneWaits x.number p → NoneWaits x.number (cleared_row x.number p)
cleared_none x p none = ap (λ (f : Exchanges). find (is_number x.number) f.waiting) (cleared_flow (key_of x.number p.flow) p) ∙ none

unshared_unbound : (x : SeatExchange) (errand : Errand) (p : Parts) → NoneWaits x.number p → is_bound x.number (not_shared x errand p).flow ≡ false
unshared_unbound x errand p none =
    told_unbound x Useless (on_its x (without_shared_row (attempts_in errand.is_asked_once)) (cleared_row x.number p))
    (ap (λ (f : Exchanges). find (is_number x.number) f.waiting) (on_flow (seat_for x (cleared_row x.number p).seats) (without_shared_row (attempts_in errand.is_asked_once)) (cleared_row x.number p)) ∙ cleared_none x p none)

module _ (t : Turn) (x : Entry) (head : Response) (rule : BodyRule) (new : Parts) (apart : AreApart t.cache) (none : NoneWaits x.exchange.number (parts t)) (given : t.refused ≡ []) (fills : (v : Version) × (from : ℕ) × (to : ℕ) × (x.exchange.aim ≡ Hole v from to)) where
  abbrev own : SeatExchange
  own = x.exchange

  no_account : (source : Source) (p : Parts) → accounted own source p ≡ p
  no_account source p = ap (λ (aim : SeatAim). record p { seats = brought_by aim own source p.seats }) fills.3

  joins_row : (span : Span) (source : Source) (plain : Bool) (old : Parts) → old.seats ≡ t.seats.items → old.flow ≡ t.flow → old.refused ≡ [] → StillThere t.cache old.cache → new ≡ joining own span source plain old → GoesToRow own (parts t) new
  joins_row span source plain old seats flow empty there is = record {
    span = span;
    brought = Joins span.0 plain;
    old = old;
    is = is ∙ ap (λ (p : Parts). told_to own (Joins span.0 plain) p) (no_account source (bound_by own.number (Some span) old));
    seats = seats;
    flow = flow;
    refused = empty;
    there = there;
  }

  refreshed_there : (id : ObjectId) (fields : List Field) (times : Times) → StillThere t.cache (refreshed_at id fields times t.cache)
  refreshed_there id fields times other on =
      let one = changed_there id.slot (refreshed fields times) other on.instance t.cache.instances (λ j. (refl, refl, refl)) on.here on.life in
      record { now = one.0; here = in_slot-marked other.slot id.slot (changed_in id.slot (refreshed fields times) t.cache.instances) ∙ one.1; life = one.2; key = one.3 }

  off : (p : Parts) → new ≡ p → is_bound own.number p.flow ≡ false → MayGoToRow own (parts t) new
  off p is free = inr (ap (λ (q : Parts). is_bound own.number q.flow) is ∙ free)

  -- ---- a new row

  made_one : (q : Turn) → StaysFollowed t.cache q.cache → AreApart q.cache → (parts q).seats ≡ t.seats.items → (parts q).flow ≡ t.flow → q.refused ≡ [] → (v : Version) (key : List ℕ) → MakesRow own x.errand head v t.now key (parts q) new → MayGoToRow own (parts t) new
  made_one q keeps alone seats flow empty v key row = by row.made row.becomes
    where
      times : Times
      times = times_for x.errand head t.now

      decided : (all_decided_anew key q.refused q.seats.items) ≡ q.seats.items
      decided = ap (λ (keys : List (List ℕ)). all_decided_anew key keys q.seats.items) empty

      by : (o : Option ObjectId) → new ≡ row_or_none own x.errand head v t.now key o (parts q) → MayGoToRow own (parts t) new
      by None becomes = off (refused_row own (parts q)) becomes (told_unbound own Refused (refusing own.number (cleared_row own.number (parts q))) waits)
        where
          refusing_flow : (o : Option (List ℕ)) (p : Parts) → (refusing_key o p).flow ≡ p.flow
          refusing_flow None p = refl
          refusing_flow (Some k) p = refl

          waits : NoneWaits own.number (refusing own.number (cleared_row own.number (parts q)))
          waits =
              ap (λ (f : Exchanges). find (is_number own.number) f.waiting) (refusing_flow (key_of own.number (cleared_row own.number (parts q)).flow) (cleared_row own.number (parts q)) ∙ cleared_flow (key_of own.number q.flow) (parts q) ∙ flow) ∙ none
      by (Some id) becomes =
          inl
          (joins_row (span_for x.errand head v id) Fetched (not (has_field (codes "age") head.fields)) (not_refused key (in_memory (λ m. with_outdated key (with_row id key v head.fields times m)) (parts q))) (decided ∙ seats) flow (ap (λ (keys : List (List ℕ)). unnoted key keys) empty)
          (λ other on. row_keeps id key v head.fields times q.cache alone other (follows_on t.cache q.cache keeps other on)) becomes)

  makes_of : (q : Turn) → StaysFollowed t.cache q.cache → AreApart q.cache → (parts q).seats ≡ t.seats.items → (parts q).flow ≡ t.flow → q.refused ≡ [] → (v : Version) (o : Option (List ℕ)) (key : List ℕ) → o ≡ Some key → MakesRowOf own x.errand head v t.now o (parts q) new → MayGoToRow own (parts t) new
  makes_of q keeps alone seats flow empty v None key is row = absurd (none_some key is)
  makes_of q keeps alone seats flow empty v (Some k) key is row = made_one q keeps alone seats flow empty v k row

  -- ---- by the row that stands

  renews : (v : Version) (id : ObjectId) → new ≡ renewed own x.errand head v id t.now (parts t) → MayGoToRow own (parts t) new
  renews v id is = by (may_refresh id head.fields (times_for x.errand head t.now) t.cache) is
    where
      times : Times
      times = times_for x.errand head t.now

      by : (b : Bool) → new ≡ (elim b as (λ u. Parts) [ true ↦ joining own (span_for x.errand head v id) Fetched (not (has_field (codes "age") head.fields)) (in_memory (refreshed_at id head.fields times) (parts t)) | false ↦ made_useless own (parts t) ])
          → MayGoToRow own (parts t) new
      by true becomes = inl (joins_row (span_for x.errand head v id) Fetched (not (has_field (codes "age") head.fields)) (in_memory (refreshed_at id head.fields times) (parts t)) refl refl given (refreshed_there id head.fields times) becomes)
      by false becomes = off (made_useless own (parts t)) becomes (useless_unbound own (parts t) none)

  settles : (key : List ℕ) → key_of own.number t.flow ≡ Some key → (v : Version) (o : Option (ObjectId × Version)) → Settles own x.errand head v t.now o (parts (with_room_for o t)) new → MayGoToRow own (parts t) new
  settles key is v None row = makes_of (with_room t) (room_keeps t apart) (room_apart t apart) room.0 room.1 room.2 v (key_of own.number (with_room t).flow) key (ap (λ (f : Exchanges). key_of own.number f) room.1 ∙ is) row
    where
      room : ((with_room t).seats.items ≡ t.seats.items) × ((with_room t).flow ≡ t.flow) × ((with_room t).refused ≡ [])
      room = by (nat_le 1024 (count_by is_row t.cache.instances)) (idle_row t)
        where
          by : (b : Bool) (o : Option Instance) → let q : Turn = elim b as (λ u. Turn) [ true ↦ forgotten_row o t | false ↦ t ] in (q.seats.items ≡ t.seats.items) × (q.flow ≡ t.flow) × (q.refused ≡ [])
          by true None = (refl, refl, given)
          by true (Some i) = (refl, refl, given)
          by false o = (refl, refl, given)
  settles key is v (Some row) taken = by (may_join own.aim x.errand.kind head v row.1) taken
    where
      by : (b : Bool) → SettlesRow own x.errand head v t.now b row.0 (parts t) new → MayGoToRow own (parts t) new
      by true becomes = renews v row.0 becomes
      by false made = makes_of t (λ id on. on.here) apart refl refl given v (key_of own.number t.flow) key is made

  -- ---- without a version

  refreshes : (id : ObjectId) → new ≡ refreshed_row own x.errand head id t.now (parts t) → MayGoToRow own (parts t) new
  refreshes id is = by (may_refresh id head.fields (times_for x.errand head t.now) t.cache) is
    where
      by : (b : Bool) → new ≡ (elim b as (λ u. Parts) [ true ↦ joining own (nothing_of id) Checked false (in_memory (refreshed_at id head.fields (times_for x.errand head t.now)) (parts t)) | false ↦ made_useless own (parts t) ]) → MayGoToRow own (parts t) new
      by true becomes = inl (joins_row (nothing_of id) Checked false (in_memory (refreshed_at id head.fields (times_for x.errand head t.now)) (parts t)) refl refl given (refreshed_there id head.fields (times_for x.errand head t.now)) becomes)
      by false becomes = off (made_useless own (parts t)) becomes (useless_unbound own (parts t) none)

  unchanged : (b : Bool) (known : Option (ObjectId × Version)) → new ≡ said x head t.now (parts t) b known → MayGoToRow own (parts t) new
  unchanged false known is = off (not_shared own x.errand (parts t)) is (unshared_unbound own x.errand (parts t) none)
  unchanged true None is = off (made_useless own (parts t)) is (useless_unbound own (parts t) none)
  unchanged true (Some row) is = by (names_other_tag head.fields row.1.tag) (names_tag (named_by x.errand.kind) row.1.tag) is
    where
      by : (a c : Bool) → new ≡ (elim a as (λ u. Parts) [ true ↦ made_useless own (cleared_row own.number (parts t)) | false ↦ elim c as (λ u. Parts) [ true ↦ refreshed_row own x.errand head row.0 t.now (parts t) | false ↦ made_useless own (parts t) ] ]) → MayGoToRow own (parts t) new
      by true c becomes = off (made_useless own (cleared_row own.number (parts t))) becomes (useless_unbound own (cleared_row own.number (parts t)) (cleared_none own (parts t) none))
      by false true becomes = refreshes row.0 becomes
      by false false becomes = off (made_useless own (parts t)) becomes (useless_unbound own (parts t) none)

  abbrev other_by : Bool → Bool → Parts
  other_by a b = elim a as (λ u. Parts) [
    | true ↦ not_shared own x.errand (parts t)
    | false ↦ elim b as (λ u. Parts) [ true ↦ relayed t.name.items own head rule (cleared_row own.number (parts t)) | false ↦ made_useless own (parts t) ]
  ]

  others : (a b : Bool) → new ≡ other_by a b → MayGoToRow own (parts t) new
  others true b is = off (not_shared own x.errand (parts t)) is (unshared_unbound own x.errand (parts t) none)
  others false true is = off (relayed t.name.items own head rule (cleared_row own.number (parts t))) is (none_bound own.number (cleared_row own.number (parts t)) (cleared_none own (parts t) none))
  others false false is = off (made_useless own (parts t)) is (useless_unbound own (parts t) none)

  without : (b : Bool) → new ≡ part_without_version b own x.errand head rule t → MayGoToRow own (parts t) new
  without true is = unchanged (may_store head.fields) (row_for own.number (parts t)) (is ∙ said_is x head t.now (parts t) (row_for own.number (parts t)))
  without false is = others (is_private_part head) (clears_row head) (is ∙ either (is_private_part head))
    where
      either : (a : Bool) → other_part a t.name.items own x.errand head rule (parts t) ≡ other_by a (clears_row head)
      either true = refl
      either false = at (clears_row head)
        where
          at : (c : Bool) → shared_part c t.name.items own head rule (parts t) ≡ other_by false c
          at true = refl
          at false = refl

  pub goes : (key : List ℕ) → key_of own.number t.flow ≡ Some key → (o : Option Version) → TakesPart own x.errand head rule o t new → MayGoToRow own (parts t) new
  goes key is None taken = without (head.status == 304) taken
  goes key is (Some v) taken = settles key is v (row_for own.number (parts t)) taken
