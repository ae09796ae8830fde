-- The head of a response to a Fetch or Validate, as the law has it.
use Rattle.std.proofs.Common.{◌≡◌, ◌≤◌, refl, sym, subst, ap, ◌∙◌, ℕ, ◌+◌, Bool, true, false, ◌==◌, cond, length, List, [], ◌∷◌, Some, None, Option, nat_le, nat_lt, arith}
use Rattle.std.proofs.lemmas.Bool.Decides.{nat_tests}
use Rattle.std.specs.Prelude.{count_by, option_and_then, option_map}
use Rattle.pp_cache.specs.Notes.{noted_by, unnoted}
use Rattle.pp_cache_law.proofs.Alike.{rows_of}
use Rattle.pp_cache_law.specs.Pairs.{AreBoth}
use Rattle.pp_cache_law.specs.Rooms.{room_by, without_one}
use Rattle.pp_cache_law.specs.Settles.{numbered}
use Rattle.pp_cache_law.specs.Tables.{ShowsInstance}
use Rattle.pp_flow.specs.declared.entry.Entry.{Entry}
use Rattle.pp_flow.specs.declared.entry.Exchange.{Exchange as SeatExchange}
use Rattle.pp_flow_law.specs.Tables.{Leaving}
use Rattle.pp_framing.specs.declared.body.BodyRule.{BodyRule}
use Rattle.pp_head.specs.Response.{Response}
use Rattle.pp_heads_law.proofs.Ruled.{joins as joins_same, versions}
use Rattle.pp_law.specs.Lists.{Bytes, is_some_with}
use Rattle.pp_law.specs.OwnHeads.{key_of, known_version, may_join as law_may_join, not_modified as law_not_modified, other_head as law_other_head, own_head, settle, settle_known, settle_on, times_for as law_times, version_in as law_version_in}
use Rattle.pp_law.specs.State.{State, Exchange, Instance as Known}
use Rattle.pp_law.specs.Table.{make_row, row}
use Rattle.pp_objects.specs.Instances.{Instance, id_of, is_row, row_of}
use Rattle.pp_objects.specs.Kept.{kept_of}
use Rattle.pp_objects.specs.declared.id.ObjectId.{ObjectId}
use Rattle.pp_peers.specs.declared.peers.Peer.{Peer}
use Rattle.pp_seats.specs.declared.seat.Brought.TheVariants.{Refused}
use Rattle.pp_seats.specs.declared.seat.Seat.{Seat}
use Rattle.pp_seats_law.specs.Exchanges.{ShowsExchange}
use Rattle.pp_state.specs.Ends.{Parts, bound_by, cleared_of, cleared_row, on_seat_where, parts, seat_for, told}
use Rattle.pp_answers.specs.FinalHeads.{TakesOwn, noted_body, other_head, version_in, without_version}
use Rattle.pp_state.specs.Keys.{key_of as key_in_flow}
use Rattle.pp_state.specs.Pins.{busy_rows, forgotten_row, idle_row, with_room as turn_with_room}
use Rattle.pp_answers.specs.Rows.{IsNew, MakesRow, MakesRowOf, Settles, SettlesRow, may_join, not_modified, refused_row, refusing, refusing_key, renewed, row_or_none, with_room_for}
use Rattle.pp_state.specs.Known.{row_for, row_in}
use Rattle.pp_state.specs.declared.state.State.{State as Turn}
use Rattle.pp_states_law.proofs.Charged.{same_entry}
use Rattle.pp_states_law.specs.Steps.{ShowsSteps}
use Rattle.pp_valid.specs.declared.version.Version.{Version}
use Rattle.pp_answers_law.specs.Making.{roomed}
use Rattle.pp_answers_law.specs.Owns.{IsAtHead, IsShown, OwnHeadsAreTheLaws}
use Rattle.pp_answers_law.specs.Settling.{HasRow}
use Rattle.pp_answers_law.proofs.Dropped.{there_too}
use Rattle.pp_answers_law.proofs.Made.{makes, room_lives}
use Rattle.pp_answers_law.proofs.Others.{others}
use Rattle.pp_answers_law.proofs.Renewed.{known_is, none_known, not_modifieds, renewals}
use Rattle.pp_answers_law.proofs.Useless.{flow_kept, key_is}
use Rattle.pp_answers_law.proofs.Carried.{numbers_stay, one_more}
use Rattle.pp_answers_law.proofs.QuietAnswers.{Any, row_made_lives}
use Rattle.pp_answers_law.proofs.QuietHeads.{q_other, q_renewed, q_unmodified}

-- ---- memory was refused for it, and that is noted

on_seat_refused : (o : Option ℕ) (f : Seat → Seat) (p : Parts) → (on_seat_where o f p).refused ≡ p.refused
on_seat_refused None f p = refl
on_seat_refused (Some i) f p = refl

refused_noted : (e : SeatExchange) (key : List ℕ) (p : Parts) → key_in_flow e.number p.flow ≡ Some key → p.refused ≡ [] → (refused_row e p).refused ≡ noted_by key []
refused_noted e key p is none =
    on_seat_refused (seat_for e (bound_by e.number None (refusing e.number (cleared_row e.number p))).seats) (told Refused) (bound_by e.number None (refusing e.number (cleared_row e.number p)))
    ∙ ap (λ (o : Option (List ℕ)). (refusing_key o (cleared_row e.number p)).refused) (ap (λ f. key_in_flow e.number f) (flow_kept (key_in_flow e.number p.flow) p) ∙ is)
    ∙ ap (λ (o : Option (List ℕ)). noted_by key (cleared_of o p).refused) is
    ∙ ap (λ (keys : List (List ℕ)). noted_by key (unnoted key keys)) none

small : (n : ℕ) → n ≤ 8192 → nat_lt 8192 n ≡ false
small n less = grind (arith, nat_tests)

some_noted : (key : List ℕ) → length key ≤ 8192 → noted_by key [] ≡ [] → ⊥
some_noted key less none = absurd (let both : (key ∷ []) ≡ [] = sym (ap (λ (b : Bool). cond b [] (key ∷ [])) (small (length key) less)) ∙ none in cc both)

-- ---- with the room for it

turn_roomed : (t : Turn) (key : List ℕ) → row_of key t.cache.instances ≡ None → parts (turn_with_room t) ≡ roomed key (parts t)
turn_roomed t key none = by (nat_le 1024 (count_by is_row t.cache.instances)) (idle_row t) ∙ sym (ap (λ (o : Option Instance). record (parts t) { cache = room_by o (busy_rows t.flow) t.cache }) none)
  where
    by : (b : Bool) (o : Option Instance) → parts (elim b as (λ u. Turn) [ true ↦ forgotten_row o t | false ↦ t ]) ≡ record (parts t) { cache = cond b (without_one o t.cache) t.cache }
    by true None = refl
    by true (Some i) = refl
    by false o = refl

no_room : (p : Parts) (key : List ℕ) (i : Instance) → row_of key p.cache.instances ≡ Some i → p ≡ roomed key p
no_room p key i is = sym (ap (λ (o : Option Instance). record p { cache = room_by o (busy_rows p.flow) p.cache }) is)

module _ (number : ℕ → ℕ) (name : Bytes) (l : Leaving) (peers : List Peer) (t : Turn) (s : State) (n : ℕ) (x : Entry) (e : Exchange) (head : Response) (rule : BodyRule) (new : Parts) (at : IsAtHead number name l peers t s n x e) (given : new.refused ≡ []) where
  abbrev old : Parts
  old = parts t

  shown : ShowsExchange number x e
  shown = same_entry number name l peers old s at.shows n x e (there_too number name l peers old s at.shows n x e at.answered)

  key_there : key_in_flow x.exchange.number old.flow ≡ Some (key_of e)
  key_there = key_is number name l peers old s at.shows n x e at.answered

  -- ---- a new row

  abbrev anew : Version → State
  anew v = settle_on e head v (make_row (key_of e) v (kept_of head.fields (law_times e head s)) (law_times e head s) s)

  made_one : (v : Version) (o : Option ObjectId) → IsNew o (roomed (key_of e) old).cache → new ≡ row_or_none x.exchange x.errand head v s.clock (key_of e) o (roomed (key_of e) old) → IsShown number t.cache.lives s.next_instance name l peers (noted_body n new) (anew v)
  made_one v None is_new becomes =
      absurd (some_noted (key_of e) at.key (sym (refused_noted x.exchange (key_of e) (roomed (key_of e) old) key_there at.shows.refused) ∙ sym (ap (λ (q : Parts). q.refused) becomes) ∙ given))
  made_one v (Some id) is_new becomes = record {
    number = numbered old.cache.lives s.next_instance number;
    keeps =
        one_more t.cache.lives new.cache.lives s.next_instance number
        (ap (λ (q : Parts). q.cache.lives) becomes ∙ row_made_lives x.exchange x.errand head v s.clock (key_of e) id (roomed (key_of e) old) ∙ ap (λ (k : ℕ). k + 1) (room_lives (row_of (key_of e) old.cache.instances) (busy_rows old.flow) old.cache));
    shows =
        subst (λ (q : Parts). ShowsSteps (numbered old.cache.lives s.next_instance number) name l peers (noted_body n q) (anew v)) (sym becomes)
        (makes number name l peers old s at.shows n x e head v id at.answered at.stands at.may is_new.0 (is_new.1 ∙ room_lives (row_of (key_of e) old.cache.instances) (busy_rows old.flow) old.cache));
  }

  makes_one : (v : Version) → MakesRow x.exchange x.errand head v t.now (key_of e) (roomed (key_of e) old) new → IsShown number t.cache.lives s.next_instance name l peers (noted_body n new) (anew v)
  makes_one v row = made_one v row.made row.is_new (row.becomes ∙ ap (λ (clock : ℕ). row_or_none x.exchange x.errand head v clock (key_of e) row.made (roomed (key_of e) old)) at.clock)

  makes_of : (v : Version) (o : Option (List ℕ)) (q : Parts) → o ≡ Some (key_of e) → q ≡ roomed (key_of e) old → MakesRowOf x.exchange x.errand head v t.now o q new → IsShown number t.cache.lives s.next_instance name l peers (noted_body n new) (anew v)
  makes_of v o q is room row =
      makes_one v
      (subst (λ (r : Parts). MakesRow x.exchange x.errand head v t.now (key_of e) r new) room
      (subst (λ (k : Option (List ℕ)). MakesRowOf x.exchange x.errand head v t.now k q new) is row))

  -- ---- by the row that stands

  abbrev settled_if : Version → Bool → State
  settled_if v b = elim b as (λ u. State) [ true ↦ settle_known e head v s | false ↦ anew v ]

  settles_row : (v : Version) (i : Instance) (y : Known) → HasRow old s e i y → i.version ≡ y.version → SettlesRow x.exchange x.errand head v t.now (may_join x.exchange.aim x.errand.kind head v i.version) (id_of i) old new
      → IsShown number t.cache.lives s.next_instance name l peers (noted_body n new) (settled_if v (law_may_join e head v y.version))
  settles_row v i y has version row = by (law_may_join e head v y.version) (subst (λ (b : Bool). SettlesRow x.exchange x.errand head v t.now b (id_of i) old new) same row)
    where
      same : may_join x.exchange.aim x.errand.kind head v i.version ≡ law_may_join e head v y.version
      same = ap (λ (w : Version). may_join x.exchange.aim x.errand.kind head v w) version ∙ joins_same number x e head shown v y.version

      by : (b : Bool) → SettlesRow x.exchange x.errand head v t.now b (id_of i) old new → IsShown number t.cache.lives s.next_instance name l peers (noted_body n new) (settled_if v b)
      by true becomes = record {
        number = number;
        keeps = numbers_stay number t.cache.lives new.cache.lives s.next_instance (ap (λ (q : Parts). q.cache.lives) becomes ∙ (q_renewed Any x.exchange x.errand head v (id_of i) t.now old (λ there. tt)).lives);
        shows =
            subst (λ (q : Parts). ShowsSteps number name l peers (noted_body n q) (settle_known e head v s)) (sym (becomes ∙ ap (λ (clock : ℕ). renewed x.exchange x.errand head v (id_of i) clock old) at.clock))
            (renewals number name l peers old s at.shows n x e head v i y at.answered at.stands has);
      }
      by false row_made = makes_of v (key_in_flow x.exchange.number old.flow) old key_there (no_room old (key_of e) i has.here) row_made

  abbrev by_known : Version → Option Version → State
  by_known v o = settled_if v (is_some_with (law_may_join e head v) o)

  settles : (v : Version) (u : Option Instance) (w : Option Known) → row_of (key_of e) old.cache.instances ≡ u → row s (key_of e) ≡ w → AreBoth (ShowsInstance number old.cache s) u w
      → Settles x.exchange x.errand head v t.now (option_map (λ (i : Instance). (id_of i, i.version)) u) (parts (with_room_for (option_map (λ (i : Instance). (id_of i, i.version)) u) t)) new → IsShown number t.cache.lives s.next_instance name l peers (noted_body n new) (by_known v (known_version s (key_of e)))
  settles v None None a b both row =
      subst (λ (o : Option Version). IsShown number t.cache.lives s.next_instance name l peers (noted_body n new) (by_known v o)) (sym (none_known s (key_of e) b))
      (makes_of v (key_in_flow x.exchange.number (parts (turn_with_room t)).flow) (parts (turn_with_room t)) (ap (λ (q : Parts). key_in_flow x.exchange.number q.flow) (turn_roomed t (key_of e) a) ∙ key_there) (turn_roomed t (key_of e) a) row)
  settles v None (Some y) a b both row = absurd both
  settles v (Some i) None a b both row = absurd both
  settles v (Some i) (Some y) a b both row =
      subst (λ (o : Option Version). IsShown number t.cache.lives s.next_instance name l peers (noted_body n new) (by_known v o)) (sym (known_is s (key_of e) y b)) (settles_row v i y (record { here = a; there = b }) both.version row)

  row_is : row_for x.exchange.number old ≡ option_map (λ (i : Instance). (id_of i, i.version)) (row_of (key_of e) old.cache.instances)
  row_is = ap (λ (o : Option (List ℕ)). option_and_then (λ key. row_in key old.cache) o) key_there

  settle_is : (v : Version) → settle e head v s ≡ by_known v (known_version s (key_of e))
  unfolding settle
  settle_is v = refl

  pub settled : (v : Version) → Settles x.exchange x.errand head v t.now (row_for x.exchange.number old) (parts (with_room_for (row_for x.exchange.number old) t)) new → IsShown number t.cache.lives s.next_instance name l peers (noted_body n new) (settle e head v s)
  settled v taken =
      subst (λ (u : State). IsShown number t.cache.lives s.next_instance name l peers (noted_body n new) u) (sym (settle_is v))
      (settles v (row_of (key_of e) old.cache.instances) (row s (key_of e)) refl refl (rows_of number old.cache s at.shows.shows.table.table (key_of e))
      (subst (λ (o : Option (ObjectId × Version)). Settles x.exchange x.errand head v t.now o (parts (with_room_for o t)) new) row_is taken))

  -- ---- without a version

  without_by : (b : Bool) → new ≡ without_version b x.exchange x.errand head rule t → IsShown number t.cache.lives s.next_instance name l peers (noted_body n new) (elim b as (λ u. State) [ true ↦ law_not_modified e head s | false ↦ law_other_head e head rule s ])
  without_by true becomes = record {
    number = number;
    keeps = numbers_stay number t.cache.lives new.cache.lives s.next_instance (ap (λ (q : Parts). q.cache.lives) becomes ∙ (q_unmodified Any x.exchange x.errand head t.now old (λ one there. tt)).lives);
    shows =
        subst (λ (q : Parts). ShowsSteps number name l peers (noted_body n q) (law_not_modified e head s)) (sym (becomes ∙ ap (λ (clock : ℕ). not_modified x.exchange x.errand head clock old) at.clock))
        (not_modifieds number name l peers old s at.shows n x e head at.answered at.stands);
  }
  without_by false becomes = record {
    number = number;
    keeps = numbers_stay number t.cache.lives new.cache.lives s.next_instance (ap (λ (q : Parts). q.cache.lives) becomes ∙ (q_other Any t.name.items x.exchange x.errand head rule old).lives);
    shows =
        subst (λ (q : Parts). ShowsSteps number name l peers (noted_body n q) (law_other_head e head rule s)) (sym (becomes ∙ ap (λ (own : List ℕ). other_head own x.exchange x.errand head rule old) at.own_name))
        (others number name l peers old s at.shows n x e head rule at.answered at.stands at.asks);
  }

  abbrev own_by : Option Version → State
  own_by o = elim o as (λ u. State) [ Some v ↦ settle e head v s | None ↦ elim (head.status == 304) as (λ u. State) [ true ↦ law_not_modified e head s | false ↦ law_other_head e head rule s ] ]

  takes : (o : Option Version) → TakesOwn x.exchange x.errand head rule o t new → IsShown number t.cache.lives s.next_instance name l peers (noted_body n new) (own_by o)
  takes None becomes = without_by (head.status == 304) becomes
  takes (Some v) row = settled v row

  own_is : own_head e head rule s ≡ own_by (law_version_in e head)
  unfolding own_head
  own_is = refl

  pub own : TakesOwn x.exchange x.errand head rule (version_in x.errand head) t new → IsShown number t.cache.lives s.next_instance name l peers (noted_body n new) (own_head e head rule s)
  own taken =
      subst (λ (u : State). IsShown number t.cache.lives s.next_instance name l peers (noted_body n new) u) (sym own_is)
      (takes (law_version_in e head) (subst (λ (o : Option Version). TakesOwn x.exchange x.errand head rule o t new) (versions number x e head shown) taken))

pub owns : OwnHeadsAreTheLaws
owns number name l peers t s n x e head rule new at taken given = own number name l peers t s n x e head rule new at given taken
