-- Where the head of a response to a Fetch or Validate, or to the ask of a follower, makes a row, another leaves memory for it in the program where it does in the law.
use Rattle.std.proofs.Common.{◌≡◌, refl, sym, subst, ap, ap₂, ◌∙◌, ℕ, Bool, true, false, ◌==◌, ◌&&◌, ◌||◌, cond, find, length, nat_le, nat_lt, List, [], ◌∷◌, ◌++◌, Option, Some, None, option_map, option_and_then, arith}
use Rattle.std.proofs.lemmas.Bool.Decides.{nat_tests}
use Rattle.std.specs.Prelude.{count_by}
use Rattle.pp_answers.specs.FinalHeads.{roomed, version_in}
use Rattle.pp_answers.specs.Rows.{with_room_for}
use Rattle.pp_answers_law.proofs.Busy.{busies}
use Rattle.pp_answers_law.proofs.Renewed.{known_is, none_known}
use Rattle.pp_answers_law.proofs.Useless.{key_is}
use Rattle.pp_answers_law.proofs.Dropped.{there_too}
use Rattle.pp_answers_law.specs.Owns.{IsAtHead}
use Rattle.pp_cache.specs.Notes.{noted_by}
use Rattle.pp_cache_law.proofs.Alike.{idle_rows_of, room_of, rows_of}
use Rattle.pp_cache_law.proofs.Rooming.{IsCleared, cleared_idle, cleared_room, cleared_rows, nothing_cleared}
use Rattle.pp_cache_law.specs.Pairs.{AreBoth}
use Rattle.pp_cache_law.specs.Reads.{AreBusy}
use Rattle.pp_cache_law.specs.Tables.{ShowsInstance}
use Rattle.pp_flow.specs.declared.entry.Entry.{Entry}
use Rattle.pp_flow_law.specs.Tables.{Leaving}
use Rattle.pp_framing.specs.declared.body.BodyRule.{BodyRule}
use Rattle.pp_fresh.specs.declared.aging.Times.{Times}
use Rattle.pp_head.specs.Response.{Response}
use Rattle.pp_heads_law.proofs.Ruled.{versions}
use Rattle.pp_law.specs.Connections.{on_client_of, on_exchange}
use Rattle.pp_law.specs.Lists.{Bytes, is_some_with}
use Rattle.pp_law.specs.OwnHeads.{cleared_by as law_cleared_by, clears_row as law_clears, drop_answer, filling_head, forbids_sharing, is_of_another, is_private_part as law_private, is_widened as law_widened, count_elsewhere, key_of, known_version, may_join as law_may_join, may_refresh as law_may_refresh, names_version, not_modified as law_not_modified, not_shared as law_not_shared, other_head as law_other_head, other_part as law_other_part, own_head, part_head, relay_head, renew, renew_row, settle, settle_known, settle_on, settle_unchanged, tell, times_for as law_times, unchanged, use_body, useless, version_in as law_version_in}
use Rattle.pp_law.specs.State.{State, Body as LawBody, Brought as LawBrought, Dropping, Exchange, Instance as Known, TooWide}
use Rattle.pp_law.specs.Table.{add_row, clear, forget, forget_row, idle_row as law_idle, make_row, mark_row, on_instance, row, rows, swept, with_room as law_with_room}
use Rattle.pp_objects.specs.Instances.{Instance, id_of, is_idle, is_row, row_of}
use Rattle.pp_objects.specs.Kept.{kept_of}
use Rattle.pp_objects.specs.declared.id.ObjectId.{ObjectId}
use Rattle.pp_peers.specs.declared.peers.Peer.{Peer}
use Rattle.pp_reads_law.specs.Rows.{HasWay, MayMakeRoom}
use Rattle.pp_seats_law.specs.Exchanges.{ShowsExchange}
use Rattle.pp_state.specs.Ends.{Parts, parts}
use Rattle.pp_state.specs.Keys.{key_of as key_in_flow}
use Rattle.pp_state.specs.Known.{row_for, row_in}
use Rattle.pp_state.specs.Pins.{busy_rows, forgotten_row, idle_row, with_room}
use Rattle.pp_state.specs.declared.state.State.{State as Turn}
use Rattle.pp_states_law.proofs.Charged.{same_entry}
use Rattle.pp_text.specs.Fields.{Field}
use Rattle.pp_valid.specs.declared.version.Version.{Version}
use Rattle.pp_joints_law.proofs.ClearedLaw.{facts_of}
use Rattle.pp_joints_law.proofs.NotedHeads.{useless_clears}
use Rattle.pp_joints_law.proofs.NotedParts.{elsewhere_clears, filling_is}
use Rattle.pp_joints_law.specs.HeadsNote.{FillingHeadsForget, LeavesAsTheLaw, OwnHeadsForget}

-- ---- of the law: nothing leaves memory but for room

pub record Left (s t : State) : Type 0 where
  pub forgotten : t.forgotten ≡ s.forgotten

pub left_self : (s : State) → Left s s
left_self s = record { forgotten = refl }

pub left_then : (a b c : State) → Left a b → Left b c → Left a c
left_then a b c one two = record { forgotten = two.forgotten ∙ one.forgotten }

told_left : (e : Exchange) (b : LawBrought) (s : State) → Left s (tell e b s)
unfolding tell
told_left e b s = record { forgotten = refl }

body_left : (e : Exchange) (b : LawBody) (s : State) → Left s (use_body e b s)
unfolding use_body on_exchange
body_left e b s = record { forgotten = refl }

joined_left : (e : Exchange) (o : Option Known) (b : Known → LawBrought) (d : Known → LawBody) (s : State) → Left s (elim o as (λ t. State) [ None ↦ s | Some y ↦ tell e (b y) (use_body e (d y) s) ])
unfolding tell use_body on_exchange
joined_left e None b d s = left_self s
joined_left e (Some y) b d s = record { forgotten = refl }

settled_left : (e : Exchange) (head : Response) (v : Version) (s : State) → Left s (settle_on e head v s)
unfolding settle_on
settled_left e head v s = joined_left e (row s (key_of e)) _ _ s

renewed_left : (e : Exchange) (head : Response) (s : State) → Left s (renew_row e head s)
unfolding renew_row renew mark_row on_instance
renewed_left e head s = by (row s (key_of e))
  where
    by : (o : Option Known) → Left s (elim o as (λ t. State) [ None ↦ s | Some y ↦ renew y head (law_times e head s) s ])
    by None = left_self s
    by (Some y) = record { forgotten = refl }

unchanged_left : (e : Exchange) (s : State) → Left s (settle_unchanged e s)
unfolding settle_unchanged
unchanged_left e s = joined_left e (row s (key_of e)) _ _ s

pub cleared_left : (key : Bytes) (s : State) → Left s (clear key s)
unfolding clear swept
cleared_left key s = record { forgotten = refl }

useless_left : (e : Exchange) (s : State) → Left s (useless e s)
useless_left e s = let facts = facts_of (useless_clears e s) in record { forgotten = facts.forgotten_is }

unshared_left : (e : Exchange) (s : State) → Left s (law_not_shared e s)
unfolding law_not_shared drop_answer tell use_body on_exchange on_client_of
unshared_left e s = let one : Left s (clear (key_of e) s) = cleared_left (key_of e) s in record { forgotten = one.forgotten }

pub relayed_left : (e : Exchange) (head : Response) (rule : BodyRule) (s : State) → Left s (relay_head e head rule s)
unfolding relay_head tell use_body on_exchange
relayed_left e head rule s = record { forgotten = refl }

cleared_by_left : (head : Response) (e : Exchange) (s : State) → Left s (law_cleared_by head e s)
unfolding law_cleared_by
cleared_by_left head e s = by (law_clears head)
  where
    by : (b : Bool) → Left s (elim b as (λ t. State) [ true ↦ clear (key_of e) s | false ↦ s ])
    by true = cleared_left (key_of e) s
    by false = left_self s

other_left : (e : Exchange) (head : Response) (rule : BodyRule) (s : State) → Left s (law_other_head e head rule s)
unfolding law_other_head
other_left e head rule s = by (law_widened e head)
  where
    cleared : State
    cleared = law_cleared_by head e s

    by : (b : Bool) → Left s (elim b as (λ t. State) [ true ↦ tell e TooWide (use_body e Dropping cleared) | false ↦ relay_head e head rule cleared ])
    by true = left_then s cleared (tell e TooWide (use_body e Dropping cleared)) (cleared_by_left head e s) (left_then cleared (use_body e Dropping cleared) (tell e TooWide (use_body e Dropping cleared)) (body_left e Dropping cleared) (told_left e TooWide (use_body e Dropping cleared)))
    by false = left_then s cleared (relay_head e head rule cleared) (cleared_by_left head e s) (relayed_left e head rule cleared)

other_part_left : (e : Exchange) (head : Response) (rule : BodyRule) (s : State) → Left s (law_other_part e head rule s)
unfolding law_other_part
other_part_left e head rule s = by (law_private head) (law_clears head)
  where
    cleared : State
    cleared = law_cleared_by head e s

    by : (a b : Bool) → Left s (elim a as (λ t. State) [ true ↦ law_not_shared e s | false ↦ elim b as (λ t. State) [ true ↦ relay_head e head rule cleared | false ↦ useless e s ] ])
    by true b = unshared_left e s
    by false true = left_then s cleared (relay_head e head rule cleared) (cleared_by_left head e s) (relayed_left e head rule cleared)
    by false false = useless_left e s

elsewhere_left : (e : Exchange) (s : State) → Left s (count_elsewhere e s)
elsewhere_left e s = let facts = facts_of (elsewhere_clears e s) in record { forgotten = facts.forgotten_is }

modified_left : (e : Exchange) (head : Response) (s : State) → Left s (law_not_modified e head s)
unfolding law_not_modified unchanged
modified_left e head s = by (forbids_sharing head) (is_of_another head s (key_of e)) (is_some_with (names_version e) (known_version s (key_of e)) && law_may_refresh e head s)
  where
    by : (a b c : Bool)
        → Left s (elim a as (λ t. State) [
          | true ↦ law_not_shared e s
          | false ↦ elim b as (λ t. State) [ true ↦ useless e (clear (key_of e) s) | false ↦ elim c as (λ t. State) [ true ↦ settle_unchanged e (renew_row e head s) | false ↦ useless e s ] ]
        ])
    by true b c = unshared_left e s
    by false true c = left_then s (clear (key_of e) s) (useless e (clear (key_of e) s)) (cleared_left (key_of e) s) (useless_left e (clear (key_of e) s))
    by false false true = left_then s (renew_row e head s) (settle_unchanged e (renew_row e head s)) (renewed_left e head s) (unchanged_left e (renew_row e head s))
    by false false false = useless_left e s

known_left : (e : Exchange) (head : Response) (v : Version) (s : State) → Left s (settle_known e head v s)
unfolding settle_known
known_left e head v s = by (law_may_refresh e head s)
  where
    by : (b : Bool) → Left s (elim b as (λ t. State) [ true ↦ settle_on e head v (renew_row e head s) | false ↦ useless e s ])
    by true = left_then s (renew_row e head s) (settle_on e head v (renew_row e head s)) (renewed_left e head s) (settled_left e head v (renew_row e head s))
    by false = useless_left e s

made_left : (key : Bytes) (v : Version) (fields : List Field) (times : Times) (s : State) → Left (law_with_room (clear key s)) (make_row key v fields times s)
unfolding make_row add_row
made_left key v fields times s = record { forgotten = refl }

abbrev room_by : State → Bool → Option Known → State
room_by s b o = elim b as (λ t. State) [ true ↦ s | false ↦ elim o as (λ t. State) [ None ↦ s | Some x ↦ forget_row x s ] ]

room_is : (s : State) → law_with_room s ≡ room_by s (nat_lt (rows s) 1024) (law_idle s)
unfolding law_with_room
room_is s = refl

row_left : (x : Known) (s : State) → (forget_row x s).forgotten ≡ s.forgotten ++ x.key ∷ []
unfolding forget_row forget
row_left x s = refl

-- ---- of both

module _ (number : ℕ → ℕ) (name : Bytes) (l : Leaving) (peers : List Peer) (t : Turn) (s : State) (n : ℕ) (x : Entry) (e : Exchange) (head : Response) (rule : BodyRule) (at : IsAtHead number name l peers t s n x e) (room : row s (key_of e) ≡ None → MayMakeRoom s) (leaves : LeavesAsTheLaw t s) where
  abbrev old : Parts
  old = parts t

  abbrev key : Bytes
  key = key_of e

  key_there : key_in_flow x.exchange.number old.flow ≡ Some key
  key_there = key_is number name l peers old s at.shows n x e at.answered

  shown : ShowsExchange number x e
  shown = same_entry number name l peers old s at.shows n x e (there_too number name l peers old s at.shows n x e at.answered)

  -- nothing leaves
  stays : (u : State) → Left s u → LeavesAsTheLaw t u
  stays u left = record { forgotten = leaves.forgotten ∙ sym left.forgotten }

  abbrev anew : Version → State
  anew v = settle_on e head v (make_row key v (kept_of head.fields (law_times e head s)) (law_times e head s) s)

  anew_left : (v : Version) → Left (law_with_room (clear key s)) (anew v)
  anew_left v =
      let made : State = make_row key v (kept_of head.fields (law_times e head s)) (law_times e head s) s in
      left_then (law_with_room (clear key s)) made (anew v) (made_left key v (kept_of head.fields (law_times e head s)) (law_times e head s) s) (settled_left e head v made)

  leaves_as : (p : Turn) (u v : State) → LeavesAsTheLaw p u → Left u v → LeavesAsTheLaw p v
  leaves_as p u v one left = record { forgotten = one.forgotten ∙ sym left.forgotten }

  -- ---- in the place of a row that stands there is room

  in_place : (i : Instance) → row_of key old.cache.instances ≡ Some i → LeavesAsTheLaw t (law_with_room (clear key s))
  in_place i there =
      subst (λ (u : State). LeavesAsTheLaw t u) (sym (room_is (clear key s) ∙ ap (λ (b : Bool). room_by (clear key s) b (law_idle (clear key s))) (cleared_room number old.cache s key i at.shows.shows.table there at.may.few)))
      (stays (clear key s) (cleared_left key s))

  -- ---- the first row of its key needs room

  count : count_by is_row old.cache.instances ≡ rows s
  count = room_of number old.cache s at.shows.shows.table.table

  few_le : (m : ℕ) → nat_lt m 1024 ≡ true → nat_le 1024 m ≡ false
  few_le m few = grind (arith, nat_tests)

  full_le : (m : ℕ) → nat_lt m 1024 ≡ false → nat_le 1024 m ≡ true
  full_le m full = grind (arith, nat_tests)

  abbrev turn_by : Bool → Option Instance → Turn
  turn_by b o = elim b as (λ u. Turn) [ true ↦ forgotten_row o t | false ↦ t ]

  abbrev cleared : State
  cleared = clear key s

  first : row s key ≡ None → LeavesAsTheLaw (with_room t) (law_with_room cleared)
  first none =
      subst (λ (u : State). LeavesAsTheLaw (with_room t) u)
      (sym (room_is cleared ∙ ap₂ (λ (m : ℕ) (o : Option Known). room_by cleared (nat_lt m 1024) o) (cleared_rows s key nothing) (cleared_idle s key nothing)))
      (by (nat_lt (rows s) 1024) refl)
    where
      nothing : IsCleared s cleared
      nothing = nothing_cleared number old.cache s key at.shows.shows.table none

      fits : nat_lt (rows s) 1024 ≡ true → LeavesAsTheLaw (with_room t) cleared
      fits few =
          subst (λ (b : Bool). LeavesAsTheLaw (turn_by b (idle_row t)) cleared) (sym (ap (λ (m : ℕ). nat_le 1024 m) count ∙ few_le (rows s) few))
          (stays cleared (cleared_left key s))

      busy : AreBusy number old.cache s (busy_rows old.flow)
      busy = busies number name l peers old s at.shows at.may.busy

      noted : (i : Instance) (way : HasWay s) → ShowsInstance number old.cache s i way.row → noted_by i.key t.forgotten ≡ s.forgotten ++ way.row.key ∷ []
      noted i way one =
          ap₂ (λ (text : Bytes) (keys : List Bytes). noted_by text keys) one.key leaves.forgotten
          ∙ ap (λ (b : Bool). cond (b || nat_le 16 (length s.forgotten) || nat_lt 8192 (length way.row.key)) s.forgotten (s.forgotten ++ way.row.key ∷ [])) way.may.new
          ∙ ap₂ (λ (b c : Bool). cond (b || c) s.forgotten (s.forgotten ++ way.row.key ∷ [])) way.may.few way.may.short

      leaves_one : (way : HasWay s) (o : Option Instance) → AreBoth (ShowsInstance number old.cache s) o (Some way.row) → LeavesAsTheLaw (forgotten_row o t) (forget_row way.row cleared)
      leaves_one way None both = absurd both
      leaves_one way (Some i) both = record {
        forgotten = noted i way both ∙ ap (λ (keys : List Bytes). keys ++ way.row.key ∷ []) (sym (cleared_left key s).forgotten) ∙ sym (row_left way.row cleared);
      }

      full : (way : HasWay s) → nat_lt (rows s) 1024 ≡ false → LeavesAsTheLaw (with_room t) (room_by cleared false (law_idle s))
      full way is =
          subst (λ (o : Option Known). LeavesAsTheLaw (with_room t) (room_by cleared false o)) (sym way.idle)
          (subst (λ (b : Bool). LeavesAsTheLaw (turn_by b (idle_row t)) (forget_row way.row cleared)) (sym (ap (λ (m : ℕ). nat_le 1024 m) count ∙ full_le (rows s) is))
          (leaves_one way (idle_row t) (subst (λ (o : Option Known). AreBoth (ShowsInstance number old.cache s) (find (is_idle (busy_rows t.flow)) t.cache.instances) o) way.idle (idle_rows_of number old.cache s at.shows.shows.table.table (busy_rows old.flow) busy))))

      by : (b : Bool) → nat_lt (rows s) 1024 ≡ b → LeavesAsTheLaw (with_room t) (room_by cleared b (law_idle s))
      by true few = fits few
      by false is = full (room none is) is

  -- ---- by the row that stands

  abbrev settled_if : Version → Bool → State
  settled_if v b = elim b as (λ u. State) [ true ↦ settle_known e head v s | false ↦ anew v ]

  abbrev by_known : Version → Option Version → State
  by_known v o = settled_if v (is_some_with (law_may_join e head v) o)

  settle_is : (v : Version) → settle e head v s ≡ by_known v (known_version s key)
  unfolding settle
  settle_is v = refl

  settles : (v : Version) (u : Option Instance) (w : Option Known) → row_of key old.cache.instances ≡ u → row s key ≡ w → AreBoth (ShowsInstance number old.cache s) u w → LeavesAsTheLaw (with_room_for (option_map (λ (i : Instance). (id_of i, i.version)) u) t) (by_known v (known_version s key))
  settles v None None a b both =
      subst (λ (o : Option Version). LeavesAsTheLaw (with_room t) (by_known v o)) (sym (none_known s key b)) (leaves_as (with_room t) (law_with_room cleared) (anew v) (first b) (anew_left v))
  settles v None (Some y) a b both = absurd both
  settles v (Some i) None a b both = absurd both
  settles v (Some i) (Some y) a b both = subst (λ (o : Option Version). LeavesAsTheLaw t (by_known v o)) (sym (known_is s key y b)) (by (law_may_join e head v y.version))
    where
      by : (c : Bool) → LeavesAsTheLaw t (settled_if v c)
      by true = stays (settle_known e head v s) (known_left e head v s)
      by false = leaves_as t (law_with_room cleared) (anew v) (in_place i a) (anew_left v)

  row_is : row_for x.exchange.number old ≡ option_map (λ (i : Instance). (id_of i, i.version)) (row_of key old.cache.instances)
  row_is = ap (λ (o : Option Bytes). option_and_then (λ k. row_in k old.cache) o) key_there

  settled_forgets : (v : Version) → LeavesAsTheLaw (roomed (Some v) x.exchange.number t) (settle e head v s)
  settled_forgets v =
      subst (λ (u : State). LeavesAsTheLaw (roomed (Some v) x.exchange.number t) u) (sym (settle_is v))
      (subst (λ (o : Option (ObjectId × Version)). LeavesAsTheLaw (with_room_for o t) (by_known v (known_version s key))) (sym row_is)
      (settles v (row_of key old.cache.instances) (row s key) refl refl (rows_of number old.cache s at.shows.shows.table.table key)))

  abbrev own_by : Option Version → State
  own_by o = elim o as (λ u. State) [ Some v ↦ settle e head v s | None ↦ elim (head.status == 304) as (λ u. State) [ true ↦ law_not_modified e head s | false ↦ law_other_head e head rule s ] ]

  own_is : own_head e head rule s ≡ own_by (law_version_in e head)
  unfolding own_head
  own_is = refl

  takes : (o : Option Version) → LeavesAsTheLaw (roomed o x.exchange.number t) (own_by o)
  takes None = stays (own_by None) (by (head.status == 304))
    where
      by : (b : Bool) → Left s (elim b as (λ u. State) [ true ↦ law_not_modified e head s | false ↦ law_other_head e head rule s ])
      by true = modified_left e head s
      by false = other_left e head rule s
  takes (Some v) = settled_forgets v

  own_forgets : LeavesAsTheLaw (roomed (version_in x.errand head) x.exchange.number t) (own_head e head rule s)
  own_forgets =
      subst (λ (u : State). LeavesAsTheLaw (roomed (version_in x.errand head) x.exchange.number t) u) (sym own_is)
      (subst (λ (o : Option Version). LeavesAsTheLaw (roomed o x.exchange.number t) (own_by (law_version_in e head))) (sym (versions number x e head shown)) (takes (law_version_in e head)))

  -- ---- to the ask of a follower

  abbrev part_by : Option Version → State
  part_by o = elim o as (λ u. State) [ Some v ↦ settle e head v s | None ↦ elim (head.status == 304) as (λ u. State) [ true ↦ law_not_modified e head s | false ↦ law_other_part e head rule s ] ]

  part_is : part_head e head rule s ≡ part_by (law_version_in e head)
  unfolding part_head
  part_is = refl

  takes_part : (o : Option Version) → LeavesAsTheLaw (roomed o x.exchange.number t) (part_by o)
  takes_part None = stays (part_by None) (by (head.status == 304))
    where
      by : (b : Bool) → Left s (elim b as (λ u. State) [ true ↦ law_not_modified e head s | false ↦ law_other_part e head rule s ])
      by true = modified_left e head s
      by false = other_part_left e head rule s
  takes_part (Some v) = settled_forgets v

  part_forgets : LeavesAsTheLaw (roomed (version_in x.errand head) x.exchange.number t) (part_head e head rule s)
  part_forgets =
      subst (λ (u : State). LeavesAsTheLaw (roomed (version_in x.errand head) x.exchange.number t) u) (sym part_is)
      (subst (λ (o : Option Version). LeavesAsTheLaw (roomed o x.exchange.number t) (part_by (law_version_in e head))) (sym (versions number x e head shown)) (takes_part (law_version_in e head)))

  filling_forgets : LeavesAsTheLaw (roomed (version_in x.errand head) x.exchange.number t) (filling_head e head rule s)
  filling_forgets =
      subst (λ (u : State). LeavesAsTheLaw (roomed (version_in x.errand head) x.exchange.number t) u) (sym (filling_is e head rule s))
      (leaves_as (roomed (version_in x.errand head) x.exchange.number t) (part_head e head rule s) (count_elsewhere e (part_head e head rule s)) part_forgets (elsewhere_left e (part_head e head rule s)))

pub own_heads_forget : OwnHeadsForget
own_heads_forget number name l peers t s n x e head rule at room leaves = own_forgets number name l peers t s n x e head rule at room leaves

pub filling_heads_forget : FillingHeadsForget
filling_heads_forget number name l peers t s n x e head rule at room leaves = filling_forgets number name l peers t s n x e head rule at room leaves
