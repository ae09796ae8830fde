-- The head of a response to a Fetch or Validate clears the row of its key in the program where it does in the law, or makes another in its place:
-- so which entries stand no more is noted behind it.
use Rattle.std.proofs.Common.{◌≡◌, ◌≤◌, ◌<◌, ◌+◌, refl, sym, subst, ap, ap₂, ◌∙◌, ℕ, Bool, true, false, ◌==◌, ◌&&◌, not, is_some, length, nat_le, nat_lt, List, [], Option, Some, None, option_map, option_and_then, arith}
use Rattle.std.proofs.lemmas.Bool.Decides.{nat_tests}
use Rattle.std.specs.Prelude.{count_by}
use Rattle.pp_answers.specs.Answers.{not_shared, on_its}
use Rattle.pp_answers.specs.FinalHeads.{TakesOwn, cleared_by, is_widened, noted_body, other_head, relayed_or_widened, version_in, without_version}
use Rattle.pp_answers.specs.Heads.{names_tag, told_unchanged}
use Rattle.pp_answers.specs.Rows.{MakesRow, MakesRowOf, Settles, SettlesRow, in_memory, joining, may_join, may_refresh, not_modified, not_modified_as, nothing_of, refreshed_at, refreshed_row, refused_row, refusing, refusing_key, renewed, row_or_none, settled_on, times_for, with_room_for}
use Rattle.pp_answers_law.proofs.Dropped.{there_too}
use Rattle.pp_answers_law.proofs.Joined.{row_shown}
use Rattle.pp_answers_law.proofs.Renewed.{known_is, none_known}
use Rattle.pp_answers_law.proofs.Standing.{stands_cleared}
use Rattle.pp_answers_law.proofs.Useless.{answered_cleared, key_is, row_cleared, uselesses}
use Rattle.pp_answers_law.specs.Answers.{IsAnswered, Stands}
use Rattle.pp_answers_law.specs.Owns.{IsAtHead}
use Rattle.pp_answers_law.specs.Settling.{HasRow}
use Rattle.pp_cache.specs.Memory.{Memory, retired_at, with_outdated, with_row}
use Rattle.pp_cache.specs.OnDisk.{outdated_by}
use Rattle.pp_cache_law.proofs.Alike.{rows_of}
use Rattle.pp_cache_law.proofs.Noted.{clearings_of}
use Rattle.pp_cache_law.specs.Outdated.{AreNamed, AreNoted}
use Rattle.pp_cache_law.specs.Pairs.{AreBoth}
use Rattle.pp_cache_law.specs.Tables.{ShowsInstance}
use Rattle.pp_flow.specs.Changes.{Exchanges}
use Rattle.pp_flow.specs.Errands.{attempts_in, named_by}
use Rattle.pp_flow.specs.declared.entry.Entry.{Entry}
use Rattle.pp_flow.specs.declared.entry.Exchange.{Exchange as SeatExchange}
use Rattle.pp_flow_law.specs.Tables.{Leaving}
use Rattle.pp_framing.specs.declared.body.BodyRule.{BodyRule}
use Rattle.pp_fresh.specs.Ready.{may_store}
use Rattle.pp_fresh.specs.declared.aging.Times.{Times}
use Rattle.pp_head.specs.Response.{Response}
use Rattle.pp_heads_law.proofs.Ruled.{joins as joins_same, names as names_same, times as times_same, versions}
use Rattle.pp_law.specs.Connections.{on_client_of, on_exchange}
use Rattle.pp_law.specs.Lists.{Bytes, is_some_with}
use Rattle.pp_law.specs.OwnHeads.{cleared_by as law_cleared_by, clears_row as law_clears, drop_answer, is_widened as law_widened, key_of, known_version, may_join as law_may_join, may_refresh as law_may_refresh, names_version, not_modified as law_not_modified, not_shared as law_not_shared, other_head as law_other_head, own_head, relay_head, renew, renew_row, settle, settle_known, settle_on, settle_unchanged, tell, times_for as law_times, unchanged, use_body, useless, version_in as law_version_in}
use Rattle.pp_law.specs.State.{State, Body as LawBody, Brought as LawBrought, Dropping, Entry as KeptEntry, Exchange, Instance as Known, TooWide}
use Rattle.pp_law.specs.Table.{add_row, clear, forget, forget_row, idle_row as law_idle, make_row, mark_row, on_instance, row, rows, swept, with_room as law_with_room}
use Rattle.pp_objects.specs.Changes.{retired_from}
use Rattle.pp_objects.specs.Instances.{Instance, fields_at, fields_of, id_of, is_life, is_row, row_of}
use Rattle.pp_objects.specs.Kept.{has_room, kept_of}
use Rattle.pp_objects.specs.declared.id.ObjectId.{ObjectId}
use Rattle.pp_peers.specs.declared.peers.Peer.{Peer}
use Rattle.pp_seats.specs.Courses.{without_shared_row}
use Rattle.pp_seats.specs.declared.seat.Brought.{Brought}
use Rattle.pp_seats.specs.declared.seat.Seat.{Seat}
use Rattle.pp_seats_law.specs.Exchanges.{ShowsExchange}
use Rattle.pp_state.specs.Ends.{Parts, bound_by, cleared_key, cleared_of, cleared_row, lost_attempt, made_useless, on_seat_where, parts, seat_for, told, told_to}
use Rattle.pp_state.specs.Keys.{key_of as key_in_flow}
use Rattle.pp_state.specs.Known.{row_for, row_in}
use Rattle.pp_state.specs.Pins.{forgotten_row, idle_row, with_room}
use Rattle.pp_state.specs.declared.state.State.{State as Turn}
use Rattle.pp_states_law.proofs.Charged.{same_entry}
use Rattle.pp_states_law.specs.Charges.{IsFor}
use Rattle.pp_states_law.specs.Steps.{ShowsSteps}
use Rattle.pp_target.specs.Name.{name_of}
use Rattle.pp_text.specs.Fields.{Field}
use Rattle.pp_valid.specs.Conditions.{names_other_tag}
use Rattle.pp_valid.specs.declared.version.Version.{Version}
use Rattle.pp_world.specs.declared.access.Source.TheVariants.{Checked}
use Rattle.pp_joints_law.proofs.BytesHeads.{body_can, drops, rooms}
use Rattle.pp_joints_law.proofs.ClearedLaw.{Clears, clears, clears_none, facts_of}
use Rattle.pp_joints_law.proofs.ClearedParts.{ClearsIn, clears_stay, clears_then, loses, one_longer, stays_beside}
use Rattle.pp_joints_law.proofs.ClearedSteps.{lose_attempt-clears}
use Rattle.pp_joints_law.proofs.Clearings.{stay_named}
use Rattle.pp_joints_law.proofs.NotedBehind.{noted_behind, rows_show, tidy_shown}
use Rattle.pp_joints_law.proofs.RowsCleared.{fewer_rows}
use Rattle.pp_joints_law.specs.HeadsNote.{MayNoteOneMore, OwnHeadsNote}

-- ---- what is noted, from state to state

-- and each entry has the name of its key still
abbrev pub Notes : List Bytes → List Bytes → State → State → Type 0
Notes names behind s t = AreNamed s.entries → AreNoted names s.displaced s.entries → AreNoted behind t.displaced t.entries × AreNamed t.entries

pub notes_none : (names : List Bytes) (s : State) → Notes names names s s
notes_none names s named all = (all, named)

pub notes_then : (names mid behind : List Bytes) (s t u : State) → Notes names mid s t → Notes mid behind t u → Notes names behind s u
notes_then names mid behind s t u one two named all = let first = one named all in two first.1 first.0

pub notes_same : (names behind : List Bytes) (s t : State) → behind ≡ names → t.entries ≡ s.entries → t.displaced ≡ s.displaced → Notes names behind s t
notes_same names behind s t is entries displaced named all = (
  subst (λ (ns : List Bytes). AreNoted ns t.displaced t.entries) (sym is) (subst (λ (es : List KeptEntry). AreNoted names t.displaced es) (sym entries) (subst (λ (ks : List Bytes). AreNoted names ks s.entries) (sym displaced) all)),
  subst (λ (es : List KeptEntry). AreNamed es) (sym entries) named,
)

pub named_behind : (key : Bytes) (s : State) → AreNamed s.entries → AreNamed (clear key s).entries
unfolding clear swept
named_behind key s named = stay_named key s.entries named

retired_noted : (key : Bytes) (m : Memory) → (retired_at key m).outdated ≡ outdated_by (name_of key) m.outdated
unfolding retired_at
retired_noted key m = refl

pub notes_cleared : (key : Bytes) (m : Memory) (behind : List Bytes) (s t : State) → length m.outdated < 2048 → behind ≡ outdated_by (name_of key) m.outdated → t.entries ≡ (clear key s).entries → t.displaced ≡ (clear key s).displaced → Notes m.outdated behind s t
notes_cleared key m behind s t few is entries displaced named all =
    notes_same (retired_at key m).outdated behind (clear key s) t (is ∙ sym (retired_noted key m)) entries displaced (named_behind key s named) (clearings_of m s key all named few).0

-- ---- of the law: entries change by a clearing alone

-- the same of both
pub record SameEntries (s t : State) : Type 0 where
  pub entries : t.entries ≡ s.entries
  pub displaced : t.displaced ≡ s.displaced

pub same_self : (s : State) → SameEntries s s
same_self s = record { entries = refl; displaced = refl }

pub same_then : (a b c : State) → SameEntries a b → SameEntries b c → SameEntries a c
same_then a b c one two = record { entries = two.entries ∙ one.entries; displaced = two.displaced ∙ one.displaced }

told_same : (e : Exchange) (b : LawBrought) (s : State) → SameEntries s (tell e b s)
unfolding tell
told_same e b s = record { entries = refl; displaced = refl }

body_same : (e : Exchange) (b : LawBody) (s : State) → SameEntries s (use_body e b s)
unfolding use_body on_exchange
body_same e b s = record { entries = refl; displaced = refl }

joined_same : (e : Exchange) (o : Option Known) (b : Known → LawBrought) (d : Known → LawBody) (s : State) → SameEntries s (elim o as (λ t. State) [ None ↦ s | Some y ↦ tell e (b y) (use_body e (d y) s) ])
unfolding tell use_body on_exchange
joined_same e None b d s = same_self s
joined_same e (Some y) b d s = record { entries = refl; displaced = refl }

settled_same : (e : Exchange) (head : Response) (v : Version) (s : State) → SameEntries s (settle_on e head v s)
unfolding settle_on
settled_same e head v s = joined_same e (row s (key_of e)) _ _ s

renewed_same : (e : Exchange) (head : Response) (s : State) → SameEntries s (renew_row e head s)
unfolding renew_row renew mark_row on_instance
renewed_same e head s = by (row s (key_of e))
  where
    by : (o : Option Known) → SameEntries s (elim o as (λ t. State) [ None ↦ s | Some y ↦ renew y head (law_times e head s) s ])
    by None = same_self s
    by (Some y) = record { entries = refl; displaced = refl }

unchanged_same : (e : Exchange) (s : State) → SameEntries s (settle_unchanged e s)
unfolding settle_unchanged
unchanged_same e s = joined_same e (row s (key_of e)) _ _ s

roomed_same : (s : State) → SameEntries s (law_with_room s)
unfolding law_with_room forget_row forget
roomed_same s = by (nat_lt (rows s) 1024) (law_idle s)
  where
    by : (b : Bool) (o : Option Known) → SameEntries s (elim b as (λ t. State) [ true ↦ s | false ↦ elim o as (λ t. State) [ None ↦ s | Some x ↦ forget_row x s ] ])
    by true o = same_self s
    by false None = same_self s
    by false (Some x) = record { entries = refl; displaced = refl }

made_same : (key : Bytes) (v : Version) (fields : List Field) (times : Times) (s : State) → SameEntries (clear key s) (make_row key v fields times s)
unfolding make_row add_row
made_same key v fields times s = let one : SameEntries (clear key s) (law_with_room (clear key s)) = roomed_same (clear key s) in record { entries = one.entries; displaced = one.displaced }

dropped_clears : {o : State} (e : Exchange) (s : State) → Clears o s → Clears o (drop_answer e s)
unfolding drop_answer tell use_body on_exchange
dropped_clears e s h = clears (facts_of h)

pub useless_clears : (e : Exchange) (s : State) → Clears s (useless e s)
unfolding useless
useless_clears e s = lose_attempt-clears e (drop_answer e s) (dropped_clears e s (clears_none s))

unshared_same : (e : Exchange) (s : State) → SameEntries (clear (key_of e) s) (law_not_shared e s)
unfolding law_not_shared drop_answer tell use_body on_exchange on_client_of
unshared_same e s = record { entries = refl; displaced = refl }

abbrev pub cleared_if : Exchange → State → Bool → State
cleared_if e s b = elim b as (λ t. State) [ true ↦ clear (key_of e) s | false ↦ s ]

pub other_cleared : (e : Exchange) (head : Response) (s : State) → law_cleared_by head e s ≡ cleared_if e s (law_clears head)
unfolding law_cleared_by
other_cleared e head s = refl

pub relayed_same : (e : Exchange) (head : Response) (rule : BodyRule) (s : State) → SameEntries s (relay_head e head rule s)
unfolding relay_head tell use_body on_exchange
relayed_same e head rule s = record { entries = refl; displaced = refl }

other_same : (e : Exchange) (head : Response) (rule : BodyRule) (s : State) → SameEntries (law_cleared_by head e s) (law_other_head e head rule s)
unfolding law_other_head
other_same e head rule s = by (law_widened e head)
  where
    cleared : State
    cleared = law_cleared_by head e s

    by : (b : Bool) → SameEntries cleared (elim b as (λ t. State) [ true ↦ tell e TooWide (use_body e Dropping cleared) | false ↦ relay_head e head rule cleared ])
    by true = same_then cleared (use_body e Dropping cleared) (tell e TooWide (use_body e Dropping cleared)) (body_same e Dropping cleared) (told_same e TooWide (use_body e Dropping cleared))
    by false = relayed_same e head rule cleared

-- ---- of the program: names are noted by a clearing alone

pub told_cache : (e : SeatExchange) (b : Brought) (p : Parts) → (told_to e b p).cache ≡ p.cache
told_cache e b p = by (seat_for e p.seats)
  where
    by : (o : Option ℕ) → (on_seat_where o (told b) p).cache ≡ p.cache
    by None = refl
    by (Some i) = refl

pub seat_cache : (o : Option ℕ) (f : Seat → Seat) (p : Parts) → (on_seat_where o f p).cache ≡ p.cache
seat_cache None f p = refl
seat_cache (Some i) f p = refl

pub roomed_noted : (t : Turn) → (with_room t).cache.outdated ≡ t.cache.outdated
roomed_noted t = by (nat_le 1024 (count_by is_row t.cache.instances)) (idle_row t)
  where
    by : (b : Bool) (o : Option Instance) → (elim b as (λ u. Turn) [ true ↦ forgotten_row o t | false ↦ t ]).cache.outdated ≡ t.cache.outdated
    by true None = refl
    by true (Some i) = refl
    by false o = refl

row_noted : (id : ObjectId) (key : Bytes) (v : Version) (fields : List Field) (times : Times) (m : Memory) → (with_outdated key (with_row id key v fields times m)).outdated ≡ outdated_by (name_of key) m.outdated
unfolding with_outdated with_row
row_noted id key v fields times m = refl

pub refusing_cache : (o : Option Bytes) (p : Parts) → (refusing_key o p).cache ≡ p.cache
refusing_cache None p = refl
refusing_cache (Some key) p = refl

pub cleared_noted : (o : Option Bytes) (key : Bytes) (p : Parts) → o ≡ Some key → (cleared_of o p).cache.outdated ≡ outdated_by (name_of key) p.cache.outdated
cleared_noted o key p is = ap (λ (u : Option Bytes). (cleared_of u p).cache.outdated) is ∙ retired_noted key p.cache

-- ---- no more than so many

le_less : (a b c d e : ℕ) → a + b ≤ c + d → c + d + e < 2048 → a < 2048
le_less a b c d e less few = omega (arith, less, few)

no_more : (key : Bytes) (is : List Instance) → count_by is_row (retired_from (row_of key is) is) ≤ count_by is_row is
no_more key is = by (row_of key is) refl
  where
    by : (o : Option Instance) → row_of key is ≡ o → count_by is_row (retired_from o is) ≤ count_by is_row is
    by None found = omega arith
    by (Some i) found = subst (λ (o : Option Instance). count_by is_row (retired_from o is) ≤ count_by is_row is) found (omega (arith, fewer_rows key is (ap (λ (o : Option Instance). is_some o) found)))

pub key_room : (key : Bytes) (p : Parts) → length (cleared_key key p).cache.outdated + count_by is_row (cleared_key key p).cache.instances ≤ length p.cache.outdated + count_by is_row p.cache.instances + 1
unfolding retired_at
key_room key p = omega (arith, one_longer (name_of key) p.cache.outdated, no_more key p.cache.instances)

-- what is made of each answer is one of four
each_said : {A B R : Type 0} (f : A → B) (b : Bool) (o : Option R) (c d : R → Bool) (none unshared another : A) (row : R → A)
    → f (elim b as (λ t. A) [ false ↦ unshared | true ↦ elim o as (λ t. A) [ None ↦ none | Some r ↦ elim (c r) as (λ t. A) [ true ↦ another | false ↦ elim (d r) as (λ t. A) [ true ↦ row r | false ↦ none ] ] ] ])
    ≡ elim b as (λ t. B) [ false ↦ f unshared | true ↦ elim o as (λ t. B) [ None ↦ f none | Some r ↦ elim (c r) as (λ t. B) [ true ↦ f another | false ↦ elim (d r) as (λ t. B) [ true ↦ f (row r) | false ↦ f none ] ] ] ]
each_said f false o c d none unshared another row = refl
each_said f true None c d none unshared another row = refl
each_said {A = A} {B = B} f true (Some r) c d none unshared another row = by (c r) (d r)
  where
    by : (t u : Bool) → f (elim t as (λ v. A) [ true ↦ another | false ↦ elim u as (λ v. A) [ true ↦ row r | false ↦ none ] ]) ≡ elim t as (λ v. B) [ true ↦ f another | false ↦ elim u as (λ v. B) [ true ↦ f (row r) | false ↦ f none ] ]
    by true u = refl
    by false true = refl
    by false false = refl

-- ---- at a head

module _ (number : ℕ → ℕ) (name : Bytes) (l : Leaving) (peers : List Peer) where
  -- its attempt is lost
  useless_notes : (p : Parts) (s : State) → ShowsSteps number name l peers p s → (n : ℕ) (x : Entry) (e : Exchange) → IsAnswered n p s x e → IsFor s e Stands → length p.cache.outdated + count_by is_row p.cache.instances < 2048
      → Notes p.cache.outdated (made_useless x.exchange p).cache.outdated s (useless e s)
  useless_notes p s shows n x e answered stands room named all = (
    noted_behind p q s t (rows_show number p.cache s shows.shows.table.table) (rows_show number q.cache t then.shows.table.table) (tidy_shown number p.cache s shows.shows.table.table) (useless_clears e s) turn few named all,
    (facts_of (useless_clears e s)).named named,
  )
    where
      r : Parts
      r = lost_attempt x.exchange p

      q : Parts
      q = noted_body n (made_useless x.exchange p)

      t : State
      t = useless e s

      then : ShowsSteps number name l peers q t
      then = uselesses number name l peers p s shows n x e answered stands

      same : q.cache ≡ r.cache
      same = told_cache x.exchange _ (bound_by x.exchange.number None r)

      turn : ClearsIn p q
      turn = clears_then p r q (loses x.exchange p) (clears_stay r q (stays_beside r q (ap (λ (m : Memory). m.instances) same) (ap (λ (m : Memory). m.outdated) same) (λ can. body_can n _ _ (drops x.exchange r can))))

      few : length q.cache.outdated < 2048
      few = le_less (length q.cache.outdated) (count_by is_row q.cache.instances) (length p.cache.outdated) (count_by is_row p.cache.instances) 0 turn.few (omega (arith, room))

  module _ (t : Turn) (s : State) (n : ℕ) (x : Entry) (e : Exchange) (head : Response) (rule : BodyRule) (at : IsAtHead number name l peers t s n x e) (room : MayNoteOneMore (parts t)) where
    abbrev old : Parts
    old = parts t

    abbrev key : Bytes
    key = key_of e

    pub key_there : key_in_flow x.exchange.number old.flow ≡ Some key
    key_there = key_is number name l peers old s at.shows n x e at.answered

    pub shown : ShowsExchange number x e
    shown = same_entry number name l peers old s at.shows n x e (there_too number name l peers old s at.shows n x e at.answered)

    few : length old.cache.outdated < 2048
    few = le_less (length old.cache.outdated) 0 (length old.cache.outdated) 0 0 (omega arith) (omega (arith, room))

    pub loses_notes : Notes old.cache.outdated (made_useless x.exchange old).cache.outdated s (useless e s)
    loses_notes = useless_notes old s at.shows n x e at.answered at.stands (omega (arith, room))

    -- ---- its row is cleared

    pub clears_notes : (behind : List Bytes) (u : State) → behind ≡ outdated_by (name_of key) old.cache.outdated → SameEntries (clear key s) u → Notes old.cache.outdated behind s u
    clears_notes behind u is same = notes_cleared key old.cache behind s u few is same.entries same.displaced

    another_notes : Notes old.cache.outdated (made_useless x.exchange (cleared_row x.exchange.number old)).cache.outdated s (useless e (clear key s))
    another_notes named all =
        useless_notes (cleared_row x.exchange.number old) (clear key s) (row_cleared number name l peers old s at.shows n x e at.answered) n x e (answered_cleared n old s x e key at.answered) (stands_cleared e key s at.stands)
        (subst (λ (o : Option Bytes). length (cleared_of o old).cache.outdated + count_by is_row (cleared_of o old).cache.instances < 2048) (sym key_there) (omega (arith, key_room key old, room)))
        (named_behind key s named) (clears_notes (cleared_row x.exchange.number old).cache.outdated (clear key s) (cleared_noted (key_in_flow x.exchange.number old.flow) key old key_there) (same_self (clear key s)) named all).0

    pub unshared_notes : Notes old.cache.outdated (not_shared x.exchange x.errand old).cache.outdated s (law_not_shared e s)
    unshared_notes = clears_notes (not_shared x.exchange x.errand old).cache.outdated (law_not_shared e s) is (unshared_same e s)
      where
        q : Parts
        q = cleared_row x.exchange.number old

        f : Seat → Seat
        f = without_shared_row (attempts_in x.errand.is_asked_once)

        is : (not_shared x.exchange x.errand old).cache.outdated ≡ outdated_by (name_of key) old.cache.outdated
        is =
            ap (λ (m : Memory). m.outdated) (told_cache x.exchange _ (bound_by x.exchange.number None (on_its x.exchange f q)) ∙ seat_cache (seat_for x.exchange q.seats) f q)
            ∙ cleared_noted (key_in_flow x.exchange.number old.flow) key old key_there

    -- ---- a new row, or memory is refused for it

    abbrev anew : Version → State
    anew v = settle_on e head v (make_row key v (kept_of head.fields (law_times e head s)) (law_times e head s) s)

    anew_same : (v : Version) → SameEntries (clear key s) (anew v)
    anew_same v =
        let made : State = make_row key v (kept_of head.fields (law_times e head s)) (law_times e head s) s in
        same_then (clear key s) made (anew v) (made_same key v (kept_of head.fields (law_times e head s)) (law_times e head s) s) (settled_same e head v made)

    makes_notes : (v : Version) (clock : ℕ) (o : Option Bytes) (r new : Parts) → o ≡ Some key → key_in_flow x.exchange.number r.flow ≡ Some key → r.cache.outdated ≡ old.cache.outdated → MakesRowOf x.exchange x.errand head v clock o r new → Notes old.cache.outdated new.cache.outdated s (anew v)
    makes_notes v clock o r new is there same it = by o is it
      where
        refused : (refused_row x.exchange r).cache.outdated ≡ outdated_by (name_of key) r.cache.outdated
        refused =
            ap (λ (m : Memory). m.outdated) (told_cache x.exchange _ (bound_by x.exchange.number None (refusing x.exchange.number (cleared_row x.exchange.number r))) ∙ refusing_cache (key_in_flow x.exchange.number (cleared_row x.exchange.number r).flow) (cleared_row x.exchange.number r))
            ∙ cleared_noted (key_in_flow x.exchange.number r.flow) key r there

        made : (u : Option ObjectId) → (row_or_none x.exchange x.errand head v clock key u r).cache.outdated ≡ outdated_by (name_of key) r.cache.outdated
        made None = refused
        made (Some id) = ap (λ (m : Memory). m.outdated) (told_cache x.exchange _ _) ∙ row_noted id key v head.fields (times_for x.errand head clock) r.cache

        one : MakesRow x.exchange x.errand head v clock key r new → Notes old.cache.outdated new.cache.outdated s (anew v)
        one row =
            clears_notes new.cache.outdated (anew v)
            (ap (λ (q : Parts). q.cache.outdated) row.becomes ∙ made row.made ∙ ap (λ (ns : List Bytes). outdated_by (name_of key) ns) same) (anew_same v)

        by : (o : Option Bytes) → o ≡ Some key → MakesRowOf x.exchange x.errand head v clock o r new → Notes old.cache.outdated new.cache.outdated s (anew v)
        by None none row = absurd (cc none)
        by (Some other) some row = one (subst (λ (k : Option Bytes). MakesRowOf x.exchange x.errand head v clock k r new) some row)

    -- ---- where there is room in the row

    may_same : (i : Instance) (y : Known) → HasRow old s e i y → may_refresh (id_of i) head.fields (times_for x.errand head s.clock) old.cache ≡ law_may_refresh e head s
    may_same i y has =
        ap (λ (b : Bool). b && has_room (fields_at i.slot old.cache.instances) head.fields (times_for x.errand head s.clock)) (ap (λ (o : Option Instance). is_life i.life o) seen.there ∙ self i.life)
        ∙ ap (λ (o : Option Instance). has_room (fields_of o) head.fields (times_for x.errand head s.clock)) seen.there
        ∙ ap₂ (λ (fields : List Field) (at : Times). has_room fields head.fields at) seen.fields (times_same number x e head shown s)
        ∙ sym (ap (λ (o : Option Known). has_room (elim o as (λ t. List Field) [ Some z ↦ z.fields | None ↦ [] ]) head.fields (law_times e head s)) has.there)
      where
        seen : ShowsInstance number old.cache s i y
        seen = row_shown number name l peers old s at.shows e i y has

        self : (m : ℕ) → (m == m) ≡ true
        self m = grind (arith, nat_tests)

    abbrev renewed_if : Version → ObjectId → Bool → Parts
    renewed_if v id b = elim b as (λ q. Parts) [ true ↦ settled_on x.exchange x.errand head v id (in_memory (refreshed_at id head.fields (times_for x.errand head t.now)) old) | false ↦ made_useless x.exchange old ]

    abbrev known_if : Version → Bool → State
    known_if v b = elim b as (λ u. State) [ true ↦ settle_on e head v (renew_row e head s) | false ↦ useless e s ]

    known_is_by : (v : Version) → settle_known e head v s ≡ known_if v (law_may_refresh e head s)
    unfolding settle_known
    known_is_by v = refl

    renewed_notes : (v : Version) (i : Instance) (y : Known) → HasRow old s e i y → Notes old.cache.outdated (renewed x.exchange x.errand head v (id_of i) t.now old).cache.outdated s (settle_known e head v s)
    renewed_notes v i y has =
        subst (λ (u : State). Notes old.cache.outdated (renewed_if v (id_of i) (may_refresh (id_of i) head.fields (times_for x.errand head t.now) old.cache)).cache.outdated s u) (sym (known_is_by v))
        (subst (λ (b : Bool). Notes old.cache.outdated (renewed_if v (id_of i) b).cache.outdated s (known_if v (law_may_refresh e head s))) (sym (ap (λ (clock : ℕ). may_refresh (id_of i) head.fields (times_for x.errand head clock) old.cache) at.clock ∙ may_same i y has))
        (by (law_may_refresh e head s)))
      where
        by : (b : Bool) → Notes old.cache.outdated (renewed_if v (id_of i) b).cache.outdated s (known_if v b)
        by true =
            let law : SameEntries s (settle_on e head v (renew_row e head s)) = same_then s (renew_row e head s) (settle_on e head v (renew_row e head s)) (renewed_same e head s) (settled_same e head v (renew_row e head s)) in
            notes_same old.cache.outdated (renewed_if v (id_of i) true).cache.outdated s (settle_on e head v (renew_row e head s)) (ap (λ (m : Memory). m.outdated) (told_cache x.exchange _ _)) law.entries law.displaced
        by false = loses_notes

    -- ---- by the row that stands

    abbrev settled_if : Version → Bool → State
    settled_if v b = elim b as (λ u. State) [ true ↦ settle_known e head v s | false ↦ anew v ]

    abbrev by_known : Version → Option Version → State
    by_known v o = settled_if v (is_some_with (law_may_join e head v) o)

    settle_is : (v : Version) → settle e head v s ≡ by_known v (known_version s key)
    unfolding settle
    settle_is v = refl

    flow_roomed : key_in_flow x.exchange.number (with_room t).flow ≡ Some key
    flow_roomed = ap (λ (f : Exchanges). key_in_flow x.exchange.number f) (rooms t).flow ∙ key_there

    row_settles : (v : Version) (i : Instance) (y : Known) (new : Parts) → HasRow old s e i y → i.version ≡ y.version → SettlesRow x.exchange x.errand head v t.now (may_join x.exchange.aim x.errand.kind head v i.version) (id_of i) old new
        → Notes old.cache.outdated new.cache.outdated s (settled_if v (law_may_join e head v y.version))
    row_settles v i y new has version row = by (law_may_join e head v y.version) (subst (λ (b : Bool). SettlesRow x.exchange x.errand head v t.now b (id_of i) old new) same row)
      where
        same : may_join x.exchange.aim x.errand.kind head v i.version ≡ law_may_join e head v y.version
        same = ap (λ (w : Version). may_join x.exchange.aim x.errand.kind head v w) version ∙ joins_same number x e head shown v y.version

        by : (b : Bool) → SettlesRow x.exchange x.errand head v t.now b (id_of i) old new → Notes old.cache.outdated new.cache.outdated s (settled_if v b)
        by true becomes = subst (λ (q : Parts). Notes old.cache.outdated q.cache.outdated s (settle_known e head v s)) (sym becomes) (renewed_notes v i y has)
        by false made = makes_notes v t.now (key_in_flow x.exchange.number old.flow) old new key_there key_there refl made

    settles : (v : Version) (new : Parts) (u : Option Instance) (w : Option Known) → row_of key old.cache.instances ≡ u → row s key ≡ w → AreBoth (ShowsInstance number old.cache s) u w
        → Settles x.exchange x.errand head v t.now (option_map (λ (i : Instance). (id_of i, i.version)) u) (parts (with_room_for (option_map (λ (i : Instance). (id_of i, i.version)) u) t)) new → Notes old.cache.outdated new.cache.outdated s (by_known v (known_version s key))
    settles v new None None a b both row =
        subst (λ (o : Option Version). Notes old.cache.outdated new.cache.outdated s (by_known v o)) (sym (none_known s key b))
        (makes_notes v t.now (key_in_flow x.exchange.number (with_room t).flow) (parts (with_room t)) new flow_roomed flow_roomed (roomed_noted t) row)
    settles v new None (Some y) a b both row = absurd both
    settles v new (Some i) None a b both row = absurd both
    settles v new (Some i) (Some y) a b both row =
        subst (λ (o : Option Version). Notes old.cache.outdated new.cache.outdated s (by_known v o)) (sym (known_is s key y b)) (row_settles v i y new (record { here = a; there = b }) both.version row)

    row_is : row_for x.exchange.number old ≡ option_map (λ (i : Instance). (id_of i, i.version)) (row_of key old.cache.instances)
    row_is = ap (λ (o : Option Bytes). option_and_then (λ k. row_in k old.cache) o) key_there

    pub settled : (v : Version) (new : Parts) → Settles x.exchange x.errand head v t.now (row_for x.exchange.number old) (parts (with_room_for (row_for x.exchange.number old) t)) new → Notes old.cache.outdated new.cache.outdated s (settle e head v s)
    settled v new taken =
        subst (λ (u : State). Notes old.cache.outdated new.cache.outdated s u) (sym (settle_is v))
        (settles v new (row_of key old.cache.instances) (row s key) refl refl (rows_of number old.cache s at.shows.shows.table.table key)
        (subst (λ (o : Option (ObjectId × Version)). Settles x.exchange x.errand head v t.now o (parts (with_room_for o t)) new) row_is taken))

    -- ---- a 304

    abbrev by_version : Option Version → State
    by_version o = elim (is_some_with (λ v. names_other_tag head.fields v.tag) o) as (λ u. State) [
      | true ↦ useless e (clear key s)
      | false ↦ elim (is_some_with (names_version e) o && law_may_refresh e head s) as (λ u. State) [ true ↦ settle_unchanged e (renew_row e head s) | false ↦ useless e s ]
    ]

    abbrev by_sharing : Bool → Option Version → State
    by_sharing b o = elim (not b) as (λ u. State) [ true ↦ law_not_shared e s | false ↦ by_version o ]

    law_is : law_not_modified e head s ≡ by_sharing (may_store head.fields) (known_version s key)
    unfolding law_not_modified unchanged
    law_is = refl

    abbrev tag_said : Bool → ObjectId → Parts
    tag_said b id = elim b as (λ q. Parts) [ true ↦ refreshed_row x.exchange x.errand head id t.now old | false ↦ made_useless x.exchange old ]

    abbrev row_said : Bool → Bool → ObjectId → Parts
    row_said a b id = elim a as (λ q. Parts) [ true ↦ made_useless x.exchange (cleared_row x.exchange.number old) | false ↦ tag_said b id ]

    abbrev unchanged_if : Bool → State
    unchanged_if b = elim b as (λ u. State) [ true ↦ settle_unchanged e (renew_row e head s) | false ↦ useless e s ]

    abbrev checked_if : ObjectId → Bool → Parts
    checked_if id b = elim b as (λ q. Parts) [ true ↦ joining x.exchange (nothing_of id) Checked false (in_memory (refreshed_at id head.fields (times_for x.errand head t.now)) old) | false ↦ made_useless x.exchange old ]

    checked_notes : (i : Instance) (y : Known) → HasRow old s e i y → Notes old.cache.outdated (refreshed_row x.exchange x.errand head (id_of i) t.now old).cache.outdated s (unchanged_if (law_may_refresh e head s))
    checked_notes i y has = by (may_refresh (id_of i) head.fields (times_for x.errand head t.now) old.cache) (law_may_refresh e head s) (ap (λ (clock : ℕ). may_refresh (id_of i) head.fields (times_for x.errand head clock) old.cache) at.clock ∙ may_same i y has)
      where
        by : (a b : Bool) → a ≡ b → Notes old.cache.outdated (checked_if (id_of i) a).cache.outdated s (unchanged_if b)
        by true true is =
            let law : SameEntries s (settle_unchanged e (renew_row e head s)) = same_then s (renew_row e head s) (settle_unchanged e (renew_row e head s)) (renewed_same e head s) (unchanged_same e (renew_row e head s)) in
            notes_same old.cache.outdated (checked_if (id_of i) true).cache.outdated s (settle_unchanged e (renew_row e head s)) (ap (λ (m : Memory). m.outdated) (told_cache x.exchange _ _)) law.entries law.displaced
        by true false is = absurd (cc is)
        by false true is = absurd (cc is)
        by false false is = loses_notes

    row_modified : (i : Instance) (y : Known) → HasRow old s e i y → (v : Version) → v ≡ y.version → Notes old.cache.outdated (row_said (names_other_tag head.fields v.tag) (names_tag (named_by x.errand.kind) v.tag) (id_of i)).cache.outdated s (by_version (Some y.version))
    row_modified i y has v is =
        subst (λ (w : Version). Notes old.cache.outdated (row_said (names_other_tag head.fields w.tag) (names_tag (named_by x.errand.kind) w.tag) (id_of i)).cache.outdated s (by_version (Some y.version))) (sym is)
        (other (names_other_tag head.fields y.version.tag))
      where
        named : (a b : Bool) → a ≡ b → Notes old.cache.outdated (tag_said a (id_of i)).cache.outdated s (unchanged_if (b && law_may_refresh e head s))
        named true true is = checked_notes i y has
        named true false is = absurd (cc is)
        named false true is = absurd (cc is)
        named false false is = loses_notes

        other : (b : Bool) → Notes old.cache.outdated (row_said b (names_tag (named_by x.errand.kind) y.version.tag) (id_of i)).cache.outdated s
            (elim b as (λ u. State) [ true ↦ useless e (clear key s) | false ↦ unchanged_if (names_version e y.version && law_may_refresh e head s) ])
        other true = another_notes
        other false = named (names_tag (named_by x.errand.kind) y.version.tag) (names_version e y.version) (names_same number x e head shown y.version)

    abbrev seen_said : Option (ObjectId × Version) → Parts
    seen_said known = elim known as (λ q. Parts) [ None ↦ made_useless x.exchange old | Some seen ↦ row_said (names_other_tag head.fields seen.1.tag) (names_tag (named_by x.errand.kind) seen.1.tag) seen.0 ]

    abbrev all_said : Bool → Option (ObjectId × Version) → Parts
    all_said b known = elim b as (λ q. Parts) [ false ↦ not_shared x.exchange x.errand old | true ↦ seen_said known ]

    known_modified : (u : Option Instance) (w : Option Known) → row_of key old.cache.instances ≡ u → row s key ≡ w → AreBoth (ShowsInstance number old.cache s) u w
        → Notes old.cache.outdated (seen_said (option_map (λ (i : Instance). (id_of i, i.version)) u)).cache.outdated s (by_version (known_version s key))
    known_modified None None a b both = subst (λ (o : Option Version). Notes old.cache.outdated (made_useless x.exchange old).cache.outdated s (by_version o)) (sym (none_known s key b)) loses_notes
    known_modified None (Some y) a b both = absurd both
    known_modified (Some i) None a b both = absurd both
    known_modified (Some i) (Some y) a b both =
        subst (λ (o : Option Version). Notes old.cache.outdated (seen_said (Some (id_of i, i.version))).cache.outdated s (by_version o)) (sym (known_is s key y b)) (row_modified i y (record { here = a; there = b }) i.version both.version)

    shared : (b : Bool) → Notes old.cache.outdated (all_said b (option_map (λ (i : Instance). (id_of i, i.version)) (row_of key old.cache.instances))).cache.outdated s (by_sharing b (known_version s key))
    shared true = known_modified (row_of key old.cache.instances) (row s key) refl refl (rows_of number old.cache s at.shows.shows.table.table key)
    shared false = unshared_notes

    said_is : (known : Option (ObjectId × Version)) → not_modified_as x.exchange x.errand head t.now (told_unchanged head.fields x.errand.kind known) old ≡ all_said (may_store head.fields) known
    said_is known =
        each_said (λ u. not_modified_as x.exchange x.errand head t.now u old) (may_store head.fields) known (λ seen. names_other_tag head.fields seen.1.tag) (λ seen. names_tag (named_by x.errand.kind) seen.1.tag) _ _ _ _

    pub modified : Notes old.cache.outdated (not_modified x.exchange x.errand head t.now old).cache.outdated s (law_not_modified e head s)
    modified =
        subst (λ (u : State). Notes old.cache.outdated (not_modified x.exchange x.errand head t.now old).cache.outdated s u) (sym law_is)
        (subst (λ (q : Parts). Notes old.cache.outdated q.cache.outdated s (by_sharing (may_store head.fields) (known_version s key)))
        (sym (said_is (row_for x.exchange.number old) ∙ ap (λ (o : Option (ObjectId × Version)). all_said (may_store head.fields) o) row_is)) (shared (may_store head.fields)))

    -- ---- without a version

    abbrev cleared_where : Bool → Parts
    cleared_where b = elim b as (λ q. Parts) [ true ↦ cleared_row x.exchange.number old | false ↦ old ]

    others : Notes old.cache.outdated (other_head t.name.items x.exchange x.errand head rule old).cache.outdated s (law_other_head e head rule s)
    others =
        let q : Parts = cleared_by x.exchange head old in
        notes_to q (widened (is_widened x.errand head) q) (subst (λ (u : State). SameEntries u (law_other_head e head rule s)) (other_cleared e head s) (other_same e head rule s)) (by (law_clears head))
      where
        widened : (b : Bool) (q : Parts) → (relayed_or_widened b t.name.items x.exchange head rule q).cache.outdated ≡ q.cache.outdated
        widened true q = ap (λ (m : Memory). m.outdated) (told_cache x.exchange _ (bound_by x.exchange.number None q))
        widened false q = refl

        by : (b : Bool) → Notes old.cache.outdated (cleared_where b).cache.outdated s (cleared_if e s b)
        by true = clears_notes (cleared_row x.exchange.number old).cache.outdated (clear key s) (cleared_noted (key_in_flow x.exchange.number old.flow) key old key_there) (same_self (clear key s))
        by false = notes_none old.cache.outdated s

        notes_to : (q : Parts) → (other_head t.name.items x.exchange x.errand head rule old).cache.outdated ≡ q.cache.outdated → SameEntries (cleared_if e s (law_clears head)) (law_other_head e head rule s) → Notes old.cache.outdated q.cache.outdated s (cleared_if e s (law_clears head))
            → Notes old.cache.outdated (other_head t.name.items x.exchange x.errand head rule old).cache.outdated s (law_other_head e head rule s)
        notes_to q is same notes =
            notes_then old.cache.outdated q.cache.outdated (other_head t.name.items x.exchange x.errand head rule old).cache.outdated s (cleared_if e s (law_clears head)) (law_other_head e head rule s) notes
            (notes_same q.cache.outdated (other_head t.name.items x.exchange x.errand head rule old).cache.outdated (cleared_if e s (law_clears head)) (law_other_head e head rule s) is same.entries same.displaced)

    abbrev own_by : Option Version → State
    own_by o = elim o as (λ u. State) [ Some v ↦ settle e head v s | None ↦ elim (head.status == 304) as (λ u. State) [ true ↦ law_not_modified e head s | false ↦ law_other_head e head rule s ] ]

    own_is : own_head e head rule s ≡ own_by (law_version_in e head)
    unfolding own_head
    own_is = refl

    takes : (new : Parts) (o : Option Version) → TakesOwn x.exchange x.errand head rule o t new → Notes old.cache.outdated new.cache.outdated s (own_by o)
    takes new None becomes = subst (λ (q : Parts). Notes old.cache.outdated q.cache.outdated s (own_by None)) (sym becomes) (by (head.status == 304))
      where
        by : (b : Bool) → Notes old.cache.outdated (without_version b x.exchange x.errand head rule t).cache.outdated s (elim b as (λ u. State) [ true ↦ law_not_modified e head s | false ↦ law_other_head e head rule s ])
        by true = modified
        by false = others
    takes new (Some v) row = settled v new row

    pub own_notes : (new : Parts) → TakesOwn x.exchange x.errand head rule (version_in x.errand head) t new → Notes old.cache.outdated new.cache.outdated s (own_head e head rule s)
    own_notes new taken =
        subst (λ (u : State). Notes old.cache.outdated new.cache.outdated s u) (sym own_is)
        (takes new (law_version_in e head) (subst (λ (o : Option Version). TakesOwn x.exchange x.errand head rule o t new) (versions number x e head shown) taken))

pub own_heads_note : OwnHeadsNote
own_heads_note number name l peers t s n x e head rule new at room taken named all = (own_notes number name l peers t s n x e head rule at room new taken named all).0
