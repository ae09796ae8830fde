-- Behind the read of an origin each instance that has more to keep is noted.
use Rattle.std.proofs.Common.{◌≡◌, ◌≤◌, refl, sym, subst, ap, ◌∙◌, ℕ, Bool, true, false, not, cond, find, inl, inr, length, List, [], ◌∷◌, Option, Some, None, arith}
use Rattle.std.specs.List.{list_any}
use Rattle.std.specs.Prelude.{is_some, vec_capacity}
use Rattle.pp_cache.specs.Bounds.{IsBounded}
use Rattle.pp_cache_law.proofs.Numbers.{some_is}
use Rattle.pp_desk.specs.declared.desk.Desk.{Desk}
use Rattle.pp_flow_law.specs.Tables.{line_in}
use Rattle.pp_keeps_law.specs.All.{HasNextRun}
use Rattle.pp_law.specs.Connections.{conn, is_conn}
use Rattle.pp_law.specs.State.{Conn}
use Rattle.pp_laws.specs.Runs.{IsIn}
use Rattle.pp_objects.specs.Instances.{Instance, is_same_id}
use Rattle.pp_objects.specs.declared.id.ObjectId.{ObjectId}
use Rattle.pp_origins.specs.Gots.{Receives, both}
use Rattle.pp_desk.specs.Closings.{Sides, sides}
use Rattle.pp_proxy.specs.Handling.{Handles, ReadsBy, ReceivesOn, Wakes}
use Rattle.pp_proxy.specs.Moving.{Turning, at_desk}
use Rattle.pp_state.specs.Bringing.{instance_of}
use Rattle.pp_state.specs.Ends.{numbers_of, parts, place_of}
use Rattle.pp_state.specs.declared.state.State.{State as Turn}
use Rattle.pp_store.specs.Kept.{KeptMap}
use Rattle.pp_world.specs.declared.event.Event.{Event}
use Rattle.pp_world.specs.declared.event.Event.TheVariants.{Stop, Tick, Accepted, Readable, Writable, Reached, Broken}
use Rattle.pp_grown_law.proofs.Amid.{RowGrown, grows_none, noted, was_in}
use Rattle.pp_grown_law.proofs.Brought.{IsAmid, goes_amid, makes_amid, received_amid}
use Rattle.pp_grown_law.proofs.Grown.{events_note}
use Rattle.pp_grown_law.proofs.Handled.{touched_goes}
use Rattle.pp_grown_law.proofs.Less.{among_so}
use Rattle.pp_grown_law.proofs.Numbers.{rise_of}
use Rattle.pp_grown_law.proofs.Passing.{Goes, goes_none, goes_same, goes_then}
use Rattle.pp_grown_law.proofs.Settled.{owners_of, row_brings}
use Rattle.pp_grown_law.specs.Grown.{HasNothingToKeep, NotesGrown}
use Rattle.pp_grown_law.specs.Handled.{reads_origin}
use Rattle.pp_grown_law.specs.Numbered.{AreNumbered}
use Rattle.pp_grown_law.specs.Reads.{HandlingsNoteGrown, HasShortLine, ReadsNoteGrown, ShownLinesAreShort}

-- ---- where a read begins

pub wakes_go : (id : ℕ) (x y : Desk) → Wakes id x y → Goes (parts x.state) (parts y.state)
wakes_go id x y it =
    let woken : Goes (parts it.anew.state) (parts y.state) = subst (λ (z : Sides). Goes (parts it.anew.state) z.parts) (sym it.touches.is) (touched_goes it.anew.state.now id (sides it.anew)) in
    goes_then (parts x.state) (parts it.anew.state) (parts y.state) (goes_same (parts x.state) (parts it.anew.state) (ap (λ (d : Desk). d.state.cache) it.regains.rest) (ap (λ (d : Desk). d.state.flow) it.regains.rest)) woken

-- ---- where it ends

module _ (p q : Turn) (shelf : KeptMap) (has : HasNothingToKeep p shelf) (k : ℕ) (amid : IsAmid p.cache p.run k 16 q) where
  noted_so : NotesGrown q shelf
  noted_so = record { few = omega (arith, amid.room); all = λ id j found next. by id j found next (amid.grows.rows id j found next.next.row) }
    where
      by : (id : ObjectId) (j : Instance) → instance_of id q.cache.instances ≡ Some j → HasNextRun q shelf id j → RowGrown p.cache q.cache id j → list_any (is_same_id id) q.cache.grown ≡ true
      by id j found next (was_in row) =
          let some : list_any (is_same_id id) [] ≡ true = among_so p q shelf shelf amid.run_is (λ key kept is. is) id j found next [] has.none (row_brings p q shelf id j row) in
          absurd (let both : false ≡ true = some in cc both)
      by id j found next (noted is) = is

-- ---- all of it

module _ (k : ℕ) (x y : Turning) (bounded : IsBounded x.moving.desk.state.cache) (are : AreNumbered x.moving.desk.state.flow) (short : HasShortLine k x.moving.desk.state.flow) (has : HasNothingToKeep x.moving.desk.state x.shelf) where
  start : IsAmid x.moving.desk.state.cache x.moving.desk.state.run k 15 x.moving.desk.state
  start = record {
    run_is = refl;
    grows = grows_none x.moving.desk.state.cache (owners_of x.moving.desk.state.cache bounded);
    rise = rise_of x.moving.desk.state.flow are;
    room = omega (arith, short, ap (λ (ids : List ObjectId). length ids) has.grown);
  }

  read_on : (woken : Desk) → Wakes k x.moving.desk woken → length x.moving.desk.buffer.items ≤ vec_capacity x.moving.desk.«data» → ReceivesOn k (at_desk woken x) y → NotesGrown y.moving.desk.state y.shelf
  read_on woken wakes room it = subst (λ (s : KeptMap). NotesGrown y.moving.desk.state s) (sym it.one.shelf) (noted_so x.moving.desk.state y.moving.desk.state x.shelf has k ends)
    where
      buffer : length woken.buffer.items ≡ length x.moving.desk.buffer.items
      buffer = ap (λ (d : Desk). length d.buffer.items) wakes.touches.rest ∙ ap (λ (d : Desk). length d.buffer.items) wakes.regains.rest

      holds : vec_capacity woken.«data» ≡ vec_capacity x.moving.desk.«data»
      holds = ap (λ (d : Desk). vec_capacity d.«data») wakes.touches.rest ∙ ap (λ (d : Desk). vec_capacity d.«data») wakes.regains.rest

      receives : Receives (length woken.buffer.items) x.shelf k x.moving.links (both woken) (both y.moving.desk) x.log y.log
      receives = it.receives (subst (λ (n : ℕ). length woken.buffer.items ≤ n) (sym holds) (subst (λ (n : ℕ). n ≤ vec_capacity x.moving.desk.«data») (sym buffer) room))

      on_woken : IsAmid x.moving.desk.state.cache x.moving.desk.state.run k 15 woken.state
      on_woken = goes_amid x.moving.desk.state.cache x.moving.desk.state.run k 15 x.moving.desk.state woken.state (ap (λ (d : Desk). d.state.run) wakes.touches.rest ∙ ap (λ (d : Desk). d.state.run) wakes.regains.rest) (wakes_go k x.moving.desk woken wakes) start

      begins : IsAmid x.moving.desk.state.cache x.moving.desk.state.run k 15 receives.begins.state
      begins = makes_amid x.moving.desk.state.cache x.moving.desk.state.run k 15 (λ z. z) (both woken) receives.begins (λ z. goes_none z.parts) receives.same on_woken

      ends : IsAmid x.moving.desk.state.cache x.moving.desk.state.run k 16 y.moving.desk.state
      ends = received_amid x.moving.desk.state.cache x.moving.desk.state.run k receives.found x.shelf receives.front receives.begins (both y.moving.desk) receives.is begins

pub reads_note : ReadsNoteGrown
reads_note k x y origin room bounded are short it has = by (place_of k (numbers_of it.woken.state.seats.items)) refl it.reads
  where
    numbers : numbers_of it.woken.state.seats.items ≡ numbers_of x.moving.desk.state.seats.items
    numbers = it.wakes.touches.numbers ∙ it.wakes.regains.numbers

    by : (o : Option ℕ) → place_of k (numbers_of it.woken.state.seats.items) ≡ o → ReadsBy o k (at_desk it.woken x) y → NotesGrown y.moving.desk.state y.shelf
    by None none receives = read_on k x y bounded are short has it.woken it.wakes room receives
    by (Some i) at hears = absurd (let both : false ≡ true = sym (ap (λ (o : Option ℕ). not (is_some o)) (ap (λ (ns : List ℕ). place_of k ns) (sym numbers) ∙ at)) ∙ origin in cc both)

-- ---- lines are short

found_in : (n : ℕ) (ks : List Conn) (c : Conn) → find (is_conn n) ks ≡ Some c → IsIn c ks
found_in n [] c found = absurd (cc found)
found_in n (x ∷ ks) c found = by (is_conn n x) found (found_in n ks c)
  where
    by : (b : Bool) → cond b (Some x) (find (is_conn n) ks) ≡ Some c → (find (is_conn n) ks ≡ Some c → IsIn c ks) → IsIn c (x ∷ ks)
    by true is rest = inl (sym (some_is x c is))
    by false is rest = inr (rest is)

pub lines_short : ShownLinesAreShort
lines_short number f s k shows few = subst (λ (ns : List ℕ). length ns ≤ 8) (sym (shows.lines k)) (by (conn s k) refl)
  where
    by : (o : Option Conn) → conn s k ≡ o → length (line_in o) ≤ 8
    by None here = omega arith
    by (Some c) here = few c (found_in k s.conns c here)

-- ---- each event

pub handlings_note : HandlingsNoteGrown
handlings_note event x y stands it has = by event it
  where
    other : (e : Event) → reads_origin e x.moving.desk.state ≡ false → Handles e x y → NotesGrown y.moving.desk.state y.shelf
    other e is handles = events_note e x y is stands.whole handles has

    read : (id : ℕ) (b : Bool) → reads_origin (Readable id) x.moving.desk.state ≡ b → Handles (Readable id) x y → NotesGrown y.moving.desk.state y.shelf
    read id true is handles = reads_note id x y is stands.room stands.bounded stands.numbered (stands.short id) handles has
    read id false is handles = other (Readable id) is handles

    by : (e : Event) → Handles e x y → NotesGrown y.moving.desk.state y.shelf
    by Stop handles = other Stop refl handles
    by (Tick seconds) handles = other (Tick seconds) refl handles
    by (Accepted c) handles = other (Accepted c) refl handles
    by (Readable id) handles = read id (reads_origin (Readable id) x.moving.desk.state) refl handles
    by (Writable id) handles = other (Writable id) refl handles
    by (Reached k) handles = other (Reached k) refl handles
    by (Broken k) handles = other (Broken k) refl handles
