-- The chunk of the next byte cannot be read back: its entry is gone, and the turn shows the law's state without it.
use Rattle.std.proofs.Common.{◌≡◌, ◌⊎◌, ◌<◌, inl, inr, refl, sym, subst, ap, ap₂, ◌∙◌, ℕ, ◌+◌, ◌-◌, ◌*◌, ◌/◌, ◌%◌, Bool, true, false, ◌&&◌, ◌||◌, not, cond, find, is_some, nat_lt, map, min, List, [], ◌∷◌, Option, Some, None, arith}
use Rattle.std.specs.List.{list_any}
use Rattle.std.proofs.lemmas.Bool.Decides.{nat_tests}
use Rattle.std.specs.Option.{option_and_then}
use Rattle.std.specs.Prelude.{bytes_eq}
use Rattle.pp_cache.specs.Bounds.{IsBounded}
use Rattle.pp_cache.specs.Memory.{extent_of as bytes_kept, is_in_memory, stands as is_standing}
use Rattle.pp_cache_law.proofs.Extents.{its_kept}
use Rattle.pp_cache_law.proofs.Framing.{frames_of, the_same}
use Rattle.pp_cache_law.proofs.Keeping.{losses_of}
use Rattle.pp_cache_law.specs.Tables.{ShowsCache}
use Rattle.pp_due.specs.OnDisk.{if_on_disk, is_on_disk, next_on_disk}
use Rattle.pp_flow_law.specs.Tables.{none_leaves}
use Rattle.pp_law.specs.After.{paid, unread}
use Rattle.pp_law.specs.Chunks.{filled, victim}
use Rattle.pp_law.specs.Connections.{anew}
use Rattle.pp_law.specs.Followers.{give_up_asks}
use Rattle.pp_law.specs.Lists.{Bytes, has_text, is_some_with, without}
use Rattle.pp_law.specs.Opening.{is_opening, is_same_phase, lose_in_opening}
use Rattle.pp_law.specs.Phases.{behind, in_phase, is_done_with, next}
use Rattle.pp_law.specs.Replies.{regained, regained_by}
use Rattle.pp_law.specs.Stages.{passed_of}
use Rattle.pp_law.specs.State.{State, Client, Entry, Instance as Known, Phase, IsWoken, IsConfigured, IsRooted, IsListed, IsListening, IsStuck, Evicting, Free, WriteTo, Todo, Do, no_agenda}
use Rattle.pp_law.specs.Store.{close_name, is_at_rest, is_closed, is_idle_disk, lose_entry, note_gone, remove_entry, removing}
use Rattle.pp_law.specs.Table.{extent_of, is_entry_of, is_kept_row_of, is_next_held, next_of as next_of_law, pins, Next}
use Rattle.pp_laws.proofs.Lists.{in_filter, in_find}
use Rattle.pp_laws.proofs.Tests.{first_holds}
use Rattle.pp_laws.specs.Runs.{IsIn}
use Rattle.pp_obeys.proofs.Moving.{leads_to}
use Rattle.pp_obeys.proofs.Settled.{idle_so}
use Rattle.pp_obeys.proofs.Silent.{both_hold, or_second}
use Rattle.pp_obeys.specs.Moves.{Leads, Leaves, Moves}
use Rattle.pp_objects.specs.Instances.{is_there}
use Rattle.pp_peers.specs.declared.peers.Peer.{Peer}
use Rattle.pp_seats.specs.Seats.{is_at_body}
use Rattle.pp_seats.specs.declared.seat.Next.{Next as SeatNext}
use Rattle.pp_seats.specs.declared.seat.Seat.{Seat}
use Rattle.pp_shelf_law.proofs.Finding.{one_named}
use Rattle.pp_shelf_law.proofs.Loaded.{unreads}
use Rattle.pp_shelf_law.proofs.Shelves.{bytes_by, bytes_same, closed_more, same_bytes}
use Rattle.pp_shelf_law.proofs.Takings.{losses}
use Rattle.pp_shelf_law.specs.Loads.{IsToLoad as IsLoadedNext}
use Rattle.pp_shelf_law.specs.Shelf.{IsResting, ShowsShelf}
use Rattle.pp_shelf_law.specs.Takings.{LeadsTo}
use Rattle.pp_state.specs.Ends.{parts}
use Rattle.pp_state.specs.declared.state.State.{State as Turn}
use Rattle.pp_states_law.specs.Told.{IsTold}
use Rattle.pp_store.specs.Changes.{lost}
use Rattle.pp_store.specs.Kept.{KeptMap}
use Rattle.pp_talk.specs.Loading.{with_none_kept}
use Rattle.pp_target.specs.Name.{name_of}
use Rattle.pp_text.specs.Bytes.{is_empty}
use Rattle.pp_turns_law.specs.Rows.{AreReady, IsReady}
use Rattle.pp_turns_law.specs.Turns.{ShowsTurn}
use Rattle.pp_world.specs.declared.happening.Happening.TheVariants.{Noted, Unread}
use Rattle.pp_world.specs.declared.note.Remark.TheVariants.{Gone}
use Rattle.pp_world.specs.declared.op.DiskOp.TheVariants.{Remove}
use Rattle.pp_events_law.proofs.Entries.{IsReadOf}
use Rattle.pp_events_law.proofs.Lists.{all_same, any_none, kept_else, none_in, off_by}
use Rattle.pp_events_law.proofs.Memory.{steps_beside}
use Rattle.pp_events_law.proofs.Nexts.{IsSeen}
use Rattle.pp_events_law.specs.Losses.{IsFirstOwed, IsLost, LeadsOut, at_disk, without_entry}
use Rattle.pp_events_law.specs.ToLoad.{HaveOneVersion, AreWhole, StandsInEvent, StandsOnDisk}

module _ (number : ℕ → ℕ) (id : ℕ) (peers : List Peer) (p : Turn) (shelf : KeptMap) (seat : Seat) (n : SeatNext) (s : State) (stands : StandsInEvent number (WriteTo id) peers p shelf s) (w : IsSeen number id p s seat n) (r : IsReadOf shelf s w.known_next.source n.at) (to : IsLoadedNext s w.known_next.source r.entry (n.at / 4096)) (first : IsFirstOwed s) where
  abbrev x : Known
  x = w.known_next.source

  abbrev e : Entry
  e = r.entry

  abbrev key : Bytes
  key = x.key

  abbrev name : Bytes
  name = name_of x.key

  -- ---- the read failed

  -- its name is closed, and nothing is owed any more
  abbrev closed : State
  closed = record s { closed_names = name ∷ without (bytes_eq name) s.closed_names; agenda = no_agenda; failures = s.failures + 1; owed = Free }

  turns : is_opening (close_name name s) ≡ false
  unfolding close_name
  turns = ap (λ (q : Phase). list_any (λ p. is_same_phase p q) (IsWoken ∷ IsConfigured ∷ IsRooted ∷ IsListed ∷ IsListening ∷ IsStuck ∷ [])) stands.at

  unread_paid : unread name s ≡ paid (close_name name s)
  unfolding unread lose_in_opening
  unread_paid = ap (λ (b : Bool). paid (elim b as (λ c. State) [ true ↦ lose_entry name (close_name name s) | false ↦ close_name name s ])) turns

  same_clients : (regained s).clients ≡ s.clients
  same_clients = ap (λ (u : State). u.clients) first.anew

  paid_is : paid (close_name name s) ≡ closed
  unfolding paid regained close_name
  paid_is = ap (λ (cs : List Client). record closed { clients = cs }) same_clients

  unread_is : unread name s ≡ closed
  unread_is = unread_paid ∙ paid_is

  its_leads : Leads (Unread name ∷ []) s (unread name s) × ShowsShelf (lost key shelf) (unread name s)
  its_leads = subst (λ (k : Bytes). Leads (Unread k ∷ []) s (unread k s) × ShowsShelf (lost key shelf) (unread k s)) r.name (unreads shelf s x e r.kept (n.at / 4096) stands.disk.shows to r.there r.keeps)

  unread_leads : Leads (Unread name ∷ []) s closed
  unread_leads = subst (λ (u : State). Leads (Unread name ∷ []) s u) unread_is its_leads.0

  closed_shows : ShowsShelf (lost key shelf) closed
  closed_shows = subst (λ (u : State). ShowsShelf (lost key shelf) u) unread_is its_leads.1

  is_shut : is_closed closed e.name ≡ true
  is_shut = closed_more name e.name s.closed_names ∙ ap (λ (b : Bool). b || has_text e.name s.closed_names) (bytes_by name e.name (sym r.name))

  -- ---- its entry is noted as gone

  abbrev keeping : State
  keeping = at_disk closed

  resting : IsResting (lost key shelf) keeping
  unfolding give_up_asks
  resting = record {
    none = stands.none;
    at = refl;
    idle = idle_so s.under_way (first_holds (is_idle_disk s) _ stands.disk.rests);
    done = refl;
    shows = closed_shows;
  }

  gone : LeadsTo (Noted (Gone key) ∷ []) keeping (remove_entry e keeping) (lost key shelf)
  unfolding give_up_asks
  gone = losses (lost key shelf) keeping key e resting r.found is_shut

  abbrev removed : State
  removed = remove_entry e closed

  swapped : at_disk removed ≡ remove_entry e keeping
  unfolding give_up_asks remove_entry
  swapped = refl

  without_is : without_entry key s ≡ removed
  unfolding note_gone
  without_is = ap (note_gone key) unread_is ∙ ap (λ (o : Option Entry). elim o as (λ c. State) [ None ↦ closed | Some d ↦ remove_entry d closed ]) r.found

  -- ---- the phases between are left

  abbrev After : State → Type 0
  After u = Moves (λ v. v ≡ at_disk removed) (Noted (Gone key)) u

  evicting : Leaves After (in_phase Evicting closed)
  unfolding next
  evicting = record {
    done =
        ap (λ (b : Bool). is_empty s.forgotten && not (is_some (elim b as (λ t. Option (ℕ × ℕ)) [ true ↦ victim (pins (in_phase Evicting closed)) (in_phase Evicting closed) | false ↦ None ]))) first.evicting
        ∙ ap (λ (keys : List Bytes). is_empty keys && true) first.forgotten;
    holds = subst (λ (t : State). Moves (λ v. v ≡ t) (Noted (Gone key)) keeping) (sym swapped) gone.leads;
  }

  next_is : next closed ≡ in_phase Evicting closed
  unfolding next
  next_is = ap (λ (phase : Phase). behind phase closed) stands.at

  handling : Leaves (Leaves After) closed
  handling = record { done = ap (λ (phase : Phase). is_done_with phase closed) stands.at; holds = subst (Leaves After) (sym next_is) evicting }

  leads_out : LeadsOut key s (at_disk removed)
  leads_out = leads_to (Leaves (Leaves After)) (Unread name ∷ []) s closed unread_leads handling

  -- ---- what stands of the disk

  its_own : is_entry_of e.key e ≡ true
  its_own = bytes_same e.key

  entries_else : (k : Bytes) → (find (is_kept_row_of k) (without (is_entry_of e.key) s.entries) ≡ None) ⊎ (find (is_kept_row_of k) (without (is_entry_of e.key) s.entries) ≡ find (is_kept_row_of k) s.entries)
  entries_else k = kept_else e.key k s.entries

  open_names : (d : Entry) → IsIn d (without (is_entry_of e.key) s.entries) → is_closed closed d.name ≡ false
  open_names d i = closed_more name d.name s.closed_names ∙ ap₂ (λ (a b : Bool). a || b) (other (bytes_eq name d.name) refl) (none_in (λ (f : Entry). is_closed s f.name) d s.entries stands.disk.names there.0)
    where
      there : IsIn d s.entries × (not (is_entry_of e.key d) ≡ true)
      there = in_filter (λ (f : Entry). not (is_entry_of e.key f)) d s.entries i

      e_there : IsIn e s.entries
      e_there = (in_find (is_entry_of key) e s.entries r.found).0

      other : (b : Bool) → bytes_eq name d.name ≡ b → b ≡ false
      other false is = refl
      other true is =
          let same : d ≡ e = one_named name d e s.entries (stands.disk.shows.once name) there.0 (sym (same_bytes name d.name is)) e_there r.name in
          absurd (let both : true ≡ false = sym its_own ∙ ap (λ (f : Entry). is_entry_of e.key f) (sym same) ∙ off_by (is_entry_of e.key d) there.1 in cc both)

  rests_so : is_at_rest removed ≡ true
  unfolding remove_entry
  rests_so =
      both_hold (is_idle_disk s) (is_empty (removing closed e)) (first_holds (is_idle_disk s) _ stands.disk.rests)
      (ap (λ (b : Bool). let todo : List Todo = elim b as (λ t. List Todo) [ true ↦ [] | false ↦ Do (Remove e.name) ∷ [] ] in is_empty todo) is_shut)

  versions_so : HaveOneVersion removed
  unfolding remove_entry
  versions_so k y d known row kept = by (entries_else y.key)
    where
      by : (find (is_kept_row_of y.key) (without (is_entry_of e.key) s.entries) ≡ None) ⊎ (find (is_kept_row_of y.key) (without (is_entry_of e.key) s.entries) ≡ find (is_kept_row_of y.key) s.entries) → d.version ≡ y.version
      by (inl none) = absurd (let both : None ≡ Some d = sym none ∙ kept in cc both)
      by (inr same) = stands.disk.versions k y d known row (sym same ∙ kept)

  abbrev far : Bool → Option Entry → ℕ
  far b o = elim b as (λ t. ℕ) [ true ↦ 0 | false ↦ elim o as (λ t. ℕ) [ None ↦ 0 | Some d ↦ d.extent ] ]

  whole_so : AreWhole removed
  unfolding remove_entry
  whole_so k j y known below = by (entries_else y.key)
    where
      none_far : (b : Bool) → far b None ≡ 0
      none_far true = refl
      none_far false = refl

      by : (find (is_kept_row_of y.key) (without (is_entry_of e.key) s.entries) ≡ None) ⊎ (find (is_kept_row_of y.key) (without (is_entry_of e.key) s.entries) ≡ find (is_kept_row_of y.key) s.entries) → (filled k j s.chunks ≡ 0) ⊎ (filled k j s.chunks ≡ min 4096 (y.version.length - j * 4096))
      by (inl none) = absurd (let zero : far y.is_retired (find (is_kept_row_of y.key) (without (is_entry_of e.key) s.entries)) ≡ 0 = ap (λ (o : Option Entry). far y.is_retired o) none ∙ none_far y.is_retired in omega (arith, below, zero))
      by (inr same) = stands.disk.whole k j y known (subst (λ (m : ℕ). j * 4096 < m) (ap (λ (o : Option Entry). far y.is_retired o) same) below)

  disk_so : StandsOnDisk (lost key shelf) removed
  unfolding give_up_asks remove_entry
  disk_so = record {
    rests = rests_so;
    shows = gone.rests.shows;
    names = any_none (λ (d : Entry). is_closed closed d.name) (without (is_entry_of e.key) s.entries) open_names;
    alone = stands.disk.alone;
    versions = versions_so;
    whole = whole_so;
  }

  -- ---- the turn

  abbrev q : Turn
  q = with_none_kept n.source p

  cache_so : ShowsCache number q.cache removed
  unfolding note_gone remove_entry
  cache_so =
      frames_of number q.cache (remove_entry e s)
      (subst (λ (u : State). ShowsCache number q.cache u) (ap (λ (o : Option Entry). elim o as (λ c. State) [ None ↦ s | Some d ↦ remove_entry d s ]) r.found)
      (losses_of number p.cache s stands.turn.steps.shows.table n.source x (record { there = w.there; known = w.known; row = r.unretired; slot = stands.turn.bounded.slots n.source w.there })))
      q.cache removed (record { instances = refl; lives = refl; chunks = refl; extents = refl }) (record { instances = refl; made = the_same s.next_instance; chunks = refl; followers = λ k. refl; kept = λ y. refl })

  turn_so : IsBounded q.cache → ShowsTurn number none_leaves peers q removed
  unfolding remove_entry
  turn_so bounded = record {
    steps = steps_beside number p.name.items peers (parts p) q.cache s removed stands.turn.steps (record { clients = refl; exchanges = refl; next_exchange = refl; conns = refl; next_instance = refl }) cache_so (record { lives = the_same p.cache.lives; numbers = the_same s.next_instance; there = λ k there. there });
    name = stands.turn.name;
    shares = stands.turn.shares;
    clock = stands.turn.clock;
    ticked = stands.turn.ticked;
    stopped = stands.turn.stopped;
    bounded = bounded;
  }

  stands_so : IsBounded q.cache → StandsInEvent number Free peers q (lost key shelf) removed
  unfolding remove_entry
  stands_so bounded = record { none = stands.none; at = stands.at; owes = refl; turn = turn_so bounded; disk = disk_so }

  -- ---- attempts do not count anew

  far_less : (b : Bool) (at : ℕ) (rest : Bool) (k : ℕ) → k ≡ 0 → (nat_lt at k || rest) ≡ true → rest ≡ true
  far_less b at true k is held = refl
  far_less b at false k is held = absurd (none at k is held)
    where
      none : (at k : ℕ) → k ≡ 0 → (nat_lt at k || false) ≡ true → ⊥
      none at k is held = grind (arith, nat_tests, is, held)

  held_before : (o : Next) → is_next_held removed o ≡ true → is_next_held s o ≡ true
  unfolding remove_entry
  held_before o held = by (entries_else o.source.key)
    where
      y : Known
      y = o.source

      none_far : (b : Bool) → far b None ≡ 0
      none_far true = refl
      none_far false = refl

      by : (find (is_kept_row_of y.key) (without (is_entry_of e.key) s.entries) ≡ None) ⊎ (find (is_kept_row_of y.key) (without (is_entry_of e.key) s.entries) ≡ find (is_kept_row_of y.key) s.entries) → is_next_held s o ≡ true
      by (inl none) =
          or_second (nat_lt o.at (extent_of s y)) (nat_lt (o.at % 4096) (filled y.id (o.at / 4096) s.chunks))
          (far_less true o.at (nat_lt (o.at % 4096) (filled y.id (o.at / 4096) s.chunks)) (far y.is_retired (find (is_kept_row_of y.key) (without (is_entry_of e.key) s.entries))) (ap (λ (d : Option Entry). far y.is_retired d) none ∙ none_far y.is_retired) held)
      by (inr same) = ap (λ (d : Option Entry). nat_lt o.at (far y.is_retired d) || nat_lt (o.at % 4096) (filled y.id (o.at / 4096) s.chunks)) (sym same) ∙ held

  one_same : (c : Client) → regained_by s c ≡ c → regained_by removed c ≡ c
  unfolding remove_entry
  one_same c was = by (next_of_law s c) was
    where
      again : Client
      again = record c { course = anew c.course }

      passes : Bool
      passes = is_some (passed_of c)

      last : (o : Next) (b : Bool) → is_next_held removed o ≡ b → (elim (is_next_held s o && not passes) as (λ t. Client) [ true ↦ again | false ↦ c ]) ≡ c → (elim (b && not passes) as (λ t. Client) [ true ↦ again | false ↦ c ]) ≡ c
      last o true held before = sym (ap (λ (b : Bool). elim (b && not passes) as (λ t. Client) [ true ↦ again | false ↦ c ]) (held_before o held)) ∙ before
      last o false held before = refl

      by : (o : Option Next) → (elim (is_some_with (is_next_held s) o && not passes) as (λ t. Client) [ true ↦ again | false ↦ c ]) ≡ c → (elim (is_some_with (is_next_held removed) o && not passes) as (λ t. Client) [ true ↦ again | false ↦ c ]) ≡ c
      by None before = refl
      by (Some o) before = last o (is_next_held removed o) refl before

  anew_removed : regained removed ≡ removed
  unfolding regained remove_entry
  anew_removed = ap (λ (cs : List Client). record removed { clients = cs }) (all_same (regained_by s) (regained_by removed) s.clients one_same same_clients_now)
    where
      same_clients_now : map (regained_by s) s.clients ≡ s.clients
      same_clients_now = same_clients

  pub anew_lost : regained (without_entry key s) ≡ without_entry key s
  anew_lost = subst (λ (u : State). regained u ≡ u) (sym without_is) anew_removed

  -- ---- all of it

  pub leads_lost : LeadsOut key s (at_disk (without_entry key s))
  leads_lost = subst (λ (u : State). LeadsOut key s (at_disk u)) (sym without_is) leads_out

  pub stands_lost : IsBounded q.cache → StandsInEvent number Free peers q (lost key shelf) (without_entry key s)
  stands_lost bounded = subst (λ (u : State). StandsInEvent number Free peers q (lost key shelf) u) (sym without_is) (stands_so bounded)

  same_removed : IsLost s removed
  unfolding remove_entry
  same_removed = refl

  pub law_lost : IsLost s (without_entry key s)
  law_lost = subst (λ (u : State). IsLost s u) (sym without_is) same_removed

  pub held_lost : next_on_disk q seat ≡ None
  held_lost = ap (λ (o : Option SeatNext). elim (is_at_body seat) as (λ t. Option SeatNext) [ true ↦ option_and_then (if_on_disk q.cache) o | false ↦ None ]) w.alone.its ∙ by (is_at_body seat)
    where
      never : (at : ℕ) → nat_lt at 0 ≡ false
      never at = grind (arith, nat_tests)

      either : (b : Bool) → ◌≡◌ {A = ℕ} (cond b 0 0) 0
      either true = refl
      either false = refl

      none_kept : bytes_kept n.source q.cache ≡ 0
      none_kept = ap (λ (k : ℕ). cond (is_standing n.source p.cache.instances) k 0) (its_kept n.source 0 p.cache.extents (stands.turn.bounded.slots n.source w.there)) ∙ either (is_standing n.source p.cache.instances)

      off : is_on_disk n q.cache ≡ false
      off = ap (λ (k : ℕ). nat_lt n.at k && not (is_there n.source q.cache.instances && is_in_memory n.source.slot n.at q.cache.chunks)) none_kept ∙ ap (λ (b : Bool). b && not (is_there n.source q.cache.instances && is_in_memory n.source.slot n.at q.cache.chunks)) (never n.at)

      by : (b : Bool) → (elim b as (λ t. Option SeatNext) [ true ↦ if_on_disk q.cache n | false ↦ None ]) ≡ None
      by true = ap (λ (a : Bool). elim a as (λ t. Option SeatNext) [ true ↦ Some n | false ↦ None ]) off
      by false = refl

  ready_removed : AreReady number p.cache s.next_instance p.seats.items → AreReady number q.cache removed.next_instance q.seats.items
  unfolding remove_entry
  ready_removed ready j other here on =
      let one : IsReady number p.cache s.next_instance other = ready j other here on in
      record { follows = one.follows; key = one.key; joined = λ k plain brought. let told : IsTold number p.cache s.next_instance k = one.joined k plain brought in record { given = told.given; made = told.made; apart = told.apart } }

  pub ready_lost : AreReady number p.cache s.next_instance p.seats.items → AreReady number q.cache (without_entry key s).next_instance q.seats.items
  ready_lost ready = subst (λ (u : State). AreReady number q.cache u.next_instance q.seats.items) (sym without_is) (ready_removed ready)
