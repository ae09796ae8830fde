-- A decision that is found is permitted, and leads where the law leads.
use Rattle.std.proofs.Common.{◌≡◌, ◌≤◌, refl, sym, subst, ap, ap₂, ◌∙◌, ℕ, Bool, true, false, ◌&&◌, ◌||◌, not, nat_lt, find, length, List, [], ◌∷◌, ◌++◌, Option, Some, None, option_map, arith}
use Rattle.std.proofs.lemmas.Bool.Decides.{nat_tests}
use Rattle.std.specs.List.{list_any}
use Rattle.std.specs.Prelude.{count_by, is_some, option_and_then, slice_get}
use Rattle.pp_cache_law.proofs.Alike.{room_of}
use Rattle.pp_cache_law.proofs.Numbers.{some_is}
use Rattle.pp_conf.specs.Conf.{Settings}
use Rattle.pp_turns_law.proofs.RowComes.{comes, notes}
use Rattle.pp_turns_law.proofs.Keyed.{keys_same}
use Rattle.pp_turns_law.proofs.MarkedRow.{for_memory_same}
use Rattle.pp_turns_law.proofs.Sitting.{is_at, shown_at}
use Rattle.pp_turns_law.proofs.Stays.{stays_due}
use Rattle.pp_turns_law.proofs.Taken.{regains, takes}
use Rattle.pp_turns_law.proofs.Turned.{and_no}
use Rattle.pp_turns_law.proofs.Ways.{ways}
use Rattle.pp_turns_law.specs.Decides.{IsDecided}
use Rattle.pp_turns_law.specs.Takes.{HasItsRow, MayDo, taken}
use Rattle.pp_turns_law.specs.Ways.{GivesWay, IsStillDue, IsWay, MayYield, left_for}
use Rattle.pp_due.specs.Due.{cut_of, due_of as due_of_seat}
use Rattle.pp_due.specs.Entering.{key_at, key_due, is_to_enter}
use Rattle.pp_flow_law.specs.Tables.{none_leaves}
use Rattle.pp_law.specs.After.{take_decision}
use Rattle.pp_law.specs.Closing.{is_of, is_over}
use Rattle.pp_law.specs.Connections.{client, is_client, is_conn}
use Rattle.pp_law.specs.Deciding.{has_to_forget, is_for_memory}
use Rattle.pp_law.specs.Due.{Due, Decide, decides_for, due_of, first_due}
use Rattle.pp_law.specs.Leaving.{forgets_next}
use Rattle.pp_law.specs.Lists.{Bytes, is_some_with}
use Rattle.pp_law.specs.Permits.{has_room_for}
use Rattle.pp_law.specs.Phases.{decides, in_phase}
use Rattle.pp_law.specs.Requests.{key_in}
use Rattle.pp_law.specs.State.{State, Client, Conn, Entry, Exchange, Instance as Known, Deciding}
use Rattle.pp_law.specs.Table.{forget, idle_row, must_forget, row, row_on_disk, rows}
use Rattle.pp_laws_turn.specs.SoundTurn.{IsSoundTurn}
use Rattle.pp_leaves_law.proofs.Pins.{busy}
use Rattle.pp_objects.specs.Instances.{Instance, is_row}
use Rattle.pp_obeys.proofs.Calls.{moves_to}
use Rattle.pp_obeys.proofs.TurnHappenings.{goes_forgotten_before, goes_taken, goes_taken_behind, next_first, takes_due}
use Rattle.pp_obeys.specs.Moves.{Goes, Leads}
use Rattle.pp_peers.specs.declared.peers.Peer.{Peer}
use Rattle.pp_seats.specs.Dues.{is_refused_in, refused_in}
use Rattle.pp_seats.specs.Heads.{asked_in, owned_in}
use Rattle.pp_seats.specs.declared.due.Due.TheVariants.{Decide as IsDecidedDue}
use Rattle.pp_seats.specs.declared.key.Key.{Key as OwnedKey}
use Rattle.pp_seats.specs.declared.seat.Seat.{Seat}
use Rattle.pp_seats_law.specs.Dues.{due_as}
use Rattle.pp_seats_law.specs.Seats.{ShowsOpen, ShowsSeat}
use Rattle.pp_state.specs.Ends.{Parts, parts}
use Rattle.pp_state.specs.Pins.{idle_row as idle_in}
use Rattle.pp_state.specs.declared.state.State.{State as Turn}
use Rattle.pp_states_law.specs.Decisions.{AsksOnce}
use Rattle.pp_steps.specs.Evicting.{given_way, row_in_way, row_notes, unless_own, without_row}
use Rattle.pp_states_law.specs.Steps.{ShowsSteps}
use Rattle.pp_store.specs.Kept.{KeptMap}
use Rattle.pp_take.specs.Deciding.{Takes, afforded}
use Rattle.pp_target.specs.Key.{Key, text_of}
use Rattle.pp_turns_law.proofs.First.{first_dues}
use Rattle.pp_turns_law.proofs.Guarded.{none_unentered}
use Rattle.pp_turns_law.specs.Firsts.{IsFirst, with_row_if}
use Rattle.pp_turns_law.specs.Rows.{IsReady, ShowsDisk, with_row_of}
use Rattle.pp_world.specs.declared.happening.Happening.TheVariants.{Noted}
use Rattle.pp_world.specs.declared.note.Decision.{Decision}
use Rattle.pp_world.specs.declared.note.Decision.TheVariants.{Refuse, Hit, Part, Head, NotModified, Unsatisfiable, Relay, Validate, Fetch, Pass}
use Rattle.pp_world.specs.declared.note.Remark.TheVariants.{Forgotten, Taken}
use Rattle.pp_deciding_law.proofs.Disk.{shows_disk}
use Rattle.pp_deciding_law.proofs.Due.{IsUnbegun, deciding_by, expected, its_due, not_begun, past_rows, unbegun_by}
use Rattle.pp_deciding_law.proofs.Framed.{IsBeside, beside_then, forget_beside, row_beside, row_in, rows_in, there_then}
use Rattle.pp_deciding_law.proofs.Found.{found_due, IsButForMemory, first_keeps}
use Rattle.pp_deciding_law.specs.Stands.{StandsToDecide}
use Rattle.pp_deciding_law.specs.Takes.{DecisionsLead, MayDoNext, IsNext, RestsOn, TakesAsTheLaw, room_made, to_take}

-- ---- a row that gives way leaves all but what is in memory

way_here : (o : Option Instance) (q : Turn) (i : ℕ) → slice_get (without_row o q).seats.items i ≡ slice_get q.seats.items i
way_here None q i = refl
way_here (Some j) q i = refl

way_affords : (o : Option Instance) (q : Turn) (i : ℕ) (d : Decision) → afforded i d (without_row o q) ≡ afforded i d q
way_affords None q i d = refl
way_affords (Some j) q i d = refl

few_more : (n : ℕ) → n ≤ 1024 → nat_lt 1024 n ≡ false
few_more n few = grind (arith, nat_tests, few)

or_true : (b : Bool) → (b || true) ≡ true
or_true true = refl
or_true false = refl

-- ---- which rows have to leave

module _ (s : State) where
  forgets_text : (o : Option Key) → is_some_with (λ key. must_forget s (text_of key)) o ≡ is_some_with (λ text. must_forget s text) (option_map text_of o)
  forgets_text None = refl
  forgets_text (Some key) = refl

  must_not : (key : Bytes) → (row s key ≡ None → row_on_disk s key ≡ None) → must_forget s key ≡ false
  must_not key kept = by (row s key) refl
    where
      by : (o : Option Known) → row s key ≡ o → (not (is_some o) && is_some (row_on_disk s key) && not (nat_lt (rows s) 1024) && is_some (idle_row s)) ≡ false
      by (Some x) is = refl
      by None is = ap (λ (e : Option Entry). is_some e && not (nat_lt (rows s) 1024) && is_some (idle_row s)) (kept is)

-- ---- what each kind of decision rests on

to_do : (name : Bytes) (i : ℕ) (d : Decision) (p : Parts) (t : State) (seat : Seat) (c : Client) → (is_for_memory d ≡ false → is_refused_in seat.brought ≡ false) → name ≡ t.settings.name → (refused_in seat.front ≡ Some 500 → ⊥) → length t.clients ≤ 256 → MayDoNext name i d p t seat c
    → MayDo name i d p t seat c
to_do name i (Refuse status) p t seat c given named key few may = may
to_do name i Pass p t seat c given named key few may = record { given = given refl; there = may.there; asks = may.asks; named = named }
to_do name i Fetch p t seat c given named key few may = record { given = given refl; there = may.there; asks = may.asks; named = named }
to_do name i Validate p t seat c given named key few may = record { given = given refl; there = may.there; asks = may.asks; named = named }
to_do name i Relay p t seat c given named key few may = record { given = given refl; there = may }
to_do name i (Hit from to) p t seat c given named key few may = record { given = given refl; key = key; there = may.there; other = may.other; few = few }
to_do name i (Part from to) p t seat c given named key few may = record { given = given refl; key = key; there = may.there; other = may.other; few = few }
to_do name i Head p t seat c given named key few may = record { given = given refl; key = key; there = may.there; other = may.other; few = few }
to_do name i NotModified p t seat c given named key few may = record { given = given refl; key = key; there = may.there; other = may.other; few = few }
to_do name i Unsatisfiable p t seat c given named key few may = record { given = given refl; key = key; there = may.there; other = may.other; few = few }

module _ (number0 : ℕ → ℕ) (peers : List Peer) (shelf : KeptMap) (i : ℕ) (due : Decision) (p q : Turn) (s : State) (seat : Seat) (c : Client) (between : Parts) (stands : StandsToDecide number0 peers shelf p s) (sound : IsSoundTurn s) (next : IsNext shelf i due p q s seat c)
    (rests : RestsOn i due p q s seat c) (it : Takes q.name.items i due (parts (given_way due i q)) between) where
  abbrev n : ℕ
  n = seat.client.id

  abbrev text : Option Bytes
  text = key_at i p

  abbrev turn : Turn
  turn = given_way due i q

  abbrev u : State
  u = to_take due s

  pub found : IsFirst none_leaves peers shelf p q s (Some (i, IsDecidedDue due))
  found = first_dues number0 none_leaves peers shelf p q s (Some (i, IsDecidedDue due)) (shows_disk number0 peers shelf p s stands sound) stands.kept stands.awake next.first

  abbrev number : ℕ → ℕ
  number = found.number

  disk : ShowsDisk number none_leaves peers shelf q (with_row_if text s)
  disk = found.shows

  abbrev Shows : Turn → State → Type 0
  Shows r t = ShowsSteps number q.name.items none_leaves peers (parts r) t

  -- ---- what is due in the law

  first : first_due s ≡ Some (Decide n seat.index due)
  first = sym found.due ∙ ap (λ (o : Option Seat). option_map (λ (x : Seat). due_as x.client.id x.index (IsDecidedDue due)) o) next.here

  own_due : due_of s c ≡ Some (Decide n seat.index due)
  own_due = its_due s s.clients (Decide n seat.index due) c first next.there (sound.apart.clients n)

  open_client : IsUnbegun s c due
  open_client = unbegun_by s c n seat.index due own_due

  taking : decides s ≡ true
  taking = deciding_by s (Decide n seat.index due) stands.deciding.at first

  -- ---- its seat

  there_row : client (with_row_if text s) n ≡ Some c
  there_row = ap (λ (cs : List Client). find (is_client n) cs) (row_beside text s).clients ∙ next.there

  seen : ShowsSeat number q.name.items [] seat c
  seen = shown_at number q.name.items [] q.seats.items (with_row_if text s).clients n i seat c disk.turn.steps.shows.clients (is_at i q.seats.items seat disk.turn.steps.order next.here) next.here there_row

  ready : IsReady number q.cache (with_row_if text s).next_instance seat
  ready = disk.ready i seat next.here (seen.closing ∙ open_client.going)

  own : ShowsOpen number q.name.items [] seat c
  own = seen.going open_client.going

  keyed : option_map text_of (key_in c.front) ≡ option_map (λ (k : OwnedKey). k.text.items) (owned_in (asked_in seat.front))
  keyed = keys_same seat.front c.front own.front ready.key

  -- memory was refused for no row that its exchange brought, unless it is refused for that
  given_if : is_for_memory due ≡ false → is_refused_in seat.brought ≡ false
  given_if more = by (is_refused_in seat.brought) refl
    where
      its_due_now : due_of_seat q seat ≡ Some (IsDecidedDue due)
      its_due_now = sym (ap (λ (o : Option Seat). option_and_then (due_of_seat q) o) next.here) ∙ found_due shelf p.awake.items p q i (IsDecidedDue due) next.first

      by : (b : Bool) → is_refused_in seat.brought ≡ b → b ≡ false
      by false is = refl
      by true is =
          absurd
          (none_unentered number none_leaves peers shelf q (with_row_if text s) i seat c disk next.here seen stands.kept
          (ap (λ (b : Bool). not (is_some (cut_of q seat)) && not b) is ∙ and_no (not (is_some (cut_of q seat)))) due its_due_now more)

  -- ---- it is taken in a state that has its clients, exchanges and connections

  module _ (t : State) (beside : IsBeside s t) (shown : Shows turn (with_row_if text t)) (has : HasItsRow due (with_row_if text t) seat) (may : MayDoNext q.name.items i due (parts turn) (with_row_if text t) seat c) where
    abbrev r : State
    r = with_row_if text t

    all_beside : IsBeside s r
    all_beside = beside_then s t r beside (row_beside text t)

    asks : AsksOnce c.number r
    asks = record {
      once = subst (λ (es : List Exchange). count_by (is_of c.number) es ≤ 1) (sym all_beside.exchanges) (sound.once c.number);
      going = ap (λ (es : List Exchange). list_any is_over es) all_beside.exchanges ∙ rests.going;
      apart = λ m. subst (λ (ks : List Conn). count_by (is_conn m) ks ≤ 1) (sym all_beside.conns) (sound.apart.conns m);
    }

    decided_here : IsDecided i (parts turn) r seat c
    decided_here = record {
      place = record { here = way_here (row_in_way due i q) q i ∙ next.here; there = ap (λ (cs : List Client). find (is_client n) cs) all_beside.clients ∙ next.there };
      going = open_client.going;
      may = record { unbegun = not_begun s c due open_client.due; first = rests.first; expects = expected seat.front c.front own.front ready.key };
      asks = asks;
    }

    may_do : MayDo q.name.items i due (parts turn) r seat c
    may_do =
        to_do q.name.items i due (parts turn) r seat c given_if (disk.turn.name ∙ ap (λ (x : Settings). x.name) ((row_beside text s).settings ∙ sym all_beside.settings)) ready.key
        (subst (λ (cs : List Client). length cs ≤ 256) (sym all_beside.clients) sound.bounded.clients) may

    same : afforded i due turn ≡ due
    same = way_affords (row_in_way due i q) q i due ∙ rests.affords

    shows_taken : ShowsSteps number q.name.items none_leaves peers between (taken c due r)
    shows_taken =
        subst (λ (d : Decision). ShowsSteps number q.name.items none_leaves peers between (taken c d r)) same
        (takes number q.name.items none_leaves peers (parts turn) r shown turn i due seat c between refl decided_here
        (subst (λ (d : Decision). HasItsRow d r seat) (sym same) has)
        (subst (λ (d : Decision). MayDo q.name.items i d (parts turn) r seat c) (sym same) may_do)
        (subst (λ (d : Decision). Takes q.name.items i d (parts turn) between) (sym same) it))

  -- ---- the end of each case

  there_at : (t : State) → IsBeside s t → client t n ≡ Some c
  there_at t beside = ap (λ (cs : List Client). find (is_client n) cs) beside.clients ∙ next.there

  ends : (t : State) → u ≡ in_phase Deciding t → IsBeside s t → Leads (row_notes (row_in_way due i q) ++ Noted (Taken n seat.index due) ∷ []) s (take_decision n due (in_phase Deciding t))
      → ShowsSteps number q.name.items none_leaves peers between (taken c due (in_phase Deciding t)) → TakesAsTheLaw number i due peers q s seat c between
  ends t is beside leads shows = record {
    leads = subst (λ (v : State). Leads (row_notes (row_in_way due i q) ++ Noted (Taken n seat.index due) ∷ []) s (take_decision n due v)) (sym is) leads;
    regains = regains u n due c (ap (λ (v : State). client v n) is ∙ there_at t beside);
    shows = subst (λ (v : State). ShowsSteps number q.name.items none_leaves peers between (taken c due v)) (sym is) shows;
  }

  -- ---- none gives way

  itself : IsBeside s s
  itself = record { clients = refl; exchanges = refl; conns = refl; settings = refl }

  goes_alone : has_room_for s n due ≡ true → Goes s (Noted (Taken n seat.index due)) (take_decision n due (in_phase Deciding s))
  goes_alone room = goes_taken s n seat.index due stands.deciding.none taking (takes_due s n seat.index due (next_first s stands.deciding.none ∙ first) room)

  leads_alone : row_in_way due i q ≡ None → has_room_for s n due ≡ true → Leads (row_notes (row_in_way due i q) ++ Noted (Taken n seat.index due) ∷ []) s (take_decision n due (in_phase Deciding s))
  leads_alone none room = subst (λ (o : Option Instance). Leads (row_notes o ++ Noted (Taken n seat.index due) ∷ []) s (take_decision n due (in_phase Deciding s))) (sym none) (moves_to refl (goes_alone room) refl)

  shown_alone : row_in_way due i q ≡ None → Shows turn (with_row_if text (in_phase Deciding s))
  shown_alone none = subst (λ (o : Option Instance). Shows (without_row o q) (with_row_if text (in_phase Deciding s))) (sym none) (rows_in Deciding s.made_room_for number q.name.items none_leaves peers (parts q) text s disk.turn.steps)

  alone : row_in_way due i q ≡ None → room_made due s ≡ s → has_room_for s n due ≡ true → HasItsRow due (with_row_if text (in_phase Deciding s)) seat → taken c due (with_row_if text (in_phase Deciding s)) ≡ taken c due (in_phase Deciding s) → TakesAsTheLaw number i due peers q s seat c between
  alone none stays room has same =
      let is : u ≡ in_phase Deciding s = ap (λ (t : State). in_phase Deciding t) stays in
      ends s is itself (leads_alone none room)
      (subst (λ (t : State). ShowsSteps number q.name.items none_leaves peers between t) same
      (shows_taken (in_phase Deciding s) (record { clients = refl; exchanges = refl; conns = refl; settings = refl }) (shown_alone none) has
      (subst (λ (t : State). MayDoNext q.name.items i due (parts turn) (with_row_if text t) seat c) is rests.may)))

  -- ---- for want of memory

  no_row : {A : Type 0} → true ≡ false → A
  no_row e = absurd (cc e)

  for_memory : is_for_memory due ≡ true → TakesAsTheLaw number i due peers q s seat c between
  for_memory memory =
      alone
      (ap (λ (b : Bool). elim (b || not (nat_lt 1024 (count_by is_row q.cache.instances))) as (λ t. Option Instance) [ true ↦ None | false ↦ option_and_then (unless_own i q) (idle_in q) ]) (for_memory_same due ∙ memory))
      (ap (λ (b : Bool). elim (b || not (forgets_next s (first_due s))) as (λ t. State) [ true ↦ s | false ↦ elim (idle_row s) as (λ t. State) [ None ↦ s | Some x ↦ left_for x s ] ]) memory)
      (ap (λ (b : Bool). b || not (is_some_with (has_to_forget s) (client s n))) memory)
      (record { key = λ more. no_row (sym memory ∙ more); kept = λ more. no_row (sym memory ∙ more) })
      (ap (λ (o : Option Bytes). taken c due (with_row_if o (in_phase Deciding s))) (rests.bare memory))

  -- ---- one that brings its row in, where one is kept

  module _ (more : is_for_memory due ≡ false) where
    abbrev texts : Option Bytes
    texts = option_map (λ (k : OwnedKey). k.text.items) (owned_in (asked_in seat.front))

    forgets : is_some_with (has_to_forget s) (client s n) ≡ is_some_with (λ t. must_forget s t) texts
    forgets = ap (λ (o : Option Client). is_some_with (has_to_forget s) o) next.there ∙ forgets_text s (key_in c.front) ∙ ap (λ (o : Option Bytes). is_some_with (λ t. must_forget s t) o) keyed

    forgets_first : forgets_next s (first_due s) ≡ is_some_with (λ t. must_forget s t) texts
    forgets_first = ap (λ (o : Option Due). forgets_next s o) first ∙ forgets

    room_by : (b : Bool) → is_some_with (λ t. must_forget s t) texts ≡ b → has_room_for s n due ≡ (false || not b)
    room_by b is = ap₂ (λ (x y : Bool). x || not y) more (forgets ∙ is)

    made_by : (b : Bool) (o : Option Known) → is_some_with (λ t. must_forget s t) texts ≡ b → idle_row s ≡ o
        → room_made due s ≡ (elim (not b) as (λ t. State) [ true ↦ s | false ↦ elim o as (λ t. State) [ None ↦ s | Some x ↦ left_for x s ] ])
    made_by b o is idle =
        ap₂ (λ (x y : Bool). elim (x || not y) as (λ t. State) [ true ↦ s | false ↦ elim (idle_row s) as (λ t. State) [ None ↦ s | Some x ↦ left_for x s ] ]) more (forgets_first ∙ is)
        ∙ ap (λ (v : Option Known). elim (not b) as (λ t. State) [ true ↦ s | false ↦ elim v as (λ t. State) [ None ↦ s | Some x ↦ left_for x s ] ]) idle

    has_row : HasItsRow due (with_row_if text (in_phase Deciding s)) seat
    has_row = record {
      key = λ still. ready.key;
      kept = λ still key owned. subst (λ (t : State). row t key.text.items ≡ None → row_on_disk t key.text.items ≡ None) (sym (row_in Deciding s.made_room_for text s)) (found.has i due seat key refl more next.here owned);
    }

    -- none has to leave
    none_leaves_for : row_in_way due i q ≡ None → is_some_with (λ t. must_forget s t) texts ≡ false → taken c due (with_row_if text (in_phase Deciding s)) ≡ taken c due (in_phase Deciding s) → TakesAsTheLaw number i due peers q s seat c between
    none_leaves_for none isnt same = alone none (made_by false (idle_row s) isnt refl) (room_by false isnt) has_row same

    -- ---- no row came in

    module _ (bare : text ≡ None) where
      rows_are : count_by is_row q.cache.instances ≡ rows s
      rows_are = room_of number q.cache (with_row_if text s) disk.turn.steps.shows.table.table ∙ ap (λ (o : Option Bytes). rows (with_row_if o s)) bare

      bare_way : row_in_way due i q ≡ None
      bare_way =
          ap₂ (λ (x y : Bool). elim (x || not y) as (λ t. Option Instance) [ true ↦ None | false ↦ option_and_then (unless_own i q) (idle_in q) ])
          (for_memory_same due ∙ more) (ap (λ (m : ℕ). nat_lt 1024 m) rows_are ∙ few_more (rows s) sound.bounded.rows)

      bare_kept : (key : OwnedKey) → owned_in (asked_in seat.front) ≡ Some key → row s key.text.items ≡ None → row_on_disk s key.text.items ≡ None
      bare_kept key owned = subst (λ (o : Option Bytes). row (with_row_if o s) key.text.items ≡ None → row_on_disk (with_row_if o s) key.text.items ≡ None) bare (found.has i due seat key refl more next.here owned)

      bare_not : (o : Option OwnedKey) → owned_in (asked_in seat.front) ≡ o → is_some_with (λ t. must_forget s t) (option_map (λ (k : OwnedKey). k.text.items) o) ≡ false
      bare_not None owned = refl
      bare_not (Some key) owned = must_not s key.text.items (bare_kept key owned)

      bare_taken : TakesAsTheLaw number i due peers q s seat c between
      bare_taken = none_leaves_for bare_way (bare_not (owned_in (asked_in seat.front)) refl) (ap (λ (o : Option Bytes). taken c due (with_row_if o (in_phase Deciding s))) bare)

    -- ---- that of its key did, or stood there

    module _ (key : OwnedKey) (owned : owned_in (asked_in seat.front) ≡ Some key) (named : text ≡ Some key.text.items) where
      abbrev k : Bytes
      k = key.text.items

      law_key : option_map text_of (key_in c.front) ≡ Some k
      law_key = keyed ∙ ap (λ (o : Option OwnedKey). option_map (λ (x : OwnedKey). x.text.items) o) owned

      must_by : (b : Bool) → must_forget s k ≡ b → is_some_with (λ t. must_forget s t) texts ≡ b
      must_by b is = ap (λ (o : Option OwnedKey). is_some_with (λ t. must_forget s t) (option_map (λ (x : OwnedKey). x.text.items) o)) owned ∙ is

      shown_row : ShowsSteps number q.name.items none_leaves peers (parts q) (with_row_of k s)
      shown_row = subst (λ (o : Option Bytes). ShowsSteps number q.name.items none_leaves peers (parts q) (with_row_if o s)) named disk.turn.steps

      yields : MayYield number q.name.items none_leaves peers q i key s
      yields = record {
        shows = shown_row;
        seat = seat;
        here = next.here;
        owned = owned;
        busy = busy number q.name.items none_leaves peers (parts q) (with_row_of k s) shown_row rests.busy;
        most = sound.bounded.rows;
      }

      same_in : (t : State) → must_forget (in_phase Deciding t) k ≡ false → taken c due (with_row_if text (in_phase Deciding t)) ≡ taken c due (in_phase Deciding t)
      same_in t none =
          ap (λ (o : Option Bytes). taken c due (with_row_if o (in_phase Deciding t))) named
          ∙ ap (λ (v : State). let w : State = record v { forgotten = []; made_room_for = None } in w) (comes (in_phase Deciding t) c due k more law_key none)

      -- ---- another gives way

      module _ (j : Instance) (way : row_in_way due i q ≡ Some j) (g : GivesWay number q.name.items none_leaves peers q i due k s j) where
        abbrev x : Known
        x = g.row

        abbrev left : State
        left = left_for x s

        is_left : u ≡ in_phase Deciding left
        is_left = ap (λ (t : State). in_phase Deciding t) (made_by true (Some x) (must_by true g.must) g.next)

        permitted : Goes s (Noted (Forgotten x.key)) left
        permitted =
            goes_forgotten_before s x.key x stands.deciding.none (past_rows s stands.deciding.at) taking
            (notes s n seat.index due c k x first next.there law_key g.must g.next (rests.old x (forgets_first ∙ must_by true g.must) g.next))

        still : IsStillDue left n seat.index due
        still = stays_due s n seat.index due c k x first next.there (sound.apart.clients n) law_key g.must g.next taking g.room

        then : Goes left (Noted (Taken n seat.index due)) (take_decision n due (in_phase Deciding left))
        then = goes_taken_behind left n seat.index due n (ap decides_for first) still.taking (takes_due left n seat.index due still.next still.room) more

        both_lead : Leads (row_notes (row_in_way due i q) ++ Noted (Taken n seat.index due) ∷ []) s (take_decision n due (in_phase Deciding left))
        both_lead =
            subst (λ (o : Option Instance). Leads (row_notes o ++ Noted (Taken n seat.index due) ∷ []) s (take_decision n due (in_phase Deciding left))) (sym way)
            (subst (λ (b : Bytes). Leads (Noted (Forgotten b) ∷ Noted (Taken n seat.index due) ∷ []) s (take_decision n due (in_phase Deciding left))) (sym g.same) (moves_to refl permitted (moves_to refl then refl)))

        beside : IsBeside s (in_phase Deciding left)
        beside = let out : IsBeside s (forget x.id s) = forget_beside x.id s in record { clients = out.clients; exchanges = out.exchanges; conns = out.conns; settings = out.settings }

        shown_left : Shows turn (with_row_if text (in_phase Deciding left))
        shown_left =
            subst (λ (o : Option Bytes). Shows turn (with_row_if o (in_phase Deciding left))) (sym named)
            (rows_in Deciding (decides_for (first_due s)) number q.name.items none_leaves peers (parts turn) (Some k) (forget x.id s) g.shows)

        kept_left : (other : OwnedKey) → owned_in (asked_in seat.front) ≡ Some other → row (with_row_if text (in_phase Deciding left)) other.text.items ≡ None → row_on_disk (with_row_if text (in_phase Deciding left)) other.text.items ≡ None
        kept_left other is =
            subst (λ (o : Option Bytes). row (with_row_if o (in_phase Deciding left)) other.text.items ≡ None → row_on_disk (with_row_if o (in_phase Deciding left)) other.text.items ≡ None) (sym named)
            (subst (λ (y : OwnedKey). row (with_row_of k (in_phase Deciding left)) y.text.items ≡ None → row_on_disk (with_row_of k (in_phase Deciding left)) y.text.items ≡ None) (some_is key other (sym owned ∙ is))
            (there_then k (in_phase Deciding left)))

        given : TakesAsTheLaw number i due peers q s seat c between
        given =
            ends left is_left (let out : IsBeside s (forget x.id s) = forget_beside x.id s in record { clients = out.clients; exchanges = out.exchanges; conns = out.conns; settings = out.settings }) both_lead
            (subst (λ (t : State). ShowsSteps number q.name.items none_leaves peers between t) (same_in left g.room)
            (shows_taken (in_phase Deciding left) beside shown_left (record { key = λ still. ready.key; kept = λ still. kept_left })
            (subst (λ (t : State). MayDoNext q.name.items i due (parts turn) (with_row_if text t) seat c) is_left rests.may)))

      by_way : (o : Option Instance) → row_in_way due i q ≡ o → IsWay number q.name.items none_leaves peers q i due k s o → TakesAsTheLaw number i due peers q s seat c between
      by_way None way none = none_leaves_for way (must_by false none) (same_in s none)
      by_way (Some j) way g = given j way g

      named_taken : TakesAsTheLaw number i due peers q s seat c between
      named_taken = by_way (row_in_way due i q) refl (ways number q.name.items none_leaves peers q i due key s yields (for_memory_same due ∙ more))

    -- ---- which it is

    seats_same : slice_get p.seats.items i ≡ Some seat
    seats_same = let same : IsButForMemory p q = first_keeps shelf p.awake.items p q (Some (i, IsDecidedDue due)) next.first in ap (λ (r : Turn). slice_get r.seats.items i) (sym same) ∙ next.here

    text_is : text ≡ key_due p seat
    text_is = ap (λ (o : Option Seat). option_and_then (key_due p) o) seats_same

    by_text : (b : Bool) → is_to_enter p seat ≡ b → (o : Option OwnedKey) → owned_in (asked_in seat.front) ≡ o → TakesAsTheLaw number i due peers q s seat c between
    by_text false enters o owned = bare_taken (text_is ∙ ap (λ (b : Bool). elim b as (λ t. Option Bytes) [ true ↦ texts | false ↦ None ]) enters)
    by_text true enters None owned = bare_taken (text_is ∙ ap₂ (λ (b : Bool) (o : Option OwnedKey). elim b as (λ t. Option Bytes) [ true ↦ option_map (λ (k : OwnedKey). k.text.items) o | false ↦ None ]) enters owned)
    by_text true enters (Some key) owned =
        named_taken key owned (text_is ∙ ap₂ (λ (b : Bool) (o : Option OwnedKey). elim b as (λ t. Option Bytes) [ true ↦ option_map (λ (k : OwnedKey). k.text.items) o | false ↦ None ]) enters owned)

    for_more : TakesAsTheLaw number i due peers q s seat c between
    for_more = by_text (is_to_enter p seat) refl (owned_in (asked_in seat.front)) refl

  by_memory : (b : Bool) → is_for_memory due ≡ b → TakesAsTheLaw number i due peers q s seat c between
  by_memory true memory = for_memory memory
  by_memory false more = for_more more

  pub its_taking : TakesAsTheLaw number i due peers q s seat c between
  its_taking = by_memory (is_for_memory due) refl

pub leads : DecisionsLead
leads number peers shelf i due p q s seat c between stands sound next rests it =
    ((found number peers shelf i due p q s seat c between stands sound next rests it).number, its_taking number peers shelf i due p q s seat c between stands sound next rests it)
