-- The row that is kept of a key comes into memory, and another leaves for it, as the law has it.
use Rattle.std.proofs.Common.{◌≡◌, ◌≤◌, inl, inr, refl, sym, subst, ap, ap₂, ◌∙◌, le_refl, ℕ, ◌+◌, Bool, true, false, ◌||◌, ◌&&◌, cond, find, List, [], ◌∷◌, ◌++◌, length, Option, Some, None, option_map, arith}
use Rattle.std.proofs.lemmas.Bool.Decides.{nat_tests}
use Rattle.std.specs.List.{list_any}
use Rattle.std.specs.Prelude.{bytes_eq, count_by, is_some, nat_le, nat_lt}
use Rattle.pp_answers_law.proofs.Carried.{numbers_stay, one_more}
use Rattle.pp_answers_law.specs.Making.{AreGivenSeats}
use Rattle.pp_cache.specs.Bounds.{IsBounded}
use Rattle.pp_cache.specs.Memory.{Memory, with_row}
use Rattle.pp_cache.specs.Notes.{noted_by}
use Rattle.pp_cache.specs.OnDisk.{kept_to}
use Rattle.pp_cache_law.proofs.Alike.{idle_rows_of, room_of, rows_of}
use Rattle.pp_cache_law.proofs.Entering.{no_row}
use Rattle.pp_cache_law.proofs.Finds.{find_joined, find_passes, first_of_two, none_passes}
use Rattle.pp_cache_law.proofs.GivingWay.{enterings_with_room_of}
use Rattle.pp_cache_law.proofs.PairLemmas.{count_first, count_joined}
use Rattle.pp_cache_law.specs.Pairs.{AreBoth}
use Rattle.pp_cache_law.specs.Reads.{AreBusy}
use Rattle.pp_cache_law.specs.Rooms.{give_way, way_by, without_one}
use Rattle.pp_cache_law.specs.Settles.{entered, numbered}
use Rattle.pp_cache_law.specs.Tables.{ShowsCache, ShowsInstance, ShowsTable}
use Rattle.pp_due.specs.Entering.{Comes, HasRowFor, MayCome, with_room_if_over}
use Rattle.pp_due.specs.OnDisk.{Enters, IsBrought, kept_alone}
use Rattle.pp_flow.specs.declared.entry.Entry.{Entry as Asking}
use Rattle.pp_flow_law.proofs.Framed.{frames as flow_frames}
use Rattle.pp_flow_law.specs.Tables.{Leaving, line_in}
use Rattle.pp_fresh.specs.declared.aging.Times.{Times}
use Rattle.pp_law.specs.Connections.{exchange, is_conn, is_exchange}
use Rattle.pp_law.specs.Lists.{Bytes, has_text}
use Rattle.pp_law.specs.OwnHeads.{key_of as its_key}
use Rattle.pp_law.specs.Responses.{bring_row}
use Rattle.pp_law.specs.State.{State, Client, Conn, Entry, Exchange, Instance as Known}
use Rattle.pp_law.specs.Table.{enter, idle_row as law_idle, is_kept_row_of, row, row_on_disk, rows}
use Rattle.pp_leaves_law.proofs.Pins.{busy as busies}
use Rattle.pp_objects.specs.Changes.{retired_from}
use Rattle.pp_objects.specs.Instances.{Instance, is_idle, is_row, is_row_of, row_of}
use Rattle.pp_objects.specs.declared.id.ObjectId.{ObjectId}
use Rattle.pp_peers.specs.declared.peers.Peer.{Peer}
use Rattle.pp_peers_law.specs.Peers.{ShowConns}
use Rattle.pp_seats_law.specs.Clients.{AreShown}
use Rattle.pp_state.specs.Keys.{key_of}
use Rattle.pp_state.specs.Pins.{busy_rows, forgotten_row, idle_row, without_instance, with_room}
use Rattle.pp_state.specs.declared.state.State.{State as Turn}
use Rattle.pp_states_law.proofs.Asked.{all_as, frames, itself}
use Rattle.pp_states_law.specs.Asks.{IsAskedAs}
use Rattle.pp_states_law.specs.Told.{AreTold}
use Rattle.pp_store.specs.Kept.{Kept, KeptMap, kept_of as kept_in_store}
use Rattle.pp_target.specs.Name.{name_of}
use Rattle.pp_turns_law.proofs.Numbered.{AreSame, seats_as}
use Rattle.pp_turns_law.specs.Rows.{AllAreKept, IsKeptAs}
use Rattle.pp_valid.specs.declared.version.Version.{Version}
use Rattle.pp_reads_law.proofs.Brings.{IsEntered, enters_for, enters_in, stays_with, stays_without}
use Rattle.pp_reads_law.proofs.Given.{flow_as, given_lives, given_more, same_numbers}
use Rattle.pp_reads_law.proofs.There.{IsButNew, all_told, kept_instances, kept_lives, kept_outdated, kept_row, kept_there, left_there}
use Rattle.pp_reads_law.specs.Amid.{IsAmidRead, ShowsRead}
use Rattle.pp_reads_law.specs.Rows.{HasWay, IsGivenFor, IsGivenRow, MayForget, MayMakeRoom, RowsAreBroughtAsTheLaws, RowsComeInWithRoom}

none_some : {A : Type 0} {x : A} → None ≡ Some x → ⊥
none_some e = absurd (cc e)

abbrev beside : Turn → Memory → List Bytes → Turn
beside p k keys = record p { cache = k; forgotten = keys }

-- ---- what is kept is so still

on_disk_by : Bytes → List Bytes → List Entry → Option Entry
on_disk_by key displaced entries = elim (has_text key displaced) [ true ↦ None | false ↦ find (is_kept_row_of key) entries ]

same_on_disk : (s t : State) (key : Bytes) → t.entries ≡ s.entries → t.displaced ≡ s.displaced → row_on_disk t key ≡ row_on_disk s key
unfolding on_disk_by
same_on_disk s t key entries displaced = ap₂ (λ (texts : List Bytes) (es : List Entry). on_disk_by key texts es) displaced entries

abbrev kept_by : KeptMap → Bytes → List Bytes → Option Kept
kept_by shelf key names = elim (list_any (bytes_eq (name_of key)) names) [ true ↦ None | false ↦ kept_in_store key shelf ]

kept_still : (shelf : KeptMap) (m k : Memory) (s t : State) → k.outdated ≡ m.outdated → t.entries ≡ s.entries → t.displaced ≡ s.displaced → AllAreKept shelf m s → AllAreKept shelf k t
kept_still shelf m k s t outdated entries displaced are key =
    subst (λ (o : Option Entry). AreBoth IsKeptAs (kept_by shelf key k.outdated) o) (sym (same_on_disk s t key entries displaced))
    (subst (λ (names : List Bytes). AreBoth IsKeptAs (kept_by shelf key names) (row_on_disk s key)) (sym outdated) (are key))

-- ---- the turn shows it, with what is in memory then

module _ (number : ℕ → ℕ) (l : Leaving) (peers : List Peer) (shelf : KeptMap) (p : Turn) (s : State) (shows : ShowsRead number l peers shelf p s) where
  abbrev m : Memory
  m = p.cache

  abbrev after : ℕ → ℕ
  after = numbered m.lives s.next_instance number

  lives_same : AreSame m.lives number after
  lives_same = same_numbers m.lives s.next_instance number

  table : ShowsTable number m s
  table = shows.turn.steps.shows.table.table

  stands : (k : Memory) (t : State) (keys : List Bytes) → IsEntered s t keys → ShowsCache after k t → k.lives ≡ m.lives + 1 → k.outdated ≡ m.outdated → IsButNew m k → IsBounded k → IsAmidRead number p.cache.lives s.next_instance l peers shelf (beside p k keys) t
  stands k t keys rest cache lives outdated but bounded = record {
    number = after;
    keeps = one_more m.lives k.lives s.next_instance number lives;
    grows = omega (arith, rest.next);
    shows = record {
      turn = record {
        steps = record {
          shows = record {
            clients = subst (λ (cs : List Client). AreShown after p.name.items [] p.seats.items cs) (sym rest.beside.clients) (seats_as m.lives number after p.name.items [] p.seats.items s.clients lives_same (given_lives m.lives p.seats.items shows.may.given) shows.turn.steps.shows.clients);
            exchanges =
                flow_frames after l p.flow s (flow_as number after m s.next_instance l p.flow s lives_same shows.turn.steps.told shows.turn.steps.shows.exchanges) l t
                (record { exchanges = rest.beside.exchanges; next = rest.beside.next_exchange; lines = λ n. ap (λ (ks : List Conn). l n ++ line_in (find (is_conn n) ks)) rest.beside.conns });
            table = cache;
            conns = subst (λ (ks : List Conn). ShowConns t peers ks) (sym rest.beside.conns) (frames s t peers s.conns (all_as s t as_before s.conns) shows.turn.steps.shows.conns);
          };
          order = shows.turn.steps.order;
          told = subst (λ (n : ℕ). AreTold after k n p.flow) (sym rest.next) (all_told number m k s table lives but p.flow shows.turn.steps.told);
          refused = shows.turn.steps.refused;
        };
        name = shows.turn.name ∙ ap (λ x. x.name) (sym rest.beside.settings);
        shares = shows.turn.shares ∙ ap (λ x. x.shares_fetches) (sym rest.beside.settings);
        clock = shows.turn.clock ∙ sym rest.beside.clock;
        ticked = shows.turn.ticked ∙ sym rest.beside.ticked;
        stopped = shows.turn.stopped ∙ sym rest.beside.stopped;
        bounded = bounded;
      };
      disk = kept_still shelf m k s t outdated rest.beside.entries rest.beside.displaced shows.disk;
      may = record { few = rest.few; busy = shows.may.busy; given = subst (λ (n : ℕ). AreGivenSeats n p.seats.items) (sym lives) (given_more m.lives p.seats.items shows.may.given) };
      forgotten = sym rest.noted;
    };
  }
    where
      as_before : (j : ℕ) → AreBoth IsAskedAs (exchange s j) (exchange t j)
      as_before j = subst (λ (es : List Exchange). AreBoth IsAskedAs (exchange s j) (find (is_exchange j) es)) (sym rest.beside.exchanges) (itself (exchange s j))

  -- ---- it comes in

  module _ (key : Bytes) (m1 : Memory) (kept : Kept) (e : Entry) (enters : Enters key kept m m1) (alone : row s key ≡ None) (is : row_on_disk s key ≡ Some e) (like : IsKeptAs kept e) where
    abbrev t : State
    t = enter key true s

    abbrev id : ObjectId
    id = enters.id

    abbrev big : Memory
    big = entered id key kept.entry.fields e m

    entered_memory : m1 ≡ big
    entered_memory =
        enters.entered
        ∙ ap₂ (λ (v : Version) (ts : Times). let j : Memory = record (with_row id key v kept.entry.fields ts m) { extents = kept_to id kept.extent m.extents } in j) like.version like.times
        ∙ ap (λ (n : ℕ). let j : Memory = record (with_row id key e.version kept.entry.fields e.times m) { extents = kept_to id n m.extents } in j) like.extent

    busy : AreBusy number m s (busy_rows p.flow)
    busy = busies number p.name.items l peers (record { seats = p.seats.items; flow = p.flow; cache = m; refused = p.refused; is_astray = p.is_astray }) s shows.turn.steps shows.may.busy

    cache_then : ShowsCache after (give_way key (busy_rows p.flow) m1) t
    cache_then =
        subst (λ (j : Memory). ShowsCache after (give_way key (busy_rows p.flow) j) t) (sym entered_memory)
        (enterings_with_room_of number m s shows.turn.steps.shows.table (busy_rows p.flow) id key kept.entry.fields e true busy
        (record { vacant = enters.vacant; life = enters.life; slot = enters.slot; alone = alone; kept = is; fields = like.fields }))

    -- ---- how many rows there are then

    new : Instance
    new = kept_row id key kept

    instances_are : m1.instances ≡ m.instances ++ new ∷ []
    unfolding new
    instances_are =
        ap (λ (j : Memory). j.instances) enters.entered ∙ kept_instances id key kept m
        ∙ ap (λ (o : Option Instance). retired_from o (m.instances ++ kept_row id key kept ∷ [])) (no_row number m s key table alone)

    count : count_by is_row m1.instances ≡ rows s + 1
    unfolding new
    count =
        ap (λ (is : List Instance). count_by is_row is) instances_are
        ∙ (omega (arith, count_joined is_row m.instances (new ∷ []), count_first is_row new [], room_of number m s table))

    abbrev mid : Turn
    mid = record p { cache = m1 }

    abbrev roomed : Turn
    roomed = with_room_if_over mid

    few_with : (n : ℕ) → nat_lt n 1024 ≡ true → nat_lt 1024 (n + 1) ≡ false
    few_with n few = grind (arith, nat_tests)

    full_with : (n : ℕ) → nat_lt n 1024 ≡ false → nat_lt 1024 (n + 1) ≡ true
    full_with n full = grind (arith, nat_tests)

    over_le : (n : ℕ) → nat_lt 1024 n ≡ true → nat_le 1024 n ≡ true
    over_le n over = grind (arith, nat_tests)

    -- ---- there is room

    roomed_few : nat_lt 1024 (count_by is_row m1.instances) ≡ false → roomed ≡ mid
    roomed_few none = ap (λ (b : Bool). elim b as (λ c. Turn) [ true ↦ with_room mid | false ↦ mid ]) none

    way_few : nat_lt 1024 (count_by is_row m1.instances) ≡ false → give_way key (busy_rows p.flow) m1 ≡ m1
    way_few none = ap (λ (b : Bool). cond b (way_by key (find (is_idle (busy_rows p.flow)) m1.instances) m1) m1) none

    there_then : IsButNew m m1
    there_then = subst (λ (j : Memory). IsButNew m j) (sym enters.entered) (kept_there id key kept m enters.life)

    lives_then : m1.lives ≡ m.lives + 1
    lives_then = ap (λ (j : Memory). j.lives) enters.entered ∙ kept_lives id key kept m

    outdated_then : m1.outdated ≡ m.outdated
    outdated_then = ap (λ (j : Memory). j.outdated) enters.entered ∙ kept_outdated id key kept m

    same_keys : (keys : List Bytes) → keys ≡ p.forgotten → beside p m1 keys ≡ mid
    same_keys keys are = ap (λ (ks : List Bytes). beside p m1 ks) are

    in_room : nat_lt (rows s) 1024 ≡ true → (q : Turn) → q ≡ roomed → IsBounded q.cache → IsAmidRead number p.cache.lives s.next_instance l peers shelf q t
    in_room few q is_q bounded =
        subst (λ (r : Turn). IsAmidRead number p.cache.lives s.next_instance l peers shelf r t) (sym all)
        (stands m1 t s.forgotten (enters_in s key e alone is few) (subst (λ (j : Memory). ShowsCache after j t) (way_few none) cache_then) lives_then outdated_then there_then (subst (λ (r : Turn). IsBounded r.cache) all bounded))
      where
        none : nat_lt 1024 (count_by is_row m1.instances) ≡ false
        none = ap (λ (n : ℕ). nat_lt 1024 n) count ∙ few_with (rows s) few

        all : q ≡ beside p m1 s.forgotten
        all = is_q ∙ roomed_few none ∙ sym (same_keys s.forgotten (sym shows.forgotten))

    -- ---- another leaves

    module _ (i : Instance) (x : Known) (full : nat_lt (rows s) 1024 ≡ false) (here : find (is_idle (busy_rows p.flow)) m.instances ≡ Some i) (next : law_idle s ≡ Some x) (same : ShowsInstance number m s i x) (noted : MayForget s x) where
      over : nat_lt 1024 (count_by is_row m1.instances) ≡ true
      over = ap (λ (n : ℕ). nat_lt 1024 n) count ∙ full_with (rows s) full

      idle : find (is_idle (busy_rows p.flow)) m1.instances ≡ Some i
      idle =
          ap (λ (is : List Instance). find (is_idle (busy_rows p.flow)) is) instances_are ∙ find_joined (is_idle (busy_rows p.flow)) m.instances (new ∷ [])
          ∙ ap (λ (o : Option Instance). first_of_two o (find (is_idle (busy_rows p.flow)) (new ∷ []))) here

      first_of : (a b : Bool) → (a && b) ≡ true → a ≡ true
      first_of true b e = refl
      first_of false b e = e

      other : bytes_eq i.key key ≡ false
      other =
          ap (λ (b : Bool). b && bytes_eq i.key key) (sym (first_of (is_row i) _ (find_passes (is_idle (busy_rows p.flow)) m.instances i here)))
          ∙ none_passes (is_row_of key) (is_idle (busy_rows p.flow)) m.instances i (no_row number m s key table alone) here

      way : give_way key (busy_rows p.flow) m1 ≡ without_instance i m1
      way =
          ap (λ (b : Bool). cond b (way_by key (find (is_idle (busy_rows p.flow)) m1.instances) m1) m1) over
          ∙ ap (λ (o : Option Instance). way_by key o m1) idle ∙ ap (λ (b : Bool). cond b m1 (without_one (Some i) m1)) other

      leaves : roomed ≡ forgotten_row (Some i) mid
      leaves =
          ap (λ (b : Bool). elim b as (λ c. Turn) [ true ↦ with_room mid | false ↦ mid ]) over
          ∙ ap (λ (b : Bool). elim b as (λ c. Turn) [ true ↦ forgotten_row (idle_row mid) mid | false ↦ mid ]) (over_le (count_by is_row m1.instances) over)
          ∙ ap (λ (o : Option Instance). forgotten_row o mid) idle

      noted_so : noted_by i.key p.forgotten ≡ s.forgotten ++ x.key ∷ []
      noted_so =
          ap₂ (λ (text : Bytes) (keys : List Bytes). noted_by text keys) same.key shows.forgotten
          ∙ ap (λ (b : Bool). cond (b || nat_le 16 (length s.forgotten) || nat_lt 8192 (length x.key)) s.forgotten (s.forgotten ++ x.key ∷ [])) noted.new
          ∙ ap₂ (λ (b c : Bool). cond (b || c) s.forgotten (s.forgotten ++ x.key ∷ [])) noted.few noted.short

      for_it : (q : Turn) → q ≡ roomed → IsBounded q.cache → IsAmidRead number p.cache.lives s.next_instance l peers shelf q t
      for_it q is_q bounded =
          subst (λ (r : Turn). IsAmidRead number p.cache.lives s.next_instance l peers shelf r t) (sym all)
          (stands (without_instance i m1) t (s.forgotten ++ x.key ∷ []) (enters_for s key e x alone is full next shows.may.few) (subst (λ (j : Memory). ShowsCache after j t) way cache_then) lives_then outdated_then (left_there m m1 i there_then)
          (subst (λ (r : Turn). IsBounded r.cache) all bounded))
        where
          all : q ≡ beside p (without_instance i m1) (s.forgotten ++ x.key ∷ [])
          all = is_q ∙ leaves ∙ ap (λ (keys : List Bytes). beside p (without_instance i m1) keys) noted_so

    by_row : (full : nat_lt (rows s) 1024 ≡ false) → HasWay s → (q : Turn) → q ≡ roomed → IsBounded q.cache → IsAmidRead number p.cache.lives s.next_instance l peers shelf q t
    by_row full way q is_q bounded = by (find (is_idle (busy_rows p.flow)) m.instances) refl (subst (λ (o : Option Known). AreBoth (ShowsInstance number m s) (find (is_idle (busy_rows p.flow)) m.instances) o) way.idle (idle_rows_of number m s table (busy_rows p.flow) busy))
      where
        by : (o : Option Instance) → find (is_idle (busy_rows p.flow)) m.instances ≡ o → AreBoth (ShowsInstance number m s) o (Some way.row) → IsAmidRead number p.cache.lives s.next_instance l peers shelf q t
        by None here both = absurd both
        by (Some i) here both = for_it i way.row full here way.idle both way.may q is_q bounded

    comes_in : MayMakeRoom s → (q : Turn) → q ≡ roomed → IsBounded q.cache → IsAmidRead number p.cache.lives s.next_instance l peers shelf q t
    comes_in room q is_q bounded = by (nat_lt (rows s) 1024) refl
      where
        by : (b : Bool) → nat_lt (rows s) 1024 ≡ b → IsAmidRead number p.cache.lives s.next_instance l peers shelf q t
        by true few = in_room few q is_q bounded
        by false full = by_row full (room full) q is_q bounded

  -- ---- nothing comes in

  few_now : nat_lt 1024 (count_by is_row m.instances) ≡ false
  few_now = ap (λ (n : ℕ). nat_lt 1024 n) (room_of number m s table) ∙ none_over (rows s) shows.may.few
    where
      none_over : (n : ℕ) → n ≤ 1024 → nat_lt 1024 n ≡ false
      none_over n few = grind (arith, nat_tests)

  -- the law has nothing of whether this life went astray
  astray_shows : (b : Bool) → ShowsRead number l peers shelf (record p { is_astray = b }) s
  astray_shows b = record {
    turn = record {
      steps = record { shows = shows.turn.steps.shows; order = shows.turn.steps.order; told = shows.turn.steps.told; refused = shows.turn.steps.refused };
      name = shows.turn.name;
      shares = shows.turn.shares;
      clock = shows.turn.clock;
      ticked = shows.turn.ticked;
      stopped = shows.turn.stopped;
      bounded = shows.turn.bounded;
    };
    disk = shows.disk;
    may = record { few = shows.may.few; busy = shows.may.busy; given = shows.may.given };
    forgotten = shows.forgotten;
  }

  nothing : (b : Bool) (key : Bytes) (q r : Turn) → r ≡ record p { is_astray = b } → q ≡ with_room_if_over r → kept_alone key shelf m ≡ None → IsAmidRead number p.cache.lives s.next_instance l peers shelf q (enter key true s)
  nothing b key q r same is_q none =
      subst (λ (u : State). IsAmidRead number p.cache.lives s.next_instance l peers shelf q u) (sym (law (row s key) refl)) (subst (λ (y : Turn). IsAmidRead number p.cache.lives s.next_instance l peers shelf y s) (sym all) (record { number = number; keeps = numbers_stay number m.lives m.lives s.next_instance refl; grows = le_refl s.next_instance; shows = astray_shows b }))
    where
      all : q ≡ record p { is_astray = b }
      all =
          is_q ∙ ap (λ (y : Turn). with_room_if_over y) same
          ∙ ap (λ (c : Bool). elim c as (λ d. Turn) [ true ↦ with_room (record p { is_astray = b }) | false ↦ record p { is_astray = b } ]) few_now

      none_by : (o : Option Entry) → AreBoth IsKeptAs None o → o ≡ None
      none_by None both = refl
      none_by (Some e) both = absurd both

      on_disk : row s key ≡ None → row_on_disk s key ≡ None
      on_disk lost = none_by (row_on_disk s key) (subst (λ (o : Option Kept). AreBoth IsKeptAs o (row_on_disk s key)) (sym (alone_is lost) ∙ none) (shows.disk key))
        where
          alone_is : row s key ≡ None → kept_alone key shelf m ≡ (elim (list_any (bytes_eq (name_of key)) m.outdated) as (λ c. Option Kept) [ true ↦ None | false ↦ kept_in_store key shelf ])
          alone_is lost = ap (λ (o : Option Instance). elim (is_some o || list_any (bytes_eq (name_of key)) m.outdated) as (λ c. Option Kept) [ true ↦ None | false ↦ kept_in_store key shelf ]) (no_row number m s key table lost)

      law : (o : Option Known) → row s key ≡ o → enter key true s ≡ s
      law (Some x) is = stays_with s key x is
      law None is = stays_without s key is (on_disk is)

  -- ---- by what is kept

  alone_if : (key : Bytes) (kept : Kept) → kept_alone key shelf m ≡ Some kept → row s key ≡ None
  alone_if key kept is = by (row_of key m.instances) (row s key) refl (rows_of number m s table key)
    where
      by : (o : Option Instance) (u : Option Known) → row_of key m.instances ≡ o → AreBoth (ShowsInstance number m s) o u → u ≡ None
      by None None at both = refl
      by None (Some x) at both = absurd both
      by (Some i) None at both = absurd both
      by (Some i) (Some x) at both =
          absurd (none_some (sym (ap (λ (o : Option Instance). elim (is_some o || list_any (bytes_eq (name_of key)) m.outdated) as (λ c. Option Kept) [ true ↦ None | false ↦ kept_in_store key shelf ]) at) ∙ is))

  by_comes : (key : Bytes) (q r : Turn) → MayMakeRoom s → Comes shelf key p r → q ≡ with_room_if_over r → IsBounded q.cache → IsAmidRead number p.cache.lives s.next_instance l peers shelf q (enter key true s)
  by_comes key q r room comes is_q bounded = by (kept_alone key shelf m) refl comes.cache
    where
      mid_is : r ≡ record p { cache = r.cache }
      mid_is = ap (λ (y : Turn). let z : Turn = record y { cache = r.cache } in z) comes.rest

      some : (kept : Kept) (o : Option Entry) → row s key ≡ None → row_on_disk s key ≡ o → AreBoth IsKeptAs (Some kept) o → Enters key kept m r.cache → IsAmidRead number p.cache.lives s.next_instance l peers shelf q (enter key true s)
      some kept None alone is both enters = absurd both
      some kept (Some e) alone is both enters = comes_in key r.cache kept e enters alone is both room q (is_q ∙ ap (λ (y : Turn). with_room_if_over y) mid_is) bounded

      by : (o : Option Kept) → kept_alone key shelf m ≡ o → IsBrought key o m r.cache → IsAmidRead number p.cache.lives s.next_instance l peers shelf q (enter key true s)
      by None is same = nothing p.is_astray key q r (mid_is ∙ ap (λ (k : Memory). let z : Turn = record p { cache = k } in z) same) is_q is
      by (Some kept) is enters =
          let alone : row s key ≡ None = alone_if key kept is in
          let same : kept_alone key shelf m ≡ (elim (list_any (bytes_eq (name_of key)) m.outdated) as (λ c. Option Kept) [ true ↦ None | false ↦ kept_in_store key shelf ]) =
          ap (λ (o : Option Instance). elim (is_some o || list_any (bytes_eq (name_of key)) m.outdated) as (λ c. Option Kept) [ true ↦ None | false ↦ kept_in_store key shelf ]) (no_row number m s key table alone) in
          some kept (row_on_disk s key) alone refl (subst (λ (o : Option Kept). AreBoth IsKeptAs o (row_on_disk s key)) (sym same ∙ is) (shows.disk key)) enters

pub come_in : RowsComeInWithRoom
come_in number l peers shelf key p q s shows room it given bounded = by it.comes given
  where
    by : (comes : MayCome shelf key p it.entered) → IsGivenRow shelf key p it.entered comes → IsAmidRead number p.cache.lives s.next_instance l peers shelf q (enter key true s)
    by (inl comes) given = by_comes number l peers shelf p s shows key q it.entered room comes it.room bounded
    by (inr stays) none = nothing number l peers shelf p s shows true key q it.entered stays it.room none

pub brought : RowsAreBroughtAsTheLaws
unfolding bring_row
brought number l peers shelf p q s n x e head shows room here shown readable it given bounded =
    subst (λ (b : Bool). IsAmidRead number p.cache.lives s.next_instance l peers shelf q (elim b as (λ c. State) [ true ↦ enter (its_key e) true s | false ↦ s ])) (sym readable)
    (by (key_of n p.flow) (ap (λ (o : Option Asking). option_map (λ (y : Asking). y.key.items) o) here) it given)
  where
    by : (o : Option Bytes) → o ≡ Some x.key.items → (it : HasRowFor shelf o p q) → IsGivenFor shelf o p q it → IsAmidRead number p.cache.lives s.next_instance l peers shelf q (enter (its_key e) true s)
    by None is it given = absurd (none_some is)
    by (Some text) is it given =
        subst (λ (key : Bytes). IsAmidRead number p.cache.lives s.next_instance l peers shelf q (enter key true s)) (some_same text x.key.items is ∙ shown.text_key)
        (come_in number l peers shelf text p q s shows room it given bounded)
      where
        some_same : (a b : Bytes) → Some a ≡ Some b → a ≡ b
        some_same a b e = cc
