-- Where decisions begin, clients and exchanges have at most 768 names; and so many and those of all rows may be noted behind the wait.
use Rattle.std.proofs.Common.{◌≡◌, ◌≤◌, ◌<◌, ◌+◌, ◌*◌, ◌⊎◌, inl, inr, refl, sym, subst, ap, ◌∙◌, ℕ, zero, suc, Bool, true, false, not, ◌||◌, cond, filter, find, flat_map, is_some, length, length-append, map, List, [], ◌∷◌, ◌++◌, Option, Some, None, option_map, le_refl, arith}
use Rattle.std.proofs.lemmas.Slice.Eq.{bytes_eq-Decides}
use Rattle.std.specs.List.{list_any}
use Rattle.std.specs.Prelude.{bytes_eq, count_by, slice_get}
use Rattle.pp_cache.specs.Memory.{Memory}
use Rattle.pp_cache_law.proofs.Alike.{room_of}
use Rattle.pp_cache_law.proofs.Numbers.{some_is}
use Rattle.pp_cache_law.proofs.PairLemmas.{count_first}
use Rattle.pp_cache_law.specs.Pairs.{AreAll}
use Rattle.pp_turns_law.proofs.Keyed.{keys_same}
use Rattle.pp_desk.specs.declared.desk.Desk.{Desk}
use Rattle.pp_flow.specs.declared.entry.Entry.{Entry}
use Rattle.pp_flow_law.proofs.Told.{counts}
use Rattle.pp_flow_law.specs.Tables.{has_none, has_place, none_leaves}
use Rattle.pp_law.specs.Closing.{is_over}
use Rattle.pp_law.specs.Connections.{is_client}
use Rattle.pp_law.specs.Lists.{Bytes}
use Rattle.pp_law.specs.Requests.{key_in}
use Rattle.pp_law.specs.State.{State, Client, Conn, Deciding, Exchange, Phase, Term}
use Rattle.pp_law.specs.Table.{rows}
use Rattle.pp_laws.proofs.Lists.{in_filter}
use Rattle.pp_laws.proofs.Sound.{exchange_number}
use Rattle.pp_laws.specs.Runs.{IsIn}
use Rattle.pp_laws_bounds.proofs.Pigeons.{pigeons, rise_differ}
use Rattle.pp_laws_coming.proofs.Laws.{asks_told}
use Rattle.pp_laws_coming.specs.Coming.{IsTold, IsToldOn, is_behind_evicting}
use Rattle.pp_laws_turn.proofs.Laws.{sound_turns}
use Rattle.pp_laws_turn.specs.SoundTurn.{HasAsker, IsInLine, IsSoundTurn}
use Rattle.pp_objects.specs.Instances.{is_row}
use Rattle.pp_obeys.specs.Obeys.{Obeys}
use Rattle.pp_peers.specs.declared.peers.Peer.{Peer}
use Rattle.pp_seats.specs.Heads.{asked_in, owned_in}
use Rattle.pp_seats.specs.declared.key.Key.{Key as OwnedKey}
use Rattle.pp_seats.specs.declared.seat.Seat.{Seat}
use Rattle.pp_seats_law.specs.Clients.{AreShown}
use Rattle.pp_seats_law.specs.Exchanges.{ShowsExchange}
use Rattle.pp_seats_law.specs.Seats.{ShowsOpen, ShowsSeat}
use Rattle.pp_state.specs.Ends.{parts}
use Rattle.pp_state.specs.declared.state.State.{State as Turn}
use Rattle.pp_stays_law.specs.Names.{AllAskAmong, AsksAmong, is_among, is_unnoted}
use Rattle.pp_target.specs.Key.{Key, text_of}
use Rattle.pp_target.specs.Name.{name_of}
use Rattle.pp_turns_law.proofs.Wanted.{same_length}
use Rattle.pp_turns_law.specs.Rows.{AreReady}
use Rattle.pp_turns_law.specs.Turns.{ShowsTurn}
use Rattle.pp_world.specs.Log.{Log}
use Rattle.pp_given_law.specs.MayNote.{NamesAreFew, NamesAreFewAtFirst, NobodyHasNames, RowsMayBeNoted, most_names}

-- ---- names

among_first : (name : List ℕ) (xs ys : List (List ℕ)) → is_among xs name ≡ true → is_among (xs ++ ys) name ≡ true
among_first name [] ys is = absurd (cc is)
among_first name (x ∷ xs) ys is = by (bytes_eq name x) is (λ rest. among_first name xs ys rest)
  where
    by : (b : Bool) → (b || is_among xs name) ≡ true → (is_among xs name ≡ true → is_among (xs ++ ys) name ≡ true) → (b || is_among (xs ++ ys) name) ≡ true
    by true some rest = refl
    by false some rest = rest some

among_second : (name : List ℕ) (xs ys : List (List ℕ)) → is_among ys name ≡ true → is_among (xs ++ ys) name ≡ true
among_second name [] ys is = is
among_second name (x ∷ xs) ys is = ap (λ (b : Bool). bytes_eq name x || b) (among_second name xs ys is) ∙ by (bytes_eq name x)
  where
    by : (b : Bool) → (b || true) ≡ true
    by true = refl
    by false = refl

-- the name of each is there
mapped_among : {A : Type 0} (f : A → List ℕ) (xs : List A) (i : ℕ) (x : A) → slice_get xs i ≡ Some x → is_among (map f xs) (f x) ≡ true
mapped_among f [] i x here = absurd (cc here)
mapped_among f (y ∷ xs) zero x here = ap (λ (b : Bool). b || is_among (map f xs) (f x)) ((bytes_eq-Decides (f x) (f y)).1 (ap f (sym (some_is y x here))))
mapped_among f (y ∷ xs) (suc i) x here = among_second (f x) (f y ∷ []) (map f xs) (mapped_among f xs i x here)

all_among : (names : List (List ℕ)) (xs : List Entry) → ((i : ℕ) (x : Entry) → slice_get xs i ≡ Some x → is_among names (name_of x.key.items) ≡ true) → AllAskAmong names xs
all_among names [] each = tt
all_among names (x ∷ xs) each = (each 0 x refl, all_among names xs (λ i y here. each (suc i) y here))

abbrev named_by : Option OwnedKey → List ℕ
named_by None = []
named_by (Some key) = name_of key.text.items

abbrev seat_name : Seat → List ℕ
seat_name seat = named_by (owned_in (asked_in seat.front))

abbrev entry_name : Entry → List ℕ
entry_name x = name_of x.key.items

-- of clients, and of exchanges that have a place
abbrev few_names : Turn → List (List ℕ)
few_names p = map seat_name p.seats.items ++ map entry_name p.flow.placed

-- ---- lists

map_length : {A : Type 0} (f : A → List ℕ) (xs : List A) → length (map f xs) ≡ length xs
map_length f [] = refl
map_length f (x ∷ xs) = ap (λ (n : ℕ). suc n) (map_length f xs)

count_most : (test : List ℕ → Bool) (xs : List (List ℕ)) → count_by test xs ≤ length xs
count_most test [] = omega arith
count_most test (x ∷ xs) = omega (arith, count_first test x xs, one (test x), count_most test xs)
  where
    one : (b : Bool) → cond b 1 0 ≤ 1
    one true = omega arith
    one false = omega arith

record Pair {A B : Type 0} (R : A → B → Type 0) (x : A) (ys : List B) : Type 0 where
  other : B
  within : IsIn other ys
  belongs : R x other

pair_of : {A B : Type 0} (R : A → B → Type 0) (xs : List A) (ys : List B) (i : ℕ) (x : A) → AreAll R xs ys → slice_get xs i ≡ Some x → Pair R x ys
pair_of R [] ys i x all here = absurd (cc here)
pair_of R (a ∷ xs) [] i x all here = absurd all
pair_of R (a ∷ xs) (b ∷ ys) zero x all here = record { other = b; within = inl refl; belongs = subst (λ z. R z b) (some_is a x here) all.0 }
pair_of R (a ∷ xs) (b ∷ ys) (suc i) x all here = let rest = pair_of R xs ys i x all.1 here in record { other = rest.other; within = inr rest.within; belongs = rest.belongs }

pairs_long : {A B : Type 0} (R : A → B → Type 0) (xs : List A) (ys : List B) → AreAll R xs ys → length xs ≡ length ys
pairs_long R [] [] all = refl
pairs_long R [] (b ∷ ys) all = absurd all
pairs_long R (a ∷ xs) [] all = absurd all
pairs_long R (a ∷ xs) (b ∷ ys) all = ap (λ (n : ℕ). suc n) (pairs_long R xs ys all.1)

none_is : (test : Exchange → Bool) (es : List Exchange) (e : Exchange) → list_any test es ≡ false → IsIn e es → test e ≡ false
none_is test [] e none i = absurd i
none_is test (x ∷ es) e none i = by (test x) refl i none (none_is test es e)
  where
    by : (b : Bool) → test x ≡ b → (e ≡ x) ⊎ IsIn e es → (b || list_any test es) ≡ false → (list_any test es ≡ false → IsIn e es → test e ≡ false) → test e ≡ false
    by true is at off rest = absurd (cc off)
    by false is (inl same) off rest = ap test same ∙ is
    by false is (inr later) off rest = rest off later

-- those with one, and those without
both_kinds : (es : List Exchange) → length es ≡ length (filter has_place es) + length (filter has_none es)
both_kinds [] = refl
both_kinds (e ∷ es) = by (is_some e.place) (both_kinds es)
  where
    by : (b : Bool) → length es ≡ length (filter has_place es) + length (filter has_none es) → suc (length es) ≡ length (cond b (e ∷ filter has_place es) (filter has_place es)) + length (cond (not b) (e ∷ filter has_none es) (filter has_none es))
    by true is = omega (arith, is)
    by false is = omega (arith, is)

-- ---- at most 512 have a place: 64 lines of 8

in_front_of : (n : ℕ) (ns ms : List ℕ) → IsIn n ns → IsIn n (ns ++ ms)
in_front_of n [] ms i = absurd i
in_front_of n (m ∷ ns) ms (inl e) = inl e
in_front_of n (m ∷ ns) ms (inr i) = inr (in_front_of n ns ms i)

in_back_of : (n : ℕ) (ns ms : List ℕ) → IsIn n ms → IsIn n (ns ++ ms)
in_back_of n [] ms i = i
in_back_of n (m ∷ ns) ms i = inr (in_back_of n ns ms i)

abbrev all_lines : List Conn → List ℕ
all_lines ks = flat_map (λ (k : Conn). k.line) ks

in_lines : (n : ℕ) (k : Conn) (ks : List Conn) → IsIn k ks → IsIn n k.line → IsIn n (all_lines ks)
in_lines n k [] i l = absurd i
in_lines n k (j ∷ ks) (inl e) l = in_front_of n j.line (all_lines ks) (subst (λ (x : Conn). IsIn n x.line) e l)
in_lines n k (j ∷ ks) (inr i) l = in_back_of n j.line (all_lines ks) (in_lines n k ks i l)

lines_long : (ks : List Conn) → ((k : Conn) → IsIn k ks → length k.line ≤ 8) → length (all_lines ks) ≤ 8 * length ks
lines_long [] short = le_refl 0
lines_long (k ∷ ks) short = omega (arith, length-append k.line (all_lines ks), short k (inl refl), lines_long ks (λ j i. short j (inr i)))

-- ---- of the law's state

module _ (terms : List Term) (s : State) (log : Log) (obeys : Obeys terms s log) where
  sound : IsSoundTurn s
  sound = sound_turns terms s log obeys

  told : IsToldOn s
  told = asks_told terms s log obeys

  placed_there : s.is_stopped ≡ false → (e : Exchange) → IsIn e s.exchanges → has_place e ≡ true → IsIn e.number (all_lines s.conns)
  placed_there going e i is = by e.place refl is
    where
      by : (o : Option ℕ) → e.place ≡ o → is_some o ≡ true → IsIn e.number (all_lines s.conns)
      by None none some = absurd (cc some)
      by (Some n) at some = let its : IsInLine s e n = sound.lined e n going i at in in_lines e.number its.place s.conns its.there its.here

  few_placed : s.is_stopped ≡ false → length (filter has_place s.exchanges) ≤ 512
  few_placed going =
      omega (
        arith,
        pigeons exchange_number (λ (n : ℕ). Some n) has_place s.exchanges (all_lines s.conns) (rise_differ (map exchange_number s.exchanges) sound.numbers.exchanges_rise) (λ e i is. (e.number, placed_there going e i is, refl)),
        lines_long s.conns sound.bounded.lines,
        sound.bounded.conns,
      )

  -- ---- one without a place is that of a client that goes on, and of the key of its request

  record IsAskedFor (e : Exchange) : Type 0 where
    n : ℕ
    asker : Client
    there : find (is_client n) s.clients ≡ Some asker
    going : asker.is_closing ≡ false
    key : key_in asker.front ≡ Some e.key

  nowhere : (e : Exchange) → has_none e ≡ true → e.place ≡ None
  nowhere e is = by e.place refl is
    where
      by : (o : Option ℕ) → e.place ≡ o → not (is_some o) ≡ true → o ≡ None
      by None at none = refl
      by (Some k) at none = absurd (cc none)

  asked_for : s.phase ≡ Deciding → (e : Exchange) → IsIn e s.exchanges → has_none e ≡ true → IsAskedFor e
  asked_for at e i none = by e.asker refl (none_is is_over s.exchanges e (told.going (ap (λ (p : Phase). is_behind_evicting p) at)) i)
    where
      by : (o : Option ℕ) → e.asker ≡ o → not (is_some o || is_some e.place) ≡ false → IsAskedFor e
      by None nobody over = let both : true ≡ false = sym (ap (λ (p : Option ℕ). not (is_some p)) (nowhere e none)) ∙ over in absurd (cc both)
      by (Some n) asks over =
          let its : HasAsker s e n = sound.askers e n i asks in
          let of_it : IsTold s e its.asker = told.told e n its.asker i asks its.there in
          record { n = n; asker = its.asker; there = its.there; going = its.going; key = of_it.key }

-- ---- its client is shown

record IsSeatOf (number : ℕ → ℕ) (name : Bytes) (seats : List Seat) (c : Client) : Type 0 where
  place : ℕ
  seat : Seat
  here : slice_get seats place ≡ Some seat
  shows : ShowsSeat number name [] seat c

seat_of : (number : ℕ → ℕ) (name : Bytes) (test : Client → Bool) (seats : List Seat) (cs : List Client) (c : Client) → AreShown number name [] seats cs → find test cs ≡ Some c → IsSeatOf number name seats c
seat_of number name test [] [] c shown there = absurd (cc there)
seat_of number name test [] (d ∷ cs) c shown there = absurd shown
seat_of number name test (seat ∷ seats) [] c shown there = absurd shown
seat_of number name test (seat ∷ seats) (d ∷ cs) c shown there = by (test d) there (seat_of number name test seats cs c shown.1)
  where
    by : (b : Bool) → cond b (Some d) (find test cs) ≡ Some c → (find test cs ≡ Some c → IsSeatOf number name seats c) → IsSeatOf number name (seat ∷ seats) c
    by true is rest = record { place = 0; seat = seat; here = refl; shows = subst (λ (x : Client). ShowsSeat number name [] seat x) (some_is d c is) shown.0 }
    by false is rest = let later : IsSeatOf number name seats c = rest is in record { place = suc later.place; seat = later.seat; here = later.here; shows = later.shows }

named_so : (o : Option OwnedKey) (text : Bytes) → Some text ≡ option_map (λ (k : OwnedKey). k.text.items) o → named_by o ≡ name_of text
named_so None text is = absurd (cc is)
named_so (Some key) text is = ap (λ (t : Bytes). name_of t) (sym (some_is text key.text.items is))

-- ---- all of it

module _ (terms : List Term) (log : Log) (number : ℕ → ℕ) (peers : List Peer) (p : Turn) (s : State) (obeys : Obeys terms s log) (at : s.phase ≡ Deciding) (going : s.is_stopped ≡ false) (shows : ShowsTurn number none_leaves peers p s) (ready : AreReady number p.cache s.next_instance p.seats.items) where
  seat_among : (i : ℕ) (seat : Seat) → slice_get p.seats.items i ≡ Some seat → AsksAmong (few_names p) seat
  seat_among i seat here key owned =
      among_first (name_of key.text.items) (map seat_name p.seats.items) (map entry_name p.flow.placed)
      (subst (λ (name : List ℕ). is_among (map seat_name p.seats.items) name ≡ true) (ap named_by owned) (mapped_among seat_name p.seats.items i seat here))

  placed_among : AllAskAmong (few_names p) p.flow.placed
  placed_among = all_among (few_names p) p.flow.placed (λ i x here. among_second (entry_name x) (map seat_name p.seats.items) (map entry_name p.flow.placed) (mapped_among entry_name p.flow.placed i x here))

  its_name : (x : Entry) (e : Exchange) → ShowsExchange number x e → IsIn e s.exchanges → has_none e ≡ true → is_among (few_names p) (entry_name x) ≡ true
  its_name x e shown i none =
      among_first (entry_name x) (map seat_name p.seats.items) (map entry_name p.flow.placed)
      (subst (λ (name : List ℕ). is_among (map seat_name p.seats.items) name ≡ true) same (mapped_among seat_name p.seats.items one.place one.seat one.here))
    where
      its : IsAskedFor terms s log obeys e
      its = asked_for terms s log obeys at e i none

      one : IsSeatOf number p.name.items p.seats.items its.asker
      one = seat_of number p.name.items (is_client its.n) p.seats.items s.clients its.asker shows.steps.shows.clients its.there

      live : ShowsOpen number p.name.items [] one.seat its.asker
      live = one.shows.going its.going

      keyed : Some (text_of e.key) ≡ option_map (λ (k : OwnedKey). k.text.items) (owned_in (asked_in one.seat.front))
      keyed = sym (ap (λ (o : Option Key). option_map text_of o) its.key) ∙ keys_same one.seat.front its.asker.front live.front (ready one.place one.seat one.here (one.shows.closing ∙ its.going)).key

      same : seat_name one.seat ≡ entry_name x
      same = named_so (owned_in (asked_in one.seat.front)) (text_of e.key) keyed ∙ ap (λ (t : Bytes). name_of t) (sym shown.text_key)

  waiting_among : AllAskAmong (few_names p) p.flow.waiting
  waiting_among = all_among (few_names p) p.flow.waiting (λ i x here.
      let its : Pair (ShowsExchange number) x (filter has_none s.exchanges) = pair_of (ShowsExchange number) p.flow.waiting (filter has_none s.exchanges) i x shows.steps.shows.exchanges.waiting here in
      let there = in_filter has_none its.other s.exchanges its.within in
      its_name x its.other its.belongs there.0 there.1)

  -- ---- so many

  few_seats : length p.seats.items ≤ 256
  few_seats = subst (λ (n : ℕ). n ≤ 256) (sym (same_length number p.name.items p.seats.items s.clients shows.steps.shows.clients)) (sound terms s log obeys).bounded.clients

  few_on : length p.flow.placed ≤ 512
  few_on =
      omega (
        arith,
        (counts number none_leaves p.flow s shows.steps.shows.exchanges).0,
        pairs_long (ShowsExchange number) p.flow.waiting (filter has_none s.exchanges) shows.steps.shows.exchanges.waiting,
        both_kinds s.exchanges,
        few_placed terms s log obeys going,
      )

  long : length (few_names p) ≤ 768
  long = omega (arith, length-append (map seat_name p.seats.items) (map entry_name p.flow.placed), map_length seat_name p.seats.items, map_length entry_name p.flow.placed, few_seats, few_on)

  pub few_there : p.cache.outdated ≡ [] → NamesAreFew most_names (parts p)
  few_there none = record {
    names = few_names p;
    seats = seat_among;
    waiting = waiting_among;
    placed = placed_among;
    few = subst (λ (noted : List (List ℕ)). length noted + count_by (is_unnoted noted) (few_names p) ≤ 768) (sym none) (fits (count_by (is_unnoted []) (few_names p)) (length (few_names p)) (count_most (is_unnoted []) (few_names p)) long);
  }
    where
      fits : (count all : ℕ) → count ≤ all → all ≤ 768 → 0 + count ≤ 768
      fits count all less most = omega (arith, less, most)

pub few_at_first : NamesAreFewAtFirst
few_at_first terms log number peers p s obeys at going shows ready none = few_there terms log number peers p s obeys at going shows ready none

-- ---- as a life begins

pub few_of_nobody : NobodyHasNames
few_of_nobody most p seats waiting placed none = record {
  names = [];
  seats = subst (λ (xs : List Seat). (i : ℕ) (seat : Seat) → slice_get xs i ≡ Some seat → AsksAmong [] seat) (sym seats) (λ i seat here. absurd (cc here));
  waiting = subst (λ (xs : List Entry). AllAskAmong [] xs) (sym waiting) tt;
  placed = subst (λ (xs : List Entry). AllAskAmong [] xs) (sym placed) tt;
  few = subst (λ (noted : List (List ℕ)). length noted + count_by (is_unnoted noted) [] ≤ most) (sym none) (omega arith);
}

-- ---- behind the wait

pub may_be_noted : RowsMayBeNoted
may_be_noted terms log number l before w clients d e f s few awaits rests obeys shows =
    subst (λ (m : Memory). length m.outdated + count_by is_row f.state.cache.instances < 2048) (sym same)
    (all (length d.state.cache.outdated) (count_by is_row f.state.cache.instances) (rows s) few (room_of number f.state.cache s shows.steps.shows.table.table) (sound_turns terms s log obeys).bounded.rows)
  where
    same : f.state.cache ≡ d.state.cache
    same = ap (λ (x : Desk). x.state.cache) rests.rest ∙ ap (λ (x : Desk). x.state.cache) awaits.rest

    all : (a c r : ℕ) → a ≤ 768 → c ≡ r → r ≤ 1024 → a + c < 2048
    all a c r few is most = omega (arith, few, is, most)
