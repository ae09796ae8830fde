-- An exchange is asked where the law asks it; on a line, it stands last there.
use Rattle.std.proofs.Common.{◌≡◌, ◌≤◌, ◌+◌, ◌-◌, ◌*◌, ◌<◌, refl, sym, subst, ap, ap₂, ◌∙◌, ℕ, Bool, true, false, not, ◌==◌, ◌&&◌, cond, nat_le, nat_lt, find, length, map, List, [], ◌∷◌, Option, Some, None, arith}
use Rattle.std.proofs.lemmas.Bool.Decides.{nat_tests}
use Rattle.std.proofs.lemmas.List.{length-append, length-drop}
use Rattle.std.specs.Prelude.{drop, is_some, option_map, unwrap_or}
use Rattle.pp_turns_law.proofs.Peers.{HasPeer, linked}
use Rattle.pp_turns_law.specs.Log.{AreLinked}
use Rattle.pp_flow.specs.Changes.{Exchanges, entry_of, placed_on, with_errand}
use Rattle.pp_flow.specs.Entries.{asking, is_number as is_entry, with_place}
use Rattle.pp_flow.specs.declared.entry.Entry.{Entry}
use Rattle.pp_flow_law.proofs.Entries.{same_as}
use Rattle.pp_flow_law.specs.Tables.{ShowsFlow, none_leaves}
use Rattle.pp_law.specs.Connections.{conn, exchange, limits, on_conn, on_exchange, open_conns, place_for, put_on, with_load}
use Rattle.pp_law.specs.Lists.{Bytes}
use Rattle.pp_law.specs.Requests.{goes_alone}
use Rattle.pp_law.specs.Responses.{asks_head}
use Rattle.pp_law.specs.State.{State, Conn, Exchange}
use Rattle.pp_laws_bounds.proofs.Places.{HasRoom, on_room}
use Rattle.pp_peers.specs.Peers.{Loaded, is_number, with_load as with_load_in, with_pipe}
use Rattle.pp_peers.specs.Placing.{place}
use Rattle.pp_peers.specs.Searches.{count_of, is_any, is_of, lowest_idle}
use Rattle.pp_peers.specs.declared.peers.Peer.{Peer}
use Rattle.pp_peers.specs.declared.placing.Limits.{Limits}
use Rattle.pp_peers.specs.declared.placing.Placed.TheVariants.{On, Dial, CloseThenDial, Wait}
use Rattle.pp_peers_law.proofs.Loads.{loads, places as peer_places}
use Rattle.pp_peers_law.specs.Peers.{ShowsConn, ShowsPipe, rest_of, rests_of}
use Rattle.pp_pipe.specs.Line.{pushed, pushed_where}
use Rattle.pp_places.specs.Around.{Around, with_sides}
use Rattle.pp_places.specs.Placing.{is_put, place_at, place_of, put_last, put_on as put_in_turn, put_text, put_text_where, takes, takes_on, text_on}
use Rattle.pp_seats_law.proofs.Entries.{exchanges}
use Rattle.pp_seats_law.specs.Exchanges.{ShowsExchange}
use Rattle.pp_desk.specs.Closings.{Sides}
use Rattle.pp_state.specs.declared.state.State.{State as Turn}
use Rattle.pp_states_law.proofs.PutOn.{puts as state_puts}
use Rattle.pp_states_law.specs.Decisions.{AreApart}
use Rattle.pp_states_law.specs.Puts.{IsPut}
use Rattle.pp_states_law.specs.States.{Parts as Whole, ShowsState}
use Rattle.pp_states_law.specs.Steps.{ShowsSteps, whole}
use Rattle.pp_states_law.specs.Told.{AreTold}
use Rattle.pp_target.specs.Key.{Key}
use Rattle.pp_places_law.proofs.Entries.{HasEntry, askable_found, askable_last, askable_put, askable_without, host_is, is_put_at, put_at, put_last_is, short_texts, told_put, waits}
use Rattle.pp_places_law.proofs.Fits.{put_may}
use Rattle.pp_places_law.proofs.Links.{length_piped, numbers_piped}
use Rattle.pp_places_law.proofs.Ways.{in_found, none_closes}
use Rattle.pp_places_law.specs.Around.{AreAskable, IsAskable, ShowsAround}
use Rattle.pp_places_law.specs.Places.{IsUnplaced, PlacesAreTheLaws, PutsAreTheLaws}

-- ---- where it is asked

pub places : PlacesAreTheLaws
places number p x s shows may e un =
    let one : HasEntry number x.sides.parts.flow e = waits number none_leaves x.sides.parts.flow s e shows.turn.steps.shows.exchanges un in
    let ask : IsAskable one.entry = askable_found (is_entry e.number) x.sides.parts.flow.waiting one.entry one.here shows.waiting in
    ap (λ (o : Option Entry). place_of p.limits o x.sides.peers) one.known
    ∙ ap (λ (o : Option Bytes). place_at p.limits one.entry o x.sides.peers) (host_is number one.entry e one.shows ask)
    ∙ ap (λ (b : Bool). place p.limits e.key.host one.entry.errand.place.port b (map with_load_in x.sides.peers)) (exchanges number one.entry e one.shows).alone
    ∙ ap (λ (port : ℕ). place p.limits e.key.host port (goes_alone e.head) (map with_load_in x.sides.peers)) (ap (λ (key : Key). key.port) one.shows.parts)
    ∙ ap (λ (l : Limits). place l e.key.host e.key.port (goes_alone e.head) (map with_load_in x.sides.peers)) shows.limits
    ∙ peer_places s x.sides.peers e shows.turn.steps.shows.conns (none_closes s may)

-- ---- one that goes alone is put on no line

way_isnt : (o : Option ℕ) (k : ℕ) → unwrap_or (option_map CloseThenDial o) Wait ≡ On k → ⊥
way_isnt None k is = absurd (cc is)
way_isnt (Some n) k is = absurd (cc is)

new_isnt : (b c : Bool) (u v : Option ℕ) (k : ℕ) → unwrap_or (cond b (cond c (Some Dial) (option_map CloseThenDial u)) (option_map CloseThenDial v)) Wait ≡ On k → ⊥
new_isnt true true u v k is = absurd (cc is)
new_isnt true false u v k is = way_isnt u k is
new_isnt false c u v k is = way_isnt v k is

abbrev peers_of : State → List Loaded
peers_of s = map (with_load s) (open_conns s)

not_alone : (s : State) (e : Exchange) (k : ℕ) → place_for s e ≡ On k → goes_alone e.head ≡ false
not_alone s e k is = by (goes_alone e.head) refl
  where
    by : (b : Bool) → goes_alone e.head ≡ b → b ≡ false
    by false so = refl
    by true so =
        absurd
        (new_isnt (nat_lt (count_of (is_of e.key.host e.key.port) (peers_of s)) s.settings.host_connections) (nat_lt (length (peers_of s)) 64) (lowest_idle is_any (peers_of s)) (lowest_idle (is_of e.key.host e.key.port) (peers_of s)) k
        (sym (ap (λ (b : Bool). place (limits s) e.key.host e.key.port b (peers_of s)) so) ∙ is))

-- ---- there is room for it

rest_short : (s : State) (n : ℕ) → ((m : ℕ) (d : Exchange) → exchange s m ≡ Some d → length d.text ≤ 16384) → length (rest_of s n) ≤ 16384
rest_short s n short = by (exchange s n) refl
  where
    by : (o : Option Exchange) → exchange s n ≡ o → length (elim o as (λ t. Bytes) [ None ↦ [] | Some d ↦ drop d.asked d.text ]) ≤ 16384
    by None is = omega arith
    by (Some d) is = omega (arith, short n d is, length-drop d.asked d.text)

rests_short : (s : State) (line : List ℕ) → ((m : ℕ) (d : Exchange) → exchange s m ≡ Some d → length d.text ≤ 16384) → length (rests_of s line) ≤ 16384 * length line
rests_short s [] short = omega arith
rests_short s (n ∷ line) short = omega (arith, rest_short s n short, rests_short s line short, length-append (rest_of s n) (rests_of s line))

has_room : (len out asks line : ℕ) → len ≤ 16384 → out ≤ 16384 * line → asks ≡ line → line < 8 → (nat_le len (131072 - out) && not (asks == 8)) ≡ true
has_room len out asks line short few same less = ap₂ (λ (b c : Bool). b && not c) (le len (131072 - out) (omega (arith, short, few, less))) (isnt asks (omega (arith, same, less)))
  where
    le : (m n : ℕ) → m ≤ n → nat_le m n ≡ true
    le m n is = grind (arith, nat_tests)

    isnt : (m : ℕ) → m < 8 → (m == 8) ≡ false
    isnt m is = grind (arith, nat_tests)

taken : (number : ℕ → ℕ) (p : Turn) (x : Around) (s : State) (len : ℕ) (peer : Peer) (k : Conn) → ShowsAround number p x s → len ≤ 16384 → ShowsConn s peer k → k.is_closing ≡ false → length k.line < 8 → takes len peer.pipe ≡ true
taken number p x s len peer k shows short shown goes few =
    let pipe : ShowsPipe s peer k = shown.pipe goes in
    has_room len (length peer.pipe.out) (length peer.pipe.asks) (length k.line) short
    (subst (λ (out : Bytes). length out ≤ 16384 * length k.line) (sym pipe.out)
    (rests_short s k.line (short_texts number none_leaves x.sides.parts.flow s shows.turn.steps.shows.exchanges shows.waiting shows.placed)))
    (ap (λ (l : Loaded). l.load.asks) (loads s peer k shown goes)) few

-- ---- it is put there

abbrev put_sides : ℕ → ℕ → Entry → Peer → Sides → Sides
put_sides n k y peer x = record {
  parts = record x.parts { flow = with_errand n (record y.errand { asked = 0 }) (placed_on k n x.parts.flow) };
  peers = with_pipe k (pushed y.text.items y.errand.asks_head peer.pipe) x.peers;
}

abbrev by_sides : Sides → Exchanges → List Peer → Sides
by_sides x f peers = record { parts = record x.parts { flow = f }; peers = peers }

-- what the program makes of both sides
same_put : (number : ℕ → ℕ) (x : Sides) (s : State) (n k : ℕ) (y : Entry) (peer : Peer) → ShowsFlow number none_leaves x.parts.flow s → find (is_entry n) x.parts.flow.waiting ≡ Some y → entry_of n x.parts.flow ≡ Some y
    → find (is_number k) x.peers ≡ Some peer → takes (length y.text.items) peer.pipe ≡ true → put_in_turn n k x ≡ put_sides n k y peer x
same_put number x s n k y peer shows here known there room =
    ap (λ (o : Option Entry). by_sides x (put_last (is_put n k o x.parts.flow x.peers) n k x.parts.flow) (put_text n k o x.parts.flow x.peers)) known
    ∙ ap (λ (o : Option Entry). by_sides x (put_last (is_some o && takes_on (length y.text.items) (find (is_number k) x.peers)) n k x.parts.flow) (put_text_where (is_some o) k y x.peers)) here
    ∙ ap (λ (o : Option Peer). by_sides x (put_last (takes_on (length y.text.items) o) n k x.parts.flow) (text_on k y.text.items y.errand.asks_head o x.peers)) there
    ∙ ap (λ (b : Bool). by_sides x (put_last b n k x.parts.flow) (with_pipe k (pushed_where b y.text.items y.errand.asks_head peer.pipe) x.peers)) room
    ∙ ap (λ (f : Exchanges). by_sides x f (with_pipe k (pushed y.text.items y.errand.asks_head peer.pipe) x.peers)) (put_last_is number none_leaves x.parts.flow s shows n k y here)

-- where it stands, in the turn and in the law
record Stands (number : ℕ → ℕ) (x : Sides) (s : State) (e : Exchange) (y : Entry) (peer : Peer) (c : Conn) : Type 0 where
  put : IsPut (whole x.parts x.peers) s y e peer c
  known : entry_of e.number x.parts.flow ≡ Some y
  shows : ShowsExchange number y e
  ask : IsAskable y

abbrev asked_by : Sides → ℕ → ℕ → Entry → Peer → Bytes → Bool → Whole
asked_by x n k y peer text head = record (whole x.parts x.peers) {
  flow = with_errand n (record y.errand { asked = 0 }) (placed_on k n x.parts.flow);
  peers = with_pipe k (pushed text head peer.pipe) x.peers;
}

put_steps : (number : ℕ → ℕ) (name : Bytes) (x : Sides) (s : State) (e : Exchange) (y : Entry) (peer : Peer) (c : Conn) → ShowsSteps number name none_leaves x.peers x.parts s → AreApart s → Stands number x s e y peer c
    → ShowsSteps number name none_leaves (put_sides e.number c.number y peer x).peers (put_sides e.number c.number y peer x).parts (put_on e.number c.number s)
unfolding put_on on_conn on_exchange
put_steps number name x s e y peer c steps apart stands = record {
  shows =
      subst (λ (b : Bool). ShowsState number name [] none_leaves (asked_by x e.number c.number y peer y.text.items b) (put_on e.number c.number s)) (sym stands.shows.asks_head)
      (subst (λ (text : Bytes). ShowsState number name [] none_leaves (asked_by x e.number c.number y peer text (asks_head e)) (put_on e.number c.number s)) (sym stands.shows.text)
      (state_puts number name [] none_leaves (whole x.parts x.peers) s steps.shows y e peer c apart stands.put));
  order = steps.order;
  told =
      subst (λ (f : Exchanges). AreTold number x.parts.cache s.next_instance f) (sym (is_put_at number none_leaves x.parts.flow s steps.shows.exchanges e.number c.number y stands.put.waits))
      (told_put number x.parts.cache s.next_instance e.number c.number x.parts.flow y steps.told stands.known);
  refused = steps.refused;
}

put_around : (number : ℕ → ℕ) (p : Turn) (x : Around) (s : State) (e : Exchange) (y : Entry) (peer : Peer) (c : Conn) → ShowsAround number p x s → AreApart s → Stands number x.sides s e y peer c
    → ShowsAround number p (record x { sides = put_sides e.number c.number y peer x.sides }) (put_on e.number c.number s)
unfolding put_on on_conn on_exchange
put_around number p x s e y peer c shows apart stands =
    let same : with_errand e.number (record y.errand { asked = 0 }) (placed_on c.number e.number x.sides.parts.flow) ≡ put_at e.number c.number y x.sides.parts.flow =
    is_put_at number none_leaves x.sides.parts.flow s shows.turn.steps.shows.exchanges e.number c.number y stands.put.waits in
    record {
      turn = record {
        steps = put_steps number p.name.items x.sides s e y peer c shows.turn.steps apart stands;
        name = shows.turn.name;
        shares = shows.turn.shares;
        clock = shows.turn.clock;
        ticked = shows.turn.ticked;
        stopped = shows.turn.stopped;
        bounded = shows.turn.bounded;
      };
      limits = shows.limits;
      waiting = subst (λ (f : Exchanges). AreAskable f.waiting) (sym same) (askable_without e.number x.sides.parts.flow.waiting shows.waiting);
      placed = subst (λ (f : Exchanges). AreAskable f.placed) (sym same) (askable_last x.sides.parts.flow.placed (asking (record y.errand { asked = 0 }) (with_place (Some c.number) y)) shows.placed (askable_put c.number y stands.ask));
      linked = subst (λ (ns : List ℕ). AreLinked ns x.links) (sym (numbers_piped c.number (pushed y.text.items y.errand.asks_head peer.pipe) x.sides.peers)) shows.linked;
      given = shows.given;
      few = subst (λ (n : ℕ). length x.links ≤ 256 + n) (sym (length_piped c.number (pushed y.text.items y.errand.asks_head peer.pipe) x.sides.peers)) shows.few;
      top = shows.top;
    }

-- where a connection goes on that has room for it
pub put_there : (number : ℕ → ℕ) (p : Turn) (x : Around) (s : State) (e : Exchange) (c : Conn) → ShowsAround number p x s → AreApart s → IsUnplaced s e → conn s c.number ≡ Some c → c.is_closing ≡ false → length c.line < 8
    → (c.may_pipeline ≡ true → goes_alone e.head ≡ false) → ShowsAround number p (with_sides (put_in_turn e.number c.number) x) (put_on e.number c.number s)
put_there number p x s e c shows apart un there goes few with_others =
    let one : HasEntry number x.sides.parts.flow e = waits number none_leaves x.sides.parts.flow s e shows.turn.steps.shows.exchanges un in
    let ask : IsAskable one.entry = askable_found (is_entry e.number) x.sides.parts.flow.waiting one.entry one.here shows.waiting in
    let its : HasPeer s c.number x.sides.peers c = linked s c.number x.sides.peers s.conns c there shows.turn.steps.shows.conns in
    let stands : Stands number x.sides s e one.entry its.peer c = record {
      put = record { waits = one.here; known = un.there; with_others = with_others; linked = its.there; there = there; goes_on = goes };
      known = one.known;
      shows = one.shows;
      ask = ask;
    } in
    subst (λ (z : Sides). ShowsAround number p (record x { sides = z }) (put_on e.number c.number s))
    (sym (same_put number x.sides s e.number c.number one.entry its.peer shows.turn.steps.shows.exchanges one.here one.known its.there (taken number p x s (length one.entry.text.items) its.peer c shows ask.short its.shows goes few)))
    (put_around number p x s e one.entry its.peer c shows apart stands)

same_at : (c : Conn) (k : ℕ) (s : State) → c.number ≡ k → conn s k ≡ Some c → conn s c.number ≡ Some c
same_at c k s is there = ap (λ (i : ℕ). conn s i) is ∙ there

pub puts : PutsAreTheLaws
puts number p x s shows may e k un is =
    let room : HasRoom s k = on_room s e k is in
    let there : conn s k ≡ Some room.conn = in_found k s.conns room.conn room.there (same_as room.conn.number k room.number) (may.apart k) in (
      subst (λ (m : ℕ). ShowsAround number p (with_sides (put_in_turn e.number m) x) (put_on e.number m s)) room.number
          (put_there number p x s e room.conn shows may.apart un (same_at room.conn k s room.number there) room.is_open room.room (λ may_pipeline. not_alone s e k is)),
      put_may e.number k s may,
    )
